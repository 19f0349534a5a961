-- The line that tells of a request, and the names of faults. This project's own.
use Rattle.std.specs.Prelude.{ℕ, List, [], ◌∷◌, ◌++◌, codes, decimal}
use Rattle.std.specs.List.{flat_map}
use Rattle.global_ptr.specs.declared.values.Value.{Value}
use Rattle.global_ptr.specs.Texts.{value_text}
use Rattle.rsr_message.specs.declared.faults.MessageFault.{MessageFault}
use Rattle.rsr_message.specs.declared.faults.MessageFault.TheVariants.{Short, BadMagic, BadVersion, BadKind, BadCount, BadTag, Memory}
use Rattle.rsr_message.specs.declared.requests.Request.{Request}
use Rattle.rsr_message.specs.declared.requests.Body.{Body}
use Rattle.rsr_message.specs.declared.requests.Body.TheVariants.{Call, Get, Put, Make, Reply, Cast}

-- a comma, and the value behind it
abbrev pub next_value_text : Value → List ℕ
next_value_text value = codes ", " ++ value_text value

-- the values, with commas between them
abbrev pub values_text : List Value → List ℕ
values_text [] = []
values_text (value ∷ values) = value_text value ++ flat_map next_value_text values

-- the word for a kind of request
abbrev pub kind_word : Body → List ℕ
kind_word (Call object handler args) = codes "call"
kind_word (Get spot) = codes "get"
kind_word (Put spot value) = codes "put"
kind_word (Make class args) = codes "make"
kind_word (Reply value) = codes "reply"
kind_word (Cast object handler args) = codes "cast"

abbrev pub call_text : ℕ → ℕ → List Value → List ℕ
call_text object handler args = codes " object " ++ (decimal object ++ (codes " handler " ++ (decimal handler ++ (codes " (" ++ (values_text args ++ codes ")")))))

-- what stands behind the ticket
abbrev pub body_text : Body → List ℕ
body_text (Call object handler args) = call_text object handler args
body_text (Get spot) = codes " object " ++ (decimal spot.object ++ (codes " offset " ++ decimal spot.offset))
body_text (Put spot value) = codes " object " ++ (decimal spot.object ++ (codes " offset " ++ (decimal spot.offset ++ (codes " " ++ value_text value))))
body_text (Make class args) = codes " class " ++ (decimal class ++ (codes " (" ++ (values_text args ++ codes ")")))
body_text (Reply value) = codes " " ++ value_text value
body_text (Cast object handler args) = call_text object handler args

abbrev pub request_text : Request → List ℕ
request_text r = kind_word r.body ++ (codes " to " ++ (decimal r.to ++ (codes " from " ++ (decimal r.from ++ (codes " ticket " ++ (decimal r.ticket ++ body_text r.body))))))

-- the text and a line feed
abbrev pub line_of : Request → List ℕ
line_of r = request_text r ++ codes "\n"

-- the name of a fault
abbrev pub fault_name : MessageFault → List ℕ
fault_name Short = codes "Short"
fault_name BadMagic = codes "BadMagic"
fault_name BadVersion = codes "BadVersion"
fault_name BadKind = codes "BadKind"
fault_name (BadCount at) = codes "BadCount"
fault_name (BadTag at) = codes "BadTag"
fault_name Memory = codes "Memory"
