use Rattle.std.proofs.Common.{◌≤◌, List, arith}
use Rattle.global_ptr.specs.declared.values.Value.{Value}
use Rattle.rsr_message.specs.declared.requests.Body.{Body}
use Rattle.rsr_message.specs.declared.requests.Body.TheVariants.{Call, Get, Put, Make, Reply, Cast}
use Rattle.rsr_message.specs.declared.versions.Version.{Version}
use Rattle.rsr_message.specs.declared.versions.Version.TheVariants.{One, Two}
use Rattle.rsr_message.specs.Requests.{version_1, version_2, format_of, IsAllowed, IsAllowedList}
use Rattle.rsr_message.proofs.SpellingLaws.{spelled_allowed}
use Rattle.test_messages.proofs.messages.bytes_and_line.Goals as goal

few_values : (values : List Value) → IsAllowedList version_1 values → IsAllowedList version_2 values
few_values values a = let few = a.few in record { few = omega arith; some = a.some }

-- what is read may be written
written : (v : Version) (b : Body) → IsAllowed (format_of v) b → IsAllowed version_2 b
written One (Call object handler args) a = few_values args a
written One (Get spot) a = a
written One (Put spot value) a = a
written One (Make class args) a = few_values args a
written One (Reply value) a = a
written One (Cast object handler args) a = few_values args a
written Two b a = a

pub encode-requires : goal.encode-requires
encode-requires c =
    let found = c.in_ok-request.ensures.found in
    let spelled = found.spelled in
    written spelled.version c.in_ok-request.request.body (spelled_allowed (format_of spelled.version) c.in_ok-request.request found.spelling spelled.spelled)
