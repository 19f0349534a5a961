-- Steps of the code that puts requests into bytes.
use Rattle.std.proofs.Common.{◌≡◌, ◌≢◌, ℕ, ◌+◌, ◌≤◌, List, [], ◌∷◌, ◌++◌, length, drop, refl, sym, ◌∙◌, ap, subst}
use Rattle.std.specs.Int.{w16, w32}
use Rattle.std.proofs.lemmas.List.{append-nil, append_assoc, drop_all}
use Rattle.global_ptr.specs.declared.values.Value.{Value}
use Rattle.global_ptr.specs.declared.values.Value.TheVariants.{Void}
use Rattle.marshal.specs.Spellings.{IsByte, IsNumber, ◌▸◌, Puts, Extends}
use Rattle.marshal.specs.Values.{SpellsValue}
use Rattle.marshal.proofs.Steps.{puts_follow, puts_byte}
use Rattle.rsr_message.specs.Requests.{version_2, SpellsGiven, SpellsEach, SpellsCount, SpellsList, SpellsBody, Spells, kind_byte}
use Rattle.rsr_message.specs.Shapes.{byte_of, kind_of}
use Rattle.rsr_message.specs.declared.requests.Request.{Request}
use Rattle.rsr_message.specs.declared.requests.Body.{Body}
use Rattle.rsr_message.specs.declared.requests.Body.TheVariants as body

pub puts_given : (v : Value) (old new : List ℕ) → v ≢ Void → Puts (SpellsValue v) old new → Puts (SpellsGiven v) old new
puts_given v old new some put = record { spelling = put.spelling; spelled = record { some = some; spelled = put.spelled }; whole = put.whole }

-- the number of values and the first of them are put: the others make a list of it
pub record ListSoFar (args : List Value) (n : ℕ) (old out : List ℕ) : Type 0 where
  pub extends : Extends old out
  pub rest : (new : List ℕ) → Puts (SpellsEach (drop n args)) out new → Puts (SpellsList version_2 args) old new

-- the number is put
pub list_begun : (args : List Value) (old out : List ℕ) → length args ≤ 4096 → Puts (IsNumber w16 (length args)) old out → ListSoFar args 0 old out
list_begun args old out few put = record {
  extends = (put.spelling, put.whole);
  rest = λ new each.
      puts_follow (SpellsCount version_2 (length args)) (SpellsEach args) old out new (record { spelling = put.spelling; spelled = record { few = few; number = put.spelled }; whole = put.whole }) each;
}

-- one more value is put
pub list_more : (args : List Value) (n : ℕ) (v : Value) (old out new : List ℕ) → ListSoFar args n old out → drop n args ≡ v ∷ drop (n + 1) args → v ≢ Void → Puts (SpellsValue v) out new → ListSoFar args (n + 1) old new
list_more args n v old out new so_far cut some put = record {
  extends = (so_far.extends.0 ++ put.spelling, put.whole ∙ ap (λ l. l ++ put.spelling) so_far.extends.1 ∙ append_assoc old so_far.extends.0 put.spelling);
  rest = λ last each.
      let given : Puts (SpellsGiven v) out new = puts_given v out new some put in
      so_far.rest last (subst (λ vs. Puts (SpellsEach vs) out last) (sym cut) (puts_follow (SpellsGiven v) (SpellsEach (drop (n + 1) args)) out new last given each));
}

-- all values are put
pub list_done : (args : List Value) (n : ℕ) (old out : List ℕ) → length args ≤ n → ListSoFar args n old out → Puts (SpellsList version_2 args) old out
list_done args n old out all so_far =
    so_far.rest out (subst (λ vs. Puts (SpellsEach vs) out out) (sym (drop_all n args all)) (record { spelling = []; spelled = refl; whole = sym (append-nil out) }))

pub same_byte : (b : Body) → byte_of (kind_of b) ≡ kind_byte b
same_byte (body.Call object handler args) = refl
same_byte (body.Get spot) = refl
same_byte (body.Put spot value) = refl
same_byte (body.Make class args) = refl
same_byte (body.Reply value) = refl
same_byte (body.Cast object handler args) = refl

-- three bytes, three numbers and a body are put
pub request_put : (r : Request) (out0 out1 out2 out3 out4 out5 out6 new : List ℕ) (kind_put : ℕ) →
    out1 ≡ out0 ++ 0x52 ∷ [] → out2 ≡ out1 ++ 2 ∷ [] → out3 ≡ out2 ++ kind_put ∷ [] → kind_put ≡ byte_of (kind_of r.body) →
    Puts (IsNumber w32 r.to) out3 out4 → Puts (IsNumber w32 r.from) out4 out5 → Puts (IsNumber w32 r.ticket) out5 out6 →
    Puts (SpellsBody version_2 r.body) out6 new → Puts (Spells version_2 r) out0 new
request_put r out0 out1 out2 out3 out4 out5 out6 new kind_put magic version kind is to from ticket body =
    let byte : out3 ≡ out2 ++ kind_byte r.body ∷ [] = kind ∙ ap (λ b. out2 ++ b ∷ []) (is ∙ same_byte r.body) in
    let P : List ℕ → Type 0 = SpellsBody version_2 r.body in
    puts_follow (IsByte 0x52) (IsByte 2 ▸ IsByte (kind_byte r.body) ▸ IsNumber w32 r.to ▸ IsNumber w32 r.from ▸ IsNumber w32 r.ticket ▸ P) _ _ _ (puts_byte 0x52 out0 out1 magic)
    (puts_follow (IsByte 2) (IsByte (kind_byte r.body) ▸ IsNumber w32 r.to ▸ IsNumber w32 r.from ▸ IsNumber w32 r.ticket ▸ P) _ _ _ (puts_byte 2 out1 out2 version)
    (puts_follow (IsByte (kind_byte r.body)) (IsNumber w32 r.to ▸ IsNumber w32 r.from ▸ IsNumber w32 r.ticket ▸ P) _ _ _ (puts_byte (kind_byte r.body) out2 out3 byte)
    (puts_follow (IsNumber w32 r.to) (IsNumber w32 r.from ▸ IsNumber w32 r.ticket ▸ P) _ _ _ to
    (puts_follow (IsNumber w32 r.from) (IsNumber w32 r.ticket ▸ P) _ _ _ from
    (puts_follow (IsNumber w32 r.ticket) P _ _ _ ticket body)))))
