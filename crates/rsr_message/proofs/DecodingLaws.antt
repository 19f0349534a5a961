-- What bytes say of the request with which they begin is the one answer.
use Rattle.std.proofs.Common.{◌≡◌, ◌≢◌, ℕ, ◌⊎◌, inl, inr, List, length, refl, sym, ◌∙◌, ap, subst, Result, Ok, Err, IsErrOf}
use Rattle.marshal.specs.Spellings.{BeginsWith, IsPartial}
use Rattle.marshal.proofs.Laws.{whole_is_not_partial, wrong_is_not_partial, wrong_is_not_whole, one_wrong}
use Rattle.rsr_message.specs.declared.faults.MessageFault.{MessageFault}
use Rattle.rsr_message.specs.declared.faults.MessageFault.TheVariants.{Short, Memory}
use Rattle.rsr_message.specs.declared.kinds.Kind.{Kind}
use Rattle.rsr_message.specs.declared.requests.Request.{Request}
use Rattle.rsr_message.specs.declared.requests.Body.{Body}
use Rattle.rsr_message.specs.declared.requests.Body.TheVariants as body
use Rattle.rsr_message.specs.declared.versions.Version.{Version}
use Rattle.rsr_message.specs.Requests.{format_of, SpellsEither, IsMessage}
use Rattle.rsr_message.specs.Shapes.{kind_of, HasShape, IsListKind}
use Rattle.rsr_message.specs.Refusals.{fault_of, IsRefusedMessage, IsWrongMessage, HasList, BeginsWithList, IsCause, Decodes}
use Rattle.rsr_message.proofs.MessageLaws.{IsMessage-free}
use Rattle.rsr_message.proofs.RequestLaws.{one_request}
use Rattle.rsr_message.proofs.ShapeLaws.{shaped_request}

begins_message : (r : Request) (bytes : List ℕ) (n : ℕ) → BeginsWith (SpellsEither r) bytes n → BeginsWith IsMessage bytes n
begins_message r bytes n b = record { spelling = b.spelling; rest = b.rest; spelled = (r, b.spelled); long = b.long; whole = b.whole }

-- the three sorts of causes
data Sort (bytes : List ℕ) (fault : MessageFault) : Type 0 where
  part : fault ≡ Short → IsPartial IsMessage bytes → Sort bytes fault
  wanting : fault ≡ Memory → BeginsWithList bytes → Sort bytes fault
  wrong : IsWrongMessage bytes fault → Sort bytes fault

sort_of : (bytes : List ℕ) (fault : MessageFault) → IsCause bytes fault → Sort bytes fault
sort_of bytes Short c = part refl c
sort_of bytes Memory c = wanting refl c
sort_of bytes fault c = wrong c

module _ (bytes : List ℕ) where
  same_begun : (r q : Request) (m n : ℕ) → BeginsWith (SpellsEither r) bytes m → BeginsWith (SpellsEither q) bytes n → (r ≡ q) × (m ≡ n)
  same_begun r q m n b c =
      let one = one_request r q b.spelling c.spelling b.rest c.rest b.spelled c.spelled (sym b.whole ∙ c.whole) in
      (one.0, sym b.long ∙ ap length one.1 ∙ c.long)

  not_part : (r : Request) (n : ℕ) → BeginsWith (SpellsEither r) bytes n → IsPartial IsMessage bytes → ⊥
  not_part r n b p = whole_is_not_partial IsMessage IsMessage-free bytes n (begins_message r bytes n b) p

  not_wrong : (r : Request) (n : ℕ) (fault : MessageFault) → BeginsWith (SpellsEither r) bytes n → IsWrongMessage bytes fault → ⊥
  not_wrong r n fault b w = wrong_is_not_whole IsMessage IsMessage-free bytes w.at n w.wrong (begins_message r bytes n b)

  pub decodes_request : (answer : Result (Request × ℕ) MessageFault) → Decodes bytes answer → (r : Request) (n : ℕ) → BeginsWith (SpellsEither r) bytes n → (answer ≡ Ok (r, n)) ⊎ (IsErrOf answer Memory × HasList r.body)
  decodes_request (Ok found) d r n b =
      let one = same_begun found.0 r found.1 n d b in
      let same : ◌≡◌ {A = Request × ℕ} (found.0, found.1) (r, n) = cc (one.0, one.1) in
      inl (ap Ok same)
  decodes_request (Err fault) d r n b =
      elim (sort_of bytes fault d) [
        | part is p ↦ absurd (not_part r n b p)
        | wanting is list ↦ inr (ap Err is, subst (λ q. HasList q.body) (let one = same_begun list.request r list.len n list.begins b in one.0) list.list)
        | wrong w ↦ absurd (not_wrong r n fault b w)
      ]

  pub decodes_cause : (answer : Result (Request × ℕ) MessageFault) → Decodes bytes answer → (fault : MessageFault) → fault ≢ Memory → IsCause bytes fault → answer ≡ Err fault
  decodes_cause (Ok found) d fault other cause =
      elim (sort_of bytes fault cause) [
        | part is p ↦ absurd (not_part found.0 found.1 d p)
        | wanting is list ↦ absurd (other is)
        | wrong w ↦ absurd (not_wrong found.0 found.1 fault d w)
      ]
  decodes_cause (Err answer) d fault other cause =
      elim (sort_of bytes fault cause) [
        | part is p ↦ elim (sort_of bytes answer d) [
          | part is' p' ↦ ap Err (is' ∙ sym is)
          | wanting is' list ↦ absurd (not_part list.request list.len list.begins p)
          | wrong w ↦ absurd (wrong_is_not_partial IsMessage bytes w.at w.wrong p)
        ]
        | wanting is list ↦ absurd (other is)
        | wrong w ↦ elim (sort_of bytes answer d) [
          | part is' p' ↦ absurd (wrong_is_not_partial IsMessage bytes w.at w.wrong p')
          | wanting is' list ↦ absurd (not_wrong list.request list.len fault list.begins w)
          | wrong w' ↦ ap Err (w'.named ∙ ap (fault_of bytes) (one_wrong IsMessage bytes w'.at w.at w'.wrong w.wrong) ∙ sym w.named)
        ]
      ]

-- what was measured is refused
pub refused_cause : (bytes : List ℕ) (fault : MessageFault) → IsRefusedMessage bytes fault → IsCause bytes fault
refused_cause bytes Short r = r
refused_cause bytes Memory r = absurd r
refused_cause bytes fault r = r

list_kind : (b : Body) → IsListKind (kind_of b) → HasList b
list_kind (body.Call object handler args) list = list
list_kind (body.Get spot) list = list
list_kind (body.Put spot value) list = list
list_kind (body.Make class args) list = list
list_kind (body.Reply value) list = list
list_kind (body.Cast object handler args) list = list

-- the list of a whole message finds no memory
pub wants_list : (v : Version) (k : Kind) (bytes : List ℕ) (n : ℕ) → BeginsWith (HasShape (format_of v) k) bytes n → IsListKind k → BeginsWithList bytes
wants_list v k bytes n b list =
    let found = shaped_request (format_of v) k b.spelling b.spelled in
    record {
      request = found.0;
      len = n;
      begins = record { spelling = b.spelling; rest = b.rest; spelled = record { version = v; spelled = found.2 }; long = b.long; whole = b.whole };
      list = list_kind found.0.body (subst IsListKind (sym found.1) list);
    }
