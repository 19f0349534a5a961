-- A thread asks for one request.
use Rattle.std.proofs.Common.{◌≡◌, ◌↔◌, ℕ, Bool, IsTrue, List, [], ◌∷◌, map, Option, Some, None, refl, sym, ap, ◌∙◌, subst}
use Rattle.std.specs.Str.{bytes_eq}
use Rattle.std.proofs.lemmas.Slice.Eq.{bytes_eq-Decides}
use Rattle.global_ptr.specs.declared.values.Spot.{Spot}
use Rattle.global_ptr.specs.declared.values.Value.{Value as RustValue}
use Rattle.global_ptr.specs.declared.values.Value.TheVariants as machine
use Rattle.cc_ops.specs.Machine.{Address, value_of}
use Rattle.cc_ops.specs.Values.{Value, Void, Int, Null, Ptr}
use Rattle.cc_ops.specs.declared.number.ThreadNo.{ThreadNo}
use Rattle.cc_core.specs.Numbers.{Post, Get, Put, Call, Cast, Make}
use Rattle.cc_core.specs.Core.{Program}
use Rattle.cc_explains.specs.Places.{Place}
use Rattle.cc_explains.specs.Moves.{posted_at, asker, IsServedAt}
use Rattle.cc_explains.specs.Explains.{IsRequest}
use Rattle.cc_explains.proofs.Reading.{same_request}
use Rattle.cc_walk.specs.Posted.{anybody, AreValues, Says, IsPosted, AsksFor}
use Rattle.rsr_message.specs.declared.requests.Request.{Request}
use Rattle.rsr_message.specs.declared.requests.Body.{Body}
use Rattle.rsr_message.specs.declared.requests.Body.TheVariants as body
use Rattle.rsr_message.specs.Requests.{Spells, SpellsEither, version_2}
use Rattle.rsr_message.proofs.SpellingLaws.{single_spelling}

-- the value that is so numbered
abbrev told : Value Address → RustValue
told Void = machine.Void
told (Int n) = machine.Int n
told Null = machine.Null
told (Ptr a x) = machine.Ptr (record { processor = a.processor; object = a.object; offset = x })

told_of : (v : RustValue) → v ≡ told (value_of v)
told_of machine.Void = refl
told_of (machine.Int n) = refl
told_of machine.Null = refl
told_of (machine.Ptr a) = refl

told_all : (args : List RustValue) → args ≡ map told (map value_of args)
told_all [] = refl
told_all (v ∷ vs) = let first = told_of v in let rest = told_all vs in cc

same_values : (args : List RustValue) (vs : List (Value Address)) → AreValues args vs → args ≡ map told vs
same_values args vs is = told_all args ∙ ap (map told) is

abbrev spot_at : ℕ → ℕ → Spot
spot_at o x = record { object = o; offset = x }

-- to whom a request goes that says what is posted, and its body
abbrev said : Post → ℕ × Body
said (Get (Ptr a x)) = (a.processor, body.Get (spot_at a.object x))
said (Put (Ptr a x) v) = (a.processor, body.Put (spot_at a.object x) (told v))
said (Call f (Ptr a x) vs) = (a.processor, body.Call a.object f (map told vs))
said (Cast f (Ptr a x) vs) = (a.processor, body.Cast a.object f (map told vs))
said (Make class vs) = (anybody, body.Make class (map told vs))
said post = (0, body.Reply machine.Void)

spot_is : (s : Spot) (o x : ℕ) → s.object ≡ o → s.offset ≡ x → s ≡ spot_at o x
spot_is s o x e f = ap (λ (k : ℕ). spot_at k s.offset) e ∙ ap (spot_at o) f

is_said : (post : Post) (to : ℕ) (b : Body) → Says post to b → ◌≡◌ {A = ℕ × Body} (to, b) (said post)
is_said (Get (Ptr a x)) to (body.Get spot) (e, o, f) = let at = spot_is spot a.object x o f in cc
is_said (Put (Ptr a x) v) to (body.Put spot w) (e, o, f, is) =
    let at = spot_is spot a.object x o f in
    let value : w ≡ told v = told_of w ∙ ap told is in
    cc
is_said (Call f (Ptr a x) vs) to (body.Call object handler args) (e, o, h, is) = let values = same_values args vs is in cc
is_said (Cast f (Ptr a x) vs) to (body.Cast object handler args) (e, o, h, is) = let values = same_values args vs is in cc
is_said (Make class vs) to (body.Make c args) (e, k, is) = let values = same_values args vs is in cc
is_said post to b h = absurd h

abbrev of : ℕ × Body → (from ticket : ℕ) → Request
of e from ticket = record { to = e.0; from = from; ticket = ticket; body = e.1 }

pub asks_once : (t : ThreadNo) (post : Option Post) (r q : Request) → IsPosted t post (Some r) → IsPosted t post (Some q) → r ≡ q
asks_once t None r q u v = absurd u
asks_once t (Some post) r q u v =
    let both : ◌≡◌ {A = ℕ × Body} (r.to, r.body) (q.to, q.body) = is_said post r.to r.body u.says ∙ sym (is_said post q.to q.body v.says) in
    ap (λ (e : ℕ × Body). of e r.from r.ticket) both
    ∙ (ap (λ (k : ℕ). of (q.to, q.body) k r.ticket) (u.processor ∙ sym v.processor)
    ∙ ap (λ (k : ℕ). of (q.to, q.body) q.from k) (u.thread ∙ sym v.thread))

-- whether a request is the next one of its asker, by the bytes of the one that is
module _ (p : Program) (at : Option ℕ) (bytes : List ℕ) (a : Place) (r : Request) (spelled : SpellsEither r bytes) (served : IsServedAt at r) where
  module _ (q : Request) (asked : AsksFor p a.config a.numbers (asker r) (Some q)) (mine : List ℕ) (spells : Spells version_2 q mine) where
    same_bytes : mine ≡ bytes → IsRequest p at bytes a r
    same_bytes same =
        let its : Spells version_2 q bytes = subst (Spells version_2 q) same spells in
        let is : q ≡ r = sym (same_request r q bytes spelled its) in
        record {
          spelled = subst (λ (z : Request). Spells version_2 z bytes) is its;
          asked = subst (λ (z : Request). AsksFor p a.config a.numbers (asker r) (Some z)) is asked;
          served = served;
        }

    its_bytes : IsRequest p at bytes a r → mine ≡ bytes
    its_bytes is =
        let same : q ≡ r = asks_once (asker r) (posted_at p a (asker r)) q r asked is.asked in
        single_spelling version_2 q mine bytes spells (subst (λ (z : Request). Spells version_2 z bytes) (sym same) is.spelled)

    pub is_next : (b : Bool) → b ≡ bytes_eq mine bytes → IsTrue b ↔ IsRequest p at bytes a r
    is_next b eq = (
      λ t. same_bytes ((bytes_eq-Decides mine bytes).0 (sym eq ∙ t)),
      λ is. eq ∙ (bytes_eq-Decides mine bytes).1 (its_bytes is),
    )
