-- One request a spelling, and one spelling a request.
use Rattle.std.proofs.Common.{◌≡◌, ℕ, List, [], ◌∷◌, ◌++◌, length, refl, sym, ◌∙◌, ap, subst, arith, append_assoc}
use Rattle.std.specs.Int.{Width, w16, w32}
use Rattle.global_ptr.specs.declared.values.Spot.{Spot}
use Rattle.global_ptr.specs.declared.values.Value.{Value}
use Rattle.marshal.specs.Spellings.{IsNumber, ◌▸◌}
use Rattle.marshal.proofs.NumberLaws.{ReadsBack, reads_back_16, reads_back_32, one_number}
use Rattle.marshal.proofs.ValueLaws.{one_value}
use Rattle.rsr_message.specs.declared.requests.Request.{Request}
use Rattle.rsr_message.specs.declared.requests.Body.{Body}
use Rattle.rsr_message.specs.declared.requests.Body.TheVariants.{Call, Get, Put, Make, Reply, Cast}
use Rattle.rsr_message.specs.declared.versions.Version.{Version}
use Rattle.rsr_message.specs.Shapes.{kind_of}
use Rattle.rsr_message.specs.Requests.{Format, format_of, SpellsGiven, SpellsEach, SpellsCount, SpellsList, SpellsSpot, SpellsCall, SpellsBody, Spells, SpellsEither, kind_byte}
use Rattle.rsr_message.proofs.MessageLaws.{IsMessage-free, back_of, same_shape}
use Rattle.rsr_message.proofs.ShapeLaws.{spelled_shape}

-- the first of two spellings, and what is behind it
first_of : (P Q : List ℕ → Type 0) (s x : List ℕ) (p : (P ▸ Q) s) → s ++ x ≡ p.front ++ (p.back ++ x)
first_of P Q s x p = ap (λ l. l ++ x) p.whole ∙ append_assoc p.front p.back x

-- where two lists begin alike, so do the numbers with which they begin, and what is behind them
next_number : (w : Width) → ReadsBack w → (m n : ℕ) (P Q : List ℕ → Type 0) (s t x y : List ℕ) (p : (IsNumber w m ▸ P) s) (q : (IsNumber w n ▸ Q) t) → s ++ x ≡ t ++ y → (m ≡ n) × (p.back ++ x ≡ q.back ++ y)
next_number w back m n P Q s t x y p q e =
    let one = one_number w back m n p.front q.front (p.back ++ x) (q.back ++ y) p.first q.first (sym (first_of (IsNumber w m) P s x p) ∙ e ∙ first_of (IsNumber w n) Q t y q) in
    (one.0, one.2)

next_value : (v w : Value) (P Q : List ℕ → Type 0) (s t x y : List ℕ) (p : (SpellsGiven v ▸ P) s) (q : (SpellsGiven w ▸ Q) t) → s ++ x ≡ t ++ y → (v ≡ w) × (p.back ++ x ≡ q.back ++ y)
next_value v w P Q s t x y p q e =
    let one = one_value v w p.front q.front (p.back ++ x) (q.back ++ y) p.first.spelled q.first.spelled (sym (first_of (SpellsGiven v) P s x p) ∙ e ∙ first_of (SpellsGiven w) Q t y q) in
    (one.0, one.2)

pub one_each : (vs ws : List Value) (s t x y : List ℕ) → length vs ≡ length ws → SpellsEach vs s → SpellsEach ws t → s ++ x ≡ t ++ y → vs ≡ ws
one_each [] [] s t x y long p q e = refl
one_each [] (w ∷ ws) s t x y long p q e = absurd (omega arith)
one_each (v ∷ vs) [] s t x y long p q e = absurd (omega arith)
one_each (v ∷ vs) (w ∷ ws) s t x y long p q e =
    let first = next_value v w (SpellsEach vs) (SpellsEach ws) s t x y p q e in
    let rest : vs ≡ ws = one_each vs ws p.back q.back x y (omega arith) p.second q.second first.1 in
    cc (first.0, rest)

one_list : (f : Format) → ReadsBack f.count → (vs ws : List Value) (s t x y : List ℕ) → SpellsList f vs s → SpellsList f ws t → s ++ x ≡ t ++ y → vs ≡ ws
one_list f back vs ws s t x y p q e =
    let one = one_number f.count back (length vs) (length ws) p.front q.front (p.back ++ x) (q.back ++ y) p.first.number q.first.number
    (sym (first_of (SpellsCount f (length vs)) (SpellsEach vs) s x p) ∙ e ∙ first_of (SpellsCount f (length ws)) (SpellsEach ws) t y q) in
    one_each vs ws p.back q.back x y one.0 p.second q.second one.2

one_spot : (a b : Spot) (s t x y : List ℕ) → SpellsSpot a s → SpellsSpot b t → s ++ x ≡ t ++ y → (a ≡ b) × (x ≡ y)
one_spot a b s t x y p q e =
    let object = next_number w32 reads_back_32 a.object b.object (IsNumber w32 a.offset) (IsNumber w32 b.offset) s t x y p q e in
    let offset = one_number w32 reads_back_32 a.offset b.offset p.back q.back x y p.second q.second object.1 in
    let same : ◌≡◌ {A = Spot} (record { object = a.object; offset = a.offset }) (record { object = b.object; offset = b.offset }) = cc (object.0, offset.0) in
    (same, offset.2)

one_call : (f : Format) → ReadsBack f.count → (object object' handler handler' : ℕ) (args args' : List Value) (s t x y : List ℕ) → SpellsCall f object handler args s → SpellsCall f object' handler' args' t → s ++ x ≡ t ++ y → (object ≡ object') × (handler ≡ handler') × (args ≡ args')
one_call f back object object' handler handler' args args' s t x y p q e =
    let first = next_number w32 reads_back_32 object object' (IsNumber w16 handler ▸ SpellsList f args) (IsNumber w16 handler' ▸ SpellsList f args') s t x y p q e in
    let second = next_number w16 reads_back_16 handler handler' (SpellsList f args) (SpellsList f args') p.back q.back x y p.second q.second first.1 in
    (first.0, second.0, one_list f back args args' p.second.back q.second.back x y p.second.second q.second.second second.1)

-- a body of a known kind
one_body : (f : Format) → ReadsBack f.count → (b c : Body) (s t x y : List ℕ) → kind_byte b ≡ kind_byte c → SpellsBody f b s → SpellsBody f c t → s ++ x ≡ t ++ y → b ≡ c
one_body f back (Call o h a) (Call o' h' a') s t x y kind p q e = let one = one_call f back o o' h h' a a' s t x y p q e in cc (one.0, one.1, one.2)
one_body f back (Get a) (Get b) s t x y kind p q e = let one = one_spot a b s t x y p q e in ap Get one.0
one_body f back (Put a v) (Put b w) s t x y kind p q e =
    let spot = one_spot a b p.front q.front (p.back ++ x) (q.back ++ y) p.first q.first (sym (first_of (SpellsSpot a) (SpellsGiven v) s x p) ∙ e ∙ first_of (SpellsSpot b) (SpellsGiven w) t y q) in
    let value = one_value v w p.back q.back x y p.second.spelled q.second.spelled spot.1 in
    cc (spot.0, value.0)
one_body f back (Make k a) (Make k' a') s t x y kind p q e =
    let class = next_number w16 reads_back_16 k k' (SpellsList f a) (SpellsList f a') s t x y p q e in
    let args = one_list f back a a' p.back q.back x y p.second q.second class.1 in
    cc (class.0, args)
one_body f back (Reply v) (Reply w) s t x y kind p q e = let one = one_value v w s t x y p q e in ap Reply one.0
one_body f back (Cast o h a) (Cast o' h' a') s t x y kind p q e = let one = one_call f back o o' h h' a a' s t x y p q e in cc (one.0, one.1, one.2)
one_body f back b c s t x y kind p q e = absurd (omega arith)

module _ (v : Version) where
  -- bytes begin with one request of a version at most
  one_spelled : (r q : Request) (s t x y : List ℕ) → Spells (format_of v) r s → Spells (format_of v) q t → s ++ x ≡ t ++ y → (r ≡ q) × (s ≡ t)
  one_spelled r q s t x y a b e =
      let f = format_of v in
      let kinds = a.second.second in
      let same : s ≡ t = IsMessage-free s t x y (r, record { version = v; spelled = a }) (q, record { version = v; spelled = b }) e in
      let heads = heads_of a.first a.second.first kinds.first a.whole a.second.whole kinds.whole in
      let others = heads_of b.first b.second.first b.second.second.first b.whole b.second.whole b.second.second.whole in
      let all : 0x52 ∷ f.version ∷ kind_byte r.body ∷ kinds.back ≡ 0x52 ∷ f.version ∷ kind_byte q.body ∷ b.second.second.back = sym heads ∙ same ∙ others in
      let kind : kind_byte r.body ≡ kind_byte q.body = cc in
      let behind : kinds.back ≡ b.second.second.back = cc in
      let p = kinds.second in
      let o = b.second.second.second in
      let to = next_number w32 reads_back_32 r.to q.to (IsNumber w32 r.from ▸ IsNumber w32 r.ticket ▸ SpellsBody f r.body) (IsNumber w32 q.from ▸ IsNumber w32 q.ticket ▸ SpellsBody f q.body) kinds.back b.second.second.back [] [] p o (ap (λ l. l ++ []) behind) in
      let from = next_number w32 reads_back_32 r.from q.from (IsNumber w32 r.ticket ▸ SpellsBody f r.body) (IsNumber w32 q.ticket ▸ SpellsBody f q.body) p.back o.back [] [] p.second o.second to.1 in
      let ticket = next_number w32 reads_back_32 r.ticket q.ticket (SpellsBody f r.body) (SpellsBody f q.body) p.second.back o.second.back [] [] p.second.second o.second.second from.1 in
      let body : r.body ≡ q.body = one_body f (back_of v) r.body q.body p.second.second.back o.second.second.back [] [] kind p.second.second.second o.second.second.second ticket.1 in
      let requests : ◌≡◌ {A = Request} (record { to = r.to; from = r.from; ticket = r.ticket; body = r.body }) (record { to = q.to; from = q.from; ticket = q.ticket; body = q.body }) = cc (to.0, from.0, ticket.0, body) in
      (requests, same)
    where
      heads_of : {a b c l m n o : List ℕ} {x y z : ℕ} → a ≡ x ∷ [] → b ≡ y ∷ [] → c ≡ z ∷ [] → l ≡ a ++ m → m ≡ b ++ n → n ≡ c ++ o → l ≡ x ∷ y ∷ z ∷ o
      heads_of a b c l m n = cc

-- the same bytes are of one version
pub told_version : (v w : Version) (r q : Request) (bytes : List ℕ) → Spells (format_of v) r bytes → Spells (format_of w) q bytes → v ≡ w
told_version v w r q bytes a b =
    let p = spelled_shape (format_of v) r bytes a in
    let o = spelled_shape (format_of w) q bytes b in
    (same_shape v w (kind_of r.body) (kind_of q.body) p.back o.back (sym (p.whole ∙ ap (λ l. l ++ p.back) p.first) ∙ (o.whole ∙ ap (λ l. l ++ o.back) o.first))).0

-- bytes begin with one request at most, in one version
pub one_request : (r q : Request) (s t x y : List ℕ) → (a : SpellsEither r s) (b : SpellsEither q t) → s ++ x ≡ t ++ y → (r ≡ q) × (s ≡ t) × (a.version ≡ b.version)
one_request r q s t x y a b e =
    let same : s ≡ t = IsMessage-free s t x y (r, a) (q, b) e in
    let versions : a.version ≡ b.version = told_version a.version b.version r q t (subst (Spells (format_of a.version) r) same a.spelled) b.spelled in
    let one = one_spelled b.version r q s t x y (subst (λ v. Spells (format_of v) r s) versions a.spelled) b.spelled e in
    (one.0, same, versions)
