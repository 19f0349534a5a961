-- No message begins another, and what begins with none.
use Rattle.std.proofs.Common.{◌≡◌, ℕ, suc, zero, ◌≤◌, List, [], ◌∷◌, ◌++◌, length, refl, sym, ◌∙◌, ap, subst, arith, append_assoc}
use Rattle.std.specs.Int.{byte_len}
use Rattle.global_ptr.specs.declared.values.Value.{Value}
use Rattle.global_ptr.specs.declared.values.Value.TheVariants.{Null}
use Rattle.marshal.specs.Spellings.{IsNumber, AnyBytes, ◌▸◌, IsPrefixFree}
use Rattle.marshal.proofs.Laws.{same_cut, free_follows}
use Rattle.marshal.proofs.NumberLaws.{ReadsBack, reads_back_8, reads_back_16, one_number, length-number}
use Rattle.marshal.proofs.ValueLaws.{one_value, IsValue-free}
use Rattle.rsr_message.specs.declared.kinds.Kind.{Kind}
use Rattle.rsr_message.specs.declared.kinds.Kind.TheVariants as kind
use Rattle.rsr_message.specs.declared.versions.Version.{Version}
use Rattle.rsr_message.specs.declared.versions.Version.TheVariants.{One, Two}
use Rattle.rsr_message.specs.Requests.{Format, format_of, SpellsEach, SpellsCount, IsMessage}
use Rattle.rsr_message.specs.Shapes.{kind_of, byte_of, fields_len, IsGiven, IsEach, IsCount, IsList, IsTail}
use Rattle.rsr_message.proofs.Leads.{Leads}
use Rattle.rsr_message.proofs.ShapeLaws.{spelled_shape, shaped_message}

pub IsGiven-free : IsPrefixFree IsGiven
IsGiven-free s t x y p q e = let one = one_value p.0 q.0 s t x y p.1.spelled q.1.spelled e in one.1

-- one more value
pub each_cons : (n : ℕ) (bytes : List ℕ) → IsEach (suc n) bytes → (IsGiven ▸ IsEach n) bytes
each_cons n bytes each = by each.values each.long each.spelled
  where
    by : (values : List Value) → length values ≡ suc n → SpellsEach values bytes → (IsGiven ▸ IsEach n) bytes
    by [] long spelled = absurd (omega arith)
    by (v ∷ vs) long spelled = record {
      front = spelled.front;
      back = spelled.back;
      first = (v, spelled.first);
      second = record { values = vs; long = omega arith; spelled = spelled.second };
      whole = spelled.whole;
    }

pub cons_each : (n : ℕ) (bytes : List ℕ) → (IsGiven ▸ IsEach n) bytes → IsEach (suc n) bytes
cons_each n bytes f = record {
  values = f.first.0 ∷ f.second.values;
  long = ap suc f.second.long;
  spelled = record { front = f.front; back = f.back; first = f.first.1; second = f.second.spelled; whole = f.whole };
}

pub IsEach-free : (n : ℕ) → IsPrefixFree (IsEach n)
IsEach-free zero s t x y p q e = nothing p.values p.long p.spelled ∙ sym (nothing q.values q.long q.spelled)
  where
    nothing : {bytes : List ℕ} (values : List Value) → length values ≡ 0 → SpellsEach values bytes → bytes ≡ []
    nothing [] long spelled = spelled
    nothing (v ∷ vs) long spelled = absurd (omega arith)
IsEach-free (suc n) s t x y p q e = free_follows IsGiven (IsEach n) IsGiven-free (IsEach-free n) s t x y (each_cons n s p) (each_cons n t q) e

pub AnyBytes-free : (n : ℕ) → IsPrefixFree (AnyBytes n)
AnyBytes-free n s t x y p q e = let cut = same_cut s x t y (p.long ∙ sym q.long) e in cut.0

-- nulls, as values to be sure of
pub some_each : (n : ℕ) → (bytes : List ℕ) × IsEach n bytes
some_each zero = ([], record { values = []; long = refl; spelled = refl })
some_each (suc n) =
    let more = some_each n in
    let null : IsGiven (2 ∷ []) = (Null, record { some = λ is. cc; spelled = refl }) in
    (2 ∷ more.0, cons_each n (2 ∷ more.0) (record { front = 2 ∷ []; back = more.0; first = null; second = more.1; whole = refl }))

-- the number of a list's values can be read in each version
pub back_of : (v : Version) → ReadsBack (format_of v).count
back_of One = reads_back_8
back_of Two = reads_back_16

-- no two versions have one byte
pub one_version : (v w : Version) → (format_of v).version ≡ (format_of w).version → v ≡ w
one_version One One e = refl
one_version Two Two e = refl
one_version v w e = absurd (omega arith)

module _ (f : Format) (back : ReadsBack f.count) where
  pub IsCount-free : IsPrefixFree (IsCount f)
  IsCount-free s t x y p q e = let one = one_number f.count back p.0 q.0 s t x y p.1.number q.1.number e in one.1

  -- the number of values is read
  pub list_leads : (n : ℕ) (bytes front rest : List ℕ) → n ≤ f.most → IsNumber f.count n front → bytes ≡ front ++ rest → Leads (IsList f) (IsEach n) bytes rest (byte_len f.count)
  list_leads n bytes front rest few number cut = record {
    front = front;
    long = length-number f.count n front number;
    cut = cut;
    whole = λ l each. (
      each.values,
      record {
        front = front;
        back = l;
        first = subst (λ k. SpellsCount f k front) (sym each.long) (record { few = few; number = number });
        second = each.spelled;
        whole = refl;
      },
    );
    only = λ l list.
        let one = one_number f.count back n (length list.0) front list.1.front l list.1.back number list.1.first.number list.1.whole in
        record { values = list.0; long = sym one.0; spelled = subst (SpellsEach list.0) (sym one.2) list.1.second };
  }

  IsList-free : IsPrefixFree (IsList f)
  IsList-free s t x y p q e =
      let regrouped : p.1.front ++ (p.1.back ++ x) ≡ q.1.front ++ (q.1.back ++ y) = sym (append_assoc p.1.front p.1.back x) ∙ ap (λ b. b ++ x) (sym p.1.whole) ∙ e ∙ ap (λ b. b ++ y) q.1.whole ∙ append_assoc q.1.front q.1.back y in
      let one = one_number f.count back (length p.0) (length q.0) p.1.front q.1.front (p.1.back ++ x) (q.1.back ++ y) p.1.first.number q.1.first.number regrouped in
      let backs : p.1.back ≡ q.1.back = IsEach-free (length q.0) p.1.back q.1.back x y (record { values = p.0; long = one.0; spelled = p.1.second }) (record { values = q.0; long = refl; spelled = q.1.second }) one.2 in
      p.1.whole ∙ cc (one.1, backs) ∙ sym q.1.whole

  IsTail-free : (k : Kind) → IsPrefixFree (IsTail f k)
  IsTail-free kind.Call = IsList-free
  IsTail-free kind.Get = λ s t x y p q e. p ∙ sym q
  IsTail-free kind.Put = IsGiven-free
  IsTail-free kind.Make = IsList-free
  IsTail-free kind.Reply = IsValue-free
  IsTail-free kind.Cast = IsList-free

  pub shape_free : (k : Kind) → IsPrefixFree (AnyBytes (fields_len k) ▸ IsTail f k)
  shape_free k = free_follows (AnyBytes (fields_len k)) (IsTail f k) (AnyBytes-free (fields_len k)) (IsTail-free k)

-- no two kinds have one byte
pub one_kind : (k l : Kind) → byte_of k ≡ byte_of l → k ≡ l
one_kind kind.Call kind.Call e = refl
one_kind kind.Get kind.Get e = refl
one_kind kind.Put kind.Put e = refl
one_kind kind.Make kind.Make e = refl
one_kind kind.Reply kind.Reply e = refl
one_kind kind.Cast kind.Cast e = refl
one_kind k l e = absurd (omega arith)

-- the three bytes with which a message begins, and what its shape says of the others
pub record HasHead (bytes : List ℕ) : Type 0 where
  pub version : Version
  pub kind : Kind
  pub behind : List ℕ
  pub whole : bytes ≡ 0x52 ∷ (format_of version).version ∷ byte_of kind ∷ behind
  pub shape : (AnyBytes (fields_len kind) ▸ IsTail (format_of version) kind) behind

pub message_head : (bytes : List ℕ) → IsMessage bytes → HasHead bytes
message_head bytes m =
    let shape = spelled_shape (format_of m.1.version) m.0 bytes m.1.spelled in
    record { version = m.1.version; kind = kind_of m.0.body; behind = shape.back; whole = shape.whole ∙ ap (λ l. l ++ shape.back) shape.first; shape = shape.second }

pub headed : (v : Version) (k : Kind) (back : List ℕ) → (AnyBytes (fields_len k) ▸ IsTail (format_of v) k) back → IsMessage (0x52 ∷ (format_of v).version ∷ byte_of k ∷ back)
headed v k back shape = shaped_message v k _ (record { front = 0x52 ∷ (format_of v).version ∷ byte_of k ∷ []; back = back; first = refl; second = shape; whole = refl })

-- behind a head stands what the shape of its version and kind says
pub same_shape : (v w : Version) (k l : Kind) (behind after : List ℕ) → 0x52 ∷ (format_of v).version ∷ byte_of k ∷ behind ≡ 0x52 ∷ (format_of w).version ∷ byte_of l ∷ after
    → (v ≡ w) × (k ≡ l) × (behind ≡ after)
same_shape v w k l behind after e =
    let versions_are : (format_of v).version ≡ (format_of w).version = cc in
    let bytes_are : byte_of k ≡ byte_of l = cc in
    let backs : behind ≡ after = cc in
    (one_version v w versions_are, one_kind k l bytes_are, backs)

pub head_leads : (v : Version) (k : Kind) (bytes rest : List ℕ) → bytes ≡ 0x52 ∷ (format_of v).version ∷ byte_of k ∷ rest → Leads IsMessage (AnyBytes (fields_len k) ▸ IsTail (format_of v) k) bytes rest 3
head_leads v k bytes rest cut = record {
  front = 0x52 ∷ (format_of v).version ∷ byte_of k ∷ [];
  long = refl;
  cut = cut;
  whole = λ back shape. headed v k back shape;
  only = λ back m. only back (message_head _ m);
}
  where
    only : (back : List ℕ) → HasHead (0x52 ∷ (format_of v).version ∷ byte_of k ∷ back) → (AnyBytes (fields_len k) ▸ IsTail (format_of v) k) back
    only back h =
        let same = same_shape v h.version k h.kind back h.behind h.whole in
        subst (λ u. (AnyBytes (fields_len k) ▸ IsTail (format_of u) k) back) (sym same.0)
        (subst (λ j. (AnyBytes (fields_len j) ▸ IsTail (format_of h.version) j) back) (sym same.1)
        (subst (AnyBytes (fields_len h.kind) ▸ IsTail (format_of h.version) h.kind) (sym same.2) h.shape))

pub IsMessage-free : IsPrefixFree IsMessage
IsMessage-free s t x y p q e = by (message_head s p) (message_head t q)
  where
    by : HasHead s → HasHead t → s ≡ t
    by h g =
        let same = same_shape h.version g.version h.kind g.kind (h.behind ++ x) (g.behind ++ y) (ap (λ b. b ++ x) (sym h.whole) ∙ e ∙ ap (λ b. b ++ y) g.whole) in
        let shape : (AnyBytes (fields_len g.kind) ▸ IsTail (format_of g.version) g.kind) h.behind =
        subst (λ u. (AnyBytes (fields_len g.kind) ▸ IsTail (format_of u) g.kind) h.behind) same.0
        (subst (λ j. (AnyBytes (fields_len j) ▸ IsTail (format_of h.version) j) h.behind) same.1 h.shape) in
        let backs : h.behind ≡ g.behind = shape_free (format_of g.version) (back_of g.version) g.kind h.behind g.behind x y shape g.shape same.2 in
        let versions : (format_of h.version).version ≡ (format_of g.version).version = ap (λ u. (format_of u).version) same.0 in
        let kinds : byte_of h.kind ≡ byte_of g.kind = ap byte_of same.1 in
        h.whole ∙ cc (versions, kinds, backs) ∙ sym g.whole
