-- A constant expression is the same constant wherever names mean the same: in a class and among the constants alone, behind any variables
-- and behind none.
use Rattle.std.proofs.Common.{◌≡◌, ℕ, zero, suc, ℤ, Bool, true, false, List, [], ◌∷◌, Option, Some, None, refl, sym, ap, subst, ◌∙◌, pos, ◌⊎◌, inl, inr, ⊎_elim}
use Rattle.std.specs.Prelude.{slice_get, nat_lt, ◌||◌, int_lt, if◌then◌else◌}
use Rattle.std.proofs.lemmas.Option.{none-some}
use Rattle.cc_names.specs.Names.{class_named}
use Rattle.cc_names.specs.declared.broken.Broken.{Broken}
use Rattle.cc_names.specs.declared.broken.Broken.TheVariants.{Limit}
use Rattle.cc_names.specs.declared.rule.StaticLimit.TheVariants.{ArrayLength}
use Rattle.cc_scopes.specs.declared.typed.Place.{Place}
use Rattle.cc_scopes.specs.Typed.{decay}
use Rattle.cc_typing.specs.Objects.{object_of}
use Rattle.cc_core.specs.declared.expression.Expression.{Expression}
use Rattle.cc_names.specs.Names.{entity_named, member_named}
use Rattle.cc_names.specs.Table.{Name}
use Rattle.cc_names.specs.declared.declarations.ClassId.{ClassId}
use Rattle.cc_names.specs.declared.declarations.MemberId.{MemberId}
use Rattle.cc_names.specs.declared.declarations.Entity.{Entity}
use Rattle.cc_names.specs.declared.declarations.Entity.TheVariants as entity
use Rattle.cc_ops.specs.declared.operator.Op.{Op}
use Rattle.cc_scopes.specs.declared.scope.Found.{Found}
use Rattle.cc_scopes.specs.declared.state.State.{State}
use Rattle.cc_scopes.specs.declared.tables.Member.{Member}
use Rattle.cc_scopes.specs.declared.tables.Member.TheVariants as member
use Rattle.cc_scopes.specs.declared.typed.Typed.{Typed}
use Rattle.cc_scopes.specs.declared.typed.Typed.TheVariants as typed
use Rattle.cc_scopes.specs.Elab.{Elab, pure}
use Rattle.cc_scopes.specs.Lengths.{no_length, natural, length_in_range, value_length, length_of, value_or_fault, constant_of}
use Rattle.cc_scopes.specs.Meaning.{class_at, member_at, member_of, member_in, constant_value, of_entity, of_file, member_or_file, outside_by, variable_or, meant, of_constant, of_meaning, name}
use Rattle.cc_scopes.specs.Scope.{Context, variable}
use Rattle.cc_operators.specs.Operators.{negated, unary, arithmetic, joined_constant, joined_numbers, joined_as, joined}
use Rattle.cc_typing.specs.Expr.{Layer, kind, node, expr_to, expr}
use Rattle.cc_typing.specs.Parts.{operand, args, call, links_from, chain, prefixed, new_length, new_int, new_class, index_value, index_array, index, field, call_on, suffix_as, suffix, suffixes_from, post, SuffixLayer}
use Rattle.cc_typing.specs.Whole.{array_length, constant}
use Rattle.cc_tree.specs.declared.expressions.BinaryOp.{BinaryOp}
use Rattle.cc_tree.specs.declared.expressions.Expr.{Expr, out-Expr}
use Rattle.cc_tree.specs.declared.expressions.ExprKind.{out-ExprKind}
use Rattle.cc_tree.specs.declared.expressions.ExprKind.TheOpen.{ExprKind-F, Suffix-F}
use Rattle.cc_tree.specs.declared.expressions.Link.{Link, out-Link}
use Rattle.cc_tree.specs.declared.expressions.Suffix.{Suffix, out-Suffix}
use Rattle.cc_tree.specs.declared.expressions.UnaryOp.{UnaryOp}
use Rattle.cc_tree.specs.declared.expressions.UnaryOp.TheVariants as prefix
use Rattle.cc_shared.proofs.NumberLaws.{IsOther, Never, placed_never, this_never, operated_never, joined_values_never, dereferenced_never, address_never, call_named_never, indexed_array_never, indexed_value_never}
use Rattle.cc_shared.proofs.NumberLaws.{field_of_never, call_member_never, new_array_never, new_object_never}

-- ---- the same constant

-- a constant of this value
abbrev pub Shows : Option ℤ → Typed → Type 0
Shows v (typed.Constant term w) = v ≡ w
Shows v typed.Broken = ⊥
Shows v typed.Spoiled = ⊥
Shows v (typed.Value x) = ⊥
Shows v (typed.This class remote) = ⊥
Shows v (typed.Place p) = ⊥
Shows v (typed.Array p n) = ⊥
Shows v (typed.Object o) = ⊥

-- where the first is a constant, the second is the same one, and brings nothing into scope
abbrev pub Shown : Typed → Typed × State → State → Type 0
Shown (typed.Constant term v) r t = Shows v r.0 × (r.1.locals ≡ t.locals)
Shown typed.Broken r t = Unit {0}
Shown typed.Spoiled r t = Unit {0}
Shown (typed.Value x) r t = Unit {0}
Shown (typed.This class remote) r t = Unit {0}
Shown (typed.Place p) r t = Unit {0}
Shown (typed.Array p n) r t = Unit {0}
Shown (typed.Object o) r t = Unit {0}

shown_never : (x : Typed) (r : Typed × State) (t : State) → IsOther x → Shown x r t
shown_never (typed.Constant term v) r t h = absurd h
shown_never typed.Broken r t h = tt
shown_never typed.Spoiled r t h = tt
shown_never (typed.Value x) r t h = tt
shown_never (typed.This class remote) r t h = tt
shown_never (typed.Place p) r t h = tt
shown_never (typed.Array p n) r t h = tt
shown_never (typed.Object o) r t h = tt

-- ---- names

-- two contexts with one list of names, of which the second has no members
pub record HasNoMembers (a b : Context) : Type 0 where
  pub names : a.names ≡ b.names
  pub classes : b.tables.classes ≡ []

-- and in which the constants that are declared before have the same values
pub record IsBare (a b : Context) : Type 0 where
  pub plain : HasNoMembers a b
  pub known : a.known ≡ b.known
  pub constants : (k : ℕ) → nat_lt k a.known ≡ true → constant_value a k ≡ constant_value b k

module _ (a b : Context) (bare : IsBare a b) where
  no_member_in : (class : ClassId) (id : MemberId) → member_in (class_at b class) id ≡ None
  no_member_in class id = ap (λ cs. member_in (slice_get cs class.0) id) bare.plain.classes

  no_member : (class : ClassId) (id : Option MemberId) → member_at b class id ≡ None
  no_member class None = refl
  no_member class (Some id) = no_member_in class id

  outside_is : (class : Option ClassId) (text : Name) → outside_by class b text ≡ of_file b text
  outside_is None text = refl
  outside_is (Some class) text = ap (λ x. member_or_file x b text) (no_member class (member_named b.names class text))

  bare_meaning : (text : Name) (t : State) → t.locals ≡ [] → meant b text t ≡ of_entity b (entity_named a.names text)
  bare_meaning text t none =
      ap (λ ls. variable_or (variable text ls) b text) none
      ∙ (outside_is b.class text ∙ ap (λ ns. of_entity b (entity_named ns text)) (sym bare.plain.names))

  known_shown : (v : Option ℤ) (t : State) → Shown (of_constant true v) (of_constant true v, t) t
  known_shown None t = tt
  known_shown (Some n) t = (refl, refl)

  later_shown : (v : Option ℤ) (r : Typed × State) (t : State) → Shown (of_constant false v) r t
  later_shown None r t = tt
  later_shown (Some n) r t = tt

  constant_shown : (x : Bool) (k : ℕ) (t : State) → nat_lt k a.known ≡ x
      → Shown (of_constant x (constant_value a k)) (of_constant (nat_lt k b.known) (constant_value b k), t) t
  constant_shown false k t is = later_shown (constant_value a k) _ t
  constant_shown true k t is =
      let now : nat_lt k b.known ≡ true = ap (λ n. nat_lt k n) (sym bare.known) ∙ is in
      subst (λ y. Shown (of_constant true (constant_value a k)) (of_constant y (constant_value b k), t) t) (sym now)
      (subst (λ v. Shown (of_constant true (constant_value a k)) (of_constant true v, t) t) (bare.constants k is)
      (known_shown (constant_value a k) t))

  entity_shown : (x : Option Entity) (s t : State) → Shown (of_meaning a (of_entity a x) s).0 (of_meaning b (of_entity b x) t) t
  entity_shown None s t = tt
  entity_shown (Some (entity.Class class)) s t = tt
  entity_shown (Some (entity.Function f)) s t = tt
  entity_shown (Some (entity.Constant k)) s t = constant_shown (nat_lt k a.known) k t refl

  abbrev Bare : Name → State → Typed × State
  Bare text t = of_meaning b (of_entity b (entity_named a.names text)) t

  member_shown : (x : Option Member) (text : Name) (s t : State) → Shown (of_meaning a (member_or_file x a text) s).0 (Bare text t) t
  member_shown None text s t = entity_shown (entity_named a.names text) s t
  member_shown (Some (member.Field declared offset)) text s t = shown_never _ _ t (placed_never declared.ty declared.shape _)
  member_shown (Some (member.Method f)) text s t = tt

  outside_shown : (class : Option ClassId) (text : Name) (s t : State) → Shown (of_meaning a (outside_by class a text) s).0 (Bare text t) t
  outside_shown None text s t = entity_shown (entity_named a.names text) s t
  outside_shown (Some class) text s t = member_shown (member_of a class text) text s t

  variable_shown : (x : Option Found) (text : Name) (s t : State) → Shown (of_meaning a (variable_or x a text) s).0 (Bare text t) t
  variable_shown None text s t = outside_shown a.class text s t
  variable_shown (Some found) text s t = shown_never _ _ t (placed_never found.declared.ty found.declared.shape _)

  name_shown : (text : Name) (s t : State) → t.locals ≡ [] → Shown (name a text s).0 (name b text t) t
  name_shown text s t none =
      subst (λ x. Shown (of_meaning a (meant a text s) s).0 (of_meaning b x t) t) (sym (bare_meaning text t none))
      (variable_shown (variable text s.locals) text s t)

-- ---- operators

shows_is : (v : Option ℤ) (y : Typed) → Shows v y → (x : Expression) × (typed.Constant x v ≡ y)
shows_is v (typed.Constant x w) p = (x, ap (λ u. typed.Constant x u) p)
shows_is v typed.Broken p = absurd p
shows_is v typed.Spoiled p = absurd p
shows_is v (typed.Value x) p = absurd p
shows_is v (typed.This class remote) p = absurd p
shows_is v (typed.Place x) p = absurd p
shows_is v (typed.Array x n) p = absurd p
shows_is v (typed.Object x) p = absurd p

-- a constant or not
which : (x : Typed) → IsOther x ⊎ ((term : Expression) × (v : Option ℤ) × (typed.Constant term v ≡ x))
which (typed.Constant term v) = inr (term, v, refl)
which typed.Broken = inl tt
which typed.Spoiled = inl tt
which (typed.Value x) = inl tt
which (typed.This class remote) = inl tt
which (typed.Place x) = inl tt
which (typed.Array x n) = inl tt
which (typed.Object x) = inl tt

shown_moved : (x : Typed) (r : Typed × State) (t u : State) → u.locals ≡ t.locals → Shown x r u → Shown x r t
shown_moved (typed.Constant term v) r t u e p = (p.0, p.1 ∙ e)
shown_moved typed.Broken r t u e p = tt
shown_moved typed.Spoiled r t u e p = tt
shown_moved (typed.Value x) r t u e p = tt
shown_moved (typed.This class remote) r t u e p = tt
shown_moved (typed.Place x) r t u e p = tt
shown_moved (typed.Array x n) r t u e p = tt
shown_moved (typed.Object x) r t u e p = tt

module _ (a b : Context) where
  negated_shown : (x : Typed) (r : Typed × State) (s t : State) → Shown x r t → Shown (negated a x s).0 (negated b r.0 r.1) t
  negated_shown (typed.Constant x v) r s t p =
      let y = shows_is v r.0 p.0 in
      subst (λ q. Shown (negated a (typed.Constant x v) s).0 (negated b q r.1) t) y.1 (refl, p.1)
  negated_shown typed.Broken r s t p = shown_never _ _ t (operated_never a _ typed.Broken s)
  negated_shown typed.Spoiled r s t p = shown_never _ _ t (operated_never a _ typed.Spoiled s)
  negated_shown (typed.Value x) r s t p = shown_never _ _ t (operated_never a _ (typed.Value x) s)
  negated_shown (typed.This class remote) r s t p = shown_never _ _ t (operated_never a _ (typed.This class remote) s)
  negated_shown (typed.Place x) r s t p = shown_never _ _ t (operated_never a _ (typed.Place x) s)
  negated_shown (typed.Array x n) r s t p = shown_never _ _ t (operated_never a _ (typed.Array x n) s)
  negated_shown (typed.Object x) r s t p = shown_never _ _ t (operated_never a _ (typed.Object x) s)

  unary_shown : (o : UnaryOp) (x : Typed) (r : Typed × State) (s t : State) → Shown x r t → Shown (unary a o x s).0 (unary b o r.0 r.1) t
  unary_shown prefix.Neg x r s t p = negated_shown x r s t p
  unary_shown prefix.Not x r s t p = shown_never _ _ t (operated_never a _ x s)
  unary_shown prefix.Deref x r s t p = shown_never _ _ t (dereferenced_never a x s)
  unary_shown prefix.Address x r s t p = shown_never _ _ t (address_never a x s)

module _ (a : Context) where
  joined_numbers_left : (o : BinaryOp) (sum : Op) (x z : Typed) → IsOther x → Never (joined_numbers a o sum x z)
  joined_numbers_left o sum (typed.Constant x v) z h = absurd h
  joined_numbers_left o sum typed.Broken z h = joined_values_never a o typed.Broken z
  joined_numbers_left o sum typed.Spoiled z h = joined_values_never a o typed.Spoiled z
  joined_numbers_left o sum (typed.Value x) z h = joined_values_never a o (typed.Value x) z
  joined_numbers_left o sum (typed.This class remote) z h = joined_values_never a o (typed.This class remote) z
  joined_numbers_left o sum (typed.Place x) z h = joined_values_never a o (typed.Place x) z
  joined_numbers_left o sum (typed.Array x n) z h = joined_values_never a o (typed.Array x n) z
  joined_numbers_left o sum (typed.Object x) z h = joined_values_never a o (typed.Object x) z

  joined_constant_right : (o : BinaryOp) (sum : Op) (x : Expression) (v : Option ℤ) (z : Typed) → IsOther z → Never (joined_constant a o sum x v z)
  joined_constant_right o sum x v (typed.Constant z u) h = absurd h
  joined_constant_right o sum x v typed.Broken h = joined_values_never a o _ typed.Broken
  joined_constant_right o sum x v typed.Spoiled h = joined_values_never a o _ typed.Spoiled
  joined_constant_right o sum x v (typed.Value z) h = joined_values_never a o _ (typed.Value z)
  joined_constant_right o sum x v (typed.This class remote) h = joined_values_never a o _ (typed.This class remote)
  joined_constant_right o sum x v (typed.Place z) h = joined_values_never a o _ (typed.Place z)
  joined_constant_right o sum x v (typed.Array z n) h = joined_values_never a o _ (typed.Array z n)
  joined_constant_right o sum x v (typed.Object z) h = joined_values_never a o _ (typed.Object z)

  joined_numbers_right : (o : BinaryOp) (sum : Op) (x z : Typed) → IsOther z → Never (joined_numbers a o sum x z)
  joined_numbers_right o sum (typed.Constant x v) z h = joined_constant_right o sum x v z h
  joined_numbers_right o sum typed.Broken z h = joined_values_never a o typed.Broken z
  joined_numbers_right o sum typed.Spoiled z h = joined_values_never a o typed.Spoiled z
  joined_numbers_right o sum (typed.Value x) z h = joined_values_never a o (typed.Value x) z
  joined_numbers_right o sum (typed.This class remote) z h = joined_values_never a o (typed.This class remote) z
  joined_numbers_right o sum (typed.Place x) z h = joined_values_never a o (typed.Place x) z
  joined_numbers_right o sum (typed.Array x n) z h = joined_values_never a o (typed.Array x n) z
  joined_numbers_right o sum (typed.Object x) z h = joined_values_never a o (typed.Object x) z

  joined_as_left : (sum : Option Op) (o : BinaryOp) (x z : Typed) → IsOther x → Never (joined_as sum a o x z)
  joined_as_left None o x z h = joined_values_never a o x z
  joined_as_left (Some sum) o x z h = joined_numbers_left o sum x z h

  joined_as_right : (sum : Option Op) (o : BinaryOp) (x z : Typed) → IsOther z → Never (joined_as sum a o x z)
  joined_as_right None o x z h = joined_values_never a o x z
  joined_as_right (Some sum) o x z h = joined_numbers_right o sum x z h

  joined_left : (o : BinaryOp) (x z : Typed) → IsOther x → Never (joined a o x z)
  unfolding joined
  joined_left o x z h = joined_as_left (arithmetic o) o x z h

  joined_right : (o : BinaryOp) (x z : Typed) → IsOther z → Never (joined a o x z)
  unfolding joined
  joined_right o x z h = joined_as_right (arithmetic o) o x z h

-- after an operator: no constant, or the same one, and nothing more in scope
abbrev Linked : Typed → Typed × State → State → Type 0
Linked c d t = IsOther c ⊎ (Shown c d d.1 × (d.1.locals ≡ t.locals))

module _ (a b : Context) where
  joined_as_linked : (sum : Option Op) (o : BinaryOp) (x y z w : Expression) (v u : Option ℤ) (s q t : State) → q.locals ≡ t.locals
      → Linked (joined_as sum a o (typed.Constant x v) (typed.Constant z u) s).0 (joined_as sum b o (typed.Constant y v) (typed.Constant w u) q) t
  joined_as_linked None o x y z w v u s q t e = inl (joined_values_never a o (typed.Constant x v) (typed.Constant z u) s)
  joined_as_linked (Some sum) o x y z w v u s q t e = inr ((refl, refl), e)

  constants_linked : (o : BinaryOp) (x y z w : Expression) (v u : Option ℤ) (s q t : State) → q.locals ≡ t.locals
      → Linked (joined a o (typed.Constant x v) (typed.Constant z u) s).0 (joined b o (typed.Constant y v) (typed.Constant w u) q) t
  unfolding joined
  constants_linked o x y z w v u s q t e = joined_as_linked (arithmetic o) o x y z w v u s q t e

  right_linked : (o : BinaryOp) (x : Expression) (v : Option ℤ) (y : Expression) (z : Typed) (w : Typed × State) (s t : State) → Shown z w t
      → Linked (joined a o (typed.Constant x v) z s).0 (joined b o (typed.Constant y v) w.0 w.1) t
  right_linked o x v y z w s t p = ⊎_elim (λ h. inl (joined_right a o (typed.Constant x v) z h s))
      (λ c. let q = subst (λ k. Shown k w t) (sym c.2) p in
      let g = shows_is c.1 w.0 q.0 in
      subst (λ k. Linked (joined a o (typed.Constant x v) k s).0 (joined b o (typed.Constant y v) w.0 w.1) t) c.2
      (subst (λ k. Linked (joined a o (typed.Constant x v) (typed.Constant c.0 c.1) s).0 (joined b o (typed.Constant y v) k w.1) t) g.1
      (constants_linked o x y c.0 g.0 v c.1 s w.1 t q.1)))
      (which z)

  linked : (o : BinaryOp) (x y z : Typed) (w : Typed × State) (s t : State) → Shown x (y, t) t → Shown z w t
      → Linked (joined a o x z s).0 (joined b o y w.0 w.1) t
  linked o x y z w s t p q = ⊎_elim (λ h. inl (joined_left a o x z h s))
      (λ c. let p' = subst (λ k. Shown k (y, t) t) (sym c.2) p in
      let g = shows_is c.1 y p'.0 in
      subst (λ k. Linked (joined a o k z s).0 (joined b o y w.0 w.1) t) c.2
      (subst (λ k. Linked (joined a o (typed.Constant c.0 c.1) z s).0 (joined b o k w.0 w.1) t) g.1
      (right_linked o c.0 c.1 g.0 z w s t q)))
      (which x)

-- ---- one level, where it holds of the expressions in it

module _ (a b : Context) (bare : IsBare a b) (expr : Context → Expr → Elab Typed)
    (reads : (e : Expr) (s t : State) → t.locals ≡ [] → Shown (expr a e s).0 (expr b e t) t) where
  links_never : (ls : List Link) (x : Typed) (s : State) → IsOther x → IsOther (links_from expr a x ls s).0
  links_never [] x s h = h
  links_never (l ∷ ls) x s h =
      let z = expr a (out-Link l).part s in
      let c = joined a (out-Link l).op x z.0 z.1 in
      links_never ls c.0 c.1 (joined_left a (out-Link l).op x z.0 h z.1)

  links_shown : (ls : List Link) (x y : Typed) (s t : State) → t.locals ≡ [] → Shown x (y, t) t
      → Shown (links_from expr a x ls s).0 (links_from expr b y ls t) t
  links_shown [] x y s t none p = p
  links_shown (l ∷ ls) x y s t none p =
      let z = expr a (out-Link l).part s in
      let w = expr b (out-Link l).part t in
      let c = joined a (out-Link l).op x z.0 z.1 in
      let d = joined b (out-Link l).op y w.0 w.1 in
      ⊎_elim (λ h. shown_never _ (links_from expr b d.0 ls d.1) t (links_never ls c.0 c.1 h))
      (λ q. shown_moved (links_from expr a c.0 ls c.1).0 (links_from expr b d.0 ls d.1) t d.1 q.1
      (links_shown ls c.0 d.0 c.1 d.1 (q.1 ∙ none) q.0))
      (linked a b (out-Link l).op x y z.0 w z.1 t p (reads (out-Link l).part s t none))

  -- the first of a row begins where it ends
  chain_shown : (first : Expr) (rest : List Link) (s t : State) → t.locals ≡ [] → Shown (chain expr a first rest s).0 (chain expr b first rest t) t
  unfolding chain
  chain_shown first rest s t none =
      let z = expr a first s in
      let w = expr b first t in
      ⊎_elim (λ h. shown_never _ (links_from expr b w.0 rest w.1) t (links_never rest z.0 z.1 h))
      (λ c. let q = subst (λ k. Shown k w t) (sym c.2) (reads first s t none) in
      shown_moved (links_from expr a z.0 rest z.1).0 (links_from expr b w.0 rest w.1) t w.1 q.1
      (links_shown rest z.0 w.0 z.1 w.1 (q.1 ∙ none) (subst (λ k. Shown k (w.0, w.1) w.1) c.2 (q.0, refl))))
      (which z.0)

  -- ---- what follows a root is no constant

  index_value_never : (t : Typed) (e : Expr) → Never (index_value expr a t e)
  unfolding index_value operand
  index_value_never t e = λ s.
      let x = decay a t s in let z = expr a e x.1 in let i = decay a z.0 z.1 in indexed_value_never a x.0 i.0 i.1

  index_array_never : (p : Place) (n : ℕ) (e : Expr) → Never (index_array expr a p n e)
  unfolding index_array operand
  index_array_never p n e = λ s. let z = expr a e s in let i = decay a z.0 z.1 in indexed_array_never a p n i.0 i.1

  index_never : (t : Typed) (e : Expr) → Never (index expr a t e)
  index_never (typed.Array p n) e = index_array_never p n e
  index_never (typed.Constant x v) e = index_value_never (typed.Constant x v) e
  index_never typed.Broken e = index_value_never typed.Broken e
  index_never typed.Spoiled e = index_value_never typed.Spoiled e
  index_never (typed.Value x) e = index_value_never (typed.Value x) e
  index_never (typed.This class remote) e = index_value_never (typed.This class remote) e
  index_never (typed.Place x) e = index_value_never (typed.Place x) e
  index_never (typed.Object x) e = index_value_never (typed.Object x) e

  suffix_as_never : (t : Typed) (l : SuffixLayer) → Never (suffix_as expr a t l)
  unfolding field call_on
  suffix_as_never t (Suffix-F.Index e) = index_never t e
  suffix_as_never t (Suffix-F.Field arrow text) = λ s. let o = object_of a arrow t s in field_of_never a text o.0 o.1
  suffix_as_never t (Suffix-F.CallOn arrow text es) = λ s.
      let o = object_of a arrow t s in let x = args expr a es o.1 in call_member_never a text o.0 x.0 x.1

  suffix_never : (t : Typed) (x : Suffix) → Never (suffix expr a t x)
  unfolding suffix
  suffix_never t x = suffix_as_never t (out-Suffix x)

  suffixes_never : (t : Typed) (xs : List Suffix) (s : State) → IsOther t → IsOther (suffixes_from expr a t xs s).0
  suffixes_never t [] s h = h
  suffixes_never t (x ∷ xs) s h = let r = suffix expr a t x s in suffixes_never r.0 xs r.1 (suffix_never t x s)

  post_shown : (e : Expr) (tail : List Suffix) (s t : State) → t.locals ≡ [] → Shown (post expr a e tail s).0 (post expr b e tail t) t
  unfolding post
  post_shown e [] s t none = reads e s t none
  post_shown e (x ∷ xs) s t none =
      let z = expr a e s in
      let r = suffix expr a z.0 x z.1 in
      shown_never _ _ t (suffixes_never r.0 xs r.1 (suffix_never z.0 x z.1))

  new_int_never : (sync : Bool) (o : Option Expr) → Never (new_int expr a sync o)
  unfolding new_length
  new_int_never sync None = λ s. tt
  new_int_never sync (Some e) = λ s. let z = expr a e s in new_array_never a sync (length_of a z.0 z.1).0

  -- ---- each form

  kind_shown : (l : Layer) (s t : State) → t.locals ≡ [] → Shown (kind expr a l s).0 (kind expr b l t) t
  unfolding call prefixed new_class
  kind_shown (ExprKind-F.Int n) s t none = (refl, refl)
  kind_shown ExprKind-F.Null s t none = tt
  kind_shown ExprKind-F.This s t none = shown_never _ _ t (this_never a s)
  kind_shown (ExprKind-F.Name text) s t none = name_shown a b bare text s t none
  kind_shown (ExprKind-F.Call text es) s t none =
      let x = args expr a es s in shown_never _ _ t (call_named_never a (meant a text x.1) x.0 x.1)
  kind_shown (ExprKind-F.Paren e) s t none = reads e s t none
  kind_shown (ExprKind-F.Post e tail) s t none = post_shown e tail s t none
  kind_shown (ExprKind-F.Unary o e) s t none =
      let z = expr a e s in unary_shown a b o z.0 (expr b e t) z.1 t (reads e s t none)
  kind_shown (ExprKind-F.Chain e rest) s t none = chain_shown e rest s t none
  kind_shown (ExprKind-F.NewInt sync o) s t none = shown_never _ _ t (new_int_never sync o s)
  kind_shown (ExprKind-F.NewClass text es) s t none =
      let x = args expr a es s in shown_never _ _ t (new_object_never a (class_named a.names text) x.0 x.1)

  node_shown : (e : Expr) (s t : State) → t.locals ≡ [] → Shown (node expr a e s).0 (node expr b e t) t
  unfolding node
  node_shown e s t none = kind_shown (out-ExprKind (out-Expr e).kind) s t none

-- ---- each depth, and so lengths and constants

module _ (a b : Context) (bare : IsBare a b) where
  expr_to_shown : (depth : ℕ) (e : Expr) (s t : State) → t.locals ≡ [] → Shown (expr_to depth a e s).0 (expr_to depth b e t) t
  unfolding expr_to
  expr_to_shown zero e s t none = tt
  expr_to_shown (suc depth) e s t none = node_shown a b bare (expr_to depth) (expr_to_shown depth) e s t none

  range_same : (c : Bool) (x y : Broken) (n : ℕ) (s t : State)
      → ((if c then no_length x else pure (Some n)) s).0 ≡ ((if c then no_length y else pure (Some n)) t).0
  range_same true x y n s t = refl
  range_same false x y n s t = refl

  value_length_same : (v : Option ℤ) (s t : State) → (value_length a v s).0 ≡ (value_length b v t).0
  unfolding length_in_range
  value_length_same None s t = refl
  value_length_same (Some n) s t =
      range_same (int_lt n (pos 1) || int_lt (pos 65536) n) (Limit ArrayLength a.line) (Limit ArrayLength b.line) (natural n) s t

  length_same : (x : Typed) (r : Typed × State) (s t : State) (k : ℕ) → Shown x r t → (length_of a x s).0 ≡ Some k → (length_of b r.0 r.1).0 ≡ Some k
  length_same (typed.Constant x v) r s t k p is =
      let y = shows_is v r.0 p.0 in
      subst (λ q. (length_of b q r.1).0 ≡ Some k) y.1 (sym (value_length_same v s r.1) ∙ is)
  length_same typed.Broken r s t k p is = absurd (none-some k is)
  length_same typed.Spoiled r s t k p is = absurd (none-some k is)
  length_same (typed.Value x) r s t k p is = absurd (none-some k is)
  length_same (typed.This class remote) r s t k p is = absurd (none-some k is)
  length_same (typed.Place x) r s t k p is = absurd (none-some k is)
  length_same (typed.Array x n) r s t k p is = absurd (none-some k is)
  length_same (typed.Object x) r s t k p is = absurd (none-some k is)

  -- a length that is one is the same one
  pub array_length_same : (e : Expr) (s t : State) (k : ℕ) → t.locals ≡ [] → (array_length a e s).0 ≡ Some k → (array_length b e t).0 ≡ Some k
  unfolding array_length
  array_length_same e s t k none is =
      let z = expr a e s in length_same z.0 (expr b e t) z.1 t k (expr_to_shown 1000 e s t none) is

  value_same : (v : Option ℤ) (s t : State) → (value_or_fault a v s).0 ≡ (value_or_fault b v t).0
  value_same None s t = refl
  value_same (Some n) s t = refl

  constant_of_same : (x : Typed) (r : Typed × State) (s t : State) (n : ℤ) → Shown x r t → (constant_of a x s).0 ≡ Some n → (constant_of b r.0 r.1).0 ≡ Some n
  constant_of_same (typed.Constant x v) r s t n p is =
      let y = shows_is v r.0 p.0 in
      subst (λ q. (constant_of b q r.1).0 ≡ Some n) y.1 (sym (value_same v s r.1) ∙ is)
  constant_of_same typed.Broken r s t n p is = absurd (none-some n is)
  constant_of_same typed.Spoiled r s t n p is = absurd (none-some n is)
  constant_of_same (typed.Value x) r s t n p is = absurd (none-some n is)
  constant_of_same (typed.This class remote) r s t n p is = absurd (none-some n is)
  constant_of_same (typed.Place x) r s t n p is = absurd (none-some n is)
  constant_of_same (typed.Array x k) r s t n p is = absurd (none-some n is)
  constant_of_same (typed.Object x) r s t n p is = absurd (none-some n is)

  -- the value of a named constant that has one is the same one
  pub constant_same : (e : Expr) (s t : State) (n : ℤ) → t.locals ≡ [] → (constant a e s).0 ≡ Some n → (constant b e t).0 ≡ Some n
  unfolding constant
  constant_same e s t n none is =
      let z = expr a e s in constant_of_same z.0 (expr b e t) z.1 t n (expr_to_shown 1000 e s t none) is
