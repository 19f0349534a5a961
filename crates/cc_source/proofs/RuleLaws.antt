-- What a program is that breaks no rule of the first group.
use Rattle.std.proofs.Common.{◌≡◌, ℕ, Bool, true, false, cond, zero, suc, ◌≤◌, List, [], ◌∷◌, ◌++◌, length, Option, Some, None, refl, sym, ap, arith}
use Rattle.std.specs.Prelude.{slice_get, option_map}
use Rattle.std.proofs.lemmas.Option.{none-some}
use Rattle.cc_names.specs.Group.{past, class_lines, function_lines, member_lines, constructor_lines, second_constructors, parameter_rules, member_rules, class_rules, item_rules}
use Rattle.cc_names.specs.Group.{is_main, no_main, file_rules, first_group}
use Rattle.std.specs.List.{list_any}
use Rattle.cc_names.specs.Table.{twice}
use Rattle.cc_names.specs.Declarations.{file, members}
use Rattle.cc_names.specs.declared.broken.Broken.TheVariants.{Rule, Limit}
use Rattle.cc_names.specs.declared.rule.StaticRule.TheVariants.{NoMain}
use Rattle.cc_names.specs.declared.rule.StaticLimit.{StaticLimit}
use Rattle.cc_names.specs.declared.rule.StaticLimit.TheVariants.{Classes, Functions, Members, Parameters}
use Rattle.cc_tree.specs.declared.declarations.Item.{Item}
use Rattle.cc_tree.specs.declared.declarations.Member.{Member}
use Rattle.cc_tree.specs.declared.declarations.Param.{Param}

pub not_empty : {A : Type 0} (x : A) (xs : List A) → x ∷ xs ≡ [] → ⊥
not_empty x xs e = let l : suc (length xs) ≡ 0 = ap (λ ys. length ys) e in omega (arith, l)

pub empty_before : {A : Type 0} (xs ys : List A) → xs ++ ys ≡ [] → xs ≡ []
empty_before [] ys e = refl
empty_before (x ∷ xs) ys e = absurd (not_empty x (xs ++ ys) e)

pub empty_behind : {A : Type 0} (xs ys : List A) → xs ++ ys ≡ [] → ys ≡ []
empty_behind [] ys e = e
empty_behind (x ∷ xs) ys e = absurd (not_empty x (xs ++ ys) e)

-- nothing stands past a limit
none_past : (which : StaticLimit) (o : Option ℕ) → past which o ≡ [] → o ≡ None
none_past which None e = refl
none_past which (Some line) e = absurd (not_empty (Limit which line) [] e)

pub few_enough : {A : Type 0} (xs : List A) (k : ℕ) → slice_get xs k ≡ None → length xs ≤ k
few_enough [] k e = omega arith
few_enough (x ∷ xs) zero e = absurd (none-some x (sym e))
few_enough (x ∷ xs) (suc k) e = let rest : length xs ≤ k = few_enough xs k e in omega (arith, rest)

mapped_none : {A B : Type 0} (f : A → B) (o : Option A) → option_map f o ≡ None → o ≡ None
mapped_none f None e = refl
mapped_none f (Some a) e = absurd (none-some (f a) (sym e))

pub few_params : (ps : List Param) → parameter_rules ps ≡ [] → length ps ≤ 8
few_params ps e = few_enough ps 8 (mapped_none (λ (p : Param). p.line) (slice_get ps 8) (none_past Parameters _ e))

-- ---- a class

pub record ClassKeeps (ms : List Member) : Type 0 where
  pub constructors : second_constructors (constructor_lines ms) ≡ []
  pub few : length (member_lines ms) ≤ 256
  pub members : member_rules ms ≡ []

pub rules_of_class : (ms : List Member) → class_rules ms ≡ [] → ClassKeeps ms
rules_of_class ms e =
    let names = twice [] (members ms) in
    let makers = second_constructors (constructor_lines ms) in
    let many = past Members (slice_get (member_lines ms) 256) in
    let front = empty_before (names ++ makers ++ many) (member_rules ms) e in
    record {
      constructors = empty_behind names makers (empty_before (names ++ makers) many front);
      few = few_enough (member_lines ms) 256 (none_past Members _ (empty_behind (names ++ makers) many front));
      members = empty_behind (names ++ makers ++ many) (member_rules ms) e;
    }

-- ---- a file

pub record FileKeeps (xs : List Item) : Type 0 where
  pub classes : length (class_lines xs) ≤ 256
  pub functions : length (function_lines xs) ≤ 1024
  pub items : item_rules xs ≡ []
  pub names : twice [] (file xs) ≡ []
  pub main : list_any is_main xs ≡ true

has_main : (b : Bool) → cond b [] (Rule NoMain 1 ∷ []) ≡ [] → b ≡ true
has_main true e = refl
has_main false e = absurd (not_empty (Rule NoMain 1) [] e)

pub rules_of_file : (xs : List Item) → first_group xs ≡ [] → FileKeeps xs
rules_of_file xs e =
    let names = twice [] (file xs) in
    let classes = past Classes (slice_get (class_lines xs) 256) in
    let functions = past Functions (slice_get (function_lines xs) 1024) in
    let front = empty_behind (no_main xs) (file_rules xs) (empty_before (no_main xs ++ file_rules xs) (item_rules xs) e) in
    record {
      classes = few_enough (class_lines xs) 256 (none_past Classes _ (empty_behind names classes (empty_before (names ++ classes) functions front)));
      functions = few_enough (function_lines xs) 1024 (none_past Functions _ (empty_behind (names ++ classes) functions front));
      items = empty_behind (no_main xs ++ file_rules xs) (item_rules xs) e;
      names = empty_before names classes (empty_before (names ++ classes) functions front);
      main = has_main (list_any is_main xs) (empty_before (no_main xs) (file_rules xs) (empty_before (no_main xs ++ file_rules xs) (item_rules xs) e));
    }
