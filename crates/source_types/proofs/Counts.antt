-- How many functions there are in each list, and that each is atomic where it is declared so.
use Rattle.std.proofs.Common.{◌≡◌, ℕ, zero, suc, ◌+◌, ◌<◌, Bool, List, [], ◌∷◌, ◌++◌, length, map, Some, None, refl, sym, ap, ◌∙◌, arith, append-nil, append_assoc, length-append}
use Rattle.std.specs.Prelude.{slice_get, get_or}
use Rattle.std.proofs.lemmas.Option.{none-some}
use Rattle.cc_core.specs.declared.program.Function.{Function as CoreFunction}
use Rattle.cc_blocking.specs.Rounds.{is_marked}
use Rattle.cc_blocking.specs.declared.conduct.Conduct.{Conduct}
use Rattle.cc_functions.specs.declared.done.Done.{Done}
use Rattle.cc_functions.specs.Functions.{function_at, parts}
use Rattle.cc_functions.specs.Items.{no_members, field_member, function_member, member_by, members_from, class_item}
use Rattle.cc_functions.specs.Items.{function_item, class_id, after_constant, after_class, after_function, items_from}
use Rattle.cc_names.specs.Names.{NameTables}
use Rattle.cc_ops.specs.declared.shape.ClassShape.{ClassShape}
use Rattle.cc_scopes.specs.declared.state.State.{State}
use Rattle.cc_scopes.specs.declared.tables.Tables.{Tables}
use Rattle.cc_scopes.specs.Scope.{Context}
use Rattle.cc_shared.proofs.KnownLaws.{each_append}
use Rattle.cc_shared.proofs.Proper.{EachOf}
use Rattle.cc_tables.specs.Tables.{outside, methods, functions_of}
use Rattle.cc_tree.specs.declared.declarations.ClassDecl.{ClassDecl}
use Rattle.cc_tree.specs.declared.declarations.Item.{Item}
use Rattle.cc_tree.specs.declared.declarations.Item.TheVariants as item
use Rattle.cc_tree.specs.declared.declarations.Member.{Member}
use Rattle.cc_tree.specs.declared.declarations.Member.TheVariants as member
use Rattle.core_types.specs.Types.{FunctionTypes, Target, no_function}
use Rattle.source_types.proofs.FunctionLaws.{ReadFunction}
use Rattle.source_types.proofs.FunctionItems.{members_read, items_read}
use Rattle.source_types.proofs.TypeTables.{method_types, typed_functions, with_vars, with_marks, methods_typed}

-- ---- lists

pub got_at : {A : Type 0} (xs : List A) (k : ℕ) → k < length xs → (x : A) × (slice_get xs k ≡ Some x)
got_at [] k lt = let e : k < 0 = lt in absurd (omega arith)
got_at (x ∷ xs) zero lt = (x, refl)
got_at (x ∷ xs) (suc k) lt = got_at xs k (omega arith)

pub mapped_none : {A B : Type 0} (f : A → B) (xs : List A) (k : ℕ) (d : B) → slice_get xs k ≡ None → get_or (map f xs) k d ≡ d
mapped_none f [] k d is = refl
mapped_none f (x ∷ xs) zero d is = absurd (none-some x (sym is))
mapped_none f (x ∷ xs) (suc k) d is = mapped_none f xs k d is

map_append : {A B : Type 0} (f : A → B) (xs ys : List A) → map f (xs ++ ys) ≡ map f xs ++ map f ys
map_append f [] ys = refl
map_append f (x ∷ xs) ys = ap (λ zs. f x ∷ zs) (map_append f xs ys)

-- ---- the types of functions

pub typed_counted : (cx : Context) (c : ℕ) (xs : List Item) → length (typed_functions cx c xs) ≡ length (functions_of cx xs)
typed_counted cx c [] = refl
typed_counted cx c (item.Const name value line ∷ xs) = typed_counted cx c xs
typed_counted cx c (item.Class class ∷ xs) =
    let ms = methods cx class.members in
    let a : length (method_types c ms ++ typed_functions cx (c + 1) xs) ≡ length (method_types c ms) + length (typed_functions cx (c + 1) xs) =
    length-append (method_types c ms) (typed_functions cx (c + 1) xs) in
    let b : length (ms ++ functions_of cx xs) ≡ length ms + length (functions_of cx xs) = length-append ms (functions_of cx xs) in
    let e : length (method_types c ms) ≡ length ms = methods_typed c ms in
    let rest : length (typed_functions cx (c + 1) xs) ≡ length (functions_of cx xs) = typed_counted cx (c + 1) xs in
    omega (arith, a, b, e, rest)
typed_counted cx c (item.Func f ∷ xs) = ap suc (typed_counted cx c xs)

pub vars_counted : (ts : List FunctionTypes) (vss : List (List Target)) → length (with_vars ts vss) ≡ length ts
vars_counted [] vss = refl
vars_counted (t ∷ ts) [] = refl
vars_counted (t ∷ ts) (vs ∷ vss) = ap suc (vars_counted ts vss)

-- a function may wait where it is marked
pub marked_at : (ts : List FunctionTypes) (marks : List Bool) (f : ℕ) → f < length ts → f < length marks
    → get_or (with_marks ts marks) f no_function ≡ record (get_or ts f no_function) { waits = is_marked marks f }
marked_at [] marks f lt less = let e : f < 0 = lt in absurd (omega arith)
marked_at (t ∷ ts) [] f lt less = let e : f < 0 = less in absurd (omega arith)
marked_at (t ∷ ts) (mark ∷ marks) zero lt less = refl
marked_at (t ∷ ts) (mark ∷ marks) (suc f) lt less = marked_at ts marks f (omega arith) (omega arith)

pub marked_none : (ts : List FunctionTypes) (marks : List Bool) (f : ℕ) → slice_get ts f ≡ None → get_or (with_marks ts marks) f no_function ≡ no_function
marked_none [] marks f is = refl
marked_none (t ∷ ts) [] zero is = absurd (none-some t (sym is))
marked_none (t ∷ ts) [] (suc f) is = none_at ts f is
  where
    none_at : (ts : List FunctionTypes) (f : ℕ) → slice_get ts f ≡ None → get_or ts f no_function ≡ no_function
    none_at [] f is = refl
    none_at (t ∷ ts) zero is = absurd (none-some t (sym is))
    none_at (t ∷ ts) (suc f) is = none_at ts f is
marked_none (t ∷ ts) (mark ∷ marks) zero is = absurd (none-some t (sym is))
marked_none (t ∷ ts) (mark ∷ marks) (suc f) is = marked_none ts marks f is

-- ---- what is read of functions

abbrev pub IsAsDeclared : ReadFunction → Type 0
IsAsDeclared x = x.function.shape.atomic ≡ x.conduct.atomic

abbrev pub core_in : ReadFunction → CoreFunction
core_in x = x.function

abbrev pub conduct_in : ReadFunction → Conduct
conduct_in x = x.conduct

module _ (cx : Context) (class : ClassDecl) where
  members_counted : (b : Context) (d : Done) (shape : ClassShape) (ms : List Member) (s : State) → length (members_read cx class d shape ms s) ≡ length (methods b ms)
  members_counted b d shape [] s = refl
  members_counted b d shape (member.Field x ∷ ms) s =
      let w = member_by (member.Field x) cx class d shape s in members_counted b (w.0).0 (w.0).1 ms w.1
  members_counted b d shape (member.Func f ∷ ms) s =
      let w = member_by (member.Func f) cx class d shape s in ap suc (members_counted b (w.0).0 (w.0).1 ms w.1)
  members_counted b d shape (member.Build name params body line ∷ ms) s =
      let w = member_by (member.Build name params body line) cx class d shape s in members_counted b (w.0).0 (w.0).1 ms w.1

  members_declared : (d : Done) (shape : ClassShape) (ms : List Member) (s : State) → EachOf IsAsDeclared (members_read cx class d shape ms s)
  unfolding function_at parts
  members_declared d shape [] s = tt
  members_declared d shape (member.Field x ∷ ms) s =
      let w = member_by (member.Field x) cx class d shape s in members_declared (w.0).0 (w.0).1 ms w.1
  members_declared d shape (member.Func f ∷ ms) s =
      let w = member_by (member.Func f) cx class d shape s in (refl, members_declared (w.0).0 (w.0).1 ms w.1)
  members_declared d shape (member.Build name params body line ∷ ms) s =
      let w = member_by (member.Build name params body line) cx class d shape s in members_declared (w.0).0 (w.0).1 ms w.1

  -- they are behind those that were done before
  members_done : (d : Done) (sh : ClassShape) (ms : List Member) (s : State)
      → ((members_from cx class d sh ms s).0.0.functions ≡ d.functions ++ map core_in (members_read cx class d sh ms s))
      × ((members_from cx class d sh ms s).0.0.conducts ≡ d.conducts ++ map conduct_in (members_read cx class d sh ms s))
  unfolding field_member function_member
  members_done d sh [] s = (sym (append-nil d.functions), sym (append-nil d.conducts))
  members_done d sh (member.Field x ∷ ms) s =
      let w = member_by (member.Field x) cx class d sh s in members_done (w.0).0 (w.0).1 ms w.1
  members_done d sh (member.Func f ∷ ms) s =
      let w = member_by (member.Func f) cx class d sh s in
      let rest = members_done (w.0).0 (w.0).1 ms w.1 in
      let more = members_read cx class (w.0).0 (w.0).1 ms w.1 in
      (rest.0 ∙ append_assoc d.functions (_ ∷ []) (map core_in more), rest.1 ∙ append_assoc d.conducts (_ ∷ []) (map conduct_in more))
  members_done d sh (member.Build name params body line ∷ ms) s =
      let w = member_by (member.Build name params body line) cx class d sh s in members_done (w.0).0 (w.0).1 ms w.1

module _ (names : NameTables) (t : Tables) where
  pub items_counted : (b : Context) (k c : ℕ) (d : Done) (xs : List Item) (s : State) → length (items_read names t k c d xs s) ≡ length (functions_of b xs)
  items_counted b k c d [] s = refl
  items_counted b k c d (item.Const name value line ∷ xs) s =
      let w = after_constant names t (record { constants = k; classes = c; done = d }) value line s in items_counted b w.0.constants w.0.classes w.0.done xs w.1
  items_counted b k c d (item.Class class ∷ xs) s =
      let w = after_class names t (record { constants = k; classes = c; done = d }) class s in
      let ms = members_read (outside names t k (Some (class_id c)) class.line) class d no_members class.members s in
      let rest = items_read names t w.0.constants w.0.classes w.0.done xs w.1 in
      let a : length (ms ++ rest) ≡ length ms + length rest = length-append ms rest in
      let e : length (methods b class.members ++ functions_of b xs) ≡ length (methods b class.members) + length (functions_of b xs) =
      length-append (methods b class.members) (functions_of b xs) in
      let m : length ms ≡ length (methods b class.members) =
      members_counted (outside names t k (Some (class_id c)) class.line) class b d no_members class.members s in
      let r : length rest ≡ length (functions_of b xs) = items_counted b w.0.constants w.0.classes w.0.done xs w.1 in
      omega (arith, a, e, m, r)
  items_counted b k c d (item.Func f ∷ xs) s =
      let w = after_function names t (record { constants = k; classes = c; done = d }) f s in ap suc (items_counted b w.0.constants w.0.classes w.0.done xs w.1)

  pub items_declared : (k c : ℕ) (d : Done) (xs : List Item) (s : State) → EachOf IsAsDeclared (items_read names t k c d xs s)
  unfolding function_at parts
  items_declared k c d [] s = tt
  items_declared k c d (item.Const name value line ∷ xs) s =
      let w = after_constant names t (record { constants = k; classes = c; done = d }) value line s in items_declared w.0.constants w.0.classes w.0.done xs w.1
  items_declared k c d (item.Class class ∷ xs) s =
      let w = after_class names t (record { constants = k; classes = c; done = d }) class s in
      let cx = outside names t k (Some (class_id c)) class.line in
      each_append IsAsDeclared (members_read cx class d no_members class.members s) (items_read names t w.0.constants w.0.classes w.0.done xs w.1)
      (members_declared cx class d no_members class.members s) (items_declared w.0.constants w.0.classes w.0.done xs w.1)
  items_declared k c d (item.Func f ∷ xs) s =
      let w = after_function names t (record { constants = k; classes = c; done = d }) f s in (refl, items_declared w.0.constants w.0.classes w.0.done xs w.1)

  pub items_done : (k c : ℕ) (d : Done) (xs : List Item) (s : State)
      → ((items_from names t (record { constants = k; classes = c; done = d }) xs s).0.done.functions ≡ d.functions ++ map core_in (items_read names t k c d xs s))
      × ((items_from names t (record { constants = k; classes = c; done = d }) xs s).0.done.conducts ≡ d.conducts ++ map conduct_in (items_read names t k c d xs s))
  unfolding after_constant after_class after_function class_item function_item
  items_done k c d [] s = (sym (append-nil d.functions), sym (append-nil d.conducts))
  items_done k c d (item.Const name value line ∷ xs) s =
      let w = after_constant names t (record { constants = k; classes = c; done = d }) value line s in items_done w.0.constants w.0.classes w.0.done xs w.1
  items_done k c d (item.Class class ∷ xs) s =
      let w = after_class names t (record { constants = k; classes = c; done = d }) class s in
      let cx = outside names t k (Some (class_id c)) class.line in
      let mine = members_read cx class d no_members class.members s in
      let more = items_read names t w.0.constants w.0.classes w.0.done xs w.1 in
      let rest = items_done w.0.constants w.0.classes w.0.done xs w.1 in
      let members = members_done cx class d no_members class.members s in (
        rest.0 ∙ (ap (λ fs. fs ++ map core_in more) members.0
            ∙ (append_assoc d.functions (map core_in mine) (map core_in more) ∙ ap (λ zs. d.functions ++ zs) (sym (map_append core_in mine more)))),
        rest.1 ∙ (ap (λ fs. fs ++ map conduct_in more) members.1
            ∙ (append_assoc d.conducts (map conduct_in mine) (map conduct_in more) ∙ ap (λ zs. d.conducts ++ zs) (sym (map_append conduct_in mine more)))),
      )
  items_done k c d (item.Func f ∷ xs) s =
      let w = after_function names t (record { constants = k; classes = c; done = d }) f s in
      let more = items_read names t w.0.constants w.0.classes w.0.done xs w.1 in
      let rest = items_done w.0.constants w.0.classes w.0.done xs w.1 in
      (rest.0 ∙ append_assoc d.functions (_ ∷ []) (map core_in more), rest.1 ∙ append_assoc d.conducts (_ ∷ []) (map conduct_in more))
