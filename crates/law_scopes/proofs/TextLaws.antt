-- What is read changes the scope as its marks say.
use Rattle.std.proofs.Common.{◌≡◌, ℕ, suc, ◌+◌, Bool, true, false, if◌then◌else◌, List, [], ◌∷◌, ◌++◌, length, take, Option, Some, None, refl, sym, ap, ◌∙◌, bytes_eq, append-nil, append_assoc, length-append, cond, arith}
use Rattle.cc_names.specs.Table.{Name}
use Rattle.cc_names.specs.declared.broken.Broken.{Broken}
use Rattle.cc_names.specs.declared.broken.Broken.TheVariants.{Rule}
use Rattle.cc_names.specs.declared.rule.StaticRule.TheVariants.{LocalTwice}
use Rattle.cc_scopes.specs.declared.scope.Found.{Found}
use Rattle.cc_scopes.specs.declared.state.Local.{Local}
use Rattle.cc_scopes.specs.declared.state.State.{State}
use Rattle.cc_scopes.specs.declared.types.Declared.{Declared}
use Rattle.cc_scopes.specs.Elab.{Elab, ◌>>=◌, ◌>>◌, pure, note, leave, nothing_yet}
use Rattle.cc_scopes.specs.Scope.{Context, found_as, variable, is_here, twice, bring, number, declare}
use Rattle.law_names.proofs.InnermostLaws.{cut}
use Rattle.law_scopes.specs.Text.{Text, Opens, Closes, Declares, Copies, Uses, declarations, nearest, uses, number_of, Matches}
use Rattle.law_scopes.proofs.LeavesLaws.{Leaves}

-- ---- uses declare nothing

uses_declare : (xs : List Name) (text : Text) → declarations (uses xs text) ≡ declarations text
uses_declare [] text = refl
uses_declare (x ∷ xs) text = uses_declare xs (Uses x ∷ text)

uses_nearest : (xs : List Name) (text : Text) (closed : ℕ) (name : Name) → nearest (uses xs text) closed name ≡ nearest text closed name
uses_nearest [] text closed name = refl
uses_nearest (x ∷ xs) text closed name = uses_nearest xs (Uses x ∷ text) closed name

-- ---- lists of variables

abbrev pub Extends : List Local → List Local → Type 0
Extends ls more = (zs : List Local) × (more ≡ ls ++ zs)

same_extends : (ls more : List Local) → more ≡ ls → Extends ls more
same_extends ls more is = ([], is ∙ sym (append-nil ls))

pub more_extends : (ls more most : List Local) → Extends ls more → Extends more most → Extends ls most
more_extends ls more most x z = (x.0 ++ z.0, z.1 ∙ (ap (λ l. l ++ z.0) x.1 ∙ append_assoc ls x.0 z.0))

take_append : (ls zs : List Local) → take (length ls) (ls ++ zs) ≡ ls
take_append [] zs = refl
take_append (l ∷ ls) zs = ap (λ z. l ∷ z) (take_append ls zs)

extends_taken : (ls more : List Local) → Extends ls more → take (length ls) more ≡ ls
extends_taken ls more x = ap (λ l. take (length ls) l) x.1 ∙ take_append ls x.0

-- ---- readings

-- What is read has these marks: where the variables in scope match a text before it, they match the text with these marks behind it; those
-- in scope before stay, with new ones behind them; and from outside of a scope that is closed nothing of it is seen.
pub record Walks {A : Type 0} (p : Elab A) (f : Text → Text) : Type 0 where
  pub walk : (s : State) (text : Text) → Matches s text → Matches (p s).1 (f text)
  pub more : (s : State) → Extends s.locals (p s).1.locals
  pub skips : (text : Text) (closed : ℕ) (name : Name) → nearest (f text) (suc closed) name ≡ nearest text (suc closed) name

pub bind_w : {A B : Type 0} {p : Elab A} {q : A → Elab B} {f g : Text → Text} → Walks p f → ((a : A) → Walks (q a) g)
    → Walks (p >>= q) (λ t. g (f t))
bind_w {p = p} {f = f} r w = record {
  walk = λ s text m. (w (p s).0).walk (p s).1 (f text) (r.walk s text m);
  more = λ s. more_extends s.locals (p s).1.locals _ (r.more s) ((w (p s).0).more (p s).1);
  skips = λ text closed name. (w (p nothing_yet).0).skips (f text) closed name ∙ r.skips text closed name;
}

pub next_w : {A B : Type 0} {p : Elab A} {q : Elab B} {f g : Text → Text} → Walks p f → Walks q g → Walks (p >> q) (λ t. g (f t))
next_w r w = bind_w r (λ a. w)

pub done_w : {A : Type 0} (a : A) → Walks (pure a) (λ t. t)
done_w a = record { walk = λ s text m. m; more = λ s. same_extends s.locals s.locals refl; skips = λ text closed name. refl }

-- what is given at the end changes nothing
pub gives_w : {A B : Type 0} {p : Elab A} {f : Text → Text} → Walks p f → (g : A → B) → Walks (p >>= (λ a. pure (g a))) f
gives_w r g = record { walk = r.walk; more = r.more; skips = r.skips }

pub looking_w : {A : Type 0} (p : State → Elab A) {f : Text → Text} → ((s : State) → Walks (p s) f) → Walks (λ s. p s s) f
looking_w p r = record {
  walk = λ s text m. (r s).walk s text m;
  more = λ s. (r s).more s;
  skips = λ text closed name. (r nothing_yet).skips text closed name;
}

-- what only uses names
pub uses_w : {A : Type 0} {p : Elab A} (xs : List Name) → Leaves p → Walks p (uses xs)
uses_w {p = p} xs l = record {
  walk = λ s text m. record {
    made = ap length (l.leaves s).1 ∙ (m.made ∙ sym (uses_declare xs text));
    finds = λ name. ap (λ ls. number_of (variable name ls)) (l.leaves s).0 ∙ (m.finds name ∙ sym (uses_nearest xs text 0 name));
  };
  more = λ s. same_extends s.locals (p s).1.locals (l.leaves s).0;
  skips = λ text closed name. uses_nearest xs text (suc closed) name;
}

pub leaves_w : {A : Type 0} {p : Elab A} → Leaves p → Walks p (λ t. t)
leaves_w l = uses_w [] l

-- ---- a variable comes into scope

one_more : (name : Name) (ls : List Local) (l : Local)
    → variable name (ls ++ l ∷ []) ≡ (if bytes_eq l.name name then Some (found_as l) else variable name ls)
one_more name ls l = cut name None ls (l ∷ [])

chosen : (b : Bool) (found : Found) (other : Option Found) (k : ℕ) (rest : Option ℕ) → found.number ≡ k → number_of other ≡ rest
    → number_of (if b then Some found else other) ≡ (if b then Some k else rest)
chosen true found other k rest is same = ap Some is
chosen false found other k rest is same = same

brings : (cx : Context) (name : Name) (k : ℕ) (d : Declared) (s : State) (text : Text) (x : Name) → Matches s text
    → number_of (variable x (bring cx name k d s).1.locals) ≡ (if bytes_eq name x then Some k else nearest text 0 x)
brings cx name k d s text x m =
    let l : Local = record { name = name; number = k; declared = d; part = cx.part } in
    ap number_of (one_more x s.locals l) ∙ chosen (bytes_eq name x) (found_as l) (variable x s.locals) k (nearest text 0 x) refl (m.finds x)

-- the copy of a loop's variable
pub copies_w : (cx : Context) (name : Name) (k : ℕ) (d : Declared) → Walks (bring cx name k d) (λ t. Copies name k ∷ t)
copies_w cx name k d = record {
  walk = λ s text m. record { made = m.made; finds = λ x. brings cx name k d s text x m };
  more = λ s. (_, refl);
  skips = λ text closed name. refl;
}

-- a declaration
noted : (b : Bool) (x : Broken) (s : State) → ((cond b (note x s) (tt, s)).1.locals ≡ s.locals) × ((cond b (note x s) (tt, s)).1.made ≡ s.made)
noted true x s = (refl, refl)
noted false x s = (refl, refl)

twice_leaves : (cx : Context) (name : Name) → Leaves (twice cx name)
unfolding twice
twice_leaves cx name = record { leaves = λ s. noted (is_here cx name s) (Rule LocalTwice cx.line) s }

longer : (ds : List Declared) (d : Declared) (k : ℕ) → length ds ≡ k → length (ds ++ d ∷ []) ≡ suc k
longer ds d k is = let l : length (ds ++ d ∷ []) ≡ length ds + 1 = length-append ds (d ∷ []) in omega (arith, l, is)

numbers_w : (cx : Context) (name : Name) (d : Declared) → Walks (number d >>= (λ k. bring cx name k d >> pure k)) (λ t. Declares name ∷ t)
numbers_w cx name d = record {
  walk = λ s text m. record {
    made = longer s.made d (declarations text) m.made;
    finds = λ x.
        let l : Local = record { name = name; number = length s.made; declared = d; part = cx.part } in
        ap number_of (one_more x s.locals l)
        ∙ chosen (bytes_eq name x) (found_as l) (variable x s.locals) (declarations text) (nearest text 0 x) m.made (m.finds x);
  };
  more = λ s. (_, refl);
  skips = λ text closed name. refl;
}

pub declare_w : (cx : Context) (name : Name) (d : Declared) → Walks (declare cx name d) (λ t. Declares name ∷ t)
unfolding declare
declare_w cx name d = next_w (leaves_w (twice_leaves cx name)) (numbers_w cx name d)

pub declare_number : (cx : Context) (name : Name) (d : Declared) (s : State) → (declare cx name d s).0 ≡ length s.made
unfolding declare
declare_number cx name d s = ap length ((twice_leaves cx name).leaves s).1

-- ---- a scope opens and closes

opened : (s : State) (text : Text) → Matches s text → Matches s (Opens ∷ text)
opened s text m = record { made = m.made; finds = λ name. m.finds name }

module _ {A B : Type 0} (p : ℕ → Elab A) (g : A → B) {f : Text → Text} (w : (n : ℕ) → Walks (p n) f) where
  abbrev Scoped : Elab B
  Scoped = λ s. (p (length s.locals) >>= (λ x. leave (length s.locals) >> pure (g x))) s

  left : (s : State) → (Scoped s).1.locals ≡ s.locals
  left s = extends_taken s.locals (p (length s.locals) s).1.locals ((w (length s.locals)).more s)

  closed_text : (text : Text) (closed : ℕ) (name : Name) → nearest (f (Opens ∷ text)) (suc closed) name ≡ nearest text closed name
  closed_text text closed name = (w 0).skips (Opens ∷ text) closed name

  pub scoped_w : Walks Scoped (λ t. Closes ∷ f (Opens ∷ t))
  scoped_w = record {
    walk = λ s text m. record {
      made = ((w (length s.locals)).walk s (Opens ∷ text) (opened s text m)).made;
      finds = λ name. ap (λ ls. number_of (variable name ls)) (left s) ∙ (m.finds name ∙ sym (closed_text text 0 name));
    };
    more = λ s. same_extends s.locals (Scoped s).1.locals (left s);
    skips = λ text closed name. closed_text text (suc closed) name;
  }

-- ---- marks that only use names

pub record IsQuiet (f : Text → Text) : Type 0 where
  pub declares : (text : Text) → declarations (f text) ≡ declarations text
  pub hides : (text : Text) (closed : ℕ) (name : Name) → nearest (f text) closed name ≡ nearest text closed name

pub quiet_w : {A : Type 0} {p : Elab A} {f : Text → Text} → IsQuiet f → Leaves p → Walks p f
quiet_w {p = p} q l = record {
  walk = λ s text m. record {
    made = ap length (l.leaves s).1 ∙ (m.made ∙ sym (q.declares text));
    finds = λ name. ap (λ ls. number_of (variable name ls)) (l.leaves s).0 ∙ (m.finds name ∙ sym (q.hides text 0 name));
  };
  more = λ s. same_extends s.locals (p s).1.locals (l.leaves s).0;
  skips = λ text closed name. q.hides text (suc closed) name;
}

pub quiet_both : {f g : Text → Text} → IsQuiet f → IsQuiet g → IsQuiet (λ t. g (f t))
quiet_both {f = f} a b = record {
  declares = λ text. b.declares (f text) ∙ a.declares text;
  hides = λ text closed name. b.hides (f text) closed name ∙ a.hides text closed name;
}

pub quiet_uses : (xs : List Name) → IsQuiet (uses xs)
quiet_uses xs = record { declares = λ text. uses_declare xs text; hides = λ text closed name. uses_nearest xs text closed name }

pub quiet_none : IsQuiet (λ t. t)
quiet_none = record { declares = λ text. refl; hides = λ text closed name. refl }
