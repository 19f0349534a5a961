-- Trees in which a declaration stands among the statements of a block, of a function's body or of a loop's start alone.
use Rattle.std.proofs.Common.{◌≡◌, subst, ℕ, zero, suc, List, [], ◌∷◌, Option, Some, None}
use Rattle.cc_tree.specs.declared.statements.Stmt.{Stmt, out-Stmt}
use Rattle.cc_tree.specs.declared.statements.StmtKind.{StmtKind, out-StmtKind}
use Rattle.cc_tree.specs.declared.statements.StmtKind.TheOpen.{StmtKind-F}

abbrev pub Layer : Type 0
Layer = StmtKind-F StmtKind Stmt

abbrev pub layer : Stmt → Layer
layer b = out-StmtKind (out-Stmt b).kind

abbrev pub DeclaresNone : Layer → Type 0
DeclaresNone (StmtKind-F.Declare d) = ⊥
DeclaresNone _ = Unit {0}

-- it is no declaration
abbrev pub IsPlain : Stmt → Type 0
IsPlain b = DeclaresNone (layer b)

abbrev pub EachOf : {A : Type 0} → (A → Type 0) → List A → Type 0
EachOf P [] = Unit {0}
EachOf P (x ∷ xs) = P x × EachOf P xs

abbrev pub IfSome : {A : Type 0} → (A → Type 0) → Option A → Type 0
IfSome P None = Unit {0}
IfSome P (Some x) = P x

-- where the parts have the property
module _ (P : Stmt → Type 0) where
  abbrev pub Sub : Stmt → Type 0
  Sub b = IsPlain b × P b

  abbrev pub ProperParts : Layer → Type 0
  ProperParts (StmtKind-F.Block ss) = EachOf P ss
  ProperParts StmtKind-F.Empty = Unit {0}
  ProperParts (StmtKind-F.Declare d) = Unit {0}
  ProperParts (StmtKind-F.Assign target op e) = Unit {0}
  ProperParts (StmtKind-F.Call e) = Unit {0}
  ProperParts (StmtKind-F.Print xs) = Unit {0}
  ProperParts (StmtKind-F.If c first other) = Sub first × IfSome Sub other
  ProperParts (StmtKind-F.While c b) = Sub b
  ProperParts (StmtKind-F.For first c after b) = EachOf P first × IfSome Sub after × Sub b
  ProperParts StmtKind-F.Break = Unit {0}
  ProperParts StmtKind-F.Continue = Unit {0}
  ProperParts (StmtKind-F.Par bs) = EachOf Sub bs
  ProperParts (StmtKind-F.ParFor name start c after b) = Sub after × Sub b
  ProperParts (StmtKind-F.Spawn e) = Unit {0}
  ProperParts (StmtKind-F.Return e) = Unit {0}

-- to a depth
abbrev pub IsProper : ℕ → Stmt → Type 0
IsProper zero b = Unit {0}
IsProper (suc depth) b = ProperParts (IsProper depth) (layer b)

-- to each depth
abbrev pub AlwaysProper : Stmt → Type 0
AlwaysProper b = (depth : ℕ) → IsProper depth b

always_each : {A : Type 0} (P : ℕ → A → Type 0) (xs : List A) → ((d : ℕ) → EachOf (P d) xs) → EachOf (λ x. (d : ℕ) → P d x) xs
always_each P [] f = tt
always_each P (x ∷ xs) f = ((λ d. (f d).0), always_each P xs (λ d. (f d).1))

always_sub : (b : Stmt) → ((d : ℕ) → Sub (IsProper d) b) → Sub AlwaysProper b
always_sub b f = ((f zero).0, λ d. (f d).1)

always_some : (o : Option Stmt) → ((d : ℕ) → IfSome (Sub (IsProper d)) o) → IfSome (Sub AlwaysProper) o
always_some None f = tt
always_some (Some b) f = always_sub b f

always_subs : (bs : List Stmt) → ((d : ℕ) → EachOf (Sub (IsProper d)) bs) → EachOf (Sub AlwaysProper) bs
always_subs [] f = tt
always_subs (b ∷ bs) f = (always_sub b (λ d. (f d).0), always_subs bs (λ d. (f d).1))

pub always_parts : (w : Layer) → ((d : ℕ) → ProperParts (IsProper d) w) → ProperParts AlwaysProper w
always_parts (StmtKind-F.Block ss) f = always_each IsProper ss f
always_parts StmtKind-F.Empty f = tt
always_parts (StmtKind-F.Declare d) f = tt
always_parts (StmtKind-F.Assign target op e) f = tt
always_parts (StmtKind-F.Call e) f = tt
always_parts (StmtKind-F.Print xs) f = tt
always_parts (StmtKind-F.If c first other) f = (always_sub first (λ d. (f d).0), always_some other (λ d. (f d).1))
always_parts (StmtKind-F.While c b) f = always_sub b f
always_parts (StmtKind-F.For first c after b) f =
    (always_each IsProper first (λ d. (f d).0), always_some after (λ d. (f d).1), always_sub b (λ d. (f d).2))
always_parts StmtKind-F.Break f = tt
always_parts StmtKind-F.Continue f = tt
always_parts (StmtKind-F.Par bs) f = always_subs bs f
always_parts (StmtKind-F.ParFor name start c after b) f = (always_sub after (λ d. (f d).0), always_sub b (λ d. (f d).1))
always_parts (StmtKind-F.Spawn e) f = tt
always_parts (StmtKind-F.Return e) f = tt

-- a block whose statements stand in the scope of a header
pub always_opened : (b : Stmt) → AlwaysProper b → (bs : List Stmt) → layer b ≡ StmtKind-F.Block bs → EachOf AlwaysProper bs
always_opened b p bs is = subst (λ w. ProperParts AlwaysProper w) is (always_parts (layer b) (λ d. p (suc d)))
