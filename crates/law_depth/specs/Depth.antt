-- How deep a tree nests.
use Rattle.std.specs.Prelude.{ℕ, zero, suc, List, [], ◌∷◌, Option, Some, None}
use Rattle.cc_tree.specs.declared.expressions.Expr.{Expr, out-Expr}
use Rattle.cc_tree.specs.declared.expressions.ExprKind.{ExprKind, out-ExprKind}
use Rattle.cc_tree.specs.declared.expressions.ExprKind.TheOpen.{ExprKind-F, Suffix-F}
use Rattle.cc_tree.specs.declared.expressions.Link.{Link, out-Link}
use Rattle.cc_tree.specs.declared.expressions.Suffix.{Suffix, out-Suffix}
use Rattle.cc_tree.specs.declared.declarations.Item.{Item}
use Rattle.cc_tree.specs.declared.declarations.Item.TheVariants as item
use Rattle.cc_tree.specs.declared.declarations.Member.{Member}
use Rattle.cc_tree.specs.declared.declarations.Member.TheVariants as member
use Rattle.cc_tree.specs.declared.statements.Decl.{Decl}
use Rattle.cc_tree.specs.declared.statements.PrintItem.{PrintItem}
use Rattle.cc_tree.specs.declared.statements.PrintItem.TheVariants as printed
use Rattle.cc_tree.specs.declared.statements.Start.{Start}
use Rattle.cc_tree.specs.declared.statements.Start.TheVariants as start
use Rattle.cc_tree.specs.declared.statements.Stmt.{Stmt, out-Stmt}
use Rattle.cc_tree.specs.declared.statements.StmtKind.{StmtKind, out-StmtKind}
use Rattle.cc_tree.specs.declared.statements.StmtKind.TheOpen.{StmtKind-F}

abbrev pub EachOf : {A : Type 0} → (A → Type 0) → List A → Type 0
EachOf P [] = Unit {0}
EachOf P (x ∷ xs) = P x × EachOf P xs

abbrev pub IfSome : {A : Type 0} → (A → Type 0) → Option A → Type 0
IfSome P None = Unit {0}
IfSome P (Some x) = P x

abbrev pub Layer : Type 0
Layer = ExprKind-F ExprKind Suffix Expr Link

abbrev pub layer : Expr → Layer
layer e = out-ExprKind (out-Expr e).kind

-- each expression that stands directly in another one
module _ (P : Expr → Type 0) where
  abbrev pub TailPart : Suffix-F ExprKind Suffix Expr Link → Type 0
  TailPart (Suffix-F.Index e) = P e
  TailPart (Suffix-F.Field arrow member) = Unit {0}
  TailPart (Suffix-F.CallOn arrow member es) = EachOf P es

  abbrev pub Tail : Suffix → Type 0
  Tail s = TailPart (out-Suffix s)

  abbrev pub Operand : Link → Type 0
  Operand l = P (out-Link l).part

  abbrev pub Parts : Layer → Type 0
  Parts (ExprKind-F.Int n) = Unit {0}
  Parts ExprKind-F.Null = Unit {0}
  Parts ExprKind-F.This = Unit {0}
  Parts (ExprKind-F.Name name) = Unit {0}
  Parts (ExprKind-F.Call function es) = EachOf P es
  Parts (ExprKind-F.Paren e) = P e
  Parts (ExprKind-F.Post e tail) = P e × EachOf Tail tail
  Parts (ExprKind-F.Unary op e) = P e
  Parts (ExprKind-F.Chain e rest) = P e × EachOf Operand rest
  Parts (ExprKind-F.NewInt sync length) = IfSome P length
  Parts (ExprKind-F.NewClass class es) = EachOf P es

-- it nests at most so deep: an expression without parts nests 1 deep
unfoldable pub NestsTo : ℕ → Expr → Type 0
NestsTo zero e = ⊥
NestsTo (suc depth) e = Parts (NestsTo depth) (layer e)

-- ---- statements and what stands in a file

abbrev pub StatementLayer : Type 0
StatementLayer = StmtKind-F StmtKind Stmt

abbrev pub statement_layer : Stmt → StatementLayer
statement_layer b = out-StmtKind (out-Stmt b).kind

-- each expression nests to 1,000
abbrev pub Shallow : Expr → Type 0
Shallow e = NestsTo 1000 e

abbrev pub ShallowStart : Start → Type 0
ShallowStart start.Nothing = Unit {0}
ShallowStart (start.Value e) = Shallow e
ShallowStart (start.Args es) = EachOf Shallow es

abbrev pub ShallowDecl : Decl → Type 0
ShallowDecl d = IfSome Shallow d.length × ShallowStart d.start

abbrev pub ShallowItem : PrintItem → Type 0
ShallowItem (printed.Value e) = Shallow e
ShallowItem (printed.Str bytes) = Unit {0}
ShallowItem printed.Endl = Unit {0}

-- each expression of a statement nests to 1,000, and each statement in it has the property
module _ (P : Stmt → Type 0) where
  abbrev pub StatementParts : StatementLayer → Type 0
  StatementParts (StmtKind-F.Block ss) = EachOf P ss
  StatementParts StmtKind-F.Empty = Unit {0}
  StatementParts (StmtKind-F.Declare d) = ShallowDecl d
  StatementParts (StmtKind-F.Assign target op e) = Shallow target × Shallow e
  StatementParts (StmtKind-F.Call e) = Shallow e
  StatementParts (StmtKind-F.Print xs) = EachOf ShallowItem xs
  StatementParts (StmtKind-F.If c first other) = Shallow c × P first × IfSome P other
  StatementParts (StmtKind-F.While c b) = Shallow c × P b
  StatementParts (StmtKind-F.For first c after b) = EachOf P first × IfSome Shallow c × IfSome P after × P b
  StatementParts StmtKind-F.Break = Unit {0}
  StatementParts StmtKind-F.Continue = Unit {0}
  StatementParts (StmtKind-F.Par bs) = EachOf P bs
  StatementParts (StmtKind-F.ParFor name start c after b) = Shallow start × Shallow c × P after × P b
  StatementParts (StmtKind-F.Spawn e) = Shallow e
  StatementParts (StmtKind-F.Return e) = IfSome Shallow e

-- a statement nests at most so deep, and its expressions to 1,000
unfoldable pub StatementNestsTo : ℕ → Stmt → Type 0
StatementNestsTo zero b = ⊥
StatementNestsTo (suc depth) b = StatementParts (StatementNestsTo depth) (statement_layer b)

abbrev pub ShallowStatement : Stmt → Type 0
ShallowStatement b = StatementNestsTo 1000 b

abbrev pub ShallowMember : Member → Type 0
ShallowMember (member.Field d) = ShallowDecl d
ShallowMember (member.Func f) = EachOf ShallowStatement f.body
ShallowMember (member.Build name params body line) = EachOf ShallowStatement body

abbrev pub ShallowFileItem : Item → Type 0
ShallowFileItem (item.Const name value line) = Shallow value
ShallowFileItem (item.Class c) = EachOf ShallowMember c.members
ShallowFileItem (item.Func f) = EachOf ShallowStatement f.body
