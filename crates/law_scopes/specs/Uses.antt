-- The names that stand as values in an expression, in the order of the text.
use Rattle.std.specs.Prelude.{◌≡◌, ℕ, zero, suc, List, [], ◌∷◌, ◌++◌, ◌⊎◌, Option, Some, None}
use Rattle.cc_names.specs.Table.{Name}
use Rattle.cc_scopes.specs.declared.state.Local.{Local}
use Rattle.cc_tree.specs.declared.expressions.Expr.{Expr, out-Expr}
use Rattle.cc_tree.specs.declared.expressions.ExprKind.{ExprKind, out-ExprKind}
use Rattle.cc_tree.specs.declared.expressions.ExprKind.TheOpen.{ExprKind-F, Suffix-F}
use Rattle.cc_tree.specs.declared.expressions.Link.{Link, out-Link}
use Rattle.cc_tree.specs.declared.expressions.Suffix.{Suffix, out-Suffix}
use Rattle.law_names.specs.Innermost.{IsInnermost}

module _ (names : Expr → List Name) where
  abbrev pub names_in : List Expr → List Name
  names_in [] = []
  names_in (e ∷ es) = names e ++ names_in es

  abbrev pub suffix_names : Suffix-F ExprKind Suffix Expr Link → List Name
  suffix_names (Suffix-F.Index e) = names e
  suffix_names (Suffix-F.Field arrow member) = []
  suffix_names (Suffix-F.CallOn arrow member es) = names_in es

  abbrev pub tail_names : List Suffix → List Name
  tail_names [] = []
  tail_names (s ∷ ss) = suffix_names (out-Suffix s) ++ tail_names ss

  abbrev pub link_names : List Link → List Name
  link_names [] = []
  link_names (l ∷ ls) = names (out-Link l).part ++ link_names ls

  abbrev pub length_names : Option Expr → List Name
  length_names None = []
  length_names (Some e) = names e

  abbrev pub kind_names : ExprKind-F ExprKind Suffix Expr Link → List Name
  kind_names (ExprKind-F.Int n) = []
  kind_names ExprKind-F.Null = []
  kind_names ExprKind-F.This = []
  kind_names (ExprKind-F.Name name) = name ∷ []
  kind_names (ExprKind-F.Call function es) = names_in es
  kind_names (ExprKind-F.Paren e) = names e
  kind_names (ExprKind-F.Post e tail) = names e ++ tail_names tail
  kind_names (ExprKind-F.Unary op e) = names e
  kind_names (ExprKind-F.Chain e rest) = names e ++ link_names rest
  kind_names (ExprKind-F.NewInt sync length) = length_names length
  kind_names (ExprKind-F.NewClass class es) = names_in es

-- to a depth
unfoldable pub names_to : ℕ → Expr → List Name
names_to zero e = []
names_to (suc depth) e = kind_names (names_to depth) (out-ExprKind (out-Expr e).kind)

abbrev pub IsAmong : List Name → Name → Type 0
IsAmong [] name = ⊥
IsAmong (x ∷ xs) name = (x ≡ name) ⊎ IsAmong xs name

-- the number of the innermost variable of a name that stands there
abbrev pub IsNamed : List Name → List Local → ℕ → Type 0
IsNamed names scope k = (name : Name) × (l : Local) × IsAmong names name × IsInnermost name scope l × (l.number ≡ k)
