-- How a root with its tails ends: as a place, as a call, or as neither.
use Rattle.std.specs.Prelude.{List, [], ◌∷◌}
use Rattle.cc_tree.specs.declared.expressions.Expr.{Expr, out-Expr}
use Rattle.cc_tree.specs.declared.expressions.ExprKind.{ExprKind, ExprKind-F, out-ExprKind}
use Rattle.cc_tree.specs.declared.expressions.Suffix.{Suffix, Suffix-F, out-Suffix}
use Rattle.cc_tree.specs.declared.expressions.Link.{Link}
use Rattle.cc_grammar.specs.declared.parts.Ending.{Ending}
use Rattle.cc_grammar.specs.declared.parts.Ending.TheVariants.{Place, Call, Neither}

abbrev of_suffix : Suffix-F ExprKind Suffix Expr Link → Ending
of_suffix (Suffix-F.Index x) = Place
of_suffix (Suffix-F.Field arrow name) = Place
of_suffix (Suffix-F.CallOn arrow name args) = Call

abbrev of_root : ExprKind-F ExprKind Suffix Expr Link → Ending
of_root (ExprKind-F.Name name) = Place
of_root (ExprKind-F.Call name args) = Call
of_root _ = Neither

unfoldable pub root_ending : Expr → Ending
root_ending x = of_root (out-ExprKind (out-Expr x).kind)

unfoldable pub tail_ending : Suffix → Ending
tail_ending l = of_suffix (out-Suffix l)

-- the last tail tells, or the root where there is none
abbrev pub ending : Expr → List Suffix → Ending
ending x [] = root_ending x
ending x (l ∷ []) = tail_ending l
ending x (l ∷ m ∷ ls) = ending x (m ∷ ls)
