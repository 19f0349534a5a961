-- What each form of an expression and of a statement is in the core language.
use Rattle.std.proofs.Common.{◌≡◌, suc, List, [], ◌∷◌, length, refl, ap}
use Rattle.cc_core.specs.declared.statement.Statement.{Statement}
use Rattle.cc_core.specs.View.{stmts_of}
use Rattle.cc_lower.specs.Emitted.{count}
use Rattle.cc_core.proofs.ViewLaws.{push_is, this_is, variable_is, member_is, index_is, at_is, load_is, unary_is, binary_is, and_is, or_is, new_is}
use Rattle.cc_core.proofs.ViewLaws.{new_object_is, call_is, empty_is, at_line_is, make_is, set_is, build_is, assign_is, drop_is, print_is, if_is, if_else_is}
use Rattle.cc_core.proofs.ViewLaws.{while_is, for_is, break_is, continue_is, par_is, parfor_is, spawn_is, return_is, block_is}

pub ruleset terms = (push_is, this_is, variable_is, member_is, index_is, at_is, load_is, unary_is, binary_is, and_is, or_is, new_is, new_object_is, call_is)

pub ruleset statements = (empty_is, at_line_is, make_is, set_is, build_is, assign_is, drop_is, print_is, if_is, if_else_is, while_is, for_is, break_is, continue_is, par_is, parfor_is, spawn_is, return_is, block_is)

-- a fork has a target for each of its branches
pub count_branches : (bs : List Statement) → count (stmts_of bs) ≡ length bs
count_branches [] = refl
count_branches (b ∷ bs) = ap suc (count_branches bs)
