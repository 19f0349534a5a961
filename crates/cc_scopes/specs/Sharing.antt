-- The rules of sharing by their names, and their order.
use Rattle.std.specs.Prelude.{ℕ, List, codes}
use Rattle.cc_scopes.specs.declared.sharing.ShareRule.{ShareRule}
use Rattle.cc_scopes.specs.declared.sharing.ShareRule.TheVariants as share

abbrev pub share_name : ShareRule → List ℕ
share_name share.PlainAddress = codes "PlainAddress"
share_name share.PlainThroughPointer = codes "PlainThroughPointer"
share_name share.PlainMember = codes "PlainMember"
share_name share.OuterPlainWritten = codes "OuterPlainWritten"
share_name share.PrintInBranch = codes "PrintInBranch"
share_name share.AtomicUsed = codes "AtomicUsed"

abbrev pub share_number : ShareRule → ℕ
share_number share.PlainAddress = 1
share_number share.PlainThroughPointer = 2
share_number share.PlainMember = 3
share_number share.OuterPlainWritten = 4
share_number share.PrintInBranch = 5
share_number share.AtomicUsed = 6
