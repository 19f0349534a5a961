-- The answer of the rules of sharing: which of several broken ones is named.
use Rattle.std.specs.Prelude.{◌≡◌, Bool, false, ◌==◌, nat_lt, if◌then◌else◌, List, [], ◌∷◌, All, Contains, Option, Some, None}
use Rattle.cc_tree.specs.declared.declarations.Program.{Program}
use Rattle.cc_types.specs.Program.{rules_shared}
use Rattle.cc_scopes.specs.declared.sharing.Share.{Share}
use Rattle.cc_scopes.specs.Sharing.{share_number}
use Rattle.sharing_check.specs.declared.answer.Sharing.{Sharing}
use Rattle.sharing_check.specs.declared.answer.Sharing.TheVariants.{Determinate, Shared}

-- by the line, and at one line by the number
unfoldable pub is_before : Share → Share → Bool
is_before a b = if a.line == b.line then nat_lt (share_number a.rule) (share_number b.rule) else nat_lt a.line b.line

abbrev pub earlier : Option Share → Share → Option Share
earlier None next = Some next
earlier (Some other) next = Some (if is_before next other then next else other)

abbrev pub least_from : Option Share → List Share → Option Share
least_from found [] = found
least_from found (next ∷ more) = least_from (earlier found next) more

-- the one that is named, and none where no rule is broken
abbrev pub least : List Share → Option Share
least = least_from None

-- that is: it is broken, and no other broken one is before it
abbrev pub IsLeast : List Share → Option Share → Type 0
IsLeast shares None = shares ≡ []
IsLeast shares (Some first) = Contains shares first × All (λ other. is_before other first ≡ false) shares

abbrev pub answer : Option Share → Sharing
answer None = Determinate
answer (Some share) = Shared share.rule share.line

-- the answer for the rules that are broken
abbrev pub sharing_of : List Share → Sharing
sharing_of shares = answer (least shares)

-- the answer for a program
abbrev pub sharing : Program → Sharing
sharing p = sharing_of (rules_shared p)
