-- What the reading of an expression leaves as it was, and which rule of sharing it may break.
use Rattle.std.specs.Prelude.{◌≡◌, ℕ, List, [], ◌∷◌, ◌++◌}
use Rattle.cc_scopes.specs.declared.sharing.Share.{Share}
use Rattle.cc_scopes.specs.declared.sharing.ShareRule.TheVariants.{PlainAddress}
use Rattle.cc_scopes.specs.declared.state.State.{State}

-- the address of a plain int is taken at this line, each time
abbrev pub AreAddresses : (line : ℕ) → List Share → Type 0
AreAddresses line [] = Unit {0}
AreAddresses line (share ∷ more) = (share.rule ≡ PlainAddress) × (share.line ≡ line) × AreAddresses line more

-- The variables in scope and those of the function stay as they are, what was collected stays collected, and of the rules of sharing only
-- `PlainAddress` is broken, at this line.
pub record SharesAddressesAlone (line : ℕ) (before behind : State) : Type 0 where
  pub scope : behind.locals ≡ before.locals
  pub variables : behind.made ≡ before.made
  pub addresses : (more : List Share) × (behind.shared ≡ before.shared ++ more) × AreAddresses line more
