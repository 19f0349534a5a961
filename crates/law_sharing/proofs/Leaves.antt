-- Readings that leave the variables in scope, and break no rule of sharing but one.
use Rattle.std.proofs.Common.{ℕ, Bool, true, false, cond, List, [], ◌∷◌, ◌++◌, refl, sym, ap, ◌∙◌, append-nil, append_assoc}
use Rattle.cc_names.specs.declared.broken.Broken.{Broken}
use Rattle.cc_names.specs.declared.declarations.FunId.{FunId}
use Rattle.cc_scopes.specs.declared.sharing.Share.{Share}
use Rattle.cc_scopes.specs.declared.sharing.ShareRule.TheVariants.{PlainAddress}
use Rattle.cc_scopes.specs.declared.state.State.{State}
use Rattle.cc_scopes.specs.Elab.{Elab, ◌>>=◌, ◌>>◌, pure, note, share, block, block_if, call}
use Rattle.law_sharing.specs.Addresses.{AreAddresses, SharesAddressesAlone}

both : (line : ℕ) (xs ys : List Share) → AreAddresses line xs → AreAddresses line ys → AreAddresses line (xs ++ ys)
both line [] ys p q = q
both line (x ∷ xs) ys p q = (p.0, p.1, both line xs ys p.2 q)

-- what reads something at this line
pub record Leaves (line : ℕ) {A : Type 0} (p : Elab A) : Type 0 where
  pub leaves : (s : State) → SharesAddressesAlone line s (p s).1

module _ {line : ℕ} where
  same : (s : State) → SharesAddressesAlone line s s
  same s = record { scope = refl; variables = refl; addresses = ([], sym (append-nil s.shared), tt) }

  after : (s t u : State) → SharesAddressesAlone line s t → SharesAddressesAlone line t u → SharesAddressesAlone line s u
  after s t u p q = record {
    scope = q.scope ∙ p.scope;
    variables = q.variables ∙ p.variables;
    addresses = (
      p.addresses.0 ++ q.addresses.0,
      q.addresses.1 ∙ (ap (λ z. z ++ q.addresses.0) p.addresses.1 ∙ append_assoc s.shared p.addresses.0 q.addresses.0),
      both line p.addresses.0 q.addresses.0 p.addresses.2 q.addresses.2,
    );
  }

  pub bind : {A B : Type 0} {p : Elab A} {f : A → Elab B} → Leaves line p → ((a : A) → Leaves line (f a)) → Leaves line (p >>= f)
  bind {p = p} {f = f} l m = record { leaves = λ s. after s (p s).1 (f (p s).0 (p s).1).1 (l.leaves s) ((m (p s).0).leaves (p s).1) }

  pub next : {A B : Type 0} {p : Elab A} {q : Elab B} → Leaves line p → Leaves line q → Leaves line (p >> q)
  next {p = p} {q = q} l m = record { leaves = λ s. after s (p s).1 (q (p s).1).1 (l.leaves s) (m.leaves (p s).1) }

  pub done : {A : Type 0} (a : A) → Leaves line (pure a)
  done a = record { leaves = λ s. same s }

  pub looking : {A : Type 0} (p : State → Elab A) → ((s : State) → Leaves line (p s)) → Leaves line (λ s. p s s)
  looking p l = record { leaves = λ s. (l s).leaves s }

  pub note_leaves : (b : Broken) → Leaves line (note b)
  note_leaves b = record { leaves = λ s. record { scope = refl; variables = refl; addresses = ([], sym (append-nil s.shared), tt) } }

  pub plain_address_leaves : Leaves line (share PlainAddress line)
  plain_address_leaves =
      record {
        leaves = λ s. record { scope = refl; variables = refl; addresses = (record { rule = PlainAddress; line = line } ∷ [], refl, (refl, refl, tt)) };
      }

  pub block_leaves : (at : ℕ) → Leaves line (block at)
  block_leaves at = record { leaves = λ s. record { scope = refl; variables = refl; addresses = ([], sym (append-nil s.shared), tt) } }

  pub block_if_leaves : (b : Bool) (at : ℕ) → Leaves line (block_if b at)
  block_if_leaves true at = block_leaves at
  block_if_leaves false at = done tt

  pub call_leaves : (f : FunId) (at : ℕ) → Leaves line (call f at)
  call_leaves f at = record { leaves = λ s. record { scope = refl; variables = refl; addresses = ([], sym (append-nil s.shared), tt) } }

  pub either_leaves : {A : Type 0} (b : Bool) (p q : Elab A) → Leaves line p → Leaves line q → Leaves line (cond b p q)
  either_leaves true p q l m = l
  either_leaves false p q l m = m
