-- What `least` gives is a broken rule before which there is no other.
use Rattle.std.proofs.Common.{◌≡◌, ℕ, Bool, true, false, ◌==◌, nat_lt, if◌then◌else◌, List, [], ◌∷◌, ◌++◌, All, Option, Some, None, refl, sym, ap, subst, arith, append_assoc, append-nil}
use Rattle.std.proofs.lemmas.List.Elements.{All-push, All-weaker, Contains-push, Contains-append_left, All-nil}
use Rattle.std.proofs.lemmas.Bool.{true≢false}
use Rattle.std.proofs.lemmas.Bool.Decides.{nat_tests}
use Rattle.cc_scopes.specs.declared.sharing.Share.{Share}
use Rattle.cc_scopes.specs.Sharing.{share_number}
use Rattle.sharing_check.specs.declared.answer.Sharing.{Sharing}
use Rattle.sharing_check.specs.declared.answer.Sharing.TheVariants.{Determinate, Shared}
use Rattle.sharing_check.specs.Sharing.{is_before, earlier, least_from, least, IsLeast, answer, sharing_of}

abbrev by_both : (la na lb nb : ℕ) → Bool
by_both la na lb nb = if la == lb then nat_lt na nb else nat_lt la lb

not_before_itself : (la na : ℕ) → by_both la na la na ≡ false
not_before_itself la na = grind (arith, nat_tests)

-- where c is before b, what is not before b is not before c
not_before_lesser : (la na lb nb lc nc : ℕ) → by_both lc nc lb nb ≡ true → by_both la na lb nb ≡ false → by_both la na lc nc ≡ false
not_before_lesser la na lb nb lc nc lesser other = grind (arith, nat_tests)

is_least_after : (seen : List Share) (found : Option Share) (next : Share) → IsLeast seen found → IsLeast (seen ++ next ∷ []) (earlier found next)
unfolding is_before
is_least_after seen None next none = (Contains-push seen next, subst (λ s. All (λ other. is_before other next ≡ false) (s ++ next ∷ [])) (sym none) (All-push (λ other. is_before other next ≡ false) [] next (All-nil (λ other. is_before other next ≡ false)) (not_before_itself next.line (share_number next.rule))))
is_least_after seen (Some best) next least_one = by (is_before next best) refl
  where
    by : (b : Bool) → is_before next best ≡ b → IsLeast (seen ++ next ∷ []) (Some (if b then next else best))
    by true before = (
      Contains-push seen next,
      All-push (λ other. is_before other next ≡ false) seen next
          (All-weaker (λ other. is_before other best ≡ false) (λ other. is_before other next ≡ false)
          (λ other. not_before_lesser other.line (share_number other.rule) best.line (share_number best.rule) next.line (share_number next.rule) before) seen least_one.1)
          (not_before_itself next.line (share_number next.rule)),
    )
    by false not_before = (Contains-append_left seen (next ∷ []) best least_one.0, All-push (λ other. is_before other best ≡ false) seen next least_one.1 not_before)

is_least_from : (seen : List Share) (found : Option Share) (more : List Share) → IsLeast seen found → IsLeast (seen ++ more) (least_from found more)
is_least_from seen found [] holds = subst (λ s. IsLeast s found) (sym (append-nil seen)) holds
is_least_from seen found (next ∷ more) holds =
    subst (λ s. IsLeast s (least_from (earlier found next) more)) (append_assoc seen (next ∷ []) more)
    (is_least_from (seen ++ next ∷ []) (earlier found next) more (is_least_after seen found next holds))

pub is_least : (shares : List Share) → IsLeast shares (least shares)
is_least shares = is_least_from [] None shares refl

-- whether a rule is named
names_rule : Sharing → Bool
names_rule Determinate = false
names_rule (Shared rule line) = true

determinate_least : (shares : List Share) (found : Option Share) → IsLeast shares found → answer found ≡ Determinate → shares ≡ []
unfolding names_rule
determinate_least shares None none is = none
determinate_least shares (Some share) least_one is = absurd (true≢false (ap names_rule is))

-- where the answer is that the program is determinate, no rule is broken
pub none_shared : (shares : List Share) → sharing_of shares ≡ Determinate → shares ≡ []
none_shared shares is = determinate_least shares (least shares) (is_least shares) is
