-- A mesh finds of what is asked what the machine finds that it shows.
use Rattle.std.proofs.Common.{◌≡◌, ℕ, List, [], ◌∷◌, Bool, true, false, ◌&&◌, Option, Some, None, refl, sym, ap, ◌∙◌}
use Rattle.std.specs.Prelude.{if◌then◌else◌, slice_get, is_some}
use Rattle.std.specs.Option.{option_and_then}
use Rattle.std.proofs.lemmas.Bool.{false≢true}
use Rattle.cc_ops.specs.Machine.{Address}
use Rattle.cc_ops.specs.declared.number.ThreadNo.{ThreadNo}
use Rattle.cc_ops.specs.Shelves.{home_in}
use Rattle.cc_core.specs.Asks.{Ask}
use Rattle.cc_core.specs.Needs.{Need, Done, Threads, ThreadAt, Verdict, Go, Hold, Bad, and_also, room, verdict_on, verdict_on_all, all_of, most_threads}
use Rattle.global_ptr.specs.declared.ends.FaultKind.TheVariants.{ThreadsFull}
use Rattle.code_names.specs.Same.{Pairwise}
use Rattle.numbered_runs.specs.Machine.{Progress, made_in, thread_in, ended_with}
use Rattle.numbered_runs.specs.Looks.{needs, check, check_all, has_ended, all_ended}
use Rattle.numbered_runs.proofs.Lists.{pairwise_right}
use Rattle.law_mesh.specs.Spots.{Fiber, Spot, Gone, Mesh, item_in, shown, runs, made_of, looks, verdict, is_gone, spot_of, kid_gone}
use Rattle.law_mesh.specs.Shows.{IsKid, Alike, Shows}
use Rattle.law_mesh.proofs.Lists.{item_right, same_made}

-- what is found, or the fault, is that; where a thread waits nothing is said
abbrev pub Agrees : Verdict Address → Verdict Address → Type 0
Agrees (Go vs) v = v ≡ Go vs
Agrees Hold v = Unit {0}
Agrees (Bad kind) v = v ≡ Bad kind

same_agrees : (u v : Verdict Address) → u ≡ v → Agrees u v
same_agrees (Go vs) v e = sym e
same_agrees Hold v e = tt
same_agrees (Bad kind) v e = sym e

both_agree : (u v x y : Verdict Address) → Agrees u v → Agrees x y → Agrees (and_also u x) (and_also v y)
both_agree (Go vs) v (Go ws) y h g = ap (λ z. and_also z y) h ∙ ap (and_also (Go vs)) g
both_agree (Go vs) v Hold y h g = tt
both_agree (Go vs) v (Bad kind) y h g = ap (λ z. and_also z y) h ∙ ap (and_also (Go vs)) g
both_agree Hold v x y h g = tt
both_agree (Bad kind) v x y h g = ap (λ z. and_also z y) h

module _ (m : Mesh) (threads : List (List Progress)) (shows : Shows m threads) (q : ℕ) (f : Fiber) (kids : List ThreadNo) (same : Pairwise IsKid f.kids kids) where
  made_alike : (h : ℕ) → made_of m.spots h ≡ made_in threads h
  made_alike h = same_made (Alike m.code threads) m.spots threads shows h

  -- a branch that is gone has ended
  gone_alike : (p : Option Spot) (x : Option Progress) → is_gone p ≡ true → ((s : Spot) → p ≡ Some s → (y : Progress) × (x ≡ Some y) × Alike m.code threads s y)
      → is_some (ended_with x) ≡ true
  gone_alike None x h at = absurd (false≢true h)
  gone_alike (Some (Gone v)) x h at = let r = at (Gone v) refl in ap (λ o. is_some (ended_with o)) (r.1 ∙ ap (λ y. Some y) r.2)
  gone_alike (Some p) x h at = absurd (false≢true h)

  kid_alike : (k : ℕ) → kid_gone m.spots f.kids k ≡ true → has_ended threads kids k ≡ true
  kid_alike k h = at (slice_get f.kids k) refl h
    where
      found : (u : ThreadNo) → slice_get f.kids k ≡ Some (Some u) → slice_get kids k ≡ Some u
      found u e = let r = pairwise_right IsKid f.kids kids same k (Some u) e in r.1 ∙ ap (λ v. Some v) (sym r.2)

      at : (o : Option (Option ThreadNo)) → slice_get f.kids k ≡ o → is_gone (option_and_then (spot_of m.spots) o) ≡ true → has_ended threads kids k ≡ true
      at None e g = absurd (false≢true g)
      at (Some None) e g = absurd (false≢true g)
      at (Some (Some u)) e g = ap (λ o. is_some (ended_with (option_and_then (thread_in threads) o))) (found u e)
          ∙ gone_alike (item_in m.spots u) (thread_in threads u) g (λ s is. item_right (Alike m.code threads) m.spots threads shows u s is)

  both : (a b : Bool) → a && b ≡ true → (a ≡ true) × (b ≡ true)
  both true b h = (refl, h)
  both false b h = absurd (false≢true h)

  all_gone_alike : (ks : List ℕ) → all_of (kid_gone m.spots f.kids) ks ≡ true → all_ended threads kids ks ≡ true
  all_gone_alike [] h = refl
  all_gone_alike (k ∷ ks) h =
      let r = both (kid_gone m.spots f.kids k) (all_of (kid_gone m.spots f.kids) ks) h in
      ap (λ b. b && all_ended threads kids ks) (kid_alike k r.0) ∙ all_gone_alike ks r.1

  abbrev seen : Need Address → Verdict Address
  seen need = verdict_on m.code.shapes (looks m q f) need

  abbrev there : Need Address → Verdict Address
  there need = check (shown m threads) q (runs f None kids) need

  done_alike : (made : List ℕ) (b : Bool) → all_of (kid_gone m.spots f.kids) made ≡ b → Agrees (if b then Go [] else Hold) (there (Done made))
  done_alike made true e = ap (λ b. if b then Go [] else Hold) (all_gone_alike made e)
  done_alike made false e = tt

  need_alike : (need : Need Address) → Agrees (seen need) (there need)
  need_alike (Done made) = done_alike made (all_of (kid_gone m.spots f.kids) made) refl
  need_alike (Threads n) = same_agrees (seen (Threads n)) (there (Threads n)) (ap (λ k. room k n most_threads ThreadsFull) (made_alike q))
  need_alike (ThreadAt o) =
      same_agrees (seen (ThreadAt o)) (there (ThreadAt o)) (ap (λ k. room k 1 most_threads ThreadsFull) (made_alike (home_in o)))
  need_alike need = same_agrees (seen need) (there need) refl

  needs_alike : (ns : List (Need Address)) → Agrees (verdict_on_all m.code.shapes (looks m q f) ns) (check_all (shown m threads) q (runs f None kids) ns)
  needs_alike [] = refl
  needs_alike (need ∷ more) = both_agree (seen need) (there need) _ _ (need_alike need) (needs_alike more)

  pub verdict_alike : (ask : Ask Address) → Agrees (verdict m q f ask) (check_all (shown m threads) q (runs f None kids) (needs m.code.shapes ask))
  verdict_alike ask = needs_alike (needs m.code.shapes ask)
