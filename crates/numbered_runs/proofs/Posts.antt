-- A machine that stands for a configuration posts what that does.
use Rattle.std.proofs.Common.{◌≡◌, ⊎_elim, ap₂, ℕ, zero, suc, Bool, true, false, true≢false, List, [], ◌∷◌, map, Option, Some, None, refl, sym, ap, ◌∙◌, arith}
use Rattle.std.proofs.lemmas.Bool.{cases_Bool}
use Rattle.std.proofs.lemmas.Option.{none-some, same_Some}
use Rattle.std.specs.Prelude.{slice_get, if◌then◌else◌}
use Rattle.std.specs.FinMap as fin
use Rattle.cc_ops.specs.Values as values
use Rattle.cc_ops.specs.Values.{Void, Int, Null, Ptr}
use Rattle.cc_ops.specs.Machine.{Address, Values}
use Rattle.cc_ops.specs.declared.number.ThreadNo.{ThreadNo}
use Rattle.cc_core.specs.Names.{Name, Value, same_name}
use Rattle.cc_core.specs.Core.{Program, Term}
use Rattle.cc_core.specs.Asks.{Ask, Reads, Writes, Copies, Indexes, Shifts, Computes, Tests, Makes, MakesWith, Builds, Enters, Leaves}
use Rattle.cc_core.specs.Asks.{ForksAll, ForksOne, Joins, Spawns, Prints, Calls, Casts, NewProcessor}
use Rattle.cc_core.specs.Config.{Config, State, Live, Ended, home, home_of}
use Rattle.cc_core.specs.Next.{Next, Ready, Asks, next}
use Rattle.cc_core.specs.Numbers as core-numbers
use Rattle.cc_core.specs.Numbers.{Numbers, listed, first_place, numbered, Post, Get, Put, Call, Cast, Make, where_object}
use Rattle.cc_code.specs.Code.{Move, Does, Ends, move}
use Rattle.code_names.specs.Same.{Told, SameValues, SameAsk}
use Rattle.numbered_threads.specs.Numbered.{MovesAlike}
use Rattle.run_numbers.proofs.Numbers.{objects_are_numbered}
use Rattle.run_numbers.proofs.Homes.{made_at_home}
use Rattle.cc_core.proofs.NameLaws.{told_same, told_itself}
use Rattle.run_numbers.proofs.Processors.{one_number}
use Rattle.numbered_runs.specs.Machine.{Machine, Progress, Goes, Over, thread_in}
use Rattle.numbered_runs.specs.Posts.{where_address, posted, move_posts, posts}
use Rattle.numbered_runs.specs.Stands.{Stands, IsThread, is_object, Alike, SameAsked, SameState}
use Rattle.numbered_runs.proofs.Naming.{object_place, thread_at}
use Rattle.numbered_runs.proofs.Settled.{live_moves}

-- the first place of a name that stands once is where it stands
place_is : (xs : List Name) (k : ℕ) (x : Name) → slice_get xs k ≡ Some x → ((j : ℕ) → slice_get xs j ≡ Some x → j ≡ k) → first_place xs x ≡ k
place_is [] k x here once = absurd (none-some x here)
place_is (y ∷ ys) zero x here once =
    ap (λ (b : Bool). if b then 0 else suc (first_place ys x)) (ap (same_name x) (same_Some y x here) ∙ told_itself x)
place_is (y ∷ ys) (suc k) x here once = ⊎_elim
    (λ (is : same_name x y ≡ true).
    let early : 0 ≡ suc k = once 0 (ap (λ (z : Name). Some z) (sym (told_same x y is))) in absurd (omega (arith, early)))
    (λ (other : same_name x y ≡ false).
    ap (λ (b : Bool). if b then 0 else suc (first_place ys x)) other
    ∙ ap suc (place_is ys k x here (λ j h. let e : suc j ≡ suc k = once (suc j) h in omega (arith, e))))
    (cases_Bool (same_name x y))

module _ (p : Program) (w : Machine) (s : Config) (n : Numbers) (st : Stands p w s n) where
  -- ---- values

  abbrev address_on : Name → Name → Address
  address_on o q = record { processor = first_place n.processors q; object = first_place (listed n.objects q) o }

  address_is : (a : Address) (o : Name) → Told (is_object n) a o → core-numbers.address s n o ≡ a
  address_is a o told =
      let at = object_place n a o told in
      let are = objects_are_numbered p st.ints s n st.run in
      let there = are.named at.0 a.object o at.2 in
      let its_home : home s (Ptr o 0) ≡ at.0 = ap home_of there.1 ∙ made_at_home p st.ints s n st.run at.0 a.object o there.0 at.2 there.1 in
      let processor : first_place n.processors at.0 ≡ a.processor =
      place_is n.processors a.processor at.0 at.1 (λ j h. one_number p st.ints s n st.run j a.processor at.0 h at.1) in
      let object : first_place (listed n.objects at.0) o ≡ a.object =
      place_is (listed n.objects at.0) a.object o at.2 (λ j h. (are.once at.0 at.0 j a.object o h at.2).1) in
      ap (address_on o) its_home ∙ ap₂ (λ (j k : ℕ). let b : Address = record { processor = j; object = k } in b) processor object

  value_is : (v : values.Value Address) (u : Value) → Alike n v u → numbered s n u ≡ v
  value_is Void Void same = refl
  value_is (Int i) (Int j) same = ap (λ k. Int k) (sym same)
  value_is Null Null same = refl
  value_is (Ptr a i) (Ptr o j) same = ap₂ (λ (b : Address) (k : ℕ). Ptr b k) (address_is a o same.0) (sym same.1)
  value_is v u same = absurd same

  values_are : (vs : Values) (us : List Value) → SameValues (Told (is_object n)) vs us → map (numbered s n) us ≡ vs
  values_are [] [] same = refl
  values_are [] (u ∷ us) same = absurd same
  values_are (v ∷ vs) [] same = absurd same
  values_are (v ∷ vs) (u ∷ us) same = ap₂ (λ (x : values.Value Address) (xs : Values). x ∷ xs) (value_is v u same.0) (values_are vs us same.1)

  -- ---- asks

  through : (v : values.Value Address) (u : Value) → Alike n v u → (a b : Post) → a ≡ b → where_address v a ≡ where_object u b
  through Void Void same a b e = refl
  through (Int i) (Int j) same a b e = refl
  through Null Null same a b e = refl
  through (Ptr o i) (Ptr q j) same a b e = ap (λ (post : Post). Some post) e
  through v u same a b e = absurd same

  called : (post : ℕ → values.Value Address → Values → Post) (f g : ℕ) (v : values.Value Address) (u : Value) (vs : Values) (us : List Value)
      → (f ≡ g) × Alike n v u × SameValues (Told (is_object n)) vs us → post f v vs ≡ post g (numbered s n u) (map (numbered s n) us)
  called post f g v u vs us same =
      ap (λ h. post h v vs) same.0 ∙ ap₂ (λ (x : values.Value Address) (xs : Values). post g x xs) (sym (value_is v u same.1)) (sym (values_are vs us same.2))

  ask_posts : (q : Ask Address) (a : Ask Name) → SameAsk (Told (is_object n)) q a → posted q ≡ core-numbers.posted s n a
  ask_posts (Reads true v) (Reads true u) same = through v u same.1 _ _ (ap (λ x. Get x) (sym (value_is v u same.1)))
  ask_posts (Reads false v) (Reads false u) same = refl
  ask_posts (Reads true v) (Reads false u) same = absurd (true≢false same.0)
  ask_posts (Reads false v) (Reads true u) same = absurd (true≢false (sym same.0))
  ask_posts (Writes true v x) (Writes true u y) same =
      through v u same.1 _ _ (ap₂ (λ (a b : values.Value Address). Put a b) (sym (value_is v u same.1)) (sym (value_is x y same.2)))
  ask_posts (Writes false v x) (Writes false u y) same = refl
  ask_posts (Writes true v x) (Writes false u y) same = absurd (true≢false same.0)
  ask_posts (Writes false v x) (Writes true u y) same = absurd (true≢false (sym same.0))
  ask_posts (Copies v i) (Copies u j) same = refl
  ask_posts (Indexes v i x) (Indexes u j y) same = refl
  ask_posts (Shifts v x) (Shifts u y) same = refl
  ask_posts (Computes op vs) (Computes op' us) same = refl
  ask_posts Tests Tests same = refl
  ask_posts (Makes kind i) (Makes kind' j) same = refl
  ask_posts (MakesWith kind v) (MakesWith kind' u) same = refl
  ask_posts (Builds c vs) (Builds d us) same = refl
  ask_posts (Enters f v vs) (Enters g u us) same = refl
  ask_posts Leaves Leaves same = refl
  ask_posts (ForksAll i) (ForksAll j) same = refl
  ask_posts (ForksOne v) (ForksOne u) same = refl
  ask_posts (Joins ks) (Joins js) same = refl
  ask_posts (Spawns f v vs) (Spawns g u us) same = refl
  ask_posts (Prints parts vs) (Prints parts' us) same = refl
  ask_posts (Calls f v vs) (Calls g u us) same = through v u same.1 _ _ (called (λ h x xs. Call h x xs) f g v u vs us same)
  ask_posts (Casts f v vs) (Casts g u us) same = through v u same.1 _ _ (called (λ h x xs. Cast h x xs) f g v u vs us same)
  ask_posts (NewProcessor c vs) (NewProcessor d us) same = ap₂ (λ (e : ℕ) (xs : Values). Some (Make e xs)) same.0 (sym (values_are vs us same.1))
  ask_posts q a same = absurd same

  -- ---- threads

  moves_post : (e : Next Value Term) (m : Move Address) (mine : Option ThreadNo) (its : Option ℕ) (kids : List ThreadNo)
      → MovesAlike p w.code (is_object n) (is_object n) e m → SameAsked n kids mine its → move_posts m mine ≡ core-numbers.next_posts s n e its
  moves_post (Asks line' a k) (Does line q j) None None kids same asked = ask_posts q a same.1
  moves_post (Asks line' a k) (Does line q j) (Some kid) (Some made) kids same asked = refl
  moves_post (Asks line' a k) (Does line q j) None (Some made) kids same asked = absurd asked
  moves_post (Asks line' a k) (Does line q j) (Some kid) None kids same asked = absurd asked
  moves_post (Ready u) (Ends v) mine its kids same asked = refl
  moves_post e m mine its kids same asked = absurd same

  state_posts : (x : Name) (a : Progress) (b : State) → SameState n p w.code x a b → posts w.code (Some a) ≡ core-numbers.posts p s n (Some b)
  state_posts x (Over v) (Ended u) same = refl
  state_posts x (Goes r) (Live l) same =
      moves_post (next p l.term) (move w.code r.thread) r.asked l.asked r.kids (live_moves p w.code n x r l same (is_object n) (λ a o h. h)) same.asked
  state_posts x (Over v) (Live l) same = absurd same
  state_posts x (Goes r) (Ended u) same = absurd same

  pub posts_alike : (t : ThreadNo) (x : Name) → IsThread n t x → posts w.code (thread_in w.threads t) ≡ core-numbers.posts p s n (fin.get s.threads x)
  posts_alike t x named =
      let at = thread_at p w s n st t x named in
      let found = at.2 in
      ap (posts w.code) at.1 ∙ (state_posts x at.0 found.0 found.2 ∙ ap (core-numbers.posts p s n) (sym found.1))
