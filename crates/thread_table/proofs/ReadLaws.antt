-- What is read of a table behind a change, by which proofs above speak of a thread.
use Rattle.std.proofs.Common.{◌≡◌, ℕ, zero, suc, ◌-◌, ◌<◌, if◌then◌else◌, List, [], ◌∷◌, ◌++◌, length, set, is_some, Option, Some, None, IsSome, refl, sym, ◌∙◌, ap, subst, arith}
use Rattle.std.specs.List.{slice_get}
use Rattle.std.specs.Option.{option_map, option_and_then}
use Rattle.std.proofs.lemmas.Bool.{true≢false}
use Rattle.std.proofs.lemmas.List.{get_or_append_left, length-set, length_push}
use Rattle.std.proofs.lemmas.Option.{slice_get_within}
use Rattle.global_ptr.specs.declared.values.Value.{Value}
use Rattle.thread_table.specs.declared.frame.Asker.{Asker}
use Rattle.thread_table.specs.declared.frame.Frame.{Frame}
use Rattle.thread_table.specs.declared.frame.Level.{Level}
use Rattle.thread_table.specs.LiveThread.{LiveThread, level, new_thread, last, innermost, in_innermost, inside_of, awaits_call, one_more}
use Rattle.thread_table.specs.Numbers.{thread_at}
use Rattle.thread_table.specs.Table.{Table, IsLive, level_at, changed, forked, parent_of, spawned}
use Rattle.thread_table.proofs.NumberLaws.{within_threads}
use Rattle.thread_table.proofs.TableLaws.{get-set_same}

pub at-changed : (table : Table) (n : ℕ) (f : LiveThread → LiveThread) → thread_at (changed table n f) n ≡ option_map f (thread_at table n)
at-changed [] n f = refl
at-changed (x ∷ xs) zero f = refl
at-changed (x ∷ xs) (suc n) f = at-changed xs n f

pub last-push : {A : Type 0} (xs : List A) (y : A) → slice_get (xs ++ y ∷ []) (length xs) ≡ Some y
last-push [] y = refl
last-push (x ∷ xs) y = last-push xs y

-- the innermost frame of a thread that has entered a function is that function's
pub innermost-inside : (frame : Frame) (t : LiveThread) → innermost (inside_of frame t) ≡ Some (level frame)
innermost-inside frame t = pushed (if awaits_call t.frames then [] else t.frames)
  where
    pushed : (ls : List Level) → last (ls ++ level frame ∷ []) ≡ Some (level frame)
    pushed ls =
        let place : length (ls ++ level frame ∷ []) - 1 ≡ length ls = omega (arith, length_push ls (level frame)) in
        ap (slice_get (ls ++ level frame ∷ [])) place ∙ last-push ls (level frame)

-- a change of the innermost frame leaves the thread one
pub innermost-in : (f : Level → Level) (t : LiveThread) (l : Level) → innermost t ≡ Some l → innermost (in_innermost f t) ≡ Some (f l)
innermost-in f t l is = rw is
    (ap (slice_get (set t.frames (length t.frames - 1) (f l))) (ap (λ n. n - 1) (length-set t.frames (length t.frames - 1) (f l)))
    ∙ get-set_same t.frames (length t.frames - 1) (f l) (slice_get_within t.frames (length t.frames - 1) l is))

-- a live thread that has entered a function has a frame
pub level-inside : (table : Table) (n : ℕ) (frame : Frame) → IsLive table n → IsSome (level_at (changed table n (inside_of frame)) n)
level-inside table n frame live = rw (at-changed table n (inside_of frame)) (by_thread (thread_at table n) live)
  where
    by_thread : (o : Option LiveThread) → IsSome o → IsSome (option_and_then innermost (option_map (inside_of frame) o))
    by_thread None some = absurd (true≢false (sym some))
    by_thread (Some t) some = ap is_some (innermost-inside frame t)

-- a thread that has a frame has one still where a branch of it is made
pub level-spawned : (table : Table) (p : ℕ) (frame : Frame) (args : List Value) (asker : Option Asker) → IsSome (level_at table p)
    → IsSome (level_at (spawned table frame args (Some p) asker) p)
level-spawned table p frame args asker has = by_thread (thread_at table p) refl has
  where
    new : Option LiveThread
    new = Some (new_thread frame args (parent_of table (Some p)) asker)

    by_level : (t : LiveThread) → (o : Option Level) → innermost t ≡ o → IsSome o → IsSome (innermost (in_innermost (one_more (length table)) t))
    by_level t None inner some = absurd (true≢false (sym some))
    by_level t (Some l) inner some = ap is_some (innermost-in (one_more (length table)) t l inner)

    by_thread : (o : Option LiveThread) → thread_at table p ≡ o → IsSome (option_and_then innermost o) → IsSome (level_at (forked table (Some p) ++ new ∷ []) p)
    by_thread None gone some = absurd (true≢false (sym some))
    by_thread (Some t) is some =
        let before : p < length (forked table (Some p)) =
        subst (λ n. p < n) (sym (length-set table p (option_map (in_innermost (one_more (length table))) (thread_at table p)))) (within_threads table p t is) in
        rw (get_or_append_left (forked table (Some p)) (new ∷ []) None p before, at-changed table p (in_innermost (one_more (length table))), is)
        (by_level t (innermost t) refl some)
