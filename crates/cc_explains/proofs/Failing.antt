-- An entry that is read does not fail, and what fails does so for one reason.
use Rattle.std.proofs.Common.{◌≡◌, ⊎_elim, ℕ, zero, suc, ◌<◌, List, [], ◌∷◌, ◌++◌, length, Option, Some, None, refl, sym, ap, ◌∙◌, subst, arith}
use Rattle.std.specs.Prelude.{ℤ}
use Rattle.std.specs.List.{AllByRecursion}
use Rattle.std.specs.FinMap as fin
use Rattle.std.proofs.lemmas.Option.{same_Some}
use Rattle.global_ptr.specs.declared.ends.FaultKind.{FaultKind}
use Rattle.global_ptr.specs.declared.ends.Standing.{Standing}
use Rattle.cc_core.specs.Names.{Name}
use Rattle.cc_core.specs.Core.{Program}
use Rattle.cc_core.specs.Config.{Config, State, Live, Ended}
use Rattle.cc_core.specs.Steps as core
use Rattle.effect_journal.specs.declared.entry.Entry.{Entry}
use Rattle.effect_journal.specs.declared.entry.Entry.TheVariants.{Run, Serve, Make, End}
use Rattle.effect_journal.specs.declared.entry.FaultBy.{FaultBy}
use Rattle.numbered_runs.specs.Alike.{IsLive}
use Rattle.numbered_runs.specs.Stands.{IsThread}
use Rattle.rsr_message.specs.declared.requests.Request.{Request}
use Rattle.rsr_message.specs.Requests.{Spells, SpellsEither, version_2}
use Rattle.rsr_message.specs.declared.versions.Version.TheVariants.{Two}
use Rattle.cc_ops.specs.declared.number.ThreadNo.{ThreadNo}
use Rattle.cc_explains.specs.declared.why.Why.{Why}
use Rattle.cc_explains.specs.declared.why.Why.TheVariants.{NoThread, OtherRequest, NotEnabled, Faults, OtherEnd}
use Rattle.cc_explains.specs.Places.{Place, Step, beginning, behind, Lead}
use Rattle.cc_explains.specs.Moves.{asker, posted_at}
use Rattle.cc_explains.specs.Explains.{IsOwnStep, IsRequest, Serves, Names, Explains, IsEnd, IsRead, AreRead}
use Rattle.cc_explains.specs.Unexplained.{AgainstOwn, AgainstServing, row, IsFirst, StopsShort, Fails, FirstUnexplained}
use Rattle.cc_explains.proofs.Reading.{same_request, entry_once, explained_read}

-- ---- a thread that makes a step lives, and neither waits nor is at a fault

pub lives : (p : Program) (x : Name) (s : Config) → core.CanMove (core.step p x s) → IsLive s x
lives p x s h = from (fin.get s.threads x) refl h
  where
    from : (o : Option State) → fin.get s.threads x ≡ o → core.CanMove (core.act_state p x s o) → IsLive s x
    from None is h = absurd h
    from (Some (Ended v)) is h = absurd h
    from (Some (Live l)) is h = (l, is)

pub mover_lives : (p : Program) (x : Name) (s r : Config) → core.step p x s ≡ core.Moves r → IsLive s x
mover_lives p x s r e = lives p x s (subst core.CanMove (sym e) tt)

pub one_name : (a : Place) (t : ThreadNo) (x y : Name) → IsThread a.numbers t x → IsThread a.numbers t y → x ≡ y
one_name a t x y h k = same_Some x y (sym h ∙ k)

no_wait : (p : Program) (x y : Name) (s r : Config) → x ≡ y → core.step p x s ≡ core.Waits → core.step p y s ≡ core.Moves r → ⊥
no_wait p x y s r e h k = let both : core.Waits ≡ core.Moves r = sym h ∙ (ap (λ (z : Name). core.step p z s) e ∙ k) in cc

no_fault : (p : Program) (x y : Name) (s r : Config) (kind : FaultKind) (line : ℕ) → x ≡ y → core.step p x s ≡ core.Faults kind line
    → core.step p y s ≡ core.Moves r → ⊥
no_fault p x y s r kind line e h k = let both : core.Faults kind line ≡ core.Moves r = sym h ∙ (ap (λ (z : Name). core.step p z s) e ∙ k) in cc

-- ---- nothing speaks against a step that is made

own_made : (p : Program) (t : ThreadNo) (a : Place) (x : Name) (r : Config) (why : Why) → IsThread a.numbers t x → posted_at p a t ≡ None
    → core.step p x a.config ≡ core.Moves r → AgainstOwn p t a why → ⊥
own_made p t a x r NoThread named own moves h = h x (record { named = named; lives = mover_lives p x a.config r moves })
own_made p t a x r OtherRequest named own moves h = h
own_made p t a x r NotEnabled named own moves h = ⊎_elim
    (λ w. no_wait p w.0 x a.config r (one_name a t w.0 x w.1.named named) w.2 moves)
    (λ posts. posts own)
    h
own_made p t a x r Faults named own moves (kind, line, (y, its, is)) = no_fault p y x a.config r kind line (one_name a t y x its named) is moves
own_made p t a x r OtherEnd named own moves h = h

its_thread : (bytes : List ℕ) (a : Place) (q o : Request) (x : Name) → Spells version_2 q bytes → SpellsEither o bytes
    → IsThread a.numbers (asker q) x → IsThread a.numbers (asker o) x
its_thread bytes a q o x spelled its named = subst (λ (z : Request). IsThread a.numbers (asker z) x) (sym (same_request o q bytes its spelled)) named

serving_made : (p : Program) (at : Option ℕ) (bytes : List ℕ) (a : Place) (q : Request) (x : Name) (r : Config) (why : Why)
    → IsRequest p at bytes a q → IsThread a.numbers (asker q) x → core.step p x a.config ≡ core.Moves r → AgainstServing p at bytes a why → ⊥
serving_made p at bytes a q x r NoThread asked named moves h =
    h q (record { version = Two; spelled = asked.spelled }) x (record { named = named; lives = mover_lives p x a.config r moves })
serving_made p at bytes a q x r OtherRequest asked named moves (o, its, differs) =
    differs (subst (IsRequest p at bytes a) (sym (same_request o q bytes its asked.spelled)) asked)
serving_made p at bytes a q x r NotEnabled asked named moves (o, its, (y, live, waits)) =
    no_wait p y x a.config r (one_name a (asker o) y x live.named (its_thread bytes a q o x asked.spelled its named)) waits moves
serving_made p at bytes a q x r Faults asked named moves (o, its, (kind, line, (y, there, is))) =
    no_fault p y x a.config r kind line (one_name a (asker o) y x there (its_thread bytes a q o x asked.spelled its named)) is moves
serving_made p at bytes a q x r OtherEnd asked named moves h = h

-- ---- an entry that is read does not fail

first_own : (p : Program) (t : ThreadNo) (m : Step) (ms : List Step) (a b : Place) (why : Why)
    → AllByRecursion (IsOwnStep p t) (m ∷ ms) → Lead p (m ∷ ms) a b → AgainstOwn p t a why → ⊥
first_own p t m ms a b why own h against =
    own_made p t a m.thread h.1 why (subst (λ (z : Place). IsThread z.numbers t m.thread) h.0 own.0.thread)
    (subst (λ (z : Place). posted_at p z t ≡ None) h.0 own.0.own) h.2 against

-- the first steps of two runs of a thread lead to one place
heads : (p : Program) (q k : ℕ) (m n : Step) (ms ns : List Step) (a b c : Place)
    → let t : ThreadNo = record { processor = q; thread = k } in
    AllByRecursion (IsOwnStep p t) (m ∷ ms) → AllByRecursion (IsOwnStep p t) (n ∷ ns)
    → (h : Lead p (m ∷ ms) a b) (l : Lead p (n ∷ ns) a c) → behind p n.thread a l.1 ≡ behind p m.thread a h.1
heads p q k m n ms ns a b c u v h l =
    (entry_once p (Run q k 1) (n ∷ []) (m ∷ []) a (behind p n.thread a l.1) (behind p m.thread a h.1) (refl, (v.0, tt)) (refl, (u.0, tt))
    (l.0, l.1, l.2, refl) (h.0, h.1, h.2, refl)).1

-- a run goes on past no place where something speaks against its next step
past : (p : Program) (q k : ℕ) (ms ns : List Step) (a b c : Place) (why : Why) → length ns < length ms
    → let t : ThreadNo = record { processor = q; thread = k } in
    AllByRecursion (IsOwnStep p t) ms → AllByRecursion (IsOwnStep p t) ns → Lead p ms a b → Lead p ns a c → AgainstOwn p t c why → ⊥
past p q k [] ns a b c why fewer u v h l against = absurd (omega arith)
past p q k (m ∷ ms) [] a b c why fewer u v h l against =
    first_own p (record { processor = q; thread = k }) m ms a b why u h
    (subst (λ (z : Place). AgainstOwn p (record { processor = q; thread = k }) z why) (sym l) against)
past p q k (m ∷ ms) (n ∷ ns) a b c why fewer u v h l against =
    past p q k ms ns (behind p m.thread a h.1) b c why (omega (arith, fewer)) u.1 v.1 h.3
    (subst (λ (z : Place). Lead p ns z c) (heads p q k m n ms ns a b c u v h l) l.3) against

served_fails : (p : Program) (at : Option ℕ) (bytes : List ℕ) (ms : List Step) (a b : Place) (why : Why)
    → Serves p at bytes ms → Lead p ms a b → AgainstServing p at bytes a why → ⊥
served_fails p at bytes ms a b why (m, is, u) h against =
    let l : Lead p (m ∷ []) a b = subst (λ (x : List Step). Lead p x a b) is h in
    serving_made p at bytes a u.request m.thread l.1 why (subst (λ (z : Place). IsRequest p at bytes z u.request) l.0 u.is)
    (subst (λ (z : Place). IsThread z.numbers (asker u.request) m.thread) l.0 u.thread) l.2 against

pub read_or_fails : (p : Program) (e : Entry) (a b : Place) (why : Why) → IsRead p e a b → Fails p e a why → ⊥
read_or_fails p (Run q k steps) a b why (ms, h, u) stops =
    let ns = stops.read in
    let fewer = stops.fewer in
    past p q k ms ns.0 a b stops.place why (omega (arith, fewer, u.0, ns.2.0)) u.1 ns.2.1 h ns.1 stops.against.holds
read_or_fails p (Serve q bytes) a b why (ms, h, u) fails = served_fails p (Some q) bytes ms a b why u h fails.holds
read_or_fails p (Make bytes) a b why (ms, h, u) fails = served_fails p None bytes ms a b why u h fails.holds
read_or_fails p (End standing by) a b why (ms, h, u) fails = u

-- ---- a journal that is explained has no first entry that is not

not_both : (p : Program) (s : Standing) (by : Option FaultBy) (xs ys : List Entry) (e : Entry) (rest : List Entry) (a b c : Place) (why : Why)
    → xs ++ End s by ∷ [] ≡ ys ++ e ∷ rest → AreRead p xs a b → IsEnd p b s by → AreRead p ys a c → Fails p e c why → ⊥
not_both p s by [] [] e rest a b c why same h end k fails =
    let last : e ≡ End s by = cc in
    let there : Fails p (End s by) c why = subst (λ (x : Entry). Fails p x c why) last fails in
    there.1 (subst (λ (z : Place). IsEnd p z s by) (sym h ∙ k) end)
not_both p s by [] (y ∷ ys) e rest a b c why same h end k fails =
    let last : y ≡ End s by = cc in
    let names : Names p (End s by) k.1.0 = subst (λ (x : Entry). Names p x k.1.0) last k.1.2 in
    names
not_both p s by (x ∷ xs) [] e rest a b c why same h end k fails =
    let first : e ≡ x = cc in
    read_or_fails p x a h.0 why h.1
    (subst (λ (z : Place). Fails p x z why) (sym k) (subst (λ (z : Entry). Fails p z c why) first fails))
not_both p s by (x ∷ xs) (y ∷ ys) e rest a b c why same h end k fails =
    let first : y ≡ x = cc in
    let others : xs ++ End s by ∷ [] ≡ ys ++ e ∷ rest = cc in
    let its : Names p x k.1.0 = subst (λ (z : Entry). Names p z k.1.0) first k.1.2 in
    let place : h.0 ≡ k.0 = (entry_once p x h.1.0 k.1.0 a h.0 k.0 h.1.2 its h.1.1 k.1.1).1 in
    not_both p s by xs ys e rest h.0 b c why others h.2 end (subst (λ (z : Place). AreRead p ys z c) (sym place) k.2) fails

pub explained_or_not : (p : Program) (is : List ℤ) (es : List Entry) (s : Standing) (k : ℕ) (why : Why)
    → Explains p is es s → FirstUnexplained p is es k why → ⊥
explained_or_not p is es s k why x u =
    let r = explained_read p is es s x in
    not_both p s r.by r.before u.before u.entry u.rest (beginning p is) r.end u.place why (sym r.whole ∙ u.whole) r.read r.ends u.read u.fails

-- ---- one entry fails first, for one reason

by_order : {X : Type 0} (m n : ℕ) → (m < n → X) → (m ≡ n → X) → (n < m → X) → X
by_order zero zero l e g = e refl
by_order zero (suc n) l e g = l (omega arith)
by_order (suc m) zero l e g = g (omega arith)
by_order (suc m) (suc n) l e g = by_order m n (λ h. l (omega (arith, h))) (λ h. e (ap suc h)) (λ h. g (omega (arith, h)))

abbrev reason_at : ℕ → Why
reason_at zero = NoThread
reason_at (suc zero) = OtherRequest
reason_at (suc (suc zero)) = NotEnabled
reason_at (suc (suc (suc zero))) = Faults
reason_at (suc (suc (suc (suc n)))) = OtherEnd

at_row : (why : Why) → reason_at (row why) ≡ why
at_row NoThread = refl
at_row OtherRequest = refl
at_row NotEnabled = refl
at_row Faults = refl
at_row OtherEnd = refl

one_reason : (H : Why → Type 0) (x y : Why) → IsFirst H x → IsFirst H y → x ≡ y
one_reason H x y u v = by_order (row x) (row y)
    (λ less. absurd (v.first x less u.holds))
    (λ same. sym (at_row x) ∙ (ap reason_at same ∙ at_row y))
    (λ less. absurd (u.first y less v.holds))

stops_once : (p : Program) (q k steps : ℕ) (a : Place) (why other : Why) → StopsShort p q k steps a why → StopsShort p q k steps a other → why ≡ other
stops_once p q k steps a why other x y =
    let t : ThreadNo = record { processor = q; thread = k } in
    let xs = x.read in
    let ys = y.read in
    by_order x.made y.made
    (λ less. absurd
    (past p q k ys.0 xs.0 a y.place x.place why (omega (arith, less, xs.2.0, ys.2.0)) ys.2.1 xs.2.1 ys.1 xs.1 x.against.holds))
    (λ same.
    let again : Names p (Run q k x.made) ys.0 = (ys.2.0 ∙ sym same, ys.2.1) in
    let place : x.place ≡ y.place = (entry_once p (Run q k x.made) xs.0 ys.0 a x.place y.place xs.2 again xs.1 ys.1).1 in
    one_reason (AgainstOwn p t x.place) why other x.against (subst (λ (z : Place). IsFirst (AgainstOwn p t z) other) (sym place) y.against))
    (λ less. absurd
    (past p q k xs.0 ys.0 a x.place y.place other (omega (arith, less, xs.2.0, ys.2.0)) xs.2.1 ys.2.1 xs.1 ys.1 y.against.holds))

fails_once : (p : Program) (e : Entry) (a : Place) (why other : Why) → Fails p e a why → Fails p e a other → why ≡ other
fails_once p (Run q k steps) a why other x y = stops_once p q k steps a why other x y
fails_once p (Serve q bytes) a why other x y = one_reason (AgainstServing p (Some q) bytes a) why other x y
fails_once p (Make bytes) a why other x y = one_reason (AgainstServing p None bytes a) why other x y
fails_once p (End standing by) a why other x y = x.0 ∙ sym y.0

first_once : (p : Program) (xs ys : List Entry) (e d : Entry) (r q : List Entry) (a b c : Place) (why other : Why)
    → xs ++ e ∷ r ≡ ys ++ d ∷ q → AreRead p xs a b → Fails p e b why → AreRead p ys a c → Fails p d c other
    → (length xs ≡ length ys) × (why ≡ other)
first_once p [] [] e d r q a b c why other same h u k v =
    let entry : d ≡ e = cc in
    let place : c ≡ b = sym k ∙ h in
    (refl, fails_once p e b why other u (subst (λ (z : Place). Fails p e z other) place (subst (λ (z : Entry). Fails p z c other) entry v)))
first_once p [] (y ∷ ys) e d r q a b c why other same h u k v =
    let entry : e ≡ y = cc in
    absurd (read_or_fails p y a k.0 why k.1
    (subst (λ (z : Place). Fails p y z why) (sym h) (subst (λ (z : Entry). Fails p z b why) entry u)))
first_once p (x ∷ xs) [] e d r q a b c why other same h u k v =
    let entry : d ≡ x = cc in
    absurd (read_or_fails p x a h.0 other h.1
    (subst (λ (z : Place). Fails p x z other) (sym k) (subst (λ (z : Entry). Fails p z c other) entry v)))
first_once p (x ∷ xs) (y ∷ ys) e d r q a b c why other same h u k v =
    let first : y ≡ x = cc in
    let others : xs ++ e ∷ r ≡ ys ++ d ∷ q = cc in
    let its : Names p x k.1.0 = subst (λ (z : Entry). Names p z k.1.0) first k.1.2 in
    let place : h.0 ≡ k.0 = (entry_once p x h.1.0 k.1.0 a h.0 k.0 h.1.2 its h.1.1 k.1.1).1 in
    let rest = first_once p xs ys e d r q h.0 b c why other others h.2 u (subst (λ (z : Place). AreRead p ys z c) (sym place) k.2) v in
    (ap suc rest.0, rest.1)

pub unexplained_once : (p : Program) (is : List ℤ) (es : List Entry) (j k : ℕ) (why other : Why)
    → FirstUnexplained p is es j why → FirstUnexplained p is es k other → (j ≡ k) × (why ≡ other)
unexplained_once p is es j k why other u v =
    let whole = sym u.whole ∙ v.whole in
    let both =
    first_once p u.before v.before u.entry v.entry u.rest v.rest (beginning p is) u.place v.place why other whole u.read u.fails v.read v.fails in
    (u.number ∙ both.0 ∙ sym v.number, both.1)

pub end_alone : (p : Program) (is : List ℤ) (es : List Entry) (k : ℕ) → (u : FirstUnexplained p is es k OtherEnd)
    → (standing : Standing) × (by : Option FaultBy) × (u.entry ≡ End standing by)
end_alone p is es k u = from u.entry u.fails
  where
    from : (e : Entry) → Fails p e u.place OtherEnd → (standing : Standing) × (by : Option FaultBy) × (e ≡ End standing by)
    from (Run q k steps) h = absurd h.against.holds
    from (Serve q bytes) h = absurd h.holds
    from (Make bytes) h = absurd h.holds
    from (End standing by) h = (standing, by, refl)
