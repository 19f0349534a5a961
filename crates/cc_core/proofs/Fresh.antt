-- The names that threads give are free.
use Rattle.std.proofs.Common.{◌≡◌, ◌≢◌, ◌⊎◌, ℕ, suc, ◌+◌, ◌<◌, ◌≤◌, List, [], ◌∷◌, ◌++◌, length, Option, Some, None, refl, sym, ap, subst}
use Rattle.std.proofs.Common.{◌∙◌, ⊎_elim, inl, inr, arith, Bool, true, false, length-append}
use Rattle.std.specs.Prelude.{drop, if◌then◌else◌, ℤ}
use Rattle.std.specs.FinMap as fin
use Rattle.cc_ops.specs.Values.{Result, Gives, Fails, Void, Int, Null, Ptr}
use Rattle.cc_ops.specs.declared.kind.Kind.{Kind}
use Rattle.cc_core.specs.Names.{Name, name_cmp, Map, Value, Cell, puts}
use Rattle.cc_core.specs.Core.{Term, Program, shapes, Shapes, function}
use Rattle.cc_core.specs.Asks.{Ask, Reads, Writes, Copies, Indexes, Shifts, Computes, Tests, Makes, MakesWith, Builds, Enters}
use Rattle.cc_core.specs.Asks.{Leaves, ForksAll, ForksOne, Joins, Spawns, Prints, Calls, Casts, NewProcessor}
use Rattle.cc_core.specs.Next.{Next, Ready, Asks, next, entered}
use Rattle.cc_core.specs.Config.{Config, Thread, State, Live, Object, put_cells, write_value, write_all}
use Rattle.cc_core.specs.Effects.{effect, parameters, first_objects, branch_count, answer, is_call, start_home, addresses}
use Rattle.cc_core.specs.Steps.{settled, settle, settle_all, new_threads, change, start, ints, Run}
use Rattle.cc_core.specs.Laws.{NamesAreFree, IsReached}
use Rattle.cc_core.proofs.Maps.{cases_name, get_same, get_other, IsKey, IsEntry, key_of_entry, entry_of_key, puts_case, puts_key}
use Rattle.cc_core.proofs.Maps.{puts_other}
use Rattle.cc_core.proofs.StepLaws.{IsStep, IsMet, Met, IsJoined, Joined, step_case}
use Rattle.cc_core.proofs.Forks.{ForksAsAsked, forks_as_asked}

-- names

pub tail_of : (k j : ℕ) (a b : Name) → k ∷ a ≡ j ∷ b → a ≡ b
tail_of k j a b e = cc

pub head_of : (k j : ℕ) (a b : Name) → k ∷ a ≡ j ∷ b → k ≡ j
head_of k j a b e = cc

-- no name is made from itself
pub not_longer : (k : ℕ) (a : Name) → k ∷ a ≢ a
not_longer k a e = let h : length (k ∷ a) ≡ length a = ap length e in absurd (omega (arith, h))

-- where nothing is after puts, nothing was
pub puts_none : {X : Type 0} (es : List (Name × X)) (m : Map X) (q : Name) → fin.get (puts es m) q ≡ None → fin.get m q ≡ None
puts_none es m q none = ⊎_elim
    (λ (a : fin.get (puts es m) q ≡ fin.get m q). sym a ∙ none)
    (λ (b : (x : _) × IsEntry q x es × (fin.get (puts es m) q ≡ Some x)). let h : Some b.0 ≡ None = sym b.2 ∙ none in cc)
    (puts_case es m q)

-- the threads that are made, from number k on

pub length-new_threads : (t : Name) (k : ℕ) (q : Name) (own : ℕ) (terms : List Term) → length (new_threads t k q own terms) ≡ length terms
length-new_threads t k q own [] = refl
length-new_threads t k q own (term ∷ terms) = ap suc (length-new_threads t (suc k) q own terms)

pub record IsNewThread (t : Name) (k n own : ℕ) (u : Name) (l : Thread) : Type 0 where
  pub number : ℕ
  pub named : u ≡ number ∷ t
  pub low : k ≤ number
  pub high : number < k + n
  pub no_threads : l.threads ≡ 0
  pub objects : l.objects ≡ own

pub new_thread_is : (t : Name) (k : ℕ) (q : Name) (own : ℕ) (terms : List Term) (u : Name) (l : Thread)
    → IsEntry u l (new_threads t k q own terms) → IsNewThread t k (length terms) own u l
new_thread_is t k q own [] u l h = absurd h
new_thread_is t k q own (term ∷ terms) u l h = ⊎_elim
    (λ (a : (u ≡ k ∷ t) × (l ≡ _)). record {
      number = k;
      named = a.0;
      low = omega arith;
      high = omega arith;
      no_threads = ap (λ (x : Thread). x.threads) a.1;
      objects = ap (λ (x : Thread). x.objects) a.1;
    })
    (λ (b : IsEntry u l (new_threads t (suc k) q own terms)).
    let n = new_thread_is t (suc k) q own terms u l b in
    let low = n.low in let high = n.high in
    record {
      number = n.number;
      named = n.named;
      low = omega (arith, low);
      high = omega (arith, high);
      no_threads = n.no_threads;
      objects = n.objects;
    })
    h

-- each number from k on, below k and how many there are, is given
pub new_thread_key : (t : Name) (k : ℕ) (q : Name) (own : ℕ) (terms : List Term) → 0 < length terms
    → IsKey (k ∷ t) (new_threads t k q own terms)
new_thread_key t k q own [] h = absurd (omega (arith, h))
new_thread_key t k q own (term ∷ terms) h = inl refl

pub settled_entry : (p : Program) (es : List (Name × Thread)) (u : Name) (x : State) → IsEntry u x (settle_all p es)
    → (l : Thread) × IsEntry u l es × (x ≡ settle p l)
settled_entry p [] u x h = absurd h
settled_entry p (e ∷ es) u x h = ⊎_elim
    (λ (a : (u ≡ e.0) × (x ≡ settle p e.1)). (e.1, inl (a.0, refl), a.1))
    (λ (b : IsEntry u x (settle_all p es)). let g = settled_entry p es u x b in (g.0, inr g.1, g.2))
    h

pub settled_key : (p : Program) (es : List (Name × Thread)) (u : Name) → IsKey u es → IsKey u (settle_all p es)
settled_key p [] u h = h
settled_key p (e ∷ es) u h = ⊎_elim (λ (a : u ≡ e.0). inl a) (λ (b : IsKey u es). inr (settled_key p es u b)) h

-- a thread that goes on is as it was made
pub live_settled : (p : Program) (l m : Thread) → settle p l ≡ Live m → m ≡ l
live_settled p l m e = from (next p l.term) e
  where
    from : (n : Next Value Term) → settled n l ≡ Live m → m ≡ l
    from (Ready v) f = cc
    from (Asks line q k) f = cc

-- the objects that are made

pub record IsOwn (t : Name) (k n : ℕ) (o : Name) : Type 0 where
  pub number : ℕ
  pub named : o ≡ number ∷ t
  pub low : k ≤ number
  pub high : number < k + n

parameter_is : (t : Name) (k : ℕ) (q : Name) (kinds : List (List Kind)) (vs : List Value) (o : Name)
    → IsKey o (parameters t k q kinds vs) → IsOwn t k (length kinds) o
parameter_is t k q [] vs o h = absurd h
parameter_is t k q (ks ∷ more) vs o h = ⊎_elim
    (λ (a : o ≡ k ∷ t). record { number = k; named = a; low = omega arith; high = omega arith })
    (λ (b : IsKey o (parameters t (suc k) q more (drop (length ks) vs))).
    let n = parameter_is t (suc k) q more (drop (length ks) vs) o b in
    let low = n.low in let high = n.high in
    record { number = n.number; named = n.named; low = omega (arith, low); high = omega (arith, high) })
    h

length-parameters : (t : Name) (k : ℕ) (q : Name) (kinds : List (List Kind)) (vs : List Value)
    → length (parameters t k q kinds vs) ≡ length kinds
length-parameters t k q [] vs = refl
length-parameters t k q (ks ∷ more) vs = ap suc (length-parameters t (suc k) q more (drop (length ks) vs))

-- the copy of a branch
pub record IsCopy (t : Name) (k : ℕ) (ask : Ask Name) (o : Name) : Type 0 where
  pub named : o ≡ 0 ∷ k ∷ t
  pub one : branch_count ask ≡ 1
  pub counted : first_objects ask ≡ 1

pub data IsNewObject (t : Name) (l : Thread) (ask : Ask Name) (own : ℕ) (o : Name) : Type 0 where
  Own : IsOwn t l.objects own o → IsNewObject t l ask own o
  Copy : IsCopy t l.threads ask o → IsNewObject t l ask own o

one_own : (t : Name) (k : ℕ) (o : Name) → (o ≡ k ∷ t) ⊎ ⊥ → IsOwn t k 1 o
one_own t k o h = ⊎_elim
    (λ (a : o ≡ k ∷ t). record { number = k; named = a; low = omega arith; high = omega arith })
    (λ (b : ⊥). absurd b)
    h

pub new_object_is : (h : Shapes) (t : Name) (l : Thread) (ask : Ask Name) (found : List Value) (o : Name)
    → IsKey o (effect h t l ask found).objects → IsNewObject t l ask (effect h t l ask found).own o
new_object_is h t l (Reads remote a) found o k = absurd k
new_object_is h t l (Writes remote a v) found o k = absurd k
new_object_is h t l (Copies a n) found o k = absurd k
new_object_is h t l (Indexes a n i) found o k = absurd k
new_object_is h t l (Shifts a i) found o k = absurd k
new_object_is h t l (Computes op vs) found o k = absurd k
new_object_is h t l Tests found o k = absurd k
new_object_is h t l (Makes kind n) found o k = Own (one_own t l.objects o k)
new_object_is h t l (MakesWith kind v) found o k = Own (one_own t l.objects o k)
new_object_is h t l (Builds c vs) found o k = Own (one_own t l.objects o k)
new_object_is h t l (Enters f this vs) found o k = Own (parameter_is t l.objects l.home _ vs o k)
new_object_is h t l Leaves found o k = absurd k
new_object_is h t l (ForksAll n) found o k = absurd k
new_object_is h t l (ForksOne v) found o k = ⊎_elim
    (λ (a : o ≡ 0 ∷ l.threads ∷ t). Copy (record { named = a; one = refl; counted = refl }))
    (λ (b : ⊥). absurd b)
    k
new_object_is h t l (Joins made) found o k = absurd k
new_object_is h t l (Spawns f this vs) found o k = absurd k
new_object_is h t l (Prints parts vs) found o k = absurd k
new_object_is h t l (Calls f this vs) found o k = absurd k
new_object_is h t l (Casts f this vs) found o k = absurd k
new_object_is h t l (NewProcessor c vs) found o k = Own (one_own t l.objects o k)

-- a write makes no object

put_none : (m : Map Object) (o q : Name) (x : Option Object) (cells : Result (List Cell)) → fin.get m o ≡ x → fin.get m q ≡ None
    → fin.get (put_cells m o x cells) q ≡ None
put_none m o q None cells is none = none
put_none m o q (Some x) (Fails kind) is none = none
put_none m o q (Some x) (Gives cells) is none =
    get_other m o _ q (λ e. let h : Some x ≡ None = sym is ∙ ap (fin.get m) (sym e) ∙ none in cc) ∙ none

write_none : (m : Map Object) (a v : Value) (q : Name) → fin.get m q ≡ None → fin.get (write_value m a v) q ≡ None
write_none m Void v q none = none
write_none m (Int n) v q none = none
write_none m Null v q none = none
write_none m (Ptr o x) v q none = put_none m o q _ _ refl none

pub writes_none : (ws : List (Value × Value)) (m : Map Object) (q : Name) → fin.get m q ≡ None → fin.get (write_all m ws) q ≡ None
writes_none [] m q none = none
writes_none (w ∷ ws) m q none = writes_none ws (write_value m w.0 w.1) q (write_none m w.0 w.1 q none)

-- t's object of a number from low on and below high
abbrev pub OwnName : Name → (low high : ℕ) → Name → Type 0
OwnName t low high o = (i : ℕ) × (o ≡ i ∷ t) × (low ≤ i) × (i < high)

-- the copy of t's thread of number k, which is made in the same step
abbrev pub CopyName : Name → (k : ℕ) → List (Name × Thread) → Name → Type 0
CopyName t k new o = (o ≡ 0 ∷ k ∷ t) × IsKey (k ∷ t) new × ((u : Name) (m : Thread) → IsEntry u m new → m.objects ≡ 1)

-- what a step makes of threads and objects, as far as names go

pub record Grows (p : Program) (s r : Config) (t : Name) : Type 0 where
  pub l : Thread
  pub live : fin.get s.threads t ≡ Some (Live l)
  pub after : Thread
  pub new : List (Name × Thread)
  pub objects : List (Name × Object)
  pub threads_are : r.threads ≡ puts ((t, settle p after) ∷ settle_all p new) s.threads
  pub objects_are : (q : Name) → fin.get s.objects q ≡ None → (IsKey q objects → ⊥) → fin.get r.objects q ≡ None
  pub more_threads : l.threads ≤ after.threads
  pub more_objects : l.objects ≤ after.objects
  pub new_thread : (u : Name) (m : Thread) → IsEntry u m new
      → (i : ℕ) × (u ≡ i ∷ t) × (l.threads ≤ i) × (i < after.threads) × (m.threads ≡ 0)
  pub new_object : (o : Name) → IsKey o objects → OwnName t l.objects after.objects o ⊎ CopyName t l.threads new o

threads_of : (b : Bool) (x y : Thread) (n : ℕ) → x.threads ≡ n → y.threads ≡ n → (if b then x else y).threads ≡ n
threads_of true x y n e f = e
threads_of false x y n e f = f

objects_of : (b : Bool) (x y : Thread) (n : ℕ) → x.objects ≡ n → y.objects ≡ n → (if b then x else y).objects ≡ n
objects_of true x y n e f = e
objects_of false x y n e f = f

met_grows : (p : Program) (t : Name) (s r : Config) → IsMet p t s r → Grows p s r t
met_grows p t s r m =
    let l = m.l in
    let e = effect (shapes p) t l m.ask m.found in
    let x = m.k (answer l m.ask e m.found) in
    let q = start_home s l m.ask in
    let terms = e.starts ++ x.branches in
    let made = new_threads t l.threads q (first_objects m.ask) terms in
    let c = change p t s l m.ask m.k m.found in
    let many : length made ≡ length terms = length-new_threads t l.threads q (first_objects m.ask) terms in
    let threads : c.thread.threads ≡ l.threads + length made = threads_of (is_call m.ask) _ _ _ refl refl in
    let objects : c.thread.objects ≡ l.objects + e.own = objects_of (is_call m.ask) _ _ _ refl refl in
    let branches : length x.branches ≡ branch_count m.ask =
    subst ForksAsAsked m.asks (forks_as_asked p l.term) (answer l m.ask e m.found) in
    let all : length terms ≡ length e.starts + length x.branches = length-append e.starts x.branches in
    record {
      l = l;
      live = m.live;
      after = c.thread;
      new = made;
      objects = e.objects;
      threads_are = ap (λ (z : Config). z.threads) m.is;
      objects_are = λ o none apart.
          ap (λ (z : Config). fin.get z.objects o) m.is
          ∙ (puts_other e.objects (write_all s.objects e.writes) o apart ∙ writes_none e.writes s.objects o none);
      more_threads = omega (arith, threads);
      more_objects = omega (arith, objects);
      new_thread = λ u n h.
          let i = new_thread_is t l.threads q (first_objects m.ask) terms u n h in
          let high = i.high in
          (i.number, i.named, i.low, omega (arith, high, threads, many), i.no_threads);
      new_object = λ o h. elim (new_object_is (shapes p) t l m.ask m.found o h) [
        | Own i ↦ let high = i.high in inl (i.number, i.named, i.low, omega (arith, high, objects))
        | Copy i ↦ let one = i.one in inr (
          i.named,
          new_thread_key t l.threads q (first_objects m.ask) terms (omega (arith, all, branches, one)),
          λ u n g. (new_thread_is t l.threads q (first_objects m.ask) terms u n g).objects ∙ i.counted,
        )
      ];
    }

joined_grows : (p : Program) (t : Name) (s r : Config) → IsJoined p t s r → Grows p s r t
joined_grows p t s r j = record {
  l = j.l;
  live = j.live;
  after = record j.l { term = j.term; asked = None };
  new = [];
  objects = [];
  threads_are = ap (λ (z : Config). z.threads) j.is;
  objects_are = λ o none apart. ap (λ (z : Config). fin.get z.objects o) j.is ∙ none;
  more_threads = omega arith;
  more_objects = omega arith;
  new_thread = λ u n h. absurd h;
  new_object = λ o h. absurd h;
}

pub grows : (p : Program) (t : Name) (s r : Config) → IsStep p t s r → Grows p s r t
grows p t s r (Met m) = met_grows p t s r m
grows p t s r (Joined j) = joined_grows p t s r j

pub settled_key_is : (p : Program) (es : List (Name × Thread)) (u : Name) → IsKey u (settle_all p es) → IsKey u es
settled_key_is p [] u h = h
settled_key_is p (e ∷ es) u h =
    ⊎_elim (λ (a : u ≡ e.0). inl a) (λ (b : IsKey u (settle_all p es)). inr (settled_key_is p es u b)) h

-- which threads there are after a step

-- the thread that moved; one that it made; one that there was before
pub data IsThere (p : Program) (s r : Config) (t : Name) (g : Grows p s r t) (u : Name) (m : Thread) : Type 0 where
  Itself : u ≡ t → m ≡ g.after → IsThere p s r t g u m
  New : IsEntry u m g.new → IsThere p s r t g u m
  Older : u ≢ t → fin.get s.threads u ≡ Some (Live m) → IsThere p s r t g u m

module _ (p : Program) (t : Name) (s r : Config) (free : NamesAreFree s) (g : Grows p s r t) where
  abbrev entries : List (Name × State)
  entries = (t, settle p g.after) ∷ settle_all p g.new

  -- a new thread has one of the next numbers, and its name was free
  pub new_name : (u : Name) → IsKey u g.new
      → (i : ℕ) × (u ≡ i ∷ t) × (g.l.threads ≤ i) × (i < g.after.threads) × (fin.get s.threads u ≡ None)
  new_name u h =
      let e = entry_of_key u g.new h in
      let n = g.new_thread u e.0 e.1 in
      (n.0, n.1, n.2, n.3, subst (λ v. fin.get s.threads v ≡ None) (sym n.1) (free.threads t g.l g.live n.0 n.2))

  not_itself : (u : Name) → IsKey u g.new → u ≢ t
  not_itself u h e = let n = new_name u h in not_longer n.0 t (sym n.1 ∙ e)

  entry_there : (u : Name) (m : Thread) → IsEntry u (Live m) entries → IsThere p s r t g u m
  entry_there u m h = ⊎_elim
      (λ (a : (u ≡ t) × (Live m ≡ settle p g.after)). Itself a.0 (live_settled p g.after m (sym a.1)))
      (λ (b : IsEntry u (Live m) (settle_all p g.new)).
      let e = settled_entry p g.new u (Live m) b in
      New (subst (λ x. IsEntry u x g.new) (sym (live_settled p e.0 m (sym e.2))) e.1))
      h

  some_live : (x : State) (m : Thread) → Some x ≡ Some (Live m) → x ≡ Live m
  some_live x m e = cc

  there_at : (u : Name) (m : Thread) → fin.get (puts entries s.threads) u ≡ Some (Live m) → IsThere p s r t g u m
  there_at u m h = ⊎_elim
      (λ (e : u ≡ t).
      let k = puts_key entries s.threads u (inl e) in
      entry_there u m (subst (λ x. IsEntry u x entries) (some_live k.0 m (sym k.2 ∙ h)) k.1))
      (λ (ne : u ≢ t). ⊎_elim
      (λ (a : fin.get (puts entries s.threads) u ≡ fin.get s.threads u). Older ne (sym a ∙ h))
      (λ (b : (x : State) × IsEntry u x entries × (fin.get (puts entries s.threads) u ≡ Some x)).
      entry_there u m (subst (λ x. IsEntry u x entries) (some_live b.0 m (sym b.2 ∙ h)) b.1))
      (puts_case entries s.threads u))
      (cases_name u t)

  pub there : (u : Name) (m : Thread) → fin.get r.threads u ≡ Some (Live m) → IsThere p s r t g u m
  there u m h = there_at u m (sym (ap (λ z. fin.get z u) g.threads_are) ∙ h)

  -- no thread comes by a name that none of the new ones has
  pub absent : (u : Name) → fin.get s.threads u ≡ None → (IsKey u g.new → ⊥) → fin.get r.threads u ≡ None
  absent u none apart =
      ap (λ z. fin.get z u) g.threads_are
      ∙ puts_other entries s.threads u (λ k. ⊎_elim
      (λ (e : u ≡ t). let h : Some (Live g.l) ≡ None = sym g.live ∙ (ap (fin.get s.threads) (sym e) ∙ none) in cc)
      (λ (b : IsKey u (settle_all p g.new)). apart (settled_key_is p g.new u b))
      k)
      ∙ none

  pub was_absent : (u : Name) → fin.get r.threads u ≡ None → fin.get s.threads u ≡ None
  was_absent u none = puts_none entries s.threads u (sym (ap (λ z. fin.get z u) g.threads_are) ∙ none)

  not_new : (u : Name) → fin.get r.threads u ≡ None → IsKey u g.new → ⊥
  not_new u none h =
      let k = puts_key entries s.threads u (inr (settled_key p g.new u h)) in
      let e : Some k.0 ≡ None = sym k.2 ∙ (sym (ap (λ z. fin.get z u) g.threads_are) ∙ none) in
      cc

  live_not_none : (u : Name) (m : Thread) → fin.get s.threads u ≡ Some (Live m) → fin.get s.threads u ≡ None → ⊥
  live_not_none u m e f = let h : Some (Live m) ≡ None = sym e ∙ f in cc

  threads_at : (u : Name) (m : Thread) → IsThere p s r t g u m → (k : ℕ) → m.threads ≤ k → fin.get r.threads (k ∷ u) ≡ None
  threads_at u m (Itself e f) k h =
      let count = ap (λ (x : Thread). x.threads) f in
      let more = g.more_threads in
      subst (λ v. fin.get r.threads (k ∷ v) ≡ None) (sym e)
      (absent (k ∷ t) (free.threads t g.l g.live k (omega (arith, h, count, more))) (λ n.
      let i = new_name (k ∷ t) n in
      let same = head_of k i.0 t t i.1 in
      let high = i.3 in
      absurd (omega (arith, h, count, same, high))))
  threads_at u m (New n) k h =
      let i = g.new_thread u m n in
      let none = (new_name u (key_of_entry u m g.new n)).4 in
      absent (k ∷ u) (free.no_threads u none k) (λ x.
      let j = new_name (k ∷ u) x in
      not_itself u (key_of_entry u m g.new n) (tail_of k j.0 u t j.1))
  threads_at u m (Older ne live) k h =
      absent (k ∷ u) (free.threads u m live k h) (λ x. let j = new_name (k ∷ u) x in ne (tail_of k j.0 u t j.1))

  objects_at : (u : Name) (m : Thread) → IsThere p s r t g u m → (k : ℕ) → m.objects ≤ k → fin.get r.objects (k ∷ u) ≡ None
  objects_at u m (Itself e f) k h =
      let count = ap (λ (x : Thread). x.objects) f in
      let more = g.more_objects in
      subst (λ v. fin.get r.objects (k ∷ v) ≡ None) (sym e)
      (g.objects_are (k ∷ t) (free.objects t g.l g.live k (omega (arith, h, count, more))) (λ n. ⊎_elim
      (λ (i : OwnName t g.l.objects g.after.objects (k ∷ t)).
      let same = head_of k i.0 t t i.1 in let high = i.3 in absurd (omega (arith, h, count, same, high)))
      (λ (c : CopyName t g.l.threads g.new (k ∷ t)).
      not_longer g.l.threads t (sym (tail_of k 0 t (g.l.threads ∷ t) c.0)))
      (g.new_object (k ∷ t) n)))
  objects_at u m (New n) k h =
      let key = key_of_entry u m g.new n in
      let name = new_name u key in
      g.objects_are (k ∷ u) (free.no_objects u name.4 k) (λ x. ⊎_elim
      (λ (i : OwnName t g.l.objects g.after.objects (k ∷ u)). not_itself u key (tail_of k i.0 u t i.1))
      (λ (c : CopyName t g.l.threads g.new (k ∷ u)).
      let same = head_of k 0 u (g.l.threads ∷ t) c.0 in
      let one = c.2 u m n in
      absurd (omega (arith, h, same, one)))
      (g.new_object (k ∷ u) x))
  objects_at u m (Older ne live) k h =
      g.objects_are (k ∷ u) (free.objects u m live k h) (λ x. ⊎_elim
      (λ (i : OwnName t g.l.objects g.after.objects (k ∷ u)). ne (tail_of k i.0 u t i.1))
      (λ (c : CopyName t g.l.threads g.new (k ∷ u)).
      let same = tail_of k 0 u (g.l.threads ∷ t) c.0 in
      live_not_none u m live (subst (λ v. fin.get s.threads v ≡ None) (sym same) (new_name (g.l.threads ∷ t) c.1).4))
      (g.new_object (k ∷ u) x))

  pub free_after : NamesAreFree r
  free_after = record {
    threads = λ u m live k h. threads_at u m (there u m live) k h;
    objects = λ u m live k h. objects_at u m (there u m live) k h;
    no_threads = λ u none k. absent (k ∷ u) (free.no_threads u (was_absent u none) k) (λ x.
        let j = new_name (k ∷ u) x in
        let same = tail_of k j.0 u t j.1 in
        live_not_none t g.l g.live (subst (λ v. fin.get s.threads v ≡ None) same (was_absent u none)));
    no_objects = λ u none k. g.objects_are (k ∷ u) (free.no_objects u (was_absent u none) k) (λ x. ⊎_elim
        (λ (i : OwnName t g.l.objects g.after.objects (k ∷ u)).
        live_not_none t g.l g.live (subst (λ v. fin.get s.threads v ≡ None) (tail_of k i.0 u t i.1) (was_absent u none)))
        (λ (c : CopyName t g.l.threads g.new (k ∷ u)).
        not_new u none (subst (λ v. IsKey v g.new) (sym (tail_of k 0 u (g.l.threads ∷ t) c.0)) c.1))
        (g.new_object (k ∷ u) x));
  }

-- where a run begins

module _ (p : Program) (ns : List ℤ) where
  abbrev made : List (Name × Object)
  made = parameters [] 0 [] (function p p.main).shape.params (ints ns)

  abbrev main : Thread
  main = record {
    home = [];
    term = entered p p.main Void (addresses made);
    asked = None;
    threads = 0;
    objects = length made;
    inside = (p.main, Void) ∷ [];
  }

  abbrev first : Config
  first = start p ns

  no_thread : (q : Name) → q ≢ [] → fin.get first.threads q ≡ None
  no_thread q ne = get_other fin.empty [] (settle p main) q ne ∙ fin.get-empty name_cmp q

  first_there : (u : Name) (m : Thread) → fin.get first.threads u ≡ Some (Live m) → (u ≡ []) × (m ≡ main)
  first_there u m h = ⊎_elim
      (λ (e : u ≡ []). (
        e,
        live_settled p main m (some_live
            (sym (get_same fin.empty [] (settle p main)) ∙ (ap (fin.get first.threads) (sym e) ∙ h))),
      ))
      (λ (ne : u ≢ []). let f : None ≡ Some (Live m) = sym (no_thread u ne) ∙ h in cc)
      (cases_name u [])
    where
      some_live : Some (settle p main) ≡ Some (Live m) → settle p main ≡ Live m
      some_live e = cc

  no_object : (q : Name) → (IsKey q made → ⊥) → fin.get first.objects q ≡ None
  no_object q none = puts_other made fin.empty q none ∙ fin.get-empty name_cmp q

  longer : (k : ℕ) (u : Name) → k ∷ u ≢ []
  longer k u e = cc

  pub free_at_start : NamesAreFree first
  free_at_start = record {
    threads = λ u m live k h. no_thread (k ∷ u) (longer k u);
    objects = λ u m live k h.
        let at = first_there u m live in
        let count = ap (λ (x : Thread). x.objects) at.1 in
        no_object (k ∷ u) (λ key.
        let o = parameter_is [] 0 [] (function p p.main).shape.params (ints ns) (k ∷ u) key in
        let many = length-parameters [] 0 [] (function p p.main).shape.params (ints ns) in
        let same = head_of k o.number u [] o.named in
        let high = o.high in
        absurd (omega (arith, h, count, many, same, high)));
    no_threads = λ u none k. no_thread (k ∷ u) (longer k u);
    no_objects = λ u none k. no_object (k ∷ u) (λ key.
        let o = parameter_is [] 0 [] (function p p.main).shape.params (ints ns) (k ∷ u) key in
        let root : u ≡ [] = tail_of k o.number u [] o.named in
        let e : Some (settle p main) ≡ None = sym (get_same fin.empty [] (settle p main))
        ∙ (ap (fin.get first.threads) (sym root) ∙ none) in
        cc);
  }

free_run : (p : Program) (ts : List Name) (s r : Config) → NamesAreFree s → Run p ts s r → NamesAreFree r
free_run p [] s r free h = subst NamesAreFree h free
free_run p (t ∷ ts) s r free h =
    free_run p ts h.0 r (free_after p t s h.0 free (grows p t s h.0 (step_case p t s h.0 h.1))) h.2

pub free_reached : (p : Program) (ns : List ℤ) (s : Config) → IsReached p ns s → NamesAreFree s
free_reached p ns s h = free_run p h.0 (start p ns) s (free_at_start p ns) h.1
