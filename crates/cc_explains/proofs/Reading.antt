-- Entries are read one by one as a run explains them together, and in one way.
use Rattle.std.proofs.Common.{◌≡◌, ℕ, ◌+◌, List, [], ◌∷◌, ◌++◌, length, map, Option, Some, None, refl, sym, ap, ◌∙◌, subst, arith}
use Rattle.std.specs.Prelude.{ℤ}
use Rattle.std.specs.List.{AllByRecursion}
use Rattle.std.proofs.lemmas.Option.{same_Some}
use Rattle.global_ptr.specs.declared.ends.Standing.{Standing}
use Rattle.cc_core.specs.Names.{Name}
use Rattle.cc_core.specs.Core.{Program}
use Rattle.cc_core.specs.Config.{Config}
use Rattle.cc_core.specs.Steps as core
use Rattle.effect_journal.specs.declared.entry.Entry.{Entry}
use Rattle.effect_journal.specs.declared.entry.Entry.TheVariants.{Run, Serve, Make, End}
use Rattle.numbered_runs.specs.Stands.{IsThread}
use Rattle.rsr_message.specs.declared.requests.Request.{Request}
use Rattle.rsr_message.specs.Requests.{Spells, SpellsEither, version_2}
use Rattle.rsr_message.specs.declared.versions.Version.TheVariants.{Two}
use Rattle.rsr_message.proofs.RequestLaws.{one_request}
use Rattle.cc_ops.specs.declared.number.ThreadNo.{ThreadNo}
use Rattle.run_numbers.specs.RunNumbers.{IsNumbered, goes_on}
use Rattle.cc_explains.specs.Places.{Place, Step, beginning, behind, Lead}
use Rattle.cc_explains.specs.Moves.{asker}
use Rattle.cc_explains.specs.Explains.{IsOwnStep, Serves, Names, NamesAll, Explains, AreRead, IsReadTo}

-- ---- steps are a run

pub lead_run : (p : Program) (ms : List Step) (a b : Place) → Lead p ms a b → core.Run p (map (λ m. m.thread) ms) a.config b.config
lead_run p [] a b h = ap (λ (c : Place). c.config) h
lead_run p (m ∷ ms) a b h = (h.1, h.2, lead_run p ms (behind p m.thread a h.1) b h.3)

pub lead_numbered : (p : Program) (is : List ℤ) (ms : List Step) (a b : Place) → IsNumbered p is a.config a.numbers → Lead p ms a b
    → IsNumbered p is b.config b.numbers
lead_numbered p is [] a b n h = subst (λ (c : Place). IsNumbered p is c.config c.numbers) h n
lead_numbered p is (m ∷ ms) a b n h = lead_numbered p is ms (behind p m.thread a h.1) b (goes_on m.thread a.config a.numbers n h.2) h.3

pub lead_made : (p : Program) (ms : List Step) (a b : Place) → Lead p ms a b → b.made ≡ length ms + a.made
lead_made p [] a b h = let same : b.made ≡ a.made = ap (λ (c : Place). c.made) (sym h) in omega (arith, same)
lead_made p (m ∷ ms) a b h = let rest = lead_made p ms (behind p m.thread a h.1) b h.3 in omega (arith, rest)

pub run_lead : (p : Program) (ts : List Name) (a : Place) (r : Config) → core.Run p ts a.config r
    → (ms : List Step) × (b : Place) × Lead p ms a b × (map (λ m. m.thread) ms ≡ ts) × (b.config ≡ r)
run_lead p [] a r h = ([], a, refl, refl, h)
run_lead p (t ∷ ts) a r h =
    let rest = run_lead p ts (behind p t a h.0) r h.2 in
    (record { place = a; thread = t } ∷ rest.0, rest.1, (refl, h.0, h.1, rest.2), ap (λ l. t ∷ l) rest.3, rest.4)

-- ---- cut and joined

cut : (p : Program) (first rest : List Step) (a b : Place) → Lead p (first ++ rest) a b → (c : Place) × Lead p first a c × Lead p rest c b
cut p [] rest a b h = (a, refl, h)
cut p (m ∷ ms) rest a b h = let t = cut p ms rest (behind p m.thread a h.1) b h.3 in (t.0, (h.0, h.1, h.2, t.1), t.2)

pub joined : (p : Program) (first rest : List Step) (a c b : Place) → Lead p first a c → Lead p rest c b → Lead p (first ++ rest) a b
joined p [] rest a c b h k = subst (λ (x : Place). Lead p rest x b) (sym h) k
joined p (m ∷ ms) rest a c b h k = (h.0, h.1, h.2, joined p ms rest (behind p m.thread a h.1) c b h.3 k)

read : (p : Program) (es : List Entry) (ms : List Step) (a b : Place) → NamesAll p es ms → Lead p ms a b → AreRead p es a b
read p [] ms a b n h = subst (λ (l : List Step). Lead p l a b) n h
read p (e ∷ es) ms a b n h =
    let c = cut p n.0 n.1 a b (subst (λ (l : List Step). Lead p l a b) n.2 h) in
    (c.0, (n.0, c.1, n.3), read p es n.1 c.0 b n.4 c.2)

pub named : (p : Program) (es : List Entry) (a b : Place) → AreRead p es a b → (ms : List Step) × Lead p ms a b × NamesAll p es ms
named p [] a b h = ([], h, refl)
named p (e ∷ es) a b h =
    let rest = named p es h.0 b h.2 in
    (h.1.0 ++ rest.0, joined p h.1.0 rest.0 a h.0 b h.1.1 rest.1, (h.1.0, rest.0, refl, h.1.2, rest.2))

pub explained_read : (p : Program) (is : List ℤ) (es : List Entry) (standing : Standing) → Explains p is es standing → IsReadTo p is es standing
explained_read p is es standing x = record {
  before = x.before;
  by = x.by;
  whole = x.whole;
  end = x.end;
  read = read p x.before x.steps (beginning p is) x.end x.named x.run;
  ends = x.ends;
}

abbrev pub read_explained : (p : Program) (is : List ℤ) (es : List Entry) (standing : Standing) → IsReadTo p is es standing → Explains p is es standing
read_explained p is es standing x =
    let all = named p x.before (beginning p is) x.end x.read in
    record { before = x.before; by = x.by; whole = x.whole; steps = all.0; end = x.end; run = all.1; named = all.2; ends = x.ends }

-- ---- one way

abbrev OfThread : ThreadNo → List Step → Type 0
OfThread t = AllByRecursion (λ (m : Step). IsThread m.place.numbers t m.thread)

own_of : (p : Program) (t : ThreadNo) (ms : List Step) → AllByRecursion (IsOwnStep p t) ms → OfThread t ms
own_of p t [] h = tt
own_of p t (m ∷ ms) h = (h.0.thread, own_of p t ms h.1)

moved : (r q : Config) → core.Moves r ≡ core.Moves q → r ≡ q
moved r q e = cc

step_is : (x y : Name) (a b : Place) → a ≡ b → x ≡ y → ◌≡◌ {A = Step} (record { place = a; thread = x }) (record { place = b; thread = y })
step_is x y a b e o = cc (e, o)

pub one_way : (p : Program) (t : ThreadNo) (ms ns : List Step) (a b c : Place) → length ms ≡ length ns → OfThread t ms → OfThread t ns
    → Lead p ms a b → Lead p ns a c → (ms ≡ ns) × (b ≡ c)
one_way p t [] [] a b c long u v h k = (refl, sym h ∙ k)
one_way p t [] (n ∷ ns) a b c long u v h k = absurd (omega arith)
one_way p t (m ∷ ms) [] a b c long u v h k = absurd (omega arith)
one_way p t (m ∷ ms) (n ∷ ns) a b c long u v h k =
    let mine : IsThread a.numbers t m.thread = subst (λ (z : Place). IsThread z.numbers t m.thread) h.0 u.0 in
    let its : IsThread a.numbers t n.thread = subst (λ (z : Place). IsThread z.numbers t n.thread) k.0 v.0 in
    let thread : m.thread ≡ n.thread = same_Some m.thread n.thread (sym mine ∙ its) in
    let config : h.1 ≡ k.1 = moved h.1 k.1 (sym h.2 ∙ (ap (λ (x : Name). core.step p x a.config) thread ∙ k.2)) in
    let after : behind p n.thread a k.1 ≡ behind p m.thread a h.1 =
    ap (λ (x : Name). behind p x a k.1) (sym thread) ∙ ap (behind p m.thread a) (sym config) in
    let first : m ≡ n = step_is m.thread n.thread m.place n.place (h.0 ∙ sym k.0) thread in
    let rest = one_way p t ms ns (behind p m.thread a h.1) b c (omega (arith, long)) u.1 v.1 h.3 (subst (λ (z : Place). Lead p ns z c) after k.3) in
    (cc (first, rest.0), rest.1)

-- bytes are the message of one request
pub one_message : (o q : Request) (bytes : List ℕ) → SpellsEither o bytes → SpellsEither q bytes → o ≡ q
one_message o q bytes a b = (one_request o q bytes bytes [] [] a b refl).0

pub same_request : (o q : Request) (bytes : List ℕ) → SpellsEither o bytes → Spells version_2 q bytes → o ≡ q
same_request o q bytes a b = one_message o q bytes a (record { version = Two; spelled = b })

record AlikeNamed (ms ns : List Step) : Type 0 where
  thread : ThreadNo
  long : length ms ≡ length ns
  first : OfThread thread ms
  second : OfThread thread ns

serving_alike : (p : Program) (at : Option ℕ) (bytes : List ℕ) (ms ns : List Step) → Serves p at bytes ms → Serves p at bytes ns
    → AlikeNamed ms ns
serving_alike p at bytes ms ns (m, is, u) (n, its, v) =
    let its_bytes : SpellsEither v.request bytes = record { version = Two; spelled = v.is.spelled } in
    let same : v.request ≡ u.request = same_request v.request u.request bytes its_bytes u.is.spelled in
    record {
      thread = asker u.request;
      long = ap length is ∙ sym (ap length its);
      first = subst (OfThread (asker u.request)) (sym is) (u.thread, tt);
      second = subst (OfThread (asker u.request)) (sym its) (subst (λ (r : Request). IsThread n.place.numbers (asker r) n.thread) same v.thread, tt);
    }

alike_named : (p : Program) (e : Entry) (ms ns : List Step) → Names p e ms → Names p e ns → AlikeNamed ms ns
alike_named p (Run q k steps) ms ns u v = record {
  thread = record { processor = q; thread = k };
  long = u.0 ∙ sym v.0;
  first = own_of p _ ms u.1;
  second = own_of p _ ns v.1;
}
alike_named p (Serve q bytes) ms ns u v = serving_alike p (Some q) bytes ms ns u v
alike_named p (Make bytes) ms ns u v = serving_alike p None bytes ms ns u v
alike_named p (End standing by) ms ns u v = absurd u

-- an entry leads from a place by one list of steps to one place
pub entry_once : (p : Program) (e : Entry) (ms ns : List Step) (a b c : Place) → Names p e ms → Names p e ns
    → Lead p ms a b → Lead p ns a c → (ms ≡ ns) × (b ≡ c)
entry_once p e ms ns a b c u v h k =
    let both = alike_named p e ms ns u v in
    one_way p both.thread ms ns a b c both.long both.first both.second h k

pub entries_once : (p : Program) (es : List Entry) (ms ns : List Step) (a b c : Place) → NamesAll p es ms → NamesAll p es ns
    → Lead p ms a b → Lead p ns a c → (ms ≡ ns) × (b ≡ c)
entries_once p [] ms ns a b c u v h k =
    let here : Lead p [] a b = subst (λ (l : List Step). Lead p l a b) u h in
    let there : Lead p [] a c = subst (λ (l : List Step). Lead p l a c) v k in
    (u ∙ sym v, sym here ∙ there)
entries_once p (e ∷ es) ms ns a b c u v h k =
    let mine = cut p u.0 u.1 a b (subst (λ (l : List Step). Lead p l a b) u.2 h) in
    let its = cut p v.0 v.1 a c (subst (λ (l : List Step). Lead p l a c) v.2 k) in
    let first = entry_once p e u.0 v.0 a mine.0 its.0 u.3 v.3 mine.1 its.1 in
    let rest = entries_once p es u.1 v.1 mine.0 b c u.4 v.4 mine.2 (subst (λ (z : Place). Lead p v.1 z c) (sym first.1) its.2) in
    (u.2 ∙ (ap (λ l. l ++ u.1) first.0 ∙ ap (λ l. v.0 ++ l) rest.0) ∙ sym v.2, rest.1)

pub same_ends : (xs ys : List Entry) (e d : Entry) → xs ++ e ∷ [] ≡ ys ++ d ∷ [] → (xs ≡ ys) × (e ≡ d)
same_ends [] [] e d h = (refl, cc)
same_ends [] (y ∷ []) e d h = cc
same_ends [] (y ∷ z ∷ ys) e d h = cc
same_ends (x ∷ []) [] e d h = cc
same_ends (x ∷ z ∷ xs) [] e d h = cc
same_ends (x ∷ xs) (y ∷ ys) e d h =
    let first : x ≡ y = cc in
    let behind : xs ++ e ∷ [] ≡ ys ++ d ∷ [] = cc in
    let rest = same_ends xs ys e d behind in
    (cc (first, rest.0), rest.1)

module _ (p : Program) (is : List ℤ) (es : List Entry) (s r : Standing) (x : Explains p is es s) (y : Explains p is es r) where
  same_before : (x.before ≡ y.before) × (End s x.by ≡ End r y.by)
  same_before = same_ends x.before y.before (End s x.by) (End r y.by) (sym x.whole ∙ y.whole)

  pub explained_once : (x.steps ≡ y.steps) × (x.end ≡ y.end)
  explained_once = entries_once p x.before x.steps y.steps (beginning p is) x.end y.end x.named
      (subst (λ (l : List Entry). NamesAll p l y.steps) (sym same_before.0) y.named) x.run y.run

  pub one_standing : s ≡ r
  one_standing = let ends = same_before.1 in cc ends
