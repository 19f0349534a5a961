-- What a thread posts: that it can be sent, and that the definition posts it.
use Rattle.std.proofs.Common.{◌≡◌, ◌≢◌, inl, inr, ⊎_elim, ℕ, zero, suc, ◌+◌, ◌≤◌, List, [], ◌∷◌, length, map, Bool, true, false, Option, Some, None, refl, sym, ap, ◌∙◌, subst, arith}
use Rattle.std.proofs.lemmas.Bool.{and_parts, cases_Bool, ltb-true}
use Rattle.std.proofs.lemmas.List.{length-map, length-append}
use Rattle.std.proofs.lemmas.List.Elements.{All-nil, All-cons}
use Rattle.std.proofs.lemmas.Option.{none-some}
use Rattle.std.specs.Prelude.{slice_get, nat_lt, All}
use Rattle.std.specs.Option.{option_and_then}
use Rattle.std.specs.FinMap as fin
use Rattle.global_ptr.specs.declared.values.Value.{Value as RustValue}
use Rattle.global_ptr.specs.declared.values.Value.TheVariants as machine
use Rattle.cc_ops.specs.declared.kind.Kind.{Kind}
use Rattle.cc_ops.specs.declared.kind.Kind.TheVariants as kinds
use Rattle.cc_ops.specs.Classes.{arity, all_kinds}
use Rattle.cc_ops.specs.Values.{Value, Void, Int, Null, Ptr, no_void, as_kind, as_kinds, address_of, first, after_first}
use Rattle.cc_ops.specs.Operators.{takes}
use Rattle.cc_ops.specs.Machine.{Address, value_of}
use Rattle.cc_ops.specs.declared.number.ThreadNo.{ThreadNo}
use Rattle.cc_core.specs.Asks.{Ask}
use Rattle.cc_core.specs.Config.{Config}
use Rattle.cc_core.specs.Core.{Alone, On, Remote, How, Program, Shapes, function_shape, class_shape}
use Rattle.cc_core.specs.Names.{Name}
use Rattle.cc_core.specs.Next.{call_ask, spawn_ask, object_ask}
use Rattle.cc_core.specs.Numbers as core
use Rattle.cc_core.specs.Numbers.{Numbers, Post}
use Rattle.cc_core.specs.Source.{operands, values}
use Rattle.cc_code.specs.Code.{Instr, PushI, ThisI, VariableI, FieldI, DropI, JumpI, EndI, IndexI, AtI, LoadI, StoreI, OpI, TestI, AndI}
use Rattle.cc_code.specs.Code.{OrI, MakeI, SetI, BuildI, NewI, NewObjectI, CallI, SpawnI, CellsI, RetI, ForkI, EachI, JoinI, PrintI}
use Rattle.cc_code.specs.Code.{Placed, Code, Frame, Thread, Runs, Starting, Finished, Move, Silent, Does, Ends, Stuck}
use Rattle.cc_code.specs.Code.{popped, with_popped, top_one, act, fetched, move}
use Rattle.cc_code.specs.Valid.{IsValid, IsMisaimed, in_range, stays, well_aimed, function_at}
use Rattle.code_thread.specs.Moves.{Asking, seen}
use Rattle.numbered_runs.specs.Machine.{Machine, Runner, Progress, Goes, Over, thread_in}
use Rattle.numbered_runs.specs.Posts.{posted, move_posts, posts}
use Rattle.numbered_runs.specs.Stands.{Stands, thread_named}
use Rattle.numbered_runs.proofs.Naming.{thread_of}
use Rattle.numbered_runs.proofs.Posts.{posts_alike}
use Rattle.rsr_message.specs.declared.requests.Request.{Request}
use Rattle.rsr_message.specs.declared.requests.Body.{Body}
use Rattle.rsr_message.specs.Requests.{version_2, IsAllowedList}
use Rattle.cc_walk.specs.Posted.{IsSendable, IsSaid, IsPosted, AsksFor, state_at}
use Rattle.cc_walk.specs.Views.{live_of}

-- ---- what is asked can be sent

never_void : (v : Value Address) → no_void v ≢ Void
never_void Void e = absurd (cc)
never_void (Int i) e = absurd (cc)
never_void Null e = absurd (cc)
never_void (Ptr a x) e = absurd (cc)

module _ (h : Shapes) where
  -- what a move asks can be sent
  abbrev Sends : Move Address → Type 0
  Sends (Silent c) = Unit {0}
  Sends (Does n q k) = IsSendable h q
  Sends (Ends v) = Unit {0}
  Sends Stuck = Unit {0}

  sends_asked : (m : Move Address) → Sends m → (line : ℕ) (q : Ask Address) → seen m ≡ Asking line q → IsSendable h q
  sends_asked (Silent c) sends line q see = absurd (cc)
  sends_asked (Does n a k) sends line q see = let e : a ≡ q = cc in subst (IsSendable h) e sends
  sends_asked (Ends v) sends line q see = absurd (cc)
  sends_asked Stuck sends line q see = absurd (cc)

  with_one : (ops : List (Value Address)) (go : Value Address → List (Value Address) → Move Address)
      → ((v : Value Address) (rest : List (Value Address)) → Sends (go v rest)) → Sends (top_one ops go)
  with_one [] go each = tt
  with_one (v ∷ ops) go each = each v ops

  popped_length : (n : ℕ) (ops got : List (Value Address)) (p : List (Value Address) × List (Value Address)) → popped n ops got ≡ Some p
      → length p.0 ≡ n + length got
  popped_length zero ops got p is = let e : got ≡ p.0 = cc in let same : length got ≡ length p.0 = ap length e in omega (arith, same)
  popped_length (suc n) [] got p is = absurd (none-some p is)
  popped_length (suc n) (v ∷ ops) got p is = let more : length p.0 ≡ n + suc (length got) = popped_length n ops (v ∷ got) p is in omega (arith, more)

  with_some : (n : ℕ) (o : Option (List (Value Address) × List (Value Address))) (go : List (Value Address) → List (Value Address) → Move Address)
      → ((p : List (Value Address) × List (Value Address)) → o ≡ Some p → length p.0 ≡ n)
      → ((vs rest : List (Value Address)) → length vs ≡ n → Sends (go vs rest)) → Sends (with_popped o go)
  with_some n None go long each = tt
  with_some n (Some p) go long each = each p.0 p.1 (long p refl)

  with_many : (n : ℕ) (ops : List (Value Address)) (go : List (Value Address) → List (Value Address) → Move Address)
      → ((vs rest : List (Value Address)) → length vs ≡ n → Sends (go vs rest)) → Sends (with_popped (popped n ops []) go)
  with_many n ops go each = with_some n (popped n ops []) go
      (λ p is. let long : length p.0 ≡ n + length {A = Value Address} [] = popped_length n ops [] p is in omega (arith, long)) each

  call_sends : (f : ℕ) (how : How) (vs : List (Value Address)) → nat_lt f (length h.functions) ≡ true
      → IsSendable h (call_ask (function_shape h f) how f vs)
  call_sends f Alone vs there = tt
  call_sends f On vs there = tt
  call_sends f Remote vs there = ltb-true f (length h.functions) there

  spawn_sends : (f : ℕ) (how : How) (vs : List (Value Address)) → nat_lt f (length h.functions) ≡ true
      → IsSendable h (spawn_ask (function_shape h f) how f vs)
  spawn_sends f Alone vs there = tt
  spawn_sends f On vs there = tt
  spawn_sends f Remote vs there = ltb-true f (length h.functions) there

  object_sends : (remote : Bool) (c : ℕ) (vs : List (Value Address)) → nat_lt c (length h.classes) ≡ true
      → length vs ≡ (class_shape h c).params → IsSendable h (object_ask remote c vs)
  object_sends false c vs there count = tt
  object_sends true c vs there count = (ltb-true c (length h.classes) there, length-map vs no_void ∙ count)

module _ (code : Code) where
  abbrev h : Shapes
  h = code.shapes

  -- an instruction whose numbers are in range
  act_sends : (f : Frame Address) (fs : List (Frame Address)) (ops : List (Value Address)) (n : ℕ) (g : ℕ) (i : Instr)
      → in_range h (function_shape h g) i ≡ true → Sends h (act code f fs ops n i)
  act_sends f fs ops n g (PushI c) fits = tt
  act_sends f fs ops n g ThisI fits = tt
  act_sends f fs ops n g (VariableI k) fits = tt
  act_sends f fs ops n g (FieldI o) fits = with_one h ops _ (λ v rest. tt)
  act_sends f fs ops n g DropI fits = with_one h ops _ (λ v rest. tt)
  act_sends f fs ops n g (JumpI to) fits = tt
  act_sends f fs ops n g EndI fits = tt
  act_sends f fs ops n g (IndexI size) fits = with_one h ops _ (λ w rest. with_one h rest _ (λ v rest'. tt))
  act_sends f fs ops n g AtI fits = with_one h ops _ (λ w rest. with_one h rest _ (λ v rest'. tt))
  act_sends f fs ops n g (LoadI remote) fits = with_one h ops _ (λ v rest. tt)
  act_sends f fs ops n g (StoreI true) fits = with_one h ops _ (λ w rest. with_one h rest _ (λ v rest'. never_void w))
  act_sends f fs ops n g (StoreI false) fits = with_one h ops _ (λ w rest. with_one h rest _ (λ v rest'. tt))
  act_sends f fs ops n g (OpI op) fits = with_many h (takes op) ops _ (λ vs rest long. tt)
  act_sends f fs ops n g (TestI to) fits = with_one h ops _ (λ v rest. tt)
  act_sends f fs ops n g (AndI to) fits = with_one h ops _ (λ v rest. tt)
  act_sends f fs ops n g (OrI to) fits = with_one h ops _ (λ v rest. tt)
  act_sends f fs ops n g (MakeI k kind size) fits = tt
  act_sends f fs ops n g (SetI k kind) fits = with_one h ops _ (λ v rest. tt)
  act_sends f fs ops n g (BuildI k c) fits = with_many h (class_shape h c).params ops _ (λ vs rest long. tt)
  act_sends f fs ops n g (NewI kind size) fits = tt
  act_sends f fs ops n g (NewObjectI remote c) fits =
      with_many h (class_shape h c).params ops _ (λ vs rest long. object_sends h remote c vs fits long)
  act_sends f fs ops n g (CallI how to) fits =
      with_many h (operands h how to) ops _ (λ vs rest long. call_sends h to how vs fits)
  act_sends f fs ops n g (SpawnI how to) fits =
      with_many h (operands h how to) ops _ (λ vs rest long. spawn_sends h to how vs fits)
  act_sends f fs ops n g (CellsI size) fits = with_one h ops _ (λ v rest. tt)
  act_sends f fs ops n g RetI fits = with_one h ops _ (λ v rest. tt)
  act_sends f fs ops n g (ForkI targets) fits = tt
  act_sends f fs ops n g (EachI to k) fits = tt
  act_sends f fs ops n g JoinI fits = tt
  act_sends f fs ops n g (PrintI parts) fits = with_many h (values parts) ops _ (λ vs rest long. tt)

  module _ (valid : IsValid code) where
    aimed : (b : ℕ) (i : Placed) → slice_get code.places b ≡ Some i → in_range h (function_shape h (function_at code b)) i.instr ≡ true
    aimed b i at = ⊎_elim
        (λ (good : well_aimed code b i.instr ≡ true). (and_parts (in_range h (function_shape h (function_at code b)) i.instr) (stays code b i.instr) good).0)
        (λ (bad : well_aimed code b i.instr ≡ false). let no_place : IsMisaimed code b = (i, at, bad) in absurd ((valid b).0 (inr (inl no_place))))
        (cases_Bool (well_aimed code b i.instr))

    fetched_sends : (f : Frame Address) (fs : List (Frame Address)) (ops : List (Value Address)) (o : Option Placed)
        → slice_get code.places f.place ≡ o → Sends h (fetched code f fs ops o)
    fetched_sends f fs ops None at = tt
    fetched_sends f fs ops (Some i) at = act_sends f fs ops i.line (function_at code f.place) i.instr (aimed f.place i at)

    thread_sends : (c : Thread Address) → Sends h (move code c)
    thread_sends (Runs f fs ops) = fetched_sends f fs ops (slice_get code.places f.place) refl
    thread_sends (Starting g this vs) = tt
    thread_sends (Finished v) = tt

    -- a thread of valid code
    pub move_sends : (c : Thread Address) → (line : ℕ) (q : Ask Address) → seen (move code c) ≡ Asking line q → IsSendable h q
    move_sends c = sends_asked h (move code c) (thread_sends c)

-- ---- what is looked at

progress_posts : (code : Code) (a : Option Progress) (r : Runner) → Some r ≡ live_of a → posts code a ≡ move_posts (move code r.thread) r.asked
progress_posts code None r is = absurd (none-some r (sym is))
progress_posts code (Some (Over v)) r is = absurd (none-some r (sym is))
progress_posts code (Some (Goes l)) r is = let e : l ≡ r = cc in ap (λ (x : Runner). move_posts (move code x.thread) x.asked) e

-- no thread goes on
pub none_posts : (code : Code) (a : Option Progress) → None ≡ live_of a → posts code a ≡ None
none_posts code None is = refl
none_posts code (Some (Over v)) is = refl
none_posts code (Some (Goes l)) is = absurd (none-some l is)

module _ (code : Code) (a : Option Progress) (r : Runner) (is : Some r ≡ live_of a) where
  -- it waits for the thread of a remote call
  pub waiting_posts : (kid : ThreadNo) → r.asked ≡ Some kid → posts code a ≡ None
  waiting_posts kid asked = progress_posts code a r is ∙ (ap (move_posts (move code r.thread)) asked ∙ waits (move code r.thread))
    where
      waits : (m : Move Address) → move_posts m (Some kid) ≡ None
      waits (Silent c) = refl
      waits (Does line q k) = refl
      waits (Ends v) = refl
      waits Stuck = refl

  pub quiet_posts : ((line : ℕ) (q : Ask Address) → ¬ (seen (move code r.thread) ≡ Asking line q)) → posts code a ≡ None
  quiet_posts never = progress_posts code a r is ∙ by_move (move code r.thread) never r.asked
    where
      by_move : (m : Move Address) → ((line : ℕ) (q : Ask Address) → ¬ (seen m ≡ Asking line q)) → (asked : Option ThreadNo) → move_posts m asked ≡ None
      by_move (Silent c) never' asked = refl
      by_move (Does line q k) never' asked = absurd (never' line q refl)
      by_move (Ends v) never' asked = refl
      by_move Stuck never' asked = refl

  pub asking_posts : (line : ℕ) (q : Ask Address) → Asking line q ≡ seen (move code r.thread) → r.asked ≡ None → posts code a ≡ posted q
  asking_posts line q see asked = progress_posts code a r is ∙ (ap (move_posts (move code r.thread)) asked ∙ by_move (move code r.thread) see)
    where
      by_move : (m : Move Address) → Asking line q ≡ seen m → move_posts m None ≡ posted q
      by_move (Silent c) e = absurd (cc)
      by_move (Does n q' k) e = let f : q' ≡ q = cc in ap posted f
      by_move (Ends v) e = absurd (cc)
      by_move Stuck e = absurd (cc)

-- ---- the machine stands for s

module _ (p : Program) (w : Machine) (s : Config) (n : Numbers) (st : Stands p w s n) (t : ThreadNo) where
  no_thread : (a : Option Progress) → thread_in w.threads t ≡ a → thread_named n t ≡ None → posts w.code a ≡ None
  no_thread None is none = refl
  no_thread (Some a) is none = let named = thread_of p w s n st t a is in absurd (none-some named.0 (sym none ∙ named.1))

  by_name : (x : Option Name) → thread_named n t ≡ x
      → posts w.code (thread_in w.threads t) ≡ core.posts p s n (option_and_then (λ (y : Name). fin.get s.threads y) x)
  by_name None is = no_thread (thread_in w.threads t) refl is
  by_name (Some x) is = posts_alike p w s n st t x is

  pub posts_for : posts w.code (thread_in w.threads t) ≡ core.posts p s n (state_at s n t)
  posts_for = by_name (thread_named n t) refl

-- ---- the request

abbrev pub request_of : ThreadNo → Option (ℕ × Body) → Option Request
request_of t None = None
request_of t (Some e) = Some (record { to = e.0; from = t.processor; ticket = t.thread; body = e.1 })

said_is : (t : ThreadNo) (post : Option Post) (e : Option (ℕ × Body)) → IsSaid post e → IsPosted t post (request_of t e)
said_is t None None said = tt
said_is t (Some post) (Some e) said = record { processor = refl; thread = refl; says = said }
said_is t None (Some e) said = absurd said
said_is t (Some post) None said = absurd said

-- what the machine's thread posts is said
pub follows : (p : Program) (w : Machine) (s : Config) (n : Numbers) → Stands p w s n → (t : ThreadNo) (post : Option Post) (e : Option (ℕ × Body))
    → posts w.code (thread_in w.threads t) ≡ post → IsSaid post e → AsksFor p s n t (request_of t e)
follows p w s n st t post e is said =
    subst (λ (o : Option Post). IsPosted t o (request_of t e)) (sym is ∙ posts_for p w s n st t) (said_is t post e said)

-- ---- what is sent can be spelled

length_arity : (params : List (List Kind)) → length (all_kinds params) ≡ arity params
length_arity [] = refl
length_arity (kinds ∷ more) = length-append kinds (all_kinds more) ∙ ap (λ (n : ℕ). length kinds + n) (length_arity more)

length_kinds : (kinds : List Kind) (vs : List (Value Address)) → length (as_kinds kinds vs) ≡ length kinds
length_kinds [] vs = refl
length_kinds (kind ∷ kinds) vs = ap suc (length_kinds kinds (after_first vs))

address_never_void : (v : Value Address) → address_of v ≢ Void
address_never_void Void e = absurd (cc)
address_never_void (Int i) e = absurd (cc)
address_never_void Null e = absurd (cc)
address_never_void (Ptr a x) e = absurd (cc)

kind_never_void : (kind : Kind) (v : Value Address) → as_kind kind v ≢ Void
kind_never_void kinds.Int v e = absurd (cc)
kind_never_void kinds.SyncInt v e = absurd (cc)
kind_never_void kinds.Ptr v e = address_never_void v e
kind_never_void kinds.SyncPtr v e = address_never_void v e

abbrev NoneVoid : List (Value Address) → Type 0
NoneVoid [] = Unit {0}
NoneVoid (v ∷ vs) = (v ≢ Void) × NoneVoid vs

kinds_never_void : (kinds : List Kind) (vs : List (Value Address)) → NoneVoid (as_kinds kinds vs)
kinds_never_void [] vs = tt
kinds_never_void (kind ∷ kinds) vs = (kind_never_void kind (first vs), kinds_never_void kinds (after_first vs))

all_never_void : (vs : List (Value Address)) → NoneVoid (map no_void vs)
all_never_void [] = tt
all_never_void (v ∷ vs) = (never_void v, all_never_void vs)

none_void : (sent : List RustValue) → NoneVoid (map value_of sent) → All (λ v. v ≢ machine.Void) sent
none_void [] none = All-nil {X = RustValue} (λ v. v ≢ machine.Void)
none_void (v ∷ sent) none = All-cons (λ u. u ≢ machine.Void) v sent (λ e. none.0 (ap value_of e)) (none_void sent none.1)

allowed_list : (sent : List RustValue) (vs : List (Value Address)) → map value_of sent ≡ vs → NoneVoid vs → length vs ≤ 8 → IsAllowedList version_2 sent
allowed_list sent vs is none few = record {
  few = let n : length (map value_of sent) ≤ 8 = subst (λ (us : List (Value Address)). length us ≤ 8) (sym is) few in omega (arith, n, length-map sent value_of);
  some = none_void sent (subst NoneVoid (sym is) none);
}

pub kinds_allowed : (params : List (List Kind)) (vs : List (Value Address)) → arity params ≤ 8 → (sent : List RustValue)
    → map value_of sent ≡ as_kinds (all_kinds params) vs → IsAllowedList version_2 sent
kinds_allowed params vs few sent is =
    let kinds : List Kind = all_kinds params in
    allowed_list sent (as_kinds kinds vs) is (kinds_never_void kinds vs) (omega (arith, few, length_kinds kinds vs, length_arity params))

pub void_allowed : (args sent : List RustValue) → length args ≤ 8 → map value_of sent ≡ map no_void (map value_of args) → IsAllowedList version_2 sent
void_allowed args sent few is =
    allowed_list sent (map no_void (map value_of args)) is (all_never_void (map value_of args))
    (omega (arith, few, length-map (map value_of args) no_void, length-map args value_of))
