-- The turns of a run are those that the script's lines give.
use Rattle.std.proofs.lemmas.Bool.{cases_lt, cases_eq}
use Rattle.std.proofs.Common.{◌≡◌, ◌<◌, ◌≤◌, ◌+◌, ◌-◌, ◌⊎◌, ℕ, zero, suc, true, false, Bool, cond, List, [], ◌∷◌, ◌++◌, length, map, drop, Some, None, Option, refl, ap, sym, subst, ◌∙◌, arith, inl, inr, eq-eqb}
use Rattle.std.specs.Prelude.{⊤, ◌||◌, ◌==◌, slice_get, slice_index_or, slice_set}
use Rattle.std.proofs.lemmas.List.{length-append, length-set, set-append_left, map-append, get_or_past, get_or_append_left, get_or-append_right, get_or-set_same, get_or-set_other}
use Rattle.std.proofs.Math.ListN.{get_or-map}
use Rattle.mono_model.specs.Table.{value_at, next_number}
use Rattle.mono_model.specs.Valid.{of_task, is_queued}
use Rattle.mono_model.specs.Tasks.{Task}
use Rattle.mono_model.specs.declared.Ended.{Ended}
use Rattle.mono_model.specs.declared.poll.Poll.{Poll}
use Rattle.mono_model.specs.declared.poll.Poll.TheVariants.{Ready, Pending}
use Rattle.mono_model.proofs.ValidTaskLemmas.{next_number-all_woken, next_number-woken_if_any}
use Rattle.mono_task.specs.Members.{FutureOf}
use Rattle.mono_time.specs.Instants.{nanos_of}
use Rattle.mono_model.specs.Table.{is_issued}
use Rattle.mono_model.specs.Inbox.{is_waiting, with_waiting}
use Rattle.mono_model.specs.SleepActs as sleep
use Rattle.mono_machine.specs.Machine.{Machine, IsValid, with_inbox, start_machine}
use Rattle.mono_machine.specs.Acts.{act_outcome}
use Rattle.mono_machine.specs.Turns.{replies_of, after_steps, after_end, after_begin, turn_report_for, after_turn_for}
use Rattle.mono_machine.specs.Steps.{Step, Run, ClockStep, after_fires, after_fire, at_clock, after_remote, has_finished}
use Rattle.mono_machine.specs.History.{is_turn_of, has_turn_of}
use Rattle.mono_machine.specs.declared.events.Act.{Act}
use Rattle.mono_machine.specs.declared.events.Act.TheVariants as act
use Rattle.mono_machine.specs.declared.events.End.{End}
use Rattle.mono_machine.specs.declared.events.End.TheVariants as end
use Rattle.mono_machine.specs.declared.events.Event.{Event}
use Rattle.mono_machine.specs.declared.events.Event.TheVariants as event
use Rattle.mono_machine.specs.declared.events.Blocking.{Blocking}
use Rattle.mono_machine.specs.declared.events.Reply.{Reply}
use Rattle.mono_machine.specs.declared.events.Reply.TheVariants as reply
use Rattle.mono_machine.specs.declared.events.Report.{Report}
use Rattle.mono_machine.specs.declared.events.Report.TheVariants as report
use Rattle.mono_machine.specs.declared.events.TurnStep.{TurnStep}
use Rattle.mono_machine.specs.declared.events.TurnStep.TheVariants as step
use Rattle.mono_machine.proofs.FinishedTaskLemmas.{IsOver, over_runs}
use Rattle.mono_machine.proofs.FinishedSetLemmas.{front_is_queued, finished-completed}
use Rattle.mono_machine.proofs.ValidStepLemmas.{step_is_valid, start_is_valid}
use Rattle.mono_blocking.specs.JobSpawns.{Seen}
use Rattle.mono_rt.specs.Journals.{events_in, reports_in}
use Rattle.mono_rt.specs.Numbering.{end_of}
use Rattle.mono_rt.specs.FuturePolls.{MakesNoTask, TellsTurn, Polled, PollsMain}
use Rattle.mono_rt.specs.Reaches.{Reaches, sharing_nothing}
use Rattle.mono_rt.specs.Stores.{Store, first_store, with_future}
use Rattle.mono_rt.specs.Record.{no_acts}
use Rattle.mono_rt.specs.Refinement.{hosting_of, Matches}
use Rattle.mono_rt.specs.Turns.{Begins, AfterPoll, Polls, UnlessSpent, Runs}
use Rattle.mono_rt.specs.PartTurns.{EndsParts}
use Rattle.mono_rt.specs.declared.contexts.Cx.{Cx}
use Rattle.mono_rt.specs.declared.parts.state.Parts.{Parts}
use Rattle.mono_rt.specs.declared.parts.journals.Entry.{Entry}
use Rattle.mono_rt.specs.declared.parts.journals.Entry.TheVariants.{Ran, Now, Park}
use Rattle.mono_rt.proofs.PartTurnLemmas.{begun_matches}
use Rattle.mono_run.specs.ScriptTurns as script
use Rattle.mono_run.specs.ScriptTurns.{Place, place, Turned, start_of, starts_of, turn_of, own_steps, own_replies, Driven, DrivenFrom, after_turn, Gives, turn_at}
use Rattle.mono_run.specs.Script.{Kind, Script, IsSound, AreSoundKinds}
use Rattle.mono_run.specs.declared.scripts.body.BodyLine.{BodyLine}
use Rattle.mono_run.specs.TaskStages.{lines_of}
use Rattle.mono_run.specs.TaskPolls.{kind_of, left_of, output_of, place_of, new_task, new_futures, Fits, HasKept, RunsLines, PollsTask, stands_at}
use Rattle.mono_run.specs.declared.tasks.ScriptTask.{ScriptTask}
use Rattle.mono_run.specs.RunRecord.{told}
use Rattle.mono_run.proofs.SegmentLemmas.{own_of, answers_of}
use Rattle.mono_run.proofs.SpawnCountLemmas.{is_spawn, is_task, made_by, made_in, own_made, act_made, turn_made, AllBelow, MakeBelow, Makes, MakesIf, turn_makes, KindsBelow, sound_below}

abbrev pub Futures : Type 0
Futures = List (Option ScriptTask)

-- the futures of the tasks, which share nothing
abbrev pub Stored : Type 0
Stored = Store ScriptTask ⊤

-- the places of the tasks
abbrev pub place_in : Option ScriptTask → Option Place
place_in None = None
place_in (Some f) = Some (place_of f)

abbrev pub places : Futures → List (Option Place)
places fs = map place_in fs

-- a task of a script with these kinds
pub record IsOurs (kinds : List Kind) (f : ScriptTask) : Type 0 where
  pub kinds_are : f.kinds.now ≡ kinds
  pub fits : Fits f

abbrev pub IfOurs : List Kind → Option ScriptTask → Type 0
IfOurs kinds None = ⊤
IfOurs kinds (Some f) = IsOurs kinds f

abbrev pub AreOurs : List Kind → Futures → Type 0
AreOurs kinds [] = ⊤
AreOurs kinds (f ∷ fs) = IfOurs kinds f × AreOurs kinds fs

-- a task whose future was removed has no more turns
abbrev pub HaveEnded : Futures → List Report → Type 0
HaveEnded fs answers = (t : ℕ) → t < length fs → value_at fs t ≡ None → has_turn_of t answers ≡ false

true-false : true ≡ false → ⊥
true-false e = cc

none-some : {X : Type 0} (x : X) → None ≡ Some x → ⊥
none-some x e = cc

ours_at : (kinds : List Kind) (fs : Futures) (t : ℕ) (f : ScriptTask) → AreOurs kinds fs → value_at fs t ≡ Some f → IsOurs kinds f
ours_at kinds [] t f ours is = absurd (none-some f is)
ours_at kinds (g ∷ fs) zero f ours is = subst (IfOurs kinds) is ours.0
ours_at kinds (g ∷ fs) (suc t) f ours is = ours_at kinds fs t f ours.1 is

ours_set : (kinds : List Kind) (fs : Futures) (t : ℕ) (g : Option ScriptTask) → AreOurs kinds fs → IfOurs kinds g → AreOurs kinds (slice_set fs t g)
ours_set kinds [] t g ours is = tt
ours_set kinds (f ∷ fs) zero g ours is = (is, ours.1)
ours_set kinds (f ∷ fs) (suc t) g ours is = (ours.0, ours_set kinds fs t g ours.1 is)

ours_both : (kinds : List Kind) (fs gs : Futures) → AreOurs kinds fs → AreOurs kinds gs → AreOurs kinds (fs ++ gs)
ours_both kinds [] gs p q = q
ours_both kinds (f ∷ fs) gs p q = (p.0, ours_both kinds fs gs p.1 q)

pub ours_new : (kinds : List Kind) (f : ScriptTask) (ks : List ℕ) → IsOurs kinds f → AreOurs kinds (new_futures f ks)
ours_new kinds f [] ours = tt
ours_new kinds f (k ∷ ks) ours = (record { kinds_are = ours.kinds_are; fits = record { short = ours.fits.short; tasks = omega arith; jobs = omega arith } }, ours_new kinds f ks ours)

set_twice : {X : Type 0} (xs : List X) (i : ℕ) (x y : X) → slice_set (slice_set xs i x) i y ≡ slice_set xs i y
set_twice [] i x y = refl
set_twice (z ∷ zs) zero x y = refl
set_twice (z ∷ zs) (suc i) x y = ap (λ ws. z ∷ ws) (set_twice zs i x y)

places_set : (fs : Futures) (t : ℕ) (g : Option ScriptTask) → places (slice_set fs t g) ≡ slice_set (places fs) t (place_in g)
places_set [] t g = refl
places_set (f ∷ fs) zero g = refl
places_set (f ∷ fs) (suc t) g = ap (λ ps. place_in f ∷ ps) (places_set fs t g)

places_at : (fs : Futures) (t : ℕ) → slice_index_or (places fs) t None ≡ place_in (value_at fs t)
places_at fs t = get_or-map place_in fs t None

start_at : (kinds : List Kind) (k : ℕ) → k < length kinds → Some (place (left_of (slice_get kinds k) 0) (output_of (slice_get kinds k)) [] [] None) ≡ slice_index_or (map (λ kind. Some (start_of kind)) kinds) k None
start_at [] k below = absurd (omega (arith, below))
start_at (kind ∷ kinds) zero below = refl
start_at (kind ∷ kinds) (suc k) below = start_at kinds k (omega (arith, below))

pub places_new : (kinds : List Kind) (f : ScriptTask) (ks : List ℕ) → f.kinds.now ≡ kinds → AllBelow (length kinds) ks → places (new_futures f ks) ≡ starts_of kinds ks
places_new kinds f [] same below = refl
places_new kinds f (k ∷ ks) same below =
    ap (λ x. Some (place (left_of (slice_get x k) 0) (output_of (slice_get x k)) [] [] None) ∷ places (new_futures f ks)) same
    ∙ ap (λ p. p ∷ places (new_futures f ks)) (start_at kinds k below.0)
    ∙ ap (λ ps. slice_index_or (map (λ kind. Some (start_of kind)) kinds) k None ∷ ps) (places_new kinds f ks same below.1)

-- the lines that are left make tasks of the same kinds
drop_below : (n at : ℕ) (lines : List BodyLine) → MakeBelow n lines → MakeBelow n (drop at lines)
drop_below n zero lines below = below
drop_below n (suc at) [] below = tt
drop_below n (suc at) (l ∷ ls) below = drop_below n at ls below.1

left_below : (n at : ℕ) (kinds : List Kind) (k : ℕ) → KindsBelow n kinds → MakeBelow n (left_of (slice_get kinds k) at)
left_below n at [] k below = tt
left_below n at (kind ∷ kinds) zero below = drop_below n at kind.body below.0
left_below n at (kind ∷ kinds) (suc k) below = left_below n at kinds k below.1

-- the turn that a report records
abbrev turn_in : Report → ℕ
turn_in (report.Turn t replies ended) = t
turn_in other = 0

abbrev replies_in : Report → List Reply
replies_in (report.Turn t replies ended) = replies
replies_in other = []

no_turn : (t : ℕ) (replies : List Reply) (ended : Ended) (r : Reply) → report.Turn t replies ended ≡ report.Reply r → ⊥
no_turn t replies ended r e = cc

record IsFront (t : ℕ) (replies : List Reply) (steps : List TurnStep) (m : Machine) (queue : List ℕ) : Type 0 where
  behind : List ℕ
  queue_is : queue ≡ t ∷ behind
  replies_are : replies ≡ replies_of t steps (after_begin t behind m)

front : (t : ℕ) (replies : List Reply) (ended : Ended) (steps : List TurnStep) (e : End) (m : Machine) (queue : List ℕ) → report.Turn t replies ended ≡ turn_report_for queue steps e m → IsFront t replies steps m queue
front t replies ended steps e m [] is = absurd (no_turn t replies ended _ is)
front t replies ended steps e m (u ∷ rest) is =
    let same : t ≡ u = ap turn_in is in
    record { behind = rest; queue_is = ap (λ x. x ∷ rest) (sym same); replies_are = ap replies_in is ∙ ap (λ x. replies_of x steps (after_begin x rest m)) (sym same) }

-- a queued task was given out
false-true : false ≡ true → ⊥
false-true e = cc

queued_given : (table : List (Option (Task ℕ))) (t : ℕ) → of_task is_queued (value_at table t) ≡ true → t < length table
queued_given [] t is = absurd (false-true is)
queued_given (v ∷ vs) zero is = omega arith
queued_given (v ∷ vs) (suc t) is = omega (arith, queued_given vs t is)

-- how a turn of a script's task went, in the table of futures
pub record Gave (kinds : List Kind) (t reading : ℕ) (steps : List TurnStep) (replies : List Reply) (e : End) (fs gs : Futures) (f : ScriptTask) : Type 0 where
  pub turned : Turned
  pub gives : turn_of (place_of f) t reading (own_replies steps replies) ≡ Some turned
  pub own : own_steps steps ≡ turned.steps
  pub ends : e ≡ turned.e
  pub after : Option ScriptTask
  pub stands : turned.after ≡ place_in after
  pub ours : IfOurs kinds after
  pub left : gs ≡ slice_set fs t after ++ new_futures f turned.made
  pub is_over : after ≡ None → (o : ℕ) × (e ≡ end.Ready o)

module _ {P U J A V : Type 0} where
  gave : (kinds : List Kind) (t reading : ℕ) (steps : List TurnStep) (replies : List Reply) (e : End) (fs gs : Futures) (f : ScriptTask) (c d : Cx ScriptTask ℕ P U ⊤ J A V) (answer : Poll ℕ) (left : ScriptTask) (after : Option ScriptTask) (is_unread : Bool)
      → RunsLines f c answer left d → c.parts.acts ≡ no_acts is_unread → c.parts.me ≡ t → nanos_of c.parts.now ≡ reading → d.parts.acts.steps ≡ steps → d.parts.acts.replies ≡ replies → e ≡ end_of (λ n. n) answer
      → ((turned : Turned) → d.futures.items ≡ c.futures.items ++ new_futures f turned.made → gs ≡ slice_set fs t after ++ new_futures f turned.made)
      → stands_at answer left ≡ place_in after → IfOurs kinds after → (after ≡ None → (o : ℕ) × (e ≡ end.Ready o))
      → Gave kinds t reading steps replies e fs gs f
  gave kinds t reading steps replies e fs gs f c d answer left after is_unread lines none me now steps_are replies_are is_end placed stands ours over =
      let acts : lines.acts.acts ≡ steps = sym (lines.acts.steps_are ∙ ap (λ r. r.steps ++ lines.acts.acts) none) ∙ steps_are in
      let told : lines.acts.told ≡ replies = sym (lines.acts.replies_are ∙ ap (λ r. r.replies ++ lines.acts.told) none) ∙ replies_are in
      let answers : lines.replies ≡ own_replies steps replies = sym (answers_of c.parts.acts d.parts.acts lines.turned.steps lines.replies lines.acts) ∙ ap (λ xs. own_replies xs lines.acts.told) acts ∙ ap (own_replies steps) told in
      record {
        turned = lines.turned;
        gives = ap (λ rs. turn_of (place_of f) t reading rs) (sym answers) ∙ ap (λ x. turn_of (place_of f) x reading lines.replies) (sym me) ∙ ap (λ x. turn_of (place_of f) c.parts.me x lines.replies) (sym now) ∙ lines.gives;
        own = ap own_steps (sym acts) ∙ own_of c.parts.acts d.parts.acts lines.turned.steps lines.replies lines.acts;
        ends = is_end ∙ sym lines.ends;
        after = after;
        stands = lines.after ∙ stands;
        ours = ours;
        left = placed lines.turned lines.made;
        is_over = over;
      }

gives_turn : (o : Option Turned) (turned : Turned) (steps : List TurnStep) (e : End) (rest : Turned → Type 0) → o ≡ Some turned → steps ≡ turned.steps → e ≡ turned.e → rest turned → Gives o steps e rest
gives_turn o turned steps e rest is own ends holds = subst (λ x. Gives x steps e rest) (sym is) (own, ends, holds)

-- all other entries give out no number of a task
no_spawn : (a : Act) → MakesNoTask a → is_spawn (step.Act a) ≡ false
no_spawn act.Spawn none = absurd none
no_spawn (act.Wake t) none = refl
no_spawn (act.NewSleep n) none = refl
no_spawn (act.Reset s n) none = refl
no_spawn (act.DropSleep s) none = refl
no_spawn (act.SleepElapsed s) none = refl
no_spawn (act.DropJoin t) none = refl
no_spawn (act.Block o) none = refl
no_spawn (act.DropJob j) none = refl
no_spawn (act.Finished t) none = refl
no_spawn (act.JobFinished j) none = refl
no_spawn (act.JobEnd j h) none = refl

other_act : (m mid : Machine) (a : Act) → MakesNoTask a → next_number mid.tasks.table ≡ next_number (act_outcome a m).machine.tasks.table → next_number mid.tasks.table ≡ next_number m.tasks.table
other_act m mid a none is =
    let made : made_by (step.Act a) (act_outcome a m).reply ≡ 0 = ap (λ b. cond b (is_task (act_outcome a m).reply) 0) (no_spawn a none) in
    omega (arith, is, act_made m a, made)

other_fires : (fired : List ℕ) (m : Machine) → next_number (after_fires m fired).tasks.table ≡ next_number m.tasks.table
other_fires [] m = refl
other_fires (s ∷ fired) m = other_fires fired (after_fire m s) ∙ next_number-woken_if_any m.tasks (sleep.waker_at m.sleeps s)

other_clock : (m mid : Machine) (n : ℕ) (answer : Report) → ClockStep m n answer mid → next_number mid.tasks.table ≡ next_number m.tasks.table
other_clock m mid n (report.Fired fired) is = ap (λ x. next_number x.tasks.table) is.2 ∙ other_fires fired (at_clock m n)
other_clock m mid n (report.Reply r) is = ap (λ x. next_number x.tasks.table) is.2
other_clock m mid n (report.Turn t replies ended) is = absurd is
other_clock m mid n report.Listed is = absurd is
other_clock m mid n report.Unlisted is = absurd is
other_clock m mid n (report.Drained tasks) is = absurd is

other_remote : (m : Machine) (t : ℕ) → next_number (after_remote m t).tasks.table ≡ next_number m.tasks.table
other_remote m t = by_issued (is_issued m.tasks.table t) (has_finished (value_at m.tasks.table t) || is_waiting m.inbox t)
  where
    by_issued : (b d : Bool) → next_number (cond b (cond d m (with_inbox m (with_waiting m.inbox t))) m).tasks.table ≡ next_number m.tasks.table
    by_issued true true = refl
    by_issued true false = refl
    by_issued false d = refl

abbrev reply_in : Report → Reply
reply_in (report.Reply r) = r
reply_in other = reply.Pending

short_kinds : (n : ℕ) (kinds : List Kind) (k : ℕ) → AreSoundKinds n kinds → lines_of (slice_get kinds k) ≤ 127
short_kinds n [] k sound = omega arith
short_kinds n (kind ∷ kinds) zero sound = sound.0.few
short_kinds n (kind ∷ kinds) (suc k) sound = short_kinds n kinds k sound.1

or_second : (a b : Bool) → (a || b) ≡ false → b ≡ false
or_second true b is = absurd (true-false is)
or_second false b is = is

or_first : (a b : Bool) → (a || b) ≡ false → a ≡ false
or_first true b is = absurd (true-false is)
or_first false b is = refl

module _ {P U J A V : Type 0} (future : FutureOf ScriptTask (Cx ScriptTask ℕ P U ⊤ J A V) ℕ) (unspent : (f : ScriptTask) → future.is_spent f ≡ false)
    (polls : (f : ScriptTask) (c : Cx ScriptTask ℕ P U ⊤ J A V) (answer : Poll ℕ) (left : ScriptTask) (d : Cx ScriptTask ℕ P U ⊤ J A V) → future.polls f c answer left d → PollsTask f c answer left d)
    (cancels : (f : ScriptTask) (c d : Cx ScriptTask ℕ P U ⊤ J A V) → future.cancels f c d → d ≡ c) where
  -- the futures after a poll, by whether it was ready
  left_pending : (fs gs ks : Futures) (t : ℕ) (g : Option ScriptTask) (cs ds : Futures) → t < length fs → cs ≡ slice_set fs t None → ds ≡ cs ++ ks → gs ≡ slice_set ds t g → gs ≡ slice_set fs t g ++ ks
  left_pending fs gs ks t g cs ds below first made last =
      last ∙ ap (λ xs. slice_set xs t g) (made ∙ ap (λ xs. xs ++ ks) first)
      ∙ set-append_left (slice_set fs t None) ks t g (subst (λ n. t < n) (sym (length-set fs t None)) below)
      ∙ ap (λ xs. xs ++ ks) (set_twice fs t None g)

  by_rest : (kinds : List Kind) (t reading : ℕ) (steps : List TurnStep) (replies : List Reply) (e : End) (ended : Ended) (fs gs : Futures) (f : ScriptTask) (c x d : Cx ScriptTask ℕ P U ⊤ J A V) (answer : Poll ℕ) (left : ScriptTask) (is_unread : Bool)
      → IsOurs kinds f → t < length fs → c.futures.items ≡ slice_set fs t None → d.futures.items ≡ gs
      → c.parts.acts ≡ no_acts is_unread → c.parts.me ≡ t → nanos_of c.parts.now ≡ reading → c.parts.has_timers ≡ true → (m : Machine) × Matches (λ n. n) hosting_of c.parts m
      → d.parts.is_out_of_memory ≡ false → d.parts.acts.steps ≡ steps → d.parts.acts.replies ≡ replies → e ≡ end_of (λ n. n) answer
      → future.polls f c answer left x → Reaches (λ n. n) c x → AfterPoll (λ n. n) sharing_nothing future answer t left ended x d
      → Gave kinds t reading steps replies e fs gs f
  by_rest kinds t reading steps replies e ended fs gs f c x d Pending left is_unread ours below taken is none me now timers stands memory steps_are replies_are is_end polled reached (paid, (pays, pauses)) =
      let same : paid ≡ x = pays.paying.idle refl in
      let acts : d.parts.acts ≡ x.parts.acts = pauses.parts.acts ∙ ap (λ z. z.parts.acts) same in
      let lines : RunsLines f c Pending left x = (polls f c Pending left x polled).lines ours.fits stands (record {
        memory = sym (pauses.parts.memory ∙ ap (λ z. z.parts.is_out_of_memory) same) ∙ memory;
        timers = reached.parts.same_timers ∙ timers;
      }) in
      gave kinds t reading steps replies e fs gs f c x Pending left (Some left) is_unread lines none me now (sym (ap (λ a. a.steps) acts) ∙ steps_are) (sym (ap (λ a. a.replies) acts) ∙ replies_are) is_end
      (λ turned made. left_pending fs gs (new_futures f turned.made) t (Some left) c.futures.items x.futures.items below taken made (sym is ∙ pauses.futures ∙ ap (λ z. slice_set z.futures.items t (Some left)) same))
      refl (record { kinds_are = ap (λ k. k.now) lines.kinds ∙ ours.kinds_are; fits = lines.fits }) (λ e. absurd (none-some left (sym e)))
  by_rest kinds t reading steps replies e ended fs gs f c x d (Ready output) left is_unread ours below taken is none me now timers stands memory steps_are replies_are is_end polled reached (y, gives_up, on, (paid, (pays, done))) =
      let same : paid ≡ x = pays.paying.idle refl ∙ cancels left x y gives_up in
      let acts : d.parts.acts ≡ x.parts.acts = done.parts.acts ∙ ap (λ z. z.parts.acts) same in
      let lines : RunsLines f c (Ready output) left x = (polls f c (Ready output) left x polled).lines ours.fits stands (record {
        memory = sym (done.parts.memory ∙ ap (λ z. z.parts.is_out_of_memory) same) ∙ memory;
        timers = reached.parts.same_timers ∙ timers;
      }) in
      gave kinds t reading steps replies e fs gs f c x (Ready output) left None is_unread lines none me now (sym (ap (λ a. a.steps) acts) ∙ steps_are) (sym (ap (λ a. a.replies) acts) ∙ replies_are) is_end
      (λ turned made. sym is ∙ done.futures ∙ ap (λ z. z.futures.items) same ∙ made ∙ ap (λ xs. xs ++ new_futures f turned.made) taken)
      refl tt (λ e. (output, is_end))

  by_future : (kinds : List Kind) (t reading : ℕ) (steps : List TurnStep) (replies : List Reply) (e : End) (ended : Ended) (fs gs : Futures) (f : ScriptTask) (s : Bool) (c d : Cx ScriptTask ℕ P U ⊤ J A V) (is_unread : Bool)
      → s ≡ false → IsOurs kinds f → t < length fs → c.futures.items ≡ slice_set fs t None → d.futures.items ≡ gs
      → c.parts.acts ≡ no_acts is_unread → c.parts.me ≡ t → nanos_of c.parts.now ≡ reading → c.parts.has_timers ≡ true → (m : Machine) × Matches (λ n. n) hosting_of c.parts m
      → d.parts.is_out_of_memory ≡ false → d.parts.acts.steps ≡ steps → d.parts.acts.replies ≡ replies
      → UnlessSpent (λ n. n) sharing_nothing future s t f e ended c d → Gave kinds t reading steps replies e fs gs f
  by_future kinds t reading steps replies e ended fs gs f true c d is_unread spent ours below taken is none me now timers stands memory steps_are replies_are runs = absurd (true-false spent)
  by_future kinds t reading steps replies e ended fs gs f false c d is_unread spent ours below taken is none me now timers stands memory steps_are replies_are runs =
      by_rest kinds t reading steps replies e ended fs gs f c runs.middle d runs.answer runs.left is_unread ours below taken is none me now timers stands memory steps_are replies_are runs.is_end runs.polled runs.reached runs.rest

  -- the effect of one turn
  record TurnsOn (kinds : List Kind) (m mid : Machine) (fs gs : Futures) (reading : ℕ) (steps : List TurnStep) (e : End) (answer : Report) : Type 0 where
    task : ℕ
    replies : List Reply
    ended : Ended
    f : ScriptTask
    told_is : answer ≡ report.Turn task replies ended
    at : value_at fs task ≡ Some f
    below : task < length fs
    ours : IsOurs kinds f
    gave : Gave kinds task reading steps replies e fs gs f
    count : next_number mid.tasks.table ≡ next_number m.tasks.table + made_in steps replies
    over : (o : ℕ) → e ≡ end.Ready o → IsOver task mid.tasks

  same_task : (t : ℕ) → (t == t) ≡ true
  same_task t = eq-eqb t t refl

  finished_at : (t o : ℕ) (steps : List TurnStep) (e : End) (m : Machine) (rest : List ℕ) → t < next_number m.tasks.table → e ≡ end.Ready o → IsOver t (after_end e t (after_steps t steps (after_begin t rest m))).tasks
  finished_at t o steps e m rest below is =
      let x = after_steps t steps (after_begin t rest m) in
      record {
        given = omega (arith, below, turn_made t rest steps e m);
        finished = ap (λ y. has_finished (value_at (after_end y t x).tasks.table t)) is ∙ finished-completed t x.tasks o t ∙ ap (λ b. b || has_finished (value_at x.tasks.table t)) (same_task t);
      }

  has_future : (v : Option ScriptTask) → (v ≡ None → ⊥) → (f : ScriptTask) × (v ≡ Some f)
  has_future None never = absurd (never refl)
  has_future (Some f) never = (f, refl)

  turns_on : (kinds : List Kind) (m mid : Machine) (store after : Stored) (reading : ℕ) (steps : List TurnStep) (e : End) (answer : Report) (answers : List Report) → IsValid m → AreOurs kinds store.futures → length store.futures ≡ next_number m.tasks.table → HaveEnded store.futures (answer ∷ answers)
      → Step m (event.Turn steps e) answer mid → TellsTurn (λ n. n) sharing_nothing future true m store reading steps e answer after → TurnsOn kinds m mid store.futures after.futures reading steps e answer
  turns_on kinds m mid store after reading steps e answer answers valid ours tied ended is tells =
      let t : ℕ = tells.task in
      let fs : Futures = store.futures in
      let gs : Futures = after.futures in
      let replies : List Reply = tells.after.parts.acts.replies in
      let first : IsFront t replies steps m m.tasks.queue = front t replies tells.ended steps e m m.tasks.queue (sym tells.told ∙ is.0) in
      let given : t < next_number m.tasks.table = queued_given m.tasks.table t (front_is_queued m.tasks t first.behind first.queue_is valid.tasks) in
      let below : t < length fs = subst (λ n. t < n) (sym tied) given in
      let went : mid ≡ after_end e t (after_steps t steps (after_begin t first.behind m)) = is.1 ∙ ap (λ q. after_turn_for q steps e m) first.queue_is in
      let begins = tells.turn.begins in
      let found = has_future (value_at fs t) (λ none. true-false (sym (same_task t) ∙ ap (is_turn_of t) (sym tells.told) ∙ or_first (is_turn_of t answer) (has_turn_of t answers) (ended t below none))) in
      let f : ScriptTask = found.0 in
      let one : IsOurs kinds f = ours_at kinds fs t f ours found.1 in
      let counts : next_number (after_end e t (after_steps t steps (after_begin t first.behind m))).tasks.table ≡ next_number m.tasks.table + made_in steps replies =
      turn_made t first.behind steps e m ∙ ap (λ rs. next_number m.tasks.table + made_in steps rs) (sym first.replies_are) in
      record {
        task = t;
        replies = replies;
        ended = tells.ended;
        f = f;
        told_is = tells.told;
        at = found.1;
        below = below;
        ours = one;
        gave = by_future kinds t reading steps replies e tells.ended fs gs f (future.is_spent f) tells.turn.begun tells.after tells.is_unread (unspent f) one below (begins.futures ∙ ap (λ xs. slice_set xs t None) tells.had) tells.has
            begins.parts.acts_are begins.parts.me (ap nanos_of begins.parts.now_is ∙ tells.reads) (begins.parts.has_timers ∙ tells.timers)
            (after_begin t first.behind m, begun_matches (λ n. n) tells.before.parts tells.turn.begun.parts t tells.now (no_acts tells.is_unread) m first.behind begins.parts first.queue_is tells.stands.matches)
            tells.memory tells.acts refl (subst (λ v. Runs (λ n. n) sharing_nothing future v t e tells.ended tells.turn.begun tells.after) (ap (λ xs. value_at xs t) tells.had ∙ found.1) tells.turn.runs);
        count = ap (λ x. next_number x.tasks.table) went ∙ counts;
        over = λ o done. subst (λ x. IsOver t x.tasks) (sym went) (finished_at t o steps e m first.behind given done);
      }

  -- a run of the machine
  pub polled_run : (part : List Entry) (m : Machine) (store : Stored) (reading : ℕ) → Polled (λ n. n) sharing_nothing future true m store reading part → (new : Machine) × Run m (events_in part) (reports_in part) new
  polled_run [] m store reading p = (m, refl)
  polled_run (Now n ∷ part) m store reading p = polled_run part m store n p
  polled_run (Park wait ∷ part) m store reading (at_rest, p) = polled_run part m store reading p
  polled_run (Ran (event.Turn steps e) answer ∷ part) m store reading (mid, (left, (step, tells, rest))) = let more = polled_run part mid left reading rest in (more.0, (mid, step, more.1))
  polled_run (Ran (event.Act a) answer ∷ part) m store reading (mid, (none, step, rest)) = let more = polled_run part mid store reading rest in (more.0, (mid, step, more.1))
  polled_run (Ran (event.Clock n) answer ∷ part) m store reading (mid, (step, rest)) = let more = polled_run part mid store reading rest in (more.0, (mid, step, more.1))
  polled_run (Ran (event.Remote t) answer ∷ part) m store reading (mid, (step, rest)) = let more = polled_run part mid store reading rest in (more.0, (mid, step, more.1))
  polled_run (Ran event.Drain answer ∷ part) m store reading (mid, (step, rest)) = let more = polled_run part mid store reading rest in (more.0, (mid, step, more.1))

  -- the futures after a turn, and the places that they are
  places_after : (kinds : List Kind) (fs gs : Futures) (t : ℕ) (f : ScriptTask) (after : Option ScriptTask) (turned : Turned) → IsOurs kinds f → gs ≡ slice_set fs t after ++ new_futures f turned.made → turned.after ≡ place_in after → AllBelow (length kinds) turned.made
      → places gs ≡ after_turn kinds (places fs) t turned
  places_after kinds fs gs t f after turned ours is stands below =
      ap places is ∙ map-append place_in (slice_set fs t after) (new_futures f turned.made)
      ∙ ap (λ ps. ps ++ places (new_futures f turned.made)) (places_set fs t after ∙ ap (λ p. slice_set (places fs) t p) (sym stands))
      ∙ ap (λ ps. slice_set (places fs) t turned.after ++ ps) (places_new kinds f turned.made ours.kinds_are below)

  length_new : (f : ScriptTask) (ks : List ℕ) → length (new_futures f ks) ≡ length ks
  length_new f [] = refl
  length_new f (k ∷ ks) = ap suc (length_new f ks)

  new_there : (f : ScriptTask) (ks : List ℕ) (i : ℕ) → i < length ks → value_at (new_futures f ks) i ≡ None → ⊥
  new_there f [] i below none = omega (arith, below)
  new_there f (k ∷ ks) zero below none = none-some (new_task f k) (sym none)
  new_there f (k ∷ ks) (suc i) below none = new_there f ks i (omega (arith, below)) none

  -- and those whose futures were removed still have no turn
  ended_after : (kinds : List Kind) (m mid : Machine) (fs gs : Futures) (reading : ℕ) (steps : List TurnStep) (e : End) (answer : Report) (answers : List Report) → (one : TurnsOn kinds m mid fs gs reading steps e answer) → HaveEnded fs (answer ∷ answers)
      → (IsOver one.task mid.tasks → has_turn_of one.task answers ≡ false) → HaveEnded gs answers
  ended_after kinds m mid fs gs reading steps e answer answers one ended over t below none = elim (cases_eq t one.task) [
    | inl here ↦ subst (λ x. has_turn_of x answers ≡ false) (sym here) (gone one.gave.after refl here)
    | inr apart ↦ before apart (cases_lt t (length fs))
  ]
    where
      set : Futures
      set = slice_set fs one.task one.gave.after

      new : Futures
      new = new_futures one.f one.gave.turned.made

      none_in : value_at (set ++ new) t ≡ None
      none_in = ap (λ xs. value_at xs t) (sym one.gave.left) ∙ none

      lengths : length set ≡ length fs
      lengths = length-set fs one.task one.gave.after

      gone : (v : Option ScriptTask) → one.gave.after ≡ v → t ≡ one.task → has_turn_of one.task answers ≡ false
      gone None is here = let done = one.gave.is_over is in over (one.over done.0 done.1)
      gone (Some g) is here =
          absurd (none-some g (sym none_in ∙ get_or_append_left set new None t (subst (λ n. t < n) (sym lengths) (subst (λ x. x < length fs) (sym here) one.below))
          ∙ ap (λ x. value_at set x) here ∙ get_or-set_same fs one.task one.gave.after None one.below ∙ is))

      before : (t ≡ one.task → ⊥) → (t < length fs) ⊎ (length fs ≤ t) → has_turn_of t answers ≡ false
      before apart (inl inside) = or_second (is_turn_of t answer) (has_turn_of t answers)
          (ended t inside (sym (get_or-set_other fs one.task t one.gave.after None (λ e. apart e)) ∙ sym (get_or_append_left set new None t (subst (λ n. t < n) (sym lengths) inside)) ∙ none_in))
      before apart (inr beyond) = absurd (new_there one.f one.gave.turned.made (t - length fs)
          (omega (arith, beyond, below, ap length one.gave.left, length-append set new, lengths, length_new one.f one.gave.turned.made))
          (sym (get_or-append_right set new (length fs) t None lengths beyond) ∙ none_in))

  -- all the entries, one after the other
  pub driven_from : (kinds : List Kind) (part : List Entry) (m : Machine) (store : Stored) (reading : ℕ) → KindsBelow (length kinds) kinds → IsValid m → AreOurs kinds store.futures → length store.futures ≡ next_number m.tasks.table → HaveEnded store.futures (reports_in part)
      → Polled (λ n. n) sharing_nothing future true m store reading part → DrivenFrom kinds (places store.futures) reading (map told part)
  driven_from kinds [] m store reading sound valid ours tied ended p = tt
  driven_from kinds (Now n ∷ part) m store reading sound valid ours tied ended p = driven_from kinds part m store n sound valid ours tied ended p
  driven_from kinds (Park wait ∷ part) m store reading sound valid ours tied ended (at_rest, p) = driven_from kinds part m store reading sound valid ours tied ended p
  driven_from kinds (Ran (event.Act a) answer ∷ part) m store reading sound valid ours tied ended (mid, (none, step, rest)) =
      driven_from kinds part mid store reading sound (step_is_valid m (event.Act a) answer mid valid step) ours (tied ∙ sym (other_act m mid a none (ap (λ x. next_number x.tasks.table) step.1))) (λ t below is. or_second (is_turn_of t answer) (has_turn_of t (reports_in part)) (ended t below is)) rest
  driven_from kinds (Ran (event.Clock n) answer ∷ part) m store reading sound valid ours tied ended (mid, (step, rest)) =
      driven_from kinds part mid store reading sound (step_is_valid m (event.Clock n) answer mid valid step) ours (tied ∙ sym (other_clock m mid n answer step)) (λ t below is. or_second (is_turn_of t answer) (has_turn_of t (reports_in part)) (ended t below is)) rest
  driven_from kinds (Ran (event.Remote t) answer ∷ part) m store reading sound valid ours tied ended (mid, (step, rest)) =
      driven_from kinds part mid store reading sound (step_is_valid m (event.Remote t) answer mid valid step) ours (tied ∙ sym (ap (λ x. next_number x.tasks.table) step.1 ∙ other_remote m t)) (λ t below is. or_second (is_turn_of t answer) (has_turn_of t (reports_in part)) (ended t below is)) rest
  driven_from kinds (Ran event.Drain answer ∷ part) m store reading sound valid ours tied ended (mid, (step, rest)) =
      driven_from kinds part mid store reading sound (step_is_valid m event.Drain answer mid valid step) ours (tied ∙ sym (ap (λ x. next_number x.tasks.table) step.1 ∙ next_number-all_woken m.tasks m.inbox)) (λ t below is. or_second (is_turn_of t answer) (has_turn_of t (reports_in part)) (ended t below is)) rest
  driven_from kinds (Ran (event.Turn steps e) answer ∷ part) m store reading sound valid ours tied ended (mid, (after, (step, tells, rest))) =
      let fs : Futures = store.futures in
      let left : Futures = after.futures in
      let answers : List Report = reports_in part in
      let one : TurnsOn kinds m mid fs left reading steps e answer = turns_on kinds m mid store after reading steps e answer answers valid ours tied ended step tells in
      let gave = one.gave in
      let after_valid : IsValid mid = step_is_valid m (event.Turn steps e) answer mid valid step in
      let makes : Makes (length kinds) (own_replies steps one.replies) gave.turned = subst (MakesIf (length kinds) (own_replies steps one.replies)) gave.gives
      (turn_makes (length kinds) (place_of one.f) one.task reading (own_replies steps one.replies) (subst (λ ks. MakeBelow (length kinds) (left_of (slice_get ks one.f.kind) one.f.at)) (sym one.ours.kinds_are) (left_below (length kinds) one.f.at kinds one.f.kind sound))) in
      let made : length gave.turned.made ≡ made_in steps one.replies = makes.count ∙ ap (λ xs. made_in xs (own_replies steps one.replies)) (sym gave.own) ∙ own_made steps one.replies in
      let ours_left : AreOurs kinds left = subst (AreOurs kinds) (sym gave.left) (ours_both kinds _ _ (ours_set kinds fs one.task gave.after ours gave.ours) (ours_new kinds one.f gave.turned.made one.ours)) in
      let tied_left : length left ≡ next_number mid.tasks.table = omega (arith, ap length gave.left, length-append (slice_set fs one.task gave.after) (new_futures one.f gave.turned.made), length-set fs one.task gave.after, length_new one.f gave.turned.made, made, one.count, tied) in
      let run = polled_run part mid after reading rest in
      let more : DrivenFrom kinds (places left) reading (map told part) = driven_from kinds part mid after reading sound after_valid ours_left tied_left
      (ended_after kinds m mid fs left reading steps e answer answers one ended (λ over. over_runs one.task (events_in part) answers mid run.0 after_valid over run.1)) rest in
      subst (λ r. DrivenFrom kinds (places fs) reading (script.ran (event.Turn steps e) r ∷ map told part)) (sym one.told_is)
      (gives_turn (turn_at (slice_index_or (places fs) one.task None) one.task reading (own_replies steps one.replies)) gave.turned (own_steps steps) e _
      (ap (λ p. turn_at p one.task reading (own_replies steps one.replies)) (places_at fs one.task ∙ ap place_in one.at) ∙ gave.gives) gave.own gave.ends
      (subst (λ ps. DrivenFrom kinds ps reading (map told part)) (places_after kinds fs left one.task one.f gave.after gave.turned one.ours gave.left gave.stands makes.below) more))

  -- the main task's future alone
  only_main : (f : ScriptTask) (answers : List Report) → HaveEnded (Some f ∷ []) answers
  only_main f answers zero below none = absurd (none-some f (sym none))
  only_main f answers (suc t) below none = absurd (omega (arith, below))

  -- a whole call from the machine's start
  pub driven_main : (s : Script) (strategy : Blocking) (main : ScriptTask) (left : Stored) (part : List Entry) (new : Machine) → main ≡ new_task main 0 → main.kinds.now ≡ s.kinds → IsSound (length s.kinds) s
      → PollsMain (λ n. n) sharing_nothing future true main (first_store tt) left (start_machine s.limits strategy) part new [] → Driven s (map told part)
  driven_main s strategy main left part new first same sound (t, (mid, (more, (spawn, polls_more)))) =
      let kinds : List Kind = s.kinds in
      let m : Machine = start_machine s.limits strategy in
      let below : KindsBelow (length kinds) kinds = sound_below (length kinds) kinds sound.each in
      let one : next_number mid.tasks.table ≡ 1 =
      let reply : is_task (act_outcome act.Spawn m).reply ≡ 1 = ap (λ r. is_task (reply_in r)) (sym spawn.1.0) in
      let made : next_number (act_outcome act.Spawn m).machine.tasks.table ≡ 0 + is_task (act_outcome act.Spawn m).reply = act_made m act.Spawn in
      ap (λ x. next_number x.tasks.table) spawn.1.1 ∙ made ∙ ap (λ n. 0 + n) reply in
      let ours : IsOurs kinds main = record {
        kinds_are = same;
        fits = record {
          short = λ k. subst (λ ks. lines_of (slice_get ks k) ≤ 127) (sym same) (short_kinds (length kinds) kinds k sound.each);
          tasks = subst (λ f. length f.own.tasks ≤ f.at) (sym first) (omega arith);
          jobs = subst (λ f. length f.own.jobs ≤ f.at) (sym first) (omega arith);
        };
      } in
      let rest : DrivenFrom kinds (places (Some main ∷ [])) 0 (map told more) = driven_from kinds more mid (with_future (first_store tt) main) 0 below (step_is_valid m (event.Act act.Spawn) _ mid (start_is_valid s.limits strategy) spawn.1) (ours, tt) (sym one)
      (only_main main (reports_in more)) (polls_more (λ reading. tt) 0) in
      let start : places (Some main ∷ []) ≡ starts_of kinds (0 ∷ []) = ap (λ f. places (Some f ∷ [])) first ∙ places_new kinds main (0 ∷ []) same (sound.some, tt) in
      subst (λ xs. Driven s (map told xs)) (sym spawn.0) (subst (λ ps. DrivenFrom kinds ps 0 (map told more)) start rest)
