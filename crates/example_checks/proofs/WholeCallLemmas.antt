-- The check of a whole journal passes each journal that calls of block_on leave.
use Rattle.std.proofs.Common.{◌≡◌, ◌<◌, ◌≤◌, ◌⊎◌, inl, inr, ℕ, zero, suc, ◌+◌, max, true, false, Bool, cond, List, [], ◌∷◌, ◌++◌, map, Some, None, Option, Ok, Err, Result, refl, ap, sym, subst, ◌∙◌, arith, eq-eqb, le-leb, lt-ltb}
use Rattle.std.specs.Prelude.{◌-◌}
use Rattle.std.proofs.lemmas.List.{append-nil}
use Rattle.mono_model.specs.Ticks.{max_nanos, down}
use Rattle.mono_machine.specs.Machine.{Machine, start_machine}
use Rattle.mono_machine.specs.Steps.{Step, Run}
use Rattle.mono_machine.specs.declared.events.Act.TheVariants as act
use Rattle.mono_machine.specs.declared.events.Event.{Event}
use Rattle.mono_machine.specs.declared.events.Event.TheVariants as event
use Rattle.mono_machine.specs.declared.events.Refusal.TheVariants as refusal
use Rattle.mono_machine.specs.declared.events.Reply.{Reply}
use Rattle.mono_machine.specs.declared.events.Reply.TheVariants as reply
use Rattle.mono_machine.specs.declared.events.Report.{Report}
use Rattle.mono_machine.specs.declared.events.Report.TheVariants as report
use Rattle.mono_trace.specs.Order.{pair_mark, drop_mark, next_stage, stop_at, stop_or, reading_if, output_if, parked_if, ends_after, drained_to, misplaced_on, later_of, IsOrdered}
use Rattle.mono_trace.specs.declared.marks.Mark.{Mark}
use Rattle.mono_trace.specs.declared.marks.Mark.TheVariants as mark
use Rattle.mono_trace.specs.declared.marks.Stage.{Stage}
use Rattle.mono_trace.specs.declared.marks.Stage.TheVariants as stage
use Rattle.mono_rt.specs.Journals.{events_in, reports_in, Stays}
use Rattle.mono_rt.specs.Rounds.{OneTurn, Turns, Round, RoundBreaks, Remotes, Drained, ClockIf, IsWait, IsPark, Parks, Pauses, Pause, ParkedDrained, ParkBreaks, ParkFails, PausesBreak, PauseBreaks, PausesFail, PauseFails, Pass, PassBreaks, Passes, Rounds, Breaks, LaterBreaks, Ends, DropsFor, output_in, RunsMain, Blocked}
use Rattle.example_checks.specs.WholeCalls.{Call, Calls, InRange, mark_of, output_mark, last_mark, WholeCallsPass}
use Rattle.mono_rt.specs.declared.parts.errors.RunError.{RunError}
use Rattle.mono_rt.specs.declared.parts.errors.RunError.TheVariants as error
use Rattle.mono_rt.specs.declared.parts.journals.Entry.{Entry}
use Rattle.mono_rt.specs.declared.parts.journals.Entry.TheVariants.{Ran, Now, Park}
use Rattle.example_checks.proofs.GreatestLemmas.{tick_of, turn_keeps, act_keeps, remote_keeps, drain_keeps, clock_moves}

-- ---- stages at a machine: the greatest tick of the order is that of the machine

abbrev round_at : ℕ → Machine → Stage
round_at main m = stage.Round main (tick_of m)

abbrev parked_at : ℕ → Machine → Stage
parked_at main m = stage.Parked main (tick_of m)

abbrev waited_at : ℕ → Machine → Stage
waited_at main m = stage.Waited main (tick_of m)

abbrev start_at : Machine → Stage
start_at m = stage.Start (tick_of m)

abbrev dropped_at : Option ℕ → Machine → Stage
dropped_at output m = stage.Dropped output (tick_of m)

reading_is : (main g n : ℕ) → n ≤ max_nanos → reading_if main g n ≡ Some (stage.Reading main g (down n))
reading_is main g n below = ap (λ b. cond b (Some (stage.Reading main g (down n))) None) (le-leb n max_nanos below)

output_is : (main g : ℕ) (output : Option ℕ) → output_if main g main output ≡ Some (stage.Dropped output g)
output_is main g output = ap (λ b. cond b (Some (stage.Dropped output g)) None) (eq-eqb main main refl)

ends_is : (g until tick v : ℕ) → g < until → v ≡ until - tick → ends_after g tick v ≡ true
ends_is g until tick v above is = lt-ltb g (tick + v) (omega (arith, above, is))

park_is : (t : Bool) (main : ℕ) (m : Machine) (now : ℕ) (wait : Option ℕ) → IsWait t m now wait → parked_if t main (tick_of m) (down now) wait ≡ Some (parked_at main m)
park_is t main m now None is = refl
park_is true main m now (Some v) is = ap (λ b. cond b (Some (parked_at main m)) None) (ends_is (tick_of m) is.until (down now) v is.above is.is_wait)
park_is false main m now (Some v) is = absurd is

-- ---- what passes: the pairs are those of a run, and the lines are in order from this stage on, with these marks at the end

module _ (t : Bool) (tail : List Mark) where
  record Passed (s : Stage) (m : Machine) (part : List Entry) : Type 0 where
    run : (new : Machine) × Run m (events_in part) (reports_in part) new
    ordered : (n : ℕ) → stop_at t n s (map mark_of part ++ tail) ≡ None
    in_range : InRange part

  abbrev Good : Stage → Machine → List Entry → Type 0
  Good s m part = Passed s m part

  ran : (s next : Stage) (old mid : Machine) (e : Event) (r : Report) (rest : List Entry) → next_stage t s (pair_mark e r) ≡ Some next → Step old e r mid → Good next mid rest → Good s old (Ran e r ∷ rest)
  ran s next old mid e r rest is step good = record {
    run = (good.run.0, (mid, step, good.run.1));
    ordered = λ n. ap (λ o. stop_or (n, s) o (λ later. stop_at t (n + 1) later (map mark_of rest ++ tail))) is ∙ good.ordered (n + 1);
    in_range = good.in_range;
  }

  reads : (s next : Stage) (m : Machine) (n : ℕ) (rest : List Entry) → n ≤ max_nanos → (n ≤ max_nanos → next_stage t s (mark.Now n) ≡ Some next) → Good next m rest → Good s m (Now n ∷ rest)
  reads s next m n rest below is good = record {
    run = good.run;
    ordered = λ k. ap (λ o. stop_or (k, s) o (λ later. stop_at t (k + 1) later (map mark_of rest ++ tail))) (is below) ∙ good.ordered (k + 1);
    in_range = (below, good.in_range);
  }

  parks : (s next : Stage) (m : Machine) (wait : Option ℕ) (rest : List Entry) → next_stage t s (mark.Park wait) ≡ Some next → Good next m rest → Good s m (Park wait ∷ rest)
  parks s next m wait rest is good = record {
    run = good.run;
    ordered = λ k. ap (λ o. stop_or (k, s) o (λ later. stop_at t (k + 1) later (map mark_of rest ++ tail))) is ∙ good.ordered (k + 1);
    in_range = good.in_range;
  }

  stays : (P : Machine → List Entry → Type 0) (old new : Machine) (part rest : List Entry) → Stays old part new rest → P new rest → P old part
  stays P old new part rest (is, same) good = subst (λ xs. P old xs) (sym is) (subst (λ m. P m rest) same good)

  -- the stages of a call at whose end the handle of the main task may be dropped
  record Ending (main : ℕ) (m : Machine) (part : List Entry) : Type 0 where
    in_round : Good (round_at main m) m part
    in_park : Good (parked_at main m) m part
    in_wait : Good (waited_at main m) m part

  -- ---- turns

  turn : (main : ℕ) (old new : Machine) (part rest : List Entry) → OneTurn old part new rest → Good (round_at main new) new rest → Good (round_at main old) old part
  turn main old new part rest one good =
      let same : tick_of new ≡ tick_of old = turn_keeps old new one.steps one.ending (report.Turn one.task one.replies one.ended) one.step in
      let e : Event = event.Turn one.steps one.ending in
      let told : Report = report.Turn one.task one.replies one.ended in
      subst (Good (round_at main old) old) (sym one.entries)
      (reads (round_at main old) (stage.Reading main (tick_of old) (down one.now)) old one.now (Ran e told ∷ rest) one.in_range (reading_is main (tick_of old) one.now)
      (ran (stage.Reading main (tick_of old) (down one.now)) (round_at main old) old new e told rest refl one.step
      (subst (λ g. Good (stage.Round main g) new rest) same good)))

  turns : (main count : ℕ) (old new : Machine) (part rest : List Entry) → Turns count old part new rest → Good (round_at main new) new rest → Good (round_at main old) old part
  turns main zero old new part rest none good = stays (λ m xs. Good (round_at main m) m xs) old new part rest none good
  turns main (suc n) old new part rest (mid, (left, (before, one))) good = turns main n old mid part left before (turn main mid new left rest one good)

  -- ---- the inbox is drained

  module _ (w d : Stage) (wakes : next_stage t w mark.Wake ≡ Some w) (drains : next_stage t w mark.Drain ≡ Some d) where
    remotes : (ts : List ℕ) (s : Stage) (old mid new : Machine) (part left rest : List Entry) (listed : List ℕ)
        → next_stage t s mark.Wake ≡ Some w → next_stage t s mark.Drain ≡ Some d → Remotes ts old part mid left → left ≡ Ran event.Drain (report.Drained listed) ∷ rest
        → Step mid event.Drain (report.Drained listed) new → Good d new rest → Good s old part
    remotes [] s old mid new part left rest listed wake drain (is, same) entry step good =
        subst (Good s old) (sym (is ∙ entry)) (ran s d old new event.Drain (report.Drained listed) rest drain (subst (λ m. Step m event.Drain (report.Drained listed) new) same step) good)
    remotes (u ∷ us) s old mid new part left rest listed wake drain (told, (next, (more, (is, first, others)))) entry step good =
        subst (Good s old) (sym is) (ran s w old next (event.Remote u) told more wake first (remotes us w next mid new more left rest listed wakes drains others entry step good))

  remotes_keep : (ts : List ℕ) (old new : Machine) (part rest : List Entry) → Remotes ts old part new rest → tick_of new ≡ tick_of old
  remotes_keep [] old new part rest (is, same) = ap tick_of same
  remotes_keep (u ∷ us) old new part rest (told, (next, (more, (is, first, others)))) = remotes_keep us next new more rest others ∙ remote_keeps old next u told first

  drained_keeps : (old new : Machine) (part rest : List Entry) → Drained old part new rest → tick_of new ≡ tick_of old
  drained_keeps old new part rest drain = drain_keeps drain.mid new (report.Drained drain.listed) drain.step ∙ remotes_keep drain.taken old drain.mid part drain.left drain.remotes

  drained : (s w d : Stage) (old new : Machine) (part rest : List Entry)
      → next_stage t s mark.Wake ≡ Some w → next_stage t s mark.Drain ≡ Some d → next_stage t w mark.Wake ≡ Some w → next_stage t w mark.Drain ≡ Some d
      → Drained old part new rest → Good d new rest → Good s old part
  drained s w d old new part rest wake drain wakes drains is good =
      remotes w d wakes drains is.taken s old is.mid new part is.left rest is.listed wake drain is.remotes is.entry is.step good

  -- between two rounds of turns
  handed : (main : ℕ) (old new : Machine) (part rest : List Entry) → Drained old part new rest → Good (round_at main new) new rest → Good (round_at main old) old part
  handed main old new part rest is good =
      drained (round_at main old) (stage.Woken main (tick_of old)) (round_at main old) old new part rest refl refl refl refl is
      (subst (λ g. Good (stage.Round main g) new rest) (drained_keeps old new part rest is) good)

  -- after a park
  heard : (main : ℕ) (old new : Machine) (part rest : List Entry) → Drained old part new rest → Good (drained_to t main (tick_of new)) new rest → Good (parked_at main old) old part
  heard main old new part rest is good =
      drained (parked_at main old) (stage.Hearing main (tick_of old)) (drained_to t main (tick_of old)) old new part rest refl refl refl refl is
      (subst (λ g. Good (drained_to t main g) new rest) (drained_keeps old new part rest is) good)

  -- ---- parks

  parked : (main : ℕ) (old new : Machine) (part rest : List Entry) → IsPark t old part new rest → Good (parked_at main new) new rest → Good (round_at main old) old part
  parked main old new part rest (now, (wait, (is, (entries, (same, below))))) good =
      subst (Good (round_at main old) old) (sym entries)
      (reads (round_at main old) (stage.Reading main (tick_of old) (down now)) old now (Park wait ∷ rest) below (reading_is main (tick_of old) now)
      (parks (stage.Reading main (tick_of old) (down now)) (parked_at main old) old wait rest (park_is t main old now wait is)
      (subst (λ m. Good (parked_at main m) m rest) same good)))

-- with timers a clock step follows
clocked : (t : Bool) (tail : List Mark) (main : ℕ) (old new : Machine) (part rest : List Entry) → ClockIf t old part new rest → Good t tail (round_at main new) new rest → Good t tail (drained_to t main (tick_of old)) old part
clocked false tail main old new part rest none good = stays false tail (λ m xs. Good false tail (round_at main m) m xs) old new part rest none good
clocked true tail main old new part rest (n, (fired, (is, step))) good =
    subst (Good true tail (waited_at main old) old) (sym is)
    (ran true tail (waited_at main old) (stage.Round main (max (tick_of old) (down n))) old new (event.Clock n) (report.Fired fired) rest refl step
    (subst (λ g. Good true tail (stage.Round main g) new rest) (clock_moves old new n fired step) good))

-- memory ran out before the clock step
unclocked : (t : Bool) (tail : List Mark) (main : ℕ) (m : Machine) (part : List Entry) → t ≡ true → Good t tail (waited_at main m) m part → Good t tail (drained_to t main (tick_of m)) m part
unclocked true tail main m part timed good = good
unclocked false tail main m part timed good = absurd (cc)

module _ (t : Bool) (tail : List Mark) (main : ℕ) where
  waited : (old new : Machine) (part rest : List Entry) → Parks t old part new rest → Good t tail (round_at main new) new rest → Good t tail (round_at main old) old part
  waited old new part rest is good =
      parked t tail main old is.parked part is.left is.parks
      (heard t tail main is.parked is.drained is.left is.after is.drains
      (clocked t tail main is.drained new is.after rest is.clock good))

  parked_drained : (old new : Machine) (part rest : List Entry) → ParkedDrained t old part new rest → Ending t tail main new rest → Good t tail (round_at main old) old part
  parked_drained old new part rest is good =
      parked t tail main old is.parked part is.left is.parks
      (heard t tail main is.parked new is.left rest is.drains
      (unclocked t tail main new rest is.timers good.in_wait))

  still : (old new : Machine) (part rest : List Entry) → Stays old part new rest → Ending t tail main new rest → Good t tail (round_at main old) old part
  still old new part rest is good = stays t tail (λ m xs. Good t tail (round_at main m) m xs) old new part rest is good.in_round

  park_breaks : (old new : Machine) (part rest : List Entry) → ParkBreaks t old part new rest → Ending t tail main new rest → Good t tail (round_at main old) old part
  park_breaks old new part rest (inl none) good = still old new part rest none good
  park_breaks old new part rest (inr (inl is)) good = parked t tail main old new part rest is good.in_park
  park_breaks old new part rest (inr (inr is)) good = parked_drained old new part rest is good

  park_fails : (old new : Machine) (part rest : List Entry) → ParkFails t old part new rest → Ending t tail main new rest → Good t tail (round_at main old) old part
  park_fails old new part rest (inl is) good = waited old new part rest is good.in_round
  park_fails old new part rest (inr (inl is)) good = parked t tail main old new part rest is good.in_park
  park_fails old new part rest (inr (inr is)) good = parked_drained old new part rest is good

  -- ---- pauses, by the queue

  pause_by : (queue : List ℕ) (old new : Machine) (part rest : List Entry) → Pauses t queue old part new rest → Good t tail (round_at main new) new rest → Good t tail (round_at main old) old part
  pause_by [] old new part rest is good = waited old new part rest is good
  pause_by (front ∷ queue) old new part rest is good = handed t tail main old new part rest is good

  pause : (old new : Machine) (part rest : List Entry) → Pause t old part new rest → Good t tail (round_at main new) new rest → Good t tail (round_at main old) old part
  pause old = pause_by old.tasks.queue old

  break_by : (queue : List ℕ) (old new : Machine) (part rest : List Entry) → PausesBreak t queue old part new rest → Ending t tail main new rest → Good t tail (round_at main old) old part
  break_by [] old new part rest is good = park_breaks old new part rest is good
  break_by (front ∷ queue) old new part rest is good = still old new part rest is good

  pause_breaks : (old new : Machine) (part rest : List Entry) → PauseBreaks t old part new rest → Ending t tail main new rest → Good t tail (round_at main old) old part
  pause_breaks old = break_by old.tasks.queue old

  fail_by : (queue : List ℕ) (old new : Machine) (part rest : List Entry) → PausesFail t queue old part new rest → Ending t tail main new rest → Good t tail (round_at main old) old part
  fail_by [] old new part rest is good = park_fails old new part rest is good
  fail_by (front ∷ queue) old new part rest (inl is) good = handed t tail main old new part rest is good.in_round
  fail_by (front ∷ queue) old new part rest (inr none) good = still old new part rest none good

  pause_fails : (old new : Machine) (part rest : List Entry) → PauseFails t old part new rest → Ending t tail main new rest → Good t tail (round_at main old) old part
  pause_fails old = fail_by old.tasks.queue old

  -- ---- rounds and passes

  one_round : (units left : ℕ) (old new : Machine) (part rest : List Entry) → Round units left old part new rest → Good t tail (round_at main new) new rest → Good t tail (round_at main old) old part
  one_round units left old new part rest is good = turns t tail main is.turns old new part rest is.are good

  round_breaks : (units : ℕ) (old new : Machine) (part rest : List Entry) → RoundBreaks units old part new rest → Ending t tail main new rest → Good t tail (round_at main old) old part
  round_breaks units old new part rest (count, (are, within)) good = turns t tail main count old new part rest are good.in_round

  pass : (units left : ℕ) (old new : Machine) (part rest : List Entry) → Pass t units left old part new rest → Good t tail (round_at main new) new rest → Good t tail (round_at main old) old part
  pass units left old new part rest is good = pause old is.paused part is.behind is.pause (one_round _ left is.paused new is.behind rest is.round good)

  pass_breaks : (units : ℕ) (old new : Machine) (part rest : List Entry) → PassBreaks t units old part new rest → Ending t tail main new rest → Good t tail (round_at main old) old part
  pass_breaks units old new part rest is good = pause old is.paused part is.behind is.pause (round_breaks _ is.paused new is.behind rest is.round good)

  passes : (own count units left : ℕ) (old new : Machine) (part rest : List Entry) → Passes t own count units left old part new rest → Good t tail (round_at main new) new rest → Good t tail (round_at main old) old part
  passes own zero units left old new part rest (is, same, kept) good = stays t tail (λ m xs. Good t tail (round_at main m) m xs) old new part rest (is, same) good
  passes own (suc n) units left old new part rest (mid, (more, (kept, (before, (unfinished, (some_left, one)))))) good = passes own n units kept old mid part more before (pass kept left mid new more rest one good)

  rounds : (own units left : ℕ) (old new : Machine) (part rest : List Entry) → Rounds t own units left old part new rest → Good t tail (round_at main new) new rest → Good t tail (round_at main old) old part
  rounds own units left old new part rest is good = one_round units is.kept old is.mid part is.more is.first (passes own is.count is.kept left is.mid new is.more rest is.passes good)

  breaks : (own units : ℕ) (old new : Machine) (part rest : List Entry) → Breaks t own units old part new rest → Ending t tail main new rest → Good t tail (round_at main old) old part
  breaks own units old new part rest is good = rounds own units is.left old is.mid part is.more is.rounds (pause_fails is.mid new is.more rest is.pause good)

  later_by : (left : ℕ) (mid new : Machine) (more rest : List Entry) → PauseBreaks t mid more new rest ⊎ PassBreaks t left mid more new rest → Ending t tail main new rest → Good t tail (round_at main mid) mid more
  later_by left mid new more rest (inl is) good = pause_breaks mid new more rest is good
  later_by left mid new more rest (inr is) good = pass_breaks left mid new more rest is good

  later_breaks : (own units : ℕ) (old new : Machine) (part rest : List Entry) → LaterBreaks t own units old part new rest → Ending t tail main new rest → Good t tail (round_at main old) old part
  later_breaks own units old new part rest is good = rounds own units is.left old is.mid part is.more is.rounds (later_by is.left is.mid new is.more rest is.pass good)

  ends : (own units : ℕ) (answer : Result ℕ RunError) (old new : Machine) (part rest : List Entry) → Ends t own units answer old part new rest → Ending t tail main new rest → Good t tail (round_at main old) old part
  ends own units (Ok x) old new part rest (left, (are, done)) good = rounds own units left old new part rest are good.in_round
  ends own units (Err error.Turns) old new part rest (are, unfinished) good = rounds own units 0 old new part rest are good.in_round
  ends own units (Err error.Driver) old new part rest is good = breaks own units old new part rest is good
  ends own units (Err error.Memory) old new part rest (inl is) good = round_breaks units old new part rest is good
  ends own units (Err error.Memory) old new part rest (inr is) good = later_breaks own units old new part rest is good
  ends own units (Err error.AtCapacity) old new part rest is good = absurd is

-- ---- a call

module _ (t : Bool) (tail : List Mark) where
  -- after a call with this answer
  abbrev After : Result ℕ RunError → Machine → List Entry → Type 0
  After (Ok output) m part = Good t tail (dropped_at (Some output) m) m part
  After (Err error.Turns) m part = (output : Option ℕ) → Good t tail (dropped_at output m) m part
  After (Err error.Driver) m part = (output : Option ℕ) → Good t tail (dropped_at output m) m part
  After (Err error.AtCapacity) m part = Good t tail (start_at m) m part
  After (Err error.Memory) m part = Good t tail (start_at m) m part × ((output : Option ℕ) → Good t tail (dropped_at output m) m part)

  -- between two calls
  abbrev Between : Machine → List Entry → Type 0
  Between m part = Good t tail (start_at m) m part × ((output : Option ℕ) → Good t tail (dropped_at output m) m part)

  after : (answer : Result ℕ RunError) (m : Machine) (part : List Entry) → Between m part → After answer m part
  after (Ok output) m part both = both.1 (Some output)
  after (Err error.Turns) m part both = both.1
  after (Err error.Driver) m part both = both.1
  after (Err error.AtCapacity) m part both = both.0
  after (Err error.Memory) m part both = both

  -- the handle of the main task is dropped, with this answer
  drop_by : (main : ℕ) (answer : Reply) (output : Option ℕ) (old new : Machine) (part rest : List Entry)
      → drop_mark main (report.Reply answer) ≡ mark.Drop main output → part ≡ Ran (event.Act (act.DropJoin main)) (report.Reply answer) ∷ rest
      → Step old (event.Act (act.DropJoin main)) (report.Reply answer) new → Good t tail (dropped_at output new) new rest → Ending t tail main old part
  drop_by main answer output old new part rest marked is step good =
      let same : tick_of new ≡ tick_of old = act_keeps old new (act.DropJoin main) (report.Reply answer) step in
      let e : Event = event.Act (act.DropJoin main) in
      let next : Good t tail (dropped_at output old) new rest = subst (λ g. Good t tail (stage.Dropped output g) new rest) same good in
      let out : output_if main (tick_of old) main output ≡ Some (dropped_at output old) = output_is main (tick_of old) output in
      record {
        in_round = subst (Good t tail (round_at main old) old) (sym is) (ran t tail (round_at main old) (dropped_at output old) old new e (report.Reply answer) rest (ap (next_stage t (round_at main old)) marked ∙ out) step next);
        in_park = subst (Good t tail (parked_at main old) old) (sym is) (ran t tail (parked_at main old) (dropped_at output old) old new e (report.Reply answer) rest (ap (next_stage t (parked_at main old)) marked ∙ out) step next);
        in_wait = subst (Good t tail (waited_at main old) old) (sym is) (ran t tail (waited_at main old) (dropped_at output old) old new e (report.Reply answer) rest (ap (next_stage t (waited_at main old)) marked ∙ out) step next);
      }

  -- whatever the drop answers, it is a drop
  is_drop : (main : ℕ) (answer : Reply) → (output : Option ℕ) × (drop_mark main (report.Reply answer) ≡ mark.Drop main output)
  is_drop main (reply.Task n) = (None, refl)
  is_drop main (reply.Woke w) = (None, refl)
  is_drop main (reply.Sleep n) = (None, refl)
  is_drop main reply.Armed = (None, refl)
  is_drop main reply.Elapsed = (None, refl)
  is_drop main (reply.Dropped output) = (output, refl)
  is_drop main (reply.Job n) = (None, refl)
  is_drop main reply.Yes = (None, refl)
  is_drop main reply.No = (None, refl)
  is_drop main (reply.Ended w) = (None, refl)
  is_drop main reply.Pending = (None, refl)
  is_drop main reply.Ready = (None, refl)
  is_drop main (reply.Output n) = (None, refl)
  is_drop main reply.Canceled = (None, refl)
  is_drop main (reply.Refused r) = (None, refl)

  drops : (main : ℕ) (old new : Machine) (part rest : List Entry) → DropsFor main None old part new rest → ((output : Option ℕ) → Good t tail (dropped_at output new) new rest) → Ending t tail main old part
  drops main old new part rest (answer, (is, step)) good =
      let marked : (output : Option ℕ) × (drop_mark main (report.Reply answer) ≡ mark.Drop main output) = is_drop main answer in
      drop_by main answer marked.0 old new part rest marked.1 is step (good marked.0)

  drops_for : (main : ℕ) (answer : Result ℕ RunError) (old new : Machine) (part rest : List Entry) → (answer ≡ Err error.AtCapacity → ⊥) → DropsFor main (output_in answer) old part new rest → After answer new rest → Ending t tail main old part
  drops_for main (Ok output) old new part rest can (is, step) good = drop_by main (reply.Dropped (Some output)) (Some output) old new part rest refl is step good
  drops_for main (Err error.Turns) old new part rest can is good = drops main old new part rest is good
  drops_for main (Err error.Driver) old new part rest can is good = drops main old new part rest is good
  drops_for main (Err error.Memory) old new part rest can is good = drops main old new part rest is good.1
  drops_for main (Err error.AtCapacity) old new part rest can is good = absurd (can refl)

  -- a call from a stage at which a main task may be made
  module _ (s : ℕ → Stage) (makes : (g main : ℕ) → next_stage t (s g) (mark.Spawn main) ≡ Some (stage.Round main g)) (refuses : (g : ℕ) → next_stage t (s g) mark.NoPlace ≡ Some (stage.Start g)) where
    runs_main : (main units : ℕ) (answer : Result ℕ RunError) (old new : Machine) (part rest : List Entry) → (answer ≡ Err error.AtCapacity → ⊥) → RunsMain t main units answer old part new rest → After answer new rest → Good t tail (s (tick_of old)) old part
    runs_main main units answer old new part rest can is good =
        let same : tick_of is.spawned ≡ tick_of old = act_keeps old is.spawned act.Spawn (report.Reply (reply.Task main)) is.spawn.1 in
        let rest_of : Good t tail (round_at main is.spawned) is.spawned is.behind =
        ends t tail main main units answer is.spawned is.ended is.behind is.last is.ends (drops_for main answer is.ended new is.last rest can is.drop good)
        in
        subst (Good t tail (s (tick_of old)) old) (sym is.spawn.0)
        (ran t tail (s (tick_of old)) (round_at main old) old is.spawned (event.Act act.Spawn) (report.Reply (reply.Task main)) is.behind (makes (tick_of old) main) is.spawn.1
        (subst (λ g. Good t tail (stage.Round main g) is.spawned is.behind) same rest_of))

    refused : (old new : Machine) (part rest : List Entry) (r : Reply) → pair_mark (event.Act act.Spawn) (report.Reply r) ≡ mark.NoPlace → part ≡ Ran (event.Act act.Spawn) (report.Reply r) ∷ rest → Step old (event.Act act.Spawn) (report.Reply r) new → Good t tail (start_at new) new rest → Good t tail (s (tick_of old)) old part
    refused old new part rest r marked is step good =
        let same : tick_of new ≡ tick_of old = act_keeps old new act.Spawn (report.Reply r) step in
        subst (Good t tail (s (tick_of old)) old) (sym is)
        (ran t tail (s (tick_of old)) (start_at old) old new (event.Act act.Spawn) (report.Reply r) rest (ap (next_stage t (s (tick_of old))) marked ∙ refuses (tick_of old)) step
        (subst (λ g. Good t tail (stage.Start g) new rest) same good))

    call : (units : ℕ) (answer : Result ℕ RunError) (old new : Machine) (part rest : List Entry) → Blocked t units answer old part new rest
        → (answer ≡ Err error.Memory → Good t tail (s (tick_of new)) new rest) → After answer new rest → Good t tail (s (tick_of old)) old part
    call units (Ok output) old new part rest (main, is) none good = runs_main main units (Ok output) old new part rest (λ e. cc) is good
    call units (Err error.Turns) old new part rest (main, is) none good = runs_main main units (Err error.Turns) old new part rest (λ e. cc) is good
    call units (Err error.Driver) old new part rest (main, is) none good = runs_main main units (Err error.Driver) old new part rest (λ e. cc) is good
    call units (Err error.AtCapacity) old new part rest (is, step) none good = refused old new part rest (reply.Refused refusal.AtCapacity) refl is step good
    call units (Err error.Memory) old new part rest (inl is) none good = stays t tail (λ m xs. Good t tail (s (tick_of m)) m xs) old new part rest is (none refl)
    call units (Err error.Memory) old new part rest (inr (main, is)) none good = runs_main main units (Err error.Memory) old new part rest (λ e. cc) is good

  one_call : (units : ℕ) (answer : Result ℕ RunError) (old new : Machine) (part rest : List Entry) → Blocked t units answer old part new rest → (answer ≡ Err error.Memory → Between new rest) → After answer new rest → Between old part
  one_call units answer old new part rest is both good = (
    call (λ g. stage.Start g) (λ g main. refl) (λ g. refl) units answer old new part rest is (λ e. (both e).0) good,
    λ output. call (λ g. stage.Dropped output g) (λ g main. refl) (λ g. refl) units answer old new part rest is (λ e. (both e).1 output) good,
  )

-- ---- calls, one after the other

nothing_left : (t : Bool) (m : Machine) → Between t [] m []
nothing_left t m = (record { run = (m, refl); ordered = λ n. refl; in_range = tt }, λ output. record { run = (m, refl); ordered = λ n. refl; in_range = tt })

all_calls : (t : Bool) (calls : List Call) (old new : Machine) (part rest : List Entry) → Calls t calls old part new rest → Between t [] new rest → Between t [] old part
all_calls t [] old new part rest none both = stays t [] (Between t []) old new part rest none both
all_calls t (c ∷ calls) old new part rest (mid, (left, (first, others))) both =
    let then : Between t [] mid left = all_calls t calls mid new left rest others both in
    one_call t [] c.turns c.answer old mid part left first (λ e. then) (after t [] c.answer mid left then)

-- the line of the output behind the last call
output_line : (t : Bool) (answer : Result ℕ RunError) (m : Machine) → After t (output_mark answer) answer m []
output_line t (Ok output) m = record {
  in_range = tt;
  run = (m, refl);
  ordered = λ n. ap (λ b. stop_or (n, dropped_at (Some output) m) (cond b (Some (start_at m)) None) (λ later. stop_at t (n + 1) later [])) (eq-eqb output output refl);
}
output_line t (Err e) m = after t [] (Err e) m [] (nothing_left t m)

no_memory : (output : ℕ) → Ok output ≡ Err error.Memory → ⊥
no_memory output e = cc

last_both : (t : Bool) (answer : Result ℕ RunError) (m : Machine) → answer ≡ Err error.Memory → Between t (output_mark answer) m []
last_both t (Ok output) m is = absurd (no_memory output is)
last_both t (Err e) m is = nothing_left t m

with_output : (t : Bool) (calls : List Call) (old new : Machine) (part : List Entry) → Calls t calls old part new [] → Between t (last_mark calls) old part
with_output t [] old new part none = stays t [] (Between t []) old new part [] none (nothing_left t new)
with_output t (c ∷ []) old new part (mid, (left, (first, (none, same)))) =
    one_call t (output_mark c.answer) c.turns c.answer old mid part left first
    (λ e. subst (Between t (output_mark c.answer) mid) (sym none) (last_both t c.answer mid e))
    (subst (After t (output_mark c.answer) c.answer mid) (sym none) (output_line t c.answer mid))
with_output t (c ∷ next ∷ calls) old new part (mid, (left, (first, others))) =
    let then : Between t (last_mark (next ∷ calls)) mid left = with_output t (next ∷ calls) mid new left others in
    one_call t (last_mark (next ∷ calls)) c.turns c.answer old mid part left first (λ e. then) (after t (last_mark (next ∷ calls)) c.answer mid left then)

-- ---- the verdict

later_none : (x : Option (ℕ × Stage)) → later_of x None ≡ None
later_none None = refl
later_none (Some x) = refl

in_order : (t : Bool) (marks : List Mark) → ((n : ℕ) → stop_at t n (stage.Start 0) marks ≡ None) → IsOrdered marks
in_order true marks none = ap (λ x. later_of x (misplaced_on false marks)) (none 1)
in_order false marks none = ap (λ x. later_of (misplaced_on true marks) x) (none 1) ∙ later_none (misplaced_on true marks)

pub whole_calls_pass : WholeCallsPass
whole_calls_pass limits strategy has_timers calls part new are =
    let start : Machine = start_machine limits strategy in
    let plain : Passed has_timers [] (stage.Start 0) start part = (all_calls has_timers calls start new part [] are (nothing_left has_timers new)).0 in
    let with_line : Passed has_timers (last_mark calls) (stage.Start 0) start part = (with_output has_timers calls start new part are).0 in
    record {
      run = plain.run;
      ordered = subst IsOrdered (append-nil (map mark_of part)) (in_order has_timers (map mark_of part ++ []) plain.ordered);
      in_range = plain.in_range;
      ordered_with_output = in_order has_timers (map mark_of part ++ last_mark calls) with_line.ordered;
    }
