-- One poll, line by line.
use Rattle.std.proofs.Common.{◌≡◌, ◌<◌, ◌≤◌, ℕ, ◌+◌, ◌-◌, ◌*◌, Bool, true, false, [], ◌∷◌, Option, Some, None, refl, ap, sym, ◌∙◌, subst, arith}
use Rattle.std.specs.Prelude.{⊤}
use Rattle.mono_model.specs.declared.poll.Poll.TheVariants.{Ready, Pending}
use Rattle.mono_machine.specs.Turns.{after_steps}
use Rattle.mono_time.specs.Instants.{nanos_of}
use Rattle.mono_rt.specs.Reaches.{Reaches, reaches_on}
use Rattle.mono_rt.specs.declared.contexts.Cx.{Cx}
use Rattle.mono_run.specs.declared.scripts.body.BodyLine.{BodyLine}
use Rattle.mono_run.specs.ScriptTurns.{Place, place, turn_of, turn_from, stops_at, with_handle, sleep_steps}
use Rattle.mono_run.specs.TaskStages.{body_len}
use Rattle.mono_run.specs.TaskPolls.{HasKept, Stands, RunsLines, PollsTask, GrewAtMost, Fits, kind_of, left_of, output_of, place_of}
use Rattle.std.specs.Prelude.{IfNone}
use Rattle.mono_run.specs.Segments.{Rest, Goes, if_over, at_task, behind_line, behind_step}
use Rattle.mono_run.specs.declared.tasks.Next.{Next}
use Rattle.mono_run.specs.declared.tasks.Next.TheVariants as next
use Rattle.mono_run.specs.declared.tasks.Own.{Own}
use Rattle.mono_run.specs.declared.tasks.ScriptTask.{ScriptTask}
use Rattle.mono_run.proofs.SegmentLemmas.{kept_before, goes_on, goes_to, ends_with}
use Rattle.mono_run.proofs.ScriptLineLemmas.{slept}

abbrev pub with_own : ScriptTask → Own → ScriptTask
with_own task own = record { kinds = task.kinds; kind = task.kind; at = task.at; own = own }

-- none of a list that has none
pub none_left : {A : Type 0} (r : Option A) (Q : Type 0) → ((x : A) → r ≡ Some x → ⊥) → IfNone r Q → Q
none_left None Q never q = q
none_left (Some x) Q never q = absurd (never x refl)

-- the task after one line of its own, at this place
abbrev pub at_line : ScriptTask → ℕ → Own → ScriptTask
at_line task at own = record { kinds = task.kinds; kind = task.kind; at = at; own = own }

abbrev pub line_after : Next → ScriptTask → ℕ
line_after next.GoesOn task = task.at + 1
line_after next.Stops task = task.at + 1
line_after next.Stays task = task.at

module _ {P U J A V : Type 0} where
  -- one line of a task, as one step of it
  pub step_line : (maker task : ScriptTask) (me t : ℕ) (line : BodyLine) (own : Own) (r : Next) (d e : Cx ScriptTask ℕ P U ⊤ J A V) → left_of (kind_of task) task.at ≡ line ∷ left_of (kind_of task) (task.at + 1)
      → Goes maker (turn_from (line ∷ left_of (kind_of task) (task.at + 1)) me t (output_of (kind_of task)) task.own.tasks task.own.jobs) (behind_line r line (left_of (kind_of task) (task.at + 1)) me t (output_of (kind_of task)) own) d e
      → Goes maker (at_task me t task) (behind_step r me t (at_line task (line_after r task) own)) d e
  step_line maker task me t line own r d e is goes =
      subst (λ l. Goes maker (turn_from l me t (output_of (kind_of task)) task.own.tasks task.own.jobs) (behind_step r me t (at_line task (line_after r task) own)) d e) (sym is) (goes_to maker _ _ _ d e (same_rest r) goes)
    where
      same_rest : (r : Next) → behind_line r line (left_of (kind_of task) (task.at + 1)) me t (output_of (kind_of task)) own ≡ behind_step r me t (at_line task (line_after r task) own)
      same_rest next.GoesOn = refl
      same_rest next.Stops = refl
      same_rest next.Stays = ap (λ l. stops_at (place l (output_of (kind_of task)) own.tasks own.jobs own.sleeping)) (sym is)

module _ {P U J A V : Type 0} where
  pub stands_on : (c d : Cx ScriptTask ℕ P U ⊤ J A V) → Reaches (λ n. n) c d → Stands c.parts → Stands d.parts
  stands_on c d reached st = (after_steps c.parts.me reached.parts.steps st.0, reached.parts.leads st.0 st.1)

  -- Between two lines, after those before.
  pub record InLines (task : ScriptTask) (c : Cx ScriptTask ℕ P U ⊤ J A V) (now : ScriptTask) (d : Cx ScriptTask ℕ P U ⊤ J A V) : Type 0 where
    pub reached : Reaches (λ n. n) c d
    pub kinds : now.kinds ≡ task.kinds
    pub kind : now.kind ≡ task.kind
    pub rests : now.own.sleeping ≡ None
    pub fits : Fits task → Fits now
    -- four acts for each line so far, and two for the sleep before them
    pub few : GrewAtMost (2 + 4 * (now.at - task.at)) c.parts.acts d.parts.acts
    pub begun : task.at ≤ now.at
    pub within : now.at - task.at ≤ 127
    pub goes : Fits task → Stands c.parts → HasKept d.parts → Goes task (turn_of (place_of task) c.parts.me (nanos_of c.parts.now)) (at_task c.parts.me (nanos_of c.parts.now) now) c d

  module _ (task : ScriptTask) (c : Cx ScriptTask ℕ P U ⊤ J A V) where
    abbrev Begun : Bool → Cx ScriptTask ℕ P U ⊤ J A V → Type 0
    Begun over d = (maker : ScriptTask) (here : Place) (f : Rest) → HasKept d.parts → Goes maker (with_handle task.own.sleeping (λ s q. sleep_steps s here f q) f) (if_over over f here) c d

    -- the lines of the task, from its place on
    abbrev lines_from : Own → Rest
    lines_from own = turn_from (left_of (kind_of task) task.at) c.parts.me (nanos_of c.parts.now) (output_of (kind_of task)) own.tasks own.jobs

    pub begins_lines : (own : Own) (d : Cx ScriptTask ℕ P U ⊤ J A V) (over : Bool) → over ≡ true → own ≡ slept task.own own.sleeping → (over ≡ true → own.sleeping ≡ None) → Reaches (λ n. n) c d → GrewAtMost 2 c.parts.acts d.parts.acts → Begun over d → InLines task c (with_own task own) d
    begins_lines own d over ended is rests reached few goes = record {
      reached = reached;
      kinds = refl;
      kind = refl;
      rests = rests ended;
      fits = λ f. subst (λ x. Fits (with_own task x)) (sym is) (record { short = f.short; tasks = f.tasks; jobs = f.jobs });
      few = omega (arith, few);
      begun = omega arith;
      within = omega arith;
      goes = λ f st had.
          subst (λ x. Goes task (turn_of (place_of task) c.parts.me (nanos_of c.parts.now)) (lines_from x) c d) (sym is)
          (subst (λ b. Goes task (turn_of (place_of task) c.parts.me (nanos_of c.parts.now)) (if_over b (lines_from task.own) (place_of task)) c d) ended (goes task (place_of task) (lines_from task.own) had));
    }

    -- the sleep that the task waits for has not elapsed
    pub waits_again : (own : Own) (d : Cx ScriptTask ℕ P U ⊤ J A V) (over : Bool) → over ≡ false → own ≡ slept task.own own.sleeping → (over ≡ false → own.sleeping ≡ task.own.sleeping) → GrewAtMost 2 c.parts.acts d.parts.acts → Begun over d → PollsTask task c Pending (with_own task own) d
    waits_again own d over early is still few goes = record {
      few = omega (arith, few);
      lines = λ f st had.
          let same : own ≡ task.own = is ∙ ap (slept task.own) (still early) in
          subst (λ x. RunsLines task c Pending (with_own task x) d) (sym same)
          (ends_with task task (stops_at (place_of task)) Pending c d refl refl refl f
          (subst (λ b. Goes task (turn_of (place_of task) c.parts.me (nanos_of c.parts.now)) (if_over b (lines_from task.own) (place_of task)) c d) early (goes task (place_of task) (lines_from task.own) had)));
    }

    module _ (now : ScriptTask) (d : Cx ScriptTask ℕ P U ⊤ J A V) (line : BodyLine) (after : ScriptTask) (e : Cx ScriptTask ℕ P U ⊤ J A V) (r : Next) (so_far : InLines task c now d) (inside : now.at < body_len now)
        (is_line : left_of (kind_of now) now.at ≡ line ∷ left_of (kind_of now) (now.at + 1)) (kinds : after.kinds ≡ now.kinds) (kind : after.kind ≡ now.kind) (fits : Fits now → Fits after) (early : now.at < 127) (few : GrewAtMost 4 d.parts.acts e.parts.acts) (reached : Reaches (λ n. n) d e)
        (goes : (maker : ScriptTask) (me t : ℕ) → maker.kinds ≡ now.kinds → me ≡ d.parts.me → t ≡ nanos_of d.parts.now → now.at < 127 → Fits now → now.own.sleeping ≡ None → left_of (kind_of now) now.at ≡ line ∷ left_of (kind_of now) (now.at + 1)
        → Stands d.parts → HasKept e.parts → Goes maker (at_task me t now) (behind_step r me t after) d e) where
      short : Fits task → now.at < 127
      short f = omega (arith, inside, (so_far.fits f).short now.kind)

      one_step : Fits task → Stands c.parts → HasKept e.parts → Goes task (turn_of (place_of task) c.parts.me (nanos_of c.parts.now)) (behind_step r c.parts.me (nanos_of c.parts.now) after) c e
      one_step f st had =
          let before = kept_before d e reached had in
          goes_on task _ (at_task c.parts.me (nanos_of c.parts.now) now) _ c d e (so_far.goes f st before)
          (goes task c.parts.me (nanos_of c.parts.now) (sym so_far.kinds) (sym so_far.reached.parts.same_me) (sym (ap nanos_of so_far.reached.parts.same_now)) (short f) (so_far.fits f) so_far.rests is_line (stands_on c d so_far.reached st) had)

      pub next_line : r ≡ next.GoesOn → (r ≡ next.GoesOn → after.at ≡ now.at + 1) → (now.own.sleeping ≡ None → r ≡ next.GoesOn → after.own.sleeping ≡ None) → InLines task c after e
      next_line on moves rests = record {
        reached = reaches_on (λ n. n) c d e so_far.reached reached;
        kinds = kinds ∙ so_far.kinds;
        kind = kind ∙ so_far.kind;
        rests = rests so_far.rests on;
        fits = λ f. fits (so_far.fits f);
        few = omega (arith, few, so_far.few, so_far.begun, moves on);
        begun = omega (arith, so_far.begun, moves on);
        within = omega (arith, early, moves on);
        goes = λ f st had. subst (λ x. Goes task (turn_of (place_of task) c.parts.me (nanos_of c.parts.now)) (behind_step x c.parts.me (nanos_of c.parts.now) after) c e) on (one_step f st had);
      }

      stops : (x : Next) → r ≡ x → behind_step x c.parts.me (nanos_of c.parts.now) after ≡ stops_at (place_of after) → PollsTask task c Pending after e
      stops x is stop = record {
        few = omega (arith, few, so_far.few, so_far.begun, early);
        lines = λ f st had.
            ends_with task after (stops_at (place_of after)) Pending c e refl (kinds ∙ so_far.kinds) (kind ∙ so_far.kind) (fits (so_far.fits f))
            (subst (λ g. Goes task (turn_of (place_of task) c.parts.me (nanos_of c.parts.now)) g c e) (ap (λ x. behind_step x c.parts.me (nanos_of c.parts.now) after) is ∙ stop) (one_step f st had));
      }

      pub stops_behind : r ≡ next.Stops → PollsTask task c Pending after e
      stops_behind is = stops next.Stops is refl

      pub stays_there : r ≡ next.Stays → PollsTask task c Pending after e
      stays_there is = stops next.Stays is refl

    -- no line is left
    pub last_line : (now : ScriptTask) (d : Cx ScriptTask ℕ P U ⊤ J A V) (output : ℕ) → InLines task c now d → left_of (kind_of now) now.at ≡ [] → output ≡ output_of (kind_of now) → PollsTask task c (Ready output) now d
    last_line now d output so_far none is = record {
      few = omega (arith, so_far.few, so_far.within);
      lines = λ f st had.
          ends_with task now (at_task c.parts.me (nanos_of c.parts.now) now) (Ready output) c d
          (rw (none, is) refl)
          so_far.kinds so_far.kind (so_far.fits f) (so_far.goes f st had);
    }
