-- How many tasks a turn makes, by the script's lines and by the machine, and their kinds.
use Rattle.std.proofs.Common.{◌≡◌, ◌<◌, ◌≤◌, ◌+◌, ℕ, true, false, Bool, cond, List, [], ◌∷◌, ◌++◌, length, Some, None, Option, refl, ap, sym, subst, ◌∙◌, arith}
use Rattle.std.specs.Prelude.{⊤, nat_lt, slice_index_or}
use Rattle.std.proofs.lemmas.List.{length-append}
use Rattle.mono_model.specs.Ticks.{max_nanos}
use Rattle.mono_model.specs.Table.{value_at, next_number, is_full}
use Rattle.mono_model.specs.Tasks.{Tasks, woken_if_any}
use Rattle.mono_model.specs.Sleeps.{Sleep}
use Rattle.mono_model.specs.SleepActs as sleep
use Rattle.mono_model.specs.SleepAnswers.{waker_in}
use Rattle.mono_model.proofs.ValidTaskLemmas.{next_number-woken, next_number-woken_if_any, next_number-begun, next_number-paused, next_number-completed}
use Rattle.mono_machine.proofs.ValidJoinLemmas.{next_number-join_dropped, next_number-joined}
use Rattle.mono_machine.specs.Machine.{Machine}
use Rattle.mono_machine.specs.Acts.{Outcome, answered, refused, for_sleep, act_outcome, query_outcome, step_outcome, block}
use Rattle.mono_machine.specs.Turns.{replies_of, after_steps, after_end, after_begin}
use Rattle.mono_machine.specs.declared.events.Act.{Act}
use Rattle.mono_machine.specs.declared.events.Act.TheVariants as act
use Rattle.mono_machine.specs.declared.events.Query.{Query}
use Rattle.mono_machine.specs.declared.events.Query.TheVariants as query
use Rattle.mono_machine.specs.declared.events.TurnStep.{TurnStep}
use Rattle.mono_machine.specs.declared.events.TurnStep.TheVariants as step
use Rattle.mono_machine.specs.declared.events.End.{End}
use Rattle.mono_machine.specs.declared.events.End.TheVariants as end
use Rattle.mono_machine.specs.declared.events.Reply.{Reply}
use Rattle.mono_machine.specs.declared.events.Reply.TheVariants as reply
use Rattle.mono_machine.specs.declared.events.Refusal.TheVariants as refusal
use Rattle.mono_machine.specs.declared.events.Blocking.{Blocking}
use Rattle.mono_machine.specs.declared.events.Blocking.TheVariants as blocking
use Rattle.mono_time.specs.Futures.{deadline_after}
use Rattle.mono_run.specs.ScriptTurns.{Place, place, Turned, with_step, stops_at, acted, awaited, with_handle, asked, none_made, if_made, is_pending, task_in, sleep_in, job_in, turn_from, turn_of, sleep_steps, own_steps, own_replies, ended_job, is_seen}
use Rattle.mono_run.specs.Script.{Kind, MayStand, AllMayStand, AreSoundKinds}
use Rattle.mono_run.specs.declared.scripts.body.BodyLine.{BodyLine}
use Rattle.mono_run.specs.declared.scripts.body.BodyLine.TheVariants as body

abbrev pub is_spawn : TurnStep → Bool
is_spawn (step.Act act.Spawn) = true
is_spawn other = false

abbrev pub is_task : Reply → ℕ
is_task (reply.Task t) = 1
is_task other = 0

-- how many tasks a step made that was answered so
abbrev pub made_by : TurnStep → Reply → ℕ
made_by s r = cond (is_spawn s) (is_task r) 0

abbrev pub made_in : List TurnStep → List Reply → ℕ
made_in [] rs = 0
made_in (s ∷ steps) [] = 0
made_in (s ∷ steps) (r ∷ rs) = made_by s r + made_in steps rs

no_replies : (steps : List TurnStep) → made_in steps [] ≡ 0
no_replies [] = refl
no_replies (s ∷ steps) = refl

-- the end of a job makes none
no_task : (s : TurnStep) (r : Reply) (steps : List TurnStep) → is_seen (ended_job s) steps ≡ true → made_by s r ≡ 0
no_task (step.Act act.Spawn) r steps is = absurd (false-true is)
  where
    false-true : false ≡ true → ⊥
    false-true e = cc
no_task (step.Act (act.Wake t)) r steps is = refl
no_task (step.Act (act.NewSleep n)) r steps is = refl
no_task (step.Act (act.Reset s n)) r steps is = refl
no_task (step.Act (act.DropSleep s)) r steps is = refl
no_task (step.Act (act.SleepElapsed s)) r steps is = refl
no_task (step.Act (act.DropJoin t)) r steps is = refl
no_task (step.Act (act.Block o)) r steps is = refl
no_task (step.Act (act.DropJob j)) r steps is = refl
no_task (step.Act (act.Finished t)) r steps is = refl
no_task (step.Act (act.JobFinished j)) r steps is = refl
no_task (step.Act (act.JobEnd j h)) r steps is = refl
no_task (step.Query q) r steps is = refl

by_end : (b : Bool) (s : TurnStep) (r : Reply) (steps own : List TurnStep) (rs kept : List Reply) → is_seen (ended_job s) steps ≡ b → made_in own kept ≡ made_in steps rs → made_in (cond b own (s ∷ own)) (cond b kept (r ∷ kept)) ≡ made_by s r + made_in steps rs
by_end true s r steps own rs kept is same = omega (arith, same, no_task s r steps is)
by_end false s r steps own rs kept is same = ap (λ n. made_by s r + n) same

pub own_made : (steps : List TurnStep) (rs : List Reply) → made_in (own_steps steps) (own_replies steps rs) ≡ made_in steps rs
own_made [] rs = refl
own_made (s ∷ steps) [] = no_replies (own_steps (s ∷ steps))
own_made (s ∷ steps) (r ∷ rs) = by_end (is_seen (ended_job s) steps) s r steps (own_steps steps) rs (own_replies steps rs) refl (own_made steps rs)

-- by the machine
abbrev pub next : Machine → ℕ
next x = next_number x.tasks.table

module _ (m : Machine) where
  same_if : (b : Bool) (x y : Outcome) → next x.machine ≡ next m → next y.machine ≡ next m → next (cond b x y).machine ≡ next m
  same_if true x y at_true at_false = at_true
  same_if false x y at_true at_false = at_false

  same_sleep : (v : Option Sleep) (outcome : Outcome) → next outcome.machine ≡ next m → next (for_sleep v m outcome).machine ≡ next m
  same_sleep None outcome is = refl
  same_sleep (Some value) outcome is = is

  same_block : (b : Blocking) (output : ℕ) → next (block b output m).machine ≡ next m
  same_block blocking.Attached output = refl
  same_block blocking.ExecuteLocal output = refl
  same_block blocking.Panic output = refl

  one_more : (b : Bool) (x y : Outcome) → is_task x.reply ≡ 0 → next x.machine ≡ next m → is_task y.reply ≡ 1 → next y.machine ≡ next m + 1 → next (cond b x y).machine ≡ next m + is_task (cond b x y).reply
  one_more true x y none same one more = rw none (omega (arith, same))
  one_more false x y none same one more = rw one more

  none_more : (n : ℕ) → n ≡ next m → n ≡ next m + 0
  none_more n is = omega (arith, is)

  pub act_made : (a : Act) → next (act_outcome a m).machine ≡ next m + made_by (step.Act a) (act_outcome a m).reply
  act_made act.Spawn = one_more (is_full m.tasks.table m.tasks.limit) _ _ refl refl refl (rw length-append (omega arith))
  act_made (act.Wake u) = none_more _ (next_number-woken m.tasks u)
  act_made (act.NewSleep n) = none_more _ (same_if (is_full m.sleeps.table m.sleeps.limit) _ _ refl (same_if (nat_lt max_nanos n) _ _ refl refl))
  act_made (act.Reset s n) = none_more _ (same_sleep (value_at m.sleeps.table s) _ (same_if (nat_lt max_nanos n) _ _ refl (next_number-woken_if_any m.tasks (waker_in (sleep.reset_answer m.sleeps s n)))))
  act_made (act.DropSleep s) = none_more _ refl
  act_made (act.SleepElapsed s) = none_more _ refl
  act_made (act.DropJoin u) = none_more _ (next_number-join_dropped m.tasks u)
  act_made (act.Block output) = none_more _ (same_if (is_full m.jobs.table m.jobs.limit) _ _ refl (same_block m.strategy output))
  act_made (act.DropJob j) = none_more _ refl
  act_made (act.Finished u) = none_more _ refl
  act_made (act.JobFinished j) = none_more _ refl
  act_made (act.JobEnd j h) = none_more _ refl

  query_made : (me : ℕ) (q : Query) → next (query_outcome me q m).machine ≡ next m
  query_made me (query.Sleep s) = refl
  query_made me (query.Join u) = next_number-joined m.tasks u me
  query_made me (query.Job j) = refl

  step_made : (me : ℕ) (s : TurnStep) → next (step_outcome me s m).machine ≡ next m + made_by s (step_outcome me s m).reply
  step_made me (step.Act a) = act_made a
  step_made me (step.Query q) = none_more _ (query_made me q)

pub steps_made : (me : ℕ) (steps : List TurnStep) (m : Machine) → next_number (after_steps me steps m).tasks.table ≡ next_number m.tasks.table + made_in steps (replies_of me steps m)
steps_made me [] m = omega arith
steps_made me (s ∷ steps) m = omega (arith, step_made m me s, steps_made me steps (step_outcome me s m).machine)

pub end_made : (me : ℕ) (e : End) (m : Machine) → next_number (after_end e me m).tasks.table ≡ next_number m.tasks.table
end_made me end.Pending m = next_number-paused (value_at m.tasks.table me) m.tasks me
end_made me (end.Ready output) m = next_number-completed (value_at m.tasks.table me) m.tasks me output

pub turn_made : (t : ℕ) (rest : List ℕ) (steps : List TurnStep) (e : End) (m : Machine)
    → next_number (after_end e t (after_steps t steps (after_begin t rest m))).tasks.table ≡ next_number m.tasks.table + made_in steps (replies_of t steps (after_begin t rest m))
turn_made t rest steps e m =
    end_made t e (after_steps t steps (after_begin t rest m)) ∙ steps_made t steps (after_begin t rest m) ∙ ap (λ n. n + made_in steps (replies_of t steps (after_begin t rest m))) (next_number-begun m.tasks t rest)

-- by the lines: the recorded number, and of existing kinds
abbrev pub AllBelow : ℕ → List ℕ → Type 0
AllBelow n [] = ⊤
AllBelow n (k ∷ ks) = (k < n) × AllBelow n ks

abbrev pub MakesBelow : ℕ → BodyLine → Type 0
MakesBelow n (body.Spawn k) = k < n
MakesBelow n (body.Join i) = ⊤
MakesBelow n (body.Detach i) = ⊤
MakesBelow n (body.AwaitSleep t) = ⊤
MakesBelow n (body.Block o) = ⊤
MakesBelow n (body.AwaitJob i) = ⊤
MakesBelow n (body.DropJob i) = ⊤
MakesBelow n body.Yield = ⊤

-- the lines make tasks of the first n kinds alone
abbrev pub MakeBelow : ℕ → List BodyLine → Type 0
MakeBelow n [] = ⊤
MakeBelow n (l ∷ ls) = MakesBelow n l × MakeBelow n ls

pub record Makes (n : ℕ) (rs : List Reply) (turned : Turned) : Type 0 where
  pub count : length turned.made ≡ made_in turned.steps rs
  pub below : AllBelow n turned.made

abbrev pub MakesIf : ℕ → List Reply → Option Turned → Type 0
MakesIf n rs None = ⊤
MakesIf n rs (Some turned) = Makes n rs turned

all_below : (n : ℕ) (xs ys : List ℕ) → AllBelow n xs → AllBelow n ys → AllBelow n (xs ++ ys)
all_below n [] ys p q = q
all_below n (x ∷ xs) ys p q = (p.0, all_below n xs ys p.1 q)

module _ (n : ℕ) where
  step_makes : (s : TurnStep) (made : List ℕ) (r : Reply) (rs : List Reply) (o : Option Turned) → length made ≡ made_by s r → AllBelow n made → MakesIf n rs o → MakesIf n (r ∷ rs) (with_step s made o)
  step_makes s made r rs None is below makes = tt
  step_makes s made r rs (Some t) is below makes = record { count = rw length-append (omega (arith, is, makes.count)); below = all_below n made t.made below makes.below }

  stop_makes : (here : Place) (rs : List Reply) → MakesIf n rs (stops_at here rs)
  stop_makes here [] = record { count = refl; below = tt }
  stop_makes here (r ∷ rs) = tt

  acted_makes : (s : TurnStep) (f : List Reply → Option Turned) (rs : List Reply) → is_spawn s ≡ false → ((q : List Reply) → MakesIf n q (f q)) → MakesIf n rs (acted s f rs)
  acted_makes s f [] none is = tt
  acted_makes s f (r ∷ rs) none is = step_makes s [] r rs (f rs) (sym (ap (λ b. cond b (is_task r) 0) none)) tt (is rs)

  awaited_makes : (poll last : TurnStep) (here : Place) (f : List Reply → Option Turned) (rs : List Reply) → is_spawn poll ≡ false → is_spawn last ≡ false → ((q : List Reply) → MakesIf n q (f q)) → MakesIf n rs (awaited poll last here f rs)
  awaited_makes poll last here f [] none done is = tt
  awaited_makes poll last here f (r ∷ rs) none done is = step_makes poll [] r rs _ (sym (ap (λ b. cond b (is_task r) 0) none)) tt (by_reply (is_pending r))
    where
      by_reply : (b : Bool) → MakesIf n rs (cond b (stops_at here rs) (acted last f rs))
      by_reply true = stop_makes here rs
      by_reply false = acted_makes last f rs done is

  asked_makes : (s : TurnStep) (number : Reply → Option ℕ) (f : Option ℕ → List Reply → Option Turned) (rs : List Reply) → is_spawn s ≡ false → ((h : Option ℕ) (q : List Reply) → MakesIf n q (f h q)) → MakesIf n rs (asked s number none_made f rs)
  asked_makes s number f [] none is = tt
  asked_makes s number f (r ∷ rs) none is = step_makes s [] r rs _ (sym (ap (λ b. cond b (is_task r) 0) none)) tt (is (number r) rs)

  handle_makes : (h : Option ℕ) (f : ℕ → List Reply → Option Turned) (other : List Reply → Option Turned) (rs : List Reply) → ((x : ℕ) (q : List Reply) → MakesIf n q (f x q)) → ((q : List Reply) → MakesIf n q (other q)) → MakesIf n rs (with_handle h f other rs)
  handle_makes None f other rs is none = none rs
  handle_makes (Some x) f other rs is none = is x rs

  one_made : (k : ℕ) (r : Reply) → length (if_made (task_in r) k) ≡ is_task r
  one_made k (reply.Task t) = refl
  one_made k r = refl

  made_below : (k : ℕ) (h : Option ℕ) → k < n → AllBelow n (if_made h k)
  made_below k None is = tt
  made_below k (Some t) is = (is, tt)

  spawn_makes : (k : ℕ) (f : Option ℕ → List Reply → Option Turned) (rs : List Reply) → k < n → ((h : Option ℕ) (q : List Reply) → MakesIf n q (f h q)) → MakesIf n rs (asked (step.Act act.Spawn) task_in (λ h. if_made h k) f rs)
  spawn_makes k f [] below is = tt
  spawn_makes k f (r ∷ rs) below is = step_makes (step.Act act.Spawn) (if_made (task_in r) k) r rs _ (one_made k r) (made_below k (task_in r) below) (is (task_in r) rs)

  pub lines_make : (lines : List BodyLine) (me t o : ℕ) (tasks jobs : List (Option ℕ)) (rs : List Reply) → MakeBelow n lines → MakesIf n rs (turn_from lines me t o tasks jobs rs)
  lines_make [] me t o tasks jobs [] below = record { count = refl; below = tt }
  lines_make [] me t o tasks jobs (r ∷ rs) below = tt
  lines_make (body.Spawn k ∷ left) me t o tasks jobs rs below = spawn_makes k _ rs below.0 (λ h q. lines_make left me t o (tasks ++ h ∷ []) jobs q below.1)
  lines_make (body.Join i ∷ left) me t o tasks jobs rs below = handle_makes (slice_index_or tasks i None) _ _ rs (λ h q. awaited_makes _ _ _ _ q refl refl (λ p. lines_make left me t o tasks jobs p below.1)) (λ q. lines_make left me t o tasks jobs q below.1)
  lines_make (body.Detach i ∷ left) me t o tasks jobs rs below = handle_makes (slice_index_or tasks i None) _ _ rs (λ h q. acted_makes _ _ q refl (λ p. lines_make left me t o tasks jobs p below.1)) (λ q. lines_make left me t o tasks jobs q below.1)
  lines_make (body.AwaitSleep w ∷ left) me t o tasks jobs rs below =
      let f : List Reply → Option Turned = turn_from left me t o tasks jobs in
      let sleeps : ℕ → List Reply → Option Turned = λ s u. sleep_steps s (place left o tasks jobs (Some s)) f u in
      handle_makes (deadline_after t w) (λ d q. asked (step.Act (act.NewSleep d)) sleep_in none_made (λ h p. with_handle h sleeps f p) q) f rs
      (λ d q. asked_makes (step.Act (act.NewSleep d)) sleep_in (λ h p. with_handle h sleeps f p) q refl
      (λ h p. handle_makes h sleeps f p (λ s u. awaited_makes (step.Query (query.Sleep s)) (step.Act (act.DropSleep s)) (place left o tasks jobs (Some s)) f u refl refl (λ v. lines_make left me t o tasks jobs v below.1)) (λ u. lines_make left me t o tasks jobs u below.1)))
      (λ q. lines_make left me t o tasks jobs q below.1)
  lines_make (body.Block w ∷ left) me t o tasks jobs rs below = asked_makes _ _ _ rs refl (λ h q. lines_make left me t o tasks (jobs ++ h ∷ []) q below.1)
  lines_make (body.AwaitJob i ∷ left) me t o tasks jobs rs below = handle_makes (slice_index_or jobs i None) _ _ rs (λ h q. awaited_makes _ _ _ _ q refl refl (λ p. lines_make left me t o tasks jobs p below.1)) (λ q. lines_make left me t o tasks jobs q below.1)
  lines_make (body.DropJob i ∷ left) me t o tasks jobs rs below = handle_makes (slice_index_or jobs i None) _ _ rs (λ h q. acted_makes _ _ q refl (λ p. lines_make left me t o tasks jobs p below.1)) (λ q. lines_make left me t o tasks jobs q below.1)
  lines_make (body.Yield ∷ left) me t o tasks jobs rs below = acted_makes _ _ rs refl (λ q. stop_makes _ q)

  pub turn_makes : (p : Place) (me t : ℕ) (rs : List Reply) → MakeBelow n p.left → MakesIf n rs (turn_of p me t rs)
  turn_makes p me t rs below = handle_makes p.sleeping _ _ rs (λ s q. awaited_makes _ _ _ _ q refl refl (λ u. lines_make p.left me t p.output p.tasks p.jobs u below)) (λ q. lines_make p.left me t p.output p.tasks p.jobs q below)

-- a sound script makes tasks of its kinds alone
abbrev pub KindsBelow : ℕ → List Kind → Type 0
KindsBelow n [] = ⊤
KindsBelow n (k ∷ ks) = MakeBelow n k.body × KindsBelow n ks

line_below : (n : ℕ) (before : List BodyLine) (l : BodyLine) → MayStand n before l → MakesBelow n l
line_below n before (body.Spawn k) may = may.1
line_below n before (body.Join i) may = tt
line_below n before (body.Detach i) may = tt
line_below n before (body.AwaitSleep t) may = tt
line_below n before (body.Block o) may = tt
line_below n before (body.AwaitJob i) may = tt
line_below n before (body.DropJob i) may = tt
line_below n before body.Yield may = tt

lines_below : (n : ℕ) (before lines : List BodyLine) → AllMayStand n before lines → MakeBelow n lines
lines_below n before [] may = tt
lines_below n before (l ∷ ls) may = (line_below n before l may.0, lines_below n (before ++ l ∷ []) ls may.1)

pub sound_below : (n : ℕ) (ks : List Kind) → AreSoundKinds n ks → KindsBelow n ks
sound_below n [] sound = tt
sound_below n (k ∷ ks) sound = (lines_below n [] k.body sound.0.each, sound_below n ks sound.1)
