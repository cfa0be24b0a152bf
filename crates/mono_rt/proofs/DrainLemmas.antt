-- The wakes from outside of distinct tasks, and then the drain, are a run: the drain lists those that are given out and
-- unfinished, in order, and each of these is woken.
use Rattle.std.proofs.Common.{◌≡◌, ◌<◌, ◌≤◌, ◌≢◌, ℕ, ◌+◌, suc, true, false, Bool, cond, List, [], ◌∷◌, ◌++◌, length, get_or, drop, Some, None, Option, refl, ap, sym, subst, ◌∙◌, append_assoc, append-nil, arith}
use Rattle.std.specs.Prelude.{◌||◌, ◌==◌, Result, Ok, Err, AllPairs, nat_lt}
use Rattle.std.specs.Option.{option_map}
use Rattle.std.proofs.Common.{length-append}
use Rattle.std.proofs.Math.Nat.{le_refl}
use Rattle.std.proofs.lemmas.Bool.{eqb-true}
use Rattle.mono_model.specs.Table.{value_at, is_issued}
use Rattle.mono_model.specs.Tasks.{Tasks, Task, Phase, idle, queued, running, done, taken, all_woken, woken, woken_value, woken_in, is_finished}
use Rattle.mono_model.specs.Inbox.{is_waiting, with_waiting}
use Rattle.mono_model.specs.declared.task_error.TaskError.{TaskError}
use Rattle.mono_model.specs.declared.task_error.TaskError.TheVariants.{NoTask}
use Rattle.mono_task.specs.Work.{has_finished, over_answer}
use Rattle.mono_inbox.specs.State.{State, with_list}
use Rattle.mono_machine.specs.Machine.{Machine, with_tasks, with_inbox}
use Rattle.mono_machine.specs.Steps.{remote_report, after_remote}
use Rattle.mono_machine.specs.Steps.{has_finished as machine_finished}
use Rattle.mono_machine.specs.declared.events.Event.TheVariants as event
use Rattle.mono_machine.specs.declared.events.Report.TheVariants as report
use Rattle.mono_machine.specs.declared.events.Reply.TheVariants as reply
use Rattle.mono_machine.specs.declared.events.Refusal.TheVariants as refusal
use Rattle.mono_rt.specs.Numbering.{numbered, phase_numbered, task_numbered}
use Rattle.mono_rt.specs.Drains.{told_by, listed_by, remotes, listed, drain_of, DrainsAll}
use Rattle.mono_rt.specs.Journals.{Follows}
use Rattle.mono_rt.specs.Rounds.{Remotes, Drained}
use Rattle.mono_rt.specs.declared.parts.journals.Entry.{Entry}
use Rattle.mono_rt.specs.declared.parts.journals.Entry.TheVariants.{Ran}
use Rattle.mono_machine.proofs.RunLemmas.{first_and_rest}
use Rattle.mono_rt.proofs.NumberLemmas.{value_numbered, next_numbered}

-- whether a task has finished is the same with numbers in the place of outputs
module _ {O : Type 0} (number : O → ℕ) where
  finished_phase : (phase : Phase O) → is_finished (phase_numbered number phase) ≡ is_finished phase
  finished_phase idle = refl
  finished_phase queued = refl
  finished_phase (running noted) = refl
  finished_phase (done output) = refl
  finished_phase taken = refl

  finished_by : (v : Option (Task O)) → has_finished (option_map (task_numbered number) v) ≡ has_finished v
  finished_by None = refl
  finished_by (Some task) = finished_phase task.phase

  pub over_numbered : (tasks : Tasks O) (t : ℕ) → over_answer (numbered number tasks) t ≡ over_answer tasks t
  over_numbered tasks t =
      ap (λ n. cond (nat_lt t n) (Ok (has_finished (value_at (numbered number tasks).table t))) (Err NoTask)) (next_numbered number tasks)
      ∙ ap (λ b. cond (is_issued tasks.table t) (Ok b) (Err NoTask)) (ap has_finished (value_numbered number tasks t) ∙ finished_by (value_at tasks.table t))

  pub remotes_numbered : (tasks : Tasks O) (ts : List ℕ) → remotes (numbered number tasks) ts ≡ remotes tasks ts
  remotes_numbered tasks [] = refl
  remotes_numbered tasks (t ∷ ts) =
      ap (λ a. Ran (event.Remote t) (told_by a) ∷ remotes (numbered number tasks) ts) (over_numbered tasks t) ∙ ap (λ xs. Ran (event.Remote t) (told_by (over_answer tasks t)) ∷ xs) (remotes_numbered tasks ts)

  pub listed_numbered : (tasks : Tasks O) (ts : List ℕ) → listed (numbered number tasks) ts ≡ listed tasks ts
  listed_numbered tasks [] = refl
  listed_numbered tasks (t ∷ ts) =
      ap (λ a. listed_by a t ++ listed (numbered number tasks) ts) (over_numbered tasks t) ∙ ap (λ xs. listed_by (over_answer tasks t) t ++ xs) (listed_numbered tasks ts)

-- one wake from outside of a task that does not wait
same_finished : (v : Option (Task ℕ)) → machine_finished v ≡ has_finished v
same_finished None = refl
same_finished (Some task) = refl

told_if : (issued over : Bool) → cond issued (cond (over || false) report.Unlisted report.Listed) (report.Reply (reply.Refused refusal.NoTask)) ≡ told_by (cond issued (Ok over) (Err NoTask))
told_if true true = refl
told_if true false = refl
told_if false over = refl

left_if : (issued over : Bool) (m : Machine) (t : ℕ) → cond issued (cond (over || false) m (with_inbox m (with_waiting m.inbox t))) m ≡ with_inbox m (m.inbox ++ listed_by (cond issued (Ok over) (Err NoTask)) t)
left_if true true m t = ap (with_inbox m) (sym (append-nil m.inbox))
left_if true false m t = refl
left_if false over m t = ap (with_inbox m) (sym (append-nil m.inbox))

remote_told : (m : Machine) (t : ℕ) → is_waiting m.inbox t ≡ false → told_by (over_answer m.tasks t) ≡ remote_report m t
remote_told m t apart =
    sym (ap (λ w. cond (is_issued m.tasks.table t) (cond (machine_finished (value_at m.tasks.table t) || w) report.Unlisted report.Listed) (report.Reply (reply.Refused refusal.NoTask))) apart
    ∙ ap (λ f. cond (is_issued m.tasks.table t) (cond (f || false) report.Unlisted report.Listed) (report.Reply (reply.Refused refusal.NoTask))) (same_finished (value_at m.tasks.table t))
    ∙ told_if (is_issued m.tasks.table t) (has_finished (value_at m.tasks.table t)))

remote_left : (m : Machine) (t : ℕ) → is_waiting m.inbox t ≡ false → with_inbox m (m.inbox ++ listed_by (over_answer m.tasks t) t) ≡ after_remote m t
remote_left m t apart =
    sym (ap (λ w. cond (is_issued m.tasks.table t) (cond (machine_finished (value_at m.tasks.table t) || w) m (with_inbox m (with_waiting m.inbox t))) m) apart
    ∙ ap (λ f. cond (is_issued m.tasks.table t) (cond (f || false) m (with_inbox m (with_waiting m.inbox t))) m) (same_finished (value_at m.tasks.table t))
    ∙ left_if (is_issued m.tasks.table t) (has_finished (value_at m.tasks.table t)) m t)

-- no task of the list waits
abbrev Apart : List ℕ → List ℕ → Type 0
Apart inbox ts = (i d : ℕ) → i < length ts → is_waiting inbox (get_or ts i d) ≡ false

not_same : (s t : ℕ) (b : Bool) → (s == t) ≡ b → s ≢ t → b ≡ false
not_same s t true is apart = absurd (apart (eqb-true s t is))
not_same s t false is apart = refl

or_false : (b x y : Bool) → (b || x) ≡ false → (x ≡ false → y ≡ false) → (b || y) ≡ false
or_false true x y p f = p
or_false false x y p f = f p

waits_more : (inbox more : List ℕ) (t : ℕ) → is_waiting inbox t ≡ false → is_waiting more t ≡ false → is_waiting (inbox ++ more) t ≡ false
waits_more [] more t p q = q
waits_more (w ∷ ws) more t p q = or_false (w == t) (is_waiting ws t) (is_waiting (ws ++ more) t) p (λ r. waits_more ws more t r q)

alone : (a : Result Bool TaskError) (t s : ℕ) → t ≢ s → is_waiting (listed_by a t) s ≡ false
alone (Ok true) t s apart = refl
alone (Ok false) t s apart = ap (λ b. b || false) (not_same t s (t == s) refl apart)
alone (Err e) t s apart = refl

still_apart : (a : Result Bool TaskError) (inbox : List ℕ) (t : ℕ) (ts : List ℕ) → Apart inbox (t ∷ ts) → AllPairs (λ s u. s ≢ u) (t ∷ ts) → Apart (inbox ++ listed_by a t) ts
still_apart a inbox t ts apart once i d inside =
    waits_more inbox (listed_by a t) (get_or ts i d) (apart (suc i) d (omega (arith, inside))) (alone a t (get_or ts i d) (once 0 (suc i) d (omega arith) (omega (arith, inside))))

rest_once : (t : ℕ) (ts : List ℕ) → AllPairs (λ s u. s ≢ u) (t ∷ ts) → AllPairs (λ s u. s ≢ u) ts
rest_once t ts once i j d below inside = once (suc i) (suc j) d (omega (arith, below)) (omega (arith, inside))

-- Each task is recorded, and the inbox has the listed ones after its earlier list.
pub remotes_are : (ts : List ℕ) (m : Machine) (rest : List Entry) → Apart m.inbox ts → AllPairs (λ s t. s ≢ t) ts → Remotes ts m (remotes m.tasks ts ++ rest) (with_inbox m (m.inbox ++ listed m.tasks ts)) rest
remotes_are [] m rest apart once = (refl, ap (with_inbox m) (append-nil m.inbox))
remotes_are (t ∷ ts) m rest apart once =
    let a = over_answer m.tasks t in
    let fresh : is_waiting m.inbox t ≡ false = apart 0 0 (omega arith) in
    let mid : Machine = with_inbox m (m.inbox ++ listed_by a t) in (
      told_by a,
      (
        mid,
        (
          remotes m.tasks ts ++ rest,
          (
            refl,
            (remote_told m t fresh, remote_left m t fresh),
            subst (λ x. Remotes ts mid (remotes m.tasks ts ++ rest) (with_inbox m x) rest) (append_assoc m.inbox (listed_by a t) (listed m.tasks ts))
                (remotes_are ts mid rest (still_apart a m.inbox t ts apart once) (rest_once t ts once)),
          ),
        ),
      ),
    )

-- From an empty inbox: the drain lists those, they are woken in order, and the inbox is empty again.
pub drained_is : (ts : List ℕ) (m : Machine) (rest : List Entry) → m.inbox ≡ [] → AllPairs (λ s t. s ≢ t) ts
    → DrainsAll ts m (remotes m.tasks ts ++ drain_of (listed m.tasks ts) ∷ rest) (with_tasks m (all_woken m.tasks (listed m.tasks ts))) rest
drained_is ts m rest empty once =
    let mid : Machine = with_inbox m (m.inbox ++ listed m.tasks ts) in
    let all : m.inbox ++ listed m.tasks ts ≡ listed m.tasks ts = ap (λ xs. xs ++ listed m.tasks ts) empty in (
      record {
        taken = ts;
        distinct = once;
        mid = mid;
        left = drain_of (listed m.tasks ts) ∷ rest;
        remotes = remotes_are ts m (drain_of (listed m.tasks ts) ∷ rest) (λ i d inside. ap (λ xs. is_waiting xs (get_or ts i d)) empty) once;
        listed = listed m.tasks ts;
        entry = refl;
        step = (ap report.Drained (sym all), ap (with_inbox (with_tasks m (all_woken m.tasks (listed m.tasks ts)))) empty ∙ ap (λ xs. with_inbox (with_tasks m (all_woken m.tasks xs)) []) (sym all));
      },
      refl,
    )

-- a drain is a run of the machine
remotes_follow : (ts : List ℕ) (old new end : Machine) (part rest : List Entry) → Remotes ts old part new rest → Follows new rest end → Follows old part end
remotes_follow [] old new end part rest (same, is) after = subst (λ xs. Follows old xs end) (sym same) (subst (λ m. Follows m rest end) is after)
remotes_follow (t ∷ ts) old new end part rest (told, (mid, (left, (entry, step, more)))) after =
    subst (λ xs. Follows old xs end) (sym entry) (mid, step, remotes_follow ts mid new end left rest more after)

pub drained_follow : (old new end : Machine) (part rest : List Entry) → Drained old part new rest → Follows new rest end → Follows old part end
drained_follow old new end part rest is after =
    remotes_follow is.taken old is.mid end part is.left is.remotes (subst (λ xs. Follows is.mid xs end) (sym is.entry) (new, is.step, after))

-- one more of the tasks is recorded
pub remotes_more : {O : Type 0} (tasks : Tasks O) (ts : List ℕ) (i d : ℕ) (now next all : List Entry) → i < length ts
    → next ≡ now ++ Ran (event.Remote (get_or ts i d)) (told_by (over_answer tasks (get_or ts i d))) ∷ [] → now ++ remotes tasks (drop i ts) ≡ all → next ++ remotes tasks (drop (i + 1) ts) ≡ all
remotes_more tasks ts i d now next all inside is told =
    ap (λ xs. xs ++ remotes tasks (drop (i + 1) ts)) is ∙ append_assoc now (Ran (event.Remote (get_or ts i d)) (told_by (over_answer tasks (get_or ts i d))) ∷ []) (remotes tasks (drop (i + 1) ts))
    ∙ ap (λ xs. now ++ remotes tasks xs) (sym (first_and_rest ts i d inside)) ∙ told

pub listed_more : {O : Type 0} (tasks : Tasks O) (ts : List ℕ) (i d : ℕ) (now next all : List ℕ) → i < length ts
    → next ≡ now ++ listed_by (over_answer tasks (get_or ts i d)) (get_or ts i d) → now ++ listed tasks (drop i ts) ≡ all → next ++ listed tasks (drop (i + 1) ts) ≡ all
listed_more tasks ts i d now next all inside is told =
    ap (λ xs. xs ++ listed tasks (drop (i + 1) ts)) is ∙ append_assoc now (listed_by (over_answer tasks (get_or ts i d)) (get_or ts i d)) (listed tasks (drop (i + 1) ts))
    ∙ ap (λ xs. now ++ listed tasks xs) (sym (first_and_rest ts i d inside)) ∙ told

-- wakes make the queue no shorter
longer_in : {O : Type 0} (phase : Phase O) (tasks : Tasks O) (t : ℕ) (task : Task O) → length tasks.queue ≤ length (woken_in phase tasks t task).queue
longer_in idle tasks t task = rw (length-append tasks.queue (t ∷ [])) (omega arith)
longer_in queued tasks t task = le_refl _
longer_in (running noted) tasks t task = le_refl _
longer_in (done output) tasks t task = le_refl _
longer_in taken tasks t task = le_refl _

longer_by : {O : Type 0} (v : Option (Task O)) (tasks : Tasks O) (t : ℕ) → length tasks.queue ≤ length (woken_value v tasks t).queue
longer_by None tasks t = le_refl _
longer_by (Some task) tasks t = longer_in task.phase tasks t task

pub longer : {O : Type 0} (tasks : Tasks O) (ts : List ℕ) → length tasks.queue ≤ length (all_woken tasks ts).queue
longer tasks [] = le_refl _
longer tasks (t ∷ ts) = omega (arith, longer_by (value_at tasks.table t) tasks t, longer (woken tasks t) ts)

-- an inbox in which no task waits is left as it is by a drain
pub none_left : (s : State) → s.waiting ≡ [] → s ≡ with_list s []
none_left s none = ap (λ ts. with_list s ts) none
