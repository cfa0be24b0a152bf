-- The result of a run follows from the clauses of the runtime's call.
use Rattle.std.proofs.Common.{◌∙◌, ap, ◌≡◌, ℕ, zero, suc, true, false, Bool, List, [], length, map, Option, Some, None, Result, Ok, Err, IfOk, OnOk, refl, sym, subst, arith}
use Rattle.std.specs.Prelude.{⊤}
use Rattle.mono_machine.specs.Machine.{Machine, start_machine}
use Rattle.mono_machine.specs.declared.events.Limits.{Limits}
use Rattle.mono_machine.specs.declared.events.Blocking.TheVariants as strategy
use Rattle.mono_rt.specs.Numbering.{answer_numbered}
use Rattle.mono_rt.specs.Rounds.{Blocked, output_in}
use Rattle.mono_rt.specs.declared.parts.errors.RunError.{RunError}
use Rattle.mono_rt.specs.declared.parts.journals.Journal.{Journal}
use Rattle.mono_run.specs.Journal.{journal_text}
use Rattle.mono_rt.specs.DriverReadings.{Told, Course, going, Tells, IsTold, EndsSo}
use Rattle.mono_rt.specs.declared.parts.journals.Entry.{Entry}
use Rattle.mono_rt.specs.declared.parts.errors.RunError.TheVariants as error
use Rattle.mono_rt.proofs.ReadingLemmas.{in_order, sums_from, sure_answer}
use Rattle.mono_model.specs.declared.poll.Poll.{Poll}
use Rattle.mono_task.specs.Members.{FutureOf}
use Rattle.mono_rt.specs.FuturePolls.{PollsMain, OnMain}
use Rattle.mono_rt.specs.Reaches.{sharing_nothing}
use Rattle.mono_rt.specs.Stores.{Store, first_store}
use Rattle.mono_rt.specs.Journals.{Does}
use Rattle.mono_rt.specs.Refinement.{hosting_of, MatchesValid}
use Rattle.mono_rt.specs.declared.parts.state.Parts.{Parts}
use Rattle.mono_blocking.specs.JobSpawns.{Seen}
use Rattle.mono_rt.proofs.FuturePollLemmas.{on_main}
use Rattle.mono_rt.proofs.RoundLemmas.{relation_of}
use Rattle.mono_rt.specs.declared.contexts.Cx.{Cx}
use Rattle.mono_run.specs.ScriptTurns.{Driven}
use Rattle.mono_run.specs.Script.{Script, IsSound}
use Rattle.mono_run.specs.TaskPolls.{new_task, PollsTask}
use Rattle.mono_run.specs.declared.tasks.ScriptTask.{ScriptTask}
use Rattle.mono_run.proofs.ScriptTurnLemmas.{driven_main}
use Rattle.mono_run.specs.RunRecord.{Ran, RunsScript, RanBy, ReadsSo, ParksSo, told_first, answer_of, told}
use Rattle.mono_run.specs.declared.runs.RunEnd.{RunEnd}
use Rattle.mono_run.specs.declared.runs.RunEnd.TheVariants as ran
use Rattle.mono_run.specs.declared.runs.ScriptRun.{ScriptRun}

-- an output that is a number is its own number
pub same_answer : (a : Result ℕ RunError) → answer_numbered (λ n. n) a ≡ a
same_answer (Ok o) = refl
same_answer (Err e) = refl

-- The entries are those of a call with this answer, and the parks are those of the wheel.
abbrev pub DoneBy : ℕ → Result ℕ RunError → Machine → List Entry → Type 0
DoneBy turns answer m part = (new : Machine) × (Blocked true turns (answer_numbered (λ n. n) answer) m part new [] × ParksSo m part new)

whole : (run : ScriptRun) (limits : Limits) (turns : ℕ) (part : List Entry) (answer : Result ℕ RunError)
    → DoneBy turns answer (start_machine limits strategy.Attached) part
    → answer ≡ answer_of run.end → run.text.items ≡ journal_text (map told part) (output_in (answer_of run.end))
    → (made : Ran limits turns run.end run.text.items) × (made.entries ≡ part)
whole run limits turns part answer b is text =
    let same = subst (λ a. Blocked true turns a (start_machine limits strategy.Attached) part b.0 []) (same_answer answer) b.1.0 in
    (record { entries = part; last = b.0; blocked = subst (λ a. Blocked true turns a (start_machine limits strategy.Attached) part b.0 []) is same; parks = b.1.1; text = text }, refl)

-- the printed lines are those of the history
by_history : (j : Journal) (run : ScriptRun) → j.is_full ≡ false → run.text.items ≡ journal_text (map told j.entries.items) (output_in (answer_of run.end)) → run.text.items ≡ journal_text (map told j.history.entries) (output_in (answer_of run.end))
by_history j run unfull text = text ∙ ap (λ es. journal_text (map told es) (output_in (answer_of run.end))) (j.kept unfull)

pub told_ran : {E : Type 0} (r : Result ScriptRun E) (limits : Limits) (turns : ℕ) (j : Journal) (answer : Result ℕ RunError)
    → DoneBy turns answer (start_machine limits strategy.Attached) j.history.entries
    → IfOk r (λ run. answer ≡ answer_of run.end) → OnOk r (j.is_full ≡ false) → IfOk r (λ run. run.text.items ≡ journal_text (map told j.entries.items) (output_in (answer_of run.end)))
    → IfOk r (λ run. Ran limits turns run.end run.text.items)
told_ran (Ok run) limits turns j answer blocked is kept text = (whole run limits turns j.history.entries answer blocked is (by_history j run kept text)).0
told_ran (Err e) limits turns j answer blocked is kept text = tt

-- none of these is a fault
going_by : (e : RunEnd) (x : Course) (last new : Told) → EndsSo (answer_of e) x last new → x ≡ going
going_by (ran.Output o) x last new is = is.0
going_by ran.Turns x last new is = is.0
going_by ran.Capacity x last new is = is.0

-- the readings are those of the driver
reads_so : (workers : ℕ) (readings : Option (List ℕ)) (new : Told) (part : List Entry) → Tells (told_first workers readings) going part new going → ReadsSo workers readings part
reads_so zero readings new part tells = sums_from (told_first zero readings) new going 0 part (omega arith) refl tells
reads_so (suc n) None new part tells = tt
reads_so (suc n) (Some readings) new part tells = in_order (told_first (suc n) (Some readings)) new going going readings part refl tells

-- the driver of a run does not fail
pub no_fault : (workers : ℕ) (readings : Option (List ℕ)) (answer : Result ℕ RunError) (part : List Entry) → IsTold answer (told_first workers readings) part → answer ≡ Err error.Driver → ⊥
no_fault zero readings answer part t is = sure_answer answer (told_first zero readings) part refl t is
no_fault (suc n) readings answer part t is = sure_answer answer (told_first (suc n) readings) part refl t is

made_reads : (workers : ℕ) (readings : Option (List ℕ)) (run : ScriptRun) (limits : Limits) (turns : ℕ) (part : List Entry) (answer : Result ℕ RunError)
    → DoneBy turns answer (start_machine limits strategy.Attached) part
    → IsTold answer (told_first workers readings) part
    → answer ≡ answer_of run.end → run.text.items ≡ journal_text (map told part) (output_in (answer_of run.end))
    → (made : RanBy workers readings limits turns run.end run.text.items) × (made.ran.entries ≡ part)
made_reads workers readings run limits turns part answer b t is text =
    let w = whole run limits turns part answer b is text in (
      record {
        ran = w.0;
        reads = subst (ReadsSo workers readings) (sym w.1) (reads_so workers readings t.last part
            (subst (λ x. Tells (told_first workers readings) going part t.last x) (going_by run.end t.after t.last t.new (subst (λ a. EndsSo a t.after t.last t.new) is t.ends)) t.tells));
      },
      w.1,
    )

pub told_reads : {E : Type 0} (workers : ℕ) (readings : Option (List ℕ)) (r : Result ScriptRun E) (limits : Limits) (turns : ℕ) (j : Journal) (answer : Result ℕ RunError)
    → DoneBy turns answer (start_machine limits strategy.Attached) j.history.entries
    → IsTold answer (told_first workers readings) j.history.entries
    → IfOk r (λ run. answer ≡ answer_of run.end) → OnOk r (j.is_full ≡ false) → IfOk r (λ run. run.text.items ≡ journal_text (map told j.entries.items) (output_in (answer_of run.end)))
    → IfOk r (λ run. RanBy workers readings limits turns run.end run.text.items)
told_reads workers readings (Ok run) limits turns j answer blocked tells is kept text = (made_reads workers readings run limits turns j.history.entries answer blocked tells is (by_history j run kept text)).0
told_reads workers readings (Err e) limits turns j answer blocked tells is kept text = tt

-- the turns that were told are those of the script
pub driven_by : {P U J A V : Type 0} (future : FutureOf ScriptTask (Cx ScriptTask ℕ P U ⊤ J A V) ℕ) (unspent : (f : ScriptTask) → future.is_spent f ≡ false)
    (polls : (f : ScriptTask) (c : Cx ScriptTask ℕ P U ⊤ J A V) (answer : Poll ℕ) (left : ScriptTask) (d : Cx ScriptTask ℕ P U ⊤ J A V) → future.polls f c answer left d → PollsTask f c answer left d)
    (cancels : (f : ScriptTask) (c d : Cx ScriptTask ℕ P U ⊤ J A V) → future.cancels f c d → d ≡ c)
    (e : RunEnd) (s : Script) (turns : ℕ) (main : ScriptTask) (left : Store ScriptTask ⊤) (answer : Result ℕ RunError) (part : List Entry) → answer ≡ answer_of e → main ≡ new_task main 0 → main.kinds.now ≡ s.kinds → IsSound (length s.kinds) s
    → OnMain answer ((new : Machine) × PollsMain (λ n. n) sharing_nothing future true main (first_store tt) left (start_machine s.limits strategy.Attached) part new [])
    → ((new : Machine) × Blocked true turns (answer_numbered (λ n. n) answer) (start_machine s.limits strategy.Attached) part new []) → Driven s (map told part)
driven_by future unspent polls cancels (ran.Output o) s turns main left answer part is first same sound polled blocked =
    let p = subst (λ a. OnMain a ((new : Machine) × PollsMain (λ n. n) sharing_nothing future true main (first_store tt) left (start_machine s.limits strategy.Attached) part new [])) is polled in
    driven_main future unspent polls cancels s strategy.Attached main left part p.0 first same sound p.1
driven_by future unspent polls cancels ran.Turns s turns main left answer part is first same sound polled blocked =
    let p = subst (λ a. OnMain a ((new : Machine) × PollsMain (λ n. n) sharing_nothing future true main (first_store tt) left (start_machine s.limits strategy.Attached) part new [])) is polled in
    driven_main future unspent polls cancels s strategy.Attached main left part p.0 first same sound p.1
driven_by future unspent polls cancels ran.Capacity s turns main left answer part is first same sound polled blocked =
    let b = subst (λ a. (new : Machine) × Blocked true turns (answer_numbered (λ n. n) a) (start_machine s.limits strategy.Attached) part new []) is blocked in
    subst (λ xs. Driven s (map told xs)) (sym b.1.0) tt

-- The same from the clauses of the runtime's call about its futures, in a journal that was empty before it.
pub driven_does : {P U J A V Q : Type 0} (future : FutureOf ScriptTask (Cx ScriptTask ℕ P U ⊤ J A V) ℕ) (h : Bool) (main : ScriptTask) (had left : Store ScriptTask ⊤) (c d : Parts ℕ (Seen Q)) (j k : Journal)
    → (unspent : (f : ScriptTask) → future.is_spent f ≡ false)
    → (polls : (f : ScriptTask) (x : Cx ScriptTask ℕ P U ⊤ J A V) (a : Poll ℕ) (g : ScriptTask) (y : Cx ScriptTask ℕ P U ⊤ J A V) → future.polls f x a g y → PollsTask f x a g y)
    → (cancels : (f : ScriptTask) (x y : Cx ScriptTask ℕ P U ⊤ J A V) → future.cancels f x y → y ≡ x)
    → (e : RunEnd) (s : Script) (turns : ℕ) (answer : Result ℕ RunError) (l : Journal)
    → OnMain answer (Does (λ n. n) (PollsMain (λ n. n) sharing_nothing future h main had left) c d j k)
    → h ≡ true → had ≡ first_store tt → MatchesValid (λ n. n) hosting_of c (start_machine s.limits strategy.Attached) → j.history.entries ≡ [] → l ≡ k
    → answer ≡ answer_of e → main ≡ new_task main 0 → main.kinds.now ≡ s.kinds → IsSound (length s.kinds) s
    → ((new : Machine) × Blocked true turns (answer_numbered (λ n. n) answer) (start_machine s.limits strategy.Attached) l.history.entries new []) → Driven s (map told l.history.entries)
driven_does future h main had left c d j k unspent polls cancels e s turns answer l does timers none stands empty same is first kinds sound blocked =
    let m : Machine = start_machine s.limits strategy.Attached in
    let Whole : Type 0 = (new : Machine) × PollsMain (λ n. n) sharing_nothing future true main (first_store tt) left m l.history.entries new [] in
    let polled : OnMain answer Whole = on_main {X = ℕ} answer (Does (λ n. n) (PollsMain (λ n. n) sharing_nothing future h main had left) c d j k) Whole
    (λ did. subst (λ b. (new : Machine) × PollsMain (λ n. n) sharing_nothing future b main (first_store tt) left m l.history.entries new []) timers
    (subst (λ xs. (new : Machine) × PollsMain (λ n. n) sharing_nothing future h main xs left m l.history.entries new []) none
    (relation_of (λ n. n) (PollsMain (λ n. n) sharing_nothing future h main had left) c d j k l m stands empty same did))) does in
    driven_by future unspent polls cancels e s turns main left answer l.history.entries is first kinds sound polled blocked

pub told_driven : {E : Type 0} (workers : ℕ) (readings : Option (List ℕ)) (r : Result ScriptRun E) (s : Script) (turns : ℕ) (j : Journal) (answer : Result ℕ RunError)
    → DoneBy turns answer (start_machine s.limits strategy.Attached) j.history.entries
    → IsTold answer (told_first workers readings) j.history.entries
    → ((e : RunEnd) → answer ≡ answer_of e → IsSound (length s.kinds) s → Driven s (map told j.history.entries))
    → IfOk r (λ run. answer ≡ answer_of run.end) → OnOk r (j.is_full ≡ false) → IfOk r (λ run. run.text.items ≡ journal_text (map told j.entries.items) (output_in (answer_of run.end)))
    → IfOk r (λ run. IsSound (length s.kinds) s → RunsScript workers readings s turns run.end run.text.items)
told_driven workers readings (Ok run) s turns j answer blocked tells driven is kept text = λ sound.
    let made = made_reads workers readings run s.limits turns j.history.entries answer blocked tells is (by_history j run kept text) in
    record { run = made.0; driven = subst (λ es. Driven s (map told es)) (sym made.1) (driven run.end is sound) }
told_driven workers readings (Err e) s turns j answer blocked tells driven is kept text = tt
