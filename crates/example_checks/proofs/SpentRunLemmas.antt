-- The output of a run without a budget: its main task is made, and its handle is dropped.
use Rattle.std.proofs.Common.{◌≡◌, ℕ, zero, suc, ◌^◌, ◌-◌, ◌<◌, true, List, [], ◌∷◌, ◌++◌, map, Option, Some, None, codes, lit≤, lit<, refl, sym, ap, subst, ◌∙◌, arith}
use Rattle.mono_machine.specs.Machine.{Machine, start_machine}
use Rattle.mono_machine.specs.Acts.{act_outcome}
use Rattle.mono_machine.specs.declared.events.Blocking.TheVariants as blocking
use Rattle.mono_machine.specs.declared.events.Act.TheVariants as act
use Rattle.mono_machine.specs.declared.events.Event.TheVariants as event
use Rattle.mono_machine.specs.declared.events.Reply.TheVariants as reply
use Rattle.mono_machine.specs.declared.events.Report.{Report}
use Rattle.mono_machine.specs.declared.events.Report.TheVariants as report
use Rattle.mono_rt.specs.Rounds.{Turns, Passes, Rounds, RunsMain, is_main_done, output_in}
use Rattle.mono_rt.specs.declared.parts.journals.Entry.{Entry}
use Rattle.mono_rt.specs.declared.parts.journals.Entry.TheVariants.{Ran}
use Rattle.mono_run.specs.Script.{Script}
use Rattle.mono_run.specs.ScriptText.{Spells}
use Rattle.mono_run.specs.Journal.{journal_text}
use Rattle.mono_run.specs.RunRecord as run
use Rattle.mono_run.specs.RunRecord.{answer_of, told}
use Rattle.mono_run.specs.declared.runs.RunEnd.{RunEnd}
use Rattle.mono_run.specs.declared.runs.RunEnd.TheVariants as ran
use Rattle.mono_run.proofs.MainPlaceLemmas.{full_at}
use Rattle.mono_script.specs.declared.command.Command.TheVariants as command
use Rattle.mono_script.specs.declared.ends.Status.TheVariants as status
use Rattle.mono_script.specs.Command.{IsCommand}
use Rattle.mono_script.specs.Meanings.{running, run_status}
use Rattle.mono_script.specs.TopCall.{view_of}
use Rattle.mono_script.proofs.MainPlaceLemmas.{tasks_once}
use Rattle.example_checks.specs.Outputs.{line, Gives, Ended}
use Rattle.example_checks.proofs.NumberTextLemmas.{zero_text, one_text, five_text}
use Rattle.example_checks.proofs.OutputLemmas.{IsOnly, gives}

abbrev pub words : List (List ℕ)
words = codes "run" ∷ codes "0" ∷ codes "0" ∷ []

abbrev pub input : List ℕ
input = line (codes "limits 1 1 1") ++ line (codes "task") ++ line (codes "done 5")

abbrev pub output : List ℕ
output = line (codes "spawn -> task 0") ++ line (codes "drop-join 0 -> dropped")

is_command : IsCommand words (command.Run 0 0)
is_command = record { text = rw zero_text refl; fit = (lit≤ tt, lit≤ tt) }

abbrev pub script : Script
script = record { limits = record { tasks = 1; jobs = 1; sleeps = 1 }; kinds = record { body = []; output = 5 } ∷ [] }

pub good : Spells input script
good = record {
  sound = record {
    limits = record { tasks = lit< tt; jobs = lit< tt; sleeps = lit< tt };
    some = lit≤ tt;
    few = lit≤ tt;
    each = (record { few = lit≤ tt; each = tt; output = lit< tt }, tt);
  };
  text = rw (one_text, five_text) refl;
}

-- ---- no turn without a budget

none_done : (turns : ℕ) (old : Machine) (part : List Entry) (new : Machine) (rest : List Entry) → turns ≡ 0 → Turns turns old part new rest → (part ≡ rest) × (new ≡ old)
none_done zero old part new rest none are = are
none_done (suc n) old part new rest none are = absurd (omega (arith, none))

no_pass : (main n units left : ℕ) (old : Machine) (part : List Entry) (new : Machine) (rest : List Entry) → units ≡ 0 → Passes true main n units left old part new rest → (part ≡ rest) × (new ≡ old) × (left ≡ units)
no_pass main zero units left old part new rest none are = are
no_pass main (suc n) units left old part new rest none (mid, (more, (kept, (before, (undone, (some, pass)))))) =
    let same = no_pass main n units kept old part mid more none before in
    absurd (omega (arith, none, some, same.2))

no_round : (main left : ℕ) (old : Machine) (part : List Entry) (new : Machine) (rest : List Entry) → Rounds true main 0 left old part new rest → (part ≡ rest) × (new ≡ old)
no_round main left old part new rest r =
    let none : r.first.turns ≡ 0 = omega (arith, r.first.within) in
    let kept : r.kept ≡ 0 = omega (arith, r.first.units_left) in
    let first = none_done r.first.turns old part r.mid r.more none r.first.are in
    let later = no_pass main r.count r.kept left r.mid r.more new rest kept r.passes in
    (first.0 ∙ later.0, later.1 ∙ first.1)

-- ---- a spawn and a drop

abbrev pub start : ℕ → ℕ → Machine
start jobs sleeps = start_machine (record { tasks = 1; jobs = jobs; sleeps = sleeps }) blocking.Attached

abbrev pub after_spawn : ℕ → ℕ → Machine
after_spawn jobs sleeps = (act_outcome act.Spawn (start jobs sleeps)).machine

abbrev pub task_in : Report → ℕ
task_in (report.Reply (reply.Task t)) = t
task_in r = 0

abbrev entries : List Entry
entries = Ran (event.Act act.Spawn) (report.Reply (reply.Task 0)) ∷ Ran (event.Act (act.DropJoin 0)) (report.Reply (reply.Dropped None)) ∷ []

spent : (jobs sleeps main : ℕ) (part : List Entry) (last : Machine) → RunsMain true main 0 (answer_of ran.Turns) (start jobs sleeps) part last [] → part ≡ entries
spent jobs sleeps main part last r =
    let first : main ≡ 0 = ap task_in r.spawn.1.0 in
    let none = no_round main 0 r.spawned r.behind r.ended r.last r.ends.0 in
    let at : r.ended ≡ after_spawn jobs sleeps = none.1 ∙ r.spawn.1.1 in
    let told : report.Reply r.drop.0 ≡ report.Reply (act_outcome (act.DropJoin 0) (after_spawn jobs sleeps)).reply =
    r.drop.1.1.0 ∙ ap (λ t. report.Reply (act_outcome (act.DropJoin t) r.ended).reply) first ∙ ap (λ m. report.Reply (act_outcome (act.DropJoin 0) m).reply) at in
    r.spawn.0
    ∙ ap (λ t. Ran (event.Act act.Spawn) (report.Reply (reply.Task t)) ∷ r.behind) first
    ∙ ap (λ xs. Ran (event.Act act.Spawn) (report.Reply (reply.Task 0)) ∷ xs) (none.0 ∙ r.drop.1.0)
    ∙ ap (λ t. Ran (event.Act act.Spawn) (report.Reply (reply.Task 0)) ∷ Ran (event.Act (act.DropJoin t)) (report.Reply r.drop.0) ∷ []) first
    ∙ ap (λ a. Ran (event.Act act.Spawn) (report.Reply (reply.Task 0)) ∷ Ran (event.Act (act.DropJoin 0)) a ∷ []) told

undone : (jobs sleeps main o : ℕ) (part : List Entry) (last : Machine) → RunsMain true main 0 (answer_of (ran.Output o)) (start jobs sleeps) part last [] → ⊥
undone jobs sleeps main o part last r =
    let first : main ≡ 0 = ap task_in r.spawn.1.0 in
    let none = no_round main r.ends.0 r.spawned r.behind r.ended r.last r.ends.1.0 in
    let at : r.ended ≡ after_spawn jobs sleeps = none.1 ∙ r.spawn.1.1 in
    let bad : is_main_done 0 (after_spawn jobs sleeps) ≡ true = ap (λ m. is_main_done 0 m) (sym at) ∙ ap (λ t. is_main_done t r.ended) (sym first) ∙ r.ends.1.1 in
    cc bad

-- ---- the answer

by_end : (jobs sleeps : ℕ) (e : RunEnd) (text : List ℕ) → run.Ran (record { tasks = 1; jobs = jobs; sleeps = sleeps }) 0 e text → (e ≡ ran.Turns) × (text ≡ output)
by_end jobs sleeps (ran.Output o) text r = absurd (undone jobs sleeps r.blocked.0 o r.entries r.last r.blocked.1)
by_end jobs sleeps ran.Capacity text r = absurd (omega (arith, (full_at (record { tasks = 1; jobs = jobs; sleeps = sleeps }) 0 ran.Capacity text r).0 refl))
by_end jobs sleeps ran.Turns text r =
    (refl, r.text ∙ ap (λ es. journal_text (map told es) (output_in (answer_of ran.Turns))) (spent jobs sleeps r.blocked.0 r.entries r.last r.blocked.1) ∙ rw zero_text refl)

only : (readings : Option (List ℕ)) → IsOnly (running 0 0 readings) input status.Turns output
only readings s text (x, spelled, (e, is, runs)) =
    let one : x.limits.tasks ≡ 1 = tasks_once input x script spelled good in
    let so : run.Ran (record { tasks = 1; jobs = x.limits.jobs; sleeps = x.limits.sleeps }) 0 e text =
    subst (λ t. run.Ran (record { tasks = t; jobs = x.limits.jobs; sleeps = x.limits.sleeps }) 0 e text) one runs.run.ran in
    let found = by_end x.limits.jobs x.limits.sleeps e text so in
    (is ∙ ap run_status found.0, found.1)

pub spent_run_gives : (before after : Option (List ℕ)) (faults later code : ℕ) → faults < 2 ^ 64 - 1 → Ended words input before after faults later code → Gives 8 output before after code
spent_run_gives before after faults later code few p =
    gives words p.0 (view_of (Some input) 0 before faults p.2.0) (view_of p.1 0 after later p.2.1) code (command.Run 0 0) input output status.Turns
    refl refl few p.2.2 is_command refl (lit≤ tt) (script, good) (only p.0) (λ e. p.2.2.turns e)
