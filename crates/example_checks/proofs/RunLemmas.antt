-- The output of a run whose script has no place for a task.
use Rattle.std.proofs.Common.{◌≡◌, ℕ, ◌^◌, ◌-◌, ◌<◌, List, [], ◌∷◌, ◌++◌, map, Option, Some, codes, lit≤, lit<, refl, ap, subst, ◌∙◌}
use Rattle.mono_run.specs.Script.{Script}
use Rattle.mono_run.specs.ScriptText.{Spells}
use Rattle.mono_run.specs.Journal.{journal_text}
use Rattle.mono_run.specs.RunRecord.{Ran, answer_of, told}
use Rattle.mono_rt.specs.Rounds.{output_in}
use Rattle.mono_run.specs.declared.runs.RunEnd.{RunEnd}
use Rattle.mono_run.specs.declared.runs.RunEnd.TheVariants as ran
use Rattle.mono_run.proofs.MainPlaceLemmas.{full_at}
use Rattle.mono_script.specs.declared.command.Command.TheVariants as command
use Rattle.mono_script.specs.declared.ends.Status.TheVariants as status
use Rattle.mono_script.specs.Command.{IsCommand}
use Rattle.mono_script.specs.Meanings.{running, run_status}
use Rattle.mono_script.specs.TopCall.{view_of}
use Rattle.mono_script.proofs.MainPlaceLemmas.{tasks_once}
use Rattle.example_checks.specs.Outputs.{line, Gives, Ended}
use Rattle.example_checks.proofs.NumberTextLemmas.{zero_text, one_text}
use Rattle.example_checks.proofs.OutputLemmas.{IsOnly, gives}

abbrev pub words : List (List ℕ)
words = codes "run" ∷ codes "0" ∷ codes "1" ∷ []

abbrev pub input : List ℕ
input = line (codes "limits 0 1 1") ++ line (codes "task") ++ line (codes "done 1")

abbrev pub output : List ℕ
output = line (codes "spawn -> refused at-capacity")

is_command : IsCommand words (command.Run 0 1)
is_command = record { text = rw (zero_text, one_text) refl; fit = (lit≤ tt, lit≤ tt) }

abbrev script : Script
script = record { limits = record { tasks = 0; jobs = 1; sleeps = 1 }; kinds = record { body = []; output = 1 } ∷ [] }

good : Spells input script
good = record {
  sound = record {
    limits = record { tasks = lit< tt; jobs = lit< tt; sleeps = lit< tt };
    some = lit≤ tt;
    few = lit≤ tt;
    each = (record { few = lit≤ tt; each = tt; output = lit< tt }, tt);
  };
  text = rw (zero_text, one_text) refl;
}

full_text : (x : Script) (text : List ℕ) → Ran x.limits 1 ran.Capacity text → text ≡ output
full_text x text r = r.text ∙ ap (λ es. journal_text (map told es) (output_in (answer_of ran.Capacity))) r.blocked.0

only : (readings : Option (List ℕ)) → IsOnly (running 0 1 readings) input status.Capacity output
only readings s text (x, spelled, (e, is, runs)) =
    let ran_so : Ran x.limits 1 e text = runs.run.ran in
    let full : e ≡ ran.Capacity = (full_at x.limits 1 e text ran_so).1 (tasks_once input x script spelled good) in
    (is ∙ ap run_status full, full_text x text (subst (λ (o : RunEnd). Ran x.limits 1 o text) full ran_so))

pub run_gives : (before after : Option (List ℕ)) (faults later code : ℕ) → faults < 2 ^ 64 - 1 → Ended words input before after faults later code → Gives 10 output before after code
run_gives before after faults later code few p =
    gives words p.0 (view_of (Some input) 0 before faults p.2.0) (view_of p.1 0 after later p.2.1) code (command.Run 0 1) input output status.Capacity
    refl refl few p.2.2 is_command refl (lit≤ tt) (script, good) (only p.0) (λ e. p.2.2.capacity e)
