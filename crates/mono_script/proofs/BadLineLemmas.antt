-- A bad line, named as an output.
use Rattle.std.proofs.Common.{◌≡◌, ℕ, List, length, Option, Some, Result, Ok, Err, IfOk, refl, sym, subst}
use Rattle.mono_script.specs.declared.ends.Status.TheVariants as status
use Rattle.mono_script.specs.declared.ends.Output.{Output}
use Rattle.mono_script.specs.Endings.{Meaning, IsOutput, IsLine, Asks, bad_line_text}
use Rattle.mono_script.specs.declared.ends.Status.{Status}
use Rattle.mono_script.specs.Meanings.{running, run_status}
use Rattle.mono_run.specs.RunRecord.{RunsScript}
use Rattle.mono_run.specs.declared.runs.RunEnd.{RunEnd}
use Rattle.mono_run.specs.declared.runs.RunEnd.TheVariants as ran
use Rattle.mono_run.specs.Script.{Script, IsSound}
use Rattle.mono_run.specs.ScriptText.{Spells}
use Rattle.mono_script.proofs.KindCountLemmas.{sound_alone}

pub named : {E : Type 0} (m : Meaning) (r : Result Output E) (input : List ℕ) (n : ℕ) → m.IsFirstBad input n → IfOk r (λ o. o.status ≡ status.BadLine) → IfOk r (λ o. o.text.items ≡ bad_line_text n)
    → IfOk r (λ o. IsOutput m input o.status o.text.items)
named m (Ok o) input n first is text = subst (λ s. IsOutput m input s o.text.items) (sym is) (n, first, text)
named m (Err e) input n first is text = tt

pub named_line : {E : Type 0} (m : Meaning) (made : Result Output E) (input : List ℕ) (n : ℕ) → m.IsFirstBad input n → IfOk made (λ o. o.status ≡ status.BadLine) → IfOk made (λ o. o.bad_line ≡ Some n)
    → IfOk made (λ o. IsLine m input o.status o.bad_line)
named_line m (Ok o) input n first is line =
    subst (λ s. IsLine m input s o.bad_line) (sym is) (subst (λ l. IsLine m input status.BadLine l) (sym line) first)
named_line m (Err e) input n first is line = tt

-- no thread was asked for before a bad line is named
pub named_asks : {E : Type 0} (workers : ℕ) (made : Result Output E) (starts : ℕ) → IfOk made (λ o. o.status ≡ status.BadLine) → IfOk made (λ o. Asks (Some workers) starts starts o.status)
named_asks workers (Ok o) starts is = subst (Asks (Some workers) starts starts) (sym is) refl
named_asks workers (Err e) starts is = tt

-- the run of a script that the input spells, as an output
pub ran_output : (workers turns : ℕ) (readings : Option (List ℕ)) (input : List ℕ) (script : Script) (e : RunEnd) (s : Status) (text : List ℕ) → s ≡ run_status e → Spells input script
    → (IsSound (length script.kinds) script → RunsScript workers readings script turns e text) → IsOutput (running workers turns readings) input s text
ran_output workers turns readings input script (ran.Output o) s text is spells runs =
    subst (λ x. IsOutput (running workers turns readings) input x text) (sym is) (script, spells, (ran.Output o, refl, runs (sound_alone input script spells)))
ran_output workers turns readings input script ran.Turns s text is spells runs =
    subst (λ x. IsOutput (running workers turns readings) input x text) (sym is) (script, spells, (ran.Turns, refl, runs (sound_alone input script spells)))
ran_output workers turns readings input script ran.Capacity s text is spells runs =
    subst (λ x. IsOutput (running workers turns readings) input x text) (sym is) (script, spells, (ran.Capacity, refl, runs (sound_alone input script spells)))
