-- The output of a load without sleeps.
use Rattle.std.proofs.Common.{◌≡◌, ℕ, zero, suc, ◌+◌, ◌*◌, ◌^◌, ◌-◌, ◌<◌, ◌≤◌, List, [], ◌∷◌, ◌++◌, length, flat_map, Option, Some, codes, lit≤, lit<, refl, ap, subst, ◌∙◌, arith}
use Rattle.mono_model.specs.Sleeps.{MayFire}
use Rattle.mono_machine.specs.Machine.{Machine, start_machine}
use Rattle.mono_machine.specs.Steps.{Run, after_fires, at_clock, greatest_at}
use Rattle.mono_machine.specs.declared.events.Blocking.TheVariants as blocking
use Rattle.mono_machine.specs.declared.events.Report.{Report}
use Rattle.mono_machine.specs.declared.events.Report.TheVariants as report
use Rattle.mono_replay.specs.Load.{load_limits, clocks, fired_in, total_of, refusals_in, order_from}
use Rattle.mono_script.specs.declared.command.Command.TheVariants as command
use Rattle.mono_script.specs.declared.ends.Status.TheVariants as status
use Rattle.mono_script.specs.Command.{IsCommand}
use Rattle.mono_script.specs.Meanings.{loading}
use Rattle.mono_script.specs.TopCall.{view_of}
use Rattle.example_checks.specs.Outputs.{line, Gives, Ended}
use Rattle.example_checks.proofs.NumberTextLemmas.{zero_text, one_text, sixteen_text}
use Rattle.example_checks.proofs.OutputLemmas.{IsOnly, gives}

abbrev pub words : List (List ℕ)
words = codes "load" ∷ codes "1" ∷ codes "0" ∷ []

abbrev pub output : List ℕ
output = line (codes "events 16 fired 0 refused 0 order 0")

is_command : IsCommand words (command.Load 1 0)
is_command = record { text = rw (zero_text, one_text) refl; fit = (lit< tt, lit≤ tt) }

-- a clock step without sleeps lists none
none_fire : (g : ℕ) (fired : List ℕ) → MayFire [] g fired → fired ≡ []
none_fire g [] may = refl
none_fire g (s ∷ fired) may = absurd ((may.all_due s).0 (0, omega arith, refl))

-- these reports have no sleep and no refusal
record Rests (told : List Report) : Type 0 where
  fired : flat_map fired_in told ≡ []
  refused : total_of refusals_in told ≡ 0

all_rest : (n j : ℕ) (m : Machine) (told : List Report) (last : Machine) → j + n ≤ 17 → m.sleeps.table ≡ [] → Run m (clocks j n) told last → Rests told
all_rest zero j m [] last few none r = record { fired = refl; refused = refl }
all_rest zero j m (a ∷ told) last few none r = absurd r
all_rest (suc n) j m [] last few none r = absurd r
all_rest (suc n) j m (report.Fired fired ∷ told) last few none r =
    let empty : fired ≡ [] = none_fire (greatest_at m (j * 268435456000000)) fired (subst (λ t. MayFire t (greatest_at m (j * 268435456000000)) fired) none r.1.1) in
    let mid : r.0 ≡ at_clock m (j * 268435456000000) = r.1.2 ∙ ap (after_fires (at_clock m (j * 268435456000000))) empty in
    let rest : Rests told = all_rest n (j + 1) r.0 told last (omega (arith, few)) (ap (λ x. x.sleeps.table) mid ∙ none) r.2 in
    record { fired = ap (λ xs. xs ++ flat_map fired_in told) empty ∙ rest.fired; refused = omega (arith, rest.refused) }
all_rest (suc n) j m (report.Reply a ∷ told) last few none r = absurd (omega (arith, few, r.1.0))
all_rest (suc n) j m (report.Turn t replies ended ∷ told) last few none r = absurd r.1
all_rest (suc n) j m (report.Listed ∷ told) last few none r = absurd r.1
all_rest (suc n) j m (report.Unlisted ∷ told) last few none r = absurd r.1
all_rest (suc n) j m (report.Drained tasks ∷ told) last few none r = absurd r.1

only : IsOnly (loading 1 0) [] status.Done output
only s text (is, (sum, summed, written)) =
    let rests : Rests summed.reports = all_rest 16 1 (start_machine (load_limits 0) blocking.Panic) summed.reports summed.last (lit≤ tt) refl summed.run in
    let events : sum.events ≡ 16 = summed.events in
    let fired : sum.fired ≡ 0 = summed.fired ∙ ap length rests.fired in
    let refused : sum.refused ≡ 0 = summed.refused ∙ rests.refused in
    let order : sum.order ≡ 0 = summed.order ∙ ap (order_from 0) rests.fired in
    (is, written ∙ rw (events, fired, refused, order, zero_text, sixteen_text) refl)

pub load_gives : (before after : Option (List ℕ)) (faults later code : ℕ) → faults < 2 ^ 64 - 1 → Ended words [] before after faults later code → Gives 0 output before after code
load_gives before after faults later code few p =
    gives words p.0 (view_of (Some []) 0 before faults p.2.0) (view_of p.1 0 after later p.2.1) code (command.Load 1 0) [] output status.Done
    refl refl few p.2.2 is_command refl (lit≤ tt) tt only (λ e. p.2.2.done e)
