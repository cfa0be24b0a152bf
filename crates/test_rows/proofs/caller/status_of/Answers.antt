use Rattle.test_rows.proofs.CountLemmas.{never}
use Rattle.std.proofs.Common.{◌≡◌, ◌⊎◌, ℕ, List, ap, ◌∙◌, Some, inl, inr}
use Rattle.mono_machine.specs.declared.events.Limits.{Limits}
use Rattle.mono_machine.specs.declared.events.Blocking.{Blocking}
use Rattle.mono_script.specs.declared.command.Command.TheVariants as command
use Rattle.mono_script.specs.Endings.{IsAnswered, status_code}
use Rattle.mono_script.specs.Meanings.{replaying}
use Rattle.test_rows.proofs.caller.status_of.Goals as goal

pub returns-clause-usage : goal.returns-clause-usage
returns-clause-usage g c = c.program.ensures.usage

pub returns-clause-no_read_fault : goal.returns-clause-no_read_fault
returns-clause-no_read_fault g c = λ e. never (c.program.ensures.read_fault e).0

pub returns-clause-no_write_fault : goal.returns-clause-no_write_fault
returns-clause-no_write_fault g c = λ e. never (c.program.ensures.write_fault e).0

-- an answer of a replay ends with 0
one_of_two : (limits : Limits) (strategy : Blocking) (input : List ℕ) (code : ℕ) → (code ≡ 6) ⊎ IsAnswered (replaying limits strategy) input code → (code ≡ 0) ⊎ (code ≡ 6)
one_of_two limits strategy input code (inl e) = inr e
one_of_two limits strategy input code (inr a) = inl (a.1 ∙ ap status_code a.2.1.0)

pub returns-clause-complete : goal.returns-clause-complete
returns-clause-complete g c = λ limits strategy events words short good.
    one_of_two limits strategy c.args.input.items c.program.result
    (c.program.ensures.complete (command.Replay limits strategy) c.args.input.items words (ap Some c.new-source.ensures) short (events, good) (λ _. never) never)
