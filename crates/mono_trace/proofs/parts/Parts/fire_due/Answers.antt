use Rattle.std.proofs.Common.{ap, sym, ◌∙◌}
use Rattle.mono_machine.specs.Steps.{after_fires}
use Rattle.mono_trace.specs.Trials.{are_in_turn}
use Rattle.mono_trace.proofs.FireListLemmas.{not_told, told_if}
use Rattle.mono_trace.proofs.parts.Parts.fire_due.Goals as goal

pub returns-then-not-branch-clause-tried : goal.returns-then-not-branch-clause-tried
returns-then-not-branch-clause-tried c = (
  not_told c.args.self.now.now c.args.n c.args.fired.now
      (ap (λ b. are_in_turn b.now.sleeps.table b.now.sleeps.greatest 0 0 c.args.fired.now) (sym c.at_clock.ensures) ∙ sym c.in_ok-fire_all.ensures.told ∙ c.if-not-branch.true),
  c.in_ok-fire_all.ensures.before ∙ ap (λ b. b.before) c.at_clock.ensures,
)

pub returns-then-not-branch-clause-before : goal.returns-then-not-branch-clause-before
returns-then-not-branch-clause-before c = c.in_ok-fire_all.ensures.before ∙ ap (λ b. b.before) c.at_clock.ensures

pub returns-clause-tried : goal.returns-clause-tried
returns-clause-tried c =
    told_if c.args.self.now c.fire_all.new.self c.args.n c.args.fired.now c.is_none_due-told.result c.requires
    (ap (λ b. are_in_turn b.now.sleeps.table b.now.sleeps.greatest 0 0 c.args.fired.now) (sym c.at_clock.ensures) ∙ sym c.in_ok-fire_all.ensures.told ∙ c.if-not-branch.false)
    (c.in_ok-fire_all.ensures.machine c.if-not-branch.false ∙ ap (λ b. after_fires b.now c.args.fired.now) c.at_clock.ensures)
    (c.in_ok-fire_all.ensures.before ∙ ap (λ b. b.before) c.at_clock.ensures)
    c.is_none_due-told.ensures

pub returns-clause-before : goal.returns-clause-before
returns-clause-before c = c.in_ok-fire_all.ensures.before ∙ ap (λ b. b.before) c.at_clock.ensures
