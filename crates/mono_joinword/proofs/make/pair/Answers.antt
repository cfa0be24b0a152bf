use Rattle.std.proofs.Common.{rules, true, false, [], sym, ap, ◌∙◌}
use Rattle.mono_joinword.specs.declared.views.View.TheVariants.{Maker}
use Rattle.mono_joinword.specs.Steps.{number_in}
use Rattle.mono_joinword.proofs.RunnerStepLemmas.{claim_step, split_as}
use Rattle.mono_joinword.proofs.make.pair.Goals as goal

pub load-requires : goal.load-requires
load-requires g c =
    let made = c.in_ok-table.ensures in
    let me = made.4 ∙ ap (λ k. (Maker k false, [])) (sym made.5) in
    (search rules, search rules, claim_step g.O.Outcome.output_number g.W.Wakes.waker_number c.in_ok-table.table.shared.key _ _ _ me)

pub split_seat-other-requires : goal.split_seat-other-requires
split_seat-other-requires g c =
    let made = c.in_ok-table.ensures in
    let me = made.4 ∙ ap (λ k. (Maker k false, [])) (sym made.5) in
    let now = ap (λ m. m.0) c.load.ensures.2 ∙ ap (λ m. Maker (number_in m.0) true) me in
    (search rules, search rules, split_as g.O.Outcome.output_number g.W.Wakes.waker_number c.in_ok-table.table.shared.key _ _ now)
