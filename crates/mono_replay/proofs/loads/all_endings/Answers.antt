use Rattle.std.proofs.Common.{◌≡◌, ◌+◌, ◌-◌, ◌*◌, ◌<◌, ℕ, suc, sym, subst, ap, ◌∙◌, arith, [], ◌∷◌}
use Rattle.mono_machine.specs.declared.events.Event.TheVariants as event
use Rattle.mono_machine.specs.declared.events.End.TheVariants as end
use Rattle.mono_model.specs.Random.{seeded, drawn, after_draw}
use Rattle.mono_replay.specs.Load.{Goes, GoesOn, sleep_turn, sleepers, clocks, endings}
use Rattle.mono_replay.proofs.ProgressLemmas.{first_then, stay, one_less, none_left, summed}
use Rattle.mono_replay.proofs.loads.all_endings.Goals as goal

pub endings-preserved-in_ok-one : goal.endings-preserved-in_ok-one
endings-preserved-in_ok-one c = λ z t rest.
    let e : c.endings.left ≡ suc (c.endings.left - 1) = omega (arith, c.endings-test.true) in
    let turn = event.Turn [] (end.Ready 0) in
    let step : GoesOn c.endings.exec c.endings.sum turn c.one.new.exec c.one.new.sum =
    subst (λ steps. GoesOn c.endings.exec c.endings.sum (event.Turn steps (end.Ready 0)) c.one.new.exec c.one.new.sum) c.new.ensures c.in_ok-one.ensures in
    let all = first_then c.endings.exec c.one.new.exec z c.endings.sum c.one.new.sum t turn (endings (c.endings.left - 1)) step rest in
    c.endings.invariant z t (subst (λ n. Goes c.endings.exec c.endings.sum (endings n) z t) (sym e) all)

pub returns : goal.returns
returns c =
    let e : c.endings.left ≡ 0 = omega (arith, c.endings-test.false) in
    c.endings.invariant c.endings.exec c.endings.sum (subst (λ n. Goes c.endings.exec c.endings.sum (endings n) c.endings.exec c.endings.sum) (sym e) (stay c.endings.exec c.endings.sum))
