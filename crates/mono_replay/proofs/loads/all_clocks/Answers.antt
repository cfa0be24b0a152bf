use Rattle.std.proofs.Common.{◌≡◌, ◌+◌, ◌-◌, ◌*◌, ◌<◌, ℕ, suc, sym, subst, ap, ◌∙◌, arith, ◌∷◌}
use Rattle.mono_machine.specs.declared.events.Event.TheVariants as event
use Rattle.mono_machine.specs.declared.events.Act.TheVariants as act
use Rattle.mono_model.specs.Random.{seeded, drawn, after_draw}
use Rattle.mono_replay.specs.Load.{Goes, GoesOn, sleep_turn, sleepers, clocks, endings}
use Rattle.mono_replay.proofs.ProgressLemmas.{first_then, stay, one_less, none_left, summed}
use Rattle.mono_replay.proofs.loads.all_clocks.Goals as goal

pub clocks-preserved : goal.clocks-preserved
clocks-preserved c = λ z t rest.
    let j = c.clocks.j in
    let e = one_less 17 j c.clocks-test.true in
    let step : GoesOn c.clocks.exec c.clocks.sum (event.Clock (j * 268435456000000)) c.one.new.exec c.one.new.sum =
    subst (λ n. GoesOn c.clocks.exec c.clocks.sum (event.Clock (n * 268435456000000)) c.one.new.exec c.one.new.sum) c.from.ensures c.in_ok-one.ensures in
    let all = first_then c.clocks.exec c.one.new.exec z c.clocks.sum c.one.new.sum t (event.Clock (j * 268435456000000)) (clocks (j + 1) (17 - (j + 1))) step rest in
    c.clocks.invariant z t (subst (λ n. Goes c.clocks.exec c.clocks.sum (clocks j n) z t) (sym e) all)

pub returns : goal.returns
returns c =
    let e = none_left 17 c.clocks.j (omega (arith, c.clocks-test.false)) in
    c.clocks.invariant c.clocks.exec c.clocks.sum (subst (λ n. Goes c.clocks.exec c.clocks.sum (clocks c.clocks.j n) c.clocks.exec c.clocks.sum) (sym e) (stay c.clocks.exec c.clocks.sum))
