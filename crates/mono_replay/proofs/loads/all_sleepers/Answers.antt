use Rattle.std.proofs.Common.{◌≡◌, ◌+◌, ◌-◌, ◌*◌, ◌<◌, ℕ, suc, sym, subst, ap, ◌∙◌, arith, ◌∷◌}
use Rattle.mono_machine.specs.declared.events.Event.TheVariants as event
use Rattle.mono_machine.specs.declared.events.Act.TheVariants as act
use Rattle.mono_model.specs.Random.{seeded, drawn, after_draw}
use Rattle.mono_replay.specs.Load.{Goes, GoesOn, sleep_turn, sleepers, clocks, endings}
use Rattle.mono_replay.proofs.ProgressLemmas.{first_then, stay, one_less, none_left, summed}
use Rattle.mono_replay.proofs.loads.all_sleepers.Goals as goal

pub sleepers-preserved : goal.sleepers-preserved
sleepers-preserved c = λ z t rest.
    let k = c.sleepers.k in
    let n = c.args.count - (k + 1) in
    let draws = c.sleepers.draws in
    let e = one_less c.args.count k c.sleepers-test.true in
    let behind : Goes c.one_sleep.new.exec c.one_sleep.new.sum (sleepers (k + 1) n (after_draw draws)) z t =
    subst (λ r. Goes c.one_sleep.new.exec c.one_sleep.new.sum (sleepers (k + 1) n r) z t) c.fastrand-millis.ensures.next rest in
    let second : GoesOn c.one.new.exec c.one.new.sum (sleep_turn k (drawn draws)) c.one_sleep.new.exec c.one_sleep.new.sum =
    subst (λ v. GoesOn c.one.new.exec c.one.new.sum (sleep_turn k v) c.one_sleep.new.exec c.one_sleep.new.sum) c.fastrand-millis.ensures.value c.in_ok-one_sleep.ensures in
    let more = first_then c.one.new.exec c.one_sleep.new.exec z c.one.new.sum c.one_sleep.new.sum t (sleep_turn k (drawn draws)) (sleepers (k + 1) n (after_draw draws)) second behind in
    let all = first_then c.sleepers.exec c.one.new.exec z c.sleepers.sum c.one.new.sum t (event.Act act.Spawn) (sleep_turn k (drawn draws) ∷ sleepers (k + 1) n (after_draw draws)) c.in_ok-one.ensures more in
    c.sleepers.invariant z t (subst (λ m. Goes c.sleepers.exec c.sleepers.sum (sleepers k m draws) z t) (sym e) all)

pub returns : goal.returns
returns c =
    let e = none_left c.args.count c.sleepers.k (omega (arith, c.sleepers-test.false)) in
    c.sleepers.invariant c.sleepers.exec c.sleepers.sum (subst (λ n. Goes c.sleepers.exec c.sleepers.sum (sleepers c.sleepers.k n c.sleepers.draws) c.sleepers.exec c.sleepers.sum) (sym e) (stay c.sleepers.exec c.sleepers.sum))
