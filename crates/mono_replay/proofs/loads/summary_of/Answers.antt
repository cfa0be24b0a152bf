use Rattle.std.proofs.Common.{◌≡◌, ◌+◌, ◌-◌, ◌*◌, ◌<◌, ℕ, suc, sym, subst, ap, ◌∙◌, arith, ◌∷◌}
use Rattle.mono_machine.specs.declared.events.Event.TheVariants as event
use Rattle.mono_machine.specs.declared.events.Act.TheVariants as act
use Rattle.mono_model.specs.Random.{seeded, drawn, after_draw}
use Rattle.mono_replay.specs.Load.{Goes, GoesOn, sleep_turn, sleepers, clocks, endings}
use Rattle.mono_replay.proofs.ProgressLemmas.{first_then, stay, one_less, none_left, summed}
use Rattle.mono_replay.proofs.loads.summary_of.Goals as goal

pub returns : goal.returns
returns c =
    let first : Goes c.args.exec.now (record { fired = 0; refused = 0; order = 0 }) (sleepers 0 c.args.count (seeded c.args.seed)) c.all_sleepers.new.exec c.all_sleepers.new.sum =
    subst (λ r. Goes c.args.exec.now (record { fired = 0; refused = 0; order = 0 }) (sleepers 0 c.args.count r) c.all_sleepers.new.exec c.all_sleepers.new.sum) c.new.ensures c.in_ok-all_sleepers.ensures in
    summed c.args.seed c.args.count c.args.exec.now c.all_sleepers.new.exec c.all_clocks.new.exec c.all_endings.new.exec c.all_sleepers.new.sum c.all_clocks.new.sum c.all_endings.new.sum
    c.requires.start first c.in_ok-all_clocks.ensures c.in_ok-all_endings.ensures
