use Rattle.std.proofs.Common.{arith, ◌*◌, ◌^◌, refl, ◌∙◌}
use Rattle.mono_wheel.proofs.RunLemmas.{out, one-step}
use Rattle.mono_wheel.proofs.laws.far_key.Goals as goal

pub returns-clause-one_step : goal.returns-clause-one_step
returns-clause-one_step g c =
    one-step c.args.wheel.now c.reserve_entry.new.self c.insert.new.self c.poll.new.self c.in_ok-key.key (5 * 2 ^ 36) c.insert.result c.poll.result
    c.requires.empty c.in_ok-key.ensures.entries (c.in_ok-key.ensures.elapsed ∙ c.requires.elapsed) (omega arith)
    c.insert.ensures.changed c.insert.ensures.cause c.poll.ensures.polled _ _ c.insert.ensures.credit c.poll.ensures.steps refl

pub returns-clause-empty : goal.returns-clause-empty
returns-clause-empty g c =
    out c.args.wheel.now c.reserve_entry.new.self c.insert.new.self c.poll.new.self c.in_ok-key.key (5 * 2 ^ 36) c.insert.result c.poll.result
    c.requires.empty c.in_ok-key.ensures.entries (c.in_ok-key.ensures.elapsed ∙ c.requires.elapsed) (omega arith)
    c.insert.ensures.changed c.insert.ensures.cause c.poll.ensures.polled
