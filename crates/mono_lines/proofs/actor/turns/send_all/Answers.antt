use Rattle.std.proofs.Common.{◌∙◌, ◌++◌, ap}
use Rattle.mono_lines.specs.ActorReplies.{answer_of}
use Rattle.mono_lines.proofs.ActorCallLemmas.{one_sent, all_sent, part_put}
use Rattle.mono_lines.proofs.actor.turns.send_all.Goals as goal

pub loop-handed-preserved : goal.loop-handed-preserved
loop-handed-preserved c =
    let put = part_put c.loop-handed.out.items c.put_word.new.out.items c.put_told.new.out.items (answer_of c.in_ok-told.told) (c.in_ok-put_word.ensures ∙ ap (λ word. c.loop-handed.out.items ++ word) c.as_slice.ensures) c.in_ok-put_told.ensures in (
      one_sent _ _ c.loop-handed.handed-index _ _ _ _ _ c.loop-handed.out.items c.put_told.new.out.items (answer_of c.in_ok-told.told) c.loop-handed-test.true c.loop-handed.invariant.0 c.in_ok-told.ensures.step put,
      c.in_ok-told.ensures.turn ∙ c.loop-handed.invariant.1,
    )

pub returns-clause-sends : goal.returns-clause-sends
returns-clause-sends c = all_sent _ _ c.loop-handed.handed-index _ _ _ _ c.loop-handed-test.false c.loop-handed.invariant.0
