use Rattle.std.proofs.Common.{arith}
use Rattle.mono_groups.proofs.CancelLemmas.{first_done, next_done}
use Rattle.mono_groups.proofs.tokens.cancel_from.Goals as goal

pub loop-child-init : goal.loop-child-init
loop-child-init c =
    record {
      len = c.len-len.ensures;
      done = first_done c.args.nodes.now c.requires.grown c.args.key c.mark.new.nodes c.mark.ensures;
      after = omega arith;
    }

pub loop-child-preserved : goal.loop-child-preserved
loop-child-preserved c =
    record {
      len = c.loop-child.invariant.len;
      done = next_done c.args.nodes.now c.requires.grown c.args.key c.loop-child.nodes c.loop-child.child c.loop-child.invariant.done c.loop-child.invariant.after c.follow.new.nodes c.follow.ensures;
      after = omega (arith, c.loop-child.invariant.after);
    }
