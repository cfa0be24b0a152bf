use Rattle.std.proofs.Common.{refl, sym, subst, ◌∙◌}
use Rattle.lease_server.specs.Dispatch.{KeepsWays}
use Rattle.lease_server.proofs.WayLemmas.{keeps_itself, keeps_on}
use Rattle.lease_server.proofs.splitters.Splitter.take_lines.Goals as goal

pub loop-count-init : goal.loop-count-init
loop-count-init c = record { ways = keeps_itself c.args.self.now.dispatcher; stands = λ text s. s; size = refl }

pub loop-count-preserved : goal.loop-count-preserved
loop-count-preserved c = record {
  ways = keeps_on c.args.self.now.dispatcher c.loop-count.self.dispatcher c.take_line.new.self.dispatcher c.loop-count.invariant.ways c.take_line.ensures.ways;
  stands = λ text s. c.take_line.ensures.stands text (c.loop-count.invariant.stands text s);
  size = c.take_line.ensures.size ∙ c.loop-count.invariant.size;
}

pub returns-in_err-take_line-clause-ways : goal.returns-in_err-take_line-clause-ways
returns-in_err-take_line-clause-ways c =
    keeps_on c.args.self.now.dispatcher c.loop-count.self.dispatcher c.take_line.new.self.dispatcher c.loop-count.invariant.ways c.take_line.ensures.ways

pub returns-clause-ways : goal.returns-clause-ways
returns-clause-ways c = subst (λ d. KeepsWays c.args.self.now.dispatcher d) (sym c.keep_rest.ensures.same) c.loop-count.invariant.ways
