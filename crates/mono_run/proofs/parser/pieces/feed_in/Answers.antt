use Rattle.std.proofs.Common.{◌≡◌, ◌+◌, suc, subst, take, arith}
use Rattle.mono_text.specs.Services.{HasNoFeed}
use Rattle.mono_run.proofs.LineCutLemmas.{feed_more, no_feed_all}
use Rattle.mono_run.proofs.parser.pieces.feed_in.Goals as goal

pub bytes-preserved : goal.bytes-preserved
bytes-preserved c =
    let next : suc c.bytes.i ≡ c.bytes.i + 1 = omega arith in
    subst (λ n. HasNoFeed (take n c.args.text.now)) next (feed_more c.args.text.now c.bytes.i c.bytes-test.true c.bytes.invariant c.if-text-i-eq10.false)

pub returns-clause-none : goal.returns-clause-none
returns-clause-none c = no_feed_all c.args.text.now c.bytes.i (omega arith) c.bytes.invariant
