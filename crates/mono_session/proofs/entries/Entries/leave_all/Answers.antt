use Rattle.std.proofs.Common.{◌∙◌, sym, arith}
use Rattle.mono_session.specs.Entries.{without_first}
use Rattle.mono_session.proofs.LeaveLemmas.{others_first, all_left, is_none, at_most}
use Rattle.mono_session.proofs.entries.Entries.leave_all.Goals as goal

pub loop-preserved : goal.loop-preserved
loop-preserved c = record {
  fewer = omega (arith, c.loop.invariant.fewer, at_most _ _ _ c.leave_first.ensures.count);
  stay = λ entries entered.
      let before = c.loop.invariant.stay entries entered in (
        without_first c.args.session c.leave_first.result before.0,
        c.leave_first.ensures.kept before.0 before.1,
        others_first before.0 c.args.session c.leave_first.result ∙ before.2,
      );
}

pub returns-clause-kept : goal.returns-clause-kept
returns-clause-kept c = λ entries entered.
    let before = c.loop.invariant.stay entries entered in
    all_left c.leave_first.new.self before.0 entries c.args.session c.leave_first.result (is_none c.leave_first.result (sym c.is_some.ensures ∙ c.loop-test.false)) (c.leave_first.ensures.key before.0 before.1)
    (c.leave_first.ensures.kept before.0 before.1) before.2
