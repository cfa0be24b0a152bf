use Rattle.std.proofs.Common.{◌≡◌, ◌+◌, ◌-◌, arith}
use Rattle.std.specs.Prelude.{slice_index_or}
use Rattle.mono_inbox.proofs.RowLemmas.{row_alone, row_longer}
use Rattle.mono_inbox.proofs.inbox.row_length.Goals as goal

pub loop-next-init : goal.loop-next-init
loop-next-init c = record {
  begun = omega arith;
  inside = omega (arith, c.requires);
  row = row_alone c.args.tasks.now c.args.at;
  last = omega arith;
}

pub loop-next-preserved : goal.loop-next-preserved
loop-next-preserved c =
    let before = c.loop-next.invariant in
    let at = c.args.at in
    let next = c.loop-next.next in
    let first = slice_index_or c.args.tasks.now at 0 in
    let more : slice_index_or c.args.tasks.now next 0 ≡ first + (next - at) = omega (arith, before.last, c.is_next.ensures c.if-is_next.true) in
    record {
      begun = omega (arith, before.begun);
      inside = omega (arith, c.loop-next-test.true);
      row = row_longer c.args.tasks.now at first next before.begun before.row more;
      last = omega (arith, more, before.begun);
    }
