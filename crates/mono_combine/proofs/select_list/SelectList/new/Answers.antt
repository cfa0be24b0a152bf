use Rattle.std.proofs.Common.{arith}
use Rattle.mono_combine.proofs.select_list.SelectList.new.Goals as goal

pub invariant_of-result : goal.invariant_of-result
invariant_of-result g c = record {
  some = omega (arith, c.mask_each.ensures.length, c.into_iter.ensures.len, c.in-Ok.ensures.len, c.requires.some);
  few = omega (arith, c.mask_each.ensures.length, c.into_iter.ensures.len, c.in-Ok.ensures.len, c.requires.few);
}
