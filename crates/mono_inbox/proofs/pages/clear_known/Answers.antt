use Rattle.std.proofs.Common.{◌<◌, ◌+◌, length, get_or, refl, ap, ◌∙◌, arith}
use Rattle.std.specs.Prelude.{slice_set}
use Rattle.mono_inbox.specs.declared.standings.Standing.TheVariants.{Unknown}
use Rattle.mono_inbox.specs.Standings.{without_row}
use Rattle.mono_inbox.proofs.RowRemovalLemmas.{length-without, without_more, known_more}
use Rattle.mono_inbox.proofs.pages.clear_known.Goals as goal

pub loop-row-init : goal.loop-row-init
loop-row-init c = record {
  most = omega arith;
  inside = omega arith;
  known = λ i begun below. absurd (omega (arith, begun, below));
  items = refl;
  room = refl;
}

pub overflow_add-at : goal.overflow_add-at
overflow_add-at c = omega (arith, c.loop-row.invariant.inside, c.requires)

pub index-requires : goal.index-requires
index-requires c = omega (arith, ap length c.loop-row.invariant.items, length-without c.args.standings.now.items c.args.at c.loop-row.row)

pub index_mut-requires : goal.index_mut-requires
index_mut-requires c = omega (arith, ap length c.loop-row.invariant.items, length-without c.args.standings.now.items c.args.at c.loop-row.row)

pub loop-row-preserved : goal.loop-row-preserved
loop-row-preserved c =
    let old = c.args.standings.now.items in
    let at = c.args.at in
    let row = c.loop-row.row in
    let before = c.loop-row.invariant in
    let here : at + row < length (without_row old at row) = omega (arith, c.if-at-row.true, c.len-until.ensures, length-without old at row) in
    record {
      most = omega (arith, c.loop-row-test.true);
      inside = omega (arith, c.if-at-row.true, c.len-until.ensures);
      known = known_more old at row c.index.result.now before.known here (c.index.ensures ∙ ap (λ xs. get_or xs (at + row) c.index.result.now) before.items) (c.is_idle.ensures c.if-is_idle.true);
      items = ap (λ xs. slice_set xs (at + row) Unknown) before.items ∙ without_more old at row;
      room = before.room;
    }
