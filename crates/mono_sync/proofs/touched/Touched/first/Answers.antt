use Rattle.std.proofs.Common.{◌≡◌, Some, sym, subst, arith}
use Rattle.mono_sync.specs.Touched.{IsMarked}
use Rattle.mono_sync.proofs.TouchedLemmas.{least, first_below, head_first}
use Rattle.mono_sync.proofs.touched.Touched.first.Goals as goal

pub returns-then-len-gt0-clause-below : goal.returns-then-len-gt0-clause-below
returns-then-len-gt0-clause-below c =
    first_below c.self.inside.keys.items c.self.inside.from c.args.count c.index.result.now c.self.invariant (omega arith) (omega (arith, c.ranges.count.fits)) (head_first c.self.inside.keys.items c.self.inside.from c.args.count c.index.result.now (omega (arith, c.if-len-gt0.true, c.len.ensures, c.self.inside.keys.ok.0)) c.index.ensures)

pub returns-then-len-gt0-clause-least : goal.returns-then-len-gt0-clause-least
returns-then-len-gt0-clause-least c j less marked =
    let before : IsMarked (record { keys = c.self.inside.keys.items; from = c.self.inside.from }) j = subst (λ s. IsMarked s j) (sym c.self.view_is) marked in
    least c.self.inside.keys.items c.self.inside.from c.args.count c.index.result.now c.self.invariant (head_first c.self.inside.keys.items c.self.inside.from c.args.count c.index.result.now (omega (arith, c.if-len-gt0.true, c.len.ensures, c.self.inside.keys.ok.0)) c.index.ensures) j less before
