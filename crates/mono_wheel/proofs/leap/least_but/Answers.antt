use Rattle.std.proofs.Common.{arith, ◌≢◌, ◌≤◌, slice_index_or}
use Rattle.mono_wheel.proofs.LeapLemmas.{below-more}
use Rattle.mono_wheel.proofs.leap.least_but.Goals.{then-near-place+then-tick-ne0+then-tick-least, else-near-place, else-near-place-via-then-near-place+then-tick-ne0+else-tick-least, else-near-place-via-then-near-place+else-tick-ne0, else-near-place-via-else-near-place}
use Rattle.mono_wheel.proofs.leap.least_but.Goals as goal

pub loop-place-preserved : goal.loop-place-preserved
loop-place-preserved c =
    let low : c.if-near-place.least ≤ c.loop-place.least = elim c.if-near-place.branch [
      | then-near-place+then-tick-ne0+then-tick-least w ↦ let a = w.least-is in let b = w.if-tick-least.true in omega (arith, a, b)
      | else-near-place w ↦ let a = w.least-is in omega (arith, a)
    ] in
    let here : slice_index_or c.args.near.now c.loop-place.place 0 ≢ c.args.key → c.entry-tick.result.tick ≢ 0 → c.if-near-place.least ≤ c.entry-tick.result.tick = elim c.if-near-place.branch [
      | then-near-place+then-tick-ne0+then-tick-least w ↦ λ other some. let a = w.least-is in omega (arith, a)
      | else-near-place w ↦ λ other some. elim w.else-near-place.branch [
        | else-near-place-via-then-near-place+then-tick-ne0+else-tick-least v ↦ let a = w.least-is in let b = v.if-tick-least.false in omega (arith, a, b)
        | else-near-place-via-then-near-place+else-tick-ne0 v ↦ absurd (some v.if-tick-ne0.false)
        | else-near-place-via-else-near-place v ↦ absurd (other v.if-near-place.false)
      ]
    ] in
    let before = c.loop-place.invariant in
    let within = before.0 in
    (omega (arith, low, within), below-more c.args.links.now.table.entries c.args.near.now c.args.key c.loop-place.least c.if-near-place.least c.loop-place.place c.entry-tick.result c.entry-tick.ensures low here before.1)
