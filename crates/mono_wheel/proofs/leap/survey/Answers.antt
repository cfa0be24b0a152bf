use Rattle.std.proofs.Common.{arith, ◌≡◌, ◌≢◌, ◌+◌, ◌≤◌, ◌<◌, length, set, ap, ◌∙◌, length-set}
use Rattle.mono_wheel.proofs.LeapLemmas.{noted-past, noted-here, noted-falls, noted-is}
use Rattle.mono_wheel.proofs.leap.survey.Goals.{then-entry-ne0+then-entry-limit+then-count-lt-NEAR, then-entry-ne0+then-entry-limit+else-count-lt-NEAR, else-entry-ne0, else-entry-ne0-via-then-entry-ne0+else-entry-limit, else-entry-ne0-via-else-entry-ne0}
use Rattle.mono_wheel.proofs.leap.survey.Goals as goal

pub loop-key-preserved : goal.loop-key-preserved
loop-key-preserved c =
    let same : c.entry-entry.result.registered ≡ c.entry-entry.result.tick = c.if-entry.false in
    elim c.if-entry-ne0.branch [
      | then-entry-ne0+then-entry-limit+then-count-lt-NEAR w ↦
          let low : c.loop-key.count < 512 = w.if-count-lt-NEAR.true in
          let wrote : length c.if-entry-ne0.near ≡ length c.loop-key.near = ap length w.near-is ∙ length-set c.loop-key.near c.loop-key.count c.loop-key.key in
          let long = c.if-entry-ne0.array_long in
          noted-is c.loop-key.limit c.if-entry-ne0.limit (set c.loop-key.near c.loop-key.count c.loop-key.key) c.if-entry-ne0.near (c.loop-key.count + 1) c.if-entry-ne0.count c.args.links.now.table.entries (c.loop-key.key + 1) w.limit-is w.near-is w.count-is
          (noted-here c.loop-key.limit c.loop-key.near c.loop-key.count c.loop-key.key c.args.links.now.table.entries c.entry-entry.result c.loop-key.invariant c.entry-entry.ensures same low (omega (arith, low, wrote, long)))
      | then-entry-ne0+then-entry-limit+else-count-lt-NEAR w ↦
          noted-is c.entry-entry.result.tick c.if-entry-ne0.limit c.loop-key.near c.if-entry-ne0.near c.loop-key.count c.if-entry-ne0.count c.args.links.now.table.entries (c.loop-key.key + 1) w.limit-is w.near-is w.count-is
          (noted-falls c.loop-key.limit c.loop-key.near c.loop-key.count c.loop-key.key c.args.links.now.table.entries c.entry-entry.result c.loop-key.invariant c.entry-entry.ensures same w.if-entry-limit.true)
      | else-entry-ne0 w ↦
          let past : c.entry-entry.result.tick ≢ 0 → c.loop-key.limit ≤ c.entry-entry.result.tick = elim w.else-entry-ne0.branch [
            | else-entry-ne0-via-then-entry-ne0+else-entry-limit v ↦ λ some. (let not = v.if-entry-limit.false in omega (arith, not))
            | else-entry-ne0-via-else-entry-ne0 v ↦ λ some. absurd (let not = v.if-entry-ne0.false in some (omega (arith, not)))
          ] in
          noted-is c.loop-key.limit c.if-entry-ne0.limit c.loop-key.near c.if-entry-ne0.near c.loop-key.count c.if-entry-ne0.count c.args.links.now.table.entries (c.loop-key.key + 1) w.limit-is w.near-is w.count-is
          (noted-past c.loop-key.limit c.loop-key.near c.loop-key.count c.loop-key.key c.args.links.now.table.entries c.entry-entry.result c.loop-key.invariant c.entry-entry.ensures same past)
    ]
