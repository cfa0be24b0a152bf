-- What a world draws by its seed, as numbers.
use Rattle.std.specs.Prelude.{ℕ, ◌+◌, ◌*◌, ◌==◌, zero, suc, Bool, true, false, if◌then◌else◌}
use Rattle.mono_model.specs.declared.random.FastRand.{FastRand}
use Rattle.mono_model.specs.Random.{after_draw, drawn_below}
use Rattle.mono_sim.specs.declared.draws.Odds.{Odds}

-- Whether a draw hits that is to hit one time in n; it never does if n is 0.
abbrev pub hit : FastRand → ℕ → Bool
hit r n = if n == 0 then false else (drawn_below r n == 0)

-- Whether a draw that is to hit one time in n may hit.
abbrev pub may_hit : ℕ → Bool
may_hit zero = false
may_hit (suc n) = true

-- The generator after it. Nothing is drawn if n is 0.
abbrev pub after_hit : FastRand → ℕ → FastRand
after_hit r n = if n == 0 then r else after_draw r

-- How far the clock jumps ahead, in nanoseconds.
abbrev pub jump_drawn : FastRand → Odds → ℕ
jump_drawn r odds = if hit r odds.jumps then (drawn_below (after_hit r odds.jumps) odds.longest + 1) * 1000000 else 0

abbrev pub after_jump : FastRand → Odds → FastRand
after_jump r odds = if hit r odds.jumps then after_draw (after_hit r odds.jumps) else after_hit r odds.jumps
