-- The branch at which a select begins.
use Rattle.std.specs.Prelude.{ℕ}
use Rattle.mono_combine.specs.declared.start.Start.{Start}
use Rattle.mono_combine.specs.declared.start.Start.TheVariants.{Biased, Random}
use Rattle.mono_model.specs.Random.{drawn_below, after_draw}

-- The first branch to poll, among the given number of branches.
abbrev pub start_of : Start → ℕ → ℕ
start_of Biased branches = 0
start_of (Random r) branches = drawn_below r branches

abbrev pub next_start : Start → Start
next_start Biased = Biased
next_start (Random r) = Random (after_draw r)
