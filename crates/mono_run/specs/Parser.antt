-- The meaning of a line, as the parser reads it.
use Rattle.std.specs.Prelude.{ℕ, ◌<◌, ◌^◌, List, [], Some, None, codes}
use Rattle.mono_machine.specs.declared.events.Limits.{Limits}
use Rattle.mono_text.specs.Parser.{Read, when, then_read, word_at, number_at}
use Rattle.mono_run.specs.declared.scripts.body.BodyLine.{BodyLine}
use Rattle.mono_run.specs.declared.scripts.body.BodyLine.TheVariants as body

-- the number of a line is in range
abbrev pub Fits : BodyLine → Type 0
Fits (body.Spawn k) = k < 2 ^ 64
Fits (body.Join i) = i < 2 ^ 64
Fits (body.Detach i) = i < 2 ^ 64
Fits (body.AwaitSleep n) = n < 2 ^ 64
Fits (body.Block o) = o < 2 ^ 64
Fits (body.AwaitJob i) = i < 2 ^ 64
Fits (body.DropJob i) = i < 2 ^ 64
Fits body.Yield = Unit {0}

abbrev pub limits_of : ℕ → ℕ → ℕ → Limits
limits_of t j s = record { tasks = t; jobs = j; sleeps = s }

-- three numbers, with a space between two of them
unfoldable pub limits_at : List ℕ → Read Limits
limits_at bytes =
    when (word_at (codes "limits ") bytes)
    (λ r. then_read (number_at r) (λ t p. when (word_at (codes " ") p) (λ q. then_read (number_at q) (λ j u. when (word_at (codes " ") u) (λ v. then_read (number_at v) (λ s w. Some (limits_of t j s, w))) None)) None))
    None
