-- Which futures over streams have answered for good. Such a future may not be polled.
use Rattle.std.specs.Prelude.{Bool}
use Rattle.mono_stream.specs.declared.for_each.ForEach.{ForEach}
use Rattle.mono_stream.specs.declared.next.Next.{Next}

abbrev pub next_spent : {S : Type 0} → Next S → Bool
next_spent f = f.has_ended

abbrev pub for_each_spent : {S F Fut : Type 0} → ForEach S F Fut → Bool
for_each_spent f = f.has_ended
