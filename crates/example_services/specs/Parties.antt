-- A party that has answered.
use Rattle.std.specs.Prelude.{Bool}
use Rattle.mono_time.specs.Naps.{nap_spent}
use Rattle.mono_forms.specs.Spent.{timeout_for_spent}
use Rattle.mono_serve.specs.Spent.{take_spent}
use Rattle.example_services.specs.declared.takes.takers.Party.{Party}
use Rattle.example_services.specs.declared.takes.takers.Party.TheVariants.{Takes, Naps}

abbrev pub is_over : Party → Bool
is_over (Takes limited name) = timeout_for_spent take_spent limited
is_over (Naps nap) = nap_spent nap
