-- The bytes that are printed for an error.
use Rattle.std.specs.Prelude.{ℕ, List, codes}
use Rattle.mono_rt.specs.declared.parts.errors.RunError.{RunError}
use Rattle.mono_rt.specs.declared.parts.errors.RunError.TheVariants.{Memory, AtCapacity, Driver, Turns}

abbrev pub text_of : RunError → List ℕ
text_of Memory = codes "out of memory"
text_of AtCapacity = codes "no place for the main task"
text_of Driver = codes "the driver failed"
text_of Turns = codes "the turns were spent"
