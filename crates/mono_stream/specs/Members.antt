-- The ghost members of the bound as one record, which a clause writes `S.Stream`.
use Rattle.mono_stream.specs.declared.streams.Stream

abbrev pub StreamOf : Type 0 → Type 0 → Type 0 → Type 1
StreamOf S C Item = Stream.Ghosts S C Item
