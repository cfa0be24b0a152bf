-- The undoing of a queue's changes.
use Rattle.std.specs.Prelude.{ℕ, ◌-◌, List, [], ◌∷◌, length, take}
use Rattle.mono_trace.specs.declared.queues.Move.{Move}
use Rattle.mono_trace.specs.declared.queues.Move.TheVariants.{Put, Took}

abbrev pub without_move : Move → List ℕ → List ℕ
without_move Put queue = take (length queue - 1) queue
without_move (Took t) queue = t ∷ queue

abbrev pub unmoved : List Move → List ℕ → List ℕ
unmoved [] queue = queue
unmoved (move ∷ moves) queue = without_move move (unmoved moves queue)
