-- The parser on lists of bytes: the result of each of its functions.
use Rattle.std.specs.Prelude.{ℕ, zero, suc, Bool, true, false, List, [], ◌∷◌, ◌++◌, length, Some, None, codes}
use Rattle.mono_text.specs.Parser.{Read, when, mapped, then_read, word_at, number_at, nanos_at}
use Rattle.mono_lines.specs.Pairs.{pair_at}
use Rattle.mono_lines.specs.declared.actor.words.Handed.{Handed}
use Rattle.mono_lines.specs.declared.actor.words.ActorLine.{ActorLine}
use Rattle.mono_lines.specs.declared.actor.words.ActorLine.TheVariants as line

abbrev pub handed_with : ℕ → ℕ → Handed
handed_with to message = record { to = to; message = message }

unfoldable pub handed_at : List ℕ → Read Handed
handed_at bytes = pair_at handed_with bytes

-- A message from an actor, after its word.
unfoldable pub send_at : List ℕ → Read ActorLine
send_at bytes = then_read (number_at bytes) (λ from rest. when (word_at (codes " ") rest) (λ r. mapped (λ (h : Handed). line.Send from h.to h.message) (handed_at r)) None)

unfoldable pub timeout_at : List ℕ → Read ActorLine
timeout_at bytes = pair_at line.Timeout bytes

-- How a turn ends: whether its actor stops.
unfoldable pub stop_at : List ℕ → Read Bool
stop_at bytes = when (word_at (codes "stay") bytes) (λ r. Some (false, r)) (when (word_at (codes "stop") bytes) (λ r. Some (true, r)) None)

abbrev pub stops_or : {A B : Type 0} → (A → B) → Read A → Read B → Read B
stops_or make None other = other
stops_or make (Some x) other = Some (make x.0, x.1)

-- A message that the running actor sends, with its word.
unfoldable pub part_at : List ℕ → Read Handed
part_at bytes = when (word_at (codes "send ") bytes) handed_at None

-- The parts of a turn: those read so far, and at most `most` further ones.
unfoldable pub parts_at : ℕ → List Handed → List ℕ → Read ActorLine
parts_at zero front bytes = None
parts_at (suc most) front bytes =
    when (word_at (codes "; ") bytes)
    (λ r. stops_or (line.Turn front) (stop_at r) (then_read (part_at r) (λ h rest. parts_at most (front ++ h ∷ []) rest)))
    None

abbrev pub turn_at : List ℕ → Read ActorLine
turn_at bytes = parts_at (suc (length bytes)) [] bytes

-- A call that is no turn.
unfoldable pub plain_at : List ℕ → Read ActorLine
plain_at bytes =
    when (word_at (codes "actor") bytes) (λ r. Some (line.Actor, r))
    (when (word_at (codes "send ") bytes) send_at
    (when (word_at (codes "timeout ") bytes) timeout_at
    (when (word_at (codes "clock ") bytes) (λ r. mapped line.Clock (nanos_at r)) None)))

unfoldable pub call_at : List ℕ → Read ActorLine
call_at bytes = when (word_at (codes "turn") bytes) turn_at (plain_at bytes)
