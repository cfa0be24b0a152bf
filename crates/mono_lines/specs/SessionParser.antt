-- The parser on lists of bytes: the call at their start, and the rest after it.
use Rattle.std.specs.Prelude.{ℕ, List, None, codes}
use Rattle.mono_text.specs.Parser.{Read, when, mapped, word_at, number_at, nanos_at}
use Rattle.mono_lines.specs.Pairs.{pair_at}
use Rattle.mono_lines.specs.declared.session.calls.SessionCall.{SessionCall}
use Rattle.mono_lines.specs.declared.session.calls.SessionCall.TheVariants as line

-- A call on the queues.
unfoldable pub queue_call_at : List ℕ → Read SessionCall
queue_call_at bytes =
    when (word_at (codes "acquire ") bytes) (λ r. pair_at line.Acquire r)
    (when (word_at (codes "release ") bytes) (λ r. pair_at line.Release r)
    (when (word_at (codes "owner ") bytes) (λ r. mapped line.Owner (number_at r)) None))

unfoldable pub call_at : List ℕ → Read SessionCall
call_at bytes =
    when (word_at (codes "beat ") bytes) (λ r. mapped line.Beat (number_at r))
    (when (word_at (codes "clock ") bytes) (λ r. mapped line.Clock (nanos_at r))
    (when (word_at (codes "open ") bytes) (λ r. mapped line.Open (number_at r))
    (when (word_at (codes "close ") bytes) (λ r. mapped line.Close (number_at r)) (queue_call_at bytes))))
