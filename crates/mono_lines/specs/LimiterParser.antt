-- The parser on lists of bytes: the result of each function of the reader.
use Rattle.std.specs.Prelude.{ℕ, List, None, codes}
use Rattle.mono_text.specs.Parser.{Read, when, mapped, then_read, word_at, number_at, nanos_at, behind_at}
use Rattle.mono_lines.specs.Pairs.{pair_at}
use Rattle.mono_lines.specs.declared.limit.calls.LimiterCall.{LimiterCall}
use Rattle.mono_lines.specs.declared.limit.calls.LimiterCall.TheVariants as line

-- Three numbers with blanks between them.
abbrev pub retry_at : List ℕ → Read LimiterCall
retry_at bytes = then_read (number_at bytes) (λ base r. then_read (behind_at r) (λ cap q. mapped (line.Retry base cap) (behind_at q)))

-- A call that makes a bucket or a retry, or ends one.
unfoldable pub slow_call_at : List ℕ → Read LimiterCall
slow_call_at bytes =
    when (word_at (codes "bucket ") bytes) (λ r. pair_at line.Bucket r)
    (when (word_at (codes "retry ") bytes) retry_at
    (when (word_at (codes "done ") bytes) (λ r. mapped line.Done (number_at r)) None))

unfoldable pub call_at : List ℕ → Read LimiterCall
call_at bytes =
    when (word_at (codes "take ") bytes) (λ r. pair_at line.Take r)
    (when (word_at (codes "fail ") bytes) (λ r. mapped line.Fail (number_at r))
    (when (word_at (codes "clock ") bytes) (λ r. mapped line.Clock (nanos_at r))
    (slow_call_at bytes)))
