-- The parser on lists of bytes: the call at their start, and the rest after it.
use Rattle.std.specs.Prelude.{ℕ, List, None, codes}
use Rattle.mono_text.specs.Parser.{Read, when, mapped, then_read, word_at, number_at, behind_at}
use Rattle.lease_core.specs.declared.requests.Call.TheVariants as call
use Rattle.lease_lines.specs.declared.calls.KeyCall.{KeyCall}

-- A key and the numbers after it, each behind a blank.
abbrev pub one_at : List ℕ → Read (ℕ × ℕ)
one_at bytes = then_read (number_at bytes) (λ key r. mapped (λ a. (key, a)) (behind_at r))

abbrev pub two_at : List ℕ → Read (ℕ × ℕ × ℕ)
two_at bytes = then_read (number_at bytes) (λ key r. then_read (behind_at r) (λ a r. mapped (λ b. (key, a, b)) (behind_at r)))

abbrev pub three_at : List ℕ → Read (ℕ × ℕ × ℕ × ℕ)
three_at bytes =
    then_read (number_at bytes) (λ key r. then_read (behind_at r) (λ a r. then_read (behind_at r) (λ b r. mapped (λ c. (key, a, b, c)) (behind_at r))))

unfoldable pub look_call_at : List ℕ → Read KeyCall
look_call_at bytes =
    when (word_at (codes "try ") bytes) (λ r. mapped (λ n. record { key = n.0; call = call.Try n.1 }) (one_at r))
    (when (word_at (codes "owner ") bytes) (λ r. mapped (λ key. record { key = key; call = call.Owner }) (number_at r))
    (when (word_at (codes "stats ") bytes) (λ r. mapped (λ key. record { key = key; call = call.Count }) (number_at r)) None))

unfoldable pub mail_call_at : List ℕ → Read KeyCall
mail_call_at bytes =
    when (word_at (codes "send ") bytes) (λ r. mapped (λ n. record { key = n.0; call = call.Send n.1 n.2 n.3 }) (three_at r))
    (when (word_at (codes "receive ") bytes) (λ r. mapped (λ key. record { key = key; call = call.Receive }) (number_at r))
    (when (word_at (codes "spawn ") bytes) (λ r. mapped (λ key. record { key = key; call = call.Spawn }) (number_at r)) (look_call_at bytes)))

unfoldable pub token_call_at : List ℕ → Read KeyCall
token_call_at bytes =
    when (word_at (codes "take ") bytes) (λ r. mapped (λ n. record { key = n.0; call = call.Take n.1 n.2 }) (two_at r))
    (when (word_at (codes "bucket ") bytes) (λ r. mapped (λ n. record { key = n.0; call = call.Bucket n.1 n.2 }) (two_at r)) (mail_call_at bytes))

unfoldable pub call_at : List ℕ → Read KeyCall
call_at bytes =
    when (word_at (codes "acquire ") bytes) (λ r. mapped (λ n. record { key = n.0; call = call.Acquire n.1 }) (one_at r))
    (when (word_at (codes "release ") bytes) (λ r. mapped (λ n. record { key = n.0; call = call.Release n.1 }) (one_at r))
    (when (word_at (codes "beat ") bytes) (λ r. mapped (λ n. record { key = n.0; call = call.Beat n.1 }) (one_at r))
    (when (word_at (codes "open ") bytes) (λ r. mapped (λ n. record { key = n.0; call = call.Open n.1 }) (one_at r))
    (when (word_at (codes "close ") bytes) (λ r. mapped (λ n. record { key = n.0; call = call.Close n.1 }) (one_at r)) (token_call_at bytes)))))
