-- The sessions that hold a key, those that wait for it, and the keys that sessions leave.
use Rattle.std.specs.Prelude.{ℕ, Bool, false, not, ◌==◌, ◌&&◌, List, [], ◌∷◌, ◌++◌, filter, map, Option, Some, None}
use Rattle.mono_session.specs.Keeper.{Keeper, with_entries, without_session, is_entry, stands_in, first_of, owner_answer}
use Rattle.mono_session.specs.Entries.{keys_in}

-- Whether the number is this one.
abbrev pub is_number : Option ℕ → ℕ → Bool
is_number None n = false
is_number (Some m) n = m == n

-- Whether the session is the first in the queue of the key.
abbrev pub holds : Keeper → ℕ → ℕ → Bool
holds keeper s key = is_number (owner_answer keeper key) s

-- Whether the session is in the queue of the key behind another session.
abbrev pub waits : Keeper → ℕ → ℕ → Bool
waits keeper s key = stands_in keeper.entries s key && not (holds keeper s key)

-- The key in whose queue the session has been for the longest time.
abbrev pub first_key : Keeper → ℕ → Option ℕ
first_key keeper s = first_of (keys_in keeper.entries s)

-- The session has left the queue of this key, if any.
abbrev pub without_key : Keeper → ℕ → Option ℕ → Keeper
without_key keeper s None = keeper
without_key keeper s (Some key) = with_entries keeper (filter (λ entry. not (is_entry s key entry)) keeper.entries)

-- Each session with each key whose queue it leaves, in the order in which it entered them, if the sessions are closed one
-- after the other.
abbrev pub leaves : Keeper → List ℕ → List (ℕ × ℕ)
leaves keeper [] = []
leaves keeper (s ∷ sessions) = map (λ key. (s, key)) (keys_in keeper.entries s) ++ leaves (without_session keeper s) sessions
