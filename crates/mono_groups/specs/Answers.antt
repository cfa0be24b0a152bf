-- The members of a set of tasks, and their answers.
use Rattle.std.specs.Prelude.{⊤, Bool, not, ◌≡◌, ◌==◌, ◌||◌, ◌+◌, MatchBool, ℕ, List, [], ◌∷◌, ◌++◌, length, is_some, Option, Some, None, Result, Ok, Err}
use Rattle.std.specs.declared.alloc.AllocError.{AllocError}
use Rattle.mono_model.specs.Table.{Table, value_at, next_number, count_of, with_next, without}
use Rattle.mono_groups.specs.declared.members.Ended.{Ended}
use Rattle.mono_groups.specs.declared.until.Aborted.{Aborted}

-- The members that have not ended, by their keys. And the members that have ended and whose answers were not taken, in the
-- order in which they ended.
pub record Held (T : Type 0) : Type 0 where
  pub live : Table ⊤
  pub ended : List (Ended T)

module _ {T : Type 0} where
  -- Whether the member with this key has not ended.
  abbrev pub is_live : Held T → ℕ → Bool
  is_live a k = is_some (value_at a.live k)

  -- How many members have not ended.
  abbrev pub lives : Held T → ℕ
  lives a = count_of a.live

  -- How many members there are whose answers were not taken.
  abbrev pub len_of : Held T → ℕ
  len_of a = lives a + length a.ended

  -- Whether an answer is there, or no member has still to end.
  abbrev pub is_ready : Held T → Bool
  is_ready a = (lives a == 0) || not (length a.ended == 0)

  -- A member comes, under the next key.
  abbrev pub with_member : Held T → Held T
  with_member a = record { live = with_next a.live tt; ended = a.ended }

  -- The member with this key ends with this answer.
  abbrev pub with_end : Held T → ℕ → Result T Aborted → Held T
  with_end a k x = record { live = without a.live k; ended = a.ended ++ record { key = k; answer = x } ∷ [] }

  -- A member comes. Nothing changes if out of memory.
  abbrev pub Comes : Held T → Result ℕ AllocError → Held T → Type 0
  Comes a (Ok k) b = (k ≡ next_number a.live) × (b ≡ with_member a)
  Comes a (Err e) b = b ≡ a

  -- The member with this key ends, unless it has ended before, or there is none. Then nothing changes.
  abbrev pub Ends : Held T → ℕ → Result T Aborted → Held T → Type 0
  Ends a k x b = MatchBool (is_live a k) (b ≡ with_end a k x) (b ≡ a)

  -- The first answer is taken, if there is one.
  abbrev pub Takes : Held T → Option (Ended T) → Held T → Type 0
  Takes a None b = (a.ended ≡ []) × (b ≡ a)
  Takes a (Some x) b = (a.ended ≡ x ∷ b.ended) × (b.live ≡ a.live)
