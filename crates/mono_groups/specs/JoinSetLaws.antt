-- Laws that hold over any calls of a set of tasks.
use Rattle.std.specs.Prelude.{true, false, ◌≡◌, ◌==◌, ◌<◌, ◌≤◌, ◌++◌, ℕ, zero, suc, List, [], ◌∷◌, Option, Some}
use Rattle.std.specs.List.{list_any}
use Rattle.mono_model.specs.Table.{next_number}
use Rattle.mono_sync.specs.Runs.{Leads, Run}
use Rattle.mono_groups.specs.declared.waiters.Asked.TheVariants as asked
use Rattle.mono_groups.specs.declared.join_set.JoinSet.{JoinSet}
use Rattle.mono_groups.specs.Answers.{is_live, len_of, lives}
use Rattle.mono_groups.specs.JoinSetRuns.{Event, Step, got, put, times}
use Rattle.mono_groups.specs.JoinSets.{listed_by, owed_by, Aborts, AsksAbort, JoinsNext, LeavesAbort, LeavesJoin, Shuts}

-- Whatever is called, the answers are taken in the order in which the members ended, each once.
abbrev pub AnsweredInOrder : Type 0 → Type 0
AnsweredInOrder T = (es : List (Event T)) (a b : JoinSet T) → Run Step a es b → a.answers.ended ++ put es ≡ got es ++ b.answers.ended

-- Whatever is called, a member ends at most once, and no more if it has ended.
abbrev pub EndsOnce : Type 0 → Type 0
EndsOnce T = (es : List (Event T)) (a b : JoinSet T) (k : ℕ) → Run Step a es b
    → (times k (put es) ≤ 1) × (k < next_number a.answers.live → is_live a.answers k ≡ false → times k (put es) ≡ 0)

-- Members that were aborted stay so, whatever is called.
abbrev pub StaysAborted : Type 0 → Type 0
StaysAborted T = (a b : JoinSet T) → Leads Step a b → a.abort.is_cancelled ≡ true → b.abort.is_cancelled ≡ true

-- Each member that waits is owed a wake once all are aborted.
abbrev pub AbortOwesAll : Type 0 → Type 0
AbortOwesAll T = (a b : JoinSet T) (p : List ℕ) (t : ℕ) → Aborts a b → listed_by a (zero ∷ p) t ≡ true → list_any (λ u. u == t) (owed_by b) ≡ true

-- While nothing is owed, a task waits for an answer only if none is there and a member has still to end, and a member waits only
-- if the members were not aborted.
abbrev pub NoAnswerLiesIdle : Type 0 → Type 0
NoAnswerLiesIdle T = (a : JoinSet T) (p : List ℕ) (t : ℕ) → owed_by a ≡ []
    → (listed_by a (suc zero ∷ p) t ≡ true → (a.answers.ended ≡ []) × (lives a.answers ≡ 0 → ⊥)) × (listed_by a (zero ∷ p) t ≡ true → a.abort.is_cancelled ≡ false)

-- A shutdown ends only if no member and no answer is left.
abbrev pub ShutdownLeavesNobody : Type 0 → Type 0
ShutdownLeavesNobody T = (a b : JoinSet T) (ticket : Option ℕ) (me : ℕ) → Shuts a ticket me (asked.Got tt) b → len_of b.answers ≡ 0

-- A future that is pending is listed with its task, at its ticket.
abbrev pub PendingJoinIsListed : Type 0 → Type 0
PendingJoinIsListed T = (a b : JoinSet T) (ticket : Option ℕ) (me k : ℕ)
    → (JoinsNext a (Some k) me asked.Waits b → listed_by b (suc zero ∷ k ∷ []) me ≡ true) × (JoinsNext a ticket me (asked.Joined k) b → listed_by b (suc zero ∷ k ∷ []) me ≡ true)
    × (Shuts a (Some k) me asked.Waits b → listed_by b (suc zero ∷ k ∷ []) me ≡ true) × (Shuts a ticket me (asked.Joined k) b → listed_by b (suc zero ∷ k ∷ []) me ≡ true)
    × (AsksAbort a (Some k) me asked.Waits b → listed_by b (zero ∷ k ∷ []) me ≡ true) × (AsksAbort a ticket me (asked.Joined k) b → listed_by b (zero ∷ k ∷ []) me ≡ true)

-- A future that is given up is listed no longer.
abbrev pub GivenUpJoinIsGone : Type 0 → Type 0
GivenUpJoinIsGone T = (a b : JoinSet T) (k me : ℕ) → (LeavesJoin a (Some k) me b → listed_by b (suc zero ∷ k ∷ []) me ≡ false) × (LeavesAbort a (Some k) me b → listed_by b (zero ∷ k ∷ []) me ≡ false)
