-- The calls of buckets keep the tasks that wait, but the running one.
use Rattle.std.proofs.Common.{◌≡◌, ◌==◌, ◌⊎◌, ℕ, Bool, true, false, MatchBool, List, [], ◌∷◌, ◌++◌, Option, Some, None, Result, Ok, Err, refl, sym, ap, subst, ◌∙◌}
use Rattle.std.specs.List.{remove}
use Rattle.std.specs.declared.alloc.AllocError.{AllocError}
use Rattle.mono_task.specs.Owed.{Keeps, Hands}
use Rattle.mono_task.proofs.OwedLemmas.{keeps_on, keeps_same}
use Rattle.mono_sync.specs.Runs.{Leads, leads_by}
use Rattle.mono_limit.specs.declared.LimitError.{LimitError}
use Rattle.mono_serve.specs.declared.buckets.Waiter.{Waiter}
use Rattle.mono_serve.specs.declared.buckets.Buckets.{Buckets}
use Rattle.mono_serve.specs.declared.buckets.Asked.{Asked}
use Rattle.mono_serve.specs.declared.buckets.Asked.TheVariants.{Granted, Waits, Short, Refused}
use Rattle.mono_serve.specs.Stands.{tasks_in}
use Rattle.mono_serve.specs.BucketCalls.{task_of, is_at, standing, listed_in, owed_by, is_first, is_there, place_of, next_of, SameLine, Adds, Joins, LeavesAt, GivesUp, GivesUpAt, Enters, Asks, handed, Step}
use Rattle.mono_serve.proofs.StandLemmas.{KeptIn, kept_same, kept_joined, kept_moved, kept_handed, others_stand}

-- the same tasks stand in the line, and the same are owed a wake
pub line_kept : (me : ℕ) (a b : Buckets) → SameLine a b → Keeps listed_in me a b
line_kept me a b (line, next, due) = kept_same task_of is_at me (standing a) (standing b) (ap (λ ws. ws ++ b.due.items) line ∙ ap (λ ds. a.waiters.items ++ ds) due)

pub joins_keep : (me : ℕ) (a b : Buckets) (bucket task : ℕ) (r : Result ℕ AllocError) → Joins a bucket task r b → Keeps listed_in me a b
joins_keep me a b bucket task (Ok ticket) (is, line, next, due, limiter) =
    let w : Waiter = record { ticket = a.next; bucket = bucket; task = task } in
    subst (λ xs. KeptIn task_of is_at me (standing a) xs) (sym (ap (λ ws. ws ++ b.due.items) line ∙ ap (λ ds. (a.waiters.items ++ w ∷ []) ++ ds) due)) (kept_joined task_of is_at me a.waiters.items a.due.items w)
joins_keep me a b bucket task (Err error) (same, limiter) = line_kept me a b same

leaves_keep : (me : ℕ) (a b : Buckets) (i : ℕ) → LeavesAt i a me b → Keeps listed_in me a b
leaves_keep me a b i (w, at, line, due, next, limiter) =
    let more = next_of (is_first a.waiters.items w.bucket w.ticket) b.waiters.items w.bucket in
    subst (λ xs. KeptIn task_of is_at me (standing a) xs) (sym (ap (λ ws. ws ++ b.due.items) line ∙ ap (λ ds. remove a.waiters.items i ++ ds) due))
    (kept_moved task_of is_at me a.waiters.items a.due.items _ i w at (others_stand task_of is_at (w.task == me) w me more refl))

gives_up_at : (me : ℕ) (a b : Buckets) (o : Option ℕ) → GivesUpAt o a me b → Keeps listed_in me a b
gives_up_at me a b None same = keeps_same listed_in me a b same
gives_up_at me a b (Some i) leaves = leaves_keep me a b i leaves

pub gives_up_keep : (me : ℕ) (a b : Buckets) (ticket : ℕ) → GivesUp a ticket me b → Keeps listed_in me a b
gives_up_keep me a b ticket p = gives_up_at me a b (place_of a.waiters.items ticket) p

enters_if : (a b : Buckets) (ticket bucket task : ℕ) (r : Result ℕ AllocError) (c : Bool) → MatchBool c ((r ≡ Ok ticket) × (b ≡ a)) ((m : Buckets) × GivesUp a ticket task m × Joins m bucket task r b) → Keeps listed_in task a b
enters_if a b ticket bucket task r true p = keeps_same listed_in task a b p.1
enters_if a b ticket bucket task r false (m, left, joins) = keeps_on listed_in task a m b (gives_up_keep task a m ticket left) (joins_keep task m b bucket task r joins)

pub enters_keep : (a b : Buckets) (ticket : Option ℕ) (bucket task : ℕ) (r : Result ℕ AllocError) → Enters a ticket bucket task r b → Keeps listed_in task a b
enters_keep a b None bucket task r p = joins_keep task a b bucket task r p
enters_keep a b (Some ticket) bucket task r p = enters_if a b ticket bucket task r (is_there a.waiters.items ticket bucket task) p

pub asks_keep : (me : ℕ) (a b : Buckets) (nanos ticket bucket n : ℕ) (r : Asked) → Asks a nanos ticket bucket n me r b → Keeps listed_in me a b
asks_keep me a b nanos ticket bucket n Waits p = keeps_same listed_in me a b p.1
asks_keep me a b nanos ticket bucket n Granted (m, tries, left) = keeps_on listed_in me a m b (line_kept me a m tries.2) (gives_up_keep me m b ticket left)
asks_keep me a b nanos ticket bucket n (Short tick) tries = line_kept me a b tries.2
asks_keep me a b nanos ticket bucket n (Refused error) (m, tries, left) = keeps_on listed_in me a m b (line_kept me a m tries.2) (gives_up_keep me m b ticket left)

-- the first that is owed a wake is handed out
pub hands_on : (a b : Buckets) (w : Waiter) → b.waiters.items ≡ a.waiters.items → a.due.items ≡ w ∷ b.due.items → Hands listed_in owed_by a (Some w.task) b
hands_on a b w line due = (
  ap (tasks_in task_of) due,
  subst (λ ds. KeptIn task_of is_at w.task (a.waiters.items ++ ds) (standing b)) (sym due)
      (subst (λ ws. KeptIn task_of is_at w.task (a.waiters.items ++ w ∷ b.due.items) (ws ++ b.due.items)) (sym line) (kept_handed task_of is_at a.waiters.items b.due.items w)),
)

pub handed_leads : (a b : Buckets) (w : Waiter) → b.waiters.items ≡ a.waiters.items → a.due.items ≡ w ∷ b.due.items → b.next ≡ a.next → b.limiter ≡ a.limiter → Leads Step a b
handed_leads a b w line due next limiter = leads_by Step (handed (Some w.task)) a b (hands_on a b w line due, line, next, limiter)
