-- The calls of leases keep the tasks that wait, but the running one.
use Rattle.std.proofs.Common.{◌≡◌, ◌==◌, ◌&&◌, ◌⊎◌, ℕ, Bool, true, false, not, MatchBool, List, [], ◌∷◌, ◌++◌, Option, Some, None, Result, Ok, Err, refl, sym, ap, subst, ◌∙◌, inl}
use Rattle.std.specs.Prelude.{⊤}
use Rattle.std.specs.List.{remove}
use Rattle.std.specs.declared.alloc.AllocError.{AllocError}
use Rattle.mono_session.specs.Answers.{Answer}
use Rattle.mono_session.specs.Calls.{Call}
use Rattle.mono_sync.specs.Runs.{Leads, leads_by, leads_on}
use Rattle.mono_task.specs.Owed.{Keeps, Hands}
use Rattle.mono_task.proofs.OwedLemmas.{keeps_on}
use Rattle.mono_serve.specs.Stands.{tasks_in}
use Rattle.mono_serve.specs.declared.leases.LockWaiter.{LockWaiter}
use Rattle.mono_serve.specs.declared.leases.Leases.{Leases}
use Rattle.mono_serve.specs.declared.leases.Claimed.{Claimed}
use Rattle.mono_serve.specs.declared.leases.Claimed.TheVariants as claim
use Rattle.mono_serve.specs.declared.leases.Looked.{Looked}
use Rattle.mono_serve.specs.declared.leases.Looked.TheVariants as look
use Rattle.mono_serve.specs.LeaseCalls.{task_of, is_at, standing, listed_in, owed_by, is_there, late_one, one_if, without, SameLine, ShownAt, Calls, Joins, Claims, LeavesLine, GivesUp, LineJoins, StaysOrLeaves, Looks, Serves, ServesAt, ServesAll, Notes, Rests, Forgets, Settles, Then, NextDue, Event, served, noted, handed, Step}
use Rattle.mono_serve.proofs.StandLemmas.{KeptIn, kept_same, kept_joined, kept_moved, kept_handed, kept_filtered, or_left, and_left, false-true, same_number}

-- the line and the tasks that are due stay the same
pub line_kept : (me : ℕ) (a b : Leases) → SameLine a b → Keeps listed_in me a b
line_kept me a b (line, next, due) = kept_same task_of is_at me (standing a) (standing b) (ap (λ ws. ws ++ b.due.items) line ∙ ap (λ ds. a.waiters.items ++ ds) due)

pub joined_kept : (me : ℕ) (a b : Leases) (w : LockWaiter) → b.waiters.items ≡ a.waiters.items ++ w ∷ [] → b.due.items ≡ a.due.items → Keeps listed_in me a b
joined_kept me a b w line due =
    subst (λ xs. KeptIn task_of is_at me (standing a) xs) (sym (ap (λ ws. ws ++ b.due.items) line ∙ ap (λ ds. (a.waiters.items ++ w ∷ []) ++ ds) due)) (kept_joined task_of is_at me a.waiters.items a.due.items w)

joins_keep : (me : ℕ) (a b : Leases) (s key task : ℕ) (r : Claimed) → Joins a s key task r b → Keeps listed_in me a b
joins_keep me a b s key task claim.Held same = line_kept me a b same
joins_keep me a b s key task (claim.Waits ticket) (is, line, next, due) = joined_kept me a b (record { ticket = a.next; session = s; key = key; task = task }) line due
joins_keep me a b s key task (claim.Refused refusal) same = line_kept me a b same

not_true : (b : Bool) → not b ≡ false → b ≡ true
not_true true is = refl
not_true false is = absurd (false-true (sym is))

and_right : (a b : Bool) → (a && b) ≡ true → b ≡ true
and_right true b is = is
and_right false b is = absurd (false-true is)

leaves_keep : (me : ℕ) (a b : Leases) (ticket : ℕ) → LeavesLine a ticket me b → Keeps listed_in me a b
leaves_keep me a b ticket (line, next, due) =
    subst (λ xs. KeptIn task_of is_at me (standing a) xs) (sym (ap (λ ws. ws ++ b.due.items) line ∙ ap (λ ds. without a.waiters.items ticket me ++ ds) due))
    (kept_filtered task_of is_at (λ (w : LockWaiter). not ((w.ticket == ticket) && (w.task == me))) me (λ w is. same_number w.task me (and_right (w.ticket == ticket) (w.task == me) (not_true ((w.ticket == ticket) && (w.task == me)) is))) a.waiters.items a.due.items)

stays_if : (me : ℕ) (a b : Leases) (ticket s key t : ℕ) (c : Bool) → MatchBool c ((t ≡ ticket) × SameLine a b) (LineJoins a s key me (Ok t) b) → Keeps listed_in me a b
stays_if me a b ticket s key t true p = line_kept me a b p.1
stays_if me a b ticket s key t false (is, line, next, due) = joined_kept me a b (record { ticket = a.next; session = s; key = key; task = me }) line due

stays_keep : (me : ℕ) (a b : Leases) (ticket s key : ℕ) (r : Looked) → StaysOrLeaves a ticket s key me r b → Keeps listed_in me a b
stays_keep me a b ticket s key (look.Waits t) p = stays_if me a b ticket s key t (is_there a.waiters.items ticket me) p
stays_keep me a b ticket s key look.Held p = leaves_keep me a b ticket p
stays_keep me a b ticket s key look.Lost p = leaves_keep me a b ticket p
stays_keep me a b ticket s key look.Memory p = leaves_keep me a b ticket p

serves_at : (me : ℕ) (a b : Leases) (o task : Option ℕ) → ServesAt o a task b → Keeps listed_in me a b
serves_at me a b None task (is, line, due) = kept_same task_of is_at me (standing a) (standing b) (ap (λ ws. ws ++ b.due.items) line ∙ ap (λ ds. a.waiters.items ++ ds) due)
serves_at me a b (Some i) task (w, at, is, line, due) =
    subst (λ xs. KeptIn task_of is_at me (standing a) xs) (sym (ap (λ ws. ws ++ b.due.items) line ∙ ap (λ ds. remove a.waiters.items i ++ ds) due))
    (kept_moved task_of is_at me a.waiters.items a.due.items (w ∷ []) i w at (λ p t here. inl (or_left ((w.task == t) && is_at p w) false here)))

serves_keep : (me : ℕ) (a b : Leases) (tasks : List ℕ) → ServesAll a tasks b → Keeps listed_in me a b
serves_keep me a b [] s = serves_at me a b s.0 None s.2
serves_keep me a b (task ∷ tasks) (m, s, rest) = keeps_on listed_in me a m b (serves_at me a m s.0 (Some task) s.2) (serves_keep me m b tasks rest)

pub settles_keep : (me : ℕ) (a b : Leases) → Settles a b → Keeps listed_in me a b
settles_keep me a b (m, (tasks, all), notes) = keeps_on listed_in me a m b (serves_keep me a m tasks all) (line_kept me m b notes.4)

pub shown_then : (me : ℕ) (a b : Leases) (nanos : ℕ) (r : Result ⊤ AllocError) → Then (ShownAt a nanos r) b → Keeps listed_in me a b
shown_then me a b nanos r (m, s, settles) = keeps_on listed_in me a m b (line_kept me a m s.1) (settles_keep me m b settles)

pub called_then : (me : ℕ) (a b : Leases) (nanos : ℕ) (c : Call) (told : Answer) → Then (Calls a nanos c told) b → Keeps listed_in me a b
called_then me a b nanos c told (m, s, settles) = keeps_on listed_in me a m b (line_kept me a m s.1) (settles_keep me m b settles)

pub claimed_then : (me : ℕ) (a b : Leases) (nanos s key task : ℕ) (r : Claimed) → Then (Claims a nanos s key task r) b → Keeps listed_in me a b
claimed_then me a b nanos s key task r (m, p, settles) = keeps_on listed_in me a m b (joins_keep me a m s key task r p.1) (settles_keep me m b settles)

pub looked_then : (a b : Leases) (nanos ticket s key task : ℕ) (r : Looked) → Then (Looks a nanos ticket s key task r) b → Keeps listed_in task a b
looked_then a b nanos ticket s key task r (m, p, settles) = keeps_on listed_in task a m b (stays_keep task a m ticket s key r p.1) (settles_keep task m b settles)

pub gave_up_then : (a b : Leases) (ticket s key me : ℕ) → Then (GivesUp a ticket s key me) b → Keeps listed_in me a b
gave_up_then a b ticket s key me (m, p, settles) = keeps_on listed_in me a m b (leaves_keep me a m ticket p.1) (settles_keep me m b settles)

pub rests_keep : (me : ℕ) (a b : Leases) (task : ℕ) (tick : Option ℕ) → Rests a task tick b → Keeps listed_in me a b
rests_keep me a b task tick s = line_kept me a b s.5

pub forgets_keep : (me : ℕ) (a b : Leases) (task : ℕ) → Forgets a task b → Keeps listed_in me a b
forgets_keep me a b task s = line_kept me a b s.4

-- ---- what follows a call is a run of steps
serves_lead : (a b : Leases) (tasks : List ℕ) → ServesAll a tasks b → Leads Step a b
serves_lead a b [] s = leads_by Step (served None) a b s
serves_lead a b (task ∷ tasks) (m, s, rest) = leads_on Step a m b (leads_by Step (served (Some task)) a m s) (serves_lead m b tasks rest)

pub then_leads : (e : Event) (a b : Leases) → Then (Step a e) b → Leads Step a b
then_leads e a b (m, s, (n, (tasks, all), notes)) = leads_on Step a m b (leads_by Step e a m s) (leads_on Step m n b (serves_lead m n tasks all) (leads_by Step noted n b notes))

-- ---- the first that is owed a wake is handed out
pub keeper_handed : (a b : Leases) (t : ℕ) → late_one a.late a.keeper ≡ Some t → late_one b.late b.keeper ≡ None → SameLine a b → Hands listed_in owed_by a (Some t) b
keeper_handed a b t late none same = (
  ap (λ o. one_if o ++ tasks_in task_of a.due.items) late ∙ ap (λ ds. t ∷ tasks_in task_of ds) (sym same.2) ∙ ap (λ o. t ∷ (one_if o ++ tasks_in task_of b.due.items)) (sym none),
  line_kept t a b same,
)

pub due_handed : (a b : Leases) (o : Option ℕ) → late_one a.late a.keeper ≡ None → NextDue a o b → Hands listed_in owed_by a o b
due_handed a b None none (empty, same) = (ap (λ k. one_if k ++ tasks_in task_of a.due.items) none ∙ ap (tasks_in task_of) empty, same)
due_handed a b (Some t) none (w, is, due, line, sessions, (keeper, alarm, late)) =
    let still : late_one b.late b.keeper ≡ None = ap (λ l. late_one l b.keeper) late ∙ ap (λ k. late_one a.late k) keeper ∙ none in
    subst (λ n. Hands listed_in owed_by a (Some n) b) (sym is) (
      ap (λ k. one_if k ++ tasks_in task_of a.due.items) none ∙ ap (tasks_in task_of) due ∙ ap (λ k. w.task ∷ (one_if k ++ tasks_in task_of b.due.items)) (sym still),
      subst (λ ds. KeptIn task_of is_at w.task (a.waiters.items ++ ds) (standing b)) (sym due)
          (subst (λ ws. KeptIn task_of is_at w.task (a.waiters.items ++ w ∷ b.due.items) (ws ++ b.due.items)) (sym line) (kept_handed task_of is_at a.waiters.items b.due.items w)),
    )

pub keeper_leads : (a b : Leases) (t : ℕ) → late_one a.late a.keeper ≡ Some t → late_one b.late b.keeper ≡ None → SameLine a b → b.sessions ≡ a.sessions → Leads Step a b
keeper_leads a b t late none same sessions = leads_by Step (handed (Some t)) a b (keeper_handed a b t late none same, same.0, sessions)

pub due_leads : (a b : Leases) (o : Option ℕ) → late_one a.late a.keeper ≡ None → NextDue a o b → Leads Step a b
due_leads a b None none (empty, same) = leads_by Step (handed None) a b (due_handed a b None none (empty, same), ap (λ (x : Leases). x.waiters.items) same, ap (λ (x : Leases). x.sessions) same)
due_leads a b (Some t) none next = leads_by Step (handed (Some t)) a b (due_handed a b (Some t) none next, next.3, next.4)

pub late_none : (late : Bool) → late_one late None ≡ None
late_none true = refl
late_none false = refl
