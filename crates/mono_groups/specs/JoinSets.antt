-- A set of tasks, and the effect of its calls.
use Rattle.std.specs.Prelude.{⊤, Bool, true, false, ◌≡◌, ◌==◌, ◌||◌, ◌++◌, if◌then◌else◌, MatchBool, ℕ, List, [], Option, Some, None, Result, Ok, Err}
use Rattle.std.specs.declared.alloc.AllocError.{AllocError}
use Rattle.mono_sync.specs.Parts.{lists_parts, owes_parts}
use Rattle.mono_groups.specs.declared.waiters.Asked.{Asked}
use Rattle.mono_groups.specs.declared.waiters.Asked.TheVariants as asked
use Rattle.mono_groups.specs.declared.waiters.Waiter.{Waiter}
use Rattle.mono_groups.specs.declared.waiters.Waiters.{Waiters}
use Rattle.mono_groups.specs.declared.nodes.Token.{Token}
use Rattle.mono_groups.specs.declared.members.Ended.{Ended}
use Rattle.mono_groups.specs.declared.members.Member.{Member}
use Rattle.mono_groups.specs.declared.until.Aborted.{Aborted}
use Rattle.mono_groups.specs.declared.join_set.JoinSet.{JoinSet}
use Rattle.mono_groups.specs.Answers.{Held, Comes, Ends, Takes, is_ready, lives}
use Rattle.mono_groups.specs.Nodes as node
use Rattle.mono_groups.specs.Waiters.{has_task, lists_at, tasks_of, Leaves, Pops, Stands}

-- The key of a member that came.
abbrev pub key_of : Result Member AllocError → Result ℕ AllocError
key_of (Ok m) = Ok m.key
key_of (Err e) = Err e

-- All members are aborted, those that come later, too.
abbrev pub IsAborted : Token → Token → Type 0
IsAborted x y = y ≡ record x { is_cancelled = true }

module _ {T : Type 0} where
  -- The members with their answers, and the tasks that wait for them.
  abbrev pub joining : JoinSet T → Held T × Waiters
  joining a = (a.answers, a.joiners)

  -- What the members wait for.
  abbrev pub aborting : JoinSet T → Token
  aborting a = a.abort

  abbrev pub joiner_at : Held T × Waiters → List ℕ → ℕ → Bool
  joiner_at p = lists_at p.1.entries.items

  abbrev pub joiners_in : Held T × Waiters → List ℕ
  joiners_in p = tasks_of p.1.entries.items

  -- All that wait for an answer are to be woken once there is one, or no member is left that could end.
  abbrev pub joiners_owed : Held T × Waiters → List ℕ
  joiners_owed p = if is_ready p.0 then joiners_in p else []

  -- A place is 0 and the ticket of a member, or 1 and the ticket of a task that waits for an answer.
  abbrev pub listed_by : JoinSet T → List ℕ → ℕ → Bool
  listed_by = lists_parts aborting joining node.listed_by joiner_at

  abbrev pub waiting_in : JoinSet T → List ℕ
  waiting_in a = node.waiting_in (aborting a) ++ joiners_in (joining a)

  abbrev pub owed_by : JoinSet T → List ℕ
  owed_by = owes_parts aborting joining node.listed_by joiner_at node.owed_by joiners_owed

  abbrev pub names : JoinSet T → ℕ → Bool
  names a t = has_task a.abort.waiters t || has_task a.joiners t

  -- The members and their answers stay.
  abbrev pub SameMembers : JoinSet T → JoinSet T → Type 0
  SameMembers a b = (b.answers ≡ a.answers) × (b.abort ≡ a.abort)

  -- The tasks that wait stay.
  abbrev pub SameTasks : JoinSet T → JoinSet T → Type 0
  SameTasks a b = (b.abort ≡ a.abort) × (b.joiners ≡ a.joiners)

  -- A member comes, under the next key.
  abbrev pub Enters : JoinSet T → Result ℕ AllocError → JoinSet T → Type 0
  Enters a r b = Comes a.answers r b.answers × SameTasks a b

  -- The member with a key ends, unless it has ended before.
  abbrev pub Finishes : JoinSet T → ℕ → Result T Aborted → JoinSet T → Type 0
  Finishes a k x b = Ends a.answers k x b.answers × SameTasks a b

  -- The first answer is taken at once, if there is one.
  abbrev pub TriesNext : JoinSet T → Option (Ended T) → JoinSet T → Type 0
  TriesNext a r b = Takes a.answers r b.answers × SameTasks a b

  -- A future gets the first answer, or none if there is no member. It waits while each member has still to end.
  abbrev pub JoinsNext : JoinSet T → Option ℕ → ℕ → Asked (Option (Ended T)) → JoinSet T → Type 0
  JoinsNext a ticket me (asked.Got x) b = (is_ready a.answers ≡ true) × Takes a.answers x b.answers × Leaves a.joiners ticket me b.joiners × (b.abort ≡ a.abort)
  JoinsNext a ticket me asked.Waits b = (is_ready a.answers ≡ false) × Stands {G = Option (Ended T)} a.joiners ticket me asked.Waits b.joiners × SameMembers a b
  JoinsNext a ticket me (asked.Joined k) b = (is_ready a.answers ≡ false) × Stands {G = Option (Ended T)} a.joiners ticket me (asked.Joined k) b.joiners × SameMembers a b
  JoinsNext a ticket me asked.Memory b = (is_ready a.answers ≡ false) × Stands {G = Option (Ended T)} a.joiners ticket me asked.Memory b.joiners × SameMembers a b

  -- All members are aborted.
  abbrev pub Aborts : JoinSet T → JoinSet T → Type 0
  Aborts a b = IsAborted a.abort b.abort × (b.answers ≡ a.answers) × (b.joiners ≡ a.joiners)

  -- All members are aborted, and each answer is dropped. The future goes on once no member is left, and waits until then.
  abbrev pub Shuts : JoinSet T → Option ℕ → ℕ → Asked ⊤ → JoinSet T → Type 0
  Shuts a ticket me r b = IsAborted a.abort b.abort × (b.answers ≡ record { live = a.answers.live; ended = [] })
      × MatchBool (lives a.answers == 0) ((r ≡ asked.Got tt) × Leaves a.joiners ticket me b.joiners) (Stands a.joiners ticket me r b.joiners)

  -- A future leaves those that wait for an answer, in a turn of this task.
  abbrev pub LeavesJoin : JoinSet T → Option ℕ → ℕ → JoinSet T → Type 0
  LeavesJoin a ticket me b = Leaves a.joiners ticket me b.joiners × SameMembers a b

  -- A member goes on once the members were aborted, and waits until then.
  abbrev pub AsksAbort : JoinSet T → Option ℕ → ℕ → Asked ⊤ → JoinSet T → Type 0
  AsksAbort a ticket me r b = node.AsksNode a.abort ticket me r b.abort × (b.answers ≡ a.answers) × (b.joiners ≡ a.joiners)

  -- A member leaves those that wait for that, in a turn of this task.
  abbrev pub LeavesAbort : JoinSet T → Option ℕ → ℕ → JoinSet T → Type 0
  LeavesAbort a ticket me b = node.LeavesNode a.abort ticket me b.abort × (b.answers ≡ a.answers) × (b.joiners ≡ a.joiners)

  -- The first task that waits for an answer is taken out, if one is there or no member is left.
  abbrev pub PaysJoiner : JoinSet T → Option ℕ → JoinSet T → Type 0
  PaysJoiner a None b = (joiners_owed (joining a) ≡ []) × (b ≡ a)
  PaysJoiner a (Some t) b = (is_ready a.answers ≡ true) × ((w : Waiter) × (w.task ≡ t) × Pops a.joiners (Some w) b.joiners) × SameMembers a b
