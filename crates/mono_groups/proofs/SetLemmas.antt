-- Whom a set keeps, whom it hands out, and to what its calls lead.
use Rattle.std.specs.Prelude.{⊤}
use Rattle.std.proofs.Common.{◌≡◌, ◌==◌, ℕ, Bool, true, false, cond, MatchBool, [], ◌∷◌, ◌++◌, Option, Some, None, refl, sym, ap, subst, ◌∙◌, inl}
use Rattle.std.specs.Prelude.{Result, Ok, Err}
use Rattle.std.specs.declared.alloc.AllocError.{AllocError}
use Rattle.std.proofs.lemmas.List.{append-nil}
use Rattle.mono_task.specs.Owed.{Keeps, Hands}
use Rattle.mono_sync.specs.Parts.{two_keep, first_next, second_next, none_next}
use Rattle.mono_sync.specs.Runs.{Leads, leads_by}
use Rattle.mono_groups.specs.declared.waiters.Asked.{Asked}
use Rattle.mono_groups.specs.declared.waiters.Asked.TheVariants as asked
use Rattle.mono_groups.specs.declared.waiters.Waiters.{Waiters}
use Rattle.mono_groups.specs.declared.nodes.Token.{Token}
use Rattle.mono_groups.specs.declared.members.Ended.{Ended}
use Rattle.mono_groups.specs.declared.until.Aborted.{Aborted}
use Rattle.mono_groups.specs.declared.join_set.JoinSet.{JoinSet}
use Rattle.mono_groups.specs.Answers.{Held, Takes, is_live, is_ready, lives, with_end}
use Rattle.mono_groups.specs.JoinSetRuns.{came, ended, taken, Moves, Step}
use Rattle.mono_groups.specs.JoinSets.{aborting, joining, joiner_at, joiners_owed, listed_by, owed_by, Aborts, AsksAbort, Enters, Finishes, IsAborted, JoinsNext, LeavesAbort, LeavesJoin, PaysJoiner, SameTasks, Shuts, TriesNext}
use Rattle.mono_groups.specs.Nodes as node
use Rattle.mono_groups.specs.Waiters.{tasks_of, Leaves, Stands}
use Rattle.mono_groups.proofs.WaiterLemmas.{KeptIn, to_places, kept_same, kept_tail, leaves_keeps, stands_keeps}
use Rattle.mono_groups.proofs.NodeLemmas.{asks_keeps, leaves_node_keeps, pays_first, pays_keeps}

abort_same : (me : ℕ) (x y : Token) → y ≡ x → Keeps node.listed_by me x y
abort_same me x y same p t is = inl (ap (λ z. node.listed_by z p t) same ∙ is)

abort_set : (me : ℕ) (x y : Token) → IsAborted x y → Keeps node.listed_by me x y
abort_set me x y set p t is = inl (ap (λ z. node.listed_by z p t) set ∙ is)

joiners_same : (me : ℕ) (v w : Waiters) → w ≡ v → KeptIn me v.entries.items w.entries.items
joiners_same me v w same = kept_same me v.entries.items w.entries.items (ap (λ z. z.entries.items) same)

shut_if : (v w : Waiters) (ticket : Option ℕ) (me : ℕ) (r : Asked ⊤) (c : Bool) → MatchBool c ((r ≡ asked.Got tt) × Leaves v ticket me w) (Stands v ticket me r w) → KeptIn me v.entries.items w.entries.items
shut_if v w ticket me r true s = leaves_keeps v w ticket me s.1
shut_if v w ticket me r false s = stands_keeps v w ticket me r s

-- the members that were aborted stay so
stays : (x y : Token) → y.is_cancelled ≡ x.is_cancelled → x.is_cancelled ≡ true → y.is_cancelled ≡ true
stays x y same is = same ∙ is

same_mark : (x y : Token) → y ≡ x → y.is_cancelled ≡ x.is_cancelled
same_mark x y same = ap (λ z. z.is_cancelled) same

now_aborted : (x y : Token) → IsAborted x y → x.is_cancelled ≡ true → y.is_cancelled ≡ true
now_aborted x y set is = ap (λ z. z.is_cancelled) set

module _ {T : Type 0} where
  -- the members and the joiners keep their tasks
  set_keeps : (me : ℕ) (a b : JoinSet T) → Keeps node.listed_by me a.abort b.abort → KeptIn me a.joiners.entries.items b.joiners.entries.items → Keeps listed_by me a b
  set_keeps me a b p q = two_keep {W = JoinSet T} (λ w. node.listed_by w.abort) (λ w. joiner_at (joining w)) me a b p (to_places me a.joiners.entries.items b.joiners.entries.items q)

  pub same_tasks_keep : (a b : JoinSet T) → SameTasks a b → (me : ℕ) → Keeps listed_by me a b
  same_tasks_keep a b s me = set_keeps me a b (abort_same me a.abort b.abort s.0) (joiners_same me a.joiners b.joiners s.1)

  pub joins_next_keeps : (a b : JoinSet T) (ticket : Option ℕ) (me : ℕ) (r : Asked (Option (Ended T))) → JoinsNext a ticket me r b → Keeps listed_by me a b
  joins_next_keeps a b ticket me (asked.Got x) s = set_keeps me a b (abort_same me a.abort b.abort s.3) (leaves_keeps a.joiners b.joiners ticket me s.2)
  joins_next_keeps a b ticket me asked.Waits s = set_keeps me a b (abort_same me a.abort b.abort s.2.1) (stands_keeps {G = Option (Ended T)} a.joiners b.joiners ticket me asked.Waits s.1)
  joins_next_keeps a b ticket me (asked.Joined k) s = set_keeps me a b (abort_same me a.abort b.abort s.2.1) (stands_keeps {G = Option (Ended T)} a.joiners b.joiners ticket me (asked.Joined k) s.1)
  joins_next_keeps a b ticket me asked.Memory s = set_keeps me a b (abort_same me a.abort b.abort s.2.1) (stands_keeps {G = Option (Ended T)} a.joiners b.joiners ticket me asked.Memory s.1)

  pub aborts_keeps : (a b : JoinSet T) → Aborts a b → (me : ℕ) → Keeps listed_by me a b
  aborts_keeps a b s me = set_keeps me a b (abort_set me a.abort b.abort s.0) (joiners_same me a.joiners b.joiners s.2)

  pub shuts_keeps : (a b : JoinSet T) (ticket : Option ℕ) (me : ℕ) (r : Asked ⊤) → Shuts a ticket me r b → Keeps listed_by me a b
  shuts_keeps a b ticket me r s = set_keeps me a b (abort_set me a.abort b.abort s.0) (shut_if a.joiners b.joiners ticket me r (lives a.answers == 0) s.2)

  pub leaves_join_keeps : (a b : JoinSet T) (ticket : Option ℕ) (me : ℕ) → LeavesJoin a ticket me b → Keeps listed_by me a b
  leaves_join_keeps a b ticket me s = set_keeps me a b (abort_same me a.abort b.abort s.1.1) (leaves_keeps a.joiners b.joiners ticket me s.0)

  pub asks_abort_keeps : (a b : JoinSet T) (ticket : Option ℕ) (me : ℕ) (r : Asked ⊤) → AsksAbort a ticket me r b → Keeps listed_by me a b
  asks_abort_keeps a b ticket me r s = set_keeps me a b (asks_keeps a.abort b.abort ticket me r s.0) (joiners_same me a.joiners b.joiners s.2)

  pub leaves_abort_keeps : (a b : JoinSet T) (ticket : Option ℕ) (me : ℕ) → LeavesAbort a ticket me b → Keeps listed_by me a b
  leaves_abort_keeps a b ticket me s = set_keeps me a b (leaves_node_keeps a.abort b.abort ticket me s.0) (joiners_same me a.joiners b.joiners s.2)

  nothing_moves : (a b : Held T) → b ≡ a → Moves a (taken []) b
  nothing_moves a b same = (sym (ap (λ h. h.ended) same), ap (λ h. h.live) same)

  -- a call that leaves the members and their answers as they are
  leads_still : (a b : JoinSet T) → b.abort.is_cancelled ≡ a.abort.is_cancelled → b.answers ≡ a.answers → Leads Step a b
  leads_still a b same still = leads_by Step (taken []) a b (stays a.abort b.abort same, nothing_moves a.answers b.answers still)

  pub enters_leads : (a b : JoinSet T) (r : Result ℕ AllocError) → Enters a r b → Leads Step a b
  enters_leads a b (Ok k) s = leads_by Step came a b (stays a.abort b.abort (same_mark a.abort b.abort s.1.0), s.0.1)
  enters_leads a b (Err e) s = leads_still a b (same_mark a.abort b.abort s.1.0) s.0

  takes_leads : (a b : JoinSet T) (x : Option (Ended T)) → b.abort ≡ a.abort → Takes a.answers x b.answers → Leads Step a b
  takes_leads a b None same s = leads_still a b (same_mark a.abort b.abort same) s.1
  takes_leads a b (Some x) same s = leads_by Step (taken (x ∷ [])) a b (stays a.abort b.abort (same_mark a.abort b.abort same), s)

  pub tries_next_leads : (a b : JoinSet T) (r : Option (Ended T)) → TriesNext a r b → Leads Step a b
  tries_next_leads a b r s = takes_leads a b r s.1.0 s.0

  pub joins_next_leads : (a b : JoinSet T) (ticket : Option ℕ) (me : ℕ) (r : Asked (Option (Ended T))) → JoinsNext a ticket me r b → Leads Step a b
  joins_next_leads a b ticket me (asked.Got x) s = takes_leads a b x s.3 s.1
  joins_next_leads a b ticket me asked.Waits s = leads_still a b (same_mark a.abort b.abort s.2.1) s.2.0
  joins_next_leads a b ticket me (asked.Joined k) s = leads_still a b (same_mark a.abort b.abort s.2.1) s.2.0
  joins_next_leads a b ticket me asked.Memory s = leads_still a b (same_mark a.abort b.abort s.2.1) s.2.0

  pub aborts_leads : (a b : JoinSet T) → Aborts a b → Leads Step a b
  aborts_leads a b s = leads_by Step (taken []) a b (now_aborted a.abort b.abort s.0, nothing_moves a.answers b.answers s.1)

  pub shuts_leads : (a b : JoinSet T) (ticket : Option ℕ) (me : ℕ) (r : Asked ⊤) → Shuts a ticket me r b → Leads Step a b
  shuts_leads a b ticket me r s = leads_by Step (taken a.answers.ended) a b (now_aborted a.abort b.abort s.0, (sym (ap (λ h. a.answers.ended ++ h.ended) s.1 ∙ append-nil a.answers.ended), ap (λ h. h.live) s.1))

  pub leaves_join_leads : (a b : JoinSet T) (ticket : Option ℕ) (me : ℕ) → LeavesJoin a ticket me b → Leads Step a b
  leaves_join_leads a b ticket me s = leads_still a b (same_mark a.abort b.abort s.1.1) s.1.0

  pub asks_abort_leads : (a b : JoinSet T) (ticket : Option ℕ) (me : ℕ) (r : Asked ⊤) → AsksAbort a ticket me r b → Leads Step a b
  asks_abort_leads a b ticket me r s = leads_still a b s.0.0.1 s.1

  pub leaves_abort_leads : (a b : JoinSet T) (ticket : Option ℕ) (me : ℕ) → LeavesAbort a ticket me b → Leads Step a b
  leaves_abort_leads a b ticket me s = leads_still a b s.0.0.1 s.1

  ends_lead : (a b : JoinSet T) (k : ℕ) (x : Result T Aborted) (v : Bool) → is_live a.answers k ≡ v → b.abort ≡ a.abort → MatchBool v (b.answers ≡ with_end a.answers k x) (b.answers ≡ a.answers) → Leads Step a b
  ends_lead a b k x true is same s = leads_by Step (ended k x) a b (stays a.abort b.abort (same_mark a.abort b.abort same), (is, s))
  ends_lead a b k x false is same s = leads_still a b (same_mark a.abort b.abort same) s

  pub finishes_leads : (a b : JoinSet T) (k : ℕ) (x : Result T Aborted) → Finishes a k x b → Leads Step a b
  finishes_leads a b k x s = ends_lead a b k x (is_live a.answers k) refl s.1.0 s.0

  -- a member is handed out
  pub member_hands : (a b : JoinSet T) (t : ℕ) → node.PaysNode a.abort (Some t) b.abort → joining b ≡ joining a → Hands listed_by owed_by a (Some t) b
  member_hands a b t s same = first_next aborting joining node.listed_by joiner_at node.owed_by joiners_owed a b t (pays_first a.abort b.abort t s, pays_keeps a.abort b.abort t s) same

  pub member_leads : (a b : JoinSet T) (t : ℕ) → node.PaysNode a.abort (Some t) b.abort → b.answers ≡ a.answers → Leads Step a b
  member_leads a b t s same = leads_still a b s.0.1 same

  owed_if : (a : JoinSet T) → is_ready a.answers ≡ true → joiners_owed (joining a) ≡ tasks_of a.joiners.entries.items
  owed_if a is = ap (λ v. cond v (tasks_of a.joiners.entries.items) []) is

  -- the members owe nothing, and a task that waits for an answer is handed out
  pub joiner_hands : (a b : JoinSet T) (r : Option ℕ) → node.owed_by a.abort ≡ [] → PaysJoiner a r b → Hands listed_by owed_by a r b
  joiner_hands a b None none s = none_next aborting joining node.listed_by joiner_at node.owed_by joiners_owed a b (none, ap aborting s.1) (s.0, ap joining s.1) (λ p q. s.1)
  joiner_hands a b (Some t) none (is, (w, task, pops), (answers, abort)) = second_next aborting joining node.listed_by joiner_at node.owed_by joiners_owed a b t (none, abort) (
    owed_if a is ∙ ap tasks_of pops.0 ∙ ap (λ u. u ∷ tasks_of b.joiners.entries.items) task ∙ ap (λ ts. t ∷ ts) (sym (owed_if b (ap is_ready answers ∙ is))),
    to_places t a.joiners.entries.items b.joiners.entries.items (subst (λ u. KeptIn u a.joiners.entries.items b.joiners.entries.items) task (kept_tail w a.joiners.entries.items b.joiners.entries.items pops.0)),
  )

  pub joiner_leads : (a b : JoinSet T) (r : Option ℕ) → PaysJoiner a r b → Leads Step a b
  joiner_leads a b None s = leads_still a b (ap (λ z. z.abort.is_cancelled) s.1) (ap (λ z. z.answers) s.1)
  joiner_leads a b (Some t) s = leads_still a b (same_mark a.abort b.abort s.2.1) s.2.0
