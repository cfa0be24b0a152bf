-- The calls of mailboxes keep the tasks that wait, but the running one.
use Rattle.std.proofs.Common.{◌≡◌, ◌==◌, ◌&&◌, ◌||◌, ◌⊎◌, ℕ, Bool, true, false, cond, MatchBool, List, [], ◌∷◌, ◌++◌, Option, Some, None, Result, Ok, Err, refl, sym, ap, subst, ◌∙◌, inl, inr, slice_index_or}
use Rattle.std.specs.Prelude.{⊤}
use Rattle.std.specs.List.{list_any, remove}
use Rattle.mono_actor.specs.declared.answers.ActorError.{ActorError}
use Rattle.mono_actor.specs.declared.answers.Sent.{Sent}
use Rattle.mono_actor.specs.declared.answers.SendRefused.{SendRefused}
use Rattle.mono_sync.specs.Runs.{Leads, leads_by, leads_on}
use Rattle.mono_task.specs.Owed.{Keeps, Hands}
use Rattle.mono_task.proofs.OwedLemmas.{keeps_on, keeps_same}
use Rattle.mono_serve.specs.Stands.{tasks_in}
use Rattle.mono_serve.specs.declared.mailboxes.Receiver.{Receiver}
use Rattle.mono_serve.specs.declared.mailboxes.Received.{Received}
use Rattle.mono_serve.specs.declared.mailboxes.Received.TheVariants as receive
use Rattle.mono_serve.specs.declared.mailboxes.Mailboxes.{Mailboxes}
use Rattle.mono_serve.specs.MailCalls.{task_of, is_at, place_of, first_place, is_there, has_actor, others, standing, listed_in, owed_by, SameLine, Sends, Stops, Takes, Joins, is_ready, CallsAt, CallsPlace, CallsNext, Then, LeavesLine, OutOfCalled, LeavesCalled, GivesUpLine, GivesUpAt, GivesUp, AfterTake, Asks, Collects, Fresh, Returns, Receives, Event, called_next, handed, Step}
use Rattle.mono_serve.proofs.StandLemmas.{any_left, any_right, any_split, any_removed, or_left, or_split, stands_as, same_number}

abbrev at : List ℕ → ℕ → Receiver → Bool
at p t w = (w.task == t) && is_at p w

abbrev any : List ℕ → ℕ → List Receiver → Bool
any p t ws = list_any (at p t) ws

-- ---- three lists, one after the other
module _ (us es fs : List Receiver) (p : List ℕ) (t : ℕ) where
  in_first : any p t us ≡ true → any p t (us ++ (es ++ fs)) ≡ true
  in_first is = any_left (at p t) us (es ++ fs) is

  in_second : any p t es ≡ true → any p t (us ++ (es ++ fs)) ≡ true
  in_second is = any_right (at p t) us (es ++ fs) (any_left (at p t) es fs is)

  in_third : any p t fs ≡ true → any p t (us ++ (es ++ fs)) ≡ true
  in_third is = any_right (at p t) us (es ++ fs) (any_right (at p t) es fs is)

  from_three : (me : ℕ) (ws cs ds : List Receiver) → (any p t ws ≡ true → (any p t (us ++ (es ++ fs)) ≡ true) ⊎ (t ≡ me)) → (any p t cs ≡ true → (any p t (us ++ (es ++ fs)) ≡ true) ⊎ (t ≡ me)) → (any p t ds ≡ true → (any p t (us ++ (es ++ fs)) ≡ true) ⊎ (t ≡ me))
      → any p t (ws ++ (cs ++ ds)) ≡ true → (any p t (us ++ (es ++ fs)) ≡ true) ⊎ (t ≡ me)
  from_three me ws cs ds f g h is = elim (any_split (at p t) ws (cs ++ ds) is) [
    | inl first ↦ f first
    | inr later ↦ elim (any_split (at p t) cs ds later) [ inl second ↦ g second | inr third ↦ h third ]
  ]

-- another one that leaves is owed a wake
goes : (me : ℕ) (w : Receiver) (us es ds : List Receiver) (p : List ℕ) (t : ℕ) → at p t w ≡ true → (any p t (us ++ (es ++ (ds ++ others w me))) ≡ true) ⊎ (t ≡ me)
goes me w us es ds p t here = elim (gone_if (w.task == me) refl) [
  | inl there ↦ inl (in_third us es (ds ++ others w me) p t (any_right (at p t) ds (others w me) there))
  | inr mine ↦ inr mine
]
  where
    gone_if : (c : Bool) → (w.task == me) ≡ c → (any p t (cond c [] (w ∷ [])) ≡ true) ⊎ (t ≡ me)
    gone_if true is = inr (stands_as task_of is_at w p t here ∙ same_number w.task me is)
    gone_if false is = inl (or_left (at p t w) false here)

module _ {M : Type 0} where
  -- the three lists afterwards
  along : (me : ℕ) (a b : Mailboxes M) (us es fs : List Receiver) → b.waiters.items ≡ us → b.called.items ≡ es → b.due.items ≡ fs
      → ((p : List ℕ) (t : ℕ) → any p t (standing a) ≡ true → (any p t (us ++ (es ++ fs)) ≡ true) ⊎ (t ≡ me)) → Keeps listed_in me a b
  along me a b us es fs first second third kept =
      subst (λ xs. (p : List ℕ) (t : ℕ) → any p t (standing a) ≡ true → (any p t xs ≡ true) ⊎ (t ≡ me)) (sym (ap (λ ws. ws ++ (b.called.items ++ b.due.items)) first ∙ ap (λ cs. us ++ (cs ++ b.due.items)) second ∙ ap (λ ds. us ++ (es ++ ds)) third)) kept

  pub line_kept : (me : ℕ) (a b : Mailboxes M) → SameLine a b → Keeps listed_in me a b
  line_kept me a b (line, called, next, due) = along me a b a.waiters.items a.called.items a.due.items line called due (λ p t is. inl is)

  joins_keep : (me : ℕ) (a b : Mailboxes M) (actor task : ℕ) (r : Received M) → Joins a actor task r b → Keeps listed_in me a b
  joins_keep me a b actor task (receive.Got from message) p = absurd p
  joins_keep me a b actor task (receive.Waits ticket) (is, line, called, next, due, actors) =
      let w : Receiver = record { ticket = a.next; actor = actor; task = task } in
      along me a b (a.waiters.items ++ w ∷ []) a.called.items a.due.items line called due
      (λ p t is. from_three (a.waiters.items ++ w ∷ []) a.called.items a.due.items p t me a.waiters.items a.called.items a.due.items
      (λ first. inl (in_first (a.waiters.items ++ w ∷ []) a.called.items a.due.items p t (any_left (at p t) a.waiters.items (w ∷ []) first)))
      (λ second. inl (in_second (a.waiters.items ++ w ∷ []) a.called.items a.due.items p t second))
      (λ third. inl (in_third (a.waiters.items ++ w ∷ []) a.called.items a.due.items p t third)) is)
  joins_keep me a b actor task (receive.Refused error) (is, same, actors) = line_kept me a b same

  calls_at : (me : ℕ) (a b : Mailboxes M) (i : ℕ) → CallsAt i a b → Keeps listed_in me a b
  calls_at me a b i (w, here, line, called, due, next, actors) =
      let us = remove a.waiters.items i in
      let es = a.called.items ++ w ∷ [] in
      let fs = a.due.items ++ w ∷ [] in
      along me a b us es fs line called due
      (λ p t is. from_three us es fs p t me a.waiters.items a.called.items a.due.items
      (λ first. elim (any_removed (at p t) a.waiters.items i w here first) [
        | inl stays ↦ inl (in_first us es fs p t stays)
        | inr gone ↦ inl (in_second us es fs p t (any_right (at p t) a.called.items (w ∷ []) (or_left (at p t w) false gone)))
      ])
      (λ second. inl (in_second us es fs p t (any_left (at p t) a.called.items (w ∷ []) second)))
      (λ third. inl (in_third us es fs p t (any_left (at p t) a.due.items (w ∷ []) third))) is)

  calls_place : (me : ℕ) (a b : Mailboxes M) (o : Option ℕ) → CallsPlace o a b → Keeps listed_in me a b
  calls_place me a b None same = keeps_same listed_in me a b same
  calls_place me a b (Some i) calls = calls_at me a b i calls

  calls_if : (me : ℕ) (a b : Mailboxes M) (actor : ℕ) (c : Bool) → MatchBool c (CallsPlace (first_place a.waiters.items actor) a b) (b ≡ a) → Keeps listed_in me a b
  calls_if me a b actor true calls = calls_place me a b (first_place a.waiters.items actor) calls
  calls_if me a b actor false same = keeps_same listed_in me a b same

  calls_keep : (me : ℕ) (a b : Mailboxes M) (actor : ℕ) → CallsNext a actor b → Keeps listed_in me a b
  calls_keep me a b actor calls = calls_if me a b actor (is_ready a actor) calls

  leaves_line : (me : ℕ) (a b : Mailboxes M) (i : ℕ) → LeavesLine i a me b → Keeps listed_in me a b
  leaves_line me a b i (w, here, line, called, due, next, actors) =
      let us = remove a.waiters.items i in
      let fs = a.due.items ++ others w me in
      along me a b us a.called.items fs line called due
      (λ p t is. from_three us a.called.items fs p t me a.waiters.items a.called.items a.due.items
      (λ first. elim (any_removed (at p t) a.waiters.items i w here first) [
        | inl stays ↦ inl (in_first us a.called.items fs p t stays)
        | inr gone ↦ goes me w us a.called.items a.due.items p t gone
      ])
      (λ second. inl (in_second us a.called.items fs p t second))
      (λ third. inl (in_third us a.called.items fs p t (any_left (at p t) a.due.items (others w me) third))) is)

  out_of_called : (me : ℕ) (a m : Mailboxes M) (i : ℕ) (w : Receiver) → OutOfCalled i a me w m → Keeps listed_in me a m
  out_of_called me a m i w (here, line, called, due, next, actors) =
      let es = remove a.called.items i in
      let fs = a.due.items ++ others w me in
      along me a m a.waiters.items es fs line called due
      (λ p t is. from_three a.waiters.items es fs p t me a.waiters.items a.called.items a.due.items
      (λ first. inl (in_first a.waiters.items es fs p t first))
      (λ second. elim (any_removed (at p t) a.called.items i w here second) [
        | inl stays ↦ inl (in_second a.waiters.items es fs p t stays)
        | inr gone ↦ goes me w a.waiters.items es a.due.items p t gone
      ])
      (λ third. inl (in_third a.waiters.items es fs p t (any_left (at p t) a.due.items (others w me) third))) is)

  gives_up_line : (me : ℕ) (a b : Mailboxes M) (o : Option ℕ) → GivesUpLine o a me b → Keeps listed_in me a b
  gives_up_line me a b None same = keeps_same listed_in me a b same
  gives_up_line me a b (Some i) leaves = leaves_line me a b i leaves

  gives_up_at : (me : ℕ) (a b : Mailboxes M) (ticket : ℕ) (o : Option ℕ) → GivesUpAt o a ticket me b → Keeps listed_in me a b
  gives_up_at me a b ticket None p = gives_up_line me a b (place_of a.waiters.items ticket) p
  gives_up_at me a b ticket (Some i) (w, m, out, calls) = keeps_on listed_in me a m b (out_of_called me a m i w out) (calls_keep me m b w.actor calls)

  pub gives_up_keep : (me : ℕ) (a b : Mailboxes M) (ticket : ℕ) → GivesUp a ticket me b → Keeps listed_in me a b
  gives_up_keep me a b ticket p = gives_up_at me a b ticket (place_of a.called.items ticket) p

  after_take : (me : ℕ) (a b : Mailboxes M) (actor : ℕ) (t : Result (Option (ℕ × M)) ActorError) (r : Received M) → AfterTake t a actor me r b → Keeps listed_in me a b
  after_take me a b actor (Ok (Some (from, message))) r p = keeps_same listed_in me a b p.1
  after_take me a b actor (Ok None) r p = joins_keep me a b actor me r p
  after_take me a b actor (Err error) r p = keeps_same listed_in me a b p.1

  asks_keep : (me : ℕ) (a b : Mailboxes M) (actor : ℕ) (r : Received M) → Asks a actor me r b → Keeps listed_in me a b
  asks_keep me a b actor r (t, m, takes, after) = keeps_on listed_in me a m b (line_kept me a m takes.2) (after_take me m b actor t r after)

  collects_keep : (me : ℕ) (a b : Mailboxes M) (ticket actor : ℕ) (r : Received M) → Collects a ticket actor me r b → Keeps listed_in me a b
  collects_keep me a b ticket actor r (t, m, n, takes, left, after) =
      keeps_on listed_in me a m b (line_kept me a m takes.2) (keeps_on listed_in me m n b (gives_up_keep me m n ticket left) (after_take me n b actor t r after))

  fresh_if : (me : ℕ) (a b : Mailboxes M) (actor : ℕ) (r : Received M) (c : Bool) → MatchBool c (Joins a actor me r b) (Asks a actor me r b) → Keeps listed_in me a b
  fresh_if me a b actor r true p = joins_keep me a b actor me r p
  fresh_if me a b actor r false p = asks_keep me a b actor r p

  fresh_keep : (me : ℕ) (a b : Mailboxes M) (actor : ℕ) (r : Received M) → Fresh a actor me r b → Keeps listed_in me a b
  fresh_keep me a b actor r p = fresh_if me a b actor r (has_actor a.waiters.items actor || has_actor a.called.items actor) p

  returns_if : (me : ℕ) (a b : Mailboxes M) (ticket actor : ℕ) (r : Received M) (c : Bool) → MatchBool c (Collects a ticket actor me r b) ((m : Mailboxes M) × GivesUp a ticket me m × Fresh m actor me r b) → Keeps listed_in me a b
  returns_if me a b ticket actor r true p = collects_keep me a b ticket actor r p
  returns_if me a b ticket actor r false (m, left, fresh) = keeps_on listed_in me a m b (gives_up_keep me a m ticket left) (fresh_keep me m b actor r fresh)

  receives_if : (me : ℕ) (a b : Mailboxes M) (ticket actor : ℕ) (r : Received M) (c : Bool) → MatchBool c ((r ≡ receive.Waits ticket) × (b ≡ a)) (Returns a ticket actor me r b) → Keeps listed_in me a b
  receives_if me a b ticket actor r true p = keeps_same listed_in me a b p.1
  receives_if me a b ticket actor r false p = returns_if me a b ticket actor r (is_there a.called.items ticket actor me) p

  pub receives_keep : (a b : Mailboxes M) (ticket : Option ℕ) (actor me : ℕ) (r : Received M) → Receives a ticket actor me r b → Keeps listed_in me a b
  receives_keep a b None actor me r p = fresh_keep me a b actor r p
  receives_keep a b (Some ticket) actor me r p = receives_if me a b ticket actor r (is_there a.waiters.items ticket actor me) p

  pub sends_then : (me : ℕ) (a b : Mailboxes M) (from to : ℕ) (message : M) (r : Result Sent (SendRefused M)) → Then (Sends a from to message r) to b → Keeps listed_in me a b
  sends_then me a b from to message r (m, s, calls) = keeps_on listed_in me a m b (line_kept me a m s.3) (calls_keep me m b to calls)

  pub stops_then : (me : ℕ) (a b : Mailboxes M) (actor : ℕ) (r : Result ⊤ ActorError) → Then (Stops a actor r) actor b → Keeps listed_in me a b
  stops_then me a b actor r (m, s, calls) = keeps_on listed_in me a m b (line_kept me a m s.2) (calls_keep me m b actor calls)

  pub then_leads : (e : Event M) (actor : ℕ) (a b : Mailboxes M) → Then (Step a e) actor b → Leads Step a b
  then_leads e actor a b (m, s, calls) = leads_on Step a m b (leads_by Step e a m s) (leads_by Step (called_next actor) m b calls)

  -- the first that is owed a wake is handed out
  pub hands_on : (a b : Mailboxes M) (w : Receiver) → b.waiters.items ≡ a.waiters.items → b.called.items ≡ a.called.items → a.due.items ≡ w ∷ b.due.items → Hands listed_in owed_by a (Some w.task) b
  hands_on a b w line called due = (
    ap (tasks_in task_of) due,
    along w.task a b a.waiters.items a.called.items b.due.items line called refl
        (λ p t is. from_three a.waiters.items a.called.items b.due.items p t w.task a.waiters.items a.called.items a.due.items
        (λ first. inl (in_first a.waiters.items a.called.items b.due.items p t first))
        (λ second. inl (in_second a.waiters.items a.called.items b.due.items p t second))
        (λ third. elim (or_split (at p t w) (any p t b.due.items) (sym (ap (any p t) due) ∙ third)) [
          | inl here ↦ inr (stands_as task_of is_at w p t here)
          | inr later ↦ inl (in_third a.waiters.items a.called.items b.due.items p t later)
        ]) is),
  )

  pub handed_leads : (a b : Mailboxes M) (w : Receiver) → b.waiters.items ≡ a.waiters.items → b.called.items ≡ a.called.items → a.due.items ≡ w ∷ b.due.items → b.next ≡ a.next → b.actors ≡ a.actors → Leads Step a b
  handed_leads a b w line called due next actors = leads_by Step (handed (Some w.task)) a b (hands_on a b w line called due, line, called, next, actors)
