-- The sources of a future that takes tokens of a bucket.
use Rattle.std.specs.Prelude.{◌≡◌, ◌==◌, ◌&&◌, ◌||◌, MatchBool, ℕ, ⊤, Bool, true, false, List, [], ◌∷◌, ◌++◌, Option, Some, None, Result, Ok, Err}
use Rattle.std.specs.List.{list_any}
use Rattle.std.proofs.Common.{inl, inr, sym, ap, ◌∙◌, subst, refl, eq-eqb}
use Rattle.std.specs.declared.alloc.AllocError.{AllocError}
use Rattle.mono_model.specs.Table.{value_at}
use Rattle.mono_model.specs.declared.poll.Poll.{Poll}
use Rattle.mono_model.specs.declared.poll.Poll.TheVariants.{Ready, Pending}
use Rattle.mono_model.specs.declared.error.Error.{Error}
use Rattle.mono_model.specs.declared.error.SleepError.{SleepError}
use Rattle.mono_time.specs.Sleeps.{SleepTable}
use Rattle.mono_time.specs.Futures.{SleepPolls}
use Rattle.mono_time.specs.declared.sleeps.Sleep.{Sleep}
use Rattle.mono_serve.specs.BucketCalls.{is_there, lists_task, task_of, is_at, GivesUp, Enters, Joins}
use Rattle.mono_serve.specs.Stands.{stands}
use Rattle.mono_serve.specs.Takes.{deadline_of, AfterNap, Naps, AfterFirstNap, AfterMade, Rests, AfterAsk, AfterEntry, GoesOn, AfterSleep, TakePolls}
use Rattle.mono_serve.specs.declared.buckets.Waiter.{Waiter}
use Rattle.mono_serve.specs.declared.buckets.Buckets.{Buckets}
use Rattle.mono_serve.specs.declared.buckets.Asked.{Asked}
use Rattle.mono_serve.specs.declared.buckets.Asked.TheVariants as asked
use Rattle.mono_serve.specs.declared.takes.Stage.{Stage}
use Rattle.mono_serve.specs.declared.takes.Stage.TheVariants.{Fresh, Waits, Sleeps, Over}
use Rattle.mono_serve.specs.declared.takes.TakeError.{TakeError}
use Rattle.mono_wait.specs.Sources.{Source, of_sleep, of_peers, waker_in, own_watcher, woke_heard}
use Rattle.mono_wait.specs.Leaves.{SleepNeeds, sleeps_cover}
use Rattle.mono_wait.specs.Peers.{PeersNeeds}
use Rattle.mono_wait.specs.Moments.{woke_itself, named_heard}
use Rattle.mono_wait.specs.Frames.{Frame, HeardIn, WokeIn, CoversIn, covers_after}

-- The tasks before it in the line, or its sleep once it is the first.
abbrev pub TakeNeeds : Stage → Source → Type 0
TakeNeeds Fresh = λ x. ⊥
TakeNeeds (Waits ticket) = PeersNeeds
TakeNeeds (Sleeps ticket sleep) = SleepNeeds sleep
TakeNeeds Over = λ x. ⊥

no_answer : {Z : Type 0} (z : Z) → Pending ≡ Ready z → ⊥
no_answer z e = cc

none-some : {Z : Type 0} (z : Z) → None ≡ Some z → ⊥
none-some z e = cc

some-pending : {Z : Type 0} (z : Z) → Some Pending ≡ Some (Ready z) → ⊥
some-pending z e = cc

false-true : false ≡ true → ⊥
false-true e = cc

or_right : (a b : Bool) → b ≡ true → (a || b) ≡ true
or_right true b is = refl
or_right false b is = is

or_left : (a b : Bool) → a ≡ true → (a || b) ≡ true
or_left a b is = ap (λ x. x || b) is

or_either : (a b x y : Bool) → (a ≡ true → x ≡ true) → (b ≡ true → y ≡ true) → (a || b) ≡ true → (x || y) ≡ true
or_either true b x y f g is = ap (λ z. z || y) (f refl)
or_either false b true y f g is = refl
or_either false b false y f g is = g is

and_both : (a b : Bool) → a ≡ true → b ≡ true → (a && b) ≡ true
and_both a b p q = ap (λ x. x && b) p ∙ q

and_left : (a b : Bool) → (a && b) ≡ true → a ≡ true
and_left true b is = refl
and_left false b is = is

and_right : (a b : Bool) → (a && b) ≡ true → b ≡ true
and_right true b is = is
and_right false b is = absurd (false-true is)

-- The waiting task at a place of the line: the bucket, and then the ticket.
abbrev stands_in : List Waiter → ℕ → ℕ → ℕ → Bool
stands_in ws bucket ticket task = stands task_of is_at ws (bucket ∷ ticket ∷ []) task

one_stands : (w : Waiter) (bucket ticket task : ℕ) → w.ticket ≡ ticket → w.bucket ≡ bucket → w.task ≡ task → ((w.task == task) && ((w.bucket == bucket) && (w.ticket == ticket))) ≡ true
one_stands w bucket ticket task p q r = and_both (w.task == task) ((w.bucket == bucket) && (w.ticket == ticket)) (eq-eqb w.task task r) (and_both (w.bucket == bucket) (w.ticket == ticket) (eq-eqb w.bucket bucket q) (eq-eqb w.ticket ticket p))

last_stands : (ws : List Waiter) (w : Waiter) (bucket ticket task : ℕ) → w.ticket ≡ ticket → w.bucket ≡ bucket → w.task ≡ task → stands_in (ws ++ w ∷ []) bucket ticket task ≡ true
last_stands [] w bucket ticket task p q r = or_left ((w.task == task) && ((w.bucket == bucket) && (w.ticket == ticket))) false (one_stands w bucket ticket task p q r)
last_stands (v ∷ ws) w bucket ticket task p q r = or_right ((v.task == task) && ((v.bucket == bucket) && (v.ticket == ticket))) _ (last_stands ws w bucket ticket task p q r)

there_if : (a b c : Bool) → ((a && b) && c) ≡ true → (c && (b && a)) ≡ true
there_if a b c is = and_both c (b && a) (and_right (a && b) c is) (and_both b a (and_right a b (and_left (a && b) c is)) (and_left a b (and_left (a && b) c is)))

there_stands : (ws : List Waiter) (bucket ticket task : ℕ) → is_there ws ticket bucket task ≡ true → stands_in ws bucket ticket task ≡ true
there_stands [] bucket ticket task is = absurd (false-true is)
there_stands (w ∷ ws) bucket ticket task is =
    or_either (((w.ticket == ticket) && (w.bucket == bucket)) && (w.task == task)) (is_there ws ticket bucket task) ((w.task == task) && ((w.bucket == bucket) && (w.ticket == ticket))) (stands_in ws bucket ticket task)
    (there_if (w.ticket == ticket) (w.bucket == bucket) (w.task == task)) (there_stands ws bucket ticket task) is

-- a task that stands in a line is one of the line's
stands_named : (ws : List Waiter) (bucket ticket task : ℕ) → stands_in ws bucket ticket task ≡ true → list_any (λ (w : Waiter). w.task == task) ws ≡ true
stands_named [] bucket ticket task is = absurd (false-true is)
stands_named (w ∷ ws) bucket ticket task is =
    or_either ((w.task == task) && ((w.bucket == bucket) && (w.ticket == ticket))) (stands_in ws bucket ticket task) (w.task == task) (list_any (λ (v : Waiter). v.task == task) ws)
    (and_left (w.task == task) ((w.bucket == bucket) && (w.ticket == ticket))) (stands_named ws bucket ticket task) is

-- it stands there also if others are owed a wake
stands_before : (ws us : List Waiter) (bucket ticket task : ℕ) → stands_in ws bucket ticket task ≡ true → stands_in (ws ++ us) bucket ticket task ≡ true
stands_before [] us bucket ticket task is = absurd (false-true is)
stands_before (w ∷ ws) us bucket ticket task is =
    or_either ((w.task == task) && ((w.bucket == bucket) && (w.ticket == ticket))) (stands_in ws bucket ticket task) ((w.task == task) && ((w.bucket == bucket) && (w.ticket == ticket))) (stands_in (ws ++ us) bucket ticket task)
    (λ here. here) (stands_before ws us bucket ticket task) is

joined_stands : (a b : Buckets) (bucket task t : ℕ) → Joins a bucket task (Ok t) b → stands_in b.waiters.items bucket t task ≡ true
joined_stands a b bucket task t p =
    ap (λ ws. stands_in ws bucket t task) p.1 ∙ last_stands a.waiters.items (record { ticket = a.next; bucket = bucket; task = task }) bucket t task (sym p.0) refl refl

same_ok : (r : Result ℕ AllocError) (t u : ℕ) → r ≡ Ok t → r ≡ Ok u → t ≡ u
same_ok r t u p q = cc

-- a task that entered stands in the line at its place
entered_stands : (a b : Buckets) (ticket : Option ℕ) (bucket task t : ℕ) (r : Result ℕ AllocError) → r ≡ Ok t → Enters a ticket bucket task r b → stands_in b.waiters.items bucket t task ≡ true
entered_stands a b None bucket task t r told p = joined_stands a b bucket task t (subst (λ x. Joins a bucket task x b) told p)
entered_stands a b (Some k) bucket task t r told p = by_place (is_there a.waiters.items k bucket task) refl p
  where
    by_place : (c : Bool) → is_there a.waiters.items k bucket task ≡ c → MatchBool c ((r ≡ Ok k) × (b ≡ a)) ((m : Buckets) × GivesUp a k task m × Joins m bucket task r b) → stands_in b.waiters.items bucket t task ≡ true
    by_place true is q =
        ap (λ x. stands_in x.waiters.items bucket t task) q.1 ∙ subst (λ u. stands_in a.waiters.items bucket u task ≡ true) (sym (same_ok r t k told q.0)) (there_stands a.waiters.items bucket k task is)
    by_place false is q = joined_stands q.0 b bucket task t (subst (λ x. Joins q.0 bucket task x b) told q.2)

entered_listed : (a b : Buckets) (ticket : Option ℕ) (bucket task t : ℕ) → Enters a ticket bucket task (Ok t) b → lists_task b task ≡ true
entered_listed a b ticket bucket task t p = stands_named b.waiters.items bucket t task (entered_stands a b ticket bucket task t (Ok t) refl p)

module _ {C : Type 0} (w : Frame C) (part : C → Buckets) (sleeps : C → SleepTable) (nanos : C → ℕ) (names : C → ℕ → Bool)
    (same_number : (a b : C) → w.reaches a b → w.number b ≡ w.number a)
    (watches : (c : C) (s : ℕ) → w.watcher c (of_sleep s) ≡ waker_in (value_at (sleeps c).table s))
    (watches_peers : (c : C) → w.watcher c of_peers ≡ own_watcher (names c (w.number c)) (w.number c))
    (names_part : (c : C) (t : ℕ) → lists_task (part c) t ≡ true → names c t ≡ true)
    -- the contexts at the beginning of the poll and at its end
    (c : C) (d : C) (whole : w.reaches c d) where
  abbrev Held : Stage → Type 0
  Held s = CoversIn w c d (TakeNeeds s)

  -- a sleep is pending
  nap_waits : (ticket : ℕ) (sleep : Sleep) (m : C) (answer : Poll (Result ⊤ Error)) (e f : C) (s : Stage) → w.reaches c m → SleepPolls w.number sleeps w.work w.reaches sleep m answer sleep e
      → AfterNap part w.number sleeps w.work w.reaches answer ticket sleep e (Some Pending) s f → d ≡ f → Held s
  nap_waits ticket sleep m Pending e f s before polled rest at =
      subst Held (sym rest.1) (covers_after w c m d (SleepNeeds sleep) before
      (subst (λ y. CoversIn w m y (SleepNeeds sleep)) (sym (at ∙ rest.2)) (sleeps_cover w.number sleeps w.work w.reaches w.watcher w.itself same_number watches sleep m sleep e polled)))
  nap_waits ticket sleep m (Ready (Ok done)) e f s before polled rest at = absurd (none-some _ (sym rest.0))
  nap_waits ticket sleep m (Ready (Err error)) e f s before polled rest at = absurd (some-pending _ rest.answer)

  -- a sleep is over
  nap_over : (ticket : ℕ) (sleep : Sleep) (m : C) (answer : Poll (Result ⊤ Error)) (e f : C) (s : Stage) → w.reaches c m → SleepPolls w.number sleeps w.work w.reaches sleep m answer sleep e
      → AfterNap part w.number sleeps w.work w.reaches answer ticket sleep e None s f → w.reaches c f
  nap_over ticket sleep m Pending e f s before polled rest = absurd (none-some _ rest.0)
  nap_over ticket sleep m (Ready (Ok done)) e f s before polled rest = w.on c e f (w.on c m e before polled.reached) rest.2.reached
  nap_over ticket sleep m (Ready (Err error)) e f s before polled rest = absurd (none-some _ rest.answer)

  pending_nap : (ticket : ℕ) (sleep : Sleep) (m : C) (answer : Poll (Result ⊤ TakeError)) (stage s : Stage) (e : C) → w.reaches c m → Naps part w.number sleeps w.work w.reaches ticket sleep m (Some answer) stage e
      → Pending ≡ answer → s ≡ stage → d ≡ e → Held s
  pending_nap ticket sleep m answer stage s e before naps told same at =
      subst Held (sym same) (nap_waits ticket sleep m naps.answer naps.middle e stage before naps.polled
      (subst (λ o. AfterNap part w.number sleeps w.work w.reaches naps.answer ticket sleep naps.middle (Some o) stage e) (sym told) naps.rest) at)

  after_first : (ticket : ℕ) (sleep : Sleep) (m : C) (o : Option (Poll (Result ⊤ TakeError))) (stage s : Stage) (e : C) → w.reaches c m → Naps part w.number sleeps w.work w.reaches ticket sleep m o stage e
      → AfterFirstNap part w.number sleeps w.work w.reaches o stage e Pending s d → Held s
  after_first ticket sleep m (Some answer) stage s e before naps rest = pending_nap ticket sleep m answer stage s e before naps rest.0 rest.1 rest.2
  after_first ticket sleep m None stage s e before naps rest = record { one = inr woke; each = λ x needed. woke_heard w.number w.work w.reaches w.watcher c d x woke }
    where
      woke : WokeIn w c d
      woke = woke_itself w same_number c e d (nap_over ticket sleep m naps.answer naps.middle e stage before naps.polled naps.rest) whole rest.2

  after_made : (made : Result Sleep SleepError) (ticket : ℕ) (m : C) (s : Stage) → w.reaches c m → AfterMade part w.number sleeps w.work w.reaches made ticket m Pending s d → Held s
  after_made (Ok sleep) ticket m s before q = after_first ticket sleep m q.answer q.stage s q.middle before q.naps q.rest
  after_made (Err error) ticket m s before q = absurd (no_answer _ q.0)

  rests : (deadline : Option ℕ) (ticket : ℕ) (m : C) (s : Stage) → w.reaches c m → Rests part w.number sleeps w.work w.reaches deadline ticket m Pending s d → Held s
  rests None ticket m s before q = absurd (no_answer _ q.0)
  rests (Some deadline) ticket m s before q = after_made q.made ticket q.middle s (w.on c m q.middle before q.reached) q.rest

  -- the line named the task at a, before the future asked
  after_ask : (answer : Asked) (ticket : ℕ) (a m : C) (s : Stage) → w.reaches c a → names a (w.number c) ≡ true → w.reaches a m → AfterAsk part w.number sleeps w.work w.reaches answer ticket m Pending s d → Held s
  after_ask asked.Waits ticket a m s before listed more rest = subst Held (sym rest.1) (record { one = inl (of_peers, refl); each = λ x needed. subst (HeardIn w c d) (sym needed) by_peers })
    where
      by_peers : HeardIn w c d of_peers
      by_peers = named_heard w same_number names watches_peers c a d before (subst (w.reaches a) (sym rest.2) more) listed
  after_ask asked.Granted ticket a m s before listed more rest = absurd (no_answer _ rest.0)
  after_ask (asked.Refused error) ticket a m s before listed more rest = absurd (no_answer _ rest.0)
  after_ask (asked.Short tick) ticket a m s before listed more rest = rests (deadline_of tick) ticket m s (w.on c a m before more) rest

  after_entry : (kept : Result ℕ AllocError) (ticket : Option ℕ) (bucket n : ℕ) (b a : C) (s : Stage) → w.reaches c b → w.reaches b a → Enters (part b) ticket bucket (w.number b) kept (part a)
      → AfterEntry part w.number nanos sleeps w.work w.reaches kept bucket n a Pending s d → Held s
  after_entry (Ok drawn) ticket bucket n b a s before more enters q = after_ask q.answer drawn a q.middle s (w.on c b a before more) listed q.reached q.rest
    where
      listed : names a (w.number c) ≡ true
      listed = names_part a (w.number c) (subst (λ k. lists_task (part a) k ≡ true) (same_number c b before) (entered_listed (part b) (part a) ticket bucket (w.number b) drawn enters))
  after_entry (Err lack) ticket bucket n b a s before more enters q = absurd (no_answer _ q.0)

  goes_on : (ticket : Option ℕ) (bucket n : ℕ) (b : C) (s : Stage) → w.reaches c b → GoesOn part w.number nanos sleeps w.work w.reaches ticket bucket n b Pending s d → Held s
  goes_on ticket bucket n b s before q = after_entry q.kept ticket bucket n b q.middle s before q.reached q.enters q.rest

  after_sleep : (o : Option (Poll (Result ⊤ TakeError))) (stage : Stage) (ticket bucket n : ℕ) (sleep : Sleep) (m : C) (s : Stage) → Naps part w.number sleeps w.work w.reaches ticket sleep c o stage m
      → AfterSleep part w.number nanos sleeps w.work w.reaches o stage ticket bucket n m Pending s d → Held s
  after_sleep (Some answer) stage ticket bucket n sleep m s naps rest = pending_nap ticket sleep c answer stage s m (w.itself c) naps rest.0 rest.1 rest.2
  after_sleep None stage ticket bucket n sleep m s naps rest = goes_on (Some ticket) bucket n m s (nap_over ticket sleep c naps.answer naps.middle m stage (w.itself c) naps.polled naps.rest) rest

  -- once pending, the task was in the line, or sleeps, or was woken
  pub takes_cover : (f g : Stage) (bucket n : ℕ) → TakePolls part w.number nanos sleeps w.work w.reaches f bucket n c Pending g d → Held g
  takes_cover Fresh g bucket n q = goes_on None bucket n c g (w.itself c) q
  takes_cover (Waits ticket) g bucket n q = goes_on (Some ticket) bucket n c g (w.itself c) q
  takes_cover (Sleeps ticket sleep) g bucket n q = after_sleep q.answer q.stage ticket bucket n sleep q.middle g q.naps q.rest
  takes_cover Over g bucket n q = absurd q
