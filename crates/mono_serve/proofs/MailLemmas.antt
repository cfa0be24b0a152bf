-- The calls of mailboxes, and the messages that were sent and received over them.
use Rattle.std.proofs.Common.{◌≡◌, ◌≢◌, ◌<◌, ◌≤◌, inl, inr, ℕ, zero, suc, Bool, true, false, not, cond, List, [], ◌∷◌, ◌++◌, length, get_or, set, Option, Some, None, Result, Ok, Err, refl, ap, sym, subst, ◌∙◌, arith, eq-eqb}
use Rattle.std.specs.Prelude.{◌==◌, ◌&&◌, ◌||◌, ◌⊎◌, ◌+◌, MatchBool, nat_lt, nat_le}
use Rattle.std.specs.List.{position_or_len}
use Rattle.std.proofs.lemmas.Bool.{cases_eq}
use Rattle.std.proofs.lemmas.Bool.Decides.{nat_tests}
use Rattle.std.proofs.lemmas.List.{get_or-set_same, get_or-set_other, get_or_past, length-set}
use Rattle.std.proofs.lemmas.List.Quantifiers.{position-Some}
use Rattle.mono_model.specs.Table.{Table, value_at, without}
use Rattle.mono_actor.specs.Actors.{Actor, with_table, no_turn, if_granted, spawn_answer, spawned, letter_count, send_answer, sent_value, received_value, sent, got_in, begun_table, ended, ended_value, no_actors}
use Rattle.mono_actor.specs.Actors as model
use Rattle.mono_actor.specs.Answers.{of_number, of_send}
use Rattle.mono_actor.specs.Calls as call
use Rattle.mono_actor.specs.Callers.{OrLacksMemory, actors_of, without_message}
use Rattle.mono_actor.specs.Laws as laws
use Rattle.mono_actor.specs.QueueInvariants.{is_queued, of_actor}
use Rattle.mono_actor.specs.Receives.{begin_of_value, begin_of_answer, begun_one, begun_of, waits_at}
use Rattle.mono_actor.specs.declared.mailboxes.Letter.{Letter}
use Rattle.mono_actor.specs.declared.answers.ActorError.{ActorError}
use Rattle.mono_actor.specs.declared.answers.ActorError.TheVariants.{Memory, AtCapacity}
use Rattle.mono_actor.specs.declared.answers.Got.{Got}
use Rattle.mono_actor.specs.declared.answers.Got.TheVariants as got
use Rattle.mono_actor.specs.declared.answers.Sent.{Sent}
use Rattle.mono_actor.specs.declared.answers.SendRefused.{SendRefused}
use Rattle.mono_actor.proofs.MessageLemmas.{mail, mail_in, Told, Holds, prefix, quiet, nil, assoc, of_spawn, of_sent, of_front, of_end}
use Rattle.mono_sync.specs.Runs.{Run}
use Rattle.mono_serve.specs.declared.mailboxes.Receiver.{Receiver}
use Rattle.mono_serve.specs.declared.mailboxes.Received.{Received}
use Rattle.mono_serve.specs.declared.mailboxes.Received.TheVariants as receive
use Rattle.mono_serve.specs.declared.mailboxes.Mailboxes.{Mailboxes}
use Rattle.mono_serve.specs.MailCalls.{place_of, first_place, is_there, has_actor, is_ready, message_of, take_answer, taken, stopped, Joins, AfterTake, Asks, Collects, Fresh, Returns, Receives, CallsPlace, CallsNext, GivesUpLine, GivesUpAt, GivesUp, Event, spawned_one, sent_one, stopped_one, received, called_next, gave_up, handed, Step}
use Rattle.mono_serve.specs.MailLaws.{sent_by, sent_to, letter_of, received_by, received_from, ReceivedInOrder, WaitsInLine, NoMessageIsMissed}
use Rattle.mono_serve.proofs.StandLemmas.{any_right, or_left}

true-false : true ≡ false → ⊥
true-false e = cc

none-some : {X : Type 0} (x : X) → None ≡ Some x → ⊥
none-some x e = cc

-- ---- a turn of one actor
module _ {M : Type 0} (u : model.Actors M) (a : ℕ) where
  -- no turn began
  pub still : of_actor is_queued (value_at u.table a) ≡ false → (u ≡ taken u a) × (u ≡ stopped u a)
  still idles = (
    sym (ap (λ b. cond b (ended false (begun_one u a) a) u) idles),
    sym (ap (λ b. cond b (ended true (begun_one u a) a) u) idles),
  )

  by_value : (v : Option (Actor M)) (r : Result (Option (Got M)) ActorError) → r ≡ begin_of_value v
      → ((e : ActorError) → r ≡ Err e → of_actor is_queued v ≡ false) × (r ≡ Ok None → of_actor is_queued v ≡ false) × ((g : Got M) → r ≡ Ok (Some g) → of_actor is_queued v ≡ true)
  by_value None r is = ((λ e at. refl), (λ at. refl), (λ g at. absurd (cc)))
  by_value (Some actor) r is = by (is_queued actor.mode) refl
    where
      by : (b : Bool) → is_queued actor.mode ≡ b → ((e : ActorError) → r ≡ Err e → is_queued actor.mode ≡ false) × (r ≡ Ok None → is_queued actor.mode ≡ false) × ((g : Got M) → r ≡ Ok (Some g) → is_queued actor.mode ≡ true)
      by true at = let told : r ≡ Ok (Some (got_in actor.mailbox)) = is ∙ ap (λ b. cond b (Ok (Some (got_in actor.mailbox))) (Ok None)) at in
          ((λ e other. absurd (cc)), (λ other. absurd (cc)), (λ g other. at))
      by false at = let told : r ≡ Ok None = is ∙ ap (λ b. cond b (Ok (Some (got_in actor.mailbox))) (Ok None)) at in
          ((λ e other. at), (λ other. at), (λ g other. absurd (cc)))

  pub refused-still : (e : ActorError) → Err e ≡ begin_of_answer u a → of_actor is_queued (value_at u.table a) ≡ false
  refused-still e is = (by_value (value_at u.table a) (Err e) is).0 e refl

  pub none-still : Ok None ≡ begin_of_answer u a → of_actor is_queued (value_at u.table a) ≡ false
  none-still is = (by_value (value_at u.table a) (Ok None) is).1 refl

  pub turn-queued : (g : Got M) → Ok (Some g) ≡ begin_of_answer u a → of_actor is_queued (value_at u.table a) ≡ true
  turn-queued g is = (by_value (value_at u.table a) (Ok (Some g)) is).2 g refl

  module _ (queued : of_actor is_queued (value_at u.table a) ≡ true) (mid : model.Actors M) (began : mid ≡ begun_of u a) where
    is_one : mid ≡ begun_one u a
    is_one = began ∙ ap (λ b. cond b (begun_one u a) u) queued

    -- the turn that began is this actor's, and it ends
    pub its-turn : mid.turn ≡ Some a
    its-turn = ap (λ (m : model.Actors M). m.turn) is_one

    pub turn-taken : (v : model.Actors M) → v ≡ ended false mid a → v ≡ taken u a
    turn-taken v is = is ∙ ap (λ m. ended false m a) is_one ∙ sym (ap (λ b. cond b (ended false (begun_one u a) a) u) queued)

    pub turn-stopped : (v : model.Actors M) → v ≡ ended true mid a → v ≡ stopped u a
    turn-stopped v is = is ∙ ap (λ m. ended true m a) is_one ∙ sym (ap (λ b. cond b (ended true (begun_one u a) a) u) queued)

-- ---- the line
self : (n : ℕ) → (n == n) ≡ true
self n = eq-eqb n n refl

all_three : (x y z : Bool) → x ≡ true → y ≡ true → z ≡ true → ((x && y) && z) ≡ true
all_three x y z p q r = ap (λ b. (b && y) && z) p ∙ ap (λ b. b && z) q ∙ r

last_there : (ws : List Receiver) (ticket actor task : ℕ) → is_there (ws ++ record { ticket = ticket; actor = actor; task = task } ∷ []) ticket actor task ≡ true
last_there ws ticket actor task =
    let w : Receiver = record { ticket = ticket; actor = actor; task = task } in
    any_right (λ (v : Receiver). ((v.ticket == ticket) && (v.actor == actor)) && (v.task == task)) ws (w ∷ []) (or_left (((ticket == ticket) && (actor == actor)) && (task == task)) false (all_three (ticket == ticket) (actor == actor) (task == task) (self ticket) (self actor) (self task)))

waits-equal : {M : Type 0} (r : Received M) (s t : ℕ) → r ≡ receive.Waits s → r ≡ receive.Waits t → s ≡ t
waits-equal r s t first second = cc

waits-got : {M : Type 0} (r : Received M) (t from : ℕ) (message : M) → r ≡ receive.Waits t → r ≡ receive.Got from message → ⊥
waits-got r t from message first second = cc

waits-refused : {M : Type 0} (r : Received M) (t : ℕ) (error : ActorError) → r ≡ receive.Waits t → r ≡ receive.Refused error → ⊥
waits-refused r t error first second = cc

module _ {M : Type 0} (actor task t : ℕ) where
  abbrev There : Mailboxes M → Type 0
  There b = is_there b.waiters.items t actor task ≡ true

  joined_there : (a b : Mailboxes M) → Joins a actor task (receive.Waits t) b → There b
  joined_there a b (drawn, line, called, next, due, actors) =
      subst (λ n. is_there b.waiters.items n actor task ≡ true) (sym drawn) (ap (λ ws. is_there ws a.next actor task) line ∙ last_there a.waiters.items a.next actor task)

  taken_there : (a b : Mailboxes M) (r : Result (Option (ℕ × M)) ActorError) → AfterTake r a actor task (receive.Waits t) b → There b
  taken_there a b (Ok (Some (from, message))) p = absurd (waits-got {M = M} (receive.Waits t) t from message refl p.0)
  taken_there a b (Ok None) p = joined_there a b p
  taken_there a b (Err error) p = absurd (waits-refused {M = M} (receive.Waits t) t error refl p.0)

  fresh_if : (a b : Mailboxes M) (c : Bool) → MatchBool c (Joins a actor task (receive.Waits t) b) (Asks a actor task (receive.Waits t) b) → There b
  fresh_if a b true p = joined_there a b p
  fresh_if a b false (r, m, takes, after) = taken_there m b r after

  fresh_there : (a b : Mailboxes M) → Fresh a actor task (receive.Waits t) b → There b
  fresh_there a b p = fresh_if a b (has_actor a.waiters.items actor || has_actor a.called.items actor) p

  returns_if : (a b : Mailboxes M) (ticket : ℕ) (c : Bool) → MatchBool c (Collects a ticket actor task (receive.Waits t) b) ((m : Mailboxes M) × GivesUp a ticket task m × Fresh m actor task (receive.Waits t) b) → There b
  returns_if a b ticket true (r, m, n, takes, left, after) = taken_there n b r after
  returns_if a b ticket false (m, left, fresh) = fresh_there m b fresh

  receives_if : (r : Received M) (a b : Mailboxes M) (ticket : ℕ) (c : Bool) → r ≡ receive.Waits t → is_there a.waiters.items ticket actor task ≡ c → MatchBool c ((r ≡ receive.Waits ticket) × (b ≡ a)) (Returns a ticket actor task r b) → There b
  receives_if r a b ticket true waits is p = ap (λ (x : Mailboxes M). is_there x.waiters.items t actor task) p.1 ∙ subst (λ n. is_there a.waiters.items n actor task ≡ true) (waits-equal r ticket t p.0 waits) is
  receives_if r a b ticket false waits is p = returns_if a b ticket (is_there a.called.items ticket actor task) (subst (λ x. Returns a ticket actor task x b) waits p)

pub waits_in_line : (M : Type 0) → WaitsInLine M
waits_in_line M a b None actor task t p = fresh_there actor task t a b p
waits_in_line M a b (Some ticket) actor task t p = receives_if actor task t (receive.Waits t) a b ticket (is_there a.waiters.items ticket actor task) refl refl p

-- ---- the tasks that are called
not_true : (b : Bool) → not b ≡ false → b ≡ true
not_true true e = refl
not_true false e = cc

not_both : (x y : Bool) → (not x && not y) ≡ false → (x ≡ true) ⊎ (y ≡ true)
not_both true y e = inl refl
not_both false y e = inr (not_true y e)

-- the place that was found is one of the actor's
calls_for : (actor : ℕ) (ws : List Receiver) (v : Receiver) (i : ℕ) → first_place ws actor ≡ Some i → v ≡ get_or ws i v → (v.actor == actor) ≡ true
calls_for actor ws v i is here =
    let found : (i < length ws) × (((get_or ws i v).actor == actor) ≡ true) × ((k : ℕ) → k < i → ((get_or ws k v).actor == actor) ≡ false) = position-Some (λ (w : Receiver). w.actor == actor) ws i v is in
    ap (λ (x : Receiver). x.actor == actor) here ∙ found.1

none_waits : (actor : ℕ) (ws : List Receiver) → first_place ws actor ≡ None → has_actor ws actor ≡ true → ⊥
none_waits actor ws none has = no_place (position_or_len test ws) (length ws) (found_within ws has) none
  where
    test : Receiver → Bool
    test w = w.actor == actor

    within_if : (b : Bool) (k n : ℕ) (r : Bool) → (r ≡ true → k < n) → (b || r) ≡ true → cond (not b) (1 + k) 0 < 1 + n
    within_if true k n r rest is = omega arith
    within_if false k n r rest is = omega (arith, rest is)

    found_within : (us : List Receiver) → has_actor us actor ≡ true → position_or_len test us < length us
    found_within [] is = cc
    found_within (w ∷ us) is = omega (arith, within_if (test w) (position_or_len test us) (length us) (has_actor us actor) (found_within us) is)

    no_place : (k n : ℕ) → k < n → cond (nat_lt k n) (Some k) None ≡ None → ⊥
    no_place k n less e = by (nat_lt k n) (grind (arith, nat_tests)) e
      where
        by : (b : Bool) → b ≡ true → cond b (Some k) None ≡ None → ⊥
        by true f g = cc
        by false f g = cc

pub no_message_is_missed : (M : Type 0) → NoMessageIsMissed M
no_message_is_missed M a b actor calls has = by (is_ready a actor) refl calls
  where
    called_if : (o : Option ℕ) → first_place a.waiters.items actor ≡ o → CallsPlace o a b → has_actor b.called.items actor ≡ true
    called_if None is same = absurd (none_waits actor a.waiters.items is (ap (λ (x : Mailboxes M). has_actor x.waiters.items actor) (sym same) ∙ has))
    called_if (Some i) is (w, here, line, called, due, next, actors) =
        ap (λ ws. has_actor ws actor) called ∙ any_right (λ (v : Receiver). v.actor == actor) a.called.items (w ∷ []) (or_left (w.actor == actor) false (calls_for actor a.waiters.items w i is here))

    by : (c : Bool) → is_ready a actor ≡ c → MatchBool c (CallsPlace (first_place a.waiters.items actor) a b) (b ≡ a) → (waits_at (actors_of b.actors) actor ≡ true) ⊎ (has_actor b.called.items actor ≡ true)
    by true is p = inr (called_if (first_place a.waiters.items actor) refl p)
    by false is same = subst (λ (x : Mailboxes M). (waits_at (actors_of x.actors) actor ≡ true) ⊎ (has_actor x.called.items actor ≡ true)) (sym same) (not_both (waits_at (actors_of a.actors) actor) (has_actor a.called.items actor) is)

-- ---- the messages that were sent and received
module _ {M : Type 0} (a : ℕ) (S G : List (Letter M)) where
  bare : (table : Table (Actor M)) (x y : List (Letter M)) → x ≡ [] → y ≡ [] → Holds table a (S ++ x) (G ++ y) → Holds table a S G
  bare table x y no_x no_y holds =
      subst (λ g. Holds table a S g) (ap (λ z. G ++ z) no_y ∙ nil G) (subst (λ s. Holds table a s (G ++ y)) (ap (λ z. S ++ z) no_x ∙ nil S) holds)

  number_quiet : (r : Result ℕ ActorError) → laws.got_by_one {M = M} a (of_number r) ≡ []
  number_quiet (Ok n) = refl
  number_quiet (Err e) = refl

  of_spawned : (r : Result ℕ ActorError) (u v : model.Actors M) → v ≡ if_granted r u (spawned u) → Holds u.table a S G → Holds v.table a S G
  of_spawned (Ok n) u v is holds =
      subst (λ (k : model.Actors M). Holds k.table a S G) (sym is) (bare _ [] _ refl (number_quiet (spawn_answer u)) (of_spawn a S G (spawn_answer u) u _ refl holds))
  of_spawned (Err e) u v is holds = subst (λ (k : model.Actors M). Holds k.table a S G) (sym is) holds

  none_if : (b : Bool) → cond {A = List (Letter M)} b [] [] ≡ []
  none_if true = refl
  none_if false = refl

  granted-lacks : (what : Sent) → Ok what ≡ Err Memory → ⊥
  granted-lacks what e = cc

  of_sends : (from to : ℕ) (message : M) (r : Result Sent (SendRefused M)) (u v : model.Actors M) → OrLacksMemory (send_answer u from to) (without_message r)
      → v ≡ if_granted (without_message r) u (sent u from to message) → Holds u.table a S G → Holds v.table a (S ++ sent_by a (sent_one from to message r)) (G ++ [])
  of_sends from to message (Err refused) u v told is holds =
      quiet _ a S G _ [] (none_if (to == a)) refl (subst (λ (k : model.Actors M). Holds k.table a S G) (sym is) holds)
  of_sends from to message (Ok what) u v (inr lack) is holds = absurd (granted-lacks what lack.0)
  of_sends from to message (Ok what) u v (inl told) is holds =
      subst (λ (k : model.Actors M). Holds k.table a (S ++ cond (to == a) (record { sender = from; message = message } ∷ []) []) (G ++ [])) (sym is)
      (subst (λ t. Holds (sent u from to message).table a (S ++ laws.sent_by a (call.Send from to message) (of_send t)) (G ++ laws.got_by_one a (of_send t))) (sym told)
      (of_sent a S G (nat_le u.most_messages (letter_count u)) AtCapacity (value_at u.table from) (value_at u.table to) u from to message refl holds))

  -- an actor that is removed
  dropped : (table new : Table (Actor M)) (x : ℕ) → ((q : ℕ) → q ≢ x → value_at new q ≡ value_at table q) → value_at new x ≡ None → length new ≡ length table → x < length table → Holds table a S G → Holds new a S G
  dropped table new x others gone long inside holds = elim (cases_eq a x) [
    | inl here ↦ (subst (λ m. Told m S G) (sym (ap mail_in (ap (value_at new) here ∙ gone))) (prefix (mail table a) S G holds.0), λ le. absurd (omega (arith, here, inside, le, long)))
    | inr apart ↦ (subst (λ m. Told m S G) (sym (ap mail_in (others a apart))) holds.0, λ le. holds.1 (omega (arith, le, long)))
  ]

  given : (table : Table (Actor M)) (x : ℕ) (v : Actor M) → value_at table x ≡ Some v → x < length table
  given table x v at = elim (Rattle.std.proofs.lemmas.Bool.cases_lt x (length table)) [ inl inside ↦ inside | inr past ↦ absurd (none-some v (sym (get_or_past table x None past) ∙ at)) ]

  of_stopped : (v : Option (Actor M)) (u w : model.Actors M) (x : ℕ) → value_at u.table x ≡ v → w ≡ stopped u x → Holds u.table a S G → Holds w.table a S G
  of_stopped None u w x at is holds = subst (λ (k : model.Actors M). Holds k.table a S G) (sym (is ∙ sym (still u x (ap (of_actor is_queued) at)).1)) holds
  of_stopped (Some actor) u w x at is holds = by (is_queued actor.mode) refl
    where
      by : (b : Bool) → is_queued actor.mode ≡ b → Holds w.table a S G
      by false idles = subst (λ (k : model.Actors M). Holds k.table a S G) (sym (is ∙ sym (still u x (ap (of_actor is_queued) at ∙ idles)).1)) holds
      by true queues =
          subst (λ (k : model.Actors M). Holds k.table a S G) (sym (is ∙ ap (λ b. cond b (ended true (begun_one u x) x) u) (ap (of_actor is_queued) at ∙ queues)))
          (subst (λ o. Holds (without (begun_table o u.table x) x) a S G) (sym at)
          (dropped u.table (without (begun_table (Some actor) u.table x) x) x
          (λ q apart. get_or-set_other (begun_table (Some actor) u.table x) x q None None apart ∙ get_or-set_other u.table x q _ None apart)
          (get_or-set_same (begun_table (Some actor) u.table x) x None None (omega (arith, given u.table x actor at, length-set u.table x (Some (record { mode = model.running; mailbox = model.rest_of actor.mailbox; timeout = actor.timeout })))))
          (length-set (begun_table (Some actor) u.table x) x None ∙ length-set u.table x _)
          (given u.table x actor at) holds))

  -- the letters of a turn
  abbrev letters_got : Result (Option (ℕ × M)) ActorError → List (Letter M)
  letters_got (Ok (Some (from, message))) = record { sender = from; message = message } ∷ []
  letters_got (Ok None) = []
  letters_got (Err e) = []

  same_letters : (g : Got M) → laws.letters_in g ≡ letters_got (message_of (Ok (Some g)))
  same_letters (got.Message from message) = refl
  same_letters got.Timeout = refl

  of_taken : (v : Option (Actor M)) (u w : model.Actors M) (x : ℕ) → value_at u.table x ≡ v → w ≡ taken u x → Holds u.table a S G → Holds w.table a (S ++ []) (G ++ cond (x == a) (letters_got (take_answer u x)) [])
  of_taken None u w x at is holds =
      subst (λ o. Holds w.table a (S ++ []) (G ++ cond (x == a) (letters_got (message_of (begin_of_value o))) [])) (sym at)
      (quiet _ a S G [] _ refl (none_if (x == a)) (subst (λ (k : model.Actors M). Holds k.table a S G) (sym (is ∙ sym (still u x (ap (of_actor is_queued) at)).0)) holds))
  of_taken (Some actor) u w x at is holds =
      subst (λ o. Holds w.table a (S ++ []) (G ++ cond (x == a) (letters_got (message_of (begin_of_value o))) [])) (sym at) (by (is_queued actor.mode) refl)
    where
      by : (b : Bool) → is_queued actor.mode ≡ b → Holds w.table a (S ++ []) (G ++ cond (x == a) (letters_got (message_of (cond (is_queued actor.mode) (Ok (Some (got_in actor.mailbox))) (Ok None)))) [])
      by false idles =
          subst (λ b. Holds w.table a (S ++ []) (G ++ cond (x == a) (letters_got (message_of (cond b (Ok (Some (got_in actor.mailbox))) (Ok None)))) [])) (sym idles)
          (quiet _ a S G [] _ refl (none_if (x == a)) (subst (λ (k : model.Actors M). Holds k.table a S G) (sym (is ∙ sym (still u x (ap (of_actor is_queued) at ∙ idles)).0)) holds))
      by true queues =
          let began : Holds (begun_one u x).table a (S ++ []) (G ++ cond (x == a) (laws.letters_in (got_in actor.mailbox)) []) =
          subst (λ o. Holds (begun_table o u.table x) a (S ++ []) (G ++ cond (x == a) (laws.letters_in (got_in actor.mailbox)) [])) (sym at) (of_front a S G (Some actor) u.table x at holds) in
          subst (λ b. Holds w.table a (S ++ []) (G ++ cond (x == a) (letters_got (message_of (cond b (Ok (Some (got_in actor.mailbox))) (Ok None)))) [])) (sym queues)
          (subst (λ l. Holds w.table a (S ++ []) (G ++ cond (x == a) l [])) (same_letters (got_in actor.mailbox))
          (subst (λ (k : model.Actors M). Holds k.table a (S ++ []) (G ++ cond (x == a) (laws.letters_in (got_in actor.mailbox)) []))
          (sym (is ∙ ap (λ b. cond b (ended false (begun_one u x) x) u) (ap (of_actor is_queued) at ∙ queues)))
          (of_end a (S ++ []) (G ++ cond (x == a) (laws.letters_in (got_in actor.mailbox)) []) false (value_at (begun_one u x).table x) (no_turn (begun_one u x)) x refl began)))

  -- A call that answers a future takes the first message of its actor, or takes none.
  abbrev Went : model.Actors M → model.Actors M → ℕ → Received M → Type 0
  Went u v x r = ((v ≡ taken u x) × (letter_of r ≡ letters_got (take_answer u x))) ⊎ ((v ≡ u) × (letter_of r ≡ []))

  join_went : (m b : Mailboxes M) (x task : ℕ) (r : Received M) → Joins m x task r b → (actors_of b.actors ≡ actors_of m.actors) × (letter_of r ≡ [])
  join_went m b x task (receive.Got from message) p = absurd p
  join_went m b x task (receive.Waits t) p = (ap actors_of p.5, refl)
  join_went m b x task (receive.Refused e) p = (ap actors_of p.2, refl)

  after_went : (t : Result (Option (ℕ × M)) ActorError) (m b : Mailboxes M) (x task : ℕ) (r : Received M) → AfterTake t m x task r b → (actors_of b.actors ≡ actors_of m.actors) × (letter_of r ≡ letters_got t)
  after_went (Ok (Some (from, message))) m b x task r p = (ap (λ (y : Mailboxes M). actors_of y.actors) p.1, ap letter_of p.0)
  after_went (Ok None) m b x task r p = join_went m b x task r p
  after_went (Err e) m b x task r p = (ap (λ (y : Mailboxes M). actors_of y.actors) p.1, ap letter_of p.0)

  calls_same : (m b : Mailboxes M) (x : ℕ) → CallsNext m x b → b.actors ≡ m.actors
  calls_same m b x calls = by (is_ready m x) calls
    where
      place : (o : Option ℕ) → CallsPlace o m b → b.actors ≡ m.actors
      place None same = ap (λ (y : Mailboxes M). y.actors) same
      place (Some i) p = p.6

      by : (c : Bool) → MatchBool c (CallsPlace (first_place m.waiters.items x) m b) (b ≡ m) → b.actors ≡ m.actors
      by true p = place (first_place m.waiters.items x) p
      by false same = ap (λ (y : Mailboxes M). y.actors) same

  gives_up_same : (m b : Mailboxes M) (ticket me : ℕ) → GivesUp m ticket me b → b.actors ≡ m.actors
  gives_up_same m b ticket me p = by (place_of m.called.items ticket) p
    where
      line : (o : Option ℕ) → GivesUpLine o m me b → b.actors ≡ m.actors
      line None same = ap (λ (y : Mailboxes M). y.actors) same
      line (Some i) q = q.6

      by : (o : Option ℕ) → GivesUpAt o m ticket me b → b.actors ≡ m.actors
      by None q = line (place_of m.waiters.items ticket) q
      by (Some i) (w, n, out, calls) = calls_same n b w.actor calls ∙ out.5

  asks_went : (m b : Mailboxes M) (x task : ℕ) (r : Received M) → Asks m x task r b → Went (actors_of m.actors) (actors_of b.actors) x r
  asks_went m b x task r (t, n, (told, took, line), after) = let p = after_went t n b x task r after in inl (p.0 ∙ took, p.1 ∙ ap letters_got told)

  collects_went : (m b : Mailboxes M) (ticket x task : ℕ) (r : Received M) → Collects m ticket x task r b → Went (actors_of m.actors) (actors_of b.actors) x r
  collects_went m b ticket x task r (t, n, o, (told, took, line), left, after) =
      let p = after_went t o b x task r after in
      inl (p.0 ∙ ap actors_of (gives_up_same n o ticket task left) ∙ took, p.1 ∙ ap letters_got told)

  fresh_went : (m b : Mailboxes M) (x task : ℕ) (r : Received M) → Fresh m x task r b → Went (actors_of m.actors) (actors_of b.actors) x r
  fresh_went m b x task r p = by (has_actor m.waiters.items x || has_actor m.called.items x) p
    where
      by : (c : Bool) → MatchBool c (Joins m x task r b) (Asks m x task r b) → Went (actors_of m.actors) (actors_of b.actors) x r
      by true q = inr (join_went m b x task r q)
      by false q = asks_went m b x task r q

  received_went : (m b : Mailboxes M) (ticket : Option ℕ) (x task : ℕ) (r : Received M) → Receives m ticket x task r b → Went (actors_of m.actors) (actors_of b.actors) x r
  received_went m b None x task r p = fresh_went m b x task r p
  received_went m b (Some ticket) x task r p = by (is_there m.waiters.items ticket x task) p
    where
      back : (c : Bool) → MatchBool c (Collects m ticket x task r b) ((n : Mailboxes M) × GivesUp m ticket task n × Fresh n x task r b) → Went (actors_of m.actors) (actors_of b.actors) x r
      back true q = collects_went m b ticket x task r q
      back false (n, left, fresh) = subst (λ u. Went u (actors_of b.actors) x r) (ap actors_of (gives_up_same m n ticket task left)) (fresh_went n b x task r fresh)

      by : (c : Bool) → MatchBool c ((r ≡ receive.Waits ticket) × (b ≡ m)) (Returns m ticket x task r b) → Went (actors_of m.actors) (actors_of b.actors) x r
      by true q = inr (ap (λ (y : Mailboxes M). actors_of y.actors) q.1, ap letter_of q.0)
      by false q = back (is_there m.called.items ticket x task) q

  received_holds : (u v : model.Actors M) (x : ℕ) (r : Received M) → Went u v x r → Holds u.table a S G → Holds v.table a (S ++ []) (G ++ cond (x == a) (letter_of r) [])
  received_holds u v x r (inl (took, told)) holds = subst (λ l. Holds v.table a (S ++ []) (G ++ cond (x == a) l [])) (sym told) (of_taken (value_at u.table x) u v x refl took holds)
  received_holds u v x r (inr (same, none)) holds =
      subst (λ l. Holds v.table a (S ++ []) (G ++ cond (x == a) l [])) (sym none) (quiet _ a S G [] _ refl (none_if (x == a)) (subst (λ (k : model.Actors M). Holds k.table a S G) (sym same) holds))

  same_holds : (m b : Mailboxes M) → b.actors ≡ m.actors → Holds (actors_of m.actors).table a S G → Holds (actors_of b.actors).table a (S ++ []) (G ++ [])
  same_holds m b same holds = quiet _ a S G [] [] refl refl (subst (λ x. Holds (actors_of x).table a S G) (sym same) holds)

  step_holds : (e : Event M) (m b : Mailboxes M) → Step m e b → Holds (actors_of m.actors).table a S G → Holds (actors_of b.actors).table a (S ++ sent_by a e) (G ++ received_by a e)
  step_holds (spawned_one r) m b step holds = quiet _ a S G [] [] refl refl (of_spawned r (actors_of m.actors) (actors_of b.actors) step.1 holds)
  step_holds (sent_one from to message r) m b step holds = of_sends from to message r (actors_of m.actors) (actors_of b.actors) step.0 step.1 holds
  step_holds (stopped_one x r) m b step holds = quiet _ a S G [] [] refl refl (of_stopped (value_at (actors_of m.actors).table x) (actors_of m.actors) (actors_of b.actors) x refl step.1 holds)
  step_holds (received ticket x task r) m b step holds = received_holds (actors_of m.actors) (actors_of b.actors) x r (received_went m b ticket x task r step) holds
  step_holds (called_next x) m b step holds = same_holds m b (calls_same m b x step) holds
  step_holds (gave_up ticket me) m b step holds = same_holds m b (gives_up_same m b ticket me step) holds
  step_holds (handed task) m b step holds = same_holds m b step.4 holds

module _ {M : Type 0} where
  run_holds : (es : List (Event M)) (u v : Mailboxes M) (a : ℕ) (S G : List (Letter M)) → Holds (actors_of u.actors).table a S G → Run Step u es v
      → Holds (actors_of v.actors).table a (S ++ sent_to a es) (G ++ received_from a es)
  run_holds [] u v a S G holds run = quiet _ a S G [] [] refl refl (subst (λ (x : Mailboxes M). Holds (actors_of x.actors).table a S G) (sym run) holds)
  run_holds (e ∷ es) u v a S G holds (m, step, run) =
      let rest = run_holds es m v a (S ++ sent_by a e) (G ++ received_by a e) (step_holds a S G e u m step holds) run in
      subst (λ s. Holds (actors_of v.actors).table a s (G ++ received_from a (e ∷ es))) (assoc S (sent_by a e) (sent_to a es))
      (subst (λ g. Holds (actors_of v.actors).table a ((S ++ sent_by a e) ++ sent_to a es) g) (assoc G (received_by a e) (received_from a es)) rest)

pub received_in_order : (M : Type 0) → ReceivedInOrder M
received_in_order M es u v most_actors most_messages a empty run =
    let holds = run_holds es u v a [] [] (subst (λ (k : model.Actors M). Holds k.table a [] []) (sym empty) (([], refl), λ le. refl)) run in
    prefix (mail (actors_of v.actors).table a) _ _ holds.0
