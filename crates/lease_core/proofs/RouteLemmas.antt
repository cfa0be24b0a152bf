-- The entries of a core's queues are of the core's own keys.
use Rattle.std.proofs.Common.{◌≡◌, ◌==◌, ℕ, Bool, true, false, not, cond, List, [], ◌∷◌, ◌++◌, filter, Option, Some, None, Result, Ok, Err, refl, sym, ap, subst, ◌∙◌, inl, inr}
use Rattle.std.proofs.lemmas.Bool.Decides.{eqb_tells}
use Rattle.mono_model.specs.Table.{value_at}
use Rattle.mono_session.specs.Keeper.{Entry, Keeper, Session, if_granted, open_answer, opened, beat_answer, beaten, beaten_value, close_answer, closed, acquire_answer, acquired, release_answer, released, without_session, with_greatest, queue_in, first_of}
use Rattle.mono_session.specs.Steps.{greatest_at, without_all}
use Rattle.mono_session.specs.Entries.{keys_in}
use Rattle.mono_session.specs.Answers as lease_answer
use Rattle.mono_session.specs.Calls as lease
use Rattle.mono_session.specs.declared.error.SessionError.{SessionError}
use Rattle.mono_actor.specs.Actors.{Actors}
use Rattle.mono_actor.specs.Answers as mail_answer
use Rattle.lease_core.specs.declared.ends.Waiter.{Waiter}
use Rattle.lease_core.specs.declared.requests.Call.{Call}
use Rattle.lease_core.specs.declared.requests.Call.TheVariants as call
use Rattle.lease_core.specs.declared.requests.Outcome.{Outcome}
use Rattle.lease_core.specs.declared.requests.Outcome.TheVariants as outcome
use Rattle.lease_core.specs.declared.requests.Reply.{Reply}
use Rattle.lease_core.specs.Routes.{core_of}
use Rattle.lease_core.specs.Waits.{left_in}
use Rattle.lease_core.specs.Cores.{CoreState, new_core}
use Rattle.lease_core.specs.Steps.{LeaseStep, Handles, HeldOrWaits, HeldOrBusy, Frees, TurnEnds, Event, Advance, Handle, Finish, Run}
use Rattle.lease_core.specs.Laws.{AreRouted, OneCoreHolds}

true-false : true ≡ false → ⊥
true-false e = cc

same_key : (a b : ℕ) → (a == b) ≡ true → a ≡ b
same_key a b e = elim (eqb_tells a b) [ inl t ↦ t.1 | inr t ↦ absurd (true-false (sym e ∙ t.0)) ]

-- The leases of the new state are this keeper.
held_keeper : (number s key : ℕ) (old new : CoreState) (a : lease_answer.Answer) (k : Keeper) (replies : List Reply) → HeldOrWaits old number s key a k replies new → new.keeper ≡ k
held_keeper number s key old new lease_answer.Waits k replies h = ap (λ (c : CoreState). c.keeper) h.1
held_keeper number s key old new (lease_answer.Session x) k replies h = ap (λ (c : CoreState). c.keeper) h.3
held_keeper number s key old new lease_answer.Done k replies h = ap (λ (c : CoreState). c.keeper) h.3
held_keeper number s key old new lease_answer.Held k replies h = ap (λ (c : CoreState). c.keeper) h.3
held_keeper number s key old new (lease_answer.Owner x) k replies h = ap (λ (c : CoreState). c.keeper) h.3
held_keeper number s key old new lease_answer.Free k replies h = ap (λ (c : CoreState). c.keeper) h.3
held_keeper number s key old new (lease_answer.Closed x) k replies h = ap (λ (c : CoreState). c.keeper) h.3
held_keeper number s key old new (lease_answer.Refused x) k replies h = ap (λ (c : CoreState). c.keeper) h.3

frees_keeper : (number : ℕ) (e : ℕ → Waiter → Option Outcome) (keys : List ℕ) (old new : CoreState) (a : lease_answer.Answer) (k : Keeper) (replies : List Reply) → Frees old number e keys a k replies new → new.keeper ≡ k
frees_keeper number e keys old new lease_answer.Done k replies h = ap (λ (c : CoreState). c.keeper) h.1
frees_keeper number e keys old new lease_answer.Waits k replies h = ap (λ (c : CoreState). c.keeper) h.3
frees_keeper number e keys old new (lease_answer.Session x) k replies h = ap (λ (c : CoreState). c.keeper) h.3
frees_keeper number e keys old new lease_answer.Held k replies h = ap (λ (c : CoreState). c.keeper) h.3
frees_keeper number e keys old new (lease_answer.Owner x) k replies h = ap (λ (c : CoreState). c.keeper) h.3
frees_keeper number e keys old new lease_answer.Free k replies h = ap (λ (c : CoreState). c.keeper) h.3
frees_keeper number e keys old new (lease_answer.Closed x) k replies h = ap (λ (c : CoreState). c.keeper) h.3
frees_keeper number e keys old new (lease_answer.Refused x) k replies h = ap (λ (c : CoreState). c.keeper) h.3

turn_keeper : (number : ℕ) (old new : CoreState) (a : mail_answer.Answer ℕ) (mid : Actors ℕ) (replies : List Reply) → TurnEnds old number a mid replies new → new.keeper ≡ old.keeper
turn_keeper number old new (mail_answer.Turn x got) mid replies h = ap (λ (c : CoreState). c.keeper) h.4
turn_keeper number old new (mail_answer.Actor x) mid replies h = ap (λ (c : CoreState). c.keeper) h.3
turn_keeper number old new (mail_answer.Posted x) mid replies h = ap (λ (c : CoreState). c.keeper) h.3
turn_keeper number old new mail_answer.Done mid replies h = ap (λ (c : CoreState). c.keeper) h.3
turn_keeper number old new (mail_answer.Ended x) mid replies h = ap (λ (c : CoreState). c.keeper) h.3
turn_keeper number old new (mail_answer.Due x) mid replies h = ap (λ (c : CoreState). c.keeper) h.3
turn_keeper number old new (mail_answer.Refused x) mid replies h = ap (λ (c : CoreState). c.keeper) h.3
turn_keeper number old new mail_answer.Invalid mid replies h = ap (λ (c : CoreState). c.keeper) h.3

module _ (core cores : ℕ) where
  abbrev Own : List Entry → Type 0
  Own [] = Unit {0}
  Own (entry ∷ entries) = (core_of entry.key cores ≡ core) × Own entries

  own_if : (b : Bool) (entry : Entry) (entries : List Entry) → core_of entry.key cores ≡ core → Own entries → Own (cond b (entry ∷ entries) entries)
  own_if true entry entries is own = (is, own)
  own_if false entry entries is own = own

  own_filter : (p : Entry → Bool) (entries : List Entry) → Own entries → Own (filter p entries)
  own_filter p [] own = own
  own_filter p (entry ∷ entries) (is, own) = own_if (p entry) entry (filter p entries) is (own_filter p entries own)

  own_end : (entries : List Entry) (entry : Entry) → core_of entry.key cores ≡ core → Own entries → Own (entries ++ entry ∷ [])
  own_end [] entry is own = (is, own)
  own_end (first ∷ entries) entry is (first_is, own) = (first_is, own_end entries entry is own)

  own_granted : {A : Type 0} (r : Result A SessionError) (old new : Keeper) → Own old.entries → Own new.entries → Own (if_granted r old new).entries
  own_granted (Ok x) old new before after = after
  own_granted (Err e) old new before after = before

  own_beaten : (v : Option Session) (k : Keeper) (s : ℕ) → Own k.entries → Own (beaten_value v k s).entries
  own_beaten None k s own = own
  own_beaten (Some session) k s own = own

  own_without : (k : Keeper) (s : ℕ) → Own k.entries → Own (without_session k s).entries
  own_without k s own = own_filter (λ entry. not (entry.session == s)) k.entries own

  own_without_all : (k : Keeper) (due : List ℕ) → Own k.entries → Own (without_all k due).entries
  own_without_all k [] own = own
  own_without_all k (s ∷ due) own = own_without_all (without_session k s) due (own_without k s own)

  own_same : (old new : Keeper) → new ≡ old → Own old.entries → Own new.entries
  own_same old new is own = subst (λ (k : Keeper). Own k.entries) (sym is) own

  own_open : (k new : Keeper) (limit : ℕ) (a : lease_answer.Answer) → Own k.entries → LeaseStep k (lease.Open limit) a new → Own new.entries
  own_open k new limit a own (inl step) = own_same (opened k limit) new step.1 (own_granted (open_answer k limit) k _ own own)
  own_open k new limit a own (inr lacks) = own_same k new lacks.2 own

  own_beat : (k new : Keeper) (s : ℕ) (a : lease_answer.Answer) → Own k.entries → LeaseStep k (lease.Beat s) a new → Own new.entries
  own_beat k new s a own (inl step) = own_same (beaten k s) new step.1 (own_granted (beat_answer k s) k _ own (own_beaten (value_at k.sessions s) k s own))
  own_beat k new s a own (inr lacks) = absurd lacks.0

  own_close : (k new : Keeper) (s : ℕ) (a : lease_answer.Answer) → Own k.entries → LeaseStep k (lease.Close s) a new → Own new.entries
  own_close k new s a own (inl step) = own_same (closed k s) new step.1 (own_granted (close_answer k s) k _ own (own_without k s own))
  own_close k new s a own (inr lacks) = absurd lacks.0

  own_acquire : (k new : Keeper) (s key : ℕ) (a : lease_answer.Answer) → core_of key cores ≡ core → Own k.entries → LeaseStep k (lease.Acquire s key) a new → Own new.entries
  own_acquire k new s key a is own (inl step) = own_same (acquired k s key) new step.1 (own_granted (acquire_answer k s key) k _ own (own_end k.entries (record { session = s; key = key }) is own))
  own_acquire k new s key a is own (inr lacks) = own_same k new lacks.2 own

  own_release : (k new : Keeper) (s key : ℕ) (a : lease_answer.Answer) → Own k.entries → LeaseStep k (lease.Release s key) a new → Own new.entries
  own_release k new s key a own (inl step) = own_same (released k s key) new step.1 (own_granted (release_answer k s key) k _ own (own_filter _ k.entries own))
  own_release k new s key a own (inr lacks) = absurd lacks.0

  own_owner_step : (k new : Keeper) (key : ℕ) (a : lease_answer.Answer) → Own k.entries → LeaseStep k (lease.Owner key) a new → Own new.entries
  own_owner_step k new key a own (inl step) = own_same k new step.1 own
  own_owner_step k new key a own (inr lacks) = absurd lacks.0

  own_tried : (number : ℕ) (old new : CoreState) (a : lease_answer.Answer) (k : Keeper) (replies : List Reply) → Own old.keeper.entries → Own k.entries → HeldOrBusy old number a k replies new → Own new.keeper.entries
  own_tried number old new lease_answer.Waits k replies own after h = own_same old.keeper new.keeper (ap (λ (c : CoreState). c.keeper) h.1) own
  own_tried number old new (lease_answer.Session x) k replies own after h = own_same k new.keeper (ap (λ (c : CoreState). c.keeper) h.3) after
  own_tried number old new lease_answer.Done k replies own after h = own_same k new.keeper (ap (λ (c : CoreState). c.keeper) h.3) after
  own_tried number old new lease_answer.Held k replies own after h = own_same k new.keeper (ap (λ (c : CoreState). c.keeper) h.3) after
  own_tried number old new (lease_answer.Owner x) k replies own after h = own_same k new.keeper (ap (λ (c : CoreState). c.keeper) h.3) after
  own_tried number old new lease_answer.Free k replies own after h = own_same k new.keeper (ap (λ (c : CoreState). c.keeper) h.3) after
  own_tried number old new (lease_answer.Closed x) k replies own after h = own_same k new.keeper (ap (λ (c : CoreState). c.keeper) h.3) after
  own_tried number old new (lease_answer.Refused x) k replies own after h = own_same k new.keeper (ap (λ (c : CoreState). c.keeper) h.3) after

  own_handled : (number key : ℕ) (c : Call) (old new : CoreState) (replies : List Reply) → core_of key cores ≡ core → Own old.keeper.entries → Handles old number key c replies new → Own new.keeper.entries
  own_handled number key (call.Open limit) old new replies is own h = own_same h.keeper new.keeper (ap (λ (c : CoreState). c.keeper) h.becomes) (own_open old.keeper h.keeper limit h.answer own h.step)
  own_handled number key (call.Beat s) old new replies is own h = own_same h.keeper new.keeper (ap (λ (c : CoreState). c.keeper) h.becomes) (own_beat old.keeper h.keeper s h.answer own h.step)
  own_handled number key (call.Close s) old new replies is own h =
      own_same h.keeper new.keeper (frees_keeper number (left_in s outcome.Closed h.keeper) (keys_in old.keeper.entries s) old new h.answer h.keeper replies h.rest) (own_close old.keeper h.keeper s h.answer own h.step)
  own_handled number key (call.Acquire s) old new replies is own h =
      own_same h.keeper new.keeper (held_keeper number s key old new h.answer h.keeper replies h.rest) (own_acquire old.keeper h.keeper s key h.answer is own h.step)
  own_handled number key (call.Release s) old new replies is own h =
      own_same h.keeper new.keeper (frees_keeper number (left_in s outcome.Left h.keeper) (key ∷ []) old new h.answer h.keeper replies h.rest) (own_release old.keeper h.keeper s key h.answer own h.step)
  own_handled number key (call.Try s) old new replies is own h =
      own_tried number old new h.answer h.keeper replies own (own_acquire old.keeper h.keeper s key h.answer is own h.step) h.rest
  own_handled number key call.Owner old new replies is own h = own_same h.keeper new.keeper (ap (λ (c : CoreState). c.keeper) h.becomes) (own_owner_step old.keeper h.keeper key h.answer own h.step)
  own_handled number key call.Count old new replies is own h = own_same old.keeper new.keeper (ap (λ (c : CoreState). c.keeper) h.1) own
  own_handled number key (call.Bucket burst period) old new replies is own h = own_same old.keeper new.keeper (ap (λ (c : CoreState). c.keeper) h.becomes) own
  own_handled number key (call.Take b m) old new replies is own h = own_same old.keeper new.keeper (ap (λ (c : CoreState). c.keeper) h.becomes) own
  own_handled number key call.Spawn old new replies is own h = own_same old.keeper new.keeper (ap (λ (c : CoreState). c.keeper) h.becomes) own
  own_handled number key (call.Send from to message) old new replies is own h = own_same old.keeper new.keeper (ap (λ (c : CoreState). c.keeper) h.becomes) own
  own_handled number key call.Receive old new replies is own h = own_same old.keeper new.keeper (turn_keeper number old new h.answer h.mid replies h.rest) own

  own_run : (events : List Event) (replies : List Reply) (old new : CoreState) → AreRouted core cores events → Own old.keeper.entries → Run old events replies new → Own new.keeper.entries
  own_run [] replies old new routed own run = own_same old.keeper new.keeper (ap (λ (c : CoreState). c.keeper) run.1) own
  own_run (Advance n ∷ events) replies old new routed own (first, rest, mid, step, more, is) =
      let k = with_greatest old.keeper (greatest_at old.keeper n) in
      own_run events rest mid new routed (own_same (without_all k step.closed) mid.keeper step.leases.2 (own_without_all k step.closed own)) more
  own_run (Handle r ∷ events) replies old new (route, routed) own (first, rest, mid, step, more, is) =
      own_run events rest mid new routed (own_handled r.number r.key r.call old mid first route own step) more
  own_run (Finish ∷ events) replies old new routed own (first, rest, mid, step, more, is) = own_run events rest mid new routed (own_same old.keeper mid.keeper (ap (λ (c : CoreState). c.keeper) step.becomes) own) more

  owner_if : (b : Bool) (entry : Entry) (entries : List Entry) (key s : ℕ) → (entry.key == key) ≡ b → core_of entry.key cores ≡ core → (first_of (queue_in entries key) ≡ Some s → core_of key cores ≡ core)
      → first_of (cond b (entry.session ∷ queue_in entries key) (queue_in entries key)) ≡ Some s → core_of key cores ≡ core
  owner_if true entry entries key s same is more owner = subst (λ x. core_of x cores ≡ core) (same_key entry.key key same) is
  owner_if false entry entries key s same is more owner = more owner

  own_owner : (entries : List Entry) (key s : ℕ) → Own entries → first_of (queue_in entries key) ≡ Some s → core_of key cores ≡ core
  own_owner [] key s own owner = cc owner
  own_owner (entry ∷ entries) key s (is, own) owner = owner_if (entry.key == key) entry entries key s refl is (own_owner entries key s own) owner

pub one_core : OneCoreHolds
one_core cores i j sizes other_sizes events others replies other_replies one other key s t routed other_routed run other_run owns other_owns =
    let here = own_owner i cores one.keeper.entries key s (own_run i cores events replies (new_core sizes) one routed tt run) owns in
    let there = own_owner j cores other.keeper.entries key t (own_run j cores others other_replies (new_core other_sizes) other other_routed tt other_run) other_owns in
    sym here ∙ there
