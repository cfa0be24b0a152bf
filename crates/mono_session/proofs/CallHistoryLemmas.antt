-- The calls and their answers determine the queues.
use Rattle.std.proofs.Common.{◌≡◌, ◌≢◌, inl, inr, ℕ, true, false, Bool, cond, List, [], ◌∷◌, ◌++◌, Some, None, Option, refl, ap, sym, ◌∙◌}
use Rattle.std.specs.Prelude.{⊤, Result, Ok, Err, ◌==◌, ◌&&◌, not, filter}
use Rattle.std.proofs.lemmas.Bool.Decides.{eqb_tells}
use Rattle.mono_session.specs.Keeper.{Session, Entry, Keeper, no_sessions, queue_in, queue_of, is_entry, with_entries, with_greatest, if_granted, open_answer, beat_answer, beaten_value, close_answer, without_session, acquire_answer, release_answer, owner_answer}
use Rattle.mono_session.specs.Calls.{Call}
use Rattle.mono_session.specs.Calls as call
use Rattle.mono_session.specs.Answers.{Answer, of_number, of_done, of_first, of_owner}
use Rattle.mono_session.specs.Answers as answer
use Rattle.mono_session.specs.Steps.{greatest_at, without_all, ClockStep, Step, Run}
use Rattle.mono_session.specs.Laws.{come_if, leave, leave_if, leave_all, after_call, standing_for, QueuesAreTold}
use Rattle.mono_session.specs.declared.error.SessionError.{SessionError}

pub queue_last : (entries : List Entry) (s at key : ℕ) → queue_in (entries ++ record { session = s; key = at } ∷ []) key ≡ come_if key s at (queue_in entries key)
queue_last [] s at key = by (at == key)
  where
    by : (b : Bool) → cond b (s ∷ []) [] ≡ cond b (s ∷ []) []
    by b = refl
queue_last (e ∷ es) s at key = by (e.key == key) (at == key) (queue_last es s at key)
  where
    by : (b c : Bool) → queue_in (es ++ record { session = s; key = at } ∷ []) key ≡ cond c (queue_in es key ++ s ∷ []) (queue_in es key)
        → cond b (e.session ∷ queue_in (es ++ record { session = s; key = at } ∷ []) key) (queue_in (es ++ record { session = s; key = at } ∷ []) key)
        ≡ cond c (cond b (e.session ∷ queue_in es key) (queue_in es key) ++ s ∷ []) (cond b (e.session ∷ queue_in es key) (queue_in es key))
    by true true rest = ap (λ x. e.session ∷ x) rest
    by true false rest = ap (λ x. e.session ∷ x) rest
    by false true rest = rest
    by false false rest = rest

-- those that stay of the entries are those that stay of the queue
queue_filtered : (p : Entry → Bool) (q : ℕ → Bool) (key : ℕ) → ((e : Entry) → (e.key == key) ≡ true → p e ≡ q e.session) → (es : List Entry) → queue_in (filter p es) key ≡ filter q (queue_in es key)
queue_filtered p q key same [] = refl
queue_filtered p q key same (e ∷ es) = by (p e) (e.key == key) refl refl (queue_filtered p q key same es)
  where
    by : (b c : Bool) → p e ≡ b → (e.key == key) ≡ c → queue_in (filter p es) key ≡ filter q (queue_in es key)
        → queue_in (cond b (e ∷ filter p es) (filter p es)) key ≡ filter q (cond c (e.session ∷ queue_in es key) (queue_in es key))
    by true true stays here rest =
        ap (λ x. cond x (e.session ∷ queue_in (filter p es) key) (queue_in (filter p es) key)) here ∙ ap (λ x. e.session ∷ x) rest
        ∙ sym (ap (λ x. cond x (e.session ∷ filter q (queue_in es key)) (filter q (queue_in es key))) (sym (same e here) ∙ stays))
    by true false stays there rest = ap (λ x. cond x (e.session ∷ queue_in (filter p es) key) (queue_in (filter p es) key)) there ∙ rest
    by false true goes here rest = rest ∙ sym (ap (λ x. cond x (e.session ∷ filter q (queue_in es key)) (filter q (queue_in es key))) (sym (same e here) ∙ goes))
    by false false goes there rest = rest

all_stay : (xs : List ℕ) → filter (λ x. true) xs ≡ xs
all_stay [] = refl
all_stay (x ∷ xs) = ap (λ ys. x ∷ ys) (all_stay xs)

true-false : true ≡ false → ⊥
true-false e = cc

and_false : (a : Bool) → (a && false) ≡ false
and_false true = refl
and_false false = refl

and_true : (a : Bool) → (a && true) ≡ a
and_true true = refl
and_true false = refl

pub eq-tells : (a b : ℕ) → a ≡ b → (a == b) ≡ true
eq-tells a b same = elim (eqb_tells a b) [ inl t ↦ t.0 | inr t ↦ absurd (t.1 same) ]

pub queue_released : (es : List Entry) (s at key : ℕ) → queue_in (filter (λ e. not (is_entry s at e)) es) key ≡ leave_if key s at (queue_in es key)
queue_released es s at key = elim (eqb_tells at key) [
  | inl here ↦
      queue_filtered (λ e. not (is_entry s at e)) (λ other. not (other == s)) key (λ e in_key. ap not (ap (λ x. (e.session == s) && x) (eq-tells e.key at (told e in_key ∙ sym here.1)) ∙ and_true (e.session == s))) es
      ∙ sym (ap (λ b. cond b (leave s (queue_in es key)) (queue_in es key)) here.0)
  | inr there ↦
      queue_filtered (λ e. not (is_entry s at e)) (λ other. true) key (λ e in_key. ap not (ap (λ x. (e.session == s) && x) (other_key e in_key there.1) ∙ and_false (e.session == s))) es
      ∙ all_stay (queue_in es key)
      ∙ sym (ap (λ b. cond b (leave s (queue_in es key)) (queue_in es key)) there.0)
]
  where
    told : (e : Entry) → (e.key == key) ≡ true → e.key ≡ key
    told e in_key = elim (eqb_tells e.key key) [ inl t ↦ t.1 | inr t ↦ absurd (true-false (sym in_key ∙ t.0)) ]

    other_key : (e : Entry) → (e.key == key) ≡ true → (at ≢ key) → (e.key == at) ≡ false
    other_key e in_key apart = elim (eqb_tells e.key at) [ inl t ↦ absurd (apart (sym t.1 ∙ told e in_key)) | inr t ↦ t.0 ]

pub queue_closed : (es : List Entry) (s key : ℕ) → queue_in (filter (λ e. not (e.session == s)) es) key ≡ leave s (queue_in es key)
queue_closed es s key = queue_filtered (λ e. not (e.session == s)) (λ other. not (other == s)) key (λ e in_key. refl) es

pub queue_all : (keeper : Keeper) (list : List ℕ) (key : ℕ) → queue_in (without_all keeper list).entries key ≡ leave_all list (queue_in keeper.entries key)
queue_all keeper [] key = refl
queue_all keeper (x ∷ xs) key = queue_all (without_session keeper x) xs key ∙ ap (leave_all xs) (queue_closed keeper.entries x key)

pub beat_entries : (w : Option Session) (old : Keeper) (o : ℕ) → (beaten_value w old o).entries ≡ old.entries
beat_entries None old o = refl
beat_entries (Some session) old o = refl

-- ---- one step
module _ (old : Keeper) (key : ℕ) where
  same_entries : {A : Type 0} (r : Result A SessionError) (after : Keeper) → after.entries ≡ old.entries → queue_of (if_granted r old after) key ≡ queue_of old key
  same_entries (Ok x) after same = ap (λ es. queue_in es key) same
  same_entries (Err e) after same = refl

  of_close : (r : Result ⊤ SessionError) (s : ℕ) → queue_of (if_granted r old (without_session old s)) key ≡ after_call key (call.Close s) (of_done r) (queue_of old key)
  of_close (Ok x) s = queue_closed old.entries s key
  of_close (Err e) s = refl

  of_acquire : (r : Result Bool SessionError) (s at : ℕ) → queue_of (if_granted r old (with_entries old (old.entries ++ record { session = s; key = at } ∷ []))) key ≡ after_call key (call.Acquire s at) (of_first r) (queue_of old key)
  of_acquire (Ok true) s at = queue_last old.entries s at key
  of_acquire (Ok false) s at = queue_last old.entries s at key
  of_acquire (Err e) s at = refl

  of_release : (r : Result ⊤ SessionError) (s at : ℕ) → queue_of (if_granted r old (with_entries old (filter (λ e. not (is_entry s at e)) old.entries))) key ≡ after_call key (call.Release s at) (of_done r) (queue_of old key)
  of_release (Ok x) s at = queue_released old.entries s at key
  of_release (Err e) s at = refl

  moved : (c : Call) (a b : Answer) (mid x : Keeper) → a ≡ b → mid ≡ x → queue_of x key ≡ after_call key c b (queue_of old key) → queue_of mid key ≡ after_call key c a (queue_of old key)
  moved c a b mid x same_answer same goes = ap (λ (k : Keeper). queue_of k key) same ∙ goes ∙ sym (ap (λ t. after_call key c t (queue_of old key)) same_answer)

  open_told : (r : Result ℕ SessionError) (limit : ℕ) → after_call key (call.Open limit) (of_number r) (queue_of old key) ≡ queue_of old key
  open_told (Ok n) limit = refl
  open_told (Err e) limit = refl

  beat_told : (r : Result ⊤ SessionError) (s : ℕ) → after_call key (call.Beat s) (of_done r) (queue_of old key) ≡ queue_of old key
  beat_told (Ok x) s = refl
  beat_told (Err e) s = refl

  owner_told : (r : Option ℕ) (at : ℕ) → after_call key (call.Owner at) (of_owner r) (queue_of old key) ≡ queue_of old key
  owner_told None at = refl
  owner_told (Some s) at = refl

  clock_queue : (n : ℕ) (a : Answer) (mid : Keeper) → ClockStep old n a mid → queue_of mid key ≡ after_call key (call.Clock n) a (queue_of old key)
  clock_queue n (answer.Closed list) mid step = ap (λ (k : Keeper). queue_of k key) step.2 ∙ queue_all (with_greatest old (greatest_at old n)) list key
  clock_queue n (answer.Refused e) mid step = ap (λ (k : Keeper). queue_of k key) step.2
  clock_queue n (answer.Session q) mid step = absurd step
  clock_queue n answer.Done mid step = absurd step
  clock_queue n answer.Held mid step = absurd step
  clock_queue n answer.Waits mid step = absurd step
  clock_queue n (answer.Owner q) mid step = absurd step
  clock_queue n answer.Free mid step = absurd step

  pub step_queue : (c : Call) (a : Answer) (mid : Keeper) → Step old c a mid → queue_of mid key ≡ after_call key c a (queue_of old key)
  step_queue (call.Open limit) a mid step = moved (call.Open limit) a _ mid _ step.0 step.1 (same_entries (open_answer old limit) _ refl ∙ sym (open_told (open_answer old limit) limit))
  step_queue (call.Beat s) a mid step = moved (call.Beat s) a _ mid _ step.0 step.1 (same_entries (beat_answer old s) _ (beat_entries _ old s) ∙ sym (beat_told (beat_answer old s) s))
  step_queue (call.Close s) a mid step = moved (call.Close s) a _ mid _ step.0 step.1 (of_close (close_answer old s) s)
  step_queue (call.Acquire s at) a mid step = moved (call.Acquire s at) a _ mid _ step.0 step.1 (of_acquire (acquire_answer old s at) s at)
  step_queue (call.Release s at) a mid step = moved (call.Release s at) a _ mid _ step.0 step.1 (of_release (release_answer old s at) s at)
  step_queue (call.Owner at) a mid step = moved (call.Owner at) a _ mid _ step.0 step.1 (sym (owner_told (owner_answer old at) at))
  step_queue (call.Clock n) a mid step = clock_queue n a mid step

run_queue : (calls : List Call) (answers : List Answer) (old new : Keeper) (key : ℕ) (standing : List ℕ) → queue_of old key ≡ standing → Run old calls answers new → queue_of new key ≡ standing_for key calls answers standing
run_queue [] [] old new key standing is run = ap (λ (k : Keeper). queue_of k key) run ∙ is
run_queue [] (a ∷ answers) old new key standing is run = absurd run
run_queue (c ∷ calls) [] old new key standing is run = absurd run
run_queue (c ∷ calls) (a ∷ answers) old new key standing is (mid, step, run) = run_queue calls answers mid new key (after_call key c a standing) (step_queue old key c a mid step ∙ ap (after_call key c a) is) run

pub queues_are_told : QueuesAreTold
queues_are_told calls answers most_sessions most_entries new key run = run_queue calls answers (no_sessions most_sessions most_entries) new key [] refl run
