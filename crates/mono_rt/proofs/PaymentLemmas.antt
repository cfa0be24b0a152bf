-- One wake after another pays what is owed.
use Rattle.std.proofs.Common.{◌≡◌, ◌≢◌, ◌⊎◌, inl, inr, ℕ, true, set, length, List, [], ◌∷◌, ◌++◌, Some, None, Option, refl, ap, sym, subst, ◌∙◌, append_assoc, append-nil, arith}
use Rattle.std.proofs.lemmas.Bool.{cases_eq, cases_lt}
use Rattle.std.proofs.lemmas.List.{get_or-set_same, get_or-set_other, get_or_past, length-set, append_cancel_left}
use Rattle.std.specs.Prelude.{Result}
use Rattle.mono_model.specs.Table.{Table, value_at, next_number}
use Rattle.mono_model.specs.Tasks.{Tasks, Task, Phase, idle, queued, running, done, taken, in_phase, woken, woken_in, woken_value, all_woken}
use Rattle.mono_model.specs.declared.Woke.{Woke}
use Rattle.mono_model.specs.declared.task_error.TaskError.{TaskError}
use Rattle.mono_task.specs.Members.{SharedOf}
use Rattle.mono_task.specs.Owed.{Hands}
use Rattle.mono_task.specs.Schedule as schedule
use Rattle.mono_machine.specs.Watches.{is_stirred, is_stirred_in}
use Rattle.mono_rt.specs.Leads.{Leads, leads_itself, leads_on, no_steps, both_steps}
use Rattle.mono_rt.specs.Refinement.{hosting_of}
use Rattle.mono_rt.specs.CallActs.{noted_wake}
use Rattle.mono_rt.specs.Payments.{IsStirred, wakes_of, Paying, PaysOwed}
use Rattle.mono_rt.specs.declared.contexts.Cx.{Cx}
use Rattle.mono_rt.proofs.OutputLemmas.{adds_woken}

-- ---- a wake stirs its task, and leaves each other as it is

set_stirs : {O : Type 0} (table : Table (Task O)) (t : ℕ) (new : Option (Task O)) → is_stirred_in new ≡ true → is_stirred_in (value_at (set table t new) t) ≡ true
set_stirs table t new is = elim (cases_lt t (length table)) [
  | inl inside ↦ ap is_stirred_in (get_or-set_same table t new None inside) ∙ is
  | inr past ↦ ap is_stirred_in (get_or_past (set table t new) t None (omega (arith, past, length-set table t new)))
]

pub wake_stirs : {O : Type 0} (tasks : Tasks O) (t : ℕ) → is_stirred_in (value_at (woken tasks t).table t) ≡ true
wake_stirs {O} tasks t = by_value (value_at tasks.table t) refl
  where
    by_phase : (task : Task O) → value_at tasks.table t ≡ Some task → (phase : Phase O) → task.phase ≡ phase → is_stirred_in (value_at (woken_in phase tasks t task).table t) ≡ true
    by_phase task at idle is = set_stirs tasks.table t (Some (in_phase task queued)) refl
    by_phase task at queued is = ap is_stirred_in at ∙ ap is_stirred is
    by_phase task at (running noted) is = set_stirs tasks.table t (Some (in_phase task (running true))) refl
    by_phase task at (done output) is = ap is_stirred_in at ∙ ap is_stirred is
    by_phase task at taken is = ap is_stirred_in at ∙ ap is_stirred is

    by_value : (v : Option (Task O)) → value_at tasks.table t ≡ v → is_stirred_in (value_at (woken_value v tasks t).table t) ≡ true
    by_value None at = ap is_stirred_in at
    by_value (Some task) at = by_phase task at task.phase refl

other_woken : {O : Type 0} (tasks : Tasks O) (t u : ℕ) → u ≢ t → value_at (woken tasks t).table u ≡ value_at tasks.table u
other_woken {O} tasks t u apart = by_value (value_at tasks.table t)
  where
    by_phase : (task : Task O) (phase : Phase O) → value_at (woken_in phase tasks t task).table u ≡ value_at tasks.table u
    by_phase task idle = get_or-set_other tasks.table t u (Some (in_phase task queued)) None apart
    by_phase task queued = refl
    by_phase task (running noted) = get_or-set_other tasks.table t u (Some (in_phase task (running true))) None apart
    by_phase task (done output) = refl
    by_phase task taken = refl

    by_value : (v : Option (Task O)) → value_at (woken_value v tasks t).table u ≡ value_at tasks.table u
    by_value None = refl
    by_value (Some task) = by_phase task task.phase

-- a stirred task stays stirred
pub stays_stirred : {O : Type 0} (tasks : Tasks O) (t u : ℕ) → is_stirred_in (value_at tasks.table u) ≡ true → is_stirred_in (value_at (woken tasks t).table u) ≡ true
stays_stirred tasks t u is = elim (cases_eq u t) [
  | inl same ↦ subst (λ n. is_stirred_in (value_at (woken tasks t).table n) ≡ true) (sym same) (wake_stirs tasks t)
  | inr apart ↦ ap is_stirred_in (other_woken tasks t u apart) ∙ is
]

-- ---- one task after another

no_task : (t : ℕ) (ts : List ℕ) → t ∷ ts ≡ [] → ⊥
no_task t ts e = cc

module _ {F O P U W J A V : Type 0} (number : O → ℕ) (sharing : SharedOf W) where
  pub paying_itself : ((w : W) → sharing.leads w w) → (c : Cx F O P U W J A V) → Paying number sharing c c
  paying_itself itself c = record {
    parts = leads_itself number hosting_of c.parts;
    same_next = refl;
    same_futures = refl;
    same_wakers = refl;
    same_waker = refl;
    same_handed = refl;
    led = itself c.shared;
    wakes = ap (λ xs. xs ++ wakes_of (sharing.owes c.shared)) (no_steps number hosting_of c.parts);
    idle = λ none. refl;
    left = refl;
    woken = λ p t is. inl is;
  }

  -- one more task is handed out and woken
  pub paying_on : ((u v w : W) → sharing.leads u v → sharing.leads v w → sharing.leads u w) → (a b c : Cx F O P U W J A V) (t : ℕ) (answer : Result Woke TaskError) → Paying number sharing a b → Hands sharing.lists sharing.owes b.shared (Some t) c.shared → sharing.leads b.shared c.shared
      → Leads number hosting_of b.parts c.parts → c.parts.acts ≡ noted_wake b.parts.acts t answer → c.parts.tasks ≡ schedule.with_tasks b.parts.tasks (woken b.parts.tasks.tasks t)
      → c.futures ≡ b.futures → c.wakers ≡ b.wakers → c.waker ≡ b.waker → c.has_handed_out ≡ b.has_handed_out → Paying number sharing a c
  paying_on on a b c t answer so_far hands led leads acts is futures wakers waker handed =
      let tasks : c.parts.tasks.tasks ≡ woken b.parts.tasks.tasks t = ap (λ s. s.tasks) is in
      let one : leads.steps ≡ wakes_of (t ∷ []) = append_cancel_left b.parts.acts.steps leads.steps (wakes_of (t ∷ [])) (sym leads.grew ∙ ap (λ x. x.steps) acts) in
      record {
        parts = leads_on number hosting_of a.parts b.parts c.parts so_far.parts leads;
        same_next = ap (λ s. next_number s.table) tasks ∙ (adds_woken b.parts.tasks.tasks t).next ∙ so_far.same_next;
        same_futures = futures ∙ so_far.same_futures;
        same_wakers = wakers ∙ so_far.same_wakers;
        same_waker = waker ∙ so_far.same_waker;
        same_handed = handed ∙ so_far.same_handed;
        led = on a.shared b.shared c.shared so_far.led led;
        wakes =
            ap (λ xs. xs ++ wakes_of (sharing.owes c.shared)) (both_steps number hosting_of a.parts b.parts c.parts so_far.parts leads)
            ∙ append_assoc so_far.parts.steps leads.steps (wakes_of (sharing.owes c.shared)) ∙ ap (λ xs. so_far.parts.steps ++ (xs ++ wakes_of (sharing.owes c.shared))) one
            ∙ ap (λ owed. so_far.parts.steps ++ wakes_of owed) (sym hands.0) ∙ so_far.wakes;
        idle = λ none. absurd (no_task t (sharing.owes c.shared) (sym hands.0 ∙ ap (λ x. sharing.owes x.shared) (so_far.idle none) ∙ none));
        left = ap (λ s. all_woken s (sharing.owes c.shared)) tasks ∙ ap (λ owed. all_woken b.parts.tasks.tasks owed) (sym hands.0) ∙ so_far.left;
        woken = λ p u listed. elim (so_far.woken p u listed) [
          | inl stays ↦ elim (hands.1 p u stays) [
            | inl still ↦ inl still
            | inr here ↦ inr (ap (λ s. is_stirred_in (value_at s.table u)) tasks ∙ subst (λ n. is_stirred_in (value_at (woken b.parts.tasks.tasks t).table n) ≡ true) (sym here) (wake_stirs b.parts.tasks.tasks t))
          ]
          | inr stirred ↦ inr (ap (λ s. is_stirred_in (value_at s.table u)) tasks ∙ stays_stirred b.parts.tasks.tasks t u stirred)
        ];
      }

  -- nothing is owed any more
  pub paid_all : (a b d : Cx F O P U W J A V) → Paying number sharing a b → sharing.owes b.shared ≡ [] → d ≡ b → PaysOwed number sharing a d
  paid_all a b d so_far none same =
      subst (PaysOwed number sharing a) (sym same)
      (record {
        paying = so_far;
        nothing = none;
        wakes = sym (append-nil so_far.parts.steps) ∙ ap (λ owed. so_far.parts.steps ++ wakes_of owed) (sym none) ∙ so_far.wakes;
        tasks = sym (ap (λ owed. all_woken b.parts.tasks.tasks owed) none) ∙ so_far.left;
      })
