-- One poll of the nest, and how it is given up.
use Rattle.std.proofs.Common.{◌≡◌, ◌≢◌, inl, inr, Ok, ℕ, true, Bool, [], ◌∷◌, ◌++◌, Some, None, refl, ap, sym, subst, ◌∙◌}
use Rattle.std.specs.Prelude.{⊤, Result}
use Rattle.std.specs.Fn.{Shared}
use denote.Ref.{Bor}
use Rattle.mono_model.specs.Tasks.{Tasks, woken}
use Rattle.mono_model.specs.Poll.{OnPending}
use Rattle.mono_model.specs.declared.Woke.{Woke}
use Rattle.mono_model.specs.declared.task_error.TaskError.{TaskError}
use Rattle.mono_model.specs.declared.poll.Poll.{Poll}
use Rattle.mono_model.specs.declared.poll.Poll.TheVariants.{Ready, Pending}
use Rattle.mono_task.specs.Members.{FutureOf}
use Rattle.mono_time.specs.Sleeps.{SleepTable, sleep_poll_answer, with_polled_sleep, with_removed_sleep}
use Rattle.mono_combine.specs.declared.joins.Join2.{Join2}
use Rattle.mono_combine.specs.declared.maybe.MaybeDone.{MaybeDone}
use Rattle.mono_combine.specs.declared.maybe.MaybeDone.TheVariants as maybe
use Rattle.mono_combine.specs.declared.select.Out2.{Out2}
use Rattle.mono_combine.specs.declared.select.Out2.TheVariants.{First, Second}
use Rattle.mono_combine.specs.declared.select.Select2.{Select2}
use Rattle.mono_combine.specs.Branches.{AfterBranch, BranchPolls, MaybeCancels, output_of}
use Rattle.mono_combine.specs.Rules.{join_rule}
use Rattle.mono_combine.specs.Joins.{JoinPolls, JoinCancels, as_list, both}
use Rattle.mono_combine.specs.Selects.{SelectPolls, SelectCancels}
use Rattle.mono_model.specs.Table.{value_at}
use Rattle.example_parts.specs.Countdowns.{is_over}
use Rattle.example_parts.specs.Nests.{Limited, Waits, IsLate, Apart, Passes, late, polled_once, race_of, nest_of, all_polled, all_removed, after_end, delay_in, delays_in_race, delays_in, delays_of}
use Rattle.example_parts.proofs.DelayLemmas.{still_waits, apart-removed, gone-removed, stays_gone-removed, stays_gone-polled, removed-append}
use Rattle.example_parts.proofs.DeadlinePollLemmas.{Answer, limited}
use Rattle.example_parts.proofs.RaceLemmas.{race_waits, race_first, race_late, race_cancels}

abbrev pub Raced : Type 0
Raced = Out2 Answer Answer

pending-list : (r : Poll (Raced × Raced)) → as_list r ≡ Pending → r ≡ Pending
pending-list (Ready (x, y)) e = absurd (cc)
pending-list Pending e = refl

-- a branch of a join whose future waits
branch_waits : {C S O : Type 0} (future : FutureOf S C O) (f : S) (c : C) (n : MaybeDone S O) (d : C) (polls : BranchPolls future f c n d) → polls.answer ≡ Pending → (n ≡ maybe.Future polls.left) × (d ≡ polls.middle)
branch_waits future f c n d polls pending = subst (λ k. AfterBranch future k polls.left polls.middle n d) pending polls.rest

-- a branch of a join whose future answers
branch_ends : {C S O : Type 0} (future : FutureOf S C O) (f : S) (c : C) (n : MaybeDone S O) (d : C) (polls : BranchPolls future f c n d) (x : O) → polls.answer ≡ Ready x → future.cancels polls.left polls.middle d × (n ≡ maybe.Done x)
branch_ends future f c n d polls x ready = subst (λ k. AfterBranch future k polls.left polls.middle n d) ready polls.rest

abbrev pair : Raced → Raced → Raced × Raced
pair x y = (x, y)

ready-list : (r : Poll (Raced × Raced)) (x y : Raced) → as_list r ≡ Ready (inl x ∷ inr y ∷ []) → r ≡ Ready (pair x y)
ready-list (Ready (v, w)) x y e = same v w x y (cc) (cc)
  where
    same : (v w x y : Raced) → v ≡ x → w ≡ y → Ready (pair v w) ≡ Ready (pair x y)
    same v w x y first second = ap (λ k. Ready (pair k w)) first ∙ ap (λ k. Ready (pair x k)) second
ready-list Pending x y e = absurd (cc)

-- The answer for a third delay.
unmoved : (sleeps : SleepTable) (a b q : ℕ) → q ≢ a → q ≢ b → sleep_poll_answer (with_removed_sleep (with_removed_sleep (with_removed_sleep sleeps a) a) b) q ≡ sleep_poll_answer sleeps q
unmoved sleeps a b q apart_a apart_b = apart-removed (with_removed_sleep (with_removed_sleep sleeps a) a) b q apart_b ∙ apart-removed (with_removed_sleep sleeps a) a q apart_a ∙ apart-removed sleeps a q apart_a

-- none of the four is left
pub end_gone : (sleeps : SleepTable) (a b e f by : ℕ) → (value_at (after_end sleeps a b e f by).table a ≡ None) × (value_at (after_end sleeps a b e f by).table b ≡ None) × (value_at (after_end sleeps a b e f by).table e ≡ None) × (value_at (after_end sleeps a b e f by).table f ≡ None)
end_gone sleeps a b e f by =
    let s2 = with_removed_sleep (with_removed_sleep sleeps a) a in
    let s3 = with_removed_sleep s2 b in
    let s4 = with_polled_sleep s3 e by in
    let s5 = with_polled_sleep s4 f by in
    let s6 = with_removed_sleep s5 f in (
      stays_gone-removed s6 e a (stays_gone-removed s5 f a (stays_gone-polled s4 f a by (stays_gone-polled s3 e a by (stays_gone-removed s2 b a (gone-removed (with_removed_sleep sleeps a) a))))),
      stays_gone-removed s6 e b (stays_gone-removed s5 f b (stays_gone-polled s4 f b by (stays_gone-polled s3 e b by (gone-removed s2 b)))),
      gone-removed s6 e,
      stays_gone-removed s6 e f (gone-removed s5 f),
    )

module _ {C : Type 0} (number : C → ℕ) (sleeps : C → SleepTable) (work : C → Tasks ⊤) (wakes : C → ℕ → Result Woke TaskError → C → Type 0) (reaches : C → C → Type 0)
    (same : (c d : C) → reaches c d → number d ≡ number c) (keeps : (c d : C) (t : ℕ) (w : Result Woke TaskError) → wakes c t w d → sleeps d ≡ sleeps c)
    {G H I J : Type 0} (g : Shared G (Bor Answer × Unit {0}) Bool) (h : Shared H (Bor Answer × Unit {0}) Bool) (i : Shared I (Bor Answer × Unit {0}) Bool) (j : Shared J (Bor Answer × Unit {0}) Bool)
    (first : FutureOf (Select2 Limited Limited G H) C Raced) (second : FutureOf (Select2 Limited Limited I J) C Raced) where
  waits_later : (a b t : Limited) (c d : C) → sleeps d ≡ with_polled_sleep (with_polled_sleep (sleeps c) a.delay.number (number c)) b.delay.number (number c) → Waits (sleeps c) t → Waits (sleeps d) t
  waits_later a b t c d after waits = record {
    counts = waits.counts;
    not_due = ap (λ s. sleep_poll_answer s t.delay.number) after
        ∙ still_waits (with_polled_sleep (sleeps c) a.delay.number (number c)) b.delay.number t.delay.number (number c) (still_waits (sleeps c) a.delay.number t.delay.number (number c) waits.not_due);
  }

  pub nest_waits : ((s : Select2 Limited Limited G H) (c : C) (r : Poll Raced) (s' : Select2 Limited Limited G H) (d : C) → first.polls s c r s' d → SelectPolls (limited number sleeps work wakes reaches) (limited number sleeps work wakes reaches) g h s c r s' d)
      → ((s : Select2 Limited Limited I J) (c : C) (r : Poll Raced) (s' : Select2 Limited Limited I J) (d : C) → second.polls s c r s' d → SelectPolls (limited number sleeps work wakes reaches) (limited number sleeps work wakes reaches) i j s c r s' d)
      → (a b e f : Limited) (p : G) (q : H) (u : I) (v : J) (c : C) (r : Poll (Raced × Raced)) (left : Join2 (Select2 Limited Limited G H) (Select2 Limited Limited I J) Raced Raced) (d : C)
      → JoinPolls first second (nest_of (race_of a b p q) (race_of e f u v)) c r left d
      → Waits (sleeps c) a → Waits (sleeps c) b → Waits (sleeps c) e → Waits (sleeps c) f
      → (r ≡ Pending) × (left ≡ nest_of (race_of (polled_once a) (polled_once b) p q) (race_of (polled_once e) (polled_once f) u v))
      × (sleeps d ≡ all_polled (sleeps c) (a.delay.number ∷ b.delay.number ∷ e.delay.number ∷ f.delay.number ∷ []) (number c))
      × (work d ≡ woken (woken (woken (woken (work c) (number c)) (number c)) (number c)) (number c))
  nest_waits first_is second_is a b e f p q u v c r left d polls wa wb we wf =
      let x = race_waits number sleeps work wakes reaches same keeps g h p q a b c polls.a_polled.answer polls.a_polled.left polls.a_polled.middle (first_is (race_of a b p q) c polls.a_polled.answer polls.a_polled.left polls.a_polled.middle polls.a_polled.polled) wa wb in
      let m = branch_waits first (race_of a b p q) c polls.first polls.middle polls.a_polled x.answer in
      let after : sleeps polls.middle ≡ with_polled_sleep (with_polled_sleep (sleeps c) a.delay.number (number c)) b.delay.number (number c) = ap sleeps m.1 ∙ x.sleeps_after in
      let num : number polls.middle ≡ number c = ap number m.1 ∙ x.same_number in
      let y = race_waits number sleeps work wakes reaches same keeps i j u v e f polls.middle polls.b_polled.answer polls.b_polled.left polls.b_polled.middle (second_is (race_of e f u v) polls.middle polls.b_polled.answer polls.b_polled.left polls.b_polled.middle polls.b_polled.polled) (waits_later a b e c polls.middle after we) (waits_later a b f c polls.middle after wf) in
      let n = branch_waits second (race_of e f u v) polls.middle polls.second d polls.b_polled y.answer in
      let first_left : polls.first ≡ maybe.Future (race_of (polled_once a) (polled_once b) p q) = m.0 ∙ ap maybe.Future x.left_is in
      let second_left : polls.second ≡ maybe.Future (race_of (polled_once e) (polled_once f) u v) = n.0 ∙ ap maybe.Future y.left_is in
      let pending : r ≡ Pending = pending-list r (polls.answer ∙ ap (λ k. join_rule (both (output_of k) (output_of polls.second))) first_left) in
      let stays : left ≡ record { a = polls.first; b = polls.second } = subst (λ k. OnPending k (left ≡ record { a = polls.first; b = polls.second })) pending polls.waits in (
        pending,
        stays ∙ rw (first_left, second_left) refl,
        ap sleeps n.1 ∙ y.sleeps_after ∙ ap (λ k. with_polled_sleep (with_polled_sleep (sleeps polls.middle) e.delay.number k) f.delay.number k) num ∙ ap (λ s. with_polled_sleep (with_polled_sleep s e.delay.number (number c)) f.delay.number (number c)) after,
        ap work n.1 ∙ y.work_after ∙ ap (λ k. woken (woken (work polls.middle) k) k) num ∙ ap (λ s. woken (woken s (number c)) (number c)) (ap work m.1 ∙ x.work_after),
      )

  -- the waiting branch of the second race, and its late one, once the first race is over
  pub nest_ends : ((s : Select2 Limited Limited G H) (c : C) (r : Poll Raced) (s' : Select2 Limited Limited G H) (d : C) → first.polls s c r s' d → SelectPolls (limited number sleeps work wakes reaches) (limited number sleeps work wakes reaches) g h s c r s' d)
      → ((s : Select2 Limited Limited G H) (c d : C) → first.cancels s c d → SelectCancels (limited number sleeps work wakes reaches) (limited number sleeps work wakes reaches) s c d)
      → ((s : Select2 Limited Limited I J) (c : C) (r : Poll Raced) (s' : Select2 Limited Limited I J) (d : C) → second.polls s c r s' d → SelectPolls (limited number sleeps work wakes reaches) (limited number sleeps work wakes reaches) i j s c r s' d)
      → ((s : Select2 Limited Limited I J) (c d : C) → second.cancels s c d → SelectCancels (limited number sleeps work wakes reaches) (limited number sleeps work wakes reaches) s c d)
      → (a b e f : Limited) (p : G) (q : H) (u : I) (v : J) (c : C) (r : Poll (Raced × Raced)) (left : Join2 (Select2 Limited Limited G H) (Select2 Limited Limited I J) Raced Raced) (d : C)
      → JoinPolls first second (nest_of (race_of a b p q) (race_of e f u v)) c r left d
      → is_over a.value ≡ true → Waits (sleeps c) e → IsLate (sleeps c) f → Apart a b e f → Passes g p (Ok a.value.value) → Passes j v late
      → (r ≡ Ready (First (Ok a.value.value), Second late))
      × (sleeps d ≡ after_end (sleeps c) a.delay.number b.delay.number e.delay.number f.delay.number (number c))
  nest_ends first_is first_up second_is second_up a b e f p q u v c r left d polls over we lf apart passes passes' =
      let x = race_first number sleeps work wakes reaches same keeps g h p q a b c polls.a_polled.answer polls.a_polled.left polls.a_polled.middle (first_is (race_of a b p q) c polls.a_polled.answer polls.a_polled.left polls.a_polled.middle polls.a_polled.polled) over passes in
      let m = branch_ends first (race_of a b p q) c polls.first polls.middle polls.a_polled (First (Ok a.value.value)) x.0 in
      let up = race_cancels number sleeps work wakes reaches same keeps polls.a_polled.left polls.a_polled.middle polls.middle (first_up polls.a_polled.left polls.a_polled.middle polls.middle m.0) in
      let none : delays_in_race polls.a_polled.left ≡ [] = ap (λ k. delay_in k ++ delay_in polls.a_polled.left.second) x.1 ∙ ap (λ k. [] ++ delay_in k) x.2 in
      let after : sleeps polls.middle ≡ with_removed_sleep (with_removed_sleep (with_removed_sleep (sleeps c) a.delay.number) a.delay.number) b.delay.number = up.0 ∙ ap (λ k. all_removed (sleeps polls.a_polled.middle) k) none ∙ x.3 in
      let num : number polls.middle ≡ number c = up.2 ∙ x.4 in
      let y = race_late number sleeps work wakes reaches same keeps i j u v e f polls.middle polls.b_polled.answer polls.b_polled.left polls.b_polled.middle (second_is (race_of e f u v) polls.middle polls.b_polled.answer polls.b_polled.left polls.b_polled.middle polls.b_polled.polled)
      (record { counts = we.counts; not_due = ap (λ s. sleep_poll_answer s e.delay.number) after ∙ unmoved (sleeps c) a.delay.number b.delay.number e.delay.number apart.e_a apart.e_b ∙ we.not_due })
      (record { counts = lf.counts; due = ap (λ s. sleep_poll_answer s f.delay.number) after ∙ unmoved (sleeps c) a.delay.number b.delay.number f.delay.number apart.f_a apart.f_b ∙ lf.due })
      apart.f_e passes' in
      let n = branch_ends second (race_of e f u v) polls.middle polls.second d polls.b_polled (Second late) y.0 in
      let up' = race_cancels number sleeps work wakes reaches same keeps polls.b_polled.left polls.b_polled.middle d (second_up polls.b_polled.left polls.b_polled.middle d n.0) in
      let none' : delays_in_race polls.b_polled.left ≡ [] = ap (λ k. delay_in k ++ delay_in polls.b_polled.left.second) y.1 ∙ ap (λ k. [] ++ delay_in k) y.2 in (
        ready-list r (First (Ok a.value.value)) (Second late) (polls.answer ∙ ap (λ k. join_rule (both (output_of k) (output_of polls.second))) m.1 ∙ ap (λ k. join_rule (both (Some (First (Ok a.value.value))) (output_of k))) n.1),
        up'.0 ∙ ap (λ k. all_removed (sleeps polls.b_polled.middle) k) none' ∙ y.3 ∙ ap (λ k. with_removed_sleep (with_removed_sleep (with_polled_sleep (with_polled_sleep (sleeps polls.middle) e.delay.number k) f.delay.number k) f.delay.number) e.delay.number) num
            ∙ ap (λ s. with_removed_sleep (with_removed_sleep (with_polled_sleep (with_polled_sleep s e.delay.number (number c)) f.delay.number (number c)) f.delay.number) e.delay.number) after,
      )

  maybe_cancels : {P Q : Type 0} (future : FutureOf (Select2 Limited Limited P Q) C Raced)
      → ((s : Select2 Limited Limited P Q) (c d : C) → future.cancels s c d → SelectCancels (limited number sleeps work wakes reaches) (limited number sleeps work wakes reaches) s c d)
      → (n : MaybeDone (Select2 Limited Limited P Q) Raced) (c d : C) → MaybeCancels future n c d → (sleeps d ≡ all_removed (sleeps c) (delays_in n)) × (work d ≡ work c) × (number d ≡ number c)
  maybe_cancels future is (maybe.Future s) c d gives = race_cancels number sleeps work wakes reaches same keeps s c d (is s c d gives)
  maybe_cancels future is (maybe.Done x) c d gives = (ap sleeps gives, ap work gives, ap number gives)
  maybe_cancels future is maybe.Gone c d gives = (ap sleeps gives, ap work gives, ap number gives)

  pub nest_cancels : ((s : Select2 Limited Limited G H) (c d : C) → first.cancels s c d → SelectCancels (limited number sleeps work wakes reaches) (limited number sleeps work wakes reaches) s c d)
      → ((s : Select2 Limited Limited I J) (c d : C) → second.cancels s c d → SelectCancels (limited number sleeps work wakes reaches) (limited number sleeps work wakes reaches) s c d)
      → (n : Join2 (Select2 Limited Limited G H) (Select2 Limited Limited I J) Raced Raced) (c d : C) → JoinCancels first second n c d
      → (sleeps d ≡ all_removed (sleeps c) (delays_of n)) × (work d ≡ work c)
  nest_cancels first_is second_is n c d gives =
      let x = maybe_cancels first first_is n.a c gives.0 gives.1 in
      let y = maybe_cancels second second_is n.b gives.0 d gives.2 in
      (y.0 ∙ ap (λ s. all_removed s (delays_in n.b)) x.0 ∙ sym (removed-append (sleeps c) (delays_in n.a) (delays_in n.b)), y.1 ∙ x.1)
