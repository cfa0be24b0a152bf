-- One poll of a select of two countdowns with deadlines, and how it is given up.
use Rattle.std.proofs.Common.{◌≡◌, ◌≢◌, Some, Ok, ℕ, true, false, Bool, [], ◌∷◌, refl, ap, sym, subst, ◌∙◌}
use Rattle.std.specs.Prelude.{⊤, Result, Option}
use Rattle.std.specs.List.{FoldsTo}
use Rattle.std.specs.Fn.{Shared, FnReturnsAt}
use denote.Ref.{Bor}
use Rattle.mono_model.specs.Tasks.{Tasks, woken}
use Rattle.mono_model.specs.declared.Woke.{Woke}
use Rattle.mono_model.specs.declared.task_error.TaskError.{TaskError}
use Rattle.mono_model.specs.declared.poll.Poll.{Poll}
use Rattle.mono_model.specs.declared.poll.Poll.TheVariants.{Ready, Pending}
use Rattle.mono_time.specs.Sleeps.{SleepTable, sleep_poll_answer, with_polled_sleep, with_removed_sleep}
use Rattle.mono_combine.specs.declared.branch.Branch.{Branch}
use Rattle.mono_combine.specs.declared.branch.Branch.TheVariants.{Live, Out, Gone}
use Rattle.mono_combine.specs.declared.branch.Look.{Look}
use Rattle.mono_combine.specs.declared.branch.Look.TheVariants as look
use Rattle.mono_combine.specs.declared.select.Out2.{Out2}
use Rattle.mono_combine.specs.declared.select.Out2.TheVariants.{First, Second}
use Rattle.mono_combine.specs.declared.select.Select2.{Select2}
use Rattle.mono_combine.specs.Looks.{HasTurn, AfterPoll, BranchCancels, passes_if}
use Rattle.mono_combine.specs.Rules.{select_rule, select_turns}
use Rattle.mono_combine.specs.Selects.{Seats, looks, TurnOf, SelectEnds, SelectPolls, SelectCancels, without_number}
use Rattle.example_parts.specs.Countdowns.{is_over}
use Rattle.example_parts.specs.Nests.{Limited, Waits, IsLate, Passes, late, polled_once, race_of, all_removed, delay_in, delays_in_race}
use Rattle.example_parts.proofs.DelayLemmas.{still_waits, apart-polled, removed-append}
use Rattle.example_parts.proofs.DeadlinePollLemmas.{Answer, limited, limit_waits, limit_ready, limit_late, limit_cancels}

module _ {C : Type 0} (number : C → ℕ) (sleeps : C → SleepTable) (work : C → Tasks ⊤) (wakes : C → ℕ → Result Woke TaskError → C → Type 0) (reaches : C → C → Type 0) where
  -- The result of a turn whose branch waits.
  pub record TurnWaits (t : Limited) (c : C) (x : Look Answer) (b : Branch Limited) (d : C) : Type 0 where
    pub look_is : x ≡ look.Waits
    pub left_is : b ≡ Live (polled_once t)
    pub sleeps_after : sleeps d ≡ with_polled_sleep (sleeps c) t.delay.number (number c)
    pub work_after : work d ≡ woken (work c) (number c)
    pub same_number : number d ≡ number c

  -- The result of the turns if both branches wait.
  pub record BothWait (a b : Limited) (c : C) (picked : Poll (Option (Out2 Answer Answer))) (t : Seats Limited Limited C) : Type 0 where
    pub picked_is : picked ≡ Pending
    pub first_is : t.first ≡ Live (polled_once a)
    pub second_is : t.second ≡ Live (polled_once b)
    pub sleeps_after : sleeps t.cx ≡ with_polled_sleep (with_polled_sleep (sleeps c) a.delay.number (number c)) b.delay.number (number c)
    pub work_after : work t.cx ≡ woken (woken (work c) (number c)) (number c)
    pub same_number : number t.cx ≡ number c

  -- The result of a pending poll.
  pub record RaceWaits {G H : Type 0} (a b : Limited) (p : G) (q : H) (c : C) (r : Poll (Out2 Answer Answer)) (s : Select2 Limited Limited G H) (d : C) : Type 0 where
    pub answer : r ≡ Pending
    pub left_is : s ≡ race_of (polled_once a) (polled_once b) p q
    pub sleeps_after : sleeps d ≡ with_polled_sleep (with_polled_sleep (sleeps c) a.delay.number (number c)) b.delay.number (number c)
    pub work_after : work d ≡ woken (woken (work c) (number c)) (number c)
    pub same_number : number d ≡ number c

waits-passes : (v : Answer) → look.Passes v ≡ look.Waits → ⊥
waits-passes v e = cc

waits-rests : (x : Look Answer) → x ≡ look.Rests → x ≡ look.Waits → ⊥
waits-rests x is e = cc

passes-rests : (v : Answer) (x : Look Answer) → x ≡ look.Rests → x ≡ look.Passes v → ⊥
passes-rests v x is e = cc

passes-waits : (v : Answer) (x : Look Answer) → x ≡ look.Waits → x ≡ look.Passes v → ⊥
passes-waits v x is e = cc

passes-same : (v w : Answer) → look.Passes w ≡ look.Passes v → w ≡ v
passes-same v w e = cc

module _ {C : Type 0} (number : C → ℕ) (sleeps : C → SleepTable) (work : C → Tasks ⊤) (wakes : C → ℕ → Result Woke TaskError → C → Type 0) (reaches : C → C → Type 0)
    (same : (c d : C) → reaches c d → number d ≡ number c) (keeps : (c d : C) (t : ℕ) (w : Result Woke TaskError) → wakes c t w d → sleeps d ≡ sleeps c) where
  turn_waits : {P : Type 0} (call : Shared P (Bor Answer × Unit {0}) Bool) (test : P) (t : Limited) (b b' : Branch Limited) (c d : C) (x : Look Answer)
      → b ≡ Live t → HasTurn (limited number sleeps work wakes reaches) call test b c x b' d → Waits (sleeps c) t → TurnWaits number sleeps work wakes reaches t c x b' d
  turn_waits call test t b b' c d x is turn waits =
      let turn' : HasTurn (limited number sleeps work wakes reaches) call test (Live t) c x b' d = subst (λ v. HasTurn (limited number sleeps work wakes reaches) call test v c x b' d) is turn in
      let w = limit_waits number sleeps work wakes reaches same keeps t c turn'.answer turn'.left turn'.middle turn'.polled waits in
      let rest : AfterPoll (limited number sleeps work wakes reaches) (FnReturnsAt call test) Pending turn'.left turn'.middle x b' d = subst (λ v. AfterPoll (limited number sleeps work wakes reaches) (FnReturnsAt call test) v turn'.left turn'.middle x b' d) w.answer turn'.rest in
      record {
        look_is = rest.0;
        left_is = rest.1 ∙ ap Live w.left_is;
        sleeps_after = ap sleeps rest.2 ∙ w.sleeps_after;
        work_after = ap work rest.2 ∙ w.work_after;
        same_number = ap number rest.2 ∙ w.same_number;
      }

  moved : (a b : Limited) (c d : C) → sleeps d ≡ with_polled_sleep (sleeps c) a.delay.number (number c) → Waits (sleeps c) b → Waits (sleeps d) b
  moved a b c d after waits = record {
    counts = waits.counts;
    not_due = ap (λ s. sleep_poll_answer s b.delay.number) after ∙ still_waits (sleeps c) a.delay.number b.delay.number (number c) waits.not_due;
  }

  module _ {G H : Type 0} (g : Shared G (Bor Answer × Unit {0}) Bool) (h : Shared H (Bor Answer × Unit {0}) Bool) (p : G) (q : H) (a b : Limited) (c : C) where
    both_wait : (x y : Look Answer) (picked : Poll (Option (Out2 Answer Answer))) (t : Seats Limited Limited C)
        → FoldsTo (TurnOf (limited number sleeps work wakes reaches) (limited number sleeps work wakes reaches) g h p q x y) (record { first = Live a; second = Live b; cx = c }) (select_turns (false ∷ false ∷ []) 0 (looks x y)) t
        → picked ≡ without_number (select_rule (false ∷ false ∷ []) 0 (looks x y))
        → Waits (sleeps c) a → Waits (sleeps c) b → BothWait number sleeps work wakes reaches a b c picked t
    both_wait (look.Passes v) y picked t turns picks wa wb =
        absurd (waits-passes v (turn_waits g p a (Live a) turns.0.first c turns.0.cx (look.Passes v) refl turns.1.0 wa).look_is)
    both_wait look.Rests y picked t turns picks wa wb =
        absurd (waits-rests look.Rests refl (turn_waits g p a (Live a) turns.0.first c turns.0.cx look.Rests refl turns.1.0 wa).look_is)
    both_wait look.Waits (look.Passes v) picked t turns picks wa wb =
        let first = turn_waits g p a (Live a) turns.0.first c turns.0.cx look.Waits refl turns.1.0 wa in
        absurd (waits-passes v (turn_waits h q b turns.0.second turns.2.0.second turns.0.cx turns.2.0.cx (look.Passes v) turns.1.1 turns.2.1.0 (moved a b c turns.0.cx first.sleeps_after wb)).look_is)
    both_wait look.Waits look.Rests picked t turns picks wa wb =
        let first = turn_waits g p a (Live a) turns.0.first c turns.0.cx look.Waits refl turns.1.0 wa in
        absurd (waits-rests look.Rests refl (turn_waits h q b turns.0.second turns.2.0.second turns.0.cx turns.2.0.cx look.Rests turns.1.1 turns.2.1.0 (moved a b c turns.0.cx first.sleeps_after wb)).look_is)
    both_wait look.Waits look.Waits picked t turns picks wa wb =
        let first = turn_waits g p a (Live a) turns.0.first c turns.0.cx look.Waits refl turns.1.0 wa in
        let second = turn_waits h q b turns.0.second turns.2.0.second turns.0.cx turns.2.0.cx look.Waits turns.1.1 turns.2.1.0 (moved a b c turns.0.cx first.sleeps_after wb) in
        let last : t ≡ turns.2.0 = sym turns.2.2 in
        record {
          picked_is = picks;
          first_is = ap (λ s. s.first) last ∙ turns.2.1.1 ∙ first.left_is;
          second_is = ap (λ s. s.second) last ∙ second.left_is;
          sleeps_after = ap (λ s. sleeps s.cx) last ∙ second.sleeps_after ∙ ap (λ s. with_polled_sleep s b.delay.number (number turns.0.cx)) first.sleeps_after ∙ ap (λ n. with_polled_sleep (with_polled_sleep (sleeps c) a.delay.number (number c)) b.delay.number n) first.same_number;
          work_after = ap (λ s. work s.cx) last ∙ second.work_after ∙ ap (λ s. woken s (number turns.0.cx)) first.work_after ∙ ap (λ n. woken (woken (work c) (number c)) n) first.same_number;
          same_number = ap (λ s. number s.cx) last ∙ second.same_number ∙ first.same_number;
        }

    pub race_waits : (r : Poll (Out2 Answer Answer)) (s : Select2 Limited Limited G H) (d : C) → SelectPolls (limited number sleeps work wakes reaches) (limited number sleeps work wakes reaches) g h (race_of a b p q) c r s d
        → Waits (sleeps c) a → Waits (sleeps c) b → RaceWaits number sleeps work wakes reaches a b p q c r s d
    race_waits r s d polls wa wb =
        let both = both_wait polls.selects.x polls.selects.y polls.picked polls.left polls.selects.turns polls.selects.picks wa wb in
        let ends : SelectEnds (limited number sleeps work wakes reaches) (limited number sleeps work wakes reaches) Pending polls.left (race_of a b p q) r s d = subst (λ k. SelectEnds (limited number sleeps work wakes reaches) (limited number sleeps work wakes reaches) k polls.left (race_of a b p q) r s d) both.picked_is polls.ends in
        record {
          answer = ends.0;
          left_is = ends.1 ∙ rw (both.first_is, both.second_is) refl;
          sleeps_after = ap sleeps ends.2 ∙ both.sleeps_after;
          work_after = ap work ends.2 ∙ both.work_after;
          same_number = ap number ends.2 ∙ both.same_number;
        }

  -- a turn whose branch answers this, and whose predicate passes it
  turn_passes : {P : Type 0} (call : Shared P (Bor Answer × Unit {0}) Bool) (test : P) (t : Limited) (b b' : Branch Limited) (c d : C) (x : Look Answer) (w : Answer) (after : SleepTable)
      → b ≡ Live t → HasTurn (limited number sleeps work wakes reaches) call test b c x b' d → Passes call test w
      → ((r : Poll Answer) (left : Limited) (m : C) → (limited number sleeps work wakes reaches).polls t c r left m → (r ≡ Ready w) × (left.delay ≡ t.delay) × (sleeps m ≡ after) × (number m ≡ number c))
      → (x ≡ look.Passes w) × (b' ≡ Gone) × (sleeps d ≡ with_removed_sleep after t.delay.number) × (number d ≡ number c)
  turn_passes call test t b b' c d x w after is turn passes answers =
      let turn' : HasTurn (limited number sleeps work wakes reaches) call test (Live t) c x b' d = subst (λ v. HasTurn (limited number sleeps work wakes reaches) call test v c x b' d) is turn in
      let a = answers turn'.answer turn'.left turn'.middle turn'.polled in
      let rest : AfterPoll (limited number sleeps work wakes reaches) (FnReturnsAt call test) (Ready w) turn'.left turn'.middle x b' d = subst (λ v. AfterPoll (limited number sleeps work wakes reaches) (FnReturnsAt call test) v turn'.left turn'.middle x b' d) a.0 turn'.rest in
      let k = limit_cancels number sleeps work wakes reaches same keeps turn'.left turn'.middle d rest.0 in
      let true_is : rest.2.0 ≡ true = passes rest.2.0 rest.2.1 in (
        rest.2.2 ∙ ap (λ v. passes_if v w) true_is,
        rest.1,
        k.0 ∙ ap (λ s. with_removed_sleep s turn'.left.delay.number) a.2 ∙ ap (λ s. with_removed_sleep after s.number) a.1,
        k.2 ∙ a.3,
      )

  module _ {G H : Type 0} (g : Shared G (Bor Answer × Unit {0}) Bool) (h : Shared H (Bor Answer × Unit {0}) Bool) (p : G) (q : H) (a b : Limited) (c : C) where
    -- the first branch has no polls left
    first_picked : (x y : Look Answer) (picked : Poll (Option (Out2 Answer Answer))) (t : Seats Limited Limited C)
        → FoldsTo (TurnOf (limited number sleeps work wakes reaches) (limited number sleeps work wakes reaches) g h p q x y) (record { first = Live a; second = Live b; cx = c }) (select_turns (false ∷ false ∷ []) 0 (looks x y)) t
        → picked ≡ without_number (select_rule (false ∷ false ∷ []) 0 (looks x y))
        → is_over a.value ≡ true → Passes g p (Ok a.value.value)
        → (picked ≡ Ready (Some (First (Ok a.value.value)))) × (t.first ≡ Gone) × (t.second ≡ Live b) × (sleeps t.cx ≡ with_removed_sleep (with_removed_sleep (sleeps c) a.delay.number) a.delay.number) × (number t.cx ≡ number c)
    first_picked look.Waits y picked t turns picks over passes =
        absurd (passes-waits (Ok a.value.value) look.Waits refl (turn_passes g p a (Live a) turns.0.first c turns.0.cx look.Waits (Ok a.value.value) (with_removed_sleep (sleeps c) a.delay.number) refl turns.1.0 passes
        (λ r left m polls. limit_ready number sleeps work wakes reaches same keeps a c r left m polls over)).0)
    first_picked look.Rests y picked t turns picks over passes =
        absurd (passes-rests (Ok a.value.value) look.Rests refl (turn_passes g p a (Live a) turns.0.first c turns.0.cx look.Rests (Ok a.value.value) (with_removed_sleep (sleeps c) a.delay.number) refl turns.1.0 passes
        (λ r left m polls. limit_ready number sleeps work wakes reaches same keeps a c r left m polls over)).0)
    first_picked (look.Passes v) y picked t turns picks over passes =
        let k = turn_passes g p a (Live a) turns.0.first c turns.0.cx (look.Passes v) (Ok a.value.value) (with_removed_sleep (sleeps c) a.delay.number) refl turns.1.0 passes
        (λ r left m polls. limit_ready number sleeps work wakes reaches same keeps a c r left m polls over) in
        let last : t ≡ turns.0 = sym turns.2 in (
          picks ∙ ap (λ w. Ready (Some (First w))) (passes-same (Ok a.value.value) v k.0),
          ap (λ s. s.first) last ∙ k.1,
          ap (λ s. s.second) last ∙ turns.1.1,
          ap (λ s. sleeps s.cx) last ∙ k.2,
          ap (λ s. number s.cx) last ∙ k.3,
        )

    -- The second turn, if the first branch waits and the second is out of time.
    second_turn : (x y : Look Answer) (s t : Seats Limited Limited C)
        → HasTurn (limited number sleeps work wakes reaches) g p (Live a) c x s.first s.cx → s.second ≡ Live b → HasTurn (limited number sleeps work wakes reaches) h q s.second s.cx y t.second t.cx
        → Waits (sleeps c) a → IsLate (sleeps c) b → b.delay.number ≢ a.delay.number → Passes h q late
        → (y ≡ look.Passes late) × (t.second ≡ Gone) × (sleeps t.cx ≡ with_removed_sleep (with_polled_sleep (with_polled_sleep (sleeps c) a.delay.number (number c)) b.delay.number (number c)) b.delay.number) × (number t.cx ≡ number c)
    second_turn x y s t turn stays turn' wa lb apart passes =
        let first = turn_waits g p a (Live a) s.first c s.cx x refl turn wa in
        let later : IsLate (sleeps s.cx) b = record {
          counts = lb.counts;
          due = ap (λ v. sleep_poll_answer v b.delay.number) first.sleeps_after ∙ apart-polled (sleeps c) a.delay.number b.delay.number (number c) apart ∙ lb.due;
        } in
        let k = turn_passes h q b s.second t.second s.cx t.cx y late (with_polled_sleep (sleeps s.cx) b.delay.number (number s.cx)) stays turn' passes
        (λ r left m polls. limit_late number sleeps work wakes reaches same keeps b s.cx r left m polls later) in (
          k.0,
          k.1,
          k.2 ∙ ap (λ v. with_removed_sleep (with_polled_sleep v b.delay.number (number s.cx)) b.delay.number) first.sleeps_after
              ∙ ap (λ n. with_removed_sleep (with_polled_sleep (with_polled_sleep (sleeps c) a.delay.number (number c)) b.delay.number n) b.delay.number) first.same_number,
          k.3 ∙ first.same_number,
        )

    -- the first branch waits, and the second is out of time
    second_picked : (x y : Look Answer) (picked : Poll (Option (Out2 Answer Answer))) (t : Seats Limited Limited C)
        → FoldsTo (TurnOf (limited number sleeps work wakes reaches) (limited number sleeps work wakes reaches) g h p q x y) (record { first = Live a; second = Live b; cx = c }) (select_turns (false ∷ false ∷ []) 0 (looks x y)) t
        → picked ≡ without_number (select_rule (false ∷ false ∷ []) 0 (looks x y))
        → Waits (sleeps c) a → IsLate (sleeps c) b → b.delay.number ≢ a.delay.number → Passes h q late
        → (picked ≡ Ready (Some (Second late))) × (t.first ≡ Live (polled_once a)) × (t.second ≡ Gone)
        × (sleeps t.cx ≡ with_removed_sleep (with_polled_sleep (with_polled_sleep (sleeps c) a.delay.number (number c)) b.delay.number (number c)) b.delay.number) × (number t.cx ≡ number c)
    second_picked (look.Passes v) y picked t turns picks wa lb apart passes =
        absurd (waits-passes v (turn_waits g p a (Live a) turns.0.first c turns.0.cx (look.Passes v) refl turns.1.0 wa).look_is)
    second_picked look.Rests y picked t turns picks wa lb apart passes =
        absurd (waits-rests look.Rests refl (turn_waits g p a (Live a) turns.0.first c turns.0.cx look.Rests refl turns.1.0 wa).look_is)
    second_picked look.Waits look.Waits picked t turns picks wa lb apart passes =
        absurd (passes-waits late look.Waits refl (second_turn look.Waits look.Waits turns.0 turns.2.0 turns.1.0 turns.1.1 turns.2.1.0 wa lb apart passes).0)
    second_picked look.Waits look.Rests picked t turns picks wa lb apart passes =
        absurd (passes-rests late look.Rests refl (second_turn look.Waits look.Rests turns.0 turns.2.0 turns.1.0 turns.1.1 turns.2.1.0 wa lb apart passes).0)
    second_picked look.Waits (look.Passes v) picked t turns picks wa lb apart passes =
        let first = turn_waits g p a (Live a) turns.0.first c turns.0.cx look.Waits refl turns.1.0 wa in
        let k = second_turn look.Waits (look.Passes v) turns.0 turns.2.0 turns.1.0 turns.1.1 turns.2.1.0 wa lb apart passes in
        let last : t ≡ turns.2.0 = sym turns.2.2 in (
          picks ∙ ap (λ w. Ready (Some (Second w))) (passes-same late v k.0),
          ap (λ s. s.first) last ∙ turns.2.1.1 ∙ first.left_is,
          ap (λ s. s.second) last ∙ k.1,
          ap (λ s. sleeps s.cx) last ∙ k.2,
          ap (λ s. number s.cx) last ∙ k.3,
        )

    pub race_first : (r : Poll (Out2 Answer Answer)) (s : Select2 Limited Limited G H) (d : C) → SelectPolls (limited number sleeps work wakes reaches) (limited number sleeps work wakes reaches) g h (race_of a b p q) c r s d
        → is_over a.value ≡ true → Passes g p (Ok a.value.value)
        → (r ≡ Ready (First (Ok a.value.value))) × (s.first ≡ Gone) × (s.second ≡ Gone) × (sleeps d ≡ with_removed_sleep (with_removed_sleep (with_removed_sleep (sleeps c) a.delay.number) a.delay.number) b.delay.number) × (number d ≡ number c)
    race_first r s d polls over passes =
        let k = first_picked polls.selects.x polls.selects.y polls.picked polls.left polls.selects.turns polls.selects.picks over passes in
        let ends : SelectEnds (limited number sleeps work wakes reaches) (limited number sleeps work wakes reaches) (Ready (Some (First (Ok a.value.value)))) polls.left (race_of a b p q) r s d = subst (λ v. SelectEnds (limited number sleeps work wakes reaches) (limited number sleeps work wakes reaches) v polls.left (race_of a b p q) r s d) k.0 polls.ends in
        let gone : ends.2.0 ≡ polls.left.cx = subst (λ v. BranchCancels (limited number sleeps work wakes reaches) v polls.left.cx ends.2.0) k.1 ends.2.1 in
        let up = limit_cancels number sleeps work wakes reaches same keeps b ends.2.0 d (subst (λ v. BranchCancels (limited number sleeps work wakes reaches) v ends.2.0 d) k.2 ends.2.2) in (
          ends.0,
          ap (λ v. v.first) ends.1,
          ap (λ v. v.second) ends.1,
          up.0 ∙ ap (λ m. with_removed_sleep (sleeps m) b.delay.number) gone ∙ ap (λ v. with_removed_sleep v b.delay.number) k.3,
          up.2 ∙ ap number gone ∙ k.4,
        )

    pub race_late : (r : Poll (Out2 Answer Answer)) (s : Select2 Limited Limited G H) (d : C) → SelectPolls (limited number sleeps work wakes reaches) (limited number sleeps work wakes reaches) g h (race_of a b p q) c r s d
        → Waits (sleeps c) a → IsLate (sleeps c) b → b.delay.number ≢ a.delay.number → Passes h q late
        → (r ≡ Ready (Second late)) × (s.first ≡ Gone) × (s.second ≡ Gone) × (sleeps d ≡ with_removed_sleep (with_removed_sleep (with_polled_sleep (with_polled_sleep (sleeps c) a.delay.number (number c)) b.delay.number (number c)) b.delay.number) a.delay.number) × (number d ≡ number c)
    race_late r s d polls wa lb apart passes =
        let k = second_picked polls.selects.x polls.selects.y polls.picked polls.left polls.selects.turns polls.selects.picks wa lb apart passes in
        let ends : SelectEnds (limited number sleeps work wakes reaches) (limited number sleeps work wakes reaches) (Ready (Some (Second late))) polls.left (race_of a b p q) r s d = subst (λ v. SelectEnds (limited number sleeps work wakes reaches) (limited number sleeps work wakes reaches) v polls.left (race_of a b p q) r s d) k.0 polls.ends in
        let up = limit_cancels number sleeps work wakes reaches same keeps (polled_once a) polls.left.cx ends.2.0 (subst (λ v. BranchCancels (limited number sleeps work wakes reaches) v polls.left.cx ends.2.0) k.1 ends.2.1) in
        let gone : d ≡ ends.2.0 = subst (λ v. BranchCancels (limited number sleeps work wakes reaches) v ends.2.0 d) k.2 ends.2.2 in (
          ends.0,
          ap (λ v. v.first) ends.1,
          ap (λ v. v.second) ends.1,
          ap sleeps gone ∙ up.0 ∙ ap (λ v. with_removed_sleep v a.delay.number) k.3,
          ap number gone ∙ up.2 ∙ k.4,
        )

  pub branch_cancels : (b : Branch Limited) (c d : C) → BranchCancels (limited number sleeps work wakes reaches) b c d → (sleeps d ≡ all_removed (sleeps c) (delay_in b)) × (work d ≡ work c) × (number d ≡ number c)
  branch_cancels (Live t) c d gives = limit_cancels number sleeps work wakes reaches same keeps t c d gives
  branch_cancels (Out t) c d gives = limit_cancels number sleeps work wakes reaches same keeps t c d gives
  branch_cancels Gone c d gives = (ap sleeps gives, ap work gives, ap number gives)

  pub race_cancels : {G H : Type 0} (s : Select2 Limited Limited G H) (c d : C) → SelectCancels (limited number sleeps work wakes reaches) (limited number sleeps work wakes reaches) s c d
      → (sleeps d ≡ all_removed (sleeps c) (delays_in_race s)) × (work d ≡ work c) × (number d ≡ number c)
  race_cancels s c d gives =
      let first = branch_cancels s.first c gives.0 gives.1 in
      let second = branch_cancels s.second gives.0 d gives.2 in (
        second.0 ∙ ap (λ t. all_removed t (delay_in s.second)) first.0 ∙ sym (removed-append (sleeps c) (delay_in s.first) (delay_in s.second)),
        second.1 ∙ first.1,
        second.2 ∙ first.2,
      )
