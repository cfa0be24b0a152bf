-- The sources of a select of two.
use Rattle.std.specs.Prelude.{zero, suc, ◌≡◌, ◌⊎◌, ◌||◌, ◌<◌, ◌^◌, ◌*◌, ◌/◌, ◌%◌, ℕ, ⊤, Bool, true, false, List, [], ◌∷◌, Option, Some, None}
use Rattle.std.specs.List.{FoldsTo}
use Rattle.std.specs.Fn.{Shared, FnReturnsAt}
use denote.Ref.{Bor}
use Rattle.std.proofs.Common.{inl, inr, sym, ap, ◌∙◌, subst, refl, arith}
use Rattle.std.proofs.lemmas.Nat.{mod_below}
use Rattle.mono_model.specs.Tasks.{Tasks}
use Rattle.mono_model.specs.declared.poll.Poll.{Poll}
use Rattle.mono_model.specs.declared.poll.Poll.TheVariants.{Ready, Pending}
use Rattle.mono_task.specs.Members.{FutureOf}
use Rattle.mono_combine.specs.declared.branch.Branch.{Branch}
use Rattle.mono_combine.specs.declared.branch.Branch.TheVariants.{Live, Out, Gone}
use Rattle.mono_combine.specs.declared.branch.Look.{Look}
use Rattle.mono_combine.specs.declared.branch.Look.TheVariants as look
use Rattle.mono_combine.specs.declared.select.Out2.{Out2}
use Rattle.mono_combine.specs.declared.select.Select2.{Select2}
use Rattle.mono_combine.specs.declared.start.Start.{Start}
use Rattle.mono_combine.specs.declared.start.Start.TheVariants.{Biased, Random}
use Rattle.mono_model.specs.Random.{drawn}
use Rattle.mono_combine.specs.Starts.{start_of}
use Rattle.mono_combine.specs.Looks.{is_out, BranchCancels, passes_if, AfterPoll, TurnBy}
use Rattle.mono_combine.specs.Rules.{passes, waits, unless_masked, order_from, picked_of, up_to_pass, select_rule, select_turns}
use Rattle.mono_combine.specs.Selects.{Seats, masks, as_first, as_second, looks, without_number, TurnOf, Selects, SeatsCancel, SelectCancels, SelectEnds, SelectPolls}
use Rattle.mono_wait.specs.Sources.{Source, Covers, NeedsOne, Heard, heard_on, woke_on}

abbrev pub BranchNeeds : {T : Type 0} → (T → Source → Type 0) → Branch T → Source → Type 0
BranchNeeds needs (Live f) x = needs f x
BranchNeeds needs (Out f) x = ⊥
BranchNeeds needs Gone x = ⊥

abbrev pub SelectNeeds : {A B G H : Type 0} → (A → Source → Type 0) → (B → Source → Type 0) → Select2 A B G H → Source → Type 0
SelectNeeds a b s x = BranchNeeds a s.first x ⊎ BranchNeeds b s.second x

true-false : true ≡ false → ⊥
true-false e = cc

waits-passes : {O : Type 0} (b : Bool) (x : O) → look.Waits ≡ passes_if b x → ⊥
waits-passes true x e = cc
waits-passes false x e = cc

-- one branch
module _ {T C O : Type 0} (future : FutureOf T C O) (reaches : C → C → Type 0) (itself : (c : C) → reaches c c) (on : (a b c : C) → reaches a b → reaches b c → reaches a c)
    (reach : (f : T) (c : C) (r : Poll O) (g : T) (d : C) → future.polls f c r g d → reaches c d) (left : (f : T) (c d : C) → future.cancels f c d → reaches c d) where
  pub given_up : (b : Branch T) (c d : C) → BranchCancels future b c d → reaches c d
  given_up (Live f) c d p = left f c d p
  given_up (Out f) c d p = left f c d p
  given_up Gone c d p = subst (reaches c) (sym p) (itself c)

  module _ (says : O → Bool → Type 0) where
    after_reached : (answer : Poll O) (g : T) (c : C) (l : Look O) (b : Branch T) (d : C) → AfterPoll future says answer g c l b d → reaches c d
    after_reached (Ready x) g c l b d p = left g c d p.0
    after_reached Pending g c l b d p = subst (reaches c) (sym p.2) (itself c)

    pub turn_reached : (b : Branch T) (c : C) (l : Look O) (b' : Branch T) (d : C) → TurnBy future says b c l b' d → reaches c d
    turn_reached (Live f) c l b' d p = on c p.middle d (reach f c p.answer p.left p.middle p.polled) (after_reached p.answer p.left p.middle l b' d p.rest)
    turn_reached (Out f) c l b' d p = subst (reaches c) (sym p.1) (itself c)
    turn_reached Gone c l b' d p = subst (reaches c) (sym p.1) (itself c)

module _ {T C O : Type 0} (future : FutureOf T C O) (number : C → ℕ) (work : C → Tasks ⊤) (reaches : C → C → Type 0) (watcher : C → Source → Option ℕ)
    (needs : T → Source → Type 0) (covers : (f : T) (c : C) (g : T) (d : C) → future.polls f c Pending g d → Covers number work reaches watcher c d (needs g)) (says : O → Bool → Type 0) where
  -- each source that the rest of the branch needs is heard
  abbrev pub Hearing : C → Branch T → C → Type 0
  Hearing c b d = (x : Source) → BranchNeeds needs b x → Heard number work reaches watcher c d x

  after_hears : (f : T) (c : C) (answer : Poll O) (g : T) (middle : C) (l : Look O) (b : Branch T) (d : C) → future.polls f c answer g middle → AfterPoll future says answer g middle l b d → Hearing c b d
  after_hears f c (Ready y) g middle l b d polled rest = subst (λ v. Hearing c v d) (sym rest.1) (λ x none. absurd none)
  after_hears f c Pending g middle l b d polled rest = subst (λ v. Hearing c v d) (sym rest.1) (subst (λ e. Hearing c (Live g) e) (sym rest.2) (covers f c g middle polled).each)

  pub turn_hears : (b : Branch T) (c : C) (l : Look O) (b' : Branch T) (d : C) → TurnBy future says b c l b' d → Hearing c b' d
  turn_hears (Live f) c l b' d p = after_hears f c p.answer p.left p.middle l b' d p.polled p.rest
  turn_hears (Out f) c l b' d p = subst (λ v. Hearing c v d) (sym p.0) (λ x none. absurd none)
  turn_hears Gone c l b' d p = subst (λ v. Hearing c v d) (sym p.0) (λ x none. absurd none)

  -- A branch that waits is left in the select. It needs a source, or the task was woken.
  abbrev pub Armed : C → Branch T → C → Type 0
  Armed c b d = (is_out b ≡ false) × NeedsOne number work reaches c d (BranchNeeds needs b)

  after_arms : (f : T) (c : C) (answer : Poll O) (g : T) (middle : C) (b : Branch T) (d : C) → future.polls f c answer g middle → AfterPoll future says answer g middle look.Waits b d → Armed c b d
  after_arms f c (Ready y) g middle b d polled (given, gone, (is_true, said, is)) = absurd (waits-passes is_true y is)
  after_arms f c Pending g middle b d polled rest = subst (λ v. Armed c v d) (sym rest.1) (subst (λ e. Armed c (Live g) e) (sym rest.2) (refl, (covers f c g middle polled).one))

  pub turn_arms : (b : Branch T) (c : C) (b' : Branch T) (d : C) → is_out b ≡ false → TurnBy future says b c look.Waits b' d → Armed c b' d
  turn_arms (Live f) c b' d live p = after_arms f c p.answer p.left p.middle b' d p.polled p.rest
  turn_arms (Out f) c b' d live p = absurd (true-false live)
  turn_arms Gone c b' d live p = absurd (true-false live)

-- the rule: if it is pending, none passes, one waits, and both have their turns
record NonePass {Z : Type 0} (l k : Look Z) : Type 0 where
  first : passes l ≡ false
  second : passes k ≡ false
  some : (waits l || waits k) ≡ true

record IsWaiting {Z : Type 0} (m : Bool) (l : Look Z) : Type 0 where
  live : m ≡ false
  waits_on : l ≡ look.Waits

module _ {X Y : Type 0} where
  none_pass_0 : (l k : Look (Out2 X Y)) → Pending ≡ without_number (picked_of (l ∷ k ∷ []) (order_from 0 2)) → NonePass l k
  none_pass_0 (look.Passes v) k e = absurd (cc)
  none_pass_0 look.Waits (look.Passes v) e = absurd (cc)
  none_pass_0 look.Waits look.Waits e = record { first = refl; second = refl; some = refl }
  none_pass_0 look.Waits look.Rests e = record { first = refl; second = refl; some = refl }
  none_pass_0 look.Rests (look.Passes v) e = absurd (cc)
  none_pass_0 look.Rests look.Waits e = record { first = refl; second = refl; some = refl }
  none_pass_0 look.Rests look.Rests e = absurd (cc)

  none_pass_1 : (l k : Look (Out2 X Y)) → Pending ≡ without_number (picked_of (l ∷ k ∷ []) (order_from 1 2)) → NonePass l k
  none_pass_1 (look.Passes v) (look.Passes w) e = absurd (cc)
  none_pass_1 (look.Passes v) look.Waits e = absurd (cc)
  none_pass_1 (look.Passes v) look.Rests e = absurd (cc)
  none_pass_1 look.Waits (look.Passes v) e = absurd (cc)
  none_pass_1 look.Waits look.Waits e = record { first = refl; second = refl; some = refl }
  none_pass_1 look.Waits look.Rests e = record { first = refl; second = refl; some = refl }
  none_pass_1 look.Rests (look.Passes v) e = absurd (cc)
  none_pass_1 look.Rests look.Waits e = record { first = refl; second = refl; some = refl }
  none_pass_1 look.Rests look.Rests e = absurd (cc)

  both_turn_0 : {P : Type 0} (R : P → ℕ → P → Type 0) (s t : P) (l k : Look (Out2 X Y)) → NonePass l k → FoldsTo R s (up_to_pass (l ∷ k ∷ []) (order_from 0 2)) t → FoldsTo R s (0 ∷ 1 ∷ []) t
  both_turn_0 R s t (look.Passes v) k none turns = absurd (true-false none.first)
  both_turn_0 R s t look.Waits (look.Passes v) none turns = absurd (true-false none.second)
  both_turn_0 R s t look.Waits look.Waits none turns = turns
  both_turn_0 R s t look.Waits look.Rests none turns = turns
  both_turn_0 R s t look.Rests (look.Passes v) none turns = absurd (true-false none.second)
  both_turn_0 R s t look.Rests look.Waits none turns = turns
  both_turn_0 R s t look.Rests look.Rests none turns = turns

  both_turn_1 : {P : Type 0} (R : P → ℕ → P → Type 0) (s t : P) (l k : Look (Out2 X Y)) → NonePass l k → FoldsTo R s (up_to_pass (l ∷ k ∷ []) (order_from 1 2)) t → FoldsTo R s (1 ∷ 0 ∷ []) t
  both_turn_1 R s t (look.Passes v) k none turns = absurd (true-false none.first)
  both_turn_1 R s t look.Waits (look.Passes v) none turns = absurd (true-false none.second)
  both_turn_1 R s t look.Waits look.Waits none turns = turns
  both_turn_1 R s t look.Waits look.Rests none turns = turns
  both_turn_1 R s t look.Rests (look.Passes v) none turns = absurd (true-false none.second)
  both_turn_1 R s t look.Rests look.Waits none turns = turns
  both_turn_1 R s t look.Rests look.Rests none turns = turns

first_waits : {X : Type 0} (Y : Type 0) (m : Bool) (x : Look X) → waits (unless_masked m (as_first {X = X} {Y = Y} x)) ≡ true → IsWaiting m x
first_waits Y true x is = absurd (true-false (sym is))
first_waits Y false (look.Passes v) is = absurd (true-false (sym is))
first_waits Y false look.Waits is = record { live = refl; waits_on = refl }
first_waits Y false look.Rests is = absurd (true-false (sym is))

second_waits : (X : Type 0) {Y : Type 0} (m : Bool) (y : Look Y) → waits (unless_masked m (as_second {X = X} {Y = Y} y)) ≡ true → IsWaiting m y
second_waits X true y is = absurd (true-false (sym is))
second_waits X false (look.Passes v) is = absurd (true-false (sym is))
second_waits X false look.Waits is = record { live = refl; waits_on = refl }
second_waits X false look.Rests is = absurd (true-false (sym is))

one_of : (a b : Bool) → (a || b) ≡ true → (a ≡ true) ⊎ (b ≡ true)
one_of true b is = inl refl
one_of false b is = inr is

below_two : (d : ℕ) → d < 2 ^ 32 → (d * 2 / 2 ^ 32 ≡ 0) ⊎ (d * 2 / 2 ^ 32 ≡ 1)
below_two d below = by_value (d * 2 / 2 ^ 32) (omega (arith, below))
  where
    by_value : (n : ℕ) → n < 2 → (n ≡ 0) ⊎ (n ≡ 1)
    by_value zero small = inl refl
    by_value (suc zero) small = inr refl
    by_value (suc (suc n)) small = absurd (omega (arith, small))

start_cases : (s : Start) → (start_of s 2 ≡ 0) ⊎ (start_of s 2 ≡ 1)
start_cases Biased = inl refl
start_cases (Random r) = below_two (drawn r) (mod_below _ (2 ^ 32) (omega arith))

module _ {A B G H C X Y : Type 0} (a : FutureOf A C X) (b : FutureOf B C Y) (number : C → ℕ) (work : C → Tasks ⊤) (reaches : C → C → Type 0) (watcher : C → Source → Option ℕ)
    (itself : (c : C) → reaches c c) (on : (a b c : C) → reaches a b → reaches b c → reaches a c)
    (a_reach : (f : A) (c : C) (r : Poll X) (g : A) (d : C) → a.polls f c r g d → reaches c d) (a_left : (f : A) (c d : C) → a.cancels f c d → reaches c d)
    (b_reach : (f : B) (c : C) (r : Poll Y) (g : B) (d : C) → b.polls f c r g d → reaches c d) (b_left : (f : B) (c d : C) → b.cancels f c d → reaches c d)
    (g : Shared G (Bor X × Unit {0}) Bool) (h : Shared H (Bor Y × Unit {0}) Bool) where
  seats_left : (s : Seats A B C) (d : C) → SeatsCancel a b s d → reaches s.cx d
  seats_left s d (middle, first, second) = on s.cx middle d (given_up a reaches itself on a_reach a_left s.first s.cx middle first) (given_up b reaches itself on b_reach b_left s.second middle d second)

  pub select_left : (s : Select2 A B G H) (c d : C) → SelectCancels a b s c d → reaches c d
  select_left s c d p = seats_left (record { first = s.first; second = s.second; cx = c }) d p

  one_turn_reached : (p : G) (q : H) (x : Look X) (y : Look Y) (s : Seats A B C) (n : ℕ) (t : Seats A B C) → TurnOf a b g h p q x y s n t → reaches s.cx t.cx
  one_turn_reached p q x y s zero t turn = turn_reached a reaches itself on a_reach a_left (FnReturnsAt g p) s.first s.cx x t.first t.cx turn.0
  one_turn_reached p q x y s (suc zero) t turn = turn_reached b reaches itself on b_reach b_left (FnReturnsAt h q) s.second s.cx y t.second t.cx turn.0
  one_turn_reached p q x y s (suc (suc n)) t turn = absurd turn

  turns_reached : (p : G) (q : H) (x : Look X) (y : Look Y) (order : List ℕ) (s t : Seats A B C) → FoldsTo (TurnOf a b g h p q x y) s order t → reaches s.cx t.cx
  turns_reached p q x y [] s t turns = subst (λ u. reaches s.cx u.cx) turns (itself s.cx)
  turns_reached p q x y (n ∷ order) s t (u, turn, turns) = on s.cx u.cx t.cx (one_turn_reached p q x y s n u turn) (turns_reached p q x y order u t turns)

  ends_reached : (picked : Poll (Option (Out2 X Y))) (t : Seats A B C) (s : Select2 A B G H) (r : Poll (Out2 X Y)) (s' : Select2 A B G H) (d : C) → SelectEnds a b picked t s r s' d → reaches t.cx d
  ends_reached (Ready pick) t s r s' d p = seats_left t d p.2
  ends_reached Pending t s r s' d p = subst (reaches t.cx) (sym p.2) (itself t.cx)

  pub select_reached : (s : Select2 A B G H) (c : C) (r : Poll (Out2 X Y)) (s' : Select2 A B G H) (d : C) → SelectPolls a b g h s c r s' d → reaches c d
  select_reached s c r s' d p = on c p.left.cx d
      (turns_reached s.first_test s.second_test p.selects.x p.selects.y (select_turns (masks (record { first = s.first; second = s.second; cx = c })) (start_of s.start 2) (looks p.selects.x p.selects.y)) (record { first = s.first; second = s.second; cx = c }) p.left p.selects.turns)
      (ends_reached p.picked p.left s r s' d p.ends)

  module _ (a_needs : A → Source → Type 0) (a_covers : (f : A) (c : C) (g : A) (d : C) → a.polls f c Pending g d → Covers number work reaches watcher c d (a_needs g))
      (b_needs : B → Source → Type 0) (b_covers : (f : B) (c : C) (g : B) (d : C) → b.polls f c Pending g d → Covers number work reaches watcher c d (b_needs g)) where
    abbrev SeatsNeed : Seats A B C → Source → Type 0
    SeatsNeed t x = BranchNeeds a_needs t.first x ⊎ BranchNeeds b_needs t.second x

    abbrev Hear : C → C → Source → Type 0
    Hear c d x = Heard number work reaches watcher c d x

    abbrev One : C → C → (Source → Type 0) → Type 0
    One c d needs = NeedsOne number work reaches c d needs

    earlier : (c m d : C) → reaches m d → (x : Source) → Hear c m x → Hear c d x
    earlier c m d more x it = heard_on number work reaches watcher on c c m d x (itself c) it more

    later : (c m d : C) → reaches c m → (x : Source) → Hear m d x → Hear c d x
    later c m d first x it = heard_on number work reaches watcher on c m d d x first it (itself d)

    -- the first has its turn, and then the second
    first_second : (p : G) (q : H) (x : Look X) (y : Look Y) (s u t : Seats A B C) → TurnOf a b g h p q x y s 0 u → TurnOf a b g h p q x y u 1 t
        → IsWaiting (is_out s.first) x ⊎ IsWaiting (is_out s.second) y → Covers number work reaches watcher s.cx t.cx (SeatsNeed t)
    first_second p q x y s u t one two some = record { one = arms some; each = each }
      where
        to : reaches s.cx u.cx
        to = one_turn_reached p q x y s 0 u one

        from : reaches u.cx t.cx
        from = one_turn_reached p q x y u 1 t two

        each : (z : Source) → SeatsNeed t z → Hear s.cx t.cx z
        each z (inl first) = earlier s.cx u.cx t.cx from z (turn_hears a number work reaches watcher a_needs a_covers (FnReturnsAt g p) s.first s.cx x u.first u.cx one.0 z (subst (λ v. BranchNeeds a_needs v z) two.1 first))
        each z (inr second) = later s.cx u.cx t.cx to z (turn_hears b number work reaches watcher b_needs b_covers (FnReturnsAt h q) u.second u.cx y t.second t.cx two.0 z second)

        arms : IsWaiting (is_out s.first) x ⊎ IsWaiting (is_out s.second) y → One s.cx t.cx (SeatsNeed t)
        arms (inl w) =
            let z : Armed a number work reaches watcher a_needs a_covers (FnReturnsAt g p) s.cx u.first u.cx = turn_arms a number work reaches watcher a_needs a_covers (FnReturnsAt g p) s.first s.cx u.first u.cx w.live (subst (λ l. TurnBy a (FnReturnsAt g p) s.first s.cx l u.first u.cx) w.waits_on one.0)
            in elim z.1 [ inl it ↦ inl (it.0, inl (subst (λ v. BranchNeeds a_needs v it.0) (sym two.1) it.1)) | inr woke ↦ inr (woke_on number work reaches on s.cx s.cx u.cx t.cx (itself s.cx) woke from) ]
        arms (inr w) =
            let z : Armed b number work reaches watcher b_needs b_covers (FnReturnsAt h q) u.cx t.second t.cx = turn_arms b number work reaches watcher b_needs b_covers (FnReturnsAt h q) u.second u.cx t.second t.cx (ap is_out one.1 ∙ w.live) (subst (λ l. TurnBy b (FnReturnsAt h q) u.second u.cx l t.second t.cx) w.waits_on two.0)
            in elim z.1 [ inl it ↦ inl (it.0, inr it.1) | inr woke ↦ inr (woke_on number work reaches on s.cx u.cx t.cx t.cx to woke (itself t.cx)) ]

    -- the second has its turn, and then the first
    second_first : (p : G) (q : H) (x : Look X) (y : Look Y) (s u t : Seats A B C) → TurnOf a b g h p q x y s 1 u → TurnOf a b g h p q x y u 0 t
        → IsWaiting (is_out s.first) x ⊎ IsWaiting (is_out s.second) y → Covers number work reaches watcher s.cx t.cx (SeatsNeed t)
    second_first p q x y s u t one two some = record { one = arms some; each = each }
      where
        to : reaches s.cx u.cx
        to = one_turn_reached p q x y s 1 u one

        from : reaches u.cx t.cx
        from = one_turn_reached p q x y u 0 t two

        each : (z : Source) → SeatsNeed t z → Hear s.cx t.cx z
        each z (inr second) = earlier s.cx u.cx t.cx from z (turn_hears b number work reaches watcher b_needs b_covers (FnReturnsAt h q) s.second s.cx y u.second u.cx one.0 z (subst (λ v. BranchNeeds b_needs v z) two.1 second))
        each z (inl first) = later s.cx u.cx t.cx to z (turn_hears a number work reaches watcher a_needs a_covers (FnReturnsAt g p) u.first u.cx x t.first t.cx two.0 z first)

        arms : IsWaiting (is_out s.first) x ⊎ IsWaiting (is_out s.second) y → One s.cx t.cx (SeatsNeed t)
        arms (inr w) =
            let z : Armed b number work reaches watcher b_needs b_covers (FnReturnsAt h q) s.cx u.second u.cx = turn_arms b number work reaches watcher b_needs b_covers (FnReturnsAt h q) s.second s.cx u.second u.cx w.live (subst (λ l. TurnBy b (FnReturnsAt h q) s.second s.cx l u.second u.cx) w.waits_on one.0)
            in elim z.1 [ inl it ↦ inl (it.0, inr (subst (λ v. BranchNeeds b_needs v it.0) (sym two.1) it.1)) | inr woke ↦ inr (woke_on number work reaches on s.cx s.cx u.cx t.cx (itself s.cx) woke from) ]
        arms (inl w) =
            let z : Armed a number work reaches watcher a_needs a_covers (FnReturnsAt g p) u.cx t.first t.cx = turn_arms a number work reaches watcher a_needs a_covers (FnReturnsAt g p) u.first u.cx t.first t.cx (ap is_out one.1 ∙ w.live) (subst (λ l. TurnBy a (FnReturnsAt g p) u.first u.cx l t.first t.cx) w.waits_on two.0)
            in elim z.1 [ inl it ↦ inl (it.0, inl it.1) | inr woke ↦ inr (woke_on number work reaches on s.cx u.cx t.cx t.cx to woke (itself t.cx)) ]

    who_waits : (m n : Bool) (x : Look X) (y : Look Y) → NonePass (unless_masked m (as_first {X = X} {Y = Y} x)) (unless_masked n (as_second {X = X} {Y = Y} y)) → IsWaiting m x ⊎ IsWaiting n y
    who_waits m n x y none = elim (one_of _ _ none.some) [ inl w ↦ inl (first_waits Y m x w) | inr w ↦ inr (second_waits X n y w) ]

    by_start : (p : G) (q : H) (start : ℕ) (x : Look X) (y : Look Y) (s t : Seats A B C) → (start ≡ 0) ⊎ (start ≡ 1) → FoldsTo (TurnOf a b g h p q x y) s (select_turns (masks s) start (looks x y)) t
        → Pending ≡ without_number (select_rule (masks s) start (looks x y)) → Covers number work reaches watcher s.cx t.cx (SeatsNeed t)
    by_start p q start x y s t (inl is) turns picks =
        let l : Look (Out2 X Y) = unless_masked (is_out s.first) (as_first x) in
        let k : Look (Out2 X Y) = unless_masked (is_out s.second) (as_second y) in
        let none : NonePass l k = none_pass_0 l k (subst (λ n. Pending ≡ without_number (select_rule (masks s) n (looks x y))) is picks) in
        let both : FoldsTo (TurnOf a b g h p q x y) s (0 ∷ 1 ∷ []) t = both_turn_0 (TurnOf a b g h p q x y) s t l k none (subst (λ n. FoldsTo (TurnOf a b g h p q x y) s (select_turns (masks s) n (looks x y)) t) is turns) in
        subst (λ v. Covers number work reaches watcher s.cx v.cx (SeatsNeed v)) both.2.2 (first_second p q x y s both.0 both.2.0 both.1 both.2.1 (who_waits (is_out s.first) (is_out s.second) x y none))
    by_start p q start x y s t (inr is) turns picks =
        let l : Look (Out2 X Y) = unless_masked (is_out s.first) (as_first x) in
        let k : Look (Out2 X Y) = unless_masked (is_out s.second) (as_second y) in
        let none : NonePass l k = none_pass_1 l k (subst (λ n. Pending ≡ without_number (select_rule (masks s) n (looks x y))) is picks) in
        let both : FoldsTo (TurnOf a b g h p q x y) s (1 ∷ 0 ∷ []) t = both_turn_1 (TurnOf a b g h p q x y) s t l k none (subst (λ n. FoldsTo (TurnOf a b g h p q x y) s (select_turns (masks s) n (looks x y)) t) is turns) in
        subst (λ v. Covers number work reaches watcher s.cx v.cx (SeatsNeed v)) both.2.2 (second_first p q x y s both.0 both.2.0 both.1 both.2.1 (who_waits (is_out s.first) (is_out s.second) x y none))

    no_answer : (x : Out2 X Y) → Pending ≡ Ready x → ⊥
    no_answer x e = cc

    by_end : (s : Select2 A B G H) (c : C) (s' : Select2 A B G H) (d : C) (picked : Poll (Option (Out2 X Y))) (t : Seats A B C)
        → Selects a b g h s.first_test s.second_test (start_of s.start 2) (record { first = s.first; second = s.second; cx = c }) picked t → SelectEnds a b picked t s Pending s' d → Covers number work reaches watcher c d (SelectNeeds a_needs b_needs s')
    by_end s c s' d (Ready pick) t selects ends = absurd (no_answer _ ends.0)
    by_end s c s' d Pending t selects ends =
        subst (λ v. Covers number work reaches watcher c d (SelectNeeds a_needs b_needs v)) (sym ends.1)
        (subst (λ e. Covers number work reaches watcher c e (SeatsNeed t)) (sym ends.2)
        (by_start s.first_test s.second_test (start_of s.start 2) selects.x selects.y (record { first = s.first; second = s.second; cx = c }) t (start_cases s.start) selects.turns selects.picks))

    pub selects_cover : (s : Select2 A B G H) (c : C) (s' : Select2 A B G H) (d : C) → SelectPolls a b g h s c Pending s' d → Covers number work reaches watcher c d (SelectNeeds a_needs b_needs s')
    selects_cover s c s' d p = by_end s c s' d p.picked p.left p.selects p.ends
