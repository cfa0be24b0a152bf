-- The turns of two branches, and the rule's pick from their answers.
use Rattle.std.proofs.Common.{◌≡◌, Bool, true, false, Some, refl}
use Rattle.std.specs.Fn.{Shared}
use denote.Ref.{Bor}
use Rattle.mono_task.specs.Members.{FutureOf}
use Rattle.mono_model.specs.declared.poll.Poll.TheVariants.{Ready}
use Rattle.mono_combine.specs.declared.branch.Look.{Look}
use Rattle.mono_combine.specs.declared.branch.Look.TheVariants.{Passes, Waits, Rests}
use Rattle.mono_combine.specs.declared.select.Out2.TheVariants.{First, Second}
use Rattle.mono_combine.specs.Looks.{is_out, HasTurn}
use Rattle.mono_combine.specs.Rules.{unless_masked, passes, waits}
use Rattle.mono_combine.specs.Selects.{Seats, as_first, as_second, then_look, Selects}

module _ {X Y : Type 0} where
  counts_first : (m : Bool) (x : Look X) → unless_masked m x ≡ x → unless_masked m (as_first {X = X} {Y = Y} x) ≡ as_first x
  counts_first true (Passes v) e = absurd (cc)
  counts_first true Waits e = absurd (cc)
  counts_first true Rests e = refl
  counts_first false x e = refl

  counts_second : (m : Bool) (y : Look Y) → unless_masked m y ≡ y → unless_masked m (as_second {X = X} {Y = Y} y) ≡ as_second y
  counts_second true (Passes v) e = absurd (cc)
  counts_second true Waits e = absurd (cc)
  counts_second true Rests e = refl
  counts_second false y e = refl

module _ {A B G H C X Y : Type 0} (a : FutureOf A C X) (b : FutureOf B C Y) (g : Shared G (Bor X × Unit {0}) Bool) (h : Shared H (Bor Y × Unit {0}) Bool) (p : G) (q : H) (s t : Seats A B C) where
  pub first_passes : (v : X) → HasTurn a g p s.first s.cx (Passes v) t.first t.cx → t.second ≡ s.second
      → unless_masked (is_out s.first) (Passes v) ≡ Passes v → Selects a b g h p q 0 s (Ready (Some (First v))) t
  first_passes v turn same counts =
      let m = counts_first {Y = Y} (is_out s.first) (Passes v) counts in
      record { x = Passes v; y = Rests; turns = rw m (t, (turn, same), refl); picks = rw m refl }

  pub second_passes : (v : Y) → HasTurn b h q s.second s.cx (Passes v) t.second t.cx → t.first ≡ s.first
      → unless_masked (is_out s.second) (Passes v) ≡ Passes v → Selects a b g h p q 1 s (Ready (Some (Second v))) t
  second_passes v turn same counts =
      let m = counts_second {X = X} (is_out s.second) (Passes v) counts in
      record { x = Rests; y = Passes v; turns = rw m (t, (turn, same), refl); picks = rw m refl }

  pub first_then_second : (middle : C) (x : Look X) (y : Look Y) → passes x ≡ false
      → HasTurn a g p s.first s.cx x t.first middle → unless_masked (is_out s.first) x ≡ x
      → HasTurn b h q s.second middle y t.second t.cx → unless_masked (is_out s.second) y ≡ y
      → Selects a b g h p q 0 s (then_look (waits x) (as_second y)) t
  first_then_second middle (Passes v) y not_passed turn counts turn' counts' = absurd (cc)
  first_then_second middle Waits (Passes v) not_passed turn counts turn' counts' =
      let m = counts_first {Y = Y} (is_out s.first) Waits counts in
      let n = counts_second {X = X} (is_out s.second) (Passes v) counts' in
      record { x = Waits; y = (Passes v); turns = rw (m, n) (record { first = t.first; second = s.second; cx = middle }, (turn, refl), (t, (turn', refl), refl)); picks = rw (m, n) refl }
  first_then_second middle Waits Waits not_passed turn counts turn' counts' =
      let m = counts_first {Y = Y} (is_out s.first) Waits counts in
      let n = counts_second {X = X} (is_out s.second) Waits counts' in
      record { x = Waits; y = Waits; turns = rw (m, n) (record { first = t.first; second = s.second; cx = middle }, (turn, refl), (t, (turn', refl), refl)); picks = rw (m, n) refl }
  first_then_second middle Waits Rests not_passed turn counts turn' counts' =
      let m = counts_first {Y = Y} (is_out s.first) Waits counts in
      let n = counts_second {X = X} (is_out s.second) Rests counts' in
      record { x = Waits; y = Rests; turns = rw (m, n) (record { first = t.first; second = s.second; cx = middle }, (turn, refl), (t, (turn', refl), refl)); picks = rw (m, n) refl }
  first_then_second middle Rests (Passes v) not_passed turn counts turn' counts' =
      let m = counts_first {Y = Y} (is_out s.first) Rests counts in
      let n = counts_second {X = X} (is_out s.second) (Passes v) counts' in
      record { x = Rests; y = (Passes v); turns = rw (m, n) (record { first = t.first; second = s.second; cx = middle }, (turn, refl), (t, (turn', refl), refl)); picks = rw (m, n) refl }
  first_then_second middle Rests Waits not_passed turn counts turn' counts' =
      let m = counts_first {Y = Y} (is_out s.first) Rests counts in
      let n = counts_second {X = X} (is_out s.second) Waits counts' in
      record { x = Rests; y = Waits; turns = rw (m, n) (record { first = t.first; second = s.second; cx = middle }, (turn, refl), (t, (turn', refl), refl)); picks = rw (m, n) refl }
  first_then_second middle Rests Rests not_passed turn counts turn' counts' =
      let m = counts_first {Y = Y} (is_out s.first) Rests counts in
      let n = counts_second {X = X} (is_out s.second) Rests counts' in
      record { x = Rests; y = Rests; turns = rw (m, n) (record { first = t.first; second = s.second; cx = middle }, (turn, refl), (t, (turn', refl), refl)); picks = rw (m, n) refl }

  pub second_then_first : (middle : C) (x : Look X) (y : Look Y) → passes y ≡ false
      → HasTurn b h q s.second s.cx y t.second middle → unless_masked (is_out s.second) y ≡ y
      → HasTurn a g p s.first middle x t.first t.cx → unless_masked (is_out s.first) x ≡ x
      → Selects a b g h p q 1 s (then_look (waits y) (as_first x)) t
  second_then_first middle x (Passes v) not_passed turn counts turn' counts' = absurd (cc)
  second_then_first middle (Passes v) Waits not_passed turn counts turn' counts' =
      let m = counts_first {Y = Y} (is_out s.first) (Passes v) counts' in
      let n = counts_second {X = X} (is_out s.second) Waits counts in
      record { x = (Passes v); y = Waits; turns = rw (m, n) (record { first = s.first; second = t.second; cx = middle }, (turn, refl), (t, (turn', refl), refl)); picks = rw (m, n) refl }
  second_then_first middle Waits Waits not_passed turn counts turn' counts' =
      let m = counts_first {Y = Y} (is_out s.first) Waits counts' in
      let n = counts_second {X = X} (is_out s.second) Waits counts in
      record { x = Waits; y = Waits; turns = rw (m, n) (record { first = s.first; second = t.second; cx = middle }, (turn, refl), (t, (turn', refl), refl)); picks = rw (m, n) refl }
  second_then_first middle Rests Waits not_passed turn counts turn' counts' =
      let m = counts_first {Y = Y} (is_out s.first) Rests counts' in
      let n = counts_second {X = X} (is_out s.second) Waits counts in
      record { x = Rests; y = Waits; turns = rw (m, n) (record { first = s.first; second = t.second; cx = middle }, (turn, refl), (t, (turn', refl), refl)); picks = rw (m, n) refl }
  second_then_first middle (Passes v) Rests not_passed turn counts turn' counts' =
      let m = counts_first {Y = Y} (is_out s.first) (Passes v) counts' in
      let n = counts_second {X = X} (is_out s.second) Rests counts in
      record { x = (Passes v); y = Rests; turns = rw (m, n) (record { first = s.first; second = t.second; cx = middle }, (turn, refl), (t, (turn', refl), refl)); picks = rw (m, n) refl }
  second_then_first middle Waits Rests not_passed turn counts turn' counts' =
      let m = counts_first {Y = Y} (is_out s.first) Waits counts' in
      let n = counts_second {X = X} (is_out s.second) Rests counts in
      record { x = Waits; y = Rests; turns = rw (m, n) (record { first = s.first; second = t.second; cx = middle }, (turn, refl), (t, (turn', refl), refl)); picks = rw (m, n) refl }
  second_then_first middle Rests Rests not_passed turn counts turn' counts' =
      let m = counts_first {Y = Y} (is_out s.first) Rests counts' in
      let n = counts_second {X = X} (is_out s.second) Rests counts in
      record { x = Rests; y = Rests; turns = rw (m, n) (record { first = s.first; second = t.second; cx = middle }, (turn, refl), (t, (turn', refl), refl)); picks = rw (m, n) refl }
