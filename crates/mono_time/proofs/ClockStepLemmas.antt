-- A whole clock step, one sleep after another.
use Rattle.std.proofs.Common.{◌≡◌, ◌++◌, ◌∷◌, [], ℕ, List, Some, None, Option, max, refl, ap, sym, subst, ◌∙◌, arith, append_assoc, append-nil}
use Rattle.mono_model.specs.Ticks.{down}
use Rattle.mono_model.specs.Sleeps.{Sleeps, with_greatest}
use Rattle.mono_model.specs.SleepActs as machine
use Rattle.mono_time.specs.Sleeps.{SleepTable, with_fired_sleep, at_clock_tick, IsNoneArmedUpTo, IsFiredFirst}
use Rattle.mono_time.specs.Refinement.{StandsForSleeps}
use Rattle.mono_time.specs.Timers.{sleeps_of}
use Rattle.mono_time.specs.Fires.{FireEach, MachineFires, FiredAll}
use Rattle.mono_time.specs.declared.timers.Timers.{Timers}

-- The sleeps that fire from here on are appended to those that have fired.
pub record SoFar (old now : Timers) (nanos : ℕ) (before after : List (ℕ × Option ℕ)) : Type 0 where
  pub all : List (ℕ × Option ℕ)
  pub behind : after ≡ before ++ all
  pub fires : (more : List (ℕ × Option ℕ)) (left : SleepTable) → FireEach (at_clock_tick (sleeps_of now) nanos) more left → FireEach (at_clock_tick (sleeps_of old) nanos) (all ++ more) left
  pub stands : (m : Sleeps) → StandsForSleeps old m → (here : Sleeps) × StandsForSleeps now here
      × ((more : List (ℕ × Option ℕ)) (left : Sleeps) → MachineFires (machine.at_clock here nanos) more left → MachineFires (machine.at_clock m nanos) (all ++ more) left)

max_again : (g d : ℕ) → max (max g d) d ≡ max g d
max_again g d = omega arith

-- a clock that shows the same again
same_table : (sleeps : SleepTable) (n s : ℕ) → at_clock_tick (with_fired_sleep (at_clock_tick sleeps n) s) n ≡ with_fired_sleep (at_clock_tick sleeps n) s
same_table sleeps n s = ap (λ g. record (with_fired_sleep (at_clock_tick sleeps n) s) { greatest = g }) (max_again sleeps.greatest (down n))

same_machine : (sleeps : Sleeps) (n s : ℕ) → machine.at_clock (machine.fired (machine.at_clock sleeps n) s) n ≡ machine.fired (machine.at_clock sleeps n) s
same_machine sleeps n s = ap (with_greatest (machine.fired (machine.at_clock sleeps n) s)) (max_again sleeps.greatest (down n))

pub so-far : (old : Timers) (nanos : ℕ) (before : List (ℕ × Option ℕ)) → SoFar old old nanos before before
so-far old nanos before = record {
  all = [];
  behind = sym (append-nil before);
  fires = λ more left f. f;
  stands = λ m st. (m, st, λ more left f. f);
}

module _ (old now next : Timers) (nanos : ℕ) (before after : List (ℕ × Option ℕ)) (so : SoFar old now nanos before after) where
  pub one-more : (one : ℕ × Option ℕ) (after2 : List (ℕ × Option ℕ)) → after2 ≡ after ++ one ∷ [] → IsFiredFirst (at_clock_tick (sleeps_of now) nanos) one.0 one.1 → sleeps_of next ≡ with_fired_sleep (at_clock_tick (sleeps_of now) nanos) one.0
      → ((m : Sleeps) → StandsForSleeps now m → machine.Fires (machine.at_clock m nanos) (Some one) (StandsForSleeps next)) → SoFar old next nanos before after2
  one-more one after2 pushed first is stands = record {
    all = so.all ++ one ∷ [];
    behind = pushed ∙ ap (λ xs. xs ++ one ∷ []) so.behind ∙ append_assoc before so.all (one ∷ []);
    fires = λ more left f.
        let again : at_clock_tick (sleeps_of next) nanos ≡ with_fired_sleep (at_clock_tick (sleeps_of now) nanos) one.0 = ap (λ t. at_clock_tick t nanos) is ∙ same_table (sleeps_of now) nanos one.0 in
        subst (λ xs. FireEach (at_clock_tick (sleeps_of old) nanos) xs left) (sym (append_assoc so.all (one ∷ []) more))
        (so.fires (one ∷ more) left (first, subst (λ t. FireEach t more left) again f));
    stands = λ m st.
        let before = so.stands m st in
        let one_fires = stands before.0 before.1 in (
          machine.fired (machine.at_clock before.0 nanos) one.0,
          one_fires.2,
          λ more left f.
              subst (λ xs. MachineFires (machine.at_clock m nanos) xs left) (sym (append_assoc so.all (one ∷ []) more))
              (before.2 (one ∷ more) left (one_fires.0, one_fires.1, subst (λ x. MachineFires x more left) (same_machine before.0 nanos one.0) f)),
        );
  }

  pub all-fired : IsNoneArmedUpTo (at_clock_tick (sleeps_of now) nanos) → sleeps_of next ≡ at_clock_tick (sleeps_of now) nanos → ((m : Sleeps) → StandsForSleeps now m → machine.Fires (machine.at_clock m nanos) None (StandsForSleeps next)) → FiredAll old next nanos before after
  all-fired none is stands = record {
    all = so.all;
    behind = so.behind;
    fires = subst (λ xs. FireEach (at_clock_tick (sleeps_of old) nanos) xs (sleeps_of next)) (append-nil so.all) (so.fires [] (sleeps_of next) (none, is));
    stands = λ m st.
        let before = so.stands m st in
        let last = stands before.0 before.1 in (
          machine.at_clock before.0 nanos,
          subst (λ xs. MachineFires (machine.at_clock m nanos) xs (machine.at_clock before.0 nanos)) (append-nil so.all) (before.2 [] (machine.at_clock before.0 nanos) (last.0, refl)),
          last.1,
        );
  }
