-- A clock step of the retries: one sleep after another fires, and the wait of its retry ends.
use Rattle.std.proofs.Common.{◌≡◌, ℕ, List, [], ◌∷◌, ◌++◌, Option, refl, ap, sym, subst, ◌∙◌, append_assoc, append-nil}
use Rattle.std.specs.Prelude.{max}
use Rattle.mono_model.specs.Ticks.{down}
use Rattle.mono_model.specs.Table.{Table, value_at}
use Rattle.mono_model.specs.Due.{ListsDue}
use Rattle.mono_time.specs.Sleeps.{SleepTable, at_clock_tick, with_fired_sleep, IsFiredFirst, IsNoneArmedUpTo}
use Rattle.mono_limit.specs.Schedules.{waiting_value, ended_row, ended_rows, EndsWaits}
use Rattle.mono_limit.specs.RetryTable.{Holds}
use Rattle.mono_limit.specs.declared.schedules.Schedule.{Schedule}
use Rattle.mono_limit.proofs.RetrySleepLemmas.{waits_there, armed_there, fired_holds}
use Rattle.mono_limit.proofs.WaitEndLemmas.{EndsFirst, NoneEnds, ends_before, none_ends, ended-push}

-- the sleep that fires first is that of a retry whose wait ends first
pub ends_first : (rows : Table Schedule) (sleeps : SleepTable) (live n : ℕ) → Holds rows sleeps live → (r : ℕ) (waker : Option ℕ) → IsFiredFirst (at_clock_tick sleeps n) r waker → EndsFirst rows (max sleeps.greatest (down n)) r
ends_first rows sleeps live n holds r waker first = record {
  tick = first.tick;
  waits = waits_there rows sleeps live holds r first.tick waker first.is_armed_there;
  has_come = first.is_due;
  is_least = λ q later waits. let (task, there) = armed_there rows sleeps live holds q later waits in first.is_least q later task there;
}

pub ends_none : (rows : Table Schedule) (sleeps : SleepTable) (live n : ℕ) → Holds rows sleeps live → IsNoneArmedUpTo (at_clock_tick sleeps n) → NoneEnds rows (max sleeps.greatest (down n))
ends_none rows sleeps live n holds none = λ r tick waits. let (task, there) = armed_there rows sleeps live holds r tick waits in none r tick task there

pub holds_on : (rows : Table Schedule) (sleeps after : SleepTable) (live n : ℕ) → Holds rows sleeps live → (r : ℕ) (waker : Option ℕ) → IsFiredFirst (at_clock_tick sleeps n) r waker → after ≡ with_fired_sleep (at_clock_tick sleeps n) r
    → (left : Table Schedule) → left ≡ ended_row (value_at rows r) rows r → Holds left after live
holds_on rows sleeps after live n holds r waker first same left is =
    subst (λ x. Holds x after live) (sym is) (subst (λ x. Holds (ended_row (value_at rows r) rows r) x live) (sym same) (fired_holds rows sleeps live holds r n first.tick waker first.is_armed_there))

-- The retries listed so far, and those that may be listed after them.
pub record IsListed (old rows : Table Schedule) (g : ℕ) (before after : List ℕ) : Type 0 where
  pub due : List ℕ
  pub appended : after ≡ before ++ due
  pub have_ended : rows ≡ ended_rows old due
  pub behind : (more : List ℕ) → ListsDue waiting_value rows g more → ListsDue waiting_value old g (due ++ more)

pub none_yet : (old : Table Schedule) (g : ℕ) (before : List ℕ) → IsListed old old g before before
none_yet old g before = record { due = []; appended = sym (append-nil before); have_ended = refl; behind = λ more lists. lists }

pub one_more : (old rows left : Table Schedule) (g r : ℕ) (before after more : List ℕ) → IsListed old rows g before after → EndsFirst rows g r
    → left ≡ ended_row (value_at rows r) rows r → more ≡ after ++ r ∷ [] → IsListed old left g before more
one_more old rows left g r before after more so_far first is pushed = record {
  due = so_far.due ++ r ∷ [];
  appended = pushed ∙ ap (λ xs. xs ++ r ∷ []) so_far.appended ∙ append_assoc before so_far.due (r ∷ []);
  have_ended = is ∙ ap (λ xs. ended_row (value_at xs r) xs r) so_far.have_ended ∙ sym (ended-push old so_far.due r);
  behind = λ rest lists. subst (ListsDue waiting_value old g) (sym (append_assoc so_far.due (r ∷ []) rest))
      (so_far.behind (r ∷ rest) (ends_before rows g r first rest (subst (λ xs. ListsDue waiting_value xs g rest) is lists)));
}

pub all_listed : (old rows : Table Schedule) (g : ℕ) (before after : List ℕ) → IsListed old rows g before after → NoneEnds rows g → EndsWaits old g before after rows
all_listed old rows g before after so_far none = record {
  due = so_far.due;
  appended = so_far.appended;
  are_due = subst (ListsDue waiting_value old g) (append-nil so_far.due) (so_far.behind [] (none_ends rows g none));
  have_ended = so_far.have_ended;
}
