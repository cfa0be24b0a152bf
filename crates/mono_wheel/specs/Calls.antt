-- Lists of calls on a wheel: the condition and the effect of each, the most by which it may raise the credit, and the
-- bounds on steps and moves.
use Rattle.std.specs.Prelude.{◌≡◌, ◌≢◌, ℕ, ◌+◌, ◌-◌, ◌*◌, ◌^◌, ◌<◌, ◌≤◌, ◌⊎◌, Bool, true, List, [], ◌∷◌, ◌++◌, length, Option, Some, None}
use Rattle.mono_wheel.specs.Model.{Wheel, timed_at, is_reserved, Changed, Extended, Precedes, KeepsOrder, Polled}
use Rattle.mono_wheel.specs.Credit.{credit, most_takes, reset_raise}
use Rattle.mono_wheel.specs.declared.laws.WheelCall.{WheelCall}
use Rattle.mono_wheel.specs.declared.laws.WheelCall.TheVariants as call

-- The condition of a call when its turn comes.
abbrev pub CanCall : Wheel → WheelCall → Type 0
CanCall wheel (call.Insert key tick) = (is_reserved wheel key ≡ true) × (timed_at wheel key ≡ None) × (tick < 2 ^ 63)
CanCall wheel (call.Remove key) = timed_at wheel key ≢ None
CanCall wheel (call.Extend key tick) = (timed_at wheel key ≢ None) × (tick < 2 ^ 63)
CanCall wheel (call.Poll now) = (wheel.elapsed ≤ now) × (now < 2 ^ 63)

-- Either an insertion was refused because the tick is not ahead, or the key is in, after those that are registered at
-- the tick.
abbrev pub Inserted : Wheel → Wheel → ℕ → ℕ → Type 0
Inserted old new key tick =
    ((tick ≤ old.elapsed) × (new ≡ old))
    ⊎ ((old.elapsed < tick)
    × Changed old new key (Some record { tick = tick; registered = tick })
    × ((other : ℕ) → timed_at old other ≡ Some record { tick = tick; registered = tick } → Precedes new other key))

-- Whether the model allows this wheel after a call, with one of the answers that the call may give.
abbrev pub Leaves : Wheel → WheelCall → Wheel → Type 0
Leaves old (call.Insert key tick) new = Inserted old new key tick
Leaves old (call.Remove key) new = Changed old new key None
Leaves old (call.Extend key tick) new = (answer : Bool) × Extended old new key tick answer
Leaves old (call.Poll now) new = (answer : Option ℕ) × Polled old new now answer

-- The most by which the call may raise the credit.
abbrev pub raise : Wheel → WheelCall → ℕ
raise wheel (call.Insert key tick) = most_takes (tick - wheel.elapsed)
raise wheel (call.Remove key) = 0
raise wheel (call.Extend key tick) = reset_raise wheel.elapsed (timed_at wheel key) tick
raise wheel (call.Poll now) = 0

-- These calls were made in turn, and lead from one wheel to the other. The raises sum up to this.
abbrev pub Made : Wheel → List WheelCall → ℕ → Wheel → Type 0
Made old [] raises new = (raises ≡ 0) × (new ≡ old)
Made old (call ∷ rest) raises new =
    (middle : Wheel) × (more : ℕ) × CanCall old call × Leaves old call middle × (raises ≡ raise old call + more) × Made middle rest more new

-- The steps between and the remaining credit are together at most the credit before and the raises.
abbrev pub FewSteps : Wheel → Wheel → ℕ → ℕ → ℕ → Type 0
FewSteps old new before after raises = after + credit new ≤ before + credit old + raises

-- How often the call itself may move its key to or from a slot.
abbrev pub own_moves : WheelCall → ℕ
own_moves (call.Insert key tick) = 1
own_moves (call.Remove key) = 1
own_moves (call.Extend key tick) = 0
own_moves (call.Poll now) = 0

abbrev pub sum_of_own : List WheelCall → ℕ
sum_of_own [] = 0
sum_of_own (call ∷ rest) = own_moves call + sum_of_own rest

-- Keys entered or left a slot at most twice for each step between, and so often by the calls themselves.
abbrev pub FewMoves : Wheel → Wheel → ℕ → ℕ → ℕ → Type 0
FewMoves old new before after own = new.moves.slots + 2 * before ≤ old.moves.slots + 2 * after + own

-- Keys entered or left a list at most twice for each step between, and once for each of so many calls.
abbrev pub FewInAll : Wheel → Wheel → ℕ → ℕ → ℕ → Type 0
FewInAll old new before after calls = new.moves.all + 2 * before ≤ old.moves.all + 2 * after + calls

-- All calls were made.
abbrev pub AllMade : Wheel → Wheel → List WheelCall → ℕ → ℕ → Type 0
AllMade old new calls before after =
    (raises : ℕ) × Made old calls raises new × FewSteps old new before after raises × FewMoves old new before after (sum_of_own calls) × FewInAll old new before after (length calls)

-- One call could not be made when its turn came: the calls before it were made, and no other.
pub record Stopped (old new : Wheel) (calls : List WheelCall) (before after : ℕ) : Type 0 where
  pub done : List WheelCall
  pub stop : WheelCall
  pub left : List WheelCall
  pub are : calls ≡ done ++ stop ∷ left
  pub made : AllMade old new done before after
  pub cannot : CanCall new stop → ⊥

-- Only the reserved keys, their ticks and the clock are the same.
pub record SameKeys (old new : Wheel) : Type 0 where
  pub ticks : (key : ℕ) → timed_at new key ≡ timed_at old key
  pub keys : (key : ℕ) → is_reserved new key ≡ is_reserved old key
  pub order : KeepsOrder old new
  pub elapsed : new.elapsed ≡ old.elapsed
