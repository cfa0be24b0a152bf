-- A stream of the outputs of a future.
use Rattle.std.specs.Prelude.{◌≡◌, ⊤, ℕ, Bool, true, false, List, [], ◌∷◌, Option, Some, None}
use Rattle.mono_task.specs.Members.{FutureOf}
use Rattle.mono_stream.specs.Items.{IsTried, Waited}
use Rattle.mono_model.specs.declared.poll.Poll.{Poll}
use Rattle.mono_model.specs.declared.poll.Poll.TheVariants.{Ready, Pending}

-- The output as an item.
abbrev pub item_of : {Y : Type 0} → Poll Y → Poll (Option Y)
item_of (Ready y) = Ready (Some y)
item_of Pending = Pending

-- The future is polled unless it is spent.
abbrev pub OutputsPoll : {F C Y : Type 0} → (F → C → Poll Y → F → C → Type 0) → Bool → F → C → Poll (Option Y) → F → C → Type 0
OutputsPoll polls true f c r g d = (r ≡ Ready None) × (g ≡ f) × (d ≡ c)
OutputsPoll {F} {C} {Y} polls false f c r g d = (answer : Poll Y) × polls f c answer g d × (r ≡ item_of answer)

module _ {F C Y : Type 0} (future : FutureOf F C Y) where
  -- Consecutive polls, the last of them ready with this output, leave this future.
  pub record LeavesAt (f : F) (y : Y) (left : F) : Type 0 where
    pub count : ℕ
    pub waiting : F
    pub waited : Waited future count f waiting
    pub ready : IsTried future waiting (Ready y) left

  -- The future, unless it is spent, may give the first output, and what its polls leave the outputs after it.
  abbrev pub OutputsGive : F → List Y → Type 0
  OutputsGive f [] = ⊤
  OutputsGive f (y ∷ ys) = (future.is_spent f ≡ false) × future.gives f y × ((left : F) × LeavesAt f y left × OutputsGive left ys)
