-- An answer that a closure sees: the answer and the form after one poll, and the answers in the end.
use Rattle.std.specs.Prelude.{⊤, ◌≡◌, Option}
use Rattle.std.specs.Fn.{Once, FnOnceReturnsAt, FnOnceTakesAt}
use denote.Ref.{Bor}
use Rattle.mono_model.specs.declared.poll.Poll.{Poll}
use Rattle.mono_task.specs.Members.{FutureOf}
use Rattle.mono_forms.specs.Maps.{LeadCanPoll, LeadPolls, LeadGives}

module _ {X F : Type 0} (call : Once F (Bor X × Unit {0}) ⊤) where
  -- The closure saw the answer, which stays.
  abbrev pub Sees : F → X → X → Type 0
  Sees f x y = (y ≡ x) × FnOnceReturnsAt call f x tt

module _ {A C X F : Type 0} (future : FutureOf A C X) (call : Once F (Bor X × Unit {0}) ⊤) where
  abbrev pub InspectCanPoll : Option (A × F) → Type 0
  InspectCanPoll = LeadCanPoll future (FnOnceTakesAt call)

  abbrev pub InspectPolls : Option (A × F) → C → Poll X → Option (A × F) → C → Type 0
  InspectPolls = LeadPolls future (Sees call)

  abbrev pub InspectGives : Option (A × F) → X → Type 0
  InspectGives = LeadGives future (Sees call)
