-- A value that a closure makes at the first poll.
use Rattle.std.specs.Prelude.{⊤, ◌≡◌, Option, Some, None}
use Rattle.std.specs.Fn.{Once}
use Rattle.mono_model.specs.declared.poll.Poll.{Poll}
use Rattle.mono_model.specs.declared.poll.Poll.TheVariants.{Ready, Pending}

module _ {F T : Type 0} (call : Once F (Unit {0}) T) where
  abbrev pub LazyCanPoll : Option F → Type 0
  LazyCanPoll (Some f) = call.pre f tt
  LazyCanPoll None = ⊤

  abbrev pub LazyGives : Option F → T → Type 0
  LazyGives (Some f) x = call.post f tt x
  LazyGives None x = ⊥

  -- The answer is a result of the closure.
  abbrev pub IsMade : F → Poll T → Type 0
  IsMade f (Ready x) = call.post f tt x
  IsMade f Pending = ⊥

  abbrev pub LazyPolls : {C : Type 0} → Option F → C → Poll T → Option F → C → Type 0
  LazyPolls (Some f) c r n d = IsMade f r × (n ≡ None) × (d ≡ c)
  LazyPolls None c r n d = ⊥
