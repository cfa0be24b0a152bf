-- The calls that change a watched value in place, by a closure.
use Rattle.std.specs.Prelude.{Bool, true, false, ◌≡◌, ◌≤◌, ◌+◌, ◌^◌, ◌⊎◌, Result, Ok, Err}
use Rattle.mono_sync.specs.declared.watch.Watch.{Watch}
use Rattle.mono_sync.specs.Watches.{Edits}

-- The value is closed, or no version is left.
abbrev pub RefusesValues : {T : Type 0} → Watch T → Type 0
RefusesValues a = (a.is_closed ≡ true) ⊎ (2 ^ 64 ≤ a.version + 1)

module _ {T U F : Type 0} (does : T → U → T → Type 0) (func : F) where
  -- The closure has changed the value, which has the next version, and all waiting tasks are to be woken. The closure comes
  -- back if the value was closed or no version is left.
  abbrev pub Modifies : Watch T → Result U F → Watch T → Type 0
  Modifies a (Ok answer) b = (a.is_closed ≡ false) × does a.value answer b.value × (b.version ≡ a.version + 1) × (b.line ≡ a.line) × (b.cleared ≡ a.line.next) × (b.is_closed ≡ false)
  Modifies a (Err back) b = (back ≡ func) × RefusesValues a × (b ≡ a)

module _ {T F : Type 0} (does : T → Bool → T → Type 0) (func : F) where
  -- The same if the closure answers true. If it answers false, the version stays, and no task is woken.
  abbrev pub ModifiesIf : Watch T → Result Bool F → Watch T → Type 0
  ModifiesIf a (Ok true) b = Modifies does func a (Ok true) b
  ModifiesIf a (Ok false) b = (a.is_closed ≡ false) × does a.value false b.value × Edits a b.value b
  ModifiesIf a (Err back) b = (back ≡ func) × RefusesValues a × (b ≡ a)
