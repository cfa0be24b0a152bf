-- What a receiver keeps in a call that receives nothing and settles nothing.
use Rattle.std.specs.Prelude.{◌≡◌}
use Rattle.mono_channel.specs.Ends.{Ends, received_by, settled_by, shares_of, KeepsEnd, IsPair}

abbrev pub KeepsAll : {T : Type 0} → Ends T → Ends T → Type 0
KeepsAll a b = IsPair b a × (received_by b ≡ received_by a) × (settled_by b ≡ settled_by a) × (shares_of b ≡ shares_of a) × KeepsEnd a b
