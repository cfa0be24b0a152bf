-- How often elements stand in lists, and in an interleaving of them.
use Rattle.std.specs.Prelude.{◌≡◌, ◌+◌, ℕ, List, [], ◌∷◌}
use Rattle.mono_channel.specs.Delivery.{Interleaves}

-- the weights of the elements, added up
abbrev pub weigh : {T : Type 0} → (T → ℕ) → List T → ℕ
weigh h [] = 0
weigh h (x ∷ xs) = h x + weigh h xs

-- However the elements are weighed, an interleaving weighs what its parts do. So each element stands in it as often as in all
-- of the parts.
abbrev pub InterleavingWeighs : Type 0 → Type 0
InterleavingWeighs T = (h : T → ℕ) (parts : List (List T)) (whole : List T) → Interleaves parts whole → weigh h whole ≡ weigh (weigh h) parts
