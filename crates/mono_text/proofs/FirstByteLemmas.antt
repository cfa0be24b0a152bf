-- The lines that a first byte allows.
use Rattle.std.proofs.Common.{◌≡◌, ℕ, List, [], ◌∷◌, refl, sym, subst, arith}
use Rattle.std.specs.Prelude.{slice_index}
use Rattle.mono_machine.specs.declared.events.Event.TheVariants as event
use Rattle.mono_text.specs.Parser.{mapped, s_act_at, act_at, event_at}

-- an event whose first letter is an s is an act of such a letter
pub event_from_s : (bytes : List ℕ) → slice_index bytes 0 ≡ 115 → event_at bytes ≡ mapped event.Act (s_act_at bytes)
unfolding event_at act_at
event_from_s [] first = absurd (omega (arith, first))
event_from_s (b ∷ r) first = subst (λ x. event_at (x ∷ r) ≡ mapped event.Act (s_act_at (x ∷ r))) (sym first) refl
