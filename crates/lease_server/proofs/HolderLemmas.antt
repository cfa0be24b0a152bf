-- The lock of a key is held by sessions of one core alone.
use Rattle.std.proofs.Common.{◌≡◌, ◌==◌, ℕ, Bool, true, false, if◌then◌else◌, List, [], ◌∷◌, ◌++◌, Option, Some, None, refl, sym, subst, arith}
use Rattle.std.proofs.lemmas.Bool.Decides.{nat_tests}
use Rattle.lease_core.specs.declared.requests.Request.{Request}
use Rattle.lease_core.specs.Routes.{core_of}
use Rattle.lease_core.specs.Steps.{Event, Advance, Handle, Finish}
use Rattle.lease_core.specs.Laws as law
use Rattle.lease_core.proofs.RouteLemmas as core
use Rattle.lease_server.specs.Routing.{routed}
use Rattle.lease_server.specs.EndToEnd.{requests_in, OneCoreHolds}

abbrev Own : ℕ → ℕ → List Request → Type 0
Own k cores [] = Unit {0}
Own k cores (r ∷ rs) = (core_of r.key cores ≡ k) × Own k cores rs

own_if : (k cores : ℕ) (r : Request) (rs : List Request) (b : Bool) → (core_of r.key cores == k) ≡ b → Own k cores rs → Own k cores (if b then r ∷ rs else rs)
own_if k cores r rs true is own = (grind (arith, nat_tests), own)
own_if k cores r rs false is own = own

own_routed : (k cores : ℕ) (asked : List (Option Request)) → Own k cores (routed k cores asked)
own_routed k cores [] = tt
own_routed k cores (None ∷ asked) = own_routed k cores asked
own_routed k cores (Some r ∷ asked) = own_if k cores r (routed k cores asked) (core_of r.key cores == k) refl (own_routed k cores asked)

are_routed : (k cores : ℕ) (events more : List Event) → Own k cores (requests_in (events ++ more)) → law.AreRouted k cores events
are_routed k cores [] more own = tt
are_routed k cores (Advance n ∷ events) more own = are_routed k cores events more own
are_routed k cores (Handle r ∷ events) more own = (own.0, are_routed k cores events more own.1)
are_routed k cores (Finish ∷ events) more own = are_routed k cores events more own

pub one_core_holds : OneCoreHolds
one_core_holds cores i j sizes asked events more others further replies other_replies one other key s t mine yours run ran held holds =
    core.one_core cores i j sizes sizes events others replies other_replies one other key s t (are_routed i cores events more (subst (λ rs. Own i cores rs) (sym mine) (own_routed i cores asked)))
    (are_routed j cores others further (subst (λ rs. Own j cores rs) (sym yours) (own_routed j cores asked))) run ran held holds
