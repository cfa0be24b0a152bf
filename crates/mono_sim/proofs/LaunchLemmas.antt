-- A runtime is launched in a world.
use Rattle.std.proofs.Common.{◌≡◌, ◌+◌, ℕ, suc, true, List, [], ◌∷◌, ◌++◌, length, Ok, Err, ap, ◌∙◌, arith}
use Rattle.std.specs.Prelude.{Result, OnOk}
use Rattle.std.specs.Result.{is_ok}
use Rattle.std.proofs.lemmas.List.{length_push}
use Rattle.mono_rt.specs.declared.runtimes.Runtime.{Runtime}
use Rattle.mono_sim.specs.declared.seats.Seat.{Seat}
use Rattle.mono_sim.specs.declared.worlds.World.{World}
use Rattle.mono_sim.specs.Launches.{IsStarted, Launches}
use Rattle.mono_sim.specs.Plans.{added, after_driver}
use Rattle.mono_sim.specs.Worlds.{KeepsNodes, Adds}

-- what a call ensures if it succeeds
pub ok_holds : {X E : Type 0} (P : Type 0) (r : Result X E) → true ≡ is_ok r → OnOk r P → P
ok_holds P (Ok x) is holds = holds
ok_holds P (Err e) is holds = let no : ⊥ = cc in absurd no

module _ {F O D P W U J A V : Type 0} where
  -- a started runtime was added
  pub launched : (future : F) (seat : Seat) (runtime : Runtime F O D P W U J A V) (main : ℕ) (old mid new : World F O D P W U J A V) → mid.schedule ≡ after_driver old.schedule → KeepsNodes old mid → IsStarted future runtime → Adds seat runtime main mid new
      → Launches future old new
  launched future seat runtime main old mid new drawn keeps started adds = record {
    node = record { runtime = runtime; main = main; seat = seat };
    started = started;
    nodes = adds.nodes ∙ ap (λ ns. ns ++ record { runtime = runtime; main = main; seat = seat } ∷ []) keeps.0;
    plan = adds.plan ∙ ap (λ ns. added (length ns) mid.schedule) keeps.0 ∙ ap (added (length old.nodes.items)) drawn;
    time = adds.time ∙ keeps.1;
  }

  -- one future less is left
  pub counted : (future : F) (old new : World F O D P W U J A V) (before after : List F) (n : ℕ) → Launches future old new → before ≡ future ∷ after → length old.nodes.items + length before ≡ n → length new.nodes.items + length after ≡ n
  counted future old new before after n launches is all =
      one_more (length old.nodes.items) (length new.nodes.items) (length before) (length after) n (ap length launches.nodes ∙ length_push old.nodes.items launches.node) (ap length is) all
    where
      one_more : (o w b a n : ℕ) → w ≡ o + 1 → b ≡ suc a → o + b ≡ n → w + a ≡ n
      one_more o w b a n p q r = omega (arith, p, q, r)
