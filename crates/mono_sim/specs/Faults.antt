-- The kinds of faults that a world draws, and the fewest with which a seed fails.
use Rattle.std.specs.Prelude.{ℕ, ◌+◌, Bool, true, false, List, [], ◌∷◌, if◌then◌else◌}
use Rattle.mono_sim.specs.declared.draws.Odds.{Odds}
use Rattle.mono_sim.specs.declared.faults.Faults.{Faults}

-- The odds with these kinds of faults alone.
abbrev pub odds_with : Faults → Odds → Odds
odds_with faults odds = record odds {
  fails = if faults.fails then odds.fails else 0;
  stands = if faults.stands then odds.stands else 0;
  jumps = if faults.jumps then odds.jumps else 0;
}

-- How many kinds there are.
abbrev pub kinds_in : Faults → ℕ
kinds_in faults = (if faults.fails then 1 else 0) + (if faults.stands then 1 else 0) + (if faults.jumps then 1 else 0)

abbrev pub kinds : Bool → Bool → Bool → Faults
kinds fails stands jumps = record { fails = fails; stands = stands; jumps = jumps }

abbrev pub all_faults : Faults
all_faults = kinds true true true

-- The sets of fewer kinds than all, the smaller ones first.
abbrev pub fewer_sets : List Faults
fewer_sets =
    kinds false false false ∷ kinds true false false ∷ kinds false true false ∷ kinds false false true ∷ kinds true true false ∷ kinds true false true
    ∷ kinds false true true ∷ []
