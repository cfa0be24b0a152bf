-- Trials of a system under many seeds.
use Rattle.std.specs.Prelude.{◌≡◌, ◌<◌, ◌≤◌, ◌⊎◌, ℕ, zero, suc, Bool, true, false, List, [], ◌∷◌, Option, Some}
use Rattle.std.specs.Fn.{Shared}
use denote.Ref.{Bor, MutBor}
use Rattle.mono_sim.specs.declared.draws.Odds.{Odds}
use Rattle.mono_sim.specs.declared.steps.Step.{Step}
use Rattle.mono_sim.specs.declared.steps.End.{End}
use Rattle.mono_sim.specs.declared.faults.Faults.{Faults}
use Rattle.mono_sim.specs.declared.trials.Trial.{Trial}
use Rattle.mono_sim.specs.declared.trials.Failure.{Failure}
use Rattle.mono_sim.specs.Endings.{end_of}
use Rattle.mono_sim.specs.Faults.{odds_with, all_faults, kinds_in}

-- A function that makes the trial of a seed under these odds.
abbrev pub Maker : Type 0 → Type 0 → Type 0 → Type 1
Maker T X M = Shared M (ℕ × (Odds × Unit {0})) (Option (Trial T X))

-- A function that checks a system after a step, with what is seen of it from outside.
abbrev pub Checker : Type 0 → Type 0 → Type 0 → Type 1
Checker T X K = Shared K (Bor T × (Step × (MutBor X × Unit {0}))) (Bool × (MutBor X × Unit {0}))

-- The check may answer so after this step, and leave this of what was seen.
pub record Says {T X K : Type 0} (call : Checker T X K) (check : K) (system : T) (did : Step) (seen : X) (answer : Bool) (left : X) : Type 0 where
  pub shown : Bor T
  pub before : MutBor X
  pub after : MutBor X
  pub shows : shown.now ≡ system
  pub begins : before.now ≡ seen
  pub says : call.post check (shown, (did, (before, tt))) (answer, (after, tt))
  pub leaves : after.now ≡ left

-- Each trial that is made can make a step.
abbrev pub MakesSound : {T X M : Type 0} → (T → Type 0) → Maker T X M → M → Type 0
MakesSound {T} {X} can_step making make = (seed : ℕ) (odds : Odds) (trial : Trial T X) → making.post make (seed, (odds, tt)) (Some trial) → can_step trial.world

module _ {T X K : Type 0} (steps : Step → T → T → Type 0) (call : Checker T X K) (check : K) where
  -- A step, and the answer of the check after it.
  pub record Checks (did : Step) (answer : Bool) (old new : Trial T X) : Type 0 where
    pub step : steps did old.world new.world
    pub says : Says call check new.world did old.seen answer new.seen

  -- So many steps in sequence; the check said yes after each.
  abbrev pub Holds : ℕ → Trial T X → Trial T X → Type 0
  Holds zero old new = new ≡ old
  Holds (suc n) old new = (mid : Trial T X) × ((did : Step) × (Holds n old mid × Checks did true mid new))

  -- Such steps, the last of which ended the run.
  abbrev pub Ends : ℕ → Trial T X → Trial T X → Type 0
  Ends zero old new = ⊥
  Ends (suc n) old new = (mid : Trial T X) × ((did : Step) × ((how : End) × (Holds n old mid × (Checks did true mid new × (end_of did ≡ Some how)))))

  -- So many steps in sequence; the check said no after the last, and yes after each before.
  abbrev pub Breaks : ℕ → Trial T X → Trial T X → Type 0
  Breaks zero old new = ⊥
  Breaks (suc n) old new = (mid : Trial T X) × ((did : Step) × (Holds n old mid × Checks did false mid new))

  -- The check said yes after each of so many steps, or after each until the run ended.
  abbrev pub Passes : ℕ → Trial T X → Trial T X → Type 0
  Passes most old new = Holds most old new ⊎ ((n : ℕ) × ((n ≤ most) × Ends n old new))

  -- The check first said no after so many steps, at most `most`.
  abbrev pub Fails : ℕ → ℕ → Trial T X → Trial T X → Type 0
  Fails most n old new = (n ≤ most) × Breaks n old new

module _ {T X M K : Type 0} (steps : Step → T → T → Type 0) (making : Maker T X M) (make : M) (call : Checker T X K) (check : K) (most : ℕ) where
  -- A trial of this seed under these odds passed.
  pub record SeedPasses (seed : ℕ) (odds : Odds) : Type 0 where
    pub first : Trial T X
    pub last : Trial T X
    pub made : making.post make (seed, (odds, tt)) (Some first)
    pub passes : Passes steps call check most first last

  -- A trial of this seed under these odds, with these kinds of faults alone, failed so.
  pub record SeedFails (seed : ℕ) (odds : Odds) (faults : Faults) (failure : Failure T X) : Type 0 where
    pub first : Trial T X
    pub made : making.post make (seed, (odds_with faults odds, tt)) (Some first)
    pub fails : Fails steps call check most failure.steps first failure.trial
    pub same_seed : failure.seed ≡ seed
    pub same_faults : failure.faults ≡ faults
    pub same_odds : failure.odds ≡ odds_with faults odds

  -- The seed of a failure was tried with these sets of faults in turn. This is the first failure, or that one if each passed.
  abbrev pub IsFirstOf : Odds → Failure T X → List Faults → Failure T X → Type 0
  IsFirstOf odds old [] new = new ≡ old
  IsFirstOf odds old (faults ∷ sets) new = SeedFails old.seed odds faults new ⊎ (SeedPasses old.seed (odds_with faults odds) × IsFirstOf odds old sets new)

  -- This seed fails so under these odds, with these kinds of faults, and passed with each set of fewer kinds.
  pub record IsLeast (seed : ℕ) (odds : Odds) (failure : Failure T X) : Type 0 where
    pub fails : SeedFails seed odds failure.faults failure
    pub fewest : (faults : Faults) → kinds_in faults < kinds_in failure.faults → SeedPasses seed (odds_with faults odds)

  -- Each of these seeds passed.
  abbrev pub EachPasses : ℕ → ℕ → Odds → Type 0
  EachPasses start end odds = (seed : ℕ) → start ≤ seed → seed < end → SeedPasses seed odds

  -- This is the first of these seeds that failed, with the fewest kinds of faults with which it fails.
  pub record IsFound (start end : ℕ) (odds : Odds) (failure : Failure T X) : Type 0 where
    pub from : start ≤ failure.seed
    pub below : failure.seed < end
    pub earlier : EachPasses start failure.seed odds
    pub as_made : (first : Failure T X) × SeedFails failure.seed odds all_faults first
    pub least : IsLeast failure.seed odds failure
