-- Trials, step by step, and seeds in turn.
use Rattle.std.proofs.Common.{◌≡◌, ◌<◌, ◌≤◌, ◌+◌, ℕ, suc, Bool, true, false, List, Some, None, Ok, Err, refl, sym, subst, ◌∙◌, inl, inr, arith}
use Rattle.std.specs.Prelude.{Option, Result, IfOk, IfNone, IfSome}
use denote.Ref.{Bor, MutBor}
use Rattle.std.proofs.lemmas.Bool.{cases_lt}
use Rattle.mono_sim.specs.declared.draws.Odds.{Odds}
use Rattle.mono_sim.specs.declared.steps.Step.{Step}
use Rattle.mono_sim.specs.declared.steps.End.{End}
use Rattle.mono_sim.specs.declared.faults.Faults.{Faults}
use Rattle.mono_sim.specs.declared.trials.Trial.{Trial}
use Rattle.mono_sim.specs.declared.trials.Failure.{Failure}
use Rattle.mono_sim.specs.Endings.{end_of}
use Rattle.mono_sim.specs.Faults.{odds_with, all_faults, kinds, kinds_in, fewer_sets}
use Rattle.mono_sim.specs.Trials.{Maker, Checker, Checks, Holds, Breaks, Passes, Fails, SeedPasses, SeedFails, IsFirstOf, IsLeast, EachPasses, IsFound}

next_number : (n : ℕ) → suc n ≡ n + 1
next_number n = omega arith

module _ (P : Faults → Type 0) where
  below_one : P (kinds false false false) → (a b c : Bool) → kinds_in (kinds a b c) < 1 → P (kinds a b c)
  below_one p true b c less = absurd (no _ _ less)
    where
      no : (x y : ℕ) → 1 + x + y < 1 → ⊥
      no x y less = omega (arith, less)
  below_one p false true c less = absurd (no _ less)
    where
      no : (y : ℕ) → 0 + 1 + y < 1 → ⊥
      no y less = omega (arith, less)
  below_one p false false true less = absurd (no less)
    where
      no : 1 < 1 → ⊥
      no less = omega (arith, less)
  below_one p false false false less = p

  below_two : P (kinds false false false) → P (kinds true false false) → P (kinds false true false) → P (kinds false false true) → (a b c : Bool) → kinds_in (kinds a b c) < 2 → P (kinds a b c)
  below_two p q r s true true c less = absurd (no _ less)
    where
      no : (y : ℕ) → 2 + y < 2 → ⊥
      no y less = omega (arith, less)
  below_two p q r s true false true less = absurd (no less)
    where
      no : 2 < 2 → ⊥
      no less = omega (arith, less)
  below_two p q r s false true true less = absurd (no less)
    where
      no : 2 < 2 → ⊥
      no less = omega (arith, less)
  below_two p q r s true false false less = q
  below_two p q r s false true false less = r
  below_two p q r s false false true less = s
  below_two p q r s false false false less = p

  below_three : P (kinds false false false) → P (kinds true false false) → P (kinds false true false) → P (kinds false false true) → P (kinds true true false) → P (kinds true false true) → P (kinds false true true)
      → (a b c : Bool) → kinds_in (kinds a b c) < 3 → P (kinds a b c)
  below_three p q r s t u v true true true less = absurd (no less)
    where
      no : 3 < 3 → ⊥
      no less = omega (arith, less)
  below_three p q r s t u v true true false less = t
  below_three p q r s t u v true false true less = u
  below_three p q r s t u v false true true less = v
  below_three p q r s t u v true false false less = q
  below_three p q r s t u v false true false less = r
  below_three p q r s t u v false false true less = s
  below_three p q r s t u v false false false less = p

module _ {T X K : Type 0} (steps : Step → T → T → Type 0) (call : Checker T X K) (check : K) where
  -- a step, and what the check said after it
  pub checked : (did : Step) (old : Trial T X) (shown : Bor T) (before after : MutBor X) (answer said : Bool) → call.post check (shown, (did, (before, tt))) (answer, (after, tt)) → answer ≡ said → steps did old.world shown.now → before.now ≡ old.seen
      → Checks steps call check did said old (record { world = shown.now; seen = after.now })
  checked did old shown before after answer said post is step begins = record {
    step = step;
    says = record { shown = shown; before = before; after = after; shows = refl; begins = begins; says = subst (λ b. call.post check (shown, (did, (before, tt))) (b, (after, tt))) is post; leaves = refl };
  }

  -- one more step
  pub holds_more : (n : ℕ) (old mid new : Trial T X) (did : Step) → Holds steps call check n old mid → Checks steps call check did true mid new → Holds steps call check (n + 1) old new
  holds_more n old mid new did before now = subst (λ k. Holds steps call check k old new) (next_number n) (mid, (did, (before, now)))

  pub breaks_now : (n : ℕ) (old mid new : Trial T X) (did : Step) → Holds steps call check n old mid → Checks steps call check did false mid new → Breaks steps call check (n + 1) old new
  breaks_now n old mid new did before now = subst (λ k. Breaks steps call check k old new) (next_number n) (mid, (did, (before, now)))

  pub fails_now : (n most : ℕ) (old mid new : Trial T X) (did : Step) → n < most → Holds steps call check n old mid → Checks steps call check did false mid new → Fails steps call check most (n + 1) old new
  fails_now n most old mid new did less before now = (omega (arith, less), breaks_now n old mid new did before now)

  pub passes_ended : (n most : ℕ) (old mid new : Trial T X) (did : Step) (how : End) → n < most → Holds steps call check n old mid → Checks steps call check did true mid new → end_of did ≡ Some how → Passes steps call check most old new
  passes_ended n most old mid new did how less before now is = inr (suc n, (within n most less, (mid, (did, (how, (before, (now, is)))))))
    where
      within : (n most : ℕ) → n < most → suc n ≤ most
      within n most less = omega (arith, less)

  pub passes_all : (n most : ℕ) (old new : Trial T X) → n ≤ most → most ≤ n → Holds steps call check n old new → Passes steps call check most old new
  passes_all n most old new within past holds = inl (subst (λ k. Holds steps call check k old new) (same n most within past) holds)
    where
      same : (n most : ℕ) → n ≤ most → most ≤ n → n ≡ most
      same n most p q = omega (arith, p, q)

  module _ {M : Type 0} (making : Maker T X M) (make : M) (most : ℕ) where
    -- a trial that passed
    pub seed_passes : (seed : ℕ) (odds made_with : Odds) (first last : Trial T X) (r : Option (Trial T X)) (ran : Option ℕ) → making.post make (seed, (made_with, tt)) r → r ≡ Some first → made_with ≡ odds
        → IfNone ran (Passes steps call check most first last) → ran ≡ None → SeedPasses steps making make call check most seed odds
    seed_passes seed odds made_with first last r ran made is with_odds passes none = record {
      first = first;
      last = last;
      made = subst (λ o. making.post make (seed, (o, tt)) (Some first)) with_odds (subst (λ x. making.post make (seed, (made_with, tt)) x) is made);
      passes = subst (λ x. IfNone x (Passes steps call check most first last)) none passes;
    }

    -- a trial that failed
    pub seed_fails : (seed n : ℕ) (odds made_with : Odds) (faults : Faults) (first last : Trial T X) (r : Option (Trial T X)) (ran : Option ℕ) → making.post make (seed, (made_with, tt)) r → r ≡ Some first
        → made_with ≡ odds_with faults odds → IfSome ran (λ k. Fails steps call check most k first last) → ran ≡ Some n
        → SeedFails steps making make call check most seed odds faults (record { seed = seed; faults = faults; odds = made_with; steps = n; trial = last })
    seed_fails seed n odds made_with faults first last r ran made is with_odds fails some = record {
      first = first;
      made = subst (λ o. making.post make (seed, (o, tt)) (Some first)) with_odds (subst (λ x. making.post make (seed, (made_with, tt)) x) is made);
      fails = subst (λ x. IfSome x (λ k. Fails steps call check most k first last)) some fails;
      same_seed = refl;
      same_faults = refl;
      same_odds = with_odds;
    }

    least_by : (seed : ℕ) (odds : Odds) (faults : Faults) (new : Failure T X) → SeedFails steps making make call check most seed odds faults new
        → ((a b c : Bool) → kinds_in (kinds a b c) < kinds_in faults → SeedPasses steps making make call check most seed (odds_with (kinds a b c) odds)) → IsLeast steps making make call check most seed odds new
    least_by seed odds faults new failed fewer = record {
      fails = subst (λ f. SeedFails steps making make call check most seed odds f new) (sym failed.same_faults) failed;
      fewest = λ other less. fewer other.fails other.stands other.jumps (subst (λ f. kinds_in other < kinds_in f) failed.same_faults less);
    }

    no_fewer : (seed : ℕ) (odds : Odds) (a b c : Bool) → kinds_in (kinds a b c) < 0 → SeedPasses steps making make call check most seed (odds_with (kinds a b c) odds)
    no_fewer seed odds a b c less = absurd (no (kinds_in (kinds a b c)) less)
      where
        no : (n : ℕ) → n < 0 → ⊥
        no n less = omega (arith, less)

    -- the first failure of those with fewer kinds of faults has the fewest
    pub least : (odds : Odds) (old new : Failure T X) → SeedFails steps making make call check most old.seed odds all_faults old → IsFirstOf steps making make call check most odds old fewer_sets new
        → IsLeast steps making make call check most old.seed odds new
    least odds old new failed (inl f) = least_by old.seed odds _ new f (no_fewer old.seed odds)
    least odds old new failed (inr (p, inl f)) = least_by old.seed odds _ new f (below_one (λ k. SeedPasses steps making make call check most old.seed (odds_with k odds)) p)
    least odds old new failed (inr (p, inr (q, inl f))) = least_by old.seed odds _ new f (below_one (λ k. SeedPasses steps making make call check most old.seed (odds_with k odds)) p)
    least odds old new failed (inr (p, inr (q, inr (r, inl f)))) = least_by old.seed odds _ new f (below_one (λ k. SeedPasses steps making make call check most old.seed (odds_with k odds)) p)
    least odds old new failed (inr (p, inr (q, inr (r, inr (s, inl f))))) = least_by old.seed odds _ new f (below_two (λ k. SeedPasses steps making make call check most old.seed (odds_with k odds)) p q r s)
    least odds old new failed (inr (p, inr (q, inr (r, inr (s, inr (t, inl f)))))) = least_by old.seed odds _ new f (below_two (λ k. SeedPasses steps making make call check most old.seed (odds_with k odds)) p q r s)
    least odds old new failed (inr (p, inr (q, inr (r, inr (s, inr (t, inr (u, inl f))))))) = least_by old.seed odds _ new f (below_two (λ k. SeedPasses steps making make call check most old.seed (odds_with k odds)) p q r s)
    least odds old new failed (inr (p, inr (q, inr (r, inr (s, inr (t, inr (u, inr (v, same)))))))) =
        least_by old.seed odds all_faults new (subst (λ x. SeedFails steps making make call check most old.seed odds all_faults x) (sym same) failed)
        (below_three (λ k. SeedPasses steps making make call check most old.seed (odds_with k odds)) p q r s t u v)

    pub least_ok : {E : Type 0} (odds : Odds) (old : Failure T X) (sets : List Faults) → SeedFails steps making make call check most old.seed odds all_faults old → sets ≡ fewer_sets → (r : Result (Failure T X) E)
        → IfOk r (IsFirstOf steps making make call check most odds old sets) → IfOk r (IsLeast steps making make call check most old.seed odds)
    least_ok odds old sets failed is (Ok new) first = least odds old new failed (subst (λ l. IsFirstOf steps making make call check most odds old l new) is first)
    least_ok odds old sets failed is (Err e) first = tt

    -- the first seed that failed
    pub found : (start end seed : ℕ) (odds : Odds) (tried : Option (Failure T X)) (first new : Failure T X) → start ≤ seed → seed < end → EachPasses steps making make call check most start seed odds
        → IfSome tried (λ f. SeedFails steps making make call check most seed odds all_faults f) → tried ≡ Some first → IsLeast steps making make call check most first.seed odds new
        → IsFound steps making make call check most start end odds new
    found start end seed odds tried first new from to earlier fails some by =
        let failed : SeedFails steps making make call check most seed odds all_faults first = subst (λ x. IfSome x (λ f. SeedFails steps making make call check most seed odds all_faults f)) some fails in
        let same : new.seed ≡ seed = by.fails.same_seed ∙ failed.same_seed in
        record {
          from = subst (λ s. start ≤ s) (sym same) from;
          below = subst (λ s. s < end) (sym same) to;
          earlier = subst (λ s. EachPasses steps making make call check most start s odds) (sym same) earlier;
          as_made = (first, subst (λ s. SeedFails steps making make call check most s odds all_faults first) (sym same) failed);
          least = subst (λ s. IsLeast steps making make call check most s odds new) (sym by.fails.same_seed) by;
        }

    -- one more seed
    passes_more : (start seed : ℕ) (odds : Odds) → EachPasses steps making make call check most start seed odds → SeedPasses steps making make call check most seed odds → EachPasses steps making make call check most start (seed + 1) odds
    passes_more start seed odds before now = λ s from to. elim (cases_lt s seed) [
      | inl less ↦ before s from less
      | inr past ↦ subst (λ t. SeedPasses steps making make call check most t odds) (same s to past) now
    ]
      where
        same : (s : ℕ) → s < seed + 1 → seed ≤ s → seed ≡ s
        same s to past = omega (arith, to, past)

    pub passes_next : (start seed : ℕ) (odds : Odds) (tried : Option (Failure T X)) → EachPasses steps making make call check most start seed odds → IfNone tried (SeedPasses steps making make call check most seed odds) → tried ≡ None
        → EachPasses steps making make call check most start (seed + 1) odds
    passes_next start seed odds tried before passes none = passes_more start seed odds before (subst (λ x. IfNone x (SeedPasses steps making make call check most seed odds)) none passes)

    pub passes_each : (start seed end : ℕ) (odds : Odds) → end ≤ seed → EachPasses steps making make call check most start seed odds → EachPasses steps making make call check most start end odds
    passes_each start seed end odds past each = λ s from to. each s from (omega (arith, past, to))
