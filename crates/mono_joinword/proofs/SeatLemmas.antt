-- Which state a seat is in, by its view.
use Rattle.std.proofs.Common.{◌≡◌, ℕ, zero, suc, Bool, false, List, get_or, sym, ap, subst, ⊎_elim, Option}
use mathlib.Core.Option.{some, some-injective, some-ne-none}
use lib.ListN.{get_elem?}
use Rattle.atomic_table.specs.Table.{State, Act, Me, Valid, stepped, carried_after, Allows}
use Rattle.mono_joinword.specs.declared.views.Kept.{Kept}
use Rattle.mono_joinword.specs.declared.views.Stage.{Stage}
use Rattle.mono_joinword.specs.declared.views.Stage.TheVariants.{Working}
use Rattle.mono_joinword.specs.declared.views.RunnerView.{RunnerView}
use Rattle.mono_joinword.specs.declared.views.JoinerView.{JoinerView}
use Rattle.mono_joinword.specs.declared.views.View.{View}
use Rattle.mono_joinword.specs.declared.views.View.TheVariants.{Maker, Runner, Joiner}
use Rattle.mono_joinword.specs.Rule.{Home, Sound, Fits, between, Split, Whole, Joined, making}
use Rattle.mono_joinword.specs.Views.{runner_at, fresh}

abbrev pub kind : View → ℕ
kind (Maker n b) = 0
kind (Runner r) = 1
kind (Joiner j) = 2

abbrev pub stage_in : View → Stage
stage_in (Maker n b) = Working
stage_in (Runner r) = r.stage
stage_in (Joiner j) = Working

abbrev joiner_in : View → JoinerView
joiner_in (Maker n b) = fresh n
joiner_in (Runner r) = fresh r.number
joiner_in (Joiner j) = j

abbrev pub has_slot : View → Bool
has_slot (Maker n b) = b
has_slot (Runner r) = false
has_slot (Joiner j) = false

abbrev pub IsZero : ℕ → Type 0
IsZero zero = Unit {0}
IsZero (suc n) = ⊥

pub not-maker-runner : (n : ℕ) (b : Bool) (r : RunnerView) → Maker n b ≡ Runner r → ⊥
not-maker-runner n b r e = subst IsZero (ap kind e) tt

pub not-maker-joiner : (n : ℕ) (b : Bool) (j : JoinerView) → Maker n b ≡ Joiner j → ⊥
not-maker-joiner n b j e = subst IsZero (ap kind e) tt

abbrev pub IsOne : ℕ → Type 0
IsOne zero = ⊥
IsOne (suc zero) = Unit {0}
IsOne (suc (suc n)) = ⊥

pub not-runner-joiner : (r : RunnerView) (j : JoinerView) → Runner r ≡ Joiner j → ⊥
not-runner-joiner r j e = subst IsOne (ap kind e) tt

module _ {O W : Type 0} (output_number : O → ℕ) (waker_number : W → ℕ) (n : ℕ) where
  abbrev S : Type 0
  S = Option (Kept O W)

  abbrev Rule : State S View → Type 0
  Rule = Joined output_number waker_number n

  -- The duty of a step at one state.
  abbrev pub Owes : State S View → ℕ → Me S View → (ℕ → ℕ) → (ℕ → Me S View → Type 0) → Type 0
  Owes s id me f then = (w : View) × (a : Act S) × Valid s.homes me.1 a × Rule (stepped s 0 (f (get_or s.words 0 0)) id me.1 w a) × then (get_or s.words 0 0) (w, carried_after me.1 a)

  pub no_maker : (b : Bool) (k : ℕ) (st : Stage) (j : JoinerView) (word : ℕ) (output waker : Home O W) → get_elem? (between output_number waker_number n st j word output waker).views k ≡ some (Maker n b) → ⊥
  no_maker b zero st j word output waker e = not-maker-runner n b _ (sym (some-injective _ _ e))
  no_maker b (suc zero) st j word output waker e = not-maker-joiner n b _ (sym (some-injective _ _ e))
  no_maker b (suc (suc k)) st j word output waker e = some-ne-none _ (sym e)

  pub runner_step : (slots id : ℕ) (stage : Stage) (list : List (ℕ × S)) (f : ℕ → ℕ) (then : ℕ → Me S View → Type 0)
      → ((j : JoinerView) (word : ℕ) (output waker : Home O W) → Sound output_number waker_number n j → Fits output_number waker_number n stage j word output waker
      → Owes (between output_number waker_number n stage j word output waker) 0 (runner_at n stage, list) f then)
      → Allows Rule slots id (runner_at n stage, list) 0 f then
  runner_step slots id stage list f then owed s r _ at _ = ⊎_elim whole split r
    where
      Want : State S View → Type 0
      Want t = Owes t id (runner_at n stage, list) f then

      whole_at : (k : ℕ) (b : Bool) → get_elem? (making output_number waker_number n b).views k ≡ some (runner_at n stage) → ⊥
      whole_at zero b e = not-maker-runner n b _ (some-injective _ _ e)
      whole_at (suc k) b e = some-ne-none _ (sym e)

      whole : Whole output_number waker_number n s → Want s
      whole t = absurd (whole_at id t.0 (subst (λ (x : State S View). get_elem? x.views id ≡ some (runner_at n stage)) t.1 at))

      split_at : (k : ℕ) (st : Stage) (j : JoinerView) (word : ℕ) (output waker : Home O W) → Sound output_number waker_number n j → Fits output_number waker_number n st j word output waker
          → get_elem? (between output_number waker_number n st j word output waker).views k ≡ some (runner_at n stage) → Owes (between output_number waker_number n st j word output waker) k (runner_at n stage, list) f then
      split_at zero st j word output waker sound fits e = let same : st ≡ stage = ap stage_in (some-injective _ _ e) in
          subst (λ (x : Stage). Owes (between output_number waker_number n x j word output waker) 0 (runner_at n stage, list) f then) (sym same)
          (owed j word output waker sound (subst (λ (x : Stage). Fits output_number waker_number n x j word output waker) same fits))
      split_at (suc zero) st j word output waker sound fits e = absurd (not-runner-joiner _ _ (sym (some-injective _ _ e)))
      split_at (suc (suc k)) st j word output waker sound fits e = absurd (some-ne-none _ (sym e))

      split : Split output_number waker_number n s → Want s
      split t = subst Want (sym t.5) (split_at id t.0 t.1 t.2 t.3 t.4 t.6 t.7 (subst (λ (x : State S View). get_elem? x.views id ≡ some (runner_at n stage)) t.5 at))

  pub joiner_step : (slots id : ℕ) (mine : JoinerView) (list : List (ℕ × S)) (f : ℕ → ℕ) (then : ℕ → Me S View → Type 0)
      → ((stage : Stage) (word : ℕ) (output waker : Home O W) → Sound output_number waker_number n mine → Fits output_number waker_number n stage mine word output waker
      → Owes (between output_number waker_number n stage mine word output waker) 1 (Joiner mine, list) f then)
      → Allows Rule slots id (Joiner mine, list) 0 f then
  joiner_step slots id mine list f then owed s r _ at _ = ⊎_elim whole split r
    where
      Want : State S View → Type 0
      Want t = Owes t id (Joiner mine, list) f then

      whole_at : (k : ℕ) (b : Bool) → get_elem? (making output_number waker_number n b).views k ≡ some (Joiner mine) → ⊥
      whole_at zero b e = not-maker-joiner n b _ (some-injective _ _ e)
      whole_at (suc k) b e = some-ne-none _ (sym e)

      whole : Whole output_number waker_number n s → Want s
      whole t = absurd (whole_at id t.0 (subst (λ (x : State S View). get_elem? x.views id ≡ some (Joiner mine)) t.1 at))

      split_at : (k : ℕ) (st : Stage) (j : JoinerView) (word : ℕ) (output waker : Home O W) → Sound output_number waker_number n j → Fits output_number waker_number n st j word output waker
          → get_elem? (between output_number waker_number n st j word output waker).views k ≡ some (Joiner mine) → Owes (between output_number waker_number n st j word output waker) k (Joiner mine, list) f then
      split_at zero st j word output waker sound fits e = absurd (not-runner-joiner _ _ (some-injective _ _ e))
      split_at (suc zero) st j word output waker sound fits e = let same : j ≡ mine = ap joiner_in (some-injective _ _ e) in
          subst (λ (x : JoinerView). Owes (between output_number waker_number n st x word output waker) 1 (Joiner mine, list) f then) (sym same)
          (owed st word output waker (subst (Sound output_number waker_number n) same sound) (subst (λ (x : JoinerView). Fits output_number waker_number n st x word output waker) same fits))
      split_at (suc (suc k)) st j word output waker sound fits e = absurd (some-ne-none _ (sym e))

      split : Split output_number waker_number n s → Want s
      split t = subst Want (sym t.5) (split_at id t.0 t.1 t.2 t.3 t.4 t.6 t.7 (subst (λ (x : State S View). get_elem? x.views id ≡ some (Joiner mine)) t.5 at))

  pub maker_step : (slots id : ℕ) (b : Bool) (list : List (ℕ × S)) (f : ℕ → ℕ) (then : ℕ → Me S View → Type 0)
      → Owes (making output_number waker_number n b) 0 (Maker n b, list) f then → Allows Rule slots id (Maker n b, list) 0 f then
  maker_step slots id b list f then owed s r _ at _ = ⊎_elim whole split r
    where
      Want : State S View → Type 0
      Want t = Owes t id (Maker n b, list) f then

      whole_at : (k : ℕ) (c : Bool) → get_elem? (making output_number waker_number n c).views k ≡ some (Maker n b) → Owes (making output_number waker_number n c) k (Maker n b, list) f then
      whole_at zero c e = let same : c ≡ b = ap has_slot (some-injective _ _ e) in subst (λ (x : Bool). Owes (making output_number waker_number n x) 0 (Maker n b, list) f then) (sym same) owed
      whole_at (suc k) c e = absurd (some-ne-none _ (sym e))

      whole : Whole output_number waker_number n s → Want s
      whole t = subst Want (sym t.1) (whole_at id t.0 (subst (λ (x : State S View). get_elem? x.views id ≡ some (Maker n b)) t.1 at))

      split : Split output_number waker_number n s → Want s
      split t = absurd (no_maker b id t.0 t.1 t.2 t.3 t.4 (subst (λ (x : State S View). get_elem? x.views id ≡ some (Maker n b)) t.5 at))
