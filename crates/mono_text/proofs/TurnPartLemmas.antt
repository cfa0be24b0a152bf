-- The parts of a turn, one after another.
use Rattle.std.proofs.Common.{◌≡◌, ℕ, zero, suc, ◌<◌, ◌++◌, List, [], ◌∷◌, Some, None, refl, arith}
use Rattle.std.specs.Prelude.{codes}
use Rattle.mono_machine.specs.declared.events.TurnStep.{TurnStep}
use Rattle.mono_machine.specs.declared.events.End.{End}
use Rattle.mono_machine.specs.declared.events.Event.TheVariants as event
use Rattle.mono_text.specs.Parser.{word_at, end_at, step_at, parts_at}

pub parts-none_left : (left : ℕ) (front : List TurnStep) (bytes : List ℕ) → left ≡ 0 → parts_at left front bytes ≡ None
unfolding parts_at
parts-none_left left front bytes e = rw e refl

pub parts-no_break : (left : ℕ) (front : List TurnStep) (bytes : List ℕ) → 0 < left → word_at (codes "; ") bytes ≡ None → parts_at left front bytes ≡ None
unfolding parts_at
parts-no_break zero front bytes some e = absurd (omega arith)
parts-no_break (suc most) front bytes some e = rw e refl

pub parts-end : (left : ℕ) (front : List TurnStep) (bytes r : List ℕ) (e : End) (rest : List ℕ) → 0 < left → word_at (codes "; ") bytes ≡ Some r
    → end_at r ≡ Some (Some (e, rest)) → parts_at left front bytes ≡ Some (event.Turn front e, rest)
unfolding parts_at
parts-end zero front bytes r e rest some h k = absurd (omega arith)
parts-end (suc most) front bytes r e rest some h k = rw (h, k) refl

pub parts-bad_end : (left : ℕ) (front : List TurnStep) (bytes r : List ℕ) → 0 < left → word_at (codes "; ") bytes ≡ Some r
    → end_at r ≡ Some None → parts_at left front bytes ≡ None
unfolding parts_at
parts-bad_end zero front bytes r some h k = absurd (omega arith)
parts-bad_end (suc most) front bytes r some h k = rw (h, k) refl

pub parts-no_step : (left : ℕ) (front : List TurnStep) (bytes r : List ℕ) → 0 < left → word_at (codes "; ") bytes ≡ Some r
    → end_at r ≡ None → step_at r ≡ None → parts_at left front bytes ≡ None
unfolding parts_at
parts-no_step zero front bytes r some h k s = absurd (omega arith)
parts-no_step (suc most) front bytes r some h k s = rw (h, k, s) refl

pub parts-next : (left most : ℕ) (front : List TurnStep) (bytes r : List ℕ) (s : TurnStep) (rest : List ℕ) → left ≡ suc most → word_at (codes "; ") bytes ≡ Some r
    → end_at r ≡ None → step_at r ≡ Some (s, rest) → parts_at left front bytes ≡ parts_at most (front ++ s ∷ []) rest
unfolding parts_at
parts-next left most front bytes r s rest same h k t = rw (same, h, k, t) refl
