-- Body lines are counted one after another.
use Rattle.std.proofs.Common.{◌≡◌, ℕ, ◌+◌, ◌<◌, ◌≤◌, Bool, true, false, if◌then◌else◌, List, [], length, drop, get_or, refl, ap, ◌∙◌, arith}
use Rattle.std.proofs.lemmas.List.{drop_more, drop_all}
use Rattle.mono_run.specs.Script.{count_in}
use Rattle.mono_run.specs.declared.scripts.body.BodyLine.{BodyLine}

-- the count of the lines before place i, none of which gives its handle away
pub record Counted (makes ends : BodyLine → ℕ) (lines : List BodyLine) (i made : ℕ) : Type 0 where
  pub made_so_far : count_in makes lines ≡ made + count_in makes (drop i lines)
  pub none_so_far : count_in ends lines ≡ count_in ends (drop i lines)
  pub few : made ≤ i

pub at_start : (makes ends : BodyLine → ℕ) (lines : List BodyLine) → Counted makes ends lines 0 0
at_start makes ends lines = record { made_so_far = omega arith; none_so_far = refl; few = omega arith }

next_of : (f : BodyLine → ℕ) (lines : List BodyLine) (i : ℕ) (d : BodyLine) → i < length lines → count_in f (drop i lines) ≡ f (get_or lines i d) + count_in f (drop (i + 1) lines)
next_of f lines i d l = rw (drop_more lines i d l) refl

pub one_made : (makes ends : BodyLine → ℕ) (lines : List BodyLine) (i made : ℕ) (d : BodyLine) → i < length lines → Counted makes ends lines i made
    → ends (get_or lines i d) ≡ 0 → makes (get_or lines i d) ≡ 1 → Counted makes ends lines (i + 1) (made + 1)
one_made makes ends lines i made d l c kept one = record {
  made_so_far = omega (arith, c.made_so_far, next_of makes lines i d l, one);
  none_so_far = omega (arith, c.none_so_far, next_of ends lines i d l, kept);
  few = omega (arith, c.few);
}

pub none_made : (makes ends : BodyLine → ℕ) (lines : List BodyLine) (i made : ℕ) (d : BodyLine) → i < length lines → Counted makes ends lines i made
    → ends (get_or lines i d) ≡ 0 → makes (get_or lines i d) ≡ 0 → Counted makes ends lines (i + 1) made
none_made makes ends lines i made d l c kept none = record {
  made_so_far = omega (arith, c.made_so_far, next_of makes lines i d l, none);
  none_so_far = omega (arith, c.none_so_far, next_of ends lines i d l, kept);
  few = omega (arith, c.few);
}

-- a line that gives the handle away
pub is_given : (makes ends : BodyLine → ℕ) (lines : List BodyLine) (i made : ℕ) (d : BodyLine) → i < length lines → Counted makes ends lines i made
    → ends (get_or lines i d) ≡ 1 → count_in ends lines ≡ 0 → ⊥
is_given makes ends lines i made d l c one none = omega (arith, c.none_so_far, next_of ends lines i d l, one, none)

pub all_made : (makes ends : BodyLine → ℕ) (lines : List BodyLine) (i made : ℕ) → length lines ≤ i → Counted makes ends lines i made
    → (count_in makes lines ≡ made) × (count_in ends lines ≡ 0)
all_made makes ends lines i made l c =
    let none : drop i lines ≡ [] = drop_all i lines l in
    (omega (arith, c.made_so_far, ap (count_in makes) none), c.none_so_far ∙ ap (count_in ends) none)
