-- Lines that are cut off one after another.
use Rattle.std.proofs.Common.{◌≡◌, ℕ, ◌+◌, ◌<◌, ◌≤◌, ◌⊎◌, inl, inr, List, [], ◌∷◌, ◌++◌, length, take, drop, zero, suc, Bool, true, false, ◌&&◌, ◌==◌, nat_eq, if◌then◌else◌, refl, sym, ap, subst, ◌∙◌, arith, codes, slice_index, length-append}
use Rattle.std.proofs.lemmas.Bool.{cases_Bool, eqb-true}
use Rattle.std.proofs.lemmas.List.{drop_more, drop_all}
use Rattle.mono_text.specs.Lines.{Line, lines, onto_first}
use Rattle.mono_text.specs.Services.{HasNoFeed}
use Rattle.mono_text.proofs.InputLineLemmas.{first_line, line_in}
use Rattle.mono_run.specs.ScriptText.{ended, same_text, task_lines}

pub line_front : (text rest : List ℕ) → HasNoFeed text → lines (text ++ 10 ∷ rest) ≡ ended text ∷ lines rest
line_front [] rest p = refl
line_front (b ∷ text) rest p = rw (p.0, line_front text rest p.1) refl

-- ---- the place of a line feed

pub feed_more : (text : List ℕ) (i : ℕ) → i < length text → HasNoFeed (take i text) → (slice_index text i ≡ 10 → ⊥) → HasNoFeed (take (suc i) text)
feed_more [] i l none other = absurd (omega (arith, l))
feed_more (b ∷ text) zero l none other = elim (cases_Bool (nat_eq b 10)) [
  | inl feed ↦ absurd (other (eqb-true b 10 feed))
  | inr same ↦ (same, tt)
]
feed_more (b ∷ text) (suc i) l none other = (none.0, feed_more text i (omega (arith, l)) none.1 other)

pub no_feed_all : (text : List ℕ) (i : ℕ) → length text ≤ i → HasNoFeed (take i text) → HasNoFeed text
no_feed_all [] i l none = tt
no_feed_all (b ∷ text) zero l none = absurd (omega (arith, l))
no_feed_all (b ∷ text) (suc i) l none = (none.0, no_feed_all text i (omega (arith, l)) none.1)

-- ---- lines that are `task`

same_is : (xs ys : List ℕ) → same_text xs ys ≡ true → xs ≡ ys
same_is [] [] e = refl
same_is [] (y ∷ ys) e = cc e
same_is (x ∷ xs) [] e = cc e
same_is (x ∷ xs) (y ∷ ys) e = elim (cases_Bool (nat_eq x y)) [
  | inl same ↦ rw (eqb-true x y same, same_is xs ys (rw same at e)) refl
  | inr other ↦ cc (rw other at e)
]

not_same : (xs ys : List ℕ) → (xs ≡ ys → ⊥) → same_text xs ys ≡ false
not_same xs ys n = elim (cases_Bool (same_text xs ys)) [
  | inl same ↦ absurd (n (same_is xs ys same))
  | inr other ↦ other
]

-- the lines before the rest are counted
pub record Counted (input : List ℕ) (count : ℕ) (rest : List ℕ) : Type 0 where
  pub all : task_lines (lines input) ≡ count + task_lines (lines rest)
  pub shorter : count + length rest ≤ length input

pub one_task : (input : List ℕ) (count : ℕ) (rest text behind : List ℕ) → Counted input count rest → rest ≡ text ++ 10 ∷ behind → HasNoFeed text → text ≡ codes "task" → Counted input (count + 1) behind
one_task input count rest text behind c e none is =
    let line : task_lines (lines rest) ≡ 1 + task_lines (lines behind) = ap (λ x. task_lines (lines x)) e ∙ ap task_lines (line_front text behind none) ∙ ap (λ t. task_lines (ended t ∷ lines behind)) is in
    record { all = omega (arith, c.all, line); shorter = omega (arith, c.shorter, ap length e, length-append text (10 ∷ behind)) }

pub no_task : (input : List ℕ) (count : ℕ) (rest text behind : List ℕ) → Counted input count rest → rest ≡ text ++ 10 ∷ behind → HasNoFeed text → (text ≡ codes "task" → ⊥) → Counted input count behind
no_task input count rest text behind c e none other =
    let one : task_lines (ended text ∷ lines behind) ≡ 0 + task_lines (lines behind) = rw (not_same text (codes "task") other) refl in
    let line : task_lines (lines rest) ≡ 0 + task_lines (lines behind) = ap (λ x. task_lines (lines x)) e ∙ ap task_lines (line_front text behind none) ∙ one in
    record { all = omega (arith, c.all, line); shorter = omega (arith, c.shorter, ap length e, length-append text (10 ∷ behind)) }

-- bytes without a line feed are no line, or a line that has not ended
last_line : (bytes : List ℕ) → HasNoFeed bytes → (lines bytes ≡ []) ⊎ ((text : List ℕ) × (lines bytes ≡ record { bytes = text; is_ended = false } ∷ []))
last_line [] none = inl refl
last_line (b ∷ bytes) none = elim (last_line bytes none.1) [
  | inl e ↦ inr (b ∷ [], rw (none.0, e) refl)
  | inr m ↦ inr (b ∷ m.0, rw (none.0, m.1) refl)
]

none_left : (bytes : List ℕ) → HasNoFeed bytes → task_lines (lines bytes) ≡ 0
none_left bytes none = elim (last_line bytes none) [
  | inl e ↦ rw e refl
  | inr m ↦ rw m.1 refl
]

pub counted_all : (input : List ℕ) (count : ℕ) (rest : List ℕ) → Counted input count rest → HasNoFeed rest → count ≡ task_lines (lines input)
counted_all input count rest c none = omega (arith, c.all, none_left rest none)

pub counted_end : (input : List ℕ) (count : ℕ) (rest : List ℕ) → Counted input count rest → length rest ≡ 0 → count ≡ task_lines (lines input)
counted_end input count [] c none = counted_all input count [] c tt
counted_end input count (b ∷ rest) c none = absurd (omega (arith, none))

-- ---- a last line that has not ended

feed_inside : (text rest : List ℕ) → HasNoFeed (text ++ 10 ∷ rest) → ⊥
feed_inside [] rest none = cc none.0
feed_inside (b ∷ text) rest none = feed_inside text rest none.1

-- the first line of some bytes without a line feed
pub record Unended (bytes : List ℕ) : Type 0 where
  pub first : Line
  pub more : List Line
  pub are : lines bytes ≡ first ∷ more
  pub not_ended : (text : List ℕ) → first ≡ ended text → ⊥

pub unended : (bytes : List ℕ) → HasNoFeed bytes → (length bytes ≡ 0 → ⊥) → Unended bytes
unended [] none some = absurd (some refl)
unended (b ∷ bytes) none some =
    let f = first_line b bytes in
    record {
      first = f.0;
      more = f.1;
      are = f.2;
      not_ended = λ text e.
          let k = line_in (b ∷ bytes) f.0 f.1 f.2 (ap (λ (l : Line). l.is_ended) e) in
          feed_inside f.0.bytes k.0 (subst HasNoFeed k.1 none);
    }
