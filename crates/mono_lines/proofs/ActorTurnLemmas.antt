-- The parts of a turn, one after another.
use Rattle.std.proofs.Common.{◌≡◌, ℕ, suc, ◌+◌, ◌-◌, ◌<◌, ◌≤◌, ◌++◌, List, [], ◌∷◌, length, Some, None, Bool, refl, ap, ◌∙◌, arith, length-append}
use Rattle.std.specs.Prelude.{codes}
use Rattle.mono_text.specs.Parser.{word_at}
use Rattle.mono_text.proofs.PrefixLemmas.{word_is}
use Rattle.mono_lines.specs.declared.actor.words.Handed.{Handed}
use Rattle.mono_lines.specs.declared.actor.words.ActorLine.TheVariants as line
use Rattle.mono_lines.specs.ActorTexts.{handed_text}
use Rattle.mono_lines.specs.ActorParser.{stop_at, part_at, parts_at, turn_at}
use Rattle.mono_lines.proofs.ActorSpellingLemmas.{part_found}

-- The first parts of the whole were read, and `rest` remains.
pub record PartsRead (whole : List ℕ) (front : List Handed) (rest : List ℕ) : Type 0 where
  pub same : (most : ℕ) → parts_at (most + length front) [] whole ≡ parts_at most front rest
  pub shorter : length rest + length front ≤ length whole

pub none_read : (whole : List ℕ) → PartsRead whole [] whole
none_read whole = record { same = λ most. ap (λ n. parts_at n [] whole) (omega arith); shorter = omega arith }

-- The turn is that of the remaining parts.
goes_on : (whole : List ℕ) (front : List Handed) (rest : List ℕ) → PartsRead whole front rest → turn_at whole ≡ parts_at (suc (length whole - length front)) front rest
goes_on whole front rest p =
    let n : suc (length whole) ≡ suc (length whole - length front) + length front = omega (arith, p.shorter) in
    ap (λ k. parts_at k [] whole) n ∙ p.same (suc (length whole - length front))

pub no_break : (whole : List ℕ) (front : List Handed) (rest : List ℕ) → PartsRead whole front rest → word_at (codes "; ") rest ≡ None → turn_at whole ≡ None
unfolding parts_at
no_break whole front rest p e = goes_on whole front rest p ∙ rw e refl

pub ends : (whole : List ℕ) (front : List Handed) (rest r : List ℕ) (stop : Bool) (after : List ℕ) → PartsRead whole front rest → word_at (codes "; ") rest ≡ Some r
    → stop_at r ≡ Some (stop, after) → turn_at whole ≡ Some (line.Turn front stop, after)
unfolding parts_at
ends whole front rest r stop after p e h = goes_on whole front rest p ∙ rw (e, h) refl

pub no_part : (whole : List ℕ) (front : List Handed) (rest r : List ℕ) → PartsRead whole front rest → word_at (codes "; ") rest ≡ Some r
    → stop_at r ≡ None → part_at r ≡ None → turn_at whole ≡ None
unfolding parts_at
no_part whole front rest r p e h k = goes_on whole front rest p ∙ rw (e, h, k) refl

next : (most : ℕ) (front : List Handed) (rest r : List ℕ) (h : Handed) (after : List ℕ) → word_at (codes "; ") rest ≡ Some r → stop_at r ≡ None → part_at r ≡ Some (h, after)
    → parts_at (suc most) front rest ≡ parts_at most (front ++ h ∷ []) after
unfolding parts_at
next most front rest r h after e s k = rw (e, s, k) refl

pub fewer_left : (rest r : List ℕ) (h : Handed) (after : List ℕ) → word_at (codes "; ") rest ≡ Some r → part_at r ≡ Some (h, after) → length after < length rest
fewer_left rest r h after e k =
    omega (arith, ap length (word_is (codes "; ") rest r e), ap length (part_found r h after k).0, length-append (codes "; ") r, length-append (codes "send ") (handed_text h ++ after), length-append (handed_text h) after)

pub one_more : (whole : List ℕ) (front : List Handed) (rest r : List ℕ) (h : Handed) (after : List ℕ) → PartsRead whole front rest → word_at (codes "; ") rest ≡ Some r
    → stop_at r ≡ None → part_at r ≡ Some (h, after) → PartsRead whole (front ++ h ∷ []) after
one_more whole front rest r h after p e s k =
    let longer = length-append front (h ∷ []) in
    record {
      same = λ most.
          let n : most + length (front ++ h ∷ []) ≡ suc most + length front = omega (arith, longer) in
          ap (λ x. parts_at x [] whole) n ∙ p.same (suc most) ∙ next most front rest r h after e s k;
      shorter = omega (arith, p.shorter, longer, fewer_left rest r h after e k);
    }
