-- The text of a line has no line feed.
use Rattle.std.proofs.Common.{◌≡◌, ℕ, List, [], ◌∷◌, ◌++◌, Bool, true, false, nat_eq, if◌then◌else◌, refl, arith, inl, inr, codes}
use Rattle.std.proofs.lemmas.Bool.{cases_Bool}
use Rattle.std.specs.Fmt.{decimal}
use Rattle.mono_text.specs.Services.{HasNoFeed}
use Rattle.mono_text.proofs.CallLemmas.{one_line_number, one_line_both, one_line_two}
use Rattle.mono_lines.specs.declared.actor.words.Handed.{Handed}
use Rattle.mono_lines.specs.declared.actor.words.ActorLine.{ActorLine}
use Rattle.mono_lines.specs.declared.actor.words.ActorLine.TheVariants as line
use Rattle.mono_lines.specs.ActorTexts.{handed_text, parts_text, line_text, FitsHanded, FitSends, FitsLine}

-- whether a word has none
abbrev plain : List ℕ → Bool
plain [] = true
plain (b ∷ bs) = if nat_eq b 10 then false else plain bs

word : (bs : List ℕ) → plain bs ≡ true → HasNoFeed bs
word [] e = tt
word (b ∷ bs) e = elim (cases_Bool (nat_eq b 10)) [
  | inl feed ↦ cc (rw feed at e)
  | inr other ↦ (other, word bs (rw other at e))
]

handed_plain : (h : Handed) → FitsHanded h → HasNoFeed (handed_text h)
handed_plain h f = one_line_two [] h.to h.message tt (omega (arith, f.0)) (omega (arith, f.1))

parts_plain : (sends : List Handed) (stop : Bool) → FitSends sends → HasNoFeed (parts_text sends stop)
parts_plain [] true f = word (codes "; stop") refl
parts_plain [] false f = word (codes "; stay") refl
parts_plain (h ∷ sends) stop f =
    one_line_both (codes "; send " ++ handed_text h) (parts_text sends stop) (one_line_both (codes "; send ") (handed_text h) (word (codes "; send ") refl) (handed_plain h f.0)) (parts_plain sends stop f.1)

pub line_plain : (call : ActorLine) → FitsLine call → HasNoFeed (line_text call)
line_plain line.Actor f = word (codes "actor") refl
line_plain (line.Send from to message) f =
    let two : HasNoFeed (codes "send " ++ decimal from ++ codes " " ++ decimal to) = one_line_two (codes "send ") from to (word (codes "send ") refl) (omega (arith, f.0)) (omega (arith, f.1)) in
    one_line_number (codes "send " ++ decimal from ++ codes " " ++ decimal to ++ codes " ") message (one_line_both (codes "send " ++ decimal from ++ codes " " ++ decimal to) (codes " ") two (word (codes " ") refl)) (omega (arith, f.2))
line_plain (line.Timeout actor ms) f = one_line_two (codes "timeout ") actor ms (word (codes "timeout ") refl) (omega (arith, f.0)) (omega (arith, f.1))
line_plain (line.Clock n) f = one_line_number (codes "clock ") n (word (codes "clock ") refl) (omega (arith, f))
line_plain (line.Turn sends stop) f = one_line_both (codes "turn") (parts_text sends stop) (word (codes "turn") refl) (parts_plain sends stop f)
