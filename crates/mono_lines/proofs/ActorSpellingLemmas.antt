-- Calls are read as they are spelled, and spelled as they are read.
use Rattle.std.proofs.Common.{◌≡◌, ℕ, zero, suc, ◌^◌, ◌<◌, ◌++◌, List, [], ◌∷◌, length, Some, None, Bool, true, false, ◌⊎◌, refl, sym, ap, subst, ◌∙◌, arith, inl, inr, append_assoc, length-append, codes, lit<}
use Rattle.std.proofs.lemmas.List.{append-nil}
use Rattle.std.specs.Fmt.{decimal}
use Rattle.mono_text.specs.Parser.{Read, word_at, number_at}
use Rattle.mono_text.proofs.PrefixLemmas.{word_is}
use Rattle.mono_text.proofs.DigitLemmas.{digits_again, starts_digit}
use Rattle.mono_text.proofs.SpellingLemmas.{when_cases, mapped_some, then_some, numbered_found}
use Rattle.mono_text.proofs.CallLemmas.{Spells, nanos_below_wide, number_found, number_again, two_found}
use Rattle.mono_lines.specs.declared.actor.words.Handed.{Handed}
use Rattle.mono_lines.specs.declared.actor.words.ActorLine.{ActorLine}
use Rattle.mono_lines.specs.declared.actor.words.ActorLine.TheVariants as line
use Rattle.mono_lines.specs.ActorTexts.{handed_text, stop_text, parts_text, line_text, FitsHanded, FitSends, FitsLine}
use Rattle.mono_lines.specs.Pairs.{pair_at}
use Rattle.mono_lines.specs.ActorParser.{handed_with, handed_at, send_at, timeout_at, stop_at, stops_or, part_at, parts_at, plain_at, call_at}
use Rattle.mono_lines.proofs.ActorFeedLemmas.{line_plain}

-- ---- tools

behind : (word bytes r text rest : List ℕ) → word_at word bytes ≡ Some r → r ≡ text ++ rest → bytes ≡ (word ++ text) ++ rest
behind word bytes r text rest w e = word_is word bytes r w ∙ ap (λ x. word ++ x) e ∙ sym (append_assoc word text rest)

regroup : (a b c d : List ℕ) → a ++ (b ++ (c ++ d)) ≡ (a ++ b ++ c) ++ d
regroup a b c d = grind (arith, append_assoc)

pair_again : {A : Type 0} (make : ℕ → ℕ → A) (a b : ℕ) (rest : List ℕ) → a < 2 ^ 64 → b < 2 ^ 64 → starts_digit rest ≡ false
    → pair_at make ((decimal a ++ codes " " ++ decimal b) ++ rest) ≡ Some (make a b, rest)
pair_again make a b rest f g d =
    ap (pair_at make) (sym (regroup (decimal a) (codes " ") (decimal b) rest))
    ∙ rw (number_again a (codes " " ++ (decimal b ++ rest)) f refl, number_again b rest g d) refl

-- ---- what is read is spelled so

handed_found : (bytes : List ℕ) (h : Handed) (rest : List ℕ) → handed_at bytes ≡ Some (h, rest) → (bytes ≡ handed_text h ++ rest) × FitsHanded h
unfolding handed_at
handed_found bytes h rest e =
    let k = two_found [] handed_with bytes bytes h rest refl e in
    subst (λ x. (bytes ≡ handed_text x ++ rest) × FitsHanded x) k.is (k.text, k.fits)

abbrev LineIs : List ℕ → List ℕ → ActorLine → Type 0
LineIs bytes rest call = (bytes ≡ line_text call ++ rest) × FitsLine call

-- "send " and a sender, a blank, and the rest
send_front : (from : ℕ) (h : Handed) (rest : List ℕ) → codes "send " ++ (decimal from ++ (codes " " ++ (handed_text h ++ rest))) ≡ line_text (line.Send from h.to h.message) ++ rest
send_front from h rest = grind (arith, append_assoc)

send_found : (bytes r : List ℕ) (call : ActorLine) (rest : List ℕ) → word_at (codes "send ") bytes ≡ Some r → send_at r ≡ Some (call, rest) → LineIs bytes rest call
unfolding send_at
send_found bytes r call rest w e =
    let s = then_some (number_at r) _ (call, rest) e in
    let n = number_found r s.0 s.1 s.2 in
    elim (when_cases (word_at (codes " ") s.1) _ _ _ s.3) [
      | inl b ↦
          let k = mapped_some (λ (h : Handed). line.Send s.0 h.to h.message) (handed_at b.0) call rest b.2 in
          let h = handed_found b.0 k.0 rest k.1 in
          let all : bytes ≡ line_text (line.Send s.0 k.0.to k.0.message) ++ rest =
          word_is (codes "send ") bytes r w ∙ ap (λ x. codes "send " ++ x) (n.0 ∙ ap (λ x. decimal s.0 ++ x) (word_is (codes " ") s.1 b.0 b.1 ∙ ap (λ x. codes " " ++ x) h.0))
          ∙ send_front s.0 k.0 rest in
          subst (LineIs bytes rest) k.2 (all, (n.1, h.1.0, h.1.1))
      | inr b ↦ cc b.1
    ]

timeout_found : (bytes r : List ℕ) (call : ActorLine) (rest : List ℕ) → word_at (codes "timeout ") bytes ≡ Some r → timeout_at r ≡ Some (call, rest) → LineIs bytes rest call
unfolding timeout_at
timeout_found bytes r call rest w e =
    let k = two_found (codes "timeout ") line.Timeout bytes r call rest w e in
    subst (LineIs bytes rest) k.is (k.text, k.fits)

stop_found : (bytes : List ℕ) (stop : Bool) (rest : List ℕ) → stop_at bytes ≡ Some (stop, rest) → bytes ≡ stop_text stop ++ rest
unfolding stop_at
stop_found bytes stop rest e = elim (when_cases (word_at (codes "stay") bytes) _ _ _ e) [
  | inl w ↦
      let k : (false ≡ stop) × (w.0 ≡ rest) = grind (arith, w.2) in
      subst (λ x. bytes ≡ stop_text x ++ rest) k.0 (word_is (codes "stay") bytes w.0 w.1 ∙ ap (λ r. codes "stay" ++ r) k.1)
  | inr w ↦ elim (when_cases (word_at (codes "stop") bytes) _ _ _ w.1) [
    | inl u ↦
        let k : (true ≡ stop) × (u.0 ≡ rest) = grind (arith, u.2) in
        subst (λ x. bytes ≡ stop_text x ++ rest) k.0 (word_is (codes "stop") bytes u.0 u.1 ∙ ap (λ r. codes "stop" ++ r) k.1)
    | inr u ↦ cc u.1
  ]
]

pub part_found : (bytes : List ℕ) (h : Handed) (rest : List ℕ) → part_at bytes ≡ Some (h, rest) → (bytes ≡ codes "send " ++ (handed_text h ++ rest)) × FitsHanded h
unfolding part_at
part_found bytes h rest e = elim (when_cases (word_at (codes "send ") bytes) _ _ _ e) [
  | inl w ↦
      let k = handed_found w.0 h rest w.2 in
      (word_is (codes "send ") bytes w.0 w.1 ∙ ap (λ r. codes "send " ++ r) k.0, k.1)
  | inr w ↦ cc w.1
]

-- the parts of a turn whose first messages were read
record PartsAre (front : List Handed) (bytes rest : List ℕ) (call : ActorLine) : Type 0 where
  sends : List Handed
  stop : Bool
  is : line.Turn (front ++ sends) stop ≡ call
  text : bytes ≡ parts_text sends stop ++ rest
  fit : FitSends sends

stops_cases : (make : Bool → ActorLine) (o : Read Bool) (other : Read ActorLine) (y : ActorLine) (rest : List ℕ) → stops_or make o other ≡ Some (y, rest)
    → ((stop : Bool) × (o ≡ Some (stop, rest)) × (make stop ≡ y)) ⊎ ((o ≡ None) × (other ≡ Some (y, rest)))
stops_cases make None other y rest h = inr (refl, h)
stops_cases make (Some x) other y rest h =
    let k : (make x.0 ≡ y) × (x.1 ≡ rest) = grind arith in
    inl (x.0, ap (λ r. Some (x.0, r)) k.1, k.0)

one_part : (h : Handed) (sends : List Handed) (stop : Bool) (rest : List ℕ) → codes "; " ++ (codes "send " ++ (handed_text h ++ (parts_text sends stop ++ rest))) ≡ parts_text (h ∷ sends) stop ++ rest
one_part h sends stop rest = grind (arith, append_assoc)

parts_found : (most : ℕ) (front : List Handed) (bytes : List ℕ) (call : ActorLine) (rest : List ℕ) → parts_at most front bytes ≡ Some (call, rest) → PartsAre front bytes rest call
unfolding parts_at
parts_found zero front bytes call rest h = cc h
parts_found (suc most) front bytes call rest h = elim (when_cases (word_at (codes "; ") bytes) _ _ _ h) [
  | inr w ↦ cc w.1
  | inl w ↦
      let b : bytes ≡ codes "; " ++ w.0 = word_is (codes "; ") bytes w.0 w.1 in
      elim (stops_cases (line.Turn front) (stop_at w.0) _ call rest w.2) [
        | inl n ↦
            let k = stop_found w.0 n.0 rest n.1 in
            record { sends = []; stop = n.0; is = rw (append-nil front) n.2; text = b ∙ ap (λ r. codes "; " ++ r) k; fit = tt }
        | inr n ↦
            let s = then_some (part_at w.0) (λ x r. parts_at most (front ++ x ∷ []) r) (call, rest) n.1 in
            let k = part_found w.0 s.0 s.1 s.2 in
            let more = parts_found most (front ++ s.0 ∷ []) s.1 call rest s.3 in
            record {
              sends = s.0 ∷ more.sends;
              stop = more.stop;
              is = ap (λ x. line.Turn x more.stop) (sym (append_assoc front (s.0 ∷ []) more.sends)) ∙ more.is;
              text = b ∙ ap (λ r. codes "; " ++ r) (k.0 ∙ ap (λ r. codes "send " ++ (handed_text s.0 ++ r)) more.text) ∙ one_part s.0 more.sends more.stop rest;
              fit = (k.1, more.fit);
            }
      ]
]

plain_found : (bytes : List ℕ) (call : ActorLine) (rest : List ℕ) → plain_at bytes ≡ Some (call, rest) → LineIs bytes rest call
unfolding plain_at
plain_found bytes call rest e = elim (when_cases (word_at (codes "actor") bytes) _ _ _ e) [
  | inl w ↦
      let k : (line.Actor ≡ call) × (w.0 ≡ rest) = grind (arith, w.2) in
      subst (LineIs bytes rest) k.0 (word_is (codes "actor") bytes w.0 w.1 ∙ ap (λ r. codes "actor" ++ r) k.1, tt)
  | inr v ↦ elim (when_cases (word_at (codes "send ") bytes) _ _ _ v.1) [
    | inl w ↦ send_found bytes w.0 call rest w.1 w.2
    | inr v ↦ elim (when_cases (word_at (codes "timeout ") bytes) _ _ _ v.1) [
      | inl w ↦ timeout_found bytes w.0 call rest w.1 w.2
      | inr v ↦ elim (when_cases (word_at (codes "clock ") bytes) _ _ _ v.1) [
        | inl w ↦
            let k = numbered_found (2 ^ 128) (codes "clock ") line.Clock bytes w.0 call rest (lit< tt) nanos_below_wide w.1 w.2 in
            subst (LineIs bytes rest) k.1 (k.2, k.3)
        | inr w ↦ cc w.1
      ]
    ]
  ]
]

call_found : (bytes : List ℕ) (call : ActorLine) (rest : List ℕ) → call_at bytes ≡ Some (call, rest) → LineIs bytes rest call
unfolding call_at
call_found bytes call rest e = elim (when_cases (word_at (codes "turn") bytes) _ _ _ e) [
  | inl w ↦
      let k = parts_found (suc (length w.0)) [] w.0 call rest w.2 in
      subst (LineIs bytes rest) k.is (behind (codes "turn") bytes w.0 (parts_text k.sends k.stop) rest w.1 k.text, k.fit)
  | inr w ↦ plain_found bytes call rest w.1
]

-- ---- what is spelled so is read

handed_again : (h : Handed) (rest : List ℕ) → FitsHanded h → starts_digit rest ≡ false → handed_at (handed_text h ++ rest) ≡ Some (h, rest)
unfolding handed_at
handed_again h rest f d = pair_again handed_with h.to h.message rest f.0 f.1 d

send_again : (from : ℕ) (h : Handed) (rest : List ℕ) → from < 2 ^ 64 → FitsHanded h → starts_digit rest ≡ false
    → send_at (decimal from ++ (codes " " ++ (handed_text h ++ rest))) ≡ Some (line.Send from h.to h.message, rest)
unfolding send_at
send_again from h rest f g d = rw (number_again from (codes " " ++ (handed_text h ++ rest)) f refl, handed_again h rest g d) refl

-- parts begin with a semicolon
parts_no_digit : (sends : List Handed) (stop : Bool) (rest : List ℕ) → starts_digit (parts_text sends stop ++ rest) ≡ false
parts_no_digit [] stop rest = refl
parts_no_digit (h ∷ sends) stop rest = refl

part_again : (h : Handed) (rest : List ℕ) → FitsHanded h → starts_digit rest ≡ false → part_at (codes "send " ++ (handed_text h ++ rest)) ≡ Some (h, rest)
unfolding part_at
part_again h rest f d = handed_again h rest f d

stop_again : (stop : Bool) (rest : List ℕ) → stop_at (stop_text stop ++ rest) ≡ Some (stop, rest)
unfolding stop_at
stop_again true rest = refl
stop_again false rest = refl

part_is_no_stop : (rest : List ℕ) → stop_at (codes "send " ++ rest) ≡ None
unfolding stop_at
part_is_no_stop rest = refl

parts_again : (sends : List Handed) (stop : Bool) (most : ℕ) (front : List Handed) (rest : List ℕ) → length sends < most → FitSends sends → starts_digit rest ≡ false
    → parts_at most front (parts_text sends stop ++ rest) ≡ Some (line.Turn (front ++ sends) stop, rest)
unfolding parts_at
parts_again sends stop zero front rest l f d = absurd (omega arith)
parts_again [] stop (suc most) front rest l f d = rw (stop_again stop rest, append-nil front) refl
parts_again (h ∷ sends) stop (suc most) front rest l f d =
    let n = part_is_no_stop (handed_text h ++ (parts_text sends stop ++ rest)) in
    let k = part_again h (parts_text sends stop ++ rest) f.0 (parts_no_digit sends stop rest) in
    ap (parts_at (suc most) front) (sym (one_part h sends stop rest))
    ∙ rw (n, k) (parts_again sends stop most (front ++ h ∷ []) rest (omega arith) f.1 d ∙ ap (λ x. Some (line.Turn x stop, rest)) (append_assoc front (h ∷ []) sends))

parts_long : (sends : List Handed) (stop : Bool) → length sends < length (parts_text sends stop)
parts_long [] stop = omega arith
parts_long (h ∷ sends) stop = omega (arith, length-append (codes "; send " ++ handed_text h) (parts_text sends stop), length-append (codes "; send ") (handed_text h), parts_long sends stop)

timeout_front : (a b : ℕ) (rest : List ℕ) → codes "timeout " ++ ((decimal a ++ codes " " ++ decimal b) ++ rest) ≡ line_text (line.Timeout a b) ++ rest
timeout_front a b rest = grind (arith, append_assoc)

call_again : (call : ActorLine) (rest : List ℕ) → FitsLine call → starts_digit rest ≡ false → call_at (line_text call ++ rest) ≡ Some (call, rest)
unfolding call_at plain_at timeout_at
call_again line.Actor rest f d = refl
call_again (line.Send from to message) rest f d =
    ap call_at (sym (send_front from (handed_with to message) rest)) ∙ send_again from (handed_with to message) rest f.0 (f.1, f.2) d
call_again (line.Timeout actor ms) rest f d =
    ap call_at (sym (timeout_front actor ms rest)) ∙ pair_again line.Timeout actor ms rest f.0 f.1 d
call_again (line.Clock n) rest f d = rw (digits_again (2 ^ 128) n rest nanos_below_wide f d) refl
call_again (line.Turn sends stop) rest f d =
    parts_again sends stop (suc (length (parts_text sends stop ++ rest))) [] rest (omega (arith, length-append (parts_text sends stop) rest, parts_long sends stop)) f d

pub spells : Spells line_text FitsLine call_at
spells = record { found = call_found; again = λ call rest f. call_again call (10 ∷ rest) f refl; one_line = line_plain }
