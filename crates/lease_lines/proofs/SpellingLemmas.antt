-- Requests are read as they are spelled, and spelled as they are read.
use Rattle.std.proofs.Common.{◌≡◌, ℕ, ◌^◌, ◌<◌, ◌==◌, ◌++◌, Bool, true, false, if◌then◌else◌, List, [], ◌∷◌, length, Option, Some, None, codes, refl, sym, ap, subst, ◌∙◌, arith, inl, inr, append_assoc}
use Rattle.std.proofs.lemmas.Bool.Decides.{eqb_tells}
use Rattle.std.proofs.lemmas.List.{append-nil}
use Rattle.std.specs.Fmt.{decimal}
use Rattle.mono_text.specs.Parser.{Read, mapped, word_at, number_at, behind_at}
use Rattle.mono_text.proofs.PrefixLemmas.{word_is}
use Rattle.mono_text.proofs.SpellingLemmas.{when_cases, mapped_some, then_some}
use Rattle.mono_text.proofs.CallLemmas.{number_found, number_again, behind_found}
use Rattle.lease_core.specs.declared.requests.Call.{Call}
use Rattle.lease_core.specs.declared.requests.Call.TheVariants as call
use Rattle.lease_lines.specs.declared.calls.KeyCall.{KeyCall}
use Rattle.lease_lines.specs.Lines.{call_text, FitsCall, SpellsNone, whole}
use Rattle.lease_lines.specs.Parser.{one_at, two_at, three_at, mail_call_at, look_call_at, token_call_at, call_at}

-- ---- the parts of a line of one number, and of more

one_part : (a b c : List ℕ) → a ++ (b ++ c) ≡ (a ++ b) ++ c
one_part a b c = sym (append_assoc a b c)

two_parts : (a b c d e : List ℕ) → a ++ (b ++ (c ++ (d ++ e))) ≡ (a ++ b ++ c ++ d) ++ e
two_parts a b c d e = grind (arith, append_assoc)

three_parts : (a b c d e f g : List ℕ) → a ++ (b ++ (c ++ (d ++ (e ++ (f ++ g))))) ≡ (a ++ b ++ c ++ d ++ e ++ f) ++ g
three_parts a b c d e f g = grind (arith, append_assoc)

four_parts : (a b c d e f g h i : List ℕ) → a ++ (b ++ (c ++ (d ++ (e ++ (f ++ (g ++ (h ++ i))))))) ≡ (a ++ b ++ c ++ d ++ e ++ f ++ g ++ h) ++ i
four_parts a b c d e f g h i = grind (arith, append_assoc)

-- ---- what is read is spelled so

abbrev CallIs : List ℕ → List ℕ → KeyCall → Type 0
CallIs bytes rest k = bytes ≡ call_text k.key k.call ++ rest

key_found : (word : List ℕ) (make : ℕ → KeyCall) (bytes r : List ℕ) (k : KeyCall) (rest : List ℕ)
    → ((n : ℕ) → word ++ decimal n ≡ call_text (make n).key (make n).call) → word_at word bytes ≡ Some r → mapped make (number_at r) ≡ Some (k, rest) → CallIs bytes rest k
key_found word make bytes r k rest spelled w e =
    let m = mapped_some make (number_at r) k rest e in
    let n = number_found r m.0 rest m.1 in
    subst (CallIs bytes rest) m.2 (word_is word bytes r w ∙ ap (λ x. word ++ x) n.0 ∙ one_part word (decimal m.0) rest ∙ ap (λ x. x ++ rest) (spelled m.0))

one_found : (word : List ℕ) (make : ℕ × ℕ → KeyCall) (bytes r : List ℕ) (k : KeyCall) (rest : List ℕ)
    → ((a b : ℕ) → word ++ decimal a ++ codes " " ++ decimal b ≡ call_text (make (a, b)).key (make (a, b)).call) → word_at word bytes ≡ Some r → mapped make (one_at r) ≡ Some (k, rest) → CallIs bytes rest k
one_found word make bytes r k rest spelled w e =
    let m = mapped_some make (one_at r) k rest e in
    let s = then_some (number_at r) _ (m.0, rest) m.1 in
    let n = number_found r s.0 s.1 s.2 in
    let l = mapped_some _ (behind_at s.1) m.0 rest s.3 in
    let b = behind_found s.1 l.0 rest l.1 in
    let text : bytes ≡ (word ++ decimal s.0 ++ codes " " ++ decimal l.0) ++ rest =
    word_is word bytes r w ∙ ap (λ x. word ++ x) (n.0 ∙ ap (λ x. decimal s.0 ++ x) b.0) ∙ two_parts word (decimal s.0) (codes " ") (decimal l.0) rest in
    subst (CallIs bytes rest) (ap make l.2 ∙ m.2) (text ∙ ap (λ x. x ++ rest) (spelled s.0 l.0))

two_found : (word : List ℕ) (make : ℕ × ℕ × ℕ → KeyCall) (bytes r : List ℕ) (k : KeyCall) (rest : List ℕ)
    → ((a b c : ℕ) → word ++ decimal a ++ codes " " ++ decimal b ++ codes " " ++ decimal c ≡ call_text (make (a, b, c)).key (make (a, b, c)).call)
    → word_at word bytes ≡ Some r → mapped make (two_at r) ≡ Some (k, rest) → CallIs bytes rest k
two_found word make bytes r k rest spelled w e =
    let m = mapped_some make (two_at r) k rest e in
    let s = then_some (number_at r) _ (m.0, rest) m.1 in
    let n = number_found r s.0 s.1 s.2 in
    let t = then_some (behind_at s.1) _ (m.0, rest) s.3 in
    let b = behind_found s.1 t.0 t.1 t.2 in
    let l = mapped_some _ (behind_at t.1) m.0 rest t.3 in
    let c = behind_found t.1 l.0 rest l.1 in
    let text : bytes ≡ (word ++ decimal s.0 ++ codes " " ++ decimal t.0 ++ codes " " ++ decimal l.0) ++ rest =
    word_is word bytes r w ∙ ap (λ x. word ++ x) (n.0 ∙ ap (λ x. decimal s.0 ++ x) (b.0 ∙ ap (λ x. codes " " ++ decimal t.0 ++ x) c.0))
    ∙ three_parts word (decimal s.0) (codes " ") (decimal t.0) (codes " ") (decimal l.0) rest in
    subst (CallIs bytes rest) (ap make l.2 ∙ m.2) (text ∙ ap (λ x. x ++ rest) (spelled s.0 t.0 l.0))

three_found : (word : List ℕ) (make : ℕ × ℕ × ℕ × ℕ → KeyCall) (bytes r : List ℕ) (k : KeyCall) (rest : List ℕ)
    → ((a b c d : ℕ) → word ++ decimal a ++ codes " " ++ decimal b ++ codes " " ++ decimal c ++ codes " " ++ decimal d ≡ call_text (make (a, b, c, d)).key (make (a, b, c, d)).call)
    → word_at word bytes ≡ Some r → mapped make (three_at r) ≡ Some (k, rest) → CallIs bytes rest k
three_found word make bytes r k rest spelled w e =
    let m = mapped_some make (three_at r) k rest e in
    let s = then_some (number_at r) _ (m.0, rest) m.1 in
    let n = number_found r s.0 s.1 s.2 in
    let t = then_some (behind_at s.1) _ (m.0, rest) s.3 in
    let b = behind_found s.1 t.0 t.1 t.2 in
    let u = then_some (behind_at t.1) _ (m.0, rest) t.3 in
    let c = behind_found t.1 u.0 u.1 u.2 in
    let l = mapped_some _ (behind_at u.1) m.0 rest u.3 in
    let d = behind_found u.1 l.0 rest l.1 in
    let text : bytes ≡ (word ++ decimal s.0 ++ codes " " ++ decimal t.0 ++ codes " " ++ decimal u.0 ++ codes " " ++ decimal l.0) ++ rest =
    word_is word bytes r w ∙ ap (λ x. word ++ x) (n.0 ∙ ap (λ x. decimal s.0 ++ x) (b.0 ∙ ap (λ x. codes " " ++ decimal t.0 ++ x) (c.0 ∙ ap (λ x. codes " " ++ decimal u.0 ++ x) d.0)))
    ∙ four_parts word (decimal s.0) (codes " ") (decimal t.0) (codes " ") (decimal u.0) (codes " ") (decimal l.0) rest in
    subst (CallIs bytes rest) (ap make l.2 ∙ m.2) (text ∙ ap (λ x. x ++ rest) (spelled s.0 t.0 u.0 l.0))

look_call_found : (bytes : List ℕ) (k : KeyCall) (rest : List ℕ) → look_call_at bytes ≡ Some (k, rest) → CallIs bytes rest k
unfolding look_call_at
look_call_found bytes k rest e = elim (when_cases (word_at (codes "try ") bytes) _ _ _ e) [
  | inl u ↦ one_found (codes "try ") (λ n. record { key = n.0; call = call.Try n.1 }) bytes u.0 k rest (λ a b. refl) u.1 u.2
  | inr v ↦ elim (when_cases (word_at (codes "owner ") bytes) _ _ _ v.1) [
    | inl u ↦ key_found (codes "owner ") (λ key. record { key = key; call = call.Owner }) bytes u.0 k rest (λ n. refl) u.1 u.2
    | inr w ↦ elim (when_cases (word_at (codes "stats ") bytes) _ _ _ w.1) [
      | inl u ↦ key_found (codes "stats ") (λ key. record { key = key; call = call.Count }) bytes u.0 k rest (λ n. refl) u.1 u.2
      | inr x ↦ cc x.1
    ]
  ]
]

mail_call_found : (bytes : List ℕ) (k : KeyCall) (rest : List ℕ) → mail_call_at bytes ≡ Some (k, rest) → CallIs bytes rest k
unfolding mail_call_at
mail_call_found bytes k rest e = elim (when_cases (word_at (codes "send ") bytes) _ _ _ e) [
  | inl u ↦ three_found (codes "send ") (λ n. record { key = n.0; call = call.Send n.1 n.2 n.3 }) bytes u.0 k rest (λ a b c d. refl) u.1 u.2
  | inr v ↦ elim (when_cases (word_at (codes "receive ") bytes) _ _ _ v.1) [
    | inl u ↦ key_found (codes "receive ") (λ key. record { key = key; call = call.Receive }) bytes u.0 k rest (λ n. refl) u.1 u.2
    | inr w ↦ elim (when_cases (word_at (codes "spawn ") bytes) _ _ _ w.1) [
      | inl u ↦ key_found (codes "spawn ") (λ key. record { key = key; call = call.Spawn }) bytes u.0 k rest (λ n. refl) u.1 u.2
      | inr x ↦ look_call_found bytes k rest x.1
    ]
  ]
]

token_call_found : (bytes : List ℕ) (k : KeyCall) (rest : List ℕ) → token_call_at bytes ≡ Some (k, rest) → CallIs bytes rest k
unfolding token_call_at
token_call_found bytes k rest e = elim (when_cases (word_at (codes "take ") bytes) _ _ _ e) [
  | inl u ↦ two_found (codes "take ") (λ n. record { key = n.0; call = call.Take n.1 n.2 }) bytes u.0 k rest (λ a b c. refl) u.1 u.2
  | inr v ↦ elim (when_cases (word_at (codes "bucket ") bytes) _ _ _ v.1) [
    | inl u ↦ two_found (codes "bucket ") (λ n. record { key = n.0; call = call.Bucket n.1 n.2 }) bytes u.0 k rest (λ a b c. refl) u.1 u.2
    | inr w ↦ mail_call_found bytes k rest w.1
  ]
]

call_found : (bytes : List ℕ) (k : KeyCall) (rest : List ℕ) → call_at bytes ≡ Some (k, rest) → CallIs bytes rest k
unfolding call_at
call_found bytes k rest e = elim (when_cases (word_at (codes "acquire ") bytes) _ _ _ e) [
  | inl u ↦ one_found (codes "acquire ") (λ n. record { key = n.0; call = call.Acquire n.1 }) bytes u.0 k rest (λ a b. refl) u.1 u.2
  | inr v ↦ elim (when_cases (word_at (codes "release ") bytes) _ _ _ v.1) [
    | inl u ↦ one_found (codes "release ") (λ n. record { key = n.0; call = call.Release n.1 }) bytes u.0 k rest (λ a b. refl) u.1 u.2
    | inr w ↦ elim (when_cases (word_at (codes "beat ") bytes) _ _ _ w.1) [
      | inl u ↦ one_found (codes "beat ") (λ n. record { key = n.0; call = call.Beat n.1 }) bytes u.0 k rest (λ a b. refl) u.1 u.2
      | inr x ↦ elim (when_cases (word_at (codes "open ") bytes) _ _ _ x.1) [
        | inl u ↦ one_found (codes "open ") (λ n. record { key = n.0; call = call.Open n.1 }) bytes u.0 k rest (λ a b. refl) u.1 u.2
        | inr y ↦ elim (when_cases (word_at (codes "close ") bytes) _ _ _ y.1) [
          | inl u ↦ one_found (codes "close ") (λ n. record { key = n.0; call = call.Close n.1 }) bytes u.0 k rest (λ a b. refl) u.1 u.2
          | inr z ↦ token_call_found bytes k rest z.1
        ]
      ]
    ]
  ]
]

-- ---- what is spelled so is read

abbrev IsRead : List ℕ → ℕ → Call → Type 0
IsRead bytes key c = call_at bytes ≡ Some (record { key = key; call = c }, [])

one_again : (word : List ℕ) (key a : ℕ) (c : Call) → IsRead (word ++ (decimal key ++ (codes " " ++ (decimal a ++ [])))) key c
    → IsRead ((word ++ decimal key ++ codes " " ++ decimal a) ++ []) key c
one_again word key a c e = ap call_at (sym (two_parts word (decimal key) (codes " ") (decimal a) [])) ∙ e

two_again : (word : List ℕ) (key a b : ℕ) (c : Call) → IsRead (word ++ (decimal key ++ (codes " " ++ (decimal a ++ (codes " " ++ (decimal b ++ [])))))) key c
    → IsRead ((word ++ decimal key ++ codes " " ++ decimal a ++ codes " " ++ decimal b) ++ []) key c
two_again word key a b c e = ap call_at (sym (three_parts word (decimal key) (codes " ") (decimal a) (codes " ") (decimal b) [])) ∙ e

three_again : (word : List ℕ) (key a b d : ℕ) (c : Call)
    → IsRead (word ++ (decimal key ++ (codes " " ++ (decimal a ++ (codes " " ++ (decimal b ++ (codes " " ++ (decimal d ++ [])))))))) key c
    → IsRead ((word ++ decimal key ++ codes " " ++ decimal a ++ codes " " ++ decimal b ++ codes " " ++ decimal d) ++ []) key c
three_again word key a b d c e = ap call_at (sym (four_parts word (decimal key) (codes " ") (decimal a) (codes " ") (decimal b) (codes " ") (decimal d) [])) ∙ e

call_again : (key : ℕ) (c : Call) → key < 2 ^ 64 → FitsCall c → IsRead (call_text key c ++ []) key c
unfolding call_at token_call_at mail_call_at look_call_at
call_again key (call.Open a) k f =
    one_again (codes "open ") key a (call.Open a) (rw (number_again key (codes " " ++ (decimal a ++ [])) k refl, number_again a [] f refl) refl)
call_again key (call.Beat a) k f =
    one_again (codes "beat ") key a (call.Beat a) (rw (number_again key (codes " " ++ (decimal a ++ [])) k refl, number_again a [] f refl) refl)
call_again key (call.Close a) k f =
    one_again (codes "close ") key a (call.Close a) (rw (number_again key (codes " " ++ (decimal a ++ [])) k refl, number_again a [] f refl) refl)
call_again key (call.Acquire a) k f =
    one_again (codes "acquire ") key a (call.Acquire a) (rw (number_again key (codes " " ++ (decimal a ++ [])) k refl, number_again a [] f refl) refl)
call_again key (call.Release a) k f =
    one_again (codes "release ") key a (call.Release a) (rw (number_again key (codes " " ++ (decimal a ++ [])) k refl, number_again a [] f refl) refl)
call_again key (call.Try a) k f =
    one_again (codes "try ") key a (call.Try a) (rw (number_again key (codes " " ++ (decimal a ++ [])) k refl, number_again a [] f refl) refl)
call_again key call.Owner k f = rw (number_again key [] k refl) refl
call_again key call.Count k f = rw (number_again key [] k refl) refl
call_again key (call.Bucket a b) k f =
    two_again (codes "bucket ") key a b (call.Bucket a b)
    (rw (number_again key (codes " " ++ (decimal a ++ (codes " " ++ (decimal b ++ [])))) k refl, number_again a (codes " " ++ (decimal b ++ [])) f.0 refl, number_again b [] f.1 refl) refl)
call_again key (call.Take a b) k f =
    two_again (codes "take ") key a b (call.Take a b)
    (rw (number_again key (codes " " ++ (decimal a ++ (codes " " ++ (decimal b ++ [])))) k refl, number_again a (codes " " ++ (decimal b ++ [])) f.0 refl, number_again b [] f.1 refl) refl)
call_again key call.Spawn k f = rw (number_again key [] k refl) refl
call_again key (call.Send a b d) k f =
    three_again (codes "send ") key a b d (call.Send a b d)
    (rw (
      number_again key (codes " " ++ (decimal a ++ (codes " " ++ (decimal b ++ (codes " " ++ (decimal d ++ [])))))) k refl,
      number_again a (codes " " ++ (decimal b ++ (codes " " ++ (decimal d ++ [])))) f.0 refl,
      number_again b (codes " " ++ (decimal d ++ [])) f.1 refl,
      number_again d [] f.2 refl,
    ) refl)
call_again key call.Receive k f = rw (number_again key [] k refl) refl

-- ---- whole lines

some_is : (x y : KeyCall) → ◌≡◌ {A = Option KeyCall} (Some x) (Some y) → x ≡ y
some_is x y e = grind (arith, e)

more_than_none : (b : ℕ) (rest : List ℕ) → (length (b ∷ rest) == 0) ≡ false
more_than_none b rest = elim (eqb_tells (length (b ∷ rest)) 0) [ inl t ↦ absurd (omega (arith, t.1)) | inr t ↦ t.0 ]

not_whole : (b : Bool) (x k : KeyCall) → b ≡ false → Some k ≡ (if b then Some x else None) → ⊥
not_whole true x k f e = cc f
not_whole false x k f e = cc e

whole_found : (line : List ℕ) (x k : KeyCall) (rest : List ℕ) → call_at line ≡ Some (x, rest) → Some k ≡ whole (Some (x, rest)) → line ≡ call_text k.key k.call
whole_found line x k [] h e = subst (λ (z : KeyCall). line ≡ call_text z.key z.call) (sym (some_is k x e)) (call_found line x [] h ∙ append-nil (call_text x.key x.call))
whole_found line x k (b ∷ rest) h e = absurd (not_whole (length (b ∷ rest) == 0) x k (more_than_none b rest) e)

found_from : (line : List ℕ) (k : KeyCall) (r : Read KeyCall) → call_at line ≡ r → Some k ≡ whole r → line ≡ call_text k.key k.call
found_from line k None h e = cc e
found_from line k (Some x) h e = whole_found line x.0 k x.1 h e

pub found_line : (line : List ℕ) (k : KeyCall) → Some k ≡ whole (call_at line) → line ≡ call_text k.key k.call
found_line line k e = found_from line k (call_at line) refl e

pub none_line : (line : List ℕ) → None ≡ whole (call_at line) → SpellsNone line
none_line line e key c k f is =
    let read : call_at line ≡ Some (record { key = key; call = c }, []) = ap call_at (is ∙ sym (append-nil (call_text key c))) ∙ call_again key c k f in
    let bad : ◌≡◌ {A = Option KeyCall} None (Some (record { key = key; call = c })) = e ∙ ap whole read in
    cc bad
