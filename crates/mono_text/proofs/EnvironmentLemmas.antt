-- Reads and writes one after another.
use Rattle.std.proofs.Common.{◌≡◌, ℕ, zero, suc, ◌+◌, ◌-◌, ◌<◌, ◌≤◌, List, [], ◌∷◌, ◌++◌, length, take, drop, Option, Some, None, refl, sym, ap, ◌∙◌, arith, append_assoc, length-append, inl, inr, ◌^◌}
use Rattle.std.proofs.lemmas.List.{append-nil, take-append-drop}
use Rattle.std.proofs.lemmas.Grind.{common_steps}
use Rattle.std.proofs.lemmas.Bool.{cases_lt}
use Rattle.mono_text.specs.Environment.{HasRisen, Reads, HasRead, HasReadAll, IsLongerThan, Writes, HasWritten}

pub take_on : {A : Type 0} (m n : ℕ) (xs : List A) → take (m + n) xs ≡ take m xs ++ take n (drop m xs)
take_on zero n xs = rw (zero_plus n) refl
  where
    zero_plus : (n : ℕ) → 0 + n ≡ n
    zero_plus n = omega arith
take_on (suc m) n [] = grind (arith, common_steps)
take_on (suc m) n (x ∷ xs) =
    let e : suc m + n ≡ suc (m + n) = omega arith in
    rw e (ap (λ ys. x ∷ ys) (take_on m n xs))

pub read_on : (before : Option (List ℕ)) (bytes : List ℕ) (mid now : Option (List ℕ)) (buffer : List ℕ) (n : ℕ) → HasRead before bytes mid → Reads mid now buffer n
    → HasRead before (bytes ++ take n buffer) now
read_on None bytes None now buffer n h r = r
read_on None bytes (Some m) now buffer n h r = cc h
read_on (Some left) bytes None now buffer n h r = absurd h
read_on (Some left) bytes (Some m) None buffer n h r = cc r.2
read_on (Some left) bytes (Some m) (Some now) buffer n h r =
    let e : now ≡ drop n m = grind (arith, r.2) in
    rw (h, e, r.1) (ap (λ x. bytes ++ x) (sym (take-append-drop n m)) ∙ sym (append_assoc bytes (take n m) (drop n m)))

pub read_start : (before : Option (List ℕ)) (bytes : List ℕ) → bytes ≡ [] → HasRead before bytes before
read_start None bytes e = refl
read_start (Some left) bytes e = rw e refl

pub risen_since : (a b c : ℕ) → a ≤ b → b ≤ c → HasRisen b c → HasRisen a c
risen_since a b c p q (inl less) = inl (omega arith)
risen_since a b c p q (inr full) = elim (cases_lt a (2 ^ 64 - 1)) [
  | inl below ↦ inl (omega arith)
  | inr above ↦ inr above
]

pub read_to_end : (before : Option (List ℕ)) (bytes : List ℕ) (mid now : Option (List ℕ)) (buffer : List ℕ) (n : ℕ) → HasRead before bytes mid → Reads mid now buffer n
    → n ≡ 0 → 0 < length buffer → HasReadAll before bytes now
read_to_end None bytes None now buffer n h r z some = r
read_to_end None bytes (Some m) now buffer n h r z some = cc h
read_to_end (Some left) bytes None now buffer n h r z some = absurd h
read_to_end (Some left) bytes (Some m) now buffer n h r z some =
    let none : m ≡ [] = r.3 some z in
    (h ∙ ap (λ x. bytes ++ x) none ∙ append-nil bytes, r.2 ∙ rw (none, z) refl)

pub is_longer : (most : ℕ) (before : Option (List ℕ)) (bytes : List ℕ) (mid : Option (List ℕ)) → HasRead before bytes mid → most < length bytes → IsLongerThan most before
is_longer most None bytes mid h l = tt
is_longer most (Some left) bytes None h l = absurd h
is_longer most (Some left) bytes (Some m) h l = omega (arith, ap length h, length-append bytes m)

pub write_on : (before mid now : Option (List ℕ)) (bytes : List ℕ) (d n : ℕ) → HasWritten before mid (take d bytes) → Writes mid now (drop d bytes) n → HasWritten before now (take (d + n) bytes)
write_on None mid now bytes d n h w = rw h at w
write_on (Some old) mid now bytes d n h w =
    let k : now ≡ Some ((old ++ take d bytes) ++ take n (drop d bytes)) = rw h at w in
    k ∙ ap Some (append_assoc old (take d bytes) (take n (drop d bytes)) ∙ ap (λ x. old ++ x) (sym (take_on d n bytes)))
