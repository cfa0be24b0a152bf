-- Texts that were written one after another.
use Rattle.std.proofs.Common.{◌≡◌, ℕ, suc, ◌+◌, List, [], ◌∷◌, ◌++◌, length, take, Option, Some, None, refl, sym, ap, subst, ◌∙◌, arith, append_assoc, length-append}
use Rattle.std.proofs.lemmas.List.{take-append-le}
use Rattle.mono_text.specs.Environment.{HasWritten, HasWrittenPrefix}

pub written_both : (before mid after : Option (List ℕ)) (one two : List ℕ) → HasWritten before mid one → HasWritten mid after two → HasWritten before after (one ++ two)
written_both None mid after one two p q = rw p at q
written_both (Some w) mid after one two p q =
    let k : after ≡ Some ((w ++ one) ++ two) = rw p at q in
    k ∙ ap Some (append_assoc w one two)

take_behind : (xs ys : List ℕ) (n : ℕ) → take (length xs + n) (xs ++ ys) ≡ xs ++ take n ys
take_behind [] ys n = ap (λ k. take k ys) (zero_plus n)
  where
    zero_plus : (n : ℕ) → 0 + n ≡ n
    zero_plus n = omega arith
take_behind (x ∷ xs) ys n =
    let e : suc (length xs) + n ≡ suc (length xs + n) = omega arith in
    rw e (ap (λ t. x ∷ t) (take_behind xs ys n))

pub prefix_behind : (before mid after : Option (List ℕ)) (one two : List ℕ) → HasWritten before mid one → HasWrittenPrefix mid after two → HasWrittenPrefix before after (one ++ two)
prefix_behind before mid after one two p q =
    (length one + q.0, omega (arith, q.1, length-append one two), subst (λ x. HasWritten before after x) (sym (take_behind one two q.0)) (written_both before mid after one (take q.0 two) p q.2))

pub prefix_before : (before after : Option (List ℕ)) (one two : List ℕ) → HasWrittenPrefix before after one → HasWrittenPrefix before after (one ++ two)
prefix_before before after one two q =
    (q.0, omega (arith, q.1, length-append one two), subst (λ x. HasWritten before after x) (sym (take-append-le q.0 one two q.1)) q.2)
