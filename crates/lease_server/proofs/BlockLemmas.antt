-- The rest of a block after a read, and after bytes of it were taken.
use Rattle.std.proofs.Common.{◌≡◌, ℕ, ◌+◌, ◌-◌, ◌<◌, ◌≤◌, List, [], ◌++◌, length, take, drop, Option, Some, None, Result, Ok, Err, OnErr, refl, sym, ap, subst, ◌∙◌, arith}
use Rattle.std.proofs.Math.Seq.{take-add}
use Rattle.std.proofs.lemmas.List.{drop-take, drop-drop, length-take, length-take-le, length-drop, take-append-drop}
use Rattle.std.proofs.lemmas.Slice.{between_is}
use Rattle.mono_text.specs.Environment.{Reads, HasRead}
use Rattle.lease_server.specs.Blocks.{HasTaken, IsAtEnd}

-- the part from a to b, and n places on
pub skipped : (xs : List ℕ) (a b n : ℕ) → a ≤ b → n ≤ length (take (b - a) (drop a xs)) → take (b - (a + n)) (drop (a + n) xs) ≡ drop n (take (b - a) (drop a xs))
skipped xs a b n le within =
    let most : n ≤ b - a = omega (arith, length-take (b - a) (drop a xs)) in
    let e : b - a ≡ n + (b - (a + n)) = omega arith in
    sym (ap (λ k. drop n (take k (drop a xs))) e ∙ drop-take n (b - (a + n)) (drop a xs) ∙ ap (λ l. take (b - (a + n)) l) (drop-drop n a xs))

pub same_part : (xs ys : List ℕ) (a b : ℕ) → take b ys ≡ take b xs → take (b - a) (drop a ys) ≡ take (b - a) (drop a xs)
same_part xs ys a b e = between_is ys a b ∙ ap (λ l. drop a l) e ∙ sym (between_is xs a b)

-- n more bytes after the part
pub longer : (xs ys : List ℕ) (a b n : ℕ) → a ≤ b → take b ys ≡ take b xs → take (b + n - a) (drop a ys) ≡ take (b - a) (drop a xs) ++ take n (drop b ys)
longer xs ys a b n le e =
    let k : b + n - a ≡ (b - a) + n = omega arith in
    let m : a + (b - a) ≡ b = omega arith in
    ap (λ k. take k (drop a ys)) k ∙ take-add (b - a) n (drop a ys) ∙ ap (λ l. l ++ take n (drop (b - a) (drop a ys))) (same_part xs ys a b e) ∙ ap (λ l. take (b - a) (drop a xs) ++ take n l) (drop-drop (b - a) a ys ∙ ap (λ k. drop k ys) m)

read_off : (before after : Option (List ℕ)) (ys : List ℕ) (n : ℕ) → Reads before after ys n → HasRead before (take n ys) after
read_off None after ys n reads = reads
read_off (Some left) after ys n (le, same, now, end) =
    subst (λ o. HasRead (Some left) (take n ys) o) (sym now) (sym (take-append-drop n left) ∙ ap (λ l. l ++ drop n left) (sym same))

-- what a read appended
pub taken : (before after : Option (List ℕ)) (xs ys : List ℕ) (a b n : ℕ) → a ≤ b → b + n ≤ length ys → take b ys ≡ take b xs → Reads before after (drop b ys) n
    → HasTaken before (take (b - a) (drop a xs)) n after (take (b + n - a) (drop a ys))
taken before after xs ys a b n le within e reads =
    let fits : n ≤ length (drop b ys) = omega (arith, length-drop b ys) in
    (take n (drop b ys), length-take-le n (drop b ys) fits, read_off before after (drop b ys) n reads, longer xs ys a b n le e)

-- a read of no byte into a part that is not empty
pub ended : (before after : Option (List ℕ)) (ys : List ℕ) (b n : ℕ) → b < length ys → Reads before after (drop b ys) n → n ≡ 0 → IsAtEnd after
ended None after ys b n some reads none = subst IsAtEnd (sym reads) tt
ended (Some left) after ys b n some (le, same, now, end) none =
    let more : 0 < length (drop b ys) = omega (arith, length-drop b ys) in
    subst IsAtEnd (sym now) (ap (λ k. drop k left) none ∙ end more none)

pub err_so : {T E P : Type 0} (r : Result T E) → P → OnErr r P
err_so (Ok x) p = tt
err_so (Err e) p = p
