-- An end of a channel after a task that owned it.
use Rattle.std.proofs.Common.{◌≡◌, ◌+◌, ◌-◌, ◌%◌, ◌^◌, ◌∷◌, ◌++◌, [], ℕ, suc, Bool, true, false, List, Option, Some, None, Result, Ok, Err, ap, subst, sym, refl, ◌∙◌, arith}
use Rattle.std.specs.Prelude.{⊤, IfOk, IfSome}
use Rattle.std.specs.Result.{result_ok}
use Rattle.std.specs.List.{sum, FoldsTo}
use Rattle.std.specs.Fn.{Mut, Called}
use Rattle.std.specs.Iterator.{YieldsThen}
use Rattle.std.specs.Iterator.Adapters.{rev_source, rev_steps}
use Rattle.std.specs.Range.{range_inclusive_start, range_inclusive_end, range_inclusive_exhausted, range_inclusive_len, range_inclusive_left, range_inclusive_steps_back}
use Rattle.std.specs.declared.iter.Rev.{Rev}
use Rattle.std.specs.declared.ops.RangeInclusive.{RangeInclusive}
use Rattle.std.proofs.Math.Nat.{mod-add-mod}
use Rattle.std.proofs.lemmas.List.{append_assoc, append-nil}
use Rattle.std.proofs.lemmas.List.Sums.{sum_by_push}
use Rattle.mono_channel.specs.Beginnings.{ArrivedInterleaves, AloneArrives}
use Rattle.mono_channel.specs.Delivery.{Interleaves, all_shares}
use Rattle.mono_channel.specs.Ends.{Ends, sent_by, received_by, settled_by, shares_of}
use Rattle.mono_channel.specs.Polls.{FindsNone}
use Rattle.mono_forms.specs.MessageFolds.{Combines, FoldsMessages}
use Rattle.mono_forms.specs.Sends.{SendsItems, refused_item}
use Rattle.mono_forms.specs.declared.message_folds.Folded.{Folded}
use Rattle.mono_forms.specs.declared.sends.AllSent.{AllSent}
use Rattle.example_threads.specs.Channels.{down_from, HasSent, HasSummed}

-- ---- the value of a result

pub some_if : {X E : Type 0} (r : Result X E) (o : Option X) (P Q : X → Type 0) → o ≡ result_ok r → IfOk r P → ((x : X) → P x → Q x) → IfSome o Q
some_if (Ok x) o P Q is holds by = rw is (by x holds)
some_if (Err e) o P Q is holds by = rw is tt

pub ok_of : {X E : Type 0} (r : Result X E) (x : X) (P : X → Type 0) → Some x ≡ result_ok r → IfOk r P → P x
ok_of r x P is holds = some_if r (Some x) P P is holds (λ y h. h)

pub ok_is : {X E : Type 0} (r : Result X E) (x : X) → Some x ≡ result_ok r → r ≡ Ok x
ok_is (Ok y) x is = cc
ok_is (Err e) x is = absurd cc

-- ---- the sender: the iterator gave the numbers from its end down to 1

abbrev pub up_to : ℕ → ℕ → ℕ
up_to x y = y - x

all_is_end : (a b n : ℕ) (done : Bool) → a ≡ 1 → n + 1 ≡ range_inclusive_len up_to a b done → range_inclusive_len up_to a b done ≡ b
all_is_end a b n true one more = absurd (omega (arith, more))
all_is_end a b n false one more = omega (arith, one, more)

one_more : (n m : ℕ) → n + 1 ≡ m → m ≡ suc n
one_more n m is = omega (arith, is)

module _ (follows : ℕ → ℕ → Type 0) where
  abbrev pub numbers : Rev (RangeInclusive ℕ) → Option ℕ → Rev (RangeInclusive ℕ) → Type 0
  numbers = rev_steps (range_inclusive_steps_back up_to follows)

  counts_down : (xs : List ℕ) (s u : Rev (RangeInclusive ℕ)) → range_inclusive_start (rev_source s) ≡ 1 → YieldsThen numbers s xs None u → xs ≡ down_from (range_inclusive_left up_to (rev_source s))
  counts_down [] s u one h =
      let none : range_inclusive_left up_to (rev_source h.0) ≡ 0 = h.2.1.0 in
      sym (ap down_from (ap (λ t. range_inclusive_left up_to (rev_source t)) h.1 ∙ none))
  counts_down (x ∷ xs) s u one h =
      let j = h.1.0 in
      let start : range_inclusive_start (rev_source j) ≡ range_inclusive_start (rev_source s) = h.1.1.0 in
      let first : x ≡ range_inclusive_end (rev_source s) = h.1.1.1.0 in
      let more : range_inclusive_left up_to (rev_source j) + 1 ≡ range_inclusive_left up_to (rev_source s) = h.1.1.1.1 in
      let left : range_inclusive_left up_to (rev_source s) ≡ suc (range_inclusive_left up_to (rev_source j)) = one_more _ _ more in
      let end : range_inclusive_left up_to (rev_source s) ≡ range_inclusive_end (rev_source s) =
      all_is_end (range_inclusive_start (rev_source s)) (range_inclusive_end (rev_source s)) (range_inclusive_left up_to (rev_source j)) (range_inclusive_exhausted (rev_source s)) one more in
      let others : xs ≡ down_from (range_inclusive_left up_to (rev_source j)) = counts_down xs j u (start ∙ one) (h.0, h.1.2, h.2) in
      ap (λ y. y ∷ xs) (first ∙ (sym end ∙ left)) ∙ (ap (λ l. suc (range_inclusive_left up_to (rev_source j)) ∷ l) others ∙ sym (ap down_from left))

  -- all numbers from the count down to 1 were sent
  pub sends_down : {U : Type 0} (a : Ends ℕ) (count : ℕ) (range : RangeInclusive ℕ) (items : Rev (RangeInclusive ℕ)) (x : AllSent ℕ U (Rev (RangeInclusive ℕ))) → rev_source items ≡ range → range_inclusive_start range ≡ 1 → range_inclusive_end range ≡ count → range_inclusive_exhausted range ≡ false
      → SendsItems numbers a items x → (done : ⊤) → x.result ≡ Ok done → HasSent count a x.sender
  sends_down a count range items x source start end fresh h done ok =
      let all : h.items ≡ down_from (range_inclusive_left up_to (rev_source items)) =
      counts_down h.items items x.rest (ap range_inclusive_start source ∙ start) (subst (λ r. YieldsThen numbers items h.items (refused_item r) x.rest) ok h.taken) in
      let left : range_inclusive_left up_to (rev_source items) ≡ count = ap (λ r. range_inclusive_left up_to r) source ∙ left_is count range start end fresh in
      ((h.pair, h.shares), h.sent ∙ ap (λ l. sent_by a ++ l) (all ∙ ap down_from left))
    where
      from_one : (count : ℕ) → range_inclusive_len up_to 1 count false ≡ count
      from_one count = omega arith

      left_is : (count : ℕ) (range : RangeInclusive ℕ) → range_inclusive_start range ≡ 1 → range_inclusive_end range ≡ count → range_inclusive_exhausted range ≡ false → range_inclusive_left up_to range ≡ count
      left_is count range start end fresh =
          ap (λ a. range_inclusive_len up_to a (range_inclusive_end range) (range_inclusive_exhausted range)) start ∙ (ap (λ b. range_inclusive_len up_to 1 b (range_inclusive_exhausted range)) end ∙ (ap (λ d. range_inclusive_len up_to 1 count d) fresh ∙ from_one count))

-- ---- the receiver: the value is the sum modulo 2^64

sum_on : (xs : List ℕ) (x total next : ℕ) → total ≡ sum xs % 2 ^ 64 → next ≡ (total + x) % 2 ^ 64 → next ≡ sum (xs ++ x ∷ []) % 2 ^ 64
sum_on xs x total next is added =
    added ∙ (ap (λ n. (n + x) % 2 ^ 64) is ∙ (mod-add-mod (sum xs) (2 ^ 64) x ∙ sym (ap (λ n. n % 2 ^ 64) (sum_by_push (λ n. n) xs x))))

module _ {F : Type 0} (call : Mut F (ℕ × (ℕ × Unit {0})) ℕ) (adds : (f : F) (total x next : ℕ) (g : F) → Called call f (total, (x, tt)) next g → next ≡ (total + x) % 2 ^ 64) where
  adds_up : (xs ys : List ℕ) (p q : F × ℕ) → p.1 ≡ sum xs % 2 ^ 64 → FoldsTo (Combines call) p ys q → q.1 ≡ sum (xs ++ ys) % 2 ^ 64
  adds_up xs [] p q is same = sym (ap {A = F × ℕ} (λ r. r.1) same) ∙ (is ∙ sym (ap (λ l. sum l % 2 ^ 64) (append-nil xs)))
  adds_up xs (y ∷ ys) p q is h =
      adds_up (xs ++ y ∷ []) ys h.0 q (sum_on xs y p.1 h.0.1 is (adds p.0 p.1 y h.0.1 h.0.0 h.1)) h.2 ∙ ap (λ l. sum l % 2 ^ 64) (append_assoc xs (y ∷ []) ys)

  -- a receiver that had received nothing has summed all that it received
  pub sums_all : {U : Type 0} (a : Ends ℕ) (f : F) (x : Folded ℕ U ℕ) → received_by a ≡ [] → FoldsMessages call a 0 f x → HasSummed a x
  sums_all a f x none h =
      let all : received_by x.receiver ≡ h.items = h.received ∙ ap (λ l. l ++ h.items) none in
      ((h.pair, h.shares), h.settled, adds_up [] h.items (f, 0) (h.later, x.value) refl h.combined ∙ ap (λ l. sum l % 2 ^ 64) (sym all))

-- ---- both

no_more : (sum a b all : ℕ) → sum ≡ a + b → a ≡ 0 → b ≡ all → sum ≡ all
no_more sum a b all is none whole = omega (arith, is, none, whole)

-- the sender of all shares was settled, and nothing is left to receive
pub all_came : ArrivedInterleaves ℕ → AloneArrives ℕ → (s a b d : Ends ℕ) → settled_by b ≡ settled_by a ++ sent_by s ∷ [] → shares_of b ≡ shares_of a + shares_of s → FindsNone b d
    → settled_by a ≡ [] → shares_of a ≡ 0 → shares_of s ≡ all_shares → received_by d ≡ sent_by s
all_came arrived alone s a b d settled shares k none few whole =
    let one : settled_by b ≡ sent_by s ∷ [] = settled ∙ ap (λ l. l ++ sent_by s ∷ []) none in
    let full : shares_of b ≡ all_shares = no_more (shares_of b) (shares_of a) (shares_of s) all_shares shares few whole in
    k.1 ∙ alone (sent_by s) (received_by b) (subst (λ l. Interleaves l (received_by b)) one (arrived (shares_of b) (received_by b) (settled_by b) k.3 full))

-- a sender that had sent nothing
pub all_sent : (count : ℕ) (a b : Ends ℕ) → HasSent count a b → sent_by a ≡ [] → sent_by b ≡ down_from count
all_sent count a b h none = h.1 ∙ ap (λ l. l ++ down_from count) none
