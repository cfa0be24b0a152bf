-- Who comes to be the first for a bucket is owed a wake, and stays so until it is handed out.
use Rattle.std.proofs.Common.{◌≡◌, ◌==◌, ◌&&◌, ◌⊎◌, ◌<◌, ℕ, zero, suc, Bool, true, false, cond, MatchBool, List, [], ◌∷◌, ◌++◌, Option, Some, None, Result, Ok, Err, refl, sym, ap, subst, ◌∙◌, inl, inr, arith, eq-eqb, slice_index_or}
use Rattle.std.specs.List.{find, list_any, remove}
use Rattle.std.specs.declared.alloc.AllocError.{AllocError}
use Rattle.mono_serve.specs.declared.buckets.Waiter.{Waiter}
use Rattle.mono_serve.specs.declared.buckets.Buckets.{Buckets}
use Rattle.mono_serve.specs.declared.buckets.Asked.{Asked}
use Rattle.mono_serve.specs.declared.buckets.Asked.TheVariants.{Granted, Waits, Short, Refused}
use Rattle.mono_serve.specs.BucketCalls.{has_ticket, is_first, is_there, place_of, others, one_if, next_of, Joins, LeavesAt, GivesUp, GivesUpAt, Event, added, entered, asked, gave_up, handed, Step}
use Rattle.mono_serve.specs.Laws.{is_owed, FirstIsOwed}
use Rattle.mono_serve.proofs.StandLemmas.{false-true, same_number, or_left, any_left, any_right}

none-some : (w : Waiter) → None ≡ Some w → ⊥
none-some w e = cc

same_some : (y w : Waiter) → Some y ≡ Some w → y ≡ w
same_some y w e = cc

self : (n : ℕ) → (n == n) ≡ true
self n = eq-eqb n n refl

less_self : (n m : ℕ) → n < m → n ≡ m → ⊥
less_self n m less same = omega (arith, less, same)

module _ (bucket : ℕ) where
  abbrev first : List Waiter → Option Waiter
  first ws = find (λ w. w.bucket == bucket) ws

  -- the first before and after is the same
  not_first : (ws : List Waiter) (w : Waiter) → first ws ≡ Some w → is_first ws bucket w.ticket ≡ false → ⊥
  not_first ws w is not = false-true (sym not ∙ ap (λ o. has_ticket o w.ticket) is ∙ self w.ticket)

  test_if : (c : Bool) (y r : Waiter) (ys : List Waiter) → (y.bucket == bucket) ≡ c → cond c (Some y) (first ys) ≡ Some r → (first ys ≡ Some r → r.bucket ≡ bucket) → r.bucket ≡ bucket
  test_if true y r ys e is rest = subst (λ (z : Waiter). z.bucket ≡ bucket) (same_some y r is) (same_number y.bucket bucket e)
  test_if false y r ys e is rest = rest is

  first_test : (ws : List Waiter) (r : Waiter) → first ws ≡ Some r → r.bucket ≡ bucket
  first_test [] r is = absurd (none-some r is)
  first_test (y ∷ ys) r is = test_if (y.bucket == bucket) y r ys refl is (first_test ys r)

  head_if : (c : Bool) (y r : Waiter) (ys : List Waiter) → r ≡ y → (first ys ≡ cond c (Some y) (first ys)) ⊎ (cond c (Some y) (first ys) ≡ Some r)
  head_if true y r ys at = inr (ap Some (sym at))
  head_if false y r ys at = inl refl

  tail_if : (c : Bool) (y r : Waiter) (us ys : List Waiter) → (first us ≡ first ys) ⊎ (first ys ≡ Some r) → (cond c (Some y) (first us) ≡ cond c (Some y) (first ys)) ⊎ (cond c (Some y) (first ys) ≡ Some r)
  tail_if true y r us ys p = inl refl
  tail_if false y r us ys p = p

  -- the first stays the first, or leaves
  first_removed : (ws : List Waiter) (i : ℕ) (r : Waiter) → r ≡ slice_index_or ws i r → (first (remove ws i) ≡ first ws) ⊎ (first ws ≡ Some r)
  first_removed [] zero r at = inl refl
  first_removed [] (suc i) r at = inl refl
  first_removed (y ∷ ys) zero r at = head_if (y.bucket == bucket) y r ys at
  first_removed (y ∷ ys) (suc i) r at = tail_if (y.bucket == bucket) y r (remove ys i) ys (first_removed ys i r at)

  last_if : (c : Bool) (x w : Waiter) → cond c (Some x) None ≡ Some w → w ≡ x
  last_if true x w is = sym (same_some x w is)
  last_if false x w is = absurd (none-some w is)

  later_if : (c : Bool) (y x w : Waiter) (ys : List Waiter) → cond c (Some y) (first (ys ++ x ∷ [])) ≡ Some w → (first (ys ++ x ∷ []) ≡ Some w → (first ys ≡ Some w) ⊎ (w ≡ x)) → (cond c (Some y) (first ys) ≡ Some w) ⊎ (w ≡ x)
  later_if true y x w ys is rest = inl is
  later_if false y x w ys is rest = rest is

  first_last : (ws : List Waiter) (x w : Waiter) → first (ws ++ x ∷ []) ≡ Some w → (first ws ≡ Some w) ⊎ (w ≡ x)
  first_last [] x w is = inr (last_if (x.bucket == bucket) x w is)
  first_last (y ∷ ys) x w is = later_if (y.bucket == bucket) y x w ys is (first_last ys x w)

  module _ (w : Waiter) where
    abbrev Owed : Buckets → Type 0
    Owed b = is_owed b w.task ≡ true

    appended : (ds es : List Waiter) → list_any (λ (v : Waiter). v.task == w.task) (ds ++ (es ++ w ∷ [])) ≡ true
    appended ds es = any_right (λ (v : Waiter). v.task == w.task) ds (es ++ w ∷ []) (any_right (λ (v : Waiter). v.task == w.task) es (w ∷ []) (or_left (w.task == w.task) false (self w.task)))

    left_owed : (a b : Buckets) (me i : ℕ) → LeavesAt i a me b → first b.waiters.items ≡ Some w → is_first a.waiters.items bucket w.ticket ≡ false → Owed b
    left_owed a b me i (r, at, line, due, next, limiter) is not = elim (first_removed a.waiters.items i r at) [
      | inl same ↦ absurd (not_first a.waiters.items w (sym same ∙ ap first (sym line) ∙ is) not)
      | inr was ↦
          let here : r.bucket ≡ bucket = first_test a.waiters.items r was in
          let led : is_first a.waiters.items r.bucket r.ticket ≡ true = subst (λ n. has_ticket (find (λ (v : Waiter). v.bucket == n) a.waiters.items) r.ticket ≡ true) (sym here) (ap (λ o. has_ticket o r.ticket) was ∙ self r.ticket) in
          let found : find (λ (v : Waiter). v.bucket == r.bucket) b.waiters.items ≡ Some w = subst (λ n. find (λ (v : Waiter). v.bucket == n) b.waiters.items ≡ Some w) (sym here) is in
          let more : next_of (is_first a.waiters.items r.bucket r.ticket) b.waiters.items r.bucket ≡ w ∷ [] = ap (λ c. next_of c b.waiters.items r.bucket) led ∙ ap one_if found in
          ap (λ ds. list_any (λ (v : Waiter). v.task == w.task) ds) (due ∙ ap (λ es. a.due.items ++ (others r me ++ es)) more) ∙ appended a.due.items (others r me)
    ]

    given_up_owed : (a b : Buckets) (me : ℕ) (o : Option ℕ) → GivesUpAt o a me b → first b.waiters.items ≡ Some w → is_first a.waiters.items bucket w.ticket ≡ false → Owed b
    given_up_owed a b me None same is not = absurd (not_first a.waiters.items w (ap (λ (x : Buckets). first x.waiters.items) (sym same) ∙ is) not)
    given_up_owed a b me (Some i) left is not = left_owed a b me i left is not

    next_kept : (a b : Buckets) (me : ℕ) (o : Option ℕ) → GivesUpAt o a me b → b.next ≡ a.next
    next_kept a b me None same = ap (λ (x : Buckets). x.next) same
    next_kept a b me (Some i) left = left.4

    -- one joins, and was not there before
    joined_owed : (a b : Buckets) (at task : ℕ) (r : Result ℕ AllocError) → w.ticket < a.next → Joins a at task r b → first b.waiters.items ≡ Some w → (first a.waiters.items ≡ Some w → Owed a) → Owed b
    joined_owed a b at task (Ok ticket) before (told, line, next, due, limiter) is owed = elim (first_last a.waiters.items (record { ticket = a.next; bucket = at; task = task }) w (ap first (sym line) ∙ is)) [
      | inl was ↦ ap (λ ds. list_any (λ (v : Waiter). v.task == w.task) ds) due ∙ owed was
      | inr new ↦ absurd (less_self w.ticket a.next before (ap (λ (x : Waiter). x.ticket) new))
    ]
    joined_owed a b at task (Err error) before ((line, next, due), limiter) is owed = ap (λ ds. list_any (λ (v : Waiter). v.task == w.task) ds) due ∙ owed (ap first (sym line) ∙ is)

    entered_owed : (a b : Buckets) (ticket at task : ℕ) (r : Result ℕ AllocError) (c : Bool) → w.ticket < a.next → MatchBool c ((r ≡ Ok ticket) × (b ≡ a)) ((m : Buckets) × GivesUp a ticket task m × Joins m at task r b) → first b.waiters.items ≡ Some w → is_first a.waiters.items bucket w.ticket ≡ false → Owed b
    entered_owed a b ticket at task r true before p is not = absurd (not_first a.waiters.items w (ap (λ (x : Buckets). first x.waiters.items) (sym p.1) ∙ is) not)
    entered_owed a b ticket at task r false before (m, left, joins) is not =
        joined_owed m b at task r (subst (λ n. w.ticket < n) (sym (next_kept a m task (place_of a.waiters.items ticket) left)) before) joins is (λ was. given_up_owed a m task (place_of a.waiters.items ticket) left was not)

    same_line : (a b : Buckets) → b.waiters.items ≡ a.waiters.items → first b.waiters.items ≡ Some w → is_first a.waiters.items bucket w.ticket ≡ false → Owed b
    same_line a b line is not = absurd (not_first a.waiters.items w (ap first (sym line) ∙ is) not)

    tried_owed : (a m b : Buckets) (ticket me : ℕ) → m.waiters.items ≡ a.waiters.items → GivesUp m ticket me b → first b.waiters.items ≡ Some w → is_first a.waiters.items bucket w.ticket ≡ false → Owed b
    tried_owed a m b ticket me line left is not = given_up_owed m b me (place_of m.waiters.items ticket) left is (ap (λ ws. is_first ws bucket w.ticket) line ∙ not)

    by_step : (e : Event) (a b : Buckets) → Step a e b → w.ticket < a.next → first b.waiters.items ≡ Some w → is_first a.waiters.items bucket w.ticket ≡ false → Owed b
    by_step (added burst period r) a b s before is not = same_line a b s.1.0 is not
    by_step (entered None at task r) a b s before is not = joined_owed a b at task r before s is (λ was. absurd (not_first a.waiters.items w was not))
    by_step (entered (Some ticket) at task r) a b s before is not = entered_owed a b ticket at task r (is_there a.waiters.items ticket at task) before s is not
    by_step (asked nanos ticket at n me Waits) a b s before is not = same_line a b (ap (λ (x : Buckets). x.waiters.items) s.1) is not
    by_step (asked nanos ticket at n me Granted) a b (m, tries, left) before is not = tried_owed a m b ticket me tries.2.0 left is not
    by_step (asked nanos ticket at n me (Short tick)) a b s before is not = same_line a b s.2.0 is not
    by_step (asked nanos ticket at n me (Refused error)) a b (m, tries, left) before is not = tried_owed a m b ticket me tries.2.0 left is not
    by_step (gave_up ticket me) a b s before is not = given_up_owed a b me (place_of a.waiters.items ticket) s is not
    by_step (handed task) a b s before is not = same_line a b s.1 is not

pub first_is_owed : FirstIsOwed
first_is_owed e a b bucket w step before is not = by_step bucket w e a b step before is not
