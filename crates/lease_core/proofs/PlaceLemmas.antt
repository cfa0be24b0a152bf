-- The table of the waits, one wait after another.
use Rattle.std.proofs.Common.{◌≡◌, ◌<◌, ◌≤◌, ◌+◌, ◌-◌, ◌^◌, ℕ, zero, suc, Bool, true, false, nat_lt, ◌&&◌, List, [], ◌∷◌, ◌++◌, take, take_all, length, slice_get, Option, Some, None, is_some, refl, sym, ap, ◌∙◌, arith, append_assoc, append-nil}
use Rattle.std.specs.Map.{lookup, lookup_entry}
use Rattle.lru.specs.LruCache.{LruCache, lru_cache, put_entries}
use Rattle.mono_session.specs.Links.{pair_eq}
use Rattle.lease_core.specs.declared.ends.Waiter.{Waiter}
use Rattle.lease_core.specs.declared.places.Place.{Place}
use Rattle.lease_core.specs.declared.requests.Outcome.{Outcome}
use Rattle.lease_core.specs.Waits.{end_reply, ended}
use Rattle.lease_core.specs.Places.{Entry, waiter_of, waiters, descends}

-- ---- lists

pub length_more : {X : Type 0} (xs : List X) (x : X) → length (xs ++ x ∷ []) ≡ length xs + 1
length_more [] x = refl
length_more (y ∷ xs) x = omega (arith, length_more xs x)

cut_at : {X : Type 0} (xs : List X) (n : ℕ) (x : X) → n + 1 ≡ length xs → slice_get xs n ≡ Some x → xs ≡ take n xs ++ x ∷ []
cut_at [] n x one is = absurd (omega (arith, one))
cut_at (y ∷ []) zero x one is =
    let same : y ≡ x = cc is in
    ap (λ z. z ∷ []) same
cut_at (y ∷ z ∷ xs) zero x one is = absurd (omega (arith, one))
cut_at (y ∷ xs) (suc n) x one is = ap (λ l. y ∷ l) (cut_at xs n x (omega (arith, one)) is)

-- A list with a last element.
pub cut_last : {X : Type 0} (xs : List X) (x : X) → slice_get xs (length xs - 1) ≡ Some x → xs ≡ take (length xs - 1) xs ++ x ∷ []
cut_last [] x is = cc is
cut_last (y ∷ xs) x is = cut_at (y ∷ xs) (length (y ∷ xs) - 1) x (omega arith) is

pub both : (a b : Bool) → (a && b) ≡ true → (a ≡ true) × (b ≡ true)
both true b is = (refl, is)
both false b is = cc is

-- ---- waits in the order in which they came

pub ended_more : (f : Waiter → Option Outcome) (tick : ℕ) (ws : List Waiter) (w : Waiter) → ended f tick (ws ++ w ∷ []) ≡ ended f tick ws ++ end_reply tick w (f w)
ended_more f tick [] w = append-nil (end_reply tick w (f w))
ended_more f tick (x ∷ ws) w = ap (λ rs. end_reply tick x (f x) ++ rs) (ended_more f tick ws w) ∙ sym (append_assoc (end_reply tick x (f x)) (ended f tick ws) (end_reply tick w (f w)))

pub length_waiters : (es : List Entry) → length (waiters es) ≡ length es
length_waiters [] = refl
length_waiters (e ∷ es) = omega (arith, length_more (waiters es) (waiter_of e), length_waiters es)

-- The wait that came first is the last of the table.
pub oldest_first : (es : List Entry) (e : Entry) → waiters (es ++ e ∷ []) ≡ waiter_of e ∷ waiters es
oldest_first [] e = refl
oldest_first (x ∷ es) e = ap (λ ws. ws ++ waiter_of x ∷ []) (oldest_first es e)

-- ---- tickets

pub descends_more : (m n : ℕ) (es : List Entry) → m < n → descends m es ≡ true → descends n es ≡ true
descends_more m n [] lt is = refl
descends_more m n (e ∷ es) lt is =
    let parts = both (nat_lt e.1.ticket m) (descends e.1.ticket es) is in
    let less : nat_lt e.1.ticket n ≡ true = grind (arith, parts.0, lt) in
    rw (less, parts.1)

-- There are at most as many waits as tickets were given.
descends_length : (n : ℕ) (es : List Entry) → descends n es ≡ true → length es ≤ n
descends_length n [] is = omega arith
descends_length n (e ∷ es) is =
    let parts = both (nat_lt e.1.ticket n) (descends e.1.ticket es) is in
    let less : e.1.ticket < n = grind (arith, parts.0) in
    omega (arith, less, descends_length e.1.ticket es parts.1)

-- The entries of a table that a call left like this.
pub entries_are : (places : LruCache (ℕ × ℕ) Place) (es : List Entry) (cap : ℕ) → places ≡ lru_cache es cap → places.entries ≡ es
entries_are places es cap is = ap (λ (l : LruCache (ℕ × ℕ) Place). l.entries) is

pub cap_is : (places : LruCache (ℕ × ℕ) Place) (es : List Entry) (cap : ℕ) → places ≡ lru_cache es cap → places.cap ≡ cap
cap_is places es cap is = ap (λ (l : LruCache (ℕ × ℕ) Place). l.cap) is

one_less : (e : Entry) (es : List Entry) → length (e ∷ es) - 1 ≡ length es
one_less e es = omega arith

has_last : (e : Entry) (es : List Entry) → (x : Entry) × (slice_get (e ∷ es) (length es) ≡ Some x)
has_last e [] = (e, refl)
has_last e (y ∷ es) = has_last y es

-- ---- a wait that is added

none_entry : (p : ℕ × ℕ → Bool) (es : List Entry) → is_some (lookup p es) ≡ false → lookup_entry p es ≡ None
none_entry p [] none = refl
none_entry p (e ∷ es) none = (elim (p e.0) as (λ b. p e.0 ≡ b → lookup_entry p (e ∷ es) ≡ None) [
  | true ↦ λ t. let none' = rw t at none in cc none'
  | false ↦ λ t. rw t (none_entry p es (rw t at none))
]) refl

put_first : (places : LruCache (ℕ × ℕ) Place) (k : ℕ × ℕ) (place : Place) → is_some (lookup (pair_eq k) places.entries) ≡ false → length places.entries ≤ places.cap - 1
    → put_entries pair_eq places k place ≡ (k, place) ∷ places.entries
put_first places k place none fits = rw (none_entry (pair_eq k) places.entries none) (ap (λ es. (k, place) ∷ es) (take_all (places.cap - 1) places.entries fits))

-- The entries after a put of a key that was not there.
pub put_new : (old new : LruCache (ℕ × ℕ) Place) (n : ℕ) (k : ℕ × ℕ) (place : Place) (found : Bool) → found ≡ is_some (lookup (pair_eq k) old.entries) → found ≡ false → descends n old.entries ≡ true → n + 1 < 2 ^ 64 → old.cap ≡ 2 ^ 64 - 1
    → new ≡ lru_cache (put_entries pair_eq old k place) old.cap → new.entries ≡ (k, place) ∷ old.entries
put_new old new n k place found shows none order few cap is =
    entries_are new _ _ is ∙ put_first old k place (sym shows ∙ none) (omega (arith, descends_length n old.entries order, few, cap))

pub order_put : (n next : ℕ) (e : Entry) (es : List Entry) → e.1.ticket ≡ n → next ≡ n + 1 → descends n es ≡ true → descends next (e ∷ es) ≡ true
order_put n next e es ticket more order =
    let less : nat_lt e.1.ticket next ≡ true = grind (arith, ticket, more) in
    rw (less, ticket) order

pub nothing_left : (es : List Entry) → None ≡ slice_get es (length es - 1) → es ≡ []
nothing_left [] none = refl
nothing_left (e ∷ es) none =
    let some = has_last e es in
    cc (none ∙ ap (λ n. slice_get (e ∷ es) n) (one_less e es) ∙ some.1)
