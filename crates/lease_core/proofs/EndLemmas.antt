-- The end of the input, and a clock step if nothing waits.
use Rattle.std.proofs.Common.{◌≡◌, ◌+◌, ◌-◌, ℕ, List, [], ◌∷◌, ◌++◌, take, length, Option, Some, refl, sym, ap, ◌∙◌, arith, append_assoc, append-nil}
use Rattle.lru.specs.LruCache.{last_entry}
use Rattle.mono_session.specs.Keeper.{Keeper}
use Rattle.lease_core.specs.declared.ends.Waiter.{Waiter}
use Rattle.lease_core.specs.declared.requests.Outcome.{Outcome}
use Rattle.lease_core.specs.declared.requests.Reply.{Reply}
use Rattle.lease_core.specs.Waits.{closed_end, input_end, end_reply, ended, ended_by, still_by}
use Rattle.lease_core.specs.Places.{Entry, waiter_of, waiters}
use Rattle.lease_core.proofs.PlaceLemmas.{length_more, cut_last, oldest_first}

-- The wait that came first was taken out, and answered.
pub end_on : (tick : ℕ) (old now new : List Entry) (x : Entry) (w : Waiter) (end : Option Outcome) (out between replies : List Reply) → Some x ≡ last_entry now → w ≡ waiter_of x → end ≡ input_end w
    → replies ≡ between ++ end_reply tick w end → new ≡ take (length now - 1) now
    → between ++ ended input_end tick (waiters now) ≡ out ++ ended input_end tick (waiters old) → replies ++ ended input_end tick (waiters new) ≡ out ++ ended input_end tick (waiters old)
end_on tick old now new x w end out between replies last shows ends told is before =
    let cut : now ≡ new ++ x ∷ [] = cut_last now x (sym last) ∙ ap (λ l. l ++ x ∷ []) (sym is) in
    let first : waiters now ≡ w ∷ waiters new = ap waiters cut ∙ oldest_first new x ∙ ap (λ v. v ∷ waiters new) (sym shows) in
    ap (λ rs. rs ++ ended input_end tick (waiters new)) (told ∙ ap (λ o. between ++ end_reply tick w o) ends)
    ∙ append_assoc between (end_reply tick w (input_end w)) (ended input_end tick (waiters new))
    ∙ ap (λ ws. between ++ ended input_end tick ws) (sym first) ∙ before

pub fewer : (now new : List Entry) (x : Entry) → Some x ≡ last_entry now → new ≡ take (length now - 1) now → length new + 1 ≡ length now
fewer now new x last is =
    let cut : now ≡ new ++ x ∷ [] = cut_last now x (sym last) ∙ ap (λ l. l ++ x ∷ []) (sym is) in
    sym (ap length cut ∙ length_more new x)

-- ---- a clock step if nothing waits

no_replies : (k : Keeper) (tick : ℕ) (left : List (ℕ × ℕ)) → ended_by (closed_end k) tick left [] ≡ []
no_replies k tick [] = refl
no_replies k tick (p ∷ left) = no_replies k tick left

no_waits : (k : Keeper) (left : List (ℕ × ℕ)) → still_by (closed_end k) left [] ≡ []
no_waits k [] = refl
no_waits k (p ∷ left) = no_waits k left

none_wait : (ws : List Waiter) (n : ℕ) → n ≡ length ws → n ≡ 0 → ws ≡ []
none_wait [] n len none = refl
none_wait (w ∷ ws) n len none = absurd (omega (arith, len, none))

pub none_replied : (k : Keeper) (tick n : ℕ) (left : List (ℕ × ℕ)) (ws : List Waiter) (replies : List Reply) → n ≡ length ws → n ≡ 0 → replies ≡ replies ++ ended_by (closed_end k) tick left ws
none_replied k tick n left ws replies len none =
    sym (append-nil replies) ∙ sym (ap (λ rs. replies ++ rs) (ap (ended_by (closed_end k) tick left) (none_wait ws n len none) ∙ no_replies k tick left))

pub none_left : (k : Keeper) (n : ℕ) (left : List (ℕ × ℕ)) (ws : List Waiter) → n ≡ length ws → n ≡ 0 → ws ≡ still_by (closed_end k) left ws
none_left k n left ws len none =
    let is = none_wait ws n len none in
    is ∙ sym (ap (still_by (closed_end k) left) is ∙ no_waits k left)
