-- A release undoes an acquire that was granted.
use Rattle.std.proofs.Common.{◌≡◌, ℕ, Bool, true, false, not, ◌==◌, ◌||◌, nat_le, if◌then◌else◌, List, [], ◌∷◌, ◌++◌, filter, length, Option, Some, None, Result, Ok, Err, refl, sym, ap, subst, ◌∙◌, arith, inl, inr}
use Rattle.std.specs.Prelude.{OnOk, OnErr, is_err}
use Rattle.mono_model.specs.Memory.{OrLacksMemory}
use Rattle.mono_model.specs.Table.{value_at}
use Rattle.mono_session.specs.Keeper.{Session, Entry, Keeper, if_granted, of_open, with_entries, is_entry, stands_in, queue_of, acquire_answer, acquired, release_answer, released}
use Rattle.mono_session.specs.Calls as lease
use Rattle.mono_session.specs.Answers as answer
use Rattle.mono_session.specs.declared.error.SessionError.{SessionError}
use Rattle.mono_session.specs.declared.error.SessionError.TheVariants as error
use Rattle.lease_core.proofs.LeaseLemmas.{Stepped}

granted_cases : (full : Bool) (v : Option Session) (inside first b : Bool) → Ok b ≡ (if full then Err error.AtCapacity else of_open v (λ session. if inside then Err error.Doubled else Ok first))
    → (session : Session) × (v ≡ Some session) × (inside ≡ false)
granted_cases true v inside first b is = cc is
granted_cases false None inside first b is = cc is
granted_cases false (Some session) true first b is = cc is
granted_cases false (Some session) false first b is = (session, refl, refl)

abbrev entry_of : ℕ → ℕ → Entry
entry_of s key = record { session = s; key = key }

is_own : (s key : ℕ) → is_entry s key (entry_of s key) ≡ true
is_own s key = grind arith

either_true : (b : Bool) → (b || true) ≡ true
either_true true = refl
either_true false = refl

stands_last : (es : List Entry) (s key : ℕ) → stands_in (es ++ entry_of s key ∷ []) s key ≡ true
stands_last [] s key = rw (is_own s key) refl
stands_last (e ∷ es) s key = rw (stands_last es s key) (either_true (is_entry s key e))

neither : (a b : Bool) → (a || b) ≡ false → (a ≡ false) × (b ≡ false)
neither true b is = cc is
neither false b is = (refl, is)

without_last : (es : List Entry) (s key : ℕ) → stands_in es s key ≡ false → filter (λ e. not (is_entry s key e)) (es ++ entry_of s key ∷ []) ≡ es
without_last [] s key none = rw (is_own s key) refl
without_last (e ∷ es) s key none =
    let parts = neither (is_entry s key e) (stands_in es s key) none in
    rw parts.0 (ap (λ l. e ∷ l) (without_last es s key parts.1))

pub undone : (k : Keeper) (s key : ℕ) (b : Bool) → Ok b ≡ acquire_answer k s key → released (acquired k s key) s key ≡ k
undone k s key b is =
    let g = granted_cases (nat_le k.most_entries (length k.entries)) (value_at k.sessions s) (stands_in k.entries s key) (length (queue_of k key) == 0) b is in
    let with_last = with_entries k (k.entries ++ entry_of s key ∷ []) in
    let after : acquired k s key ≡ with_last = ap (λ r. if_granted r k with_last) (sym is) in
    let found : release_answer with_last s key ≡ Ok tt = ap (λ v. of_open v (λ session. if stands_in with_last.entries s key then Ok tt else Err error.NotIn)) g.1 ∙ ap (λ b. if b then Ok tt else Err error.NotIn) (stands_last k.entries s key) in
    ap (λ m. released m s key) after ∙ ap (λ r. if_granted r with_last (with_entries with_last (filter (λ e. not (is_entry s key e)) with_last.entries))) found
    ∙ ap (λ es. with_entries with_last es) (without_last k.entries s key g.2)

-- An acquire that was granted and undone had no memory.
pub undo_step : (k : Keeper) (s key : ℕ) (b : Bool) (r : Result _ SessionError) (Mid After : Keeper → Type 0) → OrLacksMemory error.Memory (acquire_answer k s key) k (acquired k s key) Mid (Ok b)
    → ((m : Keeper) → Mid m → (r ≡ release_answer m s key) × After (released m s key)) → Stepped k (lease.Acquire s key) (answer.Refused error.Memory) After
undo_step k s key b r Mid After (inl (told, mid)) undo =
    record { next = k; step = inr (tt, refl, refl); after = subst After (undone k s key b told) (undo (acquired k s key) mid).1; tick = refl }
undo_step k s key b r Mid After (inr (ok, told, left)) undo = cc told

-- An acquire that would wait was undone.
pub record Undone (k : Keeper) (s key : ℕ) (After : Keeper → Type 0) : Type 0 where
  pub told : answer.Waits ≡ answer.of_first (acquire_answer k s key)
  pub after : After k

pub undone_step : (k : Keeper) (s key : ℕ) (b : Bool) (r : Result _ SessionError) (Mid After : Keeper → Type 0) → b ≡ false → OrLacksMemory error.Memory (acquire_answer k s key) k (acquired k s key) Mid (Ok b)
    → ((m : Keeper) → Mid m → (r ≡ release_answer m s key) × After (released m s key)) → Undone k s key After
undone_step k s key b r Mid After waits (inl (told, mid)) undo = record {
  told = ap (λ x. answer.of_first (Ok x)) (sym waits) ∙ ap answer.of_first told;
  after = subst After (undone k s key b told) (undo (acquired k s key) mid).1;
}
undone_step k s key b r Mid After waits (inr (ok, told, left)) undo = cc told

-- What is known of a push that was tested.
pub if_pushed : {A E : Type 0} (P : Type 0) (r : Result A E) (b : Bool) → b ≡ is_err r → b ≡ false → OnOk r P → P
if_pushed P (Ok x) b shows none on = on
if_pushed P (Err e) b shows none on =
    let wrong : true ≡ false = sym shows ∙ none in
    cc wrong

pub if_refused : {A E : Type 0} (P : Type 0) (r : Result A E) (b : Bool) → b ≡ is_err r → b ≡ true → OnErr r P → P
if_refused P (Ok x) b shows is on =
    let wrong : false ≡ true = sym shows ∙ is in
    cc wrong
if_refused P (Err e) b shows is on = on
