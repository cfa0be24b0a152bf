-- A line in which no task waits owes nobody.
use Rattle.std.proofs.Common.{◌≡◌, ◌-◌, ℕ, Bool, true, false, List, [], ◌∷◌, length, refl, arith}
use Rattle.std.specs.Prelude.{if◌then◌else◌}
use Rattle.mono_sync.specs.declared.lines.Waiter.{Waiter}
use Rattle.mono_sync.specs.declared.lines.Line.{Line}
use Rattle.mono_sync.specs.Lines.{tasks_of, due, owed_of, below, owed_below}
use Rattle.mono_sync.specs.Notices.{on_notice}

pub no_waiters : (ws : List Waiter) (n : ℕ) → n ≡ length ws → n ≡ 0 → ws ≡ []
no_waiters [] n is none = refl
no_waiters (w ∷ ws) n is none = absurd (omega (arith, is, none))

cons-nil : {X : Type 0} (x : X) (xs : List X) → x ∷ xs ≡ [] → ⊥
cons-nil x xs e = cc

pub no_tasks : (ws : List Waiter) → tasks_of ws ≡ [] → length ws ≡ 0
no_tasks [] none = refl
no_tasks (w ∷ ws) none = absurd (cons-nil w.task (tasks_of ws) none)

owed_if : (b : Bool) (n : ℕ) (ws : List Waiter) → ws ≡ [] → (if b then tasks_of ws else due n ws) ≡ []
owed_if true n [] none = refl
owed_if false n [] none = refl
owed_if b n (w ∷ ws) none = absurd (cons-nil w ws none)

pub no_owed : (b : Bool) (room : ℕ) (line : Line) → line.waiters.items ≡ [] → owed_of b room line ≡ []
no_owed b room line none = owed_if b (room - line.granted) line.waiters.items none

below_if : (b : Bool) (low : ℕ) (ws : List Waiter) → ws ≡ [] → (if b then tasks_of ws else below low ws) ≡ []
below_if true low [] none = refl
below_if false low [] none = refl
below_if b low (w ∷ ws) none = absurd (cons-nil w ws none)

pub no_owed_below : (b : Bool) (low : ℕ) (line : Line) → line.waiters.items ≡ [] → owed_below b low line ≡ []
no_owed_below b low line none = below_if b low line.waiters.items none

pub no_notice : (low n : ℕ) (ws : List Waiter) → ws ≡ [] → on_notice low n ws ≡ []
no_notice low n [] none = refl
no_notice low n (w ∷ ws) none = absurd (cons-nil w ws none)
