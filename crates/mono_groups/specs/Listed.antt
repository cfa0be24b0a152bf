-- Each task that a token lists is one of those that wait for it.
use Rattle.std.specs.Prelude.{Bool, true, false, ◌≡◌, ◌==◌, ◌&&◌, ◌||◌, ℕ, List, [], ◌∷◌}
use Rattle.std.specs.List.{list_any}
use Rattle.std.proofs.Common.{refl, ap}
use Rattle.mono_groups.specs.declared.waiters.Waiter.{Waiter}
use Rattle.mono_groups.specs.declared.nodes.Token.{Token}
use Rattle.mono_groups.specs.Nodes.{listed_by, waiting_in}
use Rattle.mono_groups.specs.Waiters.{waits_at, lists_at, tasks_of}

false-true : false ≡ true → ⊥
false-true e = cc

or_either : (a b x y : Bool) → (a ≡ true → x ≡ true) → (b ≡ true → y ≡ true) → (a || b) ≡ true → (x || y) ≡ true
or_either true b x y f g is = ap (λ z. z || y) (f refl)
or_either false b true y f g is = refl
or_either false b false y f g is = g is

and_right : (a b : Bool) → (a && b) ≡ true → b ≡ true
and_right true b is = is
and_right false b is = absurd (false-true is)

at_some : (ws : List Waiter) (k t : ℕ) → waits_at ws k t ≡ true → list_any (λ u. u == t) (tasks_of ws) ≡ true
at_some [] k t is = absurd (false-true is)
at_some (w ∷ ws) k t is = or_either ((w.ticket == k) && (w.task == t)) (waits_at ws k t) (w.task == t) (list_any (λ u. u == t) (tasks_of ws)) (and_right (w.ticket == k) (w.task == t)) (at_some ws k t) is

pub waiters_some : (ws : List Waiter) (p : List ℕ) (t : ℕ) → lists_at ws p t ≡ true → list_any (λ u. u == t) (tasks_of ws) ≡ true
waiters_some ws [] t is = absurd (false-true is)
waiters_some ws (k ∷ []) t is = at_some ws k t is
waiters_some ws (k ∷ l ∷ p) t is = absurd (false-true is)

pub node_some : (x : Token) (p : List ℕ) (t : ℕ) → listed_by x p t ≡ true → list_any (λ u. u == t) (waiting_in x) ≡ true
node_some x = waiters_some x.waiters.entries.items
