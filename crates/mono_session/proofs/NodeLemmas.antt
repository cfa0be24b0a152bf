-- The places in both chains, as nodes change.
use Rattle.std.proofs.Common.{◌≡◌, ℕ, true, false, Bool, cond, Some, None, Option, refl, ap, sym, ◌∙◌}
use Rattle.std.specs.Prelude.{◌&&◌, nat_eq, is_some}
use Rattle.std.specs.Option.{unwrap_or}
use Rattle.mono_session.specs.Links.{pair_eq}
use Rattle.mono_session.specs.Nodes.{link, place_by}
use Rattle.mono_session.specs.declared.nodes.Node.{Node}
use Rattle.mono_session.specs.declared.places.Place.{Place}
use Rattle.mono_session.proofs.ChainLemmas.{changed_here}

link_of : (o : Option ℕ) → link (is_some o) (unwrap_or o 0) ≡ o
link_of None = refl
link_of (Some n) = refl

-- A number and a flag are that of an option.
pub link_as : (b : Bool) (n : ℕ) (o : Option ℕ) → b ≡ is_some o → n ≡ unwrap_or o 0 → o ≡ link b n
link_as b n o e f = sym (link_of o) ∙ ap (λ x. link x (unwrap_or o 0)) (sym e) ∙ ap (λ x. link b x) (sym f)

pub swapped : {X : Type 0} (a b : Bool) (x y : X) → cond (a && b) x y ≡ cond (b && a) x y
swapped true true x y = refl
swapped true false x y = refl
swapped false true x y = refl
swapped false false x y = refl

cond_same : {X : Type 0} (a : Bool) (x : X) → cond a x x ≡ x
cond_same true x = refl
cond_same false x = refl

pub place_some : (place : Node → Place) (o : Option Node) → is_some (place_by place o) ≡ is_some o
place_some place None = refl
place_some place (Some node) = refl

pub place_none : (place : Node → Place) (o : Option Node) → is_some (place_by place o) ≡ false → o ≡ None
place_none place None e = refl
place_none place (Some node) e = cc

place_cond : (place : Node → Place) (c : Bool) (w : Node) (o : Option Node) → place_by place (cond c (Some w) o) ≡ cond c (Some (place w)) (place_by place o)
place_cond place true w o = refl
place_cond place false w o = refl

-- One node is written: the place of its entry changes in a chain.
pub written : (place : Node → Place) (f g : ℕ × ℕ → Option Node) (a b : ℕ) (v w : Node) (change : Option Place → Option Place)
    → ((k : ℕ × ℕ) → g k ≡ cond (pair_eq (a, b) k) (Some w) (f k)) → Some v ≡ f (a, b) → change (Some (place v)) ≡ Some (place w)
    → (q m : ℕ) → place_by place (g (q, m)) ≡ cond (nat_eq a q && nat_eq b m) (change (place_by place (f (q, m)))) (place_by place (f (q, m)))
written place f g a b v w change all at is =
    changed_here change (λ k. place_by place (f k)) (λ k. place_by place (g k)) a b (place w) (λ k. ap (place_by place) (all k) ∙ place_cond place (pair_eq (a, b) k) w (f k))
    (ap (λ o. change (place_by place o)) (sym at) ∙ is)

-- No place changes in a chain of which the node keeps its part.
pub kept : (place : Node → Place) (f g : ℕ × ℕ → Option Node) (a b : ℕ) (v w : Node)
    → ((k : ℕ × ℕ) → g k ≡ cond (pair_eq (a, b) k) (Some w) (f k)) → Some v ≡ f (a, b) → place v ≡ place w
    → (q m : ℕ) → place_by place (g (q, m)) ≡ place_by place (f (q, m))
kept place f g a b v w all at is q m = written place f g a b v w (λ o. o) all at (ap (λ p. Some p) is) q m ∙ cond_same (nat_eq a q && nat_eq b m) (place_by place (f (q, m)))

-- A new node gives its entry a place.
pub put : (place : Node → Place) (f g : ℕ × ℕ → Option Node) (a b : ℕ) (w : Node) (p : Place)
    → ((k : ℕ × ℕ) → g k ≡ cond (pair_eq (a, b) k) (Some w) (f k)) → place w ≡ p
    → (q m : ℕ) → place_by place (g (q, m)) ≡ cond (nat_eq a q && nat_eq b m) (Some p) (place_by place (f (q, m)))
put place f g a b w p all is q m =
    ap (place_by place) (all (q, m)) ∙ place_cond place (nat_eq a q && nat_eq b m) w (f (q, m)) ∙ ap (λ x. cond (nat_eq a q && nat_eq b m) (Some x) (place_by place (f (q, m)))) is

place_gone : (place : Node → Place) (c : Bool) (o : Option Node) → place_by place (cond c None o) ≡ cond c None (place_by place o)
place_gone place true o = refl
place_gone place false o = refl

-- A node is removed, and its entry has no place.
pub removed : (place : Node → Place) (f g : ℕ × ℕ → Option Node) (a b : ℕ) → ((k : ℕ × ℕ) → g k ≡ cond (pair_eq (a, b) k) None (f k))
    → (q m : ℕ) → place_by place (g (q, m)) ≡ cond (nat_eq a q && nat_eq b m) None (place_by place (f (q, m)))
removed place f g a b all q m = ap (place_by place) (all (q, m)) ∙ place_gone place (nat_eq a q && nat_eq b m) (f (q, m))
