-- Queues, as members come and leave.
use Rattle.std.proofs.Common.{◌≡◌, ℕ, true, false, Bool, cond, List, [], ◌∷◌, ◌++◌, Some, None, Option, refl, ap, sym, ◌∙◌, subst, arith}
use Rattle.std.specs.Prelude.{◌==◌, ◌&&◌, nat_eq, is_some, Result, Ok, Err, OnOk, IsOk}
use Rattle.std.proofs.lemmas.Bool.Decides.{nat_tests}
use Rattle.mono_session.specs.Keeper.{first_of}
use Rattle.mono_session.specs.Links.{is_in, IsOnce, last_of, ends_with, ends_of, place_in, left_by, linked_after, linked_before, with_last_end, last_end, closed_ends}
use Rattle.mono_session.specs.Queues.{Chains, ends_at, place_at, Keeps, with_last, without_member, Closed}
use Rattle.mono_session.specs.declared.places.Ends.{Ends}
use Rattle.mono_session.specs.declared.places.Place.{Place}
use Rattle.mono_session.proofs.ChainLemmas.{between, place_in-some, once-last, place-last, last-end, ends-last, place-new, last_apart, other_after, joined, once-left, place-left, ends-left}

eq-from : (s t : ℕ) → (s == t) ≡ true → s ≡ t
eq-from s t f = grind (arith, nat_tests)

eq-tells : (s t : ℕ) → s ≡ t → (s == t) ≡ true
eq-tells s t f = grind (arith, nat_tests)

-- other queues that are equal
pub keeps_same : (queues : Chains) (lists others : ℕ → List ℕ) → ((q : ℕ) → lists q ≡ others q) → Keeps queues lists → Keeps queues others
keeps_same queues lists others same keeps = record {
  ends = λ q. keeps.ends q ∙ ap ends_of (same q);
  places = λ q m. keeps.places q m ∙ ap (λ xs. place_in None xs m) (same q);
  once = λ q. subst IsOnce (same q) (keeps.once q);
}

-- Queues that read alike.
pub keeps_alike : (old new : Chains) (lists : ℕ → List ℕ) → ((q : ℕ) → ends_at new q ≡ ends_at old q) → ((q m : ℕ) → place_at new q m ≡ place_at old q m) → Keeps old lists → Keeps new lists
keeps_alike old new lists ends places keeps = record {
  ends = λ q. ends q ∙ keeps.ends q;
  places = λ q m. places q m ∙ keeps.places q m;
  once = keeps.once;
}

pub contains-keeps : (queues : Chains) (lists : ℕ → List ℕ) (q m : ℕ) → Keeps queues lists → is_some (place_at queues q m) ≡ is_in (lists q) m
contains-keeps queues lists q m keeps = ap is_some (keeps.places q m) ∙ place_in-some None (lists q) m

first_end : Option Ends → Option ℕ
first_end None = None
first_end (Some ends) = Some ends.first

last_is_some : (x : ℕ) (xs : List ℕ) → last_of (Some x) xs ≡ None → ⊥
last_is_some x [] e = cc
last_is_some x (y ∷ ys) e = last_is_some y ys e

first-none : (xs : List ℕ) → None ≡ ends_of xs → None ≡ first_of xs
first-none [] e = refl
first-none (x ∷ xs) e = absurd (by (last_of (Some x) xs) (last_is_some x xs) e)
  where
    by : (o : Option ℕ) → (o ≡ None → ⊥) → None ≡ ends_with (Some x) o → ⊥
    by None some f = some refl
    by (Some l) some f = cc

first-some : (xs : List ℕ) (ends : Ends) → Some ends ≡ ends_of xs → Some ends.first ≡ first_of xs
first-some [] ends e = cc
first-some (x ∷ xs) ends e = by (last_of (Some x) xs) e
  where
    by : (o : Option ℕ) → Some ends ≡ ends_with (Some x) o → Some ends.first ≡ Some x
    by None f = cc
    by (Some l) f = cc

pub first_is_none : (queues : Chains) (lists : ℕ → List ℕ) (q : ℕ) → None ≡ ends_at queues q → Keeps queues lists → None ≡ first_of (lists q)
first_is_none queues lists q e keeps = first-none (lists q) (e ∙ keeps.ends q)

pub first_is_some : (queues : Chains) (lists : ℕ → List ℕ) (q : ℕ) (ends : Ends) → Some ends ≡ ends_at queues q → Keeps queues lists → Some ends.first ≡ first_of (lists q)
first_is_some queues lists q ends e keeps = first-some (lists q) ends (e ∙ keeps.ends q)

-- The queues after a member was appended to one.
pub record CameBehind (old new : Chains) (queue member : ℕ) (before : Option ℕ) : Type 0 where
  pub is_last : before ≡ last_end (ends_at old queue)
  pub ends : (q : ℕ) → ends_at new q ≡ cond (nat_eq queue q) (with_last_end member (ends_at old q)) (ends_at old q)
  pub places : (q m : ℕ) → place_at new q m
      ≡ cond (nat_eq queue q) (linked_after before m (Some member) (cond (nat_eq queue q && nat_eq member m) (Some (between before None)) (place_at old q m))) (cond (nat_eq queue q && nat_eq member m) (Some (between before None)) (place_at old q m))

pub pushed : (old new : Chains) (queue member : ℕ) (before : Option ℕ) (lists : ℕ → List ℕ) → CameBehind old new queue member before → Keeps old lists → is_in (lists queue) member ≡ false → Keeps new (with_last lists queue member)
pushed old new queue member before lists came keeps out = record {
  ends = λ q. came.ends q ∙ ends-by q (queue == q);
  places = λ q m. came.places q m ∙ places-by q m (queue == q) refl;
  once = λ q. once-by q (queue == q) refl;
}
  where
    out_of : (q : ℕ) → (queue == q) ≡ true → is_in (lists q) member ≡ false
    out_of q is = ap (λ p. is_in (lists p) member) (sym (eq-from queue q is)) ∙ out

    last_in : (q : ℕ) → (queue == q) ≡ true → before ≡ last_of None (lists q)
    last_in q is = came.is_last ∙ ap (λ p. last_end (ends_at old p)) (eq-from queue q is) ∙ ap last_end (keeps.ends q) ∙ last-end (lists q)

    ends-by : (q : ℕ) (b : Bool) → cond b (with_last_end member (ends_at old q)) (ends_at old q) ≡ ends_of (cond b (lists q ++ member ∷ []) (lists q))
    ends-by q true = ap (with_last_end member) (keeps.ends q) ∙ sym (ends-last (lists q) member)
    ends-by q false = keeps.ends q

    once-by : (q : ℕ) (b : Bool) → (queue == q) ≡ b → IsOnce (cond b (lists q ++ member ∷ []) (lists q))
    once-by q true is = once-last (lists q) member (keeps.once q) (out_of q is)
    once-by q false is = keeps.once q

    here : (q m : ℕ) → (queue == q) ≡ true → (b : Bool) → (member == m) ≡ b
        → linked_after before m (Some member) (cond b (Some (between before None)) (place_at old q m)) ≡ place_in None (lists q ++ member ∷ []) m
    here q m is true f =
        let same : member ≡ m = eq-from member m f in
        let apart : (c : ℕ) → before ≡ Some c → (c == m) ≡ false = λ c at. ap (λ p. c == p) (sym same) ∙ last_apart (lists q) member c (out_of q is) (sym (last_in q is) ∙ at) in
        other_after before m (Some member) (Some (between before None)) apart
        ∙ ap (λ o. Some (between o None)) (last_in q is)
        ∙ sym (place-new None (lists q) member (out_of q is))
        ∙ ap (λ p. place_in None (lists q ++ member ∷ []) p) same
    here q m is false f =
        ap (linked_after before m (Some member)) (keeps.places q m)
        ∙ ap (λ o. linked_after o m (Some member) (place_in None (lists q) m)) (last_in q is)
        ∙ sym (place-last None (lists q) member m (keeps.once q) f)

    places-by : (q m : ℕ) (b : Bool) → (queue == q) ≡ b
        → cond b (linked_after before m (Some member) (cond (b && nat_eq member m) (Some (between before None)) (place_at old q m))) (cond (b && nat_eq member m) (Some (between before None)) (place_at old q m))
        ≡ place_in None (cond b (lists q ++ member ∷ []) (lists q)) m
    places-by q m false is = keeps.places q m
    places-by q m true is = here q m is (member == m) refl

-- The queues after a member left a place.
pub record LeftPlace (old new : Chains) (queue member : ℕ) (place : Place) : Type 0 where
  pub was : Some place ≡ place_at old queue member
  pub ends : (q : ℕ) → ends_at new q ≡ cond (nat_eq queue q) (closed_ends place.before place.after (ends_at old q)) (ends_at old q)
  pub places : (q m : ℕ) → place_at new q m ≡ cond (nat_eq queue q) (joined place member m (place_at old q m)) (place_at old q m)

pub left_place : (old new : Chains) (queue member : ℕ) (place : Place) (lists : ℕ → List ℕ) → LeftPlace old new queue member place → Keeps old lists → Keeps new (without_member lists queue member)
left_place old new queue member place lists left keeps = record {
  ends = λ q. left.ends q ∙ ends-by q (queue == q) refl;
  places = λ q m. left.places q m ∙ places-by q m (queue == q) refl;
  once = λ q. once-by q (queue == q);
}
  where
    place_here : (q : ℕ) → (queue == q) ≡ true → place_in None (lists q) member ≡ Some place
    place_here q is = sym (left.was ∙ ap (λ p. place_at old p member) (eq-from queue q is) ∙ keeps.places q member)

    ends-by : (q : ℕ) (b : Bool) → (queue == q) ≡ b → cond b (closed_ends place.before place.after (ends_at old q)) (ends_at old q) ≡ ends_of (cond b (left_by member (lists q)) (lists q))
    ends-by q true is = ap (closed_ends place.before place.after) (keeps.ends q) ∙ sym (ends-left (lists q) member place (keeps.once q) (place_here q is))
    ends-by q false is = keeps.ends q

    once-by : (q : ℕ) (b : Bool) → IsOnce (cond b (left_by member (lists q)) (lists q))
    once-by q true = once-left member (lists q) (keeps.once q)
    once-by q false = keeps.once q

    places-by : (q m : ℕ) (b : Bool) → (queue == q) ≡ b → cond b (joined place member m (place_at old q m)) (place_at old q m) ≡ place_in None (cond b (left_by member (lists q)) (lists q)) m
    places-by q m true is = ap (joined place member m) (keeps.places q m) ∙ sym (place-left None (lists q) member place m tt (keeps.once q) (place_here q is))
    places-by q m false is = keeps.places q m

-- two changes of the places in turn
pub in_turn : (a : Bool) (place : Place) (m : ℕ) (p q r : Option Place) → q ≡ cond a (linked_after place.before m place.after p) p → r ≡ cond a (linked_before place.after m place.before q) q
    → r ≡ cond a (linked_before place.after m place.before (linked_after place.before m place.after p)) p
in_turn false place m p q r e f = f ∙ e
in_turn true place m p q r e f = f ∙ ap (linked_before place.after m place.before) e

-- The neighbours of a member are joined after it lost its place.
pub closed_after : (old mid new : Chains) (queue member : ℕ) (place : Place) → ((q : ℕ) → ends_at mid q ≡ ends_at old q)
    → ((q m : ℕ) → place_at mid q m ≡ cond (nat_eq queue q && nat_eq member m) None (place_at old q m)) → Some place ≡ place_at old queue member → Closed mid new queue place → LeftPlace old new queue member place
closed_after old mid new queue member place ends places was closed = record {
  was = was;
  ends = λ q. closed.ends q ∙ ap (λ o. cond (nat_eq queue q) (closed_ends place.before place.after o) o) (ends q);
  places = λ q m. closed.places q m ∙ by (nat_eq queue q) (nat_eq member m) m (place_at mid q m) (place_at old q m) (places q m);
}
  where
    by : (a b : Bool) (m : ℕ) (p o : Option Place) → p ≡ cond (a && b) None o
        → cond a (linked_before place.after m place.before (linked_after place.before m place.after p)) p
        ≡ cond a (linked_before place.after m place.before (linked_after place.before m place.after (cond b None o))) o
    by true b m p o e = ap (λ x. linked_before place.after m place.before (linked_after place.before m place.after x)) e
    by false b m p o e = e

pub on_ok : {T E : Type 0} (r : Result T E) (P : Type 0) → IsOk r → OnOk r P → P
on_ok (Ok x) P ok holds = holds
on_ok (Err e) P ok holds = cc
