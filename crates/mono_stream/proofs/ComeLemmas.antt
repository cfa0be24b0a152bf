-- The items that may come after a poll, and the calls of a closure at them.
use Rattle.std.proofs.Common.{◌≡◌, List, [], ◌∷◌, ◌++◌, Option, Some, None, refl, subst}
use Rattle.std.specs.Fn.{Mut, Called}
use denote.Ref.{MutBor}
use Rattle.mono_model.specs.declared.poll.Poll.{Poll}
use Rattle.mono_model.specs.declared.poll.Poll.TheVariants.{Ready, Pending}
use Rattle.mono_stream.specs.Comes.{MayCome, FollowOn, CallableOver}
use Rattle.mono_stream.specs.Ends.{UnlessEnded}
use Rattle.mono_stream.specs.Items.{AreImages}
use Rattle.mono_stream.specs.Iterators.{IterGives}
use Rattle.mono_stream.specs.Maps.{MapGives}
use Rattle.mono_stream.specs.Members.{StreamOf}
use Rattle.mono_stream.specs.Nexts.{MayBeNext, NextGives}
use Rattle.mono_stream.specs.declared.iterate.Iter.{Iter}
use Rattle.mono_stream.specs.declared.maps.Map.{Map}

-- A stream of which the empty list may be said gives what may come of it.
pub any_come : {S X : Type 0} (gives : S → List X → Type 0) (s : S) → gives s [] → (xs : List X) → MayCome gives s xs → gives s xs
any_come gives s none [] may = none
any_come gives s none (x ∷ xs) may = may

pub may_come : {S X : Type 0} (gives : S → List X → Type 0) (s : S) (xs : List X) → gives s xs → MayCome gives s xs
may_come gives s [] given = tt
may_come gives s (x ∷ xs) given = given

-- After a pending poll.
pub wait_all : {S X : Type 0} (gives : S → List X → Type 0) (s t : S) → ((x : X) (xs : List X) → gives t (x ∷ xs) → gives s (x ∷ xs)) → (xs : List X) → MayCome gives t xs → MayCome gives s xs
wait_all gives s t follow [] may = tt
wait_all gives s t follow (x ∷ xs) may = follow x xs may

pub unless_ended : {X : Type 0} (r : Poll (Option X)) (P : Type 0) → P → UnlessEnded r P
unless_ended (Ready (Some x)) P p = p
unless_ended (Ready None) P p = tt
unless_ended Pending P p = p

pub unless_ended_both : {X : Type 0} (r : Poll (Option X)) (P Q : Type 0) → P → Q → UnlessEnded r (P × Q)
unless_ended_both r P Q p q = unless_ended r (P × Q) (p, q)

pub unless_ended_three : {X : Type 0} (r : Poll (Option X)) (P Q R : Type 0) → P → Q → R → UnlessEnded r (P × Q × R)
unless_ended_three r P Q R p q s = unless_ended r (P × Q × R) (p, q, s)

-- A stream behind a reference.
module _ {S X : Type 0} (gives : S → List X → Type 0) where
  abbrev Behind : MutBor S → List X → Type 0
  Behind q xs = gives q.now xs

  seen : (r : MutBor S) (xs : List X) → MayCome Behind r xs → MayCome gives r.now xs
  seen r [] may = tt
  seen r (x ∷ xs) may = may

  pub behind_on : (q r : MutBor S) (a : Poll (Option X)) → FollowOn (MayCome gives q.now) a (MayCome gives r.now) → FollowOn (MayCome Behind q) a (MayCome Behind r)
  behind_on q r (Ready (Some x)) follow = λ xs may. follow xs (seen r xs may)
  behind_on q r (Ready None) follow = tt
  behind_on q r Pending follow = follow

module _ {S F X Y : Type 0} (call : Mut F (X × Unit {0}) Y) (gives : S → List X → Type 0) (s t : S) where
  pub callable_here : (x : X) (f : F) → CallableOver call gives s f → ((xs : List X) → MayCome gives t xs → MayCome gives s (x ∷ xs)) → MayCome gives t [] → call.pre f (x, tt)
  callable_here x f can follow none = can.at [] x f (follow [] none) refl

  pub callable_after : (x : X) (y : Y) (f g : F) → CallableOver call gives s f → ((xs : List X) → MayCome gives t xs → MayCome gives s (x ∷ xs)) → Called call f (x, tt) y g → CallableOver call gives t g
  callable_after x y f g can follow called = record { at = λ xs z h come chain. can.at (x ∷ xs) z h (follow (xs ++ z ∷ []) come) (g, (y, called), chain) }

  pub callable_still : (f : F) → CallableOver call gives s f → ((xs : List X) → MayCome gives t xs → MayCome gives s xs) → CallableOver call gives t f
  callable_still f can follow = record { at = λ xs z h come chain. can.at xs z h (follow (xs ++ z ∷ []) come) chain }

-- ---- an iterator's items

module _ {I X : Type 0} (next_gives : I → Option X → I → Type 0) (s t : Iter I) where
  abbrev Gives : Iter I → List X → Type 0
  Gives q xs = IterGives next_gives q.iterator xs

  pub iter_on : (o : Option X) → next_gives s.iterator o t.iterator → FollowOn (MayCome Gives s) (Ready o) (MayCome Gives t)
  iter_on None gave = tt
  iter_on (Some x) gave = λ xs may. let later = any_come Gives t (t.iterator, refl) xs may in (later.0, (t.iterator, gave, later.1))

-- ---- images

module _ {S F X Y : Type 0} (gives : S → List X → Type 0) (call : Mut F (X × Unit {0}) Y) (m : Map S F) (s : S) (h : F) where
  abbrev left : Map S F
  left = record { stream = s; f = h }

  no_image : MapGives gives call left []
  no_image = record { items = []; may = tt; after = h; images = refl }

  pub image_first : (x : X) (y : Y) → ((xs : List X) → MayCome gives s xs → gives m.stream (x ∷ xs)) → Called call m.f (x, tt) y h → (ys : List Y) → MayCome (MapGives gives call) left ys → MapGives gives call m (y ∷ ys)
  image_first x y follow called ys may =
      let later = any_come (MapGives gives call) left no_image ys may in
      record { items = x ∷ later.items; may = follow later.items later.may; after = later.after; images = (h, called, later.images) }

  pub image_waits : ((x : X) (xs : List X) → gives s (x ∷ xs) → gives m.stream (x ∷ xs)) → h ≡ m.f → (y : Y) (ys : List Y) → MapGives gives call left (y ∷ ys) → MapGives gives call m (y ∷ ys)
  image_waits follow same y ys later = record {
    items = later.items;
    may = wait_all gives m.stream s follow later.items later.may;
    after = later.after;
    images = subst (λ f. AreImages call f later.items (y ∷ ys) later.after) same later.images;
  }

-- ---- the next item

module _ {S C X : Type 0} (stream : StreamOf S C X) (s t : S) where
  pub next_gives : (c d : C) (o : Option X) → stream.polls s c (Ready o) t d → FollowOn (MayCome stream.gives s) (Ready o) (MayCome stream.gives t) → NextGives stream s o
  next_gives c d None polled follow = record { may = tt; polled = s; at = c; left = t; after = d; answers = polled }
  next_gives c d (Some x) polled follow = record { may = follow [] tt; polled = s; at = c; left = t; after = d; answers = polled }

  may_be : (o : Option X) → ((x : X) (xs : List X) → stream.gives t (x ∷ xs) → stream.gives s (x ∷ xs)) → MayBeNext stream.gives t o → MayBeNext stream.gives s o
  may_be None follow may = tt
  may_be (Some x) follow may = follow x [] may

  pub next_waits : ((x : X) (xs : List X) → stream.gives t (x ∷ xs) → stream.gives s (x ∷ xs)) → (o : Option X) → NextGives stream t o → NextGives stream s o
  next_waits follow o h = record { may = may_be o follow h.may; polled = h.polled; at = h.at; left = h.left; after = h.after; answers = h.answers }
