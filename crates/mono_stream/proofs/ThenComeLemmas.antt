-- The outputs that may come of a stream of futures' outputs.
use Rattle.std.proofs.Common.{◌≡◌, List, [], ◌∷◌, ◌++◌, Option, Some, None, refl, sym, subst}
use Rattle.std.specs.Fn.{Mut, Called}
use Rattle.mono_model.specs.declared.poll.Poll.{Poll}
use Rattle.mono_model.specs.declared.poll.Poll.TheVariants.{Ready, Pending}
use Rattle.mono_task.specs.Members.{FutureOf}
use Rattle.mono_stream.specs.Chains.{IsLive, HeldIsLive, MakesLive, FinishGives, OutputsOf, GivesBy, ThenGives}
use Rattle.mono_stream.specs.Comes.{MayCome, FollowOn}
use Rattle.mono_stream.specs.declared.chains.Then.{Then}
use Rattle.mono_stream.proofs.ComeLemmas.{wait_all}

pub none_live : {Fut C Y : Type 0} (future : FutureOf Fut C Y) (made : Option Fut) → made ≡ None → HeldIsLive future made
none_live future made none = subst (λ m. HeldIsLive future m) (sym none) tt

module _ {S F Fut C X Y : Type 0} (future : FutureOf Fut C Y) (call : Mut F (X × Unit {0}) Fut) (gives : S → List X → Type 0) (s t : S) where
  pub live_here : (x : X) (f : F) (g : Fut) (h : F) → MakesLive future call gives s f → ((xs : List X) → MayCome gives t xs → MayCome gives s (x ∷ xs)) → MayCome gives t [] → Called call f (x, tt) g h → IsLive future g
  live_here x f g h makes follow none called = makes.live [] x f g h (follow [] none) refl called

  pub can_make : (x : X) (f : F) → MakesLive future call gives s f → ((xs : List X) → MayCome gives t xs → MayCome gives s (x ∷ xs)) → MayCome gives t [] → call.pre f (x, tt)
  can_make x f makes follow none = makes.can_call [] x f (follow [] none) refl

  pub live_after : (x : X) (f : F) (g : Fut) (h : F) → MakesLive future call gives s f → ((xs : List X) → MayCome gives t xs → MayCome gives s (x ∷ xs)) → Called call f (x, tt) g h → MakesLive future call gives t h
  live_after x f g h makes follow called = record {
    can_call = λ xs z k come chain. makes.can_call (x ∷ xs) z k (follow (xs ++ z ∷ []) come) (h, (g, called), chain);
    live = λ xs z k made l come chain. makes.live (x ∷ xs) z k made l (follow (xs ++ z ∷ []) come) (h, (g, called), chain);
  }

  pub live_still : (f : F) → MakesLive future call gives s f → ((xs : List X) → MayCome gives t xs → MayCome gives s xs) → MakesLive future call gives t f
  live_still f makes follow = record {
    can_call = λ xs z k come chain. makes.can_call xs z k (follow (xs ++ z ∷ []) come) chain;
    live = λ xs z k made l come chain. makes.live xs z k made l (follow (xs ++ z ∷ []) come) chain;
  }

module _ {S F Fut X Y : Type 0} (gives : S → List X → Type 0) (outputs : Fut → Y → Type 0) (call : Mut F (X × Unit {0}) Fut) where
  no_output : (s : S) (f : F) → OutputsOf gives outputs call s f []
  no_output s f = record { items = []; may = tt; after = f; given = refl }

  abbrev Gives : Then S F Fut → List Y → Type 0
  Gives t ys = ThenGives gives outputs call t ys

  -- No future is held.
  outputs_after : (u : Then S F Fut) (ys : List Y) → u.made ≡ None → MayCome Gives u ys → OutputsOf gives outputs call u.stream u.f ys
  outputs_after u [] none may = no_output u.stream u.f
  outputs_after u (y ∷ ys) none may = subst (λ m. GivesBy gives outputs call m u.stream u.f (y ∷ ys)) none may

  held_after : (u : Then S F Fut) (left : Fut) (y : Y) (ys : List Y) → u.made ≡ Some left → Gives u (y ∷ ys) → outputs left y × OutputsOf gives outputs call u.stream u.f ys
  held_after u left y ys held may = subst (λ m. GivesBy gives outputs call m u.stream u.f (y ∷ ys)) held may

  module _ (t u : Then S F Fut) where
    -- The future that was made was polled, and the stream was not.
    module _ (g : Fut) (held : t.made ≡ Some g) (same : u.stream ≡ t.stream) (still : u.f ≡ t.f) where
      there : (ys : List Y) → OutputsOf gives outputs call u.stream u.f ys → OutputsOf gives outputs call t.stream t.f ys
      there ys later = subst (λ f. OutputsOf gives outputs call t.stream f ys) still (subst (λ s. OutputsOf gives outputs call s u.f ys) same later)

      here : (y : Y) (ys : List Y) → outputs g y → OutputsOf gives outputs call u.stream u.f ys → Gives t (y ∷ ys)
      here y ys given later = subst (λ m. GivesBy gives outputs call m t.stream t.f (y ∷ ys)) (sym held) (given, there ys later)

      held_waits : (left : Fut) → u.made ≡ Some left → ((y : Y) → outputs left y → outputs g y) → (y : Y) (ys : List Y) → Gives u (y ∷ ys) → Gives t (y ∷ ys)
      held_waits left kept fewer y ys may = let p = held_after u left y ys kept may in here y ys (fewer y p.0) p.1

      held_on : (r : Poll (Option Y)) → FinishGives outputs g r u.made → FollowOn (MayCome Gives t) r (MayCome Gives u)
      held_on (Ready (Some y)) fin = λ ys may. here y ys fin.0 (outputs_after u ys fin.1 may)
      held_on (Ready None) fin = tt
      held_on Pending fin = held_waits fin.0 fin.1 fin.2

    -- The stream was polled.
    module _ (none : t.made ≡ None) where
      by_none : (ys : List Y) → OutputsOf gives outputs call t.stream t.f ys → Gives t ys
      by_none ys given = subst (λ m. GivesBy gives outputs call m t.stream t.f ys) (sym none) given

      module _ (x : X) (g : Fut) (follow : (xs : List X) → MayCome gives u.stream xs → gives t.stream (x ∷ xs)) (called : Called call t.f (x, tt) g u.f) where
        made_first : (y : Y) (ys : List Y) → outputs g y → OutputsOf gives outputs call u.stream u.f ys → Gives t (y ∷ ys)
        made_first y ys given later = by_none (y ∷ ys)
            (record { items = x ∷ later.items; may = follow later.items later.may; after = later.after; given = (g, u.f, called, given, later.given) })

        made_waits : (left : Fut) → u.made ≡ Some left → ((y : Y) → outputs left y → outputs g y) → (y : Y) (ys : List Y) → Gives u (y ∷ ys) → Gives t (y ∷ ys)
        made_waits left kept fewer y ys may = let p = held_after u left y ys kept may in made_first y ys (fewer y p.0) p.1

        made_on : (r : Poll (Option Y)) → FinishGives outputs g r u.made → FollowOn (MayCome Gives t) r (MayCome Gives u)
        made_on (Ready (Some y)) fin = λ ys may. made_first y ys fin.0 (outputs_after u ys fin.1 may)
        made_on (Ready None) fin = tt
        made_on Pending fin = made_waits fin.0 fin.1 fin.2

      -- It waits.
      stream_waits : u.made ≡ None → u.f ≡ t.f → ((x : X) (xs : List X) → gives u.stream (x ∷ xs) → gives t.stream (x ∷ xs)) → (y : Y) (ys : List Y) → Gives u (y ∷ ys) → Gives t (y ∷ ys)
      stream_waits left still follow y ys may =
          let later = outputs_after u (y ∷ ys) left may in
          by_none (y ∷ ys) (subst (λ f. OutputsOf gives outputs call t.stream f (y ∷ ys)) still
          (record { items = later.items; may = wait_all gives t.stream u.stream follow later.items later.may; after = later.after; given = later.given }))

  -- The same with the parts of the stream that is left.
  abbrev left : S → F → Option Fut → Then S F Fut
  left s f made = record { stream = s; f = f; made = made }

  pub held_to : (t : Then S F Fut) (g : Fut) → t.made ≡ Some g → (r : Poll (Option Y)) (made : Option Fut) → FinishGives outputs g r made → FollowOn (MayCome Gives t) r (MayCome Gives (left t.stream t.f made))
  held_to t g held r made fin = held_on t (left t.stream t.f made) g held refl refl r fin

  module _ (t : Then S F Fut) (none : t.made ≡ None) where
    pub made_to : (x : X) (g : Fut) (s : S) (h : F) → ((xs : List X) → MayCome gives s xs → gives t.stream (x ∷ xs)) → Called call t.f (x, tt) g h → (r : Poll (Option Y)) (made : Option Fut) → FinishGives outputs g r made
        → FollowOn (MayCome Gives t) r (MayCome Gives (left s h made))
    made_to x g s h follow called r made fin = made_on t (left s h made) none x g follow called r fin

    pub waits_to : (s : S) (made : Option Fut) → made ≡ None → ((x : X) (xs : List X) → gives s (x ∷ xs) → gives t.stream (x ∷ xs)) → (y : Y) (ys : List Y) → Gives (left s t.f made) (y ∷ ys) → Gives t (y ∷ ys)
    waits_to s made gone follow = stream_waits t (left s t.f made) none gone refl follow
