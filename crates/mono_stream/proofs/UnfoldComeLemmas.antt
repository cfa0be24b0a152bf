-- The items that may come of futures, and the states at which the closure may be called.
use Rattle.std.proofs.Common.{◌≡◌, List, [], ◌∷◌, Option, Some, None, refl, sym, subst}
use Rattle.std.specs.Prelude.{⊤}
use Rattle.std.specs.Fn.{Mut, Called}
use Rattle.std.specs.List.{FoldsTo}
use Rattle.mono_model.specs.declared.poll.Poll.{Poll}
use Rattle.mono_model.specs.declared.poll.Poll.TheVariants.{Ready, Pending}
use Rattle.mono_task.specs.Members.{FutureOf}
use Rattle.mono_stream.specs.Chains.{IsLive, HeldIsLive}
use Rattle.mono_stream.specs.Comes.{MayCome, FollowOn}
use Rattle.mono_stream.specs.Ends.{UnlessEnded}
use Rattle.mono_stream.specs.Unfolds.{UnfoldGivesOne, NextState, FromState, FromMade, LeadsBy, UnfoldLeads, UnfoldGives, UnfoldsLive}
use Rattle.mono_stream.specs.declared.unfolds.Unfold.{Unfold}

-- A stream by its parts.
abbrev parts : {T F Fut : Type 0} → Option T → F → Option Fut → Unfold T F Fut
parts state f made = record { state = state; f = f; made = made }

module _ {T F Fut X : Type 0} (outputs : Fut → Option (X × T) → Type 0) (call : Mut F (T × Unit {0}) Fut) where
  abbrev Leads : Unfold T F Fut → List X → F × T → Type 0
  Leads u xs q = UnfoldLeads outputs call u xs q

  -- What a stream leads to after a poll, it led to before, behind the item.
  abbrev pub LeadsOn : Unfold T F Fut → Poll (Option X) → Unfold T F Fut → Type 0
  LeadsOn u (Ready (Some x)) v = (xs : List X) (q : F × T) → Leads v xs q → Leads u (x ∷ xs) q
  LeadsOn u (Ready None) v = ⊤
  LeadsOn u Pending v = (xs : List X) (q : F × T) → Leads v xs q → Leads u xs q

  by_state : (v : Unfold T F Fut) (t : T) (xs : List X) (q : F × T) → v.made ≡ None → v.state ≡ Some t → Leads v xs q → FoldsTo (NextState outputs call) (v.f, t) xs q
  by_state v t xs q none is h = subst (λ s. FromState outputs call s v.f xs q) is (subst (λ m. LeadsBy outputs call m v.state v.f xs q) none h)

  by_made : (v : Unfold T F Fut) (left : Fut) (xs : List X) (q : F × T) → v.made ≡ Some left → Leads v xs q → FromMade outputs call left v.f xs q
  by_made v left xs q is h = subst (λ m. LeadsBy outputs call m v.state v.f xs q) is h

  fewer_made : (f : F) (g left : Fut) → ((y : Option (X × T)) → outputs left y → outputs g y) → (xs : List X) (q : F × T) → FromMade outputs call left f xs q → FromMade outputs call g f xs q
  fewer_made f g left fewer [] q h = h
  fewer_made f g left fewer (x ∷ xs) q h = (h.0, fewer (Some (x, h.0)) h.1, h.2)

  module _ (u v : Unfold T F Fut) (g : Fut) where
    -- The future that was made was polled.
    module _ (held : u.made ≡ Some g) (still : v.f ≡ u.f) where
      from_made : (xs : List X) (q : F × T) → FromMade outputs call g v.f xs q → Leads u xs q
      from_made xs q h = subst (λ m. LeadsBy outputs call m u.state u.f xs q) (sym held) (subst (λ f. FromMade outputs call g f xs q) still h)

      made_leads : (r : Poll (Option X)) → UnfoldGivesOne outputs g r v.made v.state → LeadsOn u r v
      made_leads (Ready (Some x)) one = λ xs q h. from_made (x ∷ xs) q (one.0, one.1, by_state v one.0 xs q one.2 one.3 h)
      made_leads (Ready None) one = tt
      made_leads Pending one = λ xs q h. from_made xs q (fewer_made v.f g one.0 one.2 xs q (by_made v one.0 xs q one.1 h))

    -- The closure made it of the state.
    module _ (t : T) (none : u.made ≡ None) (is : u.state ≡ Some t) (called : Called call u.f (t, tt) g v.f) where
      from_state : (xs : List X) (q : F × T) → FoldsTo (NextState outputs call) (u.f, t) xs q → Leads u xs q
      from_state xs q h = subst (λ m. LeadsBy outputs call m u.state u.f xs q) (sym none) (subst (λ s. FromState outputs call s u.f xs q) (sym is) h)

      begun : (xs : List X) (q : F × T) → FromMade outputs call g v.f xs q → Leads u xs q
      begun [] q h = absurd h
      begun (x ∷ xs) q h = from_state (x ∷ xs) q ((v.f, h.0), (g, called, h.1), h.2)

      state_leads : (r : Poll (Option X)) → UnfoldGivesOne outputs g r v.made v.state → LeadsOn u r v
      state_leads (Ready (Some x)) one = λ xs q h. begun (x ∷ xs) q (one.0, one.1, by_state v one.0 xs q one.2 one.3 h)
      state_leads (Ready None) one = tt
      state_leads Pending one = λ xs q h. begun xs q (fewer_made v.f g one.0 one.2 xs q (by_made v one.0 xs q one.1 h))

  -- So what may come after the poll could come before it.
  module _ (u v : Unfold T F Fut) (g : Fut) where
    some_gives : (t : T) → v.made ≡ None → v.state ≡ Some t → (xs : List X) → MayCome (UnfoldGives outputs call) v xs → UnfoldGives outputs call v xs
    some_gives t none is [] may = ((v.f, t), subst (λ m. LeadsBy outputs call m v.state v.f [] (v.f, t)) (sym none) (subst (λ s. FromState outputs call s v.f [] (v.f, t)) (sym is) refl))
    some_gives t none is (x ∷ xs) may = may

    still_gives : ((xs : List X) (q : F × T) → Leads v xs q → Leads u xs q) → (x : X) (xs : List X) → UnfoldGives outputs call v (x ∷ xs) → UnfoldGives outputs call u (x ∷ xs)
    still_gives on x xs may = (may.0, on (x ∷ xs) may.0 may.1)

    unfold_on : (r : Poll (Option X)) → UnfoldGivesOne outputs g r v.made v.state → LeadsOn u r v → FollowOn (MayCome (UnfoldGives outputs call) u) r (MayCome (UnfoldGives outputs call) v)
    unfold_on (Ready (Some x)) one on = λ xs may. let h = some_gives one.0 one.2 one.3 xs may in (h.0, on xs h.0 h.1)
    unfold_on (Ready None) one on = tt
    unfold_on Pending one on = still_gives on

  module _ (u : Unfold T F Fut) (g : Fut) (r : Poll (Option X)) (made : Option Fut) (state : Option T) (one : UnfoldGivesOne outputs g r made state) where
    pub held_leads : u.made ≡ Some g → LeadsOn u r (parts state u.f made)
    held_leads held = made_leads u (parts state u.f made) g held refl r one

    pub held_follow : u.made ≡ Some g → FollowOn (MayCome (UnfoldGives outputs call) u) r (MayCome (UnfoldGives outputs call) (parts state u.f made))
    held_follow held = unfold_on u (parts state u.f made) g r one (held_leads held)

    module _ (t : T) (none : u.made ≡ None) (is : u.state ≡ Some t) (h : F) (called : Called call u.f (t, tt) g h) where
      pub begun_leads : LeadsOn u r (parts state h made)
      begun_leads = state_leads u (parts state h made) g t none is called r one

      pub begun_follow : FollowOn (MayCome (UnfoldGives outputs call) u) r (MayCome (UnfoldGives outputs call) (parts state h made))
      begun_follow = unfold_on u (parts state h made) g r one begun_leads

module _ {T F Fut C X : Type 0} (future : FutureOf Fut C (Option (X × T))) (call : Mut F (T × Unit {0}) Fut) (u : Unfold T F Fut) where
  here : (t : T) → u.made ≡ None → u.state ≡ Some t → UnfoldLeads future.gives call u [] (u.f, t)
  here t none is = subst (λ m. LeadsBy future.gives call m u.state u.f [] (u.f, t)) (sym none) (subst (λ s. FromState future.gives call s u.f [] (u.f, t)) (sym is) refl)

  pub unfold_can : (t : T) → UnfoldsLive future call u → u.made ≡ None → u.state ≡ Some t → call.pre u.f (t, tt)
  unfold_can t live none is = live.can_call [] (u.f, t) (here t none is)

  pub unfold_live : (t : T) (g : Fut) (h : F) → UnfoldsLive future call u → u.made ≡ None → u.state ≡ Some t → Called call u.f (t, tt) g h → IsLive future g
  unfold_live t g h live none is called = live.live [] (u.f, t) g h (here t none is) called

  -- The stream after a poll may be polled again.
  unfold_again : (v : Unfold T F Fut) (r : Poll (Option X)) → HeldIsLive future v.made → UnfoldsLive future call u → LeadsOn future.gives call u r v → UnlessEnded r (HeldIsLive future v.made × UnfoldsLive future call v)
  unfold_again v (Ready (Some x)) held live on = (
    held,
    record {
      can_call = λ xs q h. live.can_call (x ∷ xs) q (on xs q h);
      live = λ xs q g k h. live.live (x ∷ xs) q g k (on xs q h);
    },
  )
  unfold_again v (Ready None) held live on = tt
  unfold_again v Pending held live on = (
    held,
    record {
      can_call = λ xs q h. live.can_call xs q (on xs q h);
      live = λ xs q g k h. live.live xs q g k (on xs q h);
    },
  )

  module _ (g : Fut) (r : Poll (Option X)) (made : Option Fut) (state : Option T) (one : UnfoldGivesOne future.gives g r made state) (held : HeldIsLive future made) (live : UnfoldsLive future call u) where
    pub held_again : u.made ≡ Some g → UnlessEnded r (HeldIsLive future made × UnfoldsLive future call (parts state u.f made))
    held_again is = unfold_again (parts state u.f made) r held live (held_leads future.gives call u g r made state one is)

    pub begun_again : (t : T) → u.made ≡ None → u.state ≡ Some t → (h : F) → Called call u.f (t, tt) g h → UnlessEnded r (HeldIsLive future made × UnfoldsLive future call (parts state h made))
    begun_again t none is h called = unfold_again (parts state h made) r held live (begun_leads future.gives call u g r made state one t none is h called)
