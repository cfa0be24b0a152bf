-- A stream of items that futures give, each made of a state.
use Rattle.std.specs.Prelude.{◌≡◌, ⊤, List, [], ◌∷◌, Option, Some, None}
use Rattle.std.specs.Fn.{Mut, Called}
use Rattle.std.specs.List.{FoldsTo}
use Rattle.mono_task.specs.Members.{FutureOf}
use Rattle.mono_model.specs.declared.poll.Poll.{Poll}
use Rattle.mono_model.specs.declared.poll.Poll.TheVariants.{Ready, Pending}
use Rattle.mono_stream.specs.Chains.{IsLive}
use Rattle.mono_stream.specs.declared.unfolds.Unfold.{Unfold}

module _ {Fut C X T : Type 0} (future : FutureOf Fut C (Option (X × T))) where
  -- A future that was ready is given up at once. Its output is the item and the next state, or the end.
  abbrev pub AfterUnfold : Poll (Option (X × T)) → Fut → C → Poll (Option X) → Option Fut → Option T → C → Type 0
  AfterUnfold (Ready (Some p)) left c r made state d = future.cancels left c d × (r ≡ Ready (Some p.0)) × (made ≡ None) × (state ≡ Some p.1)
  AfterUnfold (Ready None) left c r made state d = future.cancels left c d × (r ≡ Ready None) × (made ≡ None) × (state ≡ None)
  AfterUnfold Pending left c r made state d = (r ≡ Pending) × (made ≡ Some left) × (state ≡ None) × (d ≡ c)

  pub record Unfolds (g : Fut) (c : C) (r : Poll (Option X)) (made : Option Fut) (state : Option T) (d : C) : Type 0 where
    pub answer : Poll (Option (X × T))
    pub left : Fut
    pub middle : C
    pub polled : future.polls g c answer left middle
    pub rest : AfterUnfold answer left middle r made state d

module _ {T F Fut C X : Type 0} (future : FutureOf Fut C (Option (X × T))) (call : Mut F (T × Unit {0}) Fut) where
  -- The closure makes a future of the state, if there is one.
  abbrev pub ByState : Option T → Unfold T F Fut → C → Poll (Option X) → Unfold T F Fut → C → Type 0
  ByState (Some t) u c r v d = (g : Fut) × Called call u.f (t, tt) g v.f × Unfolds future g c r v.made v.state d
  ByState None u c r v d = (r ≡ Ready None) × (v.made ≡ None) × (v.state ≡ None) × (v.f ≡ u.f) × (d ≡ c)

  -- The future that was made is polled; if there is none, the closure makes one.
  abbrev pub ByMade : Option Fut → Unfold T F Fut → C → Poll (Option X) → Unfold T F Fut → C → Type 0
  ByMade (Some g) u c r v d = Unfolds future g c r v.made v.state d × (v.f ≡ u.f)
  ByMade None u c r v d = ByState u.state u c r v d

  abbrev pub UnfoldPolls : Unfold T F Fut → C → Poll (Option X) → Unfold T F Fut → C → Type 0
  UnfoldPolls u c r v d = ByMade u.made u c r v d

-- An output is one that the future may give; a future that waits gives no more than before.
abbrev pub UnfoldGivesOne : {Fut X T : Type 0} → (Fut → Option (X × T) → Type 0) → Fut → Poll (Option X) → Option Fut → Option T → Type 0
UnfoldGivesOne {Fut} {X} {T} outputs g (Ready (Some x)) made state = (t : T) × outputs g (Some (x, t)) × (made ≡ None) × (state ≡ Some t)
UnfoldGivesOne outputs g (Ready None) made state = ⊤
UnfoldGivesOne {Fut} {X} {T} outputs g Pending made state = (left : Fut) × (made ≡ Some left) × ((y : Option (X × T)) → outputs left y → outputs g y)

module _ {T F Fut X : Type 0} (outputs : Fut → Option (X × T) → Type 0) (call : Mut F (T × Unit {0}) Fut) where
  -- A call at a state makes a future, which gives an item and the next state.
  abbrev pub NextState : F × T → X → F × T → Type 0
  NextState p x q = (made : Fut) × Called call p.0 (p.1, tt) made q.0 × outputs made (Some (x, q.1))

  -- The items may come, and then the closure is called at this state, if it is polled again.
  abbrev pub FromState : Option T → F → List X → F × T → Type 0
  FromState (Some t) f xs q = FoldsTo NextState (f, t) xs q
  FromState None f xs q = ⊥

  abbrev pub FromMade : Fut → F → List X → F × T → Type 0
  FromMade made f [] q = ⊥
  FromMade made f (x ∷ xs) q = (t : T) × outputs made (Some (x, t)) × FoldsTo NextState (f, t) xs q

  abbrev pub LeadsBy : Option Fut → Option T → F → List X → F × T → Type 0
  LeadsBy (Some made) state f xs q = FromMade made f xs q
  LeadsBy None state f xs q = FromState state f xs q

  abbrev pub UnfoldLeads : Unfold T F Fut → List X → F × T → Type 0
  UnfoldLeads u xs q = LeadsBy u.made u.state u.f xs q

  abbrev pub UnfoldGives : Unfold T F Fut → List X → Type 0
  UnfoldGives u xs = (q : F × T) × UnfoldLeads u xs q

module _ {T F Fut C X : Type 0} (future : FutureOf Fut C (Option (X × T))) (call : Mut F (T × Unit {0}) Fut) where
  -- The closure may be called at each state that may be reached, and the future that it makes may be polled.
  pub record UnfoldsLive (u : Unfold T F Fut) : Type 0 where
    pub can_call : (xs : List X) (q : F × T) → UnfoldLeads future.gives call u xs q → call.pre q.0 (q.1, tt)
    pub live : (xs : List X) (q : F × T) (made : Fut) (h : F) → UnfoldLeads future.gives call u xs q → Called call q.0 (q.1, tt) made h → IsLive future made
