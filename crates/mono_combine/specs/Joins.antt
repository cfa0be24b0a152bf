-- Two branches that are polled until both outputs are there.
use Rattle.std.specs.Prelude.{◌≡◌, ◌⊎◌, List, [], ◌∷◌, Option}
use Rattle.std.specs.Option.{option_map}
use Rattle.std.proofs.Common.{inl, inr}
use Rattle.mono_task.specs.Members.{FutureOf}
use Rattle.mono_model.specs.Poll.{OnPending, OnReady}
use Rattle.mono_model.specs.declared.poll.Poll.{Poll}
use Rattle.mono_model.specs.declared.poll.Poll.TheVariants.{Ready, Pending}
use Rattle.mono_combine.specs.declared.maybe.MaybeDone.{MaybeDone}
use Rattle.mono_combine.specs.declared.maybe.MaybeDone.TheVariants.{Gone}
use Rattle.mono_combine.specs.declared.joins.Join2.{Join2}
use Rattle.mono_combine.specs.Branches.{Advances, MaybeCancels, output_of}
use Rattle.mono_combine.specs.Rules.{join_rule}

module _ {X Y : Type 0} where
  -- Two outputs as the list to which the rule applies.
  abbrev pub both : Option X → Option Y → List (Option (X ⊎ Y))
  both x y = option_map inl x ∷ option_map inr y ∷ []

  abbrev pub as_list : Poll (X × Y) → Poll (List (X ⊎ Y))
  as_list (Ready (x, y)) = Ready (inl x ∷ inr y ∷ [])
  as_list Pending = Pending

module _ {C A B X Y : Type 0} (a : FutureOf A C X) (b : FutureOf B C Y) where
  -- Each branch that is not done is polled once, in the written order, and the rule gives the answer.
  pub record JoinPolls (f : Join2 A B X Y) (c : C) (r : Poll (X × Y)) (g : Join2 A B X Y) (d : C) : Type 0 where
    pub first : MaybeDone A X
    pub second : MaybeDone B Y
    pub middle : C
    pub a_polled : Advances a f.a c first middle
    pub b_polled : Advances b f.b middle second d
    pub answer : as_list r ≡ join_rule (both (output_of first) (output_of second))
    pub waits : OnPending r (g ≡ record { a = first; b = second })
    pub ends : OnReady r (g ≡ record { a = Gone; b = Gone })

  -- Whether the branches are given up in the written order.
  abbrev pub JoinCancels : Join2 A B X Y → C → C → Type 0
  JoinCancels f c d = (middle : C) × MaybeCancels a f.a c middle × MaybeCancels b f.b middle d
