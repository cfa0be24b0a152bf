-- A stream that is given up once it has ended.
use Rattle.std.specs.Prelude.{◌≡◌, ⊤, List, [], ◌∷◌, Option, Some, None}
use Rattle.mono_model.specs.declared.poll.Poll.{Poll}
use Rattle.mono_model.specs.declared.poll.Poll.TheVariants.{Ready, Pending}
use Rattle.mono_stream.specs.Comes.{MayCome}

abbrev pub SideCanPoll : {S : Type 0} → (S → Type 0) → Option S → Type 0
SideCanPoll can_poll (Some s) = can_poll s
SideCanPoll can_poll None = ⊤

-- No item comes of a stream that was given up.
abbrev pub SideMayCome : {S X : Type 0} → (S → List X → Type 0) → Option S → List X → Type 0
SideMayCome gives (Some s) xs = MayCome gives s xs
SideMayCome gives None xs = xs ≡ []

-- What may come of the stream after a poll could come before it; nothing comes of it once it has ended.
abbrev pub SideFollows : {X : Type 0} → (List X → Type 0) → Poll (Option X) → (List X → Type 0) → Type 0
SideFollows {X} Before (Ready (Some x)) Later = (xs : List X) → Later xs → Before (x ∷ xs)
SideFollows {X} Before (Ready None) Later = (xs : List X) → Later xs → xs ≡ []
SideFollows {X} Before Pending Later = (xs : List X) → Later xs → Before xs

abbrev pub SideCancels : {S C : Type 0} → (S → C → C → Type 0) → Option S → C → C → Type 0
SideCancels cancels (Some s) c d = cancels s c d
SideCancels cancels None c d = d ≡ c

module _ {S C X : Type 0} (polls : S → C → Poll (Option X) → S → C → Type 0) (cancels : S → C → C → Type 0) where
  -- The stream stays unless it has ended; then it is given up.
  abbrev pub AfterSide : Poll (Option X) → S → C → Poll (Option X) → Option S → C → Type 0
  AfterSide (Ready (Some x)) left c r side d = (r ≡ Ready (Some x)) × (side ≡ Some left) × (d ≡ c)
  AfterSide (Ready None) left c r side d = (r ≡ Ready None) × (side ≡ None) × cancels left c d
  AfterSide Pending left c r side d = (r ≡ Pending) × (side ≡ Some left) × (d ≡ c)

  pub record SidePolled (s : S) (c : C) (r : Poll (Option X)) (side : Option S) (d : C) : Type 0 where
    pub answer : Poll (Option X)
    pub left : S
    pub middle : C
    pub polled : polls s c answer left middle
    pub rest : AfterSide answer left middle r side d

  -- A stream that was given up is not polled.
  abbrev pub SidePolls : Option S → C → Poll (Option X) → Option S → C → Type 0
  SidePolls (Some s) c r side d = SidePolled s c r side d
  SidePolls None c r side d = (r ≡ Ready None) × (side ≡ None) × (d ≡ c)
