-- A stream of a closure's answers for the items.
use Rattle.std.specs.Prelude.{◌≡◌, List, Option, Some, None}
use Rattle.std.specs.Fn.{Mut, Called}
use Rattle.mono_model.specs.declared.poll.Poll.{Poll}
use Rattle.mono_model.specs.declared.poll.Poll.TheVariants.{Ready, Pending}
use Rattle.mono_stream.specs.Comes.{MayCome}
use Rattle.mono_stream.specs.Items.{AreImages}
use Rattle.mono_stream.specs.Members.{StreamOf}
use Rattle.mono_stream.specs.declared.maps.Map.{Map}

module _ {F X Y : Type 0} (g : Mut F (X × Unit {0}) Y) where
  -- The closure was called at the item, if there is one.
  abbrev pub Answers : Poll (Option X) → F → Poll (Option Y) → F → Type 0
  Answers (Ready (Some x)) f r f' = (y : Y) × Called g f (x, tt) y f' × (r ≡ Ready (Some y))
  Answers (Ready None) f r f' = (r ≡ Ready None) × (f' ≡ f)
  Answers Pending f r f' = (r ≡ Pending) × (f' ≡ f)

module _ {S F C X Y : Type 0} (stream : StreamOf S C X) (g : Mut F (X × Unit {0}) Y) where
  pub record MapPolls (m : Map S F) (c : C) (r : Poll (Option Y)) (n : Map S F) (d : C) : Type 0 where
    pub answer : Poll (Option X)
    pub polled : stream.polls m.stream c answer n.stream d
    pub answers : Answers g answer m.f r n.f

module _ {S F X Y : Type 0} (gives : S → List X → Type 0) (g : Mut F (X × Unit {0}) Y) where
  -- The images of items that may come.
  pub record MapGives (m : Map S F) (ys : List Y) : Type 0 where
    pub items : List X
    pub may : MayCome gives m.stream items
    pub after : F
    pub images : AreImages g m.f items ys after
