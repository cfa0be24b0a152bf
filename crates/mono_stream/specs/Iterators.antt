-- A stream of the items of an iterator.
use Rattle.std.specs.Prelude.{◌≡◌, false, List, Option}
use Rattle.mono_model.specs.declared.poll.Poll.{Poll}
use Rattle.mono_model.specs.declared.poll.Poll.TheVariants.{Ready}
use Rattle.mono_stream.specs.Items.{AreNext}

-- The answer is ready with the iterator's next item.
abbrev pub IterPolls : {I C X : Type 0} → (I → Option X → I → Type 0) → I → C → Poll (Option X) → I → C → Type 0
IterPolls {I} {C} {X} next_gives i c r j d = (item : Option X) × next_gives i item j × (r ≡ Ready item) × (d ≡ c)

-- The items are the iterator's next ones.
abbrev pub IterGives : {I X : Type 0} → (I → Option X → I → Type 0) → I → List X → Type 0
IterGives {I} next_gives i xs = (j : I) × AreNext next_gives i xs false j
