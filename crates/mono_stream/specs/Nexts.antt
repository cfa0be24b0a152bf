-- What the next item of a stream may be.
use Rattle.std.specs.Prelude.{⊤, List, [], ◌∷◌, Option, Some, None}
use Rattle.mono_model.specs.declared.poll.Poll.TheVariants.{Ready}
use Rattle.mono_stream.specs.Members.{StreamOf}

-- An item is one that may come next of the stream; any stream may have ended.
abbrev pub MayBeNext : {S X : Type 0} → (S → List X → Type 0) → S → Option X → Type 0
MayBeNext gives s (Some x) = gives s (x ∷ [])
MayBeNext gives s None = ⊤

-- The answer may come next, and is that of a poll of such a stream in some context.
pub record NextGives {S C X : Type 0} (stream : StreamOf S C X) (s : S) (answer : Option X) : Type 0 where
  pub may : MayBeNext stream.gives s answer
  pub polled : S
  pub at : C
  pub left : S
  pub after : C
  pub answers : stream.polls polled at (Ready answer) left after
