-- Branches that keep their output: the effect of one poll, and the branch after it.
use Rattle.std.specs.Prelude.{◌≡◌, ⊤, Bool, true, false, Option, Some, None}
use Rattle.mono_task.specs.Members.{FutureOf}
use Rattle.mono_model.specs.Poll.{is_pending}
use Rattle.mono_model.specs.declared.poll.Poll.{Poll}
use Rattle.mono_model.specs.declared.poll.Poll.TheVariants.{Ready, Pending}
use Rattle.mono_combine.specs.declared.maybe.MaybeDone.{MaybeDone}
use Rattle.mono_combine.specs.declared.maybe.MaybeDone.TheVariants.{Future, Done, Gone}

module _ {Fut O : Type 0} where
  -- Whether its output is still to come.
  abbrev pub is_waiting : MaybeDone Fut O → Bool
  is_waiting (Future f) = true
  is_waiting (Done x) = false
  is_waiting Gone = false

  -- The output, if the branch has one.
  abbrev pub output_of : MaybeDone Fut O → Option O
  output_of (Future f) = None
  output_of (Done x) = Some x
  output_of Gone = None

  -- The branch after its output, if it has one, was taken.
  abbrev pub without_output : MaybeDone Fut O → MaybeDone Fut O
  without_output (Future f) = Future f
  without_output (Done x) = Gone
  without_output Gone = Gone

-- Whether the branch may still give, or has given, the output.
abbrev pub MaybeGives : {Fut O : Type 0} → (Fut → O → Type 0) → MaybeDone Fut O → O → Type 0
MaybeGives gives (Future f) x = gives f x
MaybeGives gives (Done y) x = x ≡ y
MaybeGives gives Gone x = ⊥

-- Whether the branch gives no more than before.
abbrev pub MaybeNarrows : {Fut O : Type 0} → (Fut → O → Type 0) → MaybeDone Fut O → MaybeDone Fut O → Type 0
MaybeNarrows {Fut} {O} gives n m = (x : O) → MaybeGives gives n x → MaybeGives gives m x

module _ {C Fut O : Type 0} (future : FutureOf Fut C O) where
  abbrev pub maybe_spent : MaybeDone Fut O → Bool
  maybe_spent (Future f) = future.is_spent f
  maybe_spent (Done x) = false
  maybe_spent Gone = true

  abbrev pub MaybeCanPoll : MaybeDone Fut O → Type 0
  MaybeCanPoll (Future f) = future.can_poll f
  MaybeCanPoll (Done x) = ⊤
  MaybeCanPoll Gone = ⊤

  -- A future that was ready is given up at once, and its output takes its place.
  abbrev pub AfterBranch : Poll O → Fut → C → MaybeDone Fut O → C → Type 0
  AfterBranch (Ready x) g c n d = future.cancels g c d × (n ≡ Done x)
  AfterBranch Pending g c n d = (n ≡ Future g) × (d ≡ c)

  pub record BranchPolls (f : Fut) (c : C) (n : MaybeDone Fut O) (d : C) : Type 0 where
    pub answer : Poll O
    pub left : Fut
    pub middle : C
    pub polled : future.polls f c answer left middle
    pub rest : AfterBranch answer left middle n d

  -- Whether a future is polled once, and an output stays.
  abbrev pub Advances : MaybeDone Fut O → C → MaybeDone Fut O → C → Type 0
  Advances (Future f) c n d = BranchPolls f c n d
  Advances (Done x) c n d = (n ≡ Done x) × (d ≡ c)
  Advances Gone c n d = ⊥

  abbrev pub MaybePolls : MaybeDone Fut O → C → Poll ⊤ → MaybeDone Fut O → C → Type 0
  MaybePolls m c r n d = Advances m c n d × (is_pending r ≡ is_waiting n)

  -- Whether a future is given up, and an output is dropped.
  abbrev pub MaybeCancels : MaybeDone Fut O → C → C → Type 0
  MaybeCancels (Future f) c d = future.cancels f c d
  MaybeCancels (Done x) c d = d ≡ c
  MaybeCancels Gone c d = d ≡ c
