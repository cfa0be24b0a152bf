-- A closure that may be called in every state.
use Rattle.std.proofs.Common.{List, [], ◌∷◌}
use Rattle.std.specs.Fn.{CalledAtMut}
use denote.Ref.{MutBor}
use Rattle.mono_model.specs.declared.poll.Poll.{Poll}
use Rattle.mono_combine.specs.PollFns.{Poller, CallsReach, StaysCallable}

module _ {F C T : Type 0} (g : Poller F C T) (reaches : C → C → Type 0) where
  -- A closure may be called in each poll if it may be called in every state, and each call reaches its context.
  pub always_callable : ((f : F) (x : MutBor C) → g.pre f (x, tt)) → ((f : F) (c : C) (r : Poll T) (f' : F) (d : C) → CalledAtMut g f c r f' d → reaches c d) → (f : F) → StaysCallable g reaches f
  always_callable may reach f [] = tt
  always_callable may reach f (x ∷ xs) = (may f x, λ r f' d called. (reach f x.now r f' d called, always_callable may reach f' xs))
