-- What one turn of a poll leaves, for a form that makes many turns in one poll.
use Rattle.std.specs.Prelude.{◌≡◌, Bool, false, Option, Some, None}
use Rattle.mono_model.specs.declared.poll.Poll.{Poll}
use Rattle.mono_model.specs.declared.poll.Poll.TheVariants.{Ready, Pending}

module _ {M X : Type 0} (spent : M → Bool) (can : M → Type 0) (gives : M → X → Type 0) where
  -- The form may be polled again, and gives no more than before.
  pub record StaysOn (m n : M) : Type 0 where
    pub unspent : spent n ≡ false
    pub callable : can n
    pub narrows : (x : X) → gives n x → gives m x

  -- No answer of the poll yet, that it waits, or an answer that the form may give.
  abbrev pub Leaves : M → Option (Poll X) → M → Type 0
  Leaves m None n = StaysOn m n
  Leaves m (Some Pending) n = StaysOn m n
  Leaves m (Some (Ready x)) n = can n × gives m x
