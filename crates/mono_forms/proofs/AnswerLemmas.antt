-- A fact of an answer leads to another.
use Rattle.mono_model.specs.Poll.{IfReady, OnPending}
use Rattle.mono_model.specs.declared.poll.Poll.{Poll}
use Rattle.mono_model.specs.declared.poll.Poll.TheVariants.{Ready, Pending}

pub ready_to : {Y : Type 0} (r : Poll Y) (P Q : Y → Type 0) → ((y : Y) → P y → Q y) → IfReady r P → IfReady r Q
ready_to (Ready y) P Q leads h = leads y h
ready_to Pending P Q leads h = tt

-- Each answer in P is in R, if each in P is in Q and each in Q is in R.
pub same_to : {Y : Type 0} (r : Poll Y) (P Q R : Y → Type 0) → ((y : Y) → Q y → R y) → OnPending r ((y : Y) → P y → Q y) → OnPending r ((y : Y) → P y → R y)
same_to (Ready y) P Q R leads h = tt
same_to Pending P Q R leads h = λ y p. leads y (h y p)
