-- Answers that a closure changes: the answer and the form after one poll, and the answers in the end.
use Rattle.std.specs.Prelude.{⊤, ◌≡◌, Option, Some, None, Result, Ok, Err}
use Rattle.std.specs.Fn.{Once}
use Rattle.mono_model.specs.declared.poll.Poll.{Poll}
use Rattle.mono_model.specs.declared.poll.Poll.TheVariants.{Ready, Pending}
use Rattle.mono_task.specs.Members.{FutureOf}

-- The future was polled. If it answered, it is given up, and its answer leads to this answer; otherwise the form waits
-- as before.
module _ {A C X U F : Type 0} (future : FutureOf A C X) (Leads : F → X → U → Type 0) where
  abbrev pub LeadsTo : F → X → Poll U → Type 0
  LeadsTo f x (Ready y) = Leads f x y
  LeadsTo f x Pending = ⊥

  abbrev pub AfterPart : Poll X → A → F → C → Poll U → Option (A × F) → C → Type 0
  AfterPart (Ready x) left f c r n d = future.cancels left c d × (n ≡ None) × LeadsTo f x r
  AfterPart Pending left f c r n d = (r ≡ Pending) × (n ≡ Some (left, f)) × (d ≡ c)

  pub record PartPolls (a : A) (f : F) (c : C) (r : Poll U) (n : Option (A × F)) (d : C) : Type 0 where
    pub answer : Poll X
    pub left : A
    pub middle : C
    pub polled : future.polls a c answer left middle
    pub rest : AfterPart answer left f middle r n d

  abbrev pub LeadPolls : Option (A × F) → C → Poll U → Option (A × F) → C → Type 0
  LeadPolls (Some p) c r n d = PartPolls p.0 p.1 c r n d
  LeadPolls None c r n d = ⊥

  -- An answer that the future may give leads to this answer.
  abbrev pub LeadGives : Option (A × F) → U → Type 0
  LeadGives (Some p) y = (x : X) × future.gives p.0 x × Leads p.1 x y
  LeadGives None y = ⊥

module _ {A C X F : Type 0} (future : FutureOf A C X) (Asks : F → X → Type 0) where
  -- The future may be polled, and the closure called with each answer that it may give.
  abbrev pub LeadCanPoll : Option (A × F) → Type 0
  LeadCanPoll (Some p) = future.can_poll p.0 × ((x : X) → future.gives p.0 x → Asks p.1 x)
  LeadCanPoll None = ⊤

module _ {A C X U F : Type 0} (future : FutureOf A C X) (call : Once F (X × Unit {0}) U) where
  abbrev pub MapCanPoll : Option (A × F) → Type 0
  MapCanPoll = LeadCanPoll future (λ f x. call.pre f (x, tt))

  abbrev pub MapPolls : Option (A × F) → C → Poll U → Option (A × F) → C → Type 0
  MapPolls = LeadPolls future (λ f x y. call.post f (x, tt) y)

  abbrev pub MapGives : Option (A × F) → U → Type 0
  MapGives = LeadGives future (λ f x y. call.post f (x, tt) y)

module _ {T E U F : Type 0} (call : Once F (T × Unit {0}) U) where
  abbrev pub AsksOk : F → Result T E → Type 0
  AsksOk f (Ok x) = call.pre f (x, tt)
  AsksOk f (Err e) = ⊤

  -- The closure changes a value, and an error stays.
  abbrev pub MapsOk : F → Result T E → Result U E → Type 0
  MapsOk f (Ok x) (Ok y) = call.post f (x, tt) y
  MapsOk f (Ok x) (Err e) = ⊥
  MapsOk f (Err e) (Ok y) = ⊥
  MapsOk f (Err e) (Err e') = e' ≡ e

module _ {A C T E U F : Type 0} (future : FutureOf A C (Result T E)) (call : Once F (T × Unit {0}) U) where
  abbrev pub MapOkCanPoll : Option (A × F) → Type 0
  MapOkCanPoll = LeadCanPoll future (AsksOk call)

  abbrev pub MapOkPolls : Option (A × F) → C → Poll (Result U E) → Option (A × F) → C → Type 0
  MapOkPolls = LeadPolls future (MapsOk call)

  abbrev pub MapOkGives : Option (A × F) → Result U E → Type 0
  MapOkGives = LeadGives future (MapsOk call)

module _ {T E U F : Type 0} (call : Once F (E × Unit {0}) U) where
  abbrev pub AsksErr : F → Result T E → Type 0
  AsksErr f (Ok x) = ⊤
  AsksErr f (Err e) = call.pre f (e, tt)

  -- The closure changes an error, and a value stays.
  abbrev pub MapsErr : F → Result T E → Result T U → Type 0
  MapsErr f (Ok x) (Ok y) = y ≡ x
  MapsErr f (Ok x) (Err u) = ⊥
  MapsErr f (Err e) (Ok y) = ⊥
  MapsErr f (Err e) (Err u) = call.post f (e, tt) u

module _ {A C T E U F : Type 0} (future : FutureOf A C (Result T E)) (call : Once F (E × Unit {0}) U) where
  abbrev pub MapErrCanPoll : Option (A × F) → Type 0
  MapErrCanPoll = LeadCanPoll future (AsksErr call)

  abbrev pub MapErrPolls : Option (A × F) → C → Poll (Result T U) → Option (A × F) → C → Type 0
  MapErrPolls = LeadPolls future (MapsErr call)

  abbrev pub MapErrGives : Option (A × F) → Result T U → Type 0
  MapErrGives = LeadGives future (MapsErr call)
