-- A stream of the outputs of the futures that a closure makes of the items.
use Rattle.std.specs.Prelude.{◌≡◌, ⊤, false, List, [], ◌∷◌, ◌++◌, Option, Some, None}
use Rattle.std.specs.Fn.{Mut, Called}
use Rattle.std.specs.List.{FoldsTo}
use Rattle.mono_task.specs.Members.{FutureOf}
use Rattle.mono_model.specs.declared.poll.Poll.{Poll}
use Rattle.mono_model.specs.declared.poll.Poll.TheVariants.{Ready, Pending}
use Rattle.mono_stream.specs.Comes.{MayCome, SomeCall}
use Rattle.mono_stream.specs.Members.{StreamOf}
use Rattle.mono_stream.specs.declared.chains.Then.{Then}

module _ {Fut C Y : Type 0} (future : FutureOf Fut C Y) where
  -- Whether it may be polled.
  abbrev pub IsLive : Fut → Type 0
  IsLive g = (future.is_spent g ≡ false) × future.can_poll g

  abbrev pub HeldIsLive : Option Fut → Type 0
  HeldIsLive None = ⊤
  HeldIsLive (Some g) = IsLive g

  abbrev pub HeldCancels : Option Fut → C → C → Type 0
  HeldCancels None c d = d ≡ c
  HeldCancels (Some g) c d = future.cancels g c d

  -- A future that was ready is given up at once, and its output is the item.
  abbrev pub AfterPoll : Poll Y → Fut → C → Poll (Option Y) → Option Fut → C → Type 0
  AfterPoll (Ready y) left c r made d = future.cancels left c d × (r ≡ Ready (Some y)) × (made ≡ None)
  AfterPoll Pending left c r made d = (r ≡ Pending) × (made ≡ Some left) × (d ≡ c)

  pub record Finishes (g : Fut) (c : C) (r : Poll (Option Y)) (made : Option Fut) (d : C) : Type 0 where
    pub answer : Poll Y
    pub left : Fut
    pub middle : C
    pub polled : future.polls g c answer left middle
    pub rest : AfterPoll answer left middle r made d

module _ {F Fut C X Y : Type 0} (future : FutureOf Fut C Y) (call : Mut F (X × Unit {0}) Fut) where
  -- The closure may be called at each item that may come, once it was called at the items before, and the future that
  -- it makes may be polled.
  pub record MakesLive {S : Type 0} (gives : S → List X → Type 0) (s : S) (f : F) : Type 0 where
    pub can_call : (xs : List X) (x : X) (g : F) → MayCome gives s (xs ++ x ∷ []) → FoldsTo (SomeCall call) f xs g → call.pre g (x, tt)
    pub live : (xs : List X) (x : X) (g : F) (made : Fut) (h : F) → MayCome gives s (xs ++ x ∷ []) → FoldsTo (SomeCall call) f xs g → Called call g (x, tt) made h → IsLive future made

  abbrev pub AfterNext : Poll (Option X) → F → C → Poll (Option Y) → F → Option Fut → C → Type 0
  AfterNext (Ready (Some x)) f c r f' made d = (g : Fut) × Called call f (x, tt) g f' × Finishes future g c r made d
  AfterNext (Ready None) f c r f' made d = (r ≡ Ready None) × (f' ≡ f) × (made ≡ None) × (d ≡ c)
  AfterNext Pending f c r f' made d = (r ≡ Pending) × (f' ≡ f) × (made ≡ None) × (d ≡ c)

module _ {S F Fut C X Y : Type 0} (stream : StreamOf S C X) (future : FutureOf Fut C Y) (call : Mut F (X × Unit {0}) Fut) where
  pub record Nexts (t : Then S F Fut) (c : C) (r : Poll (Option Y)) (u : Then S F Fut) (d : C) : Type 0 where
    pub answer : Poll (Option X)
    pub middle : C
    pub polled : stream.polls t.stream c answer u.stream middle
    pub rest : AfterNext future call answer t.f middle r u.f u.made d

  -- The future that was made is polled; if there is none, the next item is taken.
  abbrev pub ByMade : Option Fut → Then S F Fut → C → Poll (Option Y) → Then S F Fut → C → Type 0
  ByMade (Some g) t c r u d = Finishes future g c r u.made d × (u.stream ≡ t.stream) × (u.f ≡ t.f)
  ByMade None t c r u d = Nexts t c r u d

  abbrev pub ThenPolls : Then S F Fut → C → Poll (Option Y) → Then S F Fut → C → Type 0
  ThenPolls t c r u d = ByMade t.made t c r u d

  abbrev pub ThenCancels : Then S F Fut → C → C → Type 0
  ThenCancels t c d = (middle : C) × HeldCancels future t.made c middle × stream.cancels t.stream middle d

-- An output is one that the future may give; a future that waits gives no more than before.
abbrev pub FinishGives : {Fut Y : Type 0} → (Fut → Y → Type 0) → Fut → Poll (Option Y) → Option Fut → Type 0
FinishGives outputs g (Ready (Some y)) made = outputs g y × (made ≡ None)
FinishGives outputs g (Ready None) made = ⊤
FinishGives {Fut} {Y} outputs g Pending made = (left : Fut) × (made ≡ Some left) × ((y : Y) → outputs left y → outputs g y)

module _ {F Fut X Y : Type 0} (outputs : Fut → Y → Type 0) (call : Mut F (X × Unit {0}) Fut) where
  -- The closure made a future of each item, in order, and these are outputs that the futures may give.
  abbrev pub AreGiven : F → List X → List Y → F → Type 0
  AreGiven f [] [] g = g ≡ f
  AreGiven f (x ∷ xs) (y ∷ ys) g = (made : Fut) × (h : F) × Called call f (x, tt) made h × outputs made y × AreGiven h xs ys g
  AreGiven f [] (y ∷ ys) g = ⊥
  AreGiven f (x ∷ xs) [] g = ⊥

module _ {S F Fut X Y : Type 0} (gives : S → List X → Type 0) (outputs : Fut → Y → Type 0) (call : Mut F (X × Unit {0}) Fut) where
  pub record OutputsOf (s : S) (f : F) (ys : List Y) : Type 0 where
    pub items : List X
    pub may : MayCome gives s items
    pub after : F
    pub given : AreGiven outputs call f items ys after

  -- The output of the future that was made comes first.
  abbrev pub GivesBy : Option Fut → S → F → List Y → Type 0
  GivesBy None s f ys = OutputsOf s f ys
  GivesBy (Some made) s f [] = ⊤
  GivesBy (Some made) s f (y ∷ ys) = outputs made y × OutputsOf s f ys

  abbrev pub ThenGives : Then S F Fut → List Y → Type 0
  ThenGives t ys = GivesBy t.made t.stream t.f ys
