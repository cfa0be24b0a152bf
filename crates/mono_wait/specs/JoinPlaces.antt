-- The places of the shared value at which a future that keeps its output waits, and a join of two.
use Rattle.std.specs.Prelude.{ℕ, List}
use Rattle.std.proofs.Common.{sym, subst}
use Rattle.mono_model.specs.declared.poll.Poll.{Poll}
use Rattle.mono_model.specs.declared.poll.Poll.TheVariants.{Ready, Pending}
use Rattle.mono_task.specs.Members.{FutureOf}
use Rattle.mono_combine.specs.declared.maybe.MaybeDone.{MaybeDone}
use Rattle.mono_combine.specs.declared.maybe.MaybeDone.TheVariants.{Future, Done, Gone}
use Rattle.mono_combine.specs.declared.joins.Join2.{Join2}
use Rattle.mono_combine.specs.Branches.{Advances, AfterBranch, MaybePolls}
use Rattle.mono_combine.specs.Joins.{JoinPolls}
use Rattle.mono_wait.specs.WaitPlaces.{Placed, Places}

-- those of the future, until it has answered
abbrev pub MaybePlaces : {F O : Type 0} → Places F → MaybeDone F O → List ℕ → Type 0
MaybePlaces places (Future f) p = places f p
MaybePlaces places (Done output) p = ⊥
MaybePlaces places Gone p = ⊥

-- Those of the second branch, which is polled last: its poll may take the task out of a place of the other.
abbrev pub JoinPlaces : {A B X Y : Type 0} → Places B → Join2 A B X Y → List ℕ → Type 0
JoinPlaces places f p = MaybePlaces places f.b p

module _ {C F O : Type 0} (listed_at : C → List ℕ → Type 0) (future : FutureOf F C O) (part : Placed listed_at future) where
  after_branch : (f : F) (c : C) (answer : Poll O) (left : F) (middle : C) (n : MaybeDone F O) (d : C) → future.polls f c answer left middle → AfterBranch future answer left middle n d
      → (p : List ℕ) → MaybePlaces part.waits_in n p → listed_at d p
  after_branch f c (Ready x) left middle n d polled rest p is = absurd (subst (λ m. MaybePlaces part.waits_in m p) rest.1 is)
  after_branch f c Pending left middle n d polled rest p is =
      subst (λ e. listed_at e p) (sym rest.1) (part.listed f c left middle polled p (subst (λ m. MaybePlaces part.waits_in m p) rest.0 is))

  pub advance_listed : (m : MaybeDone F O) (c : C) (n : MaybeDone F O) (d : C) → Advances future m c n d → (p : List ℕ) → MaybePlaces part.waits_in n p → listed_at d p
  advance_listed (Future f) c n d q p is = after_branch f c q.answer q.left q.middle n d q.polled q.rest p is
  advance_listed (Done x) c n d q p is = absurd (subst (λ m. MaybePlaces part.waits_in m p) q.0 is)
  advance_listed Gone c n d q p is = absurd q

  pub maybe_listed : (m : MaybeDone F O) (c : C) (n : MaybeDone F O) (d : C) → MaybePolls future m c Pending n d → (p : List ℕ) → MaybePlaces part.waits_in n p → listed_at d p
  maybe_listed m c n d q = advance_listed m c n d q.0

module _ {C A B X Y : Type 0} (listed_at : C → List ℕ → Type 0) (a : FutureOf A C X) (b : FutureOf B C Y) (part : Placed listed_at b) where
  pub join_listed : (f : Join2 A B X Y) (c : C) (g : Join2 A B X Y) (d : C) → JoinPolls a b f c Pending g d → (p : List ℕ) → JoinPlaces part.waits_in g p → listed_at d p
  join_listed f c g d q p is = advance_listed listed_at b part f.b q.middle q.second d q.b_polled p (subst (λ h. JoinPlaces part.waits_in h p) q.waits is)
