-- The items that a stream gives over consecutive polls. Between two polls the context may change in any way.
use Rattle.std.specs.Prelude.{◌≡◌, ℕ, zero, suc, ⊤, Bool, true, false, List, [], ◌∷◌, Option, Some, None}
use Rattle.std.specs.Fn.{Mut, Called}
use Rattle.mono_task.specs.Members.{FutureOf}
use Rattle.mono_model.specs.declared.poll.Poll.{Poll}
use Rattle.mono_model.specs.declared.poll.Poll.TheVariants.{Ready, Pending}
use Rattle.mono_stream.specs.declared.for_each.Stop.{Stop}
use Rattle.mono_stream.specs.declared.for_each.Stop.TheVariants.{Ended, Waits, Many}

-- A ready item is the first, and the items of later polls follow it; a pending poll gives none. No poll follows once
-- the stream has ended.
abbrev pub After : {S X : Type 0} → Poll (Option X) → S → (List X → Bool → S → Type 0) → List X → Bool → S → Type 0
After {S} {X} (Ready (Some x)) left later items has_ended new = (rest : List X) × (items ≡ x ∷ rest) × later rest has_ended new
After (Ready None) left later items has_ended new = (items ≡ []) × (has_ended ≡ true) × (new ≡ left)
After Pending left later items has_ended new = later items has_ended new

module _ {S C X : Type 0} (polls : S → C → Poll (Option X) → S → C → Type 0) where
  -- One poll, on some context.
  pub record IsPolled (old : S) (answer : Poll (Option X)) (new : S) : Type 0 where
    pub before : C
    pub after : C
    pub polled : polls old before answer new after

  -- This number of consecutive polls, or fewer if the stream has ended, give these items, and this is the stream after
  -- them.
  abbrev pub Gives : ℕ → S → List X → Bool → S → Type 0
  Gives zero old items has_ended new = (items ≡ []) × (has_ended ≡ false) × (new ≡ old)
  Gives (suc n) old items has_ended new =
      (answer : Poll (Option X)) × (left : S) × IsPolled old answer left × After answer left (Gives n left) items has_ended new

-- ---- images, in order

-- The closure was called at each item, in order, and gave these answers.
module _ {F X Y : Type 0} (call : Mut F (X × Unit {0}) Y) where
  abbrev pub AreImages : F → List X → List Y → F → Type 0
  AreImages f [] [] f' = f' ≡ f
  AreImages f (x ∷ xs) (y ∷ ys) f' = (g : F) × Called call f (x, tt) y g × AreImages g xs ys f'
  AreImages f [] (y ∷ ys) f' = ⊥
  AreImages f (x ∷ xs) [] f' = ⊥

module _ {Fut C Y : Type 0} (future : FutureOf Fut C Y) where
  -- One poll of a future, on some context.
  pub record IsTried (old : Fut) (answer : Poll Y) (new : Fut) : Type 0 where
    pub before : C
    pub after : C
    pub polled : future.polls old before answer new after

  -- The given number of consecutive polls returned Pending.
  abbrev pub Waited : ℕ → Fut → Fut → Type 0
  Waited zero old new = new ≡ old
  Waited (suc n) old new = (left : Fut) × IsTried old Pending left × Waited n left new

  -- Consecutive polls, the last of them ready with this output.
  pub record HasOutput (g : Fut) (y : Y) : Type 0 where
    pub count : ℕ
    pub waiting : Fut
    pub waited : Waited count g waiting
    pub left : Fut
    pub ready : IsTried waiting (Ready y) left

  -- Consecutive polls, none of them ready.
  pub record StillWaits (g left : Fut) : Type 0 where
    pub count : ℕ
    pub waited : Waited count g left

module _ {F Fut C X Y : Type 0} (future : FutureOf Fut C Y) (call : Mut F (X × Unit {0}) Fut) where
  -- The closure made a future of each item, in order, and these are their outputs; the last one may still be pending.
  abbrev pub AreOutputs : F → List X → List Y → Option Fut → F → Type 0
  AreOutputs f [] [] None f' = f' ≡ f
  AreOutputs f (x ∷ xs) (y ∷ ys) made f' = (g : Fut) × (h : F) × Called call f (x, tt) g h × HasOutput future g y × AreOutputs h xs ys made f'
  AreOutputs f (x ∷ []) [] (Some left) f' = (g : Fut) × Called call f (x, tt) g f' × StillWaits future g left
  AreOutputs f (x ∷ []) [] None f' = ⊥
  AreOutputs f (x ∷ (z ∷ xs)) [] made f' = ⊥
  AreOutputs f [] [] (Some left) f' = ⊥
  AreOutputs f [] (y ∷ ys) made f' = ⊥

-- ---- an iterator's

-- An iterator's next items, in order, and whether it has ended.
abbrev pub AreNext : {I X : Type 0} → (I → Option X → I → Type 0) → I → List X → Bool → I → Type 0
AreNext next i [] false j = j ≡ i
AreNext next i [] true j = next i None j
AreNext {I} next i (x ∷ xs) has_ended j = (k : I) × next i (Some x) k × AreNext next k xs has_ended j

-- ---- handled ones

-- The given number of items without a value.
abbrev pub blank : ℕ → List ⊤
blank zero = []
blank (suc n) = tt ∷ blank n

-- Whether the handling stopped because the stream has ended.
abbrev pub is_end : Stop → Bool
is_end Ended = true
is_end Waits = false
is_end Many = false

-- The number of polls that it took: one more than items, unless the poll reached its limit.
abbrev pub polls_for : Stop → ℕ → ℕ
polls_for Ended n = suc n
polls_for Waits n = suc n
polls_for Many n = n
