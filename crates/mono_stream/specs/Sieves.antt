-- What sieves return for an item, and their state after it.
use Rattle.std.specs.Prelude.{◌≡◌, ◌+◌, ◌-◌, ◌%◌, ◌^◌, ℕ, zero, suc, ⊤, Bool, true, false, Option, Some, None}
use Rattle.std.specs.Option.{is_none}
use Rattle.std.specs.Fn.{Mut, Called, CalledAt, CalledWithState}
use denote.Ref.{Bor, MutBor}
use Rattle.mono_stream.specs.declared.filters.Filtering.{Filtering}
use Rattle.mono_stream.specs.declared.filters.FilterMapping.{FilterMapping}
use Rattle.mono_stream.specs.declared.takes.Taking.{Taking}
use Rattle.mono_stream.specs.declared.takes.TakingWhile.{TakingWhile}
use Rattle.mono_stream.specs.declared.skips.Skipping.{Skipping}
use Rattle.mono_stream.specs.declared.skips.SkippingWhile.{SkippingWhile}
use Rattle.mono_stream.specs.declared.counts.Enumerating.{Enumerating}
use Rattle.mono_stream.specs.declared.scans.Scanning.{Scanning}

module _ {F X : Type 0} (call : Mut F (Bor X × Unit {0}) Bool) where
  -- The closure may be called with a `&` to the item.
  abbrev pub TestsAt : F → X → Type 0
  TestsAt f x = (shown : Bor X) → shown.now ≡ x → call.pre f (shown, tt)

  -- The same, unless an item was returned.
  abbrev pub TestsUnless : Bool → F → X → Type 0
  TestsUnless true f x = ⊤
  TestsUnless false f x = TestsAt f x

  -- The item is returned if and only if the closure returned true.
  abbrev pub FilterSifts : F → X → Option X → F → Type 0
  FilterSifts f x (Some y) f' = (y ≡ x) × CalledAt call f x true f'
  FilterSifts f x None f' = CalledAt call f x false f'

  -- The sieve is done once the closure returned false.
  abbrev pub TakeWhileSifts : F → X → Option X → F → Bool → Type 0
  TakeWhileSifts f x (Some y) f' failed = (y ≡ x) × CalledAt call f x true f' × (failed ≡ false)
  TakeWhileSifts f x None f' failed = CalledAt call f x false f' × (failed ≡ true)

  -- The first item that is returned is the first for which the closure returned false.
  abbrev pub BeginSifts : F → X → Option X → F → Bool → Type 0
  BeginSifts f x (Some y) f' begun = (y ≡ x) × CalledAt call f x false f' × (begun ≡ true)
  BeginSifts f x None f' begun = CalledAt call f x true f' × (begun ≡ false)

  -- Once an item was returned, the closure is not called.
  abbrev pub SkipWhileSifts : Bool → F → X → Option X → F → Bool → Type 0
  SkipWhileSifts true f x y f' begun = (y ≡ Some x) × (f' ≡ f) × (begun ≡ true)
  SkipWhileSifts false f x y f' begun = BeginSifts f x y f' begun

-- The number of items that are still to be passed over is lowered until it is 0.
abbrev pub SkipSifts : {X : Type 0} → ℕ → X → Option X → ℕ → Type 0
SkipSifts zero x y left = (y ≡ Some x) × (left ≡ zero)
SkipSifts (suc n) x y left = (y ≡ None) × (left ≡ n)

module _ {F A X Y : Type 0} (call : Mut F (MutBor A × (X × Unit {0})) (Option Y × (MutBor A × Unit {0}))) where
  -- The closure may be called with a `&mut` to the state, and the item.
  abbrev pub StepsAt : F → A → X → Type 0
  StepsAt f a x = (lent : MutBor A) → lent.now ≡ a → call.pre f (lent, (x, tt))

  abbrev pub ScanSifts : F → A → X → Option Y → F → A → Bool → Type 0
  ScanSifts f a x y f' a' stopped = CalledWithState call f a x y f' a' × (stopped ≡ is_none y)

-- ---- by the sieves

module _ {F X : Type 0} (call : Mut F (Bor X × Unit {0}) Bool) where
  abbrev pub FilteringSifts : Filtering F → X → Option X → Filtering F → Type 0
  FilteringSifts v x y w = FilterSifts call v.f x y w.f

  abbrev pub TakingWhileSifts : TakingWhile F → X → Option X → TakingWhile F → Type 0
  TakingWhileSifts v x y w = TakeWhileSifts call v.f x y w.f w.has_failed

  abbrev pub SkippingWhileSifts : SkippingWhile F → X → Option X → SkippingWhile F → Type 0
  SkippingWhileSifts v x y w = SkipWhileSifts call v.has_begun v.f x y w.f w.has_begun

module _ {F X Y : Type 0} (call : Mut F (X × Unit {0}) (Option Y)) where
  abbrev pub FilterMappingSifts : FilterMapping F → X → Option Y → FilterMapping F → Type 0
  FilterMappingSifts v x y w = Called call v.f (x, tt) y w.f

module _ {F A X Y : Type 0} (call : Mut F (MutBor A × (X × Unit {0})) (Option Y × (MutBor A × Unit {0}))) where
  abbrev pub ScanningSifts : Scanning A F → X → Option Y → Scanning A F → Type 0
  ScanningSifts v x y w = ScanSifts call v.f v.state x y w.f w.state w.has_stopped

-- Each item is returned, and the number of items that remain is lowered.
abbrev pub TakingSifts : {X : Type 0} → Taking → X → Option X → Taking → Type 0
TakingSifts v x y w = (y ≡ Some x) × (w.remaining ≡ v.remaining - 1)

abbrev pub SkippingSifts : {X : Type 0} → Skipping → X → Option X → Skipping → Type 0
SkippingSifts v x y w = SkipSifts v.remaining x y w.remaining

-- Each item is returned beside its number.
abbrev pub EnumeratingSifts : {X : Type 0} → Enumerating → X → Option (ℕ × X) → Enumerating → Type 0
EnumeratingSifts v x y w = (y ≡ Some (v.count, x)) × (w.count ≡ (v.count + 1) % 2 ^ 64)
