-- The values that the sieves return for a list of items.
use Rattle.std.proofs.Common.{◌≡◌, ◌<◌, ◌==◌, ◌+◌, ◌-◌, ◌%◌, ◌^◌, ◌⊎◌, inl, inr, ℕ, zero, suc, Bool, true, false, List, [], ◌∷◌, length, take, drop, Option, Some, None, refl, sym, ap, subst, ◌∙◌, arith}
use Rattle.std.specs.Prelude.{cond, filter}
use Rattle.std.specs.Fn.{Mut, Called, CalledAt, CalledWithState}
use Rattle.std.specs.List.{cons_option, filter_map, prefix_len, take_while, enumerate_from}
use denote.Ref.{Bor, MutBor}
use Rattle.mono_model.specs.declared.poll.Poll.{Poll}
use Rattle.mono_stream.specs.Items.{Gives}
use Rattle.mono_stream.specs.Sieves.{FilterSifts, TakeWhileSifts, SkipWhileSifts, BeginSifts, SkipSifts, ScanSifts, FilteringSifts, FilterMappingSifts, TakingSifts, TakingWhileSifts, SkippingSifts, SkippingWhileSifts, EnumeratingSifts, ScanningSifts}
use Rattle.mono_stream.specs.SiftedItems.{AreSifted, EndsWith, SiftsItems, GivesBy, GivesIf, TakesItems, TakesWhile, ScansItems, skip_while, skip_unless, scan_step, scan_some}
use Rattle.mono_stream.specs.declared.sifts.Sifted.{Sifted}
use Rattle.mono_stream.specs.declared.filters.Filtering.{Filtering}
use Rattle.mono_stream.specs.declared.filters.FilterMapping.{FilterMapping}
use Rattle.mono_stream.specs.declared.takes.Taking.{Taking}
use Rattle.mono_stream.specs.declared.takes.TakingWhile.{TakingWhile}
use Rattle.mono_stream.specs.declared.skips.Skipping.{Skipping}
use Rattle.mono_stream.specs.declared.skips.SkippingWhile.{SkippingWhile}
use Rattle.mono_stream.specs.declared.counts.Enumerating.{Enumerating}
use Rattle.mono_stream.specs.declared.scans.Scanning.{Scanning}

impossible : {P : Type 0} → true ≡ false → P
impossible e = absurd (cc)

by_cause : ((false ≡ true) ⊎ (false ≡ true)) → false ≡ true
by_cause (inl e) = e
by_cause (inr e) = e

suc_and : (n : ℕ) → suc (n + 1) ≡ suc n + 1
suc_and n = omega arith

zero_and : (n : ℕ) → 0 + n ≡ n
zero_and n = omega arith

one_and : (n : ℕ) → suc n ≡ 1 + n
one_and n = omega arith

-- If a sieve is never done, the streams end together.
pub same_end : (below has_ended : Bool) → EndsWith below false has_ended → below ≡ has_ended
same_end true true ends = refl
same_end true false ends = sym (ends.if_below refl)
same_end false false ends = refl
same_end false true ends = by_cause (ends.only_so refl)

-- ---- filter

module _ {F X : Type 0} (call : Mut F (Bor X × Unit {0}) Bool) (test : X → Bool) (answers : (f : F) (x : X) (b : Bool) (q : F) → CalledAt call f x b q → b ≡ test x) where
  filter_one : (f q : F) (x : X) (y : Option X) (zs : List X) → FilterSifts call f x y q → cons_option y zs ≡ cond (test x) (x ∷ zs) zs
  filter_one f q x (Some y) zs (is, called) = subst (λ b. y ∷ zs ≡ cond b (x ∷ zs) zs) (answers f x true q called) (ap (λ k. k ∷ zs) is)
  filter_one f q x None zs called = subst (λ b. zs ≡ cond b (x ∷ zs) zs) (answers f x false q called) refl

  pub filters : (xs ys : List X) (v w : Filtering F) → AreSifted (λ u. false) (FilteringSifts call) v xs ys w → ys ≡ filter test xs
  filters [] ys v w (none, same) = none
  filters (x ∷ xs) ys v w (unfinished, y, u, sifted, zs, first, rest) = first ∙ filter_one v.f u.f x y zs sifted ∙ ap (λ l. cond (test x) (x ∷ l) l) (filters xs zs u w rest)

  -- ---- skip_while

  begin_one : (f q : F) (x : X) (y : Option X) (zs xs : List X) (c : Bool) → BeginSifts call f x y q c → zs ≡ skip_unless c test xs → cons_option y zs ≡ skip_while test (x ∷ xs)
  begin_one f q x (Some y) zs xs c (is, called, begun) later =
      subst (λ b. y ∷ zs ≡ drop (cond b (1 + prefix_len test xs) 0) (x ∷ xs)) (answers f x false q called)
      (ap (λ k. k ∷ zs) is ∙ ap (λ l. x ∷ l) (later ∙ ap (λ b. skip_unless b test xs) begun))
  begin_one f q x None zs xs c (called, not_yet) later =
      subst (λ b. zs ≡ drop (cond b (1 + prefix_len test xs) 0) (x ∷ xs)) (answers f x true q called)
      (later ∙ ap (λ b. skip_unless b test xs) not_yet ∙ ap (λ n. drop n (x ∷ xs)) (one_and (prefix_len test xs)))

  skip_while_one : (b c : Bool) (f q : F) (x : X) (y : Option X) (zs xs : List X) → SkipWhileSifts call b f x y q c → zs ≡ skip_unless c test xs → cons_option y zs ≡ skip_unless b test (x ∷ xs)
  skip_while_one true c f q x y zs xs (is, same, begun) later = ap (λ o. cons_option o zs) is ∙ ap (λ l. x ∷ l) (later ∙ ap (λ b. skip_unless b test xs) begun)
  skip_while_one false c f q x y zs xs sifted later = begin_one f q x y zs xs c sifted later

  skipped : (b : Bool) → skip_unless b test [] ≡ []
  skipped true = refl
  skipped false = refl

  pub skips_while : (xs ys : List X) (v w : SkippingWhile F) → AreSifted (λ u. false) (SkippingWhileSifts call) v xs ys w → ys ≡ skip_unless v.has_begun test xs
  skips_while [] ys v w (none, same) = none ∙ sym (skipped v.has_begun)
  skips_while (x ∷ xs) ys v w (unfinished, y, u, sifted, zs, first, rest) = first ∙ skip_while_one v.has_begun u.has_begun v.f u.f x y zs xs sifted (skips_while xs zs u w rest)

  -- ---- take_while

  record Taken (xs ys : List X) (has_failed : Bool) : Type 0 where
    is : ys ≡ take_while test xs
    failed : has_failed ≡ true → length xs ≡ length ys + 1
    passed : has_failed ≡ false → xs ≡ ys

  none_after : (xs zs : List X) (u w : TakingWhile F) → u.has_failed ≡ true → AreSifted (λ v. v.has_failed) (TakingWhileSifts call) u xs zs w → (xs ≡ []) × (zs ≡ []) × (w ≡ u)
  none_after [] zs u w failed (none, same) = (refl, none, same)
  none_after (x ∷ xs) zs u w failed (unfinished, y, v, sifted, more, first, rest) = impossible (sym failed ∙ unfinished)

  take_more : (x : X) (y : X) (xs ys zs : List X) (has_failed : Bool) → y ≡ x → true ≡ test x → ys ≡ y ∷ zs → Taken xs zs has_failed → Taken (x ∷ xs) ys has_failed
  take_more x y xs ys zs has_failed same passes first later =
      let begins : ys ≡ x ∷ zs = first ∙ ap (λ k. k ∷ zs) same in
      record {
        is = begins ∙ ap (λ l. x ∷ l) later.is ∙ subst (λ b. x ∷ take_while test xs ≡ take (cond b (1 + prefix_len test xs) 0) (x ∷ xs)) passes (ap (λ n. take n (x ∷ xs)) (one_and (prefix_len test xs)));
        failed = λ e. ap suc (later.failed e) ∙ suc_and (length zs) ∙ sym (ap (λ l. length l + 1) begins);
        passed = λ e. ap (λ l. x ∷ l) (later.passed e) ∙ sym begins;
      }

  take_last : (x : X) (xs ys zs : List X) (has_failed : Bool) → false ≡ test x → ys ≡ zs → xs ≡ [] → zs ≡ [] → has_failed ≡ true → Taken (x ∷ xs) ys has_failed
  take_last x xs ys zs has_failed fails same none nothing over = record {
    is = same ∙ nothing ∙ subst (λ b. [] ≡ take (cond b (1 + prefix_len test xs) 0) (x ∷ xs)) fails refl;
    failed = λ e. ap (λ l. suc (length l)) none ∙ sym (ap (λ l. length l + 1) (same ∙ nothing));
    passed = λ e. impossible (sym over ∙ e);
  }

  take_one : (xs ys zs : List X) (x : X) (y : Option X) (v u w : TakingWhile F) → TakeWhileSifts call v.f x y u.f u.has_failed → ys ≡ cons_option y zs → (u.has_failed ≡ false → Taken xs zs w.has_failed)
      → AreSifted (λ k. k.has_failed) (TakingWhileSifts call) u xs zs w → Taken (x ∷ xs) ys w.has_failed
  take_one xs ys zs x (Some y) v u w (same, called, unfinished) first later rest = take_more x y xs ys zs w.has_failed same (answers v.f x true u.f called) first (later unfinished)
  take_one xs ys zs x None v u w (called, failed) first later rest =
      let (none, nothing, kept) = none_after xs zs u w failed rest in
      take_last x xs ys zs w.has_failed (answers v.f x false u.f called) first none nothing (ap (λ k. k.has_failed) kept ∙ failed)

  takes_while_from : (xs ys : List X) (v w : TakingWhile F) → v.has_failed ≡ false → AreSifted (λ u. u.has_failed) (TakingWhileSifts call) v xs ys w → Taken xs ys w.has_failed
  takes_while_from [] ys v w unfinished (none, same) = record {
    is = none;
    failed = λ e. impossible (sym e ∙ ap (λ k. k.has_failed) same ∙ unfinished);
    passed = λ e. sym none;
  }
  takes_while_from (x ∷ xs) ys v w unfinished (still, y, u, sifted, zs, first, rest) = take_one xs ys zs x y v u w sifted first (λ e. takes_while_from xs zs u w e rest) rest

  module _ {S C : Type 0} (polls : S → C → Poll (Option X) → S → C → Type 0) where
    pub filters_items : (old : Sifted S (Filtering F)) (ys : List X) (has_ended : Bool) (new : Sifted S (Filtering F)) → SiftsItems polls (λ u. false) (FilteringSifts call) old.stream old.sieve ys has_ended new → GivesBy polls (filter test) old.stream ys has_ended new.stream
    filters_items old ys has_ended new h = record {
      count = h.count;
      items = h.items;
      given = subst (λ e. Gives polls h.count old.stream h.items e new.stream) (same_end h.below has_ended h.ends) h.given;
      is = filters h.items ys old.sieve new.sieve h.sifted;
    }

    pub skips_while_items : (old : Sifted S (SkippingWhile F)) (ys : List X) (has_ended : Bool) (new : Sifted S (SkippingWhile F)) → SiftsItems polls (λ u. false) (SkippingWhileSifts call) old.stream old.sieve ys has_ended new → GivesBy polls (skip_unless old.sieve.has_begun test) old.stream ys has_ended new.stream
    skips_while_items old ys has_ended new h = record {
      count = h.count;
      items = h.items;
      given = subst (λ e. Gives polls h.count old.stream h.items e new.stream) (same_end h.below has_ended h.ends) h.given;
      is = skips_while h.items ys old.sieve new.sieve h.sifted;
    }

    pub takes_while_items : (old : Sifted S (TakingWhile F)) (ys : List X) (has_ended : Bool) (new : Sifted S (TakingWhile F)) → old.sieve.has_failed ≡ false → SiftsItems polls (λ u. u.has_failed) (TakingWhileSifts call) old.stream old.sieve ys has_ended new
        → TakesWhile polls test old.stream ys has_ended new.stream new.sieve.has_failed
    takes_while_items old ys has_ended new fresh h =
        let taken = takes_while_from h.items ys old.sieve new.sieve fresh h.sifted in
        record { count = h.count; items = h.items; below = h.below; given = h.given; is = taken.is; failed = taken.failed; passed = taken.passed; ends = h.ends }

-- ---- filter_map

module _ {F X Y : Type 0} (call : Mut F (X × Unit {0}) (Option Y)) (value : X → Option Y) (answers : (f : F) (x : X) (y : Option Y) (q : F) → Called call f (x, tt) y q → y ≡ value x) where
  filter_maps : (xs : List X) (ys : List Y) (v w : FilterMapping F) → AreSifted (λ u. false) (FilterMappingSifts call) v xs ys w → ys ≡ filter_map value xs
  filter_maps [] ys v w (none, same) = none
  filter_maps (x ∷ xs) ys v w (unfinished, y, u, sifted, zs, first, rest) = first ∙ ap (λ o. cons_option o zs) (answers v.f x y u.f sifted) ∙ ap (λ l. cons_option (value x) l) (filter_maps xs zs u w rest)

  module _ {S C : Type 0} (polls : S → C → Poll (Option X) → S → C → Type 0) where
    pub filter_maps_items : (old : Sifted S (FilterMapping F)) (ys : List Y) (has_ended : Bool) (new : Sifted S (FilterMapping F)) → SiftsItems polls (λ u. false) (FilterMappingSifts call) old.stream old.sieve ys has_ended new → GivesBy polls (filter_map value) old.stream ys has_ended new.stream
    filter_maps_items old ys has_ended new h = record {
      count = h.count;
      items = h.items;
      given = subst (λ e. Gives polls h.count old.stream h.items e new.stream) (same_end h.below has_ended h.ends) h.given;
      is = filter_maps h.items ys old.sieve new.sieve h.sifted;
    }

-- ---- scan

module _ {F A X Y : Type 0} (call : Mut F (MutBor A × (X × Unit {0})) (Option Y × (MutBor A × Unit {0}))) (step : A → X → Option Y × A) (answers : (f : F) (a : A) (x : X) (y : Option Y) (q : F) (b : A) → CalledWithState call f a x y q b → (y, b) ≡ step a x) where
  none_left : (xs : List X) (zs : List Y) (u w : Scanning A F) → u.has_stopped ≡ true → AreSifted (λ v. v.has_stopped) (ScanningSifts call) u xs zs w → zs ≡ []
  none_left [] zs u w stopped (none, same) = none
  none_left (x ∷ xs) zs u w stopped (unfinished, y, v, sifted, more, first, rest) = impossible (sym stopped ∙ unfinished)

  scan_one : (xs : List X) (ys zs : List Y) (x : X) (y : Option Y) (v u w : Scanning A F) → ScanSifts call v.f v.state x y u.f u.state u.has_stopped → ys ≡ cons_option y zs → (u.has_stopped ≡ false → zs ≡ scan_some step u.state xs)
      → AreSifted (λ k. k.has_stopped) (ScanningSifts call) u xs zs w → ys ≡ scan_step step y (scan_some step u.state xs)
  scan_one xs ys zs x (Some y) v u w (called, stopped) first later rest = first ∙ ap (λ l. y ∷ l) (later stopped)
  scan_one xs ys zs x None v u w (called, stopped) first later rest = first ∙ none_left xs zs u w stopped rest

  pub scans : (xs : List X) (ys : List Y) (v w : Scanning A F) → AreSifted (λ u. u.has_stopped) (ScanningSifts call) v xs ys w → ys ≡ scan_some step v.state xs
  scans [] ys v w (none, same) = none
  scans (x ∷ xs) ys v w (unfinished, y, u, sifted, zs, first, rest) =
      scan_one xs ys zs x y v u w sifted first (λ e. scans xs zs u w rest) rest ∙ ap (λ r. scan_step step r.0 (scan_some step r.1 xs)) (answers v.f v.state x y u.f u.state sifted.0)

-- ---- take, skip, enumerate

one_more : (n left middle all : ℕ) → n + left ≡ middle → middle ≡ all - 1 → (all == 0) ≡ false → suc n + left ≡ all
one_more n left middle (suc all) number less unfinished = omega (arith, number, less)
one_more n left middle zero number less unfinished = impossible unfinished

small : (n m : ℕ) → n + suc m < 2 ^ 64 → (n + 1) % 2 ^ 64 ≡ n + 1
small n m fits = omega (arith, fits)

moved : (n m : ℕ) → n + suc m < 2 ^ 64 → n + 1 + m < 2 ^ 64
moved n m fits = omega (arith, fits)

module _ {X : Type 0} where
  takes : (xs ys : List X) (v w : Taking) → AreSifted (λ u. u.remaining == 0) TakingSifts v xs ys w → (xs ≡ ys) × (length ys + w.remaining ≡ v.remaining)
  takes [] ys v w (none, same) = (sym none, ap (λ l. length l + w.remaining) none ∙ zero_and w.remaining ∙ ap (λ u. u.remaining) same)
  takes (x ∷ xs) ys v w (unfinished, y, u, sifted, zs, first, rest) =
      let (same, number) = takes xs zs u w rest in
      let begins : ys ≡ x ∷ zs = first ∙ ap (λ o. cons_option o zs) sifted.0 in
      let one_less : u.remaining ≡ v.remaining - 1 = sifted.1 in
      (ap (λ l. x ∷ l) same ∙ sym begins, ap (λ l. length l + w.remaining) begins ∙ one_more (length zs) w.remaining u.remaining v.remaining number one_less unfinished)

  skip_one : (n left : ℕ) (x : X) (y : Option X) (zs xs : List X) → SkipSifts n x y left → zs ≡ drop left xs → cons_option y zs ≡ drop n (x ∷ xs)
  skip_one zero left x y zs xs (is, none) later = ap (λ o. cons_option o zs) is ∙ ap (λ l. x ∷ l) (later ∙ ap (λ k. drop k xs) none)
  skip_one (suc n) left x y zs xs (is, less) later = ap (λ o. cons_option o zs) is ∙ later ∙ ap (λ k. drop k xs) less

  dropped : (n : ℕ) → ◌≡◌ {A = List X} (drop n []) []
  dropped zero = refl
  dropped (suc n) = refl

  skips : (xs ys : List X) (v w : Skipping) → AreSifted (λ u. false) SkippingSifts v xs ys w → ys ≡ drop v.remaining xs
  skips [] ys v w (none, same) = none ∙ sym (dropped v.remaining)
  skips (x ∷ xs) ys v w (unfinished, y, u, sifted, zs, first, rest) = first ∙ skip_one v.remaining u.remaining x y zs xs sifted (skips xs zs u w rest)

  enumerates : (xs : List X) (ys : List (ℕ × X)) (v w : Enumerating) → v.count + length xs < 2 ^ 64 → AreSifted (λ u. false) EnumeratingSifts v xs ys w → ys ≡ enumerate_from v.count xs
  enumerates [] ys v w fits (none, same) = none
  enumerates (x ∷ xs) ys v w fits (unfinished, y, u, sifted, zs, first, rest) =
      let next : u.count ≡ v.count + 1 = sifted.1 ∙ small v.count (length xs) fits in
      first ∙ ap (λ o. cons_option o zs) sifted.0
      ∙ ap (λ l. (v.count, x) ∷ l) (enumerates xs zs u w (subst (λ n. n + length xs < 2 ^ 64) (sym next) (moved v.count (length xs) fits)) rest ∙ ap (λ n. enumerate_from n xs) next)

  module _ {S C : Type 0} (polls : S → C → Poll (Option X) → S → C → Type 0) where
    pub takes_items : (old : Sifted S Taking) (ys : List X) (has_ended : Bool) (new : Sifted S Taking) → SiftsItems polls (λ u. u.remaining == 0) TakingSifts old.stream old.sieve ys has_ended new → TakesItems polls old.stream old.sieve.remaining ys has_ended new.stream new.sieve.remaining
    takes_items old ys has_ended new h =
        let (same, number) = takes h.items ys old.sieve new.sieve h.sifted in
        record { count = h.count; below = h.below; given = subst (λ l. Gives polls h.count old.stream l h.below new.stream) same h.given; number = number; ends = h.ends }

    pub skips_items : (old : Sifted S Skipping) (ys : List X) (has_ended : Bool) (new : Sifted S Skipping) → SiftsItems polls (λ u. false) SkippingSifts old.stream old.sieve ys has_ended new → GivesBy polls (drop old.sieve.remaining) old.stream ys has_ended new.stream
    skips_items old ys has_ended new h = record {
      count = h.count;
      items = h.items;
      given = subst (λ e. Gives polls h.count old.stream h.items e new.stream) (same_end h.below has_ended h.ends) h.given;
      is = skips h.items ys old.sieve new.sieve h.sifted;
    }

    pub enumerates_items : (old : Sifted S Enumerating) (ys : List (ℕ × X)) (has_ended : Bool) (new : Sifted S Enumerating) → SiftsItems polls (λ u. false) EnumeratingSifts old.stream old.sieve ys has_ended new
        → GivesIf polls (λ xs. old.sieve.count + length xs < 2 ^ 64) (enumerate_from old.sieve.count) old.stream ys has_ended new.stream
    enumerates_items old ys has_ended new h = record {
      count = h.count;
      items = h.items;
      given = subst (λ e. Gives polls h.count old.stream h.items e new.stream) (same_end h.below has_ended h.ends) h.given;
      is = λ fits. enumerates h.items ys old.sieve new.sieve fits h.sifted;
    }

-- ---- scanned streams

module _ {F A X Y S C : Type 0} (call : Mut F (MutBor A × (X × Unit {0})) (Option Y × (MutBor A × Unit {0}))) (step : A → X → Option Y × A) (answers : (f : F) (a : A) (x : X) (y : Option Y) (q : F) (b : A) → CalledWithState call f a x y q b → (y, b) ≡ step a x) (polls : S → C → Poll (Option X) → S → C → Type 0) where
  pub scans_items : (old : Sifted S (Scanning A F)) (ys : List Y) (has_ended : Bool) (new : Sifted S (Scanning A F)) → SiftsItems polls (λ u. u.has_stopped) (ScanningSifts call) old.stream old.sieve ys has_ended new
      → ScansItems polls step old.stream old.sieve.state ys has_ended new.stream new.sieve.has_stopped
  scans_items old ys has_ended new h =
      record { count = h.count; items = h.items; below = h.below; given = h.given; is = scans call step answers h.items ys old.sieve new.sieve h.sifted; ends = h.ends }
