-- The items of streams that are made of the items of one other stream.
use Rattle.std.proofs.Common.{◌≡◌, inl, inr, ℕ, zero, suc, Bool, true, false, List, [], ◌∷◌, Option, Some, None, refl, sym, ap, subst, ◌∙◌}
use Rattle.std.specs.Prelude.{Result}
use Rattle.std.specs.List.{cons_option}
use Rattle.mono_model.specs.declared.Woke.{Woke}
use Rattle.mono_model.specs.declared.task_error.TaskError.{TaskError}
use Rattle.mono_model.specs.declared.poll.Poll.{Poll}
use Rattle.mono_model.specs.declared.poll.Poll.TheVariants.{Ready, Pending}
use Rattle.mono_stream.specs.Items.{After, Gives}
use Rattle.mono_stream.specs.Sifts.{Takes, Passes, Stops, AfterSifted, SiftedPolls}
use Rattle.mono_stream.specs.SiftedItems.{SiftsItems}
use Rattle.mono_stream.specs.declared.sifts.Outcome.{Outcome}
use Rattle.mono_stream.specs.declared.sifts.Outcome.TheVariants.{Found, Done, Ended, Waits, Many}
use Rattle.mono_stream.specs.declared.sifts.Sifted.{Sifted}

false_true : {P : Type 0} → false ≡ true → P
false_true e = absurd (cc)

module _ {S V C X Y : Type 0} (polls : S → C → Poll (Option X) → S → C → Type 0) (done : V → Bool) (sifts : V → X → Option Y → V → Type 0) where
  abbrev From : S → V → List Y → Bool → Sifted S V → Type 0
  From s v ys has_ended new = SiftsItems polls done sifts s v ys has_ended new

  -- One more item in front.
  one_more : (s t : S) (v w : V) (c d : C) (y : Option Y) (ys zs : List Y) (has_ended : Bool) (new : Sifted S V) → Takes polls done sifts s v c y t w d → ys ≡ cons_option y zs → From t w zs has_ended new → From s v ys has_ended new
  one_more s t v w c d y ys zs has_ended new taken first later = record {
    count = suc later.count;
    items = taken.item ∷ later.items;
    below = later.below;
    given = (Ready (Some taken.item), t, record { before = c; after = d; polled = taken.polled }, (later.items, refl, later.given));
    sifted = (taken.unfinished, y, w, taken.sifted, zs, first, later.sifted);
    ends = later.ends;
  }

  passed_before : (n : ℕ) (s t : S) (v w : V) (c d : C) (ys : List Y) (has_ended : Bool) (new : Sifted S V) → Passes polls done sifts n s v c t w d → From t w ys has_ended new → From s v ys has_ended new
  passed_before zero s t v w c d ys has_ended new (same, still, kept) later = subst (λ k. From s k ys has_ended new) still (subst (λ r. From r w ys has_ended new) same later)
  passed_before (suc n) s t v w c d ys has_ended new (u, k, e, taken, rest) later = one_more s u v k c e None ys ys has_ended new taken refl (passed_before n u t k w e d ys has_ended new rest later)

  -- No item, after no poll, one that ended, or one that waits.
  nothing : (s : S) (v : V) (ys : List Y) (has_ended : Bool) (new : Sifted S V) → ys ≡ [] → has_ended ≡ false → new.stream ≡ s → new.sieve ≡ v → From s v ys has_ended new
  nothing s v ys has_ended new none unended same alike = record {
    count = zero;
    items = [];
    below = false;
    given = (refl, refl, same);
    sifted = (none, alike);
    ends = record { if_below = λ e. false_true e; only_so = λ e. false_true (sym unended ∙ e) };
  }

  is_done : (s : S) (v : V) (ys : List Y) (has_ended : Bool) (new : Sifted S V) → ys ≡ [] → done v ≡ true → new.stream ≡ s → new.sieve ≡ v → From s v ys has_ended new
  is_done s v ys has_ended new none over same alike = record {
    count = zero;
    items = [];
    below = false;
    given = (refl, refl, same);
    sifted = (none, alike);
    ends = record { if_below = λ e. false_true e; only_so = λ e. inr (ap done alike ∙ over) };
  }

  has_ended_below : (s : S) (v : V) (c d : C) (ys : List Y) (has_ended : Bool) (mid new : Sifted S V) → polls s c (Ready None) mid.stream d → mid.sieve ≡ v → ys ≡ [] → has_ended ≡ true → new ≡ mid → From s v ys has_ended new
  has_ended_below s v c d ys has_ended mid new polled still none over same = record {
    count = suc zero;
    items = [];
    below = true;
    given = (Ready None, mid.stream, record { before = c; after = d; polled = polled }, (refl, refl, ap (λ m. m.stream) same));
    sifted = (none, ap (λ m. m.sieve) same ∙ still);
    ends = record { if_below = λ e. over; only_so = λ e. inl refl };
  }

  waits : (s t : S) (v : V) (c d : C) (ys : List Y) (has_ended : Bool) (new : Sifted S V) → polls s c Pending t d → From t v ys has_ended new → From s v ys has_ended new
  waits s t v c d ys has_ended new polled later = record {
    count = suc later.count;
    items = later.items;
    below = later.below;
    given = (Pending, t, record { before = c; after = d; polled = polled }, later.given);
    sifted = later.sifted;
    ends = later.ends;
  }

  module _ (number : C → ℕ) (wakes : C → ℕ → Result Woke TaskError → C → Type 0) where
    abbrev Polled : Sifted S V → C → Poll (Option Y) → Sifted S V → C → Type 0
    Polled = SiftedPolls polls done sifts number wakes

    abbrev Later : ℕ → Sifted S V → Bool → Sifted S V → Type 0
    Later n mid has_ended new = (zs : List Y) → Gives Polled n mid zs has_ended new → From mid.stream mid.sieve zs has_ended new

    -- By why the poll stopped.
    by_outcome : (n count : ℕ) (outcome : Outcome Y) (s : S) (v : V) (c m d : C) (r : Poll (Option Y)) (mid new : Sifted S V) (ys : List Y) (has_ended : Bool) → Stops polls done sifts outcome count s v c mid.stream mid.sieve m
        → AfterSifted polls done sifts number wakes outcome m r d → Later n mid has_ended new → After r mid (Gives Polled n mid) ys has_ended new → From s v ys has_ended new
    by_outcome n count (Found y) s v c m d r mid new ys has_ended (few, taken) (is, still) later after =
        let (zs, first, given) = subst (λ q. After q mid (Gives Polled n mid) ys has_ended new) is after in
        one_more s mid.stream v mid.sieve c m (Some y) ys zs has_ended new taken first (later zs given)
    by_outcome n count Done s v c m d r mid new ys has_ended (few, over, same, alike, kept) (is, still) later after =
        let (none, ended, last) = subst (λ q. After q mid (Gives Polled n mid) ys has_ended new) is after in
        is_done s v ys has_ended new none over (ap (λ m. m.stream) last ∙ same) (ap (λ m. m.sieve) last ∙ alike)
    by_outcome n count Ended s v c m d r mid new ys has_ended (few, unfinished, polled, alike) (is, still) later after =
        let (none, ended, last) = subst (λ q. After q mid (Gives Polled n mid) ys has_ended new) is after in
        has_ended_below s v c m ys has_ended mid new polled alike none ended last
    by_outcome n count Waits s v c m d r mid new ys has_ended (few, unfinished, polled, alike) (is, still) later after =
        waits s mid.stream v c m ys has_ended new polled
        (subst (λ k. From mid.stream k ys has_ended new) alike (later ys (subst (λ q. After q mid (Gives Polled n mid) ys has_ended new) is after)))
    by_outcome n count Many s v c m d r mid new ys has_ended (all, same, alike, kept) (is, woke) later after =
        subst (λ k. From s k ys has_ended new) alike
        (subst (λ t. From t mid.sieve ys has_ended new) same (later ys (subst (λ q. After q mid (Gives Polled n mid) ys has_ended new) is after)))

    pub sifts_items : (n : ℕ) (old : Sifted S V) (ys : List Y) (has_ended : Bool) (new : Sifted S V) → Gives Polled n old ys has_ended new → From old.stream old.sieve ys has_ended new
    sifts_items zero old ys has_ended new (none, unended, same) = nothing old.stream old.sieve ys has_ended new none unended (ap (λ m. m.stream) same) (ap (λ m. m.sieve) same)
    sifts_items (suc n) old ys has_ended new (r, mid, polled, after) =
        let sifted = polled.polled.taken in
        passed_before sifted.count old.stream sifted.before old.sieve sifted.sieve polled.before sifted.middle ys has_ended new sifted.passed
        (by_outcome n sifted.count polled.polled.outcome sifted.before sifted.sieve sifted.middle polled.polled.middle polled.after r mid new ys has_ended sifted.stops polled.polled.after (λ zs. sifts_items n mid zs has_ended new) after)
