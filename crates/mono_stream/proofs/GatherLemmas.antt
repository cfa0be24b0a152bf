-- The items of a stream that a future gathers.
use Rattle.std.proofs.Common.{◌≡◌, ℕ, zero, suc, Bool, true, false, List, [], ◌∷◌, ◌++◌, Option, Some, None, refl, sym, ap, subst, ◌∙◌}
use Rattle.std.specs.Prelude.{Result, Ok, Err}
use Rattle.std.specs.Fn.{Mut}
use Rattle.std.specs.Global.{Vec}
use Rattle.std.proofs.lemmas.List.{append_assoc, append-nil}
use Rattle.mono_model.specs.declared.Woke.{Woke}
use Rattle.mono_model.specs.declared.task_error.TaskError.{TaskError}
use Rattle.mono_model.specs.declared.poll.Poll.{Poll}
use Rattle.mono_model.specs.declared.poll.Poll.TheVariants.{Ready, Pending}
use Rattle.mono_stream.specs.Sifts.{Takes, Passes, Stops}
use Rattle.mono_stream.specs.Folds.{FoldSifts, FoldingSifts, AfterFolded, FoldPolls}
use Rattle.mono_stream.specs.Collects.{CollectingSifts, AfterCollected, CollectPolls}
use Rattle.mono_stream.specs.GatheredItems.{Outputs, FoldsItems, AreCollected, CollectsItems}
use Rattle.mono_stream.specs.declared.collects.Collect.{Collect}
use Rattle.mono_stream.specs.declared.collects.Collecting.{Collecting}
use Rattle.mono_stream.specs.declared.collects.Uncollected.{Uncollected}
use Rattle.mono_stream.specs.declared.folds.Fold.{Fold}
use Rattle.mono_stream.specs.declared.folds.Folding.{Folding}
use Rattle.mono_stream.specs.declared.sifts.Outcome.{Outcome}
use Rattle.mono_stream.specs.declared.sifts.Outcome.TheVariants.{Found, Done, Ended, Waits, Many}

some_inj : {T : Type 0} (t u : T) → Some t ≡ Some u → t ≡ u
some_inj t u e = cc

ready_inj : {T : Type 0} (t u : T) → Ready t ≡ Ready u → t ≡ u
ready_inj t u e = cc

not_ready : {P T : Type 0} (t : T) → Ready t ≡ Pending → P
not_ready t e = absurd (cc)

not_pending : {P T : Type 0} (t : T) → Pending ≡ Ready t → P
not_pending t e = absurd (cc)

-- ---- fold

module _ {S F C T X : Type 0} (polls : S → C → Poll (Option X) → S → C → Type 0) (call : Mut F (T × (X × Unit {0})) T) where
  abbrev From : S → F → T → T → Type 0
  From s f t last = FoldsItems polls call s f t last

  abbrev never : Folding T F → Bool
  never v = false

  -- What the folding leads to, by what it leads to later.
  record Leads (s t : S) (v w : Folding T F) (a : T) : Type 0 where
    value : T
    has : w.value ≡ Some value
    leads : (last : T) → From t w.f value last → From s v.f a last

  takes : (s t : S) (v w : Folding T F) (c d : C) (y : Option (Unit {0})) (a : T) → v.value ≡ Some a → Takes polls never (FoldingSifts call) s v c y t w d → Leads s t v w a
  takes s t v w c d y a is taken =
      let (u, called, has, none) = subst (λ o. FoldSifts call o v.f taken.item y w.value w.f) is taken.sifted in
      record {
        value = u;
        has = has;
        leads = λ last later. record {
          count = suc later.count;
          items = taken.item ∷ later.items;
          left = later.left;
          given = (Ready (Some taken.item), t, record { before = c; after = d; polled = taken.polled }, (later.items, refl, later.given));
          after = later.after;
          folded = ((w.f, u), called, later.folded);
        };
      }

  passes : (n : ℕ) (s t : S) (v w : Folding T F) (c d : C) (a : T) → v.value ≡ Some a → Passes polls never (FoldingSifts call) n s v c t w d → Leads s t v w a
  passes zero s t v w c d a is (same, still, kept) = record {
    value = a;
    has = ap (λ k. k.value) still ∙ is;
    leads = λ last later. subst (λ k. From s k.f a last) still (subst (λ r. From r w.f a last) same later);
  }
  passes (suc n) s t v w c d a is (u, k, e, taken, rest) =
      let first = takes s u v k c e None a is taken in
      let more = passes n u t k w e d first.value first.has rest in
      record { value = more.value; has = more.has; leads = λ last later. first.leads last (more.leads last later) }

  ends_here : (s t : S) (f : F) (c d : C) (a last : T) → polls s c (Ready None) t d → a ≡ last → From s f a last
  ends_here s t f c d a last polled same = record {
    count = suc zero;
    items = [];
    left = t;
    given = (Ready None, t, record { before = c; after = d; polled = polled }, (refl, refl, refl));
    after = f;
    folded = ap (λ x. (f, x)) same;
  }

  waits_here : (s t : S) (f : F) (c d : C) (a last : T) → polls s c Pending t d → From t f a last → From s f a last
  waits_here s t f c d a last polled later = record {
    count = suc later.count;
    items = later.items;
    left = later.left;
    given = (Pending, t, record { before = c; after = d; polled = polled }, later.given);
    after = later.after;
    folded = later.folded;
  }

  module _ (number : C → ℕ) (wakes : C → ℕ → Result Woke TaskError → C → Type 0) where
    last_poll : (outcome : Outcome (Unit {0})) (n : ℕ) (s t : S) (v w : Folding T F) (c m d : C) (a last : T) (left : Option T) → v.value ≡ Some a → Stops polls never (FoldingSifts call) outcome n s v c t w m → AfterFolded number wakes outcome w.value m (Ready last) left d → From s v.f a last
    last_poll (Found y) n s t v w c m d a last left is stops never_so = absurd never_so
    last_poll Done n s t v w c m d a last left is stops never_so = absurd never_so
    last_poll Ended n s t v w c m d a last left is (few, unfinished, polled, same) ((b, has, ready), gone, still) =
        ends_here s t v.f c m a last polled (some_inj a b (sym is ∙ ap (λ k. k.value) (sym same) ∙ has) ∙ sym (ready_inj last b ready))
    last_poll Waits n s t v w c m d a last left is stops (ready, stays, still) = not_ready last ready
    last_poll Many n s t v w c m d a last left is stops (ready, stays, still) = not_ready last ready

    -- A poll that waits.
    record Goes (s t : S) (v : Folding T F) (f : F) (a : T) (value : Option T) : Type 0 where
      b : T
      has : value ≡ Some b
      leads : (last : T) → From t f b last → From s v.f a last

    next_poll : (outcome : Outcome (Unit {0})) (n : ℕ) (s t : S) (v w : Folding T F) (f : F) (c m d : C) (a : T) (left : Option T) → v.value ≡ Some a → f ≡ w.f → Stops polls never (FoldingSifts call) outcome n s v c t w m → AfterFolded number wakes outcome w.value m Pending left d
        → Goes s t v f a left
    next_poll (Found y) n s t v w f c m d a left is kept stops never_so = absurd never_so
    next_poll Done n s t v w f c m d a left is kept stops never_so = absurd never_so
    next_poll Ended n s t v w f c m d a left is kept stops ((b, has, ready), gone, still) = not_pending b ready
    next_poll Waits n s t v w f c m d a left is kept (few, unfinished, polled, same) (pending, stays, still) = record {
      b = a;
      has = stays ∙ ap (λ k. k.value) same ∙ is;
      leads = λ last later. waits_here s t v.f c m a last polled (subst (λ g. From t g a last) (kept ∙ ap (λ k. k.f) same) later);
    }
    next_poll Many n s t v w f c m d a left is kept (all, alike, same, rest) (pending, stays, woke) = record {
      b = a;
      has = stays ∙ ap (λ k. k.value) same ∙ is;
      leads = λ last later. subst (λ g. From s g a last) (kept ∙ ap (λ k. k.f) same) (subst (λ r. From r f a last) alike later);
    }

    pub folds : (n : ℕ) (old : Fold S T F) (first last : T) → old.folding.value ≡ Some first → Outputs (FoldPolls polls call number wakes) n old last → From old.stream old.folding.f first last
    folds zero old first last is (new, tried) =
        let p = tried.polled in
        let s = p.taken in
        let before = passes s.count old.stream s.before old.folding s.sieve tried.before s.middle first is s.passed in
        before.leads last (last_poll p.outcome s.count s.before new.stream s.sieve p.folded s.middle p.middle tried.after before.value last new.folding.value before.has s.stops p.after)
    folds (suc n) old first last is (left, tried, more) =
        let p = tried.polled in
        let s = p.taken in
        let before = passes s.count old.stream s.before old.folding s.sieve tried.before s.middle first is s.passed in
        let goes = next_poll p.outcome s.count s.before left.stream s.sieve p.folded left.folding.f s.middle p.middle tried.after before.value left.folding.value before.has p.same s.stops p.after in
        before.leads last (goes.leads last (folds n left goes.b last goes.has more))

-- ---- collect

module _ {S C X : Type 0} (polls : S → C → Poll (Option X) → S → C → Type 0) where
  abbrev Of : S → List X → Result (Vec X) (Uncollected X) → Type 0
  Of s before answer = CollectsItems polls s before answer

  abbrev never_done : Collecting X → Bool
  never_done v = false

  kept_one : (s t : S) (v w : Collecting X) (c d : C) (answer : Result (Vec X) (Uncollected X)) → Takes polls never_done CollectingSifts s v c None t w d → Of t w.items.items answer → Of s v.items.items answer
  kept_one s t v w c d answer taken later = record {
    count = suc later.count;
    items = taken.item ∷ later.items;
    has_ended = later.has_ended;
    left = later.left;
    given = (Ready (Some taken.item), t, record { before = c; after = d; polled = taken.polled }, (later.items, refl, later.given));
    are = subst (λ l. AreCollected answer l later.has_ended)
        (ap (λ l. l ++ later.items) taken.sifted ∙ append_assoc v.items.items (taken.item ∷ []) later.items) later.are;
  }

  kept : (n : ℕ) (s t : S) (v w : Collecting X) (c d : C) (answer : Result (Vec X) (Uncollected X)) → Passes polls never_done CollectingSifts n s v c t w d → Of t w.items.items answer → Of s v.items.items answer
  kept zero s t v w c d answer (same, still, stays) later = subst (λ k. Of s k.items.items answer) still (subst (λ r. Of r w.items.items answer) same later)
  kept (suc n) s t v w c d answer (u, k, e, taken, rest) later = kept_one s u v k c e answer taken (kept n u t k w e d answer rest later)

  module _ (number : C → ℕ) (wakes : C → ℕ → Result Woke TaskError → C → Type 0) where
    answers : (outcome : Outcome X) (n : ℕ) (s t : S) (v w : Collecting X) (c m d : C) (answer : Result (Vec X) (Uncollected X)) (left : Vec X) (ended : Bool) → Stops polls never_done CollectingSifts outcome n s v c t w m
        → AfterCollected number wakes outcome w.items m (Ready answer) left ended d → Of s v.items.items answer
    answers (Found y) n s t v w c m d answer left ended (few, taken) (ready, over, still) =
        let is : answer ≡ Err (record { items = w.items; refused = y }) = ready_inj answer (Err (record { items = w.items; refused = y })) ready in
        let (same, stays) = taken.sifted in
        record {
          count = suc zero;
          items = taken.item ∷ [];
          has_ended = false;
          left = t;
          given = (Ready (Some taken.item), t, record { before = c; after = m; polled = taken.polled }, ([], refl, (refl, refl, refl)));
          are = subst (λ a. AreCollected a (v.items.items ++ taken.item ∷ []) false) (sym is) (ap (λ l. l ++ y ∷ []) stays ∙ ap (λ z. v.items.items ++ z ∷ []) same, refl);
        }
    answers Done n s t v w c m d answer left ended stops never_so = absurd never_so
    answers Ended n s t v w c m d answer left ended (few, unfinished, polled, same) (ready, over, still) =
        let is : answer ≡ Ok w.items = ready_inj answer (Ok w.items) ready in
        record {
          count = suc zero;
          items = [];
          has_ended = true;
          left = t;
          given = (Ready None, t, record { before = c; after = m; polled = polled }, (refl, refl, refl));
          are = subst (λ a. AreCollected a (v.items.items ++ []) true) (sym is) (ap (λ k. k.items.items) same ∙ sym (append-nil v.items.items), refl);
        }
    answers Waits n s t v w c m d answer left ended stops (ready, stays, over, still) = not_ready answer ready
    answers Many n s t v w c m d answer left ended stops (ready, stays, over, still) = not_ready answer ready

    goes_on : (outcome : Outcome X) (n : ℕ) (s t : S) (v w : Collecting X) (c m d : C) (answer : Result (Vec X) (Uncollected X)) (left : Vec X) (ended : Bool) → Stops polls never_done CollectingSifts outcome n s v c t w m
        → AfterCollected number wakes outcome w.items m Pending left ended d → Of t left.items answer → Of s v.items.items answer
    goes_on (Found y) n s t v w c m d answer left ended stops (ready, over, still) later = not_pending (Err (record { items = w.items; refused = y })) ready
    goes_on Done n s t v w c m d answer left ended stops never_so later = absurd never_so
    goes_on Ended n s t v w c m d answer left ended stops (ready, over, still) later = not_pending (Ok w.items) ready
    goes_on Waits n s t v w c m d answer left ended (few, unfinished, polled, same) (pending, stays, over, still_open) later =
        let from = subst (λ l. Of t l.items answer) (stays ∙ ap (λ k. k.items) same) later in
        record {
          count = suc from.count;
          items = from.items;
          has_ended = from.has_ended;
          left = from.left;
          given = (Pending, t, record { before = c; after = m; polled = polled }, from.given);
          are = from.are;
        }
    goes_on Many n s t v w c m d answer left ended (all, alike, same, still) (pending, stays, over, still_open) later =
        subst (λ r. Of r v.items.items answer) alike (subst (λ l. Of t l.items answer) (stays ∙ ap (λ k. k.items) same) later)

    pub collects : (n : ℕ) (old : Collect S X) (answer : Result (Vec X) (Uncollected X)) → Outputs (CollectPolls polls number wakes) n old answer → Of old.stream old.collecting.items.items answer
    collects zero old answer (new, tried) =
        let p = tried.polled in
        let s = p.taken in
        kept s.count old.stream s.before old.collecting s.sieve tried.before s.middle answer s.passed
        (answers p.outcome s.count s.before new.stream s.sieve p.collected s.middle p.middle tried.after answer new.collecting.items new.has_ended s.stops p.after)
    collects (suc n) old answer (left, tried, more) =
        let p = tried.polled in
        let s = p.taken in
        kept s.count old.stream s.before old.collecting s.sieve tried.before s.middle answer s.passed
        (goes_on p.outcome s.count s.before left.stream s.sieve p.collected s.middle p.middle tried.after answer left.collecting.items left.has_ended s.stops p.after (collects n left answer more))
