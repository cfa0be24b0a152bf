-- The items that streams give over consecutive polls.
use Rattle.std.proofs.Common.{◌≡◌, ℕ, zero, suc, Bool, true, false, List, [], ◌∷◌, Option, Some, None, refl, sym, ap, subst, ◌∙◌}
use Rattle.std.specs.Prelude.{⊤}
use Rattle.std.specs.Fn.{Mut, Called}
use Rattle.mono_task.specs.Members.{FutureOf}
use Rattle.mono_model.specs.declared.poll.Poll.{Poll}
use Rattle.mono_model.specs.declared.poll.Poll.TheVariants.{Ready, Pending}
use Rattle.mono_stream.specs.Members.{StreamOf}
use Rattle.mono_stream.specs.Maps.{MapPolls, Answers}
use Rattle.mono_stream.specs.Chains.{ThenPolls, Finishes, AfterPoll, AfterNext, ByMade}
use Rattle.mono_stream.specs.ForEaches.{Polls, Items, Last, Handles}
use Rattle.mono_stream.specs.Iterators.{IterPolls}
use Rattle.mono_stream.specs.Items.{After, IsPolled, Gives, AreImages, IsTried, HasOutput, StillWaits, AreOutputs, AreNext, blank, is_end, polls_for}
use Rattle.mono_stream.specs.declared.maps.Map.{Map}
use Rattle.mono_stream.specs.declared.chains.Then.{Then}
use Rattle.mono_stream.specs.declared.iterate.Iter.{Iter}
use Rattle.mono_stream.specs.declared.for_each.Stop.{Stop}
use Rattle.mono_stream.specs.declared.for_each.Stop.TheVariants.{Ended, Waits, Many}

-- ---- mapped

module _ {S F C X Y : Type 0} (stream : StreamOf S C X) (call : Mut F (X × Unit {0}) Y) where
  abbrev Mapped : ℕ → S → F → List Y → Bool → S → F → Type 0
  Mapped n s f ys has_ended t g = (items : List X) × Gives stream.polls n s items has_ended t × AreImages call f items ys g

  -- One more poll in front, by the answers of the stream and then of the closure.
  one_more : (n : ℕ) (old mid new : Map S F) (answer : Poll (Option X)) (r : Poll (Option Y)) (ys : List Y) (has_ended : Bool) → IsPolled stream.polls old.stream answer mid.stream → Answers call answer old.f r mid.f
      → ((zs : List Y) → Gives (MapPolls stream call) n mid zs has_ended new → Mapped n mid.stream mid.f zs has_ended new.stream new.f)
      → After r mid (Gives (MapPolls stream call) n mid) ys has_ended new → Mapped (suc n) old.stream old.f ys has_ended new.stream new.f
  one_more n old mid new (Ready (Some x)) r ys has_ended polled (y, called, is) later after =
      let (zs, first, given) = subst (λ q. After q mid (Gives (MapPolls stream call) n mid) ys has_ended new) is after in
      let (items, gives, images) = later zs given in
      (x ∷ items, (Ready (Some x), mid.stream, polled, (items, refl, gives)), subst (λ l. AreImages call old.f (x ∷ items) l new.f) (sym first) (mid.f, called, images))
  one_more n old mid new (Ready None) r ys has_ended polled (is, same) later after =
      let (none, ended, last) = subst (λ q. After q mid (Gives (MapPolls stream call) n mid) ys has_ended new) is after in
      ([], (Ready None, mid.stream, polled, (refl, ended, ap (λ m. m.stream) last)), subst (λ l. AreImages call old.f [] l new.f) (sym none) (ap (λ m. m.f) last ∙ same))
  one_more n old mid new Pending r ys has_ended polled (is, same) later after =
      let (items, gives, images) = later ys (subst (λ q. After q mid (Gives (MapPolls stream call) n mid) ys has_ended new) is after) in
      (items, (Pending, mid.stream, polled, gives), subst (λ f. AreImages call f items ys new.f) same images)

  pub maps : (n : ℕ) (old : Map S F) (ys : List Y) (has_ended : Bool) (new : Map S F) → Gives (MapPolls stream call) n old ys has_ended new
      → (items : List X) × Gives stream.polls n old.stream items has_ended new.stream × AreImages call old.f items ys new.f
  maps zero old ys has_ended new (none, unended, same) =
      ([], (refl, unended, ap (λ m. m.stream) same), subst (λ l. AreImages call old.f [] l new.f) (sym none) (ap (λ m. m.f) same))
  maps (suc n) old ys has_ended new (r, mid, polled, after) =
      one_more n old mid new polled.polled.answer r ys has_ended (record { before = polled.before; after = polled.after; polled = polled.polled.polled })
      polled.polled.answers (λ zs. maps n mid zs has_ended new) after

-- ---- an iterator's

module _ (C : Type 0) {I X : Type 0} (next : I → Option X → I → Type 0) where
  abbrev Next : Iter I → C → Poll (Option X) → Iter I → C → Type 0
  Next s c r t d = IterPolls next s.iterator c r t.iterator d

  one_next : (n : ℕ) (old mid new : Iter I) (item : Option X) (xs : List X) (has_ended : Bool) → next old.iterator item mid.iterator
      → ((zs : List X) → Gives Next n mid zs has_ended new → AreNext next mid.iterator zs has_ended new.iterator)
      → After (Ready item) mid (Gives Next n mid) xs has_ended new → AreNext next old.iterator xs has_ended new.iterator
  one_next n old mid new (Some x) xs has_ended gives later (zs, first, given) =
      subst (λ l. AreNext next old.iterator l has_ended new.iterator) (sym first) (mid.iterator, gives, later zs given)
  one_next n old mid new None xs has_ended gives later (none, ended, last) =
      subst (λ l. AreNext next old.iterator l has_ended new.iterator) (sym none) (subst (λ b. AreNext next old.iterator [] b new.iterator) (sym ended) (subst (λ i. next old.iterator None i.iterator) (sym last) gives))

  pub nexts : (n : ℕ) (old : Iter I) (xs : List X) (has_ended : Bool) (new : Iter I) → Gives Next n old xs has_ended new → AreNext next old.iterator xs has_ended new.iterator
  nexts zero old xs has_ended new (none, unended, same) =
      subst (λ l. AreNext next old.iterator l has_ended new.iterator) (sym none) (subst (λ b. AreNext next old.iterator [] b new.iterator) (sym unended) (ap (λ i. i.iterator) same))
  nexts (suc n) old xs has_ended new (r, mid, polled, after) =
      let (item, gives, is, same) = polled.polled in
      one_next n old mid new item xs has_ended gives (λ zs. nexts n mid zs has_ended new) (subst (λ q. After q mid (Gives Next n mid) xs has_ended new) is after)

-- ---- handled ones

module _ {S C : Type 0} (polls : Polls S C) where
  one : (s : S) (c : C) (r : Poll (Option ⊤)) (t : S) (d : C) → polls s c r t d → IsPolled polls s r t
  one s c r t d polled = record { before = c; after = d; polled = polled }

  to_the_end : (n : ℕ) (s : S) (c : C) (before : S) (middle : C) (new : S) (d : C) → Items polls n s c before middle → polls before middle (Ready None) new d → Gives polls (suc n) s (blank n) true new
  to_the_end zero s c before middle new d (same, still) last = (Ready None, new, one s c (Ready None) new d (subst (λ x. polls x c (Ready None) new d) same (subst (λ x. polls before x (Ready None) new d) still last)), (refl, refl, refl))
  to_the_end (suc n) s c before middle new d (u, e, polled, rest) last = (Ready (Some tt), u, one s c (Ready (Some tt)) u e polled, (blank n, refl, to_the_end n u e before middle new d rest last))

  to_a_wait : (n : ℕ) (s : S) (c : C) (before : S) (middle : C) (new : S) (d : C) → Items polls n s c before middle → polls before middle Pending new d → Gives polls (suc n) s (blank n) false new
  to_a_wait zero s c before middle new d (same, still) last = (Pending, new, one s c Pending new d (subst (λ x. polls x c Pending new d) same (subst (λ x. polls before x Pending new d) still last)), (refl, refl, refl))
  to_a_wait (suc n) s c before middle new d (u, e, polled, rest) last = (Ready (Some tt), u, one s c (Ready (Some tt)) u e polled, (blank n, refl, to_a_wait n u e before middle new d rest last))

  enough : (n : ℕ) (s : S) (c : C) (new : S) (d : C) → Items polls n s c new d → Gives polls n s (blank n) false new
  enough zero s c new d (same, still) = (refl, refl, same)
  enough (suc n) s c new d (u, e, polled, rest) = (Ready (Some tt), u, one s c (Ready (Some tt)) u e polled, (blank n, refl, enough n u e new d rest))

  by_stop : (stop : Stop) (n : ℕ) (s : S) (c : C) (before : S) (middle : C) (new : S) (d : C) → Items polls n s c before middle → Last polls stop n before middle new d → Gives polls (polls_for stop n) s (blank n) (is_end stop) new
  by_stop Ended n s c before middle new d items (few, last) = to_the_end n s c before middle new d items last
  by_stop Waits n s c before middle new d items (few, last) = to_a_wait n s c before middle new d items last
  by_stop Many n s c before middle new d items (all, same, still) = subst (λ x. Gives polls n s (blank n) false x) (sym same) (enough n s c before middle items)

  pub handles : (old : S) (c : C) (stop : Stop) (new : S) (d : C) → Handles polls old c stop new d → (n : ℕ) × Gives polls (polls_for stop n) old (blank n) (is_end stop) new
  handles old c stop new d h = (h.count, by_stop stop h.count old c h.before h.middle new d h.items h.last)

-- ---- chained

module _ {F Fut C X Y : Type 0} (future : FutureOf Fut C Y) (call : Mut F (X × Unit {0}) Fut) where
  -- a future is there: its output comes first, or it is waited for
  abbrev FromHeld : Fut → F → List X → List Y → Option Fut → F → Type 0
  FromHeld g f xs (y ∷ ys) made f' = HasOutput future g y × AreOutputs future call f xs ys made f'
  FromHeld g f [] [] (Some left) f' = StillWaits future g left × (f' ≡ f)
  FromHeld g f [] [] None f' = ⊥
  FromHeld g f (x ∷ xs) [] made f' = ⊥

  abbrev From : Option Fut → F → List X → List Y → Option Fut → F → Type 0
  From (Some g) f xs ys made f' = FromHeld g f xs ys made f'
  From None f xs ys made f' = AreOutputs future call f xs ys made f'

  nothing_yet : (made : Option Fut) (f : F) → From made f [] [] made f
  nothing_yet None f = refl
  nothing_yet (Some g) f = (record { count = zero; waited = refl }, refl)

  waits_longer : (g left : Fut) (f : F) (xs : List X) (ys : List Y) (made : Option Fut) (f' : F) → IsTried future g Pending left → FromHeld left f xs ys made f' → FromHeld g f xs ys made f'
  waits_longer g left f xs (y ∷ ys) made f' tried (output, rest) =
      (record { count = suc output.count; waiting = output.waiting; waited = (left, tried, output.waited); left = output.left; ready = output.ready }, rest)
  waits_longer g left f [] [] (Some last) f' tried (waits, same) = (record { count = suc waits.count; waited = (left, tried, waits.waited) }, same)
  waits_longer g left f [] [] None f' tried never = absurd never
  waits_longer g left f (x ∷ xs) [] made f' tried never = absurd never

  -- the closure made the future of an item
  is_made : (f h : F) (x : X) (g : Fut) (xs : List X) (ys : List Y) (made : Option Fut) (f' : F) → Called call f (x, tt) g h → FromHeld g h xs ys made f' → AreOutputs future call f (x ∷ xs) ys made f'
  is_made f h x g xs (y ∷ ys) made f' called (output, rest) = (g, h, called, output, rest)
  is_made f h x g [] [] (Some left) f' called (waits, same) = (g, subst (λ k. Called call f (x, tt) g k) (sym same) called, waits)
  is_made f h x g [] [] None f' called never = absurd never
  is_made f h x g (z ∷ xs) [] made f' called never = absurd never

module _ {S F Fut C X Y : Type 0} (stream : StreamOf S C X) (future : FutureOf Fut C Y) (call : Mut F (X × Unit {0}) Fut) where
  abbrev Chained : Option Fut → S → F → List Y → Bool → Then S F Fut → Type 0
  Chained made s f ys has_ended new = (count : ℕ) × (items : List X) × Gives stream.polls count s items has_ended new.stream × From future call made f items ys new.made new.f

  abbrev Later : ℕ → Then S F Fut → Bool → Then S F Fut → Type 0
  Later n mid has_ended new = (zs : List Y) → Gives (ThenPolls stream future call) n mid zs has_ended new → Chained mid.made mid.stream mid.f zs has_ended new

  -- a future is polled, by its answer
  goes_on : (n : ℕ) (mid new : Then S F Fut) (g left : Fut) (c e d : C) (answer : Poll Y) (r : Poll (Option Y)) (ys : List Y) (has_ended : Bool) → future.polls g c answer left e → AfterPoll future answer left e r mid.made d
      → Later n mid has_ended new → After r mid (Gives (ThenPolls stream future call) n mid) ys has_ended new → Chained (Some g) mid.stream mid.f ys has_ended new
  goes_on n mid new g left c e d (Ready y) r ys has_ended polled (cancelled, is, gone) later after =
      let (zs, first, given) = subst (λ q. After q mid (Gives (ThenPolls stream future call) n mid) ys has_ended new) is after in
      let (count, items, gives, outputs) = later zs given in (
        count,
        items,
        gives,
        subst (λ l. FromHeld future call g mid.f items l new.made new.f) (sym first)
            (record { count = zero; waiting = g; waited = refl; left = left; ready = record { before = c; after = e; polled = polled } }, subst (λ made. From future call made mid.f items zs new.made new.f) gone outputs),
      )
  goes_on n mid new g left c e d Pending r ys has_ended polled (is, there, still) later after =
      let (count, items, gives, outputs) = later ys (subst (λ q. After q mid (Gives (ThenPolls stream future call) n mid) ys has_ended new) is after) in (
        count,
        items,
        gives,
        waits_longer future call g left mid.f items ys new.made new.f (record { before = c; after = e; polled = polled })
            (subst (λ made. From future call made mid.f items ys new.made new.f) there outputs),
      )

  finishes : (n : ℕ) (mid new : Then S F Fut) (g : Fut) (c d : C) (r : Poll (Option Y)) (ys : List Y) (has_ended : Bool) → Finishes future g c r mid.made d → Later n mid has_ended new
      → After r mid (Gives (ThenPolls stream future call) n mid) ys has_ended new → Chained (Some g) mid.stream mid.f ys has_ended new
  finishes n mid new g c d r ys has_ended done later after = goes_on n mid new g done.left c done.middle d done.answer r ys has_ended done.polled done.rest later after

  -- The next item is taken, by the stream's answer.
  takes : (n : ℕ) (old mid new : Then S F Fut) (answer : Poll (Option X)) (e d : C) (r : Poll (Option Y)) (ys : List Y) (has_ended : Bool) → IsPolled stream.polls old.stream answer mid.stream
      → AfterNext future call answer old.f e r mid.f mid.made d → Later n mid has_ended new → After r mid (Gives (ThenPolls stream future call) n mid) ys has_ended new → Chained None old.stream old.f ys has_ended new
  takes n old mid new (Ready (Some x)) e d r ys has_ended polled (g, called, done) later after =
      let (count, items, gives, outputs) = finishes n mid new g e d r ys has_ended done later after in
      (suc count, x ∷ items, (Ready (Some x), mid.stream, polled, (items, refl, gives)), is_made future call old.f mid.f x g items ys new.made new.f called outputs)
  takes n old mid new (Ready None) e d r ys has_ended polled (is, same, none, still) later after =
      let (no_more, ended, last) = subst (λ q. After q mid (Gives (ThenPolls stream future call) n mid) ys has_ended new) is after in (
        suc zero,
        [],
        (Ready None, mid.stream, polled, (refl, ended, ap (λ t. t.stream) last)),
        subst (λ l. AreOutputs future call old.f [] l new.made new.f) (sym no_more)
            (subst (λ made. AreOutputs future call old.f [] [] made new.f) (sym (ap (λ t. t.made) last ∙ none)) (ap (λ t. t.f) last ∙ same)),
      )
  takes n old mid new Pending e d r ys has_ended polled (is, same, none, still) later after =
      let (count, items, gives, outputs) = later ys (subst (λ q. After q mid (Gives (ThenPolls stream future call) n mid) ys has_ended new) is after) in (
        suc count,
        items,
        (Pending, mid.stream, polled, gives),
        subst (λ f. AreOutputs future call f items ys new.made new.f) same (subst (λ made. From future call made mid.f items ys new.made new.f) none outputs),
      )

  by_made : (n : ℕ) (made : Option Fut) (old mid new : Then S F Fut) (c d : C) (r : Poll (Option Y)) (ys : List Y) (has_ended : Bool) → ByMade stream future call made old c r mid d → Later n mid has_ended new
      → After r mid (Gives (ThenPolls stream future call) n mid) ys has_ended new → Chained made old.stream old.f ys has_ended new
  by_made n (Some g) old mid new c d r ys has_ended (done, same, still) later after =
      let (count, items, gives, outputs) = finishes n mid new g c d r ys has_ended done later after in
      (count, items, subst (λ s. Gives stream.polls count s items has_ended new.stream) same gives, subst (λ f. FromHeld future call g f items ys new.made new.f) still outputs)
  by_made n None old mid new c d r ys has_ended next later after =
      takes n old mid new next.answer next.middle d r ys has_ended (record { before = c; after = next.middle; polled = next.polled }) next.rest later after

  chains_from : (n : ℕ) (old : Then S F Fut) (ys : List Y) (has_ended : Bool) (new : Then S F Fut) → Gives (ThenPolls stream future call) n old ys has_ended new → Chained old.made old.stream old.f ys has_ended new
  chains_from zero old ys has_ended new (none, unended, same) = (
    zero,
    [],
    (refl, unended, ap (λ t. t.stream) same),
    subst (λ l. From future call old.made old.f [] l new.made new.f) (sym none)
        (subst (λ t. From future call old.made old.f [] [] t.made t.f) (sym same) (nothing_yet future call old.made old.f)),
  )
  chains_from (suc n) old ys has_ended new (r, mid, polled, after) =
      by_made n old.made old mid new polled.before polled.after r ys has_ended polled.polled (λ zs. chains_from n mid zs has_ended new) after

  pub chains : (n : ℕ) (old : Then S F Fut) (ys : List Y) (has_ended : Bool) (new : Then S F Fut) → old.made ≡ None → Gives (ThenPolls stream future call) n old ys has_ended new
      → (count : ℕ) × (items : List X) × Gives stream.polls count old.stream items has_ended new.stream × AreOutputs future call old.f items ys new.made new.f
  chains n old ys has_ended new none given =
      let (count, items, gives, outputs) = chains_from n old ys has_ended new given in
      (count, items, gives, subst (λ made. From future call made old.f items ys new.made new.f) none outputs)
