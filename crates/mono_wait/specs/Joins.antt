-- The sources of a future that keeps its output, and of a join of two.
use Rattle.std.specs.Prelude.{◌≡◌, ◌⊎◌, ℕ, ⊤, true, false, Option, Some, None}
use Rattle.std.proofs.Common.{inl, inr, sym, ap, ◌∙◌, subst, refl}
use Rattle.mono_model.specs.Tasks.{Tasks}
use Rattle.mono_model.specs.Poll.{is_pending}
use Rattle.mono_model.specs.declared.poll.Poll.{Poll}
use Rattle.mono_model.specs.declared.poll.Poll.TheVariants.{Ready, Pending}
use Rattle.mono_task.specs.Members.{FutureOf}
use Rattle.mono_combine.specs.declared.maybe.MaybeDone.{MaybeDone}
use Rattle.mono_combine.specs.declared.maybe.MaybeDone.TheVariants.{Future, Done, Gone}
use Rattle.mono_combine.specs.declared.joins.Join2.{Join2}
use Rattle.mono_combine.specs.Branches.{Advances, AfterBranch, MaybePolls, MaybeCancels, is_waiting, output_of}
use Rattle.mono_combine.specs.Joins.{JoinPolls, JoinCancels, both}
use Rattle.mono_combine.specs.Rules.{join_rule}
use Rattle.mono_wait.specs.Sources.{Source, Covers, Heard, heard_on, woke_on}

abbrev pub MaybeNeeds : {F O : Type 0} → (F → Source → Type 0) → MaybeDone F O → Source → Type 0
MaybeNeeds needs (Future f) x = needs f x
MaybeNeeds needs (Done output) x = ⊥
MaybeNeeds needs Gone x = ⊥

abbrev pub JoinNeeds : {A B X Y : Type 0} → (A → Source → Type 0) → (B → Source → Type 0) → Join2 A B X Y → Source → Type 0
JoinNeeds a b f x = MaybeNeeds a f.a x ⊎ MaybeNeeds b f.b x

false-true : false ≡ true → ⊥
false-true e = cc

module _ {C F O : Type 0} (future : FutureOf F C O) (reaches : C → C → Type 0) (itself : (c : C) → reaches c c) where
  pub maybe_left : ((f : F) (c d : C) → future.cancels f c d → reaches c d) → (m : MaybeDone F O) (c d : C) → MaybeCancels future m c d → reaches c d
  maybe_left left (Future f) c d p = left f c d p
  maybe_left left (Done x) c d p = subst (reaches c) (sym p) (itself c)
  maybe_left left Gone c d p = subst (reaches c) (sym p) (itself c)

  module _ (on : (a b c : C) → reaches a b → reaches b c → reaches a c) (reach : (f : F) (c : C) (r : Poll O) (g : F) (d : C) → future.polls f c r g d → reaches c d) (left : (f : F) (c d : C) → future.cancels f c d → reaches c d) where
    after_reached : (answer : Poll O) (g : F) (c : C) (n : MaybeDone F O) (d : C) → AfterBranch future answer g c n d → reaches c d
    after_reached (Ready x) g c n d p = left g c d p.0
    after_reached Pending g c n d p = subst (reaches c) (sym p.1) (itself c)

    pub advance_reached : (m : MaybeDone F O) (c : C) (n : MaybeDone F O) (d : C) → Advances future m c n d → reaches c d
    advance_reached (Future f) c n d p = on c p.middle d (reach f c p.answer p.left p.middle p.polled) (after_reached p.answer p.left p.middle n d p.rest)
    advance_reached (Done x) c n d p = subst (reaches c) (sym p.1) (itself c)
    advance_reached Gone c n d p = absurd p

    pub maybe_reached : (m : MaybeDone F O) (c : C) (r : Poll ⊤) (n : MaybeDone F O) (d : C) → MaybePolls future m c r n d → reaches c d
    maybe_reached m c r n d p = advance_reached m c n d p.0

module _ {C F O : Type 0} (future : FutureOf F C O) (number : C → ℕ) (work : C → Tasks ⊤) (reaches : C → C → Type 0) (watcher : C → Source → Option ℕ) (needs : F → Source → Type 0) where
  -- a branch that is left waiting is covered
  abbrev pub MaybeCovers : C → MaybeDone F O → C → Type 0
  MaybeCovers c (Future g) d = Covers number work reaches watcher c d (needs g)
  MaybeCovers c (Done x) d = ⊤
  MaybeCovers c Gone d = ⊥

  module _ (covers : (f : F) (c : C) (g : F) (d : C) → future.polls f c Pending g d → Covers number work reaches watcher c d (needs g)) where
    after_covers : (f : F) (c : C) (answer : Poll O) (g : F) (middle : C) (n : MaybeDone F O) (d : C) → future.polls f c answer g middle → AfterBranch future answer g middle n d → MaybeCovers c n d
    after_covers f c (Ready x) g middle n d polled rest = subst (λ v. MaybeCovers c v d) (sym rest.1) tt
    after_covers f c Pending g middle n d polled rest = subst (λ v. MaybeCovers c v d) (sym rest.0) (subst (λ y. Covers number work reaches watcher c y (needs g)) (sym rest.1) (covers f c g middle polled))

    pub advance_covers : (m : MaybeDone F O) (c : C) (n : MaybeDone F O) (d : C) → Advances future m c n d → MaybeCovers c n d
    advance_covers (Future f) c n d p = after_covers f c p.answer p.left p.middle n d p.polled p.rest
    advance_covers (Done x) c n d p = subst (λ v. MaybeCovers c v d) (sym p.0) tt
    advance_covers Gone c n d p = absurd p

  waiting_covers : (c : C) (n : MaybeDone F O) (d : C) → is_waiting n ≡ true → MaybeCovers c n d → Covers number work reaches watcher c d (MaybeNeeds needs n)
  waiting_covers c (Future g) d is covered = covered
  waiting_covers c (Done x) d is covered = absurd (false-true is)
  waiting_covers c Gone d is covered = absurd covered

module _ {C F O : Type 0} (future : FutureOf F C O) (number : C → ℕ) (work : C → Tasks ⊤) (reaches : C → C → Type 0) (watcher : C → Source → Option ℕ) (itself : (c : C) → reaches c c) (on : (a b c : C) → reaches a b → reaches b c → reaches a c)
    (reach : (f : F) (c : C) (r : Poll O) (g : F) (d : C) → future.polls f c r g d → reaches c d) (left : (f : F) (c d : C) → future.cancels f c d → reaches c d)
    (needs : F → Source → Type 0) (covers : (f : F) (c : C) (g : F) (d : C) → future.polls f c Pending g d → Covers number work reaches watcher c d (needs g)) where
  pub maybe_covers : (m : MaybeDone F O) (c : C) (n : MaybeDone F O) (d : C) → MaybePolls future m c Pending n d → Covers number work reaches watcher c d (MaybeNeeds needs n)
  maybe_covers m c n d p = waiting_covers future number work reaches watcher needs c n d (sym p.1) (advance_covers future number work reaches watcher needs covers m c n d p.0)

module _ {C A B X Y : Type 0} (a : FutureOf A C X) (b : FutureOf B C Y) (reaches : C → C → Type 0) (itself : (c : C) → reaches c c) (on : (a b c : C) → reaches a b → reaches b c → reaches a c) where
  pub join_left : ((f : A) (c d : C) → a.cancels f c d → reaches c d) → ((f : B) (c d : C) → b.cancels f c d → reaches c d) → (f : Join2 A B X Y) (c d : C) → JoinCancels a b f c d → reaches c d
  join_left a_left b_left f c d (middle, first, second) = on c middle d (maybe_left a reaches itself a_left f.a c middle first) (maybe_left b reaches itself b_left f.b middle d second)

  module _ (a_reach : (f : A) (c : C) (r : Poll X) (g : A) (d : C) → a.polls f c r g d → reaches c d) (a_left : (f : A) (c d : C) → a.cancels f c d → reaches c d)
      (b_reach : (f : B) (c : C) (r : Poll Y) (g : B) (d : C) → b.polls f c r g d → reaches c d) (b_left : (f : B) (c d : C) → b.cancels f c d → reaches c d) where
    pub join_reached : (f : Join2 A B X Y) (c : C) (r : Poll (X × Y)) (g : Join2 A B X Y) (d : C) → JoinPolls a b f c r g d → reaches c d
    join_reached f c r g d p = on c p.middle d (advance_reached a reaches itself on a_reach a_left f.a c p.first p.middle p.a_polled) (advance_reached b reaches itself on b_reach b_left f.b p.middle p.second d p.b_polled)

module _ {C A B X Y : Type 0} (number : C → ℕ) (work : C → Tasks ⊤) (reaches : C → C → Type 0) (watcher : C → Source → Option ℕ) (itself : (c : C) → reaches c c) (on : (a b c : C) → reaches a b → reaches b c → reaches a c)
    (a : FutureOf A C X) (b : FutureOf B C Y) (a_needs : A → Source → Type 0) (b_needs : B → Source → Type 0) (c middle d : C) (first_reached : reaches c middle) (more : reaches middle d) where
  first_stays : (first : MaybeDone A X) → MaybeCovers a number work reaches watcher a_needs c first middle → (x : Source) → MaybeNeeds a_needs first x → Heard number work reaches watcher c d x
  first_stays (Future f) covered x is = heard_on number work reaches watcher on c c middle d x (itself c) (covered.each x is) more
  first_stays (Done y) covered x is = absurd is
  first_stays Gone covered x is = absurd is

  second_stays : (second : MaybeDone B Y) → MaybeCovers b number work reaches watcher b_needs middle second d → (x : Source) → MaybeNeeds b_needs second x → Heard number work reaches watcher c d x
  second_stays (Future f) covered x is = heard_on number work reaches watcher on c middle d d x first_reached (covered.each x is) (itself d)
  second_stays (Done y) covered x is = absurd is
  second_stays Gone covered x is = absurd is

  both_done : (x : X) (y : Y) → Pending ≡ join_rule (both (Some x) (Some y)) → ⊥
  both_done x y e = cc

  -- one of the two waits, and each that waits is heard
  pub two_cover : (first : MaybeDone A X) (second : MaybeDone B Y) → MaybeCovers a number work reaches watcher a_needs c first middle → MaybeCovers b number work reaches watcher b_needs middle second d
      → Pending ≡ join_rule (both (output_of first) (output_of second)) → Covers number work reaches watcher c d (λ x. MaybeNeeds a_needs first x ⊎ MaybeNeeds b_needs second x)
  two_cover (Future f) second one two told = record {
    one = elim one.one [ inl it ↦ inl (it.0, inl it.1) | inr woke ↦ inr (woke_on number work reaches on c c middle d (itself c) woke more) ];
    each = λ x is. elim is [ inl left ↦ first_stays (Future f) one x left | inr right ↦ second_stays second two x right ];
  }
  two_cover (Done y) (Future g) one two told = record {
    one = elim two.one [ inl it ↦ inl (it.0, inr it.1) | inr woke ↦ inr (woke_on number work reaches on c middle d d first_reached woke (itself d)) ];
    each = λ x is. elim is [ inl left ↦ absurd left | inr right ↦ second_stays (Future g) two x right ];
  }
  two_cover (Done x) (Done y) one two told = absurd (both_done x y told)
  two_cover (Done x) Gone one two told = absurd two
  two_cover Gone second one two told = absurd one

module _ {C A B X Y : Type 0} (a : FutureOf A C X) (b : FutureOf B C Y) (number : C → ℕ) (work : C → Tasks ⊤) (reaches : C → C → Type 0) (watcher : C → Source → Option ℕ)
    (itself : (c : C) → reaches c c) (on : (a b c : C) → reaches a b → reaches b c → reaches a c)
    (a_reach : (f : A) (c : C) (r : Poll X) (g : A) (d : C) → a.polls f c r g d → reaches c d) (a_left : (f : A) (c d : C) → a.cancels f c d → reaches c d)
    (b_reach : (f : B) (c : C) (r : Poll Y) (g : B) (d : C) → b.polls f c r g d → reaches c d) (b_left : (f : B) (c d : C) → b.cancels f c d → reaches c d)
    (a_needs : A → Source → Type 0) (a_covers : (f : A) (c : C) (g : A) (d : C) → a.polls f c Pending g d → Covers number work reaches watcher c d (a_needs g))
    (b_needs : B → Source → Type 0) (b_covers : (f : B) (c : C) (g : B) (d : C) → b.polls f c Pending g d → Covers number work reaches watcher c d (b_needs g)) where
  pub joins_cover : (f : Join2 A B X Y) (c : C) (g : Join2 A B X Y) (d : C) → JoinPolls a b f c Pending g d → Covers number work reaches watcher c d (JoinNeeds a_needs b_needs g)
  joins_cover f c g d p = subst (λ v. Covers number work reaches watcher c d (JoinNeeds a_needs b_needs v)) (sym p.waits)
      (two_cover number work reaches watcher itself on a b a_needs b_needs c p.middle d (advance_reached a reaches itself on a_reach a_left f.a c p.first p.middle p.a_polled) (advance_reached b reaches itself on b_reach b_left f.b p.middle p.second d p.b_polled) p.first p.second
      (advance_covers a number work reaches watcher a_needs a_covers f.a c p.first p.middle p.a_polled)
      (advance_covers b number work reaches watcher b_needs b_covers f.b p.middle p.second d p.b_polled) p.answer)
