-- The members of a context and of a part of a form, and sources that are heard in the polls of several parts.
use Rattle.std.specs.Prelude.{◌≡◌, ◌⊎◌, ℕ, ⊤, Option}
use Rattle.std.proofs.Common.{inl, inr, sym, subst}
use Rattle.mono_model.specs.Tasks.{Tasks}
use Rattle.mono_model.specs.declared.poll.Poll.{Poll}
use Rattle.mono_model.specs.declared.poll.Poll.TheVariants.{Pending}
use Rattle.mono_task.specs.Members.{FutureOf}
use Rattle.mono_wait.specs.Sources.{Source, Covers, NeedsOne, Heard, Woke, heard_on, woke_on}

-- What a context exposes of its running task, of its waiting tasks, and of the contexts that its calls reach.
pub record Frame (C : Type 0) : Type 1 where
  pub number : C → ℕ
  pub work : C → Tasks ⊤
  pub reaches : C → C → Type 0
  pub watcher : C → Source → Option ℕ
  pub itself : (c : C) → reaches c c
  pub on : (a b c : C) → reaches a b → reaches b c → reaches a c

abbrev pub frame_of : {C : Type 0} (number : C → ℕ) (work : C → Tasks ⊤) (reaches : C → C → Type 0) (watcher : C → Source → Option ℕ)
    → ((c : C) → reaches c c) → ((a b c : C) → reaches a b → reaches b c → reaches a c) → Frame C
frame_of number work reaches watcher itself on = record { number = number; work = work; reaches = reaches; watcher = watcher; itself = itself; on = on }

module _ {C : Type 0} (w : Frame C) where
  abbrev pub HeardIn : C → C → Source → Type 0
  HeardIn = Heard w.number w.work w.reaches w.watcher

  abbrev pub CoversIn : C → C → (Source → Type 0) → Type 0
  CoversIn = Covers w.number w.work w.reaches w.watcher

  abbrev pub WokeIn : C → C → Type 0
  WokeIn = Woke w.number w.work w.reaches

  abbrev pub OneIn : C → C → (Source → Type 0) → Type 0
  OneIn = NeedsOne w.number w.work w.reaches

  -- no call was made
  pub same_reached : (c d : C) → d ≡ c → w.reaches c d
  same_reached c d is = subst (w.reaches c) (sym is) (w.itself c)

  pub heard_before : (c m d : C) (x : Source) → HeardIn c m x → w.reaches m d → HeardIn c d x
  heard_before c m d x it more = heard_on w.number w.work w.reaches w.watcher w.on c c m d x (w.itself c) it more

  pub heard_after : (c m d : C) (x : Source) → w.reaches c m → HeardIn m d x → HeardIn c d x
  heard_after c m d x first it = heard_on w.number w.work w.reaches w.watcher w.on c m d d x first it (w.itself d)

  pub woke_before : (c m d : C) → WokeIn c m → w.reaches m d → WokeIn c d
  woke_before c m d woke more = woke_on w.number w.work w.reaches w.on c c m d (w.itself c) woke more

  pub woke_after : (c m d : C) → w.reaches c m → WokeIn m d → WokeIn c d
  woke_after c m d first woke = woke_on w.number w.work w.reaches w.on c m d d first woke (w.itself d)

  -- The needs may grow, and calls may come after it or before it.
  pub one_before : (c m d : C) (few needs : Source → Type 0) → ((x : Source) → few x → needs x) → OneIn c m few → w.reaches m d → OneIn c d needs
  one_before c m d few needs more one since = elim one [ inl it ↦ inl (it.0, more it.0 it.1) | inr woke ↦ inr (woke_before c m d woke since) ]

  pub one_after : (c m d : C) (few needs : Source → Type 0) → ((x : Source) → few x → needs x) → w.reaches c m → OneIn m d few → OneIn c d needs
  one_after c m d few needs more first one = elim one [ inl it ↦ inl (it.0, more it.0 it.1) | inr woke ↦ inr (woke_after c m d first woke) ]

  -- calls came before the poll that covers its sources
  pub covers_after : (c m d : C) (needs : Source → Type 0) → w.reaches c m → CoversIn m d needs → CoversIn c d needs
  covers_after c m d needs first it = record {
    one = one_after c m d needs needs (λ x is. is) first it.one;
    each = λ x is. heard_after c m d x first (it.each x is);
  }

  -- calls came after it
  pub covers_before : (c m d : C) (needs : Source → Type 0) → CoversIn c m needs → w.reaches m d → CoversIn c d needs
  covers_before c m d needs it more = record {
    one = one_before c m d needs needs (λ x is. is) it.one more;
    each = λ x is. heard_before c m d x (it.each x is) more;
  }

  -- two polls in turn
  pub covers_both : (c m d : C) (first second : Source → Type 0) → w.reaches c m → CoversIn c m first → w.reaches m d → CoversIn m d second → CoversIn c d (λ x. first x ⊎ second x)
  covers_both c m d first second reached one more two = record {
    one = one_before c m d first (λ x. first x ⊎ second x) (λ x is. inl is) one.one more;
    each = λ x is. elim is [
      | inl a ↦ heard_before c m d x (one.each x a) more
      | inr b ↦ heard_after c m d x reached (two.each x b)
    ];
  }

  -- No poll of the form is pending without its parts.
  pub covers_none : (c d : C) (needs : Source → Type 0) → ⊥ → CoversIn c d needs
  covers_none c d needs none = absurd none

-- What `Waits` asks of a part of a form.
pub record Part {A C X : Type 0} (w : Frame C) (future : FutureOf A C X) : Type 1 where
  pub reach : (f : A) (c : C) (r : Poll X) (g : A) (d : C) → future.polls f c r g d → w.reaches c d
  pub left : (f : A) (c d : C) → future.cancels f c d → w.reaches c d
  pub needs : A → Source → Type 0
  pub covers : (f : A) (c : C) (g : A) (d : C) → future.polls f c Pending g d → CoversIn w c d (needs g)

module _ {A C X : Type 0} (w : Frame C) (future : FutureOf A C X) where
  abbrev pub part_of : ((f : A) (c : C) (r : Poll X) (g : A) (d : C) → future.polls f c r g d → w.reaches c d)
      → ((f : A) (c d : C) → future.cancels f c d → w.reaches c d)
      → (needs : A → Source → Type 0)
      → ((f : A) (c : C) (g : A) (d : C) → future.polls f c Pending g d → CoversIn w c d (needs g)) → Part w future
  part_of reach left needs covers = record { reach = reach; left = left; needs = needs; covers = covers }

-- The sources that the rest of a form needs.
abbrev pub Needs : Type 0 → Type 1
Needs A = A → Source → Type 0
