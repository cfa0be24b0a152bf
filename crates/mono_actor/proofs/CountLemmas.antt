-- The counts of actors, of messages and of the queue when one place changes.
use Rattle.std.proofs.Common.{◌≡◌, ◌<◌, ◌≤◌, ℕ, ◌+◌, ◌^◌, true, false, Bool, List, [], ◌∷◌, ◌++◌, length, set, Some, None, Option, refl, ap, sym, ◌∙◌, arith}
use Rattle.std.specs.Prelude.{sum_by, is_some, IfSome}
use Rattle.std.specs.Option.{option_map}
use Rattle.std.proofs.Math.ListN.{get_or-map}
use Rattle.std.proofs.lemmas.List.{map-set, map-append}
use Rattle.std.proofs.lemmas.List.Sums.{sum_by-set, sum_by-append, sum_by-cons, sum_by-le-sum_by, get_or-le-sum_by}
use Rattle.std.proofs.lemmas.List.Recursion.{is_count_by}
use Rattle.mono_model.specs.Table.{Table, value_at, count_of}
use Rattle.mono_model.specs.Valid.{once_if}
use Rattle.mono_actor.specs.Actors.{Actor, letters_of}
use Rattle.mono_actor.specs.QueueInvariants.{is_queued, one_if_queued, one_if_live}
use Rattle.mono_actor.specs.Places.{mode_of, actor_of, table_of, Place}
use Rattle.mono_actor.specs.Consistency.{Counts}
use Rattle.mono_actor.proofs.TieLemmas.{given}

module _ {M : Type 0} where
  pub at-table : (places : List (Option (Place M))) (a : ℕ) → value_at (table_of places) a ≡ option_map actor_of (value_at places a)
  at-table places a = get_or-map (option_map actor_of) places a None

  pub table-set : (places : List (Option (Place M))) (a : ℕ) (v : Option (Place M)) → table_of (set places a v) ≡ set (table_of places) a (option_map actor_of v)
  table-set places a v = map-set (option_map actor_of) places a v

  pub there : (places : List (Option (Place M))) (a : ℕ) (p : Place M) → value_at places a ≡ Some p → value_at (table_of places) a ≡ Some (actor_of p)
  there places a p was = at-table places a ∙ ap (option_map actor_of) was

  -- a sum over all actors when one of them changes
  pub sum-set : (f : Option (Actor M) → ℕ) (places : List (Option (Place M))) (a : ℕ) (p : Place M) (v : Option (Place M)) → value_at places a ≡ Some p
      → sum_by f (table_of (set places a v)) + f (Some (actor_of p)) ≡ sum_by f (table_of places) + f (option_map actor_of v)
  sum-set f places a p v was =
      ap (λ t. sum_by f t + f (Some (actor_of p))) (table-set places a v)
      ∙ ap (λ x. sum_by f (set (table_of places) a (option_map actor_of v)) + f x) (sym (there places a p was))
      ∙ sum_by-set f (table_of places) a (option_map actor_of v) None (given (table_of places) a (actor_of p) (there places a p was))

  sum-next : (f : Option (Actor M) → ℕ) (places : List (Option (Place M))) (q : Place M) → sum_by f (table_of (places ++ Some q ∷ [])) ≡ sum_by f (table_of places) + f (Some (actor_of q))
  sum-next f places q =
      ap (sum_by f) (map-append (option_map actor_of) places (Some q ∷ []))
      ∙ sum_by-append f (table_of places) (Some (actor_of q) ∷ [])
      ∙ ap (λ n. sum_by f (table_of places) + n) (sum_by-cons f (Some (actor_of q)) [])
      ∙ omega arith

  pub live-count : (table : Table (Actor M)) → sum_by one_if_live table ≡ count_of table
  live-count table = is_count_by (λ xs. sum_by one_if_live xs) is_some refl (λ x xs. sum_by-cons one_if_live x xs ∙ one x (sum_by one_if_live xs)) table
    where
      one : (x : Option (Actor M)) (n : ℕ) → one_if_live x + n ≡ Rattle.std.specs.Prelude.cond (is_some x) (1 + n) n
      one None n = omega arith
      one (Some y) n = refl

  -- each queued actor is live
  queued_live : (x : Option (Actor M)) → one_if_queued x ≤ one_if_live x
  queued_live None = omega arith
  queued_live (Some actor) = by (is_queued actor.mode)
    where
      by : (b : Bool) → once_if b ≤ 1
      by true = omega arith
      by false = omega arith

  pub queue-live : (places : List (Option (Place M))) (queue : List ℕ) (live letters : ℕ) → Counts places queue live letters → length queue ≤ live
  queue-live places queue live letters counts = omega (arith, counts.listed, counts.live_is, sum_by-le-sum_by one_if_queued one_if_live (table_of places) queued_live)

  pub counts-changed : (places : List (Option (Place M))) (queue queue2 : List ℕ) (live letters letters2 a : ℕ) (p q : Place M) → Counts places queue live letters → value_at places a ≡ Some p
      → letters2 + length p.mailbox ≡ letters + length q.mailbox → length queue2 + once_if (is_queued (mode_of p.mode)) ≡ length queue + once_if (is_queued (mode_of q.mode))
      → Counts (set places a (Some q)) queue2 live letters2
  counts-changed places queue queue2 live letters letters2 a p q counts was mail line = record {
    live_is = omega (arith, counts.live_is, sum-set one_if_live places a p (Some q) was);
    letters_is = omega (arith, counts.letters_is, mail, sum-set letters_of places a p (Some q) was);
    listed = omega (arith, counts.listed, line, sum-set one_if_queued places a p (Some q) was);
  }

  pub counts-gone : (places : List (Option (Place M))) (queue : List ℕ) (live live2 letters letters2 a : ℕ) (p : Place M) → Counts places queue live letters → value_at places a ≡ Some p
      → live2 + 1 ≡ live → letters2 + length p.mailbox ≡ letters → is_queued (mode_of p.mode) ≡ false → Counts (set places a None) queue live2 letters2
  counts-gone places queue live live2 letters letters2 a p counts was one mail not_queued = record {
    live_is = omega (arith, counts.live_is, one, sum-set one_if_live places a p None was);
    letters_is = omega (arith, counts.letters_is, mail, sum-set letters_of places a p None was);
    listed = omega (arith, counts.listed, ap once_if not_queued, sum-set one_if_queued places a p None was);
  }

  pub counts-added : (places : List (Option (Place M))) (queue : List ℕ) (live letters : ℕ) (q : Place M) → Counts places queue live letters → q.mailbox ≡ [] → is_queued (mode_of q.mode) ≡ false
      → Counts (places ++ Some q ∷ []) queue (live + 1) letters
  counts-added places queue live letters q counts empty not_queued = record {
    live_is = omega (arith, counts.live_is, sum-next one_if_live places q);
    letters_is = omega (arith, counts.letters_is, ap length empty, sum-next letters_of places q);
    listed = omega (arith, counts.listed, ap once_if not_queued, sum-next one_if_queued places q);
  }

  -- there are as many messages as the actor has, at least, and it is one of the live ones
  pub letters-least : (places : List (Option (Place M))) (queue : List ℕ) (live letters a : ℕ) (p : Place M) → Counts places queue live letters → value_at places a ≡ Some p → length p.mailbox ≤ letters
  letters-least places queue live letters a p counts was =
      omega (
        arith,
        counts.letters_is,
        ap letters_of (there places a p was),
        get_or-le-sum_by letters_of (table_of places) a None (given (table_of places) a (actor_of p) (there places a p was)),
      )

  pub live-least : (places : List (Option (Place M))) (queue : List ℕ) (live letters a : ℕ) (p : Place M) → Counts places queue live letters → value_at places a ≡ Some p → 1 ≤ live
  live-least places queue live letters a p counts was =
      omega (
        arith,
        counts.live_is,
        ap one_if_live (there places a p was),
        get_or-le-sum_by one_if_live (table_of places) a None (given (table_of places) a (actor_of p) (there places a p was)),
      )

  -- with as many messages in all, no mailbox is too long
  pub few-letters : (places : List (Option (Place M))) (queue : List ℕ) (live letters a : ℕ) → Counts places queue live letters → is_some (value_at places a) ≡ true → letters + 1 < 2 ^ 64
      → IfSome (value_at places a) (λ p. length p.mailbox + 1 < 2 ^ 64)
  few-letters places queue live letters a counts there few = by (value_at places a) refl
    where
      by : (v : Option (Place M)) → value_at places a ≡ v → IfSome v (λ p. length p.mailbox + 1 < 2 ^ 64)
      by None at = tt
      by (Some p) at = omega (arith, few, letters-least places queue live letters a p counts at)
