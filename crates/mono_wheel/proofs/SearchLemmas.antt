-- The slot that starts first is the first that is not empty.
use Rattle.std.proofs.Common.{arith, ◌≡◌, ◌≢◌, ℕ, ◌+◌, ◌/◌, ◌%◌, ◌<◌, ◌≤◌, inl, inr, length, List, [], ◌∷◌, ◌++◌, Option, Some, None, get_or, ap, refl, sym, ◌∙◌, subst}
use Rattle.std.proofs.lemmas.Bool.{cases_lt}
use Rattle.std.proofs.Math.Nat.{mod-lt}
use Rattle.mono_wheel.specs.Start.{start, slot_of, top_level, slot_count}
use Rattle.mono_wheel.specs.Lists.{Lists, IsIn, list_at}
use Rattle.mono_wheel.specs.Model.{Timed, Fits}
use Rattle.mono_wheel.specs.Holdings.{place_of, place_in, ranked, timed_in, StandsIn, Held, IsNextSlot, NoSlots}
use Rattle.mono_wheel.specs.declared.entry.Entry.{Entry}
use Rattle.mono_wheel.proofs.CallLemmas.{last-in}
use Rattle.mono_wheel.proofs.PlaceLemmas.{place-ahead, place-pending}
use Rattle.mono_wheel.proofs.KeyLemmas.{entry-in, entry-below}
use Rattle.mono_wheel.proofs.DueLemmas.{stands-some}
use Rattle.mono_wheel.proofs.RankLemmas.{rank_of, rank-place, rank-below, ranked-one, rank-le}

pub stands-timed : (elapsed l : ℕ) (o : Option Timed) → StandsIn elapsed l o → (timed : Timed) × (o ≡ Some timed) × (l ≡ place_in elapsed timed.registered)
stands-timed elapsed l None s = absurd s
stands-timed elapsed l (Some timed) s = (timed, refl, s)

pub ahead-in : (elapsed : ℕ) (entries : List Entry) (links : Lists) (key : ℕ) (timed : Timed) → Held elapsed entries links → timed_in entries key ≡ Some timed → elapsed < timed.registered →
    IsIn key (list_at links (place_of elapsed timed.registered))
ahead-in elapsed entries links key timed h is ahead =
    h.found key (place_of elapsed timed.registered) (subst (StandsIn elapsed (place_of elapsed timed.registered)) (sym is) (sym (place-ahead elapsed timed.registered (λ e. omega (arith, ahead, e)))))

pub slots-none : (elapsed : ℕ) (entries : List Entry) (links : Lists) → Held elapsed entries links → ((rank : ℕ) → rank < slot_count → list_at links (ranked elapsed rank) ≡ []) → NoSlots elapsed entries
slots-none elapsed entries links h none key timed is ahead =
    subst (λ zs. IsIn key zs) (ap (list_at links) (sym (rank-place elapsed timed.registered)) ∙ none (rank_of elapsed timed.registered) (rank-below elapsed timed.registered)) (ahead-in elapsed entries links key timed h is ahead)

pub ranked-below : (elapsed rank : ℕ) → rank < slot_count → ranked elapsed rank < slot_count
ranked-below elapsed rank b = let m : (slot_of (rank / 64) elapsed + 1 + rank % 64) % 64 < 64 = mod-lt _ (omega arith) in omega (arith, b, m)

fits-ahead : (elapsed : ℕ) (timed : Timed) → timed.registered ≢ elapsed → Fits elapsed (Some timed) → elapsed < timed.registered
fits-ahead elapsed timed ne (inl h) = absurd (ne h.0)
fits-ahead elapsed timed ne (inr h) = h.0

module _ (elapsed : ℕ) (entries : List Entry) (links : Lists) (rank list key : ℕ) (front : List ℕ) (h : Held elapsed entries links) (low : rank < slot_count) (is : list ≡ ranked elapsed rank)
    (before : (r : ℕ) → r < rank → list_at links (ranked elapsed r) ≡ []) (last : list_at links list ≡ front ++ key ∷ []) where
  stands : StandsIn elapsed list (timed_in entries key)
  stands = h.within key list (last-in (list_at links list) key (front, last))

  pub found-below : key < length entries
  found-below = entry-below entries key (stands-some elapsed list (timed_in entries key) stands)

  pub found-ahead : (timed : Timed) → timed_in entries key ≡ Some timed → (elapsed < timed.registered) × (list ≡ place_of elapsed timed.registered)
  found-ahead timed t =
      let place : list ≡ place_in elapsed timed.registered = subst (StandsIn elapsed list) t stands in
      let b : ranked elapsed rank < slot_count = ranked-below elapsed rank low in
      let ne : timed.registered ≢ elapsed = λ e. let p = place-pending elapsed timed.registered e in omega (arith, p, place, is, b) in
      (fits-ahead elapsed timed ne (subst (Fits elapsed) t (h.fits key)), place ∙ place-ahead elapsed timed.registered ne)

  pub found-entry : (x : Entry) → x ≡ get_or entries key x → timed_in entries key ≡ Some record { tick = x.tick; registered = x.registered }
  found-entry x e = entry-in entries key x found-below e (stands-some elapsed list (timed_in entries key) stands)

  pub found-next : (x : Entry) (begin : ℕ) → x ≡ get_or entries key x → begin ≡ start top_level elapsed x.registered → IsNextSlot elapsed entries list begin
  found-next x begin e b =
      let t = found-entry x e in
      let a = found-ahead record { tick = x.tick; registered = x.registered } t in
      let mine : rank_of elapsed x.registered ≡ rank = ranked-one elapsed (rank_of elapsed x.registered) rank (rank-place elapsed x.registered ∙ sym a.1 ∙ is) in
      record {
        key = key;
        timed = record { tick = x.tick; registered = x.registered };
        is = t;
        ahead = a.0;
        place = a.1;
        begins = b;
        least = λ other ticks there ahead.
            let i = ahead-in elapsed entries links other ticks h there ahead in
            let le : rank ≤ rank_of elapsed ticks.registered = elim (cases_lt (rank_of elapsed ticks.registered) rank) [
              | inl less ↦ absurd (subst (λ zs. IsIn other zs) (ap (list_at links) (sym (rank-place elapsed ticks.registered)) ∙ before (rank_of elapsed ticks.registered) less) i)
              | inr more ↦ more
            ] in
            let l = rank-le elapsed x.registered ticks.registered a.0 ahead (omega (arith, mine, le)) in
            omega (arith, l, b);
      }
