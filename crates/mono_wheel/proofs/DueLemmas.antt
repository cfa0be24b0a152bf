-- The first pending key is taken out.
use Rattle.std.proofs.Common.{arith, ◌≡◌, ℕ, ◌<◌, inl, inr, length, List, [], ◌∷◌, ◌++◌, map, Option, Some, None, set, ap, refl, sym, ◌∙◌, subst}
use Rattle.mono_wheel.specs.Lists.{Lists, IsIn, with_list, without, list_at}
use Rattle.mono_wheel.specs.Model.{Timed, Wheel, StandsBehind, Fits}
use Rattle.mono_wheel.specs.Holdings.{timed_of, timed_in, StandsIn, Held, DueTaken}
use Rattle.mono_wheel.specs.declared.entry.Entry.{Entry}
use Rattle.mono_wheel.proofs.ChainLemmas.{is_in-front}
use Rattle.mono_wheel.proofs.CallLemmas.{last-in}
use Rattle.mono_wheel.proofs.PlaceLemmas.{place-is_pending}
use Rattle.mono_wheel.proofs.KeyLemmas.{none_of, timed-here, timed-other, entry-below}
use Rattle.mono_wheel.proofs.OrderLemmas.{behind-upper, behind-last}
use Rattle.mono_wheel.proofs.HoldingLemmas.{held-removed, keeps-removed, list-same}
use Rattle.mono_wheel.specs.Start.{pending_list}
use Rattle.mono_wheel.specs.Counts.{Moves}

pub stands-one : (elapsed l m : ℕ) (o : Option Timed) → StandsIn elapsed l o → StandsIn elapsed m o → l ≡ m
stands-one elapsed l m None s t = absurd s
stands-one elapsed l m (Some timed) s t = s ∙ sym t

pub stands-some : (elapsed l : ℕ) (o : Option Timed) → StandsIn elapsed l o → o ≡ None → ⊥
stands-some elapsed l o s e = subst (StandsIn elapsed l) e s

pub stands-pending : (elapsed : ℕ) (o : Option Timed) → StandsIn elapsed pending_list o → Fits elapsed o → (timed : Timed) × (o ≡ Some timed) × (timed.tick ≡ elapsed)
stands-pending elapsed None s f = absurd s
stands-pending elapsed (Some timed) s f = let e = place-is_pending elapsed timed.registered s in (timed, refl, elim f [ inl h ↦ h.1 | inr h ↦ absurd (let b = h.0 in omega (arith, e, b)) ])

module _ (elapsed : ℕ) (entries : List Entry) (links : Lists) (key : ℕ) (front : List ℕ) (h : Held elapsed entries links) (is : list_at links pending_list ≡ front ++ key ∷ []) where
  pub due-stands : StandsIn elapsed pending_list (timed_in entries key)
  due-stands = h.within key pending_list (last-in (list_at links pending_list) key (front, is))

  pub due-below : key < length entries
  due-below = entry-below entries key (stands-some elapsed pending_list (timed_in entries key) due-stands)

  low : pending_list < length links.lists
  low = let n = h.lists in omega (arith, n)

  pub due-held : (new : Lists) (x : Entry) → new ≡ with_list links pending_list (without key (list_at links pending_list)) → (IsIn key (list_at new pending_list) → ⊥) → x.tick ≡ 0 → Held elapsed (set entries key x) new
  due-held new x e gone out = held-removed elapsed entries links new key pending_list x h due-below low due-stands e gone out (λ l s. stands-one elapsed l pending_list (timed_in entries key) s due-stands)

  due-first : (new : Lists) (line other : ℕ) → new ≡ with_list links pending_list (front ++ []) → (IsIn key (list_at new pending_list) → ⊥) → StandsBehind (list_at links line) other key → ⊥
  due-first new line other e gone b =
      let line_is : line ≡ pending_list = stands-one elapsed line pending_list (timed_in entries key) (h.within key line (behind-upper (list_at links line) other key b)) due-stands in
      let b2 : StandsBehind (front ++ key ∷ []) other key = subst (λ zs. StandsBehind zs other key) (ap (list_at links) line_is ∙ is) b in
      let j : IsIn key front = elim (behind-last front key other key b2) [ inl t ↦ behind-upper front other key t | inr t ↦ t.1 ] in
      gone (subst (λ zs. IsIn key zs) (sym (ap (λ w. list_at w pending_list) e ∙ list-same links pending_list (front ++ []) low)) (is_in-front key front [] j))

  pub due-taken : {moves moves2 : Moves} (new : Lists) (v : Wheel) (x : Entry) → (let w : Wheel = record { elapsed = elapsed; entries = map timed_of entries; reserved = links.nodes; lines = links.lists; moves = moves } in w ≡ v) →
      new ≡ with_list links pending_list (without key (list_at links pending_list)) → new ≡ with_list links pending_list (front ++ []) → (IsIn key (list_at new pending_list) → ⊥) → x.tick ≡ 0 →
      DueTaken v (record { elapsed = elapsed; entries = map timed_of (set entries key x); reserved = new.nodes; lines = new.lists; moves = moves2 }) (Some key)
  due-taken {moves} {moves2} new v x seen e parts gone out =
      let none : timed_of x ≡ None = none_of x out in
      subst (λ u. DueTaken u (record { elapsed = elapsed; entries = map timed_of (set entries key x); reserved = new.nodes; lines = new.lists; moves = moves2 }) (Some key)) seen (
        stands-pending elapsed (timed_in entries key) due-stands (h.fits key),
        (λ other p. due-first new p.line other parts gone p.behind),
        timed-here entries key x due-below ∙ none,
        (λ other ne. timed-other entries key other x ne),
        (λ a b na nb p. record {
          line = p.line;
          behind = keeps-removed links.lists new.lists pending_list key low (ap (λ w. w.lists) e) a b p.line na nb p.behind;
          same = timed-other entries key a x na ∙ p.same ∙ sym (timed-other entries key b x nb);
        }),
        refl,
        ap (λ w. w.nodes) e,
      )
