-- What the lists of a wheel show once a key carries other ticks.
use Rattle.std.proofs.Common.{◌≡◌, zero, suc, ℕ, List, [], ◌∷◌, map, Option, Some, None, get_or, set, ap, refl, sym, ◌∙◌, subst}
use Rattle.std.proofs.lemmas.List.{map-set}
use Rattle.mono_wheel.specs.Lists.{Lists, IsIn, IsListed, list_at, entry_at, no_entry, with_entry}
use Rattle.mono_wheel.specs.Counts.{Counted}
use Rattle.mono_wheel.specs.Model.{Timed, Wheel, KeepsOrder, StandsBehind}
use Rattle.mono_wheel.specs.Rings.{at}
use Rattle.mono_wheel.specs.Holdings.{wheel_of, timed_of, timed_in, place_in, StandsIn, Held}
use Rattle.mono_wheel.specs.declared.entry.Entry.{Entry}
use Rattle.mono_wheel.proofs.KeyLemmas.{timed-read}

-- The written lists, if the table had these entries.
pub written : (mid new : Lists) (entries : List Entry) (key : ℕ) (x : Entry) → mid.entries ≡ entries → new ≡ with_entry mid key x → new ≡ record mid { entries = set entries key x }
written mid new entries key x same is = is ∙ ap (λ es. record mid { entries = set es key x }) same

-- The written lists, after a reading that changed nothing.
pub noted : (read new links : Lists) (key : ℕ) (x : Entry) → read ≡ links → new ≡ with_entry read key x → new ≡ with_entry links key x
noted read new links key x same is = is ∙ ap (λ ls. with_entry ls key x) same

-- The order of keys depends on the lists alone.
pub held-as : (elapsed : ℕ) (entries : List Entry) (links : Lists) (others : List Entry) → Held elapsed entries links → Held elapsed entries (record links { entries = others })
held-as elapsed entries links others h = record { lists = h.lists; within = h.within; found = h.found; fits = h.fits; room = h.room }

pub held-written : (elapsed : ℕ) (entries : List Entry) (mid new : Lists) (key : ℕ) (x : Entry) → mid.entries ≡ entries → new ≡ with_entry mid key x → Held elapsed (set entries key x) mid → Held elapsed new.entries new
held-written elapsed entries mid new key x same is h =
    subst (λ w. Held elapsed w.entries w) (sym (written mid new entries key x same is)) (held-as elapsed (set entries key x) mid (set entries key x) h)

-- Entries that are equal one by one have the same ticks.
pub timed-same : (new old : Lists) → ((k : ℕ) → entry_at new k ≡ entry_at old k) → (k : ℕ) → timed_in new.entries k ≡ timed_in old.entries k
timed-same new old same k = timed-read new.entries k ∙ ap timed_of (same k) ∙ sym (timed-read old.entries k)

pub timed-none : (links : Lists) → ((k : ℕ) → entry_at links k ≡ no_entry) → (k : ℕ) → timed_in links.entries k ≡ None
timed-none links none k = timed-read links.entries k ∙ ap timed_of (none k)

-- a key that is not in may as well carry nothing
blank : (os : List (Option Timed)) (key : ℕ) → get_or os key None ≡ None → set os key None ≡ os
blank [] key e = refl
blank (o ∷ os) zero e = ap (λ z. z ∷ os) (sym e)
blank (o ∷ os) (suc key) e = ap (λ zs. o ∷ zs) (blank os key e)

pub timed-freed : (entries : List Entry) (key : ℕ) → timed_in entries key ≡ None → map timed_of (set entries key no_entry) ≡ map timed_of entries
timed-freed entries key e = map-set timed_of entries key no_entry ∙ blank (map timed_of entries) key e

-- keys whose ticks and lines are the same keep their order
pub order-kept : (elapsed : ℕ) (links new : Counted) (v : Wheel) → wheel_of elapsed links ≡ v → new.table.lists ≡ links.table.lists → ((k : ℕ) → timed_in new.table.entries k ≡ timed_in links.table.entries k) → KeepsOrder v (wheel_of elapsed new)
order-kept elapsed links new v seen lists same =
    subst (λ w. KeepsOrder w (wheel_of elapsed new)) seen
    (λ a b p s t. record { line = p.line; behind = subst (λ ls. StandsBehind (at ls p.line) a b) (sym lists) p.behind; same = same a ∙ p.same ∙ sym (same b) })

-- A key that is in is in a list.
pub stands-listed : (elapsed : ℕ) (entries : List Entry) (links : Lists) (key : ℕ) → Held elapsed entries links → (timed_in entries key ≡ None → ⊥) → IsListed links key
stands-listed elapsed entries links key h some = by (timed_in entries key) refl
  where
    by : (o : Option Timed) → timed_in entries key ≡ o → IsListed links key
    by None e = absurd (some e)
    by (Some timed) e = (place_in elapsed timed.registered, h.found key (place_in elapsed timed.registered) (subst (StandsIn elapsed (place_in elapsed timed.registered)) (sym e) refl))
