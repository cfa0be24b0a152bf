-- The store after its calls.
use Rattle.std.proofs.Common.{◌≡◌, ◌<◌, ◌+◌, ◌^◌, zero, suc, inl, inr, ℕ, true, false, Bool, cond, List, [], ◌∷◌, ◌++◌, length, set, get_or, Some, None, Option, refl, ap, sym, subst, ◌∙◌, arith}
use Rattle.std.specs.Prelude.{is_some, IfSome, ◌==◌, Result, Ok, Err, OnOk, OnErr}
use Rattle.std.specs.Option.{option_map}
use Rattle.std.proofs.lemmas.Bool.{cases_eq}
use Rattle.std.proofs.lemmas.List.{get_or-set_same, set-set, set-get_or, get_or_default, get_or_past}
use Rattle.std.proofs.lemmas.List.Sums.{sum_by-append, sum_by-cons}
use Rattle.mono_model.specs.Table.{value_at}
use Rattle.mono_wheel.specs.Lists.{IsIn}
use Rattle.mono_wheel.specs.Rings.{Distinct}
use Rattle.mono_actor.specs.Actors.{Actor, idle, queued, in_mode, mode_with, wait_from, rest_of}
use Rattle.mono_actor.specs.declared.places.Receipt.{Receipt}
use Rattle.mono_actor.specs.Places.{Place, receipt_in, receipt_of, mode_of, actor_of, Changes, delivered, timed_actor, rested, rest_in, rest_of_turn, unread, first_of}
use Rattle.mono_actor.specs.Entries.{entry_with, entry_in, notified, notified_mode, timed_entry, timed_mode, rested_entry, rested_mode}
use Rattle.mono_actor.specs.Mailboxes.{keys_from, EndsAt, count_in, slot_at, next_in, letters_at, keys_of, keys_in, place_of, places_in, EndsIn, Sound, IsPut, IsTaken}
use Rattle.mono_actor.specs.declared.mailboxes.Letter.{Letter}
use Rattle.mono_actor.specs.declared.mailboxes.Link.{Link}
use Rattle.mono_actor.specs.declared.mailboxes.Mailbox.{Mailbox}
use Rattle.mono_actor.specs.declared.places.Mode as declared
use Rattle.mono_actor.specs.declared.places.Mode.TheVariants as place
use Rattle.mono_actor.specs.declared.places.Rest.{Rest}
use Rattle.mono_actor.specs.declared.places.Entry.{Entry}
use Rattle.mono_actor.proofs.TieLemmas.{given, value_last, value_other}
use Rattle.mono_actor.proofs.LinkLemmas.{last-in}
use Rattle.mono_actor.proofs.StoreChangeLemmas.{Moves, moved-places, moved-sound, stays, put-moves, put-letters, take-moves, take-letters, mailbox-count, at-places, changes}

true-false : true ≡ false → ⊥
true-false e = cc

none-some : {X : Type 0} (x : X) → None ≡ Some x → ⊥
none-some x e = cc

equal-some : {X : Type 0} (x y : X) → Some x ≡ Some y → x ≡ y
equal-some x y e = cc

some-in : {X : Type 0} (v : Option X) → is_some v ≡ true → (x : X) × (v ≡ Some x)
some-in None is = absurd (true-false (sym is))
some-in (Some x) is = (x, refl)

empty-list : {X : Type 0} (xs : List X) → length xs ≡ 0 → xs ≡ []
empty-list [] none = refl
empty-list (x ∷ xs) none = absurd (omega (arith, none))

timed-is : (now timeout : ℕ) (m : declared.Mode) → mode_of (timed_mode now timeout m) ≡ mode_with now timeout (mode_of m)
timed-is now timeout (place.Idle w) = refl
timed-is now timeout place.Queued = refl
timed-is now timeout place.Running = refl

module _ {M : Type 0} where
  mapped-some : (slots : List (Option (Link M))) (v : Option Entry) → is_some (option_map (place_of slots) v) ≡ true → is_some v ≡ true
  mapped-some slots None is = is
  mapped-some slots (Some e) is = refl

  delivered-is : (letter : Letter M) (m : declared.Mode) (mailbox : List (Letter M)) (timeout : ℕ)
      → record { mode = mode_of (notified_mode m); mailbox = mailbox ++ letter ∷ []; timeout = timeout } ≡ delivered letter (record { mode = mode_of m; mailbox = mailbox; timeout = timeout })
  delivered-is letter (place.Idle w) mailbox timeout = refl
  delivered-is letter place.Queued mailbox timeout = refl
  delivered-is letter place.Running mailbox timeout = refl

  rested-is : (now : ℕ) (actor : Actor M) (empty : Bool)
      → record { mode = mode_of (rested_mode now actor.timeout empty); mailbox = actor.mailbox; timeout = actor.timeout } ≡ cond empty (in_mode actor (idle (wait_from now actor.timeout))) (in_mode actor queued)
  rested-is now actor true = refl
  rested-is now actor false = refl

  -- an actor that changed is there
  pub changed-there : (change : Actor M → Actor M) (a : ℕ) (old new : List (Option (Place M))) → Changes change a old new → is_some (value_at new a) ≡ true
  changed-there change a old new c =
      let inside = given old a c.becomes.before c.becomes.was in
      ap (λ (xs : List (Option (Place M))). is_some (value_at xs a)) c.is ∙ ap is_some (get_or-set_same old a c.place None inside) ∙ ap is_some c.becomes.is

  pub changed-inside : (change : Actor M → Actor M) (a : ℕ) (old new : List (Option (Place M))) → Changes change a old new → a < length old
  changed-inside change a old new c = given old a c.becomes.before c.becomes.was

  -- A change of an actor that is removed afterwards leaves no trace.
  pub changed-gone : (change : Actor M → Actor M) (a : ℕ) (old new : List (Option (Place M))) → Changes change a old new → set new a None ≡ set old a None
  changed-gone change a old new c = ap (λ xs. set xs a None) c.is ∙ set-set old a c.place None

  -- how many letters are in the mailbox of an actor
  abbrev pub letters_left : Option (Place M) → ℕ
  letters_left None = 0
  letters_left (Some p) = length p.mailbox

  one-less : (mailbox : List (Letter M)) (letter : Letter M) → Some letter ≡ first_of mailbox → length (rest_of mailbox) + 1 ≡ length mailbox
  one-less [] letter e = absurd (none-some letter (sym e))
  one-less (first ∷ mailbox) letter e = omega arith

  pub fewer-left : (a : ℕ) (old new : List (Option (Place M))) (letter : Letter M) → Changes unread a old new → IfSome (value_at old a) (λ p. Some letter ≡ first_of p.mailbox)
      → letters_left (value_at new a) < letters_left (value_at old a)
  fewer-left a old new letter c first =
      let inside = given old a c.becomes.before c.becomes.was in
      let less = one-less c.becomes.before.mailbox letter (subst (λ v. IfSome v (λ p. Some letter ≡ first_of p.mailbox)) c.becomes.was first) in
      let now : letters_left (value_at new a) ≡ length c.becomes.after.mailbox =
      ap (λ (xs : List (Option (Place M))). letters_left (value_at xs a)) c.is ∙ ap letters_left (get_or-set_same old a c.place None inside) ∙ ap letters_left c.becomes.is in
      omega (arith, less, now, ap letters_left c.becomes.was, ap (λ (x : Actor M). length x.mailbox) c.becomes.actor)

  pub still-empty : (a : ℕ) (old new : List (Option (Place M))) → Changes unread a old new → IfSome (value_at old a) (λ p. None ≡ first_of p.mailbox) → IfSome (value_at new a) (λ p. None ≡ first_of p.mailbox)
  still-empty a old new c first =
      let inside = given old a c.becomes.before c.becomes.was in
      let was : None ≡ first_of c.becomes.before.mailbox = subst (λ v. IfSome v (λ p. None ≡ first_of p.mailbox)) c.becomes.was first in
      subst (λ (xs : List (Option (Place M))). IfSome (value_at xs a) (λ p. None ≡ first_of p.mailbox)) (sym c.is) (
      subst (λ v. IfSome v (λ p. None ≡ first_of p.mailbox)) (sym (get_or-set_same old a c.place None inside ∙ c.becomes.is)) (
      sym (ap (λ (x : Actor M). first_of x.mailbox) c.becomes.actor ∙ none-left c.becomes.before.mailbox was)))
    where
      none-left : (mailbox : List (Letter M)) → None ≡ first_of mailbox → first_of (rest_of mailbox) ≡ None
      none-left [] e = refl
      none-left (letter ∷ mailbox) e = absurd (none-some letter e)

  -- a new actor has an empty mailbox
  module _ (slots : List (Option (Link M))) (count : ℕ) (entries : List (Option Entry)) (sound : Sound slots count entries) (q : Entry) (empty : q.mailbox.count ≡ 0) where
    no-keys : keys_in slots (Some q) ≡ []
    no-keys = ap (λ n. keys_from (next_in slots) n q.mailbox.first) empty

    keys-same : (b : ℕ) → keys_in slots (value_at (entries ++ Some q ∷ []) b) ≡ keys_in slots (value_at entries b)
    keys-same b = elim (cases_eq b (length entries)) [
      | inl here ↦ (
          ap (λ n. keys_in slots (value_at (entries ++ Some q ∷ []) n)) here ∙ ap (keys_in slots) (value_last entries (Some q)) ∙ no-keys
          ∙ sym (ap (λ n. keys_in slots (value_at entries n)) here ∙ ap (keys_in slots) (get_or_past entries (length entries) None (omega arith))))
      | inr apart ↦ ap (keys_in slots) (value_other entries (Some q) b apart)
    ]

    pub pushed-sound : Sound slots count (entries ++ Some q ∷ [])
    pushed-sound = record {
      known = λ b k is. sound.known b k (subst (IsIn k) (keys-same b) is);
      distinct = λ b. subst Distinct (sym (keys-same b)) (sound.distinct b);
      apart = λ b c k in_b in_c. sound.apart b c k (subst (IsIn k) (keys-same b) in_b) (subst (IsIn k) (keys-same c) in_c);
      ends = λ b. elim (cases_eq b (length entries)) [
        | inl here ↦ subst (λ n. EndsIn slots (value_at (entries ++ Some q ∷ []) n)) (sym here) (subst (EndsIn slots) (sym (value_last entries (Some q))) (subst (λ ks. EndsAt q.mailbox.last ks) (sym no-keys) tt))
        | inr apart ↦ subst (EndsIn slots) (sym (value_other entries (Some q) b apart)) (sound.ends b)
      ];
      counted = omega (arith, sound.counted, empty, sum_by-append count_in entries (Some q ∷ []), sum_by-cons count_in (Some q) []);
    }

    -- or there was no memory for it
    pub pushed-either : {A E : Type 0} (r : Result A E) (new : List (Option Entry)) → OnOk r (new ≡ entries ++ Some q ∷ []) → OnErr r (new ≡ entries) → Sound slots count new
    pushed-either (Ok x) new is refused = subst (Sound slots count) (sym is) pushed-sound
    pushed-either (Err e) new after is = subst (Sound slots count) (sym is) sound

module _ {M : Type 0} (slots : List (Option (Link M))) (count : ℕ) (entries : List (Option Entry)) (sound : Sound slots count entries) (a : ℕ) (there : is_some (value_at (places_in slots entries) a) ≡ true) where
  found : (e : Entry) × (value_at entries a ≡ Some e)
  found = some-in (value_at entries a) (mapped-some slots (value_at entries a) (sym (ap is_some (at-places slots entries a)) ∙ there))

  mine : Entry
  mine = found.0

  at : value_at entries a ≡ Some mine
  unfolding mine
  at = found.1

  pub inside : a < length entries
  inside = given entries a mine at

  reads : (x : Option Entry) → x ≡ get_or entries a x → x ≡ Some mine
  reads x is = is ∙ sym (get_or_default entries a None x inside) ∙ at

  -- Reading the table.
  pub is-there : is_some (value_at entries a) ≡ true
  is-there = ap is_some at

  pub read-here : value_at entries a ≡ get_or entries a (value_at entries a)
  read-here = get_or_default entries a None (value_at entries a) inside

  pub read-value : (e : Entry) → value_at entries a ≡ Some e → Some e ≡ get_or entries a (Some e)
  read-value e is = sym is ∙ get_or_default entries a None (Some e) inside

  pub read-some : (x : Option Entry) → x ≡ get_or entries a x → is_some x ≡ true
  read-some x is = ap is_some (reads x is)

  its-ends : EndsIn slots (Some mine)
  its-ends = subst (EndsIn slots) at (sound.ends a)

  has : (k : ℕ) → IsIn k (keys_of slots mine.mailbox) → IsIn k (keys_in slots (value_at entries a))
  has k is = subst (λ w. IsIn k (keys_in slots w)) (sym at) is

  its-count : length (letters_at slots (keys_of slots mine.mailbox)) ≡ mine.mailbox.count
  its-count = mailbox-count slots count entries a mine sound at

  -- A fact about the entry is a fact about the actor.
  tells : (P : Place M → Type 0) → P (place_of slots mine) → IfSome (value_at (places_in slots entries) a) P
  tells P is = subst (λ v. IfSome v P) (sym (at-places slots entries a ∙ ap (option_map (place_of slots)) at)) is

  told : (P : Place M → Type 0) → IfSome (value_at (places_in slots entries) a) P → P (place_of slots mine)
  told P is = subst (λ v. IfSome v P) (at-places slots entries a ∙ ap (option_map (place_of slots)) at) is

  of-read : (P : Entry → Type 0) (x : Option Entry) → x ≡ get_or entries a x → IfSome x P → P mine
  of-read P x is holds = subst (λ v. IfSome v P) (reads x is) holds

  -- only the mode and the timeout change
  module _ (f : Entry → Entry) (same : (e : Entry) → (f e).mailbox ≡ e.mailbox) (x w : Option Entry) (is : x ≡ get_or entries a x) (becomes : w ≡ option_map f x) where
    w-is : w ≡ Some (f mine)
    w-is = becomes ∙ ap (option_map f) (reads x is)

    mode-moves : Moves slots slots entries a (Some (f mine))
    mode-moves = stays slots count entries a (Some (f mine)) sound (ap (keys_of slots) (same mine) ∙ sym (ap (keys_in slots) at)) (subst (λ (m : Mailbox). EndsAt m.last (keys_of slots m)) (sym (same mine)) its-ends)

    pub mode-sound : Sound slots count (set entries a w)
    mode-sound = subst (λ v. Sound slots count (set entries a v)) (sym w-is) (
        moved-sound slots slots entries a (Some (f mine)) inside mode-moves count count sound (ap (λ v. count + count_in v) at ∙ ap (λ (m : Mailbox). count + m.count) (sym (same mine))))

    mode-changes : (change : Actor M → Actor M) → (f mine).timer ≡ mine.timer → actor_of (place_of slots (f mine)) ≡ change (actor_of (place_of slots mine)) → Changes change a (places_in slots entries) (places_in slots (set entries a w))
    mode-changes change timer actor = subst (λ v. Changes change a (places_in slots entries) (places_in slots (set entries a v))) (sym w-is) (changes change slots slots entries a mine (f mine) at mode-moves timer actor)

  -- a mode alone
  pub in-mode-sound : (m : declared.Mode) (x w : Option Entry) → x ≡ get_or entries a x → w ≡ option_map (entry_in m) x → Sound slots count (set entries a w)
  in-mode-sound m x w is becomes = mode-sound (entry_in m) (λ e. refl) x w is becomes

  pub in-mode-changes : (m : declared.Mode) (x w : Option Entry) → x ≡ get_or entries a x → w ≡ option_map (entry_in m) x → Changes (λ (actor : Actor M). in_mode actor (mode_of m)) a (places_in slots entries) (places_in slots (set entries a w))
  in-mode-changes m x w is becomes = mode-changes (entry_in m) (λ e. refl) x w is becomes (λ (actor : Actor M). in_mode actor (mode_of m)) refl refl

  -- another timeout
  pub timed-sound : (now timeout : ℕ) (x w : Option Entry) → x ≡ get_or entries a x → w ≡ option_map (timed_entry now timeout) x → Sound slots count (set entries a w)
  timed-sound now timeout x w is becomes = mode-sound (timed_entry now timeout) (λ e. refl) x w is becomes

  pub timed-changes : (now timeout : ℕ) (x w : Option Entry) → x ≡ get_or entries a x → w ≡ option_map (timed_entry now timeout) x → Changes (timed_actor now timeout) a (places_in slots entries) (places_in slots (set entries a w))
  timed-changes now timeout x w is becomes = mode-changes (timed_entry now timeout) (λ e. refl) x w is becomes (timed_actor now timeout) refl
      (ap (λ m. record { mode = m; mailbox = letters_at slots (keys_of slots mine.mailbox); timeout = timeout }) (timed-is now timeout mine.mode))

  -- the end of a turn
  pub rested-sound : (now : ℕ) (x w : Option Entry) → x ≡ get_or entries a x → w ≡ option_map (rested_entry now) x → Sound slots count (set entries a w)
  rested-sound now x w is becomes = mode-sound (rested_entry now) (λ e. refl) x w is becomes

  pub rested-changes : (now : ℕ) (x w : Option Entry) → x ≡ get_or entries a x → w ≡ option_map (rested_entry now) x → Changes (rested now) a (places_in slots entries) (places_in slots (set entries a w))
  rested-changes now x w is becomes = mode-changes (rested_entry now) (λ e. refl) x w is becomes (rested now) refl
      (rested-is now (actor_of (place_of slots mine)) (mine.mailbox.count == 0)
      ∙ ap (λ n. cond (n == 0) (in_mode (actor_of (place_of slots mine)) (idle (wait_from now mine.timeout))) (in_mode (actor_of (place_of slots mine)) queued)) (sym its-count))

  pub rests : (now : ℕ) (x : Option Entry) (result : Rest) → x ≡ get_or entries a x → IfSome x (λ e. result ≡ rest_in now e.timer e.timeout (e.mailbox.count == 0))
      → IfSome (value_at (places_in slots entries) a) (λ p. result ≡ rest_of_turn now p)
  rests now x result is holds = tells (λ p. result ≡ rest_of_turn now p)
      (of-read (λ e. result ≡ rest_in now e.timer e.timeout (e.mailbox.count == 0)) x is holds ∙ ap (λ n. rest_in now mine.timer mine.timeout (n == 0)) (sym its-count))

  -- The work after a message.
  pub receives : (e : Entry) (r : Receipt) → value_at entries a ≡ Some e → r ≡ receipt_in e.timer e.mode → IfSome (value_at (places_in slots entries) a) (λ p. r ≡ receipt_of p)
  receives e r is holds = tells (λ p. r ≡ receipt_of p) (of-read (λ x. r ≡ receipt_in x.timer x.mode) (Some e) (read-value e is) holds)

  -- Reading a mailbox.
  module _ (x : Option Entry) (m : Mailbox) (is : x ≡ get_or entries a x) (reading : IfSome x (λ e. m ≡ e.mailbox)) where
    m-is : m ≡ mine.mailbox
    m-is = of-read (λ e. m ≡ e.mailbox) x is reading

    pub last-known : 0 < m.count → is_some (slot_at slots m.last) ≡ true
    last-known some =
        ap (λ (n : Mailbox). is_some (slot_at slots n.last)) m-is
        ∙ sound.known a mine.mailbox.last (has mine.mailbox.last (last-in (next_in slots) mine.mailbox.last mine.mailbox.count mine.mailbox.first (omega (arith, some, ap (λ (n : Mailbox). n.count) m-is)) its-ends))

    first-in : (n first : ℕ) → 0 < n → IsIn first (keys_from (next_in slots) n first)
    first-in zero first some = absurd (omega (arith, some))
    first-in (suc n) first some = inl refl

    pub first-known : 0 < m.count → is_some (slot_at slots m.first) ≡ true
    first-known some =
        ap (λ (n : Mailbox). is_some (slot_at slots n.first)) m-is
        ∙ sound.known a mine.mailbox.first (has mine.mailbox.first (first-in mine.mailbox.count mine.mailbox.first (omega (arith, some, ap (λ (n : Mailbox). n.count) m-is))))

    pub few-letters : IfSome (value_at (places_in slots entries) a) (λ p. length p.mailbox + 1 < 2 ^ 64) → m.count + 1 < 2 ^ 64
    few-letters few = let told_few = told (λ p. length p.mailbox + 1 < 2 ^ 64) few in omega (arith, told_few, its-count, ap (λ (n : Mailbox). n.count) m-is)

    -- a message comes
    module _ (new : List (Option (Link M))) (count2 : ℕ) (letter : Letter M) (longer : Mailbox) (put : IsPut letter slots new m longer) (more : count2 ≡ count + 1) (y w : Option Entry) (y-is : y ≡ get_or entries a y)
        (becomes : w ≡ option_map (notified longer) y) where
      its-put : IsPut letter slots new mine.mailbox longer
      its-put = subst (λ n. IsPut letter slots new n longer) m-is put

      put-w : w ≡ Some (notified longer mine)
      put-w = becomes ∙ ap (option_map (notified longer)) (reads y y-is)

      its-moves : Moves slots new entries a (Some (notified longer mine))
      its-moves = put-moves slots new count entries a mine (notified longer mine) letter sound at its-put

      pub put-sound : Sound new count2 (set entries a w)
      put-sound = subst (λ v. Sound new count2 (set entries a v)) (sym put-w) (
          moved-sound slots new entries a (Some (notified longer mine)) inside its-moves count count2 sound (omega (arith, more, ap count_in at, ap (λ (n : Mailbox). n.count) its-put.is)))

      pub put-changes : Changes (delivered letter) a (places_in slots entries) (places_in new (set entries a w))
      put-changes = subst (λ v. Changes (delivered letter) a (places_in slots entries) (places_in new (set entries a v))) (sym put-w) (
          changes (delivered letter) slots new entries a mine (notified longer mine) at its-moves refl (
          ap (λ ls. record { mode = mode_of (notified_mode mine.mode); mailbox = ls; timeout = mine.timeout }) (put-letters slots new count entries a mine (notified longer mine) letter sound at its-put)
          ∙ delivered-is letter mine.mode (letters_at slots (keys_of slots mine.mailbox)) mine.timeout))

    -- the first message is taken out
    module _ (new : List (Option (Link M))) (count2 : ℕ) (letter : Letter M) (rest : Mailbox) (taken : IsTaken letter slots new m rest) (fewer : count2 + 1 ≡ count) (y w : Option Entry) (y-is : y ≡ get_or entries a y)
        (becomes : w ≡ option_map (entry_with rest) y) where
      its-taken : IsTaken letter slots new mine.mailbox rest
      its-taken = subst (λ n. IsTaken letter slots new n rest) m-is taken

      take-w : w ≡ Some (entry_with rest mine)
      take-w = becomes ∙ ap (option_map (entry_with rest)) (reads y y-is)

      taken-moves : Moves slots new entries a (Some (entry_with rest mine))
      taken-moves = take-moves slots new count entries a mine (entry_with rest mine) letter sound at its-taken

      letters : letters_at slots (keys_of slots mine.mailbox) ≡ letter ∷ letters_at new (keys_of new rest)
      letters = take-letters slots new count entries a mine (entry_with rest mine) letter sound at its-taken

      pub take-sound : Sound new count2 (set entries a w)
      take-sound = subst (λ v. Sound new count2 (set entries a v)) (sym take-w) (
          moved-sound slots new entries a (Some (entry_with rest mine)) inside taken-moves count count2 sound (omega (arith, fewer, its-taken.some, ap count_in at, ap (λ (n : Mailbox). n.count) its-taken.is)))

      pub take-changes : Changes unread a (places_in slots entries) (places_in new (set entries a w))
      take-changes = subst (λ v. Changes unread a (places_in slots entries) (places_in new (set entries a v))) (sym take-w) (
          changes unread slots new entries a mine (entry_with rest mine) at taken-moves refl (
          sym (ap (λ ls. record { mode = mode_of mine.mode; mailbox = rest_of ls; timeout = mine.timeout }) letters)))

      pub take-first : IfSome (value_at (places_in slots entries) a) (λ p. Some letter ≡ first_of p.mailbox)
      take-first = tells (λ p. Some letter ≡ first_of p.mailbox) (sym (ap first_of letters))

    -- there is none
    module _ (none : m.count ≡ 0) where
      no-letters : letters_at slots (keys_of slots mine.mailbox) ≡ []
      no-letters = empty-list (letters_at slots (keys_of slots mine.mailbox)) (its-count ∙ sym (ap (λ (n : Mailbox). n.count) m-is) ∙ none)

      pub none-changes : (new : List (Option (Link M))) → new ≡ slots → Changes unread a (places_in slots entries) (places_in new entries)
      none-changes new same = subst (λ s. Changes unread a (places_in slots entries) (places_in s entries)) (sym same) (record {
        place = Some (place_of slots mine);
        becomes = record {
          before = place_of slots mine;
          after = place_of slots mine;
          was = at-places slots entries a ∙ ap (option_map (place_of slots)) at;
          is = refl;
          timer = refl;
          actor = ap (λ ls. record { mode = mode_of mine.mode; mailbox = ls; timeout = mine.timeout }) (no-letters ∙ sym (ap rest_of no-letters));
        };
        is = sym (ap (λ v. set (places_in slots entries) a v) (sym (at-places slots entries a ∙ ap (option_map (place_of slots)) at)) ∙ set-get_or (places_in slots entries) a None);
      })

      pub none-first : IfSome (value_at (places_in slots entries) a) (λ p. None ≡ first_of p.mailbox)
      none-first = tells (λ p. None ≡ first_of p.mailbox) (sym (ap first_of no-letters))

  -- A mailbox without a first message is empty.
  no-first : (ls : List (Letter M)) → None ≡ first_of ls → length ls ≡ 0
  no-first [] e = refl
  no-first (l ∷ ls) e = absurd (none-some l e)

  module _ (empty : IfSome (value_at (places_in slots entries) a) (λ p. None ≡ first_of p.mailbox)) where
    zero-count : mine.mailbox.count ≡ 0
    zero-count = sym its-count ∙ no-first (letters_at slots (keys_of slots mine.mailbox)) (told (λ p. None ≡ first_of p.mailbox) empty)

    gone-moves : Moves slots slots entries a None
    gone-moves = stays slots count entries a None sound (sym (ap (keys_in slots) at ∙ ap (λ n. keys_from (next_in slots) n mine.mailbox.first) zero-count)) tt

    pub gone-sound : Sound slots count (set entries a None)
    gone-sound = moved-sound slots slots entries a None inside gone-moves count count sound (omega (arith, ap count_in at, zero-count))

    pub gone-places : places_in slots (set entries a None) ≡ set (places_in slots entries) a None
    gone-places = moved-places slots slots entries a None inside gone-moves

  -- The remains of an actor.
  pub left-timer : (x : Option Entry) (timer : ℕ) → x ≡ get_or entries a x → IfSome x (λ e. timer ≡ e.timer) → IfSome (value_at (places_in slots entries) a) (λ p. timer ≡ p.timer)
  left-timer x timer is holds = tells (λ p. timer ≡ p.timer) (of-read (λ e. timer ≡ e.timer) x is holds)

  pub left-letters : (x : Option Entry) (letters : ℕ) → x ≡ get_or entries a x → IfSome x (λ e. letters ≡ e.mailbox.count) → IfSome (value_at (places_in slots entries) a) (λ p. letters ≡ length p.mailbox)
  left-letters x letters is holds = tells (λ p. letters ≡ length p.mailbox) (of-read (λ e. letters ≡ e.mailbox.count) x is holds ∙ sym its-count)
