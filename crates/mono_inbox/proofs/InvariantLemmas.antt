-- The calls on the state keep what holds of it.
use Rattle.std.proofs.Common.{◌≡◌, ◌≢◌, ◌<◌, ◌≤◌, inl, inr, ℕ, ◌+◌, ◌-◌, Bool, true, false, List, [], ◌∷◌, ◌++◌, length, set, refl, ap, sym, ◌∙◌, arith}
use Rattle.std.specs.Prelude.{◌||◌, not, if◌then◌else◌, map, replicate}
use Rattle.std.proofs.lemmas.Bool.{cases_eq}
use Rattle.std.proofs.lemmas.List.{get_or-set_same, get_or-set_other, length_push}
use Rattle.mono_model.specs.Valid.{times, once_if}
use Rattle.mono_model.proofs.CountLemmas.{times-push, one_time, no_time}
use Rattle.mono_inbox.specs.declared.standings.Standing.{Standing}
use Rattle.mono_inbox.specs.declared.standings.Standing.TheVariants.{Unknown, Known, Waiting, Retired}
use Rattle.mono_inbox.specs.Standings.{knows, waits, has_place, standing_at}
use Rattle.mono_model.specs.Inbox.{is_waiting}
use Rattle.mono_inbox.specs.State.{is_known, is_unlisted, put_answer, after_put}
use Rattle.mono_inbox.specs.Invariants.{IsSound}
use Rattle.mono_inbox.proofs.CountLemmas.{count_where-set, count_where-more, standing_at-more, place_free, has_entry, known_at, known-kept}
use Rattle.mono_inbox.proofs.ListLemmas.{is_waiting-once}

-- One task has another standing, and no other changes.
changed : (waiting later : List ℕ) (standings : List Standing) (places after room now t : ℕ) (new : Standing) → IsSound waiting standings places room → t < length standings
    → after + once_if (has_place (standing_at standings t)) ≡ places + once_if (has_place new)
    → length later + once_if (waits (standing_at standings t)) ≡ length waiting + once_if (waits new)
    → ((u : ℕ) → u ≢ t → times later u ≡ times waiting u) → times later t ≡ once_if (waits new) → after ≤ now
    → IsSound later (set standings t new) after now
changed waiting later standings places after room now t new sound below placed listed others here sure = record {
  once = λ u. elim (cases_eq u t) [
    | inl same ↦ rw same (here ∙ ap (λ s. once_if (waits s)) (sym (get_or-set_same standings t new Unknown below)))
    | inr apart ↦ others u apart ∙ sound.once u ∙ ap (λ s. once_if (waits s)) (sym (get_or-set_other standings t u new Unknown apart))
  ];
  listed = omega (arith, listed, sound.listed, count_where-set waits standings t new below);
  placed = omega (arith, placed, sound.placed, count_where-set has_place standings t new below);
  sure = sure;
}

module _ (waiting : List ℕ) (standings : List Standing) (places room : ℕ) (sound : IsSound waiting standings places room) (t : ℕ) where
  of_standing : (test : Standing → Bool) (s : Standing) → standing_at standings t ≡ s → once_if (test (standing_at standings t)) ≡ once_if (test s)
  of_standing test s at = ap (λ x. once_if (test x)) at

  pub entry_of : (s : Standing) → standing_at standings t ≡ s → has_place s ≡ true → t < length standings
  entry_of s at placed = has_entry standings t (ap has_place at ∙ placed)

  pub room_for : standing_at standings t ≡ Known → length waiting < room
  room_for at = omega (arith, place_free standings t at, sound.listed, sound.placed, sound.sure)

  pub some_place : (s : Standing) → standing_at standings t ≡ s → has_place s ≡ true → 1 ≤ places
  some_place s at placed = let below = entry_of s at placed in
      omega (arith, sound.placed, count_where-set has_place standings t Unknown below, of_standing has_place s at, ap once_if placed)

  -- Whether a wake of the task is listed, by the task's standing.
  unlisted_is : (s : Standing) → standing_at standings t ≡ s → is_unlisted (record { waiting = waiting; known = map knows standings }) t ≡ (not (knows s) || waits s)
  unlisted_is s at =
      ap (λ b. not b || is_waiting waiting t) (known_at standings t ∙ ap knows at)
      ∙ ap (λ b. not (knows s) || b) (is_waiting-once waiting t (waits s) (sound.once t ∙ of_standing waits s at))

  -- a task that has no place is not known, and does not wait
  pub unknown_is : standing_at standings t ≡ Unknown → (is_known (record { waiting = waiting; known = map knows standings }) t ≡ false) × (is_waiting waiting t ≡ false)
  unknown_is at = (known_at standings t ∙ ap knows at, is_waiting-once waiting t false (sound.once t ∙ of_standing waits Unknown at))

  pub put_answer-is : (s : Standing) → standing_at standings t ≡ s → put_answer (record { waiting = waiting; known = map knows standings }) t ≡ (if not (knows s) || waits s then false else true)
  put_answer-is s at = ap (λ b. if b then false else true) (unlisted_is s at)

  pub after_put-is : (s : Standing) → standing_at standings t ≡ s → after_put (record { waiting = waiting; known = map knows standings }) t
      ≡ (if not (knows s) || waits s then record { waiting = waiting; known = map knows standings } else record { waiting = waiting ++ t ∷ []; known = map knows standings })
  after_put-is s at = ap (λ b. if b then record { waiting = waiting; known = map knows standings } else record { waiting = waiting ++ t ∷ []; known = map knows standings }) (unlisted_is s at)

  -- a wake of a task that is not known, or waits already, is not listed, and changes nothing
  pub turned_away : (s : Standing) → standing_at standings t ≡ s → (not (knows s) || waits s) ≡ true
      → (false ≡ put_answer (record { waiting = waiting; known = map knows standings }) t)
      × (record { waiting = waiting; known = map knows standings } ≡ after_put (record { waiting = waiting; known = map knows standings }) t)
  turned_away s at kept_out = (sym (rw kept_out at (put_answer-is s at)), sym (rw kept_out at (after_put-is s at)))

  -- a known task that does not wait keeps being known
  pub listing-known : standing_at standings t ≡ Known → map knows (set standings t Waiting) ≡ map knows standings
  listing-known at = known-kept standings t Waiting (sym (ap knows at))

  -- a known task is listed
  pub put-sound : standing_at standings t ≡ Known → IsSound (waiting ++ t ∷ []) (set standings t Waiting) places room
  put-sound at =
      changed waiting (waiting ++ t ∷ []) standings places places room room t Waiting sound (entry_of Known at refl)
      (omega (arith, of_standing has_place Known at))
      (omega (arith, of_standing waits Known at, length_push waiting t))
      (λ u apart. omega (arith, times-push waiting t u, no_time t u (λ same. apart (sym same))))
      (omega (arith, times-push waiting t t, one_time t, sound.once t, of_standing waits Known at))
      sound.sure

  -- a known task that does not wait is retired
  pub retire_known-sound : standing_at standings t ≡ Known → IsSound waiting (set standings t Unknown) (places - 1) room
  retire_known-sound at =
      changed waiting waiting standings places (places - 1) room room t Unknown sound (entry_of Known at refl)
      (omega (arith, of_standing has_place Known at, some_place Known at refl))
      (omega (arith, of_standing waits Known at))
      (λ u apart. refl)
      (sound.once t ∙ of_standing waits Known at)
      (omega (arith, sound.sure))

  -- a waiting task is retired, or is made known again
  pub again-sound : (old new : Standing) → standing_at standings t ≡ old → waits old ≡ true → waits new ≡ true → has_place old ≡ true → has_place new ≡ true
      → IsSound waiting (set standings t new) places room
  again-sound old new at old_waits new_waits old_placed new_placed =
      changed waiting waiting standings places places room room t new sound (entry_of old at old_placed)
      (omega (arith, of_standing has_place old at, ap once_if old_placed, ap once_if new_placed))
      (omega (arith, of_standing waits old at, ap once_if old_waits, ap once_if new_waits))
      (λ u apart. refl)
      (sound.once t ∙ of_standing waits old at ∙ ap once_if old_waits ∙ ap once_if (sym new_waits))
      sound.sure

  grown : (n now : ℕ) → room ≤ now → IsSound waiting (standings ++ replicate n Unknown) places now
  grown n now more = record {
    once = λ u. sound.once u ∙ ap (λ s. once_if (waits s)) (sym (standing_at-more standings n u));
    listed = sound.listed ∙ sym (count_where-more waits standings n refl);
    placed = sound.placed ∙ sym (count_where-more has_place standings n refl);
    sure = omega (arith, sound.sure, more);
  }

  -- an unknown task is made known, in a table that has grown
  pub know-sound : (n now : ℕ) → standing_at standings t ≡ Unknown → t < length (standings ++ replicate n Unknown) → room ≤ now → places < now
      → IsSound waiting (set (standings ++ replicate n Unknown) t Known) (places + 1) now
  know-sound n now at below more free =
      let here : standing_at (standings ++ replicate n Unknown) t ≡ Unknown = standing_at-more standings n t ∙ at in
      changed waiting waiting (standings ++ replicate n Unknown) places (places + 1) now now t Known (grown n now more) below
      (omega (arith, ap (λ s. once_if (has_place s)) here))
      (omega (arith, ap (λ s. once_if (waits s)) here))
      (λ u apart. refl)
      (sound.once t ∙ of_standing waits Unknown at)
      (omega (arith, free))

once_at_most : (b : Bool) → once_if b ≤ 1
once_at_most true = omega arith
once_at_most false = omega arith

module _ (t : ℕ) (rest : List ℕ) (standings : List Standing) (places room : ℕ) (sound : IsSound (t ∷ rest) standings places room) where
  -- the front of the list waits
  pub front_waits : once_if (waits (standing_at standings t)) ≡ 1
  front_waits = omega (arith, sound.once t, one_time t, once_at_most (waits (standing_at standings t)))

  alone : times rest t ≡ 0
  alone = omega (arith, sound.once t, one_time t, front_waits)

  others : (u : ℕ) → u ≢ t → times rest u ≡ times (t ∷ rest) u
  others u apart = omega (arith, no_time t u (λ same. apart (sym same)))

  pub leave_known-sound : standing_at standings t ≡ Waiting → IsSound rest (set standings t Known) places room
  leave_known-sound at =
      changed (t ∷ rest) rest standings places places room room t Known sound (has_entry standings t (ap has_place at))
      (omega (arith, ap (λ s. once_if (has_place s)) at))
      (omega (arith, ap (λ s. once_if (waits s)) at))
      others alone sound.sure

  pub leave_retired-sound : standing_at standings t ≡ Retired → IsSound rest (set standings t Unknown) (places - 1) room
  leave_retired-sound at =
      changed (t ∷ rest) rest standings places (places - 1) room room t Unknown sound (has_entry standings t (ap has_place at))
      (omega (arith, ap (λ s. once_if (has_place s)) at, some_place (t ∷ rest) standings places room sound t Retired at refl))
      (omega (arith, ap (λ s. once_if (waits s)) at))
      others alone (omega (arith, sound.sure))
