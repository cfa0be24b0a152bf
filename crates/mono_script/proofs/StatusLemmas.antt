-- The meaning of each status number, from that of the status, for every command.
use Rattle.std.proofs.Common.{◌≡◌, ◌≢◌, ◌↔◌, ◌⊎◌, ℕ, ◌<◌, ◌≤◌, Bool, true, false, List, Option, Some, length, refl, sym, ap, subst, ◌∙◌, arith, inl, inr}
use Rattle.mono_script.specs.declared.command.Command.{Command}
use Rattle.mono_script.specs.declared.command.Command.TheVariants as command
use Rattle.mono_text.specs.Lines.{lines}
use Rattle.mono_text.specs.Environment.{HasReadAll, IsLongerThan}
use Rattle.mono_script.specs.Endings.{Meaning, Ends, HasInput, IsInput, HasAnswered, IsRead, IsAnswered, status_code, max_input}
use Rattle.mono_script.specs.Meanings.{meaning}
use Rattle.mono_script.specs.declared.ends.Status.{Status}
use Rattle.mono_script.specs.declared.ends.Status.TheVariants as status
use Rattle.mono_text.proofs.InputLineLemmas.{not_both}
use Rattle.mono_script.proofs.CommandMeaningLemmas.{Sound}
use Rattle.mono_run.specs.ScriptText.{IsScript, task_lines}
use Rattle.mono_run.proofs.BeginningLemmas.{not_out}
use Rattle.mono_script.proofs.ServiceLemmas.{sound_serving}
use Rattle.mono_session.specs.Keeper.{no_sessions}
use Rattle.mono_lines.specs.SessionTexts as session_line
use Rattle.mono_limit.specs.Limiter.{no_limits}
use Rattle.mono_lines.specs.LimiterTexts as limiter_line
use Rattle.mono_actor.specs.Actors.{no_actors}
use Rattle.mono_lines.specs.ActorTexts.{line_text, FitsLine}
use Rattle.mono_lines.specs.ActorAnswers.{Answers}
use Rattle.mono_script.proofs.CheckLemmas.{sound_checking, sound_checking_whole}

-- ---- each command: the facts that it owes of its meaning

pub sound : (readings : Option (List ℕ)) (c : Command) → Sound (meaning readings c)
sound readings (command.Replay l g) = record {
  apart = λ input n good bad. not_both good.0 (lines input) n good.1 bad;
  good = λ input s output a. (a.1.events, a.1.are_lines);
}
sound readings (command.Run workers turns) = record {
  apart = λ input n good bad. not_out (IsScript (task_lines (lines input))) (lines input) n (good.0, good.1.sound, good.1.text) bad;
  good = λ input s output a. (a.0, a.1);
}
sound readings (command.Load seed count) = record {
  apart = λ input n good bad. bad;
  good = λ input s output a. tt;
}
sound readings (command.Sessions sessions entries) = sound_serving session_line.call_text session_line.FitsCall session_line.StepsAs (no_sessions sessions entries)
sound readings (command.Limiter buckets retries) = sound_serving limiter_line.call_text limiter_line.FitsCall limiter_line.StepsAs (no_limits buckets retries)
sound readings (command.Actors actors messages) = sound_serving line_text FitsLine Answers (no_actors actors messages)
sound readings (command.Check l g) = sound_checking l g
sound readings (command.CheckWhole l g) = sound_checking_whole l g

-- ---- when a status is returned

longer : (left : Option (List ℕ)) (input : List ℕ) → left ≡ Some input → IsLongerThan max_input left → max_input < length input
longer left input told long = subst (IsLongerThan max_input) told long

-- the bytes read are the input, which is not too long
had : (reads : Bool) (left : Option (List ℕ)) (input bytes : List ℕ) (rest : Option (List ℕ)) → IsInput reads left input → HasInput reads left bytes rest
    → (input ≡ bytes) × (length input ≤ max_input)
had true left input bytes rest told read =
    let k : HasReadAll (Some input) bytes rest = subst (λ l. HasReadAll l bytes rest) told read.0 in
    (k.0, rw k.0 read.1)
had false left input bytes rest told read = (told ∙ sym read.0, rw told (omega arith))

too_long : (reads : Bool) (left : Option (List ℕ)) (input : List ℕ) → reads ≡ true → IsInput reads left input → IsLongerThan max_input left → max_input < length input
too_long true left input r told long = longer left input told long
too_long false left input r told long = cc r

pub long_where : (m : Meaning) (left rest before after : Option (List ℕ)) (R W : Type 0) (input : List ℕ) (s : Status)
    → Ends m left rest before after R W s → IsInput m.reads left input → IsRead (status_code s) → (status_code s ≡ 7 ↔ max_input < length input)
long_where m left rest b a R W input status.Done p told read =
    let h = had m.reads left input p.input rest told p.read in (λ e. absurd (omega (arith, e)), λ long. absurd (omega (arith, long, h.1)))
long_where m left rest b a R W input status.NotARun p told read =
    let h = had m.reads left input p.input rest told p.read in (λ e. absurd (omega (arith, e)), λ long. absurd (omega (arith, long, h.1)))
long_where m left rest b a R W input status.Turns p told read =
    let h = had m.reads left input p.input rest told p.read in (λ e. absurd (omega (arith, e)), λ long. absurd (omega (arith, long, h.1)))
long_where m left rest b a R W input status.Capacity p told read =
    let h = had m.reads left input p.input rest told p.read in (λ e. absurd (omega (arith, e)), λ long. absurd (omega (arith, long, h.1)))
long_where m left rest b a R W input status.BadLine p told read =
    let h = had m.reads left input p.input rest told p.read in (λ e. absurd (omega (arith, e)), λ long. absurd (omega (arith, long, h.1)))
long_where m left rest b a R W input status.WriteFault p told read =
    let h = had m.reads left input p.1.input rest told p.1.read in (λ e. absurd (omega (arith, e)), λ long. absurd (omega (arith, long, h.1)))
long_where m left rest b a R W input status.TooLong p told read = (λ _. too_long m.reads left input p.0 told p.1, λ _. refl)
long_where m left rest b a R W input status.ReadFault p told read = absurd (read.read_fault refl)
long_where m left rest b a R W input status.OutOfMemory p told read = absurd (read.memory refl)
long_where m left rest b a R W input status.Usage p told read = absurd p

-- an answer keeps a bad line away
answered : (m : Meaning) → Sound m → (t : Status) (left rest before after : Option (List ℕ)) (input : List ℕ) → HasAnswered m t left rest before after → IsInput m.reads left input
    → (n : ℕ) → m.IsFirstBad input n → ⊥
answered m sound t left rest b a input p told n bad =
    let h = had m.reads left input p.input rest told p.read in
    sound.apart p.input n (sound.good p.input t p.output p.answers) (subst (λ x. m.IsFirstBad x n) h.0 bad)

pub bad_where : (m : Meaning) → Sound m → (left rest before after : Option (List ℕ)) (R W : Type 0) (input : List ℕ) (s : Status)
    → Ends m left rest before after R W s → IsInput m.reads left input → IsRead (status_code s) → status_code s ≢ 5
    → (status_code s ≡ 3 ↔ (length input ≤ max_input) × ((n : ℕ) × m.IsFirstBad input n))
bad_where m sound left rest b a R W input status.Done p told read wrote =
    (λ e. absurd (omega (arith, e)), λ bad. absurd (answered m sound status.Done left rest b a input p told bad.1.0 bad.1.1))
bad_where m sound left rest b a R W input status.NotARun p told read wrote =
    (λ e. absurd (omega (arith, e)), λ bad. absurd (answered m sound status.NotARun left rest b a input p told bad.1.0 bad.1.1))
bad_where m sound left rest b a R W input status.Turns p told read wrote =
    (λ e. absurd (omega (arith, e)), λ bad. absurd (answered m sound status.Turns left rest b a input p told bad.1.0 bad.1.1))
bad_where m sound left rest b a R W input status.Capacity p told read wrote =
    (λ e. absurd (omega (arith, e)), λ bad. absurd (answered m sound status.Capacity left rest b a input p told bad.1.0 bad.1.1))
bad_where m sound left rest b a R W input status.BadLine p told read wrote =
    let h = had m.reads left input p.input rest told p.read in
    (λ _. (h.1, (p.line, subst (λ x. m.IsFirstBad x p.line) (sym h.0) p.first)), λ _. refl)
bad_where m sound left rest b a R W input status.TooLong p told read wrote =
    (λ e. absurd (omega (arith, e)), λ bad. absurd (omega (arith, bad.0, too_long m.reads left input p.0 told p.1)))
bad_where m sound left rest b a R W input status.WriteFault p told read wrote = absurd (wrote refl)
bad_where m sound left rest b a R W input status.ReadFault p told read wrote = absurd (read.read_fault refl)
bad_where m sound left rest b a R W input status.OutOfMemory p told read wrote = absurd (read.memory refl)
bad_where m sound left rest b a R W input status.Usage p told read wrote = absurd p

was_answered : (m : Meaning) (t : Status) (left rest before after : Option (List ℕ)) (input : List ℕ) → HasAnswered m t left rest before after → IsInput m.reads left input
    → IsAnswered m input (status_code t)
was_answered m t left rest b a input p told =
    let h = had m.reads left input p.input rest told p.read in (t, refl, (p.output, subst (λ x. m.Answers x t p.output) (sym h.0) p.answers))

pub completed : (m : Meaning) → Sound m → (left rest before after : Option (List ℕ)) (R W : Type 0) (input : List ℕ) (s : Status)
    → Ends m left rest before after R W s → IsInput m.reads left input → length input ≤ max_input → m.IsGood input → (m.reads ≡ true → R → ⊥) → (W → ⊥)
    → (status_code s ≡ 6) ⊎ IsAnswered m input (status_code s)
completed m sound left rest b a R W input status.Done p told short good no_read no_write = inr (was_answered m status.Done left rest b a input p told)
completed m sound left rest b a R W input status.NotARun p told short good no_read no_write = inr (was_answered m status.NotARun left rest b a input p told)
completed m sound left rest b a R W input status.Turns p told short good no_read no_write = inr (was_answered m status.Turns left rest b a input p told)
completed m sound left rest b a R W input status.Capacity p told short good no_read no_write = inr (was_answered m status.Capacity left rest b a input p told)
completed m sound left rest b a R W input status.OutOfMemory p told short good no_read no_write = inl refl
completed m sound left rest b a R W input status.BadLine p told short good no_read no_write =
    let h = had m.reads left input p.input rest told p.read in
    absurd (sound.apart input p.line good (subst (λ x. m.IsFirstBad x p.line) (sym h.0) p.first))
completed m sound left rest b a R W input status.TooLong p told short good no_read no_write = absurd (omega (arith, short, too_long m.reads left input p.0 told p.1))
completed m sound left rest b a R W input status.ReadFault p told short good no_read no_write = absurd (no_read p.0 p.1)
completed m sound left rest b a R W input status.WriteFault p told short good no_read no_write = absurd (no_write p.0)
completed m sound left rest b a R W input status.Usage p told short good no_read no_write = absurd p

-- a good input that was all read, with all output written, has an answer with the status
pub answer_to_good : (m : Meaning) → Sound m → (left rest before after : Option (List ℕ)) (R W : Type 0) (input : List ℕ) (s : Status)
    → Ends m left rest before after R W s → IsInput m.reads left input → length input ≤ max_input → m.IsGood input → IsRead (status_code s) → status_code s ≢ 5
    → (output : List ℕ) × m.Answers input s output
answer_to_good m sound left rest b a R W input status.Done p told short good read wrote =
    let h = had m.reads left input p.input rest told p.read in (p.output, subst (λ x. m.Answers x status.Done p.output) (sym h.0) p.answers)
answer_to_good m sound left rest b a R W input status.NotARun p told short good read wrote =
    let h = had m.reads left input p.input rest told p.read in (p.output, subst (λ x. m.Answers x status.NotARun p.output) (sym h.0) p.answers)
answer_to_good m sound left rest b a R W input status.Turns p told short good read wrote =
    let h = had m.reads left input p.input rest told p.read in (p.output, subst (λ x. m.Answers x status.Turns p.output) (sym h.0) p.answers)
answer_to_good m sound left rest b a R W input status.Capacity p told short good read wrote =
    let h = had m.reads left input p.input rest told p.read in (p.output, subst (λ x. m.Answers x status.Capacity p.output) (sym h.0) p.answers)
answer_to_good m sound left rest b a R W input status.BadLine p told short good read wrote =
    let h = had m.reads left input p.input rest told p.read in
    absurd (sound.apart input p.line good (subst (λ x. m.IsFirstBad x p.line) (sym h.0) p.first))
answer_to_good m sound left rest b a R W input status.TooLong p told short good read wrote = absurd (omega (arith, short, too_long m.reads left input p.0 told p.1))
answer_to_good m sound left rest b a R W input status.ReadFault p told short good read wrote = absurd (read.read_fault refl)
answer_to_good m sound left rest b a R W input status.WriteFault p told short good read wrote = absurd (wrote refl)
answer_to_good m sound left rest b a R W input status.OutOfMemory p told short good read wrote = absurd (read.memory refl)
answer_to_good m sound left rest b a R W input status.Usage p told short good read wrote = absurd p

pub no_usage : (m : Meaning) (left rest before after : Option (List ℕ)) (R W : Type 0) (s : Status) → Ends m left rest before after R W s → status_code s ≡ 2 → ⊥
no_usage m left rest b a R W status.Usage p e = p
no_usage m left rest b a R W status.Done p e = omega (arith, e)
no_usage m left rest b a R W status.BadLine p e = omega (arith, e)
no_usage m left rest b a R W status.ReadFault p e = omega (arith, e)
no_usage m left rest b a R W status.WriteFault p e = omega (arith, e)
no_usage m left rest b a R W status.OutOfMemory p e = omega (arith, e)
no_usage m left rest b a R W status.TooLong p e = omega (arith, e)
no_usage m left rest b a R W status.Turns p e = omega (arith, e)
no_usage m left rest b a R W status.Capacity p e = omega (arith, e)
no_usage m left rest b a R W status.NotARun p e = omega (arith, e)

-- ---- when the count of faults rose

pub rose_in_reading : (s : Status) (old new : ℕ) → (s ≢ status.ReadFault → new ≡ old) → old < new → status_code s ≡ 4
rose_in_reading status.ReadFault old new stays less = refl
rose_in_reading status.Done old new stays less = absurd (omega (arith, less, stays (λ e. omega (arith, ap status_code e))))
rose_in_reading status.Usage old new stays less = absurd (omega (arith, less, stays (λ e. omega (arith, ap status_code e))))
rose_in_reading status.BadLine old new stays less = absurd (omega (arith, less, stays (λ e. omega (arith, ap status_code e))))
rose_in_reading status.WriteFault old new stays less = absurd (omega (arith, less, stays (λ e. omega (arith, ap status_code e))))
rose_in_reading status.OutOfMemory old new stays less = absurd (omega (arith, less, stays (λ e. omega (arith, ap status_code e))))
rose_in_reading status.TooLong old new stays less = absurd (omega (arith, less, stays (λ e. omega (arith, ap status_code e))))
rose_in_reading status.NotARun old new stays less = absurd (omega (arith, less, stays (λ e. omega (arith, ap status_code e))))
rose_in_reading status.Turns old new stays less = absurd (omega (arith, less, stays (λ e. omega (arith, ap status_code e))))
rose_in_reading status.Capacity old new stays less = absurd (omega (arith, less, stays (λ e. omega (arith, ap status_code e))))

pub rose_in_writing : (s : Status) (old new : ℕ) → (s ≢ status.WriteFault → new ≡ old) → old < new → status_code s ≡ 5
rose_in_writing status.WriteFault old new stays less = refl
rose_in_writing status.Done old new stays less = absurd (omega (arith, less, stays (λ e. omega (arith, ap status_code e))))
rose_in_writing status.Usage old new stays less = absurd (omega (arith, less, stays (λ e. omega (arith, ap status_code e))))
rose_in_writing status.BadLine old new stays less = absurd (omega (arith, less, stays (λ e. omega (arith, ap status_code e))))
rose_in_writing status.ReadFault old new stays less = absurd (omega (arith, less, stays (λ e. omega (arith, ap status_code e))))
rose_in_writing status.OutOfMemory old new stays less = absurd (omega (arith, less, stays (λ e. omega (arith, ap status_code e))))
rose_in_writing status.TooLong old new stays less = absurd (omega (arith, less, stays (λ e. omega (arith, ap status_code e))))
rose_in_writing status.NotARun old new stays less = absurd (omega (arith, less, stays (λ e. omega (arith, ap status_code e))))
rose_in_writing status.Turns old new stays less = absurd (omega (arith, less, stays (λ e. omega (arith, ap status_code e))))
rose_in_writing status.Capacity old new stays less = absurd (omega (arith, less, stays (λ e. omega (arith, ap status_code e))))
