-- The contract of the top call, from the end of the command.
use Rattle.std.proofs.Common.{◌≡◌, ◌≢◌, ℕ, ◌≤◌, true, false, List, Option, refl, sym, ap, subst, ◌∙◌, arith}
use Rattle.mono_text.specs.Environment.{HasRisen}
use Rattle.mono_script.specs.declared.command.Command.{Command}
use Rattle.mono_script.specs.declared.command.Command.TheVariants as command
use Rattle.mono_script.specs.declared.ends.Status.{Status}
use Rattle.mono_script.specs.declared.ends.Status.TheVariants as status
use Rattle.mono_script.specs.Command.{IsCommand, IsNoCommand}
use Rattle.mono_script.specs.Endings.{Meaning, Ends, IsRead, Asks, status_code}
use Rattle.mono_script.specs.Meanings.{meaning}
use Rattle.mono_script.specs.TopCall.{View, CarriesOut}
use Rattle.mono_script.proofs.NumberLemmas.{status_once}
use Rattle.mono_script.proofs.CommandLemmas.{command_once}
use Rattle.mono_script.proofs.MainPlaceLemmas.{full_where}
use Rattle.mono_script.proofs.StatusLemmas.{sound, long_where, bad_where, completed, no_usage, rose_in_reading, rose_in_writing}

-- the effects of an end, between two views
abbrev pub EndsIn : Meaning → View → View → Status → Type 0
EndsIn m a b s = Ends m a.left b.left a.written b.written (HasRisen a.read_faults b.read_faults) (HasRisen a.write_faults b.write_faults) s

-- the status is the one of the number
by : (m : Meaning) (a b : View) (s t : Status) → EndsIn m a b s → s ≡ t → EndsIn m a b t
by m a b s t ends same = subst (EndsIn m a b) same ends

-- A command that does not read has no read fault.
silent : (m : Meaning) (a b : View) (s : Status) → EndsIn m a b s → m.reads ≡ false → status_code s ≢ 4
silent m a b s ends off four =
    let p = by m a b s status.ReadFault ends (status_once s status.ReadFault four) in
    let both : true ≡ false = sym p.0 ∙ off in
    cc both

-- What was shown of one command holds of each that the words spell.
moved : (words : List (List ℕ)) (k c : Command) (Is : Command → Type 0) → IsCommand words k → Is k → IsCommand words c → Is c
moved words k c Is is p spelled = subst Is (command_once words k c is spelled) p

pub carried : (words : List (List ℕ)) (readings : Option (List ℕ)) (a b : View) (k : Command) (s : Status)
    → IsCommand words k → EndsIn (meaning readings k) a b s
    → (a.read_faults ≤ b.read_faults) × (a.write_faults ≤ b.write_faults)
    → (s ≢ status.ReadFault → b.read_faults ≡ a.read_faults) → (s ≢ status.WriteFault → b.write_faults ≡ a.write_faults)
    → ((meaning readings k).reads ≡ false → b.left ≡ a.left) → Asks (meaning readings k).workers a.starts b.starts s
    → CarriesOut words readings a b (status_code s)
carried words readings a b k s is ends later read_stays write_stays unread asks = record {
  usage = (λ two. absurd (no_usage (meaning readings k) a.left b.left a.written b.written (HasRisen a.read_faults b.read_faults) (HasRisen a.write_faults b.write_faults) s ends two), λ none_spelled. absurd (none_spelled k is));
  untouched = λ two. absurd (no_usage (meaning readings k) a.left b.left a.written b.written (HasRisen a.read_faults b.read_faults) (HasRisen a.write_faults b.write_faults) s ends two);
  done = λ e c spelled. moved words k c (λ c. EndsIn (meaning readings c) a b status.Done) is (by (meaning readings k) a b s status.Done ends (status_once s status.Done e)) spelled;
  not_a_run = λ e c spelled. moved words k c (λ c. EndsIn (meaning readings c) a b status.NotARun) is (by (meaning readings k) a b s status.NotARun ends (status_once s status.NotARun e)) spelled;
  turns = λ e c spelled. moved words k c (λ c. EndsIn (meaning readings c) a b status.Turns) is (by (meaning readings k) a b s status.Turns ends (status_once s status.Turns e)) spelled;
  capacity = λ e c spelled. moved words k c (λ c. EndsIn (meaning readings c) a b status.Capacity) is (by (meaning readings k) a b s status.Capacity ends (status_once s status.Capacity e)) spelled;
  bad_line = λ e c spelled. moved words k c (λ c. EndsIn (meaning readings c) a b status.BadLine) is (by (meaning readings k) a b s status.BadLine ends (status_once s status.BadLine e)) spelled;
  read_fault = λ e.
      let p = by (meaning readings k) a b s status.ReadFault ends (status_once s status.ReadFault e) in
      (p.1, p.2);
  write_fault = λ e.
      let p = by (meaning readings k) a b s status.WriteFault ends (status_once s status.WriteFault e) in
      (p.0, λ c spelled. (moved words k c (λ c. EndsIn (meaning readings c) a b status.WriteFault) is p spelled).1);
  out_of_memory = λ e. by (meaning readings k) a b s status.OutOfMemory ends (status_once s status.OutOfMemory e);
  too_long = λ e.
      let p = by (meaning readings k) a b s status.TooLong ends (status_once s status.TooLong e) in
      (p.1, p.2);
  others = (s, refl);
  too_long_where = λ c input spelled told read.
      let p = moved words k c (λ c. EndsIn (meaning readings c) a b s) is ends spelled in
      long_where (meaning readings c) a.left b.left a.written b.written (HasRisen a.read_faults b.read_faults) (HasRisen a.write_faults b.write_faults) input s p told read;
  bad_line_where = λ c input spelled told read wrote.
      let p = moved words k c (λ c. EndsIn (meaning readings c) a b s) is ends spelled in
      bad_where (meaning readings c) (sound readings c) a.left b.left a.written b.written (HasRisen a.read_faults b.read_faults) (HasRisen a.write_faults b.write_faults) input s p told read wrote;
  complete = λ c input spelled told short good no_read no_write.
      let p = moved words k c (λ c. EndsIn (meaning readings c) a b s) is ends spelled in
      completed (meaning readings c) (sound readings c) a.left b.left a.written b.written (HasRisen a.read_faults b.read_faults) (HasRisen a.write_faults b.write_faults) input s p told short good no_read no_write;
  capacity_where = λ workers turns input script spelled told short spells read wrote.
      let p = moved words k (command.Run workers turns) (λ c. EndsIn (meaning readings c) a b s) is ends spelled in
      full_where workers turns readings a.left b.left a.written b.written (HasRisen a.read_faults b.read_faults) (HasRisen a.write_faults b.write_faults) input script s p told short spells read wrote;
  unread = λ c spelled off.
      let p = moved words k c (λ c. EndsIn (meaning readings c) a b s) is ends spelled in
      (moved words k c (λ c. (meaning readings c).reads ≡ false → b.left ≡ a.left) is unread spelled off, silent (meaning readings c) a b s p off);
  counts = later;
  read_fault_where = λ less. rose_in_reading s a.read_faults b.read_faults read_stays less;
  write_fault_where = λ less. rose_in_writing s a.write_faults b.write_faults write_stays less;
  starts = λ c t spelled e.
      let p = moved words k c (λ c. Asks (meaning readings c).workers a.starts b.starts s) is asks spelled in
      subst (Asks (meaning readings c).workers a.starts b.starts) (status_once s t e) p;
}

-- Words that are no command end with Usage, and leave all as it was.
pub refused : (words : List (List ℕ)) (readings : Option (List ℕ)) (a b : View) → IsNoCommand words → b ≡ a
    → CarriesOut words readings a b 2
refused words readings a b none_spelled same = record {
  usage = (λ _. none_spelled, λ _. refl);
  untouched = λ _. same;
  done = λ e. absurd (omega (arith, e));
  not_a_run = λ e. absurd (omega (arith, e));
  turns = λ e. absurd (omega (arith, e));
  capacity = λ e. absurd (omega (arith, e));
  bad_line = λ e. absurd (omega (arith, e));
  read_fault = λ e. absurd (omega (arith, e));
  write_fault = λ e. absurd (omega (arith, e));
  out_of_memory = λ e. absurd (omega (arith, e));
  too_long = λ e. absurd (omega (arith, e));
  others = (status.Usage, refl);
  too_long_where = λ c input spelled. absurd (none_spelled c spelled);
  bad_line_where = λ c input spelled. absurd (none_spelled c spelled);
  complete = λ c input spelled. absurd (none_spelled c spelled);
  capacity_where = λ workers turns input script spelled. absurd (none_spelled (command.Run workers turns) spelled);
  unread = λ c spelled. absurd (none_spelled c spelled);
  counts = (omega (arith, ap (λ v. v.read_faults) same), omega (arith, ap (λ v. v.write_faults) same));
  read_fault_where = λ less. absurd (omega (arith, less, ap (λ v. v.read_faults) same));
  write_fault_where = λ less. absurd (omega (arith, less, ap (λ v. v.write_faults) same));
  starts = λ c t spelled. absurd (none_spelled c spelled);
}
