-- The output of a replay whose first line is no event.
use Rattle.std.proofs.Common.{◌≡◌, ◌≢◌, ℕ, ◌^◌, ◌-◌, ◌<◌, ◌≤◌, ◌+◌, true, List, [], ◌∷◌, ◌++◌, Option, Some, codes, length, lit≤, lit<, refl, ap, subst, ◌∙◌, inl, inr}
use Rattle.std.proofs.lemmas.Bool.{cases_eq}
use Rattle.mono_machine.specs.declared.events.Limits.{Limits}
use Rattle.mono_machine.specs.declared.events.Blocking.TheVariants as blocking
use Rattle.mono_machine.specs.declared.events.Act.TheVariants as act
use Rattle.mono_machine.specs.declared.events.Event.{Event}
use Rattle.mono_machine.specs.declared.events.Event.TheVariants as event
use Rattle.mono_text.specs.Environment.{HasWritten}
use Rattle.mono_text.specs.LineText.{event_text}
use Rattle.mono_text.specs.Lines.{Line, lines, AreLines, IsEventLine, IsFirstBad}
use Rattle.mono_script.specs.declared.command.Command.{Command}
use Rattle.mono_script.specs.declared.command.Command.TheVariants as command
use Rattle.mono_script.specs.Command.{IsCommand}
use Rattle.mono_script.specs.Endings.{IsInput, IsRead, NamesBadLine, bad_line_text, max_input}
use Rattle.mono_script.specs.Meanings.{meaning}
use Rattle.mono_script.specs.TopCall.{View, CarriesOut, view_of}
use Rattle.example_checks.specs.Outputs.{line, Gives, Ended}
use Rattle.example_checks.proofs.NumberTextLemmas.{one_text, sixteen_text}
use Rattle.example_checks.proofs.OutputLemmas.{never, same_input}

-- the output of an input whose first bad line is this one alone
names : (words : List (List ℕ)) (readings : Option (List ℕ)) (a b : View) (code : ℕ) (k : Command) (input : List ℕ) (n : ℕ) → a.read_faults ≡ 0 → b.read_faults ≡ 0
    → CarriesOut words readings a b code → IsCommand words k → IsInput (meaning readings k).reads a.left input → length input ≤ max_input
    → (meaning readings k).IsFirstBad input n → ((other : ℕ) → (meaning readings k).IsFirstBad input other → other ≡ n) → Gives 3 (bad_line_text n) a.written b.written code
names words readings a b code k input n sure same c is there short first once = elim (cases_eq code 5) [
  | inl five ↦ inl five
  | inr no_write ↦ elim (cases_eq code 6) [
    | inl six ↦ inr (inl six)
    | inr no_memory ↦
        let unread : code ≢ 4 = λ four. never a.read_faults b.read_faults sure same (c.read_fault four).0 in
        let read : IsRead code = record { usage = λ two. c.usage.0 two k is; read_fault = unread; memory = no_memory } in
        let three : code ≡ 3 = (c.bad_line_where k input is there read no_write).1 (short, (n, first)) in
        let named : NamesBadLine (meaning readings k) a.left b.left a.written b.written = c.bad_line three k is in
        let one : named.line ≡ n = once named.line (subst (λ i. (meaning readings k).IsFirstBad i named.line) (same_input (meaning readings k).reads a.left b.left input named.input there named.read) named.first) in
        inr (inr (three, subst (λ l. HasWritten a.written b.written (bad_line_text l)) one named.wrote))
  ]
]

abbrev limits : Limits
limits = record { tasks = 16; jobs = 16; sleeps = 16 }

abbrev pub words : List (List ℕ)
words = codes "replay" ∷ codes "attached" ∷ codes "16" ∷ codes "16" ∷ codes "16" ∷ []

abbrev pub input : List ℕ
input = line (codes "x")

abbrev pub output : List ℕ
output = line (codes "bad line 1")

is_command : IsCommand words (command.Replay limits blocking.Attached)
is_command = record { text = rw sixteen_text refl; fit = record { tasks = lit< tt; jobs = lit< tt; sleeps = lit< tt } }

no_event : (e : Event) → codes "x" ≡ event_text e → ⊥
no_event (event.Act act.Spawn) is = cc is
no_event (event.Act (act.Wake t)) is = cc is
no_event (event.Act (act.NewSleep n)) is = cc is
no_event (event.Act (act.Reset s n)) is = cc is
no_event (event.Act (act.DropSleep s)) is = cc is
no_event (event.Act (act.DropJoin t)) is = cc is
no_event (event.Act (act.Block o)) is = cc is
no_event (event.Act (act.DropJob j)) is = cc is
no_event (event.Act (act.Finished t)) is = cc is
no_event (event.Act (act.JobFinished j)) is = cc is
no_event (event.Act (act.SleepElapsed s)) is = cc is
no_event (event.Act (act.JobEnd j h)) is = cc is
no_event (event.Turn steps end) is = cc is
no_event (event.Clock n) is = cc is
no_event (event.Remote t) is = cc is
no_event event.Drain is = cc is

abbrev bad : Line
bad = record { bytes = codes "x"; is_ended = true }

first : IsFirstBad (lines input) 1
first = ([], [], bad, [], refl, tt, refl, λ e says. no_event e says.text)

abbrev first_of : List Line → Line
first_of [] = bad
first_of (x ∷ xs) = x

once : (n : ℕ) (values : List Event) (good : List Line) (l : Line) (rest : List Line) → lines input ≡ good ++ l ∷ rest → AreLines IsEventLine values good → n ≡ length good + 1 → n ≡ 1
once n values [] l rest split are is = is
once n [] (g ∷ good) l rest split are is = absurd are
once n (e ∷ values) (g ∷ good) l rest split are is =
    let same : bad ≡ g = ap first_of split in
    absurd (no_event e (ap (λ (x : Line). x.bytes) same ∙ are.0.text))

pub bad_line_gives : (before after : Option (List ℕ)) (faults later code : ℕ) → faults < 2 ^ 64 - 1 → Ended words input before after faults later code → Gives 3 output before after code
bad_line_gives before after faults later code few p =
    let named : Gives 3 (bad_line_text 1) before after code =
    names words p.0 (view_of (Some input) 0 before faults p.2.0) (view_of p.1 0 after later p.2.1) code (command.Replay limits blocking.Attached) input 1
    refl refl p.2.2 is_command refl (lit≤ tt) first (λ n f. once n f.0 f.1 f.2 f.3 f.4 f.5 f.6) in
    subst (λ t. Gives 3 t before after code) (rw one_text refl) named
