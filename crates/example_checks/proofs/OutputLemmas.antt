-- The output of a call, from the contract of the top call.
use Rattle.std.proofs.Common.{◌≡◌, ℕ, ◌^◌, ◌-◌, ◌<◌, ◌≤◌, Bool, true, false, List, Option, Some, Result, Ok, Err, IfOk, length, sym, ap, subst, ◌∙◌, arith, inl, inr}
use Rattle.std.proofs.lemmas.Bool.{cases_lt}
use Rattle.mono_text.specs.Environment.{HasRisen, HasReadAll, HasWritten}
use Rattle.mono_script.specs.declared.command.Command.{Command}
use Rattle.mono_script.specs.declared.ends.Status.{Status}
use Rattle.mono_script.specs.Command.{IsCommand}
use Rattle.mono_script.specs.Endings.{Meaning, HasInput, IsInput, HasAnswered, status_code, max_input}
use Rattle.mono_script.specs.Meanings.{meaning}
use Rattle.mono_script.specs.TopCall.{View, Answered, CarriesOut}
use Rattle.example_checks.specs.Outputs.{Gives, Ended}

-- a count that is always 0 never rises
pub never : (old new : ℕ) → old ≡ 0 → new ≡ 0 → HasRisen old new → ⊥
never old new none same (inl less) = omega (arith, less, none, same)
never old new none same (inr full) = omega (arith, full, none)

-- the input that was read is the one that was there
pub same_input : (reads : Bool) (left rest : Option (List ℕ)) (input found : List ℕ) → IsInput reads left input → HasInput reads left found rest → found ≡ input
same_input false left rest input found there read = read.0 ∙ sym there
same_input true left rest input found there read =
    let whole : HasReadAll (Some input) found rest = subst (λ l. HasReadAll l found rest) there read.0 in
    sym whole.0

-- The only answer to the input is this text with this status.
abbrev pub IsOnly : Meaning → List ℕ → Status → List ℕ → Type 0
IsOnly m input s text = (t : Status) (output : List ℕ) → m.Answers input t output → (t ≡ s) × (output ≡ text)

wrote : (m : Meaning) (s : Status) (left rest before after : Option (List ℕ)) (input text : List ℕ) → IsInput m.reads left input → IsOnly m input s text
    → HasAnswered m s left rest before after → HasWritten before after text
wrote m s left rest before after input text there only h =
    let answers : m.Answers input s h.output = subst (λ i. m.Answers i s h.output) (same_input m.reads left rest input h.input there h.read) h.answers in
    subst (HasWritten before after) (only s h.output answers).1 h.wrote

pub gives : (words : List (List ℕ)) (readings : Option (List ℕ)) (a b : View) (code : ℕ) (k : Command) (input text : List ℕ) (s : Status)
    → a.read_faults ≡ 0 → b.read_faults ≡ 0 → a.write_faults < 2 ^ 64 - 1
    → CarriesOut words readings a b code → IsCommand words k → IsInput (meaning readings k).reads a.left input → length input ≤ max_input → (meaning readings k).IsGood input
    → IsOnly (meaning readings k) input s text → (code ≡ status_code s → Answered words readings s a b) → Gives (status_code s) text a.written b.written code
gives words readings a b code k input text s sure same few c is there short good only whole = elim (cases_lt a.write_faults b.write_faults) [
  | inl less ↦ inl (c.write_fault_where less)
  | inr more ↦
      let unread : HasRisen a.read_faults b.read_faults → ⊥ = λ risen. never a.read_faults b.read_faults sure same risen in
      let unwritten : HasRisen a.write_faults b.write_faults → ⊥ = λ risen. elim risen [
        | inl less ↦ omega (arith, less, more)
        | inr full ↦ omega (arith, full, few)
      ] in
      elim (c.complete k input is there short good (λ _. unread) unwritten) [
        | inl six ↦ inr (inl six)
        | inr answer ↦
            let e : code ≡ status_code s = answer.1 ∙ ap status_code (only answer.0 answer.2.0 answer.2.1).0 in
            inr (inr (e, wrote (meaning readings k) s a.left b.left a.written b.written input text there only (whole e k is)))
      ]
]

-- the clause of a command, from that of its call
pub given : {E : Type 0} (words : List (List ℕ)) (input text : List ℕ) (status : ℕ) (before after : Option (List ℕ)) (faults later : ℕ) (spelled : List (List ℕ))
    → spelled ≡ words → faults < 2 ^ 64 - 1
    → ((before after : Option (List ℕ)) (faults later code : ℕ) → faults < 2 ^ 64 - 1 → Ended words input before after faults later code → Gives status text before after code)
    → (r : Result ℕ E) → IfOk r (Ended spelled input before after faults later) → IfOk r (Gives status text before after)
given words input text status before after faults later spelled same few lemma (Ok code) p =
    lemma before after faults later code few (subst (λ ws. Ended ws input before after faults later code) same p)
given words input text status before after faults later spelled same few lemma (Err e) p = tt
