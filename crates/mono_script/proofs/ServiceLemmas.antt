-- The result of serving is an output of the command whose calls and answers these are.
use Rattle.std.proofs.Common.{ℕ, List, Option, Result, Ok, Err, IfOk, refl, subst, sym}
use Rattle.mono_text.specs.Lines.{lines}
use Rattle.mono_text.specs.Services.{Says, Serves}
use Rattle.mono_text.specs.declared.services.Served.{Served}
use Rattle.mono_text.specs.declared.services.Served.TheVariants as served
use Rattle.mono_text.proofs.InputLineLemmas.{not_both_of}
use Rattle.mono_script.specs.declared.ends.Output.{Output}
use Rattle.mono_script.specs.declared.ends.Status.{Status}
use Rattle.mono_script.specs.declared.ends.Status.TheVariants as status
use Rattle.mono_script.specs.Endings.{IsOutput, IsLine}
use Rattle.mono_script.specs.Services.{serving, IsToldAs, IsLineOf}
use Rattle.mono_script.proofs.CommandMeaningLemmas.{Sound}

module _ {S A : Type 0} (text : A → List ℕ) (Fits : A → Type 0) (Answers : S → A → List ℕ → S → Type 0) (start : S) where
  -- the facts that such a command owes of its meaning
  pub sound_serving : Sound (serving text Fits Answers start)
  sound_serving = record {
    apart = λ input n good bad. not_both_of (Says text Fits) good.0 (lines input) n good.1 bad;
    good = λ input s output a. (a.1.calls, a.1.are_lines);
  }

  -- the result of serving, as a status and bytes, is an output of such a command
  pub as_output : (input : List ℕ) (r : Served) (s : Status) (output : List ℕ) → Serves text Fits Answers start input r → IsToldAs r s output
      → IsOutput (serving text Fits Answers start) input s output
  as_output input (served.BadLine n) s output serves told =
      subst (λ x. IsOutput (serving text Fits Answers start) input x output) (sym told.0) (n, serves, told.1)
  as_output input (served.Output bytes) s output serves told =
      subst (λ x. IsOutput (serving text Fits Answers start) input x output) (sym told.0) (refl, rw told.1 serves)

  pub if_output : {E : Type 0} (input : List ℕ) (r : Served) (made : Result Output E) → Serves text Fits Answers start input r
      → IfOk made (λ o. IsToldAs r o.status o.text.items) → IfOk made (λ o. IsOutput (serving text Fits Answers start) input o.status o.text.items)
  if_output input r (Ok o) serves told = as_output input r o.status o.text.items serves told
  if_output input r (Err e) serves told = tt

  -- the line that is named with it
  as_line : (input : List ℕ) (r : Served) (s : Status) (output : List ℕ) (line : Option ℕ) → Serves text Fits Answers start input r → IsToldAs r s output → IsLineOf r line
      → IsLine (serving text Fits Answers start) input s line
  as_line input (served.BadLine n) s output line serves told is =
      subst (λ x. IsLine (serving text Fits Answers start) input x line) (sym told.0) (subst (λ l. IsLine (serving text Fits Answers start) input status.BadLine l) (sym is) serves)
  as_line input (served.Output bytes) s output line serves told is =
      subst (λ x. IsLine (serving text Fits Answers start) input x line) (sym told.0) is

  pub if_line : {E : Type 0} (input : List ℕ) (r : Served) (made : Result Output E) → Serves text Fits Answers start input r
      → IfOk made (λ o. IsToldAs r o.status o.text.items) → IfOk made (λ o. IsLineOf r o.bad_line) → IfOk made (λ o. IsLine (serving text Fits Answers start) input o.status o.bad_line)
  if_line input r (Ok o) serves told is = as_line input r o.status o.text.items o.bad_line serves told is
  if_line input r (Err e) serves told is = tt
