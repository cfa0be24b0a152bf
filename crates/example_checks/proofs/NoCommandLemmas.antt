-- A word that is no command.
use Rattle.std.proofs.Common.{◌≡◌, ℕ, List, [], ◌∷◌, Option, Result, Ok, Err, IfOk, codes, length, ap, subst, arith}
use Rattle.mono_script.specs.declared.command.Command.TheVariants as command
use Rattle.mono_script.specs.Command.{IsNoCommand}
use Rattle.example_checks.specs.Outputs.{Ended}

abbrev pub words : List (List ℕ)
words = codes "--version" ∷ []

none : IsNoCommand words
none (command.Replay limits strategy) is = absurd (omega (arith, ap length is.text))
none (command.Run workers turns) is = absurd (omega (arith, ap length is.text))
none (command.Load seed count) is = absurd (omega (arith, ap length is.text))
none (command.Sessions sessions entries) is = absurd (omega (arith, ap length is.text))
none (command.Limiter buckets retries) is = absurd (omega (arith, ap length is.text))
none (command.Actors actors messages) is = absurd (omega (arith, ap length is.text))
none (command.Check limits strategy) is = absurd (omega (arith, ap length is.text))
none (command.CheckWhole limits strategy) is = absurd (omega (arith, ap length is.text))

-- Nothing is written.
pub nothing_given : {E : Type 0} (before after : Option (List ℕ)) (faults later : ℕ) (spelled : List (List ℕ)) → spelled ≡ words
    → (r : Result ℕ E) → IfOk r (Ended spelled [] before after faults later) → IfOk r (λ code. (code ≡ 2) × (after ≡ before))
nothing_given before after faults later spelled same (Ok code) p =
    let ended : Ended words [] before after faults later code = subst (λ ws. Ended ws [] before after faults later code) same p in
    let two : code ≡ 2 = ended.2.2.usage.1 none in
    (two, ap (λ v. v.written) (ended.2.2.untouched two))
nothing_given before after faults later spelled same (Err e) p = tt
