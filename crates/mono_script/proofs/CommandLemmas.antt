-- The words of a command.
use Rattle.std.proofs.Common.{◌≡◌, ℕ, ◌^◌, ◌<◌, ◌≤◌, List, [], ◌∷◌, length, get_or, Some, None, Option, refl, sym, ap, ◌∙◌, arith, codes}
use Rattle.std.specs.Prelude.{nat_eq, ◌&&◌, Bool, true, false, if◌then◌else◌}
use Rattle.std.proofs.lemmas.Fmt.{decimal_injective}
use Rattle.std.specs.Fmt.{decimal}
use Rattle.mono_machine.specs.declared.events.Limits.{Limits}
use Rattle.mono_machine.specs.declared.events.Blocking.{Blocking}
use Rattle.mono_machine.specs.declared.events.Blocking.TheVariants as blocking
use Rattle.mono_text.specs.Parser.{Read, number_at}
use Rattle.mono_script.specs.declared.command.Command.{Command}
use Rattle.mono_script.specs.declared.command.Command.TheVariants as command
use Rattle.mono_script.specs.Words.{strategy_text, two_words, SayTwo, SayLimits, SayFlagged, AreLimits}
use Rattle.mono_script.specs.Command.{command_words, FitsCommand, IsCommand, IsNoReplay, IsNoRun, IsNoLoad, IsNoSessions, IsNoLimiter, IsNoActors, IsNoCheck, IsNoWhole, IsNoCommand}
use Rattle.mono_text.proofs.NumberLemmas.{reads_whole}

-- ---- lists of words of one length

pub five : {S : Type 0} (ws : List S) (a b c d e : S) → 5 ≤ length ws → length ws < 6
    → a ≡ get_or ws 0 a → b ≡ get_or ws 1 b → c ≡ get_or ws 2 c → d ≡ get_or ws 3 d → e ≡ get_or ws 4 e → ws ≡ a ∷ b ∷ c ∷ d ∷ e ∷ []
five [] a b c d e l m p q r s t = absurd (omega arith)
five (v ∷ []) a b c d e l m p q r s t = absurd (omega arith)
five (v ∷ w ∷ []) a b c d e l m p q r s t = absurd (omega arith)
five (v ∷ w ∷ x ∷ []) a b c d e l m p q r s t = absurd (omega arith)
five (v ∷ w ∷ x ∷ y ∷ []) a b c d e l m p q r s t = absurd (omega arith)
five (v ∷ w ∷ x ∷ y ∷ z ∷ []) a b c d e l m p q r s t = rw (p, q, r, s, t) refl
five (v ∷ w ∷ x ∷ y ∷ z ∷ u ∷ us) a b c d e l m p q r s t = absurd (omega arith)

pub six : {S : Type 0} (ws : List S) (a b c d e f : S) → 6 ≤ length ws → length ws < 7
    → a ≡ get_or ws 0 a → b ≡ get_or ws 1 b → c ≡ get_or ws 2 c → d ≡ get_or ws 3 d → e ≡ get_or ws 4 e → f ≡ get_or ws 5 f → ws ≡ a ∷ b ∷ c ∷ d ∷ e ∷ f ∷ []
six [] a b c d e f l m p q r s t u = absurd (omega arith)
six (v ∷ []) a b c d e f l m p q r s t u = absurd (omega arith)
six (v ∷ w ∷ []) a b c d e f l m p q r s t u = absurd (omega arith)
six (v ∷ w ∷ x ∷ []) a b c d e f l m p q r s t u = absurd (omega arith)
six (v ∷ w ∷ x ∷ y ∷ []) a b c d e f l m p q r s t u = absurd (omega arith)
six (v ∷ w ∷ x ∷ y ∷ z ∷ []) a b c d e f l m p q r s t u = absurd (omega arith)
six (v ∷ w ∷ x ∷ y ∷ z ∷ k ∷ []) a b c d e f l m p q r s t u = rw (p, q, r, s, t, u) refl
six (v ∷ w ∷ x ∷ y ∷ z ∷ k ∷ i ∷ is) a b c d e f l m p q r s t u = absurd (omega arith)

pub three : {S : Type 0} (ws : List S) (a b c : S) → 3 ≤ length ws → length ws < 4 → a ≡ get_or ws 0 a → b ≡ get_or ws 1 b → c ≡ get_or ws 2 c → ws ≡ a ∷ b ∷ c ∷ []
three [] a b c l m p q r = absurd (omega arith)
three (v ∷ []) a b c l m p q r = absurd (omega arith)
three (v ∷ w ∷ []) a b c l m p q r = absurd (omega arith)
three (v ∷ w ∷ x ∷ []) a b c l m p q r = rw (p, q, r) refl
three (v ∷ w ∷ x ∷ y ∷ ws) a b c l m p q r = absurd (omega arith)

-- ---- a word and two numbers

pub not_two : (name word first second : List ℕ) → ((a b : ℕ) → a < 2 ^ 64 → b < 2 ^ 64 → first ≡ decimal a → second ≡ decimal b → ⊥)
    → (a b : ℕ) → SayTwo name (word ∷ first ∷ second ∷ []) a b → ⊥
not_two name word first second none a b say = none a b say.first_fits say.second_fits (ap (λ ws. get_or ws 1 first) say.text) (ap (λ ws. get_or ws 2 first) say.text)

-- the words determine the first number
pub first_once : (name other : List ℕ) (words : List (List ℕ)) (a b c d : ℕ) → SayTwo name words a b → words ≡ two_words other c d → c < 2 ^ 64 → a ≡ c
first_once name other words a b c d say text fits =
    decimal_injective a c (omega (arith, say.first_fits)) (omega (arith, fits)) (ap (λ ws. get_or ws 1 name) (sym say.text ∙ text))

-- the words determine the second number
pub second_once : (name other : List ℕ) (words : List (List ℕ)) (a b c d : ℕ) → SayTwo name words a b → words ≡ two_words other c d → d < 2 ^ 64 → b ≡ d
second_once name other words a b c d say text fits =
    decimal_injective b d (omega (arith, say.second_fits)) (omega (arith, fits)) (ap (λ ws. get_or ws 2 name) (sym say.text ∙ text))

-- ---- a word, a strategy and limits

pub say_limits : (name a b c d e : List ℕ) (limits : Limits) (strategy : Blocking) → a ≡ name → b ≡ strategy_text strategy → AreLimits c d e limits
    → SayLimits name (a ∷ b ∷ c ∷ d ∷ e ∷ []) limits strategy
say_limits name a b c d e limits strategy p q r = record { text = rw (p, q, r.tasks_text, r.jobs_text, r.sleeps_text) refl; fit = r.fit }

pub not_limits : (name a b c d e : List ℕ) → ((l : Limits) (s : Blocking) → b ≡ strategy_text s → AreLimits c d e l → ⊥)
    → (l : Limits) (s : Blocking) → SayLimits name (a ∷ b ∷ c ∷ d ∷ e ∷ []) l s → ⊥
not_limits name a b c d e none l s say =
    none l s (ap (λ ws. get_or ws 1 a) say.text)
    (record { tasks_text = ap (λ ws. get_or ws 2 a) say.text; jobs_text = ap (λ ws. get_or ws 3 a) say.text; sleeps_text = ap (λ ws. get_or ws 4 a) say.text; fit = say.fit })

pub say_flagged : (name flag a b c d e f : List ℕ) (limits : Limits) (strategy : Blocking) → a ≡ name → b ≡ flag → c ≡ strategy_text strategy → AreLimits d e f limits
    → SayFlagged name flag (a ∷ b ∷ c ∷ d ∷ e ∷ f ∷ []) limits strategy
say_flagged name flag a b c d e f limits strategy p q r s = record { text = rw (p, q, r, s.tasks_text, s.jobs_text, s.sleeps_text) refl; fit = s.fit }

pub not_flagged : (name flag a b c d e f : List ℕ) → ((l : Limits) (s : Blocking) → c ≡ strategy_text s → AreLimits d e f l → ⊥)
    → (l : Limits) (s : Blocking) → SayFlagged name flag (a ∷ b ∷ c ∷ d ∷ e ∷ f ∷ []) l s → ⊥
not_flagged name flag a b c d e f none l s say =
    none l s (ap (λ ws. get_or ws 2 a) say.text)
    (record { tasks_text = ap (λ ws. get_or ws 3 a) say.text; jobs_text = ap (λ ws. get_or ws 4 a) say.text; sleeps_text = ap (λ ws. get_or ws 5 a) say.text; fit = say.fit })

-- ---- every command

pub no_command : (words : List (List ℕ)) → IsNoReplay words → IsNoRun words → IsNoLoad words → IsNoSessions words → IsNoLimiter words → IsNoActors words → IsNoCheck words → IsNoWhole words → IsNoCommand words
no_command words replay run load sessions limiter actors check whole (command.Replay limits g) is = replay limits g is
no_command words replay run load sessions limiter actors check whole (command.Run a b) is = run a b is
no_command words replay run load sessions limiter actors check whole (command.Load a b) is = load a b is
no_command words replay run load sessions limiter actors check whole (command.Sessions a b) is = sessions a b is
no_command words replay run load sessions limiter actors check whole (command.Limiter a b) is = limiter a b is
no_command words replay run load sessions limiter actors check whole (command.Actors a b) is = actors a b is
no_command words replay run load sessions limiter actors check whole (command.Check limits g) is = check limits g is
no_command words replay run load sessions limiter actors check whole (command.CheckWhole limits g) is = whole limits g is

-- ---- the words of one command are those of no other: each command is read back from its words

abbrev same_text : List ℕ → List ℕ → Bool
same_text [] [] = true
same_text [] (y ∷ ys) = false
same_text (x ∷ xs) [] = false
same_text (x ∷ xs) (y ∷ ys) = nat_eq x y && same_text xs ys

abbrev all_of : Read ℕ → Option ℕ
all_of None = None
all_of (Some (n, [])) = Some n
all_of (Some (n, b ∷ rest)) = None

abbrev number_of : List ℕ → Option ℕ
number_of text = all_of (number_at text)

of_text : (n : ℕ) → n < 2 ^ 64 → number_of (decimal n) ≡ Some n
of_text n l = ap all_of (reads_whole (decimal n) n l refl)

abbrev strategy_of : List ℕ → Option Blocking
strategy_of w =
    if same_text w (codes "attached") then Some blocking.Attached
    else if same_text w (codes "local") then Some blocking.ExecuteLocal
    else if same_text w (codes "panic") then Some blocking.Panic
    else None

strategy_back : (g : Blocking) → strategy_of (strategy_text g) ≡ Some g
strategy_back blocking.Attached = refl
strategy_back blocking.ExecuteLocal = refl
strategy_back blocking.Panic = refl

abbrev replay_from : Option Blocking → Option ℕ → Option ℕ → Option ℕ → Option Command
replay_from (Some g) (Some t) (Some j) (Some s) = Some (command.Replay (record { tasks = t; jobs = j; sleeps = s }) g)
replay_from a b c d = None

abbrev replay_of : List (List ℕ) → Option Command
replay_of (g ∷ t ∷ j ∷ s ∷ []) = replay_from (strategy_of g) (number_of t) (number_of j) (number_of s)
replay_of other = None

abbrev check_from : Option Blocking → Option ℕ → Option ℕ → Option ℕ → Option Command
check_from (Some g) (Some t) (Some j) (Some s) = Some (command.Check (record { tasks = t; jobs = j; sleeps = s }) g)
check_from a b c d = None

abbrev whole_from : Option Blocking → Option ℕ → Option ℕ → Option ℕ → Option Command
whole_from (Some g) (Some t) (Some j) (Some s) = Some (command.CheckWhole (record { tasks = t; jobs = j; sleeps = s }) g)
whole_from a b c d = None

abbrev check_of : List (List ℕ) → Option Command
check_of (g ∷ t ∷ j ∷ s ∷ []) = check_from (strategy_of g) (number_of t) (number_of j) (number_of s)
check_of (w ∷ g ∷ t ∷ j ∷ s ∷ []) = if same_text w (codes "--whole") then whole_from (strategy_of g) (number_of t) (number_of j) (number_of s) else None
check_of other = None

abbrev run_from : Option ℕ → Option ℕ → Option Command
run_from (Some workers) (Some turns) = Some (command.Run workers turns)
run_from x y = None

abbrev run_of : List (List ℕ) → Option Command
run_of (a ∷ b ∷ []) = run_from (number_of a) (number_of b)
run_of other = None

abbrev load_from : Option ℕ → Option ℕ → Option Command
load_from (Some seed) (Some count) = Some (command.Load seed count)
load_from x y = None

abbrev load_of : List (List ℕ) → Option Command
load_of (a ∷ b ∷ []) = load_from (number_of a) (number_of b)
load_of other = None

abbrev sessions_from : Option ℕ → Option ℕ → Option Command
sessions_from (Some sessions) (Some entries) = Some (command.Sessions sessions entries)
sessions_from x y = None

abbrev sessions_of : List (List ℕ) → Option Command
sessions_of (a ∷ b ∷ []) = sessions_from (number_of a) (number_of b)
sessions_of other = None

abbrev limiter_from : Option ℕ → Option ℕ → Option Command
limiter_from (Some buckets) (Some retries) = Some (command.Limiter buckets retries)
limiter_from x y = None

abbrev limiter_of : List (List ℕ) → Option Command
limiter_of (a ∷ b ∷ []) = limiter_from (number_of a) (number_of b)
limiter_of other = None

abbrev actors_from : Option ℕ → Option ℕ → Option Command
actors_from (Some actors) (Some messages) = Some (command.Actors actors messages)
actors_from x y = None

abbrev actors_of : List (List ℕ) → Option Command
actors_of (a ∷ b ∷ []) = actors_from (number_of a) (number_of b)
actors_of other = None

abbrev command_of : List (List ℕ) → Option Command
command_of [] = None
command_of (w ∷ ws) =
    if same_text w (codes "replay") then replay_of ws
    else if same_text w (codes "run") then run_of ws
    else if same_text w (codes "load") then load_of ws
    else if same_text w (codes "sessions") then sessions_of ws
    else if same_text w (codes "limiter") then limiter_of ws
    else if same_text w (codes "actors") then actors_of ws
    else if same_text w (codes "check") then check_of ws
    else None

-- one clause a command
read_back : (c : Command) → FitsCommand c → command_of (command_words c) ≡ Some c
read_back (command.Replay l g) fit = rw (strategy_back g, of_text l.tasks fit.tasks, of_text l.jobs fit.jobs, of_text l.sleeps fit.sleeps) refl
read_back (command.Run workers turns) fit = rw (of_text workers (omega (arith, fit.0)), of_text turns (omega (arith, fit.1))) refl
read_back (command.Load seed count) fit = rw (of_text seed fit.0, of_text count (omega (arith, fit.1))) refl
read_back (command.Sessions sessions entries) fit = rw (of_text sessions fit.0, of_text entries fit.1) refl
read_back (command.Limiter buckets retries) fit = rw (of_text buckets fit.0, of_text retries fit.1) refl
read_back (command.Actors actors messages) fit = rw (of_text actors fit.0, of_text messages fit.1) refl
read_back (command.Check l g) fit = rw (strategy_back g, of_text l.tasks fit.tasks, of_text l.jobs fit.jobs, of_text l.sleeps fit.sleeps) refl
read_back (command.CheckWhole l g) fit = rw (strategy_back g, of_text l.tasks fit.tasks, of_text l.jobs fit.jobs, of_text l.sleeps fit.sleeps) refl

pub command_once : (words : List (List ℕ)) (c d : Command) → IsCommand words c → IsCommand words d → c ≡ d
command_once words c d p q =
    let e : ◌≡◌ {A = Option Command} (Some c) (Some d) = sym (read_back c p.fit) ∙ ap command_of (sym p.text ∙ q.text) ∙ read_back d q.fit in
    grind (arith, e)
