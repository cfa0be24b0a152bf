-- The answers of a command that answers line by line.
use Rattle.std.proofs.Common.{◌≡◌, ℕ, List, [], ◌∷◌, ◌++◌, Option, Some, None, Result, Ok, Err, IfOk, IfSome, IfNone, refl}
use Rattle.mono_machine.specs.Machine.{Machine, start_machine}
use Rattle.mono_machine.specs.declared.events.Event.{Event}
use Rattle.mono_machine.specs.declared.events.Limits.{Limits}
use Rattle.mono_machine.specs.declared.events.Blocking.{Blocking}
use Rattle.mono_machine.specs.declared.events.Report.{Report}
use Rattle.mono_machine.specs.Steps.{Step}
use Rattle.mono_replay.specs.declared.executor.Exec.{Exec}
use Rattle.mono_replay.specs.Refinement.{Stands}
use Rattle.mono_text.specs.Follows.{HasFollowed}
use Rattle.mono_text.specs.Services.{AnswersAs, answer_line, HasNoFeed, StartsWith, StartsWithNone}
use Rattle.mono_text.specs.Lines.{BeginsWith, BeginsWithNone}
use Rattle.mono_text.specs.LineText.{event_text, FitsEvent, report_text, report_line}
use Rattle.mono_text.specs.declared.followers.Followed.{Followed}
use Rattle.mono_text.proofs.FollowLemmas.{followed_through}
use Rattle.mono_text.proofs.InputLineLemmas.{NoFeed, no_feed_event}
use Rattle.mono_script.specs.declared.replay.ReplayLines.{ReplayLines}
use Rattle.mono_script.specs.Follows.{ReportsAs}

abbrev LinesStand : ReplayLines → Machine → Type 0
LinesStand lines m = Stands lines.exec m

pub replay_followed : {E : Type 0} (start : ReplayLines) (limits : Limits) (strategy : Blocking) (r : Result Followed E) (left now before after : Option (List ℕ)) → Stands start.exec (start_machine limits strategy)
    → IfOk r (λ f. HasFollowed event_text FitsEvent (λ old c text new. AnswersAs Stands ReportsAs old.exec c text new.exec) start f.end f.rest.items left now before after)
    → IfOk r (λ f. HasFollowed event_text FitsEvent ReportsAs (start_machine limits strategy) f.end f.rest.items left now before after)
replay_followed start limits strategy (Ok f) left now before after stands p = followed_through LinesStand ReportsAs event_text FitsEvent start (start_machine limits strategy) f.end f.rest.items left now before after stands p
replay_followed start limits strategy (Err e) left now before after stands p = tt

has_no_feed : (text : List ℕ) → NoFeed text → HasNoFeed text
has_no_feed [] p = tt
has_no_feed (b ∷ bs) p = (p.0, has_no_feed bs p.1)

starts_with : (bytes : List ℕ) (e : Event) (behind : List ℕ) → BeginsWith bytes e behind → StartsWith event_text FitsEvent bytes e behind
starts_with bytes e behind b = record { is = b.0; fits = b.1; one_line = has_no_feed (event_text e) (no_feed_event e b.1) }

pub found_event : {E : Type 0} (r : Result (Option Event) E) (bytes behind : List ℕ) → IfOk r (λ found. IfSome found (λ e. BeginsWith bytes e behind))
    → IfOk r (λ found. IfSome found (λ e. StartsWith event_text FitsEvent bytes e behind))
found_event (Ok (Some e)) bytes behind p = starts_with bytes e behind p
found_event (Ok None) bytes behind p = tt
found_event (Err e) bytes behind p = tt

pub no_event : {E : Type 0} (r : Result (Option Event) E) (bytes : List ℕ) → IfOk r (λ found. IfNone found (BeginsWithNone bytes))
    → IfOk r (λ found. IfNone found (StartsWithNone event_text FitsEvent bytes))
no_event (Ok (Some e)) bytes p = tt
no_event (Ok None) bytes p = λ e rest is fits. p e rest (is, fits)
no_event (Err e) bytes p = tt

pub report_told : (old new : Exec) (e : Event) (report : Report) (out written : List ℕ) → ((m : Machine) → Stands old m → (next : Machine) × Step m e report next × Stands new next)
    → written ≡ out ++ report_line report → (x : List ℕ) × AnswersAs Stands ReportsAs old e x new × (written ≡ out ++ answer_line x)
report_told old new e report out written step w =
    let is : AnswersAs Stands ReportsAs old e (report_text report) new = λ m s.
    let k = step m s in
    (k.0, (report, k.1, refl), k.2) in
    (report_text report, is, w)
