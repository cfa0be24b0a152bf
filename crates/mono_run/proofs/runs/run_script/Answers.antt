use Rattle.std.proofs.Common.{◌≡◌, ℕ, false, true, [], length, IfOk, refl, sym, ap, subst, ◌∙◌}
use Rattle.mono_machine.specs.Machine.{Machine, start_machine}
use Rattle.mono_machine.specs.declared.events.Blocking.TheVariants as strategy
use Rattle.mono_rt.specs.Numbering.{answer_numbered}
use Rattle.mono_rt.specs.Rounds.{Blocked}
use Rattle.mono_rt.specs.DriverReadings.{telling, IsTold}
use Rattle.mono_rt.proofs.DriverLemmas.{told_in}
use Rattle.mono_run.specs.ScriptDrivers.{readings_of, time_of, parks_of, submits_of, faults_of, can_fail_of}
use Rattle.mono_rt.specs.FuturePolls.{PollsMain, OnMain}
use Rattle.mono_rt.specs.Stores.{store_of}
use Rattle.mono_rt.proofs.FuturePollLemmas.{on_main}
use Rattle.mono_run.specs.Script.{Script, IsSound}
use Rattle.mono_run.specs.TaskPolls.{no_own}
use Rattle.mono_run.specs.RunRecord.{Ran, RunsScript, RanBy, ParksSo, told_first}
use Rattle.mono_run.proofs.ParkLemmas.{parked_of}
use Rattle.mono_run.proofs.UnfullJournalLemmas.{never_full}
use Rattle.mono_run.proofs.BlockOnLemmas.{DoneBy, told_ran, told_reads, told_driven, driven_does, no_fault}
use Rattle.mono_run.proofs.runs.run_script.Goals as goal

pub returns-clause-ran : goal.returns-clause-ran
returns-clause-ran g c =
    let made = c.in_ok-runtime.runtime in
    let left = c.block_on-answer.new.self in
    let limits = c.script.inside.limits in
    let m = start_machine limits strategy.Attached in
    let answer = answer_numbered (λ n. n) c.block_on-answer.result in
    let relation = Blocked made.cx.parts.has_timers c.args.turns answer in
    let ran = told_ran c.told_of-told.result limits c.args.turns c.journal.result.now c.block_on-answer.result
    (subst (λ h. (new : Machine) × (Blocked h c.args.turns answer m c.journal.result.now.history.entries new [] × ParksSo m c.journal.result.now.history.entries new)) c.in_ok-runtime.ensures.timers
    (parked_of (λ n. n) relation made.cx.parts left.cx.parts made.journal left.journal c.journal.result.now m c.in_ok-runtime.ensures.stands c.in_ok-runtime.ensures.history c.journal.ensures c.in_ok-runtime.ensures.registered c.block_on-answer.ensures.blocked))
    c.told_of-told.ensures.answer c.told_of-told.ensures.kept c.told_of-told.ensures.text in
    subst (λ l. IfOk c.told_of-told.result (λ run. Ran l c.args.turns run.end run.text.items)) (ap (λ s. s.limits) c.script.view_is) ran

pub returns-clause-reads : goal.returns-clause-reads
returns-clause-reads g c =
    let made = c.in_ok-runtime.runtime in
    let left = c.block_on-answer.new.self in
    let limits = c.script.inside.limits in
    let m = start_machine limits strategy.Attached in
    let answer = answer_numbered (λ n. n) c.block_on-answer.result in
    let relation = Blocked made.cx.parts.has_timers c.args.turns answer in
    let readings = g.C.Clock.readings c.args.clock in
    let first : telling (readings_of g.C.Clock.readings made.driver) (time_of made.driver) (parks_of made.driver) (submits_of made.driver) (faults_of made.driver) (can_fail_of made.driver) ≡ told_first c.args.workers readings
    = ap (λ d. telling (readings_of g.C.Clock.readings d) (time_of d) (parks_of d) (submits_of d) (faults_of d) (can_fail_of d)) c.in_ok-runtime.ensures.driver ∙ c.in_ok-driver.ensures in
    let reads = told_reads c.args.workers readings c.told_of-told.result limits c.args.turns c.journal.result.now c.block_on-answer.result
    (subst (λ h. (new : Machine) × (Blocked h c.args.turns answer m c.journal.result.now.history.entries new [] × ParksSo m c.journal.result.now.history.entries new)) c.in_ok-runtime.ensures.timers
    (parked_of (λ n. n) relation made.cx.parts left.cx.parts made.journal left.journal c.journal.result.now m c.in_ok-runtime.ensures.stands c.in_ok-runtime.ensures.history c.journal.ensures c.in_ok-runtime.ensures.registered c.block_on-answer.ensures.blocked))
    (subst (λ t. IsTold c.block_on-answer.result t c.journal.result.now.history.entries) first
    (told_in c.journal.result.now c.in_ok-runtime.ensures.history c.journal.ensures c.block_on-answer.ensures.told))
    c.told_of-told.ensures.answer c.told_of-told.ensures.kept c.told_of-told.ensures.text in
    subst (λ l. IfOk c.told_of-told.result (λ run. RanBy c.args.workers readings l c.args.turns run.end run.text.items)) (ap (λ s. s.limits) c.script.view_is) reads

pub returns-clause-driven : goal.returns-clause-driven
returns-clause-driven g c =
    let made = c.in_ok-runtime.runtime in
    let left = c.block_on-answer.new.self in
    let s : Script = record { limits = c.script.inside.limits; kinds = c.script.inside.kinds.items } in
    let m = start_machine s.limits strategy.Attached in
    let answer = answer_numbered (λ n. n) c.block_on-answer.result in
    let j = c.journal.result.now in
    let readings = g.C.Clock.readings c.args.clock in
    let first : telling (readings_of g.C.Clock.readings made.driver) (time_of made.driver) (parks_of made.driver) (submits_of made.driver) (faults_of made.driver) (can_fail_of made.driver) ≡ told_first c.args.workers readings
    = ap (λ d. telling (readings_of g.C.Clock.readings d) (time_of d) (parks_of d) (submits_of d) (faults_of d) (can_fail_of d)) c.in_ok-runtime.ensures.driver ∙ c.in_ok-driver.ensures in
    let tells : IsTold c.block_on-answer.result (told_first c.args.workers readings) j.history.entries =
    subst (λ t. IsTold c.block_on-answer.result t j.history.entries) first (told_in j c.in_ok-runtime.ensures.history c.journal.ensures c.block_on-answer.ensures.told) in
    let blocked : DoneBy c.args.turns c.block_on-answer.result m j.history.entries =
    subst (λ h. (new : Machine) × (Blocked h c.args.turns answer m j.history.entries new [] × ParksSo m j.history.entries new)) c.in_ok-runtime.ensures.timers
    (parked_of (λ n. n) (Blocked made.cx.parts.has_timers c.args.turns answer) made.cx.parts left.cx.parts made.journal left.journal j m c.in_ok-runtime.ensures.stands c.in_ok-runtime.ensures.history c.journal.ensures c.in_ok-runtime.ensures.registered c.block_on-answer.ensures.blocked) in
    subst (λ x. IfOk c.told_of-told.result (λ run. IsSound (length x.kinds) x → RunsScript c.args.workers readings x c.args.turns run.end run.text.items)) c.script.view_is
    (told_driven c.args.workers readings c.told_of-told.result s c.args.turns j c.block_on-answer.result blocked tells
    (λ e is sound. driven_does _ made.cx.parts.has_timers c.in_ok-main.main (store_of made.cx) (store_of left.cx) made.cx.parts left.cx.parts made.journal left.journal (λ f. refl) (λ f x a l d p. p) (λ f x d p. p) e s c.args.turns c.block_on-answer.result j c.block_on-answer.ensures.polled
    c.in_ok-runtime.ensures.timers (ap (λ fs. record { futures = fs; shared = tt }) c.in_ok-runtime.ensures.futures) (c.in_ok-runtime.ensures.stands) c.in_ok-runtime.ensures.history c.journal.ensures is
    (c.in_ok-main.ensures ∙ ap (λ k. record { kinds = k; kind = 0; at = 0; own = no_own }) (sym (ap (λ f. f.kinds) c.in_ok-main.ensures))) (ap (λ f. f.kinds.now) c.in_ok-main.ensures ∙ c.deref.ensures.value) sound (blocked.0, blocked.1.0))
    c.told_of-told.ensures.answer c.told_of-told.ensures.kept c.told_of-told.ensures.text)

pub told_of-told-requires-clause-end : goal.told_of-told-requires-clause-end
told_of-told-requires-clause-end g c =
    let made = c.in_ok-runtime.runtime in
    let j = c.journal.result.now in
    let readings = g.C.Clock.readings c.args.clock in
    let first : telling (readings_of g.C.Clock.readings made.driver) (time_of made.driver) (parks_of made.driver) (submits_of made.driver) (faults_of made.driver) (can_fail_of made.driver) ≡ told_first c.args.workers readings
    = ap (λ d. telling (readings_of g.C.Clock.readings d) (time_of d) (parks_of d) (submits_of d) (faults_of d) (can_fail_of d)) c.in_ok-runtime.ensures.driver ∙ c.in_ok-driver.ensures in
    no_fault c.args.workers readings c.block_on-answer.result j.history.entries
    (subst (λ t. IsTold c.block_on-answer.result t j.history.entries) first (told_in j c.in_ok-runtime.ensures.history c.journal.ensures c.block_on-answer.ensures.told))

pub told_of-told-requires-clause-unfull : goal.told_of-told-requires-clause-unfull
told_of-told-requires-clause-unfull g c =
    subst (λ j. j.is_full ≡ false) (sym c.journal.ensures)
    (never_full _ (λ f. refl) (λ f x a l d p. p) (λ f x d p. p) c.in_ok-runtime.runtime.cx c.in_ok-runtime.runtime.journal c.block_on-answer.new.self.journal (start_machine c.script.inside.limits strategy.Attached) c.in_ok-runtime.ensures.stands c.in_ok-runtime.ensures.unfull c.block_on-answer.ensures.full)
