use Rattle.std.proofs.Common.{◌≡◌, ◌+◌, sym, ◌∙◌, ap, subst, List, ◌++◌, ◌∷◌, [], append_assoc, append-nil, refl, drop}
use Rattle.mono_machine.specs.Steps.{Run}
use Rattle.mono_machine.specs.declared.events.Event.{Event}
use Rattle.mono_machine.proofs.RunLemmas.{item_and_rest, nothing_left}
use Rattle.mono_replay.proofs.lists.report_all.Goals as goal

pub loop-event-preserved : goal.loop-event-preserved
loop-event-preserved c = λ m stands.
    let before = c.loop-event.invariant m stands in
    let events : List Event = c.args.events.now.items in
    let i = c.loop-event.event-index in
    let report = c.in_ok-report.report in
    let reports = c.loop-event.reports.items in
    let first : drop i events ≡ c.event-item.result ∷ drop (i + 1) events =
    subst (λ xs. drop i xs ≡ c.event-item.result ∷ drop (i + 1) xs) c.deref-event-items.ensures.value (item_and_rest c.deref-event-items.result.now i c.event-item.result c.loop-event-test.true c.event-item.is) in
    let step = c.in_ok-report.ensures.step before.0 before.1 in (
      step.0,
      step.2,
      λ answers new run.
          let all : Run m events (reports ++ report ∷ answers) new =
          before.2 (report ∷ answers) new (subst (λ xs. Run before.0 xs (report ∷ answers) new) (sym first) (step.0, step.1, run)) in
          subst (λ xs. Run m events xs new) (sym (ap (λ xs. xs ++ answers) c.in_ok-push.ensures.items ∙ append_assoc reports (report ∷ []) answers)) all,
    )

pub returns : goal.returns
returns c = λ m stands.
    let before = c.loop-event.invariant m stands in
    let events : List Event = c.args.events.now.items in
    let i = c.loop-event.event-index in
    let rest : drop i events ≡ [] = subst (λ xs. drop i xs ≡ []) c.deref-event-items.ensures.value (nothing_left c.deref-event-items.result.now i c.loop-event-test.false) in
    let all : Run m events (c.loop-event.reports.items ++ []) before.0 =
    before.2 [] before.0 (subst (λ xs. Run before.0 xs [] before.0) (sym rest) refl) in
    (before.0, subst (λ xs. Run m events xs before.0) (append-nil c.loop-event.reports.items) all)
