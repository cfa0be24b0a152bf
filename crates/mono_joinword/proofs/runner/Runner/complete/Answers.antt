use Rattle.std.proofs.Common.{rules, ◌≡◌, IfOk, [], ◌∷◌, Some, None, sym, ap, ◌∙◌, subst}
use Rattle.atomic_table.specs.Table.{rest}
use Rattle.mono_joinword.specs.declared.views.Stage.TheVariants.{Working}
use Rattle.mono_joinword.specs.declared.views.Kept.TheVariants.{Output, Waker}
use Rattle.mono_joinword.specs.Ends.{runner_of}
use Rattle.mono_joinword.specs.Views.{runner_at}
use Rattle.mono_joinword.proofs.RunnerStepLemmas.{complete_step}
use Rattle.mono_joinword.proofs.CompletionLemmas.{if_none, if_waker}
use Rattle.mono_joinword.proofs.runner.Runner.complete.Goals as goal

pub fetch_or-found-requires : goal.fetch_or-found-requires
fetch_or-found-requires g c =
    let works = c.args.self.works ∙ ap (λ t. (runner_at t.shared.key Working, (0, None) ∷ [])) (sym c.deref.ensures) in
    let fine = subst (λ k. IfOk c.args.outcome (λ o. g.O.Outcome.output_number o ≡ k)) (ap (λ m. (runner_of m.0).number) works) c.requires in
    let me = c.exchange.ensures.3 ∙ ap (λ m. (m.0, (0, Some (Output c.args.outcome)) ∷ rest m.1)) works in (
      search rules,
      search rules,
      complete_step g.O.Outcome.output_number g.W.Wakes.waker_number c.deref.result.now.shared.key c.args.outcome fine _ _ _ me,
    )

pub exchange-requires-then-found-eq0 : goal.exchange-requires-then-found-eq0
exchange-requires-then-found-eq0 g c =
    let seen = if_none g.W.Wakes.waker_number c.exchange.new.seat.me c.fetch_or-found.result c.fetch_or-found.new.seat.me c.fetch_or-found.ensures.2 c.if-found-eq0.true in
    let list = ap (λ m. m.1) seen ∙ ap (λ m. m.1) c.exchange.ensures.3 in
    (search rules, (Some (Output c.args.outcome), list ∙ ap (λ l. (0, Some (Output c.args.outcome)) ∷ rest l) (sym list)))

pub exchange-requires-then-found : goal.exchange-requires-then-found
exchange-requires-then-found g c =
    let seen = if_waker g.W.Wakes.waker_number c.exchange.new.seat.me c.fetch_or-found.result c.fetch_or-found.new.seat.me c.fetch_or-found.ensures.2 c.if-found.true in
    (search rules, (Some (Waker seen.0), ap (λ m. m.1) seen.1 ∙ ap (λ m. (1, Some (Waker seen.0)) ∷ rest m.1) (sym seen.1)))
