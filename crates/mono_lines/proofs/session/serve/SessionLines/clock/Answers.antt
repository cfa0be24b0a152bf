use Rattle.std.proofs.Common.{◌≡◌, ◌<◌, ◌≤◌, ℕ, List, OnOk, rules}
use Rattle.mono_model.specs.Due.{ListsDue}
use Rattle.mono_model.specs.Ticks.{max_nanos}
use Rattle.mono_session.specs.Answers as answer
use Rattle.mono_session.specs.Keeper.{Keeper, with_greatest}
use Rattle.mono_session.specs.Steps.{closing_value, greatest_at, without_all}
use Rattle.mono_session.specs.Refinement.{StandsFor}
use Rattle.mono_lines.specs.SessionServices.{Wrote}
use Rattle.mono_lines.proofs.ServiceLemmas.{on_ok}
use Rattle.mono_lines.proofs.SessionAnswerLemmas.{clock_refused, clock_told}
use Rattle.mono_lines.proofs.session.serve.SessionLines.clock.Goals as goal

pub returns-in_default : goal.returns-in_default
returns-in_default c =
    let above : max_nanos < c.args.n = search rules in
    on_ok c.put_refused.result (λ w. clock_refused c.args.self.now.sessions c.args.n c.args.out.now.items c.put_refused.new.out.items above w.1) c.put_refused.ensures

pub returns : goal.returns
returns c =
    let fits : c.args.n ≤ max_nanos = search rules in
    let wrote : OnOk c.put_list.result (Wrote (answer.Closed c.clock_step.new.closed.items) c.args.out.now.items c.put_list.new.out.items) = search rules in
    let step : (k : Keeper) → StandsFor c.args.self.now.sessions k → (due : List ℕ) × (c.clock_step.new.closed.items ≡ due) × ListsDue closing_value k.sessions (greatest_at k c.args.n) due
    × StandsFor c.clock_step.new.sessions (without_all (with_greatest k (greatest_at k c.args.n)) due) =
    rw (c.in_ok-reserve.ensures.items, c.clear.ensures.items, c.in-Some.ensures.some) at c.clock_step.ensures in
    on_ok c.put_list.result (clock_told c.args.self.now.sessions c.clock_step.new.sessions c.args.n c.clock_step.new.closed.items c.args.out.now.items c.put_list.new.out.items fits step) wrote
