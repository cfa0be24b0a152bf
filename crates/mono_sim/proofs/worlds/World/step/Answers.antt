use Rattle.std.proofs.Common.{◌≡◌, ◌+◌, ◌-◌, ◌^◌, refl, ap, sym, ◌∙◌, rules}
use Rattle.std.specs.Prelude.{min}
use Rattle.mono_sim.proofs.WorldLemmas.{each_same, each_begun, each_ran, drawn_ran, some_drawn, number_drawn, sound_drawn, sound_noted}
use Rattle.mono_sim.proofs.worlds.World.step.Goals as goal

pub returns-then-is_round_over-clause-runs : goal.returns-then-is_round_over-clause-runs
returns-then-is_round_over-clause-runs g c =
    each_begun g.O.Outcome.output_number g.W.SharedState g.D.Clock g.F.TaskFuture c.begin.result c.args.self.now c.begin.new.self c.begin.ensures.begins c.begin.ensures.refused

pub returns-in_err-drawn-clause-runs : goal.returns-in_err-drawn-clause-runs
returns-in_err-drawn-clause-runs g c = each_same g.O.Outcome.output_number g.W.SharedState g.D.Clock g.F.TaskFuture c.args.self.now (record c.args.self.now { schedule = c.draw.new.self }) refl

pub returns-then-drawn-clause-sound : goal.returns-then-drawn-clause-sound
returns-then-drawn-clause-sound g c =
    sound_drawn g.F.TaskFuture c.args.self.now _ c.in_ok-drawn.ensures.place refl
    (ap (λ p. p.waiting) c.disturb.ensures ∙ ap (λ p. p.waiting) c.in_ok-drawn.ensures.after) (ap (λ p. p.served) c.disturb.ensures ∙ ap (λ p. p.served) c.in_ok-drawn.ensures.after) c.requires.sound

pub returns-then-drawn-clause-runs : goal.returns-then-drawn-clause-runs
returns-then-drawn-clause-runs g c = each_same g.O.Outcome.output_number g.W.SharedState g.D.Clock g.F.TaskFuture c.args.self.now (record c.args.self.now { schedule = c.disturb.new.self }) refl

pub run_at-answer-requires-clause-sound : goal.run_at-answer-requires-clause-sound
run_at-answer-requires-clause-sound g c =
    sound_drawn g.F.TaskFuture c.args.self.now _ c.in_ok-drawn.ensures.place refl
    (ap (λ p. p.waiting) c.in_ok-drawn.ensures.after) (ap (λ p. p.served) c.in_ok-drawn.ensures.after) c.requires.sound

pub run_at-answer-requires-clause-number : goal.run_at-answer-requires-clause-number
run_at-answer-requires-clause-number g c =
    number_drawn _ c.args.self.now.schedule c.in_ok-drawn.drawn c.in_ok-drawn.ensures.drawn c.in_ok-drawn.ensures.place c.requires.sound.waiting

pub returns-clause-sound : goal.returns-clause-sound
returns-clause-sound g c = sound_noted g.F.TaskFuture c.run_at-answer.new.self _ c.run_at-answer.result.0 c.run_at-answer.result.1 refl c.note.ensures c.run_at-answer.ensures.sound

pub returns-clause-steps : goal.returns-clause-steps
returns-clause-steps g c =
    let later : c.saturating_add-self.result ≡ min (c.args.self.now.time + c.in_ok-drawn.drawn.jump) (2 ^ 64 - 1) = search rules in (
      record {
        some = sym c.is_round_over.ensures ∙ c.if-is_round_over.false;
        number = ap (λ d. d.number) c.in_ok-drawn.ensures.drawn;
        still = ap (λ d. d.stands) (sym c.in_ok-drawn.ensures.drawn) ∙ c.if-drawn.false;
      },
      record {
        turned = c.run_at-answer.result.1;
        left = c.run_at-answer.new.self;
        ran = drawn_ran g.O.Outcome.output_number g.W.SharedState g.D.Clock g.F.TaskFuture c.args.self.now c.run_at-answer.new.self c.in_ok-drawn.drawn c.draw.new.self c.saturating_add-self.result c.run_at-answer.result.0 c.run_at-answer.result.1
            c.in_ok-drawn.ensures.drawn c.in_ok-drawn.ensures.after later c.run_at-answer.ensures.runs;
        noted = ap (λ p. record c.run_at-answer.new.self { schedule = p }) c.note.ensures;
      },
    )

pub returns-clause-runs : goal.returns-clause-runs
returns-clause-runs g c =
    each_ran g.O.Outcome.output_number g.W.SharedState g.D.Clock g.F.TaskFuture _ c.run_at-answer.new.self (record c.run_at-answer.new.self { schedule = c.note.new.self }) _ _ _ _ (some_drawn c.in_ok-drawn.drawn c.args.self.now.schedule c.in_ok-drawn.ensures.drawn) refl c.run_at-answer.ensures.runs
