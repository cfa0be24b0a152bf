use Rattle.std.proofs.Common.{ap, ◌∙◌}
use Rattle.mono_rt.proofs.contexts.Cx.pause_turn.Goals as goal

pub returns-clause-pauses : goal.returns-clause-pauses
returns-clause-pauses g c =
    let put = c.put_back.ensures in (
      c.pay_owed.new.self,
      (
        c.pay_owed.ensures,
        record {
          parts = record {
            told = c.end_turn-ended.ensures.answer;
            tasks = ap (λ p. p.tasks) put.parts ∙ c.end_turn-ended.ensures.after;
            timers = ap (λ p. p.timers) put.parts;
            has_timers = ap (λ p. p.has_timers) put.parts;
            blocking = ap (λ p. p.blocking) put.parts;
            acts = ap (λ p. p.acts) put.parts;
            memory = ap (λ p. p.is_out_of_memory) put.parts;
          };
          futures = put.futures;
          shared = put.shared;
        },
      ),
    )
