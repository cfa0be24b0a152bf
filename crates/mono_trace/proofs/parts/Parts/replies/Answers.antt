use Rattle.std.proofs.Common.{◌≡◌, ◌<◌, ◌+◌, ◌++◌, ◌∷◌, [], length, drop, ap, sym, ◌∙◌, arith}
use Rattle.mono_machine.specs.Turns.{replies_of, after_steps}
use Rattle.mono_machine.proofs.RunLemmas.{first_and_rest, after_more}
use Rattle.mono_trace.proofs.ArmCountLemmas.{stepped}
use Rattle.mono_trace.proofs.TurnLemmas.{reply_more}
use Rattle.mono_trace.proofs.parts.Parts.replies.Goals as goal

pub steps-preserved : goal.steps-preserved
steps-preserved c =
    let me = c.args.me in
    let steps = c.args.steps.now in
    let i = c.steps.i in
    let m = c.steps.self.now in
    let before = c.steps.invariant in
    let inside : i < length steps = c.steps-test.true in
    let after = ap (λ b. b.now) c.in_ok-reply.ensures.machine in
    let arms = stepped _ me _ m after in (
      ap (λ b. b.before) c.in_ok-reply.ensures.machine ∙ before.0,
      omega (arith, arms, before.1),
      ap (after_steps me (drop (i + 1) steps)) after ∙ after_more me steps i _ _ m inside before.2,
      ap (λ xs. xs ++ replies_of me (drop (i + 1) steps) c.step.new.self.now) c.in_ok-push.ensures.ok
          ∙ reply_more me _ _ _ m c.step.new.self.now c.steps.replies c.in_ok-reply.reply (first_and_rest steps i _ inside) c.in_ok-reply.ensures.reply after ∙ before.3,
    )
