use Rattle.std.proofs.Common.{◌≡◌, ◌<◌, ◌+◌, length, drop, ap, sym, subst, ◌∙◌, arith}
use Rattle.std.specs.Prelude.{◌↔◌}
use Rattle.mono_machine.specs.Turns.{replies_of, after_steps}
use Rattle.mono_machine.proofs.RunLemmas.{first_and_rest, after_more}
use Rattle.mono_trace.proofs.ArmCountLemmas.{stepped}
use Rattle.mono_trace.proofs.TurnLemmas.{told_next}
use Rattle.mono_trace.proofs.parts.Parts.steps.Goals as goal

pub loop-i-preserved : goal.loop-i-preserved
loop-i-preserved c =
    let me = c.args.me in
    let steps = c.args.steps.now in
    let told = c.args.told.now in
    let i = c.loop-i.i in
    let m = c.loop-i.self.now in
    let before = c.loop-i.invariant in
    let inside : i < length steps = c.loop-i-test.true in
    let same_length : length steps ≡ length told = c.requires.same_length in
    let after = ap (λ b. b.now) c.in_ok-reply.ensures.machine in
    let arms = stepped _ me _ m after in (
      ap (λ b. b.before) c.in_ok-reply.ensures.machine ∙ before.0,
      omega (arith, arms, before.1),
      ap (after_steps me (drop (i + 1) steps)) after ∙ after_more me steps i _ _ m inside before.2,
      subst (λ x. (told ≡ replies_of me steps c.args.self.now.now) ↔ (drop (i + 1) told ≡ replies_of me (drop (i + 1) steps) x)) (sym after)
          (told_next me _ _ _ _ _ _ m (first_and_rest steps i _ inside) (first_and_rest told i _ (omega (arith, inside, same_length))) _ (c.if-not-same_reply.ensures ∙ c.in_ok-reply.ensures.reply) before.3),
    )
