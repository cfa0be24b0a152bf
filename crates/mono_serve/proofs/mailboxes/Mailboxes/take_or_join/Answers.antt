use Rattle.std.proofs.Common.{◌≡◌, Ok, Err, Some, None, refl, subst}
use Rattle.mono_actor.specs.Callers.{actors_of}
use Rattle.mono_serve.specs.MailCalls.{take_answer}
use Rattle.mono_serve.proofs.mailboxes.Mailboxes.take_or_join.Goals as goal

pub returns-in-Ok-Some : goal.returns-in-Ok-Some
returns-in-Ok-Some g c =
    let told = subst (λ o. Ok o ≡ take_answer (actors_of c.args.self.now.actors) c.args.actor) c.in-Ok-Some.field-0-is c.in-Ok-Some.ensures.answer in
    (Ok (Some (c.in-Ok-Some.from, c.in-Ok-Some.message)), c.take.new.self, (told, c.in-Ok-Some.ensures.actors, c.in-Ok-Some.ensures.line), (refl, refl))

pub returns-in-Ok-None : goal.returns-in-Ok-None
returns-in-Ok-None g c =
    let told = subst (λ o. Ok o ≡ take_answer (actors_of c.args.self.now.actors) c.args.actor) c.in-Ok-None.field-0-is c.in-Ok-None.ensures.answer in
    (Ok None, c.take.new.self, (told, c.in-Ok-None.ensures.actors, c.in-Ok-None.ensures.line), c.join.ensures)

pub returns-in-Err : goal.returns-in-Err
returns-in-Err g c = (Err c.in-Err.error, c.take.new.self, (c.in-Err.ensures.answer, c.in-Err.ensures.actors, c.in-Err.ensures.line), (refl, refl))
