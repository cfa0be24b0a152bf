use Rattle.std.proofs.Common.{OnOk, subst}
use Rattle.mono_actor.specs.Callers.{actors_of}
use Rattle.mono_lines.specs.ActorTurns.{IsAnswered}
use Rattle.mono_lines.specs.declared.actor.words.ActorLine.TheVariants as line
use Rattle.mono_lines.proofs.ActorCallLemmas.{whole_turn, after_ok}
use Rattle.mono_lines.proofs.actor.turns.turn.Goals as goal

pub returns-in-Ok-clause-answered : goal.returns-in-Ok-clause-answered
returns-in-Ok-clause-answered c =
    subst (λ sends. OnOk c.put_end.result (IsAnswered (actors_of c.args.actors.now) (line.Turn sends c.args.stop) c.args.out.now.items (actors_of c.end-after.new.self) c.put_end.new.out.items)) c.as_slice.ensures
    (after_ok c.put_end.result c.go_on-sent.result c.go_on-sent.ensures.sends
    (whole_turn c.as_slice.result.now c.args.stop (actors_of c.args.actors.now) (actors_of c.begin.new.self) (actors_of c.go_on-sent.new.actors) (actors_of c.end-after.new.self) c.in-Ok.begun.0 c.in-Ok.begun.1 c.end-after.result
    c.args.out.now.items c.go_on-sent.new.out.items c.put_end.new.out.items c.requires.over c.in-Ok.ensures.answer c.begin.ensures.after c.go_on-sent.ensures.turn c.end-after.ensures.answer c.end-after.ensures.after)
    c.put_end.ensures)
