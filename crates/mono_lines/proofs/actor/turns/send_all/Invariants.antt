use Rattle.std.proofs.Common.{◌≡◌, drop}
use Rattle.mono_actor.specs.Callers.{actors_of}
use Rattle.mono_lines.proofs.ActorCallLemmas.{LeadsOn}
use Rattle.mono_lines.proofs.actor.turns.send_all.Given as goal

abbrev pub invariant-loop-handed : goal.invariant-loop-handed
invariant-loop-handed l =
    LeadsOn l.me l.sends (actors_of l.fn.actors) l.fn.out.items (drop l.handed-index l.sends) (actors_of l.actors) l.out.items × ((actors_of l.actors).turn ≡ (actors_of l.fn.actors).turn)
