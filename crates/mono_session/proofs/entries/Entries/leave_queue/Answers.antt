use Rattle.std.proofs.Common.{◌∙◌, refl}
use Rattle.std.specs.Prelude.{nat_eq}
use Rattle.mono_session.proofs.QueueLemmas.{in_turn}
use Rattle.mono_session.proofs.entries.Entries.leave_queue.Goals as goal

pub returns-clause-queues : goal.returns-clause-queues
returns-clause-queues c = record {
  ends = λ q. c.close_ends.ensures q;
  places = λ q m. in_turn (nat_eq c.args.key q) c.args.place m _ _ _ (c.link_after.ensures.changed q m) (c.link_before.ensures.changed q m);
}

pub returns-clause-keys : goal.returns-clause-keys
returns-clause-keys c = record {
  ends = λ q. refl;
  places = λ q m. c.link_before.ensures.others m q ∙ c.link_after.ensures.others m q;
}
