use Rattle.std.proofs.Common.{◌∙◌, refl}
use Rattle.std.specs.Prelude.{nat_eq}
use Rattle.mono_session.proofs.QueueLemmas.{in_turn}
use Rattle.mono_session.proofs.entries.Entries.leave_keys.Goals as goal

pub returns-clause-keys : goal.returns-clause-keys
returns-clause-keys c = record {
  ends = λ q. c.close_ends.ensures q;
  places = λ q m. in_turn (nat_eq c.args.session q) c.args.place m _ _ _ (c.link_after_key.ensures.changed q m) (c.link_before_key.ensures.changed q m);
}

pub returns-clause-queues : goal.returns-clause-queues
returns-clause-queues c = record {
  ends = λ q. refl;
  places = λ q m. c.link_before_key.ensures.others q m ∙ c.link_after_key.ensures.others q m;
}
