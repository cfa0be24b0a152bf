use Rattle.std.proofs.Common.{refl, ap}
use Rattle.std.specs.Prelude.{Err}
use Rattle.mono_model.specs.declared.poll.Poll.TheVariants.{Ready}
use Rattle.mono_stream.specs.declared.sifts.Outcome.TheVariants.{Found, Many}
use Rattle.mono_stream.proofs.GatherComeLemmas.{collect_answers, collect_refuses, collect_waits}
use Rattle.mono_stream.proofs.collects.CollectTaskFuture.poll.Goals as goal

pub returns-in-Found-clause-polled : goal.returns-in-Found-clause-polled
returns-in-Found-clause-polled g c = record {
  outcome = Found c.in-Found.refused;
  collected = _;
  middle = _;
  taken = rw c.in-Found.is at c.sift_some.ensures.sifts;
  after = (ap (λ l. Ready (Err (record { items = l; refused = c.in-Found.refused }))) c.replace-items.ensures.value, refl, refl);
}

pub returns-in-Many-clause-polled : goal.returns-in-Many-clause-polled
returns-in-Many-clause-polled g c = record {
  outcome = Many;
  collected = _;
  middle = _;
  taken = rw c.in-Many.is at c.sift_some.ensures.sifts;
  after = (refl, refl, c.requires.unspent, (_, c.wake_me.ensures.woke));
}

pub returns-in-Many-clause-reached : goal.returns-in-Many-clause-reached
returns-in-Many-clause-reached g c = g.met.C.Context.reaches_on _ _ _ c.sift_some.ensures.reached c.wake_me.ensures.reached

pub sift_some-requires-clause-able : goal.sift_some-requires-clause-able
sift_some-requires-clause-able g c = record { at = λ xs ys x w come are last. tt }

pub returns-in-Found-clause-given : goal.returns-in-Found-clause-given
returns-in-Found-clause-given g c =
    collect_refuses g.S.Stream.gives c.args.self.now c.sift_some.new.stream c.sift_some.new.sieve (record { items = c.replace-items.result; refused = c.in-Found.refused }) (rw c.in-Found.is at c.sift_some.ensures.given)
    (ap (λ l. l.items) c.replace-items.ensures.value)

pub returns-in-Ended-clause-given : goal.returns-in-Ended-clause-given
returns-in-Ended-clause-given g c = collect_answers g.S.Stream.gives c.args.self.now c.sift_some.new.sieve c.replace-all.result (rw c.in-Ended.is at c.sift_some.ensures.given) (ap (λ l. l.items) c.replace-all.ensures.value)

pub returns-in-Waits-clause-same : goal.returns-in-Waits-clause-same
returns-in-Waits-clause-same g c = collect_waits g.S.Stream.gives c.args.self.now (record { stream = c.sift_some.new.stream; collecting = c.sift_some.new.sieve; has_ended = c.args.self.now.has_ended }) (rw c.in-Waits.is at c.sift_some.ensures.given)

pub returns-in-Many-clause-same : goal.returns-in-Many-clause-same
returns-in-Many-clause-same g c = collect_waits g.S.Stream.gives c.args.self.now (record { stream = c.sift_some.new.stream; collecting = c.sift_some.new.sieve; has_ended = c.args.self.now.has_ended }) (rw c.in-Many.is at c.sift_some.ensures.given)
