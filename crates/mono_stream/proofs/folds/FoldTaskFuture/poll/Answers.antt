use Rattle.std.proofs.Common.{refl, sym, ◌∙◌}
use Rattle.mono_stream.specs.declared.sifts.Outcome.TheVariants.{Ended, Many}
use Rattle.mono_stream.proofs.FoldLemmas.{both_if, both_of}
use Rattle.mono_stream.proofs.GatherComeLemmas.{still_some, some_at_end, able_to_fold, folds_over, fold_answers, fold_waits}
use Rattle.mono_stream.proofs.folds.FoldTaskFuture.poll.Goals as goal

pub returns-in-Ended-clause-polled : goal.returns-in-Ended-clause-polled
returns-in-Ended-clause-polled g c = record {
  outcome = Ended;
  folded = _;
  middle = _;
  taken = rw c.in-Ended.is at c.sift_some.ensures.sifts;
  after = ((_, sym c.take.ensures.value ∙ c.unwrap-value.ensures, refl), c.take.ensures.after, refl);
  same = refl;
}

pub returns-in-Many-clause-polled : goal.returns-in-Many-clause-polled
returns-in-Many-clause-polled g c = record {
  outcome = Many;
  folded = _;
  middle = _;
  taken = rw c.in-Many.is at c.sift_some.ensures.sifts;
  after = (refl, refl, (_, c.wake_me.ensures.woke));
  same = refl;
}

pub returns-in-Waits-clause-again : goal.returns-in-Waits-clause-again
returns-in-Waits-clause-again g c = still_some g.F.FnMut _ _ c.args.self.now.folding c.sift_some.new.sieve c.requires.unspent (rw c.in-Waits.is at c.sift_some.ensures.given)

pub returns-in-Waits-clause-same : goal.returns-in-Waits-clause-same
returns-in-Waits-clause-same g c = fold_waits g.S.Stream.gives g.F.FnMut c.args.self.now c.requires.unspent (record { stream = c.sift_some.new.stream; folding = c.sift_some.new.sieve }) (rw c.in-Waits.is at c.sift_some.ensures.given)

pub returns-in-Waits-clause-callable : goal.returns-in-Waits-clause-callable
returns-in-Waits-clause-callable g c =
    both_if _ (still_some g.F.FnMut _ _ c.args.self.now.folding c.sift_some.new.sieve c.requires.unspent (rw c.in-Waits.is at c.sift_some.ensures.given)) (rw c.in-Waits.is at c.sift_some.ensures.callable)
    (folds_over g.F.FnMut _ _ c.sift_some.new.sieve (rw c.in-Waits.is at c.sift_some.ensures.able))

pub returns-in-Many-clause-again : goal.returns-in-Many-clause-again
returns-in-Many-clause-again g c = still_some g.F.FnMut _ _ c.args.self.now.folding c.sift_some.new.sieve c.requires.unspent (rw c.in-Many.is at c.sift_some.ensures.given)

pub returns-in-Many-clause-same : goal.returns-in-Many-clause-same
returns-in-Many-clause-same g c = fold_waits g.S.Stream.gives g.F.FnMut c.args.self.now c.requires.unspent (record { stream = c.sift_some.new.stream; folding = c.sift_some.new.sieve }) (rw c.in-Many.is at c.sift_some.ensures.given)

pub returns-in-Many-clause-callable : goal.returns-in-Many-clause-callable
returns-in-Many-clause-callable g c =
    both_if _ (still_some g.F.FnMut _ _ c.args.self.now.folding c.sift_some.new.sieve c.requires.unspent (rw c.in-Many.is at c.sift_some.ensures.given)) (rw c.in-Many.is at c.sift_some.ensures.callable)
    (folds_over g.F.FnMut _ _ c.sift_some.new.sieve (rw c.in-Many.is at c.sift_some.ensures.able))

pub returns-in-Many-clause-reached : goal.returns-in-Many-clause-reached
returns-in-Many-clause-reached g c = g.met.C.Context.reaches_on _ _ _ c.sift_some.ensures.reached c.wake_me.ensures.reached

pub sift_some-requires-clause-callable : goal.sift_some-requires-clause-callable
sift_some-requires-clause-callable g c = (both_of _ c.requires.unspent c.requires.callable).0

pub sift_some-requires-clause-able : goal.sift_some-requires-clause-able
sift_some-requires-clause-able g c = able_to_fold g.F.FnMut _ _ c.args.self.now.folding c.requires.unspent (both_of _ c.requires.unspent c.requires.callable).1

pub unwrap-value-requires : goal.unwrap-value-requires
unwrap-value-requires g c = some_at_end g.F.FnMut _ c.args.self.now.folding c.sift_some.new.sieve c.requires.unspent (rw c.in-Ended.is at c.sift_some.ensures.given) c.take.result c.take.ensures.value

pub returns-in-Ended-clause-given : goal.returns-in-Ended-clause-given
returns-in-Ended-clause-given g c =
    fold_answers g.S.Stream.gives g.F.FnMut c.args.self.now c.requires.unspent c.sift_some.new.sieve _ (rw c.in-Ended.is at c.sift_some.ensures.given) (sym c.take.ensures.value ∙ c.unwrap-value.ensures)
