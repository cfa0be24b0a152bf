use Rattle.mono_stream.proofs.SiftComeLemmas.{found_on, taken_on}
use Rattle.mono_stream.proofs.sifts.SiftedStream.poll_next.Goals as goal

pub returns-in-Found-clause-given : goal.returns-in-Found-clause-given
returns-in-Found-clause-given g c = found_on g.V.Sieve.done g.V.Sieve.sifts g.S.Stream.gives c.args.self.now (record { stream = c.sift_some.new.stream; sieve = c.sift_some.new.sieve }) c.in-Found.value (rw c.in-Found.is at c.sift_some.ensures.given)

pub returns-in-Found-clause-callable : goal.returns-in-Found-clause-callable
returns-in-Found-clause-callable g c = (rw c.in-Found.is at c.sift_some.ensures.callable, rw c.in-Found.is at c.sift_some.ensures.able)

pub returns-in-Waits-clause-given : goal.returns-in-Waits-clause-given
returns-in-Waits-clause-given g c = taken_on g.V.Sieve.done g.V.Sieve.sifts g.S.Stream.gives c.args.self.now (record { stream = c.sift_some.new.stream; sieve = c.sift_some.new.sieve }) (rw c.in-Waits.is at c.sift_some.ensures.given)

pub returns-in-Waits-clause-callable : goal.returns-in-Waits-clause-callable
returns-in-Waits-clause-callable g c = (rw c.in-Waits.is at c.sift_some.ensures.callable, rw c.in-Waits.is at c.sift_some.ensures.able)

pub returns-in-Many-clause-given : goal.returns-in-Many-clause-given
returns-in-Many-clause-given g c = taken_on g.V.Sieve.done g.V.Sieve.sifts g.S.Stream.gives c.args.self.now (record { stream = c.sift_some.new.stream; sieve = c.sift_some.new.sieve }) (rw c.in-Many.is at c.sift_some.ensures.given)

pub returns-in-Many-clause-callable : goal.returns-in-Many-clause-callable
returns-in-Many-clause-callable g c = (rw c.in-Many.is at c.sift_some.ensures.callable, rw c.in-Many.is at c.sift_some.ensures.able)
