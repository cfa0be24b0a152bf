use Rattle.std.proofs.Common.{refl}
use Rattle.mono_stream.proofs.ComeLemmas.{unless_ended_both}
use Rattle.mono_stream.proofs.SideComeLemmas.{zip_on, zip_waits}
use Rattle.mono_stream.proofs.zips.Zip.fill_second.Goals as goal

pub returns-in-Held-clause-given : goal.returns-in-Held-clause-given
returns-in-Held-clause-given g c =
    zip_on g.A.Stream.gives g.B.Stream.gives c.args.self.now (record { first = c.args.self.now.first; second = c.fill.new.stream; first_item = c.pair.new.first; second_item = c.pair.new.second }) c.args.self.now.first_item c.fill.new.held c.pair.result (λ xs h. h) (rw c.in-Held.is at c.fill.ensures.given) c.pair.ensures

pub returns-in-Held-clause-callable : goal.returns-in-Held-clause-callable
returns-in-Held-clause-callable g c = unless_ended_both _ _ _ c.requires.first (rw c.in-Held.is at c.fill.ensures.callable)

pub returns-in-Waits-clause-given : goal.returns-in-Waits-clause-given
returns-in-Waits-clause-given g c =
    zip_waits g.A.Stream.gives g.B.Stream.gives c.args.self.now (record { first = c.args.self.now.first; second = c.fill.new.stream; first_item = c.args.self.now.first_item; second_item = c.fill.new.held }) c.args.self.now.first_item c.fill.new.held (λ xs h. h) (rw c.in-Waits.is at c.fill.ensures.given) refl refl
