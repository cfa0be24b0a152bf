use Rattle.std.proofs.Common.{refl}
use Rattle.mono_stream.specs.Zips.{ZipGives}
use Rattle.mono_stream.specs.declared.zips.Filled.TheVariants.{Held, Waits}
use Rattle.mono_stream.proofs.SideComeLemmas.{zip_first, follow_then}
use Rattle.mono_stream.proofs.zips.ZipStream.poll_next.Goals as goal

pub returns-in-Held-clause-polled : goal.returns-in-Held-clause-polled
returns-in-Held-clause-polled g c = record {
  filled = Held;
  item = c.fill.new.held;
  middle = c.fill.new.cx;
  fills = rw c.fill_second.ensures.same (rw c.in-Held.is at c.fill.ensures.fills);
  rest = record { filled = c.fill_second.ensures.polled.filled; item = c.fill_second.ensures.polled.item; fills = c.fill_second.ensures.polled.fills; rest = c.fill_second.ensures.polled.rest };
}

pub returns-in-Held-clause-given : goal.returns-in-Held-clause-given
returns-in-Held-clause-given g c =
    follow_then (ZipGives g.A.Stream.gives g.B.Stream.gives) c.args.self.now (record { first = c.fill.new.stream; second = c.args.self.now.second; first_item = c.fill.new.held; second_item = c.args.self.now.second_item }) c.fill_second.new.self c.fill_second.result (zip_first g.A.Stream.gives g.B.Stream.gives c.args.self.now (record { first = c.fill.new.stream; second = c.args.self.now.second; first_item = c.fill.new.held; second_item = c.args.self.now.second_item }) (rw c.in-Held.is at c.fill.ensures.given) refl refl) c.fill_second.ensures.given

pub returns-in-Waits-clause-polled : goal.returns-in-Waits-clause-polled
returns-in-Waits-clause-polled g c = record {
  filled = Waits;
  item = c.fill.new.held;
  middle = c.fill.new.cx;
  fills = rw c.fill_second-in-Waits.ensures.same (rw c.in-Waits.is at c.fill.ensures.fills);
  rest = record { filled = c.fill_second-in-Waits.ensures.polled.filled; item = c.fill_second-in-Waits.ensures.polled.item; fills = c.fill_second-in-Waits.ensures.polled.fills; rest = c.fill_second-in-Waits.ensures.polled.rest };
}

pub returns-in-Waits-clause-given : goal.returns-in-Waits-clause-given
returns-in-Waits-clause-given g c =
    follow_then (ZipGives g.A.Stream.gives g.B.Stream.gives) c.args.self.now (record { first = c.fill.new.stream; second = c.args.self.now.second; first_item = c.fill.new.held; second_item = c.args.self.now.second_item }) c.fill_second-in-Waits.new.self c.fill_second-in-Waits.result (zip_first g.A.Stream.gives g.B.Stream.gives c.args.self.now (record { first = c.fill.new.stream; second = c.args.self.now.second; first_item = c.fill.new.held; second_item = c.args.self.now.second_item }) (rw c.in-Waits.is at c.fill.ensures.given) refl refl) c.fill_second-in-Waits.ensures.given
