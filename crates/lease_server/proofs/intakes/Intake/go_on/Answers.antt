use Rattle.std.proofs.Common.{refl}
use Rattle.lease_server.specs.Intakes.{Leads}
use Rattle.lease_server.proofs.IntakeLemmas.{leads_itself, leads_on, led_flush, done}
use Rattle.lease_server.proofs.WayLemmas.{keeps_itself, keeps_on}
use Rattle.lease_server.proofs.intakes.Intake.go_on.Goals as goal

pub returns-then-has_ended-clause-done : goal.returns-then-has_ended-clause-done
returns-then-has_ended-clause-done g c = λ e text rest f is.
    let left = g.S.Source.left in
    let at = c.loop.self in
    let mid = record at { splitter = record at.splitter { dispatcher = c.flush.new.self } } in
    let led : Leads left c.args.self.now mid = leads_on left c.args.self.now at mid c.loop.invariant.led (led_flush left at mid refl refl refl refl c.flush.ensures.holds) in
    done left c.args.self.now mid (c.is_over.ensures c.if-not-is_over.false) led (c.in_ok-flush.ensures.sent c.if-not-branch.false) text rest f is

pub returns-in_err-read-clause-led : goal.returns-in_err-read-clause-led
returns-in_err-read-clause-led g c =
    let left = g.S.Source.left in
    let at = c.loop.self in
    let mid = record at { splitter = record at.splitter { dispatcher = c.flush.new.self } } in
    let led : Leads left c.args.self.now mid = leads_on left c.args.self.now at mid c.loop.invariant.led (led_flush left at mid refl refl refl refl c.flush.ensures.holds) in
    leads_on left c.args.self.now mid c.read.new.self led c.read.ensures.led

pub loop-preserved : goal.loop-preserved
loop-preserved g c =
    let left = g.S.Source.left in
    let at = c.loop.self in
    let mid = record at { splitter = record at.splitter { dispatcher = c.flush.new.self } } in
    let led : Leads left c.args.self.now mid = leads_on left c.args.self.now at mid c.loop.invariant.led (led_flush left at mid refl refl refl refl c.flush.ensures.holds) in
    record {
      ways = keeps_on c.args.self.now.splitter.dispatcher c.flush.new.self c.read.new.self.splitter.dispatcher (keeps_on c.args.self.now.splitter.dispatcher at.splitter.dispatcher c.flush.new.self c.loop.invariant.ways c.flush.ensures.ways) c.read.ensures.ways;
      led = leads_on left c.args.self.now mid c.read.new.self led c.read.ensures.led;
      faults = λ before f. c.read.ensures.faults before (c.loop.invariant.faults before f);
    }

pub loop-init : goal.loop-init
loop-init g c = record { ways = keeps_itself c.args.self.now.splitter.dispatcher; led = leads_itself g.S.Source.left c.args.self.now; faults = λ before f. f }

pub returns-in_err-flush-clause-ways : goal.returns-in_err-flush-clause-ways
returns-in_err-flush-clause-ways g c = keeps_on c.args.self.now.splitter.dispatcher c.loop.self.splitter.dispatcher c.flush.new.self c.loop.invariant.ways c.flush.ensures.ways

pub returns-then-not-branch-clause-ways : goal.returns-then-not-branch-clause-ways
returns-then-not-branch-clause-ways g c = keeps_on c.args.self.now.splitter.dispatcher c.loop.self.splitter.dispatcher c.flush.new.self c.loop.invariant.ways c.flush.ensures.ways

pub returns-then-has_ended-clause-ways : goal.returns-then-has_ended-clause-ways
returns-then-has_ended-clause-ways g c = keeps_on c.args.self.now.splitter.dispatcher c.loop.self.splitter.dispatcher c.flush.new.self c.loop.invariant.ways c.flush.ensures.ways

pub returns-in_err-read-clause-ways : goal.returns-in_err-read-clause-ways
returns-in_err-read-clause-ways g c =
    keeps_on c.args.self.now.splitter.dispatcher c.flush.new.self c.read.new.self.splitter.dispatcher (keeps_on c.args.self.now.splitter.dispatcher c.loop.self.splitter.dispatcher c.flush.new.self c.loop.invariant.ways c.flush.ensures.ways) c.read.ensures.ways
