use Rattle.mono_model.specs.Table.{value_at}
use Rattle.mono_actor.specs.Store.{places_of}
use Rattle.std.proofs.Common.{rules, ◌≡◌, ◌<◌, ◌^◌, refl, subst, arith}
use Rattle.std.specs.Prelude.{IfSome}
use Rattle.mono_actor.specs.Places.{receipt_of}
use Rattle.mono_actor.proofs.CallLemmas.{deliver-waits, deliver-clears, deliver-queues}
use Rattle.mono_actor.proofs.CountLemmas.{few-letters}
use Rattle.mono_actor.proofs.table.Actors.deliver.Goals as goal

pub clear-requires : goal.clear-requires
clear-requires g c =
    let t = c.args.self.now in
    let b = c.in_ok-receipt.ensures.becomes.becomes in
    let is = subst (λ v. IfSome v (λ p. c.in_ok-receipt.receipt ≡ receipt_of p)) b.was c.in_ok-receipt.ensures.receipt in
    (deliver-clears (places_of t.places) t.timers t.queue.items t.turn t.greatest t.live t.letters _ t.holds t.most_actors t.most_messages c.args.to c.args.letter (value_at (places_of t.places) c.args.to) c.in_ok-receipt.ensures.becomes.place refl b
    c.in_ok-receipt.receipt c.in-Queues.timer c.in-Queues.tick is c.in-Queues.is).0

pub push_back-requires-clause-seat : goal.push_back-requires-clause-seat
push_back-requires-clause-seat g c =
    let t = c.args.self.now in
    let b = c.in_ok-receipt.ensures.becomes.becomes in
    let is = subst (λ v. IfSome v (λ p. c.in_ok-receipt.receipt ≡ receipt_of p)) b.was c.in_ok-receipt.ensures.receipt in
    (deliver-clears (places_of t.places) t.timers t.queue.items t.turn t.greatest t.live t.letters _ t.holds t.most_actors t.most_messages c.args.to c.args.letter (value_at (places_of t.places) c.args.to) c.in_ok-receipt.ensures.becomes.place refl b
    c.in_ok-receipt.receipt c.in-Queues.timer c.in-Queues.tick is c.in-Queues.is).1

pub push_back-requires-clause-out : goal.push_back-requires-clause-out
push_back-requires-clause-out g c =
    let t = c.args.self.now in
    let b = c.in_ok-receipt.ensures.becomes.becomes in
    let is = subst (λ v. IfSome v (λ p. c.in_ok-receipt.receipt ≡ receipt_of p)) b.was c.in_ok-receipt.ensures.receipt in
    (deliver-clears (places_of t.places) t.timers t.queue.items t.turn t.greatest t.live t.letters _ t.holds t.most_actors t.most_messages c.args.to c.args.letter (value_at (places_of t.places) c.args.to) c.in_ok-receipt.ensures.becomes.place refl b
    c.in_ok-receipt.receipt c.in-Queues.timer c.in-Queues.tick is c.in-Queues.is).2

pub invariant_of-self-in-Queues : goal.invariant_of-self-in-Queues
invariant_of-self-in-Queues g c =
    let t = c.args.self.now in
    let b = c.in_ok-receipt.ensures.becomes.becomes in
    let is = subst (λ v. IfSome v (λ p. c.in_ok-receipt.receipt ≡ receipt_of p)) b.was c.in_ok-receipt.ensures.receipt in
    record {
      holds = rw (c.push_back.ensures.seats, c.in_ok-receipt.ensures.becomes.is)
          (deliver-queues (places_of t.places) t.timers t.queue.items t.turn t.greatest t.live t.letters _ t.holds t.most_actors t.most_messages c.args.to c.args.letter (value_at (places_of t.places) c.args.to) c.in_ok-receipt.ensures.becomes.place refl b
          c.in_ok-receipt.receipt c.in-Queues.timer c.in-Queues.tick c.clear.new.self c.push_back.new.self.items is c.in-Queues.is c.clear.ensures c.push_back.ensures.items).0;
    }

pub invariant_of-self-in-Waits : goal.invariant_of-self-in-Waits
invariant_of-self-in-Waits g c =
    let t = c.args.self.now in
    let b = c.in_ok-receipt.ensures.becomes.becomes in
    let is = subst (λ v. IfSome v (λ p. c.in_ok-receipt.receipt ≡ receipt_of p)) b.was c.in_ok-receipt.ensures.receipt in
    record {
      holds = rw c.in_ok-receipt.ensures.becomes.is ((deliver-waits (places_of t.places) t.timers t.queue.items t.turn t.greatest t.live t.letters _ t.holds t.most_actors t.most_messages c.args.to c.args.letter (value_at (places_of t.places) c.args.to) c.in_ok-receipt.ensures.becomes.place refl b
          c.in_ok-receipt.receipt is c.in-Waits.is).0);
    }

pub returns-in-Queues-clause-after : goal.returns-in-Queues-clause-after
returns-in-Queues-clause-after g c =
    let t = c.args.self.now in
    let b = c.in_ok-receipt.ensures.becomes.becomes in
    let is = subst (λ v. IfSome v (λ p. c.in_ok-receipt.receipt ≡ receipt_of p)) b.was c.in_ok-receipt.ensures.receipt in
    rw c.in_ok-receipt.ensures.becomes.is ((deliver-queues (places_of t.places) t.timers t.queue.items t.turn t.greatest t.live t.letters _ t.holds t.most_actors t.most_messages c.args.to c.args.letter (value_at (places_of t.places) c.args.to) c.in_ok-receipt.ensures.becomes.place refl b
    c.in_ok-receipt.receipt c.in-Queues.timer c.in-Queues.tick c.clear.new.self c.push_back.new.self.items is c.in-Queues.is c.clear.ensures c.push_back.ensures.items).1)

pub returns-in-Waits-clause-after : goal.returns-in-Waits-clause-after
returns-in-Waits-clause-after g c =
    let t = c.args.self.now in
    let b = c.in_ok-receipt.ensures.becomes.becomes in
    let is = subst (λ v. IfSome v (λ p. c.in_ok-receipt.receipt ≡ receipt_of p)) b.was c.in_ok-receipt.ensures.receipt in
    rw c.in_ok-receipt.ensures.becomes.is ((deliver-waits (places_of t.places) t.timers t.queue.items t.turn t.greatest t.live t.letters _ t.holds t.most_actors t.most_messages c.args.to c.args.letter (value_at (places_of t.places) c.args.to) c.in_ok-receipt.ensures.becomes.place refl b
    c.in_ok-receipt.receipt is c.in-Waits.is).1)

pub receive-requires-clause-few : goal.receive-requires-clause-few
receive-requires-clause-few g c =
    let t = c.args.self.now in
    let fits : t.most_messages < 2 ^ 64 = search rules in
    few-letters (places_of t.places) t.queue.items t.live t.letters c.args.to t.holds.counts c.requires.there (omega (arith, fits, c.requires.room))
