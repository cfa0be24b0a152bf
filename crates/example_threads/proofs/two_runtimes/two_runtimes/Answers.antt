use Rattle.std.proofs.Common.{◌≡◌, ◌%◌, ◌^◌, [], ap, sym, ◌∙◌, rules}
use Rattle.std.specs.List.{sum}
use Rattle.mono_channel.specs.Delivery.{all_shares}
use Rattle.mono_channel.specs.Ends.{IsPair, sent_by, received_by, settled_by, shares_of}
use Rattle.example_threads.specs.Channels.{HasSent, HasSummed}
use Rattle.example_threads.proofs.EndLemmas.{all_came, all_sent, ok_of}
use Rattle.example_threads.proofs.two_runtimes.two_runtimes.Goals as goal

pub settle-requires : goal.settle-requires
settle-requires g c =
    let pair : IsPair c.in_ok-sender.sender c.in_ok-sender.receiver = ok_of c.channel.result (c.in_ok-sender.sender, c.in_ok-sender.receiver) (λ r. IsPair r.0 r.1) c.in_ok-sender.ensures.value c.channel.ensures.pair in
    let sent : HasSent c.args.count c.in_ok-sender.sender c.in_ok-sent.sent = search rules in
    let came : HasSummed c.in_ok-sender.receiver c.in_ok-done.done = search rules in
    sent.0.0 ∙ (pair ∙ sym came.0.0)

pub returns-in-Err-Disconnected-clause-received : goal.returns-in-Err-Disconnected-clause-received
returns-in-Err-Disconnected-clause-received g c =
    let none : sent_by c.in_ok-sender.sender ≡ [] = ok_of c.channel.result (c.in_ok-sender.sender, c.in_ok-sender.receiver) (λ r. sent_by r.0 ≡ []) c.in_ok-sender.ensures.value c.channel.ensures.sent in
    let new : (received_by c.in_ok-sender.receiver ≡ []) × (settled_by c.in_ok-sender.receiver ≡ []) =
    ok_of c.channel.result (c.in_ok-sender.sender, c.in_ok-sender.receiver) (λ r. (received_by r.1 ≡ []) × (settled_by r.1 ≡ [])) c.in_ok-sender.ensures.value c.channel.ensures.received in
    let shares : (shares_of c.in_ok-sender.sender ≡ all_shares) × (shares_of c.in_ok-sender.receiver ≡ 0) =
    ok_of c.channel.result (c.in_ok-sender.sender, c.in_ok-sender.receiver) (λ r. (shares_of r.0 ≡ all_shares) × (shares_of r.1 ≡ 0)) c.in_ok-sender.ensures.value c.channel.ensures.shares in
    let sent : HasSent c.args.count c.in_ok-sender.sender c.in_ok-sent.sent = search rules in
    let came : HasSummed c.in_ok-sender.receiver c.in_ok-done.done = search rules in
    all_came c.arrived_interleaves.ensures c.alone_arrives.ensures c.in_ok-sent.sent c.in_ok-done.done.receiver c.settle.new.self c.try_recv.new.self c.settle.ensures.settled c.settle.ensures.shares c.in-Err-Disconnected.ensures.tried
    (came.1 ∙ new.1) (came.0.1 ∙ shares.1) (sent.0.1 ∙ shares.0)
    ∙ all_sent c.args.count c.in_ok-sender.sender c.in_ok-sent.sent sent none

pub returns-in-Err-Disconnected-clause-added : goal.returns-in-Err-Disconnected-clause-added
returns-in-Err-Disconnected-clause-added g c =
    let came : HasSummed c.in_ok-sender.receiver c.in_ok-done.done = search rules in
    came.2 ∙ ap (λ l. sum l % 2 ^ 64) (sym c.settle.ensures.same.1 ∙ (sym c.in-Err-Disconnected.ensures.tried.1 ∙ returns-in-Err-Disconnected-clause-received g c))
