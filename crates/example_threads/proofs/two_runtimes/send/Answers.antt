use Rattle.std.proofs.Common.{◌≡◌, ◌+◌, Ok, subst, sym}
use Rattle.mono_forms.specs.Sends.{SendsItems}
use Rattle.example_threads.specs.Channels.{HasSent}
use Rattle.example_threads.proofs.EndLemmas.{numbers, sends_down, ok_of, ok_is}
use Rattle.example_threads.proofs.two_runtimes.send.Goals as goal

pub returns : goal.returns
returns g c =
    let sent : SendsItems (numbers (λ x y. y ≡ x + 1)) c.args.sender c.rev.result c.in_ok-sent.sent =
    c.send_all-task.ensures c.in_ok-sent.sent (ok_of c.start.result c.in_ok-sent.sent _ c.in_ok-sent.ensures.value c.start.ensures.given) in
    let all : c.in_ok-sent.sent.result ≡ Ok c.in_ok-ok.field-0 = ok_is c.in_ok-sent.sent.result c.in_ok-ok.field-0 c.in_ok-ok.ensures.value in
    subst (λ e. HasSent c.args.count c.args.sender e) (sym c.close.ensures)
    (sends_down (λ x y. y ≡ x + 1) c.args.sender c.args.count c.new.result c.rev.result c.in_ok-sent.sent c.rev.ensures.source c.new.ensures.start c.new.ensures.end c.new.ensures.exhausted sent c.in_ok-ok.field-0 all)
