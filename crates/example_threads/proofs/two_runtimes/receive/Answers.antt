use Rattle.std.proofs.Common.{rules}
use Rattle.example_threads.specs.Channels.{HasSummed}
use Rattle.example_threads.proofs.EndLemmas.{some_if, sums_all}
use Rattle.example_threads.proofs.two_runtimes.receive.Goals as goal

pub returns : goal.returns
returns g c =
    some_if c.start.result c.ok-2.result _ (HasSummed c.args.receiver) c.ok-2.ensures.value c.start.ensures.given
    (λ x gave. sums_all _ (λ f total y next h called. search rules) c.args.receiver _ x c.requires (c.fold_messages-task.ensures x gave))
