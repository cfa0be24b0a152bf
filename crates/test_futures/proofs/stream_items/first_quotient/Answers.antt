use Rattle.std.proofs.Common.{◌<◌, arith, rules}
use Rattle.mono_stream.specs.ComeRules.{callable_at_each, each_value}
use Rattle.test_futures.proofs.stream_items.first_quotient.Goals as goal

pub poll_next-requires : goal.poll_next-requires
poll_next-requires g c = ((search rules, search rules), callable_at_each _ (λ x. 0 < x) _ (each_value _ _ (λ x. 0 < x) (λ v x y w sifted. grind arith) _ _) _ (λ f x some. search rules) _)
