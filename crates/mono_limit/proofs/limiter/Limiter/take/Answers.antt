use Rattle.std.proofs.Common.{subst, sym, refl, arith}
use Rattle.std.specs.Prelude.{Err}
use Rattle.mono_limit.specs.Limiter.{TakesFrom}
use Rattle.mono_limit.specs.Retries.{greatest_of}
use Rattle.mono_limit.specs.BucketTable.{IsStored, TakesOf, bucket_at}
use Rattle.mono_limit.specs.declared.LimitError.TheVariants.{NoBucket}
use Rattle.mono_limit.specs.Limits.{limits_of}
use Rattle.mono_limit.proofs.BucketStoreLemmas.{takes, stored-set, no_bucket}
use Rattle.mono_limit.proofs.limiter.Limiter.take.Goals as goal

pub returns : goal.returns
returns c =
    let t = c.args.self.now in
    let one = c.index_mut-stored.result.now in
    takes (limits_of t) t.buckets.items refl c.args.bucket c.args.n one c.take.new.self (omega (arith, c.if-at-len.false, c.len.ensures)) (sym c.index_mut-stored.ensures.value) c.take.result
    (subst (λ g. TakesOf g (bucket_at g one) c.args.n c.take.result (bucket_at g c.take.new.self)) c.greatest-greatest.ensures c.take.ensures.takes)

pub invariant_of-self : goal.invariant_of-self
invariant_of-self c =
    let t = c.args.self.now in
    record {
      are_stored = stored-set (greatest_of t.retries) t.buckets.items c.args.bucket c.take.new.self (λ b default inside. t.are_stored b default inside) (subst (λ g. IsStored g c.take.new.self) c.greatest-greatest.ensures c.take.ensures.stored);
    }

pub returns-then-at-len : goal.returns-then-at-len
returns-then-at-len c =
    let t = c.args.self.now in
    subst (λ v. TakesFrom v (limits_of t) c.args.bucket c.args.n (Err NoBucket) (limits_of t)) (sym (no_bucket (greatest_of t.retries) t.buckets.items c.args.bucket (omega (arith, c.if-at-len.true, c.len.ensures)))) (refl, refl)
