use Rattle.std.proofs.Common.{subst, sym, ap, arith}
use Rattle.std.specs.Prelude.{Ok}
use Rattle.mono_limit.specs.Buckets.{Bucket}
use Rattle.mono_limit.specs.BucketTable.{bucket_at, TakesOf}
use Rattle.mono_limit.specs.declared.Take.TheVariants.{Short}
use Rattle.mono_limit.proofs.TakeLemmas.{too_few}
use Rattle.mono_limit.proofs.buckets.StoredBucket.take.Goals as goal

pub returns-then-n-from-2-clause-takes : goal.returns-then-n-from-2-clause-takes
returns-then-n-from-2-clause-takes c =
    let g = c.args.greatest in
    let n = c.args.n in
    let left = c.fill.new.self in
    let burst = c.from.ensures in
    let told = too_few g n left c.fill.ensures.stored c.fill.ensures.ended (omega (arith, c.from-2.ensures, c.if-n-from-2.true)) (omega (arith, c.if-n-from.false, c.from.ensures, ap (λ (b : Bucket). b.burst) c.fill.ensures.bucket)) in
    let short = subst (λ t. TakesOf g (bucket_at g left) n (Ok (Short t)) (bucket_at g left)) (sym c.tick_of_enough.ensures) told in
    subst (λ (b : Bucket). TakesOf g b n (Ok (Short c.tick_of_enough.result)) (bucket_at g left)) c.fill.ensures.bucket short
