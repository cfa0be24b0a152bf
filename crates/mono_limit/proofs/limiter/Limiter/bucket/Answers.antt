use Rattle.std.proofs.Common.{inl, refl, sym, ◌∙◌, arith}
use Rattle.mono_limit.specs.Limits.{limits_of}
use Rattle.mono_limit.specs.Retries.{greatest_of}
use Rattle.mono_limit.proofs.BucketStoreLemmas.{full_up, stored-further}
use Rattle.mono_limit.proofs.limiter.Limiter.bucket.Goals as goal

pub returns-then-number-self : goal.returns-then-number-self
returns-then-number-self c =
    let t = c.args.self.now in
    inl (full_up (limits_of t) t.buckets.items refl c.args.burst c.args.period_ms (omega (arith, c.if-number-self.true, c.len-number.ensures)))

pub invariant_of-self-2 : goal.invariant_of-self-2
invariant_of-self-2 c =
    let t = c.args.self.now in
    record {
      are_stored = stored-further (greatest_of t.retries) t.buckets.items c.reserve.new.self.items c.push_reserved.new.self.items _ c.reserve.ensures.items c.push_reserved.ensures.items (λ b default inside. t.are_stored b default inside)
          (sym c.is_out_of_range-else-is_out_of_range.ensures ∙ c.if-is_out_of_range-2.false) (omega arith) (omega arith) refl;
    }
