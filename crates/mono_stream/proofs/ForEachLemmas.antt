-- One more item was handled.
use Rattle.std.proofs.Common.{◌≡◌, ◌+◌, ℕ, suc, arith, Some}
use Rattle.mono_model.specs.declared.poll.Poll.TheVariants.{Ready}
use Rattle.mono_stream.specs.ForEaches.{Polls, Items}

module _ {S C : Type 0} (polls : Polls S C) where
  pub items_more : (start s t : S) (c0 c d : C) (i : ℕ) → ((n : ℕ) (u : S) (e : C) → Items polls n s c u e → Items polls (i + n) start c0 u e)
      → polls s c (Ready (Some tt)) t d → (n : ℕ) (u : S) (e : C) → Items polls n t d u e → Items polls (i + 1 + n) start c0 u e
  items_more start s t c0 c d i so_far polled n u e rest =
      let same : i + 1 + n ≡ i + suc n = omega arith in
      rw same (so_far (suc n) u e (t, d, polled, rest))
