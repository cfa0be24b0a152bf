-- One more item was passed over.
use Rattle.std.proofs.Common.{◌≡◌, ◌+◌, ℕ, suc, Bool, arith, Option, None}
use Rattle.mono_model.specs.declared.poll.Poll.{Poll}
use Rattle.mono_stream.specs.Sifts.{Takes, Passes}

module _ {S V C X Y : Type 0} (polls : S → C → Poll (Option X) → S → C → Type 0) (done : V → Bool) (sifts : V → X → Option Y → V → Type 0) where
  pub passes_first : (n : ℕ) (s t : S) (v w : V) (c d : C) → Passes polls done sifts n s v c t w d → Passes polls done sifts (0 + n) s v c t w d
  passes_first n s t v w c d h =
      let same : 0 + n ≡ n = omega arith in
      rw same h

  pub passes_more : (start s t : S) (v0 v w : V) (c0 c d : C) (i : ℕ) → ((n : ℕ) (u : S) (k : V) (e : C) → Passes polls done sifts n s v c u k e → Passes polls done sifts (i + n) start v0 c0 u k e)
      → Takes polls done sifts s v c None t w d → (n : ℕ) (u : S) (k : V) (e : C) → Passes polls done sifts n t w d u k e → Passes polls done sifts (i + 1 + n) start v0 c0 u k e
  passes_more start s t v0 v w c0 c d i so_far taken n u k e rest =
      let same : i + 1 + n ≡ i + suc n = omega arith in
      rw same (so_far (suc n) u k e (t, w, d, taken, rest))
