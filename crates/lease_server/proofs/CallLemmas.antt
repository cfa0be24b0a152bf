-- The number of an exit.
use Rattle.std.proofs.Common.{◌≡◌, ◌<◌, ◌⊎◌, inl, inr, ℕ, List, Option, refl, sym, ap, subst, ◌∙◌, arith}
use Rattle.lease_server.specs.EndToEnd.{SaysWhich}
use Rattle.lease_server.specs.Pages.{Shows}

-- each status is small
pub which_code : (status code reads reads_now writes writes_now : ℕ) → SaysWhich status reads reads_now writes writes_now → (status < 256 → code ≡ status) → code ≡ status
which_code status code reads reads_now writes writes_now (inl (is, read, written)) small = small (omega (arith, is))
which_code status code reads reads_now writes writes_now (inr (inl (is, rose, written))) small = small (omega (arith, is))
which_code status code reads reads_now writes writes_now (inr (inr (inl (is, others)))) small = small (omega (arith, is))
which_code status code reads reads_now writes writes_now (inr (inr (inr (inl (is, others))))) small = small (omega (arith, is))
which_code status code reads reads_now writes writes_now (inr (inr (inr (inr (is, read, written))))) small = small (omega (arith, is))

pub shows_code : (text : List ℕ) (before after : Option (List ℕ)) (faults later status code : ℕ) → Shows text before after faults later status → (status < 256 → code ≡ status) → Shows text before after faults later code
shows_code text before after faults later status code (inl (is, others)) small = inl (small (omega (arith, is)) ∙ is, others)
shows_code text before after faults later status code (inr (is, rose, part)) small = inr (small (omega (arith, is)) ∙ is, rose, part)
