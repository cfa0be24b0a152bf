-- Several permits that are added or taken in one call are so many releases or acquisitions.
use Rattle.std.proofs.Common.{◌≡◌, ◌<◌, ◌≤◌, ◌+◌, ◌-◌, ℕ, zero, suc, length, Ok, refl, sym, subst, arith, ◌∙◌}
use Rattle.mono_sync.specs.declared.semaphores.Semaphore.{Semaphore}
use Rattle.mono_sync.specs.declared.semaphores.TheConstants.{MAX_PERMITS}
use Rattle.mono_sync.specs.Semaphores.{Releases, TriesToAcquire}
use Rattle.mono_sync.specs.SemaphoreRuns.{Leads, leads_itself, leads_on, leads_by, released, tried}
use Rattle.mono_sync.specs.ManyPermits.{TakesPermits}

stays : (a b : Semaphore) → b.available ≡ a.available → b.line ≡ a.line → b.is_closed ≡ a.is_closed → Leads a b
stays a b available line closed = subst (Leads a) (λ i. record { available = sym available i; is_closed = sym closed i; line = sym line i }) (leads_itself a)

no_more : (n m : ℕ) → n ≡ m + 0 → n ≡ m
no_more n m same = omega (arith, same)

fits : (n most has : ℕ) → suc n ≤ most - has → has < most
fits n most has less = omega (arith, less)

one_less : (n most has : ℕ) → suc n ≤ most - has → n ≤ most - (has + 1)
one_less n most has less = omega (arith, less)

one_on : (n left has : ℕ) → left ≡ has + suc n → left ≡ has + 1 + n
one_on n left has same = omega (arith, same)

pub adds_lead : (n : ℕ) (a b : Semaphore) → n ≤ MAX_PERMITS - a.available → b.available ≡ a.available + n → b.line ≡ a.line → b.is_closed ≡ a.is_closed → Leads a b
adds_lead zero a b less available line closed = stays a b (no_more b.available a.available available) line closed
adds_lead (suc n) a b less available line closed =
    let m : Semaphore = record a { available = a.available + 1 } in
    let step : Releases a (Ok tt) m = (fits n MAX_PERMITS a.available less, refl, refl, refl) in
    leads_on a m b (leads_by (released (Ok tt)) a m step) (adds_lead n m b (one_less n MAX_PERMITS a.available less) (one_on n b.available a.available available) line closed)

has_room : (n taken has : ℕ) → suc n ≤ has - taken → taken < has
has_room n taken has less = omega (arith, less)

one_back : (n taken has : ℕ) → suc n ≤ has - taken → has - 1 + 1 ≡ has
one_back n taken has less = omega (arith, less)

room_left : (n taken has : ℕ) → suc n ≤ has - taken → n ≤ has - 1 - taken
room_left n taken has less = omega (arith, less)

one_off : (n taken left has : ℕ) → suc n ≤ has - taken → left + suc n ≡ has → left + n ≡ has - 1
one_off n taken left has less same = omega (arith, less, same)

pub takes_lead : (n : ℕ) (a b : Semaphore) → TakesPermits a n b → Leads a b
takes_lead zero a b s = stays a b (sym (no_more a.available b.available (sym s.2))) s.3 (s.4 ∙ sym s.0)
takes_lead (suc n) a b s =
    let taken : ℕ = a.line.granted + length a.line.waiters.items in
    let m : Semaphore = record a { available = a.available - 1 } in
    let step : TriesToAcquire a (Ok tt) m = (s.0, has_room n taken a.available s.1, one_back n taken a.available s.1, refl, s.0) in
    leads_on a m b (leads_by (tried (Ok tt)) a m step) (takes_lead n m b (s.0, room_left n taken a.available s.1, one_off n taken b.available a.available s.1 s.2, s.3, s.4))
