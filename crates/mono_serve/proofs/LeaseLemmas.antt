-- The effect of calls of the sessions at a moment.
use Rattle.std.proofs.Common.{◌≡◌, ◌≤◌, ◌<◌, ℕ, List, [], ◌∷◌, ◌++◌, length, Option, Some, None, Result, Ok, Err, Bool, true, not, refl, sym, ap, subst, ◌∙◌, inl, inr, arith}
use Rattle.std.specs.Prelude.{⊤, ◌+◌, OnOk, OnErr}
use Rattle.std.proofs.lemmas.List.Quantifiers.{position-Some}
use Rattle.std.specs.declared.alloc.AllocError.{AllocError}
use Rattle.mono_model.specs.Due.{ListsDue}
use Rattle.mono_model.specs.Memory.{OrLacksMemory}
use Rattle.mono_model.specs.Ticks.{max_nanos}
use Rattle.mono_session.specs.Answers.{Answer, of_number, of_done, of_first}
use Rattle.mono_session.specs.Answers as answer
use Rattle.mono_session.specs.Calls.{Call}
use Rattle.mono_session.specs.Calls as call
use Rattle.mono_session.specs.Holders.{waits}
use Rattle.mono_session.specs.Keeper.{Keeper, with_greatest, open_answer, opened, beat_answer, beaten, close_answer, closed, acquire_answer, acquired, release_answer, released}
use Rattle.mono_session.specs.Refinement.{StandsFor}
use Rattle.mono_session.specs.Steps.{closing_value, greatest_at, without_all}
use Rattle.mono_session.specs.declared.error.SessionError.{SessionError}
use Rattle.mono_session.specs.declared.error.SessionError.TheVariants.{Memory}
use Rattle.mono_session.specs.declared.keeper.Sessions.{Sessions}
use Rattle.mono_serve.specs.declared.leases.LockWaiter.{LockWaiter}
use Rattle.mono_serve.specs.declared.leases.Leases.{Leases}
use Rattle.mono_serve.specs.declared.leases.Claimed.{Claimed}
use Rattle.mono_serve.specs.declared.leases.Claimed.TheVariants as claim
use Rattle.mono_serve.specs.declared.leases.Looked.{Looked}
use Rattle.mono_serve.specs.declared.leases.Looked.TheVariants as look
use Rattle.mono_serve.specs.LeaseCalls.{MovesTo, Shows, ShownTo, MayAnswer, CallsAt, told_of, without, still_waits, SameLine, SameRest, Joins, Claims, LineJoins, LeavesLine, LingersIn, SeesTo, LooksIn, first_served}

abbrev StepsTo : Sessions → ℕ → Sessions → List ℕ → List ℕ → Type 0
StepsTo a nanos b before after =
    (k : Keeper) → StandsFor a k → (due : List ℕ) × (after ≡ before ++ due) × ListsDue closing_value k.sessions (greatest_at k nanos) due × StandsFor b (without_all (with_greatest k (greatest_at k nanos)) due)

pub shown : (a b : Sessions) (nanos : ℕ) (before after : List ℕ) (r : Result ⊤ AllocError) → nanos ≤ max_nanos → OnOk r (StepsTo a nanos b before after) → OnErr r ((b ≡ a) × (after ≡ before)) → MovesTo a (ShownTo nanos r) b
shown a b nanos before after (Ok done) within steps none = λ k stands.
    let s = steps k stands in
    (without_all (with_greatest k (greatest_at k nanos)) s.0, s.3, (s.0, (within, s.2, refl)))
shown a b nanos before after (Err lack) within steps none = λ k stands. (k, subst (λ x. StandsFor x k) (sym none.0) stands, refl)

-- The clock is shown the moment, and then a call is answered.
calls_at : (a m b : Sessions) (nanos : ℕ) (c : Call) (told : Answer) → MovesTo a (Shows nanos) m → MovesTo m (MayAnswer c told) b → MovesTo a (CallsAt nanos c told) b
calls_at a m b nanos c told first then_call = λ k stands.
    let x = first k stands in
    let y = then_call x.0 x.1 in
    (y.0, y.1, inl (x.0, x.2, y.2))

-- The clock was not shown the moment.
pub lacks_at : (a b : Sessions) (nanos : ℕ) (c : Call) (told : Answer) → MovesTo a (λ k l. l ≡ k) b → told ≡ answer.Refused Memory → MovesTo a (CallsAt nanos c told) b
lacks_at a b nanos c told same is = λ k stands. let x = same k stands in (x.0, x.1, inr (is, x.2))

or_lacks : {A : Type 0} (m b : Sessions) (c : Call) (of : Result A SessionError → Answer) (of_lack : of (Err Memory) ≡ answer.Refused Memory) (k next : Keeper) (told r : Result A SessionError)
    → ((x : Answer) → x ≡ of told → Rattle.mono_session.specs.Steps.Step k c x next) → OrLacksMemory Memory told k next (StandsFor b) r → (l : Keeper) × StandsFor b l × MayAnswer c (of r) k l
or_lacks m b c of of_lack k next told r step (inl (is, stands)) = (next, stands, inl (step (of r) (ap of is)))
or_lacks m b c of of_lack k next told r step (inr (ok, is, stands)) = (k, stands, inr (ap of is ∙ of_lack, refl))

pub opens : (a m b : Sessions) (nanos limit : ℕ) (r : Result ℕ SessionError) → MovesTo a (Shows nanos) m → ((k : Keeper) → StandsFor m k → OrLacksMemory Memory (open_answer k limit) k (opened k limit) (StandsFor b) r)
    → MovesTo a (CallsAt nanos (call.Open limit) (of_number r)) b
opens a m b nanos limit r first step = calls_at a m b nanos (call.Open limit) (of_number r) first (λ k stands. or_lacks m b (call.Open limit) of_number refl k (opened k limit) (open_answer k limit) r (λ x is. (is, refl)) (step k stands))

pub acquires : (a m b : Sessions) (nanos s key : ℕ) (r : Result Bool SessionError) → MovesTo a (Shows nanos) m → ((k : Keeper) → StandsFor m k → OrLacksMemory Memory (acquire_answer k s key) k (acquired k s key) (StandsFor b) r)
    → MovesTo a (CallsAt nanos (call.Acquire s key) (of_first r)) b
acquires a m b nanos s key r first step =
    calls_at a m b nanos (call.Acquire s key) (of_first r) first (λ k stands. or_lacks m b (call.Acquire s key) of_first refl k (acquired k s key) (acquire_answer k s key) r (λ x is. (is, refl)) (step k stands))

pub beats : (a m b : Sessions) (nanos s : ℕ) (r : Result ⊤ SessionError) → MovesTo a (Shows nanos) m → ((k : Keeper) → StandsFor m k → (r ≡ beat_answer k s) × StandsFor b (beaten k s)) → MovesTo a (CallsAt nanos (call.Beat s) (of_done r)) b
beats a m b nanos s r first step = calls_at a m b nanos (call.Beat s) (of_done r) first (λ k stands. let x = step k stands in (beaten k s, x.1, inl (ap of_done x.0, refl)))

pub closes : (a m b : Sessions) (nanos s : ℕ) (r : Result ⊤ SessionError) → MovesTo a (Shows nanos) m → ((k : Keeper) → StandsFor m k → (r ≡ close_answer k s) × StandsFor b (closed k s)) → MovesTo a (CallsAt nanos (call.Close s) (of_done r)) b
closes a m b nanos s r first step = calls_at a m b nanos (call.Close s) (of_done r) first (λ k stands. let x = step k stands in (closed k s, x.1, inl (ap of_done x.0, refl)))

pub releases : (a m b : Sessions) (nanos s key : ℕ) (r : Result ⊤ SessionError) → MovesTo a (Shows nanos) m → ((k : Keeper) → StandsFor m k → (r ≡ release_answer k s key) × StandsFor b (released k s key)) → MovesTo a (CallsAt nanos (call.Release s key) (of_done r)) b
releases a m b nanos s key r first step = calls_at a m b nanos (call.Release s key) (of_done r) first (λ k stands. let x = step k stands in (released k s key, x.1, inl (ap of_done x.0, refl)))

-- ---- a future that asks, and one that asks again
line_on : (a b c : Leases) → SameLine a b → SameLine b c → SameLine a c
line_on a b c p q = (q.0 ∙ p.0, q.1 ∙ p.1, q.2 ∙ p.2)

-- A reserved place changes nothing that a caller sees.
pub joins_reserved : (a b c : Leases) (s key task : ℕ) (r : Claimed) → SameLine a b → Joins b s key task r c → Joins a s key task r c
joins_reserved a b c s key task claim.Held same joins = line_on a b c same joins
joins_reserved a b c s key task (claim.Refused refusal) same joins = line_on a b c same joins
joins_reserved a b c s key task (claim.Waits ticket) same joins = (
  joins.0 ∙ same.1,
  joins.1 ∙ ap (λ n. b.waiters.items ++ record { ticket = n; session = s; key = key; task = task } ∷ []) same.1 ∙ ap (λ ws. ws ++ record { ticket = a.next; session = s; key = key; task = task } ∷ []) same.0,
  joins.2 ∙ ap (λ n. n + 1) same.1,
  joins.3 ∙ same.2,
)

pub line_joins_on : (a b c : Leases) (s key task : ℕ) (r : Result ℕ AllocError) → SameLine a b → LineJoins b s key task r c → LineJoins a s key task r c
line_joins_on a b c s key task (Ok ticket) same joins = (
  joins.0 ∙ same.1,
  joins.1 ∙ ap (λ n. b.waiters.items ++ record { ticket = n; session = s; key = key; task = task } ∷ []) same.1 ∙ ap (λ ws. ws ++ record { ticket = a.next; session = s; key = key; task = task } ∷ []) same.0,
  joins.2 ∙ ap (λ n. n + 1) same.1,
  joins.3 ∙ same.2,
)
line_joins_on a b c s key task (Err error) same joins = line_on a b c same joins

pub rest_on : (a b c : Leases) → SameRest a b → SameRest b c → SameRest a c
rest_on a b c p q = (q.0 ∙ p.0, q.1 ∙ p.1, q.2 ∙ p.2)

pub claims_on : (a m b : Leases) (nanos s key task : ℕ) (r : Claimed) → m.sessions ≡ a.sessions → SameLine a m → SameRest a m → Claims m nanos s key task r b → Claims a nanos s key task r b
claims_on a m b nanos s key task r same line rest claims = (
  subst (λ x. MovesTo x (CallsAt nanos (call.Acquire s key) (told_of r)) b.sessions) same claims.0,
  joins_reserved a m b s key task r line claims.1,
  rest_on a m b rest claims.2,
)

-- The line after this task left it, from the same line.
pub leaves_on : (a b c : Leases) (ticket me : ℕ) → SameLine a b → LeavesLine b ticket me c → LeavesLine a ticket me c
leaves_on a b c ticket me same (line, next, due) = (line ∙ ap (λ ws. without ws ticket me) same.0, next ∙ same.1, due ∙ same.2)

-- What is seen of the sessions while the future lingers.
pub sees_by : (a b : Sessions) (ws : List LockWaiter) (ticket s key : ℕ) (r : Looked) → ((k : Keeper) → StandsFor a k → still_waits ws ticket s key k ≡ true) → MovesTo a (LingersIn s key r) b → MovesTo a (SeesTo ws ticket s key r) b
sees_by a b ws ticket s key (look.Waits t) still moves = λ k stands. let x = moves k stands in (x.0, x.1, (still k stands, x.2))
sees_by a b ws ticket s key look.Held still moves = λ k stands. let x = moves k stands in absurd x.2
sees_by a b ws ticket s key look.Lost still moves = λ k stands. let x = moves k stands in absurd x.2
sees_by a b ws ticket s key look.Memory still moves = λ k stands. let x = moves k stands in (x.0, x.1, (still k stands, x.2))

pub looks_by : (a m b : Sessions) (ws : List LockWaiter) (nanos ticket s key : ℕ) (r : Looked) → MovesTo a (Shows nanos) m → MovesTo m (SeesTo ws ticket s key r) b → MovesTo a (LooksIn ws nanos ticket s key r) b
looks_by a m b ws nanos ticket s key (look.Waits t) first then_sees = λ k stands.
    let x = first k stands in
    let y = then_sees x.0 x.1 in
    (x.0, subst (StandsFor b) y.2.1 y.1, (x.2, y.2.0))
looks_by a m b ws nanos ticket s key look.Held first then_sees = λ k stands.
    let x = first k stands in
    let y = then_sees x.0 x.1 in
    (x.0, subst (StandsFor b) y.2.1 y.1, (x.2, y.2.0))
looks_by a m b ws nanos ticket s key look.Lost first then_sees = λ k stands.
    let x = first k stands in
    let y = then_sees x.0 x.1 in
    (x.0, subst (StandsFor b) y.2.1 y.1, (x.2, y.2.0))
looks_by a m b ws nanos ticket s key look.Memory first then_sees = λ k stands.
    let x = first k stands in
    let y = then_sees x.0 x.1 in
    (y.0, y.1, inl (x.0, x.2, y.2.1))

pub lost_by : (a m b : Sessions) (ws : List LockWaiter) (nanos ticket s key : ℕ) → MovesTo a (λ k l. l ≡ k) m → MovesTo m (λ k l. l ≡ released k s key) b → MovesTo a (LooksIn ws nanos ticket s key look.Memory) b
lost_by a m b ws nanos ticket s key first then_release = λ k stands.
    let x = first k stands in
    let y = then_release x.0 x.1 in
    (y.0, y.1, inr (y.2 ∙ ap (λ z. released z s key) x.2))

-- ---- the tasks that are served
-- A place that was found is within the line.
pub place_within : (k : Keeper) (ws : List LockWaiter) (i : ℕ) → Some i ≡ first_served k ws → i < length ws
place_within k [] i is = cc
place_within k (w ∷ ws) i is = (position-Some (λ v. not (waits k v.session v.key)) (w ∷ ws) i w (sym is)).0
