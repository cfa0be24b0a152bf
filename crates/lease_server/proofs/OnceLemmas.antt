-- Each line is answered exactly once.
use Rattle.std.proofs.Common.{◌≡◌, ◌≢◌, ◌==◌, ◌+◌, ◌<◌, ◌≤◌, ◌⊎◌, inl, inr, if◌then◌else◌, ℕ, zero, suc, Bool, true, false, List, [], ◌∷◌, ◌++◌, map, length, Option, Some, None, refl, sym, ap, subst, ◌∙◌, arith}
use Rattle.std.proofs.lemmas.Bool.Decides.{nat_tests}
use Rattle.std.proofs.lemmas.Nat.{mod_below}
use Rattle.mono_text.specs.Lines.{Line, lines}
use Rattle.mono_model.specs.Valid.{times, once_if}
use Rattle.mono_channel.specs.Weights.{weigh}
use Rattle.mono_channel.proofs.Weights.{weighs}
use Rattle.lease_core.specs.declared.requests.Request.{Request}
use Rattle.lease_core.specs.declared.requests.Reply.{Reply}
use Rattle.lease_core.specs.declared.sizes.Sizes.{Sizes}
use Rattle.lease_core.specs.Cores.{CoreState, new_core}
use Rattle.lease_core.specs.Routes.{core_of}
use Rattle.lease_core.specs.Steps.{Event, Advance, Handle, Finish, Run}
use Rattle.lease_core.specs.Laws as law
use Rattle.lease_core.proofs.CountLemmas.{answered_once, none_wait}
use Rattle.lease_server.specs.Answers.{number_of, by_core, refusals_of}
use Rattle.lease_server.specs.Routing.{Ask, routed, refused}
use Rattle.lease_server.specs.EndToEnd.{requests_in, RunsThrough, EachRuns, ServesAll, AnswersEachLineOnce}
use Rattle.lease_server.specs.declared.answers.Answer.{Answer}
use Rattle.lease_server.specs.declared.answers.Answer.TheVariants.{Bad, By}

-- ---- weights count numbers

-- whether it answers line i
abbrev is_of : ℕ → Answer → ℕ
is_of i a = once_if (number_of a == i)

numbers : List Request → List ℕ
numbers requests = map (λ (r : Request). r.number) requests

times_weigh : (i : ℕ) (answers : List Answer) → times (map number_of answers) i ≡ weigh (is_of i) answers
times_weigh i [] = refl
times_weigh i (a ∷ answers) = ap (λ n. is_of i a + n) (times_weigh i answers)

weigh_refusals : (i : ℕ) (ns : List ℕ) → weigh (is_of i) (refusals_of ns) ≡ times ns i
weigh_refusals i [] = refl
weigh_refusals i (n ∷ ns) = ap (λ m. once_if (n == i) + m) (weigh_refusals i ns)

weigh_replies : (i k : ℕ) (replies : List Reply) → weigh (is_of i) (by_core k replies) ≡ times (law.answered replies) i
weigh_replies i k [] = refl
weigh_replies i k (r ∷ replies) = ap (λ m. once_if (r.number == i) + m) (weigh_replies i k replies)

-- ---- one core

asked_finish : (i : ℕ) (before : List Event) → times (law.asked (before ++ Finish ∷ [])) i ≡ times (map (λ (r : Request). r.number) (requests_in before)) i
asked_finish i [] = refl
asked_finish i (Advance n ∷ events) = asked_finish i events
asked_finish i (Handle r ∷ events) = ap (λ m. once_if (r.number == i) + m) (asked_finish i events)
asked_finish i (Finish ∷ events) = asked_finish i events

-- the last step of a run
last_step : (before : List Event) (replies : List Reply) (old new : CoreState) → Run old (before ++ Finish ∷ []) replies new → (mid : CoreState) × (last : List Reply) × Run mid (Finish ∷ []) last new
last_step [] replies old new run = (old, replies, run)
last_step (e ∷ events) replies old new (first, rest, mid, step, more, is) = last_step events rest mid new more

core_counts : (i : ℕ) (sizes : Sizes) (requests : List Request) (replies : List Reply) → RunsThrough sizes requests replies → times (law.answered replies) i ≡ times (map (λ (r : Request). r.number) requests) i
core_counts i sizes requests replies r =
    let last = last_step r.before replies (new_core sizes) r.last r.run in
    let none : times (law.waited r.last.waiting) i ≡ 0 = ap (λ w. times (law.waited w) i) (none_wait last.1 last.0 r.last last.2) in
    let all = answered_once (r.before ++ Finish ∷ []) replies (new_core sizes) r.last i r.run in
    let asked = asked_finish i r.before in
    let same : times (map (λ (r : Request). r.number) (requests_in r.before)) i ≡ times (map (λ (r : Request). r.number) requests) i = ap (λ rs. times (map (λ (r : Request). r.number) rs) i) r.asked in
    omega arith

-- ---- all cores

-- how often number i stands among the requests of m cores, from core k on
gathered : ℕ → ℕ → ℕ → ℕ → List (Option Request) → ℕ
gathered i cores k zero asked = 0
gathered i cores k (suc m) asked = times (map (λ (r : Request). r.number) (routed k cores asked)) i + gathered i cores (k + 1) m asked

each_counts : (i cores : ℕ) (sizes : Sizes) (asked : List (Option Request)) (k : ℕ) (each : List (List Answer)) → EachRuns k cores sizes asked each
    → (weigh (weigh (is_of i)) each ≡ gathered i cores k (length each) asked) × (k + length each ≡ cores)
unfolding gathered
each_counts i cores sizes asked k [] runs = (refl, omega (arith, runs))
each_counts i cores sizes asked k (answers ∷ others) runs =
    let r = runs.0 in
    let one : weigh (is_of i) answers ≡ times (map (λ (r : Request). r.number) (routed k cores asked)) i = ap (λ a. weigh (is_of i) a) r.2 ∙ weigh_replies i k r.0 ∙ core_counts i sizes (routed k cores asked) r.0 r.1 in
    let more = each_counts i cores sizes asked (k + 1) others runs.1 in
    (ap (λ w. w + weigh (weigh (is_of i)) others) one ∙ ap (λ w. times (map (λ (r : Request). r.number) (routed k cores asked)) i + w) more.0, let c = more.1 in omega arith)

gathered_none : (i cores k m : ℕ) (asked : List (Option Request)) → gathered i cores k m (None ∷ asked) ≡ gathered i cores k m asked
unfolding gathered
gathered_none i cores k zero asked = refl
gathered_none i cores k (suc m) asked = ap (λ w. times (map (λ (r : Request). r.number) (routed k cores asked)) i + w) (gathered_none i cores (k + 1) m asked)

gathered_empty : (i cores k m : ℕ) → gathered i cores k m [] ≡ 0
unfolding gathered
gathered_empty i cores k zero = refl
gathered_empty i cores k (suc m) = omega (arith, gathered_empty i cores (k + 1) m)

-- the requests of core k, with one more request
routed_by : (i cores k : ℕ) (r : Request) (asked : List (Option Request)) (b : Bool) → (core_of r.key cores == k) ≡ b
    → times (map (λ (r : Request). r.number) (routed k cores (Some r ∷ asked))) i ≡ (if b then once_if (r.number == i) else 0) + times (map (λ (r : Request). r.number) (routed k cores asked)) i
routed_by i cores k r asked true is = rw is refl
routed_by i cores k r asked false is = rw is (omega arith)

other_core : (c k m : ℕ) → (c < k) ⊎ (k + suc m ≤ c) → (c == k) ≡ false
other_core c k m (inl lt) = grind (arith, nat_tests)
other_core c k m (inr le) = grind (arith, nat_tests)

further : (c k m : ℕ) → (c < k) ⊎ (k + suc m ≤ c) → (c < k + 1) ⊎ (k + 1 + m ≤ c)
further c k m (inl lt) = inl (omega arith)
further c k m (inr le) = inr (omega arith)

-- a request of another core
gathered_other : (i cores k m : ℕ) (r : Request) (asked : List (Option Request)) → (core_of r.key cores < k) ⊎ (k + m ≤ core_of r.key cores) → gathered i cores k m (Some r ∷ asked) ≡ gathered i cores k m asked
unfolding gathered
gathered_other i cores k zero r asked out = refl
gathered_other i cores k (suc m) r asked out =
    let one = routed_by i cores k r asked false (other_core (core_of r.key cores) k m out) in
    let more = gathered_other i cores (k + 1) m r asked (further (core_of r.key cores) k m out) in
    omega (arith, one, more)

-- a request of one of these cores
gathered_here : (i cores k m : ℕ) (r : Request) (asked : List (Option Request)) (b : Bool) → (core_of r.key cores == k) ≡ b → k ≤ core_of r.key cores → core_of r.key cores < k + m
    → gathered i cores k m (Some r ∷ asked) ≡ once_if (r.number == i) + gathered i cores k m asked
unfolding gathered
gathered_here i cores k zero r asked b is from to = absurd (omega arith)
gathered_here i cores k (suc m) r asked true is from to =
    let at : core_of r.key cores ≡ k = grind (arith, nat_tests) in
    let one = routed_by i cores k r asked true is in
    let more = gathered_other i cores (k + 1) m r asked (inl (omega arith)) in
    omega (arith, one, more)
gathered_here i cores k (suc m) r asked false is from to =
    let apart : core_of r.key cores ≢ k = λ e. grind (arith, nat_tests) in
    let one = routed_by i cores k r asked false is in
    let more = gathered_here i cores (k + 1) m r asked (core_of r.key cores == k + 1) refl (omega arith) (omega arith) in
    omega (arith, one, more)

-- ---- all lines

-- m numbers from n on
spans : ℕ → ℕ → List ℕ
spans n zero = []
spans n (suc m) = n ∷ spans (n + 1) m

all_lines : (i cores n : ℕ) (ls : List Line) (asked : List (Option Request)) → 0 < cores → Ask n ls asked → times (refused n asked) i + gathered i cores 0 cores asked ≡ times (spans n (length ls)) i
unfolding spans
all_lines i cores n [] [] some a = omega (arith, gathered_empty i cores 0 cores)
all_lines i cores n [] (what ∷ asked) some a = absurd a
all_lines i cores n (line ∷ ls) [] some a = absurd a
all_lines i cores n (line ∷ ls) (None ∷ asked) some a =
    let none = gathered_none i cores 0 cores asked in
    let more = all_lines i cores (n + 1) ls asked some a.1 in
    omega (arith, none, more)
all_lines i cores n (line ∷ ls) (Some r ∷ asked) some a =
    let is : once_if (r.number == i) ≡ once_if (n == i) = ap (λ k. once_if (k == i)) a.0.1.0 in
    let below : core_of r.key cores < cores = mod_below _ cores some in
    let one = gathered_here i cores 0 cores r asked (core_of r.key cores == 0) refl (omega arith) (omega arith) in
    let more = all_lines i cores (n + 1) ls asked some a.1 in
    omega (arith, is, one, more)

once_at : (n i : ℕ) (b : Bool) → (n == i) ≡ b → n ≡ i → once_if (n == i) ≡ 1
once_at n i true is same = rw is refl
once_at n i false is same = absurd (grind (arith, nat_tests))

none_at : (n i : ℕ) (b : Bool) → (n == i) ≡ b → n ≢ i → once_if (n == i) ≡ 0
none_at n i false is apart = rw is refl
none_at n i true is apart = absurd (apart (grind (arith, nat_tests)))

spans_out : (i n m : ℕ) → (i < n) ⊎ (n + m ≤ i) → times (spans n m) i ≡ 0
unfolding spans
spans_out i n zero out = refl
spans_out i n (suc m) (inl lt) = omega (arith, none_at n i (n == i) refl (λ e. absurd (omega arith)), spans_out i (n + 1) m (inl (omega arith)))
spans_out i n (suc m) (inr le) = omega (arith, none_at n i (n == i) refl (λ e. absurd (omega arith)), spans_out i (n + 1) m (inr (omega arith)))

spans_in : (i n m : ℕ) (b : Bool) → (n == i) ≡ b → n ≤ i → i < n + m → times (spans n m) i ≡ 1
unfolding spans
spans_in i n zero b is from to = absurd (omega arith)
spans_in i n (suc m) true is from to =
    let at : n ≡ i = grind (arith, nat_tests) in
    omega (arith, once_at n i true is at, spans_out i (n + 1) m (inl (omega arith)))
spans_in i n (suc m) false is from to =
    let apart : n ≢ i = λ e. grind (arith, nat_tests) in
    omega (arith, none_at n i false is apart, spans_in i (n + 1) m (n + 1 == i) refl (omega arith) (omega arith))

-- ---- all answers

answers_count : (cores : ℕ) (sizes : Sizes) (input output : List ℕ) → 0 < cores → (s : ServesAll cores sizes input output) → (i : ℕ) → times (map number_of s.answers) i ≡ times (spans 1 (length (lines input))) i
answers_count cores sizes input output some s i =
    let whole = weighs (is_of i) (refusals_of (refused 1 s.asked) ∷ s.each) s.answers s.interleave in
    let each = each_counts i cores sizes s.asked 0 s.each s.runs in
    let as_many : length s.each ≡ cores = let c = each.1 in omega arith in
    let gave : weigh (weigh (is_of i)) s.each ≡ gathered i cores 0 cores s.asked = each.0 ∙ ap (λ m. gathered i cores 0 m s.asked) as_many in
    let none = weigh_refusals i (refused 1 s.asked) in
    let all = all_lines i cores 1 (lines input) s.asked some s.asks in
    times_weigh i s.answers ∙ whole ∙ ap (λ w. w + weigh (weigh (is_of i)) s.each) none ∙ ap (λ w. times (refused 1 s.asked) i + w) gave ∙ all

pub each_line_once : AnswersEachLineOnce
each_line_once cores sizes input output some s i =
    let n = length (lines input) in
    let count = answers_count cores sizes input output some s i in (
      (λ from to. count ∙ spans_in i 1 n (1 == i) refl (omega arith) (omega arith)),
      (λ none. count ∙ spans_out i 1 n (inl (omega arith))),
      (λ beyond. count ∙ spans_out i 1 n (inr (omega arith))),
    )
