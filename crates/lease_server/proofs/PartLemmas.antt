-- Examples of what serves an input in part, of what begins an output that serves all of it, and of what does not.
use Rattle.std.proofs.Common.{◌≡◌, ◌≢◌, ◌==◌, ◌+◌, ◌<◌, ◌≤◌, ◌⊎◌, inl, inr, if◌then◌else◌, ℕ, Bool, true, false, List, [], ◌∷◌, ◌++◌, map, length, Option, Some, None, codes, refl, sym, ap, subst, ◌∙◌, arith, lit<, get_or}
use Rattle.std.specs.List.{flat_map}
use Rattle.std.proofs.lemmas.Fmt.{decimal_digit}
use Rattle.std.proofs.lemmas.List.{take_all}
use Rattle.std.proofs.lemmas.List.Concat.{flat_map-append}
use Rattle.mono_text.specs.Lines.{lines}
use Rattle.mono_channel.specs.Delivery.{of, Interleaves}
use Rattle.mono_channel.proofs.DeliveryLemmas.{same_is, never}
use Rattle.mono_channel.proofs.Interleaving.{parts_interleaved}
use Rattle.lease_core.specs.declared.requests.Call.{Call}
use Rattle.lease_core.specs.declared.requests.Call.TheVariants as call
use Rattle.lease_core.specs.declared.requests.Request.{Request}
use Rattle.lease_core.specs.declared.requests.Reply.{Reply}
use Rattle.lease_core.specs.declared.sizes.Sizes.{Sizes}
use Rattle.lease_core.specs.Cores.{new_core}
use Rattle.lease_core.specs.Steps.{Handle}
use Rattle.lease_lines.specs.Lines.{call_text}
use Rattle.lease_server.specs.Answers.{answer_lines, number_of, by_core, refusals_of}
use Rattle.lease_server.specs.Routing.{Ask, refused}
use Rattle.lease_server.specs.EndToEnd.{EachRuns, EachRunsPart, ServesPart}
use Rattle.lease_server.specs.Examples.{three_lines, counted, ServesInPart, ServesNotInPart, BeginsAnOutput, BeginsNoOutput}
use Rattle.lease_server.specs.declared.answers.Answer.{Answer}
use Rattle.lease_server.specs.declared.answers.Answer.TheVariants.{Bad, By}
use Rattle.lease_server.proofs.WholeLemmas.{whole_output}
use Rattle.lease_server.proofs.ExampleLemmas.{bad_spells_none}
use Rattle.lease_server.proofs.OrderLemmas.{AreEmpty, alone_among, other_is}

-- ---- what serves three lines in part

stats_text : codes "stats 4" ≡ call_text 4 call.Count
stats_text = sym (ap (λ (d : List ℕ). codes "stats " ++ d) (decimal_digit 4 (lit< tt)))

abbrev asked_counts : Request
asked_counts = record { number = 2; key = 4; call = call.Count }

three_ask : Ask 1 (lines three_lines) (None ∷ Some asked_counts ∷ None ∷ [])
three_ask = ((λ e. bad_spells_none), ((refl, (refl, stats_text)), ((λ e. bad_spells_none), tt)))

none_else : {T : Type 0} (x y : T) (n : ℕ) → 0 ≢ n → 1 ≢ n → of n ((1, x) ∷ (0, y) ∷ []) ≡ []
none_else x y n zero one = ap (λ (b : Bool). if b then x ∷ of n ((0, y) ∷ []) else of n ((0, y) ∷ [])) (other_is 1 n one) ∙ ap (λ (b : Bool). if b then y ∷ [] else []) (other_is 0 n zero)

none_but : {T : Type 0} (x : T) (n : ℕ) → 1 ≢ n → of n ((1, x) ∷ []) ≡ []
none_but x n one = ap (λ (b : Bool). if b then x ∷ [] else []) (other_is 1 n one)

one_zero : ◌≢◌ {A = ℕ} 1 0
one_zero e = absurd (omega arith)

core_counts : (sizes : Sizes) → EachRunsPart 0 1 sizes (None ∷ Some asked_counts ∷ None ∷ []) ((By 0 (counted sizes) ∷ []) ∷ [])
core_counts sizes = (
  record {
    events = Handle asked_counts ∷ [];
    replies = counted sizes ∷ [];
    last = new_core sizes;
    run = (counted sizes ∷ [], [], new_core sizes, (refl, refl), (refl, refl), refl);
    unasked = [];
    asked = refl;
    unsaid = [];
    answered = refl;
  },
  omega arith,
)

pub serves_in_part : ServesInPart
serves_in_part sizes = (
  record { asked = None ∷ Some asked_counts ∷ None ∷ []; asks = three_ask; refusals = []; unsaid = Bad 1 ∷ Bad 3 ∷ []; refuses = refl; each = []; runs = omega arith; interleave = ([], (0, []) ∷ [], refl, refl, (refl, tt, tt), λ n new. refl) },
  record {
    asked = None ∷ Some asked_counts ∷ None ∷ [];
    asks = three_ask;
    refusals = [];
    unsaid = Bad 1 ∷ Bad 3 ∷ [];
    refuses = refl;
    each = (By 0 (counted sizes) ∷ []) ∷ [];
    runs = core_counts sizes;
    interleave = (
      (1, By 0 (counted sizes)) ∷ [],
      (0, []) ∷ (1, By 0 (counted sizes) ∷ []) ∷ [],
      refl,
      refl,
      (refl, (one_zero, tt), (refl, tt, tt)),
      λ n new. none_but (By 0 (counted sizes)) n new.1.0,
    );
  },
  record {
    asked = None ∷ Some asked_counts ∷ None ∷ [];
    asks = three_ask;
    refusals = Bad 1 ∷ [];
    unsaid = Bad 3 ∷ [];
    refuses = refl;
    each = (By 0 (counted sizes) ∷ []) ∷ [];
    runs = core_counts sizes;
    interleave = (
      (1, By 0 (counted sizes)) ∷ (0, Bad 1) ∷ [],
      (0, Bad 1 ∷ []) ∷ (1, By 0 (counted sizes) ∷ []) ∷ [],
      refl,
      refl,
      (refl, (one_zero, tt), (refl, tt, tt)),
      λ n new. none_else (By 0 (counted sizes)) (Bad 1) n new.0 new.1.0,
    );
  },
)

-- ---- what does not

abbrev second : List ℕ → ℕ
second bytes = get_or bytes 1 0

abbrev first : List ℕ → ℕ
first bytes = get_or bytes 0 0

apart : (m n : ℕ) → m ≡ n → (m == n) ≡ false → ⊥
apart m n is other = never (sym other ∙ ap (λ k. m == k) (sym is) ∙ same_is m)

bad_is_no_call : (key : ℕ) (c : Call) → codes "bad" ≡ call_text key c → ⊥
bad_is_no_call key (call.Open limit) e = apart 97 112 (ap second e) refl
bad_is_no_call key (call.Beat s) e = apart 97 101 (ap second e) refl
bad_is_no_call key (call.Close s) e = apart 97 108 (ap second e) refl
bad_is_no_call key (call.Acquire s) e = apart 97 99 (ap second e) refl
bad_is_no_call key (call.Release s) e = apart 97 101 (ap second e) refl
bad_is_no_call key (call.Try s) e = apart 97 114 (ap second e) refl
bad_is_no_call key call.Owner e = apart 97 119 (ap second e) refl
bad_is_no_call key call.Count e = apart 97 116 (ap second e) refl
bad_is_no_call key (call.Bucket burst period) e = apart 97 117 (ap second e) refl
bad_is_no_call key (call.Take b n) e = apart 98 116 (ap first e) refl
bad_is_no_call key call.Spawn e = apart 97 112 (ap second e) refl
bad_is_no_call key (call.Send from to message) e = apart 97 101 (ap second e) refl
bad_is_no_call key call.Receive e = apart 97 101 (ap second e) refl

first_none : (asked : List (Option Request)) → Ask 1 (lines three_lines) asked → (rest : List (Option Request)) × (asked ≡ None ∷ rest)
first_none [] a = absurd a
first_none (None ∷ rest) a = (rest, refl)
first_none (Some r ∷ rest) a = absurd (bad_is_no_call r.key r.call a.0.1.1)

abbrev bad_of : Answer → List Answer
bad_of (Bad n) = Bad n ∷ []
bad_of (By core reply) = []

no_bads : (k : ℕ) (replies : List Reply) → flat_map bad_of (by_core k replies) ≡ []
no_bads k [] = refl
no_bads k (r ∷ replies) = no_bads k replies

front_empty : (xs ys : List Answer) → xs ++ ys ≡ [] → xs ≡ []
front_empty [] ys e = refl
front_empty (x ∷ xs) ys e = absurd (let n = ap (λ (l : List Answer). length l) e in omega arith)

said_no_bads : (k : ℕ) (replies : List Reply) (said unsaid : List Answer) → by_core k replies ≡ said ++ unsaid → flat_map bad_of said ≡ []
said_no_bads k replies said unsaid is = front_empty (flat_map bad_of said) (flat_map bad_of unsaid) (sym (flat_map-append bad_of said unsaid) ∙ ap (λ l. flat_map bad_of l) (sym is) ∙ no_bads k replies)

no_bads_by : (k : ℕ) (sizes : Sizes) (asked : List (Option Request)) (each : List (List Answer)) → EachRunsPart k 1 sizes asked each → AreEmpty (map (λ l. flat_map bad_of l) each)
no_bads_by k sizes asked [] runs = tt
no_bads_by k sizes asked (said ∷ others) runs = (said_no_bads k runs.0.replies said runs.0.unsaid runs.0.answered, no_bads_by (k + 1) sizes asked others runs.1)

abbrev first_of : List Answer → Answer
first_of [] = Bad 0
first_of (a ∷ answers) = a

refused_first : (r u : List Answer) (ns : List ℕ) → Bad 1 ∷ refusals_of ns ≡ r ++ u → Bad 3 ∷ [] ≡ flat_map bad_of r → ⊥
refused_first [] u ns e same = absurd (let n = ap (λ (l : List Answer). length l) same in omega arith)
refused_first (x ∷ r) u ns e same =
    let is : ◌≡◌ {A = Answer} (Bad 1) x = ap first_of e in
    let n : ◌≡◌ {A = ℕ} 3 1 = ap (λ (l : List Answer). number_of (first_of l)) (same ∙ ap (λ (a : Answer). flat_map bad_of (a ∷ r)) (sym is)) in
    absurd (omega (arith, n))

pub serves_not_in_part : ServesNotInPart
serves_not_in_part sizes s =
    let none = first_none s.asked s.asks in
    let parts = parts_interleaved bad_of (s.refusals ∷ s.each) (Bad 3 ∷ []) s.interleave in
    let same : Bad 3 ∷ [] ≡ flat_map bad_of s.refusals = alone_among (flat_map bad_of s.refusals) (map (λ l. flat_map bad_of l) (s.refusals ∷ s.each)) (Bad 3 ∷ []) (inl (refl, no_bads_by 0 sizes s.asked s.each s.runs)) parts in
    refused_first s.refusals s.unsaid (refused 2 none.0) (ap (λ a. refusals_of (refused 1 a)) (sym none.1) ∙ s.refuses) same

-- ---- what begins an output that serves all lines

pub begins_an_output : BeginsAnOutput
begins_an_output sizes =
    let bytes = answer_lines (By 0 (counted sizes) ∷ []) in
    let le : length bytes ≤ length bytes = omega arith in
    whole_output 1 sizes (Some three_lines) (Some []) (Some []) (Some bytes) (three_lines, By 0 (counted sizes) ∷ [], inl (refl, refl), (length bytes, le, ap Some (sym (take_all (length bytes) bytes le))), (serves_in_part sizes).1)

no_bads_of : (k : ℕ) (sizes : Sizes) (asked : List (Option Request)) (each : List (List Answer)) → EachRuns k 1 sizes asked each → AreEmpty (map (λ l. flat_map bad_of l) each)
no_bads_of k sizes asked [] runs = tt
no_bads_of k sizes asked (answers ∷ others) runs = (ap (λ l. flat_map bad_of l) runs.0.2 ∙ no_bads k runs.0.0, no_bads_of (k + 1) sizes asked others runs.1)

pub begins_no_output : BeginsNoOutput
begins_no_output sizes output rest s is =
    let none = first_none s.asked s.asks in
    let refusals = refusals_of (refused 1 s.asked) in
    let parts = parts_interleaved bad_of (refusals ∷ s.each) s.answers s.interleave in
    let same : flat_map bad_of s.answers ≡ flat_map bad_of refusals = alone_among (flat_map bad_of refusals) (map (λ l. flat_map bad_of l) (refusals ∷ s.each)) (flat_map bad_of s.answers) (inl (refl, no_bads_of 0 sizes s.asked s.each s.runs)) parts in
    let n : ◌≡◌ {A = ℕ} 3 1 =
    ap (λ a. number_of (first_of (flat_map bad_of a))) (sym is) ∙ ap (λ l. number_of (first_of l)) same ∙ ap (λ asked. number_of (first_of (flat_map bad_of (refusals_of (refused 1 asked))))) none.1 in
    absurd (omega (arith, n))
