-- From what serves an input in part to an output that serves the whole input.
use Rattle.std.proofs.Common.{◌≡◌, ◌+◌, ◌≤◌, ◌-◌, ◌==◌, inl, inr, zero, suc, if◌then◌else◌, ℕ, Bool, true, false, List, [], ◌∷◌, ◌++◌, length, take, Option, Some, None, refl, sym, ap, subst, ◌∙◌, append_assoc, arith}
use Rattle.std.proofs.lemmas.List.{append-nil, map-append, take-append-le, length-append}
use Rattle.std.proofs.lemmas.List.Concat.{flat_map-append}
use Rattle.mono_text.specs.Lines.{Line, lines}
use Rattle.mono_text.specs.Environment.{HasRead, HasWritten, HasWrittenPrefix}
use Rattle.mono_channel.specs.Beginnings.{AreBeginnings}
use Rattle.mono_channel.specs.Delivery.{Interleaves}
use Rattle.lease_core.specs.declared.requests.Request.{Request}
use Rattle.lease_core.specs.declared.requests.Reply.{Reply}
use Rattle.lease_core.specs.declared.sizes.Sizes.{Sizes}
use Rattle.lease_core.specs.Cores.{new_core}
use Rattle.lease_core.specs.Laws.{AreReadings}
use Rattle.lease_core.specs.Routes.{core_of}
use Rattle.lease_core.specs.Steps.{Finish, Run}
use Rattle.lease_core.proofs.ContinueLemmas.{runs_continue}
use Rattle.lease_lines.specs.declared.calls.KeyCall.{KeyCall}
use Rattle.lease_lines.specs.Lines.{whole}
use Rattle.lease_lines.specs.Parser.{call_at}
use Rattle.lease_lines.proofs.SpellingLemmas.{found_line, none_line}
use Rattle.lease_server.specs.Answers.{answer_line, answer_lines, by_core, refusals_of}
use Rattle.lease_server.specs.Routing.{Asks, Ask, EndsLines, routed, refused}
use Rattle.lease_server.specs.Served.{handled}
use Rattle.lease_server.specs.EndToEnd.{requests_in, RunsThrough, RunsPart, EachRuns, EachRunsPart, ServesAll, ServesPart, HasTakenLines, HasServedPart, HasBegunOutput, IsInput}
use Rattle.lease_server.specs.declared.answers.Answer.{Answer}
use Rattle.lease_server.specs.declared.answers.Answer.TheVariants.{Bad}
use Rattle.lease_server.proofs.ServedLemmas.{answers_on, requests_on, requests_handled}
use Rattle.lease_server.proofs.ExtendLemmas.{extends, nones, pads}

-- ---- what more lines ask

if_more : {A : Type 0} (b : Bool) (x : A) (xs ys : List A) → (if b then x ∷ (xs ++ ys) else (xs ++ ys)) ≡ (if b then x ∷ xs else xs) ++ ys
if_more true x xs ys = refl
if_more false x xs ys = refl

routed_on : (k cores : ℕ) (xs ys : List (Option Request)) → routed k cores (xs ++ ys) ≡ routed k cores xs ++ routed k cores ys
routed_on k cores [] ys = refl
routed_on k cores (None ∷ xs) ys = routed_on k cores xs ys
routed_on k cores (Some request ∷ xs) ys =
    ap (λ l. if core_of request.key cores == k then request ∷ l else l) (routed_on k cores xs ys) ∙ if_more (core_of request.key cores == k) request (routed k cores xs) (routed k cores ys)

one_more : (n : ℕ) (what : Option Request) (xs : List (Option Request)) → n + 1 + length xs ≡ n + length (what ∷ xs)
one_more n what xs = omega arith

refused_on : (n : ℕ) (xs ys : List (Option Request)) → refused n (xs ++ ys) ≡ refused n xs ++ refused (n + length xs) ys
refused_on n [] ys = ap (λ m. refused m ys) (omega arith)
refused_on n (None ∷ xs) ys = ap (λ l. n ∷ l) (refused_on (n + 1) xs ys ∙ ap (λ m. refused (n + 1) xs ++ refused m ys) (one_more n None xs))
refused_on n (Some request ∷ xs) ys = refused_on (n + 1) xs ys ∙ ap (λ m. refused (n + 1) xs ++ refused m ys) (one_more n (Some request) xs)

ask_on : (n : ℕ) (ls ms : List Line) (xs ys : List (Option Request)) → Ask n ls xs → Ask (n + length xs) ms ys → Ask n (ls ++ ms) (xs ++ ys)
ask_on n [] ms [] ys one two = let same : n + 0 ≡ n = omega arith in subst (λ k. Ask k ms ys) same two
ask_on n [] ms (x ∷ xs) ys one two = absurd one
ask_on n (l ∷ ls) ms [] ys one two = absurd one
ask_on n (l ∷ ls) ms (x ∷ xs) ys one two =
    let same : n + length (x ∷ xs) ≡ n + 1 + length xs = omega arith in
    (one.0, ask_on (n + 1) ls ms xs ys one.1 (subst (λ k. Ask k ms ys) same two))

-- each line asks a request or nothing
asks_by : (n : ℕ) (line : Line) (is_ended : Bool) → line.is_ended ≡ is_ended → (found : Option KeyCall) → found ≡ whole (call_at line.bytes) → (what : Option Request) × Asks n line what
asks_by n line false is found e = (None, λ ended. absurd (never (sym is ∙ ended)))
  where
    never : false ≡ true → ⊥
    never e = cc
asks_by n line true is None e = (None, λ ended. none_line line.bytes e)
asks_by n line true is (Some found) e = (Some (record { number = n; key = found.key; call = found.call }), (is, (refl, found_line line.bytes found e)))

asks_all : (n : ℕ) (ls : List Line) → (asked : List (Option Request)) × Ask n ls asked
asks_all n [] = ([], tt)
asks_all n (line ∷ ls) =
    let one = asks_by n line line.is_ended refl (whole (call_at line.bytes)) refl in
    let more = asks_all (n + 1) ls in
    (one.0 ∷ more.0, (one.1, more.1))

-- what all lines of the input ask begins with what the lines asked that were taken
abbrev AsksWhole : Option (List ℕ) → List (Option Request) → Type 0
AsksWhole left asked = (input : List ℕ) × (more : List (Option Request)) × IsInput left input × Ask 1 (lines input) (asked ++ more)

asks_same : (input : List ℕ) (asked : List (Option Request)) → Ask 1 (lines input) asked → Ask 1 (lines input) (asked ++ [])
asks_same input asked asks = subst (λ a. Ask 1 (lines input) a) (sym (append-nil asked)) asks

asks_whole : (left rest : Option (List ℕ)) (input : List ℕ) (asked : List (Option Request)) → HasTakenLines left input rest → Ask 1 (lines input) asked → AsksWhole left asked
asks_whole None rest input asked taken asks = (input, [], tt, asks_same input asked asks)
asks_whole (Some left) rest input asked (inl all) asks = (input, [], sym all.0, asks_same input asked asks)
asks_whole (Some left) None input asked (inr part) asks = absurd part.1
asks_whole (Some left) (Some now) input asked (inr part) asks =
    let later = part.0 ++ now in
    let is : left ≡ input ++ later = part.1 ∙ append_assoc input part.0 now in
    let more = asks_all (1 + length asked) (lines later) in
    (left, more.0, refl, subst (λ l. Ask 1 l (asked ++ more.0)) (sym (ap lines is ∙ part.2 later)) (ask_on 1 (lines input) (lines later) asked more.0 asks more.1))

-- ---- each core's run goes on to the end of its requests

-- requests show no readings
are_readings : (requests : List Request) → AreReadings (handled requests ++ Finish ∷ [])
are_readings [] = tt
are_readings (request ∷ requests) = are_readings requests

completes : (number : ℕ) (sizes : Sizes) (requests : List Request) (said : List Answer) → RunsPart number sizes requests said → (extra : List Request)
    → (replies : List Reply) × RunsThrough sizes (requests ++ extra) replies × (rest : List Answer) × (said ++ rest ≡ by_core number replies)
completes number sizes requests said r extra =
    let later = r.unasked ++ extra in
    let more = runs_continue sizes r.events (handled later ++ Finish ∷ []) r.replies r.last (are_readings later) r.run in (
      r.replies ++ more.0,
      record {
        before = r.events ++ handled later;
        last = more.1;
        run = subst (λ e. Run (new_core sizes) e (r.replies ++ more.0) more.1) (sym (append_assoc r.events (handled later) (Finish ∷ []))) more.2;
        asked = requests_on r.events (handled later) ∙ ap (λ l. requests_in r.events ++ l) (requests_handled later) ∙ sym (append_assoc (requests_in r.events) r.unasked extra) ∙ ap (λ l. l ++ extra) (sym r.asked);
      },
      r.unsaid ++ by_core number more.0,
      sym (append_assoc said r.unsaid (by_core number more.0)) ∙ ap (λ l. l ++ by_core number more.0) (sym r.answered) ∙ sym (answers_on number r.replies more.0),
    )

-- a core that was not started has answered nothing
runs_none : (number : ℕ) (sizes : Sizes) (requests : List Request) → RunsPart number sizes requests []
runs_none number sizes requests = record { events = []; replies = []; last = new_core sizes; run = (refl, refl); unasked = requests; asked = refl; unsaid = []; answered = refl }

module _ (cores : ℕ) (sizes : Sizes) (asked more : List (Option Request)) where
  abbrev Complete : ℕ → List (List Answer) → List (List Answer) → Type 0
  Complete k each all = EachRuns k cores sizes (asked ++ more) all × AreBeginnings each all

  complete_one : (k : ℕ) (said : List Answer) (each all : List (List Answer)) → RunsPart k sizes (routed k cores asked) said → Complete (k + 1) each all → (whole : List Answer) × Complete k (said ∷ each) (whole ∷ all)
  complete_one k said each all part others =
      let c = completes k sizes (routed k cores asked) said part (routed k cores more) in
      let runs : RunsThrough sizes (routed k cores (asked ++ more)) c.0 = subst (λ l. RunsThrough sizes l c.0) (sym (routed_on k cores asked more)) c.1 in
      (by_core k c.0, (((c.0, runs, refl), others.0), ((c.2, c.3), others.1)))

  complete_none : (d k : ℕ) → k + d ≡ cores → (all : List (List Answer)) × Complete k (nones d) all
  complete_none zero k is = ([], (omega (arith, is), tt))
  complete_none (suc d) k is =
      let rest = complete_none d (k + 1) (omega (arith, is)) in
      let one = complete_one k [] (nones d) rest.0 (runs_none k sizes (routed k cores asked)) rest.1 in
      (one.0 ∷ rest.0, one.1)

  complete_each : (k : ℕ) (each : List (List Answer)) → EachRunsPart k cores sizes asked each → (d : ℕ) × (all : List (List Answer)) × Complete k (each ++ nones d) all
  complete_each k [] most =
      let le : k ≤ cores = most in
      let rest = complete_none (cores - k) k (omega (arith, le)) in
      (cores - k, rest.0, rest.1)
  complete_each k (said ∷ others) runs =
      let rest = complete_each (k + 1) others runs.1 in
      let one = complete_one k said (others ++ nones rest.0) rest.1 runs.0 rest.2 in
      (rest.0, one.0 ∷ rest.1, one.1)

  refusals_more : (refusals unsaid : List Answer) → refusals_of (refused 1 asked) ≡ refusals ++ unsaid
      → refusals ++ (unsaid ++ refusals_of (refused (1 + length asked) more)) ≡ refusals_of (refused 1 (asked ++ more))
  refusals_more refusals unsaid is =
      let others = refusals_of (refused (1 + length asked) more) in
      sym (append_assoc refusals unsaid others) ∙ ap (λ l. l ++ others) (sym is) ∙ sym (map-append (λ (n : ℕ). Bad n) (refused 1 asked) (refused (1 + length asked) more)) ∙ ap refusals_of (sym (refused_on 1 asked more))

serves_whole : (cores : ℕ) (sizes : Sizes) (part input : List ℕ) (answers : List Answer) (more : List (Option Request)) (s : ServesPart cores sizes part answers) → Ask 1 (lines input) (s.asked ++ more)
    → (later : List Answer) × ServesAll cores sizes input (answer_lines (answers ++ later))
serves_whole cores sizes part input answers more s asks =
    let c = complete_each cores sizes s.asked more 0 s.each s.runs in
    let all = refusals_of (refused 1 (s.asked ++ more)) in
    let i : Interleaves (s.refusals ∷ (s.each ++ nones c.0)) answers = pads c.0 (s.refusals ∷ s.each) answers s.interleave in
    let begun : AreBeginnings (s.refusals ∷ (s.each ++ nones c.0)) (all ∷ c.1) = ((s.unsaid ++ refusals_of (refused (1 + length s.asked) more), refusals_more cores sizes s.asked more s.refusals s.unsaid s.refuses), c.2.1) in
    let e = extends (s.refusals ∷ (s.each ++ nones c.0)) (all ∷ c.1) answers i begun in
    (e.0, record { asked = s.asked ++ more; asks = asks; each = c.1; runs = c.2.0; answers = answers ++ e.0; interleave = e.1; written = refl })

-- ---- the bytes

written_more : (before after : Option (List ℕ)) (bytes more : List ℕ) → HasWrittenPrefix before after bytes → HasWrittenPrefix before after (bytes ++ more)
written_more before after bytes more (n, le, written) =
    (n, omega (arith, le, length-append bytes more), subst (λ b. HasWritten before after b) (sym (take-append-le n bytes more le)) written)

-- what serves the input in part is a beginning of an output that serves all of it
pub whole_output : (cores : ℕ) (sizes : Sizes) (left rest before after : Option (List ℕ)) → HasServedPart cores sizes left rest before after → HasBegunOutput cores sizes left before after
whole_output cores sizes left rest before after (part, answers, taken, written, serves) =
    let a = asks_whole left rest part serves.asked taken serves.asks in
    let s = serves_whole cores sizes part a.0 answers a.1 serves a.3 in
    let text : answer_lines (answers ++ s.0) ≡ answer_lines answers ++ answer_lines s.0 = flat_map-append answer_line answers s.0 in
    (a.0, answer_lines (answers ++ s.0), a.2, subst (λ b. HasWrittenPrefix before after b) (sym text) (written_more before after (answer_lines answers) (answer_lines s.0) written), s.1)
