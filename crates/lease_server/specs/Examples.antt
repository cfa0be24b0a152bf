-- Examples: what the lines of an input ask, which core gets it, and which lines are refused.
use Rattle.std.specs.Prelude.{◌≡◌, ◌+◌, ℕ, zero, suc, List, [], ◌∷◌, ◌++◌, map, length, Option, Some, None, codes}
use Rattle.std.specs.List.{flat_map}
use Rattle.mono_text.specs.Lines.{lines}
use Rattle.lease_core.specs.declared.requests.Call.{Call}
use Rattle.lease_core.specs.declared.requests.Call.TheVariants as call
use Rattle.lease_core.specs.declared.requests.Request.{Request}
use Rattle.lease_core.specs.declared.requests.Reply.{Reply}
use Rattle.lease_core.specs.declared.requests.Outcome.TheVariants as outcome
use Rattle.lease_core.specs.declared.sizes.Sizes.{Sizes}
use Rattle.lease_core.specs.Cores.{new_core, at_once}
use Rattle.lease_core.specs.Steps.{counts_of}
use Rattle.lease_lines.specs.Lines.{call_text}
use Rattle.lease_server.specs.Routing.{Ask, routed, all_routed, refused}
use Rattle.lease_server.specs.Answers.{answer_lines, refusals_of}
use Rattle.lease_server.specs.EndToEnd.{ServesAll, ServesPart, HasBegunOutput}
use Rattle.lease_server.specs.declared.answers.Answer.{Answer}
use Rattle.lease_server.specs.declared.answers.Answer.TheVariants.{Bad, By}

abbrev pub spawn : ℕ → ℕ → Request
spawn number key = record { number = number; key = key; call = call.Spawn }

abbrev pub opened : Request
opened = record { number = 1; key = 4; call = call.Open 9 }

-- Four lines, of which the second spells no request, and a last one without a line feed.
abbrev pub small_input : List ℕ
small_input = codes "open 4 9" ++ 10 ∷ (codes "bad" ++ 10 ∷ (codes "spawn 3" ++ 10 ∷ (codes "spawn 5" ++ 10 ∷ codes "spawn 4")))

abbrev pub small_asked : List (Option Request)
small_asked = Some opened ∷ None ∷ Some (spawn 3 3) ∷ Some (spawn 4 5) ∷ None ∷ []

-- Each line that spells a request asks it, by the line's number.
abbrev pub SmallAsks : Type 0
SmallAsks = Ask 1 (lines small_input) small_asked

-- Of two cores, key 3 is of core 0, and keys 4 and 5 are of core 1. The two other lines are refused by their numbers.
abbrev pub SmallRoutes : Type 0
SmallRoutes = (all_routed 2 small_asked ≡ (spawn 3 3 ∷ []) ∷ (opened ∷ spawn 4 5 ∷ []) ∷ []) × (answer_lines (refusals_of (refused 1 small_asked)) ≡ codes "2 bad" ++ 10 ∷ (codes "5 bad" ++ 10 ∷ []))

abbrev pub two_lines : List ℕ
two_lines = codes "spawn 4" ++ 10 ∷ (codes "spawn 5" ++ 10 ∷ [])

-- Two lines do not ask this: their requests swapped, one number for both, the first request alone, or a refusal of the first.
-- A line without a line feed asks no request.
abbrev pub AsksNot : Type 0
AsksNot =
    (Ask 1 (lines two_lines) (Some (spawn 1 5) ∷ Some (spawn 2 4) ∷ []) → ⊥) × (Ask 1 (lines two_lines) (Some (spawn 1 4) ∷ Some (spawn 1 5) ∷ []) → ⊥)
    × (Ask 1 (lines two_lines) (Some (spawn 1 4) ∷ []) → ⊥) × (Ask 1 (lines two_lines) (None ∷ Some (spawn 2 5) ∷ []) → ⊥)
    × (Ask 1 (lines (codes "spawn 4")) (Some (spawn 1 4) ∷ []) → ⊥)

-- Core 1 does not get its requests in another order, nor core 0 those of core 1.
abbrev pub RoutesNot : Type 0
RoutesNot = (routed 1 2 small_asked ≡ spawn 4 5 ∷ opened ∷ [] → ⊥) × (routed 0 2 small_asked ≡ opened ∷ spawn 4 5 ∷ [] → ⊥)

-- So many requests, from this number on, with the same keys.
abbrev pub many : ℕ → ℕ → List Request
many n zero = []
many n (suc m) = spawn n n ∷ many (n + 1) m

abbrev pub request_lines : List Request → List ℕ
request_lines requests = flat_map (λ (r : Request). call_text r.key r.call ++ 10 ∷ []) requests

-- A thousand lines ask their requests. Each of four cores gets about a quarter of them.
abbrev pub ManyAsk : Type 0
ManyAsk = Ask 1 (lines (request_lines (many 1 1000))) (map Some (many 1 1000)) × (map length (all_routed 4 (map Some (many 1 1000))) ≡ 249 ∷ 251 ∷ 250 ∷ 250 ∷ [])

-- Three lines, of which the second asks for the counts of its core, and the others spell no request.
abbrev pub three_lines : List ℕ
three_lines = codes "bad" ++ 10 ∷ (codes "stats 4" ++ 10 ∷ (codes "bad" ++ 10 ∷ []))

-- The reply of a new core to line 2.
abbrev pub counted : Sizes → Reply
counted sizes = at_once (new_core sizes) 2 (outcome.Counted (counts_of (new_core sizes)))

-- Three lines are served in part before anything was answered, if line 2 alone was answered, and if line 1 was refused after it.
abbrev pub ServesInPart : Type 0
ServesInPart = (sizes : Sizes) → ServesPart 1 sizes three_lines [] × ServesPart 1 sizes three_lines (By 0 (counted sizes) ∷ []) × ServesPart 1 sizes three_lines (By 0 (counted sizes) ∷ Bad 1 ∷ [])

-- They are not served in part if line 3 was refused and line 1 was not.
abbrev pub ServesNotInPart : Type 0
ServesNotInPart = (sizes : Sizes) → ServesPart 1 sizes three_lines (Bad 3 ∷ []) → ⊥

-- An output that serves all of three lines begins with the reply to line 2.
abbrev pub BeginsAnOutput : Type 0
BeginsAnOutput = (sizes : Sizes) → HasBegunOutput 1 sizes (Some three_lines) (Some []) (Some (answer_lines (By 0 (counted sizes) ∷ [])))

-- No output that serves them begins with the refusal of line 3.
abbrev pub BeginsNoOutput : Type 0
BeginsNoOutput = (sizes : Sizes) (output : List ℕ) (rest : List Answer) (s : ServesAll 1 sizes three_lines output) → s.answers ≡ Bad 3 ∷ rest → ⊥
