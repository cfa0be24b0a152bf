-- In which order the answers of one core stand in the output.
use Rattle.std.specs.Prelude.{◌≡◌, ◌==◌, ◌<◌, ℕ, if◌then◌else◌, List, [], ◌∷◌, Option, Some, None}
use Rattle.std.specs.List.{flat_map}
use Rattle.lease_core.specs.declared.requests.Request.{Request}
use Rattle.lease_core.specs.declared.requests.Reply.{Reply}
use Rattle.lease_core.specs.declared.sizes.Sizes.{Sizes}
use Rattle.lease_core.specs.Routes.{core_of}
use Rattle.lease_server.specs.Answers.{by_core}
use Rattle.lease_server.specs.Routing.{routed}
use Rattle.lease_server.specs.EndToEnd.{RunsThrough, ServesAll}
use Rattle.lease_server.specs.declared.answers.Answer.{Answer}
use Rattle.lease_server.specs.declared.answers.Answer.TheVariants.{Bad, By}

-- The answer, if it is by core k.
abbrev pub if_by : ℕ → Answer → List Answer
if_by k (Bad n) = []
if_by k (By core reply) = if core == k then By core reply ∷ [] else []

-- The answers by core k, in order.
abbrev pub answers_by : ℕ → List Answer → List Answer
answers_by k answers = flat_map (if_by k) answers

-- All requests that the lines ask, in order.
abbrev pub all_asked : List (Option Request) → List Request
all_asked [] = []
all_asked (None ∷ asked) = all_asked asked
all_asked (Some request ∷ asked) = request ∷ all_asked asked

-- The requests about this key, in order.
abbrev pub about : ℕ → List Request → List Request
about key [] = []
about key (request ∷ requests) = if request.key == key then request ∷ about key requests else about key requests

-- What is sent about one key is answered in the order of one core. This core gets all requests about the key, in order, and
-- answers them by one run. Its answers stand in the output in the order of the run, whatever the threads did between them.
abbrev pub OneCoreAnswers : Type 0
OneCoreAnswers = (cores : ℕ) (sizes : Sizes) (input output : List ℕ) → 0 < cores → (s : ServesAll cores sizes input output) → (key : ℕ)
    → (replies : List Reply) × RunsThrough sizes (routed (core_of key cores) cores s.asked) replies × (about key (routed (core_of key cores) cores s.asked) ≡ about key (all_asked s.asked))
    × (answers_by (core_of key cores) s.answers ≡ by_core (core_of key cores) replies)
