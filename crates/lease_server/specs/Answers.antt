-- The answers to the lines of an input, and their lines.
use Rattle.std.specs.Prelude.{ℕ, List, [], ◌∷◌, ◌++◌, map}
use Rattle.std.specs.List.{flat_map}
use Rattle.lease_core.specs.declared.requests.Reply.{Reply}
use Rattle.lease_lines.specs.Replies.{reply_text, bad_text}
use Rattle.lease_server.specs.declared.answers.Answer.{Answer}
use Rattle.lease_server.specs.declared.answers.Answer.TheVariants.{Bad, By}

-- The line of an answer, with its line feed.
abbrev pub answer_line : Answer → List ℕ
answer_line (Bad n) = bad_text n ++ 10 ∷ []
answer_line (By core reply) = reply_text core reply ++ 10 ∷ []

-- The lines of answers, in order.
abbrev pub answer_lines : List Answer → List ℕ
answer_lines answers = flat_map answer_line answers

-- The number of the line that it answers.
abbrev pub number_of : Answer → ℕ
number_of (Bad n) = n
number_of (By core reply) = reply.number

-- The answers that these replies of a core are.
abbrev pub by_core : ℕ → List Reply → List Answer
by_core core replies = map (λ (reply : Reply). By core reply) replies

-- The answers that refuse the lines of these numbers.
abbrev pub refusals_of : List ℕ → List Answer
refusals_of numbers = map (λ (n : ℕ). Bad n) numbers

-- The answers of these lists, in order.
abbrev pub all_of : List (List Answer) → List Answer
all_of lists = flat_map (λ answers. answers) lists
