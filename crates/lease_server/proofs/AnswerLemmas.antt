-- The lines of answers, one list after another.
use Rattle.std.proofs.Common.{◌≡◌, ℕ, List, [], ◌∷◌, ◌++◌, map, length, suc, arith, refl, sym, ap, ◌∙◌}
use Rattle.std.specs.List.{flat_map}
use Rattle.std.proofs.lemmas.Grind.{flat_map-append}
use Rattle.std.proofs.lemmas.List.{flat_map_more, map-append}
use Rattle.lease_lines.specs.Replies.{reply_text, reply_lines, bad_text}
use Rattle.lease_core.specs.declared.requests.Reply.{Reply}
use Rattle.lease_server.specs.declared.answers.Answer.{Answer}
use Rattle.lease_server.specs.declared.answers.Answer.TheVariants.{Bad, By}
use Rattle.lease_server.specs.Answers.{answer_line, answer_lines, by_core, refusals_of, all_of}

-- lines that are not empty before a list are not the empty list
some : {A : Type 0} (xs : List A) (x : A) (ys : List A) → (xs ++ x ∷ []) ++ ys ≡ [] → ⊥
some [] x ys e =
    let none : suc (length ys) ≡ 0 = ap length e in
    absurd (omega arith)
some (z ∷ xs) x ys e =
    let none : suc (length ((xs ++ x ∷ []) ++ ys)) ≡ 0 = ap length e in
    absurd (omega arith)

-- Answers without a line are none.
pub none_said : (answers : List Answer) → answer_lines answers ≡ [] → answers ≡ []
none_said [] e = refl
none_said (Bad n ∷ answers) e = absurd (some (bad_text n) 10 (answer_lines answers) e)
none_said (By core reply ∷ answers) e = absurd (some (reply_text core reply) 10 (answer_lines answers) e)

-- The lines of a core's replies are those of its answers.
pub lines_by : (core : ℕ) (replies : List Reply) → answer_lines (by_core core replies) ≡ reply_lines core replies
lines_by core [] = refl
lines_by core (reply ∷ replies) = ap (λ l. (reply_text core reply ++ 10 ∷ []) ++ l) (lines_by core replies)

-- One more list of answers.
pub all_more : (lists : List (List Answer)) (more : List Answer) → all_of (lists ++ more ∷ []) ≡ all_of lists ++ more
all_more lists more = sym (flat_map_more (λ (answers : List Answer). answers) [] lists more)

pub lines_more : (lists : List (List Answer)) (more : List Answer) → answer_lines (all_of (lists ++ more ∷ [])) ≡ answer_lines (all_of lists) ++ answer_lines more
lines_more lists more = ap answer_lines (all_more lists more) ∙ flat_map-append answer_line (all_of lists) more

-- The lines of a core's replies were appended to a text.
pub appended : (lists : List (List Answer)) (core : ℕ) (replies : List Reply) (bytes new : List ℕ) (said : List (List Answer)) → bytes ≡ answer_lines (all_of lists) → new ≡ bytes ++ reply_lines core replies
    → said ≡ lists ++ by_core core replies ∷ [] → new ≡ answer_lines (all_of said)
appended lists core replies bytes new said lines put told =
    put ∙ ap (λ l. l ++ reply_lines core replies) lines ∙ ap (λ l. answer_lines (all_of lists) ++ l) (sym (lines_by core replies)) ∙ sym (lines_more lists (by_core core replies))
    ∙ ap (λ l. answer_lines (all_of l)) (sym told)

-- The refusals of the lines of some numbers, and of others.
pub refusals_join : (xs ys : List ℕ) → refusals_of (xs ++ ys) ≡ refusals_of xs ++ refusals_of ys
refusals_join xs ys = map-append (λ (n : ℕ). Bad n) xs ys
