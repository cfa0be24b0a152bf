-- The lines of replies, one reply after another.
use Rattle.std.proofs.Common.{◌≡◌, ◌+◌, ◌<◌, ◌≤◌, ℕ, List, [], ◌∷◌, ◌++◌, length, drop, get_or, ap, sym, ◌∙◌, append_assoc}
use Rattle.std.proofs.lemmas.List.{append-nil, drop_more, drop_all}
use Rattle.lease_core.specs.declared.requests.Reply.{Reply}
use Rattle.lease_lines.specs.Replies.{reply_text, reply_lines}

pub more_lines : (core i : ℕ) (rs : List Reply) (d : Reply) (before after all : List ℕ) → i < length rs → after ≡ before ++ reply_text core (get_or rs i d) ++ 10 ∷ []
    → before ++ reply_lines core (drop i rs) ≡ all → after ++ reply_lines core (drop (i + 1) rs) ≡ all
more_lines core i rs d before after all lt put so_far =
    let text = reply_text core (get_or rs i d) in
    let rest = reply_lines core (drop (i + 1) rs) in
    ap (λ xs. xs ++ rest) (put ∙ append_assoc before text (10 ∷ [])) ∙ append_assoc before (text ++ 10 ∷ []) rest ∙ ap (λ xs. before ++ reply_lines core xs) (sym (drop_more rs i d lt)) ∙ so_far

pub none_left : (core i : ℕ) (rs : List Reply) (before all : List ℕ) → length rs ≤ i → before ++ reply_lines core (drop i rs) ≡ all → before ≡ all
none_left core i rs before all le so_far = sym (append-nil before) ∙ ap (λ xs. before ++ reply_lines core xs) (sym (drop_all i rs le)) ∙ so_far
