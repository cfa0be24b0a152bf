-- Laws over any calls of a set of tasks.
use Rattle.std.specs.Prelude.{⊤, is_some}
use Rattle.std.specs.List.{list_any}
use Rattle.std.proofs.Common.{◌≡◌, ◌≢◌, ◌==◌, ◌||◌, ◌<◌, ◌≤◌, ◌+◌, ℕ, zero, suc, Bool, true, false, not, cond, MatchBool, List, [], ◌∷◌, ◌++◌, length, Option, Some, None, refl, sym, ap, ◌∙◌, inl, inr, arith}
use Rattle.std.proofs.lemmas.Bool.{cases_eq, cases_lt, eqb-false, eqb-true, ne_eqb}
use Rattle.std.proofs.lemmas.List.{append-nil, append_assoc, get_or_append_left, get_or_past, get_or-set_other, get_or-set_same, length-append, length-set}
use Rattle.mono_model.specs.Table.{value_at, next_number}
use Rattle.mono_sync.specs.Parts.{nil_first, nil_second}
use Rattle.mono_sync.specs.Runs.{Run}
use Rattle.mono_groups.specs.declared.waiters.Asked.{Asked}
use Rattle.mono_groups.specs.declared.waiters.Asked.TheVariants as asked
use Rattle.mono_groups.specs.declared.waiters.Waiters.{Waiters}
use Rattle.mono_groups.specs.declared.nodes.Token.{Token}
use Rattle.mono_groups.specs.declared.members.Ended.{Ended}
use Rattle.mono_groups.specs.declared.join_set.JoinSet.{JoinSet}
use Rattle.mono_groups.specs.Answers.{Held, is_live, is_ready, len_of, lives}
use Rattle.mono_groups.specs.JoinSetLaws.{AnsweredInOrder, EndsOnce, StaysAborted, AbortOwesAll, NoAnswerLiesIdle, ShutdownLeavesNobody, PendingJoinIsListed, GivenUpJoinIsGone}
use Rattle.mono_groups.specs.JoinSetRuns.{Event, came, ended, taken, Step, got, put, times}
use Rattle.mono_groups.specs.JoinSets.{joining, joiners_in, joiners_owed, listed_by, owed_by, Aborts, Shuts}
use Rattle.mono_groups.specs.Listed.{node_some, waiters_some}
use Rattle.mono_groups.specs.Nodes as node
use Rattle.mono_groups.specs.Waiters.{waits_at, Leaves, Stands}
use Rattle.mono_groups.proofs.LawLemmas.{gone, joined_if, last_waits, waits_if}
use Rattle.mono_groups.proofs.NodeLemmas.{cancelled_all}
use Rattle.mono_groups.proofs.TokenLemmas.{true-false}

false-true : false ≡ true → ⊥
false-true e = cc

other : (j k n : ℕ) → j ≢ k → cond (j == k) 1 0 + n ≡ n
other j k n apart = ap (λ v. cond v 1 0 + n) (ne_eqb j k apart) ∙ omega arith

or_later : (b x y : Bool) → (x ≡ true → y ≡ true) → (b || x) ≡ true → (b || y) ≡ true
or_later true x y f is = refl
or_later false x y f is = f is

any_first : (t : ℕ) (us vs : List ℕ) → list_any (λ u. u == t) us ≡ true → list_any (λ u. u == t) (us ++ vs) ≡ true
any_first t [] vs is = absurd (false-true is)
any_first t (u ∷ us) vs is = or_later (u == t) (list_any (λ v. v == t) us) (list_any (λ v. v == t) (us ++ vs)) (any_first t us vs) is

any_none : (t : ℕ) (us : List ℕ) → us ≡ [] → list_any (λ u. u == t) us ≡ true → ⊥
any_none t us none is = false-true (sym (ap (list_any (λ u. u == t)) none) ∙ is)

no_member : (x : Token) (p : List ℕ) (t : ℕ) (v : Bool) → x.is_cancelled ≡ v → node.owed_by x ≡ [] → node.listed_by x p t ≡ true → v ≡ false
no_member x p t true now none is = absurd (any_none t (node.waiting_in x) (sym (cancelled_all x now) ∙ none) (node_some x p t is))
no_member x p t false now none is = refl

no_length : {X : Type 0} (xs : List X) → length xs ≡ 0 → xs ≡ []
no_length [] none = refl
no_length (x ∷ xs) none = absurd (omega (arith, none))

nothing_there : {X : Type 0} (n : ℕ) (xs : List X) (u v : Bool) → (n == 0) ≡ u → (length xs == 0) ≡ v → (u || not v) ≡ false → (xs ≡ []) × (n ≡ 0 → ⊥)
nothing_there n xs true v some is e = absurd (true-false e)
nothing_there n xs false true some is e = (no_length xs (eqb-true (length xs) 0 is), eqb-false n 0 some)
nothing_there n xs false false some is e = absurd (true-false e)

nobody_if : (n m : ℕ) (c : Bool) (v w : Waiters) (ticket : Option ℕ) (me : ℕ) → (n == 0) ≡ c → MatchBool c ((◌≡◌ {A = Asked ⊤} (asked.Got tt) (asked.Got tt)) × Leaves v ticket me w) (Stands {G = ⊤} v ticket me (asked.Got tt) w) → m ≡ n → m + 0 ≡ 0
nobody_if n m true v w ticket me is s same =
    let none : n ≡ 0 = eqb-true n 0 is in
    omega (arith, same, none)
nobody_if n m false v w ticket me is s same = absurd s

module _ {T : Type 0} where
  -- the answers that are there, and those that come, are taken in order
  in_order : (es : List (Event T)) (a b : JoinSet T) → Run Step a es b → a.answers.ended ++ put es ≡ got es ++ b.answers.ended
  in_order [] a b same = append-nil a.answers.ended ∙ sym (ap (λ s. s.answers.ended) same)
  in_order (came ∷ es) a b (m, step, rest) = ap (λ xs. xs ++ put es) (sym (ap (λ h. h.ended) step.1)) ∙ in_order es m b rest
  in_order (ended k x ∷ es) a b (m, step, rest) =
      sym (append_assoc a.answers.ended (record { key = k; answer = x } ∷ []) (put es)) ∙ ap (λ xs. xs ++ put es) (sym (ap (λ h. h.ended) step.1.1)) ∙ in_order es m b rest
  in_order (taken xs ∷ es) a b (m, step, rest) =
      ap (λ ys. ys ++ put es) step.1.0 ∙ append_assoc xs m.answers.ended (put es) ∙ ap (λ ys. xs ++ ys) (in_order es m b rest) ∙ sym (append_assoc xs (got es) b.answers.ended)

  -- a member that has ended ends no more
  none_after : (es : List (Event T)) (a b : JoinSet T) (k : ℕ) → Run Step a es b → k < next_number a.answers.live → is_live a.answers k ≡ false → times k (put es) ≡ 0
  none_after [] a b k same less dead = refl
  none_after (came ∷ es) a b k (m, step, rest) less dead =
      let live = ap (λ h. h.live) step.1 in
      let more : next_number m.answers.live ≡ next_number a.answers.live + 1 = ap length live ∙ length-append a.answers.live (Some tt ∷ []) in
      none_after es m b k rest (omega (arith, less, more)) (ap (λ t. is_some (value_at t k)) live ∙ ap is_some (get_or_append_left a.answers.live (Some tt ∷ []) None k less) ∙ dead)
  none_after (ended j x ∷ es) a b k (m, step, rest) less dead =
      let live = ap (λ h. h.live) step.1.1 in
      let apart : j ≢ k = λ same. true-false (sym step.1.0 ∙ ap (is_live a.answers) same ∙ dead) in
      let same : next_number m.answers.live ≡ next_number a.answers.live = ap length live ∙ length-set a.answers.live j None in
      other j k (times k (put es)) apart
      ∙ none_after es m b k rest (omega (arith, less, same)) (ap (λ t. is_some (value_at t k)) live ∙ ap is_some (get_or-set_other a.answers.live j k None None (λ e. apart (sym e))) ∙ dead)
  none_after (taken xs ∷ es) a b k (m, step, rest) less dead =
      let live = step.1.1 in
      let same : next_number m.answers.live ≡ next_number a.answers.live = ap length live in
      none_after es m b k rest (omega (arith, less, same)) (ap (λ t. is_some (value_at t k)) live ∙ dead)

  issued : (a : Held T) (k : ℕ) → is_live a k ≡ true → k < next_number a.live
  issued a k is = elim (cases_lt k (next_number a.live)) [
    | inl less ↦ less
    | inr more ↦ absurd (false-true (sym (ap is_some (get_or_past a.live k None more)) ∙ is))
  ]

  at_most_one : (es : List (Event T)) (a b : JoinSet T) (k : ℕ) → Run Step a es b → times k (put es) ≤ 1
  at_most_one [] a b k same = omega arith
  at_most_one (came ∷ es) a b k (m, step, rest) = at_most_one es m b k rest
  at_most_one (ended j x ∷ es) a b k (m, step, rest) = elim (cases_eq j k) [
    | inl here ↦
        let live = ap (λ h. h.live) step.1.1 in
        let less : j < next_number a.answers.live = issued a.answers j step.1.0 in
        let same : next_number m.answers.live ≡ next_number a.answers.live = ap length live ∙ length-set a.answers.live j None in
        let dead : is_live m.answers k ≡ false = ap (is_live m.answers) (sym here) ∙ ap (λ t. is_some (value_at t j)) live ∙ ap is_some (get_or-set_same a.answers.live j None None less) in
        let none : times k (put es) ≡ 0 = none_after es m b k rest (omega (arith, less, same, here)) dead in
        one_more (j == k) (times k (put es)) none
    | inr apart ↦
        let more : times k (put es) ≤ 1 = at_most_one es m b k rest in
        let same : cond (j == k) 1 0 + times k (put es) ≡ times k (put es) = other j k (times k (put es)) apart in
        omega (arith, more, same)
  ]
    where
      one_more : (v : Bool) (n : ℕ) → n ≡ 0 → cond v 1 0 + n ≤ 1
      one_more true n none = omega (arith, none)
      one_more false n none = omega (arith, none)
  at_most_one (taken xs ∷ es) a b k (m, step, rest) = at_most_one es m b k rest

  still_aborted : (es : List (Event T)) (a b : JoinSet T) → Run Step a es b → a.abort.is_cancelled ≡ true → b.abort.is_cancelled ≡ true
  still_aborted [] a b same is = ap (λ s. s.abort.is_cancelled) same ∙ is
  still_aborted (e ∷ es) a b (m, step, rest) is = still_aborted es m b rest (step.0 is)

  owes_all : (a b : JoinSet T) (p : List ℕ) (t : ℕ) → Aborts a b → listed_by a (zero ∷ p) t ≡ true → list_any (λ u. u == t) (owed_by b) ≡ true
  owes_all a b p t s is = any_first t (node.owed_by b.abort) (joiners_owed (joining b))
      (ap (list_any (λ u. u == t)) (cancelled_all b.abort (ap (λ x. x.is_cancelled) s.0) ∙ ap node.waiting_in s.0) ∙ node_some a.abort p t is)

  not_ready : (a : JoinSet T) (v : Bool) → is_ready a.answers ≡ v → joiners_owed (joining a) ≡ [] → (p : List ℕ) (t : ℕ) → listed_by a (suc zero ∷ p) t ≡ true → v ≡ false
  not_ready a true now none p t is = absurd (any_none t (joiners_in (joining a)) (sym (ap (λ v. cond v (joiners_in (joining a)) []) now) ∙ none) (waiters_some a.joiners.entries.items p t is))
  not_ready a false now none p t is = refl

  idle : (a : JoinSet T) (p : List ℕ) (t : ℕ) → owed_by a ≡ []
      → (listed_by a (suc zero ∷ p) t ≡ true → (a.answers.ended ≡ []) × (lives a.answers ≡ 0 → ⊥)) × (listed_by a (zero ∷ p) t ≡ true → a.abort.is_cancelled ≡ false)
  idle a p t none = (
    λ is. nothing_there (lives a.answers) a.answers.ended (lives a.answers == 0) (length a.answers.ended == 0) refl refl (not_ready a (is_ready a.answers) refl (nil_second (node.owed_by a.abort) (joiners_owed (joining a)) none) p t is),
    λ is. no_member a.abort p t a.abort.is_cancelled refl (nil_first (node.owed_by a.abort) (joiners_owed (joining a)) none) is,
  )

  nobody : (a b : JoinSet T) (ticket : Option ℕ) (me : ℕ) → Shuts a ticket me (asked.Got tt) b → len_of b.answers ≡ 0
  nobody a b ticket me s = ap len_of s.1 ∙ nobody_if (lives a.answers) (lives a.answers) (lives a.answers == 0) a.joiners b.joiners ticket me refl s.2 refl

pub answered_in_order : (T : Type 0) → AnsweredInOrder T
answered_in_order T = in_order

pub ends_once : (T : Type 0) → EndsOnce T
ends_once T es a b k run = (at_most_one es a b k run, none_after es a b k run)

pub stays_aborted : (T : Type 0) → StaysAborted T
stays_aborted T a b leads = still_aborted leads.events a b leads.run

pub abort_owes_all : (T : Type 0) → AbortOwesAll T
abort_owes_all T = owes_all

pub no_answer_lies_idle : (T : Type 0) → NoAnswerLiesIdle T
no_answer_lies_idle T = idle

pub shutdown_leaves_nobody : (T : Type 0) → ShutdownLeavesNobody T
shutdown_leaves_nobody T = nobody

-- a task that waits for an answer
stands_waits : (G : Type 0) (v w : Waiters) (k me : ℕ) → Stands {G = G} v (Some k) me asked.Waits w → waits_at w.entries.items k me ≡ true
stands_waits G v w k me s = ap (λ u. waits_at u.entries.items k me) s.1 ∙ s.0

stands_joined : (G : Type 0) (v w : Waiters) (ticket : Option ℕ) (k me : ℕ) → Stands {G = G} v ticket me (asked.Joined k) w → waits_at w.entries.items k me ≡ true
stands_joined G v w ticket k me s = ap (λ ws. waits_at ws k me) s.2 ∙ ap (λ n. waits_at (v.entries.items ++ record { ticket = v.next; task = me } ∷ []) n me) s.1 ∙ last_waits v.entries.items (record { ticket = v.next; task = me })

waits-got : ◌≡◌ {A = Asked ⊤} asked.Waits (asked.Got tt) → ⊥
waits-got e = cc

joined-got : (k : ℕ) → ◌≡◌ {A = Asked ⊤} (asked.Joined k) (asked.Got tt) → ⊥
joined-got k e = cc

shut_waits : (v w : Waiters) (k me : ℕ) (c : Bool) → MatchBool c ((◌≡◌ {A = Asked ⊤} asked.Waits (asked.Got tt)) × Leaves v (Some k) me w) (Stands {G = ⊤} v (Some k) me asked.Waits w) → waits_at w.entries.items k me ≡ true
shut_waits v w k me true s = absurd (waits-got s.0)
shut_waits v w k me false s = stands_waits ⊤ v w k me s

shut_joined : (v w : Waiters) (ticket : Option ℕ) (k me : ℕ) (c : Bool) → MatchBool c ((◌≡◌ {A = Asked ⊤} (asked.Joined k) (asked.Got tt)) × Leaves v ticket me w) (Stands {G = ⊤} v ticket me (asked.Joined k) w) → waits_at w.entries.items k me ≡ true
shut_joined v w ticket k me true s = absurd (joined-got k s.0)
shut_joined v w ticket k me false s = stands_joined ⊤ v w ticket k me s

pub pending_is_listed : (T : Type 0) → PendingJoinIsListed T
pending_is_listed T a b ticket me k = (
  λ s. stands_waits (Option (Ended T)) a.joiners b.joiners k me s.1,
  λ s. stands_joined (Option (Ended T)) a.joiners b.joiners ticket k me s.1,
  λ s. shut_waits a.joiners b.joiners k me (lives a.answers == 0) s.2,
  λ s. shut_joined a.joiners b.joiners ticket k me (lives a.answers == 0) s.2,
  λ s. waits_if a.abort b.abort k me a.abort.is_cancelled s.0.1,
  λ s. joined_if a.abort b.abort ticket k me a.abort.is_cancelled s.0.1,
)

pub given_up_is_gone : (T : Type 0) → GivenUpJoinIsGone T
given_up_is_gone T a b k me = (
  λ s. ap (λ ws. waits_at ws k me) s.0.0 ∙ gone a.joiners.entries.items k me,
  λ s. ap (λ ws. waits_at ws k me) s.0.1.0 ∙ gone a.abort.waiters.entries.items k me,
)
