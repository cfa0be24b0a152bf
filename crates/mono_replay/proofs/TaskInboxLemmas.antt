-- What an inbox knows, and the row of numbers that it holds ready.
use Rattle.std.proofs.Common.{◌≡◌, ◌<◌, ◌≤◌, inl, inr, ℕ, ◌+◌, Bool, true, false, cond, refl, ap, sym, ◌∙◌, arith, eq-eqb, ne_eqb}
use Rattle.std.specs.Prelude.{◌==◌, ◌||◌, ◌&&◌, not, nat_lt}
use Rattle.std.proofs.lemmas.Bool.{cases_eq, cases_lt}
use Rattle.mono_model.specs.Inbox.{is_waiting, with_waiting}
use Rattle.mono_inbox.specs.State.{State}
use Rattle.mono_inbox.specs.State as state
use Rattle.mono_inbox.proofs.LayoutLemmas.{lt_true, lt_false}
use Rattle.mono_replay.specs.TaskInbox.{seen_below, IsReadyUntil, is_unlisted, after_put, put_answer, with_list, AlsoKnows, Forgets}

and_true : (b : Bool) → (b && true) ≡ b
and_true true = refl
and_true false = refl

and_false : (b : Bool) → (b && false) ≡ false
and_false true = refl
and_false false = refl

-- the next number joins the known ones
also_next : (s : State) (next until t : ℕ) → IsReadyUntil next until s → next < until → (state.is_known s t && nat_lt t (next + 1)) ≡ ((t == next) || (state.is_known s t && nat_lt t next))
also_next s next until t ready less = elim (cases_eq t next) [
  | inl same ↦ rw (eq-eqb t next same, ready.row t (omega (arith, same)), lt_true t until (omega (arith, same, less)), lt_true t (next + 1) (omega (arith, same))) refl
  | inr apart ↦ elim (cases_lt t next) [
    | inl below ↦ rw (ne_eqb t next apart, lt_true t (next + 1) (omega (arith, below)), lt_true t next below) refl
    | inr above ↦ rw (ne_eqb t next apart, lt_false t (next + 1) (omega (arith, above, apart)), lt_false t next above) refl
  ]
]

pub knows_next : (s : State) (next until : ℕ) → IsReadyUntil next until s → next < until → AlsoKnows (seen_below next s) (seen_below (next + 1) s) next
knows_next s next until ready less = record { known = λ t. also_next s next until t ready less; waiting = refl }

pub later_row : (s : State) (next until : ℕ) → IsReadyUntil next until s → next < until → IsReadyUntil (next + 1) until s
later_row s next until ready less = record { ordered = omega (arith, less); row = λ t above. ready.row t (omega (arith, above)) }

-- a row is made ready
pub row_opens : (old new : State) (next until : ℕ) → IsReadyUntil next next old → next ≤ until → state.AlsoKnowsRow old new next until → IsReadyUntil next until new
row_opens old new next until ready ordered more = record {
  ordered = ordered;
  row = λ t above. more.known t ∙ (rw (ready.row t above, lt_false t next above) (or_false (nat_lt t until)));
}
  where
    or_false : (b : Bool) → ((not false && b) || false) ≡ b
    or_false true = refl
    or_false false = refl

-- below it the same are known
known_below : (old new : State) (next until t : ℕ) → state.AlsoKnowsRow old new next until → (state.is_known new t && nat_lt t next) ≡ (state.is_known old t && nat_lt t next)
known_below old new next until t more = elim (cases_lt t next) [
  | inl below ↦ rw (more.known t, lt_true t next below) refl
  | inr above ↦ rw (lt_false t next above) (and_false (state.is_known new t) ∙ sym (and_false (state.is_known old t)))
]

pub knows_first : (old new : State) (next until : ℕ) → IsReadyUntil next next old → next < until → state.AlsoKnowsRow old new next until → AlsoKnows (seen_below next old) (seen_below (next + 1) new) next
knows_first old new next until ready less more = record {
  known = λ t. also_next new next until t (row_opens old new next until ready (omega (arith, less)) more) less ∙ ap (λ b. (t == next) || b) (known_below old new next until t more);
  waiting = more.waiting;
}

-- a wake of a task
unlisted_below : (s : State) (next t : ℕ) → t < next → is_unlisted (seen_below next s) t ≡ state.is_unlisted s t
unlisted_below s next t below = ap (λ b. not (state.is_known s t && b) || is_waiting s.waiting t) (lt_true t next below) ∙ ap (λ b. not b || is_waiting s.waiting t) (and_true (state.is_known s t))

pub unlisted_past : (s : State) (next t : ℕ) → next ≤ t → is_unlisted (seen_below next s) t ≡ true
unlisted_past s next t above = ap (λ b. not (state.is_known s t && b) || is_waiting s.waiting t) (lt_false t next above) ∙ ap (λ b. not b || is_waiting s.waiting t) (and_false (state.is_known s t))

pub answer_below : (s : State) (next t : ℕ) → t < next → state.put_answer s t ≡ put_answer (seen_below next s) t
answer_below s next t below = ap (λ b. cond b false true) (sym (unlisted_below s next t below))

pub put_below : (s : State) (next t : ℕ) → t < next → seen_below next (state.after_put s t) ≡ after_put (seen_below next s) t
put_below s next t below = by_test (state.is_unlisted s t) (is_unlisted (seen_below next s) t) (unlisted_below s next t below)
  where
    by_test : (b d : Bool) → d ≡ b → seen_below next (cond b s (state.with_list s (with_waiting s.waiting t))) ≡ cond d (seen_below next s) (with_list (seen_below next s) (with_waiting s.waiting t))
    by_test true d is = rw is refl
    by_test false d is = rw is refl

pub put_keeps : (s : State) (next until t : ℕ) → IsReadyUntil next until s → IsReadyUntil next until (state.after_put s t)
put_keeps s next until t ready = by_test (state.is_unlisted s t)
  where
    by_test : (b : Bool) → IsReadyUntil next until (cond b s (state.with_list s (with_waiting s.waiting t)))
    by_test true = ready
    by_test false = record { ordered = ready.ordered; row = ready.row }

-- a task is forgotten
and_moves : (a b d : Bool) → ((a && b) && d) ≡ (a && (b && d))
and_moves true b d = refl
and_moves false b d = refl

pub forgets_below : (old new : State) (next t : ℕ) → state.Forgets old new t → Forgets (seen_below next old) (seen_below next new) t
forgets_below old new next t forgets = record {
  known = λ u. ap (λ b. b && nat_lt u next) (forgets.known u) ∙ and_moves (not (u == t)) (state.is_known old u) (nat_lt u next);
  waiting = forgets.waiting;
}

pub forgets_past : (s : State) (next t : ℕ) → next ≤ t → Forgets (seen_below next s) (seen_below next s) t
forgets_past s next t above = record { known = λ u. was_unknown u; waiting = refl }
  where
    was_unknown : (u : ℕ) → (state.is_known s u && nat_lt u next) ≡ (not (u == t) && (state.is_known s u && nat_lt u next))
    was_unknown u = elim (cases_eq u t) [
      | inl same ↦ rw (eq-eqb u t same, lt_false u next (omega (arith, same, above))) (and_false (state.is_known s u))
      | inr apart ↦ rw (ne_eqb u t apart) refl
    ]

pub forgets_keeps : (old new : State) (next until t : ℕ) → IsReadyUntil next until old → t < next → state.Forgets old new t → IsReadyUntil next until new
forgets_keeps old new next until t ready below forgets = record {
  ordered = ready.ordered;
  row = λ u above. forgets.known u ∙ ap (λ b. not b && state.is_known old u) (ne_eqb u t (λ same. omega (arith, same, above, below))) ∙ ready.row u above;
}
