-- The answers of one core stand in the output in the order of its run.
use Rattle.std.proofs.Common.{◌≡◌, ◌≢◌, ◌==◌, ◌+◌, ◌<◌, ◌≤◌, ◌⊎◌, inl, inr, if◌then◌else◌, ℕ, Bool, true, false, List, [], ◌∷◌, ◌++◌, map, Option, Some, None, refl, sym, ap, subst, ◌∙◌, arith}
use Rattle.std.specs.Prelude.{⊤}
use Rattle.std.specs.List.{flat_map}
use Rattle.std.proofs.lemmas.Bool.Decides.{nat_tests}
use Rattle.std.proofs.lemmas.Nat.{mod_below}
use mathlib.Core.Logic.{dite}
use native.Mathlib.Decide.{ℕ_discrete}
use Rattle.mono_channel.specs.Delivery.{of, IsNew, HasAll, AreOf, Interleaves}
use Rattle.mono_channel.proofs.DeliveryLemmas.{same_is, never}
use Rattle.mono_channel.proofs.Interleaving.{no_head, parts_interleaved}
use Rattle.lease_core.specs.declared.requests.Request.{Request}
use Rattle.lease_core.specs.declared.requests.Reply.{Reply}
use Rattle.lease_core.specs.declared.sizes.Sizes.{Sizes}
use Rattle.lease_core.specs.Routes.{core_of}
use Rattle.lease_server.specs.Answers.{by_core, refusals_of}
use Rattle.lease_server.specs.Routing.{routed, refused}
use Rattle.lease_server.specs.EndToEnd.{RunsThrough, EachRuns, ServesAll}
use Rattle.lease_server.specs.Orders.{if_by, answers_by, all_asked, about, OneCoreAnswers}
use Rattle.lease_server.specs.declared.answers.Answer.{Answer}
use Rattle.lease_server.specs.declared.answers.Answer.TheVariants.{Bad, By}

-- ---- an interleaving of one list and empty ones

module _ {T : Type 0} where
  none_rest : (k : ℕ) (m : ℕ × T) (ms : List (ℕ × T)) (b : Bool) → (m.0 == k) ≡ b → of k (m ∷ ms) ≡ [] → of k ms ≡ []
  none_rest k m ms true is e = no_head m.1 (of k ms) (sym (ap (λ (b : Bool). if b then m.1 ∷ of k ms else of k ms) is) ∙ e)
  none_rest k m ms false is e = sym (ap (λ (b : Bool). if b then m.1 ∷ of k ms else of k ms) is) ∙ e

  all_step : (n : ℕ) (m : ℕ × T) (ms : List (ℕ × T)) (b : Bool) → (m.0 == n) ≡ b → ((k : ℕ) → k ≢ n → of k (m ∷ ms) ≡ []) → of n ms ≡ map (λ m. m.1) ms
      → of n (m ∷ ms) ≡ map (λ m. m.1) (m ∷ ms)
  all_step n m ms true is none rest = ap (λ (b : Bool). if b then m.1 ∷ of n ms else of n ms) is ∙ ap (λ l. m.1 ∷ l) rest
  all_step n m ms false is none rest =
      no_head m.1 (of m.0 ms) (sym (ap (λ (b : Bool). if b then m.1 ∷ of m.0 ms else of m.0 ms) (same_is m.0)) ∙ none m.0 (λ same. never (sym is ∙ ap (λ k. m.0 == k) (sym same) ∙ same_is m.0)))

  -- messages that all have one number are those of that number
  all_of : (n : ℕ) (all : List (ℕ × T)) → ((k : ℕ) → k ≢ n → of k all ≡ []) → of n all ≡ map (λ m. m.1) all
  all_of n [] none = refl
  all_of n (m ∷ ms) none = all_step n m ms (m.0 == n) refl none (all_of n ms (λ k apart. none_rest k m ms (m.0 == k) refl (none k apart)))

  -- all of these lists are empty
  abbrev pub AreEmpty : List (List T) → Type 0
  AreEmpty [] = ⊤
  AreEmpty (p ∷ ps) = (p ≡ []) × AreEmpty ps

  -- one of these lists is this, and the others are empty
  abbrev pub IsAlone : List T → List (List T) → Type 0
  IsAlone xs [] = ⊥
  IsAlone xs (p ∷ ps) = ((p ≡ xs) × AreEmpty ps) ⊎ ((p ≡ []) × IsAlone xs ps)

  -- a number is none of theirs, or has no message
  abbrev IsIdle : List (ℕ × T) → List (ℕ × List T) → ℕ → Type 0
  IsIdle all ended k = IsNew k ended ⊎ (of k all ≡ [])

  idle_more : (all : List (ℕ × T)) (e : ℕ × List T) (es : List (ℕ × List T)) (k : ℕ) → k ≢ e.0 → IsIdle all es k → IsIdle all (e ∷ es) k
  idle_more all e es k apart (inl new) = inl ((λ same. apart (sym same)), new)
  idle_more all e es k apart (inr none) = inr none

  all_idle : (all : List (ℕ × T)) (es : List (ℕ × List T)) → HasAll all es → AreEmpty (map (λ e. e.1) es) → (k : ℕ) → IsIdle all es k
  all_idle all [] has empty k = inl tt
  all_idle all (e ∷ es) has empty k =
      dite (ℕ_discrete k e.0) (λ same. inr (ap (λ j. of j all) same ∙ has.0 ∙ empty.0)) (λ apart. idle_more all e es k apart (all_idle all es has.2 empty.1 k))

  one_busy : (xs : List T) (all : List (ℕ × T)) (es : List (ℕ × List T)) → HasAll all es → IsAlone xs (map (λ e. e.1) es) → (n : ℕ) × (of n all ≡ xs) × ((k : ℕ) → k ≢ n → IsIdle all es k)
  one_busy xs all [] has one = absurd one
  one_busy xs all (e ∷ es) has (inl (is, empty)) = (e.0, has.0 ∙ is, λ k apart. idle_more all e es k apart (all_idle all es has.2 empty k))
  one_busy xs all (e ∷ es) has (inr (is, one)) =
      let more = one_busy xs all es has.2 one in
      (more.0, more.1, λ k apart. dite (ℕ_discrete k e.0) (λ same. inr (ap (λ j. of j all) same ∙ has.0 ∙ is)) (λ other. idle_more all e es k other (more.2 k apart)))

  none_of : (all : List (ℕ × T)) (es : List (ℕ × List T)) (k : ℕ) → AreOf all es → IsIdle all es k → of k all ≡ []
  none_of all es k are (inl new) = are k new
  none_of all es k are (inr none) = none

  -- an interleaving of one list and empty ones is that list
  pub alone_among : (xs : List T) (parts : List (List T)) (whole : List T) → IsAlone xs parts → Interleaves parts whole → whole ≡ xs
  alone_among xs parts whole one (all, ended, e, p, has, are) =
      let busy = one_busy xs all ended has (subst (λ l. IsAlone xs l) (sym p) one) in
      sym e ∙ sym (all_of busy.0 all (λ k apart. none_of all ended k are (busy.2 k apart))) ∙ busy.1

-- ---- the answers of one core

by_none : (k : ℕ) (ns : List ℕ) → answers_by k (refusals_of ns) ≡ []
by_none k [] = refl
by_none k (n ∷ ns) = by_none k ns

by_test : (j k : ℕ) (b : Bool) → (j == k) ≡ b → (replies : List Reply) → answers_by k (by_core j replies) ≡ (if b then by_core j replies else [])
by_test j k true is [] = refl
by_test j k false is [] = refl
by_test j k true is (r ∷ replies) = ap (λ (b : Bool). (if b then By j r ∷ [] else []) ++ answers_by k (by_core j replies)) is ∙ ap (λ l. By j r ∷ l) (by_test j k true is replies)
by_test j k false is (r ∷ replies) = ap (λ (b : Bool). (if b then By j r ∷ [] else []) ++ answers_by k (by_core j replies)) is ∙ by_test j k false is replies

pub other_is : (j k : ℕ) → j ≢ k → (j == k) ≡ false
other_is j k apart = grind (arith, nat_tests)

-- the cores after core k
none_by : (cores : ℕ) (sizes : Sizes) (asked : List (Option Request)) (k j : ℕ) (each : List (List Answer)) → EachRuns j cores sizes asked each → k < j → AreEmpty (map (answers_by k) each)
none_by cores sizes asked k j [] runs lt = tt
none_by cores sizes asked k j (answers ∷ others) runs lt =
    (ap (answers_by k) runs.0.2 ∙ by_test j k false (other_is j k (λ same. absurd (omega (arith, same, lt)))) runs.0.0, none_by cores sizes asked k (j + 1) others runs.1 (omega arith))

-- core k, and the others
one_by : (cores : ℕ) (sizes : Sizes) (asked : List (Option Request)) (k j : ℕ) (each : List (List Answer)) → EachRuns j cores sizes asked each → j ≤ k → k < cores
    → (replies : List Reply) × RunsThrough sizes (routed k cores asked) replies × IsAlone (by_core k replies) (map (answers_by k) each)
one_by cores sizes asked k j [] runs le lt = absurd (omega (arith, runs, le, lt))
one_by cores sizes asked k j (answers ∷ others) runs le lt =
    dite (ℕ_discrete j k)
    (λ same. (
      runs.0.0,
      subst (λ i. RunsThrough sizes (routed i cores asked) runs.0.0) same runs.0.1,
      inl (
        ap (answers_by k) runs.0.2 ∙ by_test j k true (ap (λ i. i == k) same ∙ same_is k) runs.0.0 ∙ ap (λ i. by_core i runs.0.0) same,
        none_by cores sizes asked k (j + 1) others runs.1 (omega (arith, same)),
      ),
    ))
    (λ apart.
    let more = one_by cores sizes asked k (j + 1) others runs.1 (omega (arith, apart, le)) lt in
    (more.0, more.1, inr (ap (answers_by k) runs.0.2 ∙ by_test j k false (other_is j k apart) runs.0.0, more.2)))

-- ---- the requests about one key

about_step : (key : ℕ) (r : Request) (xs ys : List Request) → about key xs ≡ about key ys → about key (r ∷ xs) ≡ about key (r ∷ ys)
about_step key r xs ys same = ap (λ l. if r.key == key then r ∷ l else l) same

about_other : (key : ℕ) (r : Request) (xs : List Request) → r.key ≢ key → about key (r ∷ xs) ≡ about key xs
about_other key r xs apart = ap (λ (b : Bool). if b then r ∷ about key xs else about key xs) (other_is r.key key apart)

about_next : (key cores : ℕ) (r : Request) (asked : List (Option Request)) (b : Bool) → (core_of r.key cores == core_of key cores) ≡ b → about key (routed (core_of key cores) cores asked) ≡ about key (all_asked asked)
    → about key (routed (core_of key cores) cores (Some r ∷ asked)) ≡ about key (r ∷ all_asked asked)
about_next key cores r asked true is same =
    let rest = routed (core_of key cores) cores asked in
    ap (λ (b : Bool). about key (if b then r ∷ rest else rest)) is ∙ about_step key r rest (all_asked asked) same
about_next key cores r asked false is same =
    let rest = routed (core_of key cores) cores asked in
    let apart : r.key ≢ key = λ e. never (sym is ∙ ap (λ k. core_of k cores == core_of key cores) e ∙ same_is (core_of key cores)) in
    ap (λ (b : Bool). about key (if b then r ∷ rest else rest)) is ∙ same ∙ sym (about_other key r (all_asked asked) apart)

about_all : (key cores : ℕ) (asked : List (Option Request)) → about key (routed (core_of key cores) cores asked) ≡ about key (all_asked asked)
about_all key cores [] = refl
about_all key cores (None ∷ asked) = about_all key cores asked
about_all key cores (Some r ∷ asked) = about_next key cores r asked (core_of r.key cores == core_of key cores) refl (about_all key cores asked)

pub one_core_answers : OneCoreAnswers
one_core_answers cores sizes input output some s key =
    let k = core_of key cores in
    let lt : k < cores = mod_below _ cores some in
    let one = one_by cores sizes s.asked k 0 s.each s.runs (omega arith) lt in
    let parts = parts_interleaved (if_by k) (refusals_of (refused 1 s.asked) ∷ s.each) s.answers s.interleave in
    (one.0, one.1, about_all key cores s.asked, alone_among (by_core k one.0) (map (answers_by k) (refusals_of (refused 1 s.asked) ∷ s.each)) (answers_by k s.answers) (inr (by_none k (refused 1 s.asked), one.2)) parts)
