-- Wakes from outside for a list of tasks without doubles, and then the drain, are a run.
use Rattle.std.proofs.Common.{◌≡◌, ◌<◌, ◌≢◌, ℕ, suc, true, false, Bool, cond, List, [], ◌∷◌, ◌++◌, length, get_or, refl, ap, sym, subst, ◌∙◌, append_assoc, append-nil, arith}
use Rattle.std.specs.Prelude.{◌||◌, ◌&&◌, ◌==◌, not, map}
use Rattle.std.specs.List.{AllPairs, filter}
use Rattle.std.proofs.lemmas.Bool.{eqb-true}
use Rattle.mono_model.specs.Table.{value_at, is_issued}
use Rattle.mono_model.specs.Tasks.{all_woken}
use Rattle.mono_model.specs.Inbox.{is_waiting, with_waiting}
use Rattle.mono_machine.specs.Machine.{Machine, with_tasks, with_inbox}
use Rattle.mono_machine.specs.Steps.{Run, remote_report, after_remote, has_finished}
use Rattle.mono_machine.specs.Remotes.{is_unfinished, unfinished_of, told_by, told_of, wakes_and_drain, told_and_drained, after_wakes}
use Rattle.mono_machine.specs.declared.events.Event.{Event}
use Rattle.mono_machine.specs.declared.events.Event.TheVariants as event
use Rattle.mono_machine.specs.declared.events.Report.{Report}
use Rattle.mono_machine.specs.declared.events.Report.TheVariants as report
use Rattle.mono_machine.specs.declared.events.Reply.TheVariants as reply
use Rattle.mono_machine.specs.declared.events.Refusal.TheVariants as refusal

-- The task, if it is listed.
abbrev only : Bool → ℕ → List ℕ
only b t = cond b (t ∷ []) []

-- one wake from outside of a task that does not wait
told_if : (issued over waits : Bool) → waits ≡ false → told_by issued over ≡ cond issued (cond (over || waits) report.Unlisted report.Listed) (report.Reply (reply.Refused refusal.NoTask))
told_if issued over true p = cc
told_if true true false p = refl
told_if true false false p = refl
told_if false over false p = refl

left_if : (issued over waits : Bool) (m : Machine) (t : ℕ) → waits ≡ false →
    with_inbox m (m.inbox ++ only (issued && not over) t) ≡ cond issued (cond (over || waits) m (with_inbox m (with_waiting m.inbox t))) m
left_if issued over true m t p = cc
left_if true true false m t p = ap (with_inbox m) (append-nil m.inbox)
left_if true false false m t p = refl
left_if false over false m t p = ap (with_inbox m) (append-nil m.inbox)

one_more : (b : Bool) (inbox rest : List ℕ) (t : ℕ) → inbox ++ cond b (t ∷ rest) rest ≡ (inbox ++ only b t) ++ rest
one_more true inbox rest t = sym (append_assoc inbox (t ∷ []) rest)
one_more false inbox rest t = ap (λ xs. xs ++ rest) (sym (append-nil inbox))

-- no task of the list waits
abbrev Apart : List ℕ → List ℕ → Type 0
Apart inbox ts = (i d : ℕ) → i < length ts → is_waiting inbox (get_or ts i d) ≡ false

not_same : (s t : ℕ) (b : Bool) → (s == t) ≡ b → s ≢ t → b ≡ false
not_same s t true is apart = absurd (apart (eqb-true s t is))
not_same s t false is apart = refl

or_false : (b x y : Bool) → (b || x) ≡ false → (x ≡ false → y ≡ false) → (b || y) ≡ false
or_false true x y p f = p
or_false false x y p f = f p

waits_more : (inbox more : List ℕ) (t : ℕ) → is_waiting inbox t ≡ false → is_waiting more t ≡ false → is_waiting (inbox ++ more) t ≡ false
waits_more [] more t p q = q
waits_more (w ∷ ws) more t p q = or_false (w == t) (is_waiting ws t) (is_waiting (ws ++ more) t) p (λ r. waits_more ws more t r q)

alone : (b : Bool) (t s : ℕ) → t ≢ s → is_waiting (only b t) s ≡ false
alone true t s apart = ap (λ b. b || false) (not_same t s (t == s) refl apart)
alone false t s apart = refl

still_apart : (b : Bool) (inbox : List ℕ) (t : ℕ) (ts : List ℕ) → Apart inbox (t ∷ ts) → AllPairs (λ s u. s ≢ u) (t ∷ ts) → Apart (inbox ++ only b t) ts
still_apart b inbox t ts apart once i d inside =
    waits_more inbox (only b t) (get_or ts i d) (apart (suc i) d (omega (arith, inside))) (alone b t (get_or ts i d) (once 0 (suc i) d (omega arith) (omega (arith, inside))))

rest_once : (t : ℕ) (ts : List ℕ) → AllPairs (λ s u. s ≢ u) (t ∷ ts) → AllPairs (λ s u. s ≢ u) ts
rest_once t ts once i j d below inside = once (suc i) (suc j) d (omega (arith, below)) (omega (arith, inside))

-- Each wake is reported, and the unfinished tasks are appended to the inbox.
wakes_are : (ts : List ℕ) (m : Machine) (events : List Event) (answers : List Report) (end : Machine) → Apart m.inbox ts → AllPairs (λ s t. s ≢ t) ts
    → Run (with_inbox m (m.inbox ++ unfinished_of m ts)) events answers end → Run m (map event.Remote ts ++ events) (map (told_of m) ts ++ answers) end
wakes_are [] m events answers end apart once after = subst (λ xs. Run (with_inbox m xs) events answers end) (append-nil m.inbox) after
wakes_are (t ∷ ts) m events answers end apart once after =
    let issued = is_issued m.tasks.table t in
    let over = has_finished (value_at m.tasks.table t) in
    let b = is_unfinished m t in
    let fresh : is_waiting m.inbox t ≡ false = apart 0 0 (omega arith) in
    let mid : Machine = with_inbox m (m.inbox ++ only b t) in (
      mid,
      (told_if issued over (is_waiting m.inbox t) fresh, left_if issued over (is_waiting m.inbox t) m t fresh),
      wakes_are ts mid events answers end (still_apart b m.inbox t ts apart once) (rest_once t ts once)
          (subst (λ xs. Run (with_inbox m xs) events answers end) (one_more b m.inbox (unfinished_of m ts) t) after),
    )

-- From an empty inbox, with the drain after them.
pub wakes_and_a_drain : (old : Machine) (ts : List ℕ) → old.inbox ≡ [] → AllPairs (λ s t. s ≢ t) ts → Run old (wakes_and_drain ts) (told_and_drained old ts) (after_wakes old ts)
wakes_and_a_drain old ts empty once =
    let listed = unfinished_of old ts in
    let all : old.inbox ++ listed ≡ listed = ap (λ xs. xs ++ listed) empty in
    wakes_are ts old (event.Drain ∷ []) (report.Drained listed ∷ []) (after_wakes old ts) (λ i d inside. ap (λ xs. is_waiting xs (get_or ts i d)) empty) once (
      after_wakes old ts,
      (
        ap report.Drained (sym all),
        ap (with_inbox (with_tasks old (all_woken old.tasks listed))) empty ∙ ap (λ xs. with_inbox (with_tasks old (all_woken old.tasks xs)) []) (sym all),
      ),
      refl,
    )
