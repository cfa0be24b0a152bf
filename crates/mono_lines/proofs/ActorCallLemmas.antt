-- The actors after the calls of a line.
use Rattle.std.proofs.Common.{◌≡◌, ℕ, ◌+◌, ◌==◌, if◌then◌else◌, ◌<◌, ◌≤◌, ◌++◌, Bool, true, false, List, [], ◌∷◌, length, drop, map, flat_map, get_or, Some, None, Option, Result, Ok, Err, refl, sym, ap, subst, ◌∙◌, arith, inl, inr, append_assoc}
use Rattle.std.specs.Prelude.{IsOk, OnOk, codes}
use Rattle.std.proofs.lemmas.List.{append-nil, drop_more, drop_all}
use Rattle.mono_model.specs.Table.{value_at}
use Rattle.mono_actor.specs.Actors.{Actor, Actors, if_granted, spawn_answer, spawned, send_answer, sent, received_value, is_idle, timed, timed_value, ended, ended_value, begin_for, begin_answer, begun_for, begun, end_answer}
use Rattle.mono_actor.specs.Answers.{Answer, of_begin}
use Rattle.mono_actor.specs.Answers as answer
use Rattle.mono_actor.specs.Calls.{Call}
use Rattle.mono_actor.specs.Calls as call
use Rattle.mono_actor.specs.Callers.{OrLacksMemory}
use Rattle.mono_actor.specs.Steps.{Step, ClockStep, EndStep, Run, all_queued, queued_value}
use Rattle.mono_actor.specs.declared.answers.ActorError.{ActorError}
use Rattle.mono_actor.specs.declared.answers.ActorError.TheVariants as error
use Rattle.mono_actor.specs.declared.answers.Got.{Got}
use Rattle.mono_actor.specs.declared.answers.After.{After}
use Rattle.mono_lines.specs.declared.actor.words.Handed.{Handed}
use Rattle.mono_lines.specs.declared.actor.words.ActorLine.{ActorLine}
use Rattle.mono_lines.specs.declared.actor.words.ActorLine.TheVariants as line
use Rattle.mono_lines.specs.ActorAnswers.{answer_text, answer_part, send_from, Makes}
use Rattle.mono_lines.specs.ActorTurns.{SendsAll, IsAnswered}
use Rattle.mono_lines.proofs.ServiceLemmas.{on_ok}

-- ---- who has the turn

granted_turn : {A : Type 0} (r : Result A ActorError) (old new : Actors ℕ) → new.turn ≡ old.turn → (if_granted r old new).turn ≡ old.turn
granted_turn (Ok x) old new e = e
granted_turn (Err x) old new e = refl

pub spawned_turn : (r : Result ℕ ActorError) (old : Actors ℕ) → (if_granted r old (spawned old)).turn ≡ old.turn
spawned_turn r old = granted_turn r old (spawned old) (granted_turn (spawn_answer old) old _ refl)

picked_turn : (b : Bool) (x y old : Actors ℕ) → x.turn ≡ old.turn → y.turn ≡ old.turn → (if b then x else y).turn ≡ old.turn
picked_turn true x y old p q = p
picked_turn false x y old p q = q

received_turn : (v : Option (Actor ℕ)) (old : Actors ℕ) (from to message : ℕ) → (received_value v old from to message).turn ≡ old.turn
received_turn None old from to message = refl
received_turn (Some actor) old from to message = picked_turn (is_idle actor.mode) _ _ old refl refl

pub sent_turn : {A : Type 0} (r : Result A ActorError) (old : Actors ℕ) (from to message : ℕ) → (if_granted r old (sent old from to message)).turn ≡ old.turn
sent_turn r old from to message = granted_turn r old (sent old from to message) (granted_turn (send_answer old from to) old _ (received_turn (value_at old.table to) old from to message))

timed_turn_value : (v : Option (Actor ℕ)) (old : Actors ℕ) (a ms : ℕ) → (timed_value v old a ms).turn ≡ old.turn
timed_turn_value None old a ms = refl
timed_turn_value (Some actor) old a ms = refl

pub timed_turn : (old : Actors ℕ) (a ms : ℕ) → (timed old a ms).turn ≡ old.turn
timed_turn old a ms = timed_turn_value (value_at old.table a) old a ms

queued_turn : (v : Option (Actor ℕ)) (old : Actors ℕ) (a : ℕ) → (queued_value v old a).turn ≡ old.turn
queued_turn None old a = refl
queued_turn (Some actor) old a = refl

pub all_queued_turn : (old : Actors ℕ) (due : List ℕ) → (all_queued old due).turn ≡ old.turn
all_queued_turn old [] = refl
all_queued_turn old (a ∷ due) = all_queued_turn (queued_value (value_at old.table a) old a) due ∙ queued_turn (value_at old.table a) old a

ended_turn_value : (stop : Bool) (v : Option (Actor ℕ)) (old : Actors ℕ) (a : ℕ) → (ended_value stop v old a).turn ≡ old.turn
ended_turn_value true v old a = refl
ended_turn_value false None old a = refl
ended_turn_value false (Some actor) old a = picked_turn (length actor.mailbox == 0) _ _ old refl refl

pub ended_turn : (stop : Bool) (old : Actors ℕ) (a : ℕ) → (ended stop old a).turn ≡ None
ended_turn stop old a = ended_turn_value stop (value_at old.table a) _ a

-- ---- what was told, where memory was there

pub told_is : {A : Type 0} (told result : Result A ActorError) → OrLacksMemory told result → (result ≡ Err error.Memory → ⊥) → result ≡ told
told_is told result (inl e) not = e
told_is told result (inr e) not = absurd (not e.0)

-- ---- one send after another

-- If the rest of the sends leads to a state, so do all of them.
abbrev pub LeadsOn : ℕ → List Handed → Actors ℕ → List ℕ → List Handed → Actors ℕ → List ℕ → Type 0
LeadsOn me sends old out left now written = (new : Actors ℕ) (last : List ℕ) → SendsAll me left now written new last → SendsAll me sends old out new last

pub none_sent : (me : ℕ) (sends : List Handed) (old : Actors ℕ) (out : List ℕ) → LeadsOn me sends old out sends old out
none_sent me sends old out = λ new last s. s

one_first : (me : ℕ) (h : Handed) (left : List Handed) (now mid new : Actors ℕ) (out written last : List ℕ) (a : Answer ℕ) → Step now (send_from me h) a mid → written ≡ out ++ answer_part a
    → SendsAll me left mid written new last → SendsAll me (h ∷ left) now out new last
one_first me h left now mid new out written last a step put s =
    record { answers = a ∷ s.answers; run = (mid, step, s.run); text = s.text ∙ rw put (append_assoc out (answer_part a) (flat_map answer_part s.answers)) }

pub one_sent : (me : ℕ) (sends : List Handed) (i : ℕ) (d : Handed) (old now mid : Actors ℕ) (start out written : List ℕ) (a : Answer ℕ) → i < length sends
    → LeadsOn me sends old start (drop i sends) now out → Step now (send_from me (get_or sends i d)) a mid → written ≡ out ++ answer_part a
    → LeadsOn me sends old start (drop (i + 1) sends) mid written
one_sent me sends i d old now mid start out written a lt leads step put = λ new last s.
    leads new last (subst (λ left. SendsAll me left now out new last) (sym (drop_more sends i d lt)) (one_first me (get_or sends i d) (drop (i + 1) sends) now mid new out written last a step put s))

pub all_sent : (me : ℕ) (sends : List Handed) (i : ℕ) (old now : Actors ℕ) (start out : List ℕ) → length sends ≤ i → LeadsOn me sends old start (drop i sends) now out → SendsAll me sends old start now out
all_sent me sends i old now start out le leads =
    leads now out (subst (λ left. SendsAll me left now out now out) (sym (drop_all i sends le)) (record { answers = []; run = refl; text = sym (append-nil out) }))

-- ---- the whole turn

run_more : (old : Actors ℕ) (calls : List (Call ℕ)) (answers : List (Answer ℕ)) (mid : Actors ℕ) (c : Call ℕ) (a : Answer ℕ) (new : Actors ℕ)
    → Run old calls answers mid → Step mid c a new → Run old (calls ++ c ∷ []) (answers ++ a ∷ []) new
run_more old [] [] mid c a new run step = (new, subst (λ m. Step m c a new) run step, refl)
run_more old [] (b ∷ answers) mid c a new run step = absurd run
run_more old (d ∷ calls) [] mid c a new run step = absurd run
run_more old (d ∷ calls) (b ∷ answers) mid c a new run step = (run.0, run.1, run_more run.0 calls answers mid c a new run.2 step)

parts_more : (answers : List (Answer ℕ)) (a : Answer ℕ) → flat_map answer_part (answers ++ a ∷ []) ≡ flat_map answer_part answers ++ answer_part a
parts_more [] a = append-nil (answer_part a)
parts_more (b ∷ answers) a = ap (λ x. answer_part b ++ x) (parts_more answers a) ∙ sym (append_assoc (answer_part b) (flat_map answer_part answers) (answer_part a))

pub clock_turn : (old : Actors ℕ) (n : ℕ) (due : List ℕ) (new : Actors ℕ) → ClockStep old n (answer.Due due) new → new.turn ≡ None
clock_turn old n due new step = ap (λ (x : Actors ℕ). x.turn) step.3 ∙ all_queued_turn _ due ∙ step.0

begun_turn : (queue : List ℕ) (old : Actors ℕ) (me : ℕ) (got : Got ℕ) → Ok (me, got) ≡ begin_for queue old → (begun_for queue old).turn ≡ Some me
begun_turn [] old me got e = cc e
begun_turn (front ∷ rest) old me got e =
    let k : me ≡ front = grind (arith, e) in
    ap Some (sym k)

regroup : (a b c d : List ℕ) → ((a ++ b) ++ c) ++ d ≡ a ++ (b ++ (c ++ d))
regroup a b c d = grind (arith, append_assoc)

pub whole_turn : (sends : List Handed) (stop : Bool) (old mid late new : Actors ℕ) (me : ℕ) (got : Got ℕ) (after : After) (out middle written : List ℕ)
    → old.turn ≡ None → Ok (me, got) ≡ begin_answer old → mid ≡ begun old → late.turn ≡ mid.turn
    → ((a : ℕ) → late.turn ≡ Some a → after ≡ end_answer stop (value_at late.table a))
    → ((a : ℕ) → late.turn ≡ Some a → new ≡ ended stop late a)
    → SendsAll me sends mid (out ++ answer_text (answer.Turn me got)) late middle → written ≡ middle ++ answer_part (answer.Ended after)
    → IsAnswered old (line.Turn sends stop) out new written
whole_turn sends stop old mid late new me got after out middle written none begins mid_is same how left s put =
    let turn_is : late.turn ≡ Some me = same ∙ ap (λ (x : Actors ℕ). x.turn) mid_is ∙ begun_turn old.queue old me got begins in
    let last : Step late (call.End stop) (answer.Ended after) new =
    subst (λ t. EndStep t stop late (answer.Ended after) new) (sym turn_is) (ap answer.Ended (how me turn_is), left me turn_is) in
    let all = run_more mid (map (send_from me) sends) s.answers late (call.End stop) (answer.Ended after) new s.run last in
    record {
      text = answer_text (answer.Turn me got) ++ flat_map answer_part (s.answers ++ answer.Ended after ∷ []);
      answers = record {
        first = answer.Turn me got;
        others = s.answers ++ answer.Ended after ∷ [];
        makes = (mid, (none, ap of_begin begins, mid_is), all);
        text_is = refl;
      };
      behind = put ∙ ap (λ x. x ++ answer_part (answer.Ended after)) s.text
          ∙ regroup out (answer_text (answer.Turn me got)) (flat_map answer_part s.answers) (answer_part (answer.Ended after))
          ∙ ap (λ x. out ++ (answer_text (answer.Turn me got) ++ x)) (sym (parts_more s.answers (answer.Ended after)));
    }

-- ---- one answer

pub one_told : (old new : Actors ℕ) (asked : ActorLine) (a : Answer ℕ) (out written : List ℕ) → Makes old asked a [] new → written ≡ out ++ answer_text a → IsAnswered old asked out new written
one_told old new asked a out written makes put =
    record { text = answer_text a; answers = record { first = a; others = []; makes = makes; text_is = sym (append-nil (answer_text a)) }; behind = put }

both_ok : {A E P Q R : Type 0} (s : Result A E) → OnOk s P → (P → Q → R) → IsOk s × Q → R
both_ok (Ok x) p f q = f p q.1
both_ok (Err e) p f q = cc q.0

pub after_ok : {A B E F P Q R : Type 0} (r : Result A E) (s : Result B F) → OnOk s P → (P → Q → R) → OnOk r (IsOk s × Q) → OnOk r R
after_ok r s p f q = on_ok r (both_ok s p f) q

pub part_put : (out one two : List ℕ) (a : Answer ℕ) → one ≡ out ++ codes "; " → two ≡ one ++ answer_text a → two ≡ out ++ answer_part a
part_put out one two a first second = second ∙ ap (λ x. x ++ answer_text a) first ∙ append_assoc out (codes "; ") (answer_text a)
