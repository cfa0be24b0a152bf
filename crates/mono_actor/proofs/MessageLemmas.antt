-- The messages that an actor got are a prefix of those that were sent to it.
use Rattle.std.proofs.Common.{◌≡◌, ◌≢◌, ◌<◌, ◌≤◌, inl, inr, ℕ, ◌+◌, zero, suc, true, false, Bool, cond, List, [], ◌∷◌, ◌++◌, length, Some, None, Option, refl, ap, sym, subst, ◌∙◌, arith}
use Rattle.std.specs.Prelude.{⊤, Result, Ok, Err, ◌==◌, nat_le, filter}
use Rattle.std.proofs.lemmas.Bool.{cases_eq, cases_lt}
use Rattle.std.proofs.lemmas.Bool.Decides.{eqb_tells}
use Rattle.std.proofs.lemmas.List.{get_or-set_other, get_or-set_same, get_or_past, length-set, length-append}
use Rattle.mono_model.specs.Table.{Table, value_at, with_next, with_value, without}
use Rattle.mono_actor.specs.Actors.{Mode, Actor, Actors, no_actors, with_actor, with_table, in_mode, queued, queued_last, is_idle, if_granted, spawn_answer, sent_value, with_letter, received_value, timed_value, begin_for, begun_for, begun_table, got_value, rest_of, got_in, timeout_answer, letter_count, running, ended_value, no_turn}
use Rattle.mono_actor.specs.declared.mailboxes.Letter.{Letter}
use Rattle.mono_actor.specs.Calls.{Call}
use Rattle.mono_actor.specs.Calls as call
use Rattle.mono_actor.specs.Answers.{Answer, of_number, of_send, of_done, of_begin}
use Rattle.mono_actor.specs.Answers as answer
use Rattle.mono_actor.specs.Steps.{queued_value, all_queued, at_tick, greatest_at, ClockStep, EndStep, Step, Run}
use Rattle.mono_actor.specs.Laws.{sent_by, sent_to, letters_in, got_by_one, got_by, IsPrefix, of_sender, GotInOrder, GotInOrderOfEach}
use Rattle.mono_actor.specs.declared.answers.ActorError.{ActorError}
use Rattle.mono_actor.specs.declared.answers.ActorError.TheVariants.{AtCapacity}

none-some : {X : Type 0} (x : X) → None ≡ Some x → ⊥
none-some x e = cc

true-false : true ≡ false → ⊥
true-false e = cc

pub nil : {X : Type 0} (xs : List X) → xs ++ [] ≡ xs
nil [] = refl
nil (x ∷ xs) = ap (λ ys. x ∷ ys) (nil xs)

pub assoc : {X : Type 0} (xs ys zs : List X) → (xs ++ ys) ++ zs ≡ xs ++ (ys ++ zs)
assoc [] ys zs = refl
assoc (x ∷ xs) ys zs = ap (λ us. x ∷ us) (assoc xs ys zs)

value_before : {V : Type 0} (table : Table V) (v : V) (s : ℕ) → s < length table → value_at (with_next table v) s ≡ value_at table s
value_before [] v s inside = absurd (omega (arith, inside))
value_before (x ∷ xs) v zero inside = refl
value_before (x ∷ xs) v (suc s) inside = value_before xs v s (omega (arith, inside))

value_last : {V : Type 0} (table : Table V) (v : V) → value_at (with_next table v) (length table) ≡ Some v
value_last [] v = refl
value_last (x ∷ xs) v = value_last xs v

given : {V : Type 0} (table : Table V) (s : ℕ) (v : V) → value_at table s ≡ Some v → s < length table
given table s v at = elim (cases_lt s (length table)) [ inl inside ↦ inside | inr past ↦ absurd (none-some v (sym (get_or_past table s None past) ∙ at)) ]

module _ {M : Type 0} where
  -- The messages that wait in the mailbox of an actor.
  abbrev pub mail_in : Option (Actor M) → Option (List (Letter M))
  mail_in None = None
  mail_in (Some actor) = Some actor.mailbox

  abbrev pub mail : Table (Actor M) → ℕ → Option (List (Letter M))
  mail table a = mail_in (value_at table a)

  -- The messages sent are those that the actor got and those that wait. The rest is lost for a removed actor, and all
  -- is as at the start for an actor that was not made yet.
  abbrev pub Told : Option (List (Letter M)) → List (Letter M) → List (Letter M) → Type 0
  Told (Some mailbox) sent_so_far got = sent_so_far ≡ got ++ mailbox
  Told None sent_so_far got = IsPrefix got sent_so_far

  abbrev pub Holds : Table (Actor M) → ℕ → List (Letter M) → List (Letter M) → Type 0
  Holds table a sent_so_far got = Told (mail table a) sent_so_far got × (length table ≤ a → sent_so_far ≡ got)

  pub prefix : (m : Option (List (Letter M))) (S G : List (Letter M)) → Told m S G → IsPrefix G S
  prefix (Some mailbox) S G told = (mailbox, told)
  prefix None S G told = told

  -- the mailbox is as it was
  keeps : (old new : Table (Actor M)) (a : ℕ) (S G : List (Letter M)) → mail new a ≡ mail old a → length new ≡ length old → Holds old a S G → Holds new a S G
  keeps old new a S G same long holds = (subst (λ m. Told m S G) (sym same) holds.0, λ le. holds.1 (omega (arith, le, long)))

  -- nothing was sent to it, and it got nothing
  pub quiet : (table : Table (Actor M)) (a : ℕ) (S G x y : List (Letter M)) → x ≡ [] → y ≡ [] → Holds table a S G → Holds table a (S ++ x) (G ++ y)
  quiet table a S G x y no_x no_y holds =
      subst (λ g. Holds table a (S ++ x) g) (sym (ap (λ z. G ++ z) no_y ∙ nil G)) (subst (λ q. Holds table a q G) (sym (ap (λ z. S ++ z) no_x ∙ nil S)) holds)

  -- one actor changes, but not its mailbox
  mail_kept : (table : Table (Actor M)) (x a : ℕ) (old new : Actor M) → value_at table x ≡ Some old → new.mailbox ≡ old.mailbox → mail (with_value table x new) a ≡ mail table a
  mail_kept table x a old new at same = elim (cases_eq a x) [
    | inl here ↦
        ap (mail (with_value table x new)) here ∙ ap mail_in (get_or-set_same table x (Some new) None (given table x old at)) ∙ ap Some same ∙ ap mail_in (sym at) ∙ ap (mail table) (sym here)
    | inr apart ↦ ap mail_in (get_or-set_other table x a (Some new) None apart)
  ]

  holds_kept : (table : Table (Actor M)) (x a : ℕ) (old new : Actor M) (S G : List (Letter M)) → value_at table x ≡ Some old → new.mailbox ≡ old.mailbox → Holds table a S G → Holds (with_value table x new) a S G
  holds_kept table x a old new S G at same holds = keeps table (with_value table x new) a S G (mail_kept table x a old new at same) (length-set table x (Some new)) holds

  holds_other : (table : Table (Actor M)) (x a : ℕ) (w : Option (Actor M)) (S G : List (Letter M)) → a ≢ x → Holds table a S G → Holds (Rattle.std.specs.Prelude.set table x w) a S G
  holds_other table x a w S G apart holds = keeps table _ a S G (ap mail_in (get_or-set_other table x a w None apart)) (length-set table x w) holds

  -- the mailbox of the actor changes
  holds_set : (table : Table (Actor M)) (a : ℕ) (new : Actor M) (S G : List (Letter M)) → a < length table → S ≡ G ++ new.mailbox → Holds (with_value table a new) a S G
  holds_set table a new S G inside told = (
    subst (λ m. Told m S G) (sym (ap mail_in (get_or-set_same table a (Some new) None inside))) told,
    λ le. absurd (omega (arith, inside, le, length-set table a (Some new))),
  )

  pub told_at : (table : Table (Actor M)) (a : ℕ) (actor : Actor M) (S G : List (Letter M)) → value_at table a ≡ Some actor → Holds table a S G → S ≡ G ++ actor.mailbox
  told_at table a actor S G at holds = subst (λ m. Told m S G) (ap mail_in at) holds.0

  module _ (a : ℕ) (S G : List (Letter M)) where
    -- a new actor
    new_one : (table : Table (Actor M)) (actor : Actor M) → actor.mailbox ≡ [] → Holds table a S G → Holds (with_next table actor) a S G
    new_one table actor empty holds =
        let long : length (with_next table actor) ≡ length table + 1 = length-append table (Some actor ∷ []) in
        elim (cases_lt a (length table)) [
          | inl inside ↦ (subst (λ m. Told m S G) (sym (ap mail_in (value_before table actor a inside))) holds.0, λ le. absurd (omega (arith, inside, le, long)))
          | inr past ↦ elim (cases_eq a (length table)) [
            | inl last ↦ (
              subst (λ m. Told m S G) (sym (ap (mail (with_next table actor)) last ∙ ap mail_in (value_last table actor))) (holds.1 past ∙ sym (ap (λ z. G ++ z) empty ∙ nil G)),
              λ le. absurd (omega (arith, last, le, long)),
            )
            | inr later ↦ (
              subst (λ m. Told m S G) (sym (ap mail_in (get_or_past (with_next table actor) a None (omega (arith, past, later, long))))) ([], holds.1 past ∙ sym (nil G)),
              λ le. holds.1 past,
            )
          ]
        ]

    pub of_spawn : (r : Result ℕ ActorError) (old : Actors M) (actor : Actor M) → actor.mailbox ≡ [] → Holds old.table a S G
        → Holds (if_granted r old (with_table old (with_next old.table actor))).table a (S ++ []) (G ++ got_by_one a (of_number r))
    of_spawn (Ok n) old actor empty holds = quiet _ a S G [] [] refl refl (new_one old.table actor empty holds)
    of_spawn (Err e) old actor empty holds = quiet _ a S G [] [] refl refl holds

    -- a message that is granted
    letter_comes : (old : Actors M) (from to : ℕ) (message : M) (actor new : Actor M) → value_at old.table to ≡ Some actor
        → new.mailbox ≡ actor.mailbox ++ record { sender = from; message = message } ∷ [] → Holds old.table a S G
        → (b : Bool) → (to == a) ≡ b → Holds (with_value old.table to new) a (S ++ cond b (record { sender = from; message = message } ∷ []) []) (G ++ [])
    letter_comes old from to message actor new at longer holds true same =
        let here : to ≡ a = elim (eqb_tells to a) [ inl t ↦ t.1 | inr t ↦ absurd (true-false (sym same ∙ t.0)) ] in
        let l : List (Letter M) = record { sender = from; message = message } ∷ [] in
        subst (λ x. Holds (with_value old.table x new) a (S ++ l) (G ++ [])) (sym here)
        (holds_set old.table a new (S ++ l) (G ++ []) (subst (λ x. x < length old.table) here (given old.table to actor at))
        (ap (λ z. z ++ l) (told_at old.table a actor S G (ap (value_at old.table) (sym here) ∙ at) holds) ∙ assoc G actor.mailbox l ∙ ap (λ z. G ++ z) (sym longer) ∙ ap (λ z. z ++ new.mailbox) (sym (nil G))))
    letter_comes old from to message actor new at longer holds false other =
        quiet _ a S G [] [] refl refl (holds_other old.table to a (Some new) S G (λ same. true-false (sym (elim (eqb_tells to a) [ inl t ↦ t.0 | inr t ↦ absurd (t.1 (sym same)) ]) ∙ other)) holds)

    idle_or_not : (b : Bool) (old : Actors M) (from to : ℕ) (message : M) (actor : Actor M) → value_at old.table to ≡ Some actor → Holds old.table a S G
        → Holds (cond b (queued_last old to (with_letter actor from message)) (with_actor old to (with_letter actor from message))).table a (S ++ cond (to == a) (record { sender = from; message = message } ∷ []) []) (G ++ [])
    idle_or_not true old from to message actor at holds = letter_comes old from to message actor (in_mode (with_letter actor from message) queued) at refl holds (to == a) refl
    idle_or_not false old from to message actor at holds = letter_comes old from to message actor (with_letter actor from message) at refl holds (to == a) refl

    pub of_sent : (full : Bool) (e : ActorError) (v w : Option (Actor M)) (old : Actors M) (from to : ℕ) (message : M) → value_at old.table to ≡ w → Holds old.table a S G
        → Holds (if_granted (cond full (Err e) (sent_value v w)) old (received_value w old from to message)).table a
        (S ++ sent_by a (call.Send from to message) (of_send (cond full (Err e) (sent_value v w)))) (G ++ got_by_one a (of_send (cond full (Err e) (sent_value v w))))
    of_sent true e v w old from to message at holds = quiet _ a S G [] [] refl refl holds
    of_sent false e None w old from to message at holds = quiet _ a S G [] [] refl refl holds
    of_sent false e (Some sender) None old from to message at holds = quiet _ a S G [] [] refl refl holds
    of_sent false e (Some sender) (Some actor) old from to message at holds = idle_or_not (is_idle actor.mode) old from to message actor at holds

    of_timed : (w : Option (Actor M)) (old : Actors M) (x ms : ℕ) → value_at old.table x ≡ w → Holds old.table a S G → Holds (timed_value w old x ms).table a S G
    of_timed None old x ms at holds = holds
    of_timed (Some actor) old x ms at holds = holds_kept old.table x a actor _ S G at refl holds

    done_quiet : (r : Result ⊤ ActorError) → got_by_one {M = M} a (of_done r) ≡ []
    done_quiet (Ok x) = refl
    done_quiet (Err e) = refl

    none_got : (b : Bool) → cond {A = List (Letter M)} b [] [] ≡ []
    none_got true = refl
    none_got false = refl

    -- the front gets the first of its mailbox
    got_first : (table : Table (Actor M)) (front : ℕ) (actor new : Actor M) (letter : Letter M) (rest : List (Letter M)) → value_at table front ≡ Some actor → actor.mailbox ≡ letter ∷ rest → new.mailbox ≡ rest
        → Holds table a S G → (b : Bool) → (front == a) ≡ b → Holds (with_value table front new) a (S ++ []) (G ++ cond b (letter ∷ []) [])
    got_first table front actor new letter rest at has left holds true same =
        let here : front ≡ a = elim (eqb_tells front a) [ inl t ↦ t.1 | inr t ↦ absurd (true-false (sym same ∙ t.0)) ] in
        subst (λ x. Holds (with_value table x new) a (S ++ []) (G ++ letter ∷ [])) (sym here)
        (holds_set table a new (S ++ []) (G ++ letter ∷ []) (subst (λ x. x < length table) here (given table front actor at))
        (nil S ∙ told_at table a actor S G (ap (value_at table) (sym here) ∙ at) holds ∙ ap (λ z. G ++ z) (has ∙ ap (λ z. letter ∷ z) (sym left)) ∙ sym (assoc G (letter ∷ []) new.mailbox)))
    got_first table front actor new letter rest at has left holds false other =
        quiet _ a S G [] [] refl refl (holds_other table front a (Some new) S G (λ same. true-false (sym (elim (eqb_tells front a) [ inl t ↦ t.0 | inr t ↦ absurd (t.1 (sym same)) ]) ∙ other)) holds)

    of_mailbox : (table : Table (Actor M)) (front : ℕ) (actor : Actor M) (mailbox : List (Letter M)) → value_at table front ≡ Some actor → actor.mailbox ≡ mailbox → Holds table a S G
        → Holds (with_value table front (record { mode = running; mailbox = rest_of mailbox; timeout = actor.timeout })) a (S ++ []) (G ++ cond (front == a) (letters_in (got_in mailbox)) [])
    of_mailbox table front actor [] at has holds = quiet _ a S G [] _ refl (none_got (front == a)) (holds_kept table front a actor _ S G at (sym has) holds)
    of_mailbox table front actor (letter ∷ rest) at has holds = got_first table front actor _ letter rest at has refl holds (front == a) refl

    pub of_front : (v : Option (Actor M)) (table : Table (Actor M)) (front : ℕ) → value_at table front ≡ v → Holds table a S G
        → Holds (begun_table v table front) a (S ++ []) (G ++ cond (front == a) (letters_in (got_value v)) [])
    of_front None table front at holds = quiet _ a S G [] _ refl (none_got (front == a)) holds
    of_front (Some actor) table front at holds = of_mailbox table front actor actor.mailbox at refl holds

    of_queue : (queue : List ℕ) (old : Actors M) → Holds old.table a S G → Holds (begun_for queue old).table a (S ++ []) (G ++ got_by_one a (of_begin (begin_for queue old)))
    of_queue [] old holds = quiet _ a S G [] [] refl refl holds
    of_queue (front ∷ rest) old holds = of_front (value_at old.table front) old.table front refl holds

    -- The actor is removed, or stays.
    pub of_gone : (table : Table (Actor M)) (me : ℕ) → Holds table a S G → Holds (without table me) a S G
    of_gone table me holds = elim (cases_eq a me) [
      | inr apart ↦ holds_other table me a None S G apart holds
      | inl same ↦
          let none : value_at (without table me) a ≡ None = elim (cases_lt me (length table)) [
            | inl inside ↦ ap (value_at (without table me)) same ∙ get_or-set_same table me None None inside
            | inr past ↦ get_or_past (without table me) a None (omega (arith, same, past, length-set table me None))
          ] in
          (subst (λ m. Told m S G) (sym (ap mail_in none)) (prefix (mail table a) S G holds.0), λ le. holds.1 (omega (arith, le, length-set table me None)))
    ]

    of_stay : (b : Bool) (actors : Actors M) (me : ℕ) (actor : Actor M) (mode : Mode) → value_at actors.table me ≡ Some actor → Holds actors.table a S G
        → Holds (cond b (with_actor actors me (in_mode actor mode)) (queued_last actors me actor)).table a S G
    of_stay true actors me actor mode at holds = holds_kept actors.table me a actor (in_mode actor mode) S G at refl holds
    of_stay false actors me actor mode at holds = holds_kept actors.table me a actor (in_mode actor queued) S G at refl holds

    pub of_end : (stop : Bool) (v : Option (Actor M)) (actors : Actors M) (me : ℕ) → value_at actors.table me ≡ v → Holds actors.table a S G → Holds (ended_value stop v actors me).table a S G
    of_end true v actors me at holds = of_gone actors.table me holds
    of_end false None actors me at holds = holds
    of_end false (Some actor) actors me at holds = of_stay (length actor.mailbox == 0) actors me actor _ at holds

    of_one_due : (v : Option (Actor M)) (actors : Actors M) (x : ℕ) → value_at actors.table x ≡ v → Holds actors.table a S G → Holds (queued_value v actors x).table a S G
    of_one_due None actors x at holds = holds
    of_one_due (Some actor) actors x at holds = holds_kept actors.table x a actor (in_mode actor queued) S G at refl holds

    of_due : (actors : Actors M) (due : List ℕ) → Holds actors.table a S G → Holds (all_queued actors due).table a S G
    of_due actors [] holds = holds
    of_due actors (x ∷ due) holds = of_due (queued_value (value_at actors.table x) actors x) due (of_one_due (value_at actors.table x) actors x refl holds)

    moved : (c : Call M) (told other : Answer M) (mid x : Actors M) → told ≡ other → mid ≡ x → Holds x.table a (S ++ sent_by a c other) (G ++ got_by_one a other) → Holds mid.table a (S ++ sent_by a c told) (G ++ got_by_one a told)
    moved c told other mid x same_answer same holds =
        subst (λ t. Holds mid.table a (S ++ sent_by a c t) (G ++ got_by_one a t)) (sym same_answer)
        (subst (λ (k : Actors M). Holds k.table a (S ++ sent_by a c other) (G ++ got_by_one a other)) (sym same) holds)

    of_clock : (old : Actors M) (n : ℕ) (told : Answer M) (mid : Actors M) → ClockStep old n told mid → Holds old.table a S G → Holds mid.table a (S ++ []) (G ++ got_by_one a told)
    of_clock old n (answer.Due due) mid step holds =
        moved (call.Clock n) (answer.Due due) (answer.Due due) mid _ refl step.3 (quiet _ a S G [] [] refl refl (of_due (at_tick old (greatest_at old n)) due holds))
    of_clock old n answer.Invalid mid step holds = moved (call.Clock n) answer.Invalid answer.Invalid mid old refl step.2 (quiet _ a S G [] [] refl refl holds)
    of_clock old n (answer.Refused e) mid step holds = absurd step
    of_clock old n (answer.Actor x) mid step holds = absurd step
    of_clock old n (answer.Posted what) mid step holds = absurd step
    of_clock old n answer.Done mid step holds = absurd step
    of_clock old n (answer.Turn x got) mid step holds = absurd step
    of_clock old n (answer.Ended how) mid step holds = absurd step

    of_turn : (turn : Option ℕ) (stop : Bool) (old : Actors M) (told : Answer M) (mid : Actors M) → EndStep turn stop old told mid → Holds old.table a S G → Holds mid.table a (S ++ []) (G ++ got_by_one a told)
    of_turn None stop old told mid step holds = absurd step
    of_turn (Some me) stop old told mid step holds =
        moved (call.End stop) told _ mid _ step.0 step.1 (quiet _ a S G [] [] refl refl (of_end stop (value_at old.table me) (no_turn old) me refl holds))

    step_holds : (old : Actors M) (c : Call M) (told : Answer M) (mid : Actors M) → Step old c told mid → Holds old.table a S G → Holds mid.table a (S ++ sent_by a c told) (G ++ got_by_one a told)
    step_holds old call.Spawn told mid step holds = moved call.Spawn told _ mid _ step.0 step.1 (of_spawn (spawn_answer old) old _ refl holds)
    step_holds old (call.Send from to message) told mid step holds =
        moved (call.Send from to message) told _ mid _ step.0 step.1
        (of_sent (nat_le old.most_messages (letter_count old)) AtCapacity (value_at old.table from) (value_at old.table to) old from to message refl holds)
    step_holds old (call.Timeout x ms) told mid step holds =
        moved (call.Timeout x ms) told _ mid _ step.0 step.1 (quiet _ a S G [] _ refl (done_quiet (timeout_answer old x)) (of_timed (value_at old.table x) old x ms refl holds))
    step_holds old call.Begin told mid step holds = moved call.Begin told _ mid _ step.1 step.2 (of_queue old.queue old holds)
    step_holds old (call.End stop) told mid step holds = of_turn old.turn stop old told mid step holds
    step_holds old (call.Clock n) told mid step holds = of_clock old n told mid step holds

  pub run_holds : (calls : List (Call M)) (answers : List (Answer M)) (old new : Actors M) (a : ℕ) (S G : List (Letter M)) → Holds old.table a S G → Run old calls answers new
      → Holds new.table a (S ++ sent_to a calls answers) (G ++ got_by a answers)
  run_holds [] [] old new a S G holds run = quiet new.table a S G [] [] refl refl (subst (λ (k : Actors M). Holds k.table a S G) (sym run) holds)
  run_holds [] (told ∷ answers) old new a S G holds run = absurd run
  run_holds (c ∷ calls) [] old new a S G holds run = absurd run
  run_holds (c ∷ calls) (told ∷ answers) old new a S G holds (mid, step, run) =
      let rest = run_holds calls answers mid new a (S ++ sent_by a c told) (G ++ got_by_one a told) (step_holds a S G old c told mid step holds) run in
      subst (λ s. Holds new.table a s (G ++ got_by a (told ∷ answers))) (assoc S (sent_by a c told) (sent_to a calls answers))
      (subst (λ g. Holds new.table a ((S ++ sent_by a c told) ++ sent_to a calls answers) g) (assoc G (got_by_one a told) (got_by a answers)) rest)

pub got_in_order : (M : Type 0) → GotInOrder M
got_in_order M calls answers most_actors most_messages new a run =
    let holds = run_holds calls answers (no_actors most_actors most_messages) new a [] [] (([], refl), λ le. refl) run in
    prefix (mail new.table a) _ _ holds.0

pub filter_joined : {X : Type 0} (p : X → Bool) (xs ys : List X) → filter p (xs ++ ys) ≡ filter p xs ++ filter p ys
filter_joined p [] ys = refl
filter_joined {X} p (x ∷ xs) ys = by (p x) (filter_joined p xs ys)
  where
    by : (b : Bool) → filter p (xs ++ ys) ≡ filter p xs ++ filter p ys → cond b (x ∷ filter p (xs ++ ys)) (filter p (xs ++ ys)) ≡ cond b (x ∷ filter p xs) (filter p xs) ++ filter p ys
    by true rest = ap (λ zs. x ∷ zs) rest
    by false rest = rest

pub got_in_order_of_each : (M : Type 0) → GotInOrderOfEach M
got_in_order_of_each M calls answers most_actors most_messages new a from run =
    let told = got_in_order M calls answers most_actors most_messages new a run in
    (of_sender from told.0, ap (of_sender from) told.1 ∙ filter_joined (λ letter. letter.sender == from) (got_by a answers) told.0)
