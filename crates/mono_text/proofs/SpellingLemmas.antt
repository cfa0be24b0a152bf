-- Each event read is spelled so, and each spelling is read so.
use Rattle.std.proofs.Common.{◌≡◌, ℕ, zero, suc, ◌^◌, ◌<◌, ◌≤◌, ◌++◌, List, [], ◌∷◌, length, Some, None, Option, Bool, true, false, ◌⊎◌, if◌then◌else◌, refl, sym, ap, subst, ◌∙◌, arith, inl, inr, append_assoc, length-append, codes, slice_index, ◌==◌, lit≤, lit<, IfOk, IfSome, IfNone, Result, Ok, Err}
use Rattle.std.proofs.lemmas.List.{append-nil}
use Rattle.std.specs.Fmt.{decimal}
use Rattle.mono_machine.specs.declared.events.Act.{Act}
use Rattle.mono_machine.specs.declared.events.Act.TheVariants as act
use Rattle.mono_machine.specs.declared.events.How.{How}
use Rattle.mono_machine.specs.declared.events.How.TheVariants as how
use Rattle.mono_machine.specs.declared.events.Query.TheVariants as query
use Rattle.mono_machine.specs.declared.events.TurnStep.{TurnStep}
use Rattle.mono_machine.specs.declared.events.TurnStep.TheVariants as step
use Rattle.mono_machine.specs.declared.events.End.{End}
use Rattle.mono_machine.specs.declared.events.End.TheVariants as end
use Rattle.mono_machine.specs.declared.events.Event.{Event}
use Rattle.mono_machine.specs.declared.events.Event.TheVariants as event
use Rattle.mono_text.specs.LineText.{how_text, act_text, step_text, end_text, parts_text, event_text, FitsAct, FitsStep, FitsEnd, FitSteps, FitsEvent}
use Rattle.mono_text.specs.Lines.{BeginsWith, BeginsWithNone, OneEvent}
use Rattle.mono_text.specs.Parser.{GivesIf, Read, when, mapped, then_read, ends_or, word_at, digits_from, s_act_at, drop_at, reset_at, how_at, job_act_at, other_act_at, act_at, job_step_at, number_at, nanos_at, step_at, end_at, parts_at, event_at, line_at}
use Rattle.mono_text.proofs.PrefixLemmas.{word_is}
use Rattle.mono_text.proofs.DigitLemmas.{digits_found, digits_again, starts_digit}

-- ---- tools

pub when_cases : {A : Type 0} (o : Option (List ℕ)) (f : List ℕ → A) (other y : A) → when o f other ≡ y
    → ((r : List ℕ) × (o ≡ Some r) × (f r ≡ y)) ⊎ ((o ≡ None) × (other ≡ y))
when_cases None f other y e = inr (refl, e)
when_cases (Some r) f other y e = inl (r, refl, e)

pub chosen : {A : Type 0} (b : Bool) (x y z : A) → (if b then x else y) ≡ z → ((b ≡ true) × (x ≡ z)) ⊎ ((b ≡ false) × (y ≡ z))
chosen true x y z e = inl (refl, e)
chosen false x y z e = inr (refl, e)

pub mapped_some : {A B : Type 0} (f : A → B) (o : Read A) (y : B) (rest : List ℕ) → mapped f o ≡ Some (y, rest)
    → (x : A) × (o ≡ Some (x, rest)) × (f x ≡ y)
mapped_some f None y rest e = cc e
mapped_some f (Some x) y rest e =
    let k : (f x.0 ≡ y) × (x.1 ≡ rest) = grind arith in
    (x.0, ap (λ r. Some (x.0, r)) k.1, k.0)

pub then_some : {A B : Type 0} (o : Read A) (f : A → List ℕ → Read B) (y : B × List ℕ) → then_read o f ≡ Some y
    → (x : A) × (r : List ℕ) × (o ≡ Some (x, r)) × (f x r ≡ Some y)
then_some None f y e = cc e
then_some (Some x) f y e = (x.0, x.1, refl, e)

-- a number after its word
pub numbered_found : {A : Type 0} (top : ℕ) (word : List ℕ) (make : ℕ → A) (bytes r : List ℕ) (y : A) (rest : List ℕ) → 0 < top → top ≤ 10 ^ 64
    → word_at word bytes ≡ Some r → mapped make (digits_from top 0 0 r) ≡ Some (y, rest)
    → (v : ℕ) × (make v ≡ y) × (bytes ≡ word ++ decimal v ++ rest) × (v < top)
numbered_found top word make bytes r y rest some bound w e =
    let k = mapped_some make (digits_from top 0 0 r) y rest e in
    let d = digits_found top r k.0 rest some bound k.1 in
    (k.0, k.2, word_is word bytes r w ∙ ap (λ x. word ++ x) d.0 ∙ sym (append_assoc word (decimal k.0) rest), d.1)

regroup : (a b c d e : List ℕ) → a ++ (b ++ (c ++ d ++ e)) ≡ a ++ b ++ c ++ d ++ e
regroup a b c d e = grind (arith, append_assoc)

pub small : 2 ^ 64 ≤ 10 ^ 64
small = lit≤ tt

pub large : 2 ^ 128 ≤ 10 ^ 64
large = lit≤ tt

-- ---- each event read is spelled so

abbrev ActIs : List ℕ → List ℕ → Act → Type 0
ActIs bytes rest a = (bytes ≡ act_text a ++ rest) × FitsAct a

s_act_found : (bytes : List ℕ) (a : Act) (rest : List ℕ) → s_act_at bytes ≡ Some (a, rest) → ActIs bytes rest a
unfolding s_act_at
s_act_found bytes a rest e = elim (when_cases (word_at (codes "spawn") bytes) _ _ _ e) [
  | inl w ↦
      let k : (act.Spawn ≡ a) × (w.0 ≡ rest) = grind (arith, w.2) in
      subst (ActIs bytes rest) k.0 (word_is (codes "spawn") bytes w.0 w.1 ∙ ap (λ r. codes "spawn" ++ r) k.1, tt)
  | inr w ↦ elim (when_cases (word_at (codes "sleep ") bytes) _ _ _ w.1) [
    | inl u ↦
        let k = numbered_found (2 ^ 128) (codes "sleep ") act.NewSleep bytes u.0 a rest (lit< tt) large u.1 u.2 in
        subst (ActIs bytes rest) k.1 (k.2, k.3)
    | inr u ↦ cc u.1
  ]
]

drop_found : (bytes : List ℕ) (a : Act) (rest : List ℕ) → drop_at bytes ≡ Some (a, rest) → ActIs bytes rest a
unfolding drop_at
drop_found bytes a rest e = elim (when_cases (word_at (codes "drop-join ") bytes) _ _ _ e) [
  | inl u ↦
      let k = numbered_found (2 ^ 64) (codes "drop-join ") act.DropJoin bytes u.0 a rest (lit< tt) small u.1 u.2 in
      subst (ActIs bytes rest) k.1 (k.2, k.3)
  | inr w0 ↦ elim (when_cases (word_at (codes "drop-job ") bytes) _ _ _ w0.1) [
    | inl u ↦
        let k = numbered_found (2 ^ 64) (codes "drop-job ") act.DropJob bytes u.0 a rest (lit< tt) small u.1 u.2 in
        subst (ActIs bytes rest) k.1 (k.2, k.3)
    | inr w1 ↦ elim (when_cases (word_at (codes "drop-sleep ") bytes) _ _ _ w1.1) [
      | inl u ↦
          let k = numbered_found (2 ^ 64) (codes "drop-sleep ") act.DropSleep bytes u.0 a rest (lit< tt) small u.1 u.2 in
          subst (ActIs bytes rest) k.1 (k.2, k.3)
      | inr w2 ↦ cc w2.1
    ]
  ]
]

how_found : (bytes : List ℕ) (h : How) (rest : List ℕ) → how_at bytes ≡ Some (h, rest) → bytes ≡ how_text h ++ rest
how_found bytes h rest e = elim (when_cases (word_at (codes "ran") bytes) _ _ _ e) [
  | inl w ↦
      let k : (how.Ran ≡ h) × (w.0 ≡ rest) = grind (arith, w.2) in
      subst (λ x. bytes ≡ how_text x ++ rest) k.0 (word_is (codes "ran") bytes w.0 w.1 ∙ ap (λ r. codes "ran" ++ r) k.1)
  | inr w ↦ elim (when_cases (word_at (codes "canceled") bytes) _ _ _ w.1) [
    | inl u ↦
        let k : (how.Canceled ≡ h) × (u.0 ≡ rest) = grind (arith, u.2) in
        subst (λ x. bytes ≡ how_text x ++ rest) k.0 (word_is (codes "canceled") bytes u.0 u.1 ∙ ap (λ r. codes "canceled" ++ r) k.1)
    | inr u ↦ cc u.1
  ]
]

job_end_found : (bytes r : List ℕ) (a : Act) (rest : List ℕ) → word_at (codes "job-end ") bytes ≡ Some r
    → then_read (number_at r) (λ j rest. when (word_at (codes " ") rest) (λ q. mapped (act.JobEnd j) (how_at q)) None) ≡ Some (a, rest) → ActIs bytes rest a
job_end_found bytes r a rest w e =
    let s = then_some (number_at r) (λ j rest. when (word_at (codes " ") rest) (λ q. mapped (act.JobEnd j) (how_at q)) None) (a, rest) e in
    let n = digits_found (2 ^ 64) r s.0 s.1 (lit< tt) small s.2 in
    elim (when_cases (word_at (codes " ") s.1) _ _ _ s.3) [
      | inl u ↦
          let k = mapped_some (act.JobEnd s.0) (how_at u.0) a rest u.2 in
          let h = how_found u.0 k.0 rest k.1 in
          let front : bytes ≡ codes "job-end " ++ (decimal s.0 ++ s.1) = word_is (codes "job-end ") bytes r w ∙ ap (λ x. codes "job-end " ++ x) n.0 in
          let behind : s.1 ≡ codes " " ++ (how_text k.0 ++ rest) = word_is (codes " ") s.1 u.0 u.1 ∙ ap (λ x. codes " " ++ x) h in
          let all : bytes ≡ act_text (act.JobEnd s.0 k.0) ++ rest = front ∙ ap (λ x. codes "job-end " ++ (decimal s.0 ++ x)) behind
          ∙ regroup (codes "job-end ") (decimal s.0) (codes " ") (how_text k.0) rest in
          subst (ActIs bytes rest) k.2 (all, n.1)
      | inr u ↦ cc u.1
    ]

job_act_found : (bytes : List ℕ) (a : Act) (rest : List ℕ) → job_act_at bytes ≡ Some (a, rest) → ActIs bytes rest a
unfolding job_act_at
job_act_found bytes a rest e = elim (when_cases (word_at (codes "job-end ") bytes) _ _ _ e) [
  | inl w ↦ job_end_found bytes w.0 a rest w.1 w.2
  | inr w ↦ elim (when_cases (word_at (codes "job-finished ") bytes) _ _ _ w.1) [
    | inl u ↦
        let k = numbered_found (2 ^ 64) (codes "job-finished ") act.JobFinished bytes u.0 a rest (lit< tt) small u.1 u.2 in
        subst (ActIs bytes rest) k.1 (k.2, k.3)
    | inr u ↦ cc u.1
  ]
]

reset_found : (bytes r : List ℕ) (a : Act) (rest : List ℕ) → word_at (codes "reset ") bytes ≡ Some r → reset_at r ≡ Some (a, rest) → ActIs bytes rest a
reset_found bytes r a rest w e =
    let s = then_some (number_at r) (λ s rest. when (word_at (codes " ") rest) (λ q. mapped (act.Reset s) (nanos_at q)) None) (a, rest) e in
    let n = digits_found (2 ^ 64) r s.0 s.1 (lit< tt) small s.2 in
    elim (when_cases (word_at (codes " ") s.1) _ _ _ s.3) [
      | inl u ↦
          let k = numbered_found (2 ^ 128) (codes " ") (act.Reset s.0) s.1 u.0 a rest (lit< tt) large u.1 u.2 in
          let front : bytes ≡ codes "reset " ++ (decimal s.0 ++ s.1) = word_is (codes "reset ") bytes r w ∙ ap (λ x. codes "reset " ++ x) n.0 in
          let all : bytes ≡ act_text (act.Reset s.0 k.0) ++ rest = front ∙ ap (λ x. codes "reset " ++ (decimal s.0 ++ x)) k.2
          ∙ regroup (codes "reset ") (decimal s.0) (codes " ") (decimal k.0) rest in
          subst (ActIs bytes rest) k.1 (all, (n.1, k.3))
      | inr u ↦ cc u.1
    ]

other_act_found : (bytes : List ℕ) (a : Act) (rest : List ℕ) → other_act_at bytes ≡ Some (a, rest) → ActIs bytes rest a
unfolding other_act_at
other_act_found bytes a rest e = elim (when_cases (word_at (codes "wake ") bytes) _ _ _ e) [
  | inl u ↦
      let k = numbered_found (2 ^ 64) (codes "wake ") act.Wake bytes u.0 a rest (lit< tt) small u.1 u.2 in
      subst (ActIs bytes rest) k.1 (k.2, k.3)
  | inr w0 ↦ elim (when_cases (word_at (codes "block ") bytes) _ _ _ w0.1) [
    | inl u ↦
        let k = numbered_found (2 ^ 64) (codes "block ") act.Block bytes u.0 a rest (lit< tt) small u.1 u.2 in
        subst (ActIs bytes rest) k.1 (k.2, k.3)
    | inr w1 ↦ elim (when_cases (word_at (codes "finished ") bytes) _ _ _ w1.1) [
      | inl u ↦
          let k = numbered_found (2 ^ 64) (codes "finished ") act.Finished bytes u.0 a rest (lit< tt) small u.1 u.2 in
          subst (ActIs bytes rest) k.1 (k.2, k.3)
      | inr w2 ↦ elim (when_cases (word_at (codes "elapsed ") bytes) _ _ _ w2.1) [
        | inl u ↦
            let k = numbered_found (2 ^ 64) (codes "elapsed ") act.SleepElapsed bytes u.0 a rest (lit< tt) small u.1 u.2 in
            subst (ActIs bytes rest) k.1 (k.2, k.3)
        | inr w3 ↦ elim (when_cases (word_at (codes "reset ") bytes) _ _ _ w3.1) [
          | inl u ↦ reset_found bytes u.0 a rest u.1 u.2
          | inr w4 ↦ cc w4.1
        ]
      ]
    ]
  ]
]

act_found : (bytes : List ℕ) (a : Act) (rest : List ℕ) → act_at bytes ≡ Some (a, rest) → ActIs bytes rest a
unfolding act_at
act_found bytes a rest e = elim (chosen (slice_index bytes 0 == 115) _ _ _ e) [
  | inl s ↦ s_act_found bytes a rest s.1
  | inr v ↦ elim (chosen (slice_index bytes 0 == 100) _ _ _ v.1) [
    | inl s ↦ drop_found bytes a rest s.1
    | inr v ↦ elim (chosen (slice_index bytes 0 == 106) _ _ _ v.1) [
      | inl s ↦ job_act_found bytes a rest s.1
      | inr o ↦ other_act_found bytes a rest o.1
    ]
  ]
]

abbrev StepIs : List ℕ → List ℕ → TurnStep → Type 0
StepIs bytes rest s = (bytes ≡ step_text s ++ rest) × FitsStep s

job_step_found : (bytes : List ℕ) (s : TurnStep) (rest : List ℕ) → job_step_at bytes ≡ Some (s, rest) → StepIs bytes rest s
unfolding job_step_at
job_step_found bytes s rest e = elim (when_cases (word_at (codes "join ") bytes) _ _ _ e) [
  | inl u ↦
      let k = numbered_found (2 ^ 64) (codes "join ") (λ t. step.Query (query.Join t)) bytes u.0 s rest (lit< tt) small u.1 u.2 in
      subst (StepIs bytes rest) k.1 (k.2, k.3)
  | inr w0 ↦ elim (when_cases (word_at (codes "job ") bytes) _ _ _ w0.1) [
    | inl u ↦
        let k = numbered_found (2 ^ 64) (codes "job ") (λ j. step.Query (query.Job j)) bytes u.0 s rest (lit< tt) small u.1 u.2 in
        subst (StepIs bytes rest) k.1 (k.2, k.3)
    | inr w1 ↦
        let k = mapped_some step.Act (job_act_at bytes) s rest w1.1 in
        subst (StepIs bytes rest) k.2 (job_act_found bytes k.0 rest k.1)
  ]
]

step_found : (bytes : List ℕ) (s : TurnStep) (rest : List ℕ) → step_at bytes ≡ Some (s, rest) → StepIs bytes rest s
unfolding step_at
step_found bytes s rest e = elim (chosen (slice_index bytes 0 == 112) _ _ _ e) [
  | inl p ↦ elim (when_cases (word_at (codes "poll ") bytes) _ _ _ p.1) [
    | inl u ↦
        let k = numbered_found (2 ^ 64) (codes "poll ") (λ n. step.Query (query.Sleep n)) bytes u.0 s rest (lit< tt) small u.1 u.2 in
        subst (StepIs bytes rest) k.1 (k.2, k.3)
    | inr u ↦ cc u.1
  ]
  | inr v ↦ elim (chosen (slice_index bytes 0 == 106) _ _ _ v.1) [
    | inl j ↦ job_step_found bytes s rest j.1
    | inr o ↦
        let k = mapped_some step.Act (act_at bytes) s rest o.1 in
        subst (StepIs bytes rest) k.2 (act_found bytes k.0 rest k.1)
  ]
]

abbrev EndIs : List ℕ → List ℕ → End → Type 0
EndIs bytes rest e = (bytes ≡ end_text e ++ rest) × FitsEnd e

end_found : (bytes : List ℕ) (e : End) (rest : List ℕ) → end_at bytes ≡ Some (Some (e, rest)) → EndIs bytes rest e
unfolding end_at
end_found bytes e rest h = elim (when_cases (word_at (codes "pending") bytes) _ _ _ h) [
  | inl w ↦
      let k : (end.Pending ≡ e) × (w.0 ≡ rest) = grind (arith, w.2) in
      subst (EndIs bytes rest) k.0 (word_is (codes "pending") bytes w.0 w.1 ∙ ap (λ r. codes "pending" ++ r) k.1, tt)
  | inr w ↦ elim (when_cases (word_at (codes "ready ") bytes) _ _ _ w.1) [
    | inl u ↦
        let m : mapped end.Ready (digits_from (2 ^ 64) 0 0 u.0) ≡ Some (e, rest) = grind (arith, u.2) in
        let k = numbered_found (2 ^ 64) (codes "ready ") end.Ready bytes u.0 e rest (lit< tt) small u.1 m in
        subst (EndIs bytes rest) k.1 (k.2, k.3)
    | inr u ↦ cc u.1
  ]
]

-- the parts of a turn whose first steps were read
record PartsAre (front : List TurnStep) (bytes rest : List ℕ) (e : Event) : Type 0 where
  steps : List TurnStep
  last : End
  is : event.Turn (front ++ steps) last ≡ e
  text : bytes ≡ parts_text steps last ++ rest
  fit : FitSteps steps
  fits : FitsEnd last

ends_cases : (f : End → Event) (o : Option (Read End)) (other : Read Event) (y : Event) (rest : List ℕ) → ends_or f o other ≡ Some (y, rest)
    → ((e : End) × (o ≡ Some (Some (e, rest))) × (f e ≡ y)) ⊎ ((o ≡ None) × (other ≡ Some (y, rest)))
ends_cases f None other y rest h = inr (refl, h)
ends_cases f (Some o) other y rest h = let k = mapped_some f o y rest h in inl (k.0, ap Some k.1, k.2)

parts_found : (most : ℕ) (front : List TurnStep) (bytes : List ℕ) (e : Event) (rest : List ℕ) → parts_at most front bytes ≡ Some (e, rest) → PartsAre front bytes rest e
unfolding parts_at
parts_found zero front bytes e rest h = cc h
parts_found (suc most) front bytes e rest h = elim (when_cases (word_at (codes "; ") bytes) _ _ _ h) [
  | inr w ↦ cc w.1
  | inl w ↦
      let b : bytes ≡ codes "; " ++ w.0 = word_is (codes "; ") bytes w.0 w.1 in
      elim (ends_cases (event.Turn front) (end_at w.0) _ e rest w.2) [
        | inl n ↦
            let k = end_found w.0 n.0 rest n.1 in
            record { steps = []; last = n.0; is = rw (append-nil front) n.2; text = b ∙ ap (λ r. codes "; " ++ r) k.0; fit = tt; fits = k.1 }
        | inr n ↦
            let s = then_some (step_at w.0) (λ x r. parts_at most (front ++ x ∷ []) r) (e, rest) n.1 in
            let k = step_found w.0 s.0 s.1 s.2 in
            let more = parts_found most (front ++ s.0 ∷ []) s.1 e rest s.3 in
            record {
              steps = s.0 ∷ more.steps;
              last = more.last;
              is = ap (λ x. event.Turn x more.last) (sym (append_assoc front (s.0 ∷ []) more.steps)) ∙ more.is;
              text = b ∙ ap (λ r. codes "; " ++ r) (k.0 ∙ ap (λ r. step_text s.0 ++ r) more.text ∙ sym (append_assoc (step_text s.0) (parts_text more.steps more.last) rest));
              fit = (k.1, more.fit);
              fits = more.fits;
            }
      ]
]

abbrev pub EventIs : List ℕ → List ℕ → Event → Type 0
EventIs bytes rest e = (bytes ≡ event_text e ++ rest) × FitsEvent e

pub event_found : (bytes : List ℕ) (e : Event) (rest : List ℕ) → event_at bytes ≡ Some (e, rest) → EventIs bytes rest e
unfolding event_at
event_found bytes e rest h = elim (when_cases (word_at (codes "turn") bytes) _ _ _ h) [
  | inl w ↦
      let k = parts_found (length w.0) [] w.0 e rest w.2 in
      subst (EventIs bytes rest) k.is (word_is (codes "turn") bytes w.0 w.1 ∙ ap (λ r. codes "turn" ++ r) k.text, (k.fit, k.fits))
  | inr w ↦ elim (when_cases (word_at (codes "clock ") bytes) _ _ _ w.1) [
    | inl u ↦
        let k = numbered_found (2 ^ 128) (codes "clock ") event.Clock bytes u.0 e rest (lit< tt) large u.1 u.2 in
        subst (EventIs bytes rest) k.1 (k.2, k.3)
    | inr w ↦ elim (when_cases (word_at (codes "remote ") bytes) _ _ _ w.1) [
      | inl u ↦
          let k = numbered_found (2 ^ 64) (codes "remote ") event.Remote bytes u.0 e rest (lit< tt) small u.1 u.2 in
          subst (EventIs bytes rest) k.1 (k.2, k.3)
      | inr w ↦ elim (when_cases (word_at (codes "drain") bytes) _ _ _ w.1) [
        | inl u ↦
            let k : (event.Drain ≡ e) × (u.0 ≡ rest) = grind (arith, u.2) in
            subst (EventIs bytes rest) k.0 (word_is (codes "drain") bytes u.0 u.1 ∙ ap (λ r. codes "drain" ++ r) k.1, tt)
        | inr u ↦
            let k = mapped_some event.Act (act_at bytes) e rest u.1 in
            subst (EventIs bytes rest) k.2 (act_found bytes k.0 rest k.1)
      ]
    ]
  ]
]

pub line_found : (bytes : List ℕ) (e : Event) (rest : List ℕ) → line_at bytes ≡ Some (e, rest) → (bytes ≡ event_text e ++ 10 ∷ rest) × FitsEvent e
unfolding line_at
line_found bytes e rest h =
    let s = then_some (event_at bytes) (λ x r. when (word_at (10 ∷ []) r) (λ r. Some (x, r)) None) (e, rest) h in
    elim (when_cases (word_at (10 ∷ []) s.1) _ _ _ s.3) [
      | inl w ↦
          let k : (s.0 ≡ e) × (w.0 ≡ rest) = grind (arith, w.2) in
          let f = event_found bytes s.0 s.1 s.2 in
          let b : s.1 ≡ 10 ∷ rest = word_is (10 ∷ []) s.1 w.0 w.1 ∙ ap (λ r. 10 ∷ r) k.1 in
          subst (λ x. (bytes ≡ event_text x ++ 10 ∷ rest) × FitsEvent x) k.0 (f.0 ∙ ap (λ r. event_text s.0 ++ r) b, f.1)
      | inr w ↦ cc w.1
    ]

-- ---- each spelling is read so

how_again : (h : How) (rest : List ℕ) → how_at (how_text h ++ rest) ≡ Some (h, rest)
how_again how.Ran rest = refl
how_again how.Canceled rest = refl

act_again : (a : Act) (rest : List ℕ) → FitsAct a → starts_digit rest ≡ false → act_at (act_text a ++ rest) ≡ Some (a, rest)
unfolding act_at s_act_at drop_at job_act_at other_act_at
act_again act.Spawn rest f d = refl
act_again (act.Wake t) rest f d = rw (digits_again (2 ^ 64) t rest small f d) refl
act_again (act.NewSleep n) rest f d = rw (digits_again (2 ^ 128) n rest large f d) refl
act_again (act.Reset s n) rest f d =
    ap act_at (sym (regroup (codes "reset ") (decimal s) (codes " ") (decimal n) rest))
    ∙ rw (digits_again (2 ^ 64) s (codes " " ++ decimal n ++ rest) small f.0 refl, digits_again (2 ^ 128) n rest large f.1 d) refl
act_again (act.DropSleep s) rest f d = rw (digits_again (2 ^ 64) s rest small f d) refl
act_again (act.DropJoin t) rest f d = rw (digits_again (2 ^ 64) t rest small f d) refl
act_again (act.Block o) rest f d = rw (digits_again (2 ^ 64) o rest small f d) refl
act_again (act.DropJob j) rest f d = rw (digits_again (2 ^ 64) j rest small f d) refl
act_again (act.Finished t) rest f d = rw (digits_again (2 ^ 64) t rest small f d) refl
act_again (act.JobFinished j) rest f d = rw (digits_again (2 ^ 64) j rest small f d) refl
act_again (act.SleepElapsed s) rest f d = rw (digits_again (2 ^ 64) s rest small f d) refl
act_again (act.JobEnd j h) rest f d =
    ap act_at (sym (regroup (codes "job-end ") (decimal j) (codes " ") (how_text h) rest))
    ∙ rw (digits_again (2 ^ 64) j (codes " " ++ how_text h ++ rest) small f refl, how_again h rest) refl

-- the text of an act begins with no other word
act_is_no_poll : (a : Act) (rest : List ℕ) → FitsAct a → step_at (act_text a ++ rest) ≡ mapped step.Act (act_at (act_text a ++ rest))
unfolding step_at job_step_at act_at
act_is_no_poll act.Spawn rest f = refl
act_is_no_poll (act.Wake t) rest f = refl
act_is_no_poll (act.NewSleep n) rest f = refl
act_is_no_poll (act.Reset s n) rest f = refl
act_is_no_poll (act.DropSleep s) rest f = refl
act_is_no_poll (act.DropJoin t) rest f = refl
act_is_no_poll (act.Block o) rest f = refl
act_is_no_poll (act.DropJob j) rest f = refl
act_is_no_poll (act.Finished t) rest f = refl
act_is_no_poll (act.JobFinished j) rest f = refl
act_is_no_poll (act.SleepElapsed s) rest f = refl
act_is_no_poll (act.JobEnd j h) rest f = refl

step_again : (s : TurnStep) (rest : List ℕ) → FitsStep s → starts_digit rest ≡ false → step_at (step_text s ++ rest) ≡ Some (s, rest)
unfolding step_at job_step_at
step_again (step.Act a) rest f d = act_is_no_poll a rest f ∙ rw (act_again a rest f d) refl
step_again (step.Query (query.Sleep s)) rest f d = rw (digits_again (2 ^ 64) s rest small f d) refl
step_again (step.Query (query.Join t)) rest f d = rw (digits_again (2 ^ 64) t rest small f d) refl
step_again (step.Query (query.Job j)) rest f d = rw (digits_again (2 ^ 64) j rest small f d) refl

end_again : (e : End) (rest : List ℕ) → FitsEnd e → starts_digit rest ≡ false → end_at (end_text e ++ rest) ≡ Some (Some (e, rest))
unfolding end_at
end_again end.Pending rest f d = refl
end_again (end.Ready o) rest f d = rw (digits_again (2 ^ 64) o rest small f d) refl

act_is_no_end : (a : Act) (rest : List ℕ) → FitsAct a → end_at (act_text a ++ rest) ≡ None
unfolding end_at
act_is_no_end act.Spawn rest f = refl
act_is_no_end (act.Wake t) rest f = refl
act_is_no_end (act.NewSleep n) rest f = refl
act_is_no_end (act.Reset s n) rest f = refl
act_is_no_end (act.DropSleep s) rest f = refl
act_is_no_end (act.DropJoin t) rest f = refl
act_is_no_end (act.Block o) rest f = refl
act_is_no_end (act.DropJob j) rest f = refl
act_is_no_end (act.Finished t) rest f = refl
act_is_no_end (act.JobFinished j) rest f = refl
act_is_no_end (act.SleepElapsed s) rest f = refl
act_is_no_end (act.JobEnd j h) rest f = refl

step_is_no_end : (s : TurnStep) (rest : List ℕ) → FitsStep s → end_at (step_text s ++ rest) ≡ None
unfolding end_at
step_is_no_end (step.Act a) rest f = act_is_no_end a rest f
step_is_no_end (step.Query (query.Sleep s)) rest f = refl
step_is_no_end (step.Query (query.Join t)) rest f = refl
step_is_no_end (step.Query (query.Job j)) rest f = refl

-- parts begin with a semicolon
parts_no_digit : (steps : List TurnStep) (e : End) (rest : List ℕ) → starts_digit (parts_text steps e ++ rest) ≡ false
parts_no_digit [] e rest = refl
parts_no_digit (s ∷ steps) e rest = refl

parts_again : (steps : List TurnStep) (e : End) (most : ℕ) (front : List TurnStep) (rest : List ℕ) → length steps < most → FitSteps steps → FitsEnd e → starts_digit rest ≡ false
    → parts_at most front (parts_text steps e ++ rest) ≡ Some (event.Turn (front ++ steps) e, rest)
unfolding parts_at
parts_again steps e zero front rest l f g d = absurd (omega arith)
parts_again [] e (suc most) front rest l f g d = rw (end_again e rest g d, append-nil front) refl
parts_again (s ∷ steps) e (suc most) front rest l f g d =
    let t = append_assoc (step_text s) (parts_text steps e) rest in
    let n = step_is_no_end s (parts_text steps e ++ rest) f.0 in
    let k = step_again s (parts_text steps e ++ rest) f.0 (parts_no_digit steps e rest) in
    rw (t, n, k) (parts_again steps e most (front ++ s ∷ []) rest (omega arith) f.1 g d ∙ ap (λ x. Some (event.Turn x e, rest)) (append_assoc front (s ∷ []) steps))

parts_long : (steps : List TurnStep) (e : End) → length steps < length (parts_text steps e)
parts_long [] e = omega arith
parts_long (s ∷ steps) e = omega (arith, length-append (step_text s) (parts_text steps e), parts_long steps e)

act_is_no_event : (a : Act) (rest : List ℕ) → FitsAct a → event_at (act_text a ++ rest) ≡ mapped event.Act (act_at (act_text a ++ rest))
unfolding event_at
act_is_no_event act.Spawn rest f = refl
act_is_no_event (act.Wake t) rest f = refl
act_is_no_event (act.NewSleep n) rest f = refl
act_is_no_event (act.Reset s n) rest f = refl
act_is_no_event (act.DropSleep s) rest f = refl
act_is_no_event (act.DropJoin t) rest f = refl
act_is_no_event (act.Block o) rest f = refl
act_is_no_event (act.DropJob j) rest f = refl
act_is_no_event (act.Finished t) rest f = refl
act_is_no_event (act.JobFinished j) rest f = refl
act_is_no_event (act.SleepElapsed s) rest f = refl
act_is_no_event (act.JobEnd j h) rest f = refl

pub event_again : (e : Event) (rest : List ℕ) → FitsEvent e → starts_digit rest ≡ false → event_at (event_text e ++ rest) ≡ Some (e, rest)
unfolding event_at
event_again (event.Act a) rest f d = act_is_no_event a rest f ∙ rw (act_again a rest f d) refl
event_again (event.Turn steps e) rest f d =
    parts_again steps e (length (parts_text steps e ++ rest)) [] rest (omega (arith, length-append (parts_text steps e) rest, parts_long steps e)) f.0 f.1 d
event_again (event.Clock n) rest f d = rw (digits_again (2 ^ 128) n rest large f d) refl
event_again (event.Remote t) rest f d = rw (digits_again (2 ^ 64) t rest small f d) refl
event_again event.Drain rest f d = refl

pub line_again : (e : Event) (rest : List ℕ) → FitsEvent e → line_at (event_text e ++ 10 ∷ rest) ≡ Some (e, rest)
unfolding line_at
line_again e rest f = rw (event_again e (10 ∷ rest) f refl) refl

pub one_event : OneEvent
one_event bytes e other rest behind b c =
    let same : ◌≡◌ {A = Read Event} (Some (e, rest)) (Some (other, behind)) = sym (ap line_at b.0 ∙ line_again e rest b.1) ∙ (ap line_at c.0 ∙ line_again other behind c.1) in
    grind (arith, same)

-- ---- both for the result of a line of code

pub found_line : {E : Type 0} (r : Result (Option Event) E) (bytes rest : List ℕ) → GivesIf r rest (line_at bytes) → IfOk r (λ found. IfSome found (λ e. BeginsWith bytes e rest))
found_line (Ok None) bytes rest g = tt
found_line (Ok (Some e)) bytes rest g = line_found bytes e rest g
found_line (Err e) bytes rest g = tt

pub no_line : {E : Type 0} (r : Result (Option Event) E) (bytes rest : List ℕ) → GivesIf r rest (line_at bytes) → IfOk r (λ found. IfNone found (BeginsWithNone bytes))
no_line (Ok None) bytes rest g = λ e behind b.
    let same : line_at bytes ≡ Some (e, behind) = ap line_at b.0 ∙ line_again e behind b.1 in
    let bad : ◌≡◌ {A = Read Event} None (Some (e, behind)) = sym g ∙ same in
    cc bad
no_line (Ok (Some e)) bytes rest g = tt
no_line (Err e) bytes rest g = tt
