-- The meaning of an input's lines.
use Rattle.std.proofs.Common.{◌≡◌, ℕ, ◌<◌, ◌^◌, List, [], ◌∷◌, ◌++◌, true, false, nat_eq, refl, sym, ap, subst, ◌∙◌, arith, inl, inr, codes}
use Rattle.std.proofs.lemmas.Bool.{cases_Bool, eqb-true}
use Rattle.std.proofs.lemmas.Fmt.{decimal_is_IsNumeral_wide}
use Rattle.std.proofs.lemmas.Grind.{common_steps}
use Rattle.std.proofs.lemmas.Str.Parse.{digit_from_value}
use Rattle.std.specs.Fmt.{decimal}
use Rattle.std.specs.Str.Parse.{AllDigits}
use Rattle.mono_machine.specs.declared.events.Act.{Act}
use Rattle.mono_machine.specs.declared.events.Act.TheVariants as act
use Rattle.mono_machine.specs.declared.events.How.{How}
use Rattle.mono_machine.specs.declared.events.How.TheVariants as how
use Rattle.mono_machine.specs.declared.events.Query.TheVariants as query
use Rattle.mono_machine.specs.declared.events.TurnStep.{TurnStep}
use Rattle.mono_machine.specs.declared.events.TurnStep.TheVariants as step
use Rattle.mono_machine.specs.declared.events.End.{End}
use Rattle.mono_machine.specs.declared.events.End.TheVariants as end
use Rattle.mono_machine.specs.declared.events.Event.{Event}
use Rattle.mono_machine.specs.declared.events.Event.TheVariants as event
use Rattle.mono_text.specs.LineText.{how_text, act_text, step_text, end_text, parts_text, event_text, FitsAct, FitsStep, FitsEnd, FitSteps, FitsEvent}
use Rattle.mono_text.specs.Lines.{AreLines, IsFirstWrong, Line, onto_first, lines, IsEventLine, AreEventLines, IsFirstBad, BeginsWithNone}

-- ---- the text of an event has no line feed

abbrev pub NoFeed : List ℕ → Type 0
NoFeed [] = Unit {0}
NoFeed (b ∷ bs) = (nat_eq b 10 ≡ false) × NoFeed bs

pub no_feed_both : (xs ys : List ℕ) → NoFeed xs → NoFeed ys → NoFeed (xs ++ ys)
no_feed_both [] ys p q = q
no_feed_both (x ∷ xs) ys p q = (p.0, no_feed_both xs ys p.1 q)

pub no_feed_digits : (ds : List ℕ) → AllDigits 10 ds → NoFeed ds
no_feed_digits [] d = tt
no_feed_digits (c ∷ cs) d =
    let k = digit_from_value c d.0 in
    let no : nat_eq c 10 ≡ false = grind (arith, common_steps, k.0) in
    (no, no_feed_digits cs d.1)

pub no_feed_number : (word : List ℕ) (n : ℕ) → NoFeed word → n < 10 ^ 64 → NoFeed (word ++ decimal n)
no_feed_number word n p l = no_feed_both word (decimal n) p (no_feed_digits (decimal n) (decimal_is_IsNumeral_wide n l).0.1)

no_feed_how : (h : How) → NoFeed (how_text h)
no_feed_how how.Ran = (refl, (refl, (refl, tt)))
no_feed_how how.Canceled = (refl, (refl, (refl, (refl, (refl, (refl, (refl, (refl, tt))))))))

no_feed_act : (a : Act) → FitsAct a → NoFeed (act_text a)
no_feed_act act.Spawn f = (refl, (refl, (refl, (refl, (refl, tt)))))
no_feed_act (act.Wake t) f = no_feed_number (codes "wake ") t (refl, (refl, (refl, (refl, (refl, tt))))) (omega arith)
no_feed_act (act.NewSleep n) f = no_feed_number (codes "sleep ") n (refl, (refl, (refl, (refl, (refl, (refl, tt)))))) (omega arith)
no_feed_act (act.Reset s n) f =
    no_feed_number (codes "reset " ++ decimal s ++ codes " ") n (no_feed_both (codes "reset " ++ decimal s) (codes " ") (no_feed_number (codes "reset ") s (refl, (refl, (refl, (refl, (refl, (refl, tt)))))) (omega (arith, f.0))) (refl, tt)) (omega (arith, f.1))
no_feed_act (act.DropSleep s) f = no_feed_number (codes "drop-sleep ") s (refl, (refl, (refl, (refl, (refl, (refl, (refl, (refl, (refl, (refl, (refl, tt))))))))))) (omega arith)
no_feed_act (act.DropJoin t) f = no_feed_number (codes "drop-join ") t (refl, (refl, (refl, (refl, (refl, (refl, (refl, (refl, (refl, (refl, tt)))))))))) (omega arith)
no_feed_act (act.Block o) f = no_feed_number (codes "block ") o (refl, (refl, (refl, (refl, (refl, (refl, tt)))))) (omega arith)
no_feed_act (act.DropJob j) f = no_feed_number (codes "drop-job ") j (refl, (refl, (refl, (refl, (refl, (refl, (refl, (refl, (refl, tt))))))))) (omega arith)
no_feed_act (act.Finished t) f = no_feed_number (codes "finished ") t (refl, (refl, (refl, (refl, (refl, (refl, (refl, (refl, (refl, tt))))))))) (omega arith)
no_feed_act (act.JobFinished j) f = no_feed_number (codes "job-finished ") j (refl, (refl, (refl, (refl, (refl, (refl, (refl, (refl, (refl, (refl, (refl, (refl, (refl, tt))))))))))))) (omega arith)
no_feed_act (act.SleepElapsed s) f = no_feed_number (codes "elapsed ") s (refl, (refl, (refl, (refl, (refl, (refl, (refl, (refl, tt)))))))) (omega arith)
no_feed_act (act.JobEnd j h) f =
    no_feed_both (codes "job-end " ++ decimal j ++ codes " ") (how_text h) (no_feed_both (codes "job-end " ++ decimal j) (codes " ") (no_feed_number (codes "job-end ") j (refl, (refl, (refl, (refl, (refl, (refl, (refl, (refl, tt)))))))) (omega arith)) (refl, tt)) (no_feed_how h)

no_feed_step : (s : TurnStep) → FitsStep s → NoFeed (step_text s)
no_feed_step (step.Act a) f = no_feed_act a f
no_feed_step (step.Query (query.Sleep s)) f = no_feed_number (codes "poll ") s (refl, (refl, (refl, (refl, (refl, tt))))) (omega arith)
no_feed_step (step.Query (query.Join t)) f = no_feed_number (codes "join ") t (refl, (refl, (refl, (refl, (refl, tt))))) (omega arith)
no_feed_step (step.Query (query.Job j)) f = no_feed_number (codes "job ") j (refl, (refl, (refl, (refl, tt)))) (omega arith)

no_feed_end : (e : End) → FitsEnd e → NoFeed (end_text e)
no_feed_end end.Pending f = (refl, (refl, (refl, (refl, (refl, (refl, (refl, tt)))))))
no_feed_end (end.Ready o) f = no_feed_number (codes "ready ") o (refl, (refl, (refl, (refl, (refl, (refl, tt)))))) (omega arith)

no_feed_parts : (steps : List TurnStep) (e : End) → FitSteps steps → FitsEnd e → NoFeed (parts_text steps e)
no_feed_parts [] e f g = (refl, (refl, no_feed_end e g))
no_feed_parts (s ∷ steps) e f g = (refl, (refl, no_feed_both (step_text s) (parts_text steps e) (no_feed_step s f.0) (no_feed_parts steps e f.1 g)))

pub no_feed_event : (e : Event) → FitsEvent e → NoFeed (event_text e)
no_feed_event (event.Act a) f = no_feed_act a f
no_feed_event (event.Turn steps e) f = (refl, (refl, (refl, (refl, no_feed_parts steps e f.0 f.1))))
no_feed_event (event.Clock n) f = no_feed_number (codes "clock ") n (refl, (refl, (refl, (refl, (refl, (refl, tt)))))) (omega arith)
no_feed_event (event.Remote t) f = no_feed_number (codes "remote ") t (refl, (refl, (refl, (refl, (refl, (refl, (refl, tt))))))) (omega arith)
no_feed_event event.Drain f = (refl, (refl, (refl, (refl, (refl, tt)))))

-- ---- lines

unfoldable pub ended : List ℕ → Line
ended text = record { bytes = text; is_ended = true }

pub lines_front : (text rest : List ℕ) → NoFeed text → lines (text ++ 10 ∷ rest) ≡ ended text ∷ lines rest
unfolding ended
lines_front [] rest p = refl
lines_front (b ∷ text) rest p = rw (p.0, lines_front text rest p.1) refl

-- an input that isn't empty has a first line
pub first_line : (b : ℕ) (bytes : List ℕ) → (l : Line) × (ls : List Line) × (lines (b ∷ bytes) ≡ l ∷ ls)
first_line b bytes = elim (cases_Bool (nat_eq b 10)) [
  | inl feed ↦ (record { bytes = []; is_ended = true }, lines bytes, rw feed refl)
  | inr other ↦ onto b (lines bytes) (rw other refl)
]
  where
    onto : (b : ℕ) (ls : List Line) → lines (b ∷ bytes) ≡ onto_first b ls → (l : Line) × (more : List Line) × (lines (b ∷ bytes) ≡ l ∷ more)
    onto b [] e = (record { bytes = b ∷ []; is_ended = false }, [], e)
    onto b (l ∷ ls) e = (record { bytes = b ∷ l.bytes; is_ended = l.is_ended }, ls, e)

-- a line that ended is in the bytes with its line feed
pub line_in : (bytes : List ℕ) (l : Line) (ls : List Line) → lines bytes ≡ l ∷ ls → l.is_ended ≡ true → (rest : List ℕ) × (bytes ≡ l.bytes ++ 10 ∷ rest)
line_in [] l ls e t = cc e
line_in (b ∷ bytes) l ls e t = elim (cases_Bool (nat_eq b 10)) [
  | inl feed ↦
      let same = rw feed at e in
      let k : record { bytes = []; is_ended = true } ≡ l = grind (arith, same) in
      (bytes, rw (eqb-true b 10 feed, sym (ap (λ (x : Line). x.bytes) k)) refl)
  | inr other ↦ onto (λ first more m u. line_in bytes first more m u) (lines bytes) refl (rw other at e)
]
  where
    onto : ((first : Line) (more : List Line) → lines bytes ≡ first ∷ more → first.is_ended ≡ true → (rest : List ℕ) × (bytes ≡ first.bytes ++ 10 ∷ rest)) → (more : List Line) → lines bytes ≡ more → onto_first b more ≡ l ∷ ls → (rest : List ℕ) × (b ∷ bytes ≡ l.bytes ++ 10 ∷ rest)
    onto below [] m k =
        let is : record { bytes = b ∷ []; is_ended = false } ≡ l = grind (arith, k) in
        cc (ap (λ (x : Line). x.is_ended) is ∙ t)
    onto below (first ∷ more) m k =
        let is : record { bytes = b ∷ first.bytes; is_ended = first.is_ended } ≡ l = grind (arith, k) in
        let in_rest = below first more m (ap (λ (x : Line). x.is_ended) is ∙ t) in
        (in_rest.0, ap (λ x. b ∷ x) in_rest.1 ∙ ap (λ (x : Line). x.bytes ++ 10 ∷ in_rest.0) is)

-- the first line spells no event if the bytes begin with none
pub no_event : (bytes : List ℕ) (l : Line) (ls : List Line) → lines bytes ≡ l ∷ ls → BeginsWithNone bytes → (e : Event) → IsEventLine e l → ⊥
no_event bytes l ls is none e line =
    let k = line_in bytes l ls is line.is_ended in
    none e k.0 (k.1 ∙ ap (λ x. x ++ 10 ∷ k.0) line.text, line.fits)

-- ---- one more line

pub each_more : (events : List Event) (ls : List Line) (e : Event) (l : Line) → AreEventLines events ls → IsEventLine e l → AreEventLines (events ++ e ∷ []) (ls ++ l ∷ [])
each_more [] [] e l p q = (q, tt)
each_more [] (x ∷ ls) e l p q = absurd p
each_more (x ∷ events) [] e l p q = absurd p
each_more (x ∷ events) (y ∷ ls) e l p q = (p.0, each_more events ls e l p.1 q)

-- lines that all say values have no first wrong one
good_and_bad : {A : Type 0} (Says : A → Line → Type 0) (good : List Line) (bad : Line) (rest : List Line) (xs : List A) → AreLines Says xs (good ++ bad ∷ rest) → ((x : A) → Says x bad → ⊥) → ⊥
good_and_bad Says [] bad rest [] p none = p
good_and_bad Says [] bad rest (x ∷ xs) p none = none x p.0
good_and_bad Says (g ∷ good) bad rest [] p none = p
good_and_bad Says (g ∷ good) bad rest (x ∷ xs) p none = good_and_bad Says good bad rest xs p.1 none

pub not_both_of : {A : Type 0} (Says : A → Line → Type 0) (xs : List A) (ls : List Line) (n : ℕ) → AreLines Says xs ls → IsFirstWrong Says ls n → ⊥
not_both_of Says xs ls n p b = good_and_bad Says b.1 b.2 b.3 xs (subst (AreLines Says xs) b.4 p) b.7

pub not_both : (events : List Event) (ls : List Line) (n : ℕ) → AreEventLines events ls → IsFirstBad ls n → ⊥
not_both events ls n p b = not_both_of IsEventLine events ls n p b
