-- The check so far, and the rest of the input.
use Rattle.std.proofs.Common.{◌≡◌, ℕ, ◌+◌, ◌<◌, ◌≤◌, Bool, true, List, [], ◌∷◌, ◌++◌, length, map, Option, Some, None, IfSome, refl, sym, ap, subst, ◌∙◌, arith, append_assoc, length-append}
use Rattle.std.proofs.lemmas.List.{append-nil, map-append, length-map}
use Rattle.mono_machine.specs.Machine.{Machine, start_machine}
use Rattle.mono_machine.specs.Steps.{Step, Run}
use Rattle.mono_machine.specs.declared.events.Event.{Event}
use Rattle.mono_machine.specs.declared.events.Report.{Report}
use Rattle.mono_machine.specs.declared.events.Limits.{Limits}
use Rattle.mono_machine.specs.declared.events.Blocking.{Blocking}
use Rattle.mono_text.specs.Lines.{Line, lines}
use Rattle.mono_text.proofs.InputLineLemmas.{ended, lines_front, first_line}
use Rattle.mono_trace.specs.Verdicts.{IsNoStep, FailsAt, MayAnswer, MayAnswerAt}
use Rattle.mono_trace.specs.OrderProgress.{Follows}
use Rattle.mono_trace.specs.declared.orders.Order.{Order}
use Rattle.mono_lines.specs.Journal.{journal_text, IsJournalLine, AreJournalLines, IsFirstBad, BeginsWith, BeginsWithNone, events_in, reports_in, line_of_pair, mark_of, FailsInPair}
use Rattle.mono_lines.specs.CheckProgress.{StandsAt, LeadsOn, KeepsOrder, FailsIn, HasRead}
use Rattle.mono_lines.specs.declared.trace.checks.Checked.{Checked}
use Rattle.mono_lines.specs.declared.trace.checks.Failed.{Failed}
use Rattle.mono_lines.specs.declared.trace.journal.JournalLine.{JournalLine}
use Rattle.mono_lines.specs.declared.trace.journal.JournalLine.TheVariants.{Ran, Now, Park, Main}
use Rattle.mono_lines.proofs.JournalLineLemmas.{no_feed_journal, no_journal}

-- ---- one more line

events_more : (said : List JournalLine) (x : JournalLine) → events_in (said ++ x ∷ []) ≡ events_in said ++ events_in (x ∷ [])
events_more [] x = refl
events_more (Ran e r ∷ said) x = ap (λ l. e ∷ l) (events_more said x)
events_more (Now n ∷ said) x = events_more said x
events_more (Park millis ∷ said) x = events_more said x
events_more (Main o ∷ said) x = events_more said x

reports_more : (said : List JournalLine) (x : JournalLine) → reports_in (said ++ x ∷ []) ≡ reports_in said ++ reports_in (x ∷ [])
reports_more [] x = refl
reports_more (Ran e r ∷ said) x = ap (λ l. r ∷ l) (reports_more said x)
reports_more (Now n ∷ said) x = reports_more said x
reports_more (Park millis ∷ said) x = reports_more said x
reports_more (Main o ∷ said) x = reports_more said x

run_more : (start : Machine) (events : List Event) (reports : List Report) (mid : Machine) (e : Event) (r : Report) (new : Machine)
    → Run start events reports mid → Step mid e r new → Run start (events ++ e ∷ []) (reports ++ r ∷ []) new
run_more start [] [] mid e r new run step = (new, subst (λ m. Step m e r new) run step, refl)
run_more start [] (a ∷ reports) mid e r new run step = absurd run
run_more start (a ∷ events) [] mid e r new run step = absurd run
run_more start (a ∷ events) (b ∷ reports) mid e r new run step = (run.0, run.1, run_more run.0 events reports mid e r new run.2 step)

pub steps_on : (n : ℕ) (e : Event) (r : Report) (m new : Machine) → Step m e r new → LeadsOn n (Ran e r) None m None new
steps_on n e r m new step = λ start said line run.
    subst (λ es. Run start es (reports_in (said ++ Ran e r ∷ [])) new) (sym (events_more said (Ran e r)))
    (subst (λ rs. Run start (events_in said ++ e ∷ []) rs new) (sym (reports_more said (Ran e r))) (run_more start (events_in said) (reports_in said) m e r new run step))

pub fails_here : (n : ℕ) (e : Event) (r : Report) (m new : Machine) (found : Option Report) → IsNoStep m e r → IfSome found (λ other. MayAnswer m e other)
    → LeadsOn n (Ran e r) None m (Some (record { line = n; answer = found })) new
fails_here n e r m new found no_step answers = λ start said line run.
    record { front = said; event = e; report = r; rest = []; mid = m; is = refl; run = run; no_step = no_step; line = line; answers = answers }

pub has_failed : (n : ℕ) (k : Failed) (x : JournalLine) (m new : Machine) → LeadsOn n x (Some k) m (Some k) new
has_failed n k x m new = λ start said line f.
    record {
      front = f.front;
      event = f.event;
      report = f.report;
      rest = f.rest ++ x ∷ [];
      mid = f.mid;
      is = ap (λ l. l ++ x ∷ []) f.is ∙ append_assoc f.front (Ran f.event f.report ∷ f.rest) (x ∷ []);
      run = f.run;
      no_step = f.no_step;
      line = f.line;
      answers = f.answers;
    }

pub stays_failed : (n : ℕ) (e : Event) (r : Report) (failed : Option Failed) (m : Machine) → (failed ≡ None → ⊥) → LeadsOn n (Ran e r) failed m failed m
stays_failed n e r None m some = absurd (some refl)
stays_failed n e r (Some k) m some = has_failed n k (Ran e r) m m

same_run : (start m : Machine) (said : List JournalLine) (x : JournalLine) → events_in (x ∷ []) ≡ [] → reports_in (x ∷ []) ≡ [] → Run start (events_in said) (reports_in said) m
    → Run start (events_in (said ++ x ∷ [])) (reports_in (said ++ x ∷ [])) m
same_run start m said x e r run =
    subst (λ es. Run start es (reports_in (said ++ x ∷ [])) m) (sym (events_more said x ∙ ap (λ l. events_in said ++ l) e ∙ append-nil (events_in said)))
    (subst (λ rs. Run start (events_in said) rs m) (sym (reports_more said x ∙ ap (λ l. reports_in said ++ l) r ∙ append-nil (reports_in said))) run)

passes : (n : ℕ) (x : JournalLine) (failed : Option Failed) (m : Machine) → events_in (x ∷ []) ≡ [] → reports_in (x ∷ []) ≡ [] → LeadsOn n x failed m failed m
passes n x None m e r = λ start said line run. same_run start m said x e r run
passes n x (Some k) m e r = has_failed n k x m m

pub passes_now : (n at : ℕ) (failed : Option Failed) (m : Machine) → LeadsOn n (Now at) failed m failed m
passes_now n at failed m = passes n (Now at) failed m refl refl

pub passes_park : (n : ℕ) (millis : Option ℕ) (failed : Option Failed) (m : Machine) → LeadsOn n (Park millis) failed m failed m
passes_park n millis failed m = passes n (Park millis) failed m refl refl

pub passes_main : (n o : ℕ) (failed : Option Failed) (m : Machine) → LeadsOn n (Main o) failed m failed m
passes_main n o failed m = passes n (Main o) failed m refl refl

-- ---- the pair that fails, by its place

fails_at : (front : List JournalLine) (start mid : Machine) (e : Event) (r : Report) (rest : List JournalLine) → Run start (events_in front) (reports_in front) mid → IsNoStep mid e r
    → FailsAt (length (events_in front)) start (events_in (front ++ Ran e r ∷ rest)) (reports_in (front ++ Ran e r ∷ rest))
fails_at [] start mid e r rest run none = subst (λ m. IsNoStep m e r) run none
fails_at (Ran a b ∷ front) start mid e r rest run none = (run.0, run.1, fails_at front run.0 mid e r rest run.2 none)
fails_at (Now n ∷ front) start mid e r rest run none = fails_at front start mid e r rest run none
fails_at (Park millis ∷ front) start mid e r rest run none = fails_at front start mid e r rest run none
fails_at (Main o ∷ front) start mid e r rest run none = fails_at front start mid e r rest run none

answers_at : (front : List JournalLine) (start mid : Machine) (e : Event) (r other : Report) (rest : List JournalLine) → Run start (events_in front) (reports_in front) mid → MayAnswer mid e other
    → MayAnswerAt (length (events_in front)) start (events_in (front ++ Ran e r ∷ rest)) (reports_in (front ++ Ran e r ∷ rest)) other
answers_at [] start mid e r other rest run may = subst (λ m. MayAnswer m e other) run may
answers_at (Ran a b ∷ front) start mid e r other rest run may = (run.0, run.1, answers_at front run.0 mid e r other rest run.2 may)
answers_at (Now n ∷ front) start mid e r other rest run may = answers_at front start mid e r other rest run may
answers_at (Park millis ∷ front) start mid e r other rest run may = answers_at front start mid e r other rest run may
answers_at (Main o ∷ front) start mid e r other rest run may = answers_at front start mid e r other rest run may

found_at : (front : List JournalLine) (start mid : Machine) (e : Event) (r : Report) (found : Option Report) (rest : List JournalLine) → Run start (events_in front) (reports_in front) mid → IfSome found (λ other. MayAnswer mid e other)
    → IfSome found (λ other. MayAnswerAt (length (events_in front)) start (events_in (front ++ Ran e r ∷ rest)) (reports_in (front ++ Ran e r ∷ rest)) other)
found_at front start mid e r None rest run may = tt
found_at front start mid e r (Some other) rest run may = answers_at front start mid e r other rest run may

line_is : (front : List JournalLine) (e : Event) (r : Report) (rest : List JournalLine) → length front + 1 ≡ line_of_pair (front ++ Ran e r ∷ rest) (length (events_in front))
line_is [] e r rest = refl
line_is (Ran a b ∷ front) e r rest = omega (arith, line_is front e r rest)
line_is (Now n ∷ front) e r rest = omega (arith, line_is front e r rest)
line_is (Park millis ∷ front) e r rest = omega (arith, line_is front e r rest)
line_is (Main o ∷ front) e r rest = omega (arith, line_is front e r rest)

-- ---- the lines of an input

each_more : (said : List JournalLine) (ls : List Line) (x : JournalLine) (l : Line) → AreJournalLines said ls → IsJournalLine x l → AreJournalLines (said ++ x ∷ []) (ls ++ l ∷ [])
each_more [] [] x l p q = (q, tt)
each_more [] (y ∷ ls) x l p q = absurd p
each_more (y ∷ said) [] x l p q = absurd p
each_more (y ∷ said) (z ∷ ls) x l p q = (p.0, each_more said ls x l p.1 q)

-- The number of lines that were read, and the rest of the input.
pub record Progress (whole : Bool) (limits : Limits) (strategy : Blocking) (input : List ℕ) (count : ℕ) (failed : Option Failed) (m : Machine) (order : Order) (rest : List ℕ) : Type 0 where
  pub said : List JournalLine
  pub good : List Line
  pub split : lines input ≡ good ++ lines rest
  pub each : AreJournalLines said good
  pub stands : StandsAt (start_machine limits strategy) said failed m
  pub follows : whole ≡ true → Follows (map mark_of said) order
  pub counted : count ≡ length good
  pub said_counted : count ≡ length said
  pub shorter : count + length rest ≤ length input

pub started : (whole : Bool) (limits : Limits) (strategy : Blocking) (input : List ℕ) (m : Machine) (order : Order) → m ≡ start_machine limits strategy → Follows [] order → Progress whole limits strategy input 0 None m order input
started whole limits strategy input m order is follows =
    record { said = []; good = []; split = refl; each = tt; stands = is; follows = λ w. follows; counted = refl; said_counted = refl; shorter = omega arith }

pub one_more : (whole : Bool) (limits : Limits) (strategy : Blocking) (input : List ℕ) (count : ℕ) (failed after : Option Failed) (m new : Machine) (order later : Order) (rest behind : List ℕ) (x : JournalLine)
    → Progress whole limits strategy input count failed m order rest → BeginsWith rest x behind → LeadsOn (count + 1) x failed m after new → KeepsOrder whole (count + 1) x order later
    → Progress whole limits strategy input (count + 1) after new later behind
one_more whole limits strategy input count failed after m new order later rest behind x p b leads keeps =
    let l : lines rest ≡ ended (journal_text x) ∷ lines behind = ap lines b.0 ∙ lines_front (journal_text x) behind (no_feed_journal x b.1) in
    let says : IsJournalLine x (ended (journal_text x)) = unfold ended in record { fits = b.1; text = refl; is_ended = refl } in
    record {
      said = p.said ++ x ∷ [];
      good = p.good ++ ended (journal_text x) ∷ [];
      split = p.split ∙ ap (λ q. p.good ++ q) l ∙ sym (append_assoc p.good (ended (journal_text x) ∷ []) (lines behind));
      each = each_more p.said p.good x (ended (journal_text x)) p.each says;
      stands = leads (start_machine limits strategy) p.said (omega (arith, p.said_counted)) p.stands;
      follows = λ w. subst (λ marks. Follows marks later) (sym (map-append mark_of p.said (x ∷ []))) (keeps w (map mark_of p.said) (omega (arith, p.said_counted, length-map p.said mark_of)) (p.follows w));
      counted = omega (arith, p.counted, length-append p.good (ended (journal_text x) ∷ []));
      said_counted = omega (arith, p.said_counted, length-append p.said (x ∷ []));
      shorter = omega (arith, p.shorter, ap length b.0, length-append (journal_text x) (10 ∷ behind));
    }

all_lines : (input : List ℕ) (said : List JournalLine) (good : List Line) (rest : List ℕ) → length rest ≡ 0 → lines input ≡ good ++ lines rest → AreJournalLines said good → AreJournalLines said (lines input)
all_lines input said good [] e split each = subst (AreJournalLines said) (sym (split ∙ append-nil good)) each
all_lines input said good (b ∷ rest) e split each = absurd (omega arith)

-- ---- the answer

pub pair_failed : (limits : Limits) (strategy : Blocking) (said : List JournalLine) (n : ℕ) (found : Option Report) → FailsIn (start_machine limits strategy) said n found → FailsInPair limits strategy said n found
pair_failed limits strategy said n found f =
    let start = start_machine limits strategy in
    let place = length (events_in f.front) in
    record {
      place = place;
      verdict = subst (λ l. FailsAt place start (events_in l) (reports_in l)) (sym f.is) (fails_at f.front start f.mid f.event f.report f.rest f.run f.no_step);
      line = f.line ∙ line_is f.front f.event f.report f.rest ∙ ap (λ l. line_of_pair l place) (sym f.is);
      answers = subst (λ l. IfSome found (λ other. MayAnswerAt place start (events_in l) (reports_in l) other)) (sym f.is) (found_at f.front start f.mid f.event f.report found f.rest f.run f.answers);
    }

pub all_read : (whole : Bool) (limits : Limits) (strategy : Blocking) (input : List ℕ) (count : ℕ) (m : Machine) (rest : List ℕ) (checked : Checked)
    → Progress whole limits strategy input count checked.failed m checked.order rest → length rest ≡ 0 → checked.next ≡ count + 1 → HasRead whole limits strategy input checked
all_read whole limits strategy input count m rest checked p e next =
    record { said = p.said; are_lines = all_lines input p.said p.good rest e p.split p.each; last = m; stands = p.stands; follows = p.follows; counted = omega (arith, next, p.said_counted) }

pub first_bad : (whole : Bool) (limits : Limits) (strategy : Blocking) (input : List ℕ) (count : ℕ) (failed : Option Failed) (m : Machine) (order : Order) (rest : List ℕ)
    → Progress whole limits strategy input count failed m order rest → 0 < length rest → BeginsWithNone rest → IsFirstBad (lines input) (count + 1)
first_bad whole limits strategy input count failed m order [] p some none = absurd (omega arith)
first_bad whole limits strategy input count failed m order (b ∷ rest) p some none =
    let f = first_line b rest in
    (p.said, p.good, f.0, f.1, p.split ∙ ap (λ q. p.good ++ q) f.2, p.each, omega (arith, p.counted), no_journal (b ∷ rest) f.0 f.1 f.2 none)
