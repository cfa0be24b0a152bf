-- Worked scripts, by computation.
use Rattle.std.proofs.Common.{◌≡◌, ℕ, ◌^◌, List, [], refl, sym, ap, ◌∙◌, lit≤, lit<, codes, Some}
use Rattle.std.proofs.lemmas.List.{append-nil}
use Rattle.std.specs.Fmt.{decimal}
use Rattle.mono_text.specs.Parser.{digits_from}
use Rattle.mono_text.proofs.DigitLemmas.{digits_found}
use Rattle.std.proofs.Common.{◌++◌, ◌∷◌, ◌≤◌, length, map, flat_map, arith, length-append, subst}
use Rattle.std.proofs.lemmas.List.{length-map}
use Rattle.mono_text.specs.Lines.{lines}
use Rattle.mono_run.specs.Beginnings.{Begins, missing}
use Rattle.mono_run.specs.Script.{Kind, Script}
use Rattle.mono_run.specs.ScriptText.{IsScript, ended, script_texts, kind_texts, body_text}
use Rattle.mono_run.specs.declared.scripts.body.BodyLine.TheVariants as body
use Rattle.mono_text.specs.Lines.{Line}
use Rattle.mono_run.specs.Script.{MayStand}
use Rattle.mono_run.proofs.ScriptTextLemmas.{body_once, may_fit, no_done}
use Rattle.mono_run.proofs.FirstBadLineLemmas.{bad_in_kind}
use Rattle.mono_run.specs.LineOrder.{MayFollow, goes_on, ends, front_texts}
use Rattle.mono_run.specs.Examples.{NoSuchKind, no_such_kind_text, NoSleep, NoKind, EndsInAKind, script, kind, ASleep, ChildTasks, AJob, NotItsTurn, StrayEnd, ASleepIsWritten}

pub a_sleep : ASleep
a_sleep = (refl, refl, (refl, refl, tt))

pub child_tasks : ChildTasks
child_tasks = (refl, refl, (refl, refl, (refl, refl, (refl, refl, (refl, refl, (refl, refl, tt))))))

pub a_job : AJob
a_job = (refl, refl, tt)

pub no_sleep : NoSleep
no_sleep d = d

pub not_its_turn : NotItsTurn
not_its_turn d = cc d.0

pub stray_end : StrayEnd
stray_end d = d

-- ---- numbers as text, by reading them

number : (text : List ℕ) (n : ℕ) → digits_from (2 ^ 64) 0 0 text ≡ Some (n, []) → decimal n ≡ text
number text n e = sym ((digits_found (2 ^ 64) text n [] (lit< tt) (lit≤ tt) e).0 ∙ append-nil (decimal n))

sixteen : decimal 16 ≡ codes "16"
unfolding digits_from
sixteen = number (codes "16") 16 refl

five : decimal 5 ≡ codes "5"
unfolding digits_from
five = number (codes "5") 5 refl

tenth : decimal 100000000 ≡ codes "100000000"
unfolding digits_from
tenth = number (codes "100000000") 100000000 refl

pub a_sleep_is_written : ASleepIsWritten
a_sleep_is_written = record {
  sound = record {
    limits = record { tasks = lit< tt; jobs = lit< tt; sleeps = lit< tt };
    some = lit≤ tt;
    few = lit≤ tt;
    each = (record { few = lit≤ tt; each = (lit< tt, tt); output = lit< tt }, tt);
  };
  text = rw (sixteen, five, tenth) refl;
}

one : decimal 1 ≡ codes "1"
unfolding digits_from
one = number (codes "1") 1 refl

zero_text : decimal 0 ≡ codes "0"
unfolding digits_from
zero_text = number (codes "0") 0 refl

-- a script has at least three lines
pub three_lines : (s : Script) → 1 ≤ length s.kinds → 3 ≤ length (map ended (script_texts s))
three_lines s some = by_kinds s.kinds some
  where
    by_kinds : (ks : List Kind) → 1 ≤ length ks → 3 ≤ length (map ended (script_texts (record { limits = s.limits; kinds = ks })))
    by_kinds [] l = absurd (omega (arith, l))
    by_kinds (k ∷ ks) l = omega (arith, length-map (script_texts (record { limits = s.limits; kinds = k ∷ ks })) ended, length-append (kind_texts k) (flat_map kind_texts ks), length-append (codes "task" ∷ map body_text k.body) ((codes "done " ++ decimal k.output) ∷ []))

pub no_kind : NoKind
no_kind = missing refl begins (λ s. omega (arith, three_lines s.0 s.1.some, ap length s.2))
  where
    begins : Begins (IsScript 0) (lines (codes "limits 1 1 1" ++ 10 ∷ []))
    begins = (
      ended (codes "task") ∷ ended (codes "done 0") ∷ [],
      (
        script 1 (kind [] 0 ∷ []),
        record {
          limits = record { tasks = lit< tt; jobs = lit< tt; sleeps = lit< tt };
          some = lit≤ tt;
          few = lit≤ tt;
          each = (record { few = lit≤ tt; each = tt; output = lit< tt }, tt);
        },
        rw (one, zero_text) refl,
      ),
    )

pub ends_in_a_kind : EndsInAKind
ends_in_a_kind = missing refl begins (λ s. omega (arith, three_lines s.0 s.1.some, ap length s.2))
  where
    begins : Begins (IsScript 1) (lines ((codes "limits 1 1 1" ++ 10 ∷ []) ++ (codes "task" ++ 10 ∷ [])))
    begins = (
      ended (codes "done 0") ∷ [],
      (
        script 1 (kind [] 0 ∷ []),
        record {
          limits = record { tasks = lit< tt; jobs = lit< tt; sleeps = lit< tt };
          some = lit≤ tt;
          few = lit≤ tt;
          each = (record { few = lit≤ tt; each = tt; output = lit< tt }, tt);
        },
        rw (one, zero_text) refl,
      ),
    )

no_such_split : lines no_such_kind_text ≡ map ended (front_texts (record { tasks = 1; jobs = 1; sleeps = 1 }) [] []) ++ ended (codes "spawn 1") ∷ ended (codes "done 0") ∷ []
no_such_split = rw one refl

no_such_line : MayFollow 1 [] (ended (codes "spawn 1")) → ⊥
no_such_line (goes_on c e may short) =
    let text : body_text (body.Spawn 1) ≡ body_text c = ap (λ t. codes "spawn " ++ t) one ∙ ap (λ (l : Line). l.bytes) e in
    let same : body.Spawn 1 ≡ c = body_once (body.Spawn 1) c (lit< tt) (may_fit 1 [] c may) text in
    let m : MayStand 1 [] (body.Spawn 1) = subst (MayStand 1 []) (sym same) may in
    omega (arith, m.1)
no_such_line (ends o e fits) = no_done (body.Spawn 1) o (lit< tt) (ap (λ t. codes "spawn " ++ t) one ∙ ap (λ (l : Line). l.bytes) e)

pub no_such_kind : NoSuchKind
no_such_kind =
    bad_in_kind no_such_kind_text (record { tasks = 1; jobs = 1; sleeps = 1 }) [] [] (ended (codes "spawn 1")) (ended (codes "done 0") ∷ []) (record { tasks = lit< tt; jobs = lit< tt; sleeps = lit< tt }) tt tt (lit< tt) (lit≤ tt) no_such_split no_such_line
