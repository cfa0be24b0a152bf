-- A script has as many kinds as its input has lines `task`.
use Rattle.std.proofs.Common.{◌≡◌, ◌+◌, ℕ, true, false, Bool, cond, List, [], ◌∷◌, ◌++◌, length, map, flat_map, codes, refl, ap, sym, subst, ◌∙◌, arith}
use Rattle.std.specs.Prelude.{◌&&◌, ◌==◌, decimal}
use Rattle.mono_machine.specs.declared.events.Limits.{Limits}
use Rattle.mono_text.specs.Lines.{Line, lines}
use Rattle.mono_run.specs.Script.{Kind, Script, IsSound}
use Rattle.mono_run.specs.ScriptText.{body_text, kind_texts, script_texts, limits_text, ended, same_text, task_lines, Spells}
use Rattle.mono_run.specs.LineOrder.{done_text}
use Rattle.mono_run.proofs.ScriptTextLemmas.{kind_split}
use Rattle.mono_run.specs.declared.scripts.body.BodyLine.{BodyLine}
use Rattle.mono_run.specs.declared.scripts.body.BodyLine.TheVariants as body

abbrev none_of : List ℕ → Type 0
none_of text = same_text text (codes "task") ≡ false

body_none : (l : BodyLine) → none_of (body_text l)
body_none (body.Spawn k) = refl
body_none (body.Join i) = refl
body_none (body.Detach i) = refl
body_none (body.AwaitSleep n) = refl
body_none (body.Block o) = refl
body_none (body.AwaitJob i) = refl
body_none (body.DropJob i) = refl
body_none body.Yield = refl

limits_none : (x : Limits) → none_of (limits_text x)
limits_none x = refl

done_none : (o : ℕ) → none_of (done_text o)
done_none o = refl

abbrev counted : List (List ℕ) → ℕ
counted texts = task_lines (map ended texts)

other_line : (text : List ℕ) (texts : List (List ℕ)) → none_of text → counted (text ∷ texts) ≡ counted texts
other_line text texts none = omega (arith, ap (λ b. cond b 1 0 + counted texts) none)

body_lines : (bs : List BodyLine) (texts : List (List ℕ)) → counted (map body_text bs ++ texts) ≡ counted texts
body_lines [] texts = refl
body_lines (b ∷ bs) texts = other_line (body_text b) (map body_text bs ++ texts) (body_none b) ∙ body_lines bs texts

kinds_lines : (ks : List Kind) → counted (flat_map kind_texts ks) ≡ length ks
kinds_lines [] = refl
kinds_lines (k ∷ ks) =
    let rest : List (List ℕ) = flat_map kind_texts ks in
    let first : counted (kind_texts k ++ rest) ≡ 1 + counted (map body_text k.body ++ done_text k.output ∷ rest) = ap counted (kind_split k rest) in
    omega (arith, first, body_lines k.body (done_text k.output ∷ rest), other_line (done_text k.output) rest (done_none k.output), kinds_lines ks)

pub kinds_counted : (input : List ℕ) (s : Script) → Spells input s → task_lines (lines input) ≡ length s.kinds
kinds_counted input s spells = ap task_lines spells.text ∙ other_line (limits_text s.limits) (flat_map kind_texts s.kinds) (limits_none s.limits) ∙ kinds_lines s.kinds

-- so its lines name kinds that are there
pub sound_alone : (input : List ℕ) (s : Script) → Spells input s → IsSound (length s.kinds) s
sound_alone input s spells = subst (λ n. IsSound n s) (kinds_counted input s spells) spells.sound
