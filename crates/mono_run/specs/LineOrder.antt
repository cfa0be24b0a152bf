-- The lines that may come next in a script.
use Rattle.std.specs.Prelude.{◌≡◌, ◌<◌, ℕ, ◌^◌, List, ◌∷◌, ◌++◌, length, map, flat_map, codes, decimal}
use Rattle.mono_machine.specs.declared.events.Limits.{Limits}
use Rattle.mono_text.specs.Lines.{Line}
use Rattle.mono_run.specs.Script.{Kind, MayStand}
use Rattle.mono_run.specs.ScriptText.{body_text, kind_texts, limits_text, ended}
use Rattle.mono_run.specs.declared.scripts.body.BodyLine.{BodyLine}

abbrev pub done_text : ℕ → List ℕ
done_text o = codes "done " ++ decimal o

-- the limits, whole kinds and the front of one more
abbrev pub front_texts : Limits → List Kind → List BodyLine → List (List ℕ)
front_texts x ks bs = limits_text x ∷ (flat_map kind_texts ks ++ codes "task" ∷ map body_text bs)

-- After these body lines of a kind, the line is a body line that may follow, or the kind's end.
pub data MayFollow (kinds : ℕ) (bs : List BodyLine) (l : Line) : Type 0 where
  goes_on : (c : BodyLine) → l ≡ ended (body_text c) → MayStand kinds bs c → length bs < 127 → MayFollow kinds bs l
  ends : (o : ℕ) → l ≡ ended (done_text o) → o < 2 ^ 64 → MayFollow kinds bs l
