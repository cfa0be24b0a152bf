-- Answers that are no lists, as the definitions' answers.
use Rattle.std.specs.Prelude.{ℕ}
use Rattle.mono_actor.specs.Answers.{Answer}
use Rattle.mono_actor.specs.Answers as answer
use Rattle.mono_lines.specs.declared.actor.print.Told.{Told}
use Rattle.mono_lines.specs.declared.actor.print.Told.TheVariants as told

abbrev pub answer_of : Told → Answer ℕ
answer_of (told.Actor a) = answer.Actor a
answer_of (told.Posted what) = answer.Posted what
answer_of told.Done = answer.Done
answer_of (told.Turn a what) = answer.Turn a what
answer_of (told.Ended how) = answer.Ended how
answer_of (told.Refused error) = answer.Refused error
answer_of told.Invalid = answer.Invalid
