-- The place of a script's task.
use Rattle.std.specs.Prelude.{ℕ, length, Option, Some, None, slice_get}
use Rattle.mono_run.specs.Script.{Kind}
use Rattle.mono_run.specs.declared.tasks.ScriptTask.{ScriptTask}

abbrev pub lines_of : Option Kind → ℕ
lines_of None = 0
lines_of (Some kind) = length kind.body

-- how many lines the body of the task's kind has
abbrev pub body_len : ScriptTask → ℕ
body_len task = lines_of (slice_get task.kinds.now task.kind)
