-- A form of lines, and the first line at which an input leaves it.
use Rattle.std.specs.Prelude.{◌≡◌, ℕ, ◌+◌, ◌-◌, ◌≤◌, List, ◌++◌, length, take}
use Rattle.mono_text.specs.Lines.{Line}

-- The lines can be continued to some that are in the form.
abbrev pub Begins : (List Line → Type 0) → List Line → Type 0
Begins Form ls = (more : List Line) × Form (ls ++ more)

-- Line n, counted from 1, is the first such that the lines up to it are no beginning of the form. Or the lines are a
-- beginning and not all of it, and n is the missing line.
pub data IsFirstOut (Form : List Line → Type 0) (all : List Line) (n : ℕ) : Type 0 where
  wrong : 1 ≤ n → n ≤ length all → Begins Form (take (n - 1) all) → (Begins Form (take n all) → ⊥) → IsFirstOut Form all n
  missing : n ≡ length all + 1 → Begins Form all → (Form all → ⊥) → IsFirstOut Form all n
