use Rattle.std.proofs.Common.{◌≡◌, ◌≤◌, ◌<◌, ◌^◌, ◌⊎◌, inl, inr, ◌++◌, ◌∷◌, [], ℕ, None, Some, length, codes, rules, arith}
use Rattle.std.specs.Fmt.{decimal}
use Rattle.mono_run.specs.ScriptText.{body_text}
use Rattle.mono_run.specs.Script.{MayStand}
use Rattle.mono_run.proofs.FrontLemmas.{closes_so, goes_on_so, never_so}
use Rattle.mono_run.proofs.parser.fronts.Front.put_inside.Goals.{then-len-ge-MOST_LINES-via-then-len-ge-MOST_LINES, then-len-ge-MOST_LINES-via-else-len-ge-MOST_LINES+then-not-may_stand}
use Rattle.mono_run.proofs.parser.fronts.Front.put_inside.Goals as goal

pub returns-in-Some-clause-taken : goal.returns-in-Some-clause-taken
returns-in-Some-clause-taken c =
    let is : c.args.text.now ≡ codes "done " ++ decimal c.in-Some.output = rw c.as_slice.ensures at c.in-Some.ensures.found.0 in
    let limits : c.self.inside.limits ≡ c.args.self.now.limits = search rules in
    λ t. closes_so c.args.kinds c.args.self.now _ c.args.text.now c.args.body.items c.in-Some.output is c.in-Some.ensures.found.1 (search rules) (search rules) (search rules)

pub returns-then-len-ge-MOST_LINES-clause-refused : goal.returns-then-len-ge-MOST_LINES-clause-refused
returns-then-len-ge-MOST_LINES-clause-refused c =
    let none : (n : ℕ) → n < 2 ^ 64 → c.args.text.now ≡ codes "done " ++ decimal n → ⊥ = rw c.as_slice.ensures at c.in_default.ensures.none in
    let not : (127 ≤ length c.args.body.items) ⊎ (MayStand c.args.kinds c.args.body.items c.in-Some-body_line.line → ⊥) = elim c.then-len-ge-MOST_LINES.branch [
      | then-len-ge-MOST_LINES-via-then-len-ge-MOST_LINES w ↦ inl (search rules)
      | then-len-ge-MOST_LINES-via-else-len-ge-MOST_LINES+then-not-may_stand w ↦ inr (search rules)
    ] in
    λ e. never_so c.args.kinds c.args.self.now.limits c.args.self.now.kinds c.args.body.items c.args.text.now c.in-Some-body_line.line c.in-Some-body_line.ensures.found.1 c.in-Some-body_line.ensures.found.0 none not

pub returns-clause-taken : goal.returns-clause-taken
returns-clause-taken c =
    λ t. goes_on_so c.args.kinds c.args.self.now _ c.args.text.now c.args.body.items c.in-Some-body_line.line c.in-Some-body_line.ensures.found.0 (search rules) (search rules) (search rules) (search rules) (search rules)
