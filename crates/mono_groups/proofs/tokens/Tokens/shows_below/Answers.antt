use Rattle.std.proofs.Common.{◌≡◌, ℕ, true, subst}
use Rattle.mono_groups.specs.Tokens.{IsBelow, is_cancelled}
use Rattle.mono_groups.proofs.LawLemmas.{below}
use Rattle.mono_groups.proofs.tokens.Tokens.shows_below.Goals as goal

pub returns : goal.returns
returns c = subst (λ a. (top k : ℕ) → is_cancelled a top ≡ true → IsBelow a top k → is_cancelled a k ≡ true) c.self.view_is (λ top k is under. below c.self.inside.nodes top k c.self.invariant.grown is under)
