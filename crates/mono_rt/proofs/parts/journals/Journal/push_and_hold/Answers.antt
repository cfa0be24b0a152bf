use Rattle.std.proofs.Common.{sym, subst, ◌∙◌}
use mathlib.Core.List.{IsPrefix}
use Rattle.mono_rt.proofs.parts.journals.Journal.push_and_hold.Goals as goal

pub hold-requires : goal.hold-requires
hold-requires c = c.push.ensures.room 1 c.requires

pub invariant_of-self : goal.invariant_of-self
invariant_of-self c =
    let mid = c.push.new.self in record {
      kept = λ unfull. c.hold.ensures.items ∙ mid.kept unfull;
      begins = subst (λ xs. ∥ IsPrefix xs mid.history.entries ∥₁) (sym c.hold.ensures.items) mid.begins;
    }
