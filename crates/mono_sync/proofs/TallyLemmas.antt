-- A channel with a value next to it: whom it hands out, and that the value's rule stays if the queue does.
use Rattle.std.proofs.Common.{◌≡◌, ℕ, List, Option, Some, None, sym, ap, subst}
use Rattle.mono_task.specs.Owed.{Hands}
use Rattle.mono_sync.specs.declared.mpsc.Channel.{Channel}
use Rattle.mono_sync.specs.declared.tallies.Tallied.{Tallied}
use Rattle.mono_sync.specs.Mpsc.{owed_by, listed_by}
use Rattle.mono_sync.specs.Tallies.{tally_lists, tally_owes}

module _ {T S : Type 0} where
  -- the channel hands out a task, and the value stays
  pub hands_beside : (a : Tallied T S) (c : Channel T) (r : Option ℕ) → Hands listed_by owed_by a.channel r c → Hands tally_lists tally_owes a r (record a { channel = c })
  hands_beside a c None p = (p.0, ap (λ x. record a { channel = x }) p.1)
  hands_beside a c (Some t) p = p

  -- the queue and the value stay
  pub rule_stays : (rule : S → List T → Type 0) (s : S) (xs ys : List T) → ys ≡ xs → rule s xs → rule s ys
  rule_stays rule s xs ys same h = subst (rule s) (sym same) h
