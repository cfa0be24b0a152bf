use Rattle.std.proofs.Common.{refl, arith}
use Rattle.mono_inbox.specs.State.{is_known}
use Rattle.mono_inbox.proofs.RowLemmas.{row_start}
use Rattle.mono_inbox.proofs.state.InboxState.know_row.Goals as goal

pub loop-next-init : goal.loop-next-init
loop-next-init c = (omega arith, λ less. less, record { known = λ t. row_start c.args.from t (is_known c.args.self.now t); waiting = refl })
