-- The outputs of a future that may come.
use Rattle.std.proofs.Common.{◌≡◌, false, suc, List, ◌∷◌, refl}
use Rattle.mono_model.specs.declared.poll.Poll.TheVariants.{Ready, Pending}
use Rattle.mono_task.specs.Members.{FutureOf}
use Rattle.mono_stream.specs.Comes.{MayCome}
use Rattle.mono_stream.specs.FutureOutputs.{OutputsGive}
use Rattle.mono_stream.specs.Items.{IsTried}
use Rattle.mono_stream.specs.declared.future_outputs.Outputs.{Outputs}
use Rattle.mono_stream.proofs.ComeLemmas.{any_come}

module _ {F C Y : Type 0} (future : FutureOf F C Y) (s t : Outputs F) (unspent : future.is_spent s.future ≡ false) where
  abbrev Gives : Outputs F → List Y → Type 0
  Gives q ys = OutputsGive future q.future ys

  pub output_first : (y : Y) → future.gives s.future y → IsTried future s.future (Ready y) t.future → (ys : List Y) → MayCome Gives t ys → Gives s (y ∷ ys)
  output_first y given tried ys may = (unspent, given, (t.future, record { count = 0; waiting = s.future; waited = refl; ready = tried }, any_come Gives t tt ys may))

  pub output_waits : ((y : Y) → future.gives t.future y → future.gives s.future y) → IsTried future s.future Pending t.future → (y : Y) (ys : List Y) → Gives t (y ∷ ys) → Gives s (y ∷ ys)
  output_waits fewer tried y ys (still, given, (left, leaves, rest)) =
      (unspent, fewer y given, (left, record { count = suc leaves.count; waiting = leaves.waiting; waited = (t.future, tried, leaves.waited); ready = leaves.ready }, rest))
