use Rattle.std.proofs.Common.{sym, ◌∙◌}
use Rattle.mono_stream.proofs.folds.FoldingSieve.sift.Goals as goal

pub f-requires : goal.f-requires
f-requires g c = c.requires.able.1 _ (sym c.take.ensures.value ∙ c.unwrap-value.ensures)
