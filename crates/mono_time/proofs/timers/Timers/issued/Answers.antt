use Rattle.std.proofs.Common.{length, sym, ◌∙◌}
use Rattle.mono_model.proofs.TableOfLemmas.{length-table_of}
use Rattle.mono_time.specs.Representation.{kept_at}
use Rattle.mono_time.proofs.timers.Timers.issued.Goals as goal

pub returns : goal.returns
returns c = let t = c.args.self.now in c.len.ensures ∙ sym (length-table_of (kept_at t.wheel t.keys t.entries.items) (length t.keys))
