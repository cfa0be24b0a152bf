use Rattle.std.proofs.Common.{length, ap, sym, ◌∙◌}
use Rattle.mono_inbox.specs.Pages.{look_in}
use Rattle.mono_inbox.proofs.LayoutLemmas.{length-standings_of}
use Rattle.mono_inbox.proofs.marks.Marks.len.Goals as goal

pub returns : goal.returns
returns c = sym (length-standings_of (look_in 1048576 c.self.inside.parts.items) c.self.inside.len) ∙ ap length c.self.view_is
