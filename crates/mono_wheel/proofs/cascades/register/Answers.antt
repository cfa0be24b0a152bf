use Rattle.std.proofs.Common.{arith, ◌∷◌, ap, ◌∙◌}
use Rattle.mono_wheel.specs.Lists.{list_at, no_entry, with_entry, with_list}
use Rattle.mono_wheel.specs.Holdings.{entry_anew}
use Rattle.mono_wheel.proofs.KeyLemmas.{read-in}
use Rattle.mono_wheel.proofs.MoveLemmas.{move-few}
use Rattle.mono_wheel.proofs.cascades.register.Goals as goal

pub returns-clause-registered : goal.returns-clause-registered
returns-clause-registered c = record {
  entry = c.entry-tick.result;
  was = read-in c.args.links.now.table.entries c.args.key c.entry-tick.result no_entry c.requires.room c.entry-tick.ensures;
  entries_are = ap (λ w. w.entries) c.put_front.ensures.put;
  links_are = c.put_front.ensures.put ∙ ap (λ l. with_entry (with_list c.args.links.now.table l (c.args.key ∷ list_at c.args.links.now.table l)) c.args.key (entry_anew c.entry-tick.result)) c.standing-list.ensures;
}

pub returns-clause-moves : goal.returns-clause-moves
returns-clause-moves c =
    let put = c.put_front.ensures.moves in
    let few = move-few c.standing-list.result in
    omega (arith, put, few)
