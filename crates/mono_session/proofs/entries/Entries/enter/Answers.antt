use Rattle.std.proofs.Common.{◌∙◌}
use Rattle.std.specs.HashMap.{get}
use Rattle.mono_session.specs.Links.{pair_eq}
use Rattle.mono_session.specs.declared.entries.Entries.{Entries}
use Rattle.mono_session.proofs.QueueLemmas.{on_ok}
use Rattle.mono_session.proofs.EntryLemmas.{entered_last, came_queue, came_keys, count_put}
use Rattle.mono_session.proofs.entries.Entries.enter.Goals as goal

pub returns : goal.returns
returns c = λ entries entered out.
    let s = c.args.session in
    let key = c.args.key in
    let old : Entries = c.args.self.now in
    let new : Entries = record { ends = c.put_last-before.new.ends; key_ends = c.put_last-before_key.new.ends; nodes = c.link_after_key.new.nodes } in
    let node = c.last-node.result in
    let is_ok = c.insert.ensures.succeeds c.requires.2 in
    let put_in = (on_ok c.insert.result _ is_ok c.insert.ensures.updates).0 in
    entered_last old new entries s key c.put_last-before.result c.put_last-before_key.result entered
    (came_queue old new s key node c.put_last-before.result (get pair_eq c.insert.new.self) (get pair_eq c.link_after.new.nodes)
    c.put_last-before.ensures.last c.put_last-before.ensures.ends c.last-node.ensures.queue put_in c.link_after.ensures.changed c.link_after_key.ensures.others)
    (came_keys old new s key node c.put_last-before_key.result (get pair_eq c.insert.new.self) (get pair_eq c.link_after.new.nodes)
    c.put_last-before_key.ensures.last c.put_last-before_key.ensures.ends c.last-node.ensures.keys put_in c.link_after.ensures.others c.link_after_key.ensures.changed)
    (λ none. c.link_after_key.ensures.len ∙ c.link_after.ensures.len ∙ count_put c.insert.result (get pair_eq old.nodes (key, s)) _ _ is_ok c.insert.ensures.old c.insert.ensures.len none)
    out
