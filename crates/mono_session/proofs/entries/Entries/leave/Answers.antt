use Rattle.std.proofs.Common.{◌∙◌, refl, ap, sym, subst, arith}
use Rattle.std.specs.Prelude.{is_some}
use Rattle.std.specs.HashMap.{get}
use Rattle.mono_session.specs.Keeper.{queue_in}
use Rattle.mono_session.specs.Links.{pair_eq}
use Rattle.mono_session.specs.Nodes.{queue_place}
use Rattle.mono_session.specs.Queues.{Closed}
use Rattle.mono_session.specs.Entries.{queue_chains, key_chains}
use Rattle.mono_session.specs.declared.entries.Entries.{Entries}
use Rattle.mono_session.proofs.NodeLemmas.{place_some}
use Rattle.mono_session.proofs.QueueLemmas.{contains-keeps}
use Rattle.mono_session.proofs.EntryLemmas.{left_both, stands-queue, true-false}
use Rattle.mono_session.proofs.entries.Entries.leave.Goals as goal

pub returns-in_default-clause-stood : goal.returns-in_default-clause-stood
returns-in_default-clause-stood c = λ entries entered.
    let old : Entries = c.args.self.now in
    ap is_some c.in_default.ensures.value
    ∙ sym (place_some queue_place (get pair_eq old.nodes (c.args.key, c.args.session)))
    ∙ contains-keeps (queue_chains old) (queue_in entries) c.args.key c.args.session entered.queues
    ∙ sym (stands-queue entries c.args.session c.args.key)

pub returns-in_default-clause-kept : goal.returns-in_default-clause-kept
returns-in_default-clause-kept c = λ entries entered stands.
    let old : Entries = c.args.self.now in
    absurd (true-false (sym stands ∙ stands-queue entries c.args.session c.args.key
    ∙ sym (contains-keeps (queue_chains old) (queue_in entries) c.args.key c.args.session entered.queues)
    ∙ place_some queue_place (get pair_eq old.nodes (c.args.key, c.args.session))
    ∙ sym (ap is_some c.in_default.ensures.value)))

pub returns-clause-stood : goal.returns-clause-stood
returns-clause-stood c = λ entries entered.
    let old : Entries = c.args.self.now in
    ap is_some c.in-Some.ensures.value
    ∙ sym (place_some queue_place (get pair_eq old.nodes (c.args.key, c.args.session)))
    ∙ contains-keeps (queue_chains old) (queue_in entries) c.args.key c.args.session entered.queues
    ∙ sym (stands-queue entries c.args.session c.args.key)

pub returns-clause-kept : goal.returns-clause-kept
returns-clause-kept c = λ entries entered stands.
    let old : Entries = c.args.self.now in
    let mid : Entries = record { ends = old.ends; key_ends = old.key_ends; nodes = c.remove.new.self } in
    left_both old mid c.leave_queue.new.self c.leave_keys.new.self entries c.args.session c.args.key c.in-Some.node entered
    c.in-Some.ensures.value (λ q. refl) (λ q. refl) c.in-Some.ensures.updates.0
    (subst (Closed (queue_chains mid) (queue_chains c.leave_queue.new.self) c.args.key) c.in_queue.ensures c.leave_queue.ensures.queues) c.leave_queue.ensures.keys
    c.leave_keys.ensures.queues (subst (Closed (key_chains c.leave_queue.new.self) (key_chains c.leave_keys.new.self) c.args.session) c.in_keys.ensures c.leave_keys.ensures.keys)
    (omega (arith, c.leave_keys.ensures.count, c.leave_queue.ensures.count, c.in-Some.ensures.len)) stands
