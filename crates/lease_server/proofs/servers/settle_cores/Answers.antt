use Rattle.std.proofs.Common.{rules, ◌≡◌, ◌+◌, ◌∷◌, [], true, List, length, ap, sym, subst, ◌∙◌, refl, arith}
use Rattle.std.specs.Vec.Iter.{into_iter_items}
use Rattle.mono_channel.specs.Ends.{settled_by, shares_of}
use Rattle.mono_channel.proofs.DeliveryLemmas.{never}
use Rattle.lease_server.specs.Threads.{ArePaired}
use Rattle.lease_server.proofs.ThreadLemmas.{Left, left_first, left_next, left_none, ends_with, no_items}
use Rattle.lease_server.proofs.servers.settle_cores.Goals as goal

pub loop-thread-preserved-then-settle_core : goal.loop-thread-preserved-then-settle_core
loop-thread-preserved-then-settle_core g c =
    let inv = c.loop-thread.invariant in
    let first = c.args.texts.now in
    let all = c.args.threads.items in
    let lanes = c.args.lanes.items in
    let t = c.in-Some.thread in
    let l = c.in-Some-next.lane in
    let ts = into_iter_items c.next.new.self in
    let ls = into_iter_items c.next-in-loop-thread.new.self in
    let rest : into_iter_items c.loop-thread.thread-iterator ≡ t ∷ ts = search rules in
    let ways : into_iter_items c.loop-thread.ways ≡ l ∷ ls = search rules in
    let paired : ArePaired first (t ∷ ts) (l ∷ ls) = subst (λ x. ArePaired first x (l ∷ ls)) rest (subst (λ x. ArePaired first (into_iter_items c.loop-thread.thread-iterator) x) ways inv.paired) in
    let left : Left (settled_by first) all lanes (settled_by c.loop-thread.texts) (t ∷ ts) (l ∷ ls) c.loop-thread.is_done =
    subst (λ x. Left (settled_by first) all lanes (settled_by c.loop-thread.texts) x (l ∷ ls) c.loop-thread.is_done) rest
    (subst (λ x. Left (settled_by first) all lanes (settled_by c.loop-thread.texts) (into_iter_items c.loop-thread.thread-iterator) x c.loop-thread.is_done) ways inv.left) in
    let made = c.settle_core.ensures in
    record {
      paired = paired.1;
      pair = made.same.0 ∙ inv.pair;
      received = made.same.1 ∙ inv.received;
      shares = let a = made.shares in let b = inv.shares in let n = ap (λ x. length x) rest in omega arith;
      left = left_next (settled_by first) (settled_by c.loop-thread.texts) (settled_by c.settle_core.new.texts) all lanes t ts l ls made.settled.0 c.settle_core.result c.loop-thread.is_done c.loop-thread.is_done made.settled.1 made.settled.2 made.settled.3 (λ yes. (c.if-settle_core.true, yes)) left;
    }

pub loop-thread-preserved : goal.loop-thread-preserved
loop-thread-preserved g c =
    let inv = c.loop-thread.invariant in
    let first = c.args.texts.now in
    let all = c.args.threads.items in
    let lanes = c.args.lanes.items in
    let t = c.in-Some.thread in
    let l = c.in-Some-next.lane in
    let ts = into_iter_items c.next.new.self in
    let ls = into_iter_items c.next-in-loop-thread.new.self in
    let rest : into_iter_items c.loop-thread.thread-iterator ≡ t ∷ ts = search rules in
    let ways : into_iter_items c.loop-thread.ways ≡ l ∷ ls = search rules in
    let paired : ArePaired first (t ∷ ts) (l ∷ ls) = subst (λ x. ArePaired first x (l ∷ ls)) rest (subst (λ x. ArePaired first (into_iter_items c.loop-thread.thread-iterator) x) ways inv.paired) in
    let left : Left (settled_by first) all lanes (settled_by c.loop-thread.texts) (t ∷ ts) (l ∷ ls) c.loop-thread.is_done =
    subst (λ x. Left (settled_by first) all lanes (settled_by c.loop-thread.texts) x (l ∷ ls) c.loop-thread.is_done) rest
    (subst (λ x. Left (settled_by first) all lanes (settled_by c.loop-thread.texts) (into_iter_items c.loop-thread.thread-iterator) x c.loop-thread.is_done) ways inv.left) in
    let made = c.settle_core.ensures in
    record {
      paired = paired.1;
      pair = made.same.0 ∙ inv.pair;
      received = made.same.1 ∙ inv.received;
      shares = let a = made.shares in let b = inv.shares in let n = ap (λ x. length x) rest in omega arith;
      left = left_next (settled_by first) (settled_by c.loop-thread.texts) (settled_by c.settle_core.new.texts) all lanes t ts l ls made.settled.0 c.settle_core.result c.loop-thread.is_done c.settle_core.result made.settled.1 made.settled.2 made.settled.3 (λ yes. never (sym c.if-settle_core.false ∙ yes)) left;
    }

pub returns-clause-settled : goal.returns-clause-settled
returns-clause-settled g c =
    let inv = c.loop-thread.invariant in
    let first = c.args.texts.now in
    let none : length (into_iter_items c.loop-thread.thread-iterator) ≡ 0 = search rules in
    let rest = no_items (into_iter_items c.loop-thread.thread-iterator) none in
    let ways = ends_with first (into_iter_items c.loop-thread.ways) (subst (λ x. ArePaired first x (into_iter_items c.loop-thread.ways)) rest inv.paired) in
    left_none (settled_by first) (settled_by c.loop-thread.texts) c.args.threads.items c.args.lanes.items c.loop-thread.is_done
    (subst (λ x. Left (settled_by first) c.args.threads.items c.args.lanes.items (settled_by c.loop-thread.texts) [] x c.loop-thread.is_done) ways
    (subst (λ x. Left (settled_by first) c.args.threads.items c.args.lanes.items (settled_by c.loop-thread.texts) x (into_iter_items c.loop-thread.ways) c.loop-thread.is_done) rest inv.left))
