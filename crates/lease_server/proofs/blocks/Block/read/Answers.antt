use Rattle.std.proofs.Common.{◌≡◌, ◌+◌, ◌-◌, ◌≤◌, ℕ, List, length, take, drop, ap, sym, subst, ◌∙◌, arith}
use Rattle.std.specs.Vec.{with_items}
use Rattle.std.proofs.lemmas.List.{with_items_is}
use Rattle.lease_server.specs.Blocks.{HasTaken}
use Rattle.lease_server.proofs.BlockLemmas.{same_part, taken, err_so}
use Rattle.lease_server.proofs.blocks.Block.read.Goals as goal

pub returns-in_err-count-clause-fault : goal.returns-in_err-count-clause-fault
returns-in_err-count-clause-fault g c =
    let self = c.args.self.now in
    let ws : List ℕ = c.read_from.new.buffer in
    let items : (with_items self.buffer ws).items ≡ ws = with_items_is self.buffer ws (omega arith) in
    let front : take self.end ws ≡ take self.end self.buffer.items = c.in_err-count.ensures.front ∙ ap (λ l. take self.end l) c.deref_mut.ensures.value in
    err_so {P = (take (self.end - self.start) (drop self.start (with_items self.buffer ws).items) ≡ take (self.end - self.start) (drop self.start self.buffer.items)) × (g.S.Source.left c.read_from.new.source ≡ g.S.Source.left c.args.source.now)} _ (ap (λ l. take (self.end - self.start) (drop self.start l)) items ∙ same_part self.buffer.items ws self.start self.end front, c.in_err-count.ensures.none)

pub returns-clause-read : goal.returns-clause-read
returns-clause-read g c =
    let self = c.args.self.now in
    let n = c.in_ok-count.count in
    let ws : List ℕ = c.read_from.new.buffer in
    let items : (with_items self.buffer ws).items ≡ ws = with_items_is self.buffer ws (omega arith) in
    let front : take self.end ws ≡ take self.end self.buffer.items = c.in_ok-count.ensures.front ∙ ap (λ l. take self.end l) c.deref_mut.ensures.value in
    let within : self.end + n ≤ length ws = omega (arith, c.in_ok-count.ensures.within) in
    let all = taken (g.S.Source.left c.args.source.now) (g.S.Source.left c.read_from.new.source) self.buffer.items ws self.start self.end n (omega arith) within front c.in_ok-count.ensures.bytes in
    (all.0, all.1, all.2, ap (λ l. take (self.end + n - self.start) (drop self.start l)) items ∙ all.3)
