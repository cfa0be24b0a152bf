use Rattle.std.proofs.Common.{◌≡◌, ◌<◌, ◌∙◌, rules, refl, sym, length, arith}
use Rattle.std.proofs.lemmas.List.{length-set}
use Rattle.std.proofs.lemmas.List.Elements.{All-set}
use Rattle.mono_combine.specs.Looks.{BranchGives}
use Rattle.mono_combine.specs.ListSelects.{MayLook}
use Rattle.mono_combine.proofs.GivesLemmas.{narrows_itself, narrows_set, narrows_at}
use Rattle.mono_combine.proofs.ListLemmas.{or_true, or_false}
use Rattle.mono_combine.proofs.RoundLemmas.{begins, goes_on_at, passes_at, none_at_end}
use Rattle.mono_combine.proofs.row.look_round.Goals as goal
use Rattle.mono_combine.proofs.row.look_round.Goals.{in-Waits, in-Rests}

pub loop-turn-init : goal.loop-turn-init
loop-turn-init g c = record {
  same_length = refl;
  so_far = begins g.T.TaskFuture g.G.Fn c.args.test.now c.args.start _;
  may = c.requires.may;
  narrows = narrows_itself (BranchGives g.T.TaskFuture.gives) _;
  reached = g.met.C.Context.reaches_itself _;
}

pub returns-in-Passes-clause-selects : goal.returns-in-Passes-clause-selects
returns-in-Passes-clause-selects g c =
    let below : c.args.start < c.len-count.result = omega (arith, c.requires.below, c.len-count.ensures) in
    passes_at g.T.TaskFuture g.G.Fn c.args.test.now c.args.start _ c.len-count.result c.loop-turn.turn _ _ (c.len-count.ensures ∙ c.args.branches.now.ok.0) c.loop-turn.invariant.so_far
    below c.loop-turn-test.true _ _ _ c.index_mut.ensures.value c.in-Passes.x (rw c.in-Passes.is at c.look_at.ensures.turn) (rw c.in-Passes.is at c.look_at.ensures.counts)

pub loop-turn-preserved : goal.loop-turn-preserved
loop-turn-preserved g c =
    let below : c.args.start < c.len-count.result = omega (arith, c.requires.below, c.len-count.ensures) in
    record {
      same_length = length-set c.loop-turn.branches.items _ _ ∙ c.loop-turn.invariant.same_length;
      so_far = elim c.match-look_at.branch [
        | in-Waits w ↦ goes_on_at g.T.TaskFuture g.G.Fn c.args.test.now c.args.start _ c.len-count.result c.loop-turn.turn _ _ (c.len-count.ensures ∙ c.args.branches.now.ok.0) c.loop-turn.invariant.so_far
            below c.loop-turn-test.true _ _ _ c.index_mut.ensures.value _ _ refl (rw w.in-Waits.is at c.look_at.ensures.turn) (rw w.in-Waits.is at c.look_at.ensures.counts) (w.some_wait-is ∙ sym (or_true c.loop-turn.some_wait))
        | in-Rests w ↦ goes_on_at g.T.TaskFuture g.G.Fn c.args.test.now c.args.start _ c.len-count.result c.loop-turn.turn _ _ (c.len-count.ensures ∙ c.args.branches.now.ok.0) c.loop-turn.invariant.so_far
            below c.loop-turn-test.true _ _ _ c.index_mut.ensures.value _ _ refl (rw w.in-Rests.is at c.look_at.ensures.turn) (rw w.in-Rests.is at c.look_at.ensures.counts) (w.some_wait-is ∙ sym (or_false c.loop-turn.some_wait))
      ];
      narrows = narrows_set (BranchGives g.T.TaskFuture.gives) c.loop-turn.branches.items _ _ _ _ (search rules) c.index_mut.ensures.value c.look_at.ensures.narrows c.loop-turn.invariant.narrows;
      may = All-set (MayLook g.T.TaskFuture) c.loop-turn.branches.items _ _ (c.look_at.ensures.unspent, c.look_at.ensures.callable) c.loop-turn.invariant.may;
      reached = g.met.C.Context.reaches_on _ _ _ c.loop-turn.invariant.reached c.look_at.ensures.reached;
    }

pub returns-then-some_wait-clause-selects : goal.returns-then-some_wait-clause-selects
returns-then-some_wait-clause-selects g c =
    let size = c.len-count.ensures ∙ c.args.branches.now.ok.0 in
    let end : c.loop-turn.turn ≡ length c.args.branches.now.items = omega (arith, size, c.loop-turn-test.false, c.loop-turn.auto.turn-end) in
    none_at_end g.T.TaskFuture g.G.Fn c.args.test.now c.args.start _ c.loop-turn.turn _ c.loop-turn.some_wait end c.loop-turn.invariant.so_far _ (rw c.if-some_wait.true refl)

pub returns-else-some_wait-clause-selects : goal.returns-else-some_wait-clause-selects
returns-else-some_wait-clause-selects g c =
    let size = c.len-count.ensures ∙ c.args.branches.now.ok.0 in
    let end : c.loop-turn.turn ≡ length c.args.branches.now.items = omega (arith, size, c.loop-turn-test.false, c.loop-turn.auto.turn-end) in
    none_at_end g.T.TaskFuture g.G.Fn c.args.test.now c.args.start _ c.loop-turn.turn _ c.loop-turn.some_wait end c.loop-turn.invariant.so_far _ (rw c.if-some_wait.false refl)

pub returns-in-Passes-clause-again : goal.returns-in-Passes-clause-again
returns-in-Passes-clause-again g c = All-set (MayLook g.T.TaskFuture) c.loop-turn.branches.items _ _ (c.look_at.ensures.unspent, c.look_at.ensures.callable) c.loop-turn.invariant.may

pub returns-in-Passes-clause-reached : goal.returns-in-Passes-clause-reached
returns-in-Passes-clause-reached g c = g.met.C.Context.reaches_on _ _ _ c.loop-turn.invariant.reached c.look_at.ensures.reached

pub returns-then-some_wait-clause-again : goal.returns-then-some_wait-clause-again
returns-then-some_wait-clause-again g c = c.loop-turn.invariant.may

pub returns-then-some_wait-clause-reached : goal.returns-then-some_wait-clause-reached
returns-then-some_wait-clause-reached g c = c.loop-turn.invariant.reached

pub returns-else-some_wait-clause-again : goal.returns-else-some_wait-clause-again
returns-else-some_wait-clause-again g c = c.loop-turn.invariant.may

pub returns-else-some_wait-clause-reached : goal.returns-else-some_wait-clause-reached
returns-else-some_wait-clause-reached g c = c.loop-turn.invariant.reached

pub returns-in-Passes-clause-given : goal.returns-in-Passes-clause-given
returns-in-Passes-clause-given g c =
    let given = rw c.in-Passes.is at c.look_at.ensures.given in
    (narrows_at (BranchGives g.T.TaskFuture.gives) c.loop-turn.branches.items _ _ _ _ _ (search rules) c.index_mut.ensures.value c.loop-turn.invariant.narrows given.0, given.1)

pub returns-in-Passes-clause-narrows : goal.returns-in-Passes-clause-narrows
returns-in-Passes-clause-narrows g c =
    narrows_set (BranchGives g.T.TaskFuture.gives) c.loop-turn.branches.items _ _ _ _ (search rules) c.index_mut.ensures.value c.look_at.ensures.narrows c.loop-turn.invariant.narrows

pub returns-then-some_wait-clause-narrows : goal.returns-then-some_wait-clause-narrows
returns-then-some_wait-clause-narrows g c = c.loop-turn.invariant.narrows

pub returns-else-some_wait-clause-narrows : goal.returns-else-some_wait-clause-narrows
returns-else-some_wait-clause-narrows g c = c.loop-turn.invariant.narrows
