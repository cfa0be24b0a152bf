use Rattle.std.proofs.Common.{sym, subst, ap, ◌∙◌, ◌+◌, ◌++◌, ◌∷◌, [], Some}
use Rattle.mono_time.specs.Instants.{nanos_of}
use Rattle.mono_model.specs.Ticks.{up}
use Rattle.mono_time.specs.Sleeps.{SleepTable, with_added_sleep}
use Rattle.mono_time.specs.Timers.{sleeps_of}
use Rattle.mono_limit.specs.RetryTable.{Holds}
use Rattle.mono_limit.proofs.RetrySleepLemmas.{same_next, added_holds, refused_same}
use Rattle.mono_limit.proofs.retries.Retries.add.Goals as goal

pub invariant_of-self-in-Ok : goal.invariant_of-self-in-Ok
invariant_of-self-in-Ok c =
    let t = c.args.self.now in
    let s = c.args.schedule in
    let rows = c.add-in-Ok.ensures.table ∙ ap (λ xs. xs ++ Some s ∷ []) c.reserve.ensures.table in
    let tick = up (nanos_of c.instant_of.result) in
    let added = added_holds t.rows.table (sleeps_of t.timers) t.live t.holds s c.requires.sound c.requires.fresh tick in
    record {
      holds = subst (λ x. Holds c.add-in-Ok.new.self.table x (t.live + 1)) (sym c.in-Ok.ensures.added.3)
          (subst (λ xs. Holds xs (with_added_sleep (sleeps_of t.timers) tick) (t.live + 1)) (sym rows) added);
    }

pub invariant_of-self-in-Err : goal.invariant_of-self-in-Err
invariant_of-self-in-Err c =
    let t = c.args.self.now in
    let same = refused_same (sleeps_of t.timers) (sleeps_of c.add.new.self) (nanos_of c.instant_of.result) _ c.in-Err.ensures.added in
    record { holds = subst (λ xs. Holds xs (sleeps_of c.add.new.self) t.live) (sym c.reserve.ensures.table) (subst (λ x. Holds t.rows.table x t.live) (sym same) t.holds) }

pub returns-in-Ok-clause-number : goal.returns-in-Ok-clause-number
returns-in-Ok-clause-number c =
    let t = c.args.self.now in
    c.in-Ok.ensures.added.2 ∙ sym (same_next t.rows.table (sleeps_of t.timers) t.live t.holds)

pub returns-in-Ok-clause-rows : goal.returns-in-Ok-clause-rows
returns-in-Ok-clause-rows c = c.add-in-Ok.ensures.table ∙ ap (λ xs. xs ++ Some c.args.schedule ∷ []) c.reserve.ensures.table

pub returns-in-Ok-clause-greatest : goal.returns-in-Ok-clause-greatest
returns-in-Ok-clause-greatest c = ap (λ (x : SleepTable). x.greatest) c.in-Ok.ensures.added.3

pub returns-in-Err-clause-greatest : goal.returns-in-Err-clause-greatest
returns-in-Err-clause-greatest c =
    ap (λ (x : SleepTable). x.greatest) (refused_same (sleeps_of c.args.self.now.timers) (sleeps_of c.add.new.self) (nanos_of c.instant_of.result) _ c.in-Err.ensures.added)
