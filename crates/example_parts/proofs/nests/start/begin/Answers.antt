use Rattle.std.proofs.Common.{ap, sym, ◌∙◌, [], ◌∷◌}
use Rattle.mono_model.specs.Tasks.{all_woken}
use Rattle.mono_time.specs.Sleeps.{with_removed_sleep}
use Rattle.example_parts.proofs.DelayLemmas.{adds-none-two, adds-none-four}
use Rattle.example_parts.proofs.nests.start.begin.Goals as goal

pub returns-in-Ok-clause-reached : goal.returns-in-Ok-clause-reached
returns-in-Ok-clause-reached g c =
    let on = g.met.C.Context.reaches_on in
    on _ _ _ c.pair.ensures.reached (on _ _ _ c.pair-2.ensures.reached c.polled_once.ensures.reached)

pub returns-in-Err-clause-reached : goal.returns-in-Err-clause-reached
returns-in-Err-clause-reached g c =
    let on = g.met.C.Context.reaches_on in
    on _ _ _ c.pair.ensures.reached (on _ _ _ c.pair-2.ensures.reached (on _ _ _ c.cancel.ensures.reached c.cancel-in-Err.ensures.reached))

pub returns-in-Ok-clause-gone : goal.returns-in-Ok-clause-gone
returns-in-Ok-clause-gone g c =
    let seen = g.C.TimeContext.sleeps in
    adds-none-four (seen c.args.cx.now) (seen c.pair.new.cx) (seen c.pair-2.new.cx) (seen c.polled_once.new.cx)
    c.in_ok-first.first.0.delay.number c.in_ok-first.first.1.delay.number c.in-Ok.second.0.delay.number c.in-Ok.second.1.delay.number
    (g.C.Context.number c.pair-2.new.cx) c.in_ok-first.ensures.only c.in-Ok.ensures.only c.polled_once.ensures.sleeps

pub returns-in-Ok-clause-polled : goal.returns-in-Ok-clause-polled
returns-in-Ok-clause-polled g c =
    let same = g.met.C.Context.same_number _ _ (g.met.C.Context.reaches_on _ _ _ c.pair.ensures.reached c.pair-2.ensures.reached) in
    c.polled_once.ensures.work
    ∙ ap (λ w. all_woken w (g.C.Context.number c.pair-2.new.cx ∷ g.C.Context.number c.pair-2.new.cx ∷ g.C.Context.number c.pair-2.new.cx ∷ g.C.Context.number c.pair-2.new.cx ∷ []))
    (c.pair-2.ensures.work ∙ c.pair.ensures.work)
    ∙ ap (λ n. all_woken (g.C.Context.work c.args.cx.now) (n ∷ n ∷ n ∷ n ∷ [])) same

pub returns-in-Err-clause-gone : goal.returns-in-Err-clause-gone
returns-in-Err-clause-gone g c =
    let first = c.cancel.ensures.cancelled in
    let second = c.cancel-in-Err.ensures.cancelled in
    let seen = g.C.TimeContext.sleeps in
    let a = c.in_ok-first.first.0.delay.number in
    let b = c.in_ok-first.first.1.delay.number in
    adds-none-two (seen c.args.cx.now) (seen c.pair.new.cx) (seen c.pair-2.new.cx) (seen c.cancel-in-Err.new.cx) a b
    c.in_ok-first.ensures.only c.in-Err.ensures.none
    (second.2.sleeps_after ∙ ap (λ m. with_removed_sleep (seen m) b) second.1
    ∙ ap (λ s. with_removed_sleep s b) (first.2.sleeps_after ∙ ap (λ m. with_removed_sleep (seen m) a) first.1))

pub returns-in-Err-clause-refused : goal.returns-in-Err-clause-refused
returns-in-Err-clause-refused g c =
    let first = c.cancel.ensures.cancelled in
    let second = c.cancel-in-Err.ensures.cancelled in
    second.2.work_after ∙ ap g.C.Context.work second.1 ∙ first.2.work_after ∙ ap g.C.Context.work first.1 ∙ c.pair-2.ensures.work ∙ c.pair.ensures.work
