use Rattle.std.proofs.Common.{◌≤◌, ◌++◌, ◌∷◌, [], refl, append_assoc, length, sym, subst, ap, ◌∙◌}
use Rattle.mono_model.specs.Tasks.{all_woken}
use Rattle.mono_task.specs.Schedule as schedule
use Rattle.mono_rt.specs.Outputs.{AddsNone}
use Rattle.mono_rt.proofs.OutputLemmas.{adds_all_woken}
use Rattle.mono_rt.specs.Drains.{remotes, listed, drain_of}
use Rattle.mono_rt.proofs.RoundLemmas.{does_drain}
use Rattle.mono_rt.proofs.DrainLemmas.{longer}
use Rattle.mono_rt.proofs.DriverLemmas.{tells_by, tells_on, remotes_tell}
use Rattle.mono_rt.proofs.parts.drains.Parts+O+Blockings+P.wake_taken.Goals as goal

pub returns-clause-drained : goal.returns-clause-drained
returns-clause-drained g c =
    let old = c.args.self.now in
    let tell_is = c.tell_remotes.ensures in
    let taken = c.args.taken.tasks.items in
    let slice = c.deref.ensures.value in
    let woken = c.tell_remotes.new.into.items in
    let journal = c.tell_remotes.new.journal in
    does_drain g.O.Outcome.output_number old _ c.args.journal.now journal c.push.new.self taken woken c.requires.distinct
    (tell_is.history ∙ ap (λ ts. c.args.journal.now.history.entries ++ remotes old.tasks.tasks ts) slice)
    (tell_is.listed ∙ ap (λ ts. c.args.taken.woken.items ++ listed old.tasks.tasks ts) slice ∙ ap (λ xs. xs ++ listed old.tasks.tasks taken) c.requires.empty)
    (c.push.ensures.history ∙ ap (λ xs. journal.history.entries ++ drain_of xs ∷ []) c.from.ensures)
    (c.wake_all.ensures ∙ ap (λ ws. schedule.with_tasks old.tasks (all_woken old.tasks.tasks ws)) c.deref-2.ensures.value)
    refl refl refl

pub returns-clause-longer : goal.returns-clause-longer
returns-clause-longer g c =
    let old = c.args.self.now in
    subst (λ x. length old.tasks.tasks.queue ≤ length x.tasks.queue) (sym c.wake_all.ensures) (longer old.tasks.tasks c.deref-2.result.now)

pub returns-clause-told : goal.returns-clause-told
returns-clause-told g c = λ old new before after ends.
    let tasks = c.args.self.now.tasks.tasks in
    let taken = c.deref.result.now in
    let woken = c.from.result in
    tells_by after (remotes tasks taken ++ drain_of woken ∷ []) refl
    (tells_on _ _ _ before before after (remotes tasks taken) (drain_of woken ∷ []) (remotes_tell tasks taken _ before)
    (new, (after, (ends, (refl, refl)))))
    (c.push.ensures.history
    ∙ ap (λ xs. xs ++ drain_of woken ∷ []) c.tell_remotes.ensures.history
    ∙ append_assoc c.args.journal.now.history.entries (remotes tasks taken) (drain_of woken ∷ []))

pub returns-clause-adds : goal.returns-clause-adds
returns-clause-adds g c =
    let old = c.args.self.now in
    subst (λ x. AddsNone old.tasks.tasks x.tasks) (sym c.wake_all.ensures) (adds_all_woken old.tasks.tasks c.deref-2.result.now)
