use Rattle.std.proofs.Common.{◌≡◌, ap, sym, ◌∙◌, ◌++◌}
use Rattle.std.specs.Prelude.{not}
use Rattle.mono_model.specs.Tasks.{all_woken}
use Rattle.mono_replay.specs.TaskInbox.{is_known}
use Rattle.mono_machine.proofs.FinishedSetLemmas.{alike_all_woken}
use Rattle.mono_replay.proofs.parts.Parts.drain.Goals as goal

pub returns-clause-matches : goal.returns-clause-matches
returns-clause-matches c = λ m st.
    let old = c.args.self.now in
    let woken : c.deref.result.now ≡ m.inbox = c.deref.ensures.value ∙ c.drain.ensures.items ∙ ap (λ xs. xs ++ old.inbox.waiting) c.in_ok-woken.ensures.items ∙ st.inbox in
    record {
      tasks = ap (λ x. x.tasks) c.wake_all.ensures ∙ ap (all_woken old.tasks.tasks) woken ∙ ap (λ t. all_woken t m.inbox) st.tasks;
      sleeps = st.sleeps;
      jobs = st.jobs;
      inbox = ap (λ x. x.waiting) c.drain.ensures.state;
      known = λ t. ap (λ x. is_known x t) c.drain.ensures.state ∙ st.known t ∙ ap not (sym (alike_all_woken m.tasks m.inbox t));
      strategy = st.strategy;
    }
