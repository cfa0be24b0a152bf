use Rattle.std.specs.Prelude.{true}
use Rattle.mono_rt.specs.Views.{is_timed}
use Rattle.mono_rt.specs.Stores.{store_of}
use Rattle.mono_rt.proofs.FuturePollLemmas.{on_main}
use Rattle.mono_wait.proofs.laws.each_park_of_block_on_finds_its_tasks_listed.Goals as goal

pub returns : goal.returns
returns g c = λ answer main old new listed.
    on_main answer _ _
    (λ goes. record {
      finds = λ m refines.
          let done = goes.did m refines in
          (done.went.part, (done.went.grew, c.each_park_of_a_call_finds_its_tasks_listed.ensures (is_timed old) true main (store_of old.cx) (store_of new.cx) m done.went.new done.went.part done.is));
    })
    listed
