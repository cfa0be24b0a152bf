-- What a call on the wheel leaves of the other keys.
use Rattle.std.proofs.Common.{ℕ, None, refl, ap, ◌∙◌}
use Rattle.std.specs.Prelude.{is_some, slice_index_or, false, Option}
use Rattle.mono_wheel.specs.Model.{Wheel, Timed, Changed}
use Rattle.mono_time.specs.Entries.{tick_in}
use Rattle.mono_time.specs.Representation.{KeepsBut, ArmedAnew}

pub keeps-same : (wheel : Wheel) (key : ℕ) → KeepsBut wheel wheel key
keeps-same wheel key = record {
  ticks = λ other apart. refl;
  in_or_out = λ other apart. refl;
  registered = λ other tick apart at. at;
  order = λ a b tick apart_a apart_b at_a at_b before. before;
  reserved = λ other. refl;
}

pub keeps-changed : (old new : Wheel) (key : ℕ) (timed : Option Timed) → Changed old new key timed → KeepsBut old new key
keeps-changed old new key timed change = record {
  ticks = λ other apart. ap tick_in (change.others other apart);
  in_or_out = λ other apart. ap is_some (change.others other apart);
  registered = λ other tick apart at. change.others other apart ∙ at;
  order = λ a b tick apart_a apart_b at_a at_b before. change.order a b before (change.others a apart_a) (change.others b apart_b);
  reserved = λ other. ap (λ rs. slice_index_or rs other false) change.reserved;
}

pub keeps-both : (old mid new : Wheel) (key : ℕ) → KeepsBut old mid key → KeepsBut mid new key → KeepsBut old new key
keeps-both old mid new key first second = record {
  ticks = λ other apart. second.ticks other apart ∙ first.ticks other apart;
  in_or_out = λ other apart. second.in_or_out other apart ∙ first.in_or_out other apart;
  registered = λ other tick apart at. second.registered other tick apart (first.registered other tick apart at);
  order = λ a b tick apart_a apart_b at_a at_b before.
      second.order a b tick apart_a apart_b (first.registered a tick apart_a at_a) (first.registered b tick apart_b at_b) (first.order a b tick apart_a apart_b at_a at_b before);
  reserved = λ other. second.reserved other ∙ first.reserved other;
}

-- a key that was taken out and put in anew
pub anew-after_out : (old mid new : Wheel) (key tick : ℕ) → Changed old mid key None → ArmedAnew mid new key tick → ArmedAnew old new key tick
anew-after_out old mid new key tick out put = record {
  here = put.here;
  others = λ other apart. put.others other apart ∙ out.others other apart;
  keeps = keeps-both old mid new key (keeps-changed old mid key None out) put.keeps;
  last = λ other apart at. put.last other apart (out.others other apart ∙ at);
  elapsed = put.elapsed ∙ out.elapsed;
}
