use Rattle.std.proofs.Common.{◌≡◌, ◌∙◌, None, refl, arith}
use Rattle.mono_session.specs.Keeper.{first_of}
use Rattle.mono_session.specs.Entries.{keys_in}
use Rattle.mono_session.proofs.EntryLemmas.{others_stay}
use Rattle.mono_session.proofs.LeaveLemmas.{without_one, keys_after, listed_next, listed_all, all_left}
use Rattle.mono_session.proofs.entries.Entries.leave_each.Goals as goal

pub loop-key-preserved : goal.loop-key-preserved
loop-key-preserved c = record {
  room = omega (arith, c.loop-key.invariant.room, c.in-Some.ensures.count, c.push_reserved.ensures.len, c.push_reserved.ensures.capacity);
  capacity = c.push_reserved.ensures.capacity ∙ c.loop-key.invariant.capacity;
  stay = λ entries entered.
      let s = c.args.session in
      let key = c.in-Some.key in
      let before = c.loop-key.invariant.stay entries entered in
      let stay = before.0 in
      let first = c.in-Some.ensures.key stay before.1 in (
        without_one s key stay,
        c.in-Some.ensures.kept stay before.1,
        others_stay stay s key ∙ before.2,
        listed_next s key (keys_in stay s) (keys_in (without_one s key stay) s) c.loop-key.left.items c.push_reserved.new.self.items _ (keys_after stay s key (before.1.keys.once s) first) c.push_reserved.ensures.items before.3,
      );
}

pub returns-clause-kept : goal.returns-clause-kept
returns-clause-kept c = λ entries entered.
    let before = c.loop-key.invariant.stay entries entered in
    let first : None ≡ first_of (keys_in before.0 c.args.session) = c.in_default.ensures.key before.0 before.1 in
    all_left c.leave_first.new.self before.0 entries c.args.session None refl first (c.in_default.ensures.kept before.0 before.1) before.2

pub returns-clause-listed : goal.returns-clause-listed
returns-clause-listed c = λ entries entered.
    let before = c.loop-key.invariant.stay entries entered in
    listed_all c.args.session (keys_in before.0 c.args.session) c.loop-key.left.items _ (c.in_default.ensures.key before.0 before.1) before.3
