use Rattle.std.proofs.Common.{arith, refl, sym, subst, ◌≡◌, ◌+◌, ◌<◌, length, [], ◌∷◌, ap, ◌∙◌, length-append}
use Rattle.mono_wheel.specs.Lists.{list_at}
use Rattle.mono_wheel.proofs.CascadeLemmas.{step-below, step-cascading, step-cascaded, taken, cascaded-start, cascading-end}
use Rattle.mono_wheel.specs.Holdings.{Held, Registered, Cascaded}
use Rattle.mono_wheel.proofs.cascades.cascade.Goals as goal
use Rattle.mono_wheel.specs.Start.{taken_list}

pub loop-key-preserved : goal.loop-key-preserved
loop-key-preserved g c = record {
  cascading = step-cascading c.args.elapsed c.args.links.now.table.entries c.loop-key.links.table.entries c.register.new.links.table.entries c.args.links.now.table c.loop-key.links.table c.pop_taken.new.self.table c.register.new.links.table c.in-Some.key c.in-Some.ensures.popped.0
      c.loop-key.invariant.cascading c.loop-key.invariant.cascaded c.in-Some.ensures.popped.1 c.in-Some.ensures.popped.2 c.in-Some.ensures.loose (subst (λ es. Registered c.args.elapsed es c.register.new.links.table.entries c.pop_taken.new.self.table c.register.new.links.table c.in-Some.key) (ap (λ w. w.entries) c.in-Some.ensures.popped.2) c.register.ensures.registered);
  cascaded = step-cascaded c.args.elapsed c.args.links.now.table.entries c.loop-key.links.table.entries c.register.new.links.table.entries c.args.links.now.table c.loop-key.links.table c.pop_taken.new.self.table c.register.new.links.table c.in-Some.key c.in-Some.ensures.popped.0
      c.loop-key.invariant.cascading c.loop-key.invariant.cascaded c.in-Some.ensures.popped.1 c.in-Some.ensures.popped.2 c.in-Some.ensures.loose (subst (λ es. Registered c.args.elapsed es c.register.new.links.table.entries c.pop_taken.new.self.table c.register.new.links.table c.in-Some.key) (ap (λ w. w.entries) c.in-Some.ensures.popped.2) c.register.ensures.registered);
  moved =
      let now = taken c.args.elapsed c.args.links.now.table.entries c.loop-key.links.table.entries c.register.new.links.table.entries c.args.links.now.table c.loop-key.links.table c.pop_taken.new.self.table c.register.new.links.table c.in-Some.key c.in-Some.ensures.popped.0
      c.loop-key.invariant.cascading c.loop-key.invariant.cascaded c.in-Some.ensures.popped.1 c.in-Some.ensures.popped.2 c.in-Some.ensures.loose (subst (λ es. Registered c.args.elapsed es c.register.new.links.table.entries c.pop_taken.new.self.table c.register.new.links.table c.in-Some.key) (ap (λ w. w.entries) c.in-Some.ensures.popped.2) c.register.ensures.registered) in
      let a : length (list_at c.register.new.links.table taken_list) ≡ length c.in-Some.ensures.popped.0 = ap length now in
      let b : length (list_at c.loop-key.links.table taken_list) ≡ length c.in-Some.ensures.popped.0 + 1 = ap length c.in-Some.ensures.popped.1 ∙ length-append c.in-Some.ensures.popped.0 (c.in-Some.key ∷ []) in
      let s = c.in-Some.ensures.moves in
      let r = c.register.ensures.moves in
      let i = c.loop-key.invariant.moved in
      omega (arith, a, b, s, r, i);
  all_moved =
      let now = taken c.args.elapsed c.args.links.now.table.entries c.loop-key.links.table.entries c.register.new.links.table.entries c.args.links.now.table c.loop-key.links.table c.pop_taken.new.self.table c.register.new.links.table c.in-Some.key c.in-Some.ensures.popped.0
      c.loop-key.invariant.cascading c.loop-key.invariant.cascaded c.in-Some.ensures.popped.1 c.in-Some.ensures.popped.2 c.in-Some.ensures.loose (subst (λ es. Registered c.args.elapsed es c.register.new.links.table.entries c.pop_taken.new.self.table c.register.new.links.table c.in-Some.key) (ap (λ w. w.entries) c.in-Some.ensures.popped.2) c.register.ensures.registered) in
      let a : length (list_at c.register.new.links.table taken_list) ≡ length c.in-Some.ensures.popped.0 = ap length now in
      let b : length (list_at c.loop-key.links.table taken_list) ≡ length c.in-Some.ensures.popped.0 + 1 = ap length c.in-Some.ensures.popped.1 ∙ length-append c.in-Some.ensures.popped.0 (c.in-Some.key ∷ []) in
      let s = c.in-Some.ensures.all_moves in
      let r = c.register.ensures.all_moves in
      let i = c.loop-key.invariant.all_moved in
      omega (arith, a, b, s, r, i);
  counted =
      let now = taken c.args.elapsed c.args.links.now.table.entries c.loop-key.links.table.entries c.register.new.links.table.entries c.args.links.now.table c.loop-key.links.table c.pop_taken.new.self.table c.register.new.links.table c.in-Some.key c.in-Some.ensures.popped.0
      c.loop-key.invariant.cascading c.loop-key.invariant.cascaded c.in-Some.ensures.popped.1 c.in-Some.ensures.popped.2 c.in-Some.ensures.loose (subst (λ es. Registered c.args.elapsed es c.register.new.links.table.entries c.pop_taken.new.self.table c.register.new.links.table c.in-Some.key) (ap (λ w. w.entries) c.in-Some.ensures.popped.2) c.register.ensures.registered) in
      let a : length (list_at c.register.new.links.table taken_list) ≡ length c.in-Some.ensures.popped.0 = ap length now in
      let b : length (list_at c.loop-key.links.table taken_list) ≡ length c.in-Some.ensures.popped.0 + 1 = ap length c.in-Some.ensures.popped.1 ∙ length-append c.in-Some.ensures.popped.0 (c.in-Some.key ∷ []) in
      let s = c.in-Some.ensures.steps in
      let i = c.loop-key.invariant.counted in
      omega (arith, a, b, s, i);
}

pub register-requires-clause-room : goal.register-requires-clause-room
register-requires-clause-room g c =
    subst (λ es. c.in-Some.key < length es) (sym (ap (λ w. w.entries) c.in-Some.ensures.popped.2))
    (step-below c.args.elapsed c.args.links.now.table.entries c.loop-key.links.table.entries c.loop-key.links.table.entries c.args.links.now.table c.loop-key.links.table c.pop_taken.new.self.table c.pop_taken.new.self.table c.in-Some.key c.in-Some.ensures.popped.0
    c.loop-key.invariant.cascading c.loop-key.invariant.cascaded c.in-Some.ensures.popped.1 c.in-Some.ensures.popped.2 c.in-Some.ensures.loose)

pub register-requires-clause-loose : goal.register-requires-clause-loose
register-requires-clause-loose g c = c.in-Some.ensures.loose

pub loop-key-init : goal.loop-key-init
loop-key-init g c = record { cascading = c.requires; cascaded = cascaded-start c.args.links.now.table.entries c.args.links.now.table; moved = omega arith; all_moved = refl; counted = refl }

pub loop-key-smaller : goal.loop-key-smaller
loop-key-smaller g c =
    let now = taken c.args.elapsed c.args.links.now.table.entries c.loop-key.links.table.entries c.register.new.links.table.entries c.args.links.now.table c.loop-key.links.table c.pop_taken.new.self.table c.register.new.links.table c.in-Some.key c.in-Some.ensures.popped.0
    c.loop-key.invariant.cascading c.loop-key.invariant.cascaded c.in-Some.ensures.popped.1 c.in-Some.ensures.popped.2 c.in-Some.ensures.loose (subst (λ es. Registered c.args.elapsed es c.register.new.links.table.entries c.pop_taken.new.self.table c.register.new.links.table c.in-Some.key) (ap (λ w. w.entries) c.in-Some.ensures.popped.2) c.register.ensures.registered) in
    let a : length (list_at c.register.new.links.table taken_list) ≡ length c.in-Some.ensures.popped.0 = ap length now in
    let b : length (list_at c.loop-key.links.table taken_list) ≡ length c.in-Some.ensures.popped.0 + 1 = ap length c.in-Some.ensures.popped.1 ∙ length-append c.in-Some.ensures.popped.0 (c.in-Some.key ∷ []) in
    omega (arith, a, b)

pub returns-clause-held : goal.returns-clause-held
returns-clause-held g c =
    subst (λ w. Held c.args.elapsed w.entries w) (sym c.in_default.ensures.popped.1)
    (cascading-end c.args.elapsed c.loop-key.links.table.entries c.loop-key.links.table c.loop-key.invariant.cascading c.in_default.ensures.popped.0)

pub returns-clause-cascaded : goal.returns-clause-cascaded
returns-clause-cascaded g c =
    subst (λ w. Cascaded c.args.links.now.table.entries w.entries c.args.links.now.table w) (sym c.in_default.ensures.popped.1) c.loop-key.invariant.cascaded

pub returns-clause-steps : goal.returns-clause-steps
returns-clause-steps g c =
    let none : length (list_at c.loop-key.links.table taken_list) ≡ 0 = ap length c.in_default.ensures.popped.0 in
    let same = c.in_default.ensures.steps in
    let counted = c.loop-key.invariant.counted in
    omega (arith, none, same, counted)

pub returns-clause-moves : goal.returns-clause-moves
returns-clause-moves g c =
    let none : length (list_at c.loop-key.links.table taken_list) ≡ 0 = ap length c.in_default.ensures.popped.0 in
    let same = c.in_default.ensures.moves in
    let moved = c.loop-key.invariant.moved in
    omega (arith, none, same, moved)

pub returns-clause-all_moves : goal.returns-clause-all_moves
returns-clause-all_moves g c =
    let none : length (list_at c.loop-key.links.table taken_list) ≡ 0 = ap length c.in_default.ensures.popped.0 in
    let same = c.in_default.ensures.all_moves in
    let moved = c.loop-key.invariant.all_moved in
    omega (arith, none, same, moved)
