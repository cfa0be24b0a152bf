use Rattle.std.proofs.Common.{◌≡◌, ◌∙◌, Option, Some, IfOk, IsTrue, false, ap, sym, subst, rules}
use Rattle.std.specs.Option.{option_map}
use Rattle.mono_run.specs.Fronts.{front, Continues, ContinuesNever}
use Rattle.mono_run.proofs.parser.fronts.Front.put.Goals as goal

pub returns-in-Some-clause-taken : goal.returns-in-Some-clause-taken
returns-in-Some-clause-taken c =
    let value : c.self.inside.inside ≡ Some c.in-Some.body = search rules in
    let whole : front c.self.inside.limits c.self.inside.kinds.items (Some c.in-Some.body.items) ≡ c.args.self.now = ap (λ i. front c.self.inside.limits c.self.inside.kinds.items (option_map (λ v. v.items) i)) (sym value) ∙ c.self.view_is in
    subst (λ f. IfOk c.put_inside.result (λ taken. IsTrue taken → Continues c.args.kinds f c.args.text.now c.put_inside.new.self)) whole c.put_inside.ensures.taken

pub returns-in-Some-clause-refused : goal.returns-in-Some-clause-refused
returns-in-Some-clause-refused c =
    let value : c.self.inside.inside ≡ Some c.in-Some.body = search rules in
    let whole : front c.self.inside.limits c.self.inside.kinds.items (Some c.in-Some.body.items) ≡ c.args.self.now = ap (λ i. front c.self.inside.limits c.self.inside.kinds.items (option_map (λ v. v.items) i)) (sym value) ∙ c.self.view_is in
    subst (λ f. IfOk c.put_inside.result (λ taken. taken ≡ false → ContinuesNever c.args.kinds f c.args.text.now)) whole c.put_inside.ensures.refused
