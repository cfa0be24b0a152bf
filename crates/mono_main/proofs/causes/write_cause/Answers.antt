use Rattle.std.proofs.Common.{◌∷◌, ◌++◌, [], ℕ, List, Option}
use Rattle.std.specs.Prelude.{Result, Ok, Err, OnErr, codes}
use Rattle.mono_text.specs.Environment.{HasWritten, HasWrittenPrefix}
use Rattle.mono_main.proofs.CauseLemmas.{prefix_before, prefix_behind}
use Rattle.mono_main.proofs.causes.write_cause.Goals as goal

on_any : {A E : Type 0} (r : Result A E) (P : Type 0) → P → OnErr r P
on_any (Ok x) P p = tt
on_any (Err e) P p = p

on_each : {A E : Type 0} (r : Result A E) (P Q : Type 0) → (P → Q) → OnErr r P → OnErr r Q
on_each (Ok x) P Q f p = tt
on_each (Err e) P Q f p = f p

pub returns-in_err-write_all-clause-some : goal.returns-in_err-write_all-clause-some
returns-in_err-write_all-clause-some g c =
    let before : Option (List ℕ) = g.E.Sink.written c.args.causes.now in
    let after : Option (List ℕ) = g.E.Sink.written c.write_all.new.sink in
    let rest : List ℕ = c.args.cause.now ++ 10 ∷ [] in
    on_any c.from_residual.result (HasWrittenPrefix before after (codes "monoio: " ++ rest)) (prefix_before before after (codes "monoio: ") rest c.in_err-write_all.ensures.some)

pub returns-in_err-write_all-2-clause-some : goal.returns-in_err-write_all-2-clause-some
returns-in_err-write_all-2-clause-some g c =
    let before : Option (List ℕ) = g.E.Sink.written c.args.causes.now in
    let middle : Option (List ℕ) = g.E.Sink.written c.write_all.new.sink in
    let after : Option (List ℕ) = g.E.Sink.written c.write_all-2.new.sink in
    let rest : List ℕ = c.args.cause.now ++ 10 ∷ [] in
    let part : HasWrittenPrefix middle after c.args.cause.now = rw c.as_bytes.ensures.value at c.in_err-write_all-2.ensures.some in
    on_any c.from_residual-in_err-write_all-2.result (HasWrittenPrefix before after (codes "monoio: " ++ rest))
    (prefix_behind before middle after (codes "monoio: ") rest c.in_ok-write_all.ensures.ok (prefix_before middle after c.args.cause.now (10 ∷ []) part))

pub returns-clause-some : goal.returns-clause-some
returns-clause-some g c =
    let before : Option (List ℕ) = g.E.Sink.written c.args.causes.now in
    let first : Option (List ℕ) = g.E.Sink.written c.write_all.new.sink in
    let second : Option (List ℕ) = g.E.Sink.written c.write_all-2.new.sink in
    let after : Option (List ℕ) = g.E.Sink.written c.write_all-3.new.sink in
    let rest : List ℕ = c.args.cause.now ++ 10 ∷ [] in
    let middle : HasWritten first second c.args.cause.now = rw c.as_bytes.ensures.value at c.in_ok-write_all-2.ensures.ok in
    on_each c.write_all-3.result (HasWrittenPrefix second after (10 ∷ [])) (HasWrittenPrefix before after (codes "monoio: " ++ rest))
    (λ end. prefix_behind before first after (codes "monoio: ") rest c.in_ok-write_all.ensures.ok (prefix_behind first second after c.args.cause.now (10 ∷ []) middle end))
    c.write_all-3.ensures.some
