use Rattle.std.proofs.Common.{◌∷◌, ◌++◌, [], ℕ, List, Option}
use Rattle.std.specs.Prelude.{Result, Ok, Err, OnErr, OnOk, codes}
use Rattle.mono_text.specs.Environment.{HasWritten, HasWrittenPrefix}
use Rattle.lease_server.proofs.CauseLemmas.{prefix_before, prefix_behind, written_both}
use Rattle.lease_server.proofs.causes.write_cause.Goals as goal

on_any : {A E : Type 0} (r : Result A E) (P : Type 0) → P → OnErr r P
on_any (Ok x) P p = tt
on_any (Err e) P p = p

on_each : {A E : Type 0} (r : Result A E) (P Q : Type 0) → (P → Q) → OnErr r P → OnErr r Q
on_each (Ok x) P Q f p = tt
on_each (Err e) P Q f p = f p

on_ok : {A E : Type 0} (r : Result A E) (P Q : Type 0) → (P → Q) → OnOk r P → OnOk r Q
on_ok (Ok x) P Q f p = f p
on_ok (Err e) P Q f p = tt

pub returns-in_err-write_all-clause-some : goal.returns-in_err-write_all-clause-some
returns-in_err-write_all-clause-some g c =
    let before : Option (List ℕ) = g.E.Sink.written c.args.causes.now in
    let after : Option (List ℕ) = g.E.Sink.written c.write_all.new.sink in
    let rest : List ℕ = c.args.cause.now ++ 10 ∷ [] in
    on_any c.from_residual.result (HasWrittenPrefix before after (codes "lease_server: " ++ rest)) (prefix_before before after (codes "lease_server: ") rest c.in_err-write_all.ensures.some)

pub returns-in_err-write_all-2-clause-some : goal.returns-in_err-write_all-2-clause-some
returns-in_err-write_all-2-clause-some g c =
    let before : Option (List ℕ) = g.E.Sink.written c.args.causes.now in
    let middle : Option (List ℕ) = g.E.Sink.written c.write_all.new.sink in
    let after : Option (List ℕ) = g.E.Sink.written c.write_all-2.new.sink in
    let rest : List ℕ = c.args.cause.now ++ 10 ∷ [] in
    let part : HasWrittenPrefix middle after c.args.cause.now = rw c.as_bytes.ensures.value at c.in_err-write_all-2.ensures.some in
    on_any c.from_residual-in_err-write_all-2.result (HasWrittenPrefix before after (codes "lease_server: " ++ rest))
    (prefix_behind before middle after (codes "lease_server: ") rest c.in_ok-write_all.ensures.ok (prefix_before middle after c.args.cause.now (10 ∷ []) part))

pub returns-clause-some : goal.returns-clause-some
returns-clause-some g c =
    let before : Option (List ℕ) = g.E.Sink.written c.args.causes.now in
    let first : Option (List ℕ) = g.E.Sink.written c.write_all.new.sink in
    let second : Option (List ℕ) = g.E.Sink.written c.write_all-2.new.sink in
    let after : Option (List ℕ) = g.E.Sink.written c.write_all-3.new.sink in
    let rest : List ℕ = c.args.cause.now ++ 10 ∷ [] in
    let middle : HasWritten first second c.args.cause.now = rw c.as_bytes.ensures.value at c.in_ok-write_all-2.ensures.ok in
    on_each c.write_all-3.result (HasWrittenPrefix second after (10 ∷ [])) (HasWrittenPrefix before after (codes "lease_server: " ++ rest))
    (λ end. prefix_behind before first after (codes "lease_server: ") rest c.in_ok-write_all.ensures.ok (prefix_behind first second after c.args.cause.now (10 ∷ []) middle end))
    c.write_all-3.ensures.some

pub returns-clause-ok : goal.returns-clause-ok
returns-clause-ok g c =
    let before : Option (List ℕ) = g.E.Sink.written c.args.causes.now in
    let first : Option (List ℕ) = g.E.Sink.written c.write_all.new.sink in
    let second : Option (List ℕ) = g.E.Sink.written c.write_all-2.new.sink in
    let after : Option (List ℕ) = g.E.Sink.written c.write_all-3.new.sink in
    let rest : List ℕ = c.args.cause.now ++ 10 ∷ [] in
    let middle : HasWritten first second c.args.cause.now = rw c.as_bytes.ensures.value at c.in_ok-write_all-2.ensures.ok in
    on_ok c.write_all-3.result (HasWritten second after (10 ∷ [])) (HasWritten before after (codes "lease_server: " ++ rest))
    (λ end. written_both before first after (codes "lease_server: ") rest c.in_ok-write_all.ensures.ok (written_both first second after c.args.cause.now (10 ∷ []) middle end))
    c.write_all-3.ensures.ok
