use Rattle.std.proofs.Common.{refl}
use Rattle.std.specs.Prelude.{map, string_bytes}
use Rattle.mono_script.specs.TopCall.{View, view_of}
use Rattle.mono_script.proofs.TopCallLemmas.{carried, refused}
use Rattle.mono_script.proofs.top.explained.Goals as goal

pub returns-in-Some-clause-ends : goal.returns-in-Some-clause-ends
returns-in-Some-clause-ends g c =
    let before : View = view_of (g.S.Source.left c.args.source.now) (g.S.Source.faults c.args.source.now) (g.K.Sink.written c.args.sink.now) (g.K.Sink.faults c.args.sink.now) (g.P.Spawner.starts c.args.spawner.now) in
    let after : View = view_of (g.S.Source.left c.carry_out.new.source) (g.S.Source.faults c.carry_out.new.source) (g.K.Sink.written c.carry_out.new.sink) (g.K.Sink.faults c.carry_out.new.sink) (g.P.Spawner.starts c.carry_out.new.spawner) in
    let all = c.carry_out.ensures in
    carried (map string_bytes c.args.words.now.items) (g.C.Clock.readings c.args.clock) before after c.in-Some.command c.carry_out.result.status
    c.in-Some.ensures.found all.ends all.later all.read_stays all.write_stays all.unread all.asks

pub returns-in-None-clause-ends : goal.returns-in-None-clause-ends
returns-in-None-clause-ends g c =
    let view : View = view_of (g.S.Source.left c.args.source.now) (g.S.Source.faults c.args.source.now) (g.K.Sink.written c.args.sink.now) (g.K.Sink.faults c.args.sink.now) (g.P.Spawner.starts c.args.spawner.now) in
    refused (map string_bytes c.args.words.now.items) (g.C.Clock.readings c.args.clock) view view c.in-None.ensures.none refl
