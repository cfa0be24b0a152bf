use Rattle.std.proofs.Common.{rules, ◌∷◌, Some, sym, ap, ◌∙◌}
use Rattle.atomic_table.specs.Table.{rest, turned}
use Rattle.mono_joinword.specs.declared.views.Kept.TheVariants.{Output, Waker}
use Rattle.mono_joinword.specs.Views.{joiner_of}
use Rattle.mono_joinword.proofs.JoinerSeatLemmas.{place_at, place_missed}
use Rattle.mono_joinword.proofs.joiner.steps.place.Goals as goal

pub compare_exchange-found-requires : goal.compare_exchange-found-requires
compare_exchange-found-requires g c =
    let j = joiner_of c.args.seat.now.me.0 in
    let u = c.args.waker in
    let me = c.exchange.ensures.3 ∙ ap (λ m. (m.0, (1, Some (Waker u)) ∷ rest m.1)) c.requires.open.0 in
    (search rules, search rules, place_at g.O.Outcome.output_number g.W.Wakes.waker_number c.args.word.now.shared.key _ _ _ j u me c.requires.open.1)

pub take_waker-requires : goal.take_waker-requires
take_waker-requires g c =
    let u = c.args.waker in
    let had = ap (λ m. m.1) c.exchange.ensures.3 ∙ ap (λ m. (1, Some (Waker u)) ∷ rest m.1) c.requires.open.0 in
    let t = place_missed g.O.Outcome.output_number g.W.Wakes.waker_number c.exchange.new.seat.me c.compare_exchange-found.result c.compare_exchange-found.new.seat.me c.compare_exchange-found.ensures.2 c.if-found-eq-JOIN_INTEREST.false in
    let list = ap (λ m. m.1) c.turn.ensures.2 ∙ ap (λ m. turned m.1) t.2.2 ∙ ap (λ l. turned ((0, Some (Output t.2.0)) ∷ l)) had in
    (search rules, (u, list ∙ ap (λ l. (1, Some (Waker u)) ∷ rest l) (sym list)))
