use Rattle.std.proofs.Common.{◌≡◌, ◌∷◌, [], map, string_bytes, sym, ap, ◌∙◌}
use Rattle.lease_server.specs.Calls.{FitSettings, number_words}
use Rattle.lease_server.specs.Arguments.{SaysMoving}
use Rattle.lease_server.specs.declared.words.Settings.{Settings}
use Rattle.lease_server.proofs.ArgumentLemmas.{none_by, six}
use Rattle.lease_server.proofs.arguments.read_moving.Goals as goal

pub returns-clause-none : goal.returns-clause-none
returns-clause-none c =
    let ws = six c.args.words.now c.cores-item.result c.sessions-item.result c.entries-item.result c.buckets-item.result c.actors-item.result c.messages-item.result c.in-len6.len_at_least c.in-len6.len_below c.cores-item.is c.sessions-item.is c.entries-item.is c.buckets-item.is c.actors-item.is c.messages-item.is in
    let same : map string_bytes c.args.words.now ≡ c.as_bytes.result.now ∷ c.as_bytes-2.result.now ∷ c.as_bytes-3.result.now ∷ c.as_bytes-4.result.now ∷ c.as_bytes-5.result.now ∷ c.as_bytes-6.result.now ∷ [] =
    rw (c.as_bytes.ensures.value, c.as_bytes-2.ensures.value, c.as_bytes-3.ensures.value, c.as_bytes-4.ensures.value, c.as_bytes-5.ensures.value, c.as_bytes-6.ensures.value) (ap (map string_bytes) ws) in
    none_by c.read_six.result ((s : Settings) → c.as_bytes.result.now ∷ c.as_bytes-2.result.now ∷ c.as_bytes-3.result.now ∷ c.as_bytes-4.result.now ∷ c.as_bytes-5.result.now ∷ c.as_bytes-6.result.now ∷ [] ≡ number_words s → FitSettings s → ⊥) ((s : Settings) → SaysMoving (map string_bytes c.args.words.now) s → ⊥)
    (λ none s says. none s (sym same ∙ says.text) says.fit) c.read_six.ensures.none
