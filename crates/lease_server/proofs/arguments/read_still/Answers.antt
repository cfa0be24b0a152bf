use Rattle.std.proofs.Common.{rules, ◌≡◌, ◌∷◌, ◌++◌, [], true, codes, map, string_bytes, sym, ap, ◌∙◌}
use Rattle.lease_server.specs.Calls.{FitSettings, number_words}
use Rattle.lease_server.specs.Arguments.{SaysStill}
use Rattle.lease_server.specs.declared.words.Settings.{Settings}
use Rattle.lease_server.proofs.ArgumentLemmas.{init, none_by, some_by, seven}
use Rattle.lease_server.proofs.arguments.read_still.Goals as goal

pub returns-clause-found : goal.returns-clause-found
returns-clause-found c =
    let ws = seven c.args.words.now c.cores-item.result c.sessions-item.result c.entries-item.result c.buckets-item.result c.actors-item.result c.messages-item.result c.still-item.result c.in-len7.len_at_least c.in-len7.len_below c.cores-item.is c.sessions-item.is c.entries-item.is c.buckets-item.is c.actors-item.is c.messages-item.is c.still-item.is in
    let same : map string_bytes c.args.words.now ≡ c.as_bytes-2.result.now ∷ c.as_bytes-3.result.now ∷ c.as_bytes-4.result.now ∷ c.as_bytes-5.result.now ∷ c.as_bytes-6.result.now ∷ c.as_bytes-7.result.now ∷ c.as_bytes.result.now ∷ [] =
    rw (c.as_bytes-2.ensures.value, c.as_bytes-3.ensures.value, c.as_bytes-4.ensures.value, c.as_bytes-5.ensures.value, c.as_bytes-6.ensures.value, c.as_bytes-7.ensures.value, c.as_bytes.ensures.value) (ap (map string_bytes) ws) in
    let is : c.as_bytes.result.now ≡ codes "still" = search rules in
    some_by c.read_six.result (λ (s : Settings). (c.as_bytes-2.result.now ∷ c.as_bytes-3.result.now ∷ c.as_bytes-4.result.now ∷ c.as_bytes-5.result.now ∷ c.as_bytes-6.result.now ∷ c.as_bytes-7.result.now ∷ [] ≡ number_words s) × FitSettings s × (s.is_still ≡ true)) (λ (s : Settings). SaysStill (map string_bytes c.args.words.now) s)
    (λ s p. record { text = same ∙ ap (λ l. l ++ c.as_bytes.result.now ∷ []) p.0 ∙ ap (λ x. number_words s ++ x ∷ []) is; fit = p.1; stays = p.2 }) c.read_six.ensures.found

pub returns-clause-none : goal.returns-clause-none
returns-clause-none c =
    let ws = seven c.args.words.now c.cores-item.result c.sessions-item.result c.entries-item.result c.buckets-item.result c.actors-item.result c.messages-item.result c.still-item.result c.in-len7.len_at_least c.in-len7.len_below c.cores-item.is c.sessions-item.is c.entries-item.is c.buckets-item.is c.actors-item.is c.messages-item.is c.still-item.is in
    let same : map string_bytes c.args.words.now ≡ c.as_bytes-2.result.now ∷ c.as_bytes-3.result.now ∷ c.as_bytes-4.result.now ∷ c.as_bytes-5.result.now ∷ c.as_bytes-6.result.now ∷ c.as_bytes-7.result.now ∷ c.as_bytes.result.now ∷ [] =
    rw (c.as_bytes-2.ensures.value, c.as_bytes-3.ensures.value, c.as_bytes-4.ensures.value, c.as_bytes-5.ensures.value, c.as_bytes-6.ensures.value, c.as_bytes-7.ensures.value, c.as_bytes.ensures.value) (ap (map string_bytes) ws) in
    none_by c.read_six.result ((s : Settings) → c.as_bytes-2.result.now ∷ c.as_bytes-3.result.now ∷ c.as_bytes-4.result.now ∷ c.as_bytes-5.result.now ∷ c.as_bytes-6.result.now ∷ c.as_bytes-7.result.now ∷ [] ≡ number_words s → FitSettings s → ⊥) ((s : Settings) → SaysStill (map string_bytes c.args.words.now) s → ⊥)
    (λ none s says. none s (ap init (sym same ∙ says.text)) says.fit) c.read_six.ensures.none
