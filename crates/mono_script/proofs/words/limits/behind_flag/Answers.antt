use Rattle.std.proofs.Common.{◌≡◌, ◌∷◌, [], map, string_bytes, sym, ap, ◌∙◌}
use Rattle.mono_script.proofs.CommandLemmas.{six}
use Rattle.mono_script.proofs.words.limits.behind_flag.Goals as goal

pub returns-clause-none : goal.returns-clause-none
returns-clause-none c =
    let ws = six c.as_slice.result.now c.word-item.result c.second-item.result c.blocking-item.result c.tasks-item.result c.jobs-item.result c.sleeps-item.result c.in-len6.len_at_least c.in-len6.len_below
    c.word-item.is c.second-item.is c.blocking-item.is c.tasks-item.is c.jobs-item.is c.sleeps-item.is in
    let all = ap (map string_bytes) (sym c.as_slice.ensures.value ∙ ws) in
    let same : map string_bytes c.args.words.now.items ≡ c.as_bytes.result.now ∷ c.as_bytes-2.result.now ∷ c.as_bytes-3.result.now ∷ c.as_bytes-4.result.now ∷ c.as_bytes-5.result.now ∷ c.as_bytes-6.result.now ∷ [] =
    rw (c.as_bytes.ensures.value, c.as_bytes-2.ensures.value, c.as_bytes-3.ensures.value, c.as_bytes-4.ensures.value, c.as_bytes-5.ensures.value, c.as_bytes-6.ensures.value) all in
    rw same c.read_six.ensures.none
