use Rattle.std.proofs.Common.{rules, ◌≡◌, sym, ap, ◌∙◌, Some, None, map, slice_get, string_bytes}
use Rattle.std.specs.Prelude.{codes}
use Rattle.std.specs.Option.{option_map}
use Rattle.std.proofs.lemmas.Option.{slice_get-map, slice_get-get_or, slice_get_past}
use Rattle.mono_script.proofs.FollowWordLemmas.{word_is}
use Rattle.mono_script.proofs.follow_words.is_following.Goals as goal

pub returns-in-Some : goal.returns-in-Some
returns-in-Some c =
    let is : c.deref.result.now ≡ c.args.words.now.items = search rules in
    let at : slice_get c.args.words.now.items 1 ≡ Some c.in-Some.second.now = rw (sym is) (slice_get-get_or c.deref.result.now 1 c.in-Some.second.now c.in-Some.ensures.lookup.3.0 ∙ ap Some (sym c.in-Some.ensures.lookup.1)) in
    let both : slice_get (map string_bytes c.args.words.now.items) 1 ≡ Some (string_bytes c.in-Some.second.now) = slice_get-map string_bytes c.args.words.now.items 1 ∙ ap (option_map string_bytes) at in
    word_is c.eq.result (slice_get (map string_bytes c.args.words.now.items) 1) (string_bytes c.in-Some.second.now) c.as_str.result.now (codes "--follow") both c.as_str.ensures.value c.eq.ensures

pub returns-in-None : goal.returns-in-None
returns-in-None c =
    let is : c.deref.result.now ≡ c.args.words.now.items = search rules in
    let past : slice_get c.args.words.now.items 1 ≡ None = rw (sym is) (slice_get_past c.deref.result.now 1 c.in-None.ensures.lookup.3) in
    let both : slice_get (map string_bytes c.args.words.now.items) 1 ≡ None = slice_get-map string_bytes c.args.words.now.items 1 ∙ ap (option_map string_bytes) past in
    (λ no. cc no, λ at. cc (sym both ∙ at))
