-- What the reader of the command line's words returns.
use Rattle.std.specs.Prelude.{◌≡◌, ◌<◌, ◌^◌, ℕ, true, false, List, [], ◌∷◌, ◌++◌, codes, decimal}
use Rattle.lease_core.specs.declared.sizes.Sizes.{Sizes}
use Rattle.lease_server.specs.Calls.{FitSettings, number_words}
use Rattle.lease_server.specs.declared.words.Settings.{Settings}

-- The five words spell these sizes.
pub record AreSizes (sessions entries buckets actors messages : List ℕ) (sizes : Sizes) : Type 0 where
  pub sessions_text : sessions ≡ decimal sizes.sessions
  pub entries_text : entries ≡ decimal sizes.entries
  pub buckets_text : buckets ≡ decimal sizes.buckets
  pub actors_text : actors ≡ decimal sizes.actors
  pub messages_text : messages ≡ decimal sizes.messages
  pub sessions_fit : sizes.sessions < 2 ^ 64
  pub entries_fit : sizes.entries < 2 ^ 64
  pub buckets_fit : sizes.buckets < 2 ^ 64
  pub actors_fit : sizes.actors < 2 ^ 64
  pub messages_fit : sizes.messages < 2 ^ 64

-- The words say these settings, whose clocks move.
pub record SaysMoving (words : List (List ℕ)) (settings : Settings) : Type 0 where
  pub text : words ≡ number_words settings
  pub fit : FitSettings settings
  pub moves : settings.is_still ≡ false

-- The words say these settings, whose clocks stay at 0.
pub record SaysStill (words : List (List ℕ)) (settings : Settings) : Type 0 where
  pub text : words ≡ number_words settings ++ codes "still" ∷ []
  pub fit : FitSettings settings
  pub stays : settings.is_still ≡ true
