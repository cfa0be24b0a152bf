-- What has been received, as a beginning of what was sent.
use Rattle.std.specs.Prelude.{⊤, ◌≡◌, ℕ, List, [], ◌∷◌, ◌++◌, map}
use Rattle.std.specs.List.{flat_map}
use Rattle.mono_channel.specs.Delivery.{Arrived, Interleaves, all_shares}

module _ {T : Type 0} where
  -- each list is a beginning of the one at its place
  abbrev pub AreBeginnings : List (List T) → List (List T) → Type 0
  AreBeginnings [] [] = ⊤
  AreBeginnings [] (w ∷ ws) = ⊥
  AreBeginnings (p ∷ ps) [] = ⊥
  AreBeginnings (p ∷ ps) (w ∷ ws) = ((rest : List T) × (p ++ rest ≡ w)) × AreBeginnings ps ws

  -- once the queued messages are received too, all that the settled senders sent has arrived
  abbrev pub Begun : ℕ → List T → List (List T) → Type 0
  Begun shares received sent = (queued : List T) × Arrived shares (received ++ queued) sent

-- With all shares at the receiver, what arrived interleaves what the settled senders sent.
abbrev pub ArrivedInterleaves : Type 0 → Type 0
ArrivedInterleaves T = (shares : ℕ) (received : List T) (sent : List (List T)) → Arrived shares received sent → shares ≡ all_shares → Interleaves sent received

-- An interleaving of one list is that list.
abbrev pub AloneArrives : Type 0 → Type 0
AloneArrives T = (sent received : List T) → Interleaves (sent ∷ []) received → received ≡ sent

-- The parts of the messages interleave as the messages do.
abbrev pub PartsInterleave : Type 0 → Type 0 → Type 0
PartsInterleave T U = (f : T → List U) (sent : List (List T)) (received : List T) → Interleaves sent received → Interleaves (map (λ l. flat_map f l) sent) (flat_map f received)

-- A beginning of an interleaving interleaves a beginning of each part.
abbrev pub BeginningsInterleave : Type 0 → Type 0
BeginningsInterleave T = (sent : List (List T)) (received queued : List T) → Interleaves sent (received ++ queued) → (parts : List (List T)) × Interleaves parts received × AreBeginnings parts sent
