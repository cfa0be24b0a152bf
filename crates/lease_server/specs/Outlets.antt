-- What an outlet was given: the messages that it sent, and the one that it did not send yet.
use Rattle.std.specs.Prelude.{◌≡◌, List, [], ◌∷◌, ◌++◌, Option, Some, None}
use Rattle.mono_channel.specs.Ends.{Ends, sent_by, settled_by, shares_of, IsPair}
use Rattle.lease_server.specs.OutletViews.{Outlet}

-- The message, if any.
abbrev pub kept : {M : Type 0} → Option M → List M
kept None = []
kept (Some message) = message ∷ []

-- All messages that the outlet was given, in order.
abbrev pub passed : {M : Type 0} → Outlet M → List M
passed outlet = sent_by outlet.sender ++ kept outlet.message

-- The sender is of the same channel, and has its shares.
abbrev pub Stays : {M : Type 0} → Ends M → Ends M → Type 0
Stays old new = IsPair new old × (shares_of new ≡ shares_of old)

-- The receiver is of the same channel, has settled what it had settled, and has its shares.
abbrev pub Keeps : {M : Type 0} → Ends M → Ends M → Type 0
Keeps old new = IsPair new old × (settled_by new ≡ settled_by old) × (shares_of new ≡ shares_of old)

-- It is an outlet of the same channel, and was given the same.
abbrev pub KeepsAll : {M : Type 0} → Outlet M → Outlet M → Type 0
KeepsAll old new = Stays old.sender new.sender × (passed new ≡ passed old)
