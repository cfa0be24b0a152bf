-- Examples: a list of calls, and a list of answers that may be given.
use Rattle.std.specs.Prelude.{List, [], ◌∷◌}
use Rattle.mono_session.specs.Keeper.{Keeper, no_sessions}
use Rattle.mono_session.specs.Calls.{Call}
use Rattle.mono_session.specs.Calls as call
use Rattle.mono_session.specs.Answers.{Answer}
use Rattle.mono_session.specs.Answers as answer
use Rattle.mono_session.specs.Steps.{Run}
use Rattle.mono_session.specs.declared.error.SessionError.TheVariants as error

-- Some sessions remain after these answers.
abbrev pub MayAnswer : Keeper → List Call → List Answer → Type 0
MayAnswer old calls answers = (new : Keeper) × Run old calls answers new

-- The limits, and a heartbeat that postpones the close.
abbrev pub KeptOpen : Type 0
KeptOpen = MayAnswer (no_sessions 1 1)
    (call.Open 0 ∷ call.Open 9223372036854775808 ∷ call.Open 10 ∷ call.Open 1 ∷ call.Clock 5000000 ∷ call.Beat 0 ∷ call.Clock 14999999 ∷ call.Clock 15000000 ∷ call.Beat 0 ∷ [])
    (answer.Refused error.ZeroLimit ∷ answer.Refused error.Invalid ∷ answer.Session 0 ∷ answer.Refused error.AtCapacity ∷ answer.Closed [] ∷ answer.Done ∷ answer.Closed [] ∷ answer.Closed (0 ∷ [])
    ∷ answer.Refused error.NoSession ∷ [])

-- The clock closes the holder of a key, and the next in the queue holds it.
abbrev pub NextOwns : Type 0
NextOwns = MayAnswer (no_sessions 4 4)
    (call.Open 10 ∷ call.Open 20 ∷ call.Acquire 0 7 ∷ call.Acquire 1 7 ∷ call.Acquire 1 7 ∷ call.Clock 10000000 ∷ call.Owner 7 ∷ call.Release 1 7 ∷ call.Release 1 7 ∷ call.Owner 7 ∷ [])
    (answer.Session 0 ∷ answer.Session 1 ∷ answer.Held ∷ answer.Waits ∷ answer.Refused error.Doubled ∷ answer.Closed (0 ∷ []) ∷ answer.Owner 1 ∷ answer.Done ∷ answer.Refused error.NotIn ∷ answer.Free ∷ [])

-- No run answers that a closed session, left in its queue, still holds the key.
abbrev pub ClosedOwnsNot : Type 0
ClosedOwnsNot = MayAnswer (no_sessions 4 4)
    (call.Open 10 ∷ call.Acquire 0 7 ∷ call.Clock 10000000 ∷ call.Owner 7 ∷ [])
    (answer.Session 0 ∷ answer.Held ∷ answer.Closed (0 ∷ []) ∷ answer.Owner 0 ∷ []) → ⊥
