-- A channel with a value next to it, which notes each message in the step in which it is sent or received.
use Rattle.std.specs.Prelude.{Bool, true, ◌≡◌, ◌==◌, ℕ, List, Option}
use Rattle.std.specs.List.{list_any}
use Rattle.mono_sync.specs.declared.mpsc.Sending.{Sending}
use Rattle.mono_sync.specs.declared.mpsc.Receiving.{Receiving}
use Rattle.mono_sync.specs.declared.tallies.Tallied.{Tallied}
use Rattle.mono_sync.specs.Mpsc.{owed_by, listed_by, waiting_in, Sends, Receives}
use Rattle.mono_sync.specs.Listed.{channel_some}
use Rattle.mono_sync.specs.MpscRuns.{Leads, leads_itself, leads_on}

module _ {T S : Type 0} where
  abbrev pub tally_lists : Tallied T S → List ℕ → ℕ → Bool
  tally_lists a = listed_by a.channel

  abbrev pub tally_waiting : Tallied T S → List ℕ
  tally_waiting a = waiting_in a.channel

  abbrev pub tally_owes : Tallied T S → List ℕ
  tally_owes a = owed_by a.channel

  pub tally_some : (a : Tallied T S) (p : List ℕ) (t : ℕ) → tally_lists a p t ≡ true → list_any (λ u. u == t) (tally_waiting a) ≡ true
  tally_some a p t is = channel_some a.channel p t is

  module _ (rule : S → List T → Type 0) where
    -- The rule holds afterwards if it held before.
    abbrev pub KeepsRule : Tallied T S → Tallied T S → Type 0
    KeepsRule a b = rule a.tally a.channel.queue.items → rule b.tally b.channel.queue.items

    -- Calls of the channel lead from the first to the second, and the rule holds afterwards if it held before.
    abbrev pub TallyLeads : Tallied T S → Tallied T S → Type 0
    TallyLeads a b = Leads a.channel b.channel × KeepsRule a b

    pub tally_itself : (a : Tallied T S) → TallyLeads a a
    tally_itself a = (leads_itself a.channel, λ h. h)

    pub tally_on : (a b c : Tallied T S) → TallyLeads a b → TallyLeads b c → TallyLeads a c
    tally_on a b c p q = (leads_on a.channel b.channel c.channel p.0 q.0, λ h. q.1 (p.1 h))

    -- A future of this task asks to send.
    abbrev pub SendsTallied : Tallied T S → Option ℕ → T → ℕ → Sending T → Tallied T S → Type 0
    SendsTallied a ticket x me r b = Sends a.channel ticket x me r b.channel × KeepsRule a b

    -- A future of this task asks to receive.
    abbrev pub ReceivesTallied : Tallied T S → Option ℕ → ℕ → Receiving T → Tallied T S → Type 0
    ReceivesTallied a ticket me r b = Receives a.channel ticket me r b.channel × KeepsRule a b
