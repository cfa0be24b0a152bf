pub mod PartyLemmas
