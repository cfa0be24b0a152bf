pub mod CountLemmas
pub mod LayoutLemmas
pub mod ReadyLemmas
pub mod SlotLemmas
