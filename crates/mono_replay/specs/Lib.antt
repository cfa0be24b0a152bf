pub mod TaskInbox
pub mod JobTable
pub mod PartRefinement
pub mod Refinement
pub mod Examples
pub mod Load
