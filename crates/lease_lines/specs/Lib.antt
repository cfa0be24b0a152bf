pub mod Lines
pub mod Parser
pub mod Replies
