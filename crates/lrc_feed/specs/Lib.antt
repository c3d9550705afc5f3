pub mod Feeds
pub mod Rules
