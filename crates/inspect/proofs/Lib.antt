pub mod EntryNames
pub mod Unread
