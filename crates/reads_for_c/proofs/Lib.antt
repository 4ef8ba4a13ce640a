pub mod Ordered
pub mod Named
pub mod NamedEntries
