pub mod StartLists
pub mod NameLent
