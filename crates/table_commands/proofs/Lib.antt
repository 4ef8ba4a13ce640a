mod RenameJob
pub mod NewAsked
