pub mod RowsOf
mod Steps
