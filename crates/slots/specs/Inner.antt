pub mod RowsOf
