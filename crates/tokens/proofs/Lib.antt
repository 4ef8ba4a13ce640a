pub mod Decimal
pub mod Rows
pub mod WordsOfLine
