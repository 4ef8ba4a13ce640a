pub mod EqualBytes
