pub mod Inner
pub mod Located
