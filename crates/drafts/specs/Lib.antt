pub mod JobFor
pub mod Inner
