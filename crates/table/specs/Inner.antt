pub mod Six
