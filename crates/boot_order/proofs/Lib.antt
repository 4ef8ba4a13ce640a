pub mod BootOrder
