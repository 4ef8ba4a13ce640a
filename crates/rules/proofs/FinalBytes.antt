pub mod FinalBytes
pub mod JobBytes
pub mod PutBytes
pub mod PointersPut
pub mod FirstNotEmpty
