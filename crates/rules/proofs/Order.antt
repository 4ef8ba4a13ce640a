pub mod Ordering
pub mod Clearing
pub mod OnceEach
pub mod SlotsMoved
