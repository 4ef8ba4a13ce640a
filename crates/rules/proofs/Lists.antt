pub mod Tests
pub mod Combinators
pub mod FirstBroken
pub mod ByteLists
pub mod Words
pub mod OneMore
