pub mod FirstBroken
mod Ascending
