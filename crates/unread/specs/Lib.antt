pub mod SameBlocks
pub mod SmallestGranule
