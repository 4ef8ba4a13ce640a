pub mod OnlyBlocks
pub mod SmallerGranule
