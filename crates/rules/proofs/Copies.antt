pub mod CopyRead
pub mod PairCuts
pub mod RepairJob
