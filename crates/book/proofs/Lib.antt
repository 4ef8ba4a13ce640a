pub mod ReadBack
pub mod Changes
