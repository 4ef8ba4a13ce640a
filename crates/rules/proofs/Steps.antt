pub mod Programming
pub mod Rewriting
pub mod Wiping
pub mod Cutting
pub mod ProgramCuts
pub mod RewriteCuts
pub mod Frame
pub mod RunsInside
