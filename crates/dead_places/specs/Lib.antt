pub mod DeadLines
