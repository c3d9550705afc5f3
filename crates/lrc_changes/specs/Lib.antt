pub mod Changes
pub mod Touched
