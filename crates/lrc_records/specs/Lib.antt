pub mod Commands
pub mod Words
pub mod Replies
pub mod Shown
pub mod Recipes
