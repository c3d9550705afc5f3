pub use Rattle.lrc_field.specs.Recipes
pub use Rattle.lrc_field.specs.Stripes
pub mod Answers
pub mod Told
