pub use Rattle.lrc_code.specs.Losses
pub use Rattle.lrc_terms.specs.Levels
pub use Rattle.lrc_rules.specs.States
pub use Rattle.lrc_rules.specs.Steps
pub use Rattle.lrc_book.specs.Books
pub use Rattle.lrc_book.specs.Looks
pub mod Forecasts
pub mod Hits
