pub use Rattle.lrc_topology.specs.Documents
pub use Rattle.lrc_images.specs.Causes
pub use Rattle.lrc_images.specs.Rows
pub use Rattle.lrc_image_text.specs.Texts
pub use Rattle.lrc_book.specs.Books
pub mod Begun
pub mod ImageTexts
pub mod Unopened
