-- The text of the image of a book.
use Rattle.std.specs.Prelude.{◌≡◌, ℕ, List}
use Rattle.lrc_images.specs.declared.image.Image.{Image}
use Rattle.lrc_image_text.specs.Texts.{image_text}
use Rattle.lrc_book.specs.Books.{BookView, IsImageOfBook}

-- the text is that of the image of the book's state, after all entries of the store so far
abbrev pub IsTextOfBook : BookView → List ℕ → Type 0
IsTextOfBook b text = (i : Image) × IsImageOfBook b i × (text ≡ image_text i)
