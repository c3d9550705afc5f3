-- Internal: no public clause reaches these definitions.
-- What a writer of rows holds.
use Rattle.std.specs.Prelude.{◌≡◌, ℕ, false, List, ◌++◌, Vec}
use Rattle.csv.specs.declared.writer.Writer.{Writer}
use Rattle.csv.specs.Writing.{default_writer, writer_setup, writer_under, writer_pending, fields_written, has_written}

-- the text below the rows, and then the rows
abbrev pub text_in : {Z : Type 0} → Writer (Vec ℕ Z) → List ℕ
text_in rows = (writer_under rows).items ++ writer_pending rows

-- no row is begun, and rows are written as the crate does without other settings
pub record IsBetweenRows {W : Type 0} (rows : Writer W) : Type 0 where
  pub setup : writer_setup rows ≡ default_writer
  pub none : fields_written rows ≡ 0
  pub clean : has_written rows ≡ false
