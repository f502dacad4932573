-- The writer of records.
-- Source: this project's profile, over the writer of the crate csv.
use Rattle.std.specs.{Prelude.{◌≡◌, ℕ, List, Some, Vec, false, true}, Io.KnownBytes.Appends}
use Rattle.csv.specs.{Writing.{default_writer, fields_written, has_written, text_written, with_flexible, writer_setup}, declared.writer.Writer.Writer}
use Rattle.csv.specs.declared.writer.WriterBuilder.{WriterBuilder}

-- csv's defaults, but for records that may have more or fewer fields than the one before
abbrev pub record_writer : WriterBuilder
record_writer = with_flexible default_writer true

-- a writer of records that is in none
pub record IsReady {W : Type 0} (records : Writer W) : Type 0 where
  pub setup : writer_setup records ≡ record_writer
  pub fields : fields_written records ≡ 0
  pub wrote : has_written records ≡ false

-- a writer to a vector of bytes has written a text more
abbrev pub Writes : {Z : Type 0} → Writer (Vec ℕ Z) → Writer (Vec ℕ Z) → List ℕ → Type 0
Writes old new text = Appends (text_written (λ v. Some v.items) old) (text_written (λ v. Some v.items) new) text
