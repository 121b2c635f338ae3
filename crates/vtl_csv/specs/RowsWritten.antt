-- The text that a writer of CSV has written into memory.
use Rattle.std.specs.Prelude.{◌≡◌, Bool, true, false, ℕ, List, [], Option, Some, IsSome, unwrap_or}
use Rattle.std.specs.Global.{Vec}
use Rattle.csv.specs.Writing.{default_writer, fields_written, has_written, text_written, with_flexible, writer_setup}
use Rattle.csv.specs.declared.writer.Writer.{Writer}

-- what a `Vec` holds
abbrev pub bytes_held : Vec ℕ → Option (List ℕ)
bytes_held buffer = Some buffer.items

-- the text so far, of a writer that has not failed
abbrev pub rows_written : Bool → Writer (Vec ℕ) → List ℕ
rows_written true writer = []
rows_written false writer = unwrap_or (text_written bytes_held writer) []

-- this writer stands between two records, and writes each as the default writer does, whatever its length
pub record WritesRecords (writer : Writer (Vec ℕ)) : Type 0 where
  pub setup : writer_setup writer ≡ with_flexible default_writer true
  pub fields : fields_written writer ≡ 0
  pub wrote : has_written writer ≡ false
  pub text : IsSome (text_written bytes_held writer)

abbrev pub WritesUntilFailed : Bool → Writer (Vec ℕ) → Type 0
WritesUntilFailed has_failed writer = has_failed ≡ false → WritesRecords writer
