-- The records that a reader of a text has left.
use Rattle.std.specs.Prelude.{◌≡◌, ◌+◌, true, false, List, [], length, Option, Some, None, IsSome}
use Rattle.std.specs.Borrow.{Bor}
use Rattle.csv.specs.Reading.{default_config, is_flexible, names_headers, reader_config, reader_headers, reader_state, reader_trim, records_from, source_of, took_first}
use Rattle.csv.specs.declared.parser.State.{State}
use Rattle.csv.specs.declared.reader.Reader.{Reader}
use Rattle.csv.specs.declared.reader.Trim.TheVariants as trim
use Rattle.vtl_lists.specs.Aliases.{Bytes, Record}

-- a slice has its bytes left to read
abbrev pub bytes_left : Bor Bytes → Option Bytes
bytes_left slice = Some slice.now

-- the records of a text, where it is known, from a state of the reader
abbrev pub records_of : Option Bytes → State → List Record
records_of None state = []
records_of (Some text) state = records_from default_config (length text + 1) state text

-- the records that a reader of a slice has left
abbrev pub records_of_reader : Reader (Bor Bytes) → List Record
records_of_reader reader = records_of (source_of bytes_left reader) (reader_state reader)

-- each read of this reader is of one record of known bytes, as they stand, whatever its length
pub record ReadsRecords (reader : Reader (Bor Bytes)) : Type 0 where
  pub config : reader_config reader ≡ default_config
  pub trim : reader_trim reader ≡ trim.None
  pub flexible : is_flexible reader ≡ true
  pub no_header : names_headers reader ≡ false
  pub no_header_row : took_first reader ≡ false → reader_headers reader ≡ None
  pub source : IsSome (source_of bytes_left reader)
