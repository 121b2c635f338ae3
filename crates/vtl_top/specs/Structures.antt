-- What a structures file declares.
use Rattle.std.specs.Prelude.{Result, Ok, Err, chars, if◌then◌else◌}
use Rattle.std.specs.Str.{is_utf8}
use Rattle.vtl_csv.specs.declared.structures.Declared.{Declared as Whole}
use Rattle.vtl_csv.specs.Opening.{Fault}
use Rattle.vtl_csv.specs.StructuresFile.{structures_of_file}
use Rattle.vtl_top.specs.Steps.{Path, Text}
use Rattle.vtl_status.specs.declared.status.Status.{Status}
use Rattle.vtl_status.specs.declared.status.Status.TheVariants as st

-- what a text declares, or the status of its first fault
abbrev pub declared : Result Whole Fault → Result Whole Status
declared (Ok d) = Ok d
declared (Err fault) = Err (st.Structure fault.0 fault.1)

-- what the bytes of the file at this path declare
abbrev pub structures_in : Path → Text → Result Whole Status
structures_in path bytes = if is_utf8 bytes then declared (structures_of_file bytes) else Err (st.NotText (chars path))
