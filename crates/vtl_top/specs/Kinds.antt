-- What kind of answer a status is. All that a status tells of files and causes goes by its kind.
use Rattle.std.specs.Prelude.{ℕ, List}
use Rattle.vtl_status.specs.declared.status.Status.{Status}
use Rattle.vtl_status.specs.declared.status.Status.TheVariants as st

-- all was done; words that are no command; a refusal by held bytes; no file at a path; a fault of reading, of writing, at a path; want of memory
pub data Told : Type 0 where
  done : Told
  no_command : Told
  refused : Told
  absent : List ℕ → Told
  read_fault : List ℕ → Told
  write_fault : List ℕ → Told
  no_memory : Told

abbrev pub told_by : Status → Told
told_by st.Done = done
told_by st.Usage = no_command
told_by st.Memory = no_memory
told_by (st.NoFile path) = absent path
told_by (st.ReadFault path) = read_fault path
told_by (st.WriteFault path) = write_fault path
told_by status = refused
