use Rattle.std.proofs.Common.{◌≡◌, [], take}
use Rattle.csv.specs.Records.{fields_of, partial_of}
use Rattle.vtl_csv.specs.TableText.{names_written}
use Rattle.vtl_csv.proofs.table_text.push_column_names.Given as goal

abbrev pub invariant-loop-column : goal.invariant-loop-column
invariant-loop-column l = (fields_of l.fields ≡ names_written (take l.column-index l.columns)) × (partial_of l.fields ≡ [])
