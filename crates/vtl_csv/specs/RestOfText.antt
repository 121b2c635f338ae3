-- What has not been read of a text.
use Rattle.std.specs.Prelude.{◌≡◌, ⊤, List, [], ◌∷◌}
use Rattle.csv.specs.Reading.{default_config, records, strip_bom}
use Rattle.vtl_lists.specs.Aliases.{Record}
use Rattle.vtl_csv.specs.RecordsLeft.{ReadsRecords, records_of_reader}
use Rattle.vtl_csv.specs.declared.records.Front.{Front}
use Rattle.vtl_csv.specs.declared.records.Front.TheVariants as f
use Rattle.vtl_csv.specs.declared.records.Rest.{Rest}
use Rattle.vtl_csv.specs.declared.records.Rest.TheVariants as r

-- the records that have not been read
abbrev pub records_in_rest : Rest → List Record
records_in_rest (r.Lines text) = records default_config (strip_bom text.now)
records_in_rest (r.Quoted reader) = records_of_reader reader.value

-- a reader reads record by record
abbrev pub ReadsRest : Rest → Type 0
ReadsRest (r.Lines text) = ⊤
ReadsRest (r.Quoted reader) = ReadsRecords reader.value

-- what stands at the front of a text with these records: the first of them with these fields, or none
abbrev pub IsFront : List Record → Record → Front → Type 0
IsFront rows fields (f.Record rest) = rows ≡ fields ∷ records default_config (strip_bom rest.now)
IsFront rows fields f.Nothing = rows ≡ []
IsFront rows fields f.QuotedLine = ⊤
