-- What a structures file declares, or its first fault: the line, which is the number of a record, and the rule.
use Rattle.std.specs.Prelude.{ℕ, drop, ◌≡◌, ◌+◌, Bool, false, not, List, [], ◌∷◌, Option, Some, None, Result, Ok, Err, if◌then◌else◌}
use Rattle.std.specs.List.{list_any}
use Rattle.std.specs.Option.{option_and_then, option_map_or}
use Rattle.csv.specs.Reading.{default_config, records, strip_bom}
use Rattle.vtl_lists.specs.Aliases.{Bytes, Record}
use Rattle.vtl_lists.specs.Results.{◌>>=◌}
use Rattle.vtl_tree.specs.declared.structure.Component.{Component}
use Rattle.vtl_tree.specs.declared.structure.Role.TheVariants as r
use Rattle.vtl_tree.specs.Structure.{same_role}
use Rattle.vtl_tree.specs.NotNull.{Declared, no_sets}
use Rattle.vtl_tree.specs.Structures.{Named, components_of}
use Rattle.vtl_csv.specs.declared.structures.Declared.{Declared as Whole}
use Rattle.vtl_csv.specs.declared.structures.StructErr.{StructErr}
use Rattle.vtl_csv.specs.declared.structures.StructErr.TheVariants as e
use Rattle.vtl_csv.specs.declared.version.Opening.{Opening}
use Rattle.vtl_csv.specs.declared.version.Version.{Version}
use Rattle.vtl_csv.specs.Declarations.{dataset_in, declaration_of, record_of, with_new}
use Rattle.vtl_csv.specs.Opening.{Fault, first_line, headers_of, opening_of}

-- what stands once a record is read, or the rule that it breaks
abbrev pub with_record : Version → Declared → Record → Result Declared ℕ
with_record version so_far fields = record_of version so_far.sets fields >>= λ n. Ok (with_new n so_far)

-- the line of what is wrong
infixl 10 ◌at_line◌
abbrev pub ◌at_line◌ : {A E : Type 0} → Result A E → ℕ → Result A (ℕ × E)
(Ok x) at_line line = Ok x
(Err what) at_line line = Err (line, what)

-- what the lines from this one on add to what those before declare, or the first line that breaks a rule from 2 to 9 or
-- 11, with the smallest that it breaks
abbrev pub lines_declare : Version → ℕ → Declared → List Record → Result Declared Fault
lines_declare version line so_far [] = Ok so_far
lines_declare version line so_far (fields ∷ rest) = with_record version so_far fields at_line line >>= λ new. lines_declare version (line + 1) new rest

abbrev pub is_identifier : Component → Bool
is_identifier x = same_role x.role r.Identifier

-- the data set of a record has no identifier in the whole file
abbrev pub lacks_identifier : Version → Named → Record → Bool
lacks_identifier version all fields = option_map_or (λ name. not (list_any is_identifier (components_of name all))) (option_and_then (λ d. dataset_in d.dataset) (declaration_of version fields)) false

-- the first line, from this one on, of a data set without an identifier
abbrev pub without_identifier : Version → ℕ → Named → List Record → Option ℕ
without_identifier version line all [] = None
without_identifier version line all (fields ∷ rest) = if lacks_identifier version all fields then Some line else without_identifier version (line + 1) all rest

-- the records of a text, a mark at its start being no part of it
abbrev pub records_in : Bytes → List Record
records_in text = records default_config (strip_bom text)

-- the records that declare components
abbrev pub declaring : Version → List Record → List Record
declaring version rows = drop (headers_of version) rows

-- what the lines of a file that begins so declare, or the first fault of a rule but 10
abbrev pub lines_behind : Opening → List Record → Result Declared Fault
lines_behind o rows = lines_declare o.version (first_line o.version) no_sets (declaring o.version rows)

-- how a file with these records begins, and what its lines declare; or the first fault of a rule but 10
abbrev pub lines_in : List Record → Result (Opening × Declared) Fault
lines_in rows = opening_of rows >>= λ o. lines_behind o rows >>= λ d. Ok (o, d)

-- the first line of a data set without an identifier, in a file that begins so
abbrev pub missing_in : Opening → Named → List Record → Option ℕ
missing_in o all rows = without_identifier o.version (first_line o.version) all (declaring o.version rows)

-- what these lines declare, unless one of them breaks rule 10
abbrev pub with_identifiers : List Record → Opening × Declared → Result Whole Fault
with_identifiers rows all = option_map_or (λ line. Err (line, 10)) (missing_in all.0 all.1.sets rows) (Ok (record { structures = all.1; profile = all.0.profile }))

-- what a structures file declares, or its first fault; rule 10 is looked at once no line breaks another rule
abbrev pub structures_of_file : Bytes → Result Whole Fault
structures_of_file text = lines_in (records_in text) >>= with_identifiers (records_in text)

-- an answer gives this; want of memory may come instead
abbrev pub Gives : Result Whole StructErr → Result Whole Fault → Type 0
Gives (Ok s) what = what ≡ Ok s
Gives (Err (e.Structure line rule)) what = what ≡ Err (line, rule)
Gives (Err e.OutOfMemory) what = Unit {0}

-- an optional fault, and what stands where there is none
abbrev pub outcome : {A F : Type 0} → A → Option F → Result A F
outcome new None = Ok new
outcome new (Some fault) = Err fault

-- how a file begins, or the fault; and what its lines declare where there is none
abbrev pub lines_read : Declared → Result Opening Fault → Result (Opening × Declared) Fault
lines_read new (Ok opening) = Ok (opening, new)
lines_read new (Err fault) = Err fault
