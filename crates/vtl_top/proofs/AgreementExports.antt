-- The file of an export is the file of the output that it stands for.
use Rattle.std.proofs.Common.{◌≡◌, ℕ, true, List, [], ◌∷◌, ◌++◌, map, Result, Ok, Err, refl, ap, ◌∙◌, subst, encode_utf8_all}
use Rattle.std.specs.List.{AllByRecursion, position_or_len, range_with_len}
use Rattle.std.specs.Map.{keys_of}
use Rattle.std.proofs.lemmas.List.{length-map, map-append}
use Rattle.vtl_lists.specs.Apart.{all_apart}
use Rattle.vtl_decimal.specs.declared.number.Fault.{Fault as EvaluationFault}
use Rattle.vtl_cell.specs.Row.{Row, row_cmp}
use Rattle.vtl_cell.specs.Sorted.{in_order, rising}
use Rattle.vtl_lists.specs.Sorting.{le_by, sorted_by}
use Rattle.vtl_text.specs.Texts.{same_text}
use Rattle.vtl_decimal.specs.Settings.{Settings}
use Rattle.vtl_tree.specs.Environment.{DataSet}
use Rattle.vtl_tree.specs.Structure.{IsStructure, columns_of, key_width, names_of, same_name}
use Rattle.vtl_tree.specs.declared.structure.Component.{Component}
use Rattle.vtl_tree.specs.declared.structure.Structure.{Structure}
use Rattle.vtl_tree.specs.Columns.{identifiers_of, others_of}
use Rattle.vtl_scripts.specs.Meaning.{Outputs}
use Rattle.vtl_meaning.proofs.OwnColumns.{columns_apart}
use Rattle.vtl_meaning.proofs.Places.{columns_split}
use Rattle.vtl_csv.specs.CsvText.{csv_rows, header_of}
use Rattle.vtl_csv.specs.TableText.{names_written, rows_text}
use Rattle.sql_engine.specs.Exported.{entry_column}
use Rattle.sql_check_parts.specs.Scopes.{Columns}
use Rattle.sql_meaning.specs.Scripts.{sort_key}
use Rattle.vtl_to_sql.specs.Exports.{exported, exported_as}
use Rattle.vtl_to_sql.proofs.TypedScripts.{keys_of_entries}
use Rattle.selects_to_sql.specs.Runs.{entries}
use Rattle.vtl_top.specs.Expected.{file_in, output_of, outputs_of}
use Rattle.vtl_top.specs.SqlRun.{export_file, exports_of}
use Rattle.vtl_top.specs.Steps.{File, Path}
use Rattle.vtl_top.proofs.AgreementOrders.{first_places, sorted_by_first}

-- ---- the identifiers stand first
places_of_keys : (columns : Columns) (names : List (List ℕ)) → map (sort_key columns) names ≡ map rising (map (λ n. position_or_len (same_text n) (keys_of columns)) names)
places_of_keys columns [] = refl
places_of_keys columns (n ∷ names) = ap (λ l. sort_key columns n ∷ l) (places_of_keys columns names)

module _ (s : Structure) (w : IsStructure s) where
  split : names_of (columns_of s) ≡ names_of (identifiers_of s) ++ names_of (others_of s)
  split = ap names_of (columns_split s) ∙ map-append (λ x. x.name) (identifiers_of s) (others_of s)

  keys_are_first : map (sort_key (entries (columns_of s))) (names_of (identifiers_of s)) ≡ map rising (range_with_len 0 (key_width s))
  keys_are_first =
      places_of_keys (entries (columns_of s)) (names_of (identifiers_of s))
      ∙ ap (λ all. map rising (map (λ n. position_or_len (same_text n) all) (names_of (identifiers_of s)))) (keys_of_entries (columns_of s) ∙ split)
      ∙ ap (map rising) (first_places [] (names_of (identifiers_of s)) (names_of (others_of s)) (subst (λ l. all_apart same_name l ≡ true) split (columns_apart s w)))
      ∙ ap (λ n. map rising (range_with_len 0 n)) (length-map (identifiers_of s) (λ x. x.name))

-- ---- the text
headers_are : (xs : List Component) → names_written (map entry_column (entries xs)) ≡ header_of xs
headers_are [] = refl
headers_are (x ∷ xs) = ap (λ l. encode_utf8_all x.name ∷ l) (headers_are xs)

text_below : (p : Settings) (xs : List Component) (rows : List Row) → rows_text p (map entry_column (entries xs)) rows ≡ csv_rows p xs rows
text_below p xs rows = rw (headers_are xs) refl

module _ (folder : Path) (p : Settings) where
  file_is : (o : List ℕ × DataSet) → IsStructure o.1.structure → export_file folder p (exported o) ≡ output_of folder p o
  file_is o w =
      let s : Structure = o.1.structure in
      ap {B = File} (λ ks. (file_in folder o.0, rows_text p (map entry_column (entries (columns_of s))) (in_order ks [] o.1.points))) (keys_are_first s w)
      ∙ ap {B = File} (λ rows. (file_in folder o.0, rows_text p (map entry_column (entries (columns_of s))) rows)) (sorted_by_first (key_width s) o.1.points)
      ∙ ap {B = File} (λ text. (file_in folder o.0, text)) (text_below p (columns_of s) (sorted_by (le_by row_cmp) o.1.points))

  files_are : (outputs : Outputs) → AllByRecursion (λ o. IsStructure o.1.structure) outputs → map (export_file folder p) (map exported outputs) ≡ map (output_of folder p) outputs
  files_are [] all = refl
  files_are (o ∷ os) all = ap (λ f. f ∷ map (export_file folder p) (map exported os)) (file_is o all.0) ∙ ap (λ l. output_of folder p o ∷ l) (files_are os all.1)

  pub exports_are_outputs : (m : Result Outputs (EvaluationFault × List ℕ)) → ((outputs : Outputs) → m ≡ Ok outputs → AllByRecursion (λ o. IsStructure o.1.structure) outputs) → exports_of folder p (exported_as m) ≡ outputs_of folder p m
  exports_are_outputs (Ok outputs) all = ap Ok (files_are outputs (all outputs refl))
  exports_are_outputs (Err fault) all = refl
