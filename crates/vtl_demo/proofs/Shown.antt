-- What is said of tables that show results.
use Rattle.std.proofs.Common.{◌≡◌, ◌++◌, ◌∙◌, ◌∷◌, [], ℕ, List, Option, Some, length, ap, ap₂, refl, subst, sym}
use Rattle.std.specs.Prelude.{codes, flat_map}
use Rattle.std.specs.List.{AllByRecursion}
use Rattle.std.specs.Map.{lookup}
use Rattle.std.specs.Option.{option_map_or}
use Rattle.vtl_lists.proofs.Perms.{length-Perm}
use Rattle.vtl_rows.specs.Named.{NamedTables}
use Rattle.vtl_rows.specs.Tables.{Listed}
use Rattle.vtl_tree.specs.Environment.{DataSet}
use Rattle.vtl_tree.specs.Structure.{same_name}
use Rattle.vtl_tree.specs.Structures.{Named, structure_of}
use Rattle.vtl_tree.specs.declared.structure.Structure.{Structure}
use Rattle.vtl_sets.specs.DataSets.{data_set}
use Rattle.vtl_scripts.specs.Meaning.{Outputs}
use Rattle.vtl_csv.proofs.DataSetTextLemmas.{csv_any_order}
use Rattle.vtl_backend.specs.Runs.{ShowAll, ShowMeaning}
use Rattle.vtl_backend.specs.Tables.{Shows}
use Rattle.vtl_demo.specs.DataSets.{declared}
use Rattle.vtl_demo.specs.Nodes.{HasResults, joined_structure, results, results_with, summed_structure}
use Rattle.vtl_demo.specs.Said.{AreKnown, line_of, part, part_for, part_of}
use Rattle.vtl_demo.specs.Script.{settings}

-- the data sets that the script reads, and its results
abbrev pub known : Named
known = declared ++ (codes "DS_j", joined_structure) ∷ (codes "DS_g", summed_structure) ∷ []

abbrev KnownAs : List ℕ × DataSet → Type 0
KnownAs d = lookup (same_name d.0) known ≡ Some d.1.structure

one_part : (d : List ℕ × DataSet) (t : List ℕ × Listed) → lookup (same_name t.0) known ≡ Some d.1.structure → t.0 ≡ d.0 → Shows d.1 t.1 → part_for known t ≡ part_of d
one_part d t is name here =
    ap (λ (o : Option Structure). part_of (t.0, data_set (option_map_or (λ s. s) o (structure_of [])) t.1.rows)) is
    ∙ ap (λ n. part_of (n, data_set d.1.structure t.1.rows)) name
    ∙ ap₂ (part d.0) (length-Perm here.same) (ap length (csv_any_order settings d.1.structure t.1.rows d.1.points here.same))

pub record AreSaid (outputs : Outputs) (tables : NamedTables) : Type 0 where
  pub tables_known : AreKnown known tables
  pub parts : flat_map (part_for known) tables ≡ flat_map part_of outputs

said_all : (outputs : Outputs) (tables : NamedTables) → AllByRecursion KnownAs outputs → ShowAll outputs tables → AreSaid outputs tables
said_all [] [] all s = record { tables_known = tt; parts = refl }
said_all [] (t ∷ ts) all s = absurd s
said_all (d ∷ ds) [] all s = absurd s
said_all (d ∷ ds) (t ∷ ts) all (name, here, rest) =
    let is : lookup (same_name t.0) known ≡ Some d.1.structure = ap (λ n. lookup (same_name n) known) name ∙ all.0 in
    let more = said_all ds ts all.1 rest in
    record {
      tables_known = ((d.1.structure, is, here.table), more.tables_known);
      parts = ap₂ ◌++◌ (one_part d t is name here) more.parts;
    }

pub record IsSaid (n : ℕ) (tables : NamedTables) : Type 0 where
  pub tables_known : AreKnown known tables
  pub line_is : (word : List ℕ) → word ++ (flat_map (part_for known) tables ++ codes "\n") ≡ line_of word (results n)

pub said_of : (n : ℕ) (tables : NamedTables) → HasResults n → ShowMeaning (results n) tables → IsSaid n tables
said_of n tables has shows =
    let all = said_all (results_with n has.totals) tables (refl, (refl, tt)) (subst (λ r. ShowMeaning r tables) has.are shows) in
    record {
      tables_known = all.tables_known;
      line_is = λ word. ap (λ parts. word ++ (parts ++ codes "\n")) all.parts ∙ sym (ap (line_of word) has.are);
    }
