-- What a script reads are structures as they may be declared.
use Rattle.std.proofs.Common.{◌≡◌, ℕ, Bool, true, false, cond, List, [], ◌∷◌, Some, Result, Ok, Err, refl, sym, subst}
use Rattle.std.specs.List.{AllByRecursion}
use Rattle.std.specs.Map.{lookup}
use Rattle.std.specs.Prelude.{chars}
use Rattle.std.specs.Str.{is_utf8}
use Rattle.vtl_decimal.specs.Settings.{Settings}
use Rattle.vtl_tree.specs.NotNull.{not_null_of as list_of}
use Rattle.vtl_tree.specs.Structure.{same_name}
use Rattle.vtl_tree.specs.Structures.{AreStructures, Named, is_declarable_entry}
use Rattle.vtl_tree.specs.declared.structure.Structure.{Structure}
use Rattle.vtl_tree.proofs.StructuresLemmas.{all_found}
use Rattle.vtl_lineage.proofs.ReadInputs.{declared_structure}
use Rattle.vtl_csv.specs.InputFile.{dataset_rows}
use Rattle.sql_engine.specs.Structures.{not_null_of, structure_of}
use Rattle.vtl_to_sql.specs.Scripts.{input_of}
use Rattle.vtl_csv.specs.declared.structures.Declared.{Declared as Whole}
use Rattle.vtl_csv.specs.Opening.{Fault}
use Rattle.vtl_csv.specs.StructuresFile.{structures_of_file}
use Rattle.vtl_to_sql.proofs.TypedScripts.{declared_coded, declared_each_entry}
use Rattle.vtl_top.specs.Expected.{read, structures_limit, structures_step}
use Rattle.vtl_top.specs.Steps.{Held, Path, settled}
use Rattle.vtl_top.specs.Structures.{declared, structures_in}
use Rattle.vtl_status.specs.declared.status.Status.{Status}
use Rattle.vtl_status.specs.declared.status.Status.TheVariants as st
use Rattle.vtl_top.proofs.AgreementColumns.{files_fit_alike}
use Rattle.vtl_top.proofs.AgreementInputs.{IsDeclared}
use Rattle.vtl_top.proofs.DeclaredLemmas.{file_are}
use Rattle.vtl_top.proofs.MeantLemmas.{went_on}

-- ---- a structures file
bytes_are : (path bytes : List ℕ) (all : Whole) → Ok all ≡ structures_in path bytes → AreStructures all.structures.sets
bytes_are path bytes all e = go (is_utf8 bytes) e
  where
    found : (r : Result Whole Fault) → structures_of_file bytes ≡ r → ◌≡◌ {A = Result Whole Status} (Ok all) (declared r) → AreStructures all.structures.sets
    found (Ok d) is q = let same : d ≡ all = cc in subst (λ (x : Whole). AreStructures x.structures.sets) same (file_are bytes d is)
    found (Err fault) is q = cc

    go : (b : Bool) → Ok all ≡ cond b (declared (structures_of_file bytes)) (Err (st.NotText (chars path))) → AreStructures all.structures.sets
    go true q = found (structures_of_file bytes) refl q
    go false q = cc

pub step_declares : (path : Path) (held : Held) (all : Whole) → (structures_step path).gives held (Ok all) → AreStructures all.structures.sets
step_declares path held all g =
    let bytes = went_on (read path structures_limit) (λ bytes. settled (structures_in path bytes)) held all g in
    bytes_are path bytes.0 all bytes.2

-- ---- each of them
pub all_declared : (es : Named) → AreStructures es → AllByRecursion IsDeclared es
all_declared es are = go es (declared_each_entry es are)
  where
    go : (xs : Named) → AllByRecursion (λ e. is_declarable_entry e ≡ true) xs → AllByRecursion IsDeclared xs
    go [] all = tt
    go (x ∷ xs) all = (record { lawful = declared_structure x.1 all.0; coded = declared_coded x.1 all.0 }, go xs all.1)

-- ---- the INPUT for one of them asks of a file what its structure asks
pub takes_alike : (name text : List ℕ) (all : Whole) (t : Structure) (p : Settings) (bytes : List ℕ) → structures_of_file text ≡ Ok all → lookup (same_name name) all.structures.sets ≡ Some t
    → dataset_rows p (structure_of (input_of all.structures.not_null (name, t))) (not_null_of (input_of all.structures.not_null (name, t))) bytes ≡ dataset_rows p t (list_of name all.structures.not_null) bytes
takes_alike name text all t p bytes declares found =
    let fits = all_found (same_name name) all.structures.sets t (file_are text all declares).declarable found in
    sym (files_fit_alike all.structures.not_null (name, t) (declared_structure t fits) (declared_coded t fits) p bytes)
