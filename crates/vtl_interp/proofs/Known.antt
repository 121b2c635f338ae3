-- The outputs of a script have the structures that are known of their names.
use Rattle.std.proofs.Common.{◌≡◌, ℕ, Bool, true, false, cond, List, [], ◌∷◌, ◌++◌, Some, None, Result, Ok, Err, refl, sym, ap, subst, ◌∙◌}
use Rattle.std.specs.List.{AllByRecursion}
use Rattle.std.specs.Map.{keys_of, lookup}
use Rattle.std.specs.Cmp.Lexicographic.{bytes_decides}
use Rattle.std.proofs.lemmas.List.{map-append}
use Rattle.vtl_decimal.specs.Settings.{Settings}
use Rattle.vtl_decimal.specs.declared.number.Fault.{Fault}
use Rattle.vtl_cell.specs.Outcome.{after}
use Rattle.vtl_cell.specs.Row.{Row}
use Rattle.vtl_rows.specs.Named.{NamedTables}
use Rattle.vtl_tree.specs.Environment.{DataSet, Environment}
use Rattle.vtl_tree.specs.Structure.{same_name}
use Rattle.vtl_tree.specs.Structures.{Named}
use Rattle.vtl_tree.specs.declared.structure.Structure.{Structure}
use Rattle.vtl_tree.proofs.StructuresLemmas.{not_found}
use Rattle.vtl_tree.specs.Trees.{NodeTree, structure_of}
use Rattle.vtl_check.specs.Checked.{IsTyped, TypedScript, known_of, nodes_of, tree_of}
use Rattle.vtl_check.specs.Transformations.{Transformation, transformations}
use Rattle.vtl_check.specs.Uses.{results_behind, with_new}
use Rattle.vtl_scripts.specs.Meaning.{Outputs, meaning, node_value, stated, with_output}
use Rattle.vtl_backend.specs.Inputs.{environment_of, inputs_of}
use Rattle.vtl_backend.specs.Runs.{script_meaning}
use Rattle.vtl_backend.specs.Statements.{is_written, statements_of, with_nodes}
use Rattle.vtl_interp.specs.Results.{AreNew}
use Rattle.vtl_check.proofs.DataSetsRead.{found_behind, still_found}
use Rattle.vtl_interp.proofs.InputsRead.{reads_fewer}
use Rattle.vtl_interp.proofs.Scripts.{new_among_fewer, results_new}

abbrev AreKnown : Named → Outputs → Type 0
AreKnown known outputs = AllByRecursion (λ e. lookup (same_name e.0) known ≡ Some e.1.structure) outputs

-- the outputs behind a result that is written, or not
kept_known : (known : Named) (b : Bool) (name : List ℕ) (d : DataSet) (m : Result Outputs (Fault × List ℕ)) (outputs : Outputs) → lookup (same_name name) known ≡ Some d.structure
    → ((rest : Outputs) → m ≡ Ok rest → AreKnown known rest) → cond b (with_output name d m) m ≡ Ok outputs → AreKnown known outputs
kept_known known true name d (Ok rest) outputs there ih e = let same : (name, d) ∷ rest ≡ outputs = cc in subst (AreKnown known) same (there, ih rest refl)
kept_known known true name d (Err f) outputs there ih e = cc
kept_known known false name d m outputs there ih e = ih outputs e

known_results : (p : Settings) (ts : List Transformation) (ns : List NodeTree) (env : Environment) (known : Named) (outputs : Outputs) → AreNew (keys_of known) (with_nodes ts ns) → meaning p (with_nodes ts ns) env ≡ Ok outputs → AreKnown (results_behind known ts ns) outputs
known_results p [] ns env known outputs new e = let none : [] ≡ outputs = cc in subst (AreKnown known) none tt
known_results p (t ∷ ts) [] env known outputs new e = let none : [] ≡ outputs = cc in subst (AreKnown known) none tt
known_results p (t ∷ ts) (n ∷ ns) env known outputs new e =
    go (node_value p env n) (λ d rest. known_results p ts ns ((t.name, d) ∷ env) (known ++ (t.name, structure_of n) ∷ []) rest (subst (λ (l : List (List ℕ)). AreNew l (with_nodes ts ns)) (sym keys) new.1)) e
  where
    keys : keys_of (known ++ (t.name, structure_of n) ∷ []) ≡ keys_of known ++ t.name ∷ []
    keys = map-append (λ (y : List ℕ × Structure). y.0) known ((t.name, structure_of n) ∷ [])

    grown : with_new known t.name (structure_of n) ≡ known ++ (t.name, structure_of n) ∷ []
    grown = ap (λ b. cond b known (known ++ (t.name, structure_of n) ∷ [])) new.0

    there : lookup (same_name t.name) (results_behind (known ++ (t.name, structure_of n) ∷ []) ts ns) ≡ Some (structure_of n)
    there = still_found t.name (structure_of n) (known ++ (t.name, structure_of n) ∷ []) ts ns (found_behind t.name known ((t.name, structure_of n) ∷ []) (not_found known t.name new.0) ∙ ap (λ b. cond b (Some (structure_of n)) None) ((bytes_decides t.name t.name).1 refl))

    go : (r : Result (List Row) Fault) → ((d : DataSet) (rest : Outputs) → meaning p (with_nodes ts ns) ((t.name, d) ∷ env) ≡ Ok rest → AreKnown (results_behind (known ++ (t.name, structure_of n) ∷ []) ts ns) rest)
        → stated (record { result = t.name; persistent = is_written t.kind; node = n }) (after r (λ points. Ok (record { structure = structure_of n; points = points }))) (λ d. meaning p (with_nodes ts ns) ((t.name, d) ∷ env)) ≡ Ok outputs
        → AreKnown (results_behind (with_new known t.name (structure_of n)) ts ns) outputs
    go (Ok points) ih e =
        subst (λ (l : Named). AreKnown (results_behind l ts ns) outputs) (sym grown)
        (kept_known (results_behind (known ++ (t.name, structure_of n) ∷ []) ts ns) (is_written t.kind) t.name (record { structure = structure_of n; points = points }) (meaning p (with_nodes ts ns) ((t.name, record { structure = structure_of n; points = points }) ∷ env)) outputs there (ih (record { structure = structure_of n; points = points })) e)
    go (Err f) ih e = cc

-- each output has the structure that is known of its name
pub outputs_known : (t : TypedScript) (tables : NamedTables) (outputs : Outputs) → IsTyped t → script_meaning t tables ≡ Ok outputs → AllByRecursion (λ e. lookup (same_name e.0) (known_of t) ≡ Some e.1.structure) outputs
outputs_known t tables outputs typed e =
    known_results t.settings (transformations (tree_of t)) (nodes_of t) (environment_of t tables) (inputs_of t) outputs (new_among_fewer (keys_of (inputs_of t)) (keys_of t.declared) (statements_of t) (reads_fewer t.declared (nodes_of t)) (results_new t typed)) e
