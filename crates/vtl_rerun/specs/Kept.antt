-- What a session keeps, as its calls show it.
use Rattle.std.specs.Prelude.{◌≡◌, ℕ, Bool, true, false, List, Option, None, Some, Result, Ok, Err, Vec}
use Rattle.std.specs.List.{AllByRecursion}
use Rattle.std.specs.Map.{lookup}
use Rattle.std.specs.declared.alloc.Global.{Global}
use Rattle.vtl_decimal.specs.declared.number.Fault.TheVariants.{DivZero, Range}
use Rattle.vtl_decimal.specs.declared.number.Fault.{Fault}
use Rattle.vtl_rows.specs.Named.{NamedTables}
use Rattle.vtl_rows.specs.Tables.{Listed}
use Rattle.vtl_scalar.specs.declared.run_error.RunErr.{RunErr}
use Rattle.vtl_scalar.specs.declared.run_error.RunErr.TheVariants as err
use Rattle.vtl_scripts.specs.Meaning.{Outputs}
use Rattle.vtl_tree.specs.Structure.{same_name}
use Rattle.vtl_tree.specs.declared.structure.Structure.{Structure}
use Rattle.vtl_sets.specs.TableOf.{IsTableOf}
use Rattle.vtl_check.specs.Checked.{TypedScript, tree_of}
use Rattle.vtl_check.specs.Transformations.{Transformation, transformations}
use Rattle.vtl_backend.specs.Inputs.{inputs_of}
use Rattle.vtl_backend.specs.Runs.{ShowMeaning, script_meaning}
use Rattle.rerun_laws.specs.Depends.{is_one}
use Rattle.rerun_laws.specs.Refreshes.{fresh_behind, numbers_of, stale}

-- a session: its script, the tables of its inputs now, how many transformations its back end carried out, the numbers of the
-- transformations that are fresh, in order, and whether its outputs are those of the inputs now
pub record Kept : Type 0 where
  pub script : TypedScript
  pub inputs : NamedTables
  pub work : ℕ
  pub fresh : List ℕ
  pub is_current : Bool

abbrev pub transformations_of : Kept → List Transformation
transformations_of k = transformations (tree_of k.script)

-- what its script means over the inputs now
abbrev pub meaning_now : Kept → Result Outputs (Fault × List ℕ)
meaning_now k = script_meaning k.script k.inputs

-- the transformations that are not fresh
abbrev pub stale_now : Kept → List ℕ
stale_now k = stale k.fresh (transformations_of k)

-- ---- an input that is replaced
-- there is a structure, and the table is one of it
abbrev pub IsOfStructure : Option Structure → Listed → Type 0
IsOfStructure None table = ⊥
IsOfStructure (Some s) table = IsTableOf s table

-- the name is that of a declared data set that the script reads, and the table is one of its structure
abbrev pub IsInputOf : TypedScript → List ℕ → Listed → Type 0
IsInputOf t name table = IsOfStructure (lookup (same_name name) (inputs_of t)) table

-- ---- a refresh
-- the meaning has no fault
abbrev pub HasOutputs : Result Outputs (Fault × List ℕ) → Type 0
HasOutputs (Ok outputs) = Unit {0}
HasOutputs (Err fault) = ⊥

-- A refresh of transformations that mean this, of which some were fresh and some are fresh now. On Ok it ran those that were not, and
-- all are fresh; a fault is that of the meaning, and those before the faulty one are fresh beside those that were; where memory ran out,
-- those that were fresh are.
abbrev pub Freshens : List Transformation → Result Outputs (Fault × List ℕ) → (before now : List ℕ) → Result (Vec ℕ Global) RunErr → Type 0
Freshens ts meant before now (Ok ran) = HasOutputs meant × (ran.items ≡ stale before ts) × (now ≡ fresh_behind ts before meant)
Freshens ts meant before now (Err (err.DivZero name)) = (meant ≡ Err (DivZero, name)) × (now ≡ fresh_behind ts before meant)
Freshens ts meant before now (Err (err.Range name)) = (meant ≡ Err (Range, name)) × (now ≡ fresh_behind ts before meant)
Freshens ts meant before now (Err err.OutOfMemory) = AllByRecursion (λ i. is_one i now ≡ true) before

abbrev pub Refreshes : (before now : Kept) → Result (Vec ℕ Global) RunErr → Type 0
Refreshes before now result = Freshens (transformations_of before) (meaning_now before) before.fresh now.fresh result

-- ---- outputs
-- The tables of the outputs are lent exactly where they are those of the inputs now; then all transformations are fresh.
abbrev pub Lends : Kept → Option NamedTables → Type 0
Lends k None = k.is_current ≡ false
Lends k (Some tables) = (k.is_current ≡ true) × (k.fresh ≡ numbers_of (transformations_of k)) × ShowMeaning (meaning_now k) tables
