-- What is true of a session: its parts are those of its script, and the tables that they hold are those of its results.
use Rattle.std.specs.Prelude.{◌≡◌, ℕ, Bool, false, MatchBool, List, [], ◌∷◌, ◌++◌, length, map, Option, None, Some, Ok, Err, IsSome}
use Rattle.std.specs.List.{AllByRecursion}
use Rattle.vtl_cell.specs.Outcome.{Outcome}
use Rattle.vtl_rows.specs.Named.{NamedTables}
use Rattle.vtl_rows.specs.Tables.{Listed}
use Rattle.vtl_tree.specs.Environment.{DataSet}
use Rattle.vtl_tree.specs.Structures.{AreStructures}
use Rattle.vtl_scripts.specs.Meaning.{Statement}
use Rattle.vtl_check.specs.Checked.{IsTyped, TypedScript, tree_of}
use Rattle.vtl_check.specs.Names.{names_in}
use Rattle.vtl_check.specs.Transformations.{transformations}
use Rattle.vtl_backend.specs.Inputs.{AreInRange, AreInputs, environment_of}
use Rattle.vtl_backend.specs.Runs.{ShowMeaning, script_meaning}
use Rattle.vtl_backend.specs.Statements.{statements_of}
use Rattle.vtl_backend.specs.Tables.{Shows}
use Rattle.rerun_laws.specs.Depends.{reads_one}
use Rattle.rerun_laws.specs.Refreshes.{numbers_of}
use Rattle.rerun_laws.specs.Values.{values}
use Rattle.vtl_rerun.specs.Operands.{operand_of, places_from}
use Rattle.vtl_rerun.specs.declared.part.Part.{Part}

-- ---- parts
-- The part of a statement with this number, behind results of these names.
pub record IsPartOf (names : List (List ℕ)) (k : ℕ) (s : Statement) (x : Part) : Type 0 where
  pub number : x.number ≡ k
  pub name : x.name ≡ s.result
  pub written : x.is_written ≡ s.persistent
  pub operands : x.operands.items ≡ map (operand_of (places_from 0 names)) (names_in s.node)

abbrev pub AreEach : List (List ℕ) → List ℕ → List Statement → List Part → Type 0
AreEach names [] [] [] = Unit {0}
AreEach names (k ∷ ks) (s ∷ ss) (x ∷ xs) = IsPartOf names k s x × AreEach (names ++ s.result ∷ []) ks ss xs
AreEach names ks ss xs = ⊥

-- a part for each transformation, in order
pub record AreParts (t : TypedScript) (xs : List Part) : Type 0 where
  pub typed : IsTyped t
  pub structures : AreStructures t.declared
  pub each : AreEach [] (numbers_of (transformations (tree_of t))) (statements_of t) xs

-- ---- results
-- a table that is held is that of the transformation's data set
abbrev pub IsKept : Outcome DataSet → Option Listed → Type 0
IsKept v None = Unit {0}
IsKept (Ok d) (Some t) = Shows d t
IsKept (Err fault) (Some t) = ⊥

abbrev pub AreKept : List (Outcome DataSet) → List (Option Listed) → Type 0
AreKept [] [] = Unit {0}
AreKept (v ∷ vs) (r ∷ rs) = IsKept v r × AreKept vs rs
AreKept vs rs = ⊥

-- names without tables, and behind a result its name, where it has none
abbrev pub gone_with : List ℕ → Option Listed → List (List ℕ) → List (List ℕ)
gone_with name None gone = name ∷ gone
gone_with name (Some t) gone = gone

-- where a table is held, none of the data sets that the expression reads is gone
abbrev pub IsClosed : List (List ℕ) → Statement → Option Listed → Type 0
IsClosed gone s None = Unit {0}
IsClosed gone s (Some t) = reads_one gone s.node ≡ false

abbrev pub AreClosed : List (List ℕ) → List Statement → List (Option Listed) → Type 0
AreClosed gone [] [] = Unit {0}
AreClosed gone (s ∷ ss) (r ∷ rs) = IsClosed gone s r × AreClosed (gone_with s.result r gone) ss rs
AreClosed gone ss rs = ⊥

-- The tables are those of the script's data sets over these inputs, and where one is held, so are those of the results that it was
-- made of.
pub record AreResults (t : TypedScript) (inputs : NamedTables) (results : List (Option Listed)) : Type 0 where
  pub kept : AreKept (values t.settings (statements_of t) (environment_of t inputs)) results
  pub closed : AreClosed [] (statements_of t) results

-- the numbers of those that hold a table
abbrev pub fresh_in : List ℕ → List (Option Listed) → List ℕ
fresh_in (i ∷ is) (None ∷ rs) = fresh_in is rs
fresh_in (i ∷ is) (Some t ∷ rs) = i ∷ fresh_in is rs
fresh_in is rs = []

abbrev pub AreHeld : List (Option Listed) → Type 0
AreHeld results = AllByRecursion (λ r. IsSome r) results

-- ---- a script that is run part by part, over tables of its inputs
pub record IsRunning (t : TypedScript) (parts : List Part) (inputs : NamedTables) (results : List (Option Listed)) : Type 0 where
  pub are_parts : AreParts t parts
  pub are_inputs : AreInputs t inputs
  pub in_range : AreInRange t inputs
  pub are_results : AreResults t inputs results
  pub many : length results ≡ length parts

-- outputs that are lent are those of the inputs now, and all results are held
abbrev pub IsCurrent : Bool → TypedScript → NamedTables → List (Option Listed) → NamedTables → Type 0
IsCurrent current t inputs results outputs = MatchBool current (AreHeld results × ShowMeaning (script_meaning t inputs) outputs) (Unit {0})

pub record IsSession (t : TypedScript) (parts : List Part) (inputs : NamedTables) (results : List (Option Listed)) (outputs : NamedTables) (current : Bool) : Type 0 where
  pub running : IsRunning t parts inputs results
  pub lent : IsCurrent current t inputs results outputs
