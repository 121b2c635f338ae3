-- The data set of each transformation, by itself.
use Rattle.std.specs.Prelude.{◌≡◌, ℕ, true, MatchBool, List, [], ◌∷◌, Result, Ok, Err, IfOk}
use Rattle.vtl_cell.specs.Outcome.{Outcome}
use Rattle.vtl_decimal.specs.Settings.{Settings}
use Rattle.vtl_decimal.specs.declared.number.Fault.{Fault}
use Rattle.vtl_tree.specs.DataSet.{AreOfProfile, IsDataSet}
use Rattle.vtl_tree.specs.Environment.{DataSet, Environment, no_data}
use Rattle.vtl_tree.specs.Structures.{Named}
use Rattle.vtl_tree.specs.Trees.{NodeTree, structure_of}
use Rattle.vtl_scripts.specs.Meaning.{Outputs, Statement, data_set_of, kept_output, meaning, stated}
use Rattle.rerun_laws.specs.Depends.{reads_one}

-- ---- the whole, part by part
-- a statement whose result is written
abbrev pub alone : Statement → Statement
alone s = record s { persistent = true }

-- what a statement alone gives goes into the results of the whole, or its fault is the fault of the whole
abbrev pub in_turn : Statement → Result Outputs (Fault × List ℕ) → (DataSet → Result Outputs (Fault × List ℕ)) → Result Outputs (Fault × List ℕ)
in_turn s (Ok ((name, d) ∷ [])) rest = kept_output s d (rest d)
in_turn s (Ok outputs) rest = Ok outputs
in_turn s (Err fault) rest = Err fault

-- The run of statements one after the other, each as a script of its own over the environment and the results of those before it, up to
-- the first fault; what is written of the whole is kept.
abbrev pub one_by_one : Settings → List Statement → Environment → Result Outputs (Fault × List ℕ)
one_by_one p [] env = Ok []
one_by_one p (s ∷ rest) env = in_turn s (meaning p (alone s ∷ []) env) (λ d. one_by_one p rest ((s.result, d) ∷ env))

-- ---- the value of each
-- the result of a statement among data sets; one with a fault has no points
abbrev pub with_value : Statement → Outcome DataSet → Environment → Environment
with_value s (Ok d) env = (s.result, d) ∷ env
with_value s (Err fault) env = (s.result, no_data (structure_of s.node)) ∷ env

-- What each statement gives over an environment and the results of those before it. Those behind a statement that has a fault are
-- evaluated all the same: what reads no result of it does not feel it.
abbrev pub values : Settings → List Statement → Environment → List (Outcome DataSet)
values p [] env = []
values p (s ∷ rest) env = data_set_of p env s.node ∷ values p rest (with_value s (data_set_of p env s.node) env)

-- the environment behind statements: their results, the latest first, and what was there before
abbrev pub behind : Settings → List Statement → Environment → Environment
behind p [] env = env
behind p (s ∷ rest) env = behind p rest (with_value s (data_set_of p env s.node) env)

-- the outputs among the values of statements, or the first fault with the name of its statement's result
abbrev pub outputs_of_values : List Statement → List (Outcome DataSet) → Result Outputs (Fault × List ℕ)
outputs_of_values (s ∷ rest) (v ∷ vs) = stated s v (λ d. outputs_of_values rest vs)
outputs_of_values rest vs = Ok []

-- ---- what holds of them
-- a data set of the structure of an expression, whose integers are of the profile
pub record IsDataSetOf (p : Settings) (n : NodeTree) (d : DataSet) : Type 0 where
  pub structure : d.structure ≡ structure_of n
  pub points : IsDataSet d.structure d.points
  pub profile : AreOfProfile p d.points

-- each statement's value is one, where it has no fault
abbrev pub AreDataSetsOf : Settings → List Statement → List (Outcome DataSet) → Type 0
AreDataSetsOf p [] [] = Unit {0}
AreDataSetsOf p (s ∷ rest) (v ∷ vs) = IfOk v (IsDataSetOf p s.node) × AreDataSetsOf p rest vs
AreDataSetsOf p ss vs = ⊥

-- what is known behind statements: their results, the latest first, and what was known before
abbrev pub known_behind : Named → List Statement → Named
known_behind known [] = known
known_behind known (s ∷ rest) = known_behind ((s.result, structure_of s.node) ∷ known) rest

-- the values of all statements but of those that read a data set of one of these names, or the result of such a statement
abbrev pub AreSameBut : List (List ℕ) → List Statement → List (Outcome DataSet) → List (Outcome DataSet) → Type 0
AreSameBut names [] [] [] = Unit {0}
AreSameBut names (s ∷ rest) (v ∷ vs) (w ∷ ws) = MatchBool (reads_one names s.node) (AreSameBut (s.result ∷ names) rest vs ws) ((v ≡ w) × AreSameBut names rest vs ws)
AreSameBut names ss vs ws = ⊥
