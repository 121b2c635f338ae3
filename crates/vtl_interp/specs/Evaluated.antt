-- What an evaluation gives.
use Rattle.std.specs.Prelude.{◌≡◌, Result, Ok, Err}
use Rattle.vtl_decimal.specs.Settings.{Settings}
use Rattle.vtl_decimal.specs.declared.number.Fault.TheVariants.{DivZero, Range}
use Rattle.vtl_scalar.specs.declared.error.ScalarErr.{ScalarErr}
use Rattle.vtl_scalar.specs.declared.error.ScalarErr.TheVariants as err
use Rattle.vtl_tree.specs.Environment.{DataSet, Environment}
use Rattle.vtl_tree.specs.Trees as nodes
use Rattle.vtl_tree.specs.Trees.{FormTree, NodeTree, structure_of}
use Rattle.vtl_scripts.specs.Meaning.{node_value}

-- the data set of an expression, with its structure and its points
pub record Gives (p : Settings) (env : Environment) (n : NodeTree) (d : DataSet) : Type 0 where
  pub structure : d.structure ≡ structure_of n
  pub points : node_value p env n ≡ Ok d.points

-- the data set of an expression, or its fault, or want of memory
abbrev pub Evaluates : {A : Type 0} → (A → DataSet) → Settings → Environment → NodeTree → Result A ScalarErr → Type 0
Evaluates view p env n (Ok x) = Gives p env n (view x)
Evaluates view p env n (Err err.DivZero) = node_value p env n ≡ Err DivZero
Evaluates view p env n (Err err.Range) = node_value p env n ≡ Err Range
Evaluates view p env n (Err err.OutOfMemory) = Unit {0}

-- ---- the operands of a form with one, or with two between which it works, give these data sets; a filter is evaluated with its operand
abbrev pub GivesOne : Settings → Environment → FormTree → DataSet → Type 0
GivesOne p env (nodes.measures m a) d = Gives p env a d
GivesOne p env (nodes.member a m) d = Gives p env a d
GivesOne p env (nodes.calc a items) d = Gives p env a d
GivesOne p env (nodes.keep a names) d = Gives p env a d
GivesOne p env (nodes.drop_named a names) d = Gives p env a d
GivesOne p env (nodes.rename a pairs) d = Gives p env a d
GivesOne p env (nodes.sub a items) d = Gives p env a d
GivesOne p env (nodes.pivot a id m) d = Gives p env a d
GivesOne p env (nodes.unpivot a id m) d = Gives p env a d
GivesOne p env (nodes.aggregate a spec) d = Gives p env a d
GivesOne p env (nodes.analytic_of a spec) d = Gives p env a d
GivesOne p env (nodes.time a op) d = Gives p env a d
GivesOne p env (nodes.check_datapoint a rules out) d = Gives p env a d
GivesOne p env (nodes.check_hierarchy a rules m out) d = Gives p env a d
GivesOne p env (nodes.hierarchy a rules m i out) d = Gives p env a d
GivesOne p env other d = ⊥

abbrev pub GivesTwo : Settings → Environment → FormTree → (d e : DataSet) → Type 0
GivesTwo p env (nodes.pair o a b) d e = Gives p env a d × Gives p env b e
GivesTwo p env (nodes.set_diff a b) d e = Gives p env a d × Gives p env b e
GivesTwo p env (nodes.sym_diff a b) d e = Gives p env a d × Gives p env b e
GivesTwo p env (nodes.exists_in a b r) d e = Gives p env a d × Gives p env b e
GivesTwo p env other d e = ⊥
