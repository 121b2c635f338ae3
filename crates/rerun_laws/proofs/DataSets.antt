-- The values of statements are data sets of their structures, and so are the results behind them.
use Rattle.std.proofs.Common.{◌≡◌, ℕ, zero, suc, List, [], ◌∷◌, take, Ok, Err, IfOk, refl, sym, ap, subst, ◌∙◌}
use Rattle.vtl_decimal.specs.Settings.{Settings}
use Rattle.vtl_cell.specs.Outcome.{Outcome, after}
use Rattle.vtl_cell.specs.Row.{Row}
use Rattle.vtl_tree.specs.DataSet.{AreOfProfile, IsDataSet}
use Rattle.vtl_tree.specs.Environment.{DataSet, Environment, known_in}
use Rattle.vtl_tree.specs.Structure.{IsStructure}
use Rattle.vtl_tree.specs.Structures.{Named}
use Rattle.vtl_tree.specs.Trees as nodes
use Rattle.vtl_tree.specs.Trees.{NodeTree, structure_of}
use Rattle.vtl_meaning.specs.Points.{with_points}
use Rattle.vtl_meaning.specs.Profiles.{AllAreOfProfile}
use Rattle.vtl_scripts.specs.Made.{AreMadeStatements, IsMade}
use Rattle.vtl_scripts.specs.Meaning.{AreDataSets, Statement, data_set_of, node_value}
use Rattle.rerun_laws.specs.Values.{AreDataSetsOf, IsDataSetOf, behind, known_behind, values, with_value}
use Rattle.vtl_scripts.proofs.ScriptsKept.{node_kept}
use Rattle.vtl_scripts.proofs.ScriptsProfiles.{node_gives}

-- the data set of an expression
value_kept : (p : Settings) (env : Environment) (n : NodeTree) → IsMade p (known_in env) n → AreDataSets env → AllAreOfProfile p env → IfOk (data_set_of p env n) (IsDataSetOf p n)
value_kept p env n m sets range = go (node_value p env n) (λ points e. node_kept p env n points m sets e) (node_gives p env range n m)
  where
    go : (o : Outcome (List Row)) → ((points : List Row) → o ≡ Ok points → IsDataSet (structure_of n) points) → IfOk o (AreOfProfile p) → IfOk (after o (λ points. Ok (with_points (structure_of n) points))) (IsDataSetOf p n)
    go (Ok points) kept profile = record { structure = refl; points = kept points refl; profile = profile }
    go (Err fault) kept profile = tt

made_structure : (p : Settings) (known : Named) (n : NodeTree) → IsMade p known n → IsStructure (structure_of n)
made_structure p known (nodes.node s form) m = m.0.well_formed

no_points : (p : Settings) (known : Named) (n : NodeTree) → IsMade p known n → IsDataSet (structure_of n) []
no_points p known n m = record { well_formed = made_structure p known n m; typed = tt; distinct = refl }

-- one more result leaves all data sets
data_more : (p : Settings) (s : Statement) (v : Outcome DataSet) (env : Environment) → IsMade p (known_in env) s.node → AreDataSets env → IfOk v (IsDataSetOf p s.node) → AreDataSets (with_value s v env)
data_more p s (Ok d) env m sets h = (h.points, sets)
data_more p s (Err fault) env m sets h = (no_points p (known_in env) s.node m, sets)

range_more : (p : Settings) (s : Statement) (v : Outcome DataSet) (env : Environment) → AllAreOfProfile p env → IfOk v (IsDataSetOf p s.node) → AllAreOfProfile p (with_value s v env)
range_more p s (Ok d) env range h = (h.profile, range)
range_more p s (Err fault) env range h = (tt, range)

-- what is known of it, whatever it is
known_more : (p : Settings) (s : Statement) (env : Environment) → known_in (with_value s (data_set_of p env s.node) env) ≡ (s.result, structure_of s.node) ∷ known_in env
known_more p s env = go (node_value p env s.node)
  where
    go : (o : Outcome (List Row)) → known_in (with_value s (after o (λ points. Ok (with_points (structure_of s.node) points))) env) ≡ (s.result, structure_of s.node) ∷ known_in env
    go (Ok points) = refl
    go (Err fault) = refl

pub known_there : (p : Settings) (ss : List Statement) (env : Environment) → known_in (behind p ss env) ≡ known_behind (known_in env) ss
known_there p [] env = refl
known_there p (s ∷ rest) env =
    known_there p rest (with_value s (data_set_of p env s.node) env) ∙ ap (λ known. known_behind known rest) (known_more p s env)

-- ---- of all statements
module _ (p : Settings) (s : Statement) (rest : List Statement) (env : Environment) (m : AreMadeStatements p (known_in env) (s ∷ rest)) (sets : AreDataSets env) (range : AllAreOfProfile p env) where
  pub next : Environment
  next = with_value s (data_set_of p env s.node) env

  pub here : IfOk (data_set_of p env s.node) (IsDataSetOf p s.node)
  here = value_kept p env s.node m.0 sets range

  pub next_made : AreMadeStatements p (known_in next) rest
  unfolding next
  next_made = subst (λ known. AreMadeStatements p known rest) (sym (known_more p s env)) m.1

  pub next_data : AreDataSets next
  unfolding next
  next_data = data_more p s (data_set_of p env s.node) env m.0 sets here

  pub next_range : AllAreOfProfile p next
  unfolding next
  next_range = range_more p s (data_set_of p env s.node) env range here

pub values_kept : (p : Settings) (ss : List Statement) (env : Environment) → AreMadeStatements p (known_in env) ss → AreDataSets env → AllAreOfProfile p env → AreDataSetsOf p ss (values p ss env)
unfolding next
values_kept p [] env m sets range = tt
values_kept p (s ∷ rest) env m sets range = (here p s rest env m sets range, values_kept p rest (with_value s (data_set_of p env s.node) env) (next_made p s rest env m sets range) (next_data p s rest env m sets range) (next_range p s rest env m sets range))

pub data_behind : (p : Settings) (ss : List Statement) (env : Environment) → AreMadeStatements p (known_in env) ss → AreDataSets env → AllAreOfProfile p env → AreDataSets (behind p ss env) × AllAreOfProfile p (behind p ss env)
unfolding next
data_behind p [] env m sets range = (sets, range)
data_behind p (s ∷ rest) env m sets range = data_behind p rest (with_value s (data_set_of p env s.node) env) (next_made p s rest env m sets range) (next_data p s rest env m sets range) (next_range p s rest env m sets range)

-- the first of statements that are made are made
pub first_made : (p : Settings) (known : Named) (ss : List Statement) (i : ℕ) → AreMadeStatements p known ss → AreMadeStatements p known (take i ss)
first_made p known ss zero m = tt
first_made p known [] (suc i) m = tt
first_made p known (s ∷ ss) (suc i) m = (m.0, first_made p ((s.result, structure_of s.node) ∷ known) ss i m.1)
