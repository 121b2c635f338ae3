-- Statements in turn mean what they mean together.
use Rattle.std.proofs.Common.{◌≡◌, List, [], ◌∷◌, Ok, Err, refl, ap}
use Rattle.vtl_decimal.specs.Settings.{Settings}
use Rattle.vtl_cell.specs.Outcome.{Outcome}
use Rattle.vtl_tree.specs.Environment.{DataSet, Environment}
use Rattle.vtl_scripts.specs.Meaning.{Statement, data_set_of, kept_output, meaning, stated}
use Rattle.rerun_laws.specs.Values.{alone, in_turn, one_by_one, outputs_of_values, values, with_value}

-- one after the other
pub in_turn_meant : (p : Settings) (ss : List Statement) (env : Environment) → one_by_one p ss env ≡ meaning p ss env
in_turn_meant p [] env = refl
in_turn_meant p (s ∷ rest) env = go (data_set_of p env s.node) (λ d. in_turn_meant p rest ((s.result, d) ∷ env))
  where
    go : (o : Outcome DataSet) → ((d : DataSet) → one_by_one p rest ((s.result, d) ∷ env) ≡ meaning p rest ((s.result, d) ∷ env))
        → in_turn s (stated (alone s) o (λ d. Ok [])) (λ d. one_by_one p rest ((s.result, d) ∷ env)) ≡ stated s o (λ d. meaning p rest ((s.result, d) ∷ env))
    go (Ok d) ih = ap (kept_output s d) (ih d)
    go (Err fault) ih = refl

-- by the value of each
pub values_meant : (p : Settings) (ss : List Statement) (env : Environment) → outputs_of_values ss (values p ss env) ≡ meaning p ss env
values_meant p [] env = refl
values_meant p (s ∷ rest) env = go (data_set_of p env s.node) (λ d. values_meant p rest ((s.result, d) ∷ env))
  where
    go : (o : Outcome DataSet) → ((d : DataSet) → outputs_of_values rest (values p rest ((s.result, d) ∷ env)) ≡ meaning p rest ((s.result, d) ∷ env))
        → stated s o (λ d. outputs_of_values rest (values p rest (with_value s o env))) ≡ stated s o (λ d. meaning p rest ((s.result, d) ∷ env))
    go (Ok d) ih = ap (kept_output s d) (ih d)
    go (Err fault) ih = refl
