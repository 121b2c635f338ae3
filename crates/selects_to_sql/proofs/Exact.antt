-- Queries whose rows are known in their order, and data sets in another order.
use Rattle.std.proofs.Common.{◌≡◌, true, List, Ok, Err, sym, subst, ◌∙◌}
use Rattle.vtl_cell.specs.Outcome.{Outcome}
use Rattle.vtl_cell.specs.Outcomes.{Same}
use Rattle.vtl_lists.specs.Perm.{Perm, chain}
use Rattle.vtl_cell.specs.Row.{Row, same_key}
use Rattle.vtl_decimal.specs.Settings.{Settings}
use Rattle.vtl_lists.proofs.Aparts.{all_apart-Perm}
use Rattle.vtl_lists.proofs.Perms.{AllByRecursion-Perm, Perm-sym}
use Rattle.vtl_cell.proofs.Rows.{same_key-sym}
use Rattle.vtl_tree.specs.DataSet.{IsDataSet, is_point}
use Rattle.vtl_tree.specs.Structure.{columns_of, key_width}
use Rattle.vtl_tree.specs.declared.structure.Structure.{Structure}
use Rattle.sql_tree.specs.Trees.{QueryTree}
use Rattle.sql_meaning.specs.Scripts.{Data, base_of, tables_in}
use Rattle.sql_meaning.specs.Selects.{query_value}
use Rattle.selects_to_sql.specs.Means.{IsQueryFor, Means}

-- over these tables the query has exactly these rows, in this order, or this fault
pub record IsExactly (p : Settings) (before : Data) (q : QueryTree) (s : Structure) (m : Outcome (List Row)) : Type 0 where
  pub query : IsQueryFor p (tables_in before) s q
  pub rows : query_value (base_of p before) q ≡ m

pub exactly_same : (p : Settings) (before : Data) (q : QueryTree) (s : Structure) (m n : Outcome (List Row)) → m ≡ n → IsExactly p before q s m → IsExactly p before q s n
exactly_same p before q s m n e h = record { query = h.query; rows = h.rows ∙ e }

-- so it means what is the same up to order
pub means_by : (p : Settings) (before : Data) (q : QueryTree) (s : Structure) (m n : Outcome (List Row)) → Same m n → IsExactly p before q s m → Means p before q s n
means_by p before q s m n e h = record { query = h.query; rows = subst (λ x. Same x n) (sym h.rows) e }

pub means_turned : (p : Settings) (before : Data) (q : QueryTree) (s : Structure) (d e : List Row) → Perm d e → Means p before q s (Ok d) → Means p before q s (Ok e)
means_turned p before q s d e h m = record { query = m.query; rows = go (query_value (base_of p before) q) m.rows }
  where
    go : (o : Outcome (List Row)) → Same o (Ok d) → Same o (Ok e)
    go (Ok f) i = chain i h
    go (Err f) i = absurd i

-- ---- data sets in another order

pub set_turned : (a : Structure) (d e : List Row) → Perm e d → IsDataSet a d → IsDataSet a e
set_turned a d e h i = record {
  well_formed = i.well_formed;
  typed = AllByRecursion-Perm (λ r. is_point (columns_of a) r ≡ true) (Perm-sym h) i.typed;
  distinct = all_apart-Perm (same_key (key_width a)) (same_key-sym (key_width a)) h ∙ i.distinct;
}
