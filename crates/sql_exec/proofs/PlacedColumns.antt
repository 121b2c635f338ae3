-- Columns that a source has stand within the rows of FROM.
use Rattle.std.proofs.Common.{◌<◌, None, length}
use Rattle.std.specs.List.{AllByRecursion}
use Rattle.sql_tree.specs.Trees as tree
use Rattle.sql_tree.specs.declared.windows.Window.{Window}
use Rattle.sql_check_parts.specs.Expressions.{Site}
use Rattle.sql_check_parts.specs.Scopes.{row_of}
use Rattle.sql_check_laws.specs.Selects.{IsValueTyped}
use Rattle.sql_meaning.specs.Values.{place_in}
use Rattle.sql_meaning.proofs.Lists.{under}
use Rattle.sql_groups.proofs.KeyLemmas.{place_within}

-- those of a window that is typed
module _ (at : Site) (w : Window) (typed : IsValueTyped at None (tree.window w)) where
  pub partition_within : AllByRecursion (λ x. place_in at.scope x < length (row_of at.scope)) w.over.partition
  partition_within = under (λ x h. place_within at.scope x h.0) w.over.partition typed.partition

  pub order_within : AllByRecursion (λ x. place_in at.scope x.column < length (row_of at.scope)) w.over.order
  order_within = under (λ x h. place_within at.scope x.column h.0) w.over.order typed.order
