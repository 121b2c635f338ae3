-- The tables of FROM, select by select and source by source.
use Rattle.std.proofs.Common.{◌≡◌, ℕ, zero, suc, ◌+◌, ◌<◌, List, [], ◌∷◌, map, length, get_or, Option, None, sym, ap, ◌∙◌, add-one, arith}
use Rattle.std.proofs.lemmas.List.{length-map}
use Rattle.vtl_rows.specs.Named.{NamedTables}
use Rattle.vtl_rows.specs.Tables.{Listed}
use Rattle.sql_tree.specs.Trees.{JoinTree, SelectTree}
use Rattle.sql_tree.specs.View.{join_tree, select_tree}
use Rattle.sql_tree.specs.declared.parts.Source.{Source}
use Rattle.sql_tree.specs.declared.statements.Join.{Join}
use Rattle.sql_tree.specs.declared.statements.Select.{Select}
use Rattle.sql_check_parts.specs.Queries.{join_source}
use Rattle.sql_from.specs.FromTables.{from_at, from_given, maybe_given}
use Rattle.sql_exec.proofs.Steps.{mapped_twice}

-- what stands for one item
read_at : {X Y : Type 0} (f : X → Y) (xs : List X) (i : ℕ) (x : X) (d : Y) → i < length xs → x ≡ get_or xs i x → get_or (map f xs) i d ≡ f x
read_at f [] i x d h e = absurd (omega arith)
read_at f (y ∷ ys) zero x d h e = ap f (sym e)
read_at f (y ∷ ys) (suc i) x d h e = read_at f ys i x d (omega arith) e

-- ---- the selects of a query

module _ (held : NamedTables) (selects : List Select) (from : List (List (Option Listed))) (are : from ≡ map (from_given held) (map select_tree selects)) where
  pub from_long : length from ≡ length selects
  from_long = ap (λ (l : List (List (Option Listed))). length l) are ∙ length-map (map select_tree selects) (from_given held) ∙ length-map selects select_tree

  pub from_select : (i : ℕ) (s : Select) (t : List (Option Listed)) → i < length selects → s ≡ get_or selects i s → t ≡ get_or from i t → t ≡ from_given held (select_tree s)
  from_select i s t h at there =
      there ∙ ap (λ (l : List (List (Option Listed))). get_or l i t) (are ∙ sym (mapped_twice select_tree (from_given held) selects))
      ∙ read_at (λ (x : Select). from_given held (select_tree x)) selects i s t h at

-- the only one
pub only_select : (selects : List Select) (x : Select) (s : SelectTree) → map select_tree selects ≡ s ∷ [] → x ≡ get_or selects 0 x → select_tree x ≡ s
only_select [] x s e at = cc
only_select (y ∷ ys) x s e at = let same : select_tree y ≡ s = cc in ap select_tree at ∙ same

-- ---- the joins of a select

pub from_join : (held : NamedTables) (first : Source) (joins : List Join) (i : ℕ) (j : Join) → i < length joins → j ≡ get_or joins i j → from_at (map (maybe_given held) (first ∷ map join_source (map join_tree joins))) (i + 1) ≡ maybe_given held (join_source (join_tree j))
from_join held first joins i j h at =
    let given : JoinTree → Option Listed = λ x. maybe_given held (join_source x) in
    let all : map (maybe_given held) (map join_source (map join_tree joins)) ≡ map (λ (x : Join). given (join_tree x)) joins = sym (mapped_twice join_source (maybe_given held) (map join_tree joins)) ∙ sym (mapped_twice join_tree given joins) in
    let at_all : get_or (map (maybe_given held) (map join_source (map join_tree joins))) i None ≡ given (join_tree j) = ap (λ (l : List (Option Listed)). get_or l i None) all ∙ read_at (λ (x : Join). given (join_tree x)) joins i j None h at in
    rw add-one at_all
