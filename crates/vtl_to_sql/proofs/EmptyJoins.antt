-- Joins of operands without points.
use Rattle.std.proofs.Common.{◌≡◌, ℕ, zero, suc, List, [], ◌∷◌, ◌++◌, map, Option, Some, None, refl, ap, sym, ◌∙◌}
use Rattle.std.specs.Prelude.{filter, slice_get}
use Rattle.std.specs.List.{AllByRecursion, flat_map}
use Rattle.std.specs.Option.{option_map_or}
use Rattle.vtl_cell.specs.Row.{Row, same_row}
use Rattle.vtl_syntax.specs.declared.word_groups.JoinKind.{JoinKind}
use Rattle.vtl_syntax.specs.declared.word_groups.JoinKind.TheVariants as join
use Rattle.vtl_tree.specs.Environment.{DataSet}
use Rattle.vtl_tree.specs.declared.structure.Component.{Component}
use Rattle.vtl_tuples.specs.Keys.{each_once}
use Rattle.vtl_tuples.specs.Tuples.{combinations}
use Rattle.vtl_meaning.specs.Agreement.{operand_point, operand_points, values_in}
use Rattle.vtl_tree.specs.Columns.{identifiers_of}
use Rattle.vtl_meaning.specs.Joined.{crossed, is_whole, join_of, joined_of, keys_in, reference_place, structures_of, tuple_at, tuple_beside, tuple_point}
use Rattle.vtl_meaning.specs.Points.{with_points}
use Rattle.vtl_tree.specs.Trees as nodes
use Rattle.vtl_tree.specs.Trees.{OperandTrees, structure_of}

abbrev no_rows : List Row
no_rows = []

-- operands without points
abbrev pub empty_joined : OperandTrees → List DataSet
empty_joined nodes.no_operands = []
empty_joined (nodes.operand n alias os) = with_points (structure_of n) [] ∷ empty_joined os

abbrev pub ArePointless : List DataSet → Type 0
ArePointless ds = AllByRecursion (λ d. d.points ≡ []) ds

pub joined_empty : (os : OperandTrees) → ArePointless (empty_joined os)
joined_empty nodes.no_operands = tt
joined_empty (nodes.operand n alias os) = (refl, joined_empty os)

no_keys : (ids : List Component) (ds : List DataSet) → ArePointless ds → flat_map (keys_in ids) ds ≡ no_rows
no_keys ids [] h = refl
no_keys ids (d ∷ ds) h = ap (λ l. map (values_in d.structure ids) l ++ flat_map (keys_in ids) ds) h.0 ∙ no_keys ids ds h.1

-- the join with a reference that has no points
none_with : (kind : JoinKind) (r : DataSet) (ds : List DataSet) (i : ℕ) → r.points ≡ [] → ArePointless ds → slice_get ds i ≡ Some r → joined_of kind r ds ≡ no_rows
none_with join.Inner r ds i e h there = ap (λ l. map tuple_point (filter is_whole (map (tuple_beside r.structure ds) l))) e
none_with join.Left r ds i e h there = ap (λ l. map tuple_point (map (tuple_beside r.structure ds) l)) e
none_with join.Full r ds i e h there = let ids = identifiers_of r.structure in ap (λ l. map tuple_point (map (tuple_at ids ds) (each_once same_row l))) (no_keys ids ds h)
none_with join.Cross r [] i e h there = cc
none_with join.Cross r (d ∷ ds) i e h there = ap (λ l. map tuple_point (map crossed (flat_map (λ x. map (λ t. x ∷ t) (combinations (map operand_points ds))) (map (operand_point d.structure) l)))) h.0

pub none_joined : (kind : JoinKind) (ds : List DataSet) → ArePointless ds → join_of kind ds ≡ no_rows
none_joined kind ds h = go (reference_place kind (structures_of ds)) (slice_get ds (reference_place kind (structures_of ds))) refl
  where
    pointless : (es : List DataSet) (i : ℕ) (r : DataSet) → ArePointless es → slice_get es i ≡ Some r → r.points ≡ []
    pointless [] i r all e = cc
    pointless (d ∷ es) zero r all e = let same : d ≡ r = cc in ap (λ z. z.points) (sym same) ∙ all.0
    pointless (d ∷ es) (suc i) r all e = pointless es i r all.1 e

    go : (i : ℕ) (o : Option DataSet) → slice_get ds i ≡ o → option_map_or (λ r. joined_of kind r ds) o [] ≡ no_rows
    go i None e = refl
    go i (Some r) e = none_with kind r ds i (pointless ds i r h e) h e
