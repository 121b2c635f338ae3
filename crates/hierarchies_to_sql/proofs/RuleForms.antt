-- The selects of the combinations beside tables of items, as they are written.
use Rattle.std.proofs.Common.{◌≡◌, ◌<◌, ◌+◌, ℕ, suc, Bool, true, false, not, cond, List, [], ◌∷◌, ◌++◌, length, map, Option, Some, None, refl, sym, subst, ap, ◌∙◌, arith, append_assoc, append-nil}
use Rattle.std.proofs.lemmas.List.{map-append}
use Rattle.std.specs.List.{AllByRecursion, filter}
use Rattle.vtl_decimal.specs.Settings.{Settings}
use Rattle.vtl_cell.specs.declared.cell.Cell.TheVariants as c
use Rattle.vtl_cell.specs.declared.operator.ScalarOp.TheVariants as op
use Rattle.vtl_tree.specs.Columns.{identifiers_of, measures_of, place_of}
use Rattle.vtl_tree.specs.Structure.{columns_of, same_name, same_role}
use Rattle.vtl_tree.specs.declared.structure.Component.{Component}
use Rattle.vtl_tree.specs.declared.structure.Role.TheVariants as role
use Rattle.vtl_tree.specs.declared.structure.Structure.{Structure}
use Rattle.vtl_meaning.specs.Made.{attributes_of}
use Rattle.vtl_meaning.specs.Turned.{other_identifiers}
use Rattle.vtl_rulings.specs.HierarchyChecks.{Ruled}
use Rattle.sql_tree.specs.Trees as tree
use Rattle.sql_tree.specs.Trees.{JoinTree, Text, on}
use Rattle.sql_tree.specs.declared.word_groups.JoinKind.TheVariants as joining
use Rattle.expressions_to_sql.specs.ToSql.{Naming, column_of, to_sql}
use Rattle.joins_to_sql.specs.JoinItems.{column_from, tied_with}
use Rattle.joins_to_sql.specs.Joins.{all_tied, joins_on, of_many, placed_at, placed_from, tied_to, width_of}
use Rattle.joins_to_sql.proofs.ManySources.{of_first, of_later}
use Rattle.selects_to_sql.specs.Queries.{alias_of, source_as}
use Rattle.selects_to_sql.specs.Items.{all_of}
use Rattle.hierarchies_to_sql.specs.ItemTables.{item_structure, leaf_at, structures_for}
use Rattle.hierarchies_to_sql.specs.RuleItems.{aliases_from, join_as, joins_as}
use Rattle.hierarchies_to_sql.specs.SideItems.{leaf_under}
use Rattle.hierarchies_to_sql.proofs.SideForms.{AreWritten, IsWritten, all_written}

module _ (p : Settings) (at : Naming) (h : Ruled) (a : Structure) where
  abbrev t : Structure
  t = item_structure h a

  -- from a place on, the columns are those of tables of items, numbered from here
  abbrev pub AreFrom : (n i : ℕ) → (items : List Text) → Type 0
  AreFrom n i items = (k : ℕ) (name : Text) → at (n + k) name ≡ of_many i (map width_of (structures_for h a items)) k name

  from_next : (n i : ℕ) (x : Text) (items : List Text) → AreFrom n i (x ∷ items) → AreFrom (n + width_of t) (suc i) items
  from_next n i x items from k name =
      let sum : (n + width_of t) + k ≡ n + (width_of t + k) = omega arith in
      ap (λ m. at m name) sum ∙ from (width_of t + k) name ∙ of_later i (width_of t) k (map width_of (structures_for h a items)) name

  -- a column of the first of them
  column_is : (n i : ℕ) (x : Text) (items : List Text) → AreFrom n i (x ∷ items) → (name : Text) → place_of name (columns_of t) < width_of t → at (n + place_of name (columns_of t)) name ≡ column_of (alias_of i) name
  column_is n i x items from name within = from (place_of name (columns_of t)) name ∙ of_first i (width_of t) (place_of name (columns_of t)) (map width_of (structures_for h a items)) name within

  module _ (measured : place_of h.measure (columns_of t) < width_of t) (told : place_of h.id (columns_of t) < width_of t) where
    pub leaves_written : (items : List Text) (n i : ℕ) → AreFrom n i items → AreWritten p at (map (leaf_at h) (placed_from n (structures_for h a items))) (map (leaf_under h) (aliases_from i (length items)))
    leaves_written [] n i from = tt
    leaves_written (x ∷ items) n i from = (
      record { value = ap tree.column (column_is n i x items from h.measure measured); there = ap tree.column (column_is n i x items from h.id told) },
      leaves_written items (n + width_of t) (suc i) (from_next n i x items from),
    )

  module _ (ks : List Component) (others : List Component) (identify : identifiers_of t ≡ others) where
    -- each of these stands in an item's table, and in that of the combinations, whose columns are the first
    pub record IsShared (z : Component) : Type 0 where
      pub own : place_of z.name (columns_of t) < width_of t
      pub first : at (place_of z.name ks) z.name ≡ column_of (alias_of 0) z.name

    tied_written : (n i : ℕ) (x : Text) (items : List Text) → AreFrom n i (x ∷ items) → (z : Component) → IsShared z → to_sql p at (tied_to ks (placed_at n t) z) ≡ tied_with (alias_of 0) (alias_of i) z
    tied_written n i x items from z s =
        ap (λ e. tree.binary (tree.column e) op.Equal (tree.column (at (place_of z.name ks) z.name))) (column_is n i x items from z.name s.own)
        ∙ ap (λ e. tree.binary (column_from (alias_of i) z) op.Equal (tree.column e)) s.first

    each_tied : (n i : ℕ) (x : Text) (items : List Text) → AreFrom n i (x ∷ items) → (zs : List Component) → AllByRecursion IsShared zs → map (to_sql p at) (map (tied_to ks (placed_at n t)) zs) ≡ map (tied_with (alias_of 0) (alias_of i)) zs
    each_tied n i x items from [] all = refl
    each_tied n i x items from (z ∷ zs) all =
        ap (λ e. e ∷ map (to_sql p at) (map (tied_to ks (placed_at n t)) zs)) (tied_written n i x items from z all.0)
        ∙ ap (λ l. tied_with (alias_of 0) (alias_of i) z ∷ l) (each_tied n i x items from zs all.1)

    condition_written : AllByRecursion IsShared others → (n i : ℕ) (x : Text) (items : List Text) → AreFrom n i (x ∷ items) → to_sql p at (all_tied ks identifiers_of (placed_at n t)) ≡ all_of (map (tied_with (alias_of 0) (alias_of i)) others)
    condition_written all n i x items from =
        all_written p at h.kind (map (tied_to ks (placed_at n t)) (identifiers_of t))
        ∙ ap (λ zs. all_of (map (to_sql p at) (map (tied_to ks (placed_at n t)) zs))) identify
        ∙ ap all_of (each_tied n i x items from others all)

    pub joins_written : AllByRecursion IsShared others → (xs : List Text) (n i : ℕ) → AreFrom n i xs → joins_on p joining.Left at ks identifiers_of i (placed_from n (structures_for h a xs)) xs ≡ joins_as (alias_of 0) others (aliases_from i (length xs)) xs
    joins_written all [] n i from = refl
    joins_written all (x ∷ xs) n i from =
        ap (λ e. on joining.Left (source_as (alias_of i) x) e ∷ joins_on p joining.Left at ks identifiers_of (suc i) (placed_from (n + width_of t) (structures_for h a xs)) xs) (condition_written all n i x xs from)
        ∙ ap (λ l. join_as (alias_of 0) others (alias_of i) x ∷ l) (joins_written all xs (n + width_of t) (suc i) (from_next n i x xs from))
