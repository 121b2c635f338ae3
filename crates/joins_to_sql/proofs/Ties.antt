-- The condition that ties an operand to the first source: columns of it have the values that the first source has in the columns of
-- their names.
use Rattle.std.proofs.Common.{◌≡◌, ◌≤◌, ◌+◌, ℕ, true, List, [], ◌∷◌, ◌++◌, length, map, Ok, refl, ap, sym, ◌∙◌, subst, arith, length-append}
use Rattle.std.specs.List.{AllByRecursion}
use Rattle.std.proofs.lemmas.List.{get_or_append_left, get_or-append-add, length-map}
use Rattle.vtl_cell.specs.Order.{same_cell}
use Rattle.vtl_cell.specs.Row.{Row, column_of, same_row}
use Rattle.vtl_cell.specs.ScalarKinds.{kinds_of}
use Rattle.vtl_decimal.specs.Settings.{Settings}
use Rattle.vtl_cell.specs.declared.cell.Cell.TheVariants as c
use Rattle.vtl_cell.specs.declared.kind.Kind.{Kind}
use Rattle.vtl_cell.specs.declared.kind.Kind.TheVariants as k
use Rattle.vtl_cell.specs.declared.operator.ScalarOp.TheVariants as op
use Rattle.vtl_rows.specs.Tables.{cells_at}
use Rattle.vtl_tree.specs.DataSet.{is_point}
use Rattle.vtl_tree.specs.Structure.{columns_of, most_components}
use Rattle.vtl_tree.specs.Value.{called, value}
use Rattle.vtl_tree.specs.declared.structure.Component.{Component}
use Rattle.vtl_tree.specs.declared.structure.Structure.{Structure}
use Rattle.vtl_tree.specs.Kinds.{exp_kind}
use Rattle.vtl_tree.specs.Columns.{kind_named, place_of, places_in}
use Rattle.vtl_meaning.specs.Made.{IsColumnAt, IsTyped}
use Rattle.vtl_meaning.proofs.Kept.{column_front, column_within}
use Rattle.vtl_meaning.proofs.Places.{point_length}
use Rattle.vtl_meaning.proofs.ValueKinds.{cell_is_of}
use Rattle.selects_to_sql.specs.Writable.{CanBeWritten}
use Rattle.joins_to_sql.specs.Joins.{all_tied, placed_at, tied_to}
use Rattle.selects_to_sql.proofs.Conjunctions.{IsPart, alike_kinds, conjunction_kind, conjunction_typed, conjunction_value, conjunction_written, equal_cells}
use Rattle.selects_to_sql.proofs.Identifiers.{AreIdentifiersAt, IsIdentifierAt}
use Rattle.selects_to_sql.proofs.Pairs.{column_later, same_cells}

module _ (p : Settings) (first more : List Component) (a : Structure) (n : ℕ) (many : length (first ++ more) ≡ n) where
  abbrev ys : List Component
  ys = columns_of a

  abbrev all : List Component
  all = (first ++ more) ++ ys

  -- a column of the operand, and one of the first source
  own_column : (place : ℕ) (name : List ℕ) (kind : Kind) → IsColumnAt place name kind ys → IsColumnAt (n + place) name kind all
  own_column place name kind i = subst (λ m. IsColumnAt (m + place) name kind all) many (column_later place name kind (first ++ more) ys i)

  first_column : (place : ℕ) (name : List ℕ) (kind : Kind) → IsColumnAt place name kind first → IsColumnAt place name kind all
  first_column place name kind i = column_front place name kind (first ++ more) ys (column_front place name kind first more i)

  tied_part : (z : Component) → IsIdentifierAt z.name z.kind first → IsIdentifierAt z.name z.kind ys → IsPart p all (tied_to first (placed_at n a) z)
  tied_part z i j =
      let own = subst (λ q. IsColumnAt (place_of z.name first) z.name q first) (sym i.named) i.column in
      let others = subst (λ q. IsColumnAt (place_of z.name ys) z.name q ys) (sym j.named) j.column in
      record {
        typed = (
          ap (λ q. kinds_of op.Equal (q ∷ kind_named z.name first ∷ [])) (j.named ∙ sym i.named) ∙ alike_kinds (kind_named z.name first),
          (own_column (place_of z.name ys) z.name (kind_named z.name ys) others, (first_column (place_of z.name first) z.name (kind_named z.name first) own, tt)),
          refl,
        );
        boolean = refl;
        held = (tt, (tt, tt));
        flat = omega arith;
      }

  tied_parts : (zs : List Component) → AreIdentifiersAt first zs → AreIdentifiersAt ys zs → AllByRecursion (IsPart p all) (map (tied_to first (placed_at n a)) zs)
  tied_parts [] i j = tt
  tied_parts (z ∷ zs) i j = (tied_part z i.0 j.0, tied_parts zs i.1 j.1)

  module _ (q z t : Row) (h : is_point first q ≡ true) (g : is_point ys t ≡ true) (wide : length (q ++ z) ≡ n) where
    one_value : (y : Component) → IsIdentifierAt y.name y.kind first → IsIdentifierAt y.name y.kind ys → value p (tied_to first (placed_at n a) y) ((q ++ z) ++ t) ≡ Ok (c.Bool (same_cell (column_of (place_of y.name ys) t) (column_of (place_of y.name first) q)))
    one_value y i j =
        let r = (q ++ z) ++ t in
        let long = point_length first q h in
        let within = column_within (place_of y.name first) y.name y.kind first i.column in
        let second : column_of (n + place_of y.name ys) r ≡ column_of (place_of y.name ys) t = ap (λ m. column_of (m + place_of y.name ys) r) (sym wide) ∙ get_or-append-add (q ++ z) t (place_of y.name ys) c.Null in
        let front : column_of (place_of y.name first) r ≡ column_of (place_of y.name first) (q ++ z) = get_or_append_left (q ++ z) t c.Null (place_of y.name first) (let size = length-append q z in omega (arith, within, long, size)) in
        let lead : column_of (place_of y.name first) (q ++ z) ≡ column_of (place_of y.name first) q = get_or_append_left q z c.Null (place_of y.name first) (omega (arith, within, long)) in
        ap (λ v. called p k.Bool (Ok v ∷ Ok (column_of (place_of y.name first) r) ∷ []) op.Equal) second
        ∙ ap (λ v. called p k.Bool (Ok (column_of (place_of y.name ys) t) ∷ Ok v ∷ []) op.Equal) (front ∙ lead)
        ∙ equal_cells p y.kind (column_of (place_of y.name ys) t) (column_of (place_of y.name first) q) (cell_is_of (place_of y.name ys) y.name y.kind ys t j.column g) (cell_is_of (place_of y.name first) y.name y.kind first q i.column h) (j.filled t g) (i.filled q h)

    each_value : (zs : List Component) → AreIdentifiersAt first zs → AreIdentifiersAt ys zs → AllByRecursion (λ y. value p (tied_to first (placed_at n a) y) ((q ++ z) ++ t) ≡ Ok (c.Bool (same_cell (column_of (place_of y.name ys) t) (column_of (place_of y.name first) q)))) zs
    each_value [] i j = tt
    each_value (y ∷ zs) i j = (one_value y i.0 j.0, each_value zs i.1 j.1)

  module _ (f : Structure → List Component) (ours : AreIdentifiersAt first (f a)) (theirs : AreIdentifiersAt ys (f a)) where
    abbrev parts : AllByRecursion (IsPart p all) (map (tied_to first (placed_at n a)) (f a))
    parts = tied_parts (f a) ours theirs

    pub tied_typed : IsTyped p all (all_tied first f (placed_at n a))
    tied_typed = conjunction_typed p all (map (tied_to first (placed_at n a)) (f a)) parts

    pub tied_kind : exp_kind (all_tied first f (placed_at n a)) ≡ k.Bool
    tied_kind = conjunction_kind p all (map (tied_to first (placed_at n a)) (f a)) parts

    pub tied_written : length (f a) ≤ most_components → CanBeWritten (all_tied first f (placed_at n a))
    tied_written few =
        let size = length-map (f a) (tied_to first (placed_at n a)) in
        conjunction_written p all (map (tied_to first (placed_at n a)) (f a)) parts (omega (arith, size, few))

    pub tied_value : (q z t : Row) → is_point first q ≡ true → is_point ys t ≡ true → length (q ++ z) ≡ n
        → value p (all_tied first f (placed_at n a)) ((q ++ z) ++ t) ≡ Ok (c.Bool (same_row (cells_at (places_in ys (f a)) t) (cells_at (places_in first (f a)) q)))
    tied_value q z t h g wide =
        conjunction_value p ((q ++ z) ++ t) (tied_to first (placed_at n a)) (λ y. same_cell (column_of (place_of y.name ys) t) (column_of (place_of y.name first) q)) (f a) (each_value q z t h g wide (f a) ours theirs)
        ∙ ap (λ b. Ok (c.Bool b)) (same_cells first ys (f a) q t)
