-- `sub` is a select of the columns that are left, where the identifiers have the values.
use Rattle.std.proofs.Common.{◌≡◌, ◌≤◌, Bool, true, cond, List, [], ◌∷◌, length, map, Some, None, Ok, refl, ap, sym, ◌∙◌, subst, arith}
use Rattle.std.specs.List.{AllByRecursion, filter}
use Rattle.std.proofs.lemmas.List.{length-map}
use Rattle.vtl_lists.proofs.Alls.{all_more}
use Rattle.vtl_cell.specs.Kinds.{is_of, kind_of}
use Rattle.vtl_cell.specs.Order.{same_cell}
use Rattle.vtl_cell.specs.Outcome.{after, fault_in, faults_by, unless}
use Rattle.vtl_cell.specs.Outcomes.{is_true}
use Rattle.vtl_cell.specs.Row.{Row, column_of}
use Rattle.vtl_cell.specs.ScalarKinds.{kinds_of, meets}
use Rattle.vtl_decimal.specs.Settings.{Settings}
use Rattle.vtl_cell.specs.declared.cell.Cell.TheVariants as c
use Rattle.vtl_cell.specs.declared.kind.Kind.TheVariants as k
use Rattle.vtl_cell.specs.declared.operator.ScalarOp.TheVariants as op
use Rattle.vtl_tree.specs.Clauses.{filter_of}
use Rattle.vtl_tree.specs.CompExp.{CompExp}
use Rattle.vtl_tree.specs.DataSet.{IsDataSet, is_point}
use Rattle.vtl_tree.specs.Structure.{columns_of, most_components}
use Rattle.vtl_tree.specs.Value.{value}
use Rattle.vtl_tree.specs.declared.structure.Component.{Component}
use Rattle.vtl_tree.specs.declared.structure.Structure.{Structure}
use Rattle.vtl_tree.specs.Columns.{columns_named, identifiers_of, kind_named, place_of}
use Rattle.vtl_meaning.specs.Made.{IsColumnAt, IsSub}
use Rattle.vtl_meaning.specs.Operators.{has_values, sub_of}
use Rattle.vtl_meaning.specs.Points.{each_point, with_points}
use Rattle.vtl_tree.specs.declared.clauses.SubItem.{SubItem}
use Rattle.vtl_meaning.proofs.OwnColumns.{columns_apart}
use Rattle.vtl_meaning.proofs.ValueKinds.{cell_is_of, own_kind}
use Rattle.sql_tree.specs.Formed.{IsName}
use Rattle.sql_tree.specs.Trees.{Text}
use Rattle.sql_meaning.specs.Scripts.{Data}
use Rattle.selects_to_sql.specs.Writable.{HasValue, HaveNames}
use Rattle.selects_to_sql.specs.Queries.{conjunction, has_value, sub_query}
use Rattle.selects_to_sql.specs.Runs.{IsTable}
use Rattle.selects_to_sql.proofs.Conjunctions.{IsPart, alike_kinds, conjunction_kind, conjunction_typed, conjunction_value, conjunction_written, equal_cells}
use Rattle.selects_to_sql.proofs.Exact.{IsExactly, exactly_same}
use Rattle.selects_to_sql.proofs.Expressions.{Translates}
use Rattle.selects_to_sql.proofs.Identifiers.{IsIdentifierAt, identifier_there, kind_is}
use Rattle.selects_to_sql.proofs.OneOperand.{columns_each, columns_for, columns_written, kept_mean}
use Rattle.selects_to_sql.proofs.Givens.{AreGiven}
use Rattle.selects_to_sql.proofs.Selects.{IsTest}

-- a condition that has this truth at each point keeps the points where it is true
filter_exact : (p : Settings) (e : CompExp) (f : Row → Bool) (d : List Row) → AllByRecursion (λ r. value p e r ≡ Ok (c.Bool (f r))) d → filter_of p e d ≡ Ok (filter f d)
filter_exact p e f d all = ap (λ z. unless z (filter (λ r. is_true (value p e r)) d)) (none d all) ∙ ap Ok (kept d all)
  where
    none : (l : List Row) → AllByRecursion (λ r. value p e r ≡ Ok (c.Bool (f r))) l → faults_by (λ r. fault_in (value p e r)) l ≡ None
    none [] h = refl
    none (r ∷ l) h = rw h.0 (none l h.1)

    kept : (l : List Row) → AllByRecursion (λ r. value p e r ≡ Ok (c.Bool (f r))) l → filter (λ r. is_true (value p e r)) l ≡ filter f l
    kept [] h = refl
    kept (r ∷ l) h = ap (λ m. cond (is_true m) (r ∷ filter (λ q. is_true (value p e q)) l) (filter (λ q. is_true (value p e q)) l)) h.0 ∙ ap (λ t. cond (f r) (r ∷ t) t) (kept l h.1)

-- what is known of an item
pub record IsFixed (p : Settings) (xs : List Component) (i : SubItem) : Type 0 where
  pub column : IsIdentifierAt i.id (kind_of i.value) xs
  pub given : HasValue p i

module _ (p : Settings) (xs : List Component) where
  part : (i : SubItem) → IsFixed p xs i → IsPart p xs (has_value xs i)
  part i h = record {
    typed = (
      ap (λ q. kinds_of op.Equal (q ∷ kind_of i.value ∷ [])) h.column.named ∙ alike_kinds (kind_of i.value),
      (subst (λ q. IsColumnAt (place_of i.id xs) i.id q xs) (sym h.column.named) h.column.column, (h.given.ranged, tt)),
      refl,
    );
    boolean = refl;
    held = (tt, (h.given.held, tt));
    flat = omega arith;
  }

  parts : (items : List SubItem) → AllByRecursion (IsFixed p xs) items → AllByRecursion (IsPart p xs) (map (has_value xs) items)
  parts [] h = tt
  parts (i ∷ is) h = (part i h.0, parts is h.1)

  truth : (r : Row) → is_point xs r ≡ true → (i : SubItem) → IsFixed p xs i → value p (has_value xs i) r ≡ Ok (c.Bool (same_cell (column_of (place_of i.id xs) r) i.value))
  truth r g i h = equal_cells p (kind_of i.value) (column_of (place_of i.id xs) r) i.value (cell_is_of (place_of i.id xs) i.id (kind_of i.value) xs r h.column.column g) (own_kind i.value) (h.column.filled r g) h.given.filled

module _ (p : Settings) (law : Translates p) (before : Data) (name : Text) (a : Structure) (d : List Row) (there : IsTable before name a d) (named : IsName name) (na : HaveNames (columns_of a)) (set : IsDataSet a d) where
  abbrev xs : List Component
  xs = columns_of a

  all_fixed : (items : List SubItem)
      → AllByRecursion (λ z. (is_of (kind_named z.id (identifiers_of a)) z.value ≡ true) × IsColumnAt (place_of z.id (identifiers_of a)) z.id (kind_named z.id (identifiers_of a)) (identifiers_of a)) items → AllByRecursion (HasValue p) items → AllByRecursion (IsFixed p xs) items
  all_fixed [] f g = tt
  all_fixed (z ∷ zs) f g =
      let same = kind_is (kind_named z.id (identifiers_of a)) z.value f.0.0 g.0.filled in (
        record {
          column = (identifier_there a set.well_formed z.id (kind_of z.value) (subst (λ q. IsColumnAt (place_of z.id (identifiers_of a)) z.id q (identifiers_of a)) (sym same) f.0.1)).0;
          given = g.0;
        },
        all_fixed zs f.1 g.1,
      )

  pub sub_means : (items : List SubItem) (s : Structure) → IsSub items a s → AllByRecursion (HasValue p) items → length items ≤ most_components → AreGiven (columns_of s) → IsExactly p before (sub_query p items a s name) s (Ok (sub_of items (with_points a d) s))
  sub_means items s i h few given =
      let fixed = all_fixed items i.values h in
      let all = parts p xs items fixed in
      let e = conjunction (map (has_value xs) items) in
      let size = length-map items (has_value xs) in
      let test : IsTest p xs (Some e) = (conjunction_typed p xs (map (has_value xs) items) all, ap (meets k.Bool) (conjunction_kind p xs (map (has_value xs) items) all), conjunction_written p xs (map (has_value xs) items) all (omega (arith, size, few))) in
      let left = columns_named xs (columns_of s) in
      let rows : AllByRecursion (λ r. value p e r ≡ Ok (c.Bool (has_values a items r))) d =
      all_more (λ r. is_point xs r ≡ true) (λ r. value p e r ≡ Ok (c.Bool (has_values a items r)))
      (λ r g. conjunction_value p r (has_value xs) (λ z. same_cell (column_of (place_of z.id xs) r) z.value) items (all_more (IsFixed p xs) (λ z. value p (has_value xs z) r ≡ Ok (c.Bool (same_cell (column_of (place_of z.id xs) r) z.value))) (truth p xs r g) items fixed)) d set.typed in
      exactly_same p before (sub_query p items a s name) s (after (filter_of p e d) (each_point p left)) (Ok (sub_of items (with_points a d) s))
      (ap (λ m. after m (each_point p left)) (filter_exact p e (has_values a items) d rows) ∙ columns_each p xs (columns_of s) (filter (has_values a items) d))
      (kept_mean p law before name a d there named set.well_formed na left s (columns_for p xs (columns_of s) (columns_apart a set.well_formed) i.columns) (columns_written xs (columns_of s)) given e test set.typed)
