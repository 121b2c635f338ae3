-- What `unpivot` makes of rows.
use Rattle.std.proofs.Common.{◌≡◌, ℕ, zero, suc, ◌+◌, ◌<◌, List, [], ◌∷◌, ◌++◌, true, cond, map, take, length, get_or, Option, Some, None, refl, sym, ap, ◌∙◌, subst, arith, append_assoc}
use Rattle.std.specs.Prelude.{IfSome}
use Rattle.std.specs.List.{AllByRecursion, cons_option, filter_map, flat_map, range_with_len}
use Rattle.std.specs.Option.{option_to_list}
use Rattle.std.proofs.lemmas.List.{map_more}
use Rattle.std.proofs.lemmas.List.Elements.{filter_map-append}
use Rattle.vtl_lists.proofs.Alls.{all_front, all_more}
use Rattle.vtl_lists.proofs.Filters.{filter_map-map}
use Rattle.vtl_cell.specs.Kinds.{is_null}
use Rattle.vtl_cell.specs.Row.{Row}
use Rattle.vtl_cell.specs.declared.cell.Cell.TheVariants as c
use Rattle.vtl_rows.specs.Tables.{fits}
use Rattle.vtl_tree.specs.DataSet.{IsDataSet, is_point}
use Rattle.vtl_tree.specs.Environment.{DataSet}
use Rattle.vtl_tree.specs.Structure.{columns_of, key_width}
use Rattle.vtl_tree.specs.declared.structure.Structure.{Structure}
use Rattle.vtl_tuples.proofs.Lists.{flat_map_same}
use Rattle.vtl_sets.specs.TableOf.{table_columns}
use Rattle.vtl_sets.proofs.TableLemmas.{point_fits}
use Rattle.vtl_tree.specs.Columns.{measures_of}
use Rattle.vtl_meaning.specs.LookUps.{value_named}
use Rattle.vtl_meaning.specs.Made.{IsUnpivoted}
use Rattle.vtl_meaning.specs.Points.{with_points}
use Rattle.vtl_meaning.specs.Turned.{named_point, unpivot_of, unpivoted_points}
use Rattle.vtl_meaning.proofs.TurnedKept.{unpivot_kept}
use Rattle.vtl_expr.proofs.PointLemmas.{holds_at}
use Rattle.vtl_combine.specs.Unpivots.{measure_in, named_row, unpivoted}
use Rattle.vtl_combine.proofs.ExistenceLemmas.{own_key}

-- ---- lists
filter_map_each : {X Y : Type 0} (g h : X → Option Y) → ((x : X) → g x ≡ h x) → (xs : List X) → filter_map g xs ≡ filter_map h xs
filter_map_each g h e xs = let same : g ≡ h = λ j x. e x j in ap (λ f. filter_map f xs) same

all_drawn : {X Y : Type 0} (P : Y → Type 0) (h : X → Option Y) (x : X) (ys : List Y) (o : Option Y) → AllByRecursion P (cons_option o ys) → IfSome o P × AllByRecursion P ys
all_drawn P h x ys None all = (tt, all)
all_drawn P h x ys (Some y) all = all

-- what holds of all that is drawn holds of what one item gives
pub drawn_holds : {X Y Z : Type 0} (P : Z → Type 0) (h : Y → Option Z) (f : X → Y) (xs : List X) (i : ℕ) (x : X) → AllByRecursion P (filter_map h (map f xs)) → i < length xs → x ≡ get_or xs i x → IfSome (h (f x)) P
drawn_holds P h f [] i x all l at = absurd (omega arith)
drawn_holds P h f (y ∷ xs) zero x all l at = subst (λ z. IfSome (h (f z)) P) (sym at) (all_drawn P h (f y) (filter_map h (map f xs)) (h (f y)) all).0
drawn_holds P h f (y ∷ xs) (suc i) x all l at = drawn_holds P h f xs i x (all_drawn P h (f y) (filter_map h (map f xs)) (h (f y)) all).1 (omega arith) at

-- one item more
drawn_next : {X Y Z : Type 0} (h : Y → Option Z) (f : X → Y) (xs : List X) (i : ℕ) (x : X) → i < length xs → x ≡ get_or xs i x → filter_map h (map f (take (i + 1) xs)) ≡ filter_map h (map f (take i xs)) ++ option_to_list (h (f x))
drawn_next {Z = Z} h f xs i x l at =
    ap (filter_map h) (map_more f xs i x l) ∙ filter_map-append h (map f (take i xs)) (f (get_or xs i x) ∷ [])
    ∙ ap (λ z. filter_map h (map f (take i xs)) ++ cons_option (h (f z)) []) (sym at) ∙ ap (λ l. filter_map h (map f (take i xs)) ++ l) (one (h (f x)))
  where
    one : (o : Option Z) → cons_option o [] ≡ option_to_list o
    one None = refl
    one (Some z) = refl

pub drawn_next_behind : {X Y Z : Type 0} (h : Y → Option Z) (f : X → Y) (xs : List X) (i : ℕ) (x : X) (front old new : List Z) → i < length xs → x ≡ get_or xs i x → old ≡ front ++ filter_map h (map f (take i xs)) → new ≡ old ++ option_to_list (h (f x))
    → new ≡ front ++ filter_map h (map f (take (i + 1) xs))
drawn_next_behind h f xs i x front old new l at o n =
    n ∙ ap (λ r. r ++ option_to_list (h (f x))) o ∙ append_assoc front (filter_map h (map f (take i xs))) (option_to_list (h (f x))) ∙ ap (λ r. front ++ r) (sym (drawn_next h f xs i x l at))

-- ---- the points of a row
abbrev keys : Structure → List ℕ
keys a = range_with_len 0 (key_width a)

pub unpivoted_is : (a : Structure) (r : Row) → is_point (columns_of a) r ≡ true → unpivoted (range_with_len 0 (key_width a)) (map (measure_in (columns_of a)) (measures_of a)) r ≡ unpivoted_points a r
unpivoted_is a r h =
    filter_map-map (named_row (keys a) r) (measure_in (columns_of a)) (measures_of a)
    ∙ filter_map_each (λ x. named_row (keys a) r (measure_in (columns_of a) x)) (λ x. named_point a r x.name (value_named (columns_of a) r x.name))
    (λ x. let v = value_named (columns_of a) r x.name in ap (λ k. cond (is_null v) None (Some (k ++ c.Text x.name ∷ v ∷ []))) (own_key a r h)) (measures_of a)

pub all_unpivoted : (d : DataSet) → AllByRecursion (λ r. is_point (columns_of d.structure) r ≡ true) d.points
    → flat_map (unpivoted (range_with_len 0 (key_width d.structure)) (map (measure_in (columns_of d.structure)) (measures_of d.structure))) d.points ≡ unpivot_of d
all_unpivoted d typed =
    let a = d.structure in
    let f = unpivoted (keys a) (map (measure_in (columns_of a)) (measures_of a)) in
    flat_map_same f (unpivoted_points a) d.points (all_more (λ r. is_point (columns_of a) r ≡ true) (λ r. f r ≡ unpivoted_points a r) (unpivoted_is a) d.points typed)

pub unpivoted_fit : (id m : List ℕ) (a s : Structure) (rows : List Row) (i : ℕ) (r : Row) → IsUnpivoted id m a s → IsDataSet a rows → i < length rows → r ≡ get_or rows i r
    → AllByRecursion (λ q. fits (table_columns s) q ≡ true) (unpivoted (range_with_len 0 (key_width a)) (map (measure_in (columns_of a)) (measures_of a)) r)
unpivoted_fit id m a s rows i r is h l at =
    let own = holds_at (λ x. is_point (columns_of a) x ≡ true) rows i r h.typed l at in
    let one : IsDataSet a (r ∷ []) = record { well_formed = h.well_formed; typed = (own, tt); distinct = refl } in
    let made = (unpivot_kept id m (with_points a (r ∷ [])) s is one).typed in
    let P : Row → Type 0 = λ q. is_point (columns_of s) q ≡ true in
    subst (AllByRecursion (λ q. fits (table_columns s) q ≡ true)) (sym (unpivoted_is a r own))
    (all_more P (λ q. fits (table_columns s) q ≡ true) (point_fits (columns_of s)) (unpivoted_points a r) (all_front P (unpivoted_points a r) [] made))
