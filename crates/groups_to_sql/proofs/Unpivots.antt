-- `unpivot` is a union of selects, one for each measure.
use Rattle.std.proofs.Common.{◌≡◌, ℕ, Bool, true, false, not, cond, List, [], ◌∷◌, ◌++◌, map, Some, None, Ok, refl, ap, sym, ◌∙◌, subst, arith, append_assoc}
use Rattle.std.specs.Prelude.{is_some}
use Rattle.std.specs.List.{AllByRecursion, filter, flat_map}
use Rattle.std.specs.Option.{option_to_list}
use Rattle.std.proofs.lemmas.List.{map-append}
use Rattle.vtl_cell.specs.Kinds.{is_null}
use Rattle.vtl_cell.specs.Outcome.{faults_by, unless}
use Rattle.vtl_lists.specs.Perm.{Perm, chain}
use Rattle.vtl_cell.specs.Row.{Row, column_of}
use Rattle.vtl_decimal.specs.Settings.{Settings}
use Rattle.vtl_cell.specs.declared.cell.Cell.{Cell}
use Rattle.vtl_cell.specs.declared.cell.Cell.TheVariants as c
use Rattle.vtl_cell.specs.declared.kind.Kind.TheVariants as k
use Rattle.vtl_lists.proofs.Perms.{Perm-same}
use Rattle.vtl_lists.proofs.Sorts.{AllByRecursion-filter}
use Rattle.vtl_lists.proofs.Alls.{all_back, all_both, all_more}
use Rattle.vtl_cell.specs.Literals.{is_null_kind}
use Rattle.vtl_tree.specs.DataSet.{IsDataSet}
use Rattle.vtl_tree.specs.Structure.{columns_of}
use Rattle.vtl_tree.specs.declared.structure.Component.{Component}
use Rattle.vtl_tree.specs.declared.structure.Structure.{Structure}
use Rattle.vtl_tuples.proofs.Lists.{flat_map_each, flat_map_turned, map_same}
use Rattle.vtl_tree.specs.ClauseShapes.{first_kind, names_column}
use Rattle.vtl_meaning.specs.Agreement.{key_of}
use Rattle.vtl_tree.specs.Columns.{columns_named, identifiers_of, measures_of, others_of, place_of}
use Rattle.vtl_meaning.specs.LookUps.{value_named, values_named}
use Rattle.vtl_meaning.specs.Made.{AreAmong, IsColumnAt, IsUnpivoted}
use Rattle.vtl_meaning.specs.Points.{with_points}
use Rattle.vtl_meaning.specs.Turned.{named_point, unpivot_of, unpivoted_points}
use Rattle.vtl_meaning.proofs.Agreements.{own_values}
use Rattle.vtl_meaning.proofs.OwnColumns.{among_front, columns_apart, own_identifiers, own_measures}
use Rattle.vtl_meaning.proofs.Places.{columns_split}
use Rattle.vtl_meaning.proofs.TurnedKept.{filter_map_drawn}
use Rattle.sql_tree.specs.Formed.{IsName}
use Rattle.sql_tree.specs.Trees.{Text}
use Rattle.sql_check_parts.specs.Scopes.{add_source}
use Rattle.sql_meaning.specs.From.{condition_fault, kept, source_rows}
use Rattle.sql_meaning.specs.Scripts.{Data, base_of}
use Rattle.sql_meaning.specs.Values.{at_rows, null_test, value as sql_value}
use Rattle.selects_to_sql.specs.Writable.{HaveNames}
use Rattle.selects_to_sql.specs.Means.{Means}
use Rattle.selects_to_sql.specs.Queries.{all_to_sql, first_alias, items_as, of_one, source_as}
use Rattle.selects_to_sql.specs.Runs.{IsTable}
use Rattle.groups_to_sql.specs.Turned.{is_filled, text_constant, unpivot_query, unpivoted_items, unpivoted_select}
use Rattle.selects_to_sql.specs.Items.{first_column}
use Rattle.selects_to_sql.proofs.Exact.{means_by}
use Rattle.selects_to_sql.proofs.Expressions.{Translates}
use Rattle.selects_to_sql.proofs.Givens.{AreGiven, kinds_in}
use Rattle.groups_to_sql.proofs.ItemLists.{exactly_kept, items_behind, items_like, text_item}
use Rattle.selects_to_sql.proofs.OneOperand.{columns_for, columns_written, known_there, one_from, own_names, rows_there}
use Rattle.selects_to_sql.proofs.SelectItems.{AreItems, GivesRows, Valued, each_by, gives_same, select_gives, values_at, values_fault}
use Rattle.selects_to_sql.proofs.Selects.{IsPointOf, expression_items, valued}
use Rattle.selects_to_sql.proofs.Sources.{one_formed, one_scope}
use Rattle.selects_to_sql.proofs.Unions.{AllGive, union_there}

-- what is made of each item that passes a test
passing : {X Y : Type 0} (p : X → Bool) (f : X → Y) (xs : List X) → map f (filter (λ x. not (p x)) xs) ≡ flat_map (λ x. option_to_list (cond (p x) None (Some (f x)))) xs
passing p f [] = refl
passing {X} {Y} p f (x ∷ xs) = go (p x) (passing p f xs)
  where
    made : X → List Y
    made y = option_to_list (cond (p y) None (Some (f y)))

    go : (b : Bool) → map f (filter (λ y. not (p y)) xs) ≡ flat_map made xs → map f (cond (not b) (x ∷ filter (λ y. not (p y)) xs) (filter (λ y. not (p y)) xs)) ≡ option_to_list (cond b None (Some (f x))) ++ flat_map made xs
    go true ih = ih
    go false ih = ap (λ l. f x ∷ l) ih

-- IS NOT NULL
not_null : (p : Settings) (v : Cell) → null_test p true (Ok v) ≡ Ok (c.Bool (not (is_null v)))
not_null p c.Null = refl
not_null p (c.Bool x) = refl
not_null p (c.Int x) = refl
not_null p (c.Num x) = refl
not_null p (c.Text x) = refl
not_null p (c.Day x) = refl
not_null p (c.Period x) = refl

-- a null kind stands at no column
none_null : (ys : List Component) → kinds_in ys ≡ k.Null ∷ [] → AllByRecursion (λ y. is_null_kind y.kind ≡ false) ys → ⊥
none_null [] e h = cc
none_null (y ∷ ys) e h =
    let kind : y.kind ≡ k.Null = cc in
    let told : is_null_kind k.Null ≡ false = subst (λ q. is_null_kind q ≡ false) kind h.0 in
    cc

module _ (p : Settings) (law : Translates p) (before : Data) (name : Text) (a s : Structure) (d : List Row) (there : IsTable before name a d) (named : IsName name) (na : HaveNames (columns_of a)) (set : IsDataSet a d) (id m : List ℕ) (i : IsUnpivoted id m a s) (given : AreGiven (columns_of s)) where
  abbrev xs : List Component
  xs = columns_of a

  abbrev ids : List Component
  ids = identifiers_of a

  abbrev P : Row → Type 0
  P = IsPointOf xs

  abbrev here : Row → Component → Cell
  here r x = value_named xs r x.name

  -- the point of a measure
  abbrev point : Component → Row → Row
  point x r = key_of a r ++ c.Text x.name ∷ here r x ∷ []

  abbrev is_empty : Component → Row → Bool
  is_empty x r = is_null (here r x)

  abbrev rows_of : Component → List Row
  rows_of x = map (point x) (filter (λ r. not (is_empty x r)) d)

  -- ---- the items of a measure

  abbrev last : Component → List Valued
  last x = (λ r. Ok (c.Text x.name)) ∷ (λ r. Ok (here r x)) ∷ []

  abbrev all : Component → List Valued
  all x = valued p (columns_named xs ids) ++ last x

  kinds_same : (x : Component) → x.kind ≡ first_kind (measures_of a) → kinds_in (ids ++ names_column id (measures_of a) ∷ x ∷ []) ≡ kinds_in (columns_of s)
  kinds_same x h =
      map-append (λ y. y.kind) ids (names_column id (measures_of a) ∷ x ∷ [])
      ∙ ap (λ q. kinds_in ids ++ k.Text ∷ q ∷ []) h
      ∙ sym (append_assoc (kinds_in ids) (k.Text ∷ []) (first_kind (measures_of a) ∷ []))
      ∙ ap (λ l. l ++ first_kind (measures_of a) ∷ []) (sym (map-append (λ y. y.kind) ids (names_column id (measures_of a) ∷ [])))
      ∙ ap (λ l. l ++ first_kind (measures_of a) ∷ []) (sym i.identifiers.1)
      ∙ ap (λ l. kinds_in (identifiers_of s) ++ l) (sym i.measured)
      ∙ sym (map-append (λ y. y.kind) (identifiers_of s) (others_of s))
      ∙ ap kinds_in (sym (columns_split s))

  module _ (x : Component) (at : IsColumnAt (place_of x.name xs) x.name x.kind xs) (kind : x.kind ≡ first_kind (measures_of a)) where
    items : AreItems (base_of p before) (one_scope xs) P (all x) (unpivoted_items p a x) (columns_of s)
    items =
        let b = base_of p before in
        let names = own_names p law before name a d there named set.well_formed na in
        let apart = columns_apart a set.well_formed in
        let columns : (ys : List Component) → AreAmong ys xs → AreItems b (one_scope xs) P (valued p (columns_named xs ys)) (all_to_sql p of_one (columns_named xs ys)) ys =
        λ ys h. expression_items p law of_one xs (one_formed xs na) (one_scope xs) names before (columns_named xs ys) ys (columns_for p xs ys apart h) (columns_written xs ys) in
        items_like b (one_scope xs) P (all x) (unpivoted_items p a x) (ids ++ names_column id (measures_of a) ∷ x ∷ []) (columns_of s) (kinds_same x kind)
        (items_behind b (one_scope xs) P (valued p (columns_named xs ids)) (last x) (all_to_sql p of_one (columns_named xs ids)) (text_constant x.name ∷ first_column x.name ∷ []) ids (names_column id (measures_of a) ∷ x ∷ [])
        (columns ids (subst (λ zs. AreAmong ids zs) (sym (columns_split a)) (among_front ids ids (others_of a) (own_identifiers a set.well_formed))))
        (text_item b (one_scope xs) P x.name (names_column id (measures_of a)) refl, columns (x ∷ []) (at, tt)))

    filled_value : (r : Row) → P r → sql_value (at_rows (base_of p before) (one_scope xs)) (is_filled x.name) r [] ≡ Ok (c.Bool (not (is_empty x r)))
    filled_value r h = ap (λ n. null_test p true (Ok (column_of n r))) ((own_names p law before name a d there named set.well_formed na).placed (place_of x.name xs) x.name x.kind at) ∙ not_null p (here r x)

    kept_rows : source_rows (base_of p before) (unpivoted_select p a s name x) ≡ Ok (filter (λ r. not (is_empty x r)) d)
    kept_rows =
        ap (λ t. unless (condition_fault (at_rows (base_of p before) t) (Some (is_filled x.name)) ((base_of p before).rows name)) (kept (at_rows (base_of p before) t) (Some (is_filled x.name)) ((base_of p before).rows name))) (ap (add_source [] first_alias) (known_there p law before name a d there named set.well_formed na))
        ∙ ap (λ l. unless (condition_fault (at_rows (base_of p before) (one_scope xs)) (Some (is_filled x.name)) l) (kept (at_rows (base_of p before) (one_scope xs)) (Some (is_filled x.name)) l)) (rows_there p law before name a d there named set.well_formed na)
        ∙ exactly_kept P (λ r. sql_value (at_rows (base_of p before) (one_scope xs)) (is_filled x.name) r []) (λ r. not (is_empty x r)) d filled_value set.typed

    -- no item has a fault
    quiet : (ys : List Component) (r : Row) → values_fault (valued p (columns_named xs ys) ++ last x) r ≡ None
    quiet [] r = refl
    quiet (y ∷ ys) r = quiet ys r

    all_quiet : (rows : List Row) → faults_by (values_fault (all x)) rows ≡ None
    all_quiet [] = refl
    all_quiet (r ∷ rows) = rw (quiet ids r) (all_quiet rows)

    cells : (ys : List Component) (r : Row) → values_at (valued p (columns_named xs ys) ++ last x) r ≡ values_named xs ys r ++ c.Text x.name ∷ here r x ∷ []
    cells [] r = refl
    cells (y ∷ ys) r = ap (λ l. value_named xs r y.name ∷ l) (cells ys r)

    point_is : (r : Row) → P r → values_at (all x) r ≡ point x r
    point_is r h = cells ids r ∙ ap (λ l. l ++ c.Text x.name ∷ here r x ∷ []) (own_values a r set.well_formed h)

    rows_are : (rows : List Row) → AllByRecursion P rows → each_by (all x) rows ≡ Ok (map (point x) rows)
    rows_are rows h = ap (λ f. unless f (map (values_at (all x)) rows)) (all_quiet rows) ∙ ap Ok (map_same (values_at (all x)) (point x) rows (all_more P (λ r. values_at (all x) r ≡ point x r) point_is rows h))

    measure_gives : GivesRows p before s (unpivoted_select p a s name x) (Ok (rows_of x))
    measure_gives =
        let left = filter (λ r. not (is_empty x r)) d in
        let typed = AllByRecursion-filter P (λ r. not (is_empty x r)) d set.typed in
        let names = own_names p law before name a d there named set.well_formed na in
        gives_same p before s (unpivoted_select p a s name x) (each_by (all x) left) (Ok (rows_of x)) (rows_are left typed)
        (select_gives p before (one_scope xs) P (all x) (unpivoted_items p a x) s items given (source_as first_alias name) [] (Some (is_filled x.name))
        (one_from p law before name a d there named set.well_formed na (items_as (unpivoted_items p a x) (columns_of s)) (Some (is_filled x.name)) ((ap is_some (names.known (place_of x.name xs) x.name x.kind at), refl), refl) (one_formed xs na (place_of x.name xs) x.name x.kind at, omega arith))
        (Ok left) kept_rows typed)

  -- ---- all measures

  all_give : (ms : List Component) → AllByRecursion (λ x. GivesRows p before s (unpivoted_select p a s name x) (Ok (rows_of x))) ms → AllGive p before s (map (unpivoted_select p a s name) ms) (map (λ e. Ok e) (map rows_of ms))
  all_give [] h = tt
  all_give (x ∷ ms) h = (h.0, all_give ms h.1)

  walked : (ms : List Component) → flat_map (λ e. e) (map rows_of ms) ≡ flat_map (λ x. flat_map (λ r. option_to_list (named_point a r x.name (here r x))) d) ms
  walked [] = refl
  walked (x ∷ ms) = ap (λ l. l ++ flat_map (λ e. e) (map rows_of ms)) (passing (is_empty x) (point x) d) ∙ ap (λ l. flat_map (λ r. option_to_list (named_point a r x.name (here r x))) d ++ l) (walked ms)

  turned : Perm (flat_map (λ e. e) (map rows_of (measures_of a))) (unpivot_of (with_points a d))
  turned =
      let drawn : Row → Component → List Row = λ r x. option_to_list (named_point a r x.name (here r x)) in
      chain (Perm-same _ _ (walked (measures_of a)))
      (chain (flat_map_turned (λ x r. drawn r x) (measures_of a) d)
      (Perm-same _ _ (sym (flat_map_each (unpivoted_points a) (λ r. flat_map (drawn r) (measures_of a)) (λ r. filter_map_drawn (λ x. named_point a r x.name (here r x)) (measures_of a)) d))))

  pub unpivot_means : Means p before (unpivot_query p a s name) s (Ok (unpivot_of (with_points a d)))
  unpivot_means = go (measures_of a) refl (all_both (λ x. IsColumnAt (place_of x.name xs) x.name x.kind xs) (λ x. x.kind ≡ first_kind (measures_of a)) (λ x. GivesRows p before s (unpivoted_select p a s name x) (Ok (rows_of x))) measure_gives (measures_of a) (own_measures a set.well_formed) i.alike)
    where
      go : (ms : List Component) → measures_of a ≡ ms → AllByRecursion (λ x. GivesRows p before s (unpivoted_select p a s name x) (Ok (rows_of x))) ms → Means p before (map (unpivoted_select p a s name) ms) s (Ok (unpivot_of (with_points a d)))
      go [] e h =
          let kinds = i.measured ∙ ap (λ l. first_kind l ∷ []) e in
          absurd (none_null (others_of s) kinds (all_back (λ y. is_null_kind y.kind ≡ false) (identifiers_of s) (others_of s) (subst (AllByRecursion (λ y. is_null_kind y.kind ≡ false)) (columns_split s) given.kinds)))
      go (x ∷ ms) e h =
          means_by p before (map (unpivoted_select p a s name) (x ∷ ms)) s (Ok (flat_map (λ q. q) (map rows_of (x ∷ ms)))) (Ok (unpivot_of (with_points a d)))
          (subst (λ l. Perm (flat_map (λ q. q) (map rows_of l)) (unpivot_of (with_points a d))) e turned)
          (union_there p before s given (unpivoted_select p a s name x) (map (unpivoted_select p a s name) ms) (rows_of x) (map rows_of ms) (all_give (x ∷ ms) h))
