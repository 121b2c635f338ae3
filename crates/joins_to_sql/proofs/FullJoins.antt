-- A full join: a left join of each operand with the table of identifiers.
use Rattle.std.proofs.Common.{◌≡◌, Bool, ◌<◌, ◌+◌, ◌^◌, ℕ, suc, true, List, [], ◌∷◌, ◌++◌, length, map, Option, None, Some, refl, ap, sym, ◌∙◌, subst, arith, append-nil}
use Rattle.std.specs.List.{AllByRecursion, filter, find, flat_map}
use Rattle.std.specs.Option.{option_to_list}
use Rattle.std.proofs.lemmas.List.{length-map}
use Rattle.std.proofs.lemmas.List.Concat.{flat_map_single}
use Rattle.std.proofs.lemmas.List.Folds.{flat_map-map}
use Rattle.vtl_lists.specs.Perm.{Perm, chain}
use Rattle.vtl_cell.specs.Row.{Row, same_row}
use Rattle.vtl_decimal.specs.Settings.{Settings}
use Rattle.vtl_lists.proofs.Perms.{Perm-map, Perm-same}
use Rattle.vtl_lists.proofs.Sorts.{AllByRecursion-map}
use Rattle.vtl_lists.proofs.Alls.{all_more}
use Rattle.vtl_rows.specs.Tables.{cells_at}
use Rattle.vtl_tree.specs.CompExp.{CompExp}
use Rattle.vtl_tree.specs.DataSet.{IsDataSet, is_point}
use Rattle.vtl_tree.specs.Environment.{DataSet}
use Rattle.vtl_tree.specs.Structure.{IsStructure, columns_of}
use Rattle.vtl_tree.specs.declared.structure.Component.{Component}
use Rattle.vtl_tree.specs.declared.structure.Structure.{Structure}
use Rattle.vtl_tuples.specs.Keys.{item_at}
use Rattle.vtl_tuples.proofs.Lists.{filter_each, flat_map_same, map-flat_map, map-map, map_each, map_same}
use Rattle.vtl_tree.specs.Columns.{common_identifiers, has_identifier, identifiers_of, measures_of, places_in}
use Rattle.vtl_meaning.specs.Agreement.{values_in}
use Rattle.vtl_meaning.specs.Joined.{Tuple, part_of, structures_of, tuple_at, tuple_point}
use Rattle.vtl_meaning.specs.Made.{AreAmong, AreFor, HasIdentifiers, attributes_of, component_kinds, kinds_of_all}
use Rattle.vtl_meaning.specs.Points.{point_of, with_points}
use Rattle.vtl_meaning.proofs.JoinAgreements.{covers, key_only, own_names}
use Rattle.vtl_meaning.proofs.JoinParts.{AreSets, found_is}
use Rattle.vtl_meaning.proofs.LookUps.{named_cells}
use Rattle.vtl_meaning.proofs.OwnColumns.{own_identifiers}
use Rattle.vtl_meaning.proofs.Places.{all_of_map, are_identifiers, identifiers_apart, point_length}
use Rattle.vtl_meaning.proofs.JoinPartners.{all_pass}
use Rattle.sql_tree.specs.Trees.{JoinTree, QueryTree, Text, on}
use Rattle.sql_tree.specs.declared.word_groups.JoinKind.{JoinKind}
use Rattle.sql_tree.specs.declared.word_groups.JoinKind.TheVariants as joining
use Rattle.sql_meaning.specs.Scripts.{Data}
use Rattle.expressions_to_sql.specs.ToSql.{Naming, to_sql}
use Rattle.selects_to_sql.specs.Writable.{HaveNames}
use Rattle.joins_to_sql.specs.FilteredJoins.{filtered_by}
use Rattle.joins_to_sql.specs.FullJoins.{full_query, key_structure}
use Rattle.joins_to_sql.specs.Joins.{Placed, all_tied as ties_of, chain_select, joined_exps, joins_on, many_at, placed_at, placed_from, tied_to, where_of, width_of}
use Rattle.selects_to_sql.specs.Queries.{alias_of, conjunction, select_of, source_as}
use Rattle.joins_to_sql.proofs.Chains.{AllTied, IsTied, agrees, extended_by, found}
use Rattle.joins_to_sql.proofs.ChainSelects.{chain_rows, shown_exactly}
use Rattle.selects_to_sql.proofs.Exact.{IsExactly}
use Rattle.selects_to_sql.proofs.Expressions.{Translates}
use Rattle.selects_to_sql.proofs.Givens.{AreGiven}
use Rattle.joins_to_sql.proofs.HeldOperands.{AreHeld, IsHeld}
use Rattle.selects_to_sql.proofs.Identifiers.{few_identifiers, identifiers_there}
use Rattle.joins_to_sql.proofs.JoinedColumns.{AllShown, ArePlaced, AreWell, first_placed, joined_plain, placed_all, plain_written}
use Rattle.joins_to_sql.proofs.JoinedRows.{IsFound, first_shown, founds, from_structures, joined_for, joined_values, left_extended, parts_found, shown_from, with_parts}
use Rattle.joins_to_sql.proofs.KeyColumns.{key_columns, key_identifiers, key_is_structure, keyed, keyed_cells}
use Rattle.joins_to_sql.proofs.ShownColumns.{joined_columns}
use Rattle.selects_to_sql.proofs.Loose.{all_loose}
use Rattle.selects_to_sql.proofs.OneOperand.{same_functions}
use Rattle.selects_to_sql.proofs.Selects.{IsTest}

-- the operands have the same identifiers
abbrev pub HaveSame : List Component → List Structure → Type 0
HaveSame ids ss = AllByRecursion (λ b. AreAmong (identifiers_of b) ids × AreAmong ids (identifiers_of b)) ss

-- ---- so each is tied by all of them

abbrev tied_query : Settings → Structure → List Structure → Structure → List Text → Text → QueryTree
tied_query p r ss s xs x =
    let t = key_structure r in
    chain_select p joining.Left (columns_of t) (λ a. identifiers_of r) ss (joined_exps (placed_at 0 t ∷ []) (placed_from (width_of t) ss)) s None x xs ∷ []

has_all : (r a : Structure) → AreAmong (identifiers_of r) (identifiers_of a) → common_identifiers a (key_structure r) ≡ identifiers_of r
has_all r a back =
    let ids = identifiers_of r in
    ap (filter (λ i. has_identifier a i.name)) (key_identifiers ids (are_identifiers r))
    ∙ all_pass (λ i. has_identifier a i.name) ids (all_more (λ i. has_identifier r i.name ≡ true) (λ i. has_identifier a i.name ≡ true) (λ i h. covers a r back i.name h) ids (own_names r))

same_joins : (p : Settings) (kind : JoinKind) (at : Naming) (first : List Component) (f g : Structure → List Component) (i n : ℕ) (ss : List Structure) (xs : List Text) → AllByRecursion (λ a. f a ≡ g a) ss
    → joins_on p kind at first f i (placed_from n ss) xs ≡ joins_on p kind at first g i (placed_from n ss) xs
same_joins p kind at first f g i n [] xs all = refl
same_joins p kind at first f g i n (a ∷ ss) [] all = refl
same_joins p kind at first f g i n (a ∷ ss) (x ∷ xs) all =
    ap (λ (ys : List Component). on kind (source_as (alias_of i) x) (to_sql p at (conjunction (map (tied_to first (placed_at n a)) ys))) ∷ joins_on p kind at first f (suc i) (placed_from (n + width_of a) ss) xs) all.0
    ∙ ap (λ (l : List JoinTree). on kind (source_as (alias_of i) x) (to_sql p at (ties_of first g (placed_at n a))) ∷ l) (same_joins p kind at first f g (suc i) (n + width_of a) ss xs all.1)

all_tied_by : (p : Settings) (r : Structure) (ss : List Structure) (s : Structure) (xs : List Text) (x : Text) → HaveSame (identifiers_of r) ss → full_query p r ss s xs x ≡ tied_query p r ss s xs x
all_tied_by p r ss s xs x among =
    let t = key_structure r in
    let at = many_at (columns_of t) ss in
    let es = joined_exps (placed_at 0 t ∷ []) (placed_from (width_of t) ss) in
    let ids = identifiers_of r in
    ap (λ (joins : List JoinTree). select_of p at es s (source_as (alias_of 0) x) joins None ∷ [])
    (same_joins p joining.Left at (columns_of t) (λ a. common_identifiers a t) (λ a. ids) 1 (width_of t) ss xs
    (all_more (λ a. AreAmong (identifiers_of a) ids × AreAmong ids (identifiers_of a)) (λ a. common_identifiers a t ≡ ids) (λ a h. has_all r a h.1) ss among))

module _ (p : Settings) (law : Translates p) (before : Data) (r : Structure) (w : IsStructure r) (keys : List Row) (x : Text) (here : IsHeld before x (with_points (key_structure r) keys)) (key_given : AreGiven (columns_of (key_structure r))) (typed : AllByRecursion (λ q. is_point (columns_of (key_structure r)) q ≡ true) keys) (ds : List DataSet) (xs : List Text) (s : Structure) (held : AreHeld before xs ds) (sets : AreSets ds) (named : AllByRecursion (λ d. HaveNames (columns_of d.structure)) ds) (few : 1 + length ds < 2 ^ 64) (given : AreGiven (columns_of s)) (i : HasIdentifiers s (identifiers_of r)) (among : HaveSame (identifiers_of r) (structures_of ds)) (measures : component_kinds (measures_of s) ≡ kinds_of_all measures_of (structures_of ds)) (attributes : component_kinds (attributes_of s) ≡ kinds_of_all attributes_of (structures_of ds)) where
  abbrev t : Structure
  t = key_structure r

  abbrev first : List Component
  first = columns_of t

  abbrev ids : List Component
  ids = identifiers_of r

  abbrev f : Structure → List Component
  f a = ids

  abbrev ss : List Structure
  ss = structures_of ds

  abbrev ws : List ℕ
  ws = map width_of ss

  few_sources : length (length first ∷ ws) < 2 ^ 64
  few_sources =
      let size = length-map ss width_of in
      let many = length-map ds (λ d. d.structure) in
      omega (arith, few, size, many)

  well : IsStructure t
  well = key_is_structure r w

  own_ids : identifiers_of t ≡ ids
  own_ids = key_identifiers ids (are_identifiers r)

  abbrev lead : List Placed
  lead = placed_at 0 t ∷ []

  abbrev all : List Placed
  all = placed_from (width_of t) ss

  abbrev es : List CompExp
  es = joined_exps lead all

  -- the identifiers of a row of the table
  abbrev pub key_of_row : Row → Row
  key_of_row q = cells_at (places_in first ids) q

  abbrev found_at : Row → DataSet → Option Row
  found_at q d = found p law before first f ws few_sources joining.Left tt d q

  abbrev looked : Row → DataSet → Option Row
  looked q d = item_at same_row (values_in d.structure ids) d.points (key_of_row q)

  abbrev test : DataSet → Row → Row → Bool
  test d q y = agrees p law before first f ws few_sources joining.Left tt d q y

  same_tests : (d : DataSet) (q y : Row) → test d q y ≡ same_row (values_in d.structure ids y) (key_of_row q)
  same_tests d q y = ap (λ z. same_row z (key_of_row q)) (named_cells (columns_of d.structure) ids y)

  found_same : (q : Row) (d : DataSet) → found_at q d ≡ looked q d
  found_same q d = ap (λ z. find z d.points) (same_functions (test d q) (λ y. same_row (values_in d.structure ids y) (key_of_row q)) (same_tests d q))

  tied_one : (d : DataSet) → IsDataSet d.structure d.points → HaveNames (columns_of d.structure) → AreAmong (identifiers_of d.structure) ids → AreAmong ids (identifiers_of d.structure) → IsTied p law before first f ws few_sources joining.Left tt d
  tied_one d h n inside back = record {
    set = h;
    named = n;
    ours = identifiers_there t well ids (subst (λ z. AreAmong z (identifiers_of t)) own_ids (own_identifiers t well));
    theirs = identifiers_there d.structure h.well_formed ids back;
    counted = few_identifiers r w;
    only = λ q h_lead.
        filter_each (test d q) (λ y. same_row (values_in d.structure ids y) (key_of_row q)) (same_tests d q) d.points
        ∙ key_only r d (key_of_row q) (covers r d.structure inside) h
        ∙ ap option_to_list (sym (found_same q d));
  }

  all_tied : (es : List DataSet) → AreSets es → AllByRecursion (λ d. HaveNames (columns_of d.structure)) es → HaveSame ids (structures_of es) → AllTied p law before first f ws few_sources joining.Left tt es
  all_tied [] h n g = tt
  all_tied (d ∷ es) h n g = (tied_one d h.0 n.0 g.0.0 g.0.1, all_tied es h.1 n.1 g.1)

  -- ---- the select

  abbrev columns : List Component
  columns = first ++ flat_map (λ d. columns_of d.structure) ds

  placed : ArePlaced columns lead × ArePlaced columns all
  placed =
      let same : first ++ flat_map columns_of ss ≡ columns = ap (λ l. first ++ l) (flat_map-map columns_of (λ d. d.structure) ds) in
      subst (λ ys. ArePlaced ys lead × ArePlaced ys all) same ((first_placed t (flat_map columns_of ss), tt), placed_all first (width_of t) ss refl)

  made : AreFor p (all_loose columns) es (columns_of s)
  made =
      let same = from_structures (width_of t) ss in
      let wells : AreWell all = all_of_map (λ o. o.structure) IsStructure all (subst (AllByRecursion IsStructure) (sym same) (AllByRecursion-map (λ d. d.structure) IsStructure ds (all_more (λ d. IsDataSet d.structure d.points) (λ d. IsStructure d.structure) (λ d h. h.well_formed) ds sets))) in
      joined_for p columns s lead all (well, tt) wells placed.0 placed.1 (i.1 ∙ ap component_kinds (sym own_ids) ∙ sym (append-nil (component_kinds (identifiers_of t))))
      (measures ∙ ap (kinds_of_all measures_of) (sym same)) (attributes ∙ ap (kinds_of_all attributes_of) (sym same))

  abbrev rows : List Row
  rows = chain_rows p law before (with_points t keys) well key_given.named typed x here f joining.Left tt ds xs few_sources held

  given_rows : (condition : Option CompExp) → IsTest p (columns_of s) condition → IsExactly p before (filtered_by p condition (tied_query p r ss s xs x)) s (where_of p condition (map (point_of p es) rows))
  given_rows condition asked =
      shown_exactly p law before (with_points t keys) well key_given.named typed x here f joining.Left tt ds xs few_sources held (all_tied ds sets named among) es s made (plain_written p es (joined_plain p lead all)) given (joined_columns lead all) condition asked

  -- ---- its rows

  abbrev row_of : Row → Row
  row_of q = with_parts q (founds (found_at q) ds)

  abbrev tuple : Row → Tuple
  tuple q = tuple_at ids ds (key_of_row q)

  are_found : (q : Row) → AllByRecursion (IsFound (found_at q)) ds
  are_found q =
      all_more (λ d. IsDataSet d.structure d.points) (IsFound (found_at q))
      (λ d h. record { well = h.well_formed; typed = λ y e. found_is (λ z. is_point (columns_of d.structure) z ≡ true) (test d q) d.points y h.typed e }) ds sets

  row_value : (q : Row) → is_point first q ≡ true → point_of p es (row_of q) ≡ tuple_point (tuple q)
  row_value q h =
      let parts : parts_found (found_at q) ds ≡ (tuple q).parts = map_each (λ d. part_of d (found_at q d)) (λ d. part_of d (looked q d)) (λ d. ap (part_of d) (found_same q d)) ds in
      joined_values p (row_of q) lead all (record { structure = t; point = Some q } ∷ []) (tuple q) (refl, well, first_shown t q (founds (found_at q) ds) h, tt)
      (subst (AllShown (row_of q) all) parts (shown_from (found_at q) ds q (width_of t) (sym (point_length first q h)) (are_found q)))
      (append-nil (values_in t (identifiers_of t) q) ∙ ap (λ z. values_in t z q) own_ids ∙ sym (named_cells first ids q))

  abbrev given_by : Row → List Row
  given_by q = map (point_of p es) (extended_by joining.Left (founds (found_at q) ds) q)

  one_row : (q : Row) → is_point first q ≡ true → given_by q ≡ tuple_point (tuple q) ∷ []
  one_row q h = ap (map (point_of p es)) (left_extended (founds (found_at q) ds) q) ∙ ap (λ z. z ∷ []) (row_value q h)

  row_values : map (point_of p es) rows ≡ map (λ q. tuple_point (tuple q)) keys
  row_values =
      map-flat_map (point_of p es) (λ q. extended_by joining.Left (founds (found_at q) ds) q) keys
      ∙ flat_map_same given_by (λ q. tuple_point (tuple q) ∷ []) keys (all_more (λ q. is_point first q ≡ true) (λ q. given_by q ≡ tuple_point (tuple q) ∷ []) one_row keys typed)
      ∙ flat_map_single (λ q. tuple_point (tuple q)) keys

  pub full_exactly : (condition : Option CompExp) → IsTest p (columns_of s) condition → IsExactly p before (filtered_by p condition (full_query p r ss s xs x)) s (where_of p condition (map (λ q. tuple_point (tuple q)) keys))
  full_exactly condition asked =
      subst (λ q. IsExactly p before (filtered_by p condition q) s (where_of p condition (map (λ q. tuple_point (tuple q)) keys))) (sym (all_tied_by p r ss s xs x among))
      (subst (λ l. IsExactly p before (filtered_by p condition (tied_query p r ss s xs x)) s (where_of p condition l)) row_values (given_rows condition asked))

  -- the rows of the table are these tuples in any order
  pub full_turned : (ks : List Row) → AllByRecursion (λ k. is_point ids k ≡ true) ks → Perm keys (map (keyed ids) ks) → Perm (map (λ q. tuple_point (tuple q)) keys) (map (λ k. tuple_point (tuple_at ids ds k)) ks)
  full_turned ks are same =
      chain (Perm-map (λ q. tuple_point (tuple q)) same)
      (Perm-same (map (λ q. tuple_point (tuple q)) (map (keyed ids) ks)) (map (λ k. tuple_point (tuple_at ids ds k)) ks)
      (map-map (λ q. tuple_point (tuple q)) (keyed ids) ks
      ∙ map_same (λ k. tuple_point (tuple (keyed ids k))) (λ k. tuple_point (tuple_at ids ds k)) ks
      (all_more (λ k. is_point ids k ≡ true) (λ k. tuple_point (tuple (keyed ids k)) ≡ tuple_point (tuple_at ids ds k)) (λ k h. ap (λ z. tuple_point (tuple_at ids ds z)) (key_back k h)) ks are)))
    where
      key_back : (k : Row) → is_point ids k ≡ true → key_of_row (keyed ids k) ≡ k
      key_back k h = ap (λ l. cells_at (places_in l ids) (keyed ids k)) (key_columns ids (are_identifiers r)) ∙ keyed_cells ids k (identifiers_apart r w) h
