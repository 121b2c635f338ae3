-- Inner and left joins: a select over the reference, with which each other operand is joined on the identifiers that both have.
use Rattle.std.proofs.Common.{◌≡◌, ◌≤◌, ◌<◌, ◌+◌, ◌^◌, ◌&&◌, ℕ, zero, suc, Bool, true, false, cond, List, [], ◌∷◌, ◌++◌, length, map, Option, Some, None, refl, ap, sym, ◌∙◌, subst, arith, append-nil}
use Rattle.std.specs.Prelude.{is_some, slice_get}
use Rattle.std.specs.List.{AllByRecursion, find, flat_map, list_all}
use Rattle.std.specs.Option.{option_to_list}
use Rattle.std.proofs.lemmas.List.{length-map}
use Rattle.std.proofs.lemmas.List.Concat.{flat_map_single}
use Rattle.std.proofs.lemmas.List.Folds.{flat_map-map}
use Rattle.vtl_cell.specs.Row.{Row, same_row}
use Rattle.vtl_decimal.specs.Settings.{Settings}
use Rattle.vtl_lists.proofs.Sorts.{AllByRecursion-filter, AllByRecursion-map}
use Rattle.vtl_lists.proofs.Alls.{all_both, all_more}
use Rattle.vtl_lists.proofs.Filters.{filter_no_more as fewer}
use Rattle.vtl_rows.specs.Tables.{cells_at}
use Rattle.vtl_tree.specs.CompExp.{CompExp}
use Rattle.vtl_tree.specs.DataSet.{IsDataSet, is_point}
use Rattle.vtl_tree.specs.Environment.{DataSet}
use Rattle.vtl_tree.specs.Structure.{IsStructure, columns_of}
use Rattle.vtl_tree.specs.declared.structure.Component.{Component}
use Rattle.vtl_tree.specs.declared.structure.Structure.{Structure}
use Rattle.vtl_tuples.proofs.Lists.{filter_each, flat_map_same, map-flat_map, map-map, map_each}
use Rattle.vtl_tree.specs.Columns.{common_identifiers, has_identifier, identifiers_of, measures_of, place_of, places_in}
use Rattle.vtl_meaning.specs.Agreement.{agree_in, first_agreeing, values_in}
use Rattle.vtl_meaning.specs.Joined.{Tuple, inner_tuples, is_whole, left_tuples, part_of, structures_of, tuple_beside, tuple_point}
use Rattle.vtl_meaning.specs.Made.{AreAmong, AreFor, HasIdentifiers, IsColumnAt, attributes_of, component_kinds, kinds_of_all}
use Rattle.vtl_meaning.specs.Points.{point_of}
use Rattle.vtl_meaning.proofs.Agreements.{own_values}
use Rattle.vtl_meaning.proofs.JoinAgreements.{agreeing_only, agreeing_own, covers}
use Rattle.vtl_meaning.proofs.JoinKept.{made_of_passing}
use Rattle.vtl_meaning.proofs.JoinParts.{AreSets, found_is}
use Rattle.vtl_meaning.proofs.LookUps.{named_cells}
use Rattle.vtl_meaning.proofs.OwnColumns.{own_identifiers}
use Rattle.vtl_meaning.proofs.Places.{all_of_map, point_length}
use Rattle.sql_tree.specs.Trees.{Text}
use Rattle.sql_tree.specs.declared.word_groups.JoinKind.{JoinKind}
use Rattle.sql_tree.specs.declared.word_groups.JoinKind.TheVariants as joining
use Rattle.sql_meaning.specs.Scripts.{Data}
use Rattle.selects_to_sql.specs.Writable.{HaveNames}
use Rattle.joins_to_sql.specs.FilteredJoins.{filtered_by}
use Rattle.joins_to_sql.specs.Joins.{Placed, chain_select, from_reference, joined_exps, placed_around, placed_at, reference_query, where_of, width_of, without}
use Rattle.joins_to_sql.proofs.Chains.{AllTied, IsOneSided, IsTied, agrees, extended_by, found}
use Rattle.joins_to_sql.proofs.ChainSelects.{chain_rows, shown_exactly}
use Rattle.selects_to_sql.proofs.Exact.{IsExactly}
use Rattle.selects_to_sql.proofs.Expressions.{Translates}
use Rattle.selects_to_sql.proofs.Givens.{AreGiven}
use Rattle.joins_to_sql.proofs.HeldOperands.{AreHeld, IsHeld}
use Rattle.selects_to_sql.proofs.Identifiers.{few_identifiers, identifiers_there}
use Rattle.joins_to_sql.proofs.JoinedColumns.{AllShown, ArePlaced, AreWell, Shows, around_all, first_placed, joined_plain, plain_written}
use Rattle.joins_to_sql.proofs.JoinedRows.{IsFound, all_there, around_structures, first_shown, founds, inner_extended, joined_for, joined_values, left_extended, parts_found, shown_around, with_parts}
use Rattle.joins_to_sql.proofs.ShownColumns.{joined_columns}
use Rattle.selects_to_sql.proofs.Loose.{all_loose}
use Rattle.selects_to_sql.proofs.OneOperand.{same_functions}
use Rattle.selects_to_sql.proofs.Selects.{IsTest}

-- ---- all but one of several

pub without_map : {X Y : Type 0} (g : X → Y) (i : ℕ) (xs : List X) → map g (without i xs) ≡ without i (map g xs)
without_map g i [] = refl
without_map g zero (x ∷ xs) = refl
without_map g (suc i) (x ∷ xs) = ap (λ l. g x ∷ l) (without_map g i xs)

pub all_without : {X : Type 0} (P : X → Type 0) (i : ℕ) (xs : List X) → AllByRecursion P xs → AllByRecursion P (without i xs)
all_without P i [] all = tt
all_without P zero (x ∷ xs) all = all.1
all_without P (suc i) (x ∷ xs) all = (all.0, all_without P i xs all.1)

pub one_of_all : {X : Type 0} (P : X → Type 0) (i : ℕ) (xs : List X) (x : X) → slice_get xs i ≡ Some x → AllByRecursion P xs → P x
one_of_all P i [] x e all = cc
one_of_all P zero (y ∷ xs) x e all = let same : y ≡ x = cc in subst P same all.0
one_of_all P (suc i) (y ∷ xs) x e all = one_of_all P i xs x e all.1

-- a test that the one passes
all_but : {X : Type 0} (t : X → Bool) (i : ℕ) (xs : List X) (x : X) → slice_get xs i ≡ Some x → t x ≡ true → list_all t xs ≡ list_all t (without i xs)
all_but t i [] x e h = cc
all_but t zero (y ∷ xs) x e h = let same : x ≡ y = cc in ap (λ b. b && list_all t xs) (ap t (sym same) ∙ h)
all_but t (suc i) (y ∷ xs) x e h = ap (λ b. t y && b) (all_but t i xs x e h)

held_without : (now : Data) (i : ℕ) (xs : List Text) (ds : List DataSet) → AreHeld now xs ds → AreHeld now (without i xs) (without i ds)
held_without now i [] [] h = tt
held_without now i [] (d ∷ ds) h = absurd h
held_without now i (x ∷ xs) [] h = absurd h
held_without now zero (x ∷ xs) (d ∷ ds) h = h.1
held_without now (suc i) (x ∷ xs) (d ∷ ds) h = (h.0, held_without now i xs ds h.1)

held_at : (now : Data) (i : ℕ) (xs : List Text) (ds : List DataSet) (r : DataSet) → AreHeld now xs ds → slice_get ds i ≡ Some r → (x : Text) × (slice_get xs i ≡ Some x) × IsHeld now x r
held_at now i [] [] r h e = cc
held_at now i [] (d ∷ ds) r h e = absurd h
held_at now i (x ∷ xs) [] r h e = absurd h
held_at now zero (x ∷ xs) (d ∷ ds) r h e = let same : d ≡ r = cc in (x, refl, subst (IsHeld now x) same h.0)
held_at now (suc i) (x ∷ xs) (d ∷ ds) r h e = held_at now i xs ds r h.1 e

slice_map : {X Y : Type 0} (g : X → Y) (i : ℕ) (xs : List X) (x : X) → slice_get xs i ≡ Some x → slice_get (map g xs) i ≡ Some (g x)
slice_map g i [] x e = cc
slice_map g zero (y ∷ xs) x e = let same : y ≡ x = cc in ap (λ z. Some (g z)) same
slice_map g (suc i) (y ∷ xs) x e = slice_map g i xs x e

fewer_without : {X : Type 0} (i : ℕ) (xs : List X) → length (without i xs) ≤ length xs
fewer_without i [] = omega arith
fewer_without zero (x ∷ xs) = omega arith
fewer_without (suc i) (x ∷ xs) = let h = fewer_without i xs in omega (arith, h)

all_mapped : {X Y : Type 0} (t : Y → Bool) (g : X → Y) (xs : List X) → list_all t (map g xs) ≡ list_all (λ x. t (g x)) xs
all_mapped t g [] = refl
all_mapped t g (x ∷ xs) = ap (λ b. t (g x) && b) (all_mapped t g xs)

-- ---- the reference

-- what typing says of a joined set whose reference is this one
pub record IsReferred (s : Structure) (a : Structure) (ss : List Structure) : Type 0 where
  pub identifiers : HasIdentifiers s (identifiers_of a)
  pub measures : component_kinds (measures_of s) ≡ kinds_of_all measures_of ss
  pub attributes : component_kinds (attributes_of s) ≡ kinds_of_all attributes_of ss
  pub among : AllByRecursion (λ b. AreAmong (identifiers_of b) (identifiers_of a)) ss

module _ (p : Settings) (law : Translates p) (before : Data) (ds : List DataSet) (xs : List Text) (s : Structure) (i : ℕ) (r : DataSet) (there : slice_get ds i ≡ Some r) (held : AreHeld before xs ds) (sets : AreSets ds) (named : AllByRecursion (λ d. HaveNames (columns_of d.structure)) ds) (few : 1 + length ds < 2 ^ 64) (given : AreGiven (columns_of s)) (j : IsReferred s r.structure (structures_of ds)) where
  abbrev a : Structure
  a = r.structure

  abbrev first : List Component
  first = columns_of a

  abbrev shared : Structure → List Component
  shared = common_identifiers a

  abbrev ss : List Structure
  ss = structures_of ds

  abbrev others : List DataSet
  others = without i ds

  abbrev ws : List ℕ
  ws = map width_of (structures_of others)

  few_sources : length (length first ∷ ws) < 2 ^ 64
  few_sources =
      let size = length-map (structures_of others) width_of in
      let many = length-map others (λ d. d.structure) in
      let fewer = fewer_without i ds in
      omega (arith, few, size, many, fewer)

  set : IsDataSet a r.points
  set = one_of_all (λ d. IsDataSet d.structure d.points) i ds r there sets

  abbrev ids : List Placed
  ids = placed_at 0 a ∷ []

  abbrev all : List Placed
  all = placed_around i (width_of a) ss

  abbrev es : List CompExp
  es = joined_exps ids all

  module _ (kind : JoinKind) (one : IsOneSided kind) where
    abbrev found_at : Row → DataSet → Option Row
    found_at q d = found p law before first shared ws few_sources kind one d q

    same_tests : (d : DataSet) (q t : Row) → agrees p law before first shared ws few_sources kind one d q t ≡ agree_in a d.structure q t
    same_tests d q t =
        let ids = shared d.structure in
        ap (λ z. same_row z (cells_at (places_in first ids) q)) (named_cells (columns_of d.structure) ids t)
        ∙ ap (λ z. same_row (values_in d.structure ids t) z) (named_cells first ids q)

    found_same : (q : Row) (d : DataSet) → found_at q d ≡ first_agreeing a d q
    found_same q d = ap (λ t. find t d.points) (same_functions (agrees p law before first shared ws few_sources kind one d q) (agree_in a d.structure q) (same_tests d q))

    tied_one : (d : DataSet) → IsDataSet d.structure d.points → HaveNames (columns_of d.structure) → AreAmong (identifiers_of d.structure) (identifiers_of a) → IsTied p law before first shared ws few_sources kind one d
    tied_one d h n g =
        let b = d.structure in
        let has : Component → Bool = λ y. has_identifier a y.name in
        let size = fewer has (identifiers_of b) in
        let most = few_identifiers b h.well_formed in
        record {
          set = h;
          named = n;
          ours = identifiers_there a set.well_formed (shared b) (AllByRecursion-filter (λ y. IsColumnAt (place_of y.name (identifiers_of a)) y.name y.kind (identifiers_of a)) has (identifiers_of b) g);
          theirs = identifiers_there b h.well_formed (shared b) (AllByRecursion-filter (λ y. IsColumnAt (place_of y.name (identifiers_of b)) y.name y.kind (identifiers_of b)) has (identifiers_of b) (own_identifiers b h.well_formed));
          counted = omega (arith, size, most);
          only = λ q lead.
              filter_each (agrees p law before first shared ws few_sources kind one d q) (agree_in a b q) (same_tests d q) d.points
              ∙ agreeing_only a d q (covers a b g) h
              ∙ ap option_to_list (sym (found_same q d));
        }

    all_tied : (es : List DataSet) → AreSets es → AllByRecursion (λ d. HaveNames (columns_of d.structure)) es → AllByRecursion (λ b. AreAmong (identifiers_of b) (identifiers_of a)) (structures_of es) → AllTied p law before first shared ws few_sources kind one es
    all_tied [] h n g = tt
    all_tied (d ∷ es) h n g = (tied_one d h.0 n.0 g.0, all_tied es h.1 n.1 g.1)

    tied : AllTied p law before first shared ws few_sources kind one others
    tied =
        all_tied others (all_without (λ d. IsDataSet d.structure d.points) i ds sets) (all_without (λ d. HaveNames (columns_of d.structure)) i ds named)
        (subst (AllByRecursion (λ b. AreAmong (identifiers_of b) (identifiers_of a))) (sym (without_map (λ d. d.structure) i ds)) (all_without (λ b. AreAmong (identifiers_of b) (identifiers_of a)) i ss j.among))

    -- ---- the select

    own : (x : Text) × (slice_get xs i ≡ Some x) × IsHeld before x r
    own = held_at before i xs ds r held there

    abbrev columns : List Component
    columns = first ++ flat_map (λ d. columns_of d.structure) others

    placed : ArePlaced columns ids × ArePlaced columns all
    placed =
        let rest = flat_map columns_of (without i ss) in
        let same : first ++ rest ≡ columns = ap (λ l. first ++ l) (ap (flat_map columns_of) (sym (without_map (λ d. d.structure) i ds)) ∙ flat_map-map columns_of (λ d. d.structure) others) in
        let lead = first_placed a rest in
        subst (λ ys. ArePlaced ys ids × ArePlaced ys all) same ((lead, tt), around_all a i first (width_of a) ss refl (slice_map (λ d. d.structure) i ds r there) lead)

    well : AreWell all
    well = all_of_map (λ o. o.structure) IsStructure all (subst (AllByRecursion IsStructure) (sym (around_structures i (width_of a) ss)) (AllByRecursion-map (λ d. d.structure) IsStructure ds (all_more (λ d. IsDataSet d.structure d.points) (λ d. IsStructure d.structure) (λ d h. h.well_formed) ds sets)))

    made : AreFor p (all_loose columns) es (columns_of s)
    made =
        joined_for p columns s ids all (set.well_formed, tt) well placed.0 placed.1 (j.identifiers.1 ∙ sym (append-nil (component_kinds (identifiers_of a))))
        (j.measures ∙ ap (kinds_of_all measures_of) (sym (around_structures i (width_of a) ss)))
        (j.attributes ∙ ap (kinds_of_all attributes_of) (sym (around_structures i (width_of a) ss)))

    abbrev rows : List Row
    rows = chain_rows p law before r set.well_formed (one_of_all (λ d. HaveNames (columns_of d.structure)) i ds r there named) set.typed own.0 own.2 shared kind one others (without i xs) few_sources (held_without before i xs ds held)

    query_is : reference_query p kind i ss s xs ≡ chain_select p kind first shared (structures_of others) es s None own.0 (without i xs) ∷ []
    query_is =
        ap (λ o. from_reference p kind i ss s xs o (slice_get xs i)) (slice_map (λ d. d.structure) i ds r there)
        ∙ ap (from_reference p kind i ss s xs (Some a)) own.1
        ∙ ap (λ l. chain_select p kind first shared l es s None own.0 (without i xs) ∷ []) (sym (without_map (λ d. d.structure) i ds))

    -- its points, or those that a filter leaves
    given_rows : (condition : Option CompExp) → IsTest p (columns_of s) condition → IsExactly p before (filtered_by p condition (reference_query p kind i ss s xs)) s (where_of p condition (map (point_of p es) rows))
    given_rows condition test =
        subst (λ q. IsExactly p before (filtered_by p condition q) s (where_of p condition (map (point_of p es) rows))) (sym query_is)
        (shown_exactly p law before r set.well_formed (one_of_all (λ d. HaveNames (columns_of d.structure)) i ds r there named) set.typed own.0 own.2 shared kind one others (without i xs) few_sources (held_without before i xs ds held) tied es s made (plain_written p es (joined_plain p ids all)) given (joined_columns ids all) condition test)

    -- ---- its rows

    -- a point of the reference, which finds itself
    pub record IsOwn (q : Row) : Type 0 where
      pub typed : is_point first q ≡ true
      pub itself : first_agreeing a r q ≡ Some q

    all_own : AllByRecursion IsOwn r.points
    all_own =
        all_both (λ q. is_point first q ≡ true) (λ q. first_agreeing a r q ≡ Some q) IsOwn (λ q h g. record { typed = h; itself = g }) r.points set.typed (agreeing_own r set)

    abbrev row_of : Row → Row
    row_of q = with_parts q (founds (found_at q) others)

    abbrev tuple : Row → Tuple
    tuple q = tuple_beside a ds q

    parts_same : (q : Row) → parts_found (found_at q) ds ≡ (tuple q).parts
    parts_same q = map_each (λ d. part_of d (found_at q d)) (λ d. part_of d (first_agreeing a d q)) (λ d. ap (part_of d) (found_same q d)) ds

    are_found : (q : Row) → AllByRecursion (IsFound (found_at q)) ds
    are_found q =
        all_more (λ d. IsDataSet d.structure d.points) (IsFound (found_at q))
        (λ d h. record { well = h.well_formed; typed = λ t e. found_is (λ z. is_point (columns_of d.structure) z ≡ true) (agrees p law before first shared ws few_sources kind one d q) d.points t h.typed e }) ds sets

    row_value : (q : Row) → IsOwn q → point_of p es (row_of q) ≡ tuple_point (tuple q)
    row_value q h =
        let os = founds (found_at q) others in
        let lead = first_shown a q os h.typed in
        let itself : Some q ≡ found_at q r = sym (found_same q r ∙ h.itself) in
        joined_values p (row_of q) ids all (record { structure = a; point = Some q } ∷ []) (tuple q) (refl, set.well_formed, lead, tt)
        (subst (AllShown (row_of q) all) (parts_same q)
        (shown_around (found_at q) r i ds q (width_of a) (sym (point_length first q h.typed)) there (subst (λ o. Shows (row_of q) 0 (part_of r o)) itself lead) (are_found q)))
        (append-nil (values_in a (identifiers_of a) q) ∙ own_values a q set.well_formed h.typed)

    -- whether all parts are there
    whole_same : (q : Row) → IsOwn q → all_there (founds (found_at q) others) ≡ is_whole (tuple q)
    whole_same q h =
        let t : DataSet → Bool = λ d. is_some (found_at q d) in
        all_mapped (λ o. is_some o.1) (λ d. (width_of d.structure, found_at q d)) others
        ∙ sym (all_but t i ds r there (ap is_some (found_same q r ∙ h.itself)))
        ∙ sym (all_mapped (λ z. is_some z.point) (λ d. part_of d (found_at q d)) ds)
        ∙ ap (list_all (λ z. is_some z.point)) (parts_same q)

    abbrev given_by : Row → List Row
    given_by q = map (point_of p es) (extended_by kind (founds (found_at q) others) q)

    by_points : map (point_of p es) rows ≡ flat_map given_by r.points
    by_points = map-flat_map (point_of p es) (λ q. extended_by kind (founds (found_at q) others) q) r.points

  left_rows : (q : Row) → IsOwn joining.Left tt q → given_by joining.Left tt q ≡ tuple_point (tuple joining.Left tt q) ∷ []
  left_rows q h = ap (map (point_of p es)) (left_extended (founds (found_at joining.Left tt q) others) q) ∙ ap (λ z. z ∷ []) (row_value joining.Left tt q h)

  left_points : map (point_of p es) (rows joining.Left tt) ≡ map tuple_point (left_tuples r ds)
  left_points =
      by_points joining.Left tt
      ∙ flat_map_same (given_by joining.Left tt) (λ q. tuple_point (tuple joining.Left tt q) ∷ []) r.points (all_more (IsOwn joining.Left tt) (λ q. given_by joining.Left tt q ≡ tuple_point (tuple joining.Left tt q) ∷ []) left_rows r.points (all_own joining.Left tt))
      ∙ flat_map_single (λ q. tuple_point (tuple joining.Left tt q)) r.points
      ∙ sym (map-map tuple_point (tuple_beside a ds) r.points)

  -- a left join
  pub left_exactly : (condition : Option CompExp) → IsTest p (columns_of s) condition → IsExactly p before (filtered_by p condition (reference_query p joining.Left i ss s xs)) s (where_of p condition (map tuple_point (left_tuples r ds)))
  left_exactly condition test = subst (λ l. IsExactly p before (filtered_by p condition (reference_query p joining.Left i ss s xs)) s (where_of p condition l)) left_points (given_rows joining.Left tt condition test)

  abbrev whole_of : Row → List Row
  whole_of q = option_to_list (cond (is_whole (tuple_beside a ds q)) (Some (tuple_point (tuple_beside a ds q))) None)

  inner_rows : (q : Row) → IsOwn joining.Inner tt q → given_by joining.Inner tt q ≡ whole_of q
  inner_rows q h =
      let os = founds (found_at joining.Inner tt q) others in
      ap (map (point_of p es)) (inner_extended os q)
      ∙ ap (λ b. map (point_of p es) (cond b (with_parts q os ∷ []) [])) (whole_same joining.Inner tt q h)
      ∙ go (is_whole (tuple_beside a ds q))
    where
      go : (b : Bool) → map (point_of p es) (cond b (with_parts q (founds (found_at joining.Inner tt q) others) ∷ []) []) ≡ option_to_list (cond b (Some (tuple_point (tuple_beside a ds q))) None)
      go true = ap (λ z. z ∷ []) (row_value joining.Inner tt q h)
      go false = refl

  inner_points : map (point_of p es) (rows joining.Inner tt) ≡ map tuple_point (inner_tuples r ds)
  inner_points =
      by_points joining.Inner tt
      ∙ flat_map_same (given_by joining.Inner tt) whole_of r.points (all_more (IsOwn joining.Inner tt) (λ q. given_by joining.Inner tt q ≡ whole_of q) inner_rows r.points (all_own joining.Inner tt))
      ∙ sym (made_of_passing is_whole tuple_point (tuple_beside a ds) r.points)

  -- an inner join
  pub inner_exactly : (condition : Option CompExp) → IsTest p (columns_of s) condition → IsExactly p before (filtered_by p condition (reference_query p joining.Inner i ss s xs)) s (where_of p condition (map tuple_point (inner_tuples r ds)))
  inner_exactly condition test = subst (λ l. IsExactly p before (filtered_by p condition (reference_query p joining.Inner i ss s xs)) s (where_of p condition l)) inner_points (given_rows joining.Inner tt condition test)
