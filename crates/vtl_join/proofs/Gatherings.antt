-- What points are gathered from fits them, and what is gathered.
use Rattle.std.proofs.Common.{◌≡◌, ℕ, zero, suc, ◌+◌, ◌<◌, List, [], ◌∷◌, length, get_or, map, Option, Some, None, Result, refl, sym, ap, ◌∙◌, subst, All, arith}
use Rattle.std.specs.Prelude.{IfOk}
use Rattle.std.specs.Borrow.{Bor}
use Rattle.std.proofs.lemmas.List.{length-map}
use Rattle.vtl_rows.specs.Gathered.{part_at, picked, picked_kind, pieces}
use Rattle.vtl_rows.specs.Tables.{Listed, Tabled, column_kinds, listed}
use Rattle.vtl_rows.specs.declared.column.Column.{Column}
use Rattle.vtl_rows.specs.declared.gather.Pick.{Pick}
use Rattle.vtl_sets.specs.TableOf.{table_columns}
use Rattle.vtl_sets.proofs.ColumnLemmas.{some_table_columns}
use Rattle.vtl_syntax.specs.declared.word_groups.JoinKind.TheVariants as join
use Rattle.vtl_tree.specs.DataSet.{IsDataSet}
use Rattle.vtl_tree.specs.Environment.{DataSet}
use Rattle.vtl_tree.specs.Structure.{IsStructure}
use Rattle.vtl_tree.specs.declared.structure.Role.TheVariants as role
use Rattle.vtl_tree.specs.declared.structure.Structure.{Structure}
use Rattle.vtl_tree.specs.Columns.{identifiers_of, measures_of}
use Rattle.vtl_meaning.specs.Joined.{cross_tuples, join_of, structures_of, tuple_point}
use Rattle.vtl_meaning.specs.Made.{IsJoined, attributes_of, component_kinds, kinds_of_all}
use Rattle.vtl_meaning.proofs.JoinKept.{join_kept}
use Rattle.vtl_meaning.proofs.JoinParts.{AreSets}
use Rattle.vtl_join.specs.declared.joined.Operand.{Operand}
use Rattle.vtl_join.specs.Crossing.{row_counts, tuples_behind}
use Rattle.vtl_join.specs.Gatherings.{Gathers, IsGathering, gathers, gathers_of, point_of, points_of, width_of}
use Rattle.vtl_join.specs.Joining.{sets_of}
use Rattle.vtl_join.specs.Picks.{joined_rows, picks_behind, picks_from, table_of}
use Rattle.vtl_join.proofs.Crossed.{cross_points}
use Rattle.vtl_join.proofs.Stepping.{if_ok, kinds_all, within_all}

-- ---- a lead before operands
pub width_gathered : (lead : Listed) (ds : List DataSet) → length (lead ∷ map table_of ds) ≡ length ds + 1
width_gathered lead ds = let l = length-map ds table_of in omega (arith, l)

pub rows_gathered : (lead : Listed) (ds : List DataSet) (ids : List Pick) (s : Structure) (tuples : List ℕ) → points_of (gathers lead ds ids s) tuples ≡ joined_rows lead ds ids tuples
rows_gathered lead ds ids s tuples = ap (λ n. map (picked (lead ∷ map table_of ds) (picks_behind ids (structures_of ds))) (pieces n tuples)) (width_gathered lead ds)

pub gathers_is : (parts : List (Bor Tabled)) (lead : Listed) (ds : List DataSet) (ids picks : List Pick) (s : Structure) → map (λ t. listed t.now) parts ≡ lead ∷ map table_of ds → picks ≡ picks_behind ids (structures_of ds) → gathers_of parts picks s ≡ gathers lead ds ids s
gathers_is parts lead ds ids picks s e is = λ i. record { parts = e i; picks = is i; columns = table_columns s }

pub is_gathering : (lead : Listed) (os : List Operand) (ids : List Pick) (s : Structure) → AreSets (sets_of os) → All (λ p. p.part < length os + 1) ids → map (picked_kind (lead ∷ map table_of (sets_of os))) ids ≡ component_kinds (identifiers_of s) → IsStructure s
    → component_kinds (measures_of s) ≡ kinds_of_all measures_of (structures_of (sets_of os)) → component_kinds (attributes_of s) ≡ kinds_of_all attributes_of (structures_of (sets_of os)) → IsGathering (gathers lead (sets_of os) ids s)
is_gathering lead os ids s all within kinds w measures attributes =
    let ds = sets_of os in
    let many : length (lead ∷ map table_of ds) ≡ length os + 1 = let l = width_gathered lead ds in let m = length-map os (λ (o : Operand). o.set) in omega (arith, l, m) in
    record {
      some = some_table_columns s (table_columns s) w.some refl;
      within = within_all (length (lead ∷ map table_of ds)) ids os (picks_behind ids (structures_of ds)) many within refl;
      kinds = kinds_all lead ds ids s all kinds measures attributes;
    }

-- ---- parts and cells that are lent
module _ (parts items : List (Bor Tabled)) (picks its : List Pick) (s : Structure) (e : parts ≡ items) (h : picks ≡ its) where
  abbrev shown : List (Bor Tabled) → List Listed
  shown ts = map (λ t. listed t.now) ts

  pub within_parts : IsGathering (gathers_of items its s) → All (λ p. p.part < length parts) picks
  within_parts g =
      let many : length (shown items) ≡ length parts = length-map items (λ t. listed t.now) ∙ ap length (sym e) in
      subst (λ n. All (λ (p : Pick). p.part < n) picks) many (subst (All (λ (p : Pick). p.part < length (shown items))) (sym h) g.within)

  pub kinds_of_parts : (columns : List Column) → columns ≡ table_columns s → IsGathering (gathers_of items its s) → column_kinds columns ≡ map (picked_kind (shown parts)) picks
  kinds_of_parts columns c g = ap column_kinds c ∙ g.kinds ∙ ap (λ ps. map (picked_kind (shown items)) ps) (sym h) ∙ ap (λ ts. map (picked_kind (shown ts)) picks) (sym e)

  pub points_are : (g : Gathers) (tuples : List ℕ) → gathers_of items its s ≡ g → map (picked (shown parts) picks) (pieces (length parts) tuples) ≡ points_of g tuples
  points_are g tuples v =
      ap (λ ts. map (picked (shown ts) picks) (pieces (length ts) tuples)) e ∙ ap (λ ps. map (picked (shown items) ps) (pieces (length items) tuples)) h
      ∙ ap (λ n. map (picked (shown items) its) (pieces n tuples)) (sym (length-map items (λ t. listed t.now))) ∙ ap (λ x. points_of x tuples) v

-- ---- the table at a place
pub part_is : (parts : List (Bor Tabled)) (picks : List Pick) (s : Structure) (g : Gathers) (place : ℕ) (t : Bor Tabled) → gathers_of parts picks s ≡ g → place < length parts → t ≡ get_or parts place t → listed t.now ≡ part_at g.parts place
part_is parts picks s g place t v within is = sym (go parts place within is) ∙ ap (λ (x : Gathers). part_at x.parts place) v
  where
    go : (ts : List (Bor Tabled)) (i : ℕ) → i < length ts → t ≡ get_or ts i t → part_at (map (λ u. listed u.now) ts) i ≡ listed t.now
    go [] i h e = absurd (omega (arith, h))
    go (u ∷ ts) zero h e = ap (λ (b : Bor Tabled). listed b.now) (sym e)
    go (u ∷ ts) (suc i) h e = go ts i (omega (arith, h)) e

-- ---- cross joins
pub cross_join : (ds : List DataSet) (s : Structure) → IsJoined join.Cross (structures_of ds) s → join_of join.Cross ds ≡ map tuple_point (cross_tuples ds)
cross_join [] s i = let none : None ≡ Some i.reference = i.there in cc
cross_join (d ∷ ds) s i = refl

pub some_operand : (os : List Operand) (s : Structure) → IsJoined join.Cross (structures_of (sets_of os)) s → 0 < length os
some_operand [] s i = let none : None ≡ Some i.reference = i.there in cc
some_operand (o ∷ os) s i = omega arith

-- what a product is gathered from
module _ (lead : Listed) (os js : List Operand) (s : Structure) (seen : os ≡ js) (all : AreSets (sets_of os)) (i : IsJoined join.Cross (structures_of (sets_of js)) s) where
  abbrev whole : Gathers
  whole = gathers lead (sets_of os) (picks_from role.Identifier 1 (structures_of (sets_of os))) s

  pub product_columns : {E : Type 0} (r : Result Gathers E) → IfOk r (λ g. g ≡ whole) → IfOk r (λ g. g.columns ≡ table_columns s)
  product_columns r h = if_ok (λ (g : Gathers). g ≡ whole) (λ (g : Gathers). g.columns ≡ table_columns s) r (λ g e. ap (λ (x : Gathers). x.columns) e) h

  pub product_width : {E : Type 0} (r : Result Gathers E) → IfOk r (λ g. g ≡ whole) → IfOk r (λ g. width_of g ≡ length js + 1)
  product_width r h =
      let many : length (sets_of os) + 1 ≡ length js + 1 = ap (λ n. n + 1) (length-map os (λ (o : Operand). o.set) ∙ ap length seen) in
      if_ok (λ (g : Gathers). g ≡ whole) (λ (g : Gathers). width_of g ≡ length js + 1) r (λ g e. ap width_of e ∙ width_gathered lead (sets_of os) ∙ many) h

  pub product_points : {E : Type 0} (r : Result Gathers E) → IfOk r (λ g. g ≡ whole) → IfOk r (λ g. map (point_of g) (tuples_behind (0 ∷ []) (row_counts (sets_of js))) ≡ join_of join.Cross (sets_of js))
  product_points r h =
      let tuples : List Operand → List (List ℕ) = λ ks. tuples_behind (0 ∷ []) (row_counts (sets_of ks)) in
      let same : map tuple_point (cross_tuples (sets_of os)) ≡ join_of join.Cross (sets_of js) = ap (λ (ks : List Operand). map tuple_point (cross_tuples (sets_of ks))) seen ∙ sym (cross_join (sets_of js) s i) in
      if_ok (λ (g : Gathers). g ≡ whole) (λ (g : Gathers). map (point_of g) (tuples js) ≡ join_of join.Cross (sets_of js)) r
      (λ g e. ap (λ (x : Gathers). map (point_of x) (tuples js)) e ∙ ap (λ (ks : List Operand). map (point_of whole) (tuples ks)) (sym seen) ∙ cross_points lead (sets_of os) all ∙ same) h

  pub product_set : IsDataSet s (join_of join.Cross (sets_of js))
  product_set = join_kept join.Cross (sets_of js) s i (subst (λ (ks : List Operand). AreSets (sets_of ks)) seen all)
