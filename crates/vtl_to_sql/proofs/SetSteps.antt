-- Set operators on rows in the columns of the result: what their queries mean, and operands taken one after the other.
use Rattle.std.proofs.Common.{◌≡◌, ℕ, Bool, true, false, not, ◌&&◌, List, [], ◌∷◌, ◌++◌, take, None, Ok, refl, ap, sym, ◌∙◌, append-nil}
use Rattle.std.specs.Prelude.{fold, is_some}
use Rattle.std.specs.List.{filter, list_all, list_any}
use Rattle.vtl_lists.specs.Perm.{Perm, chain}
use Rattle.vtl_cell.specs.Row.{Row, same_key}
use Rattle.vtl_decimal.specs.Settings.{Settings}
use Rattle.vtl_lists.proofs.Perms.{Perm-append, Perm-same, Perm-sym}
use Rattle.vtl_lists.proofs.Alls.{all_more}
use Rattle.vtl_rows.specs.Tables.{cells_at}
use Rattle.vtl_tree.specs.DataSet.{Distinct, IsDataSet, is_point}
use Rattle.vtl_tree.specs.Environment.{DataSet}
use Rattle.vtl_tree.specs.Structure.{IsStructure, columns_of, key_width}
use Rattle.vtl_tree.specs.declared.structure.Structure.{Structure}
use Rattle.vtl_tree.proofs.LookUps.{look_respects}
use Rattle.vtl_tuples.specs.Keys.{each_once}
use Rattle.vtl_tuples.proofs.Lists.{filter_each}
use Rattle.vtl_tuples.proofs.Onces.{once_already, once_more}
use Rattle.vtl_tree.specs.Columns.{identifiers_of, measures_of, places_in}
use Rattle.vtl_meaning.specs.Operators.{left_of}
use Rattle.vtl_meaning.specs.Points.{with_points}
use Rattle.vtl_meaning.specs.Sets.{all_left_of, either_only, has_point, intersected, intersection_of, reduced, union_of, united}
use Rattle.vtl_meaning.proofs.OwnColumns.{own_identifiers, own_measures}
use Rattle.vtl_meaning.proofs.SetsFolds.{each_own, intersected_fold, own_cells, united_fold}
use Rattle.vtl_meaning.proofs.SetsKept.{either_only_kept, has_any, reduced_kept, shown_kept, some_kept, united_kept}
use Rattle.vtl_meaning.proofs.SetsOrders.{filter_respects}
use Rattle.sql_tree.specs.Trees.{QueryTree, Text}
use Rattle.sql_tree.specs.Formed.{IsName}
use Rattle.sql_meaning.specs.Scripts.{Data}
use Rattle.selects_to_sql.specs.Writable.{HaveNames}
use Rattle.vtl_to_sql.specs.Sets.{difference_query, intersection_query, matched_select, shown_select, symmetric_difference_query, union_query}
use Rattle.selects_to_sql.specs.Runs.{IsTable}
use Rattle.selects_to_sql.proofs.Exact.{IsExactly, exactly_same, set_turned}
use Rattle.selects_to_sql.proofs.Expressions.{Translates}
use Rattle.selects_to_sql.proofs.Givens.{AreGiven}
use Rattle.selects_to_sql.proofs.SelectItems.{GivesRows}
use Rattle.vtl_to_sql.proofs.SetQueries.{IsShown, ids_there, matched_gives, shown_gives}
use Rattle.selects_to_sql.proofs.Unions.{one_exactly, union_there}

-- ---- the columns of a result

-- an operand in the columns of the result is a data set
pub shown_set_of : (s a : Structure) (d : List Row) → IsStructure s → IsShown a s → IsDataSet a d → IsDataSet s (left_of (with_points a d) s)
shown_set_of s a d w i h = shown_kept (with_points a d) s (w, i.plain) i.alternative h

-- a structure of identifiers and measures has its own columns
pub shown_self : (s : Structure) → IsStructure s → columns_of s ≡ identifiers_of s ++ measures_of s → IsShown s s
shown_self s w plain = record { alternative = record { there = own_identifiers s w; back = own_identifiers s w; measures = own_measures s w }; plain = plain }

pub shown_own : (s : Structure) (d : List Row) → IsDataSet s d → left_of (with_points s d) s ≡ d
shown_own s d h = each_own (cells_at (places_in (columns_of s) (columns_of s))) d (all_more (λ r. is_point (columns_of s) r ≡ true) (λ r. cells_at (places_in (columns_of s) (columns_of s)) r ≡ r) (λ r i. own_cells s r h.well_formed i) d h.typed)

-- ---- lists

-- the union of two
pub union_is : (n : ℕ) (l m : List Row) → Distinct n l → Distinct n m → l ++ reduced n m l ≡ united n (l ∷ m ∷ [])
union_is n l m a b =
    let same = same_key n in
    sym (ap (λ k. each_once same (l ++ k)) (append-nil m)
    ∙ once_more same l m
    ∙ ap (λ k. k ++ filter (λ y. not (list_any (λ x. same x y) l)) (each_once same m)) (once_already same l a)
    ∙ ap (λ k. l ++ filter (λ y. not (list_any (λ x. same x y) l)) k) (once_already same m b)
    ∙ ap (λ k. l ++ k) (filter_each (λ y. not (list_any (λ x. same x y) l)) (λ r. not (has_point n l r)) (λ r. ap not (sym (has_any n l r))) m))

alone_is : (n : ℕ) (l : List Row) → Distinct n l → united n ([] ∷ l ∷ []) ≡ l
alone_is n l a = ap (each_once (same_key n)) (append-nil l) ∙ once_already (same_key n) l a

and_true : (b : Bool) → b ≡ (b && true)
and_true true = refl
and_true false = refl

-- ---- in another order

has_turned : (n : ℕ) (l m : List Row) → Perm l m → Distinct n l → (r : Row) → has_point n l r ≡ has_point n m r
has_turned n l m h a r = ap is_some (look_respects n (take n r) h a)

reduced_turned : (n : ℕ) (l m k j : List Row) → Perm l k → Perm m j → Distinct n m → Perm (reduced n l m) (reduced n k j)
reduced_turned n l m k j p q a = filter_respects (λ r. not (has_point n m r)) (λ r. not (has_point n j r)) l k (λ r. ap not (has_turned n m j q a r)) p

-- ---- operands one after the other

-- an operator on two lists of rows in the columns of the result, and its query over two tables
pub record IsStep (p : Settings) (s : Structure) (query : Structure → Structure → Text → Text → QueryTree) (rows : List Row → List Row → List Row) : Type 0 where
  pub means : (before : Data) (x y : Text) (a b : Structure) (d e : List Row) → IsTable before x a d → IsTable before y b e → IsName x → IsName y → HaveNames (columns_of a) → HaveNames (columns_of b) → IsDataSet a d → IsDataSet b e → IsShown a s → IsShown b s
      → IsExactly p before (query a b x y) s (Ok (rows (left_of (with_points a d) s) (left_of (with_points b e) s)))
  pub kept : (l m : List Row) → IsDataSet s l → IsDataSet s m → IsDataSet s (rows l m)
  pub turned : (l m k j : List Row) → IsDataSet s l → IsDataSet s m → Perm l k → Perm m j → Perm (rows l m) (rows k j)

module _ (p : Settings) (law : Translates p) (s : Structure) (given : AreGiven (columns_of s)) (w : IsStructure s) (ns : HaveNames (identifiers_of s)) where
  abbrev n : ℕ
  n = key_width s

  -- the rows of an operand for which another one has a row, and those for which it has none
  with_row : (before : Data) (x y : Text) (a b : Structure) (d e : List Row) → IsTable before x a d → IsTable before y b e → IsName x → IsName y → HaveNames (columns_of a) → HaveNames (columns_of b) → IsDataSet a d → IsDataSet b e → IsShown a s → IsShown b s
      → GivesRows p before s (matched_select p true a s x y) (Ok (filter (λ r. has_point n (left_of (with_points b e) s) r) (left_of (with_points a d) s)))
  with_row before x y a b d e tx ty nx ny na nb sa sb ia ib = matched_gives p law before x a s d tx nx na sa ia given y b e ty ny nb sb ib (ids_there p law before y b s e ty ny nb sb ib given) ns true

  without_row : (before : Data) (x y : Text) (a b : Structure) (d e : List Row) → IsTable before x a d → IsTable before y b e → IsName x → IsName y → HaveNames (columns_of a) → HaveNames (columns_of b) → IsDataSet a d → IsDataSet b e → IsShown a s → IsShown b s
      → GivesRows p before s (matched_select p false a s x y) (Ok (reduced n (left_of (with_points a d) s) (left_of (with_points b e) s)))
  without_row before x y a b d e tx ty nx ny na nb sa sb ia ib = matched_gives p law before x a s d tx nx na sa ia given y b e ty ny nb sb ib (ids_there p law before y b s e ty ny nb sb ib given) ns false

  shown_set : (a : Structure) (d : List Row) → IsShown a s → IsDataSet a d → IsDataSet s (left_of (with_points a d) s)
  shown_set a d i h = shown_kept (with_points a d) s (w, i.plain) i.alternative h

  -- ---- the operators

  pub union_step : IsStep p s (λ a b. union_query p a b s) (λ l m. united n (l ∷ m ∷ []))
  union_step = record {
    means = λ before x y a b d e tx ty nx ny na nb sa sb ia ib.
        let l = left_of (with_points a d) s in
        let m = left_of (with_points b e) s in
        let rest = reduced n m l in
        exactly_same p before (union_query p a b s x y) s (Ok (l ++ (rest ++ []))) (Ok (united n (l ∷ m ∷ []))) (ap (λ k. Ok (l ++ k)) (append-nil rest) ∙ ap Ok (union_is n l m (shown_set a d ia sa).distinct (shown_set b e ib sb).distinct))
        (union_there p before s given (shown_select p a s x None) (matched_select p false b s y x ∷ []) l (rest ∷ []) (shown_gives p law before x a s d tx nx na sa ia given, (without_row before y x b a e d ty tx ny nx nb na sb sa ib ia, tt)));
    kept = λ l m h i. united_kept s (l ∷ m ∷ []) w (h, (i, tt));
    turned = λ l m k j h i q r.
        let kd = set_turned s l k (Perm-sym q) h in
        let jd = set_turned s m j (Perm-sym r) i in
        chain (Perm-same (united n (l ∷ m ∷ [])) (l ++ reduced n m l) (sym (union_is n l m h.distinct i.distinct)))
        (chain (Perm-append q (reduced_turned n m l j k r q h.distinct)) (Perm-same (k ++ reduced n j k) (united n (k ∷ j ∷ [])) (union_is n k j kd.distinct jd.distinct)));
  }

  pub intersection_step : IsStep p s (λ a b. intersection_query p a b s) (λ l m. intersected n l (m ∷ []))
  intersection_step = record {
    means = λ before x y a b d e tx ty nx ny na nb sa sb ia ib.
        let l = left_of (with_points a d) s in
        let m = left_of (with_points b e) s in
        exactly_same p before (intersection_query p a b s x y) s (Ok (filter (λ r. has_point n m r) l)) (Ok (intersected n l (m ∷ []))) (ap Ok (filter_each (λ r. has_point n m r) (λ r. has_point n m r && true) (λ r. and_true (has_point n m r)) l))
        (one_exactly p before s given (matched_select p true a s x y) (Ok (filter (λ r. has_point n m r) l)) (with_row before x y a b d e tx ty nx ny na nb sa sb ia ib));
    kept = λ l m h i. some_kept s (λ r. list_all (λ e. has_point n e r) (m ∷ [])) l h;
    turned = λ l m k j h i q r. filter_respects (λ z. list_all (λ e. has_point n e z) (m ∷ [])) (λ z. list_all (λ e. has_point n e z) (j ∷ [])) l k (λ z. ap (λ b. b && true) (has_turned n m j r i.distinct z)) q;
  }

  pub difference_step : IsStep p s (λ a b. difference_query p a b s) (reduced n)
  difference_step = record {
    means = λ before x y a b d e tx ty nx ny na nb sa sb ia ib.
        one_exactly p before s given (matched_select p false a s x y) (Ok (reduced n (left_of (with_points a d) s) (left_of (with_points b e) s))) (without_row before x y a b d e tx ty nx ny na nb sa sb ia ib);
    kept = λ l m h i. reduced_kept s l m h;
    turned = λ l m k j h i q r. reduced_turned n l m k j q r i.distinct;
  }

  pub symmetric_difference_step : IsStep p s (λ a b. symmetric_difference_query p a b s) (either_only n)
  symmetric_difference_step = record {
    means = λ before x y a b d e tx ty nx ny na nb sa sb ia ib.
        let l = left_of (with_points a d) s in
        let m = left_of (with_points b e) s in
        exactly_same p before (symmetric_difference_query p a b s x y) s (Ok (reduced n l m ++ (reduced n m l ++ []))) (Ok (either_only n l m)) (ap (λ k. Ok (reduced n l m ++ k)) (append-nil (reduced n m l)))
        (union_there p before s given (matched_select p false a s x y) (matched_select p false b s y x ∷ []) (reduced n l m) (reduced n m l ∷ []) (without_row before x y a b d e tx ty nx ny na nb sa sb ia ib, (without_row before y x b a e d ty tx ny nx nb na sb sa ib ia, tt)));
    kept = λ l m h i. either_only_kept s l m h i;
    turned = λ l m k j h i q r. Perm-append (reduced_turned n l m k j q r i.distinct) (reduced_turned n m l j k r q h.distinct);
  }

-- ---- all operands at once

-- a union, and an intersection, is its operands one after the other
pub unions_fold : (d : DataSet) (ds : List DataSet) (s : Structure) → Distinct (key_width s) (left_of d s) → fold (λ l m. united (key_width s) (l ∷ m ∷ [])) (left_of d s) (all_left_of ds s) ≡ union_of (d ∷ ds) s
unions_fold d ds s a = ap (λ l. fold (λ u m. united (key_width s) (u ∷ m ∷ [])) l (all_left_of ds s)) (sym (alone_is (key_width s) (left_of d s) a)) ∙ sym (united_fold (key_width s) (left_of d s ∷ all_left_of ds s))

pub intersections_fold : (d : DataSet) (ds : List DataSet) (s : Structure) → fold (λ l m. intersected (key_width s) l (m ∷ [])) (left_of d s) (all_left_of ds s) ≡ intersection_of (d ∷ ds) s
intersections_fold d ds s = sym (intersected_fold (key_width s) (left_of d s) (all_left_of ds s))
