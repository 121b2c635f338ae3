-- The rows of FROM and WHERE of a typed select fit the columns of its sources.
use Rattle.std.proofs.Common.{◌≡◌, ℕ, zero, suc, List, [], ◌∷◌, ◌++◌, map, length, get_or, Bool, true, cond, not, ◌&&◌, Option, Some, None, Ok, Err, refl, sym, ap, ◌∙◌, subst}
use Rattle.std.specs.Prelude.{IfOk, IsSome, filter, fold, option_map, unwrap_or}
use Rattle.std.specs.List.{AllByRecursion, flat_map}
use Rattle.std.proofs.lemmas.List.{append-nil, length-map}
use Rattle.std.proofs.lemmas.Grind.{flat_map-append}
use Rattle.std.proofs.lemmas.Bool.{and_parts}
use Rattle.vtl_lists.proofs.Sorts.{AllByRecursion-filter}
use Rattle.vtl_cell.specs.Kinds.{is_of}
use Rattle.vtl_decimal.specs.declared.number.Fault.{Fault}
use Rattle.vtl_cell.specs.Outcome.{Outcome, faults_by, join, unless}
use Rattle.vtl_cell.specs.Row.{Row, column_of}
use Rattle.vtl_cell.specs.declared.kind.Kind.{Kind}
use Rattle.vtl_cell.specs.declared.kind.Kind.TheVariants as k
use Rattle.vtl_rows.specs.Tables.{fits_kinds}
use Rattle.vtl_rows.proofs.Gathered.{null_is_of}
use Rattle.sql_tree.specs.Trees as tree
use Rattle.sql_tree.specs.Trees.{Exp, JoinTree, SelectTree, Text}
use Rattle.sql_tree.specs.declared.parts.Column.{Column}
use Rattle.sql_tree.specs.declared.parts.Series.{Series}
use Rattle.sql_tree.specs.declared.parts.Source.{Source}
use Rattle.sql_tree.specs.declared.word_groups.JoinKind.{JoinKind}
use Rattle.sql_tree.specs.declared.word_groups.JoinKind.TheVariants as joining
use Rattle.sql_check_parts.specs.Queries.{first_scope, joined_scope, scope_of}
use Rattle.sql_check_parts.specs.Scopes.{Columns, Scope, Tables, add_source, columns_from, columns_of, found, maybe_within, or_nothing, placed, row_of, with_source}
use Rattle.sql_check_parts.proofs.Places.{found_placed}
use Rattle.sql_check_laws.specs.Selects.{AreJoinsTyped, IsSelectTyped, IsSourceTyped}
use Rattle.sql_meaning.specs.From.{Joined, beside, condition_fault, fault_at, holds, is_met, joined, joined_by, joined_rows, kept, nulls, or_alone, pairs, pairs_by, partners, partners_or_alone, source_rows, unmet, with_join}
use Rattle.sql_meaning.specs.Tables.{Base, RowsFit, TablesFit, columns_given, columns_named, kinds_of, rows_from}
use Rattle.sql_meaning.specs.Values.{View, at_rows, place_in}
use Rattle.sql_meaning.proofs.RowKinds.{fits_beside}
use Rattle.sql_meaning.proofs.SeriesColumns.{given_columns, given_fit}

-- ---- columns

-- the cell at a place is null or of the kind at this place; past the last one there is null on both sides
cell_of_kind : (kinds : List Kind) (r : Row) (i : ℕ) → fits_kinds kinds r ≡ true → is_of (get_or kinds i k.Null) (column_of i r) ≡ true
cell_of_kind [] [] i h = refl
cell_of_kind [] (v ∷ vs) i h = cc
cell_of_kind (x ∷ xs) [] i h = cc
cell_of_kind (x ∷ xs) (v ∷ vs) zero h = (and_parts (is_of x v) (fits_kinds xs vs) h).0
cell_of_kind (x ∷ xs) (v ∷ vs) (suc i) h = cell_of_kind xs vs i (and_parts (is_of x v) (fits_kinds xs vs) h).1

-- a column that is known has a cell of its kind
pub column_fits : (scope : Scope) (r : Row) (x : Column) (kind : Kind) → fits_kinds (row_of scope) r ≡ true → found scope x ≡ Some kind → is_of kind (column_of (place_in scope x) r) ≡ true
column_fits scope r x kind h e = go (found (placed scope) x) (sym (found_placed k.Null scope x) ∙ e)
  where
    go : (o : Option ℕ) → option_map (λ i. get_or (row_of scope) i k.Null) o ≡ Some kind → is_of kind (column_of (unwrap_or o (length (row_of scope))) r) ≡ true
    go None q = cc
    go (Some i) q = subst (λ z. is_of z (column_of i r) ≡ true) (same q) (cell_of_kind (row_of scope) r i h)
      where
        same : Some (get_or (row_of scope) i k.Null) ≡ Some kind → get_or (row_of scope) i k.Null ≡ kind
        same w = cc

-- ---- rows

pub nulls_fit : (ks : List Kind) → fits_kinds ks (nulls (length ks)) ≡ true
nulls_fit [] = refl
nulls_fit (x ∷ ks) = λ i. null_is_of x i && nulls_fit ks i

-- ---- joins

module _ {A B C : Type 0} (P : A → Type 0) (Q : B → Type 0) (R : C → Type 0) (test : A → B → Bool) (both : A → B → C) (alone : A → C) (only : B → C)
    (boths : (x : A) (y : B) → P x → Q y → R (both x y)) (alones : (x : A) → P x → R (alone x)) (onlys : (y : B) → Q y → R (only y)) where
  all_map : (x : A) → P x → (ys : List B) → AllByRecursion Q ys → AllByRecursion R (map (both x) ys)
  all_map x g [] all = tt
  all_map x g (y ∷ ys) all = (boths x y g all.0, all_map x g ys all.1)

  all_only : (ys : List B) → AllByRecursion Q ys → AllByRecursion R (map only ys)
  all_only [] all = tt
  all_only (y ∷ ys) all = (onlys y all.0, all_only ys all.1)

  all_join : {D : Type 0} (P' : D → Type 0) (f : D → List C) → ((x : D) → P' x → AllByRecursion R (f x)) → (xs : List D) → AllByRecursion P' xs → AllByRecursion R (flat_map f xs)
  all_join P' f h [] all = tt
  all_join P' f h (x ∷ xs) all = more (f x) (h x all.0) (all_join P' f h xs all.1)
    where
      more : (us : List C) → AllByRecursion R us → AllByRecursion R (flat_map f xs) → AllByRecursion R (us ++ flat_map f xs)
      more [] u v = v
      more (z ∷ us) u v = (u.0, more us u.1 v)

  all_or_alone : (l : List C) (z : C) → R z → AllByRecursion R l → AllByRecursion R (or_alone l z)
  all_or_alone [] z h all = (h, tt)
  all_or_alone (w ∷ l) z h all = all

  all_append : (us vs : List C) → AllByRecursion R us → AllByRecursion R vs → AllByRecursion R (us ++ vs)
  all_append [] vs u v = v
  all_append (z ∷ us) vs u v = (u.0, all_append us vs u.1 v)

  padded_all : (xs : List A) (ys : List B) → AllByRecursion P xs → AllByRecursion Q ys → AllByRecursion R (flat_map (partners_or_alone test both alone ys) xs)
  padded_all xs ys p q = all_join P (partners_or_alone test both alone ys) (λ x g. all_or_alone (partners test both ys x) (alone x) (alones x g) (all_map x g (filter (test x) ys) (AllByRecursion-filter Q (test x) ys q))) xs p

  pub joined_all : (kind : JoinKind) (xs : List A) (ys : List B) → AllByRecursion P xs → AllByRecursion Q ys → AllByRecursion R (joined_by kind test both alone only xs ys)
  joined_all joining.Inner xs ys p q = all_join P (partners test both ys) (λ x g. all_map x g (filter (test x) ys) (AllByRecursion-filter Q (test x) ys q)) xs p
  joined_all joining.Left xs ys p q = padded_all xs ys p q
  joined_all joining.Full xs ys p q =
      all_append (flat_map (partners_or_alone test both alone ys) xs) (unmet test only xs ys) (padded_all xs ys p q)
      (all_only (filter (λ y. not (is_met test xs y)) ys) (AllByRecursion-filter Q (λ y. not (is_met test xs y)) ys q))

  pub pairs_all : (xs : List A) (ys : List B) → AllByRecursion P xs → AllByRecursion Q ys → AllByRecursion R (pairs_by both xs ys)
  pairs_all xs ys p q = all_join P (λ x. map (both x) ys) (λ x g. all_map x g ys q) xs p

-- ---- results

-- of a value, where there is one
pub if_ok : {A : Type 0} (m : Outcome A) (P : A → Type 0) → ((x : A) → m ≡ Ok x → P x) → IfOk m P
if_ok (Ok x) P h = h x refl
if_ok (Err f) P h = tt

-- ---- FROM

pub unless_ok : {A : Type 0} (f : Option Fault) (x out : A) → unless f x ≡ Ok out → x ≡ out
unless_ok None x out e = cc
unless_ok (Some f) x out e = cc

known : (o : Option Columns) → IsSome o → o ≡ Some (or_nothing o)
known None e = cc
known (Some columns) e = refl

-- a source whose table is known, and whose alias is new, stands behind the others
pub source_added : (tables : Tables) (scope : Scope) (s : Source) → IsSourceTyped tables scope s → (columns_from tables s ≡ Some (columns_given tables s)) × (with_source tables scope s ≡ scope ++ (s.alias, columns_given tables s) ∷ [])
source_added tables scope s h =
    let there = known (columns_from tables s) (within s.series (columns_of tables s.table) h.0) in
    (there, ap (add_source scope s.alias) there ∙ ap (λ b. cond b scope (scope ++ (s.alias, columns_given tables s) ∷ [])) h.1)
  where
    within : (x : Option Series) (o : Option Columns) → IsSome o → IsSome (maybe_within x o)
    within None o e = e
    within (Some x) None e = e
    within (Some x) (Some table) e = refl

pub kinds_added : (scope : Scope) (alias : Text) (columns : Columns) → row_of (scope ++ (alias, columns) ∷ []) ≡ row_of scope ++ kinds_of columns
kinds_added scope alias columns = flat_map-append (λ s. map (λ e. e.1) s.1) scope ((alias, columns) ∷ []) ∙ ap (λ l. row_of scope ++ l) (append-nil (kinds_of columns))

columns_wide : (columns : Columns) → length (kinds_of columns) ≡ length columns
columns_wide columns = length-map columns (λ x. x.1)

module _ (b : Base) (fit : TablesFit b) where
  pub table_fits : (scope : Scope) (s : Source) → IsSourceTyped b.tables scope s → RowsFit (kinds_of (columns_given b.tables s)) (rows_from b s)
  table_fits scope s e =
      let table = columns_named b.tables s.table in
      subst (λ columns. RowsFit (kinds_of columns) (rows_from b s)) (sym (given_columns b.tables s e.0))
      (given_fit s.series table (b.rows s.table) e.2 (fit s.table table (known (columns_of b.tables s.table) e.0)))

  abbrev sofar : Scope → List Row → Option Fault → Joined
  sofar scope rows fault = record { scope = scope; rows = rows; fault = fault }

  -- one more source
  module _ (scope : Scope) (s : Source) (e : IsSourceTyped b.tables scope s) where
    abbrev theirs : Columns
    theirs = columns_given b.tables s

    abbrev before_kinds : List Kind
    before_kinds = row_of scope

    abbrev all_kinds : List Kind
    all_kinds = row_of scope ++ kinds_of theirs

    pub kinds_now : row_of (with_source b.tables scope s) ≡ all_kinds
    kinds_now = ap row_of (source_added b.tables scope s e).1 ∙ kinds_added scope s.alias theirs

    pub left_alone : (x : Row) → fits_kinds before_kinds x ≡ true → fits_kinds all_kinds (x ++ nulls (length theirs)) ≡ true
    left_alone x h = fits_beside before_kinds (kinds_of theirs) x (nulls (length theirs)) h (subst (λ n. fits_kinds (kinds_of theirs) (nulls n) ≡ true) (columns_wide theirs) (nulls_fit (kinds_of theirs)))

    right_alone : (y : Row) → fits_kinds (kinds_of theirs) y ≡ true → fits_kinds all_kinds (nulls (length (row_of scope)) ++ y) ≡ true
    right_alone y h = fits_beside before_kinds (kinds_of theirs) (nulls (length (row_of scope))) y (nulls_fit before_kinds) h

    cross_fits : (rows : List Row) → RowsFit before_kinds rows → RowsFit (row_of (with_source b.tables scope s)) (pairs rows (rows_from b s))
    cross_fits rows all = subst (λ ks. RowsFit ks (pairs rows (rows_from b s))) (sym kinds_now)
        (pairs_all (λ r. fits_kinds before_kinds r ≡ true) (λ r. fits_kinds (kinds_of theirs) r ≡ true) (λ r. fits_kinds all_kinds r ≡ true) (λ x y. true) beside (λ x. x ++ nulls (length theirs)) (λ y. nulls (length (row_of scope)) ++ y)
        (λ x y h i. fits_beside before_kinds (kinds_of theirs) x y h i) left_alone right_alone rows (rows_from b s) all (table_fits scope s e))

    join_fits : (kind : JoinKind) (test : Row → Bool) (rows : List Row) → RowsFit before_kinds rows → RowsFit (row_of (with_source b.tables scope s)) (joined_rows kind test (length (row_of scope)) (length theirs) rows (rows_from b s))
    join_fits kind test rows all = subst (λ ks. RowsFit ks (joined_rows kind test (length (row_of scope)) (length theirs) rows (rows_from b s))) (sym kinds_now)
        (joined_all (λ r. fits_kinds before_kinds r ≡ true) (λ r. fits_kinds (kinds_of theirs) r ≡ true) (λ r. fits_kinds all_kinds r ≡ true) (λ x y. test (x ++ y)) beside (λ x. x ++ nulls (length theirs)) (λ y. nulls (length (row_of scope)) ++ y)
        (λ x y h i. fits_beside before_kinds (kinds_of theirs) x y h i) left_alone right_alone kind rows (rows_from b s) all (table_fits scope s e))

  pub from_fits : (js : List JoinTree) (scope : Scope) (rows : List Row) (fault : Option Fault) → AreJoinsTyped b.settings b.tables scope js → RowsFit (row_of scope) rows → RowsFit (row_of (joined_scope b.tables scope js)) (fold (with_join b) (sofar scope rows fault) js).rows
  from_fits [] scope rows fault h all = all
  from_fits (tree.cross s ∷ js) scope rows fault h all =
      from_fits js (with_source b.tables scope s) (pairs rows (rows_from b s)) fault h.2 (cross_fits scope s h.0 rows all)
  from_fits (tree.on kind s x ∷ js) scope rows fault h all =
      let v = at_rows b (with_source b.tables scope s) in
      from_fits js (with_source b.tables scope s) (joined_rows kind (holds v x) (length (row_of scope)) (length (columns_given b.tables s)) rows (rows_from b s)) (join fault (faults_by (fault_at v x) (pairs rows (rows_from b s)))) h.2
      (join_fits scope s h.0 kind (holds v x) rows all)

  pub first_fits : (s : Source) → IsSourceTyped b.tables [] s → RowsFit (row_of (with_source b.tables [] s)) (rows_from b s)
  first_fits s h = subst (λ ks. RowsFit ks (rows_from b s)) (sym (kinds_now [] s h)) (table_fits [] s h)

  kept_fits : (v : View) (w : Option Exp) (ks : List Kind) (rows : List Row) → RowsFit ks rows → RowsFit ks (kept v w rows)
  kept_fits v None ks rows all = all
  kept_fits v (Some e) ks rows all = AllByRecursion-filter (λ r. fits_kinds ks r ≡ true) (holds v e) rows all

  -- the rows that FROM gives and WHERE keeps
  pub source_rows_fit : (s : SelectTree) (rows : List Row) → IsSelectTyped b.settings b.tables s → source_rows b s ≡ Ok rows → RowsFit (row_of (scope_of b.tables s)) rows
  source_rows_fit s rows h is =
      let f = joined b s in
      let all = from_fits s.joins (first_scope b.tables s) (rows_from b s.source) None h.joins (first_fits s.source h.source) in
      subst (RowsFit (row_of (scope_of b.tables s))) (unless_ok (join f.fault (condition_fault (at_rows b f.scope) s.condition f.rows)) (kept (at_rows b f.scope) s.condition f.rows) rows is)
      (kept_fits (at_rows b f.scope) s.condition (row_of (scope_of b.tables s)) f.rows all)
