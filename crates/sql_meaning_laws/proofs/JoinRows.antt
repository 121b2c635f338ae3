-- The rows of a join are the pairs that pass and the rows that meet none; the pairs of an equality join have equal cells.
use Rattle.std.specs.Prelude.{filter}
use Rattle.std.specs.List.{AllByRecursion, flat_map, list_all, list_any}
use Rattle.std.specs.Ordering.{is_eq}
use Rattle.std.proofs.Common.{◌≡◌, ℕ, Bool, true, false, not, cond, ◌&&◌, ◌||◌, List, [], ◌∷◌, ◌++◌, map, length, Ok, refl, sym, ap, ◌∙◌, subst, append_assoc, true≢false}
use Rattle.vtl_lists.specs.Perm.{Perm, empty, keep, chain}
use Rattle.vtl_lists.proofs.Perms.{Perm-append_back, Perm-append_front, Perm-middle, Perm-same, Perm-sym}
use Rattle.vtl_tuples.proofs.Lists.{filter-flat_map, filter-map, flat_map_each}
use Rattle.vtl_cell.specs.Outcomes.{is_true}
use Rattle.vtl_cell.specs.Row.{Row}
use Rattle.vtl_cell.specs.ScalarComparison.{compared, truth}
use Rattle.vtl_cell.specs.declared.cell.Cell.{Cell}
use Rattle.vtl_cell.specs.declared.cell.Cell.TheVariants as c
use Rattle.vtl_cell.specs.declared.operator.ScalarOp.TheVariants as op
use Rattle.vtl_decimal.specs.Settings.{Settings}
use Rattle.sql_tree.specs.Trees as tree
use Rattle.sql_tree.specs.Trees.{Exp, Text}
use Rattle.sql_tree.specs.declared.parts.Source.{Source}
use Rattle.sql_tree.specs.declared.word_groups.JoinKind.{JoinKind}
use Rattle.sql_tree.specs.declared.word_groups.JoinKind.TheVariants as joining
use Rattle.sql_check_parts.specs.Kinds.{kind_in}
use Rattle.sql_check_parts.specs.Scopes.{row_of}
use Rattle.sql_meaning.specs.From.{Joined, beside, holds, joined_rows, nulls, or_alone, partners, partners_or_alone, with_join}
use Rattle.sql_meaning.specs.Plans.{IsEqualityJoin, are_sides, conjuncts, is_side_equality}
use Rattle.sql_meaning.specs.Tables.{Base, columns_given, rows_from}
use Rattle.sql_meaning.specs.Values.{View, cell_at}
use Rattle.sql_meaning.proofs.IndexedJoins.{index_same, truth_stays}
use Rattle.sql_meaning_laws.specs.Joins.{are_equal, has_equal_cells, have_equal_cells, joined_with, left_alone, matched, right_alone, rows_joined, view_of}

-- ---- pairs, and rows alone

abbrev is_empty : {X : Type 0} → List X → Bool
is_empty [] = true
is_empty (x ∷ xs) = false

any_kept : {X : Type 0} (t : X → Bool) (xs : List X) → list_any t xs ≡ not (is_empty (filter t xs))
any_kept t [] = refl
any_kept t (x ∷ xs) = go (t x) (any_kept t xs)
  where
    go : (b : Bool) → list_any t xs ≡ not (is_empty (filter t xs)) → (b || list_any t xs) ≡ not (is_empty (cond b (x ∷ filter t xs) (filter t xs)))
    go true ih = refl
    go false ih = ih

module _ (test : Row → Bool) where
  abbrev pass : Row → Row → Bool
  pass x y = test (x ++ y)

  pub inner_is : (left right : List Row) → flat_map (partners pass beside right) left ≡ matched test left right
  inner_is left right =
      flat_map_each (partners pass beside right) (λ x. filter test (map (beside x) right)) (λ x. sym (filter-map test (beside x) right)) left
      ∙ sym (filter-flat_map test (λ x. map (beside x) right) left)

  abbrev pad : ℕ → Row → Row
  pad m x = x ++ nulls m

  abbrev lonely : List Row → Row → Bool
  lonely right x = not (list_any (pass x) right)

  -- a row on the left that meets some, or none
  one_is : (m : ℕ) (x : Row) (met rest inner kept : List Row) → Perm rest (inner ++ map (pad m) kept)
      → Perm (or_alone (map (beside x) met) (pad m x) ++ rest) ((map (beside x) met ++ inner) ++ map (pad m) (cond (not (not (is_empty met))) (x ∷ kept) kept))
  one_is m x [] rest inner kept ih = chain (keep (pad m x) ih) (Perm-sym (Perm-middle inner (pad m x) (map (pad m) kept)))
  one_is m x (y ∷ met) rest inner kept ih =
      let pairs_met = map (beside x) (y ∷ met) in
      chain (Perm-append_front pairs_met ih) (Perm-same (pairs_met ++ (inner ++ map (pad m) kept)) ((pairs_met ++ inner) ++ map (pad m) kept) (sym (append_assoc pairs_met inner (map (pad m) kept))))

  left_is : (m : ℕ) (right left : List Row) → Perm (flat_map (partners_or_alone pass beside (pad m) right) left) (flat_map (partners pass beside right) left ++ left_alone test m left right)
  left_is m right [] = empty
  left_is m right (x ∷ left) =
      let rest = flat_map (partners_or_alone pass beside (pad m) right) left in
      let inner = flat_map (partners pass beside right) left in
      let kept = filter (lonely right) left in
      subst (λ b. Perm (partners_or_alone pass beside (pad m) right x ++ rest) ((partners pass beside right x ++ inner) ++ map (pad m) (cond (not b) (x ∷ kept) kept))) (sym (any_kept (pass x) right))
      (one_is m x (filter (pass x) right) rest inner kept (left_is m right left))

  lefts : (m : ℕ) (left right : List Row) → Perm (flat_map (partners_or_alone pass beside (pad m) right) left) (matched test left right ++ left_alone test m left right)
  lefts m left right = subst (λ l. Perm (flat_map (partners_or_alone pass beside (pad m) right) left) (l ++ left_alone test m left right)) (inner_is left right) (left_is m right left)

  pub rows_are : (kind : JoinKind) (n m : ℕ) (left right : List Row) → Perm (joined_rows kind test n m left right) (rows_joined kind test n m left right)
  rows_are joining.Inner n m left right = Perm-same (joined_rows joining.Inner test n m left right) (matched test left right) (inner_is left right)
  rows_are joining.Left n m left right = lefts m left right
  rows_are joining.Full n m left right =
      chain (Perm-append_back (right_alone test n left right) (lefts m left right))
      (Perm-same ((matched test left right ++ left_alone test m left right) ++ right_alone test n left right) (rows_joined joining.Full test n m left right)
      (append_assoc (matched test left right) (left_alone test m left right) (right_alone test n left right)))

pub sources_are : (b : Base) (f : Joined) (kind : JoinKind) (s : Source) (e : Exp) → Perm (with_join b f (tree.on kind s e)).rows (joined_with b f kind s (holds (view_of b f s) e))
sources_are b f kind s e = rows_are (holds (view_of b f s) e) kind (length (row_of f.scope)) (length (columns_given b.tables s)) f.rows (rows_from b s)

-- ---- equalities

-- an equality is true of two cells that are equal
equal_is : (p : Settings) (x y : Cell) → is_true (Ok (truth (compared is_eq p x y))) ≡ are_equal p x y
equal_is p c.Null c.Null = refl
equal_is p x c.Null = refl
equal_is p x y = refl

module _ (v : View) (r : Row) (alias : Text) where
  sides : (x y : Exp) → are_sides alias x y ≡ true → holds v (tree.binary x op.Equal y) r ≡ has_equal_cells v r (tree.binary x op.Equal y)
  sides (tree.column x) (tree.column y) h =
      let p = v.base.settings in
      ap is_true (truth_stays p (kind_in v.scope (tree.binary (tree.column x) op.Equal (tree.column y))) (compared is_eq p (cell_at v r x) (cell_at v r y)))
      ∙ equal_is p (cell_at v r x) (cell_at v r y)
  sides x y h = absurd (true≢false (sym h))

  equality : (e : Exp) → is_side_equality alias e ≡ true → holds v e r ≡ has_equal_cells v r e
  equality (tree.binary x op.Equal y) h = sides x y h
  equality e h = absurd (true≢false (sym h))

  equalities : (es : List Exp) → AllByRecursion (λ e. is_side_equality alias e ≡ true) es → list_all (λ e. holds v e r) es ≡ have_equal_cells v es r
  equalities [] all = refl
  equalities (e ∷ es) all = λ i. equality e all.0 i && equalities es all.1 i

pub equal_rows : (b : Base) (f : Joined) (kind : JoinKind) (s : Source) (e : Exp) → IsEqualityJoin (tree.on kind s e)
    → Perm (with_join b f (tree.on kind s e)).rows (joined_with b f kind s (have_equal_cells (view_of b f s) (conjuncts e)))
equal_rows b f kind s e h =
    let v = view_of b f s in
    let each : Row → Bool = λ r. list_all (λ x. holds v x r) (conjuncts e) in
    let same : each ≡ have_equal_cells v (conjuncts e) = λ i r. equalities v r s.alias (conjuncts e) h i in
    let indexed = rows_are each kind (length (row_of f.scope)) (length (columns_given b.tables s)) f.rows (rows_from b s) in
    subst (λ t. Perm (with_join b f (tree.on kind s e)).rows (joined_with b f kind s t)) same
    (subst (λ (j : Joined). Perm j.rows (joined_with b f kind s each)) (index_same b f (tree.on kind s e) h) indexed)

pub equal_faults : (b : Base) (f : Joined) (kind : JoinKind) (s : Source) (e : Exp) → IsEqualityJoin (tree.on kind s e) → (with_join b f (tree.on kind s e)).fault ≡ f.fault
equal_faults b f kind s e h = ap (λ (j : Joined). j.fault) (sym (index_same b f (tree.on kind s e) h))
