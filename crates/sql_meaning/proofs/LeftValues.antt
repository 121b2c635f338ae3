-- The value of an expression that names columns of the first sources alone is that at the first part of the row.
use Rattle.std.proofs.Common.{◌≡◌, ◌+◌, ◌<◌, ℕ, zero, suc, Bool, true, false, not, cond, ◌&&◌, ◌||◌, List, [], ◌∷◌, ◌++◌, map, length, get_or, Option, Some, None, Ok, refl, sym, ap, ◌∙◌, arith}
use Rattle.std.specs.Prelude.{option_and_then, unwrap_or, if◌then◌else◌}
use Rattle.std.specs.List.{AllByRecursion, flat_map, list_all, list_any}
use Rattle.std.specs.Map.{keys_of, lookup}
use Rattle.std.proofs.lemmas.List.{length-map}
use Rattle.vtl_cell.specs.Conversion.{as_kind}
use Rattle.vtl_cell.specs.Outcome.{Outcome, after}
use Rattle.vtl_cell.specs.Outcomes.{branch, first_chosen, is_true}
use Rattle.vtl_cell.specs.Row.{Row, column_of}
use Rattle.vtl_cell.specs.ScalarKinds.{common_kind}
use Rattle.vtl_cell.specs.Scalars.{scalar_of}
use Rattle.vtl_text.specs.Texts.{same_text}
use Rattle.vtl_cell.specs.declared.cell.Cell.{Cell}
use Rattle.vtl_cell.specs.declared.cell.Cell.TheVariants as c
use Rattle.vtl_cell.specs.declared.kind.Kind.{Kind}
use Rattle.vtl_cell.specs.declared.kind.Kind.TheVariants as k
use Rattle.vtl_cell.specs.declared.operator.ScalarOp.TheVariants as op
use Rattle.vtl_cell.specs.AggregateKinds.{aggregate_kind}
use Rattle.sql_tree.specs.Trees as tree
use Rattle.sql_tree.specs.Trees.{Branches, Exp, Exps, Text}
use Rattle.sql_tree.specs.declared.parts.Column.{Column}
use Rattle.sql_tree.specs.declared.parts.Equality.{Equality}
use Rattle.sql_check_parts.specs.Exists.{Inner, inner_of, is_inner}
use Rattle.sql_check_parts.specs.Kinds.{given_kind, kind_in, kinds_in, value_kinds}
use Rattle.sql_check_parts.specs.Scopes.{Named, Scope, Sources, found, is_among, numbered, or_null, placed, placed_from, row_of, value_among}
use Rattle.sql_meaning.specs.Early.{NamesOnly, columns_in, columns_of, columns_within, outer_columns, outer_of}
use Rattle.sql_meaning.specs.Outcomes.{operated}
use Rattle.sql_meaning.specs.Tables.{Base, rows_from}
use Rattle.sql_meaning.specs.Values.{View, at_rows, cell_at, chosen, inner_scope, is_tied, literal_cell, null_test, place_in, set_operator, side_cell, value, values}
use Rattle.sql_meaning.proofs.Lists.{all_parted}

-- ---- look-ups

-- what is found among the first sources
found_left : {V : Type 0} (ss more : Sources V) (x : Column) → is_among x.source (keys_of ss) ≡ true → found (ss ++ more) x ≡ found ss x
found_left [] more x h = cc
found_left {V = V} (s ∷ ss) more x h = go (same_text x.source s.0) h (found_left ss more x)
  where
    go : (t : Bool) → (t || is_among x.source (keys_of ss)) ≡ true → (is_among x.source (keys_of ss) ≡ true → found (ss ++ more) x ≡ found ss x)
        → option_and_then (λ named. value_among named x.name) (cond t (Some s.1) (lookup (same_text x.source) (ss ++ more))) ≡ option_and_then (λ named. value_among named x.name) (cond t (Some s.1) (lookup (same_text x.source) ss))
    go true e ih = refl
    go false e ih = ih e

placed_parts : {V : Type 0} (n : ℕ) (ss more : Sources V) → (rest : Sources ℕ) × (placed_from n (ss ++ more) ≡ placed_from n ss ++ rest)
placed_parts n [] more = (placed_from n more, refl)
placed_parts n (s ∷ ss) more = let ih = placed_parts (n + length s.1) ss more in (ih.0, ap (λ l. (s.0, numbered n s.1) ∷ l) ih.1)

placed_keys : {V : Type 0} (n : ℕ) (ss : Sources V) → keys_of (placed_from n ss) ≡ keys_of ss
placed_keys n [] = refl
placed_keys n (s ∷ ss) = ap (λ l. s.0 ∷ l) (placed_keys (n + length s.1) ss)

place_left : (ss more : Scope) (x : Column) → is_among x.source (keys_of ss) ≡ true → found (placed (ss ++ more)) x ≡ found (placed ss) x
place_left ss more x h =
    let parts = placed_parts 0 ss more in
    ap (λ l. found l x) parts.1 ∙ found_left (placed ss) parts.0 x (ap (is_among x.source) (placed_keys 0 ss) ∙ h)

-- a place lies within the row
numbered_within : {V : Type 0} (n : ℕ) (named : Named V) (name : Text) (i : ℕ) → value_among (numbered n named) name ≡ Some i → i < n + length named
numbered_within n [] name i e = cc
numbered_within n (x ∷ named) name i e = go (same_text name x.0) e (numbered_within (suc n) named name i)
  where
    go : (t : Bool) → cond t (Some n) (value_among (numbered (suc n) named) name) ≡ Some i → (value_among (numbered (suc n) named) name ≡ Some i → i < suc n + length named) → i < n + suc (length named)
    go true q ih = let same : n ≡ i = cc in omega (arith, same)
    go false q ih = let h = ih q in omega (arith, h)

longer_by : {V : Type 0} (xs ys : List V) → length (xs ++ ys) ≡ length xs + length ys
longer_by [] ys = omega arith
longer_by (x ∷ xs) ys = ap suc (longer_by xs ys) ∙ omega arith

placed_within : (n : ℕ) (ss : Scope) (x : Column) (i : ℕ) → found (placed_from n ss) x ≡ Some i → i < n + length (row_of ss)
placed_within n [] x i e = cc
placed_within n (s ∷ ss) x i e = go (same_text x.source s.0) e (placed_within (n + length s.1) ss x i)
  where
    size : length (row_of (s ∷ ss)) ≡ length s.1 + length (row_of ss)
    size = longer_by (map (λ e. e.1) s.1) (row_of ss) ∙ ap (λ m. m + length (row_of ss)) (length-map s.1 (λ e. e.1))

    go : (t : Bool) → option_and_then (λ named. value_among named x.name) (cond t (Some (numbered n s.1)) (lookup (same_text x.source) (placed_from (n + length s.1) ss))) ≡ Some i
        → (found (placed_from (n + length s.1) ss) x ≡ Some i → i < n + length s.1 + length (row_of ss)) → i < n + length (row_of (s ∷ ss))
    go true q ih = let h = numbered_within n s.1 x.name i q in omega (arith, h, size)
    go false q ih = let h = ih q in omega (arith, h, size)

-- ---- cells

past_end : (r : Row) → get_or r (length r) c.Null ≡ c.Null
past_end [] = refl
past_end (v ∷ r) = past_end r

front_cell : (x y : Row) (i : ℕ) → i < length x → get_or (x ++ y) i c.Null ≡ get_or x i c.Null
front_cell [] y i h = absurd (omega arith)
front_cell (v ∷ x) y zero h = refl
front_cell (v ∷ x) y (suc i) h = front_cell x y i (omega (arith, h))

module _ (b : Base) (scope more : Scope) (x y : Row) (first : length x ≡ length (row_of scope)) (whole : length (x ++ y) ≡ length (row_of (scope ++ more))) where
  abbrev narrow : View
  narrow = at_rows b scope

  abbrev wide : View
  wide = at_rows b (scope ++ more)

  abbrev IsLeft : Column → Type 0
  IsLeft z = is_among z.source (keys_of scope) ≡ true

  cell_left : (z : Column) → IsLeft z → cell_at wide (x ++ y) z ≡ cell_at narrow x z
  cell_left z h = ap (λ o. column_of (unwrap_or o (length (row_of (scope ++ more)))) (x ++ y)) (place_left scope more z h) ∙ go (found (placed scope) z) refl
    where
      go : (o : Option ℕ) → found (placed scope) z ≡ o → column_of (unwrap_or o (length (row_of (scope ++ more)))) (x ++ y) ≡ column_of (unwrap_or o (length (row_of scope))) x
      go None e = ap (λ n. get_or (x ++ y) n c.Null) (sym whole) ∙ past_end (x ++ y) ∙ sym (past_end x) ∙ ap (λ n. get_or x n c.Null) first
      go (Some i) e = let within = placed_within 0 scope z i e in front_cell x y i (omega (arith, within, first))

  -- ---- kinds

  mutual
    kind_left : (e : Exp) → AllByRecursion IsLeft (columns_in e) → kind_in (scope ++ more) e ≡ kind_in scope e
    kind_left (tree.binary a o d) h = let two = all_parted IsLeft (columns_in a) (columns_in d) h in λ i. given_kind o (kind_left a two.0 i ∷ kind_left d two.1 i ∷ [])
    kind_left (tree.unary o e) h = λ i. given_kind o (kind_left e h i ∷ [])
    kind_left (tree.is_null e negated) h = refl
    kind_left (tree.in_list e negated ls) h = refl
    kind_left (tree.constant z) h = refl
    kind_left (tree.column z) h = ap or_null (found_left scope more z h.0)
    kind_left (tree.call f es) h = ap (given_kind f) (kinds_left es h)
    kind_left tree.count_all h = refl
    kind_left (tree.aggregate f e) h = ap (λ z. or_null (aggregate_kind f z)) (kind_left e h)
    kind_left (tree.case_when bs e) h =
        let two = all_parted IsLeft (columns_within bs) (columns_in e) h in
        λ i. or_null (common_kind (branches_left bs two.0 (kind_in (scope ++ more) e ∷ []) (kind_in scope e ∷ []) (λ j. kind_left e two.1 j ∷ []) i))
    kind_left (tree.exists s es) h = refl

    kinds_left : (es : Exps) → AllByRecursion IsLeft (columns_of es) → kinds_in (scope ++ more) es ≡ kinds_in scope es
    kinds_left tree.no_exps h = refl
    kinds_left (tree.exp e es) h = let two = all_parted IsLeft (columns_in e) (columns_of es) h in λ i. kind_left e two.0 i ∷ kinds_left es two.1 i

    branches_left : (bs : Branches) → AllByRecursion IsLeft (columns_within bs) → (ks js : List Kind) → ks ≡ js → value_kinds (scope ++ more) bs ks ≡ value_kinds scope bs js
    branches_left tree.no_branches h ks js e = e
    branches_left (tree.branch z w bs) h ks js e =
        let one = all_parted IsLeft (columns_in z ++ columns_in w) (columns_within bs) h in
        let two = all_parted IsLeft (columns_in z) (columns_in w) one.0 in
        λ i. kind_left w two.1 i ∷ branches_left bs one.1 ks js e i

  -- ---- EXISTS

  side_left : (i : Inner) (inner : Row) (z : Column) → AllByRecursion IsLeft (outer_of i.alias z) → side_cell wide i (x ++ y) inner z ≡ side_cell narrow i x inner z
  side_left i inner z h = go (is_inner i z) h
    where
      go : (t : Bool) → AllByRecursion IsLeft (cond (not t) (z ∷ []) []) → (if t then column_of (place_in (inner_scope i) z) inner else cell_at wide (x ++ y) z) ≡ (if t then column_of (place_in (inner_scope i) z) inner else cell_at narrow x z)
      go true g = refl
      go false g = cell_left z g.0

  tied_left : (i : Inner) (inner : Row) (e : Equality) → AllByRecursion IsLeft (outer_columns i.alias e) → is_tied wide i (x ++ y) inner e ≡ is_tied narrow i x inner e
  tied_left i inner e h =
      let two = all_parted IsLeft (outer_of i.alias e.left) (outer_of i.alias e.right) h in
      λ n. is_true (scalar_of b.settings op.Equal (side_left i inner e.left two.0 n ∷ side_left i inner e.right two.1 n ∷ []))

  all_tied : (i : Inner) (inner : Row) (es : List Equality) → AllByRecursion IsLeft (flat_map (outer_columns i.alias) es) → list_all (is_tied wide i (x ++ y) inner) es ≡ list_all (is_tied narrow i x inner) es
  all_tied i inner [] h = refl
  all_tied i inner (e ∷ es) h =
      let two = all_parted IsLeft (outer_columns i.alias e) (flat_map (outer_columns i.alias) es) h in
      λ n. tied_left i inner e two.0 n && all_tied i inner es two.1 n

  -- ---- values

  mutual
    value_left : (e : Exp) → AllByRecursion IsLeft (columns_in e) → value wide e (x ++ y) [] ≡ value narrow e x []
    value_left (tree.binary a o d) h =
        let two = all_parted IsLeft (columns_in a) (columns_in d) h in
        λ i. operated b.settings (kind_left (tree.binary a o d) h i) (value_left a two.0 i ∷ value_left d two.1 i ∷ []) o
    value_left (tree.unary o e) h = λ i. operated b.settings (kind_left (tree.unary o e) h i) (value_left e h i ∷ []) o
    value_left (tree.is_null e negated) h = ap (null_test b.settings negated) (value_left e h)
    value_left (tree.in_list e negated ls) h = ap (λ m. operated b.settings k.Bool (m ∷ map (λ l. Ok (literal_cell b.settings l)) ls) (set_operator negated)) (value_left e h)
    value_left (tree.constant z) h = refl
    value_left (tree.column z) h = ap Ok (cell_left z h.0)
    value_left (tree.call f es) h = λ i. operated b.settings (kind_left (tree.call f es) h i) (values_left es h i) f
    value_left tree.count_all h = refl
    value_left (tree.aggregate f e) h = refl
    value_left (tree.case_when bs e) h =
        let two = all_parted IsLeft (columns_within bs) (columns_in e) h in
        λ i. after (chosen_left bs two.0 (value_left e two.1) i) (as_kind b.settings (kind_left (tree.case_when bs e) h i))
    value_left (tree.exists s es) h = λ i. Ok (c.Bool (list_any (λ inner. all_tied (inner_of b.tables s) inner es h i) (rows_from b s)))

    values_left : (es : Exps) → AllByRecursion IsLeft (columns_of es) → values wide es (x ++ y) [] ≡ values narrow es x []
    values_left tree.no_exps h = refl
    values_left (tree.exp e es) h = let two = all_parted IsLeft (columns_in e) (columns_of es) h in λ i. value_left e two.0 i ∷ values_left es two.1 i

    chosen_left : (bs : Branches) → AllByRecursion IsLeft (columns_within bs) → {m n : Outcome Cell} → m ≡ n → chosen wide bs (x ++ y) [] m ≡ chosen narrow bs x [] n
    chosen_left tree.no_branches h e = e
    chosen_left (tree.branch z w bs) h e =
        let one = all_parted IsLeft (columns_in z ++ columns_in w) (columns_within bs) h in
        let two = all_parted IsLeft (columns_in z) (columns_in w) one.0 in
        λ i. after (value_left z two.0 i) (λ t. branch (first_chosen t) (value_left w two.1 i) (chosen_left bs one.1 e i))

  pub value_narrow : (e : Exp) → NamesOnly (keys_of scope) e → value wide e (x ++ y) [] ≡ value narrow e x []
  value_narrow e h = value_left e h
