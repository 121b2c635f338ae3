-- What the sources of a select know of themselves.
use Rattle.std.proofs.Common.{◌≡◌, ℕ, zero, suc, ◌+◌, ◌<◌, ◌≤◌, [], ◌∷◌, ◌++◌, map, length, Bool, true, false, cond, ◌||◌, Option, Some, None, IsSome, arith, refl, sym, ap, ◌∙◌, subst, length-append}
use Rattle.std.specs.List.{list_any}
use Rattle.std.specs.Map.{keys_of}
use Rattle.std.specs.Option.{option_map}
use Rattle.std.specs.Prelude.{IfSome, option_and_then, slice_get, unwrap_or}
use Rattle.std.proofs.lemmas.List.{append-nil, length-map}
use Rattle.vtl_text.specs.Texts.{same_text}
use Rattle.vtl_rows.specs.Named.{NamedTables, table_of}
use Rattle.vtl_rows.specs.Tables.{Listed}
use Rattle.sql_tree.specs.Trees.{Text}
use Rattle.sql_tree.specs.declared.parts.Column.{Column}
use Rattle.sql_check_parts.specs.Scopes.{Columns, Named, columns_of, found, numbered, placed, placed_from, row_of, value_among}
use Rattle.vtl_cell.specs.declared.kind.Kind.{Kind}
use Rattle.vtl_rows.specs.declared.column.Column.{Column as TableColumn}
use Rattle.sql_meaning.specs.Tables.{column_entry}
use Rattle.sql_meaning.specs.Values.{inner_scope, place_in}
use Rattle.sql_from.specs.Held.{columns_held, tables_held}
use Rattle.sql_from.specs.Rows.{width_of}
use Rattle.sql_from.specs.Sources.{AreSited, parts_of, scope_held, source_of, table_named, or_nothing}
use Rattle.sql_from.specs.declared.sources.SourceTable.{SourceTable}

-- ---- tables by name

pub columns_are : (held : NamedTables) (name : Text) → columns_of (tables_held held) name ≡ option_map columns_held (table_of name held)
columns_are [] name = refl
columns_are (t ∷ held) name = go (same_text name t.0) (columns_are held name)
  where
    go : (b : Bool) → columns_of (tables_held held) name ≡ option_map columns_held (table_of name held) → cond b (Some (columns_held t.1)) (columns_of (tables_held held) name) ≡ option_map columns_held (cond b (Some t.1) (table_of name held))
    go true ih = refl
    go false ih = ih

pub table_there : (held : NamedTables) (name : Text) → IsSome (columns_of (tables_held held) name) → table_of name held ≡ Some (table_named held name)
table_there held name h = go (table_of name held) (subst IsSome (columns_are held name) h)
  where
    go : (o : Option Listed) → IsSome (option_map columns_held o) → o ≡ Some (or_nothing o)
    go None h = cc
    go (Some t) h = refl

pub keys_are : (ss : Named SourceTable) → keys_of (scope_held (map source_of ss)) ≡ keys_of ss
keys_are [] = refl
keys_are (s ∷ ss) = ap (λ l. s.0 ∷ l) (keys_are ss)

-- ---- one source more

pub sited_last : (n : ℕ) (ss : Named SourceTable) (alias : Text) (s : SourceTable) → AreSited n ss → s.first ≡ n + width_of (parts_of (map source_of ss)) → AreSited n (ss ++ (alias, s) ∷ [])
sited_last n [] alias s all here = let e : n + 0 ≡ n = omega arith in (here ∙ e, tt)
sited_last n (u ∷ ss) alias s all here =
    let e : n + (length u.1.table.now.columns + width_of (parts_of (map source_of ss))) ≡ n + length u.1.table.now.columns + width_of (parts_of (map source_of ss)) = omega arith in
    (all.0, sited_last (n + length u.1.table.now.columns) ss alias s all.1 (here ∙ e))

-- ---- look-ups

-- what a source knows of a column, by its kind and by its place in a row of FROM
abbrev pub kind_in : SourceTable → Column → Option Kind
kind_in s x = value_among (columns_held s.table.now) x.name

abbrev pub place_from : SourceTable → Column → Option ℕ
place_from s x = value_among (numbered s.first (columns_held s.table.now)) x.name

pub found_kind : (ss : Named SourceTable) (x : Column) → option_and_then (λ s. kind_in s x) (value_among ss x.source) ≡ found (scope_held (map source_of ss)) x
found_kind [] x = refl
found_kind (s ∷ ss) x = go (same_text x.source s.0) (found_kind ss x)
  where
    go : (b : Bool) → option_and_then (λ u. kind_in u x) (value_among ss x.source) ≡ found (scope_held (map source_of ss)) x
        → option_and_then (λ u. kind_in u x) (cond b (Some s.1) (value_among ss x.source))
        ≡ option_and_then (λ named. value_among named x.name) (cond b (Some (columns_held s.1.table.now)) (value_among (scope_held (map source_of ss)) x.source))
    go true ih = refl
    go false ih = ih

found_place_from : (n : ℕ) (ss : Named SourceTable) (x : Column) → AreSited n ss → option_and_then (λ s. place_from s x) (value_among ss x.source) ≡ found (placed_from n (scope_held (map source_of ss))) x
found_place_from n [] x all = refl
found_place_from n (s ∷ ss) x all =
    go (same_text x.source s.0) (found_place_from (n + length s.1.table.now.columns) ss x all.1 ∙ ap (λ k. found (placed_from k (scope_held (map source_of ss))) x) count)
  where
    count : n + length s.1.table.now.columns ≡ n + length (columns_held s.1.table.now)
    count = ap (λ k. n + k) (sym (length-map s.1.table.now.columns column_entry))

    go : (b : Bool) → option_and_then (λ u. place_from u x) (value_among ss x.source) ≡ found (placed_from (n + length (columns_held s.1.table.now)) (scope_held (map source_of ss))) x
        → option_and_then (λ u. place_from u x) (cond b (Some s.1) (value_among ss x.source))
        ≡ option_and_then (λ named. value_among named x.name) (cond b (Some (numbered n (columns_held s.1.table.now))) (value_among (placed_from (n + length (columns_held s.1.table.now)) (scope_held (map source_of ss))) x.source))
    go true ih = ap (λ k. value_among (numbered k (columns_held s.1.table.now)) x.name) all.0
    go false ih = ih

pub found_place : (ss : Named SourceTable) (x : Column) → AreSited 0 ss → option_and_then (λ s. place_from s x) (value_among ss x.source) ≡ found (placed (scope_held (map source_of ss))) x
found_place ss x all = found_place_from 0 ss x all

-- places from a number on are that number more than those from nought on
numbered_on : {V : Type 0} (n i : ℕ) (named : Named V) (name : Text) → value_among (numbered (n + i) named) name ≡ option_map (λ k. n + k) (value_among (numbered i named) name)
numbered_on n i [] name = refl
numbered_on {V = V} n i (e ∷ es) name = go (same_text name e.0) (ap (λ k. value_among (numbered k es) name) next ∙ numbered_on n (suc i) es name)
  where
    next : suc (n + i) ≡ n + suc i
    next = omega arith

    go : (b : Bool) → value_among (numbered (suc (n + i)) es) name ≡ option_map (λ k. n + k) (value_among (numbered (suc i) es) name)
        → cond b (Some (n + i)) (value_among (numbered (suc (n + i)) es) name) ≡ option_map (λ k. n + k) (cond b (Some i) (value_among (numbered (suc i) es) name))
    go true ih = refl
    go false ih = ih

pub place_moved : (s : SourceTable) (x : Column) → place_from s x ≡ option_map (λ k. s.first + k) (value_among (numbered 0 (columns_held s.table.now)) x.name)
place_moved s x = let e : s.first ≡ s.first + 0 = omega arith in ap (λ n. value_among (numbered n (columns_held s.table.now)) x.name) e ∙ numbered_on s.first 0 (columns_held s.table.now) x.name

-- a place is within
numbered_within : {V : Type 0} (i : ℕ) (named : Named V) (name : Text) → IfSome (value_among (numbered i named) name) (λ k. k < i + length named)
numbered_within i [] name = tt
numbered_within {V = V} i (e ∷ es) name = go (same_text name e.0) (value_among (numbered (suc i) es) name) (numbered_within (suc i) es name)
  where
    go : (b : Bool) (o : Option ℕ) → IfSome o (λ k. k < suc i + length es) → IfSome (cond b (Some i) o) (λ k. k < i + suc (length es))
    go true o h = omega arith
    go false None h = tt
    go false (Some k) h = omega (arith, h)

source_within : (n : ℕ) (ss : Named SourceTable) (key : Text) → AreSited n ss → IfSome (value_among ss key) (λ s. s.first + length s.table.now.columns ≤ n + width_of (parts_of (map source_of ss)))
source_within n [] key all = tt
source_within n (u ∷ ss) key all = go (same_text key u.0) (value_among ss key) (source_within (n + length u.1.table.now.columns) ss key all.1)
  where
    go : (b : Bool) (o : Option SourceTable) → IfSome o (λ s. s.first + length s.table.now.columns ≤ n + length u.1.table.now.columns + width_of (parts_of (map source_of ss)))
        → IfSome (cond b (Some u.1) o) (λ s. s.first + length s.table.now.columns ≤ n + (length u.1.table.now.columns + width_of (parts_of (map source_of ss))))
    go true o h = let e = all.0 in omega (arith, e)
    go false None h = tt
    go false (Some s) h = omega (arith, h)

pub place_within : (ss : Named SourceTable) (x : Column) (s : SourceTable) (k : ℕ) → AreSited 0 ss → value_among ss x.source ≡ Some s → value_among (numbered 0 (columns_held s.table.now)) x.name ≡ Some k → s.first + k < width_of (parts_of (map source_of ss))
place_within ss x s k all e f =
    let there = subst (λ o. IfSome o (λ u. u.first + length u.table.now.columns ≤ 0 + width_of (parts_of (map source_of ss)))) e (source_within 0 ss x.source all) in
    let here = subst (λ o. IfSome o (λ i. i < 0 + length (columns_held s.table.now))) f (numbered_within 0 (columns_held s.table.now) x.name) in
    let many = length-map s.table.now.columns column_entry in
    omega (arith, there, here, many)

-- ---- widths

pub row_wide : (sources : NamedTables) → length (row_of (scope_held sources)) ≡ width_of (parts_of sources)
row_wide [] = refl
row_wide (s ∷ ss) =
    let all = length-append (map (λ e. e.1) (columns_held s.1)) (row_of (scope_held ss)) in
    let one = length-map (columns_held s.1) (λ e. e.1) in
    let two = length-map s.1.columns column_entry in
    let rest = row_wide ss in
    omega (arith, all, one, two, rest)

pub part_got : (ss : Named SourceTable) (i : ℕ) (key : Text) (s : SourceTable) → slice_get ss i ≡ Some (key, s) → slice_get (parts_of (map source_of ss)) i ≡ Some s.table.now
part_got [] i key s e = cc
part_got (u ∷ ss) zero key s e = let h : u ≡ (key, s) = cc in ap (λ (v : Text × SourceTable). Some v.1.table.now) h
part_got (u ∷ ss) (suc i) key s e = part_got ss i key s e

-- ---- the table of EXISTS

module _ (alias : Text) (x : Column) where
  abbrev place_alone : Option Columns → ℕ
  place_alone columns = place_in (inner_scope (record { alias = alias; columns = columns })) x

  pub inner_nowhere : (known : Option Columns) → known ≡ None → 0 ≡ place_alone known
  inner_nowhere known e = sym (ap place_alone e ∙ go (same_text x.source alias))
    where
      go : (b : Bool) → unwrap_or (option_and_then (λ named. value_among named x.name) (cond b (Some (numbered {V = Kind} 0 [])) None)) 0 ≡ 0
      go true = refl
      go false = refl

pub source_got : (ss : Named SourceTable) (i : ℕ) (key : Text) (s : SourceTable) → slice_get ss i ≡ Some (key, s) → slice_get (map source_of ss) i ≡ Some (key, s.table.now)
source_got [] i key s e = cc
source_got (u ∷ ss) zero key s e = let h : u ≡ (key, s) = cc in ap (λ (v : Text × SourceTable). Some (v.0, v.1.table.now)) h
source_got (u ∷ ss) (suc i) key s e = source_got ss i key s e
