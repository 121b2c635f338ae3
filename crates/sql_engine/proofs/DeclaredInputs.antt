-- Inputs, and the structures that they declare.
use Rattle.std.proofs.Common.{◌≡◌, Bool, true, false, cond, not, List, [], ◌∷◌, ◌++◌, map, filter, length, Some, refl, sym, ap, ◌∙◌, subst, arith}
use Rattle.std.specs.Map.{keys_of}
use Rattle.std.specs.Cmp.Lexicographic.{nat_list_eq_equiv}
use Rattle.std.proofs.lemmas.List.{append-nil, length-map, map-append}
use Rattle.std.proofs.lemmas.List.Sorted.{IsPermutation-filter_both}
use Rattle.vtl_lists.proofs.Aparts.{all_apart-Perm}
use Rattle.vtl_lists.proofs.Perms.{Perm-from_IsPermutation, Perm-map, Perm-sym, length-Perm}
use Rattle.vtl_lists.specs.Apart.{all_apart}
use Rattle.vtl_lists.specs.Perm.{Perm}
use Rattle.vtl_text.specs.Texts.{same_text}
use Rattle.vtl_rows.specs.Named.{NamedTables, table_of}
use Rattle.vtl_rows.specs.Tables.{Listed, column_kinds}
use Rattle.vtl_tree.specs.Structure.{IsStructure, columns_of, names_of, same_role}
use Rattle.vtl_tree.specs.declared.structure.Role.TheVariants as role
use Rattle.vtl_sets.specs.TableOf.{IsTableOf, column_for, table_columns}
use Rattle.vtl_sets.proofs.TableLemmas.{point_fits}
use Rattle.sql_tree.specs.Trees.{Text}
use Rattle.sql_tree.specs.declared.statements.InputColumn.{InputColumn}
use Rattle.sql_tree.specs.declared.statements.SqlInput.{SqlInput}
use Rattle.sql_check_parts.specs.Statements as typing
use Rattle.sql_check_parts.specs.Statements.{in_table_order, input_columns, is_of_key}
use Rattle.sql_check_laws.specs.Statements.{IsDeclared}
use Rattle.sql_meaning.specs.Tables.{HasTable, RowsFit, column_entry, kinds_of, rows_of}
use Rattle.sql_meaning.proofs.Lists.{under}
use Rattle.sql_meaning.proofs.HeldTables.{kinds_are}
use Rattle.sql_engine.specs.InputTables.{IsInputTable}
use Rattle.sql_engine.specs.Structures.{component_of, structure_of}

-- ---- columns

module _ (key : List Text) where
  identifiers : (cs : List InputColumn) → filter (λ x. same_role x.role role.Identifier) (map (component_of key) cs) ≡ map (component_of key) (filter (is_of_key key) cs)
  identifiers [] = refl
  identifiers (c ∷ cs) = go (is_of_key key c) refl (identifiers cs)
    where
      go : (b : Bool) → is_of_key key c ≡ b → filter (λ x. same_role x.role role.Identifier) (map (component_of key) cs) ≡ map (component_of key) (filter (is_of_key key) cs)
          → cond (same_role (cond b role.Identifier role.Measure) role.Identifier) (component_of key c ∷ filter (λ x. same_role x.role role.Identifier) (map (component_of key) cs)) (filter (λ x. same_role x.role role.Identifier) (map (component_of key) cs))
          ≡ map (component_of key) (cond b (c ∷ filter (is_of_key key) cs) (filter (is_of_key key) cs))
      go true e ih = ap (λ l. component_of key c ∷ l) ih
      go false e ih = ih

  measures : (cs : List InputColumn) → filter (λ x. same_role x.role role.Measure) (map (component_of key) cs) ≡ map (component_of key) (filter (λ c. not (is_of_key key c)) cs)
  measures [] = refl
  measures (c ∷ cs) = go (is_of_key key c) refl (measures cs)
    where
      go : (b : Bool) → is_of_key key c ≡ b → filter (λ x. same_role x.role role.Measure) (map (component_of key) cs) ≡ map (component_of key) (filter (λ c. not (is_of_key key c)) cs)
          → cond (same_role (cond b role.Identifier role.Measure) role.Measure) (component_of key c ∷ filter (λ x. same_role x.role role.Measure) (map (component_of key) cs)) (filter (λ x. same_role x.role role.Measure) (map (component_of key) cs))
          ≡ map (component_of key) (cond (not b) (c ∷ filter (λ c. not (is_of_key key c)) cs) (filter (λ c. not (is_of_key key c)) cs))
      go true e ih = ih
      go false e ih = ap (λ l. component_of key c ∷ l) ih

  attributes : (cs : List InputColumn) → filter (λ x. same_role x.role role.Attribute) (map (component_of key) cs) ≡ []
  attributes [] = refl
  attributes (c ∷ cs) = go (is_of_key key c) (attributes cs)
    where
      go : (b : Bool) → filter (λ x. same_role x.role role.Attribute) (map (component_of key) cs) ≡ []
          → cond (same_role (cond b role.Identifier role.Measure) role.Attribute) (component_of key c ∷ filter (λ x. same_role x.role role.Attribute) (map (component_of key) cs)) (filter (λ x. same_role x.role role.Attribute) (map (component_of key) cs)) ≡ []
      go true ih = ih
      go false ih = ih

  entries : (cs : List InputColumn) → map column_entry (map column_for (map (component_of key) cs)) ≡ map typing.column_entry cs
  entries [] = refl
  entries (c ∷ cs) = ap (λ l. typing.column_entry c ∷ l) (entries cs)

  names : (cs : List InputColumn) → names_of (map (component_of key) cs) ≡ keys_of (map typing.column_entry cs)
  names [] = refl
  names (c ∷ cs) = ap (λ l. c.name ∷ l) (names cs)

table_order : (s : SqlInput) → columns_of (structure_of s) ≡ map (component_of s.key) (in_table_order s.key s.columns)
table_order s =
    let of_key = map (component_of s.key) (filter (is_of_key s.key) s.columns) in
    let others = map (component_of s.key) (filter (λ c. not (is_of_key s.key c)) s.columns) in
    (λ i. identifiers s.key s.columns i ++ measures s.key s.columns i ++ attributes s.key s.columns i)
    ∙ append-nil (of_key ++ others) ∙ sym (map-append (component_of s.key) (filter (is_of_key s.key) s.columns) (filter (λ c. not (is_of_key s.key c)) s.columns))

columns_are : (s : SqlInput) → map column_entry (table_columns (structure_of s)) ≡ input_columns s
columns_are s = ap (λ l. map column_entry (map column_for l)) (table_order s) ∙ entries s.key (in_table_order s.key s.columns)

-- ---- structures

same_columns : (key : List Text) (cs : List InputColumn) → Perm (in_table_order key cs) cs
same_columns key cs = Perm-sym (Perm-from_IsPermutation cs (in_table_order key cs) (IsPermutation-filter_both (is_of_key key) (λ c. not (is_of_key key c)) (λ c. refl) cs))

pub lawful_structure : (s : SqlInput) → IsDeclared s → IsStructure (structure_of s)
lawful_structure s d =
    let ordered = in_table_order s.key s.columns in
    let perm = same_columns s.key s.columns in
    let size : length (structure_of s).components ≡ length (input_columns s) = length-map s.columns (component_of s.key) ∙ sym (length-Perm perm) ∙ sym (length-map ordered typing.column_entry) in
    let some = d.some in
    let few = d.few in
    record {
      some = omega (arith, size, some);
      few = omega (arith, size, few);
      distinct = ap (all_apart same_text) (names s.key s.columns) ∙ sym (all_apart-Perm same_text (λ x y. nat_list_eq_equiv.symm x y) (Perm-map (λ x. x.0) (Perm-map typing.column_entry perm))) ∙ apart (all_apart same_text (keys_of (input_columns s))) d.names;
    }
  where
    apart : (b : Bool) → not b ≡ false → b ≡ true
    apart true e = refl
    apart false e = cc

-- ---- tables

pub table_is_input : (s : SqlInput) (tables : NamedTables) (t : Listed) → table_of s.name tables ≡ Some t → IsTableOf (structure_of s) t → IsInputTable tables s
table_is_input s tables t there is =
    let kinds : column_kinds (table_columns (structure_of s)) ≡ kinds_of (input_columns s) = kinds_are (table_columns (structure_of s)) ∙ ap kinds_of (columns_are s) in
    let fit = under (λ r h. point_fits (columns_of (structure_of s)) r h) t.rows is.points.typed in
    record {
      columns = subst (HasTable (input_columns s)) (sym there) (ap (map column_entry) is.columns ∙ columns_are s);
      fit = subst (λ o. RowsFit (kinds_of (input_columns s)) (rows_of o)) (sym there) (subst (λ ks. RowsFit ks t.rows) kinds fit);
    }
