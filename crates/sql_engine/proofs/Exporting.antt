-- The exports of a script, one after the other.
use Rattle.std.proofs.Common.{◌≡◌, ◌+◌, ◌<◌, ℕ, Bool, true, false, ◌||◌, List, [], ◌∷◌, ◌++◌, map, drop, get_or, length, Option, Some, None, IsSome, refl, sym, ap, ◌∙◌, subst, append_assoc}
use Rattle.std.specs.Prelude.{option_map, unwrap_or}
use Rattle.std.specs.Map.{keys_of}
use Rattle.std.specs.Cmp.Lexicographic.{nat_list_eq_equiv}
use Rattle.std.proofs.lemmas.List.{drop_more, map-append}
use Rattle.vtl_text.specs.Texts.{same_text}
use Rattle.vtl_rows.specs.Named.{NamedTables, table_of}
use Rattle.vtl_rows.specs.Tables.{Listed}
use Rattle.sql_tree.specs.Trees as tree
use Rattle.sql_tree.specs.Trees.{StatementTree, Text}
use Rattle.sql_tree.specs.View.{statement_tree}
use Rattle.sql_tree.specs.declared.statements.SqlExport.{SqlExport}
use Rattle.sql_tree.specs.declared.statements.Statement.{Statement}
use Rattle.sql_check_parts.specs.Scopes.{columns_of, is_among}
use Rattle.sql_check_laws.specs.Statements.{AreNames, IsOrder}
use Rattle.sql_from.specs.Held.{tables_held}
use Rattle.sql_engine.specs.Exported.{AreExported, exported_of, exports_in, no_listed, placed_by}
use Rattle.sql_engine.specs.declared.orders.RowOrder.{RowOrder}
use Rattle.sql_engine.proofs.TableLookups.{columns_in, columns_looked, free_name}

-- ---- one statement after the other

pub one_left : (ss : List Statement) (i : ℕ) (x : Statement) → i < length ss → x ≡ get_or ss i x → map statement_tree (drop i ss) ≡ statement_tree x ∷ map statement_tree (drop (i + 1) ss)
one_left ss i x h e = ap (map statement_tree) (drop_more ss i x h ∙ ap (λ (y : Statement). y ∷ drop (i + 1) ss) (sym e))

-- the exports so far are there, and the tables of the others are still to be taken
pub record Exporting (how : RowOrder) (tables : NamedTables) (all rest : List SqlExport) (owned out : NamedTables) : Type 0 where
  pub fits : AreExported (tables_held tables) (keys_of out) rest
  pub kept : (name : Text) → is_among name (keys_of out) ≡ false → table_of name owned ≡ table_of name tables
  pub whole : out ++ map (exported_of how tables) rest ≡ map (exported_of how tables) all

some_table : (name : Text) (tables : NamedTables) (o : Option Listed) → table_of name tables ≡ o → IsSome (columns_of (tables_held tables) name) → IsSome o
some_table name tables None e h = let q : IsSome (option_map columns_in None) = subst IsSome (columns_looked name tables ∙ ap (option_map columns_in) e) h in cc
some_table name tables (Some t) e h = refl

module _ (how : RowOrder) (tables : NamedTables) (all rest : List SqlExport) (s : SqlExport) (owned out : NamedTables) (x : Exporting how tables all (s ∷ rest) owned out) where
  pub owned_here : table_of s.name owned ≡ table_of s.name tables
  owned_here = x.kept s.name x.fits.1

  pub is_there : IsSome (table_of s.name owned)
  is_there = subst IsSome (sym owned_here) (some_table s.name tables (table_of s.name tables) refl x.fits.0)

  pub is_new : table_of s.name out ≡ None
  is_new = free_name s.name out x.fits.1

  module _ (t : Listed) (taken : table_of s.name owned ≡ Some t) where
    pub in_order : AreNames (columns_in t) s.order
    in_order = subst (λ o. IsOrder o s.order) (columns_looked s.name tables ∙ ap (option_map columns_in) (sym owned_here ∙ taken)) x.fits.2

    pub exported_more : (left : NamedTables) → ((name : Text) → same_text s.name name ≡ false → table_of name left ≡ table_of name owned) → Exporting how tables all rest left (out ++ (s.name, placed_by how s.order t) ∷ [])
    exported_more left others =
        let keys : keys_of (out ++ (s.name, placed_by how s.order t) ∷ []) ≡ keys_of out ++ s.name ∷ [] = map-append (λ (e : Text × Listed). e.0) out ((s.name, placed_by how s.order t) ∷ []) in
        let here : exported_of how tables s ≡ (s.name, placed_by how s.order t) = ap (λ (o : Option Listed). (s.name, placed_by how s.order (unwrap_or o no_listed))) (sym owned_here ∙ taken) in
        record {
          fits = subst (λ names. AreExported (tables_held tables) names rest) (sym keys) x.fits.3;
          kept = λ name h. let parts = none_of_both (keys_of out) (s.name ∷ []) name (ap (is_among name) (sym keys) ∙ h) in
              others name (nat_list_eq_equiv.symm s.name name ∙ or_false (same_text name s.name) parts.1) ∙ x.kept name parts.0;
          whole = append_assoc out ((s.name, placed_by how s.order t) ∷ []) (map (exported_of how tables) rest) ∙ ap (λ e. out ++ (e ∷ map (exported_of how tables) rest)) (sym here) ∙ x.whole;
        }
      where
        or_false : (b : Bool) → (b || false) ≡ false → b ≡ false
        or_false true q = q
        or_false false q = q

        none_of_both : (xs ys : List Text) (name : Text) → is_among name (xs ++ ys) ≡ false → (is_among name xs ≡ false) × (is_among name ys ≡ false)
        none_of_both [] ys name h = (refl, h)
        none_of_both (y ∷ xs) ys name h = at (same_text name y) (none_of_both xs ys name) h
          where
            at : (b : Bool) → (is_among name (xs ++ ys) ≡ false → (is_among name xs ≡ false) × (is_among name ys ≡ false)) → (b || is_among name (xs ++ ys)) ≡ false → ((b || is_among name xs) ≡ false) × (is_among name ys ≡ false)
            at true ih q = cc
            at false ih q = ih q

-- the next statement is an EXPORT
pub export_left : (ss : List Statement) (i : ℕ) (x : Statement) (s : SqlExport) → i < length ss → x ≡ get_or ss i x → statement_tree x ≡ tree.export s → exports_in (map statement_tree (drop i ss)) ≡ s ∷ exports_in (map statement_tree (drop (i + 1) ss))
export_left ss i x s h e is = ap exports_in (one_left ss i x h e ∙ ap (λ t. t ∷ map statement_tree (drop (i + 1) ss)) is)
