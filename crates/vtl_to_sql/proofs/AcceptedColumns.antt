-- The columns of an expression that is made have names that SQL can write.
use Rattle.std.proofs.Common.{◌≡◌, ◌≤◌, inl, inr, ℕ, true, ◌&&◌, not, List, [], ◌∷◌, ◌++◌, length, refl, sym, ◌∙◌, subst, arith}
use Rattle.std.proofs.lemmas.Bool.{and_from, and_parts}
use Rattle.std.proofs.lemmas.Bool.Decides.{nat_tests}
use Rattle.std.proofs.lemmas.List.Folds.{list_all-append}
use Rattle.std.specs.List.{list_all}
use Rattle.std.specs.Prelude.{◌==◌}
use Rattle.std.specs.Char.{is_control}
use lib.Utf8.{encode}
use Rattle.vtl_text.specs.Words.{fits_name, is_component_character, is_component_name}
use Rattle.vtl_tree.specs.Joins.{marked}
use Rattle.vtl_tree.specs.Structure.{columns_of}
use Rattle.vtl_tree.specs.declared.renaming.Renaming.{Renaming}
use Rattle.vtl_tree.specs.declared.structure.Structure.{Structure}
use Rattle.vtl_meaning.proofs.FoundColumns.{of-columns}
use Rattle.vtl_meaning.proofs.Lists as lists
use Rattle.result_laws.proofs.Components.{ArePlain, IsGivenName, IsPlain}
use Rattle.result_laws.proofs.Words.{IsColumnName}
use Rattle.sql_lexer.specs.Spelling as sql
use Rattle.sql_lexer.specs.Spelling.{has_no_control, size, is_name as is_sql_name}
use Rattle.sql_lexer.proofs.NameParts.{size-append}
use Rattle.sql_tree.specs.Formed.{IsName}
use Rattle.selects_to_sql.specs.Writable.{HaveNames}
use Rattle.selects_to_sql.proofs.Names.{all_pass, component_is_name, component_is_no_control, fits}

-- ---- names behind aliases
column_parts : (x : List ℕ) → IsColumnName x → (size x ≤ 64) × (has_no_control x ≡ true)
unfolding is_component_name
column_parts x h =
    let one = and_parts (fits_name x) (not (length x == 0) && list_all is_component_character x) h in
    let two = and_parts (not (length x == 0)) (list_all is_component_character x) one.1 in
    (let fit = one.0 in grind (arith, nat_tests, fit), all_pass is_component_character (λ c. not (is_control c)) component_is_no_control x two.1)

mark_size : size (39 ∷ []) ≡ 1
unfolding encode
mark_size = refl

marked_is_name : (alias name : List ℕ) → IsColumnName alias → IsColumnName name → IsName (marked alias name)
unfolding is_sql_name
marked_is_name alias name ha hn =
    let a = column_parts alias ha in
    let n = column_parts name hn in
    let one = size-append (alias ++ 39 ∷ []) name in
    let two = size-append alias (39 ∷ []) in
    and_from (sql.fits_name (size (marked alias name))) (has_no_control (marked alias name))
    (fits (size (marked alias name)) (omega (arith, one, two, mark_size)) (omega (arith, one, two, mark_size, a.0, n.0)))
    (list_all-append (λ c. not (is_control c)) (alias ++ 39 ∷ []) name ∙ and_from (has_no_control (alias ++ 39 ∷ [])) (has_no_control name) (list_all-append (λ c. not (is_control c)) alias (39 ∷ []) ∙ and_from (has_no_control alias) true a.1 refl) n.1)

given_is_name : (rs : List Renaming) (name : List ℕ) → IsGivenName rs name → IsName name
given_is_name rs name (inl h) = component_is_name name h
given_is_name rs name (inr h) = subst IsName (sym h.0.is) (marked_is_name h.0.alias h.0.own h.0.alias_named h.0.own_named)

-- ---- columns
pub columns_named : (rs : List Renaming) (s : Structure) → ArePlain rs s.components → HaveNames (columns_of s)
columns_named rs s h = lists.weaker (IsPlain rs) (λ x. IsName x.name) (columns_of s) (λ x k. given_is_name rs x.name k.0) (of-columns (IsPlain rs) s h)
