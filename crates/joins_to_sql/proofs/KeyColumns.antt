-- The columns of a table of identifiers.
use Rattle.std.proofs.Common.{◌≡◌, ◌≤◌, Bool, true, false, cond, not, List, [], ◌∷◌, ◌++◌, length, map, refl, ap, sym, ◌∙◌, subst, arith, append-nil}
use Rattle.std.specs.List.{AllByRecursion, filter}
use Rattle.vtl_lists.proofs.Alls.{all_front, all_more}
use Rattle.vtl_lists.proofs.Sorts.{AllByRecursion-map}
use Rattle.vtl_cell.specs.Row.{Row, same_row}
use Rattle.vtl_cell.specs.declared.cell.Cell.TheVariants as c
use Rattle.vtl_rows.specs.Tables.{cells_at}
use Rattle.vtl_cell.specs.Literals.{is_null_kind}
use Rattle.vtl_tree.specs.DataSet.{is_point}
use Rattle.vtl_tree.specs.Structure.{IsStructure, columns_of, most_components, same_role}
use Rattle.vtl_tree.specs.declared.structure.Component.{Component}
use Rattle.vtl_tree.specs.declared.structure.Role.TheVariants as role
use Rattle.vtl_tree.specs.declared.structure.Structure.{Structure}
use Rattle.vtl_tuples.specs.Keys.{each_once}
use Rattle.vtl_tuples.proofs.Lists.{filter_each, filter-map}
use Rattle.vtl_tree.specs.Columns.{identifiers_of, others_of, places_in}
use Rattle.vtl_meaning.specs.Made.{HasIdentifiers}
use Rattle.vtl_meaning.proofs.Places.{IsIdentifier, all_of_map, are_identifiers, columns_split, identifier_role, identifiers_apart}
use Rattle.vtl_meaning.proofs.JoinPartners.{all_pass}
use Rattle.sql_lexer.specs.Spelling.{is_name}
use Rattle.sql_tree.specs.Formed.{IsName}
use Rattle.selects_to_sql.specs.Writable.{HaveNames}
use Rattle.joins_to_sql.specs.FullJoins.{key_structure, or_spare, spare}
use Rattle.selects_to_sql.proofs.Givens.{AreGiven}
use Rattle.selects_to_sql.proofs.Identifiers.{few_identifiers}
use Rattle.selects_to_sql.proofs.OneOperand.{own_cells}
use Rattle.selects_to_sql.proofs.Sources.{AreApart}
use lib.Utf8.{encode}

-- ---- identifiers alone

pub keep_none : (t : Component → Bool) (xs : List Component) → AllByRecursion (λ x. t x ≡ false) xs → filter t xs ≡ []
keep_none t [] all = refl
keep_none t (x ∷ xs) all = ap (λ b. cond b (x ∷ filter t xs) (filter t xs)) all.0 ∙ keep_none t xs all.1

abbrev pub AllIdentifiers : List Component → Type 0
AllIdentifiers ids = AllByRecursion IsIdentifier ids

abbrev with_them : List Component → Structure
with_them ids = record { components = or_spare ids }

pub key_columns : (ids : List Component) → AllIdentifiers ids → columns_of (with_them ids) ≡ or_spare ids
key_columns [] all = refl
key_columns (x ∷ xs) all =
    let ids = x ∷ xs in
    let measures = keep_none (λ y. same_role y.role role.Measure) ids (all_more IsIdentifier (λ y. same_role y.role role.Measure ≡ false) (λ y h. ap (λ r. same_role r role.Measure) (identifier_role y.role h)) ids all) in
    let attributes = keep_none (λ y. same_role y.role role.Attribute) ids (all_more IsIdentifier (λ y. same_role y.role role.Attribute ≡ false) (λ y h. ap (λ r. same_role r role.Attribute) (identifier_role y.role h)) ids all) in
    ap (λ l. (l ++ filter (λ y. same_role y.role role.Measure) ids) ++ filter (λ y. same_role y.role role.Attribute) ids) (all_pass (λ y. same_role y.role role.Identifier) ids all)
    ∙ ap (λ l. (ids ++ l) ++ filter (λ y. same_role y.role role.Attribute) ids) measures
    ∙ ap (λ l. (ids ++ []) ++ l) attributes
    ∙ append-nil (ids ++ [])
    ∙ append-nil ids

pub key_identifiers : (ids : List Component) → AllIdentifiers ids → identifiers_of (with_them ids) ≡ ids
key_identifiers [] all = refl
key_identifiers (x ∷ xs) all = all_pass (λ y. same_role y.role role.Identifier) (x ∷ xs) all

spare_is_name : IsName spare.name
unfolding is_name encode
spare_is_name = refl

-- ---- a structure of them

key_few : (ids : List Component) → length ids ≤ most_components → length (or_spare ids) ≤ most_components
key_few [] h = omega arith
key_few (x ∷ xs) h = h

key_some : (ids : List Component) → 1 ≤ length (or_spare ids)
key_some [] = omega arith
key_some (x ∷ xs) = omega arith

key_apart : (ids : List Component) → AreApart ids → AreApart (or_spare ids)
key_apart [] h = refl
key_apart (x ∷ xs) h = h

pub key_named : (ids : List Component) → HaveNames ids → HaveNames (or_spare ids)
key_named [] h = (spare_is_name, tt)
key_named (x ∷ xs) h = h

key_kinds : (ids : List Component) → AllByRecursion (λ y. is_null_kind y.kind ≡ false) ids → AllByRecursion (λ y. is_null_kind y.kind ≡ false) (or_spare ids)
key_kinds [] h = (refl, tt)
key_kinds (x ∷ xs) h = h

-- identifiers with distinct names, of which there are not too many
pub keys_are_structure : (r : Structure) → length (identifiers_of r) ≤ most_components → AreApart (identifiers_of r) → IsStructure (key_structure r)
keys_are_structure r low apart = record {
  some = key_some (identifiers_of r);
  few = key_few (identifiers_of r) low;
  distinct = key_apart (identifiers_of r) apart;
}

pub key_is_structure : (r : Structure) → IsStructure r → IsStructure (key_structure r)
key_is_structure r w = keys_are_structure r (few_identifiers r w) (identifiers_apart r w)

pub identifiers_named : (r : Structure) → HaveNames (columns_of r) → HaveNames (identifiers_of r)
identifiers_named r n = all_front (λ x. IsName x.name) (identifiers_of r) (others_of r) (subst HaveNames (columns_split r) n)

-- its columns can be those of a table
pub keys_given : (r : Structure) → length (identifiers_of r) ≤ most_components → AreApart (identifiers_of r) → HaveNames (identifiers_of r) → AllByRecursion (λ y. is_null_kind y.kind ≡ false) (identifiers_of r) → AreGiven (columns_of (key_structure r))
keys_given r few apart named kinds =
    let ids = identifiers_of r in
    let low = key_few ids few in
    subst AreGiven (sym (key_columns ids (are_identifiers r))) (record {
      apart = key_apart ids apart;
      kinds = key_kinds ids kinds;
      few = omega (arith, low);
      some = key_some ids;
      named = key_named ids named;
    })

pub key_given : (r s : Structure) → IsStructure r → HaveNames (columns_of r) → HasIdentifiers s (identifiers_of r) → AreGiven (columns_of s) → AreGiven (columns_of (key_structure r))
key_given r s w n i given =
    let ids = identifiers_of r in
    let theirs : AllByRecursion (λ y. is_null_kind y.kind ≡ false) (identifiers_of s) = all_front (λ y. is_null_kind y.kind ≡ false) (identifiers_of s) (others_of s) (subst (AllByRecursion (λ y. is_null_kind y.kind ≡ false)) (columns_split s) given.kinds) in
    let kinds : AllByRecursion (λ y. is_null_kind y.kind ≡ false) ids = all_of_map (λ y. y.kind) (λ q. is_null_kind q ≡ false) ids (subst (AllByRecursion (λ q. is_null_kind q ≡ false)) i.1 (AllByRecursion-map (λ y. y.kind) (λ q. is_null_kind q ≡ false) (identifiers_of s) theirs)) in
    keys_given r (few_identifiers r w) (identifiers_apart r w) (identifiers_named r n) kinds

-- ---- its rows

-- a tuple of identifiers as a row
abbrev pub keyed : List Component → Row → Row
keyed [] key = c.Bool true ∷ key
keyed (x ∷ xs) key = key

pub keyed_point : (ids : List Component) (key : Row) → is_point ids key ≡ true → is_point (or_spare ids) (keyed ids key) ≡ true
keyed_point [] [] h = refl
keyed_point [] (v ∷ key) h = cc
keyed_point (x ∷ xs) key h = h

-- the tuple again
pub keyed_cells : (ids : List Component) (key : Row) → AreApart ids → is_point ids key ≡ true → cells_at (places_in (or_spare ids) ids) (keyed ids key) ≡ key
keyed_cells [] [] a h = refl
keyed_cells [] (v ∷ key) a h = cc
keyed_cells (x ∷ xs) key a h = own_cells (x ∷ xs) key a h

keyed_same : (ids : List Component) (j key : Row) → same_row (keyed ids j) (keyed ids key) ≡ same_row j key
keyed_same [] j key = refl
keyed_same (x ∷ xs) j key = refl

-- tuples each once
pub once_keyed : (ids : List Component) (keys : List Row) → each_once same_row (map (keyed ids) keys) ≡ map (keyed ids) (each_once same_row keys)
once_keyed ids [] = refl
once_keyed ids (key ∷ keys) =
    ap (λ l. keyed ids key ∷ filter (λ y. not (same_row (keyed ids key) y)) l) (once_keyed ids keys)
    ∙ ap (λ l. keyed ids key ∷ l)
    (filter-map (λ y. not (same_row (keyed ids key) y)) (keyed ids) (each_once same_row keys)
    ∙ ap (map (keyed ids)) (filter_each (λ y. not (same_row (keyed ids key) (keyed ids y))) (λ y. not (same_row key y)) (λ y. ap not (keyed_same ids key y)) (each_once same_row keys)))
