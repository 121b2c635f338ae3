-- Points that agree, where one operand has all identifiers of the other: then the point that agrees is the partner.
use Rattle.std.proofs.Common.{◌≡◌, List, [], ◌∷◌, Bool, true, false, ◌||◌, cond, Some, refl, sym, ap, ◌∙◌, ℕ, take, true≢false}
use Rattle.std.specs.List.{AllByRecursion, filter, find, list_all}
use Rattle.std.specs.Option.{option_map_or}
use Rattle.std.proofs.lemmas.Bool.{and_parts}
use Rattle.vtl_lists.proofs.Alls.{all_filtered, all_more}
use Rattle.vtl_cell.specs.Kinds.{same_kind}
use Rattle.vtl_cell.specs.Row.{Row, same_row}
use Rattle.vtl_tree.specs.DataSet.{IsDataSet, is_point, look}
use Rattle.vtl_tree.specs.Environment.{DataSet}
use Rattle.vtl_tree.specs.Structure.{IsStructure, columns_of, key_width, names_of, same_name, same_role}
use Rattle.vtl_tree.specs.declared.structure.Component.{Component}
use Rattle.vtl_tree.specs.declared.structure.Role.{Role}
use Rattle.vtl_tree.specs.declared.structure.Role.TheVariants as role
use Rattle.vtl_tree.specs.declared.structure.Structure.{Structure}
use Rattle.vtl_tree.specs.Names.{component_of, is_among}
use Rattle.vtl_tree.specs.Operands.{is_alike, is_there}
use Rattle.vtl_tree.specs.Pairs.{contains}
use Rattle.vtl_tree.specs.declared.operands.Compared.TheVariants as compared
use Rattle.vtl_tree.specs.Columns.{common_identifiers, has_identifier, identifiers_of}
use Rattle.vtl_meaning.specs.Agreement.{first_agreeing, values_in}
use Rattle.vtl_meaning.specs.Points.{partner}
use Rattle.vtl_meaning.proofs.LookUps.{named_cells}
use Rattle.vtl_meaning.proofs.Places.{key_cells, key_within}

pub like_an_identifier : (a b : Role) → same_role a role.Identifier ≡ true → same_role a b ≡ true → same_role b role.Identifier ≡ true
like_an_identifier role.Identifier b e f = go b f
  where
    go : (c : Role) → same_role role.Identifier c ≡ true → same_role c role.Identifier ≡ true
    go role.Identifier f = f
    go role.Measure f = f
    go role.Attribute f = f
like_an_identifier role.Measure b e f = absurd (true≢false (sym e))
like_an_identifier role.Attribute b e f = absurd (true≢false (sym e))

-- an identifier that is like a component of this name has its name among the identifiers
among_identifiers : (x : Component) (ys : List Component) → same_role x.role role.Identifier ≡ true → is_there compared.Kinds ys x ≡ true → is_among x.name (names_of (filter (λ y. same_role y.role role.Identifier) ys)) ≡ true
among_identifiers x [] i e = absurd (true≢false (sym e))
among_identifiers x (y ∷ ys) i e = go (same_name y.name x.name) refl e (among_identifiers x ys i)
  where
    skipped : (b : Bool) (rest : List Component) → same_name y.name x.name ≡ false → is_among x.name (names_of rest) ≡ true → is_among x.name (names_of (cond b (y ∷ rest) rest)) ≡ true
    skipped true rest h among = ap (λ c. c || is_among x.name (names_of rest)) h ∙ among
    skipped false rest h among = among

    go : (b : Bool) → same_name y.name x.name ≡ b → option_map_or (is_alike compared.Kinds x) (cond b (Some y) (component_of x.name ys)) false ≡ true
        → (is_there compared.Kinds ys x ≡ true → is_among x.name (names_of (filter (λ z. same_role z.role role.Identifier) ys)) ≡ true)
        → is_among x.name (names_of (cond (same_role y.role role.Identifier) (y ∷ filter (λ z. same_role z.role role.Identifier) ys) (filter (λ z. same_role z.role role.Identifier) ys))) ≡ true
    go true h f ih =
        let rest = filter (λ z. same_role z.role role.Identifier) ys in
        ap (λ c. is_among x.name (names_of (cond c (y ∷ rest) rest))) (like_an_identifier x.role y.role i (and_parts (same_role x.role y.role) (same_kind x.kind y.kind) f).0)
        ∙ ap (λ c. c || is_among x.name (names_of rest)) h
    go false h f ih = skipped (same_role y.role role.Identifier) (filter (λ z. same_role z.role role.Identifier) ys) h (ih f)

all_common : (a : Structure) (xs : List Component) → AllByRecursion (λ x. same_role x.role role.Identifier ≡ true) xs → list_all (is_there compared.Kinds a.components) xs ≡ true → filter (λ x. has_identifier a x.name) xs ≡ xs
all_common a [] all e = refl
all_common a (x ∷ xs) all e =
    let parts = and_parts (is_there compared.Kinds a.components x) (list_all (is_there compared.Kinds a.components) xs) e in
    ap (λ b. cond b (x ∷ filter (λ y. has_identifier a y.name) xs) (filter (λ y. has_identifier a y.name) xs)) (among_identifiers x a.components all.0 parts.0) ∙ ap (λ l. x ∷ l) (all_common a xs all.1 parts.1)

pub common_of_contained : (a b : Structure) → contains a b ≡ true → common_identifiers a b ≡ identifiers_of b
common_of_contained a b e = all_common a (identifiers_of b) (all_filtered (λ x. same_role x.role role.Identifier) b.components) e

-- a point's identifiers, by their names
pub own_values : (a : Structure) (r : Row) → IsStructure a → is_point (columns_of a) r ≡ true → values_in a (identifiers_of a) r ≡ take (key_width a) r
own_values a r s h = sym (named_cells (columns_of a) (identifiers_of a) r) ∙ key_cells a a r s (refl, refl) (key_within a r h)

pub found_by_key : (n : ℕ) (f : Row → Row) (d : List Row) (k : Row) → AllByRecursion (λ q. f q ≡ take n q) d → find (λ q. same_row (f q) k) d ≡ look n d k
found_by_key n f [] k all = refl
found_by_key n f (q ∷ d) k all =
    ap (λ v. cond (same_row v k) (Some q) (find (λ z. same_row (f z) k) d)) all.0 ∙ ap (λ o. cond (same_row (take n q) k) (Some q) o) (found_by_key n f d k all.1)

pub first_agreeing_is : (a : Structure) (other : DataSet) (r : Row) → contains a other.structure ≡ true → IsDataSet other.structure other.points → first_agreeing a other r ≡ partner a other r
first_agreeing_is a other r e s =
    let ids = identifiers_of other.structure in
    ap (λ xs. find (λ q. same_row (values_in other.structure xs q) (values_in a xs r)) other.points) (common_of_contained a other.structure e)
    ∙ found_by_key (key_width other.structure) (values_in other.structure ids) other.points (values_in a ids r)
    (all_more (λ q. is_point (columns_of other.structure) q ≡ true) (λ q. values_in other.structure ids q ≡ take (key_width other.structure) q) (λ q h. own_values other.structure q s.well_formed h) other.points s.typed)
    ∙ ap (look (key_width other.structure) other.points) (sym (named_cells (columns_of a) ids r))
