-- Identifiers among the columns of points: their kinds, and that they are never null.
use Rattle.std.proofs.Common.{◌≡◌, ◌≤◌, ℕ, zero, suc, Bool, true, false, not, ◌&&◌, cond, List, [], ◌∷◌, ◌++◌, length, Some, refl, ap, sym, ◌∙◌, subst, arith}
use Rattle.std.specs.List.{AllByRecursion, filter, list_all}
use Rattle.std.specs.Option.{option_map_or}
use Rattle.std.proofs.lemmas.Bool.{and_parts}
use Rattle.vtl_lists.proofs.Alls.{all_filtered}
use Rattle.vtl_lists.proofs.Filters.{filter_no_more}
use Rattle.vtl_cell.specs.Kinds.{is_null, is_of, kind_of, same_kind}
use Rattle.vtl_cell.specs.Row.{Row, column_of}
use Rattle.vtl_cell.specs.declared.cell.Cell.{Cell}
use Rattle.vtl_cell.specs.declared.cell.Cell.TheVariants as c
use Rattle.vtl_cell.specs.declared.kind.Kind.{Kind}
use Rattle.vtl_cell.specs.declared.kind.Kind.TheVariants as k
use Rattle.vtl_tree.specs.DataSet.{is_point}
use Rattle.vtl_tree.specs.Structure.{IsStructure, columns_of, most_components, same_name, same_role}
use Rattle.vtl_tree.specs.declared.structure.Component.{Component}
use Rattle.vtl_tree.specs.declared.structure.Role.{Role}
use Rattle.vtl_tree.specs.declared.structure.Role.TheVariants as role
use Rattle.vtl_tree.specs.declared.structure.Structure.{Structure}
use Rattle.vtl_tree.specs.Names.{component_of}
use Rattle.vtl_tree.specs.Operands.{is_alike, is_there}
use Rattle.vtl_tree.specs.Pairs.{contains}
use Rattle.vtl_tree.specs.declared.operands.Compared.TheVariants as compared
use Rattle.vtl_tree.specs.Columns.{identifiers_of, kind_named, others_of, place_of}
use Rattle.vtl_meaning.specs.Made.{AreAmong, IsColumnAt}
use Rattle.vtl_meaning.proofs.Kept.{column_front, column_within, place_front}
use Rattle.vtl_meaning.proofs.OwnColumns.{columns_apart, own_identifiers}
use Rattle.vtl_meaning.proofs.Places.{columns_split, place_here, place_later, same_name-is}
use Rattle.vtl_meaning.proofs.ValueKinds.{point_parts}
use Rattle.vtl_meaning.proofs.Agreements.{like_an_identifier}
use Rattle.selects_to_sql.proofs.OneOperand.{kind_at}

-- ---- cells that are there

pub kind_is : (kind : Kind) (u : Cell) → is_of kind u ≡ true → is_null u ≡ false → kind_of u ≡ kind
kind_is k.Bool (c.Bool x) h n = refl
kind_is k.Int (c.Int x) h n = refl
kind_is k.Num (c.Num x) h n = refl
kind_is k.Text (c.Text x) h n = refl
kind_is k.Day (c.Day x) h n = refl
kind_is k.Period (c.Period x) h n = refl
kind_is kind u h n = cc

-- ---- the identifiers of another operand

-- a column of this name and kind, which is an identifier
pub record IsIdentifierAt (name : List ℕ) (kind : Kind) (xs : List Component) : Type 0 where
  pub column : IsColumnAt (place_of name xs) name kind xs
  pub named : kind_named name xs ≡ kind
  pub filled : (r : Row) → is_point xs r ≡ true → is_null (column_of (place_of name xs) r) ≡ false

abbrev pub AreIdentifiersAt : List Component → List Component → Type 0
AreIdentifiersAt xs zs = AllByRecursion (λ z. IsIdentifierAt z.name z.kind xs) zs

pub not_null : (x : Role) (n : Bool) → same_role x role.Identifier ≡ true → not (same_role x role.Identifier && n) ≡ true → n ≡ false
not_null role.Identifier false e h = refl
not_null role.Identifier true e h = cc
not_null role.Measure n e h = cc
not_null role.Attribute n e h = cc

pub filled_at : (place : ℕ) (name : List ℕ) (kind : Kind) (xs ys : List Component) (r : Row) → AllByRecursion (λ x. same_role x.role role.Identifier ≡ true) xs → IsColumnAt place name kind xs → is_point (xs ++ ys) r ≡ true → is_null (column_of place r) ≡ false
filled_at place name kind [] ys r all i h = absurd i
filled_at zero name kind (x ∷ xs) ys [] all i h = cc
filled_at zero name kind (x ∷ xs) ys (v ∷ r) all i h = not_null x.role (is_null v) all.0 (point_parts x (xs ++ ys) v r h).1
filled_at (suc place) name kind (x ∷ xs) ys [] all i h = cc
filled_at (suc place) name kind (x ∷ xs) ys (v ∷ r) all i h = filled_at place name kind xs ys r all.1 i (point_parts x (xs ++ ys) v r h).2

-- an identifier by its place among the identifiers
pub identifier_there : (t : Structure) → IsStructure t → (name : List ℕ) (kind : Kind) → IsColumnAt (place_of name (identifiers_of t)) name kind (identifiers_of t) → IsIdentifierAt name kind (columns_of t) × (place_of name (columns_of t) ≡ place_of name (identifiers_of t))
identifier_there t w name kind i =
    let ids = identifiers_of t in
    let place = place_of name ids in
    let within = column_within place name kind ids i in
    let same : place_of name (columns_of t) ≡ place = ap (place_of name) (columns_split t) ∙ place_front name ids (others_of t) within in
    let all = all_filtered (λ x. same_role x.role role.Identifier) t.components in
    let there : IsColumnAt place name kind (columns_of t) = subst (λ xs. IsColumnAt place name kind xs) (sym (columns_split t)) (column_front place name kind ids (others_of t) i) in (
      record {
        column = subst (λ n. IsColumnAt n name kind (columns_of t)) (sym same) there;
        named = kind_at place name kind (columns_of t) there (columns_apart t w);
        filled = λ r h. ap (λ n. is_null (column_of n r)) same ∙ filled_at place name kind ids (others_of t) r all i (subst (λ xs. is_point xs r ≡ true) (columns_split t) h);
      },
      same,
    )

pub identifiers_there : (t : Structure) → IsStructure t → (zs : List Component) → AreAmong zs (identifiers_of t) → AreIdentifiersAt (columns_of t) zs
identifiers_there t w [] i = tt
identifiers_there t w (z ∷ zs) i = ((identifier_there t w z.name z.kind i.0).0, identifiers_there t w zs i.1)

pub own_there : (t : Structure) → IsStructure t → AreIdentifiersAt (columns_of t) (identifiers_of t)
own_there t w = identifiers_there t w (identifiers_of t) (own_identifiers t w)

pub few_identifiers : (t : Structure) → IsStructure t → length (identifiers_of t) ≤ most_components
few_identifiers t w = let few = w.few in omega (arith, filter_no_more (λ x. same_role x.role role.Identifier) t.components, few)

-- ---- an operand that contains another one's identifiers

kinds_same : (a b : Kind) → same_kind a b ≡ true → b ≡ a
kinds_same k.Null k.Null h = refl
kinds_same k.Bool k.Bool h = refl
kinds_same k.Int k.Int h = refl
kinds_same k.Num k.Num h = refl
kinds_same k.Text k.Text h = refl
kinds_same k.Day k.Day h = refl
kinds_same k.Period k.Period h = refl
kinds_same a b h = cc

abbrev identifiers_in : List Component → List Component
identifiers_in ys = filter (λ y. same_role y.role role.Identifier) ys

one_among : (z : Component) (ys : List Component) → same_role z.role role.Identifier ≡ true → is_there compared.Kinds ys z ≡ true → IsColumnAt (place_of z.name (identifiers_in ys)) z.name z.kind (identifiers_in ys)
one_among z [] i e = cc
one_among z (y ∷ ys) i e = go (same_name y.name z.name) refl e (one_among z ys i)
  where
    passed : (b : Bool) → same_name y.name z.name ≡ false → IsColumnAt (place_of z.name (identifiers_in ys)) z.name z.kind (identifiers_in ys) → IsColumnAt (place_of z.name (cond b (y ∷ identifiers_in ys) (identifiers_in ys))) z.name z.kind (cond b (y ∷ identifiers_in ys) (identifiers_in ys))
    passed true h f = subst (λ n. IsColumnAt n z.name z.kind (y ∷ identifiers_in ys)) (sym (place_later z.name y (identifiers_in ys) h)) f
    passed false h f = f

    met : (b : Bool) → b ≡ true → same_name y.name z.name ≡ true → y.kind ≡ z.kind → IsColumnAt (place_of z.name (cond b (y ∷ identifiers_in ys) (identifiers_in ys))) z.name z.kind (cond b (y ∷ identifiers_in ys) (identifiers_in ys))
    met true b h kind = subst (λ n. IsColumnAt n z.name z.kind (y ∷ identifiers_in ys)) (sym (place_here z.name y (identifiers_in ys) h)) (same_name-is y.name z.name h, kind)
    met false b h kind = cc

    go : (b : Bool) → same_name y.name z.name ≡ b → option_map_or (is_alike compared.Kinds z) (cond b (Some y) (component_of z.name ys)) false ≡ true → (is_there compared.Kinds ys z ≡ true → IsColumnAt (place_of z.name (identifiers_in ys)) z.name z.kind (identifiers_in ys))
        → IsColumnAt (place_of z.name (identifiers_in (y ∷ ys))) z.name z.kind (identifiers_in (y ∷ ys))
    go true h f ih =
        let alike = and_parts (same_role z.role y.role) (same_kind z.kind y.kind) f in
        met (same_role y.role role.Identifier) (like_an_identifier z.role y.role i alike.0) h (kinds_same z.kind y.kind alike.1)
    go false h f ih = passed (same_role y.role role.Identifier) h (ih f)

pub contained_among : (a b : Structure) → contains a b ≡ true → AreAmong (identifiers_of b) (identifiers_of a)
contained_among a b e = go (identifiers_of b) (all_filtered (λ x. same_role x.role role.Identifier) b.components) e
  where
    go : (zs : List Component) → AllByRecursion (λ z. same_role z.role role.Identifier ≡ true) zs → list_all (is_there compared.Kinds a.components) zs ≡ true → AreAmong zs (identifiers_of a)
    go [] i j = tt
    go (z ∷ zs) i j =
        let parts = and_parts (is_there compared.Kinds a.components z) (list_all (is_there compared.Kinds a.components) zs) j in
        (one_among z a.components i.0 parts.0, go zs i.1 parts.1)
