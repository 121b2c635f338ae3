-- Expressions one behind the other, as the columns of a result.
use Rattle.std.proofs.Common.{◌≡◌, ℕ, List, [], ◌∷◌, ◌++◌, refl, ap, ◌∙◌, subst, sym}
use Rattle.std.proofs.lemmas.List.{map-append}
use Rattle.vtl_decimal.specs.Settings.{Settings}
use Rattle.vtl_cell.specs.Row.{Row}
use Rattle.vtl_cell.specs.declared.kind.Kind.{Kind}
use Rattle.vtl_syntax.specs.declared.word_groups.CheckOut.{CheckOut}
use Rattle.vtl_syntax.specs.declared.word_groups.CheckOut.TheVariants as out
use Rattle.vtl_tree.specs.Columns.{columns_named, identifiers_of, others_of}
use Rattle.vtl_tree.specs.CompExp.{CompExp}
use Rattle.vtl_tree.specs.Kinds.{exp_kind}
use Rattle.vtl_tree.specs.Structure.{IsStructure, columns_of}
use Rattle.vtl_tree.specs.Value.{value}
use Rattle.vtl_tree.specs.declared.structure.Component.{Component}
use Rattle.vtl_tree.specs.declared.structure.Structure.{Structure}
use Rattle.vtl_meaning.specs.Made.{AreAmong, AreFor, HasIdentifiers, IsColumnAt, IsTyped, component_kinds}
use Rattle.vtl_meaning.specs.Points.{cell_or_null, point_fault, point_of}
use Rattle.vtl_meaning.proofs.OwnColumns.{among_front, own_identifiers}
use Rattle.vtl_meaning.proofs.Places.{columns_split}
use Rattle.vtl_tree.specs.Checks.{output_parts}
use Rattle.selects_to_sql.proofs.Givens.{kinds_in}

pub for_append : (p : Settings) (xs : List Component) (es fs : List CompExp) (ys zs : List Component) → AreFor p xs es ys → AreFor p xs fs zs → AreFor p xs (es ++ fs) (ys ++ zs)
for_append p xs [] fs [] zs h i = i
for_append p xs [] fs (y ∷ ys) zs h i = absurd h
for_append p xs (e ∷ es) fs [] zs h i = absurd h
for_append p xs (e ∷ es) fs (y ∷ ys) zs h i = (h.0, h.1, for_append p xs es fs ys zs h.2 i)

pub for_like : (p : Settings) (xs : List Component) (es : List CompExp) (ys zs : List Component) → kinds_in ys ≡ kinds_in zs → AreFor p xs es ys → AreFor p xs es zs
for_like p xs [] [] [] e h = tt
for_like p xs [] [] (z ∷ zs) e h = cc
for_like p xs [] (y ∷ ys) zs e h = absurd h
for_like p xs (f ∷ fs) [] zs e h = absurd h
for_like p xs (f ∷ fs) (y ∷ ys) [] e h = cc
for_like p xs (f ∷ fs) (y ∷ ys) (z ∷ zs) e h =
    let same : y.kind ≡ z.kind = cc in
    let more : kinds_in ys ≡ kinds_in zs = cc in
    (h.0, h.1 ∙ same, for_like p xs fs ys zs more h.2)

-- columns that are columns of others too
pub for_more : (p : Settings) (xs ws ys zs : List Component) → ((place : ℕ) (name : List ℕ) (kind : Kind) → IsColumnAt place name kind xs → IsColumnAt place name kind ws) → AreFor p xs (columns_named xs ys) zs → AreFor p ws (columns_named xs ys) zs
for_more p xs ws [] [] more h = tt
for_more p xs ws [] (z ∷ zs) more h = absurd h
for_more p xs ws (y ∷ ys) [] more h = absurd h
for_more p xs ws (y ∷ ys) (z ∷ zs) more h = (more _ _ _ h.0, h.1, for_more p xs ws ys zs more h.2)

-- what an output shows
pub for_parts : (p : Settings) (xs : List Component) (o : CheckOut) (es fs : List CompExp) (t : CompExp) (ys zs : List Component) (y : Component) → AreFor p xs es ys → IsTyped p xs t → exp_kind t ≡ y.kind → AreFor p xs fs zs → AreFor p xs (output_parts o es t fs) (output_parts o ys y zs)
for_parts p xs out.Invalid es fs t ys zs y h i k j = for_append p xs es fs ys zs h j
for_parts p xs out.All es fs t ys zs y h i k j = (i, k, j)
for_parts p xs out.AllMeasures es fs t ys zs y h i k j = for_append p xs es (t ∷ fs) ys (y ∷ zs) h (i, k, j)

pub own_among : (a : Structure) → IsStructure a → AreAmong (identifiers_of a) (columns_of a)
own_among a w = subst (AreAmong (identifiers_of a)) (sym (columns_split a)) (among_front (identifiers_of a) (identifiers_of a) (others_of a) (own_identifiers a w))

-- the columns of a result with these identifiers, and these behind them
pub kinds_behind : (s : Structure) (ids others : List Component) → HasIdentifiers s ids → component_kinds (others_of s) ≡ component_kinds others → kinds_in (ids ++ others) ≡ kinds_in (columns_of s)
kinds_behind s ids others h i =
    map-append (λ y. y.kind) ids others
    ∙ ap (λ l. l ++ kinds_in others) (sym h.1)
    ∙ ap (λ l. kinds_in (identifiers_of s) ++ l) (sym i)
    ∙ sym (map-append (λ y. y.kind) (identifiers_of s) (others_of s))
    ∙ ap kinds_in (sym (columns_split s))

pub points_append : (p : Settings) (es fs : List CompExp) (r : Row) → point_of p (es ++ fs) r ≡ point_of p es r ++ point_of p fs r
points_append p es fs r = map-append (λ e. cell_or_null (value p e r)) es fs

-- columns have no fault
pub columns_sure : (p : Settings) (xs ys : List Component) (fs : List CompExp) (r : Row) → point_fault p (columns_named xs ys ++ fs) r ≡ point_fault p fs r
columns_sure p xs [] fs r = refl
columns_sure p xs (y ∷ ys) fs r = columns_sure p xs ys fs r
