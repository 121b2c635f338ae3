-- The columns of operands among those of all sources, and their values in a row.
use Rattle.std.proofs.Common.{◌≡◌, ◌<◌, ◌+◌, ℕ, zero, suc, List, [], ◌∷◌, ◌++◌, length, map, Option, Some, None, Ok, refl, ap, sym, ◌∙◌, subst, arith, append_assoc, length-append}
use Rattle.std.specs.Prelude.{slice_get}
use Rattle.std.specs.List.{AllByRecursion, flat_map}
use Rattle.std.proofs.lemmas.List.{map-append}
use Rattle.vtl_lists.proofs.Alls.{all_append}
use Rattle.vtl_cell.specs.Outcome.{fault_in, faults_by, join, unless}
use Rattle.vtl_cell.specs.Row.{Row, column_of}
use Rattle.vtl_decimal.specs.Settings.{Settings}
use Rattle.vtl_cell.specs.declared.cell.Cell.TheVariants as c
use Rattle.vtl_cell.specs.declared.kind.Kind.{Kind}
use Rattle.vtl_tree.specs.CompExp.{CompExp}
use Rattle.vtl_tree.specs.Structure.{IsStructure, columns_of}
use Rattle.vtl_tree.specs.Value.{value}
use Rattle.vtl_tree.specs.declared.structure.Component.{Component}
use Rattle.vtl_tree.specs.declared.structure.Structure.{Structure}
use Rattle.vtl_tree.specs.Kinds.{exp_kind}
use Rattle.vtl_tree.specs.Columns.{column_behind, identifiers_of, kind_named, measures_of, place_of}
use Rattle.vtl_meaning.specs.Joined.{Part, values_or_nulls}
use Rattle.vtl_meaning.specs.Made.{AreAmong, AreFor, IsColumnAt, IsTyped, attributes_of, component_kinds, kinds_of_all}
use Rattle.vtl_meaning.specs.Points.{each_point, point_fault, point_of}
use Rattle.vtl_meaning.proofs.Kept.{column_front, column_within}
use Rattle.vtl_meaning.proofs.OwnColumns.{among_front, columns_apart, own_identifiers, own_measures}
use Rattle.vtl_meaning.proofs.Places.{columns_split}
use Rattle.vtl_meaning.proofs.JoinParts.{own_attributes}
use Rattle.sql_meaning.specs.From.{nulls}
use Rattle.selects_to_sql.specs.Writable.{AllCanBeWritten, CanBeWritten}
use Rattle.joins_to_sql.specs.Joins.{Placed, columns_at, columns_in, joined_exps, placed_at, placed_around, placed_from, width_of, without}
use Rattle.joins_to_sql.proofs.Chains.{cells_or_nulls}
use Rattle.selects_to_sql.proofs.Loose.{all_loose, column_loose}
use Rattle.selects_to_sql.proofs.OneOperand.{kind_at}
use Rattle.selects_to_sql.proofs.Pairs.{column_later}

-- ---- operands among all columns

pub record IsPlaced (xs : List Component) (o : Placed) : Type 0 where
  pub front : List Component
  pub back : List Component
  pub is : xs ≡ front ++ (columns_of o.structure ++ back)
  pub many : o.before ≡ length front

abbrev pub ArePlaced : List Component → List Placed → Type 0
ArePlaced xs os = AllByRecursion (IsPlaced xs) os

pub placed_all : (front : List Component) (n : ℕ) (ss : List Structure) → n ≡ length front → ArePlaced (front ++ flat_map columns_of ss) (placed_from n ss)
placed_all front n [] e = tt
placed_all front n (a ∷ ss) e =
    let rest = flat_map columns_of ss in
    let sum = length-append front (columns_of a) in (
      record { front = front; back = rest; is = refl; many = e },
      subst (λ xs. ArePlaced xs (placed_from (n + width_of a) ss)) (append_assoc front (columns_of a) rest) (placed_all (front ++ columns_of a) (n + width_of a) ss (omega (arith, e, sum))),
    )

-- where one of them stands before all others
pub around_all : (r : Structure) (i : ℕ) (front : List Component) (n : ℕ) (ss : List Structure) → n ≡ length front → slice_get ss i ≡ Some r → IsPlaced (front ++ flat_map columns_of (without i ss)) (placed_at 0 r)
    → ArePlaced (front ++ flat_map columns_of (without i ss)) (placed_around i n ss)
around_all r i front n [] e g own = tt
around_all r zero front n (a ∷ ss) e g own =
    let same : r ≡ a = cc in
    (subst (λ z. IsPlaced (front ++ flat_map columns_of ss) (placed_at 0 z)) same own, placed_all front n ss e)
around_all r (suc i) front n (a ∷ ss) e g own =
    let rest = flat_map columns_of (without i ss) in
    let sum = length-append front (columns_of a) in
    let back = append_assoc front (columns_of a) rest in (
      record { front = front; back = rest; is = refl; many = e },
      subst (λ xs. ArePlaced xs (placed_around i (n + width_of a) ss)) back
          (around_all r i (front ++ columns_of a) (n + width_of a) ss (omega (arith, e, sum)) g (subst (λ xs. IsPlaced xs (placed_at 0 r)) (sym back) own)),
    )

-- the first of them
pub first_placed : (r : Structure) (rest : List Component) → IsPlaced (columns_of r ++ rest) (placed_at 0 r)
first_placed r rest = record { front = []; back = rest; is = refl; many = refl }

-- ---- columns as expressions

-- of these kinds
abbrev pub OfKinds : Settings → List Component → List CompExp → List Kind → Type 0
OfKinds p xs [] [] = Unit {0}
OfKinds p xs [] (k ∷ ks) = ⊥
OfKinds p xs (e ∷ es) [] = ⊥
OfKinds p xs (e ∷ es) (k ∷ ks) = IsTyped p xs e × (exp_kind e ≡ k) × OfKinds p xs es ks

pub of_kinds_append : (p : Settings) (xs : List Component) (es fs : List CompExp) (ks ls : List Kind) → OfKinds p xs es ks → OfKinds p xs fs ls → OfKinds p xs (es ++ fs) (ks ++ ls)
of_kinds_append p xs [] fs [] ls h i = i
of_kinds_append p xs [] fs (k ∷ ks) ls h i = absurd h
of_kinds_append p xs (e ∷ es) fs [] ls h i = absurd h
of_kinds_append p xs (e ∷ es) fs (k ∷ ks) ls h i = (h.0, h.1, of_kinds_append p xs es fs ks ls h.2 i)

pub for_kinds : (p : Settings) (xs : List Component) (es : List CompExp) (ks : List Kind) (ys : List Component) → component_kinds ys ≡ ks → OfKinds p xs es ks → AreFor p xs es ys
for_kinds p xs [] [] [] e h = tt
for_kinds p xs [] [] (y ∷ ys) e h = cc
for_kinds p xs [] (k ∷ ks) ys e h = absurd h
for_kinds p xs (f ∷ fs) [] ys e h = absurd h
for_kinds p xs (f ∷ fs) (k ∷ ks) [] e h = cc
for_kinds p xs (f ∷ fs) (k ∷ ks) (y ∷ ys) e h =
    let one : k ≡ y.kind = cc in
    let more : component_kinds ys ≡ ks = cc in
    (h.0, h.1 ∙ one, for_kinds p xs fs ks ys more h.2)

-- some columns of each structure
pub record IsPart (f : Structure → List Component) : Type 0 where
  pub among : (a : Structure) → IsStructure a → AreAmong (f a) (columns_of a)

pub are_identifiers_part : IsPart identifiers_of
are_identifiers_part = record { among = λ a w. subst (AreAmong (identifiers_of a)) (sym (columns_split a)) (among_front (identifiers_of a) (identifiers_of a) _ (own_identifiers a w)) }

pub are_measures_part : IsPart measures_of
are_measures_part = record { among = own_measures }

pub are_attributes_part : IsPart attributes_of
are_attributes_part = record { among = own_attributes }

abbrev pub AreWell : List Placed → Type 0
AreWell os = AllByRecursion (λ o. IsStructure o.structure) os

abbrev pub structures_in : List Placed → List Structure
structures_in os = map (λ o. o.structure) os

module _ (p : Settings) (xs : List Component) where
  pub column_kinds : (o : Placed) (ys : List Component) → IsStructure o.structure → IsPlaced xs o → AreAmong ys (columns_of o.structure) → OfKinds p (all_loose xs) (map (λ y. column_behind o.before (columns_of o.structure) y.name) ys) (component_kinds ys)
  column_kinds o [] w i all = tt
  column_kinds o (y ∷ ys) w i all =
      let own = columns_of o.structure in
      let kind = kind_at (place_of y.name own) y.name y.kind own all.0 (columns_apart o.structure w) in
      let at = o.before + place_of y.name own in
      let there : IsColumnAt (length i.front + place_of y.name own) y.name y.kind (i.front ++ (own ++ i.back)) = column_later (place_of y.name own) y.name y.kind i.front (own ++ i.back) (column_front (place_of y.name own) y.name y.kind own i.back all.0) in
      let here : IsColumnAt at y.name y.kind xs = subst (λ zs. IsColumnAt at y.name y.kind zs) (sym i.is) (subst (λ n. IsColumnAt (n + place_of y.name own) y.name y.kind (i.front ++ (own ++ i.back))) (sym i.many) there) in
      (column_loose at y.name (kind_named y.name own) xs (subst (λ q. IsColumnAt at y.name q xs) (sym kind) here), kind, column_kinds o ys w i all.1)

  pub columns_kinds : (f : Structure → List Component) → IsPart f → (os : List Placed) → AreWell os → ArePlaced xs os → OfKinds p (all_loose xs) (columns_in f os) (kinds_of_all f (structures_in os))
  columns_kinds f part [] w i = tt
  columns_kinds f part (o ∷ os) w i =
      of_kinds_append p (all_loose xs) (columns_at f o) (columns_in f os) (component_kinds (f o.structure)) (kinds_of_all f (structures_in os))
      (column_kinds o (f o.structure) w.0 i.0 (part.among o.structure w.0)) (columns_kinds f part os w.1 i.1)

-- ---- they can be written, and have no fault

pub record IsPlain (p : Settings) (e : CompExp) : Type 0 where
  pub written : CanBeWritten e
  pub sure : (r : Row) → fault_in (value p e r) ≡ None

abbrev pub ArePlain : Settings → List CompExp → Type 0
ArePlain p es = AllByRecursion (IsPlain p) es

columns_plain : (p : Settings) (n : ℕ) (xs ys : List Component) → ArePlain p (map (λ y. column_behind n xs y.name) ys)
columns_plain p n xs [] = tt
columns_plain p n xs (y ∷ ys) = (record { written = record { constants = tt; shallow = omega arith }; sure = λ r. refl }, columns_plain p n xs ys)

pub all_plain : (p : Settings) (f : Structure → List Component) (os : List Placed) → ArePlain p (columns_in f os)
all_plain p f [] = tt
all_plain p f (o ∷ os) = all_append (IsPlain p) (columns_at f o) (columns_in f os) (columns_plain p o.before (columns_of o.structure) (f o.structure)) (all_plain p f os)

pub joined_plain : (p : Settings) (ids all : List Placed) → ArePlain p (joined_exps ids all)
joined_plain p ids all =
    all_append (IsPlain p) (columns_in identifiers_of ids ++ columns_in measures_of all) (columns_in attributes_of all)
    (all_append (IsPlain p) (columns_in identifiers_of ids) (columns_in measures_of all) (all_plain p identifiers_of ids) (all_plain p measures_of all)) (all_plain p attributes_of all)

pub plain_written : (p : Settings) (es : List CompExp) → ArePlain p es → AllCanBeWritten es
plain_written p [] all = tt
plain_written p (e ∷ es) all = (all.0.written, plain_written p es all.1)

sure_point : (p : Settings) (es : List CompExp) (r : Row) → ArePlain p es → point_fault p es r ≡ None
sure_point p [] r all = refl
sure_point p (e ∷ es) r all = ap (λ o. join o (point_fault p es r)) (all.0.sure r) ∙ ap (join None) (sure_point p es r all.1)

pub each_plain : (p : Settings) (es : List CompExp) (d : List Row) → ArePlain p es → each_point p es d ≡ Ok (map (point_of p es) d)
each_plain p es d all = ap (λ o. unless o (map (point_of p es) d)) (go d)
  where
    go : (rows : List Row) → faults_by (point_fault p es) rows ≡ None
    go [] = refl
    go (r ∷ rows) = ap (λ o. join o (faults_by (point_fault p es) rows)) (sure_point p es r all) ∙ ap (join None) (go rows)

-- ---- their values

-- a row shows a part behind so many cells
abbrev pub Shows : Row → ℕ → Part → Type 0
Shows l n q = (place : ℕ) → place < width_of q.structure → column_of (n + place) l ≡ column_of place (cells_or_nulls (width_of q.structure) q.point)

-- a part of each operand
abbrev pub AllShown : Row → List Placed → List Part → Type 0
AllShown l [] [] = Unit {0}
AllShown l [] (q ∷ qs) = ⊥
AllShown l (o ∷ os) [] = ⊥
AllShown l (o ∷ os) (q ∷ qs) = (o.structure ≡ q.structure) × IsStructure q.structure × Shows l o.before q × AllShown l os qs

null_there : (m place : ℕ) → column_of place (nulls m) ≡ c.Null
null_there zero place = refl
null_there (suc m) zero = refl
null_there (suc m) (suc place) = null_there m place

part_values : (p : Settings) (l : Row) (n : ℕ) (q : Part) → Shows l n q → (ys : List Component) → AreAmong ys (columns_of q.structure) → point_of p (map (λ y. column_behind n (columns_of q.structure) y.name) ys) l ≡ values_or_nulls q.structure ys q.point
part_values p l n q shows ys all = go q.point shows ys all
  where
    own : List Component
    own = columns_of q.structure

    go : (u : Option Row) → ((place : ℕ) → place < width_of q.structure → column_of (n + place) l ≡ column_of place (cells_or_nulls (width_of q.structure) u)) → (zs : List Component) → AreAmong zs own → point_of p (map (λ y. column_behind n own y.name) zs) l ≡ values_or_nulls q.structure zs u
    go None h [] i = refl
    go (Some t) h [] i = refl
    go None h (z ∷ zs) i =
        ap (λ v. v ∷ point_of p (map (λ y. column_behind n own y.name) zs) l) (h (place_of z.name own) (column_within (place_of z.name own) z.name z.kind own i.0) ∙ null_there (width_of q.structure) (place_of z.name own))
        ∙ ap (λ r. c.Null ∷ r) (go None h zs i.1)
    go (Some t) h (z ∷ zs) i =
        ap (λ v. v ∷ point_of p (map (λ y. column_behind n own y.name) zs) l) (h (place_of z.name own) (column_within (place_of z.name own) z.name z.kind own i.0))
        ∙ ap (λ r. column_of (place_of z.name own) t ∷ r) (go (Some t) h zs i.1)

pub parts_values : (p : Settings) (l : Row) (f : Structure → List Component) → IsPart f → (os : List Placed) (qs : List Part) → AllShown l os qs → point_of p (columns_in f os) l ≡ flat_map (λ q. values_or_nulls q.structure (f q.structure) q.point) qs
parts_values p l f part [] [] h = refl
parts_values p l f part [] (q ∷ qs) h = absurd h
parts_values p l f part (o ∷ os) [] h = absurd h
parts_values p l f part (o ∷ os) (q ∷ qs) h =
    map-append (λ e. _) (columns_at f o) (columns_in f os)
    ∙ ap (λ r. r ++ point_of p (columns_in f os) l) (ap (λ a. point_of p (columns_at f (placed_at o.before a)) l) h.0 ∙ part_values p l o.before q h.2 (f q.structure) (part.among q.structure h.1))
    ∙ ap (λ r. values_or_nulls q.structure (f q.structure) q.point ++ r) (parts_values p l f part os qs h.3)
