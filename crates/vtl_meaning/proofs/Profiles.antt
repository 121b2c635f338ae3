-- The points of results are of the profile where those of the data sets are.
use Rattle.std.proofs.Common.{◌≡◌, ℕ, zero, suc, Bool, true, false, cond, List, [], ◌∷◌, ◌++◌, map, Ok, Err, Option, Some, None, refl}
use Rattle.std.specs.Prelude.{IfOk, option_map}
use Rattle.std.specs.List.{AllByRecursion, filter, flat_map}
use Rattle.std.specs.Option.{option_to_list}
use Rattle.vtl_cell.specs.Conversion.{as_kind}
use Rattle.vtl_cell.specs.Outcome.{Outcome, after, fault_in, faults_by}
use Rattle.vtl_cell.specs.Outcomes.{all_of, branch, first_chosen, is_true, result_of}
use Rattle.vtl_cell.specs.Profile.{IsOfProfile}
use Rattle.vtl_decimal.specs.Range.{fit_number}
use Rattle.vtl_cell.specs.Row.{Row, column_of}
use Rattle.vtl_cell.specs.ScalarArithmetic.{units}
use Rattle.vtl_cell.specs.Scalars.{scalar_of}
use Rattle.vtl_decimal.specs.Settings.{Settings}
use Rattle.vtl_cell.specs.declared.cell.Cell.{Cell}
use Rattle.vtl_cell.specs.declared.cell.Cell.TheVariants as c
use Rattle.vtl_cell.specs.declared.kind.Kind.{Kind}
use Rattle.vtl_cell.specs.declared.kind.Kind.TheVariants as k
use Rattle.vtl_cell.specs.declared.operator.ScalarOp.{ScalarOp}
use Rattle.vtl_cell.specs.declared.operator.ScalarOp.TheVariants as op
use Rattle.vtl_lists.proofs.Sorts.{AllByRecursion-filter, AllByRecursion-map}
use Rattle.vtl_lists.proofs.Alls.{all_append, all_each, all_more}
use Rattle.vtl_rows.specs.Tables.{cells_at}
use Rattle.vtl_scalar.proofs.ProfileLemmas.{Gives, number_gives, value_is_of_profile}
use Rattle.vtl_tree.specs.Clauses.{filter_of}
use Rattle.vtl_tree.specs.CompExp.{CompExp, CompExps, column, const, call, aggregate, no_comp_exps, comp_exp}
use Rattle.vtl_tree.specs.DataSet.{AreOfProfile, look}
use Rattle.vtl_tree.specs.Structure.{columns_of, key_width}
use Rattle.vtl_tree.specs.Value.{called, value, values}
use Rattle.vtl_tree.specs.declared.structure.Component.{Component}
use Rattle.vtl_tree.specs.declared.structure.Structure.{Structure}
use Rattle.vtl_tree.specs.Pairs.{contains}
use Rattle.vtl_tree.specs.Columns.{identifiers_of, measures_of, places_in}
use Rattle.vtl_meaning.specs.Made.{AreFor, AreTyped, IsTyped}
use Rattle.vtl_meaning.specs.Operators.{is_first_chosen, joined_point}
use Rattle.vtl_meaning.specs.Points.{cell_or_null, each_point, point_fault, point_of}
use Rattle.vtl_meaning.proofs.Kept.{look_is}
use Rattle.vtl_meaning.proofs.ValueKinds.{after_if, branch_if}
use Rattle.vtl_meaning.proofs.GroupPoints.{unless_has}

-- ---- rows
abbrev pub IsRowOfProfile : Settings → Row → Type 0
IsRowOfProfile p r = AllByRecursion (IsOfProfile p) r

pub cell_is : (p : Settings) (place : ℕ) (r : Row) → IsRowOfProfile p r → IsOfProfile p (column_of place r)
cell_is p zero [] h = tt
cell_is p (suc place) [] h = tt
cell_is p zero (v ∷ r) h = h.0
cell_is p (suc place) (v ∷ r) h = cell_is p place r h.1

pub cells_are : (p : Settings) (places : List ℕ) (r : Row) → IsRowOfProfile p r → IsRowOfProfile p (cells_at places r)
cells_are p places r h = AllByRecursion-map (λ i. column_of i r) (IsOfProfile p) places (all_each (λ i. IsOfProfile p (column_of i r)) (λ i. cell_is p i r h) places)

-- ---- values
as_kind_gives : (p : Settings) (kind : Kind) (v : Cell) → IsOfProfile p v → Gives p (as_kind p kind v)
as_kind_gives p k.Num (c.Int n) h = number_gives p (fit_number (units p n))
as_kind_gives p kind v h = h

abbrev AllGive : Settings → List (Outcome Cell) → Type 0
AllGive p ms = AllByRecursion (Gives p) ms

all_of_gives : (p : Settings) (ms : List (Outcome Cell)) → AllGive p ms → IfOk (all_of ms) (IsRowOfProfile p)
all_of_gives p [] h = tt
all_of_gives p (m ∷ ms) h =
    after_if m (λ v. after (all_of ms) (λ vs. Ok (v ∷ vs))) (IsOfProfile p) (IsRowOfProfile p) h.0
    (λ v i. after_if (all_of ms) (λ vs. Ok (v ∷ vs)) (IsRowOfProfile p) (IsRowOfProfile p) (all_of_gives p ms h.1) (λ vs j. (i, j)))

result_gives : (p : Settings) (o : ScalarOp) (kind : Kind) (vs : List Cell) → IsRowOfProfile p vs → Gives p (result_of p o kind vs)
result_gives p o kind vs h = after_if (scalar_of p o vs) (as_kind p kind) (IsOfProfile p) (IsOfProfile p) (value_is_of_profile p o vs h) (as_kind_gives p kind)

plain_gives : (p : Settings) (o : ScalarOp) (kind : Kind) (ms : List (Outcome Cell)) → AllGive p ms → Gives p (after (all_of ms) (result_of p o kind))
plain_gives p o kind ms h = after_if (all_of ms) (result_of p o kind) (IsRowOfProfile p) (IsOfProfile p) (all_of_gives p ms h) (result_gives p o kind)

called_gives : (p : Settings) (kind : Kind) (ms : List (Outcome Cell)) (o : ScalarOp) → AllGive p ms → Gives p (called p kind ms o)
called_gives p kind (t ∷ a ∷ b ∷ []) op.If h =
    after_if t (λ w. after (branch (first_chosen w) a b) (as_kind p kind)) (IsOfProfile p) (IsOfProfile p) h.0
    (λ w i. after_if (branch (first_chosen w) a b) (as_kind p kind) (IsOfProfile p) (IsOfProfile p) (branch_if (first_chosen w) a b (IsOfProfile p) h.1.0 h.1.1.0 tt) (as_kind_gives p kind))
called_gives p kind [] o h = plain_gives p o kind [] h
called_gives p kind (x ∷ []) o h = plain_gives p o kind (x ∷ []) h
called_gives p kind (x ∷ y ∷ []) o h = plain_gives p o kind (x ∷ y ∷ []) h
called_gives p kind (x ∷ y ∷ z ∷ []) o h = plain_gives p o kind (x ∷ y ∷ z ∷ []) h
called_gives p kind (x ∷ y ∷ z ∷ w ∷ more) o h = plain_gives p o kind (x ∷ y ∷ z ∷ w ∷ more) h

mutual
  pub value_gives : (p : Settings) (xs : List Component) (e : CompExp) (r : Row) → IsTyped p xs e → IsRowOfProfile p r → Gives p (value p e r)
  value_gives p xs (column place name kind) r i h = cell_is p place r h
  value_gives p xs (const v) r i h = i
  value_gives p xs (call o kind args) r i h = called_gives p kind (values p args r) o (values_give p xs args r i.1 h)
  value_gives p xs (aggregate a kind) r i h = tt

  values_give : (p : Settings) (xs : List Component) (es : CompExps) (r : Row) → AreTyped p xs es → IsRowOfProfile p r → AllGive p (values p es r)
  values_give p xs no_comp_exps r i h = tt
  values_give p xs (comp_exp e es) r i h = (value_gives p xs e r i.0 h, values_give p xs es r i.1 h)

-- ---- points
given_or_null : (p : Settings) (m : Outcome Cell) → Gives p m → IsOfProfile p (cell_or_null m)
given_or_null p (Ok v) h = h
given_or_null p (Err f) h = tt

point_is : (p : Settings) (xs : List Component) (es : List CompExp) (ys : List Component) (r : Row) → AreFor p xs es ys → IsRowOfProfile p r → IsRowOfProfile p (point_of p es r)
point_is p xs [] ys r i h = tt
point_is p xs (e ∷ es) [] r i h = absurd i
point_is p xs (e ∷ es) (y ∷ ys) r i h = (given_or_null p (value p e r) (value_gives p xs e r i.0 h), point_is p xs es ys r i.2 h)

-- the points of an expression, where it has no fault
abbrev pub GivePoints : Settings → Outcome (List Row) → Type 0
GivePoints p m = IfOk m (AreOfProfile p)

pub each_gives : (p : Settings) (xs : List Component) (es : List CompExp) (ys : List Component) (d : List Row) → AreFor p xs es ys → AreOfProfile p d → GivePoints p (each_point p es d)
each_gives p xs es ys d i h =
    unless_has (AreOfProfile p) (faults_by (point_fault p es) d) (map (point_of p es) d)
    (AllByRecursion-map (point_of p es) (IsRowOfProfile p) d (all_more (IsRowOfProfile p) (λ r. IsRowOfProfile p (point_of p es r)) (λ r k. point_is p xs es ys r i k) d h))

pub filter_gives : (p : Settings) (e : CompExp) (d : List Row) → AreOfProfile p d → GivePoints p (filter_of p e d)
filter_gives p e d h =
    let test : Row → Bool = λ r. is_true (value p e r) in
    unless_has (AreOfProfile p) (faults_by (λ r. fault_in (value p e r)) d) (filter test d) (AllByRecursion-filter (IsRowOfProfile p) test d h)

pub shown_are : (p : Settings) (places : List ℕ) (d : List Row) → AreOfProfile p d → AreOfProfile p (map (cells_at places) d)
shown_are p places d h = AllByRecursion-map (cells_at places) (IsRowOfProfile p) d (all_more (IsRowOfProfile p) (λ r. IsRowOfProfile p (cells_at places r)) (λ r k. cells_are p places r k) d h)

-- points that are drawn from points
pub drawn_are : (p : Settings) (g : Row → List Row) (d : List Row) → ((r : Row) → IsRowOfProfile p r → AreOfProfile p (g r)) → AreOfProfile p d → AreOfProfile p (flat_map g d)
drawn_are p g [] f h = tt
drawn_are p g (r ∷ d) f h = all_append (IsRowOfProfile p) (g r) (flat_map g d) (f r h.0) (drawn_are p g d f h.1)

-- what is made of the point with a key, where there is one
found_are : (p : Settings) (f : Row → Row) (n : ℕ) (points : List Row) (key : Row) → ((q : Row) → IsRowOfProfile p q → IsRowOfProfile p (f q)) → AreOfProfile p points → AreOfProfile p (option_to_list (option_map f (look n points key)))
found_are p f n points key i h = go (look n points key) refl
  where
    go : (o : Option Row) → look n points key ≡ o → AreOfProfile p (option_to_list (option_map f o))
    go None e = tt
    go (Some q) e = (i q (look_is (IsRowOfProfile p) n points key q h e), tt)

chosen : (b : Bool) (X : Type 0) (P : X → Type 0) (x y : X) → P x → P y → P (cond b x y)
chosen true X P x y h i = h
chosen false X P x y h i = i

-- all_each point of d with a point of another operand behind it
module _ (a b : Structure) (e : List Row) where
  abbrev with_partner : Row → List Row
  with_partner r = option_to_list (option_map (λ q. r ++ q) (look (key_width b) e (cells_at (places_in (columns_of a) (identifiers_of b)) r)))

  paired_are : (p : Settings) (d : List Row) → AreOfProfile p d → AreOfProfile p e → AreOfProfile p (flat_map with_partner d)
  paired_are p d h i =
      drawn_are p with_partner d
      (λ r j. found_are p (λ q. r ++ q) (key_width b) e (cells_at (places_in (columns_of a) (identifiers_of b)) r) (λ q l. all_append (IsOfProfile p) r q j l) i) h

abbrev pub pairs : Structure → Structure → List Row → List Row → List Row
pairs a b d e = cond (contains a b) (flat_map (with_partner a b e) d) (flat_map (with_partner b a d) e)

pub pairs_are : (p : Settings) (a b : Structure) (d e : List Row) → AreOfProfile p d → AreOfProfile p e → AreOfProfile p (pairs a b d e)
pairs_are p a b d e h i = chosen (contains a b) (List Row) (AreOfProfile p) (flat_map (with_partner a b e) d) (flat_map (with_partner b a d) e) (paired_are a b e p d h i) (paired_are b a d p e i h)

-- `if`: points that are joined of the condition's and of the chosen operand's
module _ (t s : Structure) where
  abbrev taken : Structure → List Row → Row → List Row
  taken other points r = option_to_list (option_map (joined_point t other s r) (look (key_width other) points (cells_at (places_in (columns_of t) (identifiers_of other)) r)))

  taken_are : (p : Settings) (other : Structure) (points : List Row) (r : Row) → AreOfProfile p points → IsRowOfProfile p r → AreOfProfile p (taken other points r)
  taken_are p other points r h i =
      found_are p (joined_point t other s r) (key_width other) points (cells_at (places_in (columns_of t) (identifiers_of other)) r)
      (λ q j. all_append (IsOfProfile p) (cells_at (places_in (columns_of t) (identifiers_of s)) r) (cells_at (places_in (columns_of other) (measures_of s)) q) (cells_are p (places_in (columns_of t) (identifiers_of s)) r i) (cells_are p (places_in (columns_of other) (measures_of s)) q j)) h

  abbrev pub taken_at : Structure → Structure → List Row → List Row → Row → List Row
  taken_at a b d e r = cond (is_first_chosen t r) (taken a d r) (taken b e r)

  pub choice_are : (p : Settings) (a b : Structure) (tests d e : List Row) → AreOfProfile p tests → AreOfProfile p d → AreOfProfile p e → AreOfProfile p (flat_map (taken_at a b d e) tests)
  choice_are p a b tests d e h i j =
      drawn_are p (taken_at a b d e) tests (λ r l. chosen (is_first_chosen t r) (List Row) (AreOfProfile p) (taken a d r) (taken b e r) (taken_are p a d r i l) (taken_are p b e r j l)) h
