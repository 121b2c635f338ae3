-- `timeshift` gives a data set: each point keeps its kinds, and no two points become one.
use Rattle.std.proofs.Common.{◌≡◌, ℕ, ◌*◌, ◌&&◌, true, false, not, cond, Bool, List, [], ◌∷◌, ◌++◌, map, take, length, Option, Some, None, Ok, nat_lt, ℤ, pos, negsuc, ◌+ℤ◌, refl, sym, ap, ◌∙◌, subst, arith}
use Rattle.std.specs.Prelude.{if◌then◌else◌}
use Rattle.std.specs.List.{AllByRecursion}
use Rattle.std.proofs.Math.Seq.{take-append_seam}
use Rattle.std.proofs.lemmas.Int.{ints}
use Rattle.std.proofs.lemmas.List.{length-map, map-append}
use Rattle.std.proofs.lemmas.Bool.{and_parts}
use Rattle.vtl_lists.proofs.Alls.{all_front, all_more}
use Rattle.vtl_cell.specs.Kinds.{is_null, same_kind}
use Rattle.vtl_cell.specs.Outcome.{Outcome, fault_in, faults_by, join}
use Rattle.vtl_cell.specs.Row.{Row, column_of, same_key, same_row}
use Rattle.vtl_cell.specs.ScalarPeriods.{period, shifted_of}
use Rattle.vtl_cell.specs.declared.cell.Cell.{Cell}
use Rattle.vtl_cell.specs.declared.cell.Cell.TheVariants as c
use Rattle.vtl_cell.specs.declared.kind.Kind.{Kind}
use Rattle.vtl_cell.specs.declared.kind.Kind.TheVariants as k
use Rattle.vtl_cell.proofs.Rows.{same_row-is, same_row-refl}
use Rattle.vtl_decimal.specs.declared.number.Fault.{Fault}
use Rattle.vtl_decimal.specs.declared.number.Fault.TheVariants.{DivZero, Range}
use Rattle.vtl_rows.specs.Tables.{cells_at}
use Rattle.vtl_time.specs.Periods.{YearPart, index_of, parts_in_year, period_at, period_within, shift_of}
use Rattle.vtl_time.proofs.PeriodLaws.{shift_whole}
use Rattle.vtl_time.proofs.PeriodLemmas.{IsPart, index-period_at, period_at-index, shift_is}
use Rattle.vtl_tree.specs.Columns.{identifiers_of, others_of, place_of, places_in}
use Rattle.vtl_tree.specs.DataSet.{IsDataSet, is_point}
use Rattle.vtl_tree.specs.Environment.{DataSet}
use Rattle.vtl_tree.specs.Names.{component_of}
use Rattle.vtl_tree.specs.Structure.{IsStructure, columns_of, key_width, same_role}
use Rattle.vtl_tree.specs.declared.structure.Component.{Component}
use Rattle.vtl_tree.specs.declared.structure.Role.TheVariants as role
use Rattle.vtl_tree.specs.declared.structure.Structure.{Structure}
use Rattle.vtl_meaning.specs.Aggregates.{Made, group_fault as point_fault}
use Rattle.vtl_meaning.specs.Analytics.{point_of}
use Rattle.vtl_meaning.specs.Points.{cell_or_null}
use Rattle.vtl_meaning.proofs.AnalyticColumns.{cells_are, columns_found, identifier_cells}
use Rattle.vtl_meaning.proofs.Drawn.{drawn_all, drawn_apart, map_drawn}
use Rattle.vtl_meaning.proofs.GroupKinds.{IsOf, null_is_of}
use Rattle.vtl_meaning.proofs.GroupPoints.{HasCell, found_cell}
use Rattle.vtl_meaning.proofs.Kept.{unless_ok}
use Rattle.vtl_meaning.proofs.Places.{columns_split}
use Rattle.vtl_timing.specs.Times.{is_time, shifted_value, timeshift_of}

-- ---- a shift can be taken back
-- what a shift gives: a period of the same frequency, by its number
pub record IsMoved (q m : YearPart) (n : ℤ) : Type 0 where
  pub number : ℕ
  pub sum : pos (index_of q) +ℤ n ≡ pos number
  pub is : m ≡ period_at q.frequency number

moved : (q m : YearPart) (n : ℤ) → shift_of q n ≡ Some m → IsMoved q m n
moved q m n e = go (pos (index_of q) +ℤ n) refl (sym (shift_is q n (shift_whole q m n e)) ∙ e)
  where
    within : (i : ℕ) → pos (index_of q) +ℤ n ≡ pos i → (b : Bool) → cond b (Some (period_at q.frequency i)) None ≡ Some m → IsMoved q m n
    within i s true f = let same : period_at q.frequency i ≡ m = cc in record { number = i; sum = s; is = sym same }
    within i s false f = cc

    go : (z : ℤ) → pos (index_of q) +ℤ n ≡ z → period_within q.frequency z ≡ Some m → IsMoved q m n
    go (pos i) s f = within i s (nat_lt i (10000 * parts_in_year q.frequency)) f
    go (negsuc i) s f = cc

one_back : (q s m : YearPart) (n : ℤ) → IsPart q → IsPart s → shift_of q n ≡ Some m → shift_of s n ≡ Some m → q ≡ s
one_back q s m n hq hs e f =
    let a = moved q m n e in
    let b = moved s m n f in
    let same = sym a.is ∙ b.is in
    let frequency : q.frequency ≡ s.frequency = ap (λ (z : YearPart). z.frequency) same in
    let number : a.number ≡ b.number = sym (index-period_at q.frequency a.number) ∙ ap index_of same ∙ index-period_at s.frequency b.number in
    let index : index_of q ≡ index_of s = omega (arith, ints, a.sum, b.sum, number) in
    sym (period_at-index q hq) ∙ (λ i. period_at (frequency i) (index i)) ∙ period_at-index s hs

-- ---- cells
pub period_kind : (kind : Kind) → same_kind kind k.Period ≡ true → kind ≡ k.Period
period_kind k.Null e = cc
period_kind k.Bool e = cc
period_kind k.Int e = cc
period_kind k.Num e = cc
period_kind k.Text e = cc
period_kind k.Day e = cc
period_kind k.Period e = refl

-- a time is a period
pub time_cell : (y : Component) (v : Cell) → HasCell y v → is_time y ≡ true → (q : YearPart) × (v ≡ c.Period q)
time_cell y v h t =
    let both = and_parts (same_role y.role role.Identifier) (same_kind y.kind k.Period) t in
    go v (subst (λ kind. IsOf kind v) (period_kind y.kind both.1) h.0) (subst (λ b. not (b && is_null v) ≡ true) both.0 h.1)
  where
    go : (v : Cell) → IsOf k.Period v → not (true && is_null v) ≡ true → (q : YearPart) × (v ≡ c.Period q)
    go c.Null o m = cc
    go (c.Bool x) o m = cc
    go (c.Int x) o m = cc
    go (c.Num x) o m = cc
    go (c.Text x) o m = cc
    go (c.Day x) o m = cc
    go (c.Period q) o m = (q, refl)

pub period_has : (y : Component) (q : YearPart) → is_time y ≡ true → HasCell y (c.Period q)
period_has y q t =
    let both = and_parts (same_role y.role role.Identifier) (same_kind y.kind k.Period) t in
    (subst (λ kind. IsOf kind (c.Period q)) (sym (period_kind y.kind both.1)) refl, ap (λ b. not (b && false)) both.0)

module _ (n : ℤ) where
  abbrev later : Cell → Outcome Cell
  later v = shifted_of v (Some n)

  later_has : (y : Component) (v : Cell) → HasCell y v → is_time y ≡ true → fault_in (later v) ≡ None → HasCell y (cell_or_null (later v))
  later_has y v h t none =
      let is = time_cell y v h t in
      subst (λ x. HasCell y (cell_or_null (later x))) (sym is.1) (go is.0 (shift_of is.0 n) (ap (λ x. fault_in (later x)) (sym is.1) ∙ none))
    where
      go : (q : YearPart) (o : Option YearPart) → fault_in (period o) ≡ None → HasCell y (cell_or_null (period o))
      go q None e = cc
      go q (Some m) e = period_has y m t

  later_of : (y : Component) (v : Cell) → HasCell y v → is_time y ≡ true → IsOf y.kind (cell_or_null (later v))
  later_of y v h t =
      let is = time_cell y v h t in
      subst (λ x. IsOf y.kind (cell_or_null (later x))) (sym is.1) (go (shift_of is.0 n))
    where
      go : (o : Option YearPart) → IsOf y.kind (cell_or_null (period o))
      go None = null_is_of y.kind
      go (Some m) = (period_has y m t).0

  later_back : (y : Component) (v w : Cell) → HasCell y v → HasCell y w → is_time y ≡ true → fault_in (later v) ≡ None → fault_in (later w) ≡ None
      → cell_or_null (later v) ≡ cell_or_null (later w) → v ≡ w
  later_back y v w h i t a b same =
      let q = time_cell y v h t in
      let s = time_cell y w i t in
      q.1
      ∙ ap c.Period
      (go q.0 s.0 (shift_of q.0 n) (shift_of s.0 n) refl refl
      (ap (λ x. fault_in (later x)) (sym q.1) ∙ a) (ap (λ x. fault_in (later x)) (sym s.1) ∙ b)
      (ap (λ x. cell_or_null (later x)) (sym q.1) ∙ same ∙ ap (λ x. cell_or_null (later x)) s.1))
      ∙ sym s.1
    where
      go : (q s : YearPart) (o u : Option YearPart) → shift_of q n ≡ o → shift_of s n ≡ u → fault_in (period o) ≡ None → fault_in (period u) ≡ None → cell_or_null (period o) ≡ cell_or_null (period u) → q ≡ s
      go q s None u e f a b same = cc
      go q s (Some m) None e f a b same = cc
      go q s (Some m) (Some l) e f a b same = let one : m ≡ l = cc in one_back q s m n (shift_whole q m n e) (shift_whole s l n f) e (f ∙ ap Some (sym one))

-- ---- lists
pub none_parts : (f g : Option Fault) → join f g ≡ None → (f ≡ None) × (g ≡ None)
none_parts None g e = (refl, e)
none_parts (Some DivZero) g e = cc
none_parts (Some Range) None e = cc
none_parts (Some Range) (Some DivZero) e = cc
none_parts (Some Range) (Some Range) e = cc

pub each_without : {X : Type 0} (f : X → Option Fault) (xs : List X) → faults_by f xs ≡ None → AllByRecursion (λ x. f x ≡ None) xs
each_without f [] e = tt
each_without f (x ∷ xs) e = let parts = none_parts (f x) (faults_by f xs) e in (parts.0, each_without f xs parts.1)

all_three : {X : Type 0} (P Q R S : X → Type 0) → ((x : X) → P x → Q x → R x → S x) → (xs : List X) → AllByRecursion P xs → AllByRecursion Q xs → AllByRecursion R xs → AllByRecursion S xs
all_three P Q R S f [] a b d = tt
all_three P Q R S f (x ∷ xs) a b d = (f x a.0 b.0 d.0, all_three P Q R S f xs a.1 b.1 d.1)

same_head : (x y : Cell) (xs ys : Row) → x ∷ xs ≡ y ∷ ys → (x ≡ y) × (xs ≡ ys)
same_head x y xs ys e = (cc, cc)

-- ---- points
module _ (n : ℤ) (a : Structure) (well : IsStructure a) where
  abbrev xs : List Component
  xs = columns_of a

  abbrev made : Made
  made = shifted_value n xs

  abbrev at : Row → Component → Cell
  at r y = column_of (place_of y.name xs) r

  -- a point that has no fault
  record IsSound (r : Row) : Type 0 where
    pub point : is_point xs r ≡ true
    pub none : AllByRecursion (λ y. fault_in (made y r) ≡ None) xs

  own_cells : (r : Row) → is_point xs r ≡ true → AllByRecursion (λ y. HasCell y (at r y)) xs
  own_cells r h = all_more (λ y. component_of y.name xs ≡ Some y) (λ y. HasCell y (at r y)) (λ y e. found_cell y.name y xs r e h) xs (columns_found a well)

  made_has : (r : Row) (y : Component) → HasCell y (at r y) → fault_in (made y r) ≡ None → HasCell y (cell_or_null (made y r))
  made_has r y h none = go (is_time y) refl none
    where
      go : (b : Bool) → is_time y ≡ b → fault_in (if b then later n (at r y) else Ok (at r y)) ≡ None → HasCell y (cell_or_null (if b then later n (at r y) else Ok (at r y)))
      go true t e = later_has n y (at r y) h t e
      go false t e = h

  made_back : (r q : Row) (y : Component) → HasCell y (at r y) → HasCell y (at q y) → fault_in (made y r) ≡ None → fault_in (made y q) ≡ None
      → cell_or_null (made y r) ≡ cell_or_null (made y q) → at r y ≡ at q y
  made_back r q y h i e f same = go (is_time y) refl e f same
    where
      of : Bool → Row → Outcome Cell
      of b z = if b then later n (at z y) else Ok (at z y)

      go : (b : Bool) → is_time y ≡ b → fault_in (of b r) ≡ None → fault_in (of b q) ≡ None → cell_or_null (of b r) ≡ cell_or_null (of b q) → at r y ≡ at q y
      go true t e f same = later_back n y (at r y) (at q y) h i t e f same
      go false t e f same = same

  made_of : (r : Row) (y : Component) → HasCell y (at r y) → IsOf y.kind (cell_or_null (made y r))
  made_of r y h = go (is_time y) refl
    where
      go : (b : Bool) → is_time y ≡ b → IsOf y.kind (cell_or_null (if b then later n (at r y) else Ok (at r y)))
      go true t = later_of n y (at r y) h t
      go false t = h.0

  pub made_of_kinds : (r : Row) → is_point xs r ≡ true → AllByRecursion (λ y. IsOf y.kind (cell_or_null (made y r))) xs
  made_of_kinds r h = all_more (λ y. HasCell y (at r y)) (λ y. IsOf y.kind (cell_or_null (made y r))) (made_of r) xs (own_cells r h)

  abbrev point : Row → Row
  point = point_of made xs

  point_is : (r : Row) → IsSound r → is_point xs (point r) ≡ true
  point_is r h = cells_are (λ y. cell_or_null (made y r)) xs (all_three (λ y. HasCell y (at r y)) (λ y. fault_in (made y r) ≡ None) (λ y. HasCell y (at r y)) (λ y. HasCell y (cell_or_null (made y r))) (λ y i e j. made_has r y i e) xs (own_cells r h.point) h.none (own_cells r h.point))

  key_of_point : (r : Row) → take (key_width a) (point r) ≡ map (λ y. cell_or_null (made y r)) (identifiers_of a)
  key_of_point r =
      let f : Component → Cell = λ y. cell_or_null (made y r) in
      let ids = identifiers_of a in
      ap (λ zs. take (length ids) (map f zs)) (columns_split a)
      ∙ ap (take (length ids)) (map-append f ids (others_of a))
      ∙ ap (λ m. take m (map f ids ++ map f (others_of a))) (sym (length-map ids f))
      ∙ take-append_seam (map f ids) (map f (others_of a))

  own_key : (r : Row) (ys : List Component) → map (at r) ys ≡ cells_at (places_in xs ys) r
  own_key r [] = refl
  own_key r (y ∷ ys) = ap (λ l. at r y ∷ l) (own_key r ys)

  abbrev Both : Row → Row → Component → Type 0
  Both r q y = HasCell y (at r y) × HasCell y (at q y) × (fault_in (made y r) ≡ None) × (fault_in (made y q) ≡ None)

  cells_back : (r q : Row) (ys : List Component) → AllByRecursion (Both r q) ys
      → map (λ y. cell_or_null (made y r)) ys ≡ map (λ y. cell_or_null (made y q)) ys → map (at r) ys ≡ map (at q) ys
  cells_back r q [] all e = refl
  cells_back r q (y ∷ ys) all e =
      let parts = same_head (cell_or_null (made y r)) (cell_or_null (made y q)) (map (λ z. cell_or_null (made z r)) ys) (map (λ z. cell_or_null (made z q)) ys) e in
      let b = all.0 in
      let one = made_back r q y b.0 b.1 b.2 b.3 parts.0 in
      let more = cells_back r q ys all.1 parts.1 in
      λ i. one i ∷ more i

  both : (r q : Row) → IsSound r → IsSound q → AllByRecursion (Both r q) (identifiers_of a)
  both r q h i =
      all_front (Both r q) (identifiers_of a) (others_of a) (subst (AllByRecursion (Both r q)) (columns_split a)
      (all_three (λ y. HasCell y (at r y) × HasCell y (at q y)) (λ y. fault_in (made y r) ≡ None) (λ y. fault_in (made y q) ≡ None) (Both r q) (λ y c e f. (c.0, c.1, e, f)) xs
      (all_three (λ y. HasCell y (at r y)) (λ y. HasCell y (at q y)) (λ y. HasCell y (at q y)) (λ y. HasCell y (at r y) × HasCell y (at q y)) (λ y c d e. (c, d)) xs (own_cells r h.point) (own_cells q i.point) (own_cells q i.point)) h.none i.none))

  keys_back : (r q : Row) → IsSound r → IsSound q → same_key (key_width a) (point r) (point q) ≡ true → same_key (key_width a) r q ≡ true
  keys_back r q h i e =
      let made_same = sym (key_of_point r) ∙ same_row-is (take (key_width a) (point r)) (take (key_width a) (point q)) e ∙ key_of_point q in
      let cells = cells_back r q (identifiers_of a) (both r q h i) made_same in
      let own = sym (identifier_cells a r well h.point) ∙ sym (own_key r (identifiers_of a)) ∙ cells ∙ own_key q (identifiers_of a) ∙ identifier_cells a q well i.point in
      ap (λ z. same_row z (take (key_width a) q)) own ∙ same_row-refl (take (key_width a) q)

  -- ---- data sets
  abbrev Drawn : Row → Row → Type 0
  Drawn r z = IsSound r × (z ≡ point r)

  drawn_back : (r t q z : Row) → Drawn r q → Drawn t z → same_key (key_width a) q z ≡ true → same_key (key_width a) r t ≡ true
  drawn_back r t q z h i e = keys_back r t h.0 i.0 (ap (λ x. same_key (key_width a) x (point t)) (sym h.1) ∙ ap (same_key (key_width a) q) (sym i.1) ∙ e)

  sound : (points : List Row) → AllByRecursion (λ r. is_point xs r ≡ true) points → AllByRecursion (λ r. point_fault made xs r ≡ None) points → AllByRecursion (λ r. Drawn r (point r)) points
  sound points h none = all_three (λ r. is_point xs r ≡ true) (λ r. point_fault made xs r ≡ None) (λ r. point_fault made xs r ≡ None) (λ r. Drawn r (point r)) (λ r i e f. (record { point = i; none = each_without (λ y. fault_in (made y r)) xs f }, refl)) points h none none

  kept : (points : List Row) → IsDataSet a points → faults_by (point_fault made xs) points ≡ None → IsDataSet a (map point points)
  kept points h none =
      let all = sound points h.typed (each_without (point_fault made xs) points none) in
      subst (IsDataSet a) (sym (map_drawn point points)) (record {
        well_formed = well;
        typed = drawn_all Drawn (λ q. is_point xs q ≡ true) (λ r q i. ap (is_point xs) i.1 ∙ point_is r i.0) (λ r. point r ∷ []) points all;
        distinct = drawn_apart Drawn (same_key (key_width a)) (same_key (key_width a)) drawn_back (λ r. point r ∷ []) points all h.distinct;
      })

pub shift_kept : (n : ℤ) (d : DataSet) (out : List Row) → IsDataSet d.structure d.points → timeshift_of n d ≡ Ok out → IsDataSet d.structure out
shift_kept n d out h e =
    let xs = columns_of d.structure in
    let parts = unless_ok (faults_by (point_fault (shifted_value n xs) xs) d.points) (map (point_of (shifted_value n xs) xs) d.points) out e in
    subst (IsDataSet d.structure) parts.1 (kept n d.structure h.well_formed d.points h parts.0)
