-- An operator on two data sets at the pairs of points that agree is the one that walks over rows of two pieces.
use Rattle.std.proofs.Common.{◌≡◌, ℕ, ◌+◌, Bool, true, false, cond, ◌||◌, List, [], ◌∷◌, ◌++◌, length, map, None, Ok, Err, refl, sym, ap, ◌∙◌, subst, true≢false}
use Rattle.std.specs.List.{AllByRecursion, flat_map, zip}
use Rattle.std.proofs.lemmas.List.{length-map, map-append}
use Rattle.vtl_decimal.specs.Settings.{Settings}
use Rattle.vtl_lists.proofs.Perms.{Perm-flat_map, Perm-map, Perm-refl}
use Rattle.vtl_lists.proofs.Sorts.{AllByRecursion-map}
use Rattle.vtl_lists.proofs.Alls.{all_more}
use Rattle.vtl_cell.specs.Outcome.{Outcome, fault_in, faults_by, join, unless}
use Rattle.vtl_cell.specs.Outcomes.{Same, result_of}
use Rattle.vtl_cell.specs.Row.{Row, column_of}
use Rattle.vtl_cell.specs.declared.cell.Cell.{Cell}
use Rattle.vtl_cell.specs.declared.operator.ScalarOp.{ScalarOp}
use Rattle.vtl_tree.specs.Columns.{column_behind, column_named, columns_named, has_identifier, identifiers_of, measures_of, others_of, place_of}
use Rattle.vtl_tree.specs.CompExp.{CompExp}
use Rattle.vtl_tree.specs.DataSet.{IsDataSet, is_point}
use Rattle.vtl_tree.specs.Environment.{DataSet}
use Rattle.vtl_tree.specs.Pairs.{contains}
use Rattle.vtl_tree.specs.Structure.{columns_of}
use Rattle.vtl_tree.specs.Value.{called, value}
use Rattle.vtl_tree.specs.declared.structure.Component.{Component}
use Rattle.vtl_tree.specs.declared.structure.Structure.{Structure}
use Rattle.vtl_tree.proofs.Faults.{Same_unless, faults_by-append}
use Rattle.vtl_tuples.proofs.Lists.{map-map, map_same}
use Rattle.vtl_meaning.specs.Agreement.{agree_in, operand_point}
use Rattle.vtl_meaning.specs.LookUps.{value_named}
use Rattle.vtl_meaning.specs.Made.{AreFor, HasIdentifiers, IsPaired, IsTyped}
use Rattle.vtl_meaning.specs.Operators.{for_measures, pair_of, with_namesake}
use Rattle.vtl_meaning.specs.Points.{cell_or_null, each_point, paired, point_fault, point_of}
use Rattle.vtl_meaning.proofs.JoinAgreements.{agree-gives, own_names}
use Rattle.vtl_meaning.proofs.Kept.{for_back}
use Rattle.vtl_meaning.proofs.Places.{all_of_map, columns_split}
use Rattle.vtl_meaning.proofs.LookUps.{value_behind, value_in_front}
use Rattle.vtl_readings.specs.Faults.{worst}
use Rattle.vtl_readings.specs.Pairs.{PointPair, agreeing_pairs, at_pairs, identifier_at, pair_point, pair_points, two_points, values_at}
use Rattle.vtl_readings.proofs.Agreeing.{all_pairs, pairs_by, rows_are, turned_pairs}
use Rattle.vtl_readings.proofs.Faults.{faults_flat, faults_map, faults_same, worst_is, worst_respects}

-- ---- values and faults of expressions at a row
abbrev Outcomes : Settings → List CompExp → Row → List (Outcome Cell)
Outcomes p es r = map (λ e. value p e r) es

no_fault : (cells : Row) → faults_by fault_in (map (λ v. Ok v) cells) ≡ None
no_fault [] = refl
no_fault (v ∷ cells) = no_fault cells

the_cells : (cells : Row) → map cell_or_null (map (λ v. Ok v) cells) ≡ cells
the_cells [] = refl
the_cells (v ∷ cells) = ap (λ l. v ∷ l) (the_cells cells)

point_is : (p : Settings) (es : List CompExp) (r cells : Row) (values : List (Outcome Cell)) → Outcomes p es r ≡ map (λ v. Ok v) cells ++ values → point_of p es r ≡ cells ++ map cell_or_null values
point_is p es r cells values e =
    sym (map-map cell_or_null (λ x. value p x r) es)
    ∙ ap (map cell_or_null) e
    ∙ map-append cell_or_null (map (λ v. Ok v) cells) values
    ∙ ap (λ l. l ++ map cell_or_null values) (the_cells cells)

fault_is : (p : Settings) (es : List CompExp) (r cells : Row) (values : List (Outcome Cell)) → Outcomes p es r ≡ map (λ v. Ok v) cells ++ values → point_fault p es r ≡ faults_by fault_in values
fault_is p es r cells values e =
    sym (faults_map fault_in (λ x. value p x r) es)
    ∙ ap (faults_by fault_in) e
    ∙ faults_by-append fault_in (map (λ v. Ok v) cells) values
    ∙ ap (λ o. join o (faults_by fault_in values)) (no_fault cells)

-- ---- what is to be shown of a pair: the expressions give its identifiers and its values at its row
abbrev Gives : Settings → ScalarOp → (a b s : Structure) → List CompExp → (PointPair → Row) → PointPair → Type 0
Gives p o a b s es row w = Outcomes p es (row w) ≡ map (λ v. Ok v) (map (identifier_at a b w) (identifiers_of s)) ++ values_at p o a b s w

each_pair : (p : Settings) (o : ScalarOp) (a b s : Structure) (es : List CompExp) (row : PointPair → Row) (pairs : List PointPair) → AllByRecursion (Gives p o a b s es row) pairs → each_point p es (map row pairs) ≡ at_pairs p o a b s pairs
each_pair p o a b s es row pairs all = ap (λ f. unless f (map (point_of p es) (map row pairs))) faults ∙ ap (unless (worst (flat_map at pairs))) points
  where
    at : PointPair → List (Outcome Cell)
    at = values_at p o a b s

    ids : PointPair → Row
    ids w = map (identifier_at a b w) (identifiers_of s)

    faults : faults_by (point_fault p es) (map row pairs) ≡ worst (flat_map at pairs)
    faults =
        faults_map (point_fault p es) row pairs
        ∙ faults_same (λ w. point_fault p es (row w)) (λ w. faults_by fault_in (at w)) pairs
        (all_more (Gives p o a b s es row) (λ w. point_fault p es (row w) ≡ faults_by fault_in (at w)) (λ w e. fault_is p es (row w) (ids w) (at w) e) pairs all)
        ∙ sym (faults_flat fault_in at pairs)
        ∙ sym (worst_is (flat_map at pairs))

    points : map (point_of p es) (map row pairs) ≡ map (pair_point p o a b s) pairs
    points =
        map-map (point_of p es) row pairs
        ∙ map_same (λ w. point_of p es (row w)) (pair_point p o a b s) pairs
        (all_more (Gives p o a b s es row) (λ w. point_of p es (row w) ≡ pair_point p o a b s w) (λ w e. point_is p es (row w) (ids w) (at w) e) pairs all)

-- ---- the values at a pair
-- the operator on namesakes, whose columns have these values at a row
namesakes : (p : Settings) (o : ScalarOp) (xs : List Component) (left right : List ℕ → CompExp) (x : Row) (l r : List ℕ → Cell)
    → ((n : List ℕ) → IsTyped p xs (left n) → value p (left n) x ≡ Ok (l n)) → ((n : List ℕ) → IsTyped p xs (right n) → value p (right n) x ≡ Ok (r n))
    → (us ys zs : List Component) → AreFor p xs (for_measures (with_namesake o left right) us ys) zs
    → Outcomes p (for_measures (with_namesake o left right) us ys) x ≡ map (λ (m : Component × Component). result_of p o m.1.kind (l m.0.name ∷ r m.0.name ∷ [])) (zip us ys)
namesakes p o xs left right x l r f g [] ys zs i = refl
namesakes p o xs left right x l r f g (u ∷ us) [] zs i = refl
namesakes p o xs left right x l r f g (u ∷ us) (y ∷ ys) [] i = absurd i
namesakes p o xs left right x l r f g (u ∷ us) (y ∷ ys) (z ∷ zs) i =
    let rest = Outcomes p (for_measures (with_namesake o left right) us ys) x in
    ap (λ m. called p y.kind (m ∷ value p (right u.name) x ∷ []) o ∷ rest) (f u.name i.0.1.0)
    ∙ ap (λ m. called p y.kind (Ok (l u.name) ∷ m ∷ []) o ∷ rest) (g u.name i.0.1.1.0)
    ∙ ap (λ v. result_of p o y.kind (l u.name ∷ r u.name ∷ []) ∷ v) (namesakes p o xs left right x l r f g us ys zs i.2)

-- the identifiers, which are columns of the operand that leads
leading : (p : Settings) (xs leads : List Component) (rest : List CompExp) (r : Row) (has : List ℕ → Bool) (at : Component → Cell)
    → ((i : Component) → has i.name ≡ true → IsTyped p xs (column_named leads i.name) → column_of (place_of i.name leads) r ≡ at i)
    → (ids zs : List Component) → AllByRecursion (λ i. has i.name ≡ true) ids → AreFor p xs (columns_named leads ids ++ rest) zs → Outcomes p (columns_named leads ids) r ≡ map (λ v. Ok v) (map at ids)
leading p xs leads rest r has at h [] zs all f = refl
leading p xs leads rest r has at h (i ∷ ids) [] all f = absurd f
leading p xs leads rest r has at h (i ∷ ids) (z ∷ zs) all f =
    ap (λ v. Ok v ∷ Outcomes p (columns_named leads ids) r) (h i all.0 f.0) ∙ ap (λ l. Ok (at i) ∷ l) (leading p xs leads rest r has at h ids zs all.1 f.2)

-- the identifiers of the result are those of the operand that leads
led : (lead s : Structure) → HasIdentifiers s (identifiers_of lead) → AllByRecursion (λ i. has_identifier lead i.name ≡ true) (identifiers_of s)
led lead s h =
    all_of_map (λ i. i.name) (λ n. has_identifier lead n ≡ true) (identifiers_of s)
    (subst (λ names. AllByRecursion (λ n. has_identifier lead n ≡ true) names) (sym h.0) (AllByRecursion-map (λ i. i.name) (λ n. has_identifier lead n ≡ true) (identifiers_of lead) (own_names lead)))

-- identifiers and values at a row of two pieces
side : (p : Settings) (o : ScalarOp) (a b s lead other : Structure) (left right : List ℕ → CompExp) (x q : Row) (w : PointPair) → HasIdentifiers s (identifiers_of lead)
    → AreFor p (columns_of lead ++ columns_of other) (columns_named (columns_of lead) (identifiers_of s) ++ for_measures (with_namesake o left right) (measures_of a) (measures_of s)) (columns_of s)
    → ((i : Component) → has_identifier lead i.name ≡ true → IsTyped p (columns_of lead ++ columns_of other) (column_named (columns_of lead) i.name) → column_of (place_of i.name (columns_of lead)) (x ++ q) ≡ identifier_at a b w i)
    → ((n : List ℕ) → IsTyped p (columns_of lead ++ columns_of other) (left n) → value p (left n) (x ++ q) ≡ Ok (value_named (columns_of a) w.left n))
    → ((n : List ℕ) → IsTyped p (columns_of lead ++ columns_of other) (right n) → value p (right n) (x ++ q) ≡ Ok (value_named (columns_of b) w.right n))
    → Outcomes p (columns_named (columns_of lead) (identifiers_of s) ++ for_measures (with_namesake o left right) (measures_of a) (measures_of s)) (x ++ q) ≡ map (λ v. Ok v) (map (identifier_at a b w) (identifiers_of s)) ++ values_at p o a b s w
side p o a b s lead other left right x q w ids typed h f g =
    let xs = columns_of lead ++ columns_of other in
    let named = columns_named (columns_of lead) (identifiers_of s) in
    let exps = for_measures (with_namesake o left right) (measures_of a) (measures_of s) in
    let split = for_back p xs named exps (identifiers_of s) (others_of s) (length-map (identifiers_of s) (λ y. column_named (columns_of lead) y.name)) (subst (λ ys. AreFor p xs (named ++ exps) ys) (columns_split s) typed) in
    map-append (λ e. value p e (x ++ q)) named exps
    ∙ ap (λ l. l ++ Outcomes p exps (x ++ q)) (leading p xs (columns_of lead) exps (x ++ q) (has_identifier lead) (identifier_at a b w) h (identifiers_of s) (columns_of s) (led lead s ids) typed)
    ∙ ap (λ l. map (λ v. Ok v) (map (identifier_at a b w) (identifiers_of s)) ++ l)
    (namesakes p o xs left right (x ++ q) (value_named (columns_of a) w.left) (value_named (columns_of b) w.right) f g (measures_of a) (measures_of s) (others_of s) split)

-- ---- both directions
module _ (p : Settings) (o : ScalarOp) (a b : DataSet) (s : Structure) (i : IsPaired p o a.structure b.structure s) (h : IsDataSet a.structure a.points) (g : IsDataSet b.structure b.points) where
  abbrev Ours : List Component
  Ours = columns_of a.structure

  abbrev Theirs : List Component
  Theirs = columns_of b.structure

  -- the expressions where the first operand leads, and where the second one does
  abbrev First : List CompExp
  First = columns_named Ours (identifiers_of s) ++ for_measures (with_namesake o (column_named Ours) (column_behind (length Ours) Theirs)) (measures_of a.structure) (measures_of s)

  abbrev Second : List CompExp
  Second = columns_named Theirs (identifiers_of s) ++ for_measures (with_namesake o (column_behind (length Theirs) Ours) (column_named Theirs)) (measures_of a.structure) (measures_of s)

  abbrev By : Bool → Outcome (List Row)
  By t = each_point p (cond t First Second) (cond t (paired a b) (paired b a))

  first : contains a.structure b.structure ≡ true → pair_of p o a b s ≡ pair_points p o a b s
  first t =
      ap By t
      ∙ ap (each_point p First) (rows_are two_points (λ w. w.left ++ w.right) a b (λ x q. refl) t g)
      ∙ each_pair p o a.structure b.structure s First (λ w. w.left ++ w.right) (agreeing_pairs a b) (all_pairs two_points a b (Gives p o a.structure b.structure s First (λ w. w.left ++ w.right)) at h.typed g.typed)
    where
      ids : HasIdentifiers s (identifiers_of a.structure)
      ids = subst (λ x. HasIdentifiers s (identifiers_of (cond x a.structure b.structure))) t i.identifiers

      typed : AreFor p (Ours ++ Theirs) First (columns_of s)
      typed = subst (λ x. AreFor p (cond x (Ours ++ Theirs) (Theirs ++ Ours)) (cond x First Second) (columns_of s)) t i.columns

      at : (x q : Row) → is_point Ours x ≡ true → is_point Theirs q ≡ true → agree_in a.structure b.structure x q ≡ true → Gives p o a.structure b.structure s First (λ w. w.left ++ w.right) (two_points x q)
      at x q u v e =
          side p o a.structure b.structure s a.structure b.structure (column_named Ours) (column_behind (length Ours) Theirs) x q (two_points x q) ids typed
          (λ n has f. value_in_front p Ours Theirs x q n.name u v f ∙ sym (ap (λ z. cond z (value_named Ours x n.name) (value_named Theirs q n.name)) has))
          (λ n f. ap Ok (value_in_front p Ours Theirs x q n u v f)) (λ n f. ap Ok (value_behind Ours Theirs x q n u))

  second : contains a.structure b.structure ≡ false → pair_of p o a b s ≡ at_pairs p o a.structure b.structure s (pairs_by (λ y x. two_points x y) b a)
  second t =
      ap By t
      ∙ ap (each_point p Second) (rows_are (λ y x. two_points x y) (λ w. w.right ++ w.left) b a (λ y x. refl) (other_contains (contains a.structure b.structure) (contains b.structure a.structure) i.contained t) h)
      ∙ each_pair p o a.structure b.structure s Second (λ w. w.right ++ w.left) (pairs_by (λ y x. two_points x y) b a) (all_pairs (λ y x. two_points x y) b a (Gives p o a.structure b.structure s Second (λ w. w.right ++ w.left)) at g.typed h.typed)
    where
      other_contains : (x y : Bool) → (x || y) ≡ true → x ≡ false → y ≡ true
      other_contains true y e f = absurd (true≢false f)
      other_contains false y e f = e

      ids : HasIdentifiers s (identifiers_of b.structure)
      ids = subst (λ x. HasIdentifiers s (identifiers_of (cond x a.structure b.structure))) t i.identifiers

      typed : AreFor p (Theirs ++ Ours) Second (columns_of s)
      typed = subst (λ x. AreFor p (cond x (Ours ++ Theirs) (Theirs ++ Ours)) (cond x First Second) (columns_of s)) t i.columns

      -- the value of an identifier of the second operand, also where the first one has it
      agreed : (y x : Row) (name : List ℕ) → agree_in b.structure a.structure y x ≡ true → has_identifier b.structure name ≡ true → (z : Bool) → has_identifier a.structure name ≡ z → value_named Theirs y name ≡ cond z (value_named Ours x name) (value_named Theirs y name)
      agreed y x name e has true f = agree-gives (operand_point b.structure y) (operand_point a.structure x) e name has f
      agreed y x name e has false f = refl

      at : (y x : Row) → is_point Theirs y ≡ true → is_point Ours x ≡ true → agree_in b.structure a.structure y x ≡ true → Gives p o a.structure b.structure s Second (λ w. w.right ++ w.left) (two_points x y)
      at y x u v e =
          side p o a.structure b.structure s b.structure a.structure (column_behind (length Theirs) Ours) (column_named Theirs) y x (two_points x y) ids typed
          (λ n has f. value_in_front p Theirs Ours y x n.name u v f ∙ agreed y x n.name e has (has_identifier a.structure n.name) refl)
          (λ n f. ap Ok (value_behind Theirs Ours y x n u)) (λ n f. ap Ok (value_in_front p Theirs Ours y x n u v f))

  up_to_order : Same (pair_points p o a b s) (at_pairs p o a.structure b.structure s (pairs_by (λ y x. two_points x y) b a))
  up_to_order =
      let pairs = agreeing_pairs a b in
      let turned = pairs_by (λ y x. two_points x y) b a in
      let values = values_at p o a.structure b.structure s in
      let point = pair_point p o a.structure b.structure s in
      Same_unless (worst (flat_map values pairs)) (worst (flat_map values turned)) (map point pairs) (map point turned) (worst_respects (Perm-flat_map values (turned_pairs a b))) (Perm-map point (turned_pairs a b))

same_self : (m : Outcome (List Row)) → Same m m
same_self (Ok rows) = Perm-refl rows
same_self (Err f) = refl

pub pair_first : (p : Settings) (o : ScalarOp) (a b : DataSet) (s : Structure) → contains a.structure b.structure ≡ true → IsPaired p o a.structure b.structure s → IsDataSet a.structure a.points → IsDataSet b.structure b.points → pair_points p o a b s ≡ pair_of p o a b s
pair_first p o a b s t i h g = sym (first p o a b s i h g t)

pub pair_same : (p : Settings) (o : ScalarOp) (a b : DataSet) (s : Structure) → IsPaired p o a.structure b.structure s → IsDataSet a.structure a.points → IsDataSet b.structure b.points → Same (pair_points p o a b s) (pair_of p o a b s)
pair_same p o a b s i h g = go (contains a.structure b.structure) refl
  where
    go : (t : Bool) → contains a.structure b.structure ≡ t → Same (pair_points p o a b s) (pair_of p o a b s)
    go true t = subst (Same (pair_points p o a b s)) (pair_first p o a b s t i h g) (same_self (pair_points p o a b s))
    go false t = subst (Same (pair_points p o a b s)) (sym (second p o a b s i h g t)) (up_to_order p o a b s i h g)
