-- Points that are made one after the other, and the faults of their values.
use Rattle.std.proofs.Common.{◌≡◌, ℕ, zero, suc, ◌+◌, ◌<◌, List, [], ◌∷◌, ◌++◌, true, length, map, take, get_or, Option, Some, None, Result, refl, sym, ap, ◌∙◌, subst, arith}
use Rattle.std.specs.List.{AllByRecursion, flat_map}
use Rattle.std.specs.Prelude.{IfOk}
use Rattle.std.proofs.lemmas.Grind.{flat_map-append}
use Rattle.std.proofs.lemmas.List.{append-nil, map_more, map-append, take_more}
use Rattle.vtl_decimal.specs.Settings.{Settings}
use Rattle.vtl_cell.specs.declared.cell.Cell.{Cell}
use Rattle.vtl_decimal.specs.declared.number.Fault.{Fault}
use Rattle.vtl_decimal.specs.declared.number.Fault.TheVariants.{DivZero, Range}
use Rattle.vtl_cell.specs.Outcome.{fault_in, faults_by, join, unless}
use Rattle.vtl_cell.specs.Row.{Row}
use Rattle.vtl_rows.specs.Tables.{fits, fits_kinds}
use Rattle.vtl_scalar.specs.Answers.{AnswersBy}
use Rattle.vtl_scalar.specs.declared.error.ScalarErr.{ScalarErr}
use Rattle.vtl_tree.specs.CompExp.{CompExp}
use Rattle.vtl_tree.specs.DataSet.{is_point}
use Rattle.vtl_tree.specs.Value.{value, values}
use Rattle.vtl_tree.specs.View.{comp_exps_of}
use Rattle.vtl_tree.specs.declared.structure.Component.{Component}
use Rattle.vtl_tree.proofs.Faults.{faults_by-append, join_none}
use Rattle.vtl_sets.specs.TableOf.{column_for}
use Rattle.vtl_sets.proofs.ColumnLemmas.{kinds_of_columns}
use Rattle.vtl_meaning.specs.Made.{AreFor}
use Rattle.vtl_meaning.specs.Points.{cell_or_null, each_point, point_fault, point_of}
use Rattle.vtl_meaning.proofs.Kept.{values_fit}
use Rattle.vtl_expr.specs.Prepared.{SameValues, prepared_exp}
use Rattle.vtl_scalar.specs.Seen.{answer_of}
use Rattle.vtl_expr.specs.declared.prepared.Prepared.{Prepared}
use Rattle.vtl_expr.proofs.PointValues.{all_same_at}

-- ---- one more value
pub values_more : {X : Type 0} (f : X → CompExp) (p : Settings) (es : List X) (i : ℕ) (e : X) (r : Row) → i < length es → e ≡ get_or es i e → point_of p (map f (take (i + 1) es)) r ≡ point_of p (map f (take i es)) r ++ cell_or_null (value p (f e) r) ∷ []
values_more f p es i e r h at =
    let g : CompExp → Cell = λ x. cell_or_null (value p x r) in
    ap (map g) (map_more f es i e h) ∙ map-append g (map f (take i es)) (f (get_or es i e) ∷ [])
    ∙ ap (λ x. map g (map f (take i es)) ++ g (f x) ∷ []) (sym at)

pub fault_more : {X : Type 0} (f : X → CompExp) (p : Settings) (es : List X) (i : ℕ) (e : X) (r : Row) → i < length es → e ≡ get_or es i e → point_fault p (map f (take (i + 1) es)) r ≡ join (point_fault p (map f (take i es)) r) (fault_in (value p (f e) r))
fault_more f p es i e r h at =
    let g : CompExp → Option Fault = λ x. fault_in (value p x r) in
    let before = faults_by g (map f (take i es)) in
    ap (faults_by g) (map_more f es i e h) ∙ faults_by-append g (map f (take i es)) (f (get_or es i e) ∷ [])
    ∙ ap (join before) (join_none (g (f (get_or es i e)))) ∙ ap (λ x. join before (g (f x))) (sym at)

-- ---- prepared expressions
point_by_values : (p : Settings) (es : List CompExp) (r : Row) → point_of p es r ≡ map cell_or_null (values p (comp_exps_of es) r)
point_by_values p [] r = refl
point_by_values p (e ∷ es) r = ap (λ l. cell_or_null (value p e r) ∷ l) (point_by_values p es r)

fault_by_values : (p : Settings) (es : List CompExp) (r : Row) → point_fault p es r ≡ faults_by fault_in (values p (comp_exps_of es) r)
fault_by_values p [] r = refl
fault_by_values p (e ∷ es) r = ap (join (fault_in (value p e r))) (fault_by_values p es r)

points_same : (p : Settings) (es fs : List CompExp) → SameValues es fs → point_of p es ≡ point_of p fs
points_same p es fs same = λ j r. (point_by_values p es r ∙ ap (map cell_or_null) (all_same_at es fs same p r) ∙ sym (point_by_values p fs r)) j

faults_same : (p : Settings) (es fs : List CompExp) → SameValues es fs → point_fault p es ≡ point_fault p fs
faults_same p es fs same = λ j r. (fault_by_values p es r ∙ ap (faults_by fault_in) (all_same_at es fs same p r) ∙ sym (fault_by_values p fs r)) j

-- in place of the expressions that they were made of
module _ (p : Settings) (lent items : List Prepared) (es : List CompExp) (is : lent ≡ items) (same : SameValues (map prepared_exp items) es) where
  pub points_prepared : point_of p (map prepared_exp lent) ≡ point_of p es
  points_prepared = ap (λ l. point_of p (map prepared_exp l)) is ∙ points_same p (map prepared_exp items) es same

  faults_prepared : point_fault p (map prepared_exp lent) ≡ point_fault p es
  faults_prepared = ap (λ l. point_fault p (map prepared_exp l)) is ∙ faults_same p (map prepared_exp items) es same

  -- at a point
  pub point_prepared : (r : Row) → point_of p (map prepared_exp lent) r ≡ point_of p es r
  point_prepared r = ap (λ (f : Row → Row). f r) points_prepared

  pub fault_prepared : (r : Row) → point_fault p (map prepared_exp lent) r ≡ point_fault p es r
  fault_prepared r = ap (λ (f : Row → Option Fault). f r) faults_prepared

  -- at all of them
  pub each_prepared : (rows : List Row) → each_point p (map prepared_exp lent) rows ≡ each_point p es rows
  each_prepared rows =
      ap (λ (f : Row → Row). unless (faults_by (point_fault p (map prepared_exp lent)) rows) (map f rows)) points_prepared
      ∙ ap (λ (f : Row → Option Fault). unless (faults_by f rows) (map (point_of p es) rows)) faults_prepared

-- ---- one more point
pub rows_more : (f : Row → Row) (rows : List Row) (i : ℕ) (r : Row) → i < length rows → r ≡ get_or rows i r → map f (take (i + 1) rows) ≡ map f (take i rows) ++ f r ∷ []
rows_more f rows i r h at = map_more f rows i r h ∙ ap (λ x. map f (take i rows) ++ f x ∷ []) (sym at)

pub holds_at : {X : Type 0} (P : X → Type 0) (xs : List X) (i : ℕ) (x : X) → AllByRecursion P xs → i < length xs → x ≡ get_or xs i x → P x
holds_at P [] i x all h e = absurd (omega arith)
holds_at P (y ∷ ys) zero x all h e = subst P (sym e) all.0
holds_at P (y ∷ ys) (suc i) x all h e = holds_at P ys i x all.1 (omega arith) e

pub fitting : (p : Settings) (xs : List Component) (es : List CompExp) (ys : List Component) (r : Row) → AreFor p xs es ys → is_point xs r ≡ true → fits (map column_for ys) (point_of p es r) ≡ true
fitting p xs es ys r i h = ap (λ ks. fits_kinds ks (point_of p es r)) (kinds_of_columns ys) ∙ values_fit p xs es ys r i h

-- ---- the end of a walk
seen_by : {A B : Type 0} (view : A → B) (s : Option Fault) (x : A) → AnswersBy view (answer_of (unless s x)) (unless s (view x))
seen_by view None x = refl
seen_by view (Some DivZero) x = refl
seen_by view (Some Range) x = refl

pub finished : {A B : Type 0} (view : A → B) (r : Result A ScalarErr) (s f : Option Fault) (x : A) (y : B) → r ≡ answer_of (unless s x) → s ≡ f → view x ≡ y → AnswersBy view r (unless f y)
finished view r s f x y a e g =
    subst (λ q. AnswersBy view q (unless f y)) (sym a)
    (subst (λ t. AnswersBy view (answer_of (unless s x)) (unless t y)) e (subst (λ z. AnswersBy view (answer_of (unless s x)) (unless s z)) g (seen_by view s x)))

-- ---- points that are drawn from rows
pub drawn_more : (g : Row → List Row) (rows : List Row) (i : ℕ) (r : Row) → i < length rows → r ≡ get_or rows i r → flat_map g (take (i + 1) rows) ≡ flat_map g (take i rows) ++ g r
drawn_more g rows i r h at =
    ap (flat_map g) (take_more rows i r h) ∙ flat_map-append g (take i rows) (get_or rows i r ∷ []) ∙ ap (λ l. flat_map g (take i rows) ++ l) (append-nil (g (get_or rows i r)))
    ∙ ap (λ x. flat_map g (take i rows) ++ g x) (sym at)

pub drawn_mapped : (f : Row → Row) (g : Row → List Row) (rows old new : List Row) (i : ℕ) (r : Row) → i < length rows → r ≡ get_or rows i r → old ≡ map f (flat_map g (take i rows)) → new ≡ old ++ map f (g r) → new ≡ map f (flat_map g (take (i + 1) rows))
drawn_mapped f g rows old new i r h at o n =
    n ∙ ap (λ l. l ++ map f (g r)) o ∙ sym (map-append f (flat_map g (take i rows)) (g r)) ∙ ap (map f) (sym (drawn_more g rows i r h at))

pub drawn_faults : (f : Row → Option Fault) (g : Row → List Row) (rows : List Row) (old new : Option Fault) (i : ℕ) (r : Row) → i < length rows → r ≡ get_or rows i r → old ≡ faults_by f (flat_map g (take i rows)) → new ≡ join old (faults_by f (g r)) → new ≡ faults_by f (flat_map g (take (i + 1) rows))
drawn_faults f g rows old new i r h at o n =
    n ∙ ap (λ s. join s (faults_by f (g r))) o ∙ sym (faults_by-append f (flat_map g (take i rows)) (g r)) ∙ ap (faults_by f) (sym (drawn_more g rows i r h at))

-- what holds of the value holds of the answer
pub answered_keeps : {A : Type 0} (P : A → Type 0) (r : Result A ScalarErr) (s : Option Fault) (x : A) → r ≡ answer_of (unless s x) → P x → IfOk r P
answered_keeps P r s x a h = subst (λ q. IfOk q P) (sym a) (go s)
  where
    go : (t : Option Fault) → IfOk (answer_of (unless t x)) P
    go None = h
    go (Some DivZero) = tt
    go (Some Range) = tt
