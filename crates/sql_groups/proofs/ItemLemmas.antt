-- A walk over items and over groups: one more of them.
use Rattle.std.proofs.Common.{◌≡◌, ℕ, ◌+◌, ◌<◌, List, [], ◌∷◌, ◌++◌, Bool, true, false, cond, length, get_or, map, take, filter, Option, None, Some, Ok, Result, refl, sym, ap, ◌∙◌, append_assoc, subst}
use Rattle.std.specs.Prelude.{slice_index_or}
use Rattle.std.proofs.lemmas.List.{map-append, map_more, take_more}
use Rattle.std.proofs.lemmas.List.Elements.{filter_more}
use Rattle.vtl_decimal.specs.declared.number.Fault.TheVariants.{DivZero, Range}
use Rattle.vtl_decimal.specs.declared.number.Fault.{Fault}
use Rattle.vtl_cell.specs.Outcome.{Outcome, after, fault_in, faults_by, join, unless}
use Rattle.vtl_cell.specs.Row.{Row}
use Rattle.vtl_cell.specs.declared.cell.Cell.{Cell}
use Rattle.vtl_rows.specs.Places.{row_at}
use Rattle.vtl_scalar.specs.Answers.{AnswersBy}
use Rattle.vtl_scalar.specs.declared.error.ScalarErr.{ScalarErr}
use Rattle.sql_tree.specs.declared.parts.Column.{Column}
use Rattle.sql_meaning.specs.Groups.{rows_with}
use Rattle.sql_meaning.specs.Outcomes.{cell_or_null}
use Rattle.sql_meaning.proofs.UpToOrder.{faults_by-append, join_assoc, join_none}
use Rattle.vtl_scalar.specs.Seen.{answer_of}
use Rattle.sql_from.specs.declared.tuple_rows.TupleRows.{TupleRows}
use Rattle.sql_groups.specs.Grouped.{AreGroups, Group, Grouped, rows_at}
use Rattle.sql_groups.specs.Items.{places_of}
use Rattle.sql_groups.specs.Kept.{rows_of}
use Rattle.sql_groups.proofs.GroupLemmas.{group_rows}

faults_more : {X : Type 0} (f : X → Option Fault) (xs : List X) (i : ℕ) (x : X) → i < length xs → x ≡ get_or xs i x → faults_by f (take (i + 1) xs) ≡ join (faults_by f (take i xs)) (f x)
faults_more f xs i x h at =
    ap (faults_by f) (take_more xs i x h) ∙ faults_by-append f (take i xs) (get_or xs i x ∷ []) ∙ ap (join (faults_by f (take i xs))) (join_none (f (get_or xs i x)))
    ∙ ap (λ y. join (faults_by f (take i xs)) (f y)) (sym at)

-- one more item of a row
module _ {X : Type 0} (f : X → Outcome Cell) (xs : List X) (i : ℕ) (x : X) (h : i < length xs) (at : x ≡ get_or xs i x) where
  abbrev cell : X → Cell
  cell y = cell_or_null (f y)

  pub cells_more : (before now then : List Cell) → now ≡ before ++ map cell (take i xs) → then ≡ now ++ cell x ∷ [] → then ≡ before ++ map cell (take (i + 1) xs)
  cells_more before now then n a =
      a ∙ ap (λ l. l ++ cell x ∷ []) n ∙ append_assoc before (map cell (take i xs)) (cell x ∷ [])
      ∙ ap (λ l. before ++ l) (ap (λ y. map cell (take i xs) ++ cell y ∷ []) at ∙ sym (map_more cell xs i x h))

  pub seen_more : (before now then : Option Fault) → now ≡ join before (faults_by (λ y. fault_in (f y)) (take i xs)) → then ≡ join now (fault_in (f x)) → then ≡ join before (faults_by (λ y. fault_in (f y)) (take (i + 1) xs))
  seen_more before now then n a =
      a ∙ ap (λ s. join s (fault_in (f x))) n ∙ join_assoc before (faults_by (λ y. fault_in (f y)) (take i xs)) (fault_in (f x))
      ∙ ap (join before) (sym (faults_more (λ y. fault_in (f y)) xs i x h at))

-- ---- one more group

map_choice : {X Y : Type 0} (f : X → Y) (b : Bool) (x : X) → map f (cond b (x ∷ []) []) ≡ cond b (f x ∷ []) []
map_choice f true x = refl
map_choice f false x = refl

module _ (f : Row → Row) (p : Row → Bool) (keys : List Row) (i : ℕ) (h : i < length keys) where
  abbrev key : Row
  key = get_or keys i []

  pub rows_more : (before now then : List Row) → now ≡ before ++ map f (filter p (take i keys)) → then ≡ now ++ cond (p key) (f key ∷ []) [] → then ≡ before ++ map f (filter p (take (i + 1) keys))
  rows_more before now then n a =
      a ∙ ap (λ l. l ++ cond (p key) (f key ∷ []) []) n ∙ append_assoc before (map f (filter p (take i keys))) (cond (p key) (f key ∷ []) [])
      ∙ ap (λ l. before ++ (map f (filter p (take i keys)) ++ l)) (sym (map_choice f (p key) key))
      ∙ ap (λ l. before ++ l) (sym (map-append f (filter p (take i keys)) (cond (p key) (key ∷ []) [])) ∙ ap (map f) (sym (filter_more p keys i [] h)))

pub faults_of_more : (f : Row → Option Fault) (keys : List Row) (i : ℕ) → i < length keys → (now then : Option Fault) → now ≡ faults_by f (take i keys) → then ≡ join now (f (get_or keys i [])) → then ≡ faults_by f (take (i + 1) keys)
faults_of_more f keys i h now then n a =
    a ∙ ap (λ s. join s (f (get_or keys i []))) n
    ∙ sym (ap (faults_by f) (take_more keys i [] h) ∙ faults_by-append f (take i keys) (get_or keys i [] ∷ []) ∙ ap (join (faults_by f (take i keys))) (join_none (f (get_or keys i []))))

-- the group of a number, as it is made of its parts
pub group_is : (x : TupleRows) (columns : List Column) (g : Grouped) (i : ℕ) (z : Group) → AreGroups (places_of x columns) (rows_of x) g → i < length g.keys → z.held ≡ x.sources.held → z.key ≡ row_at g.keys i → z.rows ≡ rows_at (rows_of x) (slice_index_or g.numbers i [])
    → z ≡ record { held = x.sources.held; key = row_at g.keys i; rows = rows_with (places_of x columns) (rows_of x) (row_at g.keys i) }
group_is x columns g i z are h held key rows = λ n. record { held = held n; key = key n; rows = (rows ∙ group_rows (places_of x columns) (rows_of x) g are i h) n }

-- ---- the end of a walk

-- what was put behind other rows, unless a fault was seen
pub walked : {A : Type 0} (view : A → List Row) (r : Result A ScalarErr) (s f : Option Fault) (u : A) (before made : List Row) → r ≡ answer_of (unless s u) → s ≡ f → view u ≡ before ++ made → AnswersBy view r (after (unless f made) (λ m. Ok (before ++ m)))
walked view r s f u before made a e n =
    subst (λ q. AnswersBy view q (after (unless f made) (λ m. Ok (before ++ m)))) (sym a)
    (subst (λ t. AnswersBy view (answer_of (unless s u)) (after (unless t made) (λ m. Ok (before ++ m)))) e (go s))
  where
    go : (t : Option Fault) → AnswersBy view (answer_of (unless t u)) (after (unless t made) (λ m. Ok (before ++ m)))
    go None = ap Ok (sym n)
    go (Some DivZero) = refl
    go (Some Range) = refl
