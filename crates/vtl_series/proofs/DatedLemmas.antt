-- Rows of a tuple and a period: when two are the same, and what is read of one.
use Rattle.std.proofs.Common.{◌≡◌, ℕ, Bool, true, false, cond, ◌||◌, [], ◌∷◌, ◌++◌, Some, None, length, refl, sym, ap, ◌∙◌, arith, nat_eq, eq-eqb, true≢false}
use Rattle.std.specs.List.{list_any, range_with_len}
use Rattle.std.proofs.lemmas.List.{get_or_append_left, get_or_push, length_push}
use Rattle.std.proofs.lemmas.List.FromFn.{fill_by_all}
use Rattle.std.proofs.lemmas.Bool.{or_left, or_right}
use Rattle.vtl_cell.specs.Row.{Row, column_of, same_row}
use Rattle.vtl_cell.specs.declared.cell.Cell.{Cell}
use Rattle.vtl_cell.specs.declared.cell.Cell.TheVariants as c
use Rattle.vtl_cell.proofs.Rows.{same_row-is, same_row-refl}
use Rattle.vtl_rows.specs.Tables.{cells_at}
use Rattle.vtl_time.specs.Periods.{YearPart, frequency_rank, index_of, period_at}
use Rattle.vtl_time.specs.declared.periods.Frequency.{Frequency}
use Rattle.vtl_time.specs.declared.periods.Frequency.TheVariants.{Annual, Semester, Quarter, Month}
use Rattle.vtl_time.proofs.PeriodLemmas.{index-period_at}
use Rattle.vtl_series.specs.Series.{dated, frequencies, number_at, number_of, period_in}

-- ---- two such rows
longer : (xs : Row) (x y : Cell) → [] ≡ xs ++ x ∷ [] → ⊥
longer xs x y e = let l = length_push xs x in let n : 0 ≡ length (xs ++ x ∷ []) = ap length e in absurd (omega (arith, l, n))

fronts_are : (xs ys : Row) (x y : Cell) → xs ++ x ∷ [] ≡ ys ++ y ∷ [] → (xs ≡ ys) × (x ≡ y)
fronts_are [] [] x y e = (refl, cc)
fronts_are [] (z ∷ ys) x y e = let n : [] ≡ ys ++ y ∷ [] = cc in absurd (longer ys y y n)
fronts_are (z ∷ xs) [] x y e = let n : xs ++ x ∷ [] ≡ [] = cc in absurd (longer xs x x (sym n))
fronts_are (z ∷ xs) (w ∷ ys) x y e =
    let first : z ≡ w = cc in
    let rest : xs ++ x ∷ [] ≡ ys ++ y ∷ [] = cc in
    let both = fronts_are xs ys x y rest in
    (ap (λ v. v ∷ xs) first ∙ ap (λ l. w ∷ l) both.0, both.1)

period_is : (p q : YearPart) → c.Period p ≡ c.Period q → p ≡ q
period_is p q e = cc

pub record AreDated (key other : Row) (f g : Frequency) (i j : ℕ) : Type 0 where
  pub tuple : key ≡ other
  pub frequency : f ≡ g
  pub number : i ≡ j

pub dated_are : (key other : Row) (f g : Frequency) (i j : ℕ) → same_row (dated f key i) (dated g other j) ≡ true → AreDated key other f g i j
dated_are key other f g i j e =
    let both = fronts_are key other (c.Period (period_at f i)) (c.Period (period_at g j)) (same_row-is (dated f key i) (dated g other j) e) in
    let one = period_is (period_at f i) (period_at g j) both.1 in
    record { tuple = both.0; frequency = ap (λ q. q.frequency) one; number = sym (index-period_at f i) ∙ ap index_of one ∙ index-period_at g j }

-- rows of two tuples, of two frequencies, of two numbers
not_same : (a b : Row) → (same_row a b ≡ true → ⊥) → same_row a b ≡ false
not_same a b differ = go (same_row a b) refl
  where
    go : (t : Bool) → same_row a b ≡ t → t ≡ false
    go true e = absurd (differ e)
    go false e = refl

pub keys_part : (key other : Row) (f g : Frequency) (i j : ℕ) → same_row key other ≡ false → same_row (dated f key i) (dated g other j) ≡ false
keys_part key other f g i j ne = not_same (dated f key i) (dated g other j) (λ e. true≢false (sym (same_row-refl key) ∙ ap (same_row key) (dated_are key other f g i j e).tuple ∙ ne))

pub frequencies_part : (key : Row) (f g : Frequency) (i j : ℕ) → nat_eq (frequency_rank f) (frequency_rank g) ≡ false → same_row (dated f key i) (dated g key j) ≡ false
frequencies_part key f g i j ne =
    not_same (dated f key i) (dated g key j) (λ e. true≢false (sym (eq-eqb (frequency_rank f) (frequency_rank g) (ap frequency_rank (dated_are key key f g i j e).frequency)) ∙ ne))

pub numbers_part : (key : Row) (f : Frequency) (i j : ℕ) → nat_eq i j ≡ false → same_row (dated f key i) (dated f key j) ≡ false
numbers_part key f i j ne = not_same (dated f key i) (dated f key j) (λ e. true≢false (sym (eq-eqb i j (dated_are key key f f i j e).number) ∙ ne))

-- ---- one such row
pub front_is : (key : Row) (x : Cell) (n : ℕ) → length key ≡ n → cells_at (range_with_len 0 n) (key ++ x ∷ []) ≡ key
front_is key x n e = sym (fill_by_all (λ i. column_of i (key ++ x ∷ [])) key n c.Null e (λ i h. sym (get_or_append_left key (x ∷ []) c.Null i (omega (arith, e, h)))))

pub number_is : (key : Row) (f g : Frequency) (n i : ℕ) → length key ≡ n → number_at n f (dated g key i) ≡ cond (nat_eq (frequency_rank g) (frequency_rank f)) (Some i) None
number_is key f g n i e =
    ap (λ x. number_of f (period_in x)) (get_or_push key (c.Period (period_at g i)) c.Null n e)
    ∙ ap (λ j. cond (nat_eq (frequency_rank g) (frequency_rank f)) (Some j) None) (index-period_at g i)

-- ---- some frequency
pub some_frequency : (t : Frequency → Bool) (f : Frequency) → t f ≡ true → list_any t frequencies ≡ true
some_frequency t Annual e = or_left (t Annual) (t Semester || (t Quarter || (t Month || false))) e
some_frequency t Semester e = or_right (t Annual) (t Semester || (t Quarter || (t Month || false))) (or_left (t Semester) (t Quarter || (t Month || false)) e)
some_frequency t Quarter e = or_right (t Annual) (t Semester || (t Quarter || (t Month || false))) (or_right (t Semester) (t Quarter || (t Month || false)) (or_left (t Quarter) (t Month || false) e))
some_frequency t Month e =
    or_right (t Annual) (t Semester || (t Quarter || (t Month || false)))
    (or_right (t Semester) (t Quarter || (t Month || false)) (or_right (t Quarter) (t Month || false) (or_left (t Month) false e)))
