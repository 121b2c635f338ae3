-- The first row that repeats the identifiers of one before it.
use Rattle.std.proofs.Common.{◌≡◌, ℕ, zero, suc, ◌+◌, ◌<◌, ◌≤◌, inl, inr, List, [], ◌∷◌, ◌++◌, Bool, true, false, cond, not, ◌&&◌, Option, Some, None, Result, Ok, Err, length, length-append, take, drop, arith, refl, sym, ap, ◌∙◌, subst, append_assoc, true≢false}
use Rattle.std.proofs.lemmas.Bool.{cases_order}
use Rattle.std.proofs.lemmas.List.{append-nil, take-append-drop, take-append-le, take_all}
use Rattle.vtl_lists.specs.Results.{◌>>=◌}
use Rattle.vtl_decimal.specs.Settings.{Settings}
use Rattle.vtl_lists.specs.Apart.{all_apart}
use Rattle.vtl_cell.specs.Row.{Row}
use Rattle.vtl_rows.specs.Keys.{FindsRepeat, IsFirstSame, agree, apart}
use Rattle.vtl_rows.proofs.Firsts.{apart_front, apart_push}
use Rattle.vtl_csv.specs.declared.input.InputKind.TheVariants as i
use Rattle.vtl_csv.specs.InputFields.{Flaw, ReadColumn, record_row}
use Rattle.vtl_csv.specs.InputFile.{Fault, is_repeat, rows_with, unless_repeated}
use Rattle.vtl_csv.specs.InputSteps.{Taken, fault_among, on_row, rows_outcome, taken, taken_with}
use Rattle.vtl_csv.specs.StructuresFile.{◌at_line◌}

-- the item that is put behind repeats none, or one
not_and : (a b : Bool) → (a && not b) ≡ true → b ≡ false
not_and true true e = sym e
not_and true false e = refl
not_and false b e = absurd (true≢false (sym e))

and_not : (a b : Bool) → a ≡ true → (a && not b) ≡ false → b ≡ true
and_not true true e h = refl
and_not true false e h = absurd (true≢false h)
and_not false b e h = absurd (true≢false (sym e))

module _ (keys : List ℕ) (before : List Row) (row : Row) where
  pub new_row : apart keys (before ++ row ∷ []) ≡ true → is_repeat keys before row ≡ false
  new_row e = not_and (apart keys before) (is_repeat keys before row) (sym (apart_push (agree keys) before row) ∙ e)

  repeated_row : apart keys before ≡ true → apart keys (before ++ row ∷ []) ≡ false → is_repeat keys before row ≡ true
  repeated_row h e = and_not (apart keys before) (is_repeat keys before row) h (sym (apart_push (agree keys) before row) ∙ e)

  pub still_apart : apart keys before ≡ true → is_repeat keys before row ≡ false → apart keys (before ++ row ∷ []) ≡ true
  still_apart h e = apart_push (agree keys) before row ∙ ap (λ b. b && not (is_repeat keys before row)) h ∙ ap not e

-- ---- the front of a list that begins with some items and goes on with more
begins : {X : Type 0} (xs more : List X) (n : ℕ) → length xs ≤ n → take (length xs) (take n (xs ++ more)) ≡ xs
begins [] more n h = refl
begins (x ∷ xs) more zero h = absurd (omega arith)
begins (x ∷ xs) more (suc n) h = ap (λ l. x ∷ l) (begins xs more n (omega arith))

front_whole : {X : Type 0} (xs more : List X) (n : ℕ) → n ≡ length xs → take n (xs ++ more) ≡ xs
front_whole xs more n e = let h : n ≤ length xs = omega (arith, e) in take-append-le n xs more h ∙ take_all n xs (omega (arith, e))

-- a longer front has them as its front
apart_shorter : {X : Type 0} (same : X → X → Bool) (xs more : List X) (n : ℕ) → length xs ≤ n → all_apart same (take n (xs ++ more)) ≡ true → all_apart same xs ≡ true
apart_shorter same xs more n h e =
    let split = sym (take-append-drop (length xs) (take n (xs ++ more))) ∙ ap (λ l. l ++ drop (length xs) (take n (xs ++ more))) (begins xs more n h) in
    apart_front same xs (drop (length xs) (take n (xs ++ more))) (ap (all_apart same) (sym split) ∙ e)

-- ---- what is taken
module _ (p : Settings) (columns : List ReadColumn) where
  -- it begins with what stood before
  grows : (rest : List (List (List ℕ))) (before : List Row) → (more : List Row) × ((taken_with p columns before rest).rows ≡ before ++ more)
  grows [] before = ([], sym (append-nil before))
  grows (fields ∷ rest) before = go (record_row p columns (length before) fields) (λ rows. grows rest rows)
    where
      go : (r : Result Row Flaw) → ((rows : List Row) → (more : List Row) × ((taken_with p columns rows rest).rows ≡ rows ++ more)) → (more : List Row) × ((on_row before (λ rows. taken_with p columns rows rest) r).rows ≡ before ++ more)
      go (Err flaw) ih = ([], sym (append-nil before))
      go (Ok row) ih = let g = ih (before ++ row ∷ []) in (row ∷ g.0, g.1 ∙ append_assoc before (row ∷ []) g.0)

  module _ (keys : List ℕ) where
    abbrev IsOutcome : Taken → Result (List Row) Fault → Type 0
    IsOutcome t what = what ≡ rows_outcome t.rows (fault_among (length t.rows) None t.flaw)

    -- no row repeats another
    none_repeats : (rest : List (List (List ℕ))) (before : List Row) → apart keys (taken_with p columns before rest).rows ≡ true
        → rows_with p columns keys before rest ≡ rows_outcome (taken_with p columns before rest).rows (fault_among (length (taken_with p columns before rest).rows) None (taken_with p columns before rest).flaw)
    none_repeats [] before e = refl
    none_repeats (fields ∷ rest) before e = go (record_row p columns (length before) fields) (λ rows. none_repeats rest rows) e
      where
        go : (r : Result Row Flaw)
            → ((rows : List Row) → apart keys (taken_with p columns rows rest).rows ≡ true → IsOutcome (taken_with p columns rows rest) (rows_with p columns keys rows rest))
            → apart keys (on_row before (λ rows. taken_with p columns rows rest) r).rows ≡ true
            → IsOutcome (on_row before (λ rows. taken_with p columns rows rest) r) ((r >>= unless_repeated keys before) at_line (length before + 2) >>= λ rows. rows_with p columns keys rows rest)
        go (Err flaw) ih e = refl
        go (Ok row) ih e =
            let longer = before ++ row ∷ [] in
            let g = grows rest longer in
            let new = new_row keys before row (apart_front (agree keys) longer g.0 (ap (apart keys) (sym g.1) ∙ e)) in
            ap (λ b. cond b (Err (1, i.DuplicateKey)) (Ok longer) at_line (length before + 2) >>= λ rows. rows_with p columns keys rows rest) new ∙ ih longer e

    -- the first row that repeats one before it stands at a place behind the rows before
    module _ (place : ℕ) where
      abbrev Ends : Result (List Row) Fault → Type 0
      Ends what = what ≡ Err (place + 2, (1, i.DuplicateKey))

      -- the row at the place
      at_row : (before : List Row) (row : Row) (k : List Row → Result (List Row) Fault) (rows more : List Row) → rows ≡ (before ++ row ∷ []) ++ more → length before ≡ place → IsFirstSame (agree keys) rows place
          → Ends (unless_repeated keys before row at_line (length before + 2) >>= k)
      at_row before row k rows more e n r =
          let longer = before ++ row ∷ [] in
          let one : length longer ≡ suc (length before) = let l = length-append before (row ∷ []) in omega (arith, l) in
          let whole : take (suc place) rows ≡ longer = ap (take (suc place)) e ∙ front_whole longer more (suc place) (omega (arith, one, n)) in
          let split : rows ≡ before ++ row ∷ more = e ∙ append_assoc before (row ∷ []) more in
          let front : take place rows ≡ before = ap (take place) split ∙ front_whole before (row ∷ more) place (sym n) in
          let again = repeated_row keys before row (ap (apart keys) (sym front) ∙ r.before) (ap (apart keys) (sym whole) ∙ r.there) in
          ap (λ b. cond b (Err (1, i.DuplicateKey)) (Ok longer) at_line (length before + 2) >>= k) again ∙ ap (λ m. Err (m + 2, (1, i.DuplicateKey))) n

      -- a row before the place
      before_row : (before : List Row) (row : Row) (rows more : List Row) → rows ≡ (before ++ row ∷ []) ++ more → length before < place → IsFirstSame (agree keys) rows place → is_repeat keys before row ≡ false
      before_row before row rows more e n r =
          let longer = before ++ row ∷ [] in
          let fits : length longer ≤ place = let l = length-append before (row ∷ []) in omega (arith, l, n) in
          new_row keys before row (apart_shorter (agree keys) longer more place fits (ap (λ l. apart keys (take place l)) (sym e) ∙ r.before))

      repeats : (rest : List (List (List ℕ))) (before : List Row) → length before ≤ place → IsFirstSame (agree keys) (taken_with p columns before rest).rows place → Ends (rows_with p columns keys before rest)
      repeats [] before n r = absurd (omega (arith, n, r.within))
      repeats (fields ∷ rest) before n r = go (record_row p columns (length before) fields) (λ rows. repeats rest rows) r
        where
          go : (o : Result Row Flaw)
              → ((rows : List Row) → length rows ≤ place → IsFirstSame (agree keys) (taken_with p columns rows rest).rows place → Ends (rows_with p columns keys rows rest))
              → IsFirstSame (agree keys) (on_row before (λ rows. taken_with p columns rows rest) o).rows place
              → Ends ((o >>= unless_repeated keys before) at_line (length before + 2) >>= λ rows. rows_with p columns keys rows rest)
          go (Err flaw) ih r = absurd (omega (arith, n, r.within))
          go (Ok row) ih r =
              let longer = before ++ row ∷ [] in
              let g = grows rest longer in
              let next = λ (rows : List Row). rows_with p columns keys rows rest in
              let rows = (taken_with p columns longer rest).rows in
              let one : length longer ≡ length before + 1 = length-append before (row ∷ []) in
              elim (cases_order (length before) place) [
                | inl same ↦ at_row before row next rows g.0 g.1 same r
                | inr away ↦ elim away [
                  | inl less ↦
                      ap (λ b. cond b (Err (1, i.DuplicateKey)) (Ok longer) at_line (length before + 2) >>= next) (before_row before row rows g.0 g.1 less r)
                      ∙ ih longer (omega (arith, one, less)) r
                  | inr more ↦ absurd (omega (arith, n, more))
                ]
              ]

    -- what the rows up to a flaw and the first repeat among them say of a file
    pub outcome_is : (rest : List (List (List ℕ))) (rows : List Row) (flaw : Option Flaw) (repeat : Option ℕ) → taken rows flaw ≡ taken_with p columns [] rest → FindsRepeat keys rows repeat
        → rows_outcome rows (fault_among (length rows) repeat flaw) ≡ rows_with p columns keys [] rest
    outcome_is rest rows flaw None e f =
        let same : rows ≡ (taken_with p columns [] rest).rows = ap (λ t. t.rows) e in
        ap (λ t. rows_outcome t.rows (fault_among (length t.rows) None t.flaw)) e ∙ sym (none_repeats rest [] (ap (apart keys) (sym same) ∙ f))
    outcome_is rest rows flaw (Some place) e f =
        let same : rows ≡ (taken_with p columns [] rest).rows = ap (λ t. t.rows) e in
        sym (repeats place rest [] (omega arith) (subst (λ l. IsFirstSame (agree keys) l place) same f))
