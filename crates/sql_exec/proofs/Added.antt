-- Outcomes that are added one by one.
use Rattle.std.proofs.Common.{◌≡◌, ℕ, ◌+◌, ◌<◌, ◌≤◌, List, [], ◌∷◌, ◌++◌, map, length, get_or, take, append_assoc, Option, None, Some, Ok, Err, Result, refl, sym, ap, ◌∙◌, subst}
use Rattle.std.specs.Prelude.{OnOk}
use Rattle.std.specs.List.{flat_map}
use Rattle.std.proofs.lemmas.Grind.{flat_map-append}
use Rattle.std.proofs.lemmas.List.{append-nil, map-append, take_all, take_more}
use Rattle.vtl_decimal.specs.declared.number.Fault.TheVariants.{DivZero, Range}
use Rattle.vtl_decimal.specs.declared.number.Fault.{Fault}
use Rattle.vtl_cell.specs.Outcome.{Outcome, after, fault_in, faults_by, join, unless}
use Rattle.vtl_cell.specs.Row.{Row}
use Rattle.vtl_scalar.specs.Answers.{AnswersBy}
use Rattle.vtl_scalar.specs.declared.error.ScalarErr.{ScalarErr}
use Rattle.vtl_scalar.specs.declared.error.ScalarErr.TheVariants as err
use Rattle.sql_meaning.specs.Selects.{appended, rows_in}
use Rattle.sql_meaning.proofs.UpToOrder.{faults_by-append, join_assoc, join_none}
use Rattle.sql_meaning.proofs.Faulted.{fault_unless}
use Rattle.sql_exec.specs.Outputs.{Adds, Sees, fault_seen}
use Rattle.sql_exec.specs.declared.output.Output.{Output}

-- ---- faults

pub neither_fault : (a b : Option Fault) → join a b ≡ None → (a ≡ None) × (b ≡ None)
neither_fault None b e = (refl, e)
neither_fault (Some DivZero) b e = cc
neither_fault (Some Range) None e = cc
neither_fault (Some Range) (Some g) e = cc

pub rows_of_unless : (f : Option Fault) (xs : List Row) → f ≡ None → rows_in (unless f xs) ≡ xs
rows_of_unless None xs e = refl
rows_of_unless (Some f) xs e = cc

pub unless_same : {A : Type 0} (f : Option Fault) (x y : A) → (f ≡ None → x ≡ y) → unless f x ≡ unless f y
unless_same None x y h = ap Ok (h refl)
unless_same (Some f) x y h = refl

-- ---- none, and one more

pub added_none : (old now : Output) → now.table.columns ≡ old.table.columns → now.table.rows ≡ old.table.rows → fault_seen now ≡ fault_seen old → Adds (appended []) old now
added_none old now c r f = record { columns = c; fault = f ∙ sym (join_none (fault_seen old)); rows = λ e. r ∙ sym (append-nil old.table.rows) }

module _ {X : Type 0} (m : X → Outcome (List Row)) (xs : List X) (i : ℕ) (x : X) (h : i < length xs) (at : x ≡ get_or xs i x) where
  abbrev first : List X
  first = take i xs

  abbrev next : List X
  next = take (i + 1) xs

  abbrev fault : List X → Option Fault
  fault ys = faults_by fault_in (map m ys)

  abbrev rows : List X → List Row
  rows ys = flat_map rows_in (map m ys)

  mapped : map m next ≡ map m first ++ m x ∷ []
  mapped = ap (map m) (take_more xs i x h) ∙ map-append m first (get_or xs i x ∷ []) ∙ ap (λ y. map m first ++ m y ∷ []) (sym at)

  fault_next : fault next ≡ join (fault first) (fault_in (m x))
  fault_next = ap (faults_by fault_in) mapped ∙ faults_by-append fault_in (map m first) (m x ∷ []) ∙ ap (join (fault first)) (join_none (fault_in (m x)))

  rows_next : rows next ≡ rows first ++ rows_in (m x)
  rows_next = ap (flat_map rows_in) mapped ∙ flat_map-append rows_in (map m first) (m x ∷ []) ∙ ap (λ l. rows first ++ l) (append-nil (rows_in (m x)))

  pub added_more : (old now then : Output) → Adds (appended (map m (take i xs))) old now → Adds (m x) now then → Adds (appended (map m (take (i + 1) xs))) old then
  added_more old now then before one =
      let seen : fault_seen now ≡ join (fault_seen old) (fault first) = before.fault ∙ ap (join (fault_seen old)) (fault_unless (fault first) (rows first)) in
      record {
        columns = one.columns ∙ before.columns;
        fault = one.fault ∙ ap (λ f. join f (fault_in (m x))) seen ∙ join_assoc (fault_seen old) (fault first) (fault_in (m x)) ∙ ap (join (fault_seen old)) (sym fault_next ∙ sym (fault_unless (fault next) (rows next)));
        rows = λ none.
            let both = neither_fault (fault_seen now) (fault_in (m x)) (sym one.fault ∙ none) in
            let firsts = (neither_fault (fault_seen old) (fault first) (sym seen ∙ both.0)).1 in
            let all : fault next ≡ None = fault_next ∙ (λ j. join (firsts j) (both.1 j)) in
            one.rows none ∙ ap (λ l. l ++ rows_in (m x)) (before.rows both.0 ∙ ap (λ l. old.table.rows ++ l) (rows_of_unless (fault first) (rows first) firsts))
            ∙ append_assoc old.table.rows (rows first) (rows_in (m x)) ∙ ap (λ l. old.table.rows ++ l) (sym rows_next ∙ sym (rows_of_unless (fault next) (rows next) all));
      }

pub added_all : {X : Type 0} (m : X → Outcome (List Row)) (xs : List X) (i : ℕ) (old now : Output) → length xs ≤ i → Adds (appended (map m (take i xs))) old now → Adds (appended (map m xs)) old now
added_all m xs i old now h adds = subst (λ ys. Adds (appended (map m ys)) old now) (take_all i xs h) adds

-- ---- a fault

-- a fault is an outcome of no rows
fault_added : (m : Outcome (List Row)) (f : Fault) (old now : Output) → m ≡ Err f → now.table.columns ≡ old.table.columns → fault_seen now ≡ join (fault_seen old) (Some f) → Adds m old now
fault_added m f old now e columns seen = record {
  columns = columns;
  fault = seen ∙ ap (λ n. join (fault_seen old) (fault_in n)) (sym e);
  rows = λ none. let both = neither_fault (fault_seen old) (Some f) (sym seen ∙ none) in let no_fault = both.1 in cc;
}

pub seen_added : {A : Type 0} (view : A → List Row) (m : Outcome (List Row)) (error : ScalarErr) (old now : Output) → AnswersBy view (Err error) m → now.table.columns ≡ old.table.columns → Sees error old now → Adds m old now
seen_added view m err.DivZero old now e columns seen = fault_added m DivZero old now e columns seen
seen_added view m err.Range old now e columns seen = fault_added m Range old now e columns seen
seen_added view m err.OutOfMemory old now e columns seen = absurd seen

-- ---- rows behind others

-- an outcome whose rows stand behind those that were there
module _ (m : Outcome (List Row)) (old now : Output) (columns : now.table.columns ≡ old.table.columns) where
  pub behind_added : fault_seen now ≡ fault_seen old → after m (λ made. Ok (old.table.rows ++ made)) ≡ Ok now.table.rows → Adds m old now
  behind_added seen e = go m e
    where
      go : (n : Outcome (List Row)) → after n (λ made. Ok (old.table.rows ++ made)) ≡ Ok now.table.rows → Adds n old now
      go (Ok made) h = let is : old.table.rows ++ made ≡ now.table.rows = cc in record { columns = columns; fault = seen ∙ sym (join_none (fault_seen old)); rows = λ none. sym is }
      go (Err f) h = cc

  -- or its fault
  pub fault_behind : {A B : Type 0} (view : A → List Row) (r : Result B ScalarErr) (error : ScalarErr) (mid : Output) → fault_seen mid ≡ fault_seen old → AnswersBy view (Err error) (after m (λ made. Ok (old.table.rows ++ made))) → OnOk r (Sees error mid now) → OnOk r (Adds m old now)
  fault_behind {A} {B} view r error mid same e sees = on_ok r (λ s. go error e s) sees
    where
      told : (n : Outcome (List Row)) (f : Fault) → after n (λ made. Ok (old.table.rows ++ made)) ≡ Err f → n ≡ Err f
      told (Ok made) f h = cc
      told (Err g) f h = let s : g ≡ f = cc in ap Err s

      go : (x : ScalarErr) → AnswersBy view (Err x) (after m (λ made. Ok (old.table.rows ++ made))) → Sees x mid now → Adds m old now
      go err.DivZero h seen = fault_added m DivZero old now (told m DivZero h) columns (seen ∙ ap (λ f. join f (Some DivZero)) same)
      go err.Range h seen = fault_added m Range old now (told m Range h) columns (seen ∙ ap (λ f. join f (Some Range)) same)
      go err.OutOfMemory h seen = absurd seen

      on_ok : {P Q : Type 0} (x : Result B ScalarErr) → (P → Q) → OnOk x P → OnOk x Q
      on_ok (Ok y) h p = h p
      on_ok (Err y) h p = p
