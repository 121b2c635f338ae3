-- What is read for a script, and what is read for the INPUTs of its text.
use Rattle.std.proofs.Common.{◌≡◌, ℕ, true, false, cond, List, [], ◌∷◌, ◌++◌, map, Some, Result, Ok, Err, refl, sym, ap, ◌∙◌, subst, append-nil, append_assoc}
use Rattle.std.specs.Prelude.{unwrap_or}
use Rattle.std.specs.Cmp.Lexicographic.{nat_list_eq_equiv}
use Rattle.std.specs.List.{AllByRecursion}
use Rattle.std.specs.Map.{keys_of, lookup}
use Rattle.std.proofs.lemmas.List.{map-append}
use Rattle.vtl_files.specs.Outside.{bytes_at}
use Rattle.vtl_lists.specs.Apart.{all_apart}
use Rattle.vtl_cell.specs.Row.{Row}
use Rattle.vtl_text.specs.Texts.{same_text}
use Rattle.vtl_lists.proofs.Aparts.{apart_parts}
use Rattle.vtl_decimal.specs.Settings.{Settings}
use Rattle.vtl_meaning.specs.Profiles.{AllAreOfProfile}
use Rattle.vtl_tree.specs.DataSet.{AreOfProfile}
use Rattle.vtl_tree.specs.Environment.{DataSet, Environment}
use Rattle.vtl_tree.specs.NotNull.{NotNull, not_null_of as list_of}
use Rattle.vtl_tree.specs.Structure.{IsStructure, columns_of, same_name}
use Rattle.vtl_tree.specs.Structures.{Named, codes_fit}
use Rattle.vtl_tree.specs.declared.structure.Structure.{Structure}
use Rattle.vtl_csv.specs.InputFile.{Fault, dataset_rows}
use Rattle.vtl_csv.proofs.InputDataSetLemmas.{dataset_good, dataset_of_profile}
use Rattle.sql_tree.specs.Trees as tree
use Rattle.sql_tree.specs.Trees.{ScriptTree}
use Rattle.sql_back.specs.Texts.{inputs_in}
use Rattle.sql_meaning.specs.Scripts.{Inputs, rows_read}
use Rattle.sql_engine.specs.Structures.{not_null_of, structure_of}
use Rattle.vtl_to_sql.specs.Inputs.{AreAsked, AreTaken, sets_read}
use Rattle.vtl_to_sql.specs.Scripts.{input_of}
use Rattle.vtl_to_sql.proofs.InputData.{data_read}
use Rattle.vtl_top.specs.Agreement.{HoldSame}
use Rattle.vtl_top.specs.Expected.{content, csv_limit, data_set, dataset_step, file_in, inputs_step, one_more_step, points_or_fault, read, sized, with_points}
use Rattle.vtl_top.specs.SqlInputs.{inputs_wanted, rows_by_name, wanted_input}
use Rattle.vtl_top.specs.Steps.{Held, Path, Step, ◌>>=◌, settled}
use Rattle.vtl_top.specs.Wanted.{Wanted, all_in, all_wanted_with, entry_wanted, wanted_with}
use Rattle.vtl_status.specs.declared.status.Status.{Status}
use Rattle.vtl_top.proofs.AgreementCodes.{codes_listed}
use Rattle.vtl_top.proofs.AgreementColumns.{files_fit_alike}

-- ---- a step that goes on with what another gave
abbrev pub then_on : {A B : Type 0} → Result A Status → (A → Result B Status) → Result B Status
then_on (Ok x) f = f x
then_on (Err status) f = Err status

pub then_gives : {A B : Type 0} (step : Step A) (next : A → Step B) (held : Held) (first : Result A Status) (f : A → Result B Status) → step.gives held first → ((x : A) → (next x).gives held (f x)) → (step >>= next).gives held (then_on first f)
then_gives step next held (Ok x) f is each = (Ok x, is, each x)
then_gives step next held (Err status) f is each = (Err status, is, refl)

-- ---- what inputs give
module _ (folder : Path) (p : Settings) (held : Held) where
  abbrev pub points_in : Wanted → Result (List Row) Status
  points_in w = then_on (content (file_in folder w.name) csv_limit held) (λ bytes. points_or_fault w.name (dataset_rows p w.structure w.not_null bytes))

  abbrev pub one_more_in : Environment → Wanted → Result Environment Status
  one_more_in before w = then_on (points_in w) (λ points. Ok (with_points before (entry_wanted w) points))

  abbrev pub sets_in : Environment → List Wanted → Result Environment Status
  sets_in before [] = Ok before
  sets_in before (w ∷ ws) = then_on (one_more_in before w) (λ more. sets_in more ws)

  points_given : (w : Wanted) → (dataset_step p (folder, w)).gives held (points_in w)
  points_given w =
      then_gives (read (file_in folder w.name) csv_limit) (λ bytes. settled (points_or_fault w.name (dataset_rows p w.structure w.not_null bytes))) held (content (file_in folder w.name) csv_limit held)
      (λ bytes. points_or_fault w.name (dataset_rows p w.structure w.not_null bytes)) refl (λ bytes. refl)

  pub sets_given : (before : Environment) (ws : List Wanted) → (inputs_step p before (all_in folder ws)).gives held (sets_in before ws)
  sets_given before [] = refl
  sets_given before (w ∷ ws) =
      then_gives (one_more_step p before (folder, w)) (λ more. inputs_step p more (all_in folder ws)) held (one_more_in before w) (λ more. sets_in more ws)
      (then_gives (dataset_step p (folder, w)) (λ points. settled (Ok (with_points before (entry_wanted w) points))) held (points_in w) (λ points. Ok (with_points before (entry_wanted w) points)) (points_given w) (λ points. refl)) (λ more. sets_given more ws)

-- ---- the INPUTs of a text for the data sets, as they are read
abbrev pub as_input : NotNull → List ℕ × Structure → Wanted
as_input ls e = wanted_input (input_of ls e)

abbrev pub all_as_inputs : NotNull → Named → List Wanted
all_as_inputs ls es = map wanted_input (map (input_of ls) es)

wanted_listed : (ss : ScriptTree) → inputs_wanted ss ≡ map wanted_input (inputs_in ss)
wanted_listed [] = refl
wanted_listed (tree.setting digits rounding ∷ ss) = wanted_listed ss
wanted_listed (tree.input s ∷ ss) = ap (λ l. wanted_input s ∷ l) (wanted_listed ss)
wanted_listed (tree.create name q ∷ ss) = wanted_listed ss
wanted_listed (tree.export s ∷ ss) = wanted_listed ss

pub inputs_are_wanted : (ls : NotNull) (ss : ScriptTree) (es : Named) → inputs_in ss ≡ map (input_of ls) es → inputs_wanted ss ≡ all_as_inputs ls es
inputs_are_wanted ls ss es is = wanted_listed ss ∙ ap (map wanted_input) is

-- data sets that are declared
pub record IsDeclared (e : List ℕ × Structure) : Type 0 where
  pub lawful : IsStructure e.1
  pub coded : AllByRecursion (λ x. codes_fit x ≡ true) (columns_of e.1)

-- ---- the same rows, or the same status
abbrev pub SameRows : Result Environment Status → Result Environment Status → Type 0
SameRows (Ok env) (Ok other) = rows_by_name env ≡ rows_by_name other
SameRows (Ok env) (Err status) = ⊥
SameRows (Err status) (Ok other) = ⊥
SameRows (Err status) (Err other) = status ≡ other

one_more_row : (ls : NotNull) (before now : Environment) (e : List ℕ × Structure) (points : List Row) → rows_by_name before ≡ rows_by_name now → rows_by_name (with_points before e points) ≡ rows_by_name (with_points now (entry_wanted (as_input ls e)) points)
one_more_row ls before now e points same =
    map-append (λ d. (d.0, d.1.points)) before ((e.0, data_set e.1 points) ∷ [])
    ∙ ap (λ l. l ++ (e.0, points) ∷ []) same
    ∙ sym (map-append (λ d. (d.0, d.1.points)) now ((e.0, data_set (structure_of (input_of ls e)) points) ∷ []))

module _ (ls : NotNull) (folder : Path) (p : Settings) (held other : Held) where
  points_alike : (e : List ℕ × Structure) → bytes_at (file_in folder e.0) other ≡ bytes_at (file_in folder e.0) held → IsDeclared e → points_in folder p held (wanted_with ls e) ≡ points_in folder p other (as_input ls e)
  points_alike e same is =
      ap (λ o. then_on (sized (file_in folder e.0) csv_limit o) (λ bytes. points_or_fault e.0 (dataset_rows p e.1 (list_of e.0 ls) bytes))) (sym same)
      ∙ go (content (file_in folder e.0) csv_limit other)
    where
      go : (r : Result (List ℕ) Status)
          → then_on r (λ bytes. points_or_fault e.0 (dataset_rows p e.1 (list_of e.0 ls) bytes)) ≡ then_on r (λ bytes. points_or_fault e.0 (dataset_rows p (structure_of (input_of ls e)) (not_null_of (input_of ls e)) bytes))
      go (Ok bytes) = ap (points_or_fault e.0) (files_fit_alike ls e is.lawful is.coded p bytes)
      go (Err status) = refl

  pub sets_alike : (before now : Environment) (es : Named) → rows_by_name before ≡ rows_by_name now → HoldSame folder held other es → AllByRecursion IsDeclared es
      → SameRows (sets_in folder p held before (all_wanted_with ls es)) (sets_in folder p other now (all_as_inputs ls es))
  sets_alike before now [] rows same all = rows
  sets_alike before now (e ∷ es) rows same all =
      subst (λ r. SameRows (sets_in folder p held before (all_wanted_with ls (e ∷ es))) (then_on (then_on r (λ points. Ok (with_points now (entry_wanted (as_input ls e)) points))) (λ more. sets_in folder p other more (all_as_inputs ls es)))) (points_alike e same.0 all.0)
      (go (points_in folder p held (wanted_with ls e)) (λ one two r. sets_alike one two es r same.1 all.1))
    where
      go : (r : Result (List Row) Status) → ((one two : Environment) → rows_by_name one ≡ rows_by_name two → SameRows (sets_in folder p held one (all_wanted_with ls es)) (sets_in folder p other two (all_as_inputs ls es)))
          → SameRows (then_on (then_on r (λ points. Ok (with_points before e points))) (λ more. sets_in folder p held more (all_wanted_with ls es)))
          (then_on (then_on r (λ points. Ok (with_points now (entry_wanted (as_input ls e)) points))) (λ more. sets_in folder p other more (all_as_inputs ls es)))
      go (Ok points) ih = ih (with_points before e points) (with_points now (entry_wanted (as_input ls e)) points) (one_more_row ls before now e points rows)
      go (Err status) ih = refl

-- ---- what was read are the data sets, of rows that the INPUTs take
module _ (ls : NotNull) (p : Settings) where
  -- each of the structure, with the rows of a file
  abbrev pub AreSetsOf : Named → Environment → Type 0
  AreSetsOf [] [] = Unit {0}
  AreSetsOf [] (d ∷ ds) = ⊥
  AreSetsOf (e ∷ es) [] = ⊥
  AreSetsOf (e ∷ es) (d ∷ ds) = ((rows : List Row) × (d ≡ (e.0, data_set e.1 rows)) × ((bytes : List ℕ) × (dataset_rows p e.1 (list_of e.0 ls) bytes ≡ Ok rows))) × AreSetsOf es ds

  module _ (folder : Path) (held : Held) where
    points_from : (e : List ℕ × Structure) (rows : List Row) → points_in folder p held (wanted_with ls e) ≡ Ok rows → (bytes : List ℕ) × (dataset_rows p e.1 (list_of e.0 ls) bytes ≡ Ok rows)
    points_from e rows q = go (content (file_in folder e.0) csv_limit held) q
      where
        whole : (r : Result (List Row) Fault) → points_or_fault e.0 r ≡ Ok rows → r ≡ Ok rows
        whole (Ok points) i = let same : points ≡ rows = cc in ap Ok same
        whole (Err fault) i = cc

        go : (r : Result (List ℕ) Status) → then_on r (λ bytes. points_or_fault e.0 (dataset_rows p e.1 (list_of e.0 ls) bytes)) ≡ Ok rows → (bytes : List ℕ) × (dataset_rows p e.1 (list_of e.0 ls) bytes ≡ Ok rows)
        go (Ok bytes) i = (bytes, whole (dataset_rows p e.1 (list_of e.0 ls) bytes) i)
        go (Err status) i = cc

    sets_behind : (before : Environment) (es : Named) (env : Environment) → sets_in folder p held before (all_wanted_with ls es) ≡ Ok env → (more : Environment) × (env ≡ before ++ more) × AreSetsOf es more
    sets_behind before [] env q = let same : before ≡ env = cc in ([], sym same ∙ sym (append-nil before), tt)
    sets_behind before (e ∷ es) env q = go (points_in folder p held (wanted_with ls e)) refl (λ more. sets_behind more es env) q
      where
        go : (r : Result (List Row) Status) → points_in folder p held (wanted_with ls e) ≡ r
            → ((next : Environment) → sets_in folder p held next (all_wanted_with ls es) ≡ Ok env → (more : Environment) × (env ≡ next ++ more) × AreSetsOf es more)
            → then_on (then_on r (λ points. Ok (with_points before e points))) (λ more. sets_in folder p held more (all_wanted_with ls es)) ≡ Ok env → (more : Environment) × (env ≡ before ++ more) × AreSetsOf (e ∷ es) more
        go (Ok rows) i ih q =
            let behind = ih (with_points before e rows) q in
            ((e.0, data_set e.1 rows) ∷ behind.0, behind.1 ∙ append_assoc before ((e.0, data_set e.1 rows) ∷ []) behind.0, ((rows, refl, points_from e rows i), behind.2))
        go (Err status) i ih q = cc

    pub sets_are : (es : Named) (env : Environment) → sets_in folder p held [] (all_wanted_with ls es) ≡ Ok env → AreSetsOf es env
    sets_are es env q = let all = sets_behind [] es env q in subst (AreSetsOf es) (sym all.1) all.2

  -- the rows of each stand under its name
  abbrev AreFound : Inputs → Named → Environment → Type 0
  AreFound inputs [] [] = Unit {0}
  AreFound inputs [] (d ∷ ds) = ⊥
  AreFound inputs (e ∷ es) [] = ⊥
  AreFound inputs (e ∷ es) (d ∷ ds) = (rows_read inputs e.0 ≡ d.1.points) × AreFound inputs es ds

  found_later : (name : List ℕ) (rows : List Row) (inputs : Inputs) (es : Named) (ds : Environment) → AllByRecursion (λ n. same_name name n ≡ false) (keys_of es) → AreFound inputs es ds → AreFound ((name, rows) ∷ inputs) es ds
  found_later name rows inputs [] [] differ found = tt
  found_later name rows inputs [] (d ∷ ds) differ found = absurd found
  found_later name rows inputs (e ∷ es) [] differ found = absurd found
  found_later name rows inputs (e ∷ es) (d ∷ ds) differ found =
      (ap (λ b. unwrap_or (cond b (Some rows) (lookup (same_text e.0) inputs)) []) (nat_list_eq_equiv.symm e.0 name ∙ differ.0) ∙ found.0, found_later name rows inputs es ds differ.1 found.1)

  all_found : (es : Named) (ds : Environment) → AreSetsOf es ds → all_apart same_name (keys_of es) ≡ true → AreFound (rows_by_name ds) es ds
  all_found [] [] are apart = tt
  all_found [] (d ∷ ds) are apart = absurd are
  all_found (e ∷ es) [] are apart = absurd are
  all_found (e ∷ es) (d ∷ ds) are apart =
      let parts = apart_parts same_name e.0 (keys_of es) apart in
      let named : e.0 ≡ d.0 = sym (ap (λ x. x.0) are.0.1) in (
        ap (λ b. unwrap_or (cond b (Some d.1.points) (lookup (same_text e.0) (rows_by_name ds))) []) (ap (same_text e.0) (sym named) ∙ nat_list_eq_equiv.refl e.0),
        found_later d.0 d.1.points (rows_by_name ds) es ds (subst (λ n. AllByRecursion (λ m. same_name n m ≡ false) (keys_of es)) named parts.0) (all_found es ds are.1 parts.1),
      )

  taken_of : (inputs : Inputs) (es : Named) (ds : Environment) → AllByRecursion IsDeclared es → AreSetsOf es ds → AreFound inputs es ds → AreTaken inputs ls es
  taken_of inputs [] [] all are found = tt
  taken_of inputs [] (d ∷ ds) all are found = absurd are
  taken_of inputs (e ∷ es) [] all are found = absurd are
  taken_of inputs (e ∷ es) (d ∷ ds) all are found =
      let rows : List Row = are.0.0 in
      let there : rows_read inputs e.0 ≡ rows = found.0 ∙ ap (λ x. x.1.points) are.0.1 in
      let bytes : List ℕ = are.0.2.0 in
      let asked : AreAsked e.1 rows = record {
        set = dataset_good p e.1 (list_of e.0 ls) bytes rows all.0.lawful are.0.2.1;
        listed = codes_listed p e.1 (list_of e.0 ls) bytes rows all.0.lawful are.0.2.1;
      } in
      (data_read ls e all.0.lawful all.0.coded (rows_read inputs e.0) (subst (AreAsked e.1) (sym there) asked), taken_of inputs es ds all.1 are.1 found.1)

  sets_of : (inputs : Inputs) (es : Named) (ds : Environment) → AreSetsOf es ds → AreFound inputs es ds → sets_read inputs es ≡ ds
  sets_of inputs [] [] are found = refl
  sets_of inputs [] (d ∷ ds) are found = absurd are
  sets_of inputs (e ∷ es) [] are found = absurd are
  sets_of inputs (e ∷ es) (d ∷ ds) are found =
      let there : rows_read inputs e.0 ≡ are.0.0 = found.0 ∙ ap (λ x. x.1.points) are.0.1 in
      ap {B = Environment} (λ rows. (e.0, data_set e.1 rows) ∷ sets_read inputs es) there
      ∙ ap (λ x. x ∷ sets_read inputs es) (sym are.0.1) ∙ ap (λ l. d ∷ l) (sets_of inputs es ds are.1 found.1)

  pub sets_taken : (es : Named) (ds : Environment) → AllByRecursion IsDeclared es → all_apart same_name (keys_of es) ≡ true → AreSetsOf es ds → AreTaken (rows_by_name ds) ls es
  sets_taken es ds all apart are = taken_of (rows_by_name ds) es ds all are (all_found es ds are apart)

  pub sets_again : (es : Named) (ds : Environment) → all_apart same_name (keys_of es) ≡ true → AreSetsOf es ds → sets_read (rows_by_name ds) es ≡ ds
  sets_again es ds apart are = sets_of (rows_by_name ds) es ds are (all_found es ds are apart)

  -- their integers are of the profile, as those of files are
  ranged_of : (es : Named) (ds : Environment) → AllByRecursion IsDeclared es → AreSetsOf es ds → AllAreOfProfile p ds
  ranged_of [] [] all are = tt
  ranged_of [] (d ∷ ds) all are = absurd are
  ranged_of (e ∷ es) [] all are = absurd are
  ranged_of (e ∷ es) (d ∷ ds) all are = (
    subst (λ (x : List ℕ × DataSet). AreOfProfile p x.1.points) (sym are.0.1) (dataset_of_profile p e.1 (list_of e.0 ls) are.0.2.0 are.0.0 all.0.lawful are.0.2.1),
    ranged_of es ds all.1 are.1,
  )

  pub sets_ranged : (es : Named) (ds : Environment) → AllByRecursion IsDeclared es → all_apart same_name (keys_of es) ≡ true → AreSetsOf es ds → AllAreOfProfile p (sets_read (rows_by_name ds) es)
  sets_ranged es ds all apart are = subst (AllAreOfProfile p) (sym (sets_again es ds apart are)) (ranged_of es ds all are)
