-- What a structures file declares: structures, each with an identifier.
use Rattle.std.proofs.Common.{◌≡◌, ℕ, ◌+◌, ◌≤◌, Bool, true, false, cond, not, ◌||◌, List, [], ◌∷◌, ◌++◌, length, filter, Option, Some, None, Result, Ok, Err, arith, refl, sym, ap, subst, ◌∙◌}
use Rattle.std.specs.List.{list_any}
use Rattle.std.specs.Map.{lookup}
use Rattle.std.specs.Option.{option_and_then, option_map_or}
use Rattle.std.specs.Cmp.Lexicographic.{bytes_decides}
use Rattle.std.specs.Prelude.{ok_or}
use Rattle.vtl_tree.specs.NotNull.{Declared, no_sets}
use Rattle.vtl_tree.specs.Structure.{IsStructure, key_width, same_name}
use Rattle.vtl_tree.specs.Structures.{AreStructures, Named, components_of, has_name, structure_of, with_component}
use Rattle.vtl_tree.specs.declared.structure.Component.{Component}
use Rattle.vtl_tree.specs.declared.structure.Structure.{Structure}
use Rattle.vtl_tree.proofs.StructuresLemmas.{add_are, all_found}
use Rattle.vtl_lists.specs.Aliases.{Record}
use Rattle.vtl_lists.specs.Results.{◌>>=◌}
use Rattle.vtl_lineage.proofs.ReadInputs.{declared_structure}
use Rattle.vtl_csv.specs.declared.declarations.NewComponent.{NewComponent}
use Rattle.vtl_csv.specs.declared.structures.Declared.{Declared as Whole}
use Rattle.vtl_csv.specs.declared.version.Opening.{Opening}
use Rattle.vtl_csv.specs.declared.version.Version.{Version}
use Rattle.vtl_csv.specs.Declarations.{Declaration, codes_of, component_in, dataset_in, declaration_of, declared_by, has_component, is_full, kind_in, listed_by, record_of, role_in, with_new}
use Rattle.vtl_csv.specs.Opening.{Fault, first_line, opening_of}
use Rattle.vtl_csv.specs.StructuresFile.{◌at_line◌, declaring, is_identifier, lacks_identifier, lines_behind, lines_declare, lines_in, missing_in, records_in, structures_of_file, with_identifiers, without_identifier}
use Rattle.vtl_csv.proofs.DeclarationLemmas.{record_fits, or_rule-kept}

abbrev pub Records : Type 0
Records = List Record

-- ---- declared lines are structures
pub lines_are : (version : Version) (line : ℕ) (so_far : Declared) (rs : Records) (all : Declared) → AreStructures so_far.sets → lines_declare version line so_far rs ≡ Ok all → AreStructures all.sets
lines_are version line so_far [] all h e = let same : so_far ≡ all = cc in subst (λ (d : Declared). AreStructures d.sets) same h
lines_are version line so_far (fields ∷ rest) all h e = go (λ new a q. lines_are version (line + 1) new rest all a q) (record_of version so_far.sets fields) refl e
  where
    go : ((new : Declared) → AreStructures new.sets → lines_declare version (line + 1) new rest ≡ Ok all → AreStructures all.sets)
        → (r : Result NewComponent ℕ) → record_of version so_far.sets fields ≡ r → ((r >>= λ n. Ok (with_new n so_far)) at_line line >>= λ new. lines_declare version (line + 1) new rest) ≡ Ok all → AreStructures all.sets
    go ih (Err rule) is q = cc
    go ih (Ok n) is q = ih (with_new n so_far) (add_are so_far.sets n.dataset n.component h (record_fits version so_far.sets fields n is).0) q

-- ---- each data set has a record
abbrev name_in : Version → List (List ℕ) → Option (List ℕ)
name_in version fields = option_and_then (λ d. dataset_in d.dataset) (declaration_of version fields)

abbrev speaks_of : Version → List ℕ → List (List ℕ) → Bool
speaks_of version name fields = option_map_or (same_name name) (name_in version fields) false

abbrev has_record : Version → List ℕ → Records → Bool
has_record version name rs = list_any (speaks_of version name) rs

unless_rule_kept : {Y : Type 0} (n : ℕ) (b : Bool) (r : Result Y ℕ) (y : Y) → cond b (Err n) r ≡ Ok y → r ≡ Ok y
unless_rule_kept n true r y e = cc
unless_rule_kept n false r y e = e

declares_its_name : (version : Version) (so_far : Named) (d : Declaration) (n : NewComponent) → declared_by version so_far d ≡ Ok n → dataset_in d.dataset ≡ Some n.dataset
declares_its_name version so_far d n e =
    let s3 = or_rule-kept 3 (dataset_in d.dataset) _ n e in
    let s4 = or_rule-kept 4 (component_in d.component) _ n s3.2 in
    let s5 = or_rule-kept 5 (role_in d.role) _ n s4.2 in
    let s6 = or_rule-kept 6 (kind_in d.kind) _ n s5.2 in
    let s7 = unless_rule_kept 7 (has_component so_far s3.0 s4.0) _ n s6.2 in
    let s8 = or_rule-kept 8 (codes_of s5.0 s6.0 d.code_list) _ n s7 in
    let s9 = unless_rule_kept 9 (is_full version so_far s3.0) _ n s8.2 in
    let s11 = or_rule-kept 11 (listed_by s5.0 d.nullable) _ n s9 in
    let x : NewComponent = record { dataset = s3.0; component = record { name = s4.0; role = s5.0; kind = s6.0; codes = s8.0 }; is_listed = s11.0 } in
    s3.1 ∙ ap (λ (m : NewComponent). Some m.dataset) (ok_same x n s11.2)
  where
    ok_same : (m n : NewComponent) → ◌≡◌ {A = Result NewComponent ℕ} (Ok m) (Ok n) → m ≡ n
    ok_same m n e = cc

record_names : (version : Version) (so_far : Named) (fields : List (List ℕ)) (n : NewComponent) → record_of version so_far fields ≡ Ok n → name_in version fields ≡ Some n.dataset
record_names version so_far fields n e = go (declaration_of version fields) e
  where
    go : (o : Option Declaration) → (ok_or o 2 >>= declared_by version so_far) ≡ Ok n → option_and_then (λ d. dataset_in d.dataset) o ≡ Some n.dataset
    go None q = cc
    go (Some d) q = declares_its_name version so_far d n q

-- a component more brings no other name than its data set's
more_names : (n name : List ℕ) (x : Component) (xs : Named) → has_name n (with_component name x xs) ≡ true → (same_name n name || has_name n xs) ≡ true
more_names n name x [] e = e
more_names n name x (y ∷ ys) e = go (same_name name y.0) (more_names n name x ys) e
  where
    either : (a b c : Bool) → (b || c) ≡ true → (a || (b || c)) ≡ true
    either true b c e = refl
    either false b c e = e

    turned : (a b c : Bool) → (c ≡ true → (a || b) ≡ true) → ((d : Bool) → (d || c) ≡ true → (a || (d || b)) ≡ true)
    turned true b c h d e = refl
    turned false b c h true e = refl
    turned false b c h false e = h e

    go : (b : Bool) → (has_name n (with_component name x ys) ≡ true → (same_name n name || has_name n ys) ≡ true)
        → has_name n (cond b ((y.0, structure_of (y.1.components ++ x ∷ [])) ∷ ys) (y ∷ with_component name x ys)) ≡ true → (same_name n name || (same_name n y.0 || has_name n ys)) ≡ true
    go true h q = either (same_name n name) (same_name n y.0) (has_name n ys) q
    go false h q = turned (same_name n name) (has_name n ys) (has_name n (with_component name x ys)) h (same_name n y.0) q

-- a name that is declared stood there before, or has a record
lines_name : (version : Version) (n : List ℕ) (line : ℕ) (so_far : Declared) (rs : Records) (all : Declared) → lines_declare version line so_far rs ≡ Ok all → has_name n all.sets ≡ true → (has_name n so_far.sets || has_record version n rs) ≡ true
lines_name version n line so_far [] all e has = let same : so_far ≡ all = cc in ap (λ (d : Declared). has_name n d.sets || false) same ∙ rw has refl
lines_name version n line so_far (fields ∷ rest) all e has = go (λ new q. lines_name version n (line + 1) new rest all q has) (record_of version so_far.sets fields) refl e
  where
    join : (a b c : Bool) → (a || b) ≡ true → (b || (a || c)) ≡ true
    join true true c e = refl
    join true false c e = refl
    join false true c e = refl
    join false false c e = cc

    later : (a b c d : Bool) → (d ≡ true → (a || b) ≡ true) → (d || c) ≡ true → (b || (a || c)) ≡ true
    later a b c true h e = join a b c (h refl)
    later a true c false h e = refl
    later true false c false h e = refl
    later false false c false h e = e

    go : ((new : Declared) → lines_declare version (line + 1) new rest ≡ Ok all → (has_name n new.sets || has_record version n rest) ≡ true)
        → (r : Result NewComponent ℕ) → record_of version so_far.sets fields ≡ r → ((r >>= λ x. Ok (with_new x so_far)) at_line line >>= λ new. lines_declare version (line + 1) new rest) ≡ Ok all
        → (has_name n so_far.sets || (speaks_of version n fields || has_record version n rest)) ≡ true
    go ih (Err rule) is q = cc
    go ih (Ok x) is q =
        let named : speaks_of version n fields ≡ same_name n x.dataset = ap (λ o. option_map_or (same_name n) o false) (record_names version so_far.sets fields x is) in
        let found = ih (with_new x so_far) q in
        ap (λ b. has_name n so_far.sets || (b || has_record version n rest)) named
        ∙ later (same_name n x.dataset) (has_name n so_far.sets) (has_record version n rest) (has_name n (with_component x.dataset x.component so_far.sets)) (more_names n x.dataset x.component so_far.sets) found

-- a data set with a record has an identifier, where no record lacks one
record_identifies : (version : Version) (n : List ℕ) (line : ℕ) (all : Named) (rs : Records) → without_identifier version line all rs ≡ None → has_record version n rs ≡ true → list_any is_identifier (components_of n all) ≡ true
record_identifies version n line all [] e has = cc
record_identifies version n line all (fields ∷ rest) e has = go (record_identifies version n (line + 1) all rest) (lacks_identifier version all fields) refl (speaks_of version n fields) refl e has
  where
    same_as : (m : List ℕ) → same_name n m ≡ true → n ≡ m
    same_as m e = (bytes_decides n m).0 e

    has_one : (b : Bool) → not b ≡ false → b ≡ true
    has_one true e = refl
    has_one false e = cc

    named : (o : Option (List ℕ)) → option_map_or (λ name. not (list_any is_identifier (components_of name all))) o false ≡ false → option_map_or (same_name n) o false ≡ true → list_any is_identifier (components_of n all) ≡ true
    named None l s = cc
    named (Some m) l s = ap (λ name. list_any is_identifier (components_of name all)) (same_as m s) ∙ has_one (list_any is_identifier (components_of m all)) l

    go : (without_identifier version (line + 1) all rest ≡ None → has_record version n rest ≡ true → list_any is_identifier (components_of n all) ≡ true)
        → (b : Bool) → lacks_identifier version all fields ≡ b → (t : Bool) → speaks_of version n fields ≡ t → cond b (Some line) (without_identifier version (line + 1) all rest) ≡ None → (t || has_record version n rest) ≡ true → list_any is_identifier (components_of n all) ≡ true
    go ih true l t s q h = cc
    go ih false l true s q h = named (name_in version fields) l s
    go ih false l false s q h = ih q h

-- ---- a whole file
record IsDeclared (all : Named) : Type 0 where
  are : AreStructures all
  each : (n : List ℕ) → has_name n all ≡ true → list_any is_identifier (components_of n all) ≡ true

no_name_yet : AreStructures []
no_name_yet = record { declarable = refl; distinct = refl }

file_declares : (rs : Records) (all : Whole) → (lines_in rs >>= with_identifiers rs) ≡ Ok all → IsDeclared all.structures.sets
file_declares rs all e = by_opening (opening_of rs) e
  where
    whole : (o : Opening) (d : Declared) → lines_behind o rs ≡ Ok d → (lacking : Option ℕ) → missing_in o d.sets rs ≡ lacking
        → option_map_or {U = Result Whole Fault} (λ line. Err (line, 10)) lacking (Ok (record { structures = d; profile = o.profile })) ≡ Ok all → IsDeclared all.structures.sets
    whole o d is (Some line) none q = cc
    whole o d is None none q =
        let made : Whole = record { structures = d; profile = o.profile } in
        let same : made ≡ all = cc in
        let first = first_line o.version in
        let rest = declaring o.version rs in
        subst (λ (x : Whole). IsDeclared x.structures.sets) same (record {
          are = lines_are o.version first no_sets rest d no_name_yet is;
          each = λ n has. record_identifies o.version n first d.sets rest none (lines_name o.version n first no_sets rest d is has);
        })

    by_lines : (o : Opening) (r : Result Declared Fault) → lines_behind o rs ≡ r → ((r >>= λ d. Ok (o, d)) >>= with_identifiers rs) ≡ Ok all → IsDeclared all.structures.sets
    by_lines o (Err fault) is q = cc
    by_lines o (Ok d) is q = whole o d is (missing_in o d.sets rs) refl q

    by_opening : (r : Result Opening Fault) → ((r >>= λ o. lines_behind o rs >>= λ d. Ok (o, d)) >>= with_identifiers rs) ≡ Ok all → IsDeclared all.structures.sets
    by_opening (Err fault) q = cc
    by_opening (Ok o) q = by_lines o (lines_behind o rs) refl q

pub file_are : (text : List ℕ) (all : Whole) → structures_of_file text ≡ Ok all → AreStructures all.structures.sets
file_are text all read = (file_declares (records_in text) all read).are

-- ---- the structure of a name
found_named : (n : List ℕ) (xs : Named) (t : Structure) → lookup (same_name n) xs ≡ Some t → has_name n xs ≡ true
found_named n [] t e = cc
found_named n (x ∷ xs) t e = go (same_name n x.0) (found_named n xs t) e
  where
    go : (b : Bool) → (lookup (same_name n) xs ≡ Some t → has_name n xs ≡ true) → cond b (Some x.1) (lookup (same_name n) xs) ≡ Some t → (b || has_name n xs) ≡ true
    go true h q = refl
    go false h q = h q

some_kept : {X : Type 0} (p : X → Bool) (xs : List X) → list_any p xs ≡ true → 1 ≤ length (filter p xs)
some_kept p [] e = cc
some_kept p (x ∷ xs) e = go (p x) (some_kept p xs) e
  where
    go : (b : Bool) → (list_any p xs ≡ true → 1 ≤ length (filter p xs)) → (b || list_any p xs) ≡ true → 1 ≤ length (cond b (x ∷ filter p xs) (filter p xs))
    go true h q = omega arith
    go false h q = h q

module _ (name text : List ℕ) (all : Whole) (t : Structure) (read : structures_of_file text ≡ Ok all) (found : lookup (same_name name) all.structures.sets ≡ Some t) where
  declared : IsDeclared all.structures.sets
  declared = file_declares (records_in text) all read

  pub read_is_structure : IsStructure t
  read_is_structure = declared_structure t (all_found (same_name name) all.structures.sets t declared.are.declarable found)

  pub read_has_identifier : 1 ≤ key_width t
  read_has_identifier =
      let its : components_of name all.structures.sets ≡ t.components = ap (λ o. option_map_or (λ x. x.components) o []) found in
      some_kept is_identifier t.components (ap (list_any is_identifier) (sym its) ∙ declared.each name (found_named name all.structures.sets t found))
