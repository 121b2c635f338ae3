-- The records of a text of version 2 are read again.
use Rattle.std.proofs.Common.{◌≡◌, ℕ, zero, suc, ◌+◌, ◌≤◌, cond, List, [], ◌∷◌, ◌++◌, length, length-append, map, flat_map, arith, refl, ap, ◌∙◌}
use Rattle.std.proofs.lemmas.List.{map-append}
use Rattle.std.specs.Prelude.{codes}
use Rattle.csv.specs.Reading.{default_config, records, records_from, strip_bom}
use Rattle.csv.specs.Writing.{default_writer, is_blank, read_back, row_body, row_text}
use Rattle.csv.specs.declared.parser.State.TheVariants as st
use Rattle.csv.proofs.RoundTrip.{read-write}
use Rattle.vtl_lists.specs.Aliases.{Name, Record}
use Rattle.vtl_decimal.specs.Settings.{Settings}
use Rattle.vtl_tree.specs.declared.structure.Component.{Component}
use Rattle.vtl_tree.specs.NotNull.{Declared, NotNull, not_null_of}
use Rattle.vtl_tree.specs.Structures.{Named}
use Rattle.vtl_csv.specs.StructuresFile.{records_in}
use Rattle.vtl_csv.specs.StructuresText.{component_record, declaring_records, heading_record, profile_record, records_written, rounding_word, second_text, set_records}
use Rattle.vtl_csv.proofs.RecordsLeftLemmas.{records_from-none}
use Rattle.vtl_csv.proofs.ReadAgainLemmas.{record_unmarked}

-- ---- records
written : (n : ℕ) (rows : List Record) → length rows ≤ n → records_from default_config n st.StartRecord (flat_map (row_text default_writer) rows) ≡ map read_back rows
unfolding records_from
written n [] h = records_from-none default_config n
written zero (r ∷ rows) h = absurd (omega arith)
written (suc n) (r ∷ rows) h = rw (read-write r (flat_map (row_text default_writer) rows)) (ap (λ (t : List Record). read_back r ∷ t) (written n rows (omega (arith, h))))

ends : (xs ys : List ℕ) → 1 ≤ length (xs ++ (ys ++ (10 ∷ [])))
ends xs ys =
    let a = length-append xs (ys ++ (10 ∷ [])) in
    let b = length-append ys (10 ∷ []) in
    omega (arith, a, b)

long_text : (rows : List Record) → length rows ≤ length (flat_map (row_text default_writer) rows)
long_text [] = omega arith
long_text (r ∷ rows) =
    let a = length-append (row_text default_writer r) (flat_map (row_text default_writer) rows) in
    let b = ends (row_body default_writer r) (cond (is_blank default_writer r) (34 ∷ 34 ∷ []) []) in
    let c = long_text rows in
    omega (arith, a, b, c)

records_again : (rows : List Record) → strip_bom (flat_map (row_text default_writer) rows) ≡ flat_map (row_text default_writer) rows → map read_back rows ≡ rows → records_in (flat_map (row_text default_writer) rows) ≡ rows
records_again rows unmarked back =
    let l = long_text rows in
    ap (records default_config) unmarked ∙ written (length (flat_map (row_text default_writer) rows) + 1) rows (omega (arith, l)) ∙ back

-- ---- each record has fields
components_back : (name : Name) (list : List Name) (xs : List Component) → map read_back (map (component_record name list) xs) ≡ map (component_record name list) xs
components_back name list [] = refl
components_back name list (x ∷ xs) = ap (λ (t : List Record). component_record name list x ∷ t) (components_back name list xs)

sets_back : (ls : NotNull) (sets : Named) → map read_back (flat_map (set_records ls) sets) ≡ flat_map (set_records ls) sets
sets_back ls [] = refl
sets_back ls (e ∷ es) =
    map-append read_back (set_records ls e) (flat_map (set_records ls) es)
    ∙ ap (λ (t : List Record). t ++ map read_back (flat_map (set_records ls) es)) (components_back e.0 (not_null_of e.0 ls) e.1.components)
    ∙ ap (λ (t : List Record). set_records ls e ++ t) (sets_back ls es)

-- ---- the first one begins with no mark
word_unmarked : strip_bom (codes "structures") ≡ codes "structures"
unfolding strip_bom
word_unmarked = refl

-- ---- the whole text
pub second_again : (d : Declared) (p : Settings) → records_in (second_text d p) ≡ records_written d p
second_again d p =
    records_again (records_written d p)
    (record_unmarked (codes "structures") (codes "2" ∷ ((48 + p.scale) ∷ []) ∷ rounding_word p.rounding ∷ [] ∷ [] ∷ []) (flat_map (row_text default_writer) (heading_record ∷ declaring_records d)) word_unmarked)
    (ap (λ (t : List Record). profile_record p ∷ heading_record ∷ t) (sets_back d.not_null d.sets))
