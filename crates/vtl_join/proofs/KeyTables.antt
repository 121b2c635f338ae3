-- Tables of the identifiers of operands.
use Rattle.std.proofs.Common.{◌≡◌, ℕ, zero, suc, ◌+◌, ◌<◌, ◌≤◌, Bool, true, cond, List, [], ◌∷◌, ◌++◌, length, length-append, get_or, map, take, refl, sym, ap, ◌∙◌, subst, All, arith, eqb, eq-eqb, ne_eqb, zero-add}
use Rattle.std.specs.List.{AllByRecursion, filter, flat_map, position_or_len, range_with_len}
use Rattle.std.proofs.lemmas.Bool.{eqb-true}
use Rattle.std.proofs.lemmas.Grind.{flat_map-append}
use Rattle.std.proofs.lemmas.List.{append-nil, get_or_default, get_or_past, length-map, map-append, map_more, take_more}
use Rattle.vtl_lists.proofs.Alls.{all_each}
use Rattle.vtl_lists.proofs.Filters.{filter_true}
use Rattle.vtl_cell.specs.Row.{Row, same_row}
use Rattle.vtl_cell.specs.declared.kind.Kind.TheVariants as k
use Rattle.vtl_rows.specs.Gathered.{picked, picked_kind, pieces}
use Rattle.vtl_rows.specs.Tables.{Listed, cells_at, column_at, column_kinds}
use Rattle.vtl_rows.specs.declared.column.Column.{Column}
use Rattle.vtl_rows.specs.declared.gather.Pick.{Pick}
use Rattle.vtl_index.specs.Groups.{AreLeads, firsts, is_first, rows_led}
use Rattle.vtl_index.specs.Leads.{leads_of}
use Rattle.vtl_index.proofs.Ranges.{none_pass, passing, passing_at, passing_is}
use Rattle.vtl_sets.specs.TableOf.{column_for, table_columns}
use Rattle.vtl_tuples.proofs.Lists.{map-map}
use Rattle.vtl_tree.specs.Environment.{DataSet}
use Rattle.vtl_tree.specs.Structure.{columns_of}
use Rattle.vtl_tree.specs.declared.structure.Component.{Component}
use Rattle.vtl_tree.specs.declared.structure.Structure.{Structure}
use Rattle.vtl_tree.specs.Columns.{identifiers_of, others_of, places_in}
use Rattle.vtl_meaning.specs.Made.{AreAmong, component_kinds}
use Rattle.vtl_meaning.proofs.Places.{columns_split}
use Rattle.vtl_meaning.proofs.OwnColumns.{among_front}
use Rattle.vtl_join.specs.declared.joined.Operand.{Operand}
use Rattle.vtl_join.specs.Joining.{sets_of}
use Rattle.vtl_join.specs.Keys.{all_key_rows, key_kinds, key_places, key_rows}
use Rattle.vtl_join.specs.Picks.{picks_at}
use Rattle.vtl_join.proofs.PickKinds.{named_kinds}
use Rattle.vtl_join.proofs.Picked.{picked_lead}
use Rattle.vtl_join.proofs.Pieced.{by_places, pieces_of_tuples}

-- ---- columns
-- what is among the identifiers is among the columns
pub among_columns : (zs : List Component) (a : Structure) → AreAmong zs (identifiers_of a) → AreAmong zs (columns_of a)
among_columns zs a all = subst (AreAmong zs) (sym (columns_split a)) (among_front zs (identifiers_of a) (others_of a) all)

pub some_keys : (ids : List Component) (columns : List Column) → column_kinds columns ≡ key_kinds ids → 0 < length columns
some_keys ids columns e =
    let l = length-map columns (λ c. c.kind) in
    let m = ap length e in
    let n = length-append (component_kinds ids) (k.Null ∷ []) in
    omega (arith, l, m, n)

pub key_kinds_are : (ids : List Component) (d : DataSet) (t : Listed) → t.columns ≡ table_columns d.structure → AreAmong ids (columns_of d.structure) → key_kinds ids ≡ map (picked_kind (t ∷ [])) (picks_at 0 (key_places ids d.structure))
key_kinds_are ids d t e all =
    let a = d.structure in
    let places = places_in (columns_of a) ids in
    let pick : ℕ → Pick = λ place. record { part = 0; column = place } in
    let many : length (table_columns a) ≤ length (columns_of a) = let l = length-map (columns_of a) column_for in omega (arith, l) in
    let spare : (column_at t.columns (length (columns_of a))).kind ≡ k.Null =
    ap (λ (l : List Column). (column_at l (length (columns_of a))).kind) e ∙ ap (λ (c : Column). c.kind) (get_or_past (table_columns a) (length (columns_of a)) (record { name = []; kind = k.Null }) many) in
    sym (ap (map (picked_kind (t ∷ []))) (map-append pick places (length (columns_of a) ∷ []))
    ∙ map-append (picked_kind (t ∷ [])) (picks_at 0 places) (picks_at 0 (length (columns_of a) ∷ []))
    ∙ ap (λ l. l ++ map (picked_kind (t ∷ [])) (picks_at 0 (length (columns_of a) ∷ []))) (named_kinds (t ∷ []) 0 (columns_of a) ids e all)
    ∙ ap (λ j. component_kinds ids ++ j ∷ []) spare)

-- ---- rows of one part
singles : (xs : List ℕ) → flat_map (λ x. cond true (x ∷ []) []) xs ≡ xs
singles [] = refl
singles (x ∷ xs) = ap (λ l. x ∷ l) (singles xs)

pub rows_of_part : (t : Listed) (places : List ℕ) → map (picked (t ∷ []) (picks_at 0 places)) (pieces 1 (range_with_len 0 (length t.rows))) ≡ map (cells_at places) t.rows
rows_of_part t places =
    let ns = range_with_len 0 (length t.rows) in
    let row : List ℕ → Row = picked (t ∷ []) (picks_at 0 places) in
    let on : (k : ℕ) → 0 + k ≡ k = λ k. zero-add k in
    ap (λ l. map row (pieces 1 l)) (sym (singles ns)) ∙ ap (map row) (pieces_of_tuples (λ n. true) (λ n. n ∷ []) 1 ns (omega arith) (all_each (λ n. length (n ∷ []) ≡ 1) (λ n. refl) ns))
    ∙ map-map row (λ n. n ∷ []) (filter (λ n. true) ns)
    ∙ by_places (λ n. true) (λ n. row (n ∷ [])) (λ r. true) (cells_at places) [] 0 t.rows (λ k h. refl) (λ k h. ap (λ n. row (n ∷ [])) (on k) ∙ picked_lead t [] places k [])
    ∙ ap (map (cells_at places)) (filter_true t.rows)

pub part_below : (places : List ℕ) → All (λ p. p.part < 1) (picks_at 0 places)
part_below [] k d h = absurd (omega (arith, h))
part_below (p ∷ places) zero d h = omega arith
part_below (p ∷ places) (suc k) d h = part_below places k d (omega (arith, h))

-- ---- the keys of one more operand
pub keys_more : (ids : List Component) (os : List Operand) (i : ℕ) (o : Operand) (old new : List Row) → i < length os → o ≡ get_or os i o → old ≡ all_key_rows ids (sets_of (take i os)) → new ≡ old ++ key_rows ids o.set → new ≡ all_key_rows ids (sets_of (take (i + 1) os))
keys_more ids os i o old new h at e n =
    let ds = sets_of (take i os) in
    let more : sets_of (take (i + 1) os) ≡ ds ++ o.set ∷ [] = map_more (λ (x : Operand). x.set) os i o h ∙ ap (λ (x : Operand). ds ++ x.set ∷ []) (sym at) in
    n ∙ ap (λ l. l ++ key_rows ids o.set) e ∙ ap (λ l. all_key_rows ids ds ++ l) (sym (append-nil (key_rows ids o.set)))
    ∙ sym (flat_map-append (key_rows ids) ds (o.set ∷ [])) ∙ ap (all_key_rows ids) (sym more)

pub set_at : (P : DataSet → Type 0) (os : List Operand) (i : ℕ) (o : Operand) → AllByRecursion P (sets_of os) → i < length os → o ≡ get_or os i o → P o.set
set_at P [] i o all h at = absurd (omega (arith, h))
set_at P (x ∷ os) zero o all h at = subst (λ (y : Operand). P y.set) (sym at) all.0
set_at P (x ∷ os) (suc i) o all h at = set_at P os i o all.1 (omega (arith, h)) at

-- ---- the first rows of groups
module _ (leads : List ℕ) (are : AreLeads leads) (g : ℕ) (h : g < length (firsts leads)) where
  abbrev f : ℕ
  f = get_or (firsts leads) g 0

  leading : (f < length leads) × (get_or leads f 0 ≡ f)
  leading = let p = passing_is (is_first leads) (length leads) g h in (p.0, eqb-true (get_or leads f 0) f p.1)

  abbrev test : ℕ → Bool
  test i = eqb (get_or leads i 0) f

  none_before : length (passing test f) ≡ 0
  none_before =
      let within = leading.0 in
      ap length (none_pass test f (λ i l. let b = are.before i (omega (arith, l, within)) in ne_eqb (get_or leads i 0) f (λ e. absurd (omega (arith, b, e, l)))))

  pub led_first : (0 < length (rows_led leads f)) × (get_or (rows_led leads f) 0 0 ≡ f)
  led_first =
      let stands = passing_at test (length leads) f leading.0 (eq-eqb (get_or leads f 0) f leading.1) in
      (subst (λ n. n < length (rows_led leads f)) none_before stands.0, ap (λ n. get_or (rows_led leads f) n 0) (sym none_before) ∙ stands.1)

pub firsts_within : (leads : List ℕ) (n : ℕ) → length leads ≡ n → All (λ i. i < n) (firsts leads)
firsts_within leads n e g d h =
    let p = passing_is (is_first leads) (length leads) g h in
    let same = get_or_default (firsts leads) g d 0 h in
    let within = p.0 in
    omega (arith, e, same, within)

pub firsts_more : (leads : List ℕ) (are : AreLeads leads) (g : ℕ) (rows old new : List ℕ) → g < length (firsts leads) → rows ≡ rows_led leads (get_or (firsts leads) g 0) → old ≡ take g (firsts leads) → new ≡ old ++ get_or rows 0 0 ∷ [] → new ≡ take (g + 1) (firsts leads)
firsts_more leads are g rows old new h is o n =
    n ∙ ap (λ l. l ++ get_or rows 0 0 ∷ []) o ∙ ap (λ l. take g (firsts leads) ++ get_or l 0 0 ∷ []) is ∙ ap (λ f. take g (firsts leads) ++ f ∷ []) (led_first leads are g h).1
    ∙ sym (take_more (firsts leads) g 0 h)

pub groups_count : (key : Row → Row) (rows : List Row) (groups : List ℕ) → groups ≡ leads_of key rows → length groups ≡ length rows
groups_count key rows groups e = ap length e ∙ length-map rows (λ r. position_or_len (λ s. same_row (key s) (key r)) rows)
