-- The cells that are picked for a tuple of row numbers are those of the tuple's parts.
use Rattle.std.proofs.Common.{◌≡◌, ℕ, zero, suc, ◌+◌, List, [], ◌∷◌, ◌++◌, length, length-append, map, None, refl, sym, ap, ◌∙◌, arith}
use Rattle.std.specs.Prelude.{slice_get, slice_index}
use Rattle.std.specs.List.{flat_map}
use Rattle.std.proofs.lemmas.List.{append_assoc, map-append}
use Rattle.vtl_cell.specs.Row.{Row, column_of}
use Rattle.vtl_cell.specs.declared.cell.Cell.TheVariants as c
use Rattle.vtl_rows.specs.Gathered.{part_at, picked, picked_cell}
use Rattle.vtl_rows.specs.Places.{row_at}
use Rattle.vtl_rows.specs.Tables.{Listed, cells_at}
use Rattle.vtl_rows.specs.declared.gather.Pick.{Pick}
use Rattle.vtl_tree.specs.Environment.{DataSet}
use Rattle.vtl_tree.specs.Structure.{columns_of, of_role}
use Rattle.vtl_tree.specs.declared.structure.Component.{Component}
use Rattle.vtl_tree.specs.declared.structure.Role.{Role}
use Rattle.vtl_tree.specs.declared.structure.Role.TheVariants as role
use Rattle.vtl_tree.specs.declared.structure.Structure.{Structure}
use Rattle.vtl_tree.specs.Columns.{places_in}
use Rattle.vtl_meaning.specs.Joined.{Part, attributes_in, measures_in, part_of, structures_of, values_or_nulls}
use Rattle.vtl_meaning.proofs.LookUps.{named_cells}
use Rattle.vtl_join.specs.Picks.{picks_at, picks_behind, picks_from, places_of, table_of}

-- ---- parts by the numbers of their rows
abbrev pub parts_at : List DataSet → List ℕ → List Part
parts_at [] ns = []
parts_at (d ∷ ds) [] = []
parts_at (d ∷ ds) (n ∷ ns) = part_of d (slice_get d.points n) ∷ parts_at ds ns

-- the values of a part in the columns of a role
abbrev pub values_of : Role → Part → Row
values_of r p = values_or_nulls p.structure (of_role r p.structure) p.point

nulls_are : (a : Structure) (xs ys : List Component) → cells_at (places_in xs ys) [] ≡ values_or_nulls a ys None
nulls_are a xs [] = refl
nulls_are a xs (y ∷ ys) = ap (λ l. c.Null ∷ l) (nulls_are a xs ys)

cells_are : (a : Structure) (ys : List Component) (rows : List Row) (n : ℕ) → cells_at (places_in (columns_of a) ys) (row_at rows n) ≡ values_or_nulls a ys (slice_get rows n)
cells_are a ys [] n = nulls_are a (columns_of a) ys
cells_are a ys (r ∷ rows) zero = named_cells (columns_of a) ys r
cells_are a ys (r ∷ rows) (suc n) = cells_are a ys rows n

-- ---- what is picked
picked_at : (parts : List Listed) (n : ℕ) (places : List ℕ) (tuple : List ℕ) → picked parts (picks_at n places) tuple ≡ cells_at places (row_at (part_at parts n).rows (slice_index tuple n))
picked_at parts n [] tuple = refl
picked_at parts n (p ∷ places) tuple = ap (λ l. column_of p (row_at (part_at parts n).rows (slice_index tuple n)) ∷ l) (picked_at parts n places tuple)

pub picked_more : (parts : List Listed) (ps qs : List Pick) (tuple : List ℕ) → picked parts (ps ++ qs) tuple ≡ picked parts ps tuple ++ picked parts qs tuple
picked_more parts ps qs tuple = map-append (picked_cell parts tuple) ps qs

pub part_behind : (pre : List Listed) (t : Listed) (parts : List Listed) → part_at (pre ++ t ∷ parts) (length pre) ≡ t
part_behind [] t parts = refl
part_behind (p ∷ pre) t parts = part_behind pre t parts

number_behind : (front : List ℕ) (n : ℕ) (ns : List ℕ) → slice_index (front ++ n ∷ ns) (length front) ≡ n
number_behind [] n ns = refl
number_behind (m ∷ front) n ns = number_behind front n ns

-- those of a role, from the parts behind others
picked_from : (r : Role) (pre : List Listed) (front : List ℕ) (ds : List DataSet) (ns : List ℕ) → length front ≡ length pre → length ns ≡ length ds
    → picked (pre ++ map table_of ds) (picks_from r (length pre) (structures_of ds)) (front ++ ns) ≡ flat_map (values_of r) (parts_at ds ns)
picked_from r pre front [] ns e l = refl
picked_from r pre front (d ∷ ds) [] e l = absurd (omega (arith, l))
picked_from r pre front (d ∷ ds) (n ∷ ns) e l =
    let a = d.structure in
    let ss = structures_of ds in
    let parts = pre ++ table_of d ∷ map table_of ds in
    let tuple = front ++ n ∷ ns in
    let one : picked parts (picks_at (length pre) (places_of r a)) tuple ≡ values_of r (part_of d (slice_get d.points n)) =
    picked_at parts (length pre) (places_of r a) tuple
    ∙ ap (λ (t : Listed). cells_at (places_of r a) (row_at t.rows (slice_index tuple (length pre)))) (part_behind pre (table_of d) (map table_of ds))
    ∙ ap (λ k. cells_at (places_of r a) (row_at d.points k)) (ap (slice_index tuple) (sym e) ∙ number_behind front n ns)
    ∙ cells_are a (of_role r a) d.points n in
    let many : length (pre ++ table_of d ∷ []) ≡ length pre + 1 = length-append pre (table_of d ∷ []) in
    let fronts : length (front ++ n ∷ []) ≡ length (pre ++ table_of d ∷ []) = let l1 = length-append front (n ∷ []) in omega (arith, l1, many, e) in
    let ih = picked_from r (pre ++ table_of d ∷ []) (front ++ n ∷ []) ds ns fronts (omega (arith, l)) in
    let rest : picked parts (picks_from r (length pre + 1) ss) tuple ≡ flat_map (values_of r) (parts_at ds ns) =
    ap (λ k. picked parts (picks_from r k ss) tuple) (sym many)
    ∙ ap (λ ts. picked ts (picks_from r (length (pre ++ table_of d ∷ [])) ss) tuple) (sym (append_assoc pre (table_of d ∷ []) (map table_of ds)))
    ∙ ap (picked ((pre ++ table_of d ∷ []) ++ map table_of ds) (picks_from r (length (pre ++ table_of d ∷ [])) ss)) (sym (append_assoc front (n ∷ []) ns))
    ∙ ih in
    picked_more parts (picks_at (length pre) (places_of r a)) (picks_from r (length pre + 1) ss) tuple
    ∙ ap (λ l. l ++ picked parts (picks_from r (length pre + 1) ss) tuple) one
    ∙ ap (λ l. values_of r (part_of d (slice_get d.points n)) ++ l) rest

-- a row of the lead and rows of the operands
pub picked_behind : (lead : Listed) (ds : List DataSet) (identifiers : List Pick) (n : ℕ) (ns : List ℕ) → length ns ≡ length ds
    → picked (lead ∷ map table_of ds) (picks_behind identifiers (structures_of ds)) (n ∷ ns) ≡ picked (lead ∷ map table_of ds) identifiers (n ∷ ns) ++ flat_map measures_in (parts_at ds ns) ++ flat_map attributes_in (parts_at ds ns)
picked_behind lead ds identifiers n ns l =
    let parts = lead ∷ map table_of ds in
    let ms = picks_from role.Measure 1 (structures_of ds) in
    let xs = picks_from role.Attribute 1 (structures_of ds) in
    picked_more parts (identifiers ++ ms) xs (n ∷ ns)
    ∙ ap (λ l. l ++ picked parts xs (n ∷ ns)) (picked_more parts identifiers ms (n ∷ ns))
    ∙ ap (λ l. picked parts identifiers (n ∷ ns) ++ l ++ picked parts xs (n ∷ ns)) (picked_from role.Measure (lead ∷ []) (n ∷ []) ds ns refl l)
    ∙ ap (λ l. picked parts identifiers (n ∷ ns) ++ flat_map measures_in (parts_at ds ns) ++ l) (picked_from role.Attribute (lead ∷ []) (n ∷ []) ds ns refl l)

-- the identifiers of every operand
pub picked_identifiers : (lead : Listed) (ds : List DataSet) (n : ℕ) (ns : List ℕ) → length ns ≡ length ds
    → picked (lead ∷ map table_of ds) (picks_from role.Identifier 1 (structures_of ds)) (n ∷ ns) ≡ flat_map (values_of role.Identifier) (parts_at ds ns)
picked_identifiers lead ds n ns l = picked_from role.Identifier (lead ∷ []) (n ∷ []) ds ns refl l

-- cells of the lead
pub picked_lead : (lead : Listed) (ts : List Listed) (places : List ℕ) (n : ℕ) (ns : List ℕ) → picked (lead ∷ ts) (picks_at 0 places) (n ∷ ns) ≡ cells_at places (row_at lead.rows n)
picked_lead lead ts places n ns = picked_at (lead ∷ ts) 0 places (n ∷ ns)
