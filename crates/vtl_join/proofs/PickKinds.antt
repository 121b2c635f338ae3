-- The kinds of the columns from which cells are picked, and that there are these parts.
use Rattle.std.proofs.Common.{◌≡◌, ℕ, zero, suc, ◌+◌, ◌<◌, ◌≤◌, List, [], ◌∷◌, ◌++◌, length, length-append, map, All, refl, sym, ap, ◌∙◌, arith}
use Rattle.std.specs.List.{AllByRecursion}
use Rattle.std.proofs.lemmas.List.{append_assoc, map-append}
use Rattle.vtl_lists.proofs.Alls.{all_append, all_back, all_front}
use Rattle.vtl_cell.specs.declared.kind.Kind.{Kind}
use Rattle.vtl_rows.specs.Gathered.{part_at, picked_kind}
use Rattle.vtl_rows.specs.Tables.{Listed, column_at}
use Rattle.vtl_rows.specs.declared.column.Column.{Column}
use Rattle.vtl_rows.specs.declared.gather.Pick.{Pick}
use Rattle.vtl_sets.specs.TableOf.{column_for, table_columns}
use Rattle.vtl_tree.specs.Environment.{DataSet}
use Rattle.vtl_tree.specs.Structure.{IsStructure, columns_of, of_role}
use Rattle.vtl_tree.specs.declared.structure.Component.{Component}
use Rattle.vtl_tree.specs.declared.structure.Role.{Role}
use Rattle.vtl_tree.specs.declared.structure.Role.TheVariants as role
use Rattle.vtl_tree.specs.declared.structure.Structure.{Structure}
use Rattle.vtl_tree.specs.Columns.{identifiers_of, measures_of, place_of, places_in}
use Rattle.vtl_meaning.specs.Joined.{structures_of}
use Rattle.vtl_meaning.specs.Made.{AreAmong, IsColumnAt, attributes_of, component_kinds, kinds_of_all}
use Rattle.vtl_meaning.proofs.JoinParts.{AreSets}
use Rattle.vtl_meaning.proofs.OwnColumns.{own_columns}
use Rattle.vtl_join.specs.Picks.{picks_at, picks_from, places_of, table_of}
use Rattle.vtl_join.proofs.Picked.{part_behind}

-- ---- kinds
kind_at : (place : ℕ) (name : List ℕ) (kind : Kind) (xs : List Component) → IsColumnAt place name kind xs → (column_at (map column_for xs) place).kind ≡ kind
kind_at place name kind [] h = absurd h
kind_at zero name kind (x ∷ xs) h = h.1
kind_at (suc place) name kind (x ∷ xs) h = kind_at place name kind xs h

-- of columns that are found by their names
pub named_kinds : (parts : List Listed) (n : ℕ) (xs ys : List Component) → (part_at parts n).columns ≡ map column_for xs → AreAmong ys xs → map (picked_kind parts) (picks_at n (places_in xs ys)) ≡ component_kinds ys
named_kinds parts n xs [] e all = refl
named_kinds parts n xs (y ∷ ys) e all =
    ap (λ j. j ∷ map (picked_kind parts) (picks_at n (places_in xs ys))) (ap (λ (l : List Column). (column_at l (place_of y.name xs)).kind) e ∙ kind_at (place_of y.name xs) y.name y.kind xs all.0)
    ∙ ap (λ l. y.kind ∷ l) (named_kinds parts n xs ys e all.1)

-- a structure's own columns of a role
abbrev IsOwn : Structure → Component → Type 0
IsOwn a y = IsColumnAt (place_of y.name (columns_of a)) y.name y.kind (columns_of a)

pub own_role : (r : Role) (a : Structure) → IsStructure a → AreAmong (of_role r a) (columns_of a)
own_role role.Identifier a w = all_front (IsOwn a) (identifiers_of a) (measures_of a) (all_front (IsOwn a) (identifiers_of a ++ measures_of a) (attributes_of a) (own_columns a w))
own_role role.Measure a w = all_back (IsOwn a) (identifiers_of a) (measures_of a) (all_front (IsOwn a) (identifiers_of a ++ measures_of a) (attributes_of a) (own_columns a w))
own_role role.Attribute a w = all_back (IsOwn a) (identifiers_of a ++ measures_of a) (attributes_of a) (own_columns a w)

kinds_from : (r : Role) (pre : List Listed) (ds : List DataSet) → AreSets ds
    → map (picked_kind (pre ++ map table_of ds)) (picks_from r (length pre) (structures_of ds)) ≡ kinds_of_all (of_role r) (structures_of ds)
kinds_from r pre [] all = refl
kinds_from r pre (d ∷ ds) all =
    let a = d.structure in
    let ss = structures_of ds in
    let parts = pre ++ table_of d ∷ map table_of ds in
    let many : length (pre ++ table_of d ∷ []) ≡ length pre + 1 = length-append pre (table_of d ∷ []) in
    let here : (part_at parts (length pre)).columns ≡ table_columns a = ap (λ (t : Listed). t.columns) (part_behind pre (table_of d) (map table_of ds)) in
    let rest : map (picked_kind parts) (picks_from r (length pre + 1) ss) ≡ kinds_of_all (of_role r) ss =
    ap (λ n. map (picked_kind parts) (picks_from r n ss)) (sym many)
    ∙ ap (λ ts. map (picked_kind ts) (picks_from r (length (pre ++ table_of d ∷ [])) ss)) (sym (append_assoc pre (table_of d ∷ []) (map table_of ds)))
    ∙ kinds_from r (pre ++ table_of d ∷ []) ds all.1 in
    map-append (picked_kind parts) (picks_at (length pre) (places_of r a)) (picks_from r (length pre + 1) ss)
    ∙ ap (λ l. l ++ map (picked_kind parts) (picks_from r (length pre + 1) ss)) (named_kinds parts (length pre) (columns_of a) (of_role r a) here (own_role r a all.0.well_formed))
    ∙ ap (λ l. component_kinds (of_role r a) ++ l) rest

pub kinds_behind : (r : Role) (lead : Listed) (ds : List DataSet) → AreSets ds → map (picked_kind (lead ∷ map table_of ds)) (picks_from r 1 (structures_of ds)) ≡ kinds_of_all (of_role r) (structures_of ds)
kinds_behind r lead ds all = kinds_from r (lead ∷ []) ds all

-- ---- parts

pub all_below : (n : ℕ) (picks : List Pick) → AllByRecursion (λ p. p.part < n) picks → All (λ p. p.part < n) picks
all_below n [] all j d h = absurd (omega (arith, h))
all_below n (p ∷ picks) all zero d h = all.0
all_below n (p ∷ picks) all (suc j) d h = all_below n picks all.1 j d (omega (arith, h))

pub at_below : (n part : ℕ) (places : List ℕ) → part < n → AllByRecursion (λ p. p.part < n) (picks_at part places)
at_below n part [] h = tt
at_below n part (x ∷ places) h = (h, at_below n part places h)

pub from_below : (r : Role) (n at : ℕ) (ss : List Structure) → at + length ss ≤ n → AllByRecursion (λ p. p.part < n) (picks_from r at ss)
from_below r n at [] h = tt
from_below r n at (a ∷ ss) h = all_append (λ p. p.part < n) (picks_at at (places_of r a)) (picks_from r (at + 1) ss) (at_below n at (places_of r a) (omega (arith, h))) (from_below r n (at + 1) ss (omega (arith, h)))
