-- One more item of a walk, and what is made of equal parts.
use Rattle.std.proofs.Common.{◌≡◌, ℕ, suc, ◌+◌, ◌<◌, ◌≤◌, Bool, not, cond, ◌||◌, ◌&&◌, List, [], ◌∷◌, ◌++◌, length, get_or, map, map-id, take, drop, Option, Some, None, Result, Ok, Err, refl, sym, ap, ◌∙◌, subst, All, append_assoc, arith}
use Rattle.std.specs.Prelude.{IfOk, IfSome}
use Rattle.std.specs.Borrow.{Bor}
use Rattle.std.specs.List.{AllByRecursion, flat_map, list_all, range_with_len}
use Rattle.std.proofs.lemmas.Grind.{flat_map-append}
use Rattle.std.proofs.lemmas.List.{append-nil, drop-map, get_or-map, length-map, length-take-le, map-append, map_more, take-map}
use Rattle.std.proofs.lemmas.List.Elements.{All-from_recursion}
use Rattle.std.proofs.lemmas.List.FromFn.{map-range_with_len_more}
use Rattle.vtl_lists.proofs.Alls.{all_append}
use Rattle.vtl_cell.specs.Row.{Row}
use Rattle.vtl_rows.specs.Gathered.{picked, picked_kind, pieces}
use Rattle.vtl_rows.specs.Places.{row_at}
use Rattle.vtl_rows.specs.Tables.{Listed, column_kinds, Tabled, listed}
use Rattle.vtl_rows.specs.declared.gather.Pick.{Pick}
use Rattle.vtl_index.specs.Seekers.{Sought, first_meant}
use Rattle.vtl_sets.specs.TableOf.{table_columns}
use Rattle.vtl_sets.proofs.ColumnLemmas.{kinds_of_columns}
use Rattle.vtl_tree.specs.Environment.{DataSet}
use Rattle.vtl_tree.specs.Structure.{columns_of}
use Rattle.vtl_tree.specs.declared.structure.Role.{Role}
use Rattle.vtl_tree.specs.declared.structure.Role.TheVariants as role
use Rattle.vtl_tree.specs.declared.structure.Structure.{Structure}
use Rattle.vtl_tuples.proofs.Lists.{map-map}
use Rattle.vtl_tree.specs.Columns.{identifiers_of, measures_of}
use Rattle.vtl_meaning.specs.Joined.{structures_of}
use Rattle.vtl_meaning.specs.Made.{attributes_of, component_kinds, kinds_of_all}
use Rattle.vtl_meaning.proofs.JoinParts.{AreSets}
use Rattle.vtl_join.specs.declared.joined.Operand.{Operand}
use Rattle.vtl_join.specs.Finding.{Found, all_numbers, found_by, is_found, is_listed, is_past, is_within, listed_number, listed_numbers, number, numbers_for, sought_beside, sources_around}
use Rattle.vtl_join.specs.Joining.{sets_of}
use Rattle.vtl_join.specs.Picks.{joined_rows, picks_at, picks_behind, picks_from, places_of, table_of}
use Rattle.vtl_join.proofs.PickKinds.{all_below, from_below, kinds_behind}

-- ---- numbers
pub range_more : (n : ℕ) → range_with_len 0 (n + 1) ≡ range_with_len 0 n ++ n ∷ []
range_more n =
    let z : 0 + n ≡ n = omega arith in
    sym (map-id (range_with_len 0 (n + 1))) ∙ map-range_with_len_more (λ i. i) 0 n n z ∙ ap (λ l. l ++ n ∷ []) (map-id (range_with_len 0 n))

-- what is listed for a row of the lead is what it finds
number_found : (rows : List Row) (i : ℕ) (x : Option Sought) → i < length rows → listed_number i (found_by rows x) ≡ number i (row_at rows i) x
number_found rows i None h = refl
number_found rows i (Some x) h = get_or-map (first_meant x) rows i [] 0 h

all_numbers_found : (rows : List Row) (i : ℕ) (xs : List (Option Sought)) → i < length rows → map (listed_number i) (map (found_by rows) xs) ≡ map (number i (row_at rows i)) xs
all_numbers_found rows i [] h = refl
all_numbers_found rows i (x ∷ xs) h = λ j. number_found rows i x h j ∷ all_numbers_found rows i xs h j

same_bounds : (rows : List Row) (x : Option Sought) (n : ℕ) → is_within (found_by rows x) n ≡ not (is_past x n)
same_bounds rows None n = refl
same_bounds rows (Some x) n = refl

all_are_found : (rows : List Row) (i : ℕ) (xs : List (Option Sought)) → i < length rows → list_all (is_listed i) (map (found_by rows) xs) ≡ list_all (is_found i (row_at rows i)) xs
all_are_found rows i [] h = refl
all_are_found rows i (x ∷ xs) h =
    let here = same_bounds rows x (listed_number i (found_by rows x)) ∙ ap (λ n. not (is_past x n)) (number_found rows i x h) in
    λ j. here j && all_are_found rows i xs h j

listed_is : (whole : Bool) (xs : List (Option Sought)) (rows : List Row) (i : ℕ) → i < length rows → listed_numbers whole (map (found_by rows) xs) i ≡ numbers_for whole xs i (row_at rows i)
listed_is whole xs rows i h = λ j. cond (not whole || all_are_found rows i xs h j) (i ∷ all_numbers_found rows i xs h j) []

-- each row of the lead has its number in what is found
each_is_long : (rows : List Row) (i : ℕ) (xs : List (Option Sought)) → i < length rows → AllByRecursion (λ f. IfSome f (λ x. i < length x.numbers)) (map (found_by rows) xs)
each_is_long rows i [] h = tt
each_is_long rows i (None ∷ xs) h = (tt, each_is_long rows i xs h)
each_is_long rows i (Some x ∷ xs) h = (let l = length-map rows (first_meant x) in omega (arith, h, l), each_is_long rows i xs h)

pub found_within : (rows : List Row) (xs : List (Option Sought)) (i : ℕ) (fs : List (Option Found)) → fs ≡ map (found_by rows) xs → i < length rows → All (λ f. IfSome f (λ x. i < length x.numbers)) fs
found_within rows xs i fs e h =
    let P : Option Found → Type 0 = λ f. IfSome f (λ x. i < length x.numbers) in
    subst (All P) (sym e) (All-from_recursion P (map (found_by rows) xs) (each_is_long rows i xs h))

-- the tuple of one more row
pub tuples_more : (whole : Bool) (xs : List (Option Sought)) (rows : List Row) (i : ℕ) (fs : List (Option Found)) (old new : List ℕ) → i < length rows → fs ≡ map (found_by rows) xs → old ≡ all_numbers whole xs rows (range_with_len 0 i) → new ≡ old ++ listed_numbers whole fs i
    → new ≡ all_numbers whole xs rows (range_with_len 0 (i + 1))
tuples_more whole xs rows i fs old new h e o n =
    let f : ℕ → List ℕ = λ k. numbers_for whole xs k (row_at rows k) in
    n ∙ ap (λ l. l ++ listed_numbers whole fs i) o ∙ ap (λ l. flat_map f (range_with_len 0 i) ++ l) (ap (λ l. listed_numbers whole l i) e ∙ listed_is whole xs rows i h)
    ∙ ap (λ l. flat_map f (range_with_len 0 i) ++ l) (sym (append-nil (f i)))
    ∙ sym (flat_map-append f (range_with_len 0 i) (i ∷ [])) ∙ ap (flat_map f) (sym (range_more i))

-- ---- what finds rows
pub sought_is : (x y : Sought) → x.own ≡ y.own → x.asked ≡ y.asked → x.rows ≡ y.rows → x ≡ y
sought_is x y own asked rows = λ i. record { own = own i; asked = asked i; rows = rows i }

pub around_is : (a : Structure) (os : List Operand) (place : ℕ) (none before own all : List (Option Sought)) → none ≡ [] → before ≡ none ++ map (λ d. Some (sought_beside a d)) (sets_of (take place os)) → own ≡ before ++ None ∷ [] → all ≡ own ++ map (λ d. Some (sought_beside a d)) (sets_of (drop (place + 1) os))
    → all ≡ sources_around a (sets_of os) place
around_is a os place none before own all n b o e =
    let f : DataSet → Option Sought = λ d. Some (sought_beside a d) in
    let front : before ≡ map f (take place (sets_of os)) = b ∙ ap (λ l. l ++ map f (sets_of (take place os))) n ∙ ap (map f) (sym (take-map (λ x. x.set) place os)) in
    e ∙ ap (λ l. own ++ map f l) (sym (drop-map (λ x. x.set) (place + 1) os)) ∙ ap (λ l. l ++ map f (drop (place + 1) (sets_of os))) (o ∙ ap (λ l. l ++ None ∷ []) front)
    ∙ append_assoc (map f (take place (sets_of os))) (None ∷ []) (map f (drop (place + 1) (sets_of os)))

-- ---- picks
from_more : (r : Role) (n : ℕ) (ss : List Structure) (s : Structure) → picks_from r n (ss ++ s ∷ []) ≡ picks_from r n ss ++ picks_at (n + length ss) (places_of r s)
from_more r n [] s = let z : n ≡ n + 0 = omega arith in append-nil (picks_at n (places_of r s)) ∙ ap (λ k. picks_at k (places_of r s)) z
from_more r n (t ∷ ss) s =
    let next : n + 1 + length ss ≡ n + suc (length ss) = omega arith in
    ap (λ l. picks_at n (places_of r t) ++ l) (from_more r (n + 1) ss s ∙ ap (λ k. picks_from r (n + 1) ss ++ picks_at k (places_of r s)) next)
    ∙ sym (append_assoc (picks_at n (places_of r t)) (picks_from r (n + 1) ss) (picks_at (n + suc (length ss)) (places_of r s)))

structures_are : (os : List Operand) → structures_of (sets_of os) ≡ map (λ o. o.set.structure) os
structures_are os = map-map (λ d. d.structure) (λ o. o.set) os

pub picks_more : (r : Role) (os : List Operand) (i : ℕ) (o : Operand) (places : List ℕ) (before old new : List Pick) → i < length os → o ≡ get_or os i o → places ≡ places_of r o.set.structure → old ≡ before ++ picks_from r 1 (structures_of (sets_of (take i os))) → new ≡ old ++ picks_at (i + 1) places
    → new ≡ before ++ picks_from r 1 (structures_of (sets_of (take (i + 1) os)))
picks_more r os i o places before old new h at p e n =
    let g : Operand → Structure = λ x. x.set.structure in
    let ss = structures_of (sets_of (take i os)) in
    let count : length ss ≡ i = let l = ap length (structures_are (take i os)) in let m = length-map (take i os) g in let k = length-take-le i os (omega (arith, h)) in omega (arith, l, m, k) in
    let place : i + 1 ≡ 1 + length ss = omega (arith, count) in
    let more : structures_of (sets_of (take (i + 1) os)) ≡ ss ++ g o ∷ [] =
    structures_are (take (i + 1) os) ∙ map_more g os i o h ∙ ap (λ x. map g (take i os) ++ g x ∷ []) (sym at) ∙ ap (λ l. l ++ g o ∷ []) (sym (structures_are (take i os))) in
    n ∙ ap (λ l. l ++ picks_at (i + 1) places) e ∙ ap (λ l. (before ++ picks_from r 1 ss) ++ picks_at (i + 1) l) p ∙ ap (λ k. (before ++ picks_from r 1 ss) ++ picks_at k (places_of r (g o))) place
    ∙ append_assoc before (picks_from r 1 ss) (picks_at (1 + length ss) (places_of r (g o))) ∙ ap (λ l. before ++ l) (sym (from_more r 1 ss (g o)) ∙ ap (picks_from r 1) (sym more))

-- ---- what is gathered
pub kinds_all : (lead : Listed) (ds : List DataSet) (ids : List Pick) (s : Structure) → AreSets ds → map (picked_kind (lead ∷ map table_of ds)) ids ≡ component_kinds (identifiers_of s)
    → component_kinds (measures_of s) ≡ kinds_of_all measures_of (structures_of ds) → component_kinds (attributes_of s) ≡ kinds_of_all attributes_of (structures_of ds)
    → column_kinds (table_columns s) ≡ map (picked_kind (lead ∷ map table_of ds)) (picks_behind ids (structures_of ds))
kinds_all lead ds ids s all e m a =
    let ss = structures_of ds in
    let kind = picked_kind (lead ∷ map table_of ds) in
    let ms = picks_from role.Measure 1 ss in
    let xs = picks_from role.Attribute 1 ss in
    kinds_of_columns (columns_of s)
    ∙ map-append (λ x. x.kind) (identifiers_of s ++ measures_of s) (attributes_of s) ∙ ap (λ l. l ++ component_kinds (attributes_of s)) (map-append (λ x. x.kind) (identifiers_of s) (measures_of s))
    ∙ ap (λ l. l ++ component_kinds (measures_of s) ++ component_kinds (attributes_of s)) (sym e)
    ∙ ap (λ l. map kind ids ++ l ++ component_kinds (attributes_of s)) (m ∙ sym (kinds_behind role.Measure lead ds all))
    ∙ ap (λ l. map kind ids ++ map kind ms ++ l) (a ∙ sym (kinds_behind role.Attribute lead ds all))
    ∙ sym (map-append kind (ids ++ ms) xs ∙ ap (λ l. l ++ map kind xs) (map-append kind ids ms))

all_recursion : (n : ℕ) (picks : List Pick) → All (λ p. p.part < n) picks → AllByRecursion (λ p. p.part < n) picks
all_recursion n [] all = tt
all_recursion n (p ∷ picks) all = (all 0 p (omega arith), all_recursion n picks (λ k d h. all (suc k) d (omega (arith, h))))

pub within_all : (n : ℕ) (ids : List Pick) (os : List Operand) (picks : List Pick) → n ≡ length os + 1 → All (λ p. p.part < length os + 1) ids → picks ≡ picks_behind ids (structures_of (sets_of os)) → All (λ p. p.part < n) picks
within_all n ids os picks e all is =
    let ss = structures_of (sets_of os) in
    let count : 1 + length ss ≤ n = let l = ap length (structures_are os) in let m = length-map os (λ o. o.set.structure) in omega (arith, l, m, e) in
    let P : Pick → Type 0 = λ p. p.part < n in
    let ms = picks_from role.Measure 1 ss in
    let xs = picks_from role.Attribute 1 ss in
    let these : AllByRecursion P ids = all_recursion n ids (λ k d h. let b = all k d h in omega (arith, b, e)) in
    subst (All P) (sym is) (all_below n (ids ++ ms ++ xs) (all_append P (ids ++ ms) xs (all_append P ids ms these (from_below role.Measure n 1 ss count)) (from_below role.Attribute n 1 ss count)))

-- ---- results
pub if_ok : {T E : Type 0} (P Q : T → Type 0) (r : Result T E) → ((t : T) → P t → Q t) → IfOk r P → IfOk r Q
if_ok P Q (Ok t) f h = f t h
if_ok P Q (Err e) f h = tt
