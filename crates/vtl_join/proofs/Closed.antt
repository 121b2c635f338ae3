-- What the tables of joined sets are made of.
use Rattle.std.proofs.Common.{◌≡◌, ℕ, zero, suc, ◌+◌, ◌<◌, Bool, true, false, cond, List, [], ◌∷◌, ◌++◌, ◌⊎◌, inl, inr, length, length-append, get_or, map, Some, None, refl, sym, ap, ◌∙◌, subst, All, append_assoc, arith}
use Rattle.std.specs.Prelude.{slice_get}
use Rattle.std.specs.List.{AllByRecursion, range_with_len}
use Rattle.std.specs.Option.{option_map_or}
use Rattle.std.proofs.lemmas.Bool.{cases_lt}
use Rattle.std.proofs.lemmas.List.{length-map}
use Rattle.std.proofs.lemmas.Option.{slice_get_past}
use Rattle.vtl_cell.specs.declared.kind.Kind.{Kind}
use Rattle.vtl_cell.specs.declared.kind.Kind.TheVariants as k
use Rattle.vtl_rows.specs.Gathered.{picked_kind}
use Rattle.vtl_rows.specs.Tables.{Listed, column_at, column_kinds}
use Rattle.vtl_rows.specs.declared.column.Column.{Column}
use Rattle.vtl_sets.specs.TableOf.{table_columns}
use Rattle.vtl_syntax.specs.declared.word_groups.JoinKind.{JoinKind}
use Rattle.vtl_syntax.specs.declared.word_groups.JoinKind.TheVariants as join
use Rattle.vtl_tree.specs.Environment.{DataSet}
use Rattle.vtl_tree.specs.Structure.{IsStructure, columns_of}
use Rattle.vtl_tree.specs.declared.structure.Component.{Component}
use Rattle.vtl_tree.specs.declared.structure.Role.TheVariants as role
use Rattle.vtl_tree.specs.declared.structure.Structure.{Structure}
use Rattle.vtl_tree.specs.Columns.{identifiers_of}
use Rattle.vtl_meaning.specs.Joined.{inner_tuples, join_of, joined_of, left_tuples, reference_place, structures_of, tuple_point}
use Rattle.vtl_meaning.specs.Made.{AreAmong, GoTogether, HasIdentifiers, IsJoined, component_kinds}
use Rattle.vtl_meaning.proofs.JoinKept.{reference_is}
use Rattle.vtl_meaning.proofs.JoinParts.{AreSets}
use Rattle.vtl_join.specs.declared.joined.Operand.{Operand}
use Rattle.vtl_join.specs.Finding.{all_numbers, sources_around, wants_all}
use Rattle.vtl_join.specs.Joining.{IsBeside, sets_of}
use Rattle.vtl_join.specs.Keys.{key_kinds}
use Rattle.vtl_join.specs.Picks.{joined_rows, picks_at, picks_from, places_of, table_of}
use Rattle.vtl_join.proofs.Beside as beside
use Rattle.vtl_join.proofs.KeyTables.{among_columns}
use Rattle.vtl_join.proofs.PickKinds.{all_below, at_below, from_below, named_kinds, own_role}
use Rattle.vtl_join.proofs.Referring.{structures_many}

-- ---- places
pub lead_below : (n : ℕ) (places : List ℕ) → All (λ p. p.part < n + 1) (picks_at 0 places)
lead_below n places = all_below (n + 1) (picks_at 0 places) (at_below (n + 1) 0 places (omega arith))

pub roles_below : (os : List Operand) → All (λ p. p.part < length os + 1) (picks_from role.Identifier 1 (structures_of (sets_of os)))
roles_below os =
    let ss = structures_of (sets_of os) in
    let many = structures_many os in
    all_below (length os + 1) (picks_from role.Identifier 1 ss) (from_below role.Identifier (length os + 1) 1 ss (omega (arith, many)))

pub place_within : {X : Type 0} (xs : List X) (n : ℕ) (x : X) → slice_get xs n ≡ Some x → n < length xs
place_within xs n x e = elim (cases_lt n (length xs)) [
  | inl within ↦ within
  | inr past ↦ let none : None ≡ Some x = sym (slice_get_past xs n past) ∙ e in cc
]

pub operand_within : (os : List Operand) (n : ℕ) (d : DataSet) → slice_get (sets_of os) n ≡ Some d → n < length os
operand_within os n d e = let within = place_within (sets_of os) n d e in let many = length-map os (λ (o : Operand). o.set) in omega (arith, within, many)

-- ---- kinds of the identifiers
pub own_kinds : (ds : List DataSet) (d : DataSet) (s : Structure) → IsStructure d.structure → HasIdentifiers s (identifiers_of d.structure) → map (picked_kind (table_of d ∷ map table_of ds)) (picks_at 0 (places_of role.Identifier d.structure)) ≡ component_kinds (identifiers_of s)
own_kinds ds d s w h = named_kinds (table_of d ∷ map table_of ds) 0 (columns_of d.structure) (identifiers_of d.structure) refl (own_role role.Identifier d.structure w) ∙ sym h.1

kind_of_column : (columns : List Column) (i : ℕ) → (column_at columns i).kind ≡ get_or (column_kinds columns) i k.Null
kind_of_column [] i = refl
kind_of_column (c ∷ columns) zero = refl
kind_of_column (c ∷ columns) (suc i) = kind_of_column columns i

kind_behind : (before : List Kind) (kind : Kind) (more : List Kind) → get_or (before ++ kind ∷ more) (length before) k.Null ≡ kind
kind_behind [] kind more = refl
kind_behind (b ∷ before) kind more = kind_behind before kind more

kinds_behind : (lead : Listed) (ts : List Listed) (at : ℕ) (before ks more : List Kind) → length before ≡ at → column_kinds lead.columns ≡ before ++ (ks ++ more) → map (picked_kind (lead ∷ ts)) (picks_at 0 (range_with_len at (length ks))) ≡ ks
kinds_behind lead ts at before [] more l e = refl
kinds_behind lead ts at before (kind ∷ ks) more l e =
    let next : length (before ++ kind ∷ []) ≡ at + 1 = let m = length-append before (kind ∷ []) in omega (arith, l, m) in
    let here : (column_at lead.columns at).kind ≡ kind = kind_of_column lead.columns at ∙ ap (λ i. get_or (column_kinds lead.columns) i k.Null) (sym l) ∙ ap (λ ls. get_or ls (length before) k.Null) e ∙ kind_behind before kind (ks ++ more) in
    ap (λ x. x ∷ map (picked_kind (lead ∷ ts)) (picks_at 0 (range_with_len (at + 1) (length ks)))) here
    ∙ ap (λ l. kind ∷ l) (kinds_behind lead ts (at + 1) (before ++ kind ∷ []) ks more next (e ∙ sym (append_assoc before (kind ∷ []) (ks ++ more))))

pub lead_kinds : (lead : Listed) (ts : List Listed) (ids : List Component) (s : Structure) → column_kinds lead.columns ≡ key_kinds ids → HasIdentifiers s ids → map (picked_kind (lead ∷ ts)) (picks_at 0 (range_with_len 0 (length ids))) ≡ component_kinds (identifiers_of s)
lead_kinds lead ts ids s e h =
    ap (λ n. map (picked_kind (lead ∷ ts)) (picks_at 0 (range_with_len 0 n))) (sym (length-map ids (λ x. x.kind))) ∙ kinds_behind lead ts 0 [] (component_kinds ids) (k.Null ∷ []) refl e ∙ sym h.1

-- ---- inner and left joins
pub beside_rows : (whole : Bool) (ds : List DataSet) (place : ℕ) (r : DataSet) → slice_get ds place ≡ Some r → AreSets ds
    → joined_rows (table_of r) ds (picks_at 0 (places_of role.Identifier r.structure)) (all_numbers whole (sources_around r.structure ds place) r.points (range_with_len 0 (length r.points))) ≡ map tuple_point (cond whole (inner_tuples r ds) (left_tuples r ds))
beside_rows true ds place r there all = beside.inner_rows ds place r there all
beside_rows false ds place r there all = beside.left_rows ds place r there all

-- ---- the reference
operand_at : (os : List Operand) (n : ℕ) (o : Operand) → n < length os → o ≡ get_or os n o → slice_get (sets_of os) n ≡ Some o.set
operand_at [] n o h e = absurd (omega (arith, h))
operand_at (x ∷ os) zero o h e = ap (λ (y : Operand). Some y.set) (sym e)
operand_at (x ∷ os) (suc n) o h e = operand_at os n o (omega (arith, h)) e

pub reference_within : (kind : JoinKind) (os : List Operand) (s : Structure) → IsJoined kind (structures_of (sets_of os)) s → reference_place kind (structures_of (sets_of os)) < length os
reference_within kind os s i =
    let ss = structures_of (sets_of os) in
    let within = place_within ss (reference_place kind ss) i.reference i.there in
    let many = structures_many os in
    omega (arith, within, many)

-- the operand at the place goes with the others, and the join is the one with it
pub record Refers (kind : JoinKind) (ds : List DataSet) (place : ℕ) (d : DataSet) (s : Structure) : Type 0 where
  pub there : slice_get ds place ≡ Some d
  pub together : GoTogether kind d.structure (structures_of ds) s
  pub join : join_of kind ds ≡ joined_of kind d ds

pub refers : (kind : JoinKind) (os : List Operand) (s : Structure) (place : ℕ) (o : Operand) → IsJoined kind (structures_of (sets_of os)) s → AreSets (sets_of os) → place ≡ reference_place kind (structures_of (sets_of os)) → o ≡ get_or os place o → Refers kind (sets_of os) place o.set s
refers kind os s place o i all is at =
    let ds = sets_of os in
    let within = reference_within kind os s i in
    let there : slice_get ds place ≡ Some o.set = operand_at os place o (omega (arith, is, within)) at in
    let known = reference_is kind ds s i all in
    let here : slice_get ds (reference_place kind (structures_of ds)) ≡ Some o.set = ap (slice_get ds) (sym is) ∙ there in
    let same : Some known.0 ≡ Some o.set = sym known.1.there ∙ here in
    let one : known.0 ≡ o.set = cc in
    record {
      there = there;
      together = subst (λ (d : DataSet). GoTogether kind d.structure (structures_of ds) s) one known.1.together;
      join = ap (λ q. option_map_or (λ reference. joined_of kind reference ds) q []) here;
    }

-- in a full join each operand has the reference's identifiers
pub all_have : (a : Structure) (ds : List DataSet) → AllByRecursion (λ b. AreAmong (identifiers_of b) (identifiers_of a) × AreAmong (identifiers_of a) (identifiers_of b)) (structures_of ds) → AllByRecursion (λ d. AreAmong (identifiers_of a) (columns_of d.structure)) ds
all_have a [] all = tt
all_have a (d ∷ ds) all = (among_columns (identifiers_of a) d.structure all.0.1, all_have a ds all.1)

pub table_is : (t : Listed) (d : DataSet) → t.columns ≡ table_columns d.structure → t.rows ≡ d.points → t ≡ table_of d
table_is t d columns rows = λ i. record { columns = columns i; rows = rows i }

-- ---- joins by their kinds
pub beside_identifiers : (kind : JoinKind) (a s : Structure) (ss : List Structure) → IsBeside kind → GoTogether kind a ss s → HasIdentifiers s (identifiers_of a)
beside_identifiers kind a s ss (inl e) go = (subst (λ k. GoTogether k a ss s) e go).0
beside_identifiers kind a s ss (inr e) go = (subst (λ k. GoTogether k a ss s) e go).0

pub beside_join : (kind : JoinKind) (r : DataSet) (ds : List DataSet) → IsBeside kind → map tuple_point (cond (wants_all kind) (inner_tuples r ds) (left_tuples r ds)) ≡ joined_of kind r ds
beside_join kind r ds (inl e) = ap (λ k. map tuple_point (cond (wants_all k) (inner_tuples r ds) (left_tuples r ds))) e ∙ sym (ap (λ k. joined_of k r ds) e)
beside_join kind r ds (inr e) = ap (λ k. map tuple_point (cond (wants_all k) (inner_tuples r ds) (left_tuples r ds))) e ∙ sym (ap (λ k. joined_of k r ds) e)
