-- The operators by look-up.
use Rattle.std.proofs.Common.{◌≡◌, ℕ, ◌+◌, ◌<◌, ◌≤◌, inl, inr, Bool, true, false, cond, ◌&&◌, ◌||◌, List, [], ◌∷◌, ◌++◌, length, map, take, Option, Some, None, Ok, refl, sym, ap, ◌∙◌, subst, arith, true≢false}
use Rattle.std.specs.Prelude.{IfSome, option_map}
use Rattle.std.specs.List.{AllByRecursion, filter, flat_map, list_all, list_any}
use Rattle.std.specs.Option.{option_and_then, option_map_or, option_to_list}
use Rattle.std.proofs.lemmas.Bool.{and_parts, cases_lt, or_cases}
use Rattle.std.proofs.lemmas.List.{get_or-append-add, get_or_append_left, get_or_past, append-nil, get_or-take, length-map, length-take-le, map-append, take-append-le, take_all}
use Rattle.vtl_decimal.specs.Settings.{Settings}
use Rattle.vtl_lists.proofs.Sorts.{AllByRecursion-filter}
use Rattle.vtl_lists.proofs.Alls.{all_both, all_filtered, all_more}
use Rattle.vtl_lists.proofs.Tests.{or_second, same_tests}
use Rattle.vtl_cell.specs.Kinds.{is_of, same_kind}
use Rattle.vtl_cell.specs.Order.{same_cell}
use Rattle.vtl_cell.specs.Outcome.{faults_by}
use Rattle.vtl_cell.specs.Outcomes.{is_true}
use Rattle.vtl_cell.specs.Row.{Row, column_of, same_row}
use Rattle.vtl_cell.specs.declared.cell.Cell.{Cell}
use Rattle.vtl_cell.specs.declared.cell.Cell.TheVariants as c
use Rattle.vtl_cell.specs.declared.kind.Kind.TheVariants as k
use Rattle.vtl_cell.specs.declared.operator.ScalarOp.{ScalarOp}
use Rattle.vtl_cell.proofs.Rows.{same_row-is, same_row-refl}
use Rattle.vtl_rows.specs.Tables.{cells_at}
use Rattle.vtl_tree.specs.Clauses.{filter_of, kept}
use Rattle.vtl_tree.specs.CompExp.{CompExp}
use Rattle.vtl_tree.specs.DataSet.{IsDataSet, is_point, look}
use Rattle.vtl_tree.specs.Environment.{DataSet}
use Rattle.vtl_tree.specs.Kept.{kept_row}
use Rattle.vtl_tree.specs.Structure.{IsStructure, columns_of, key_width, same_name, same_role}
use Rattle.vtl_tree.specs.Value.{value, values}
use Rattle.vtl_tree.specs.View.{comp_exps_of}
use Rattle.vtl_tree.specs.declared.structure.Component.{Component}
use Rattle.vtl_tree.specs.declared.structure.Role.{Role}
use Rattle.vtl_tree.specs.declared.structure.Role.TheVariants as role
use Rattle.vtl_tree.specs.declared.structure.Structure.{Structure}
use Rattle.vtl_tree.proofs.LookUps.{look-filter}
use Rattle.vtl_tree.specs.Trees.{ItemTree, MeasureTree}
use Rattle.vtl_tree.specs.declared.clauses.SubItem.{SubItem}
use Rattle.vtl_tree.specs.Names.{component_of}
use Rattle.vtl_tree.specs.Operands.{is_alike, is_there}
use Rattle.vtl_tree.specs.Pairs.{contains}
use Rattle.vtl_tree.specs.declared.operands.Compared.TheVariants as compared
use Rattle.vtl_tree.specs.Columns.{column_behind, column_named, columns_named, identifiers_of, kind_named, measures_of, others_of, place_of, places_in}
use Rattle.vtl_meaning.specs.LookUps.{calculated_at, chosen_at, has_key_values, measured_at, of_both, paired_at, part_for, result_at, value_named, values_for, values_named}
use Rattle.vtl_meaning.specs.Made.{AreAmong, AreFor, HasIdentifiers, IsAlternative, IsCalculated, IsChoice, IsColumnAt, IsFiltered, IsLeft, IsMeasured, IsPaired, IsRenamed, IsTyped}
use Rattle.vtl_meaning.specs.Operators.{calculated_exp, calculated_of, choice_of, for_measures, has_values, is_first_chosen, joined_point, left_of, measured_of, pair_of, sub_of, taken_at, target_named, value_exp, with_measure, with_namesake}
use Rattle.vtl_meaning.specs.Points.{beside, cell_or_null, each_point, paired, partner, point_fault, point_of, with_points}
use Rattle.vtl_meaning.proofs.Drawn.{drawn_all}
use Rattle.vtl_meaning.proofs.Kept.{Alike, Pairs, Tells, alike_by_columns, alike_by_values, alike_cells, all_paired, calculated_split, column_within, exps_keep, exps_split, for_back, key_widths, joined_keeps, look_is, pairs_with, place_front, shown_keeps, shown_split, taken_key, unless_ok}
use Rattle.vtl_meaning.proofs.Looks.{found_map, found_of_map, found_then, kept_all, look-drawn, look-map, look_key, map_then, map_twice, some_if, then_turned}
use Rattle.vtl_meaning.proofs.Places.{IsIdentifier, are_identifiers, columns_split, first_cells, identifiers_apart, key_cells, key_of_point, key_within, place_here, place_later, point_append, point_length}
use Rattle.vtl_meaning.proofs.ValueKinds.{IsOf, cell_is_of}

-- ---- values by name
pub named_cells : (xs ys : List Component) (r : Row) → cells_at (places_in xs ys) r ≡ values_named xs ys r
named_cells xs [] r = refl
named_cells xs (y ∷ ys) r = ap (λ l. value_named xs r y.name ∷ l) (named_cells xs ys r)

-- the first columns of a row
pub named_front : (xs ys : List Component) (r : Row) (name : List ℕ) → place_of name xs < length xs → value_named (xs ++ ys) r name ≡ value_named xs (take (length xs) r) name
named_front xs ys r name h = ap (λ i. column_of i r) (place_front name xs ys h) ∙ sym (get_or-take (length xs) r (place_of name xs) c.Null h)

pub parts_named : (a : Structure) (ys : List Component) (r : Row) → AllByRecursion (λ y. place_of y.name (identifiers_of a) < length (identifiers_of a)) ys → values_named (columns_of a) ys r ≡ values_named (identifiers_of a) ys (take (key_width a) r)
parts_named a [] r all = refl
parts_named a (y ∷ ys) r all =
    let one : value_named (columns_of a) r y.name ≡ value_named (identifiers_of a) (take (key_width a) r) y.name = ap (λ xs. value_named xs r y.name) (columns_split a) ∙ named_front (identifiers_of a) (others_of a) r y.name all.0 in
    ap (λ v. v ∷ values_named (columns_of a) ys r) one ∙ ap (λ l. value_named (identifiers_of a) (take (key_width a) r) y.name ∷ l) (parts_named a ys r all.1)

-- the part of a point's key
part_of_point : (a other : Structure) (r k : Row) → AllByRecursion (λ y. place_of y.name (identifiers_of a) < length (identifiers_of a)) (identifiers_of other) → take (key_width a) r ≡ k → cells_at (places_in (columns_of a) (identifiers_of other)) r ≡ part_for a other k
part_of_point a other r k all e = named_cells (columns_of a) (identifiers_of other) r ∙ parts_named a (identifiers_of other) r all ∙ ap (part_for a other) e

pub among_within : (ys xs : List Component) → AreAmong ys xs → AllByRecursion (λ y. place_of y.name xs < length xs) ys
among_within ys xs all = all_more (λ y. IsColumnAt (place_of y.name xs) y.name y.kind xs) (λ y. place_of y.name xs < length xs) (λ y i. column_within (place_of y.name xs) y.name y.kind xs i) ys all

-- ---- one operand
each_look : (p : Settings) (a s : Structure) (rest : List CompExp) (d out : List Row) (k : Row) → HasIdentifiers s (identifiers_of a) → AreFor p (columns_of a) (columns_named (columns_of a) (identifiers_of s) ++ rest) (columns_of s) → IsDataSet a d → each_point p (columns_named (columns_of a) (identifiers_of s) ++ rest) d ≡ Ok out → look (key_width s) out k ≡ option_map (λ r. k ++ point_of p rest r) (look (key_width a) d k)
each_look p a s rest d out k i j h e =
    let es = columns_named (columns_of a) (identifiers_of s) ++ rest in
    let P : Row → Type 0 = λ r. is_point (columns_of a) r ≡ true in
    let keys : AllByRecursion (λ r. same_row (take (key_width s) (point_of p es r)) k ≡ same_row (take (key_width a) r) k) d = all_more P (λ r. same_row (take (key_width s) (point_of p es r)) k ≡ same_row (take (key_width a) r) k) (λ r w. ap (λ z. same_row z k) (exps_keep p (columns_of a) a s rest r h.well_formed i j w (key_within a r w) (key_of_point a r w)).1) d h.typed in
    ap (λ l. look (key_width s) l k) (sym (unless_ok (faults_by (point_fault p es) d) (map (point_of p es) d) out e).1)
    ∙ look-map (key_width a) (key_width s) (point_of p es) d k k keys
    ∙ found_map P (key_width a) d k (point_of p es) (λ r. k ++ point_of p rest r) h.typed (λ r w key. exps_split p a s rest r h.well_formed i (key_within a r w) ∙ ap (λ z. z ++ point_of p rest r) key)

values_list : (p : Settings) (es : List CompExp) (r : Row) → values p (comp_exps_of es) r ≡ map (λ e. value p e r) es
values_list p [] r = refl
values_list p (e ∷ es) r = ap (λ l. value p e r ∷ l) (values_list p es r)

measured_values : (p : Settings) (m : MeasureTree) (xs : List Component) (r : Row) (us ys : List Component) → point_of p (for_measures (with_measure m xs) us ys) r ≡ values_for (λ x y. result_at p m.op y.kind (map (λ e. value p e r) m.before ++ Ok (value_named xs r x.name) ∷ map (λ e. value p e r) m.after)) us ys
measured_values p m xs r [] ys = refl
measured_values p m xs r (u ∷ us) [] = refl
measured_values p m xs r (u ∷ us) (y ∷ ys) =
    let operands : values p (comp_exps_of (m.before ++ column_named xs u.name ∷ m.after)) r ≡ map (λ e. value p e r) m.before ++ Ok (value_named xs r u.name) ∷ map (λ e. value p e r) m.after =
    values_list p (m.before ++ column_named xs u.name ∷ m.after) r ∙ map-append (λ e. value p e r) m.before (column_named xs u.name ∷ m.after) in
    ap (λ ms. result_at p m.op y.kind ms ∷ point_of p (for_measures (with_measure m xs) us ys) r) operands
    ∙ ap (λ l. result_at p m.op y.kind (map (λ e. value p e r) m.before ++ Ok (value_named xs r u.name) ∷ map (λ e. value p e r) m.after) ∷ l) (measured_values p m xs r us ys)

pub measured_look : (p : Settings) (m : MeasureTree) (a : DataSet) (s : Structure) (out : List Row) (k : Row) → IsMeasured p m a.structure s → IsDataSet a.structure a.points → measured_of p m a s ≡ Ok out → look (key_width s) out k ≡ option_map (λ r. k ++ measured_at p m a.structure s r) (look (key_width a.structure) a.points k)
measured_look p m a s out k i h e =
    let ours = a.structure in
    let rest = for_measures (with_measure m (columns_of ours)) (measures_of ours) (measures_of s) in
    each_look p ours s rest a.points out k i.identifiers i.columns h e
    ∙ found_map (λ r. is_point (columns_of ours) r ≡ true) (key_width ours) a.points k (λ r. k ++ point_of p rest r) (λ r. k ++ measured_at p m ours s r) h.typed (λ r w key. ap (λ l. k ++ l) (measured_values p m (columns_of ours) r (measures_of ours) (measures_of s)))

calculated_values : (p : Settings) (items : List ItemTree) (a : Structure) (r : Row) (ys : List Component) → point_of p (map (calculated_exp items (columns_of a)) ys) r ≡ map (calculated_at p items a r) ys
calculated_values p items a r [] = refl
calculated_values p items a r (y ∷ ys) = ap (λ v. v ∷ point_of p (map (calculated_exp items (columns_of a)) ys) r) (go (target_named items y.name)) ∙ ap (λ l. calculated_at p items a r y ∷ l) (calculated_values p items a r ys)
  where
    go : (o : Option ItemTree) → cell_or_null (value p (option_map_or (λ i. value_exp i.value) o (column_named (columns_of a) y.name)) r) ≡ option_map_or (λ i. cell_or_null (value p (value_exp i.value) r)) o (value_named (columns_of a) r y.name)
    go None = refl
    go (Some i) = refl

pub calculated_look : (p : Settings) (items : List ItemTree) (a : DataSet) (s : Structure) (out : List Row) (k : Row) → IsCalculated p items a.structure s → IsDataSet a.structure a.points → calculated_of p items a s ≡ Ok out → look (key_width s) out k ≡ option_map (λ r. k ++ map (calculated_at p items a.structure r) (others_of s)) (look (key_width a.structure) a.points k)
calculated_look p items a s out k i h e =
    let ours = a.structure in
    let same = calculated_split p items ours s i in
    let rest = map (calculated_exp items (columns_of ours)) (others_of s) in
    each_look p ours s rest a.points out k i.identifiers (subst (λ es. AreFor p (columns_of ours) es (columns_of s)) same i.columns) h (ap (λ es. each_point p es a.points) (sym same) ∙ e)
    ∙ found_map (λ r. is_point (columns_of ours) r ≡ true) (key_width ours) a.points k (λ r. k ++ point_of p rest r) (λ r. k ++ map (calculated_at p items ours r) (others_of s)) h.typed (λ r w key. ap (λ l. k ++ l) (calculated_values p items ours r (others_of s)))

-- ---- chosen columns
pub left_look : (a : DataSet) (s : Structure) (k : Row) → IsLeft a.structure s → IsDataSet a.structure a.points → look (key_width s) (left_of a s) k ≡ option_map (λ r. k ++ values_named (columns_of a.structure) (others_of s) r) (look (key_width a.structure) a.points k)
left_look a s k i h =
    let ours = a.structure in
    let P : Row → Type 0 = λ r. is_point (columns_of ours) r ≡ true in
    let f : Row → Row = cells_at (places_in (columns_of ours) (columns_of s)) in
    let keys : AllByRecursion (λ r. same_row (take (key_width s) (f r)) k ≡ same_row (take (key_width ours) r) k) a.points = all_more P (λ r. same_row (take (key_width s) (f r)) k ≡ same_row (take (key_width ours) r) k) (λ r w. ap (λ z. same_row z k) (shown_keeps ours s r h.well_formed i w).1) a.points h.typed in
    look-map (key_width ours) (key_width s) f a.points k k keys
    ∙ found_map P (key_width ours) a.points k f (λ r. k ++ values_named (columns_of ours) (others_of s) r) h.typed
    (λ r w key. shown_split (columns_of ours) s r
    ∙ ap (λ l. l ++ cells_at (places_in (columns_of ours) (others_of s)) r) (key_cells ours s r h.well_formed i.identifiers (key_within ours r w) ∙ key)
    ∙ ap (λ l. k ++ l) (named_cells (columns_of ours) (others_of s) r))

-- ---- `filter`
pub filtered_look : (p : Settings) (e : CompExp) (a s : Structure) (d out : List Row) (k : Row) → IsFiltered p e a s → IsDataSet a d → filter_of p e d ≡ Ok out → look (key_width s) out k ≡ kept_row (λ r. is_true (value p e r)) (look (key_width a) d k)
filtered_look p e a s d out k i h q =
    ap (λ x. look (key_width x) out k) i.same
    ∙ ap (λ l. look (key_width a) l k) (sym (unless_ok _ (kept p e d) out q).1)
    ∙ look-filter (key_width a) (λ r. is_true (value p e r)) d k h.distinct

-- ---- `rename`
pub renamed_look : (a s : Structure) (d : List Row) (k : Row) → IsRenamed a s → look (key_width s) d k ≡ look (key_width a) d k
renamed_look a s d k i = ap (λ n. look n d k) (key_widths a s i)

-- ---- two operands
-- identifiers of an operand that the other one contains
alike_role : (a b : Role) → same_role a b ≡ true → same_role a role.Identifier ≡ true → same_role b role.Identifier ≡ true
alike_role role.Identifier role.Identifier e h = refl
alike_role role.Identifier role.Measure e h = cc
alike_role role.Identifier role.Attribute e h = cc
alike_role role.Measure b e h = cc
alike_role role.Attribute b e h = cc

there_within : (y : Component) (xs : List Component) → IsIdentifier y → is_there compared.Kinds xs y ≡ true → place_of y.name (filter (λ x. same_role x.role role.Identifier) xs) < length (filter (λ x. same_role x.role role.Identifier) xs)
there_within y [] h e = cc
there_within y (x ∷ xs) h e = go (same_name x.name y.name) refl (same_role x.role role.Identifier) refl e (there_within y xs h)
  where
    rest : List Component
    rest = filter (λ z. same_role z.role role.Identifier) xs

    go : (n : Bool) → same_name x.name y.name ≡ n → (b : Bool) → same_role x.role role.Identifier ≡ b → option_map_or (is_alike compared.Kinds y) (cond n (Some x) (component_of y.name xs)) false ≡ true
        → (is_there compared.Kinds xs y ≡ true → place_of y.name rest < length rest) → place_of y.name (cond b (x ∷ rest) rest) < length (cond b (x ∷ rest) rest)
    go true f true g t ih = let here = place_here y.name x rest f in omega (arith, here)
    go true f false g t ih = absurd (true≢false (sym (alike_role y.role x.role (and_parts (same_role y.role x.role) (same_kind y.kind x.kind) t).0 h) ∙ g))
    go false f true g t ih = let later = place_later y.name x rest f in let less = ih t in omega (arith, later, less)
    go false f false g t ih = ih t

contained_within : (a b : Structure) → contains a b ≡ true → AllByRecursion (λ y. place_of y.name (identifiers_of a) < length (identifiers_of a)) (identifiers_of b)
contained_within a b e = each_there (identifiers_of b) (are_identifiers b) e
  where
    each_there : (ys : List Component) → AllByRecursion IsIdentifier ys → list_all (is_there compared.Kinds a.components) ys ≡ true → AllByRecursion (λ y. place_of y.name (identifiers_of a) < length (identifiers_of a)) ys
    each_there [] all h = tt
    each_there (y ∷ ys) all h =
        let parts = and_parts (is_there compared.Kinds a.components y) (list_all (is_there compared.Kinds a.components) ys) h in
        (there_within y a.components all.0 parts.0, each_there ys all.1 parts.1)

-- the value of a column in front of others
pub null_alone : (v : Cell) → IsOf k.Null v → v ≡ c.Null
null_alone c.Null h = refl
null_alone (c.Bool x) h = cc
null_alone (c.Int x) h = cc
null_alone (c.Num x) h = cc
null_alone (c.Text x) h = cc
null_alone (c.Day x) h = cc
null_alone (c.Period x) h = cc

pub kind_of_none : (name : List ℕ) (xs : List Component) → length xs ≤ place_of name xs → kind_named name xs ≡ k.Null
kind_of_none name [] h = refl
kind_of_none name (x ∷ xs) h = go (same_name x.name name) refl (kind_of_none name xs)
  where
    go : (b : Bool) → same_name x.name name ≡ b → (length xs ≤ place_of name xs → kind_named name xs ≡ k.Null) → option_map_or (λ z. z.kind) (cond b (Some x) (component_of name xs)) k.Null ≡ k.Null
    go true e ih = let here = place_here name x xs e in absurd (omega (arith, here, h))
    go false e ih = let later = place_later name x xs e in ih (omega (arith, later, h))

-- an expression that is the column of this name over rows that begin with these columns
pub value_in_front : (p : Settings) (xs ys : List Component) (r q : Row) (name : List ℕ) → is_point xs r ≡ true → is_point ys q ≡ true → IsTyped p (xs ++ ys) (column_named xs name) → column_of (place_of name xs) (r ++ q) ≡ value_named xs r name
value_in_front p xs ys r q name h g i =
    let len = point_length xs r h in
    elim (cases_lt (place_of name xs) (length xs)) [
      | inl less ↦ get_or_append_left r q c.Null (place_of name xs) (omega (arith, less, len))
      | inr past ↦
          let kind = kind_of_none name xs past in
          let typed : IsOf (kind_named name xs) (column_of (place_of name xs) (r ++ q)) = cell_is_of (place_of name xs) name (kind_named name xs) (xs ++ ys) (r ++ q) i (point_append xs ys r q h g) in
          null_alone (column_of (place_of name xs) (r ++ q)) (subst (λ z. IsOf z (column_of (place_of name xs) (r ++ q))) kind typed)
          ∙ sym (get_or_past r (place_of name xs) c.Null (omega (arith, past, len)))
    ]

pub value_behind : (xs ys : List Component) (r q : Row) (name : List ℕ) → is_point xs r ≡ true → column_of (length xs + place_of name ys) (r ++ q) ≡ value_named ys q name
value_behind xs ys r q name h = ap (λ n. column_of (n + place_of name ys) (r ++ q)) (sym (point_length xs r h)) ∙ get_or-append-add r q (place_of name ys) c.Null

-- the values of an operator on namesakes, whose columns have these values at a row
pub namesake_values : (p : Settings) (o : ScalarOp) (xs : List Component) (left right : List ℕ → CompExp) (x : Row) (l r : List ℕ → Cell)
    → ((n : List ℕ) → IsTyped p xs (left n) → value p (left n) x ≡ Ok (l n)) → ((n : List ℕ) → IsTyped p xs (right n) → value p (right n) x ≡ Ok (r n))
    → (us ys zs : List Component) → AreFor p xs (for_measures (with_namesake o left right) us ys) zs
    → point_of p (for_measures (with_namesake o left right) us ys) x ≡ values_for (λ u y. result_at p o y.kind (Ok (l u.name) ∷ Ok (r u.name) ∷ [])) us ys
namesake_values p o xs left right x l r f g [] ys zs i = refl
namesake_values p o xs left right x l r f g (u ∷ us) [] zs i = refl
namesake_values p o xs left right x l r f g (u ∷ us) (y ∷ ys) [] i = absurd i
namesake_values p o xs left right x l r f g (u ∷ us) (y ∷ ys) (z ∷ zs) i =
    ap (λ m. result_at p o y.kind (m ∷ value p (right u.name) x ∷ []) ∷ point_of p (for_measures (with_namesake o left right) us ys) x) (f u.name i.0.1.0)
    ∙ ap (λ m. result_at p o y.kind (Ok (l u.name) ∷ m ∷ []) ∷ point_of p (for_measures (with_namesake o left right) us ys) x) (g u.name i.0.1.1.0)
    ∙ ap (λ v. result_at p o y.kind (Ok (l u.name) ∷ Ok (r u.name) ∷ []) ∷ v) (namesake_values p o xs left right x l r f g us ys zs i.2)

-- the operand with all identifiers leads
side_look : (p : Settings) (a b : DataSet) (s : Structure) (rest : List CompExp) (F : Row → Row → Row) (out : List Row) (k : Row) → IsDataSet a.structure a.points → IsDataSet b.structure b.points
    → AllByRecursion (λ y. place_of y.name (identifiers_of a.structure) < length (identifiers_of a.structure)) (identifiers_of b.structure)
    → HasIdentifiers s (identifiers_of a.structure) → AreFor p (columns_of a.structure ++ columns_of b.structure) (columns_named (columns_of a.structure) (identifiers_of s) ++ rest) (columns_of s)
    → ((r q : Row) → is_point (columns_of a.structure) r ≡ true → is_point (columns_of b.structure) q ≡ true → point_of p rest (r ++ q) ≡ F r q)
    → each_point p (columns_named (columns_of a.structure) (identifiers_of s) ++ rest) (paired a b) ≡ Ok out
    → look (key_width s) out k ≡ of_both (λ r q. k ++ F r q) (look (key_width a.structure) a.points k) (look (key_width b.structure) b.points (part_for a.structure b.structure k))
side_look p a b s rest F out k h g within i j f u =
    ap (λ l. look n l k) (sym (unless_ok (faults_by (point_fault p es) rows) (map (point_of p es) rows) out u).1)
    ∙ look-map w n (point_of p es) rows k k keys
    ∙ ap (option_map (point_of p es)) (look-drawn w w (λ r. option_map (λ q. r ++ q) (partner ours b r)) a.points k own_keys h.distinct)
    ∙ map_then (point_of p es) (λ r. option_map (λ q. r ++ q) (partner ours b r)) (look w a.points k)
    ∙ found_then (λ r. is_point (columns_of ours) r ≡ true) w a.points k (λ r. option_map (point_of p es) (option_map (λ q. r ++ q) (partner ours b r))) (λ r. option_map (λ q. k ++ F r q) (look (key_width theirs) b.points (part_for ours theirs k))) h.typed at
  where
    ours : Structure
    ours = a.structure

    theirs : Structure
    theirs = b.structure

    n : ℕ
    n = key_width s

    w : ℕ
    w = key_width ours

    es : List CompExp
    es = columns_named (columns_of ours) (identifiers_of s) ++ rest

    rows : List Row
    rows = paired a b

    keys : AllByRecursion (λ x. same_row (take n (point_of p es x)) k ≡ same_row (take w x) k) rows
    keys = drawn_all (Pairs ours theirs) (λ x. same_row (take n (point_of p es x)) k ≡ same_row (take w x) k) (λ r x t. ap (λ z. same_row z k) (exps_keep p (columns_of ours ++ columns_of theirs) ours s rest x h.well_formed i j t.0 t.1 t.2).1) (beside ours b) a.points (all_paired a b h.typed g.typed)

    own_keys : AllByRecursion (λ r. IfSome (option_map (λ q. r ++ q) (partner ours b r)) (λ q. take w q ≡ take w r)) a.points
    own_keys = all_more (λ r. is_point (columns_of ours) r ≡ true) (λ r. IfSome (option_map (λ q. r ++ q) (partner ours b r)) (λ q. take w q ≡ take w r)) (λ r t. some_if (λ q. take w q ≡ take w r) (λ q. r ++ q) (partner ours b r) (λ q found. take-append-le w r q (key_within ours r t))) a.points h.typed

    both : (r q : Row) → is_point (columns_of ours) r ≡ true → take w r ≡ k → is_point (columns_of theirs) q ≡ true → point_of p es (r ++ q) ≡ k ++ F r q
    both r q t key v =
        let x = pairs_with ours theirs r q t v in
        exps_split p ours s rest (r ++ q) h.well_formed i x.1 ∙ ap (λ l. l ++ point_of p rest (r ++ q)) (x.3 ∙ key) ∙ ap (λ l. k ++ l) (f r q t v)

    at : (r : Row) → is_point (columns_of ours) r ≡ true → take w r ≡ k → option_map (point_of p es) (option_map (λ q. r ++ q) (partner ours b r)) ≡ option_map (λ q. k ++ F r q) (look (key_width theirs) b.points (part_for ours theirs k))
    at r t key =
        map_twice (point_of p es) (λ q. r ++ q) (partner ours b r)
        ∙ ap (λ z. option_map (λ q. point_of p es (r ++ q)) (look (key_width theirs) b.points z)) (part_of_point ours theirs r k within key)
        ∙ found_map (λ q. is_point (columns_of theirs) q ≡ true) (key_width theirs) b.points (part_for ours theirs k) (λ q. point_of p es (r ++ q)) (λ q. k ++ F r q) g.typed (λ q v own. both r q t key v)

pub pair_look : (p : Settings) (o : ScalarOp) (a b : DataSet) (s : Structure) (out : List Row) (k : Row) → contains a.structure b.structure ≡ true → IsPaired p o a.structure b.structure s → IsDataSet a.structure a.points → IsDataSet b.structure b.points → pair_of p o a b s ≡ Ok out
    → look (key_width s) out k ≡ of_both (λ r q. k ++ paired_at p o a.structure b.structure s r q) (look (key_width a.structure) a.points k) (look (key_width b.structure) b.points (part_for a.structure b.structure k))
pair_look p o a b s out k t i h g u =
    let ours = a.structure in
    let theirs = b.structure in
    let exps = for_measures (with_namesake o (column_named (columns_of ours)) (column_behind (length (columns_of ours)) (columns_of theirs))) (measures_of ours) (measures_of s) in
    let ids = subst (λ x. HasIdentifiers s (identifiers_of (cond x ours theirs))) t i.identifiers in
    let typed : AreFor p (columns_of ours ++ columns_of theirs) (columns_named (columns_of ours) (identifiers_of s) ++ exps) (columns_of s) = rw t at i.columns in
    let split = for_back p (columns_of ours ++ columns_of theirs) (columns_named (columns_of ours) (identifiers_of s)) exps (identifiers_of s) (others_of s) (length-map (identifiers_of s) (λ y. column_named (columns_of ours) y.name)) (subst (λ ys. AreFor p (columns_of ours ++ columns_of theirs) (columns_named (columns_of ours) (identifiers_of s) ++ exps) ys) (columns_split s) typed) in
    side_look p a b s exps (λ r q. paired_at p o ours theirs s r q) out k h g (contained_within ours theirs t) ids typed
    (λ r q v w. namesake_values p o (columns_of ours ++ columns_of theirs) (column_named (columns_of ours)) (column_behind (length (columns_of ours)) (columns_of theirs)) (r ++ q) (value_named (columns_of ours) r) (value_named (columns_of theirs) q)
    (λ n j. ap Ok (value_in_front p (columns_of ours) (columns_of theirs) r q n v w j)) (λ n j. ap Ok (value_behind (columns_of ours) (columns_of theirs) r q n v)) (measures_of ours) (measures_of s) (others_of s) split)
    (rw t at u)

pub pair_look_right : (p : Settings) (o : ScalarOp) (a b : DataSet) (s : Structure) (out : List Row) (k : Row) → contains a.structure b.structure ≡ false → IsPaired p o a.structure b.structure s → IsDataSet a.structure a.points → IsDataSet b.structure b.points → pair_of p o a b s ≡ Ok out
    → look (key_width s) out k ≡ of_both (λ r q. k ++ paired_at p o a.structure b.structure s r q) (look (key_width a.structure) a.points (part_for b.structure a.structure k)) (look (key_width b.structure) b.points k)
pair_look_right p o a b s out k t i h g u =
    let ours = a.structure in
    let theirs = b.structure in
    let exps = for_measures (with_namesake o (column_behind (length (columns_of theirs)) (columns_of ours)) (column_named (columns_of theirs))) (measures_of ours) (measures_of s) in
    let ids = subst (λ x. HasIdentifiers s (identifiers_of (cond x ours theirs))) t i.identifiers in
    let typed : AreFor p (columns_of theirs ++ columns_of ours) (columns_named (columns_of theirs) (identifiers_of s) ++ exps) (columns_of s) = rw t at i.columns in
    let split = for_back p (columns_of theirs ++ columns_of ours) (columns_named (columns_of theirs) (identifiers_of s)) exps (identifiers_of s) (others_of s) (length-map (identifiers_of s) (λ y. column_named (columns_of theirs) y.name)) (subst (λ ys. AreFor p (columns_of theirs ++ columns_of ours) (columns_named (columns_of theirs) (identifiers_of s) ++ exps) ys) (columns_split s) typed) in
    side_look p b a s exps (λ q r. paired_at p o ours theirs s r q) out k g h (contained_within theirs ours (or_second (contains ours theirs) (contains theirs ours) i.contained t)) ids typed
    (λ q r v w. namesake_values p o (columns_of theirs ++ columns_of ours) (column_behind (length (columns_of theirs)) (columns_of ours)) (column_named (columns_of theirs)) (q ++ r) (value_named (columns_of ours) r) (value_named (columns_of theirs) q)
    (λ n j. ap Ok (value_behind (columns_of theirs) (columns_of ours) q r n v)) (λ n j. ap Ok (value_in_front p (columns_of theirs) (columns_of ours) q r n v w j)) (measures_of ours) (measures_of s) (others_of s) split)
    (rw t at u)
    ∙ then_turned (λ r q. k ++ paired_at p o ours theirs s r q) (look (key_width ours) a.points (part_for theirs ours k)) (look (key_width theirs) b.points k)

-- ---- `if`
module _ (t a b : DataSet) (s : Structure) (k : Row) (i : IsChoice t.structure a.structure b.structure s) (g : IsDataSet t.structure t.points) (h : IsDataSet a.structure a.points) (l : IsDataSet b.structure b.points) where
  abbrev Joined : DataSet → Row → Option Row
  Joined other r = option_map (joined_point t.structure other.structure s r) (partner t.structure other r)

  abbrev Chosen : Row → Option Row
  Chosen r = cond (is_first_chosen t.structure r) (Joined a r) (Joined b r)

  taken_chosen : (r : Row) → taken_at t.structure a b s r ≡ option_to_list (Chosen r)
  taken_chosen r = go (is_first_chosen t.structure r) (Joined a r) (Joined b r)
    where
      go : (x : Bool) (o u : Option Row) → cond x (option_to_list o) (option_to_list u) ≡ option_to_list (cond x o u)
      go true o u = refl
      go false o u = refl

  joined_keys : (other : DataSet) (r : Row) → IsAlternative t.structure other.structure s → IsDataSet other.structure other.points → is_point (columns_of t.structure) r ≡ true → IfSome (Joined other r) (λ q. take (key_width s) q ≡ take (key_width t.structure) r)
  joined_keys other r f u w =
      some_if (λ q. take (key_width s) q ≡ take (key_width t.structure) r) (joined_point t.structure other.structure s r) (partner t.structure other r)
      (λ q found. (joined_keeps t.structure other.structure s r q g.well_formed i.identifiers i.no_attributes f.measures w
      (look_is (λ z. is_point (columns_of other.structure) z ≡ true) (key_width other.structure) other.points (cells_at (places_in (columns_of t.structure) (identifiers_of other.structure)) r) q u.typed found)).1)

  chosen_keys : (r : Row) → is_point (columns_of t.structure) r ≡ true → IfSome (Chosen r) (λ q. take (key_width s) q ≡ take (key_width t.structure) r)
  chosen_keys r w = go (is_first_chosen t.structure r)
    where
      go : (x : Bool) → IfSome (cond x (Joined a r) (Joined b r)) (λ q. take (key_width s) q ≡ take (key_width t.structure) r)
      go true = joined_keys a r i.first h w
      go false = joined_keys b r i.second l w

  joined_at : (other : DataSet) (r : Row) → IsAlternative t.structure other.structure s → is_point (columns_of t.structure) r ≡ true → take (key_width t.structure) r ≡ k → Joined other r ≡ chosen_at t.structure other s k
  joined_at other r f w key =
      ap (λ z. option_map (joined_point t.structure other.structure s r) (look (key_width other.structure) other.points z)) (part_of_point t.structure other.structure r k (among_within (identifiers_of other.structure) (identifiers_of t.structure) f.there) key)
      ∙ ap (λ f. option_map f (look (key_width other.structure) other.points (part_for t.structure other.structure k))) whole
    where
      own : cells_at (places_in (columns_of t.structure) (identifiers_of s)) r ≡ k
      own = key_cells t.structure s r g.well_formed i.identifiers (key_within t.structure r w) ∙ key

      whole : joined_point t.structure other.structure s r ≡ (λ q. k ++ values_named (columns_of other.structure) (measures_of s) q)
      whole = λ x q. (ap (λ z. z ++ cells_at (places_in (columns_of other.structure) (measures_of s)) q) own ∙ ap (λ z. k ++ z) (named_cells (columns_of other.structure) (measures_of s) q)) x

  pub choice_look : look (key_width s) (choice_of t a b s) k ≡ option_and_then (λ r. cond (is_first_chosen t.structure r) (chosen_at t.structure a s k) (chosen_at t.structure b s k)) (look (key_width t.structure) t.points k)
  choice_look =
      ap (λ f. look (key_width s) (flat_map f t.points) k) (λ x r. taken_chosen r x)
      ∙ look-drawn (key_width t.structure) (key_width s) Chosen t.points k (all_more (λ r. is_point (columns_of t.structure) r ≡ true) (λ r. IfSome (Chosen r) (λ q. take (key_width s) q ≡ take (key_width t.structure) r)) chosen_keys t.points g.typed) g.distinct
      ∙ found_then (λ r. is_point (columns_of t.structure) r ≡ true) (key_width t.structure) t.points k Chosen (λ r. cond (is_first_chosen t.structure r) (chosen_at t.structure a s k) (chosen_at t.structure b s k)) g.typed
      (λ r w key. ap (λ o. cond (is_first_chosen t.structure r) o (Joined b r)) (joined_at a r i.first w key) ∙ ap (λ o. cond (is_first_chosen t.structure r) (chosen_at t.structure a s k) o) (joined_at b r i.second w key))

-- ---- `sub`
-- a tuple of all identifiers
pub whole_key : (a : Structure) → IsStructure a → (k : Row) → length k ≡ key_width a → cells_at (places_in (identifiers_of a) (identifiers_of a)) k ≡ k
whole_key a w k h =
    ap (λ xs. cells_at (places_in xs (identifiers_of a)) k) (sym (append-nil (identifiers_of a)))
    ∙ first_cells (identifiers_of a) [] k (identifiers_apart a w) (omega (arith, h))
    ∙ take_all (key_width a) k (omega (arith, h))

-- each value is one of an identifier
abbrev pub AreKeyValues : List SubItem → Structure → Type 0
AreKeyValues items a = AllByRecursion (λ x. (is_of (kind_named x.id (identifiers_of a)) x.value ≡ true) × IsColumnAt (place_of x.id (identifiers_of a)) x.id (kind_named x.id (identifiers_of a)) (identifiers_of a)) items

module _ (items : List SubItem) (a s : Structure) (i : Tells items a s) (vs : AreKeyValues items a) (w : IsStructure a) where
  within_key : (r : Row) (name : List ℕ) → place_of name (identifiers_of a) < length (identifiers_of a) → value_named (columns_of a) r name ≡ value_named (identifiers_of a) (take (key_width a) r) name
  within_key r name h = ap (λ xs. value_named xs r name) (columns_split a) ∙ named_front (identifiers_of a) (others_of a) r name h

  -- a point has these values where its key has them
  values_of_key : (r : Row) → has_values a items r ≡ has_key_values a items (take (key_width a) r)
  values_of_key r = go items vs
    where
      go : (us : List SubItem) → AreKeyValues us a → has_values a us r ≡ has_key_values a us (take (key_width a) r)
      go [] all = refl
      go (x ∷ us) all =
          ap (λ v. same_cell v x.value && has_values a us r) (within_key r x.id (column_within (place_of x.id (identifiers_of a)) x.id (kind_named x.id (identifiers_of a)) (identifiers_of a) all.0.1))
          ∙ ap (λ b. same_cell (value_named (identifiers_of a) (take (key_width a) r) x.id) x.value && b) (go us all.1)

  -- tuples with these values that agree on what is left are one
  one_tuple : (j l : Row) → length j ≡ key_width a → length l ≡ key_width a → has_key_values a items j ≡ true → has_key_values a items l ≡ true → part_for a s j ≡ part_for a s l → j ≡ l
  one_tuple j l lj ll hj hl e =
      let cells : cells_at (places_in (identifiers_of a) (identifiers_of s)) j ≡ cells_at (places_in (identifiers_of a) (identifiers_of s)) l = named_cells (identifiers_of a) (identifiers_of s) j ∙ e ∙ sym (named_cells (identifiers_of a) (identifiers_of s) l) in
      let each_one : (x : Component) → (list_any (λ y. same_name y.name x.name) (identifiers_of s) || list_any (λ y. same_name y.id x.name) items) ≡ true → Alike (identifiers_of a) j l x.name = λ x t.
      elim (or_cases (list_any (λ y. same_name y.name x.name) (identifiers_of s)) (list_any (λ y. same_name y.id x.name) items) t) [
        | inl m ↦ alike_by_columns (identifiers_of a) j l (identifiers_of s) x.name cells m
        | inr m ↦ alike_by_values (identifiers_of a) j l items x.name hj hl m
      ] in
      let all = all_more (λ x. (list_any (λ y. same_name y.name x.name) (identifiers_of s) || list_any (λ y. same_name y.id x.name) items) ≡ true) (λ x. Alike (identifiers_of a) j l x.name) each_one (identifiers_of a) i.identifiers in
      sym (whole_key a w j lj) ∙ alike_cells (identifiers_of a) j l (identifiers_of a) all ∙ whole_key a w l ll

  sub_key : (r : Row) → is_point (columns_of a) r ≡ true → has_values a items r ≡ true → take (key_width s) (cells_at (places_in (columns_of a) (columns_of s)) r) ≡ part_for a s (take (key_width a) r)
  sub_key r h v =
      taken_key items a s w i r (cells_at (places_in (columns_of a) (columns_of s)) r) (h, v, refl)
      ∙ part_of_point a s r (take (key_width a) r) (among_within (identifiers_of s) (identifiers_of a) i.left) refl

  key_length : (r : Row) → is_point (columns_of a) r ≡ true → length (take (key_width a) r) ≡ key_width a
  key_length r h = length-take-le (key_width a) r (key_within a r h)

  module _ (d : List Row) (h : IsDataSet a d) where
    abbrev IsTaken : Row → Type 0
    IsTaken r = (is_point (columns_of a) r ≡ true) × (has_values a items r ≡ true)

    all_taken : AllByRecursion IsTaken (filter (has_values a items) d)
    all_taken =
        all_both (λ r. is_point (columns_of a) r ≡ true) (λ r. has_values a items r ≡ true) IsTaken (λ r t v. (t, v)) (filter (has_values a items) d)
        (AllByRecursion-filter (λ r. is_point (columns_of a) r ≡ true) (has_values a items) d h.typed) (all_filtered (has_values a items) d)

    pub sub_look : (j : Row) → length j ≡ key_width a → has_key_values a items j ≡ true → look (key_width s) (sub_of items (with_points a d) s) (part_for a s j) ≡ option_map (λ r. part_for a s j ++ values_named (columns_of a) (others_of s) r) (look (key_width a) d j)
    sub_look j len values =
        look-map (key_width a) (key_width s) shown_row (filter (has_values a items) d) (part_for a s j) j (all_more IsTaken (λ r. same_row (take (key_width s) (shown_row r)) (part_for a s j) ≡ same_row (take (key_width a) r) j) keys (filter (has_values a items) d) all_taken)
        ∙ ap (option_map shown_row) (look-filter (key_width a) (has_values a items) d j h.distinct ∙ kept_all (has_values a items) (look (key_width a) d j) (λ r e. values_of_key r ∙ ap (has_key_values a items) (look_key (key_width a) d j r e) ∙ values))
        ∙ found_map (λ r. is_point (columns_of a) r ≡ true) (key_width a) d j shown_row (λ r. part_for a s j ++ values_named (columns_of a) (others_of s) r) h.typed
        (λ r t key. shown_split (columns_of a) s r
        ∙ ap (λ l. l ++ cells_at (places_in (columns_of a) (others_of s)) r) (part_of_point a s r j (among_within (identifiers_of s) (identifiers_of a) i.left) key)
        ∙ ap (λ l. part_for a s j ++ l) (named_cells (columns_of a) (others_of s) r))
      where
        shown_row : Row → Row
        shown_row = cells_at (places_in (columns_of a) (columns_of s))

        keys : (r : Row) → IsTaken r → same_row (take (key_width s) (shown_row r)) (part_for a s j) ≡ same_row (take (key_width a) r) j
        keys r t =
            let key = sub_key r t.0 t.1 in
            same_tests (same_row (take (key_width s) (shown_row r)) (part_for a s j)) (same_row (take (key_width a) r) j)
            (λ e. let one = one_tuple (take (key_width a) r) j (key_length r t.0) len (sym (values_of_key r) ∙ t.1) values (sym key ∙ same_row-is (take (key_width s) (shown_row r)) (part_for a s j) e) in
            ap (same_row (take (key_width a) r)) (sym one) ∙ same_row-refl (take (key_width a) r))
            (λ e. ap (same_row (take (key_width s) (shown_row r))) (sym (key ∙ ap (part_for a s) (same_row-is (take (key_width a) r) j e))) ∙ same_row-refl (take (key_width s) (shown_row r)))

    pub sub_look_only : (k q : Row) → look (key_width s) (sub_of items (with_points a d) s) k ≡ Some q → (j : Row) × (length j ≡ key_width a) × (has_key_values a items j ≡ true) × (part_for a s j ≡ k)
    sub_look_only k q e =
        let found = found_of_map (key_width s) IsTaken (cells_at (places_in (columns_of a) (columns_of s))) (filter (has_values a items) d) k q all_taken e in
        let r = found.0 in
        (take (key_width a) r, key_length r found.1.0, sym (values_of_key r) ∙ found.1.1, sym (sub_key r found.1.0 found.1.1) ∙ found.2)
