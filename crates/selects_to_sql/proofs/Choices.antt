-- `if` on data sets is a union of two selects, each over a join with the condition's table.
use Rattle.std.proofs.Common.{◌≡◌, ◌+◌, Bool, true, false, not, cond, List, [], ◌∷◌, ◌++◌, length, map, Option, Some, None, Ok, refl, ap, sym, ◌∙◌, subst, arith, append-nil}
use Rattle.std.specs.Prelude.{IfOk, option_map}
use Rattle.std.specs.List.{AllByRecursion, filter, flat_map}
use Rattle.std.specs.Option.{option_to_list}
use Rattle.std.proofs.lemmas.List.{get_or_append_left, get_or-append-add, map-append}
use Rattle.vtl_cell.specs.Kinds.{is_of}
use Rattle.vtl_decimal.specs.declared.number.Fault.{Fault}
use Rattle.vtl_cell.specs.Outcome.{after, fault_in, faults_by, unless}
use Rattle.vtl_cell.specs.Outcomes.{is_true}
use Rattle.vtl_lists.specs.Perm.{chain}
use Rattle.vtl_cell.specs.Row.{Row, column_of}
use Rattle.vtl_decimal.specs.Settings.{Settings}
use Rattle.vtl_cell.specs.declared.cell.Cell.{Cell}
use Rattle.vtl_cell.specs.declared.cell.Cell.TheVariants as c
use Rattle.vtl_cell.specs.declared.kind.Kind.{Kind}
use Rattle.vtl_cell.specs.declared.kind.Kind.TheVariants as k
use Rattle.vtl_cell.specs.declared.operator.ScalarOp.TheVariants as op
use Rattle.vtl_lists.proofs.Perms.{Perm-same}
use Rattle.vtl_lists.proofs.Sorts.{AllByRecursion-filter}
use Rattle.vtl_tuples.proofs.Lists.{flat_map_both}
use Rattle.vtl_rows.specs.Tables.{cells_at}
use Rattle.vtl_tree.specs.Clauses.{filter_of}
use Rattle.vtl_tree.specs.CompExp.{CompExp}
use Rattle.vtl_tree.specs.DataSet.{IsDataSet, is_point}
use Rattle.vtl_tree.specs.Structure.{columns_of, key_width, names_of, of_role}
use Rattle.vtl_tree.specs.Value.{called, value}
use Rattle.vtl_tree.specs.declared.structure.Component.{Component}
use Rattle.vtl_tree.specs.declared.structure.Role.TheVariants as role
use Rattle.vtl_tree.specs.declared.structure.Structure.{Structure}
use Rattle.vtl_tree.specs.Columns.{column_behind, columns_named, identifiers_of, kind_named, measures_of, others_of, place_of, places_in}
use Rattle.vtl_meaning.specs.Made.{AreAmong, AreFor, HasIdentifiers, IsAlternative, IsChoice, IsColumnAt}
use Rattle.vtl_meaning.specs.Operators.{choice_of, is_first_chosen, joined_point, taken_at, taken_from}
use Rattle.vtl_meaning.specs.Points.{beside, each_point, paired, partner, point_fault, point_of, with_points}
use Rattle.vtl_meaning.proofs.Kept.{column_front, column_within}
use Rattle.vtl_meaning.proofs.OwnColumns.{columns_apart}
use Rattle.vtl_meaning.proofs.Places.{columns_split, point_length}
use Rattle.vtl_meaning.proofs.ValueKinds.{cell_is_of}
use Rattle.sql_tree.specs.Formed.{IsName}
use Rattle.sql_tree.specs.Trees.{Text}
use Rattle.sql_meaning.specs.Scripts.{Data}
use Rattle.selects_to_sql.specs.Writable.{AllCanBeWritten, HaveNames}
use Rattle.selects_to_sql.specs.Means.{Means}
use Rattle.selects_to_sql.specs.Queries.{choose_query, chosen_exps, chosen_select, is_chosen, is_not_chosen, name_of_first}
use Rattle.selects_to_sql.specs.Runs.{IsTable}
use Rattle.selects_to_sql.proofs.Expressions.{Translates}
use Rattle.selects_to_sql.proofs.Exact.{means_by}
use Rattle.selects_to_sql.proofs.Givens.{AreGiven, kinds_in}
use Rattle.selects_to_sql.proofs.SelectItems.{GivesRows, gives_same}
use Rattle.selects_to_sql.proofs.Selects.{IsTest}
use Rattle.selects_to_sql.proofs.Unions.{union_there}
use Rattle.selects_to_sql.proofs.Identifiers.{AreIdentifiersAt, IsIdentifierAt, identifiers_there, own_there}
use Rattle.selects_to_sql.proofs.OneOperand.{kind_at}
use Rattle.selects_to_sql.proofs.Pairs.{column_later, pairs_give, points, rows_where}

-- ---- lists

abbrev no_rows : List Row
no_rows = []

-- a filter and a map over a walk
walked : {X Y Z : Type 0} (P : X → Type 0) (p : Y → Bool) (h : Y → Z) (f : X → List Y) (g : X → List Z) → ((x : X) → P x → map h (filter p (f x)) ≡ g x) → (xs : List X) → AllByRecursion P xs → map h (filter p (flat_map f xs)) ≡ flat_map g xs
walked P p h f g each [] all = refl
walked P p h f g each (x ∷ xs) all =
    ap (map h) (filter_both p (f x) (flat_map f xs))
    ∙ map-append h (filter p (f x)) (filter p (flat_map f xs))
    ∙ ap (λ l. l ++ map h (filter p (flat_map f xs))) (each x all.0)
    ∙ ap (λ l. g x ++ l) (walked P p h f g each xs all.1)
  where
    filter_both : {A : Type 0} (q : A → Bool) (ys zs : List A) → filter q (ys ++ zs) ≡ filter q ys ++ filter q zs
    filter_both q [] zs = refl
    filter_both q (y ∷ ys) zs = go (q y) (filter_both q ys zs)
      where
        go : (b : Bool) → filter q (ys ++ zs) ≡ filter q ys ++ filter q zs → cond b (y ∷ filter q (ys ++ zs)) (filter q (ys ++ zs)) ≡ cond b (y ∷ filter q ys) (filter q ys) ++ filter q zs
        go true ih = ap (λ l. y ∷ l) ih
        go false ih = ih

same_walk : {X Y : Type 0} (f g : X → List Y) → ((x : X) → f x ≡ g x) → (xs : List X) → flat_map f xs ≡ flat_map g xs
same_walk f g h [] = refl
same_walk f g h (x ∷ xs) = ap (λ l. l ++ flat_map f xs) (h x) ∙ ap (λ l. g x ++ l) (same_walk f g h xs)

-- ---- a condition and one operand

module _ (p : Settings) (law : Translates p) (before : Data) (x y : Text) (t o s : Structure) (tests d : List Row) (there : IsTable before x t tests) (here : IsTable before y o d) (named : IsName x × IsName y) (nt : HaveNames (columns_of t)) (no_ : HaveNames (columns_of o)) (set : IsDataSet t tests) (other : IsDataSet o d) (alt : IsAlternative t o s) (ids : HasIdentifiers s (identifiers_of t)) (plain : columns_of s ≡ identifiers_of s ++ measures_of s) where
  abbrev es : List CompExp
  es = chosen_exps t o s

  abbrev all_columns : List Component
  all_columns = columns_of t ++ columns_of o

  abbrev behind : List Component → List CompExp
  behind ms = map (λ m. column_behind (length (columns_of t)) (columns_of o) m.name) ms

  ours : AreIdentifiersAt (columns_of t) (identifiers_of o)
  ours = identifiers_there t set.well_formed (identifiers_of o) alt.there

  -- the items are typed
  ids_for : (us vs : List Component) → names_of us ≡ names_of vs → kinds_in us ≡ kinds_in vs → AreIdentifiersAt (columns_of t) vs → (fs : List CompExp) (ws : List Component) → AreFor p all_columns fs ws → AreFor p all_columns (columns_named (columns_of t) us ++ fs) (us ++ ws)
  ids_for [] [] e h i fs ws f = f
  ids_for [] (v ∷ vs) e h i fs ws f = cc
  ids_for (u ∷ us) [] e h i fs ws f = cc
  ids_for (u ∷ us) (v ∷ vs) e h i fs ws f =
      let name : v.name ≡ u.name = cc in
      let kind : u.kind ≡ v.kind = cc in
      let names_left : names_of us ≡ names_of vs = cc in
      let kinds_left : kinds_in us ≡ kinds_in vs = cc in
      let at = subst (λ n. IsIdentifierAt n v.kind (columns_of t)) name i.0 in (
        column_front (place_of u.name (columns_of t)) u.name (kind_named u.name (columns_of t)) (columns_of t) (columns_of o) (subst (λ q. IsColumnAt (place_of u.name (columns_of t)) u.name q (columns_of t)) (sym at.named) at.column),
        at.named ∙ sym kind,
        ids_for us vs names_left kinds_left i.1 fs ws f,
      )

  measures_for : (ms : List Component) → AreAmong ms (columns_of o) → AreFor p all_columns (behind ms) ms
  measures_for [] i = tt
  measures_for (m ∷ ms) i =
      let kind = kind_at (place_of m.name (columns_of o)) m.name m.kind (columns_of o) i.0 (columns_apart o other.well_formed) in
      (column_later (place_of m.name (columns_of o)) m.name (kind_named m.name (columns_of o)) (columns_of t) (columns_of o) (subst (λ q. IsColumnAt (place_of m.name (columns_of o)) m.name q (columns_of o)) (sym kind) i.0), kind, measures_for ms i.1)

  typed : AreFor p all_columns es (columns_of s)
  typed = subst (λ ws. AreFor p all_columns es ws) (sym plain) (ids_for (identifiers_of s) (identifiers_of t) ids.0 ids.1 (own_there t set.well_formed) (behind (measures_of s)) (measures_of s) (measures_for (measures_of s) alt.measures))

  written : AllCanBeWritten es
  written = go (identifiers_of s)
    where
      last : (ms : List Component) → AllCanBeWritten (behind ms)
      last [] = tt
      last (m ∷ ms) = (record { constants = tt; shallow = omega arith }, last ms)

      go : (us : List Component) → AllCanBeWritten (columns_named (columns_of t) us ++ behind (measures_of s))
      go [] = last (measures_of s)
      go (u ∷ us) = (record { constants = tt; shallow = omega arith }, go us)

  -- the point that is made of a pair
  module _ (r q : Row) (wr : is_point (columns_of t) r ≡ true) where
    wide : length r ≡ length (columns_of t)
    wide = point_length (columns_of t) r wr

    front : (us vs : List Component) → names_of us ≡ names_of vs → AreIdentifiersAt (columns_of t) vs → (fs : List CompExp) → point_of p (columns_named (columns_of t) us ++ fs) (r ++ q) ≡ cells_at (places_in (columns_of t) us) r ++ point_of p fs (r ++ q)
    front [] [] e i fs = refl
    front [] (v ∷ vs) e i fs = cc
    front (u ∷ us) [] e i fs = cc
    front (u ∷ us) (v ∷ vs) e i fs =
        let name : v.name ≡ u.name = cc in
        let names_left : names_of us ≡ names_of vs = cc in
        let at = subst (λ n. IsIdentifierAt n v.kind (columns_of t)) name i.0 in
        let within = column_within (place_of u.name (columns_of t)) u.name v.kind (columns_of t) at.column in
        ap (λ z. z ∷ point_of p (columns_named (columns_of t) us ++ fs) (r ++ q)) (get_or_append_left r q c.Null (place_of u.name (columns_of t)) (omega (arith, within, wide)))
        ∙ ap (λ l. column_of (place_of u.name (columns_of t)) r ∷ l) (front us vs names_left i.1 fs)

    back : (ms : List Component) → point_of p (behind ms) (r ++ q) ≡ cells_at (places_in (columns_of o) ms) q
    back [] = refl
    back (m ∷ ms) =
        ap (λ z. z ∷ point_of p (behind ms) (r ++ q)) (ap (λ n. column_of (n + place_of m.name (columns_of o)) (r ++ q)) (sym wide) ∙ get_or-append-add r q (place_of m.name (columns_of o)) c.Null)
        ∙ ap (λ l. column_of (place_of m.name (columns_of o)) q ∷ l) (back ms)

    point_is : point_of p es (r ++ q) ≡ joined_point t o s r q
    point_is = front (identifiers_of s) (identifiers_of t) ids.0 (own_there t set.well_formed) (behind (measures_of s)) ∙ ap (λ l. cells_at (places_in (columns_of t) (identifiers_of s)) r ++ l) (back (measures_of s))

  -- columns have no faults
  quiet_columns : (us : List Component) (fs : List CompExp) (z : Row) → point_fault p fs z ≡ None → point_fault p (columns_named (columns_of t) us ++ fs) z ≡ None
  quiet_columns [] fs z h = h
  quiet_columns (u ∷ us) fs z h = quiet_columns us fs z h

  quiet_behind : (ms : List Component) (z : Row) → point_fault p (behind ms) z ≡ None
  quiet_behind [] z = refl
  quiet_behind (m ∷ ms) z = quiet_behind ms z

  quiet : (rows : List Row) → faults_by (point_fault p es) rows ≡ None
  quiet [] = refl
  quiet (z ∷ rows) = rw (quiet_columns (identifiers_of s) (behind (measures_of s)) z (quiet_behind (measures_of s) z)) (quiet rows)

  abbrev pairs : List Row
  pairs = paired (with_points t tests) (with_points o d)

  -- the points that the condition gives this operand
  module _ (e : CompExp) (f : Row → Bool) (condition : IsTest p all_columns (Some e)) (calm : (r q : Row) → is_point (columns_of t) r ≡ true → (is_true (value p e (r ++ q)) ≡ f r) × (fault_in (value p e (r ++ q)) ≡ None)) where
    abbrev picked : Row → List Row
    picked r = cond (f r) (taken_from t (with_points o d) s r) []

    one_picked : (r : Row) → is_point (columns_of t) r ≡ true → map (point_of p es) (filter (λ z. is_true (value p e z)) (beside t (with_points o d) r)) ≡ picked r
    one_picked r w = go (partner t (with_points o d) r)
      where
        both : (b : Bool) (q : Row) → is_true (value p e (r ++ q)) ≡ b → map (point_of p es) (cond (is_true (value p e (r ++ q))) ((r ++ q) ∷ []) []) ≡ cond b (joined_point t o s r q ∷ []) []
        both true q h = ap (λ z. map (point_of p es) (cond z ((r ++ q) ∷ []) [])) h ∙ ap (λ z. z ∷ []) (point_is r q w)
        both false q h = ap (λ z. map (point_of p es) (cond z ((r ++ q) ∷ []) [])) h

        nothing : (b : Bool) → no_rows ≡ cond b [] []
        nothing true = refl
        nothing false = refl

        go : (m : Option Row) → map (point_of p es) (filter (λ z. is_true (value p e z)) (option_to_list (option_map (λ q. r ++ q) m))) ≡ cond (f r) (option_to_list (option_map (joined_point t o s r) m)) []
        go None = nothing (f r)
        go (Some q) = both (f r) q (calm r q w).0

    no_fault_at : (rs : List Row) → AllByRecursion (λ r. is_point (columns_of t) r ≡ true) rs → faults_by (λ z. fault_in (value p e z)) (paired (with_points t rs) (with_points o d)) ≡ None
    no_fault_at [] h = refl
    no_fault_at (r ∷ rs) h = go (partner t (with_points o d) r) (no_fault_at rs h.1)
      where
        go : (m : Option Row) → faults_by (λ z. fault_in (value p e z)) (paired (with_points t rs) (with_points o d)) ≡ None → faults_by (λ z. fault_in (value p e z)) (option_to_list (option_map (λ q. r ++ q) m) ++ paired (with_points t rs) (with_points o d)) ≡ None
        go None ih = ih
        go (Some q) ih = rw (calm r q h.0).1 ih

    kept_is : after (filter_of p e pairs) (each_point p es) ≡ Ok (flat_map picked tests)
    kept_is =
        ap (λ z. after (unless z (filter (λ r. is_true (value p e r)) pairs)) (each_point p es)) (no_fault_at tests set.typed)
        ∙ ap (λ z. unless z (map (point_of p es) (filter (λ r. is_true (value p e r)) pairs))) (quiet (filter (λ r. is_true (value p e r)) pairs))
        ∙ ap Ok (walked (λ r. is_point (columns_of t) r ≡ true) (λ z. is_true (value p e z)) (point_of p es) (beside t (with_points o d)) picked one_picked tests set.typed)

    all_points : IfOk (filter_of p e pairs) (AllByRecursion (λ z. is_point all_columns z ≡ true))
    all_points = go (faults_by (λ z. fault_in (value p e z)) pairs)
      where
        go : (z : Option Fault) → IfOk (unless z (filter (λ r. is_true (value p e r)) pairs)) (AllByRecursion (λ q. is_point all_columns q ≡ true))
        go None = AllByRecursion-filter (λ q. is_point all_columns q ≡ true) (λ r. is_true (value p e r)) pairs (points p law before x y t o s tests d there here named nt no_ set other ours es typed written)
        go (Some g) = tt

    pub picked_give : AreGiven (columns_of s) → GivesRows p before s (chosen_select p e t o s x y) (Ok (flat_map picked tests))
    picked_give given =
        gives_same p before s (chosen_select p e t o s x y) (after (filter_of p e pairs) (each_point p es)) (Ok (flat_map picked tests)) kept_is
        (pairs_give p law before x y t o s tests d there here named nt no_ set other ours es typed written given (Some e) condition (filter_of p e pairs) (rows_where p law before x y t o s tests d there here named nt no_ set other ours es typed written e condition.0 condition.2) all_points)

-- ---- the condition's measure

-- of a structure that has one measure, of this kind
one_measure : (kind : Kind) (ms : List Component) → kinds_in ms ≡ kind ∷ [] → (rest : List Component) → IsColumnAt 0 (name_of_first ms) kind (ms ++ rest)
one_measure kind [] h rest = cc
one_measure kind (m ∷ []) h rest = let same : m.kind ≡ kind = cc in (refl, same)
one_measure kind (m ∷ n ∷ ms) h rest = cc

pub measure_at : (t : Structure) (kind : Kind) → kinds_in (measures_of t) ≡ kind ∷ [] → IsColumnAt (key_width t) (name_of_first (measures_of t)) kind (columns_of t)
measure_at t kind h =
    let at = column_later 0 (name_of_first (measures_of t)) kind (identifiers_of t) (others_of t) (one_measure kind (measures_of t) h (of_role role.Attribute t)) in
    let same : length (identifiers_of t) + 0 ≡ key_width t = omega arith in
    subst (λ xs. IsColumnAt (key_width t) (name_of_first (measures_of t)) kind xs) (sym (columns_split t)) (subst (λ n. IsColumnAt n (name_of_first (measures_of t)) kind (identifiers_of t ++ others_of t)) same at)

-- of a boolean or null
denied : (p : Settings) (v : Cell) → is_of k.Bool v ≡ true → (is_true (called p k.Bool (Ok v ∷ Ok (c.Bool false) ∷ Ok (c.Bool true) ∷ []) op.If) ≡ not (is_true (Ok v))) × (fault_in (called p k.Bool (Ok v ∷ Ok (c.Bool false) ∷ Ok (c.Bool true) ∷ []) op.If) ≡ None)
denied p c.Null h = (refl, refl)
denied p (c.Bool true) h = (refl, refl)
denied p (c.Bool false) h = (refl, refl)
denied p v h = cc

module _ (p : Settings) (law : Translates p) (before : Data) (x y z : Text) (t a b s : Structure) (tests d e : List Row) (tx : IsTable before x t tests) (ty : IsTable before y a d) (tz : IsTable before z b e) (nx : IsName x) (ny : IsName y) (nz : IsName z) (nt : HaveNames (columns_of t)) (na : HaveNames (columns_of a)) (nb : HaveNames (columns_of b)) (st : IsDataSet t tests) (sa : IsDataSet a d) (sb : IsDataSet b e) (i : IsChoice t a b s) where
  abbrev first : Row → List Row
  first r = cond (is_first_chosen t r) (taken_from t (with_points a d) s r) []

  abbrev second : Row → List Row
  second r = cond (not (is_first_chosen t r)) (taken_from t (with_points b e) s r) []

  taken : (r : Row) (w : Bool) → cond w (taken_from t (with_points a d) s r) [] ++ cond (not w) (taken_from t (with_points b e) s r) [] ≡ cond w (taken_from t (with_points a d) s r) (taken_from t (with_points b e) s r)
  taken r true = append-nil (taken_from t (with_points a d) s r)
  taken r false = refl

  is_test : (o : Structure) → IsTest p (columns_of t ++ columns_of o) (Some (is_chosen t))
  is_test o = (column_front (key_width t) (name_of_first (measures_of t)) k.Bool (columns_of t) (columns_of o) (measure_at t k.Bool i.tested), refl, record { constants = tt; shallow = omega arith })

  is_contrary : (o : Structure) → IsTest p (columns_of t ++ columns_of o) (Some (is_not_chosen t))
  is_contrary o = ((refl, ((is_test o).0, (tt, (tt, tt))), refl), refl, record { constants = (tt, (tt, (tt, tt))); shallow = omega arith })

  cell_same : (r q : Row) → is_point (columns_of t) r ≡ true → column_of (key_width t) (r ++ q) ≡ column_of (key_width t) r
  cell_same r q w =
      let within = column_within (key_width t) (name_of_first (measures_of t)) k.Bool (columns_of t) (measure_at t k.Bool i.tested) in
      let wide = point_length (columns_of t) r w in
      get_or_append_left r q c.Null (key_width t) (omega (arith, within, wide))

  calm : (r q : Row) → is_point (columns_of t) r ≡ true → (is_true (value p (is_chosen t) (r ++ q)) ≡ is_first_chosen t r) × (fault_in (value p (is_chosen t) (r ++ q)) ≡ None)
  calm r q w = (ap (λ v. is_true (Ok v)) (cell_same r q w), refl)

  calm_contrary : (r q : Row) → is_point (columns_of t) r ≡ true → (is_true (value p (is_not_chosen t) (r ++ q)) ≡ not (is_first_chosen t r)) × (fault_in (value p (is_not_chosen t) (r ++ q)) ≡ None)
  calm_contrary r q w =
      let kind = cell_is_of (key_width t) (name_of_first (measures_of t)) k.Bool (columns_of t) r (measure_at t k.Bool i.tested) w in
      let both = denied p (column_of (key_width t) r) kind in
      subst (λ v. (is_true (called p k.Bool (Ok v ∷ Ok (c.Bool false) ∷ Ok (c.Bool true) ∷ []) op.If) ≡ not (is_first_chosen t r)) × (fault_in (called p k.Bool (Ok v ∷ Ok (c.Bool false) ∷ Ok (c.Bool true) ∷ []) op.If) ≡ None)) (sym (cell_same r q w)) both

  pub choose_means : AreGiven (columns_of s) → Means p before (choose_query p t a b s x y z) s (Ok (choice_of (with_points t tests) (with_points a d) (with_points b e) s))
  choose_means given =
      let one = picked_give p law before x y t a s tests d tx ty (nx, ny) nt na st sa i.first i.identifiers i.no_attributes (is_chosen t) (is_first_chosen t) (is_test a) calm given in
      let two = picked_give p law before x z t b s tests e tx tz (nx, nz) nt nb st sb i.second i.identifiers i.no_attributes (is_not_chosen t) (λ r. not (is_first_chosen t r)) (is_contrary b) calm_contrary given in
      let union = union_there p before s given (chosen_select p (is_chosen t) t a s x y) (chosen_select p (is_not_chosen t) t b s x z ∷ []) (flat_map first tests) (flat_map second tests ∷ []) (one, (two, tt)) in
      let choice = choice_of (with_points t tests) (with_points a d) (with_points b e) s in
      let last : flat_map first tests ++ (flat_map second tests ++ []) ≡ flat_map first tests ++ flat_map second tests = ap (λ l. flat_map first tests ++ l) (append-nil (flat_map second tests)) in
      means_by p before (choose_query p t a b s x y z) s (Ok (flat_map first tests ++ (flat_map second tests ++ []))) (Ok choice)
      (chain (Perm-same (flat_map first tests ++ (flat_map second tests ++ [])) (flat_map first tests ++ flat_map second tests) last) (chain (flat_map_both first second tests) (Perm-same (flat_map (λ r. first r ++ second r) tests) choice (same_walk (λ r. first r ++ second r) (taken_at t (with_points a d) (with_points b e) s) (λ r. taken r (is_first_chosen t r)) tests)))) union
