-- A query whose joins on equalities go by indexes, and whose WHERE is tried early where it may be, has the same rows and faults.
use Rattle.std.proofs.Common.{◌≡◌, ℕ, zero, suc, Bool, true, false, cond, ◌&&◌, ◌||◌, List, [], ◌∷◌, ◌++◌, map, drop, take, length, Option, Some, None, refl, sym, ap, ◌∙◌, subst, append_assoc, ◌⊎◌, inl, inr}
use Rattle.std.specs.Prelude.{filter, fold, nat_eq}
use Rattle.std.specs.List.{AllByRecursion, list_all}
use Rattle.std.specs.Map.{keys_of}
use Rattle.std.proofs.lemmas.Bool.{and_parts, eqb-true}
use Rattle.std.proofs.lemmas.List.{append-nil, map-append}
use Rattle.vtl_lists.proofs.Sorts.{AllByRecursion-filter}
use Rattle.vtl_lists.proofs.Alls.{all_append}
use Rattle.vtl_lists.proofs.Filters.{filter_implied, filter_true}
use Rattle.vtl_cell.specs.Outcome.{faults_by, join, unless}
use Rattle.vtl_cell.specs.Row.{Row}
use Rattle.vtl_rows.specs.Tables.{fits_kinds}
use Rattle.vtl_rows.proofs.Flats.{fits_count}
use Rattle.vtl_cell.specs.Outcomes.{Same, is_true}
use Rattle.vtl_cell.specs.declared.kind.Kind.{Kind}
use Rattle.vtl_cell.specs.declared.operator.ScalarOp.TheVariants as op
use Rattle.sql_tree.specs.Trees as tree
use Rattle.sql_tree.specs.Trees.{Exp, JoinTree, QueryTree, SelectTree, Text}
use Rattle.sql_tree.specs.declared.parts.Column.{Column}
use Rattle.sql_tree.specs.declared.parts.Source.{Source}
use Rattle.sql_tree.specs.declared.word_groups.JoinKind.{JoinKind}
use Rattle.vtl_text.specs.Texts.{same_text}
use Rattle.sql_check_parts.specs.Queries.{join_source}
use Rattle.sql_check_parts.specs.Scopes.{Scope, is_among, row_of, with_source}
use Rattle.sql_check_laws.specs.Selects.{AreJoinsTyped, IsSelectTyped, IsSourceTyped}
use Rattle.sql_meaning.specs.Early.{IsSafe, MayBeEarly, NamesEarly, NamesOnly, aliases_left, columns_in, is_full, is_safe, is_safe_condition, is_safe_join, join_alias}
use Rattle.sql_meaning.specs.From.{Joined, beside, fault_at, first_of, holds, joined, joined_rows, kept_of, nulls, pairs, source_rows, with_join}
use Rattle.sql_meaning.specs.Plans.{IsAt, IsEqualityJoin, IsFirst, IsPlan, NamesConjunct, NamesJoin, SelectsStand, Ways, conjuncts, conjuncts_of, early_at, early_in, indexed_in, is_indexed, planned_joins, planned_source_rows, try_early, with_index}
use Rattle.sql_meaning.specs.Profiles.{AreOfProfile, IsLawful, IsRowOfProfile}
use Rattle.sql_meaning.specs.Tables.{Base, RowsFit, columns_given, kinds_of, rows_from}
use Rattle.sql_meaning.specs.Values.{View, at_rows}
use Rattle.sql_meaning.specs.declared.plan.Early.{Early}
use Rattle.sql_meaning.specs.declared.plan.Indexed.{Indexed}
use Rattle.sql_meaning.proofs.EarlyTried.{Implied, conjuncts_implied, filter_two, joined_filtered, pairs_filtered}
use Rattle.sql_meaning.proofs.IndexedJoins.{index_same}
use Rattle.sql_meaning.proofs.LeftValues.{value_narrow}
use Rattle.sql_meaning.proofs.Lists.{under}
use Rattle.sql_meaning.proofs.Planned.{Same_refl, entries_here, equality_here, joins_by_index, next_behind}
use Rattle.sql_meaning.proofs.Profiled.{append_is, joined_are, source_is}
use Rattle.sql_meaning.proofs.SafeValues.{no_faults}
use Rattle.sql_meaning.proofs.RowKinds.{fits_beside}
use Rattle.sql_meaning.proofs.SourceKinds.{first_fits, from_fits, kinds_now, left_alone, pairs_all, source_added, table_fits}
use Rattle.sql_meaning.proofs.UpToOrder.{join_none}

-- ---- lists

last_one : {X : Type 0} (t : X → Bool) (xs : List X) (x : X) → (list_all t xs && t x) ≡ list_all t (xs ++ x ∷ [])
last_one t [] x = go (t x)
  where
    go : (d : Bool) → d ≡ (d && true)
    go true = refl
    go false = refl
last_one t (y ∷ xs) x = grouped (t y) (list_all t xs) (t x) ∙ ap (λ d. t y && d) (last_one t xs x)
  where
    grouped : (a d e : Bool) → ((a && d) && e) ≡ (a && (d && e))
    grouped true d e = refl
    grouped false d e = refl

taken_more : {X : Type 0} (n : ℕ) (xs : List X) (x : X) (rest : List X) → drop n xs ≡ x ∷ rest → take (suc n) xs ≡ take n xs ++ x ∷ []
taken_more zero [] x rest e = cc
taken_more zero (y ∷ xs) x rest e = let same : y ≡ x = cc in ap (λ z. z ∷ []) same
taken_more (suc n) [] x rest e = cc
taken_more (suc n) (y ∷ xs) x rest e = ap (λ l. y ∷ l) (taken_more n xs x rest e)

-- the item at a place, if there is one
one_at : {A : Type 0} (P : A → Type 0) (i : ℕ) (xs : List A) → AllByRecursion P xs → AllByRecursion P (take 1 (drop i xs))
one_at P zero [] all = tt
one_at P zero (x ∷ xs) all = (all.0, tt)
one_at P (suc i) [] all = tt
one_at P (suc i) (x ∷ xs) all = one_at P i xs all.1

first_at : {A : Type 0} (P : A → Type 0) (xs : List A) → IsFirst P xs → AllByRecursion P (take 1 xs)
first_at P [] h = tt
first_at P (x ∷ xs) h = (h, tt)

at_more : {A : Type 0} (P Q : A → Type 0) → ((x : A) → P x → Q x) → (xs : List A) → IsFirst P xs → IsFirst Q xs
at_more P Q h [] f = f
at_more P Q h (x ∷ xs) f = h x f

-- ---- entries of a place

module _ (s : SelectTree) where
  -- of the conjuncts that are tried before a join
  early_have : (P : Exp → Type 0) (n : ℕ) (early : List Early) → AllByRecursion P (conjuncts_of s.condition) → AllByRecursion P (early_at s early n)
  early_have P n [] all = tt
  early_have P n (e ∷ early) all = go (nat_eq e.join n) (early_have P n early all)
    where
      go : (d : Bool) → AllByRecursion P (early_at s early n) → AllByRecursion P (cond d (take 1 (drop e.conjunct (conjuncts_of s.condition))) [] ++ early_at s early n)
      go true ih = all_append P (take 1 (drop e.conjunct (conjuncts_of s.condition))) (early_at s early n) (one_at P e.conjunct (conjuncts_of s.condition) all) ih
      go false ih = ih

  early_name : (n : ℕ) (early : List Early) → AllByRecursion (MayBeEarly s) early → AllByRecursion (NamesOnly (aliases_left s n)) (early_at s early n)
  early_name n [] may = tt
  early_name n (e ∷ early) may = go (nat_eq e.join n) refl (early_name n early may.1)
    where
      go : (d : Bool) → nat_eq e.join n ≡ d → AllByRecursion (NamesOnly (aliases_left s n)) (early_at s early n) → AllByRecursion (NamesOnly (aliases_left s n)) (cond d (take 1 (drop e.conjunct (conjuncts_of s.condition))) [] ++ early_at s early n)
      go true q ih =
          all_append (NamesOnly (aliases_left s n)) (take 1 (drop e.conjunct (conjuncts_of s.condition))) (early_at s early n)
          (first_at (NamesOnly (aliases_left s n)) (drop e.conjunct (conjuncts_of s.condition)) (subst (λ m. IsFirst (NamesOnly (aliases_left s m)) (drop e.conjunct (conjuncts_of s.condition))) (eqb-true e.join n q) may.0.conjunct)) ih
      go false q ih = ih

  early_last : (n : ℕ) (early : List Early) → AllByRecursion (MayBeEarly s) early → (early_at s early n ≡ []) ⊎ AllByRecursion (λ j. is_full j ≡ false) (drop n s.joins)
  early_last n [] may = inl refl
  early_last n (e ∷ early) may = go (nat_eq e.join n) refl (early_last n early may.1)
    where
      go : (d : Bool) → nat_eq e.join n ≡ d → (early_at s early n ≡ []) ⊎ AllByRecursion (λ j. is_full j ≡ false) (drop n s.joins)
          → (cond d (take 1 (drop e.conjunct (conjuncts_of s.condition))) [] ++ early_at s early n ≡ []) ⊎ AllByRecursion (λ j. is_full j ≡ false) (drop n s.joins)
      go true q ih = inr (subst (λ m. AllByRecursion (λ j. is_full j ≡ false) (drop m s.joins)) (eqb-true e.join n q) may.0.lasting)
      go false q ih = ih

conjuncts_safe : (w : Exp) → is_safe w ≡ true → AllByRecursion (λ e. is_safe e ≡ true) (conjuncts w)
conjuncts_safe (tree.binary a op.And d) h =
    let two = and_parts (is_safe a) (is_safe d) h in
    all_append (λ e. is_safe e ≡ true) (conjuncts a) (conjuncts d) (conjuncts_safe a two.0) (conjuncts_safe d two.1)
conjuncts_safe e h = (h, tt)

-- ---- rows so far, cut by conjuncts

module _ (b : Base) (lawful : IsLawful b) where
  abbrev all_hold : Scope → List Exp → Row → Bool
  all_hold scope es r = list_all (λ e. holds (at_rows b scope) e r) es

  abbrev cut : List Exp → Joined → Joined
  cut es f = record { scope = f.scope; rows = filter (all_hold f.scope es) f.rows; fault = f.fault }

  record Stage (f : Joined) : Type 0 where
    fault : f.fault ≡ None
    fit : RowsFit (row_of f.scope) f.rows
    ranged : AreOfProfile b.settings f.rows

  cut_none : (f : Joined) → cut [] f ≡ f
  cut_none f = λ i. record { scope = f.scope; rows = filter_true f.rows i; fault = f.fault }

  tried : (es more : List Exp) (f : Joined) → Stage f → AllByRecursion (λ e. is_safe e ≡ true) more → fold (try_early (at_rows b f.scope)) (cut es f) more ≡ cut (es ++ more) f
  tried es [] f st safe = ap (λ l. cut l f) (sym (append-nil es))
  tried es (e ∷ more) f st safe =
      ap (λ g. fold (try_early (at_rows b f.scope)) g more) one
      ∙ tried (es ++ e ∷ []) more f st safe.1
      ∙ ap (λ l. cut l f) (append_assoc es (e ∷ []) more)
    where
      rows : filter (holds (at_rows b f.scope) e) (filter (all_hold f.scope es) f.rows) ≡ filter (all_hold f.scope (es ++ e ∷ [])) f.rows
      rows = filter_two (all_hold f.scope es) (holds (at_rows b f.scope) e) f.rows ∙ ap (λ t. filter t f.rows) (λ i r. last_one (λ x. holds (at_rows b f.scope) x r) es e i)

      fault : join f.fault (faults_by (fault_at (at_rows b f.scope) e) (filter (all_hold f.scope es) f.rows)) ≡ f.fault
      fault = ap (join f.fault) (no_faults b lawful.scale f.scope e safe.0 (filter (all_hold f.scope es) f.rows) (AllByRecursion-filter (IsRowOfProfile b.settings) (all_hold f.scope es) f.rows st.ranged)) ∙ join_none f.fault

      one : try_early (at_rows b f.scope) (cut es f) e ≡ cut (es ++ e ∷ []) f
      one = λ i. record { scope = f.scope; rows = rows i; fault = fault i }

  -- ---- a join of rows that are cut

  pairs_ranged : (rows : List Row) (s : Source) → AreOfProfile b.settings rows → AreOfProfile b.settings (pairs rows (rows_from b s))
  pairs_ranged rows s all =
      pairs_all (IsRowOfProfile b.settings) (IsRowOfProfile b.settings) (IsRowOfProfile b.settings) (λ x y. true) beside (λ x. x) (λ y. y) (append_is b.settings) (λ x h. h) (λ y h. h) rows (rows_from b s) all (source_is b lawful.ranged s)

  module _ (f : Joined) (st : Stage f) (s : Source) (known : IsSourceTyped b.tables f.scope s) where
    abbrev next : Scope
    next = with_source b.tables f.scope s

    abbrev theirs : List Kind
    theirs = kinds_of (columns_given b.tables s)

    -- conjuncts of the sources so far are true of a longer row where they are of its first part
    hold_same : (es : List Exp) → AllByRecursion (NamesOnly (keys_of f.scope)) es → (x y : Row) → fits_kinds (row_of f.scope) x ≡ true → fits_kinds (row_of f.scope ++ theirs) (x ++ y) ≡ true → all_hold next es (x ++ y) ≡ all_hold f.scope es x
    hold_same [] names x y h g = refl
    hold_same (e ∷ es) names x y h g =
        let added = source_added b.tables f.scope s known in
        let width : length (x ++ y) ≡ length (row_of (f.scope ++ (s.alias, columns_given b.tables s) ∷ [])) = fits_count (row_of f.scope ++ theirs) (x ++ y) g ∙ ap length (sym (kinds_now b lawful.fit f.scope s known) ∙ ap row_of added.1) in
        let one : holds (at_rows b next) e (x ++ y) ≡ holds (at_rows b f.scope) e x =
        ap (λ scope. holds (at_rows b scope) e (x ++ y)) added.1 ∙ ap is_true (value_narrow b f.scope ((s.alias, columns_given b.tables s) ∷ []) x y (fits_count (row_of f.scope) x h) width e names.0) in
        λ i. one i && hold_same es names.1 x y h g i

    beside_same : (es : List Exp) → AllByRecursion (NamesOnly (keys_of f.scope)) es → (x y : Row) → fits_kinds (row_of f.scope) x ≡ true → fits_kinds theirs y ≡ true → all_hold next es (x ++ y) ≡ all_hold f.scope es x
    beside_same es names x y h g = hold_same es names x y h (fits_beside (row_of f.scope) theirs x y h g)

    joined_cut : (kind : JoinKind) (e : Exp) (es : List Exp) → is_safe e ≡ true → is_full (tree.on kind s e) ≡ false → AllByRecursion (NamesOnly (keys_of f.scope)) es → with_join b (cut es f) (tree.on kind s e) ≡ cut es (with_join b f (tree.on kind s e))
    joined_cut kind e es safe full names =
        let v = at_rows b next in
        let n = length (row_of f.scope) in
        let m = length (columns_given b.tables s) in
        let mine = filter (all_hold f.scope es) f.rows in
        let rows : joined_rows kind (holds v e) n m mine (rows_from b s) ≡ filter (all_hold next es) (joined_rows kind (holds v e) n m f.rows (rows_from b s)) =
        joined_filtered (λ x. fits_kinds (row_of f.scope) x ≡ true) (λ y. fits_kinds theirs y ≡ true) (all_hold f.scope es) (all_hold next es) (λ x y. holds v e (x ++ y)) beside (λ x. x ++ nulls m) (λ y. nulls n ++ y)
        (beside_same es names) (λ x h. hold_same es names x (nulls m) h (left_alone b lawful.fit f.scope s known x h)) (rows_from b s) (table_fits b lawful.fit f.scope s known) kind f.rows full st.fit in
        let fault : faults_by (fault_at v e) (pairs mine (rows_from b s)) ≡ faults_by (fault_at v e) (pairs f.rows (rows_from b s)) =
        no_faults b lawful.scale next e safe (pairs mine (rows_from b s)) (pairs_ranged mine s (AllByRecursion-filter (IsRowOfProfile b.settings) (all_hold f.scope es) f.rows st.ranged))
        ∙ sym (no_faults b lawful.scale next e safe (pairs f.rows (rows_from b s)) (pairs_ranged f.rows s st.ranged)) in
        λ i. record { scope = next; rows = rows i; fault = join f.fault (fault i) }

    crossed_cut : (es : List Exp) → AllByRecursion (NamesOnly (keys_of f.scope)) es → with_join b (cut es f) (tree.cross s) ≡ cut es (with_join b f (tree.cross s))
    crossed_cut es names =
        let n = length (row_of f.scope) in
        let m = length (columns_given b.tables s) in
        let rows : pairs (filter (all_hold f.scope es) f.rows) (rows_from b s) ≡ filter (all_hold next es) (pairs f.rows (rows_from b s)) =
        pairs_filtered (λ x. fits_kinds (row_of f.scope) x ≡ true) (λ y. fits_kinds theirs y ≡ true) (all_hold f.scope es) (all_hold next es) (λ x y. true) beside (λ x. x ++ nulls m) (λ y. nulls n ++ y)
        (beside_same es names) (λ x h. hold_same es names x (nulls m) h (left_alone b lawful.fit f.scope s known x h)) (rows_from b s) (table_fits b lawful.fit f.scope s known) f.rows st.fit in
        λ i. record { scope = next; rows = rows i; fault = f.fault }

    -- the aliases so far, and that of this source
    keys_next : keys_of next ≡ keys_of f.scope ++ s.alias ∷ []
    keys_next = ap keys_of (source_added b.tables f.scope s known).1 ∙ map-append (λ (x : Text × List (Text × Kind)). x.0) f.scope ((s.alias, columns_given b.tables s) ∷ [])

    names_next : (es : List Exp) → AllByRecursion (NamesOnly (keys_of f.scope)) es → AllByRecursion (NamesOnly (keys_of next)) es
    names_next es names = under {P = NamesOnly (keys_of f.scope)} {Q = NamesOnly (keys_of next)} (λ e h. under {P = λ (x : Column). is_among x.source (keys_of f.scope) ≡ true} {Q = λ (x : Column). is_among x.source (keys_of next) ≡ true} (λ x g. ap (is_among x.source) keys_next ∙ more x.source (keys_of f.scope) g) (columns_in e) h) es names
      where
        more : (name : Text) (names : List Text) → is_among name names ≡ true → is_among name (names ++ s.alias ∷ []) ≡ true
        more name [] g = cc
        more name (y ∷ names) g = go (same_text name y) g (more name names)
          where
            go : (d : Bool) → (d || is_among name names) ≡ true → (is_among name names ≡ true → is_among name (names ++ s.alias ∷ []) ≡ true) → (d || is_among name (names ++ s.alias ∷ [])) ≡ true
            go true q ih = refl
            go false q ih = ih q

  -- ---- one join

  typed_source : (f : Joined) (j : JoinTree) (js : List JoinTree) → AreJoinsTyped b.settings b.tables f.scope (j ∷ js) → IsSourceTyped b.tables f.scope (join_source j)
  typed_source f j js h = h.0

  stage_next : (f : Joined) (j : JoinTree) (js : List JoinTree) → Stage f → AreJoinsTyped b.settings b.tables f.scope (j ∷ js) → is_safe_join j ≡ true → Stage (with_join b f j)
  stage_next f (tree.cross s) js st h safe = record {
    fault = st.fault;
    fit = from_fits b lawful.fit (tree.cross s ∷ []) f.scope f.rows f.fault (h.0, h.1, tt) st.fit;
    ranged = joined_are b lawful.ranged (tree.cross s ∷ []) f st.ranged;
  }
  stage_next f (tree.on kind s e) js st h safe = record {
    fault = (λ i. join (st.fault i) (no_faults b lawful.scale (with_source b.tables f.scope s) e safe (pairs f.rows (rows_from b s)) (pairs_ranged f.rows s st.ranged) i));
    fit = from_fits b lawful.fit (tree.on kind s e ∷ []) f.scope f.rows f.fault (h.0, h.1, tt) st.fit;
    ranged = joined_are b lawful.ranged (tree.on kind s e ∷ []) f st.ranged;
  }

  join_cut : (f : Joined) (j : JoinTree) (js : List JoinTree) (es : List Exp) → Stage f → AreJoinsTyped b.settings b.tables f.scope (j ∷ js) → is_safe_join j ≡ true → (es ≡ []) ⊎ (is_full j ≡ false) → AllByRecursion (NamesOnly (keys_of f.scope)) es
      → with_join b (cut es f) j ≡ cut es (with_join b f j)
  join_cut f j js es st h safe (inl e) names = subst (λ l. with_join b (cut l f) j ≡ cut l (with_join b f j)) (sym e) (ap (λ g. with_join b g j) (cut_none f) ∙ sym (cut_none (with_join b f j)))
  join_cut f (tree.cross s) js es st h safe (inr full) names = crossed_cut f st s h.0 es names
  join_cut f (tree.on kind s e) js es st h safe (inr full) names = joined_cut f st s h.0 kind e es safe full names

  scope_next : (f : Joined) (j : JoinTree) → (with_join b f j).scope ≡ with_source b.tables f.scope (join_source j)
  scope_next f (tree.cross s) = refl
  scope_next f (tree.on kind s e) = refl

  -- ---- all joins

  module _ (s : SelectTree) (indexed : List Indexed) (equal : AllByRecursion (λ i. IsAt IsEqualityJoin i.join s.joins) indexed) (early : List Early) (may : AllByRecursion (MayBeEarly s) early)
      (P : Exp → Type 0) (conjoined : AllByRecursion P (conjuncts_of s.condition)) (whole : AllByRecursion (λ e. is_safe e ≡ true) (conjuncts_of s.condition)) where
    abbrev Lasts : List Exp → List JoinTree → Type 0
    Lasts es js = (es ≡ []) ⊎ AllByRecursion (λ j. is_full j ≡ false) js

    both_last : (es new : List Exp) (js : List JoinTree) → Lasts es js → Lasts new js → Lasts (es ++ new) js
    both_last es new js (inl e) (inl g) = inl (λ i. e i ++ g i)
    both_last es new js (inr all) h = inr all
    both_last es new js (inl e) (inr all) = inr all

    here_last : (es : List Exp) (j : JoinTree) (js : List JoinTree) → Lasts es (j ∷ js) → (es ≡ []) ⊎ (is_full j ≡ false)
    here_last es j js (inl e) = inl e
    here_last es j js (inr all) = inr all.0

    then_last : (es : List Exp) (j : JoinTree) (js : List JoinTree) → Lasts es (j ∷ js) → Lasts es js
    then_last es j js (inl e) = inl e
    then_last es j js (inr all) = inr all.1

    -- the rows behind all joins are cut by some conjuncts
    record IsCut (g f : Joined) : Type 0 where
      by : List Exp
      same : g ≡ cut by f
      have : AllByRecursion P by

    record Ended (g f : Joined) : Type 0 where
      cutting : IsCut g f
      stage : Stage f

    by_index : (g : Joined) (j : JoinTree) (n : ℕ) → (is_indexed indexed n ≡ true → IsEqualityJoin j) → cond (is_indexed indexed n) (with_index b g j) (with_join b g j) ≡ with_join b g j
    by_index g j n h = go (is_indexed indexed n) refl
      where
        go : (t : Bool) → is_indexed indexed n ≡ t → cond t (with_index b g j) (with_join b g j) ≡ with_join b g j
        go true e = index_same b g j (h e)
        go false e = refl

    planned_cut : (js : List JoinTree) (n : ℕ) (f : Joined) (es : List Exp) → drop n s.joins ≡ js → keys_of f.scope ≡ aliases_left s n → Stage f → AreJoinsTyped b.settings b.tables f.scope js → AllByRecursion (λ j. is_safe_join j ≡ true) js
        → Lasts es js → AllByRecursion (NamesOnly (keys_of f.scope)) es → AllByRecursion P es → Ended (planned_joins b s indexed early n (cut es f) js) (fold (with_join b) f js)
    planned_cut [] n f es there keys st typed safe lasts names have = record { cutting = record { by = es; same = refl; have = have }; stage = st }
    planned_cut (j ∷ js) n f es there keys st typed safe lasts names have =
        let new = early_at s early n in
        let all = es ++ new in
        let v = at_rows b f.scope in
        let tries = fold (try_early v) (cut es f) new in
        let next = with_join b f j in
        let named : AllByRecursion (NamesOnly (keys_of f.scope)) all = all_append (NamesOnly (keys_of f.scope)) es new names (subst (λ ks. AllByRecursion (NamesOnly ks) new) (sym keys) (early_name s n early may)) in
        let lasting : Lasts all (j ∷ js) = both_last es new (j ∷ js) lasts (subst (λ l. Lasts new l) there (early_last s n early may)) in
        let step : cond (is_indexed indexed n) (with_index b tries j) (with_join b tries j) ≡ cut all next =
        by_index tries j n (λ e. equality_here s.joins n j js indexed there equal e)
        ∙ ap (λ g. with_join b g j) (tried es new f st (early_have s (λ e. is_safe e ≡ true) n early whole))
        ∙ join_cut f j js all st typed safe.0 (here_last all j js lasting) named in
        let added : keys_of next.scope ≡ keys_of f.scope ++ (join_source j).alias ∷ [] = ap keys_of (scope_next f j) ∙ keys_next f st (join_source j) (typed_source f j js typed) in
        let keyed : keys_of next.scope ≡ aliases_left s (suc n) =
        added ∙ ap (λ l. l ++ (join_source j).alias ∷ []) keys ∙ ap (λ l. s.source.alias ∷ l) (sym (map-append join_alias (take n s.joins) (j ∷ [])) ∙ ap (map join_alias) (sym (taken_more n s.joins j js there))) in
        let ih = planned_cut js (suc n) next all (next_behind n s.joins j js there) keyed (stage_next f j js st typed safe.0) (subst (λ scope. AreJoinsTyped b.settings b.tables scope js) (sym (scope_next f j)) typed.2) safe.1
        (then_last all j js lasting) (subst (λ scope. AllByRecursion (NamesOnly (keys_of scope)) all) (sym (scope_next f j)) (names_next f st (join_source j) (typed_source f j js typed) all named))
        (all_append P es new have (early_have s P n early conjoined)) in
        record {
          cutting = record { by = ih.cutting.by; same = ap (λ g. planned_joins b s indexed early (suc n) g js) step ∙ ih.cutting.same; have = ih.cutting.have };
          stage = ih.stage;
        }

  -- ---- a select

  -- what a condition that holds asks of a conjunct; without a condition there is none
  abbrev ImpliedBy : View → Option Exp → Exp → Type 0
  ImpliedBy v None e = ⊥
  ImpliedBy v (Some w) e = Implied v w e

  all_implied : (v : View) (w : Option Exp) → AllByRecursion (ImpliedBy v w) (conjuncts_of w)
  all_implied v None = tt
  all_implied v (Some w) = conjuncts_implied v w

  all_safe : (w : Option Exp) → is_safe_condition w ≡ true → AllByRecursion (λ e. is_safe e ≡ true) (conjuncts_of w)
  all_safe None h = tt
  all_safe (Some w) h = conjuncts_safe w h

  implied_all : (scope : Scope) (w : Exp) (es : List Exp) → AllByRecursion (Implied (at_rows b scope) w) es → (r : Row) → holds (at_rows b scope) w r ≡ true → all_hold scope es r ≡ true
  implied_all scope w [] all r h = refl
  implied_all scope w (e ∷ es) all r h = λ i. all.0 r h i && implied_all scope w es all.1 r h i

  kept_cut : (w : Option Exp) (f : Joined) (es : List Exp) → Stage f → is_safe_condition w ≡ true → AllByRecursion (ImpliedBy (at_rows b f.scope) w) es → kept_of b w (cut es f) ≡ kept_of b w f
  kept_cut None f [] st safe all = ap (kept_of b None) (cut_none f)
  kept_cut None f (e ∷ es) st safe all = absurd all.0
  kept_cut (Some w) f es st safe all =
      let v = at_rows b f.scope in
      let mine = filter (all_hold f.scope es) f.rows in
      let fault : faults_by (fault_at v w) mine ≡ faults_by (fault_at v w) f.rows =
      no_faults b lawful.scale f.scope w safe mine (AllByRecursion-filter (IsRowOfProfile b.settings) (all_hold f.scope es) f.rows st.ranged) ∙ sym (no_faults b lawful.scale f.scope w safe f.rows st.ranged) in
      let rows : filter (holds v w) mine ≡ filter (holds v w) f.rows = filter_implied (all_hold f.scope es) (holds v w) (implied_all f.scope w es all) f.rows in
      λ i. unless (join f.fault (fault i)) (rows i)

  pub select_early : (s : SelectTree) (indexed : List Indexed) (early : List Early) → AllByRecursion (λ i. IsAt IsEqualityJoin i.join s.joins) indexed → AllByRecursion (MayBeEarly s) early → IsSafe s → IsSelectTyped b.settings b.tables s
      → planned_source_rows b s indexed early ≡ source_rows b s
  select_early s indexed early equal may safe typed =
      let first = first_of b s.source in
      let F = joined b s in
      let P = ImpliedBy (at_rows b F.scope) s.condition in
      let start : Stage first = record { fault = refl; fit = first_fits b lawful.fit s.source typed.source; ranged = source_is b lawful.ranged s.source } in
      let keyed : keys_of first.scope ≡ aliases_left s 0 = ap keys_of (source_added b.tables [] s.source typed.source).1 in
      let ended = planned_cut s indexed equal early may P (all_implied (at_rows b F.scope) s.condition) (all_safe s.condition safe.condition) s.joins 0 first [] refl keyed start typed.joins safe.joins (inl refl) tt tt in
      ap (λ g. kept_of b s.condition (planned_joins b s indexed early 0 g s.joins)) (sym (cut_none first))
      ∙ ap (kept_of b s.condition) ended.cutting.same
      ∙ kept_cut s.condition F ended.cutting.by ended.stage safe.condition ended.cutting.have

-- ---- a query

early_named : (q : QueryTree) (es : List Early) → AllByRecursion (NamesEarly q) es → AllByRecursion (NamesConjunct q) es
early_named q [] all = tt
early_named q (e ∷ es) all = (
  at_more (λ s. MayBeEarly s e) (λ s. IsAt (λ j. Unit {0}) e.join s.joins × IsAt (λ x. Unit {0}) e.conjunct (conjuncts_of s.condition))
      (λ s h. (h.join, at_more (NamesOnly (aliases_left s e.join)) (λ x. Unit {0}) (λ x g. tt) (drop e.conjunct (conjuncts_of s.condition)) h.conjunct)) (drop e.select q) all.0,
  early_named q es all.1,
)

pub chosen_stands : (q : QueryTree) (w : Ways) → AllByRecursion (NamesJoin q) w.indexed → AllByRecursion (NamesEarly q) w.early → IsPlan q w
chosen_stands q w indexes earlies = record { indexed = indexes; early = early_named q w.early earlies; stands = each 0 q refl }
  where
    each : (n : ℕ) (ss : QueryTree) → drop n q ≡ ss → SelectsStand w n ss
    each n [] there = tt
    each n (s ∷ ss) there =
        let equal : AllByRecursion (λ i. IsAt IsEqualityJoin i.join s.joins) (indexed_in w n) = entries_here (λ (i : Indexed). i.select) (λ t i. IsAt IsEqualityJoin i.join t.joins) q n s ss w.indexed there indexes in
        let may : AllByRecursion (MayBeEarly s) (early_in w n) = entries_here (λ (e : Early). e.select) (λ t e. MayBeEarly t e) q n s ss w.early there earlies in
        ((λ b lawful typed. subst (λ m. Same m (source_rows b s)) (sym (source b lawful typed (indexed_in w n) equal (early_in w n) may)) (Same_refl (source_rows b s))), each (suc n) ss (next_behind n q s ss there))
      where
        source : (b : Base) → IsLawful b → IsSelectTyped b.settings b.tables s → (indexed : List Indexed) → AllByRecursion (λ i. IsAt IsEqualityJoin i.join s.joins) indexed → (early : List Early) → AllByRecursion (MayBeEarly s) early → planned_source_rows b s indexed early ≡ source_rows b s
        source b lawful typed indexed equal [] may = ap (kept_of b s.condition) (joins_by_index b s indexed equal s.joins 0 (first_of b s.source) refl)
        source b lawful typed indexed equal (e ∷ early) may = select_early b lawful s indexed (e ∷ early) equal may may.0.safe typed
