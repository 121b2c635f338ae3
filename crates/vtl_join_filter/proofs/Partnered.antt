-- Rows that are not found behind those in front need not be asked.
use Rattle.std.proofs.Common.{◌≡◌, ℕ, ◌<◌, Bool, true, false, not, ◌&&◌, ◌||◌, cond, List, [], ◌∷◌, ◌++◌, length, map, None, Result, Ok, Err, Some, Option, append_assoc, refl, sym, ap, ◌∙◌, subst, arith, true≢false}
use Rattle.std.specs.Prelude.{IfOk, IfSome, slice_index}
use Rattle.std.specs.List.{AllByRecursion, filter, flat_map}
use Rattle.std.proofs.Math.ListN.{get_or-append}
use Rattle.std.proofs.lemmas.List.{append-nil, get_or_at, map-append}
use Rattle.vtl_decimal.specs.Settings.{Settings}
use Rattle.vtl_cell.specs.Outcome.{fault_in, join}
use Rattle.vtl_cell.specs.Outcomes.{is_true}
use Rattle.vtl_cell.specs.Row.{Row, column_of, same_row}
use Rattle.vtl_cell.proofs.Rows.{same_row-refl}
use Rattle.vtl_rows.specs.Gathered.{part_at, picked_cell}
use Rattle.vtl_rows.specs.Places.{row_at}
use Rattle.vtl_index.specs.RowIndex.{RowLookup, found_rows}
use Rattle.vtl_index.specs.RowKeys.{has_null, key_at}
use Rattle.vtl_index.specs.declared.row_keys.KeyColumn.{KeyColumn}
use Rattle.vtl_index.specs.declared.row_keys.NullKeys.TheVariants.{NotFound}
use Rattle.vtl_tree.specs.Clauses.{kept}
use Rattle.vtl_tree.specs.CompExp.{CompExp}
use Rattle.vtl_tree.specs.Value.{value}
use Rattle.vtl_tree.proofs.Faults.{join_none}
use Rattle.vtl_tuples.specs.Tuples.{combinations}
use Rattle.vtl_tuples.proofs.Lists.{filter_nothing, map-map}
use Rattle.vtl_expr.specs.Prepared.{prepared_exp}
use Rattle.vtl_clause.specs.Walks.{fault_over}
use Rattle.vtl_join.specs.Crossing.{tuples_behind, up_to}
use Rattle.vtl_join.specs.Gatherings.{point_of}
use Rattle.vtl_join_filter.specs.Partners.{AreEnough, AreOneKey, HasNoFault, IsPairBetween, IsPartner, asked_column, is_true_at, own_column, points_behind}
use Rattle.vtl_join_filter.specs.Sifting.{Sifted, asked_of, sifted}
use Rattle.vtl_join_filter.specs.declared.keys.KeyPair.{KeyPair}
use Rattle.vtl_join_filter.specs.declared.partners.Partner.{Partner}
use Rattle.vtl_join_filter.specs.declared.sieve.Asked.{Asked}
use Rattle.vtl_join_filter.proofs.Sifts.{sifted_more}

-- ---- points at which the condition is not true, and has no fault
module _ (p : Settings) (e : CompExp) where
  pub record Passes (r : Row) : Type 0 where
    pub untrue : is_true (value p e r) ≡ false
    pub sound : fault_in (value p e r) ≡ None

  none_kept : (rows : List Row) → AllByRecursion Passes rows → kept p e rows ≡ []
  none_kept [] h = refl
  none_kept (r ∷ rows) h = ap (λ b. cond b (r ∷ kept p e rows) (kept p e rows)) h.0.untrue ∙ none_kept rows h.1

  none_faulty : (rows : List Row) → AllByRecursion Passes rows → fault_over p e rows ≡ None
  none_faulty [] h = refl
  none_faulty (r ∷ rows) h = ap (λ f. join f (fault_over p e rows)) h.0.sound ∙ none_faulty rows h.1

  nothing_found : (rows : List Row) (s : Sifted) → AllByRecursion Passes rows → sifted p e s rows ≡ s
  nothing_found rows s h =
      let kept_rows = ap (λ l. s.rows ++ l) (none_kept rows h) ∙ append-nil s.rows in
      let fault = ap (join s.fault) (none_faulty rows h) ∙ join_none s.fault in
      λ i. record { rows = kept_rows i; fault = fault i }

  pub all_pass : {X : Type 0} (f : X → Row) (xs : List X) → ((x : X) → Passes (f x)) → AllByRecursion Passes (map f xs)
  all_pass f [] h = tt
  all_pass f (x ∷ xs) h = (h x, all_pass f xs h)

  -- the points of numbers that do not pass a test need not be asked
  module _ (point : List ℕ → Row) (f : ℕ → List (List ℕ)) (q : ℕ → Bool) (rest_pass : (n : ℕ) → q n ≡ false → AllByRecursion Passes (map point (f n))) where
    parts : (s : Sifted) (xs ys : List (List ℕ)) → sifted p e s (map point (xs ++ ys)) ≡ sifted p e (sifted p e s (map point xs)) (map point ys)
    parts s xs ys = ap (sifted p e s) (map-append point xs ys) ∙ sym (sifted_more p e s (map point xs) (map point ys))

    pub enough : (ns : List ℕ) (s : Sifted) → sifted p e s (map point (flat_map f (filter q ns))) ≡ sifted p e s (map point (flat_map f ns))
    enough [] s = refl
    enough (n ∷ ns) s = go (q n) refl (λ t. enough ns t)
      where
        go : (b : Bool) → q n ≡ b → ((t : Sifted) → sifted p e t (map point (flat_map f (filter q ns))) ≡ sifted p e t (map point (flat_map f ns)))
            → sifted p e s (map point (flat_map f (cond b (n ∷ filter q ns) (filter q ns)))) ≡ sifted p e s (map point (f n ++ flat_map f ns))
        go true h ih = parts s (f n) (flat_map f (filter q ns)) ∙ ih (sifted p e s (map point (f n))) ∙ sym (parts s (f n) (flat_map f ns))
        go false h ih =
            ih s ∙ ap (λ t. sifted p e t (map point (flat_map f ns))) (sym (nothing_found (map point (f n)) s (rest_pass n h))) ∙ sym (parts s (f n) (flat_map f ns))

-- ---- keys of cells that are one in keys
module _ (p : Settings) (asked own : Row) where
  abbrev pub Pairs : List KeyPair → Type 0
  Pairs = AllByRecursion (λ x. AreOneKey p x.form (column_of x.asked.column asked) (column_of x.own.column own))

  none_null : (xs : List KeyPair) → Pairs xs → has_null (key_at p (map asked_column xs) asked) ≡ false
  none_null [] h = refl
  none_null (x ∷ xs) h = ap (λ b. b || has_null (key_at p (map asked_column xs) asked)) h.0.1 ∙ none_null xs h.1

  same_keys : (xs : List KeyPair) → Pairs xs → key_at p (map asked_column xs) asked ≡ key_at p (map own_column xs) own
  same_keys [] h = refl
  same_keys (x ∷ xs) h = λ i. h.0.0 i ∷ same_keys xs h.1 i

  pub key_found : (xs : List KeyPair) → Pairs xs → (not (has_null (key_at p (map asked_column xs) asked)) && same_row (key_at p (map own_column xs) own) (key_at p (map asked_column xs) asked)) ≡ true
  key_found xs h =
      let key = key_at p (map asked_column xs) asked in
      (λ i. not (none_null xs h i) && same_row (sym (same_keys xs h) i) key) ∙ same_row-refl key

-- ---- tuples that go on with a number
number_in_front : (f t : List ℕ) (n part : ℕ) → part < length f → slice_index ((f ++ n ∷ []) ++ t) part ≡ slice_index f part
number_in_front f t n part within = ap (λ l. slice_index l part) (append_assoc f (n ∷ []) t) ∙ get_or-append f (n ∷ t) 0 part within

number_behind : (f t : List ℕ) (n part : ℕ) → length f ≡ part → slice_index ((f ++ n ∷ []) ++ t) part ≡ n
number_behind f t n part e = ap (λ l. slice_index l part) (append_assoc f (n ∷ []) t) ∙ get_or_at f n t 0 part e

found_is : (b : Bool) (t : ℕ → Bool) (ns : List ℕ) → cond b (filter t ns) [] ≡ filter (λ n. b && t n) ns
found_is true t ns = refl
found_is false t ns = sym (filter_nothing ns)

-- ---- a look-up by all pairs of two operands
module _ (a : Asked) (front last : ℕ) (asking rows : List Row) (xs : List KeyPair) (sound : HasNoFault a) (all : AllByRecursion (IsPairBetween a front last) xs) (asks : asking ≡ (part_at a.gathering.parts front).rows) (has : rows ≡ (part_at a.gathering.parts last).rows) where
  abbrev p : Settings
  p = a.profile.now

  abbrev e : CompExp
  e = prepared_exp a.condition

  abbrev lookup : RowLookup
  lookup = record { rows = rows; key = map own_column xs; nulls = NotFound; p = p }

  abbrev asked_key : List ℕ → Row
  asked_key f = key_at p (map asked_column xs) (row_at asking (slice_index f front))

  abbrev passes : List ℕ → ℕ → Bool
  passes f n = not (has_null (asked_key f)) && same_row (key_at p (map own_column xs) (row_at rows n)) (asked_key f)

  module _ (f t : List ℕ) (n : ℕ) (wide : length f ≡ last) where
    abbrev tuple : List ℕ
    tuple = (f ++ n ∷ []) ++ t

    cell_asked : (x : KeyPair) → IsPairBetween a front last x → picked_cell a.gathering.parts tuple x.asked ≡ column_of x.asked.column (row_at asking (slice_index f front))
    cell_asked x h =
        let before = h.pair.before in
        let one = h.asked in
        let two = h.own in
        let within : front < length f = omega (arith, before, one, two, wide) in
        ap (λ k. column_of x.asked.column (row_at (part_at a.gathering.parts k).rows (slice_index tuple k))) h.asked
        ∙ (λ i. column_of x.asked.column (row_at (sym asks i) (number_in_front f t n front within i)))

    cell_own : (x : KeyPair) → IsPairBetween a front last x → picked_cell a.gathering.parts tuple x.own ≡ column_of x.own.column (row_at rows n)
    cell_own x h =
        ap (λ k. column_of x.own.column (row_at (part_at a.gathering.parts k).rows (slice_index tuple k))) h.own
        ∙ (λ i. column_of x.own.column (row_at (sym has i) (number_behind f t n last wide i)))

    meeting : is_true_at a tuple ≡ true → (ys : List KeyPair) → AllByRecursion (IsPairBetween a front last) ys → Pairs p (row_at asking (slice_index f front)) (row_at rows n) ys
    meeting is [] h = tt
    meeting is (x ∷ ys) h =
        let v = column_of x.asked.column (row_at asking (slice_index f front)) in
        let one = h.0.pair.meet tuple is in
        (subst (λ w. AreOneKey p x.form v w) (cell_own x h.0) (subst (λ u. AreOneKey p x.form u (picked_cell a.gathering.parts tuple x.own)) (cell_asked x h.0) one), meeting is ys h.1)

    others_pass : passes f n ≡ false → Passes p e (point_of a.gathering tuple)
    others_pass h = record { untrue = go (is_true_at a tuple) refl; sound = sound (point_of a.gathering tuple) }
      where
        go : (b : Bool) → is_true_at a tuple ≡ b → b ≡ false
        go false is = refl
        go true is = absurd (true≢false (sym (key_found p (row_at asking (slice_index f front)) (row_at rows n) xs (meeting is xs all)) ∙ h))

  enough_behind : (f : List ℕ) → length f ≡ last → AreEnough a f (length rows) (found_rows lookup (asked_key f))
  enough_behind f wide rest s =
      let ns = up_to (length rows) in
      ap (λ found. asked_of a s (points_behind a f rest found)) (found_is (not (has_null (asked_key f))) (λ n. same_row (key_at p (map own_column xs) (row_at rows n)) (asked_key f)) ns)
      ∙ enough p e (point_of a.gathering) (λ n. tuples_behind (f ++ n ∷ []) rest) (passes f)
      (λ n h. subst (AllByRecursion (Passes p e)) (sym (map-map (point_of a.gathering) (λ t. (f ++ n ∷ []) ++ t) (combinations (map up_to rest))))
      (all_pass p e (λ t. point_of a.gathering ((f ++ n ∷ []) ++ t)) (combinations (map up_to rest)) (λ t. others_pass f t n wide h)))
      ns s

  pub is_partner : (x : Partner) → x.part ≡ last → x.index ≡ lookup → x.front ≡ front → x.asking.now.rows ≡ asking → x.at.items ≡ map asked_column xs → IsPartner a x
  is_partner x part index before asker at = record {
    enough = λ f wide.
        let Enough : RowLookup → List KeyColumn → List Row → ℕ → Type 0 = λ ix columns rs k. AreEnough a f (length ix.rows) (found_rows ix (key_at ix.p columns (row_at rs (slice_index f k)))) in
        subst (λ ix. Enough ix x.at.items x.asking.now.rows x.front) (sym index)
        (subst (λ columns. Enough lookup columns x.asking.now.rows x.front) (sym at)
        (subst (λ rs. Enough lookup (map asked_column xs) rs x.front) (sym asker)
        (subst (λ k. Enough lookup (map asked_column xs) asking k) (sym before) (enough_behind f (wide ∙ part)))));
  }

-- ---- what is found, if something is
pub if_found : {A E : Type 0} (P Q : A → Type 0) (r : Result (Option A) E) → ((x : A) → P x → Q x) → IfOk r (λ o. IfSome o P) → IfOk r (λ o. IfSome o Q)
if_found P Q (Ok None) f h = h
if_found P Q (Ok (Some x)) f h = f x h
if_found P Q (Err e) f h = h
