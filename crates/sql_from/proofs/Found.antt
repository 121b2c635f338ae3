-- What a look-up finds is what a conjunction of equalities keeps.
use Rattle.std.proofs.Common.{◌≡◌, ℕ, zero, suc, ◌+◌, ◌-◌, ◌<◌, ◌≤◌, Bool, true, false, cond, not, ◌&&◌, ◌||◌, List, [], ◌∷◌, length, map, Some, None, refl, sym, ap, ◌∙◌, subst, true≢false, arith}
use Rattle.std.specs.Prelude.{◌==◌, slice_get, slice_index}
use Rattle.std.specs.List.{AllByRecursion, filter, list_all, list_any}
use Rattle.vtl_lists.proofs.Filters.{filter_implied}
use Rattle.vtl_cell.specs.Outcome.{fault_in}
use Rattle.vtl_cell.specs.Row.{Row, same_row}
use Rattle.vtl_decimal.specs.Settings.{Settings}
use Rattle.vtl_rows.specs.Gathered.{part_at}
use Rattle.vtl_rows.specs.Places.{row_at}
use Rattle.vtl_rows.specs.Tables.{Listed, listed}
use Rattle.vtl_index.specs.Matches.{Matched, matched}
use Rattle.vtl_index.specs.RowIndex.{RowLookup, found_rows}
use Rattle.vtl_index.specs.RowKeys.{has_null, key_at}
use Rattle.vtl_index.specs.declared.row_keys.NullKeys.TheVariants.{NotFound}
use Rattle.vtl_rows.specs.Named.{NamedTables}
use Rattle.vtl_rows.proofs.Placed.{all_places}
use Rattle.sql_tree.specs.Trees.{Exp}
use Rattle.sql_eval.specs.Placed.{has_partner, is_tied}
use Rattle.sql_meaning.specs.Profiles.{AreOfProfile, IsLawful, IsRowOfProfile}
use Rattle.sql_eval.specs.Origins.{rows_at}
use Rattle.sql_from.specs.Held.{IsHeld, base_held, rows_held}
use Rattle.sql_from.specs.Joins.{Test, numbers_to, passes, with_number}
use Rattle.sql_from.specs.Conditions.{conditions_at}
use Rattle.sql_from.specs.Keys.{AllImplied, AllPaired, all_paired, asked_columns, last_of, linked_count, own_columns, row_in}
use Rattle.sql_from.specs.Lookups.{Finds, IsKeyed, found_of}
use Rattle.sql_from.specs.declared.key_lookup.JoinLookup.{JoinLookup}
use Rattle.sql_from.specs.Partners.{Answers, AreTiedBy, AreTiesImplying, is_partner, partners_at}
use Rattle.sql_from.specs.Rows.{combined}
use Rattle.sql_from.specs.Sources.{Sourced, parts_of}
use Rattle.sql_from.specs.Standing.{condition_at}
use Rattle.sql_from.specs.declared.key_lookup.KeyLookup.{KeyLookup}
use Rattle.sql_from.specs.declared.partner_index.PartnerIndex.{PartnerIndex}
use Rattle.sql_from.specs.declared.key_pairs.KeyPair.{KeyPair}
use Rattle.sql_from.proofs.Equalities.{same_keys}
use Rattle.sql_from.proofs.Marks.{other_number}
use Rattle.sql_from.proofs.GivenTables.{origin_ranged}
use Rattle.sql_from.proofs.Turned.{turns_sound, turns_true}

pub ranged_row : (p : Settings) (rows : List Row) → AreOfProfile p rows → (i : ℕ) → IsRowOfProfile p (row_at rows i)
ranged_row p [] all i = tt
ranged_row p (r ∷ rows) all zero = all.0
ranged_row p (r ∷ rows) all (suc i) = ranged_row p rows all.1 i

none_kept : (js : List ℕ) → filter (λ j. false) js ≡ []
none_kept [] = refl
none_kept (j ∷ js) = none_kept js

module _ (p : Settings) (small : p.scale ≤ 9) (rows : List Row) (theirs : AreOfProfile p rows) (asked : Row) (asked_is : IsRowOfProfile p asked) (keys : List KeyPair) where
  abbrev key : Row
  key = key_at p (asked_columns keys) asked

  abbrev own_key : ℕ → Row
  own_key j = key_at p (own_columns keys) (row_at rows j)

  abbrev index : RowLookup
  index = record { rows = rows; key = own_columns keys; nulls = NotFound; p = p }

  pub found_is : (t : ℕ → Bool) → ((j : ℕ) → t j ≡ all_paired p (row_at rows j) asked keys) → found_rows index key ≡ filter t (numbers_to (length rows))
  found_is t h = go (has_null key) (λ j. h j ∙ same_keys p small (row_at rows j) asked (ranged_row p rows theirs j) asked_is keys)
    where
      go : (b : Bool) → ((j : ℕ) → t j ≡ (not b && same_row (own_key j) key)) → cond (not b) (filter (λ j. same_row (own_key j) key) (numbers_to (length rows))) [] ≡ filter t (numbers_to (length rows))
      go true e = sym (ap (λ f. filter f (numbers_to (length rows))) (λ i j. e j i) ∙ none_kept (numbers_to (length rows)))
      go false e = ap (λ f. filter f (numbers_to (length rows))) (λ i j. sym (e j) i)

-- ---- what is found of one tuple
pub any_kept : (t : ℕ → Bool) (js : List ℕ) → list_any t js ≡ not (length (filter t js) == 0)
any_kept t [] = refl
any_kept t (j ∷ js) = go (t j) (any_kept t js)
  where
    go : (b : Bool) → list_any t js ≡ not (length (filter t js) == 0) → (b || list_any t js) ≡ not (length (cond b (j ∷ filter t js) (filter t js)) == 0)
    go true e = sym (ap not (other_number (length (j ∷ filter t js)) 0 (λ s. omega (arith, s))))
    go false e = e

-- ---- tables that are held
pub ranged : (p : Settings) (held : NamedTables) → IsLawful (base_held p held) → (t : Listed) → IsHeld held t → AreOfProfile p t.rows
ranged p held lawful t h = h p lawful.ranged

got_part : (ts : List Listed) (i : ℕ) (t : Listed) → slice_get ts i ≡ Some t → part_at ts i ≡ t
got_part [] i t e = cc
got_part (u ∷ ts) zero t e = cc
got_part (u ∷ ts) (suc i) t e = got_part ts i t e

-- how many rows the source that leads and the last one have
pub linked_rows : (s : Sourced) (lead n : ℕ) (own table : Listed) → lead ≡ n → slice_get (parts_of s.sources) (length s.sources - 1) ≡ Some own → slice_get (parts_of s.sources) lead ≡ Some table → length table.rows + length own.rows ≡ linked_count s n
linked_rows s lead n own table same own_got table_got =
    let last = got_part (parts_of s.sources) (length s.sources - 1) own own_got in
    let first = got_part (parts_of s.sources) lead table table_got in
    (λ i. length (sym first i).rows + length (sym last i).rows) ∙ ap (linked_count s) same

-- what is found by a look-up of a table's rows
module _ (p : Settings) (own : Listed) (lead : ℕ) (table : Listed) (keys : List KeyPair) (l : KeyLookup) (keyed : IsKeyed own lead table keys p l) (small : p.scale ≤ 9) (own_is : AreOfProfile p own.rows) (table_is : AreOfProfile p table.rows) where
  keyed_finds : (number : ℕ) (t : ℕ → Bool) → ((j : ℕ) → t j ≡ all_paired p (row_at own.rows j) (row_at table.rows number) keys) → matched l.matches number ≡ filter t (numbers_to (length own.rows))
  keyed_finds number t h =
      ap (λ (m : Matched). matched m number) keyed.matches_are
      ∙ found_is p small own.rows own_is (row_at table.rows number) (ranged_row p table.rows table_is number) keys t h

-- ---- the look-up of conditions

module _ (p : Settings) (s : Sourced) (es : List Exp) (l : JoinLookup) (lead : ℕ) (own table : Listed) (keys : List KeyPair)
    (lawful : IsLawful (base_held p s.held)) (within : lead + 1 < length s.sources) (own_got : slice_get (parts_of s.sources) (length s.sources - 1) ≡ Some own) (own_held : IsHeld s.held own)
    (table_got : slice_get (parts_of s.sources) lead ≡ Some table) (table_held : IsHeld s.held table) (keyed : IsKeyed own lead table keys p l.keys) where
  abbrev f : Test
  f = conditions_at p s es

  last_is : last_of s ≡ own
  last_is = got_part (parts_of s.sources) (length s.sources - 1) own own_got

  lead_is : part_at (parts_of s.sources) lead ≡ table
  lead_is = got_part (parts_of s.sources) lead table table_got

  pub count_is : l.keys.count ≡ length (last_of s).rows
  count_is = keyed.count_is ∙ ap (λ (t : Listed). length t.rows) (sym last_is)

  -- the columns of the key are equal
  abbrev is_found : List ℕ → ℕ → Bool
  is_found front j = all_paired p (row_at own.rows j) (row_at table.rows (slice_index front lead)) keys

  found_is_key : (front : List ℕ) → found_of l front ≡ filter (is_found front) (numbers_to l.keys.count)
  found_is_key front =
      ap (λ n. matched l.keys.matches (slice_index front n)) keyed.lead_is
      ∙ keyed_finds p own lead table keys l.keys keyed lawful.scale (ranged p s.held lawful own own_held) (ranged p s.held lawful table table_held) (slice_index front lead) (is_found front) (λ j. refl)
      ∙ ap (λ n. filter (is_found front) (numbers_to n)) (sym keyed.count_is)

  in_sources : (front : List ℕ) (j : ℕ) → all_paired p (row_at (last_of s).rows j) (row_in s lead front) keys ≡ is_found front j
  in_sources front j = λ i. all_paired p (row_at (last_is i).rows j) (row_at (lead_is i).rows (slice_index front lead)) keys

  pub lookup_finds : ((x : List ℕ) → AllByRecursion (λ e. fault_in (condition_at p s e x) ≡ None) es) → AllImplied s lead es keys → (l.is_whole ≡ true → AllPaired s lead es keys) → Finds (length s.sources) f l
  lookup_finds sound implied paired = record {
    lead = subst (λ n. n + 1 < length s.sources) (sym keyed.lead_is) within;
    sound = λ front last whole. turns_sound p s es (with_number front last) (sound (with_number front last));
    found = λ front whole.
        ap (filter (passes f front)) (found_is_key front)
        ∙ filter_implied (is_found front) (passes f front) (λ j h. sym (in_sources front j) ∙ implied p front j whole (sym (turns_true p s es (with_number front j)) ∙ h)) (numbers_to l.keys.count);
    whole = λ all front whole.
        found_is_key front
        ∙ ap (λ (t : ℕ → Bool). filter t (numbers_to l.keys.count)) (λ i j. (sym (in_sources front j) ∙ sym (paired all p front j whole) ∙ sym (turns_true p s es (with_number front j))) i);
  }

-- ---- the look-up of the partners of EXISTS
pub any_numbered : (t : Row → Bool) (rows : List Row) (js : List ℕ) → list_any (λ j. t (row_at rows j)) js ≡ list_any t (map (row_at rows) js)
any_numbered t rows [] = refl
any_numbered t rows (j ∷ js) = ap (λ b. t (row_at rows j) || b) (any_numbered t rows js)

-- a stronger test is true somewhere among what a weaker one keeps, if it is true somewhere
any_implied : {X : Type 0} (t u : X → Bool) → ((x : X) → u x ≡ true → t x ≡ true) → (xs : List X) → list_any u (filter t xs) ≡ list_any u xs
any_implied t u h [] = refl
any_implied t u h (x ∷ xs) = go (t x) (u x) refl refl (any_implied t u h xs)
  where
    go : (d e : Bool) → t x ≡ d → u x ≡ e → list_any u (filter t xs) ≡ list_any u xs → list_any u (cond d (x ∷ filter t xs) (filter t xs)) ≡ (e || list_any u xs)
    go true e p q ih = λ i. q i || ih i
    go false true p q ih = absurd (true≢false (sym (h x q) ∙ p))
    go false false p q ih = ih

module _ (s : Sourced) (x : PartnerIndex) (lead : ℕ) (table : Listed) (keys : List KeyPair)
    (lawful : IsLawful (base_held x.p s.held)) (within : lead < length s.sources) (own_rows : rows_at (rows_held s.held) x.table ≡ x.rows.now.rows)
    (table_got : slice_get (parts_of s.sources) lead ≡ Some table) (table_held : IsHeld s.held table) (keyed : IsKeyed (listed x.rows.now) lead table keys x.p x.keys) where
  abbrev own : List Row
  own = x.rows.now.rows

  own_ranged : AreOfProfile x.p own
  own_ranged = subst (AreOfProfile x.p) own_rows (origin_ranged x.p s.held x.table lawful.ranged)

  abbrev numbers : List ℕ
  numbers = numbers_to (length own)

  -- a row of the table makes each equality true
  abbrev is_tied_to : List ℕ → ℕ → Row → Bool
  is_tied_to front last inner = list_all (is_tied x.p (combined (parts_of s.sources) (with_number front last)) inner) x.ties.items

  partner_among : (front : List ℕ) (last : ℕ) → has_partner x.p (rows_held s.held) x.table x.ties.items (combined (parts_of s.sources) (with_number front last)) ≡ list_any (is_partner s x front last) numbers
  partner_among front last =
      ap (list_any (is_tied_to front last)) own_rows
      ∙ sym (any_numbered (is_tied_to front last) own numbers ∙ ap (list_any (is_tied_to front last)) (all_places own))

  -- the columns of the key are equal
  abbrev has_key : List ℕ → ℕ → ℕ → Bool
  has_key front last j = all_paired x.p (row_at own j) (row_at table.rows (slice_index (with_number front last) lead)) keys

  partners_by_key : (front : List ℕ) (last : ℕ) → partners_at x front last ≡ filter (has_key front last) numbers
  partners_by_key front last =
      ap (λ n. matched x.keys.matches (slice_index (with_number front last) n)) keyed.lead_is
      ∙ keyed_finds x.p (listed x.rows.now) lead table keys x.keys keyed lawful.scale own_ranged (ranged x.p s.held lawful table table_held)
      (slice_index (with_number front last) lead) (has_key front last) (λ j. refl)

  key_in : (front : List ℕ) (last j : ℕ) → all_paired x.p (row_at own j) (row_in s lead (with_number front last)) keys ≡ has_key front last j
  key_in front last j = ap (λ (u : Listed). all_paired x.p (row_at own j) (row_at u.rows (slice_index (with_number front last) lead)) keys) (got_part (parts_of s.sources) lead table table_got)

  pub index_answers : AreTiesImplying s lead x.ties.items keys → (x.is_whole ≡ true → AreTiedBy s lead x.ties.items keys) → Answers s x
  index_answers implied tied = record {
    lead = subst (λ n. n < length s.sources) (sym keyed.lead_is) within;
    has = λ front last whole.
        partner_among front last
        ∙ sym (any_implied (has_key front last) (is_partner s x front last) (λ j h. sym (key_in front last j) ∙ implied x.p (row_at own j) front last whole h) numbers)
        ∙ ap (list_any (is_partner s x front last)) (sym (partners_by_key front last));
    whole = λ all front last whole.
        partner_among front last
        ∙ ap (λ (t : ℕ → Bool). list_any t numbers) (λ i j. (tied all x.p (row_at own j) front last whole ∙ key_in front last j) i)
        ∙ any_kept (has_key front last) numbers
        ∙ ap (λ (js : List ℕ). not (length js == 0)) (sym (partners_by_key front last));
  }
