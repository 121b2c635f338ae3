-- How a CSV text reads up to the end of a line without a quote mark.
use Rattle.std.proofs.Common.{◌≡◌, ◌≢◌, ◌<◌, ◌≤◌, ◌+◌, ◌-◌, ℕ, suc, Bool, true, false, cond, not, List, [], ◌∷◌, ◌++◌, Some, length, take, drop, get_or, refl, sym, ap, subst, ◌∙◌, inl, inr, add-one, arith}
use Rattle.std.specs.Prelude.{◌==◌, ◌||◌, ⊤}
use Rattle.std.specs.Borrow.{Bor}
use Rattle.std.specs.List.{list_any, position_or_len}
use Rattle.std.proofs.lemmas.Bool.{cases_Bool, eqb-true, ne_eqb}
use Rattle.std.proofs.lemmas.List.{map-append, take-append-drop, take_all}
use Rattle.csv.specs.Machine.{next_record}
use Rattle.csv.specs.Reading.{default_config, is_bom, records, records_from, strip_bom}
use Rattle.csv.specs.Quoting.{needs_byte}
use Rattle.csv.specs.Writing.{default_writer}
use Rattle.csv.specs.declared.parser.State.TheVariants as st
use Rattle.csv.proofs.RoundTrip.{plain-run, record-same, start-same}
use Rattle.vtl_lists.specs.Aliases.{Bytes, Record}
use Rattle.vtl_csv.specs.PlainLines.{StartsLine, ends_line, slices_shown}
use Rattle.vtl_csv.specs.RecordsLeft.{records_of}
use Rattle.vtl_csv.proofs.RecordsLeftLemmas.{records_from-enough, records_from-none, records_of-more}

one_more : (n : ℕ) → 1 + n ≡ suc n
one_more n = omega arith

-- no mark stands before the first
pub none_before : (p : ℕ → Bool) (xs : Bytes) → list_any p (take (position_or_len p xs) xs) ≡ false
none_before p [] = refl
none_before p (x ∷ xs) = go (p x) refl (none_before p xs)
  where
    go : (b : Bool) → p x ≡ b → list_any p (take (position_or_len p xs) xs) ≡ false → list_any p (take (cond (not b) (1 + position_or_len p xs) 0) (x ∷ xs)) ≡ false
    go true e rest = refl
    go false e rest = rw (one_more (position_or_len p xs), e) rest

-- what stands behind the bytes before the first mark begins with it
pub mark_behind : (p : ℕ → Bool) (xs : Bytes) (c : ℕ) (others : Bytes) → drop (position_or_len p xs) xs ≡ c ∷ others → p c ≡ true
mark_behind p [] c others e = cc e
mark_behind p (x ∷ xs) c others e = go (p x) refl (mark_behind p xs c others) e
  where
    go : (b : Bool) → p x ≡ b → (drop (position_or_len p xs) xs ≡ c ∷ others → p c ≡ true) → drop (cond (not b) (1 + position_or_len p xs) 0) (x ∷ xs) ≡ c ∷ others → p c ≡ true
    go true e rest h = let same : x ≡ c = cc h in rw (← same) e
    go false e rest h = rest (rw (one_more (position_or_len p xs)) at h)

-- a text that begins with no quote mark
abbrev pub NotQuoted : Bytes → Type 0
NotQuoted [] = ⊤
NotQuoted (c ∷ cs) = (c == 34) ≡ false

not_quote : (b : ℕ) → needs_byte default_writer b ≡ false → (b == 34) ≡ false
not_quote b e = go (b == 44) (b == 34) e
  where
    go : (comma quote : Bool) → (comma || quote || ((b == 13) || (b == 10)) || false || false) ≡ false → quote ≡ false
    go true quote h = cc h
    go false true h = cc h
    go false false h = refl

or_left : (a b : Bool) → (a || b) ≡ false → a ≡ false
or_left false b e = refl
or_left true b e = cc e

or_right : (a b : Bool) → (a || b) ≡ false → b ≡ false
or_right false b e = e
or_right true b e = cc e

-- a field without a mark is read as it stands
pub plain_field : (fields : Record) (field tail : Bytes) → list_any (needs_byte default_writer) field ≡ false → NotQuoted tail
    → next_record default_config st.StartField fields [] (field ++ tail) ≡ next_record default_config st.InField fields field tail
unfolding next_record
plain_field fields [] [] plain other = refl
plain_field fields [] (c ∷ tail) plain other = start-same fields [] c tail other
plain_field fields (b ∷ rest) tail plain other =
    start-same fields [] b (rest ++ tail) (not_quote b (or_left _ _ plain)) ∙ plain-run fields [] (b ∷ rest) tail plain

-- a comma ends a field
pub comma_ends : (fields : Record) (field tail : Bytes) → list_any (needs_byte default_writer) field ≡ false
    → next_record default_config st.StartField fields [] (field ++ 44 ∷ tail) ≡ next_record default_config st.StartField (fields ++ (field ∷ [])) [] tail
unfolding next_record
comma_ends fields field tail plain = plain_field fields field (44 ∷ tail) plain refl

-- what ends a line: the end of the text, or a mark that is neither a comma nor a quote mark
abbrev pub EndsLine : Bytes → Type 0
EndsLine [] = ⊤
EndsLine (c ∷ cs) = ends_line c ≡ true

-- a mark that is neither a comma nor a quote mark ends a line
pub mark_ends : (c : ℕ) → needs_byte default_writer c ≡ true → (c == 44) ≡ false → (c == 34) ≡ false → ends_line c ≡ true
mark_ends c mark comma quote = go (ends_line c) (rw (comma, quote) at mark)
  where
    go : (b : Bool) → (b || false || false) ≡ true → b ≡ true
    go true e = refl
    go false e = cc e

-- ---- blank lines, and the mark of a text
-- the end of a line between records is nothing
next_blank : (c : ℕ) (rest : Bytes) → ends_line c ≡ true → next_record default_config st.StartRecord [] [] (c ∷ rest) ≡ next_record default_config st.StartRecord [] [] rest
unfolding next_record
next_blank c rest e = rw e refl

pub blank_skipped : (c : ℕ) (rest : Bytes) → ends_line c ≡ true → records default_config (c ∷ rest) ≡ records default_config rest
unfolding records_from
blank_skipped c rest e =
    let same : records_from default_config (suc (length (c ∷ rest))) st.StartRecord (c ∷ rest) ≡ records_from default_config (suc (length (c ∷ rest))) st.StartRecord rest = rw (next_blank c rest e) refl in
    rw (add-one (length (c ∷ rest))) same ∙ records_from-enough default_config (suc (length (c ∷ rest))) (length rest + 1) st.StartRecord rest (omega arith) (omega arith)

-- behind a carriage return a text reads as between records
next_after : (xs : Bytes) → next_record default_config st.AfterCr [] [] xs ≡ next_record default_config st.StartRecord [] [] xs
unfolding next_record
next_after [] = refl
next_after (c ∷ rest) = go (c == 10) refl (c == 13) refl
  where
    go : (feed : Bool) → (c == 10) ≡ feed → (cr : Bool) → (c == 13) ≡ cr → next_record default_config st.AfterCr [] [] (c ∷ rest) ≡ next_record default_config st.StartRecord [] [] (c ∷ rest)
    go true e true h = rw (e, h) refl
    go true e false h = rw (e, h) refl
    go false e cr h = rw e refl

pub records_after : (rest : Bytes) → records_of (Some rest) st.AfterCr ≡ records default_config rest
unfolding records_from
records_after rest = rw (add-one (length rest), next_after rest) refl

pub strip_bom-same : (c : ℕ) (xs : Bytes) → (c == 0xEF) ≡ false → strip_bom (c ∷ xs) ≡ c ∷ xs
unfolding strip_bom
strip_bom-same c [] e = refl
strip_bom-same c (x ∷ []) e = refl
strip_bom-same c (x ∷ y ∷ xs) e = rw e refl

-- ---- a line without a quote mark
line_starts : (text : Bytes) → StartsLine text → next_record default_config st.StartRecord [] [] text ≡ next_record default_config st.StartField [] [] text
line_starts [] e = absurd e
line_starts (b ∷ bs) e = record-same [] [] b bs (or_left _ _ e) (or_right _ _ e)

-- the end of a line ends its record
module _ (text : Bytes) (fields : Record) (field : Bytes) (line : StartsLine text) where
  at_end : next_record default_config st.StartField [] [] text ≡ next_record default_config st.InField fields field []
      → records default_config text ≡ (fields ++ (field ∷ [])) ∷ records default_config (strip_bom [])
  unfolding next_record strip_bom
  at_end e = records_of-more st.StartRecord text (fields ++ (field ∷ []), st.StartRecord, []) (line_starts text line ∙ e)

  at_feed : (others : Bytes) → next_record default_config st.StartField [] [] text ≡ next_record default_config st.InField fields field (10 ∷ others)
      → records default_config text ≡ (fields ++ (field ∷ [])) ∷ records default_config (strip_bom (10 ∷ others))
  unfolding next_record
  at_feed others e =
      records_of-more st.StartRecord text (fields ++ (field ∷ []), st.StartRecord, others) (line_starts text line ∙ e)
      ∙ ap (λ (rows : List Record). (fields ++ (field ∷ [])) ∷ rows) (sym (blank_skipped 10 others refl) ∙ ap (records default_config) (sym (strip_bom-same 10 others refl)))

  at_return : (others : Bytes) → next_record default_config st.StartField [] [] text ≡ next_record default_config st.InField fields field (13 ∷ others)
      → records default_config text ≡ (fields ++ (field ∷ [])) ∷ records default_config (strip_bom (13 ∷ others))
  unfolding next_record
  at_return others e =
      records_of-more st.StartRecord text (fields ++ (field ∷ []), st.AfterCr, others) (line_starts text line ∙ e)
      ∙ ap (λ (rows : List Record). (fields ++ (field ∷ [])) ∷ rows) (records_after others ∙ sym (blank_skipped 13 others refl) ∙ ap (records default_config) (sym (strip_bom-same 13 others refl)))

  Taken : Bytes → Type 0
  Taken behind = next_record default_config st.StartField [] [] text ≡ next_record default_config st.InField fields field behind
      → records default_config text ≡ (fields ++ (field ∷ [])) ∷ records default_config (strip_bom behind)

  pub line_taken : (behind : Bytes) → EndsLine behind → next_record default_config st.StartField [] [] text ≡ next_record default_config st.InField fields field behind
      → records default_config text ≡ (fields ++ (field ∷ [])) ∷ records default_config (strip_bom behind)
  unfolding Taken
  line_taken [] ends e = at_end e
  line_taken (c ∷ others) ends e = elim (cases_Bool (c == 13)) [
    | inl same ↦ subst (λ (b : ℕ). Taken (b ∷ others)) (sym (eqb-true c 13 same)) (at_return others) e
    | inr other ↦ subst (λ (b : ℕ). Taken (b ∷ others)) (sym (eqb-true c 10 (rw other at ends))) (at_feed others) e
  ]

-- ---- the steps of the loop over the fields of a line
pub uncons : (l : Bytes) (c : ℕ) → 1 ≤ length l → get_or l 0 0 ≡ c → l ≡ c ∷ take (length l - 1) (drop 1 l)
uncons [] c h e = absurd (omega (arith, h))
uncons (b ∷ bs) c h e = rw (take_all (length (b ∷ bs) - 1) bs (omega arith)) (ap (λ (x : ℕ). x ∷ bs) e)

-- a line reads as its fields so far, and then the rest
abbrev pub ReadsOn : Bytes → List (Bor Bytes) → Bytes → Type 0
ReadsOn text fields rest = next_record default_config st.StartField (slices_shown fields) [] rest ≡ next_record default_config st.StartField [] [] text

one_shown : (fields : List (Bor Bytes)) (slice : Bor Bytes) → slices_shown (fields ++ (slice ∷ [])) ≡ slices_shown fields ++ (slice.now ∷ [])
one_shown fields slice = simp map-append

module _ (text rest : Bytes) (fields : List (Bor Bytes)) (slice : Bor Bytes) (behind : Bytes) (n : ℕ)
    (place : n ≡ position_or_len (needs_byte default_writer) rest) (front : slice.now ≡ take n rest) (back : behind ≡ drop n rest)
    (reads : ReadsOn text fields rest) where
  is_plain : list_any (needs_byte default_writer) slice.now ≡ false
  is_plain = ap (list_any (needs_byte default_writer)) (front ∙ ap (λ (m : ℕ). take m rest) place) ∙ none_before (needs_byte default_writer) rest

  whole : rest ≡ slice.now ++ behind
  whole = sym (take-append-drop n rest) ∙ ap (λ (l : Bytes). l ++ drop n rest) (sym front) ∙ ap (λ (l : Bytes). slice.now ++ l) (sym back)

  reads_whole : (b : Bytes) → behind ≡ b → next_record default_config st.StartField [] [] text ≡ next_record default_config st.StartField (slices_shown fields) [] (slice.now ++ b)
  reads_whole b e = sym reads ∙ ap (next_record default_config st.StartField (slices_shown fields) []) (whole ∙ ap (λ (l : Bytes). slice.now ++ l) e)

  pub field_taken : (items : List (Bor Bytes)) → items ≡ fields ++ (slice ∷ []) → 1 ≤ length behind → get_or behind 0 0 ≡ 44
      → ReadsOn text items (take (length behind - 1) (drop 1 behind))
  field_taken items more h e =
      let others = take (length behind - 1) (drop 1 behind) in
      ap (λ (l : List (Bor Bytes)). next_record default_config st.StartField (slices_shown l) [] others) more
      ∙ ap (λ (l : Record). next_record default_config st.StartField l [] others) (one_shown fields slice)
      ∙ sym (comma_ends (slices_shown fields) slice.now others is_plain)
      ∙ sym (reads_whole (44 ∷ others) (uncons behind 44 h e))

  last_taken : (items : List (Bor Bytes)) → items ≡ fields ++ (slice ∷ []) → StartsLine text → EndsLine behind → NotQuoted behind
      → records default_config text ≡ slices_shown items ∷ records default_config (strip_bom behind)
  last_taken items more line ends other =
      line_taken text (slices_shown fields) slice.now line behind ends (reads_whole behind refl ∙ plain_field (slices_shown fields) slice.now behind is_plain other)
      ∙ ap (λ (l : Record). l ∷ records default_config (strip_bom behind)) (sym (ap slices_shown more ∙ one_shown fields slice))

  pub text_ends : (items : List (Bor Bytes)) → items ≡ fields ++ (slice ∷ []) → StartsLine text → length behind < 1
      → records default_config text ≡ slices_shown items ∷ records default_config (strip_bom behind)
  text_ends items more line h = last_taken items more line (none behind h).0 (none behind h).1
    where
      none : (l : Bytes) → length l < 1 → EndsLine l × NotQuoted l
      none [] q = (tt, tt)
      none (b ∷ bs) q = absurd (omega (arith, q))

  pub line_ends : (items : List (Bor Bytes)) → items ≡ fields ++ (slice ∷ []) → StartsLine text → 1 ≤ length behind → get_or behind 0 0 ≢ 34 → get_or behind 0 0 ≢ 44
      → records default_config text ≡ slices_shown items ∷ records default_config (strip_bom behind)
  line_ends items more line h quote comma =
      let c = get_or behind 0 0 in
      let here = uncons behind c h refl in
      let mark = mark_behind (needs_byte default_writer) rest c (take (length behind - 1) (drop 1 behind)) (ap (λ (m : ℕ). drop m rest) (sym place) ∙ sym back ∙ here) in
      last_taken items more line
      (subst EndsLine (sym here) (mark_ends c mark (ne_eqb c 44 comma) (ne_eqb c 34 quote)))
      (subst NotQuoted (sym here) (ne_eqb c 34 quote))

-- ---- the starts of a text
pub blank_left : (rest : Bytes) → 1 ≤ length rest → ends_line (get_or rest 0 0) ≡ true
    → records default_config (take (length rest - 1) (drop 1 rest)) ≡ records default_config rest
blank_left rest h e =
    let c = get_or rest 0 0 in
    sym (ap (records default_config) (uncons rest c h refl) ∙ blank_skipped c (take (length rest - 1) (drop 1 rest)) e)

pub short_kept : (text : Bytes) → length text < 3 → text ≡ strip_bom text
unfolding strip_bom
short_kept [] h = refl
short_kept (a ∷ []) h = refl
short_kept (a ∷ b ∷ []) h = refl
short_kept (a ∷ b ∷ c ∷ rest) h = absurd (omega (arith, h))

pub marked_stripped : (text : Bytes) → 3 ≤ length text → is_bom (get_or text 0 0) (get_or text 1 0) (get_or text 2 0) ≡ true
    → take (length text - 3) (drop 3 text) ≡ strip_bom text
unfolding strip_bom
marked_stripped [] h e = absurd (omega (arith, h))
marked_stripped (a ∷ []) h e = absurd (omega (arith, h))
marked_stripped (a ∷ b ∷ []) h e = absurd (omega (arith, h))
marked_stripped (a ∷ b ∷ c ∷ rest) h e = rw e (take_all (length (a ∷ b ∷ c ∷ rest) - 3) rest (omega arith))

pub unmarked_kept : (text : Bytes) → 3 ≤ length text → is_bom (get_or text 0 0) (get_or text 1 0) (get_or text 2 0) ≡ false
    → text ≡ strip_bom text
unfolding strip_bom
unmarked_kept [] h e = absurd (omega (arith, h))
unmarked_kept (a ∷ []) h e = absurd (omega (arith, h))
unmarked_kept (a ∷ b ∷ []) h e = absurd (omega (arith, h))
unmarked_kept (a ∷ b ∷ c ∷ rest) h e = rw e refl

-- ---- where no line is left
pub no_line : (text : Bytes) → (length text == 0) ≡ true → records default_config text ≡ []
no_line [] e = records_from-none default_config (0 + 1)
no_line (b ∷ bs) e = let none : length (b ∷ bs) ≡ 0 = eqb-true (length (b ∷ bs)) 0 e in absurd (omega (arith, none))

pub none_left : records default_config (strip_bom []) ≡ []
unfolding strip_bom
none_left = records_from-none default_config (0 + 1)
