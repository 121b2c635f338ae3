-- A conjunction of equalities of a column of each of two sources links them.
use Rattle.std.proofs.Common.{◌≡◌, ℕ, zero, suc, ◌+◌, ◌<◌, Bool, true, false, true≢false, cond, ◌&&◌, ◌||◌, List, [], ◌∷◌, ◌++◌, length, map, Option, Some, None, IsSome, refl, sym, ap, ◌∙◌, subst, arith}
use Rattle.std.specs.List.{AllByRecursion, list_all, range_with_len}
use Rattle.std.specs.Map.{keys_of}
use Rattle.std.specs.Prelude.{option_and_then, slice_get, unwrap_or}
use Rattle.std.proofs.lemmas.List.{length-map}
use Rattle.std.proofs.lemmas.List.Folds.{list_all-append}
use Rattle.vtl_lists.proofs.Tests.{or_false, or_true}
use Rattle.vtl_text.specs.Texts.{same_text}
use Rattle.vtl_cell.specs.declared.operator.ScalarOp.TheVariants as op
use Rattle.vtl_decimal.specs.Settings.{Settings}
use Rattle.vtl_rows.specs.Gathered.{part_at}
use Rattle.vtl_rows.specs.Named.{NamedTables}
use Rattle.vtl_rows.specs.Tables.{Listed}
use Rattle.vtl_rows.specs.declared.gather.Pick.{Pick}
use Rattle.sql_tree.specs.Trees as tree
use Rattle.sql_tree.specs.Trees.{Exp, Text}
use Rattle.sql_tree.specs.declared.parts.Column.{Column}
use Rattle.sql_tree.specs.declared.parts.Source.{Source}
use Rattle.sql_tree.specs.declared.word_groups.JoinKind.{JoinKind}
use Rattle.sql_check_parts.specs.Expressions.{Site, site}
use Rattle.sql_check_laws.specs.Fits.{Fits}
use Rattle.sql_meaning.specs.Plans.{are_sides, conjuncts, is_side_equality}
use Rattle.sql_check_parts.specs.Scopes.{Named, Scope, found, is_among, numbered, row_of, value_among}
use Rattle.sql_meaning.specs.Tables.{column_entry}
use Rattle.sql_check_laws.specs.Selects.{IsSourceTyped}
use Rattle.sql_meaning.proofs.Lists.{all_parted}
use Rattle.sql_meaning.proofs.WindowKinds.{same_text-is}
use Rattle.sql_from.specs.Held.{columns_held, tables_held}
use Rattle.sql_from.specs.Keys.{IsLinked, are_linked, is_link, linked_count, spot_of, stands_in}
use Rattle.sql_from.specs.Rows.{picks_from}
use Rattle.sql_from.specs.Sources.{Sourced, parts_of, scope_held, table_given}
use Rattle.sql_from.specs.Steps.{JoinsTwo, two_counts}
use Rattle.sql_from.proofs.Marks.{same_number}
use Rattle.sql_from.proofs.Standing.{last_counted, scope_more, with_table}

-- ---- numbers of columns

-- a name that is there has a number, from the first on
number_of : {V : Type 0} (first : ℕ) (es : Named V) (name : Text) → IsSome (value_among es name) → (k : ℕ) × (value_among (numbered first es) name ≡ Some (first + k)) × (k < length es)
number_of first [] name h = cc
number_of {V = V} first (e ∷ es) name h = go (same_text name e.0) h (number_of (suc first) es name)
  where
    go : (b : Bool) → IsSome (cond b (Some e.1) (value_among es name)) → (IsSome (value_among es name) → (k : ℕ) × (value_among (numbered (suc first) es) name ≡ Some (suc first + k)) × (k < length es))
        → (k : ℕ) × (cond b (Some first) (value_among (numbered (suc first) es) name) ≡ Some (first + k)) × (k < suc (length es))
    go true h ih = (0, (let e : first ≡ first + 0 = omega arith in ap Some e), omega arith)
    go false h ih =
        let more = ih h in
        let e : suc first + more.0 ≡ first + suc more.0 = omega arith in
        (suc more.0, more.1 ∙ ap Some e, (let l = more.2 in omega (arith, l)))

-- ---- picks

module _ (k : ℕ) (rest : List Pick) where
  abbrev picks : ℕ → ℕ → List Pick
  picks a n = map (λ j. record { part = k; column = j }) (range_with_len a n) ++ rest

  pick_here : (a n i : ℕ) → i < n → stands_in k (slice_get (picks a n) i) ≡ true
  pick_here a zero i h = absurd (omega arith)
  pick_here a (suc n) zero h = same_number k k refl
  pick_here a (suc n) (suc i) h = pick_here (a + 1) n i (omega arith)

  pick_behind : (a n i : ℕ) → slice_get (picks a n) (n + i) ≡ slice_get rest i
  pick_behind a zero i = let e : 0 + i ≡ i = omega arith in ap (slice_get rest) e
  pick_behind a (suc n) i = let e : suc n + i ≡ suc (n + i) = omega arith in ap (slice_get (picks a (suc n))) e ∙ pick_behind (a + 1) n i

-- ---- two sources

module _ (held : NamedTables) (p : Settings) (a b : Text) (t u : Listed) (apart : same_text b a ≡ false) where
  abbrev two : Sourced
  two = record { held = held; sources = (a, t) ∷ (b, u) ∷ [] }

  abbrev scope : Scope
  scope = scope_held two.sources

  abbrev at : Site
  at = site p (tables_held held) scope

  abbrev spots : List Pick
  spots = picks_from 0 (t ∷ u ∷ [])

  in_second : (x : Column) → same_text x.source b ≡ true → IsSome (found scope x) → stands_in 1 (spot_of two x) ≡ true
  in_second x e there = go (same_text x.source a) (ap (λ n. same_text n a) (same_text-is x.source b e) ∙ apart) (same_text x.source b) e there
    where
      go : (c : Bool) → c ≡ false → (d : Bool) → d ≡ true → IsSome (option_and_then (λ named. value_among named x.name) (cond c (Some (columns_held t)) (cond d (Some (columns_held u)) None)))
          → stands_in 1 (slice_get spots (unwrap_or (option_and_then (λ named. value_among named x.name) (cond c (Some (numbered 0 (columns_held t))) (cond d (Some (numbered (0 + length (columns_held t)) (columns_held u))) None))) (length (row_of scope)))) ≡ true
      go true e d f there = absurd (true≢false e)
      go false e false f there = absurd (true≢false (sym f))
      go false e true f there =
          let k = number_of (0 + length (columns_held t)) (columns_held u) x.name there in
          let left = length-map t.columns column_entry in
          let right = length-map u.columns column_entry in
          let place : 0 + length (columns_held t) + k.0 ≡ length t.columns + k.0 = omega (arith, left) in
          let within = k.2 in
          ap (λ (o : Option ℕ). stands_in 1 (slice_get spots (unwrap_or o (length (row_of scope))))) k.1
          ∙ ap (λ (n : ℕ). stands_in 1 (slice_get spots n)) place
          ∙ ap (stands_in 1) (pick_behind 0 (picks_from 1 (u ∷ [])) 0 (length t.columns) k.0)
          ∙ pick_here 1 [] 0 (length u.columns) k.0 (omega (arith, right, within))

  in_first : (x : Column) → same_text x.source b ≡ false → IsSome (found scope x) → stands_in 0 (spot_of two x) ≡ true
  in_first x e there = go (same_text x.source a) (same_text x.source b) e there
    where
      go : (c d : Bool) → d ≡ false → IsSome (option_and_then (λ named. value_among named x.name) (cond c (Some (columns_held t)) (cond d (Some (columns_held u)) None)))
          → stands_in 0 (slice_get spots (unwrap_or (option_and_then (λ named. value_among named x.name) (cond c (Some (numbered 0 (columns_held t))) (cond d (Some (numbered (0 + length (columns_held t)) (columns_held u))) None))) (length (row_of scope)))) ≡ true
      go true d e there =
          let k = number_of 0 (columns_held t) x.name there in
          let left = length-map t.columns column_entry in
          let place : 0 + k.0 ≡ k.0 = omega arith in
          let within = k.2 in
          ap (λ (o : Option ℕ). stands_in 0 (slice_get spots (unwrap_or o (length (row_of scope))))) k.1
          ∙ ap (λ (n : ℕ). stands_in 0 (slice_get spots n)) place
          ∙ pick_here 0 (picks_from 1 (u ∷ [])) 0 (length t.columns) k.0 (omega (arith, left, within))
      go false true e there = absurd (true≢false e)
      go false false e there = cc

  sides : (x y : Exp) → Fits at None x → Fits at None y → are_sides b x y ≡ true → are_linked two 0 x y ≡ true
  sides (tree.column x) (tree.column y) f g h = go (same_text x.source b) refl (same_text y.source b) refl
    where
      go : (c : Bool) → same_text x.source b ≡ c → (d : Bool) → same_text y.source b ≡ d → are_linked two 0 (tree.column x) (tree.column y) ≡ true
      go true e false k = λ i. (in_second x e f.0 i && in_first y k g.0 i) || (stands_in 1 (spot_of two y) && stands_in 0 (spot_of two x))
      go false e true k =
          (λ i. (stands_in 1 (spot_of two x) && stands_in 0 (spot_of two y)) || (in_second y k g.0 i && in_first x e f.0 i))
          ∙ or_true (stands_in 1 (spot_of two x) && stands_in 0 (spot_of two y))
      go true e true k = absurd (true≢false (sym (rw (e, k) at h)))
      go false e false k = absurd (true≢false (sym (rw (e, k) at h)))
  sides x y f g h = absurd (true≢false (sym h))

  links : (e : Exp) → Fits at None e → AllByRecursion (λ x. is_side_equality b x ≡ true) (conjuncts e) → list_all (is_link two 0) (conjuncts e) ≡ true
  links (tree.binary x op.And y) f h =
      let both = all_parted (λ z. is_side_equality b z ≡ true) (conjuncts x) (conjuncts y) h in
      list_all-append (is_link two 0) (conjuncts x) (conjuncts y) ∙ (λ i. links x f.0 both.0 i && links y f.1 both.1 i)
  links (tree.binary x op.Equal y) f h = ap (λ c. c && true) (sides x y f.0 f.1 h.0)
  links e f h = absurd (true≢false (sym h.0))

-- ---- a join of two sources

module _ (p : Settings) (s : Sourced) (source : Source) (typed : IsSourceTyped (tables_held s.held) (scope_held s.sources) source) (kind : JoinKind) (e : Exp) (joins : JoinsTwo p s (tree.on kind source e)) where
  pub joins_linked : IsLinked (with_table s source) 0 e
  joins_linked =
      go s.sources joins.one typed.1 (subst (λ (z : Scope). Fits (site p (tables_held s.held) z) None e) (sym (scope_more s source typed)) joins.typed.0) joins.equal
    where
      go : (ss : NamedTables) → length ss ≡ 1 → is_among source.alias (keys_of (scope_held ss)) ≡ false
          → Fits (site p (tables_held s.held) (scope_held (ss ++ (source.alias, table_given s.held source) ∷ []))) None e
          → AllByRecursion (λ x. is_side_equality source.alias x ≡ true) (conjuncts e)
          → IsLinked (record { held = s.held; sources = ss ++ (source.alias, table_given s.held source) ∷ [] }) 0 e
      go [] n other fits all = absurd (omega (arith, n))
      go (x ∷ y ∷ ss) n other fits all = absurd (omega (arith, n))
      go (x ∷ []) n other fits all = record {
        before = omega arith;
        links = links s.held p x.0 source.alias x.1 (table_given s.held source) (sym (or_false (same_text source.alias x.0)) ∙ other) e fits all;
      }

  pub counts_are : linked_count (with_table s source) 0 ≡ two_counts s (tree.on kind source e)
  counts_are = λ i. first s.sources joins.one i + last_counted s source typed i
    where
      first : (ss : NamedTables) → length ss ≡ 1 → length (part_at (parts_of (ss ++ (source.alias, table_given s.held source) ∷ [])) 0).rows ≡ length (part_at (parts_of ss) 0).rows
      first [] n = absurd (omega (arith, n))
      first (x ∷ ss) n = refl
