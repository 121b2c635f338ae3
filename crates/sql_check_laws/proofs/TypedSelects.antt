-- A select breaks no rule exactly where it is typed, and a query none besides that of null columns; it breaks none at all where it is whole.
use Rattle.std.proofs.Common.{◌≡◌, ◌≤◌, ◌∙◌, suc, Bool, true, false, not, ◌&&◌, ◌||◌, List, [], ◌∷◌, ◌++◌, length, map, Some, None, refl, ap, sym, arith}
use Rattle.std.specs.Prelude.{Option, IsSome, is_some, nat_lt}
use Rattle.std.specs.List.{AllByRecursion, flat_map, list_all, list_any}
use Rattle.std.specs.Option.{is_none}
use Rattle.std.proofs.lemmas.List.{length-map}
use Rattle.std.proofs.lemmas.Slice.Eq.{bytes_eq-Decides}
use Rattle.vtl_decimal.specs.Settings.{Settings}
use Rattle.vtl_text.specs.Texts.{same_text}
use Rattle.vtl_cell.specs.declared.kind.Kind.{Kind}
use Rattle.sql_tree.specs.Trees as tree
use Rattle.sql_tree.specs.Trees.{Text, ItemTree, JoinTree, QueryTree, SelectTree, ValueTree}
use Rattle.sql_tree.specs.declared.parts.Source.{Source}
use Rattle.sql_check_parts.specs.Expressions.{Site, site}
use Rattle.sql_check_parts.specs.Queries.{first_scope, groups_of, has_unnamed, has_null_column, item_breaks, join_condition, join_source, joins_break, kinds_of, lacks_kind, most_columns, names_of, query_breaks, query_names, same_names, select_breaks, shared_kinds, source_breaks, sources_break, union_breaks, value_breaks}
use Rattle.sql_check_parts.specs.Queries as queries
use Rattle.sql_check_parts.specs.Scopes.{Grouping, Scope, Tables, columns_of, fits_table, lacks_names, repeats, with_source}
use Rattle.sql_check_parts.specs.Windows.{column_breaks}
use Rattle.sql_check_parts.specs.Rules.{broken}
use Rattle.sql_check_parts.specs.declared.rules.SqlRule.{SqlRule}
use Rattle.sql_check_parts.specs.declared.rules.SqlRule.TheVariants as rule
use Rattle.sql_check_parts.proofs.SeriesColumns.{named_where_fits}
use Rattle.sql_check_parts.proofs.Unbroken.{none_behind, none_both, unbroken, unbroken_both}
use Rattle.sql_check_laws.specs.Both.{Iff, besides_null}
use Rattle.sql_check_laws.specs.Selects.{AreJoinsTyped, IsColumnKind, IsItemTyped, IsJoinCondition, IsQueryTyped, IsQueryWhole, IsSelectTyped, IsSourceTyped, IsValueTyped, whole_site}
use Rattle.sql_check_laws.proofs.BothWays.{Reads, all_true, no_rule, at_most, behind, each, neither, none_any, besides_before, besides_behind, same, sure, test, three, three_tests, two, two_tests}
use Rattle.sql_check_laws.proofs.FittingExpressions.{column_seen, condition_fits, expression_fits, maybe_condition_fits, window_typed}

-- ---- sources

source_typed : (tables : Tables) (before : Scope) (s : Source) → Reads (source_breaks tables before s) (IsSourceTyped tables before s)
source_typed tables before s = three_tests rule.UnknownTable rule.MisnamedTable rule.MisnamedSeries refl refl refl (sure (is_some (columns_of tables s.table))) same (sure (fits_table tables s))

join_condition_fits : (at : Site) (j : JoinTree) → Reads (join_condition at j) (IsJoinCondition at j)
join_condition_fits at (tree.on kind s e) = condition_fits at None e
join_condition_fits at (tree.cross s) = no_rule

joins_typed : (p : Settings) (tables : Tables) (before : Scope) (js : List JoinTree) → Reads (joins_break p tables before js) (AreJoinsTyped p tables before js)
joins_typed p tables before [] = no_rule
joins_typed p tables before (j ∷ js) =
    let scope = with_source tables before (join_source j) in
    three (source_typed tables before (join_source j)) (join_condition_fits (site p tables scope) j) (joins_typed p tables scope js)

-- ---- selects

value_typed : (at : Site) (g : Option Grouping) (v : ValueTree) → Reads (value_breaks at g v) (IsValueTyped at g v)
value_typed at g (tree.expression e) = expression_fits at g e
value_typed at g (tree.window w) = window_typed at.settings at.scope g w

item_typed : (at : Site) (g : Option Grouping) (i : ItemTree) → Reads (item_breaks at g i) (IsItemTyped at g i)
item_typed at g i = value_typed at g i.value

pub select_typed : (p : Settings) (tables : Tables) (s : SelectTree) → Reads (select_breaks p tables s) (IsSelectTyped p tables s)
select_typed p tables s =
    let at = whole_site p tables s in
    let g = groups_of s in
    let sources = two (source_typed tables [] s.source) (joins_typed p tables (first_scope tables s) s.joins) in
    let rows = two (maybe_condition_fits at None s.condition) (each (column_breaks at.scope None) (column_seen at.scope None) s.group) in
    let groups = two (two rows (maybe_condition_fits at g s.having)) (each (item_breaks at g) (item_typed at g) s.items) in
    let all = two sources (two groups (test rule.MisnamedColumn refl (same {A = repeats (names_of s) ≡ false}))) in
    record {
      to = λ h.
          let x = all.to h in
          record {
            source = x.0.0;
            joins = x.0.1;
            condition = x.1.0.0.0.0;
            group = x.1.0.0.0.1;
            having = x.1.0.0.1;
            items = x.1.0.1;
            names = x.1.1;
          };
      from = λ t. all.from ((t.source, t.joins), ((((t.condition, t.group), t.having), t.items), t.names));
    }

-- the table of each SERIES of a typed select has what it names
joins_named : (p : Settings) (tables : Tables) (before : Scope) (js : List JoinTree) → AreJoinsTyped p tables before js → list_any (lacks_names tables) (map join_source js) ≡ false
joins_named p tables before [] t = refl
joins_named p tables before (j ∷ js) t =
    ap (λ b. b || list_any (lacks_names tables) (map join_source js)) (named_where_fits tables (join_source j) t.0.2)
    ∙ joins_named p tables (with_source tables before (join_source j)) js t.2

all_named : (p : Settings) (tables : Tables) (s : SelectTree) → IsSelectTyped p tables s → has_unnamed tables s ≡ false
all_named p tables s t =
    let source = t.source in
    ap (λ b. b || list_any (lacks_names tables) (map join_source s.joins)) (named_where_fits tables s.source source.2)
    ∙ joins_named p tables (first_scope tables s) s.joins t.joins

none_unnamed : (p : Settings) (tables : Tables) (q : QueryTree) → AllByRecursion (IsSelectTyped p tables) q → list_any (has_unnamed tables) q ≡ false
none_unnamed p tables [] t = refl
none_unnamed p tables (s ∷ ss) t = ap (λ b. b || list_any (has_unnamed tables) ss) (all_named p tables s t.0) ∙ none_unnamed p tables ss t.1

-- ---- queries

-- besides the test of null columns, the others are as if it were not there
besides_second : (u n m : Bool) → besides_null (broken ((rule.UnlikeSelects, u) ∷ (rule.NullColumn, n) ∷ (rule.CodesOrCount, m) ∷ [])) ≡ besides_null (broken ((rule.UnlikeSelects, u) ∷ (rule.CodesOrCount, m) ∷ []))
besides_second true true m = refl
besides_second true false m = refl
besides_second false true m = refl
besides_second false false m = refl

module _ (p : Settings) (tables : Tables) (q : QueryTree) where
  abbrev unlike : Bool
  unlike = not (list_all (λ s. same_names (query_names q) (names_of s)) q) || list_any is_none (shared_kinds tables q)

  abbrev unnamed : Bool
  unnamed = list_any (has_unnamed tables) q

  abbrev null : Bool
  null = has_null_column unnamed (shared_kinds tables q)

  abbrev many : Bool
  many = nat_lt most_columns (length (query_names q))

  abbrev all_break : List SqlRule
  all_break = flat_map (select_breaks p tables) q

  all_typed : Reads all_break (AllByRecursion (IsSelectTyped p tables) q)
  all_typed = each (select_breaks p tables) (select_typed p tables) q

  alike : Iff (unlike ≡ false) (AllByRecursion (λ s. same_names (query_names q) (names_of s) ≡ true) q × AllByRecursion IsSome (shared_kinds tables q))
  alike =
      neither (behind (sure (list_all (λ s. same_names (query_names q) (names_of s)) q)) (all_true (λ s. same_names (query_names q) (names_of s)) q))
      (none_any is_none (λ kind. sure (is_some kind)) (shared_kinds tables q))

  few : Iff (many ≡ false) (length (query_names q) ≤ most_columns)
  few = at_most most_columns (length (query_names q))

  kinds_told : Iff (list_any lacks_kind (shared_kinds tables q) ≡ false) (AllByRecursion IsColumnKind (shared_kinds tables q))
  kinds_told = none_any lacks_kind (λ kind. same {A = IsColumnKind kind}) (shared_kinds tables q)

  -- where each SERIES fits its table, the test of null columns is that of their kinds
  asked : AllByRecursion (IsSelectTyped p tables) q → null ≡ list_any lacks_kind (shared_kinds tables q)
  asked t = ap (λ m. not m && list_any lacks_kind (shared_kinds tables q)) (none_unnamed p tables q t)

  pub query_typed : Iff (besides_null (query_breaks p tables q) ≡ []) (IsQueryTyped p tables q)
  query_typed =
      let union = union_breaks tables (query_names q) (shared_kinds tables q) q in
      let own = two_tests rule.UnlikeSelects rule.CodesOrCount refl refl alike few in
      record {
        to = λ h.
            let x = own.to (sym (besides_second unlike null many) ∙ besides_behind all_break union h) in
            record {
              selects = all_typed.to (besides_before all_break union h);
              names = x.0.0;
              kinds = x.0.1;
              few = x.1;
            };
        from = λ t.
            ap (λ rules. besides_null (rules ++ union)) (all_typed.from t.selects)
            ∙ besides_second unlike null many
            ∙ ap besides_null (own.from ((t.names, t.kinds), t.few));
      }

  pub query_whole : Iff (query_breaks p tables q ≡ []) (IsQueryWhole p tables q)
  query_whole =
      let union = union_breaks tables (query_names q) (shared_kinds tables q) q in
      let last = (rule.CodesOrCount, many) ∷ [] in
      let rest = (rule.NullColumn, null) ∷ last in
      record {
        to = λ h.
            let typed = query_typed.to (ap besides_null h) in
            let told = (unbroken rule.NullColumn null last (unbroken rule.UnlikeSelects unlike rest (none_behind all_break union h)).1).0 in
            (typed, kinds_told.to (sym (asked typed.selects) ∙ told));
        from = λ t.
            none_both all_break union (all_typed.from t.0.selects)
            (unbroken_both rule.UnlikeSelects unlike rest (alike.from (t.0.names, t.0.kinds))
            (unbroken_both rule.NullColumn null last (asked t.0.selects ∙ kinds_told.from t.1)
            (unbroken_both rule.CodesOrCount many [] (few.from t.0.few) refl)));
      }

-- ---- one select alone

pub all_known : (kinds : List Kind) → AllByRecursion IsSome (map Some kinds)
all_known [] = tt
all_known (kind ∷ kinds) = (refl, all_known kinds)

pub names_agree : (names : List Text) → same_names names names ≡ true
names_agree [] = refl
names_agree (n ∷ ns) = ap (λ b. b && same_names ns ns) ((bytes_eq-Decides n n).1 refl) ∙ names_agree ns

pub as_long : (xs ys : List Text) → same_names xs ys ≡ true → length xs ≡ length ys
as_long [] [] h = refl
as_long [] (y ∷ ys) h = cc
as_long (x ∷ xs) [] h = cc
as_long (x ∷ xs) (y ∷ ys) h = ap suc (as_long xs ys (rest (same_text x y) h))
  where
    rest : (b : Bool) → (b && same_names xs ys) ≡ true → same_names xs ys ≡ true
    rest true e = e
    rest false e = cc

pub one_typed : (p : Settings) (tables : Tables) (s : SelectTree) → Iff (IsQueryTyped p tables (s ∷ [])) (IsSelectTyped p tables s × (length s.items ≤ most_columns))
one_typed p tables s =
    let many = length-map s.items queries.item_name in
    record {
      to = λ h. let few = h.few in (h.selects.0, omega (arith, few, many));
      from = λ h. let few = h.1 in record {
        selects = (h.0, tt);
        names = (names_agree (names_of s), tt);
        kinds = all_known (kinds_of tables s);
        few = omega (arith, few, many);
      };
    }

-- each select of a typed query is one
pub each_typed : (p : Settings) (tables : Tables) (q : QueryTree) → IsQueryTyped p tables q → AllByRecursion (λ s. IsQueryTyped p tables (s ∷ [])) q
each_typed p tables q h = go q h.selects h.names
  where
    few : (s : SelectTree) → same_names (query_names q) (names_of s) ≡ true → length (names_of s) ≤ most_columns
    few s e = let size = as_long (query_names q) (names_of s) e in let most = h.few in omega (arith, size, most)

    go : (ss : List SelectTree) → AllByRecursion (IsSelectTyped p tables) ss → AllByRecursion (λ s. same_names (query_names q) (names_of s) ≡ true) ss → AllByRecursion (λ s. IsQueryTyped p tables (s ∷ [])) ss
    go [] typed names = tt
    go (s ∷ ss) typed names = (
      record {
        selects = (typed.0, tt);
        names = (names_agree (names_of s), tt);
        kinds = all_known (kinds_of tables s);
        few = few s names.0;
      },
      go ss typed.1 names.1,
    )
