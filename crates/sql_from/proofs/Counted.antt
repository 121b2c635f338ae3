-- Steps of a join of two sources, and of what goes before it.
use Rattle.std.proofs.Common.{◌≡◌, ℕ, zero, suc, ◌+◌, ◌≤◌, Bool, true, false, cond, List, [], ◌∷◌, ◌++◌, length, map, drop, take, Option, None, Some, refl, sym, ap, ◌∙◌, subst, arith}
use Rattle.std.specs.List.{AllByRecursion}
use Rattle.std.specs.Prelude.{fold, sum, nat_eq}
use Rattle.std.proofs.lemmas.Bool.{or_parts}
use Rattle.vtl_lists.proofs.Alls.{all_append}
use Rattle.vtl_decimal.specs.declared.number.Fault.{Fault}
use Rattle.vtl_decimal.specs.Settings.{Settings}
use Rattle.vtl_cell.specs.declared.operator.ScalarOp.TheVariants as op
use Rattle.vtl_rows.specs.Gathered.{part_at}
use Rattle.vtl_rows.specs.Named.{NamedTables}
use Rattle.sql_tree.specs.Trees as tree
use Rattle.sql_tree.specs.Trees.{Exp, JoinTree, SelectTree}
use Rattle.sql_tree.specs.declared.parts.Source.{Source}
use Rattle.sql_meaning.specs.From.{Joined, first_of, joined, with_join}
use Rattle.sql_check_parts.specs.Expressions.{site}
use Rattle.sql_meaning.specs.Plans.{IsEqualityJoin, conjuncts, conjuncts_of, try_early}
use Rattle.sql_meaning.specs.Values.{at_rows}
use Rattle.sql_check_parts.specs.Queries.{first_scope, join_source}
use Rattle.sql_check_parts.specs.Scopes.{Scope, with_source}
use Rattle.sql_meaning.specs.Tables.{Base, rows_from}
use Rattle.sql_check_laws.specs.Selects.{AreJoinsTyped, IsJoinCondition, IsSourceTyped}
use Rattle.sql_meaning.specs.declared.plan.Early.{Early}
use Rattle.sql_from.specs.Asking.{asks, condition_asks}
use Rattle.sql_from.specs.Held.{base_held, tables_held}
use Rattle.sql_from.specs.Conditions.{all_of, conditions_at, due_at, kind_of, on_of, parts_at}
use Rattle.sql_from.specs.Joins.{joined_tuples, marks_of}
use Rattle.sql_from.specs.Keys.{AreLinked, IsLinked, last_of, linked_count}
use Rattle.sql_from.specs.Sources.{IsWide, Sourced, parts_of, scope_held, table_given}
use Rattle.sql_from.specs.Standing.{StandsFor}
use Rattle.sql_from.specs.Steps.{IsPlainJoin, JoinsTwo, joined_count, most_steps, two_counts}
use Rattle.sql_from.specs.Tuples.{Numbered}
use Rattle.sql_from.proofs.Fewer.{fewer_tried}
use Rattle.sql_from.proofs.GivenTables.{source_rows_are}
use Rattle.sql_from.proofs.Standing.{rows_joined, scope_tried, tried_at, with_table}
use Rattle.sql_from.proofs.TwoSources.{counts_are, joins_linked}

-- ---- parts of WHERE

-- parts of what asks no EXISTS ask none
parts_ask : (e : Exp) → asks e ≡ false → AllByRecursion (λ x. asks x ≡ false) (conjuncts e)
parts_ask (tree.binary a op.And b) h = let both = or_parts (asks a) (asks b) h in all_append (λ x. asks x ≡ false) (conjuncts a) (conjuncts b) (parts_ask a both.0) (parts_ask b both.1)
parts_ask e h = (h, tt)

one_asks : (c : Option Exp) → condition_asks c ≡ false → AllByRecursion (λ x. asks x ≡ false) (conjuncts_of c)
one_asks None h = tt
one_asks (Some e) h = parts_ask e h

abbrev Silent : List Exp → Type 0
Silent es = AllByRecursion (λ x. asks x ≡ false) es

-- what is tried of it before a join
pub due_asks : (s : SelectTree) (early : List Early) (place : ℕ) → condition_asks s.condition ≡ false → AllByRecursion (λ x. asks x ≡ false) (due_at s early place)
due_asks s early place h = go (nat_eq place (length s.joins))
  where
    whole : (w : Option Exp) → condition_asks w ≡ false → Silent (all_of w)
    whole None h = tt
    whole (Some e) h = (h, tt)

    one : (i : ℕ) (xs : List Exp) → Silent xs → Silent (take 1 (drop i xs))
    one zero [] all = tt
    one zero (x ∷ xs) all = (all.0, tt)
    one (suc i) [] all = tt
    one (suc i) (x ∷ xs) all = one i xs all.1

    parts : (es : List Early) → Silent (parts_at (conjuncts_of s.condition) es place)
    parts [] = tt
    parts (e ∷ es) = here (nat_eq e.join place) (parts es)
      where
        here : (b : Bool) → Silent (parts_at (conjuncts_of s.condition) es place) → Silent (cond b (take 1 (drop e.conjunct (conjuncts_of s.condition))) [] ++ parts_at (conjuncts_of s.condition) es place)
        here true rest = all_append (λ x. asks x ≡ false) (take 1 (drop e.conjunct (conjuncts_of s.condition))) (parts_at (conjuncts_of s.condition) es place) (one e.conjunct (conjuncts_of s.condition) (one_asks s.condition h)) rest
        here false rest = rest

    go : (b : Bool) → Silent (cond b (all_of s.condition) (parts_at (conjuncts_of s.condition) early place))
    go true = whole s.condition h
    go false = parts early

-- ---- a join of two sources

module _ (p : Settings) (s : Sourced) (t : Numbered) (seen : Option Fault) (f : Joined) (before : StandsFor f s t seen) (z : Sourced) (wide : AllByRecursion IsWide (parts_of z.sources)) (marks : List ℕ) (m : marks ≡ marks_of (parts_of s.sources)) where
  pub join_bounded : (old new : ℕ) (j : JoinTree) → IsSourceTyped (tables_held s.held) (scope_held s.sources) (join_source j) → z ≡ with_table s (join_source j)
      → ((lead : ℕ) → AreLinked z lead (on_of j) → new ≤ old + linked_count z lead + length (joined_tuples (kind_of j) (conditions_at p z (on_of j)) marks (length (last_of z).rows) t.tuples))
      → JoinsTwo p s j → new ≤ old + two_counts s j + length (with_join (base_held p s.held) f j).rows
  join_bounded old new (tree.cross source) typed is bound two = absurd two.equal
  join_bounded old new (tree.on kind source e) typed is bound two =
      let j = tree.on kind source e in
      let most = bound 0 (subst (λ (y : Sourced). IsLinked y 0 e) (sym is) (joins_linked p s source typed kind e two)) in
      let counts = ap (λ (y : Sourced). linked_count y 0) is ∙ counts_are p s source typed kind e two in
      let rows = rows_joined s j typed p t seen f before marks z is wide m in
      omega (arith, most, counts, rows)

-- ---- the one join of a select

pub only_join : (s : SelectTree) (j : JoinTree) (js : List JoinTree) → length s.joins ≡ 1 → s.joins ≡ j ∷ js → s.joins ≡ j ∷ []
only_join s j [] one e = e
only_join s j (k ∷ js) one e = let many = ap (λ l. length l) e in absurd (omega (arith, one, many))

-- a table of a source that is the only one
pub first_counted : (held : NamedTables) (source : Source) (sources : NamedTables) → sources ≡ (source.alias, table_given held source) ∷ [] → (p : Settings) → length (part_at (parts_of sources) 0).rows ≡ length (rows_from (base_held p held) source)
first_counted held source sources e p = ap (λ (ss : NamedTables). length (part_at (parts_of ss) 0).rows) e ∙ ap (λ rows. length rows) (sym (source_rows_are p held source))

-- before the join there is one source and no step, and behind it there are not too many
pub record Taken (b : Base) (s : SelectTree) (early : List Early) (place : ℕ) (z : Sourced) (t : Numbered) (seen : Option Fault) (old new : ℕ) : Type 0 where
  pub none : place ≡ 0 → new ≡ old
  pub one : place ≡ 0 → length z.sources ≡ 1
  pub counted : place ≡ 0 → length (part_at (parts_of z.sources) 0).rows ≡ length (rows_from b s.source)
  pub stands : place ≡ 0 → StandsFor (tried_at b s early 0 (first_of b s.source)) z t seen
  pub most : new ≤ old + most_steps b s

-- the join, where what is tried before it makes the rows of FROM only fewer
module _ (p : Settings) (held : NamedTables) (s : SelectTree) (early : List Early) (typed : AreJoinsTyped p (tables_held held) (first_scope (tables_held held) s) s.joins) (plain : IsPlainJoin s) (j : JoinTree) (only : s.joins ≡ j ∷ []) where
  abbrev b : Base
  b = base_held p held

  abbrev first : Joined
  first = first_of b s.source

  joins_two : (z : Sourced) → z.held ≡ held → scope_held z.sources ≡ first_scope (tables_held held) s → length z.sources ≡ 1 → JoinsTwo p z j
  joins_two z held_is scope_is one = record {
    one = one;
    equal = (subst (AllByRecursion IsEqualityJoin) only plain.equal).0;
    typed = subst (λ (h : NamedTables). IsJoinCondition (site p (tables_held h) (with_source (tables_held h) (scope_held z.sources) (join_source j))) j) (sym held_is)
        (subst (λ (scope : Scope). IsJoinCondition (site p (tables_held held) (with_source (tables_held held) scope (join_source j))) j) (sym scope_is)
        (subst (AreJoinsTyped p (tables_held held) (first_scope (tables_held held) s)) only typed).1);
  }

  pub join_taken : (place : ℕ) (z : Sourced) (t : Numbered) (seen : Option Fault) (old now : ℕ) → Taken b s early place z t seen old now → place ≡ 0 → z.held ≡ held
      → (new : ℕ) → ((f : Joined) → StandsFor f z t seen → JoinsTwo p z j → new ≤ now + two_counts z j + length (with_join (base_held p z.held) f j).rows)
      → new ≤ old + most_steps b s
  join_taken place z t seen old now taken start z_held new bound =
      let es = due_at s early 0 in
      let f : Joined = fold (try_early (at_rows b first.scope)) first es in
      let before : StandsFor f z t seen = taken.stands start in
      let scope_is : scope_held z.sources ≡ first_scope (tables_held held) s = before.scope ∙ scope_tried (at_rows b first.scope) first es in
      let most = bound f before (joins_two z z_held scope_is (taken.one start)) in
      let nothing = taken.none start in
      let left = taken.counted start in
      let right : length (table_given z.held (join_source j)).rows ≡ length (rows_from b (join_source j)) = ap (λ (h : NamedTables). length (table_given h (join_source j)).rows) z_held ∙ ap (λ rows. length rows) (sym (source_rows_are p held (join_source j))) in
      let given = ap (λ (h : NamedTables). length (with_join (base_held p h) f j).rows) z_held in
      let fewer = fewer_tried b (at_rows b first.scope) j es first in
      let rows : length (joined b s).rows ≡ length (with_join b first j).rows = ap (λ js. length (fold (with_join b) first js).rows) only in
      let own : sum (map (joined_count b) s.joins) ≡ 0 + joined_count b j = ap (λ js. sum (map (joined_count b) js)) only in
      omega (arith, nothing, fewer, rows, own, given, left, right, most)
