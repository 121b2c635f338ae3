-- The kinds that the selects of a query share: each value of an item's own kind is one of the kind of its column.
use Rattle.std.proofs.Common.{◌≡◌, suc, List, [], ◌∷◌, map, length, Option, Some, None, refl, sym, ap, ◌∙◌, subst, arith}
use Rattle.std.specs.Prelude.{IsSome, fold, option_and_then, zip}
use Rattle.std.specs.List.{AllByRecursion}
use Rattle.std.proofs.lemmas.List.{length-map}
use Rattle.vtl_cell.specs.Kinds.{kind_of}
use Rattle.vtl_cell.specs.ScalarKinds.{shared_kind}
use Rattle.vtl_cell.specs.declared.cell.Cell.{Cell}
use Rattle.vtl_cell.specs.declared.kind.Kind.{Kind}
use Rattle.vtl_scalar.specs.KindLaws.{IsOfKind}
use Rattle.vtl_scalar.proofs.KindLemmas.{common_left, common_right}
use Rattle.sql_tree.specs.Trees.{QueryTree, SelectTree, Text}
use Rattle.sql_check_parts.specs.Queries as typing
use Rattle.sql_check_parts.specs.Queries.{beside, item_kind, item_name, names_of, query_columns, scope_of, shared_kinds}
use Rattle.sql_check_parts.specs.Scopes.{or_null}
use Rattle.sql_check_parts.proofs.QueryKinds.{length-beside}
use Rattle.sql_check_laws.specs.Selects.{IsQueryTyped}
use Rattle.sql_check_laws.proofs.TypedSelects.{as_long}
use Rattle.sql_meaning.specs.Tables.{Base, kinds_of}
use Rattle.sql_meaning.proofs.Lists.{under}
use Rattle.sql_meaning.proofs.OperatorKinds.{shared_pair}

-- ---- kinds that stand for others
abbrev pub Lifts : Kind → Kind → Type 0
Lifts kind own = (v : Cell) → IsOfKind own v → IsOfKind kind v

abbrev pub Lifted : List Kind → List Kind → Type 0
Lifted [] [] = Unit {0}
Lifted [] (o ∷ os) = ⊥
Lifted (x ∷ xs) [] = ⊥
Lifted (x ∷ xs) (o ∷ os) = Lifts x o × Lifted xs os

-- ---- the kinds that selects share
shared_left : (x y kind : Kind) → shared_kind x y ≡ Some kind → Lifts kind x
shared_left x y kind e v h = common_left x y (kind_of v) kind (shared_pair x y kind e) h

shared_right : (x y kind : Kind) → shared_kind x y ≡ Some kind → Lifts kind y
shared_right x y kind e v h = common_right x y (kind_of v) kind (shared_pair x y kind e) h

-- a kind that is shared so far, if there is one
abbrev Over : Option Kind → Kind → Type 0
Over None own = Unit {0}
Over (Some kind) own = Lifts kind own

abbrev AllOver : List (Option Kind) → List Kind → Type 0
AllOver [] [] = Unit {0}
AllOver [] (o ∷ os) = ⊥
AllOver (x ∷ xs) [] = ⊥
AllOver (x ∷ xs) (o ∷ os) = Over x o × AllOver xs os

over_same : (ks : List Kind) → AllOver (map Some ks) ks
over_same [] = tt
over_same (x ∷ ks) = ((λ v h. h), over_same ks)

over_more : (x : Option Kind) (own other : Kind) → Over x own → Over (option_and_then (λ shared. shared_kind shared other) x) own
over_more None own other o = tt
over_more (Some kind) own other o = go (shared_kind kind other) refl
  where
    go : (r : Option Kind) → shared_kind kind other ≡ r → Over r own
    go None e = tt
    go (Some z) e = λ v h. shared_left kind other z e v (o v h)

over_new : (x : Option Kind) (other : Kind) → Over (option_and_then (λ shared. shared_kind shared other) x) other
over_new None other = tt
over_new (Some kind) other = go (shared_kind kind other) refl
  where
    go : (r : Option Kind) → shared_kind kind other ≡ r → Over r other
    go None e = tt
    go (Some z) e = shared_right kind other z e

beside_more : (cs : List (Option Kind)) (own others : List Kind) → length cs ≡ length others → AllOver cs own → AllOver (beside cs others) own
beside_more [] own others e o = o
beside_more (x ∷ cs) own [] e o = absurd (omega arith)
beside_more (x ∷ cs) [] (y ∷ others) e o = o
beside_more (x ∷ cs) (z ∷ own) (y ∷ others) e o = (over_more x z y o.0, beside_more cs own others (omega arith) o.1)

beside_new : (cs : List (Option Kind)) (others : List Kind) → length cs ≡ length others → AllOver (beside cs others) others
beside_new [] [] e = tt
beside_new [] (y ∷ others) e = absurd (omega arith)
beside_new (x ∷ cs) [] e = absurd (omega arith)
beside_new (x ∷ cs) (y ∷ others) e = (over_new x y, beside_new cs others (omega arith))

pub named_kinds : (names : List Text) (ks : List Kind) → length names ≡ length ks → kinds_of (zip names ks) ≡ ks
named_kinds [] [] e = refl
named_kinds [] (x ∷ ks) e = absurd (omega arith)
named_kinds (n ∷ names) [] e = absurd (omega arith)
named_kinds (n ∷ names) (x ∷ ks) e = ap (λ l. x ∷ l) (named_kinds names ks (omega arith))

-- ---- the selects of a query

module _ (b : Base) where
  -- all selects have as many items as the first one, whose kinds go on being shared
  abbrev step : List (Option Kind) → SelectTree → List (Option Kind)
  step shared other = beside shared (typing.kinds_of b.tables other)

  abbrev SameWidth : List (Option Kind) → SelectTree → Type 0
  SameWidth cs s = length cs ≡ length (typing.kinds_of b.tables s)

  start_over : (ss : List SelectTree) (cs : List (Option Kind)) (own : List Kind) → AllByRecursion (SameWidth cs) ss → AllOver cs own → AllOver (fold step cs ss) own
  start_over [] cs own w o = o
  start_over (s ∷ ss) cs own w o = start_over ss (step cs s) own (under (λ t e. length-beside cs (typing.kinds_of b.tables s) ∙ e) ss w.1) (beside_more cs own (typing.kinds_of b.tables s) w.0 o)

  others_over : (ss : List SelectTree) (cs : List (Option Kind)) → AllByRecursion (SameWidth cs) ss → AllByRecursion (λ s. AllOver (fold step cs ss) (typing.kinds_of b.tables s)) ss
  others_over [] cs w = tt
  others_over (s ∷ ss) cs w =
      let wider = under (λ t e. length-beside cs (typing.kinds_of b.tables s) ∙ e) ss w.1 in
      (start_over ss (step cs s) (typing.kinds_of b.tables s) wider (beside_new cs (typing.kinds_of b.tables s) w.0), others_over ss (step cs s) wider)

  -- where each kind is shared
  lifted : (cs : List (Option Kind)) (own : List Kind) → AllByRecursion IsSome cs → AllOver cs own → Lifted (map or_null cs) own
  lifted [] [] e o = tt
  lifted [] (z ∷ own) e o = absurd o
  lifted (x ∷ cs) [] e o = absurd o
  lifted (None ∷ cs) (z ∷ own) e o = let no = e.0 in cc
  lifted (Some x ∷ cs) (z ∷ own) e o = (o.0, lifted cs own e.1 o.1)

  length-fold : (ss : List SelectTree) (cs : List (Option Kind)) → length (fold step cs ss) ≡ length cs
  length-fold [] cs = refl
  length-fold (s ∷ ss) cs = length-fold ss (step cs s) ∙ length-beside cs (typing.kinds_of b.tables s)

  -- the kinds of each select's items are lifted to those of the query's columns
  pub all_lifted : (q : QueryTree) → IsQueryTyped b.settings b.tables q → AllByRecursion (λ t. Lifted (kinds_of (query_columns b.tables q)) (typing.kinds_of b.tables t)) q
  all_lifted [] h = tt
  all_lifted (s ∷ ss) h =
      let names = names_of s in
      let shared = shared_kinds b.tables (s ∷ ss) in
      let start = map Some (typing.kinds_of b.tables s) in
      let wide : (t : SelectTree) → length (typing.kinds_of b.tables t) ≡ length (names_of t) = λ t. length-map t.items (item_kind (scope_of b.tables t)) ∙ sym (length-map t.items item_name) in
      let widths : AllByRecursion (SameWidth start) ss = under (λ t e. length-map (typing.kinds_of b.tables s) Some ∙ wide s ∙ as_long names (names_of t) e ∙ sym (wide t)) ss h.names.1 in
      let many : length names ≡ length (map or_null shared) = sym (length-map shared or_null ∙ length-fold ss start ∙ length-map (typing.kinds_of b.tables s) Some ∙ wide s) in
      let first = lifted shared (typing.kinds_of b.tables s) h.kinds (start_over ss start (typing.kinds_of b.tables s) widths (over_same (typing.kinds_of b.tables s))) in
      let others = under (λ t o. lifted shared (typing.kinds_of b.tables t) h.kinds o) ss (others_over ss start widths) in
      subst (λ ks. AllByRecursion (λ t. Lifted ks (typing.kinds_of b.tables t)) (s ∷ ss)) (sym (named_kinds names (map or_null shared) many)) (first, others)
