-- An expression breaks no rule exactly where it fits, form by form; conditions and windows likewise.
use Rattle.std.proofs.Common.{◌≡◌, false, ◌∷◌, [], map, Some, None, refl}
use Rattle.std.specs.Prelude.{Option, is_some}
use Rattle.vtl_decimal.specs.Settings.{Settings}
use Rattle.vtl_cell.specs.ScalarKinds.{common_kind, meets}
use Rattle.vtl_cell.specs.declared.kind.Kind.TheVariants as k
use Rattle.vtl_cell.specs.declared.operator.ScalarOp.TheVariants as op
use Rattle.vtl_cell.specs.AggregateKinds.{aggregate_kind}
use Rattle.sql_tree.specs.Trees as tree
use Rattle.sql_tree.specs.Trees.{Exp, Exps, Branches}
use Rattle.sql_tree.specs.declared.parts.Column.{Column}
use Rattle.sql_tree.specs.declared.parts.Equality.{Equality}
use Rattle.sql_tree.specs.declared.parts.Literal.{Literal}
use Rattle.sql_tree.specs.declared.windows.Window.{Window}
use Rattle.sql_tree.specs.declared.windows.WindowKey.{WindowKey}
use Rattle.sql_check_parts.specs.Exists.{Inner, equality_breaks, inner_of, is_tie, kind_inside, side_breaks}
use Rattle.sql_check_parts.specs.Expressions.{Site, all_break, branches_break, breaks}
use Rattle.sql_check_parts.specs.Kinds.{kind_in, kinds_in, operator_kind, value_kinds}
use Rattle.sql_check_parts.specs.Literals.{constant_value, has_no_value, literal_kind, literal_value, literals_fit}
use Rattle.sql_check_parts.specs.Queries.{condition_at, maybe_condition}
use Rattle.sql_check_parts.specs.Scopes.{Grouping, Scope, columns_of, fits_table, found}
use Rattle.sql_check_parts.specs.Windows as windows
use Rattle.sql_check_parts.specs.Windows.{argument, call_kind, column_breaks, frame_misplaced, is_misplaced, is_ungrouped, key_breaks, order_misplaced, window_breaks}
use Rattle.sql_check_parts.specs.declared.rules.SqlRule.TheVariants as rule
use Rattle.sql_check_laws.specs.Both.{Iff}
use Rattle.sql_check_laws.specs.Fits.{AllFit, BranchesFit, Fits, HasValue, IsCondition, IsKeySeen, IsMaybeCondition, IsSeen, IsSeenInside, IsWindowTyped, Ties}
use Rattle.sql_check_laws.proofs.BothWays.{Reads, no_rule, each, four, neither, none_any, one_and_two, same, sure, test, three, three_tests, two, two_tests}

-- ---- parts

pub column_seen : (s : Scope) (g : Option Grouping) (c : Column) → Reads (column_breaks s g c) (IsSeen s g c)
column_seen s g c = two_tests rule.UnknownColumn rule.OutsideGroup refl refl (sure (is_some (found s c))) same

literal_valued : (p : Settings) (l : Literal) → Iff (has_no_value p l ≡ false) (HasValue p l)
literal_valued p l = sure (is_some (literal_value p l))

side_seen : (s : Scope) (g : Option Grouping) (i : Inner) (c : Column) → Reads (side_breaks s g i c) (IsSeenInside s g i c)
side_seen s g i c = two_tests rule.UnknownColumn rule.OutsideGroup refl refl (sure (is_some (kind_inside s i c))) same

equality_ties : (s : Scope) (g : Option Grouping) (i : Inner) (e : Equality) → Reads (equality_breaks s g i e) (Ties s g i e)
equality_ties s g i e = three (side_seen s g i e.left) (side_seen s g i e.right) (test rule.UntiedEquality refl (sure (is_tie s i e)))

-- ---- expressions

mutual
  pub expression_fits : (at : Site) (g : Option Grouping) (e : Exp) → Reads (breaks at g e) (Fits at g e)
  expression_fits at g (tree.binary a o b) = three (expression_fits at g a) (expression_fits at g b) (test rule.UnfitKind refl (sure (is_some (operator_kind o (kind_in at.scope a ∷ kind_in at.scope b ∷ [])))))
  expression_fits at g (tree.unary o e) = two (expression_fits at g e) (test rule.UnfitKind refl (sure (is_some (operator_kind o (kind_in at.scope e ∷ [])))))
  expression_fits at g (tree.is_null e negated) = expression_fits at g e
  expression_fits at g (tree.in_list e negated ls) =
      one_and_two (expression_fits at g e)
      (two_tests rule.UnfitKind rule.UnfitLiteral refl refl (sure (is_some (operator_kind op.In (kind_in at.scope e ∷ map literal_kind ls)))) (none_any (has_no_value at.settings) (literal_valued at.settings) ls))
  expression_fits at g (tree.constant c) = test rule.UnfitLiteral refl (sure (is_some (constant_value at.settings c)))
  expression_fits at g (tree.column c) = column_seen at.scope g c
  expression_fits at g (tree.call f es) =
      one_and_two (all_fit at g es) (two_tests rule.UnfitKind rule.UnfitLiteral refl refl (sure (is_some (operator_kind f (kinds_in at.scope es)))) (sure (literals_fit at.settings f es)))
  expression_fits at g tree.count_all = test rule.OutsideGroup refl (sure (is_some g))
  expression_fits at g (tree.aggregate f e) =
      one_and_two (expression_fits at None e) (two_tests rule.UnfitKind rule.OutsideGroup refl refl (sure (is_some (aggregate_kind f (kind_in at.scope e)))) (sure (is_some g)))
  expression_fits at g (tree.case_when bs e) =
      three (branches_fit at g bs) (expression_fits at g e) (test rule.UnfitKind refl (sure (is_some (common_kind (value_kinds at.scope bs (kind_in at.scope e ∷ []))))))
  expression_fits at g (tree.exists s es) =
      two (two_tests rule.UnknownTable rule.MisnamedSeries refl refl (sure (is_some (columns_of at.tables s.table))) (sure (fits_table at.tables s)))
      (each (equality_breaks at.scope g (inner_of at.tables s)) (equality_ties at.scope g (inner_of at.tables s)) es)

  all_fit : (at : Site) (g : Option Grouping) (es : Exps) → Reads (all_break at g es) (AllFit at g es)
  all_fit at g tree.no_exps = no_rule
  all_fit at g (tree.exp e es) = two (expression_fits at g e) (all_fit at g es)

  branches_fit : (at : Site) (g : Option Grouping) (bs : Branches) → Reads (branches_break at g bs) (BranchesFit at g bs)
  branches_fit at g tree.no_branches = no_rule
  branches_fit at g (tree.branch c v bs) =
      four (expression_fits at g c) (test rule.UnfitKind refl (sure (meets k.Bool (kind_in at.scope c)))) (expression_fits at g v) (branches_fit at g bs)

-- ---- conditions

pub condition_fits : (at : Site) (g : Option Grouping) (e : Exp) → Reads (condition_at at g e) (IsCondition at g e)
condition_fits at g e = two (expression_fits at g e) (test rule.UnfitKind refl (sure (meets k.Bool (kind_in at.scope e))))

pub maybe_condition_fits : (at : Site) (g : Option Grouping) (e : Option Exp) → Reads (maybe_condition at g e) (IsMaybeCondition at g e)
maybe_condition_fits at g None = no_rule
maybe_condition_fits at g (Some e) = condition_fits at g e

-- ---- windows

key_seen : (s : Scope) (g : Option Grouping) (key : WindowKey) → Reads (key_breaks s g key) (IsKeySeen s g key)
key_seen s g key = column_seen s g key.column

pub window_typed : (p : Settings) (s : Scope) (g : Option Grouping) (w : Window) → Reads (window_breaks p s g w) (IsWindowTyped p s g w)
window_typed p s g w =
    let seen = three (each (column_breaks s g) (column_seen s g) (argument w.call)) (each (column_breaks s g) (column_seen s g) w.over.partition) (each (key_breaks s g) (key_seen s g) w.over.order) in
    let placed = neither (same {A = is_some g ≡ false}) (neither (same {A = frame_misplaced w.call w.over.frame ≡ false}) (same {A = order_misplaced w.call w.over.order ≡ false})) in
    let own = three_tests rule.UnfitKind rule.UnfitLiteral rule.MisplacedWindow refl refl refl (sure (is_some (call_kind s w.call))) (sure (windows.literals_fit p w)) placed in
    let all = two seen own in
    record {
      to = λ h.
          let x = all.to h in
          record {
            argument = x.0.0;
            partition = x.0.1;
            order = x.0.2;
            kind = x.1.0;
            literals = x.1.1;
            alone = x.1.2.0;
            framed = x.1.2.1.0;
            ordered = x.1.2.1.1;
          };
      from = λ t. all.from ((t.argument, t.partition, t.order), (t.kind, t.literals, (t.alone, (t.framed, t.ordered))));
    }
