-- Which expressions, conditions and windows fit their place: the rules read positively, one line a form.
use Rattle.std.specs.Prelude.{◌≡◌, true, false, not, ◌&&◌, ◌∷◌, [], map, Option, Some, None, IsSome, is_some}
use Rattle.std.specs.List.{AllByRecursion}
use Rattle.vtl_decimal.specs.Settings.{Settings}
use Rattle.vtl_cell.specs.ScalarKinds.{common_kind, meets}
use Rattle.vtl_cell.specs.declared.kind.Kind.TheVariants as k
use Rattle.vtl_cell.specs.declared.operator.ScalarOp.TheVariants as op
use Rattle.vtl_cell.specs.AggregateKinds.{aggregate_kind}
use Rattle.sql_tree.specs.Trees as tree
use Rattle.sql_tree.specs.Trees.{Exp, Exps, Branches}
use Rattle.sql_tree.specs.declared.parts.Column.{Column}
use Rattle.sql_tree.specs.declared.parts.Equality.{Equality}
use Rattle.sql_tree.specs.declared.parts.Literal.{Literal}
use Rattle.sql_tree.specs.declared.windows.Window.{Window}
use Rattle.sql_tree.specs.declared.windows.WindowKey.{WindowKey}
use Rattle.sql_check_parts.specs.Exists.{Inner, inner_of, is_inner, is_tie, kind_inside}
use Rattle.sql_check_parts.specs.Expressions.{Site}
use Rattle.sql_check_parts.specs.Kinds.{kind_in, kinds_in, operator_kind, value_kinds}
use Rattle.sql_check_parts.specs.Literals.{constant_value, literal_kind, literal_value, literals_fit}
use Rattle.sql_check_parts.specs.Scopes.{Grouping, Scope, columns_of, fits_table, found}
use Rattle.sql_check_parts.specs.Windows as windows
use Rattle.sql_check_parts.specs.Windows.{argument, call_kind, frame_misplaced, is_ungrouped, order_misplaced}

-- ---- parts

-- a column is known, and in a group one of GROUP BY
abbrev pub IsSeen : Scope → Option Grouping → Column → Type 0
IsSeen s g c = IsSome (found s c) × (is_ungrouped g c ≡ false)

abbrev pub HasValue : Settings → Literal → Type 0
HasValue p l = IsSome (literal_value p l)

-- a column within EXISTS is known; one of an outer source is besides one of GROUP BY in a group
abbrev pub IsSeenInside : Scope → Option Grouping → Inner → Column → Type 0
IsSeenInside s g i c = IsSome (kind_inside s i c) × ((not (is_inner i c) && is_ungrouped g c) ≡ false)

abbrev pub Ties : Scope → Option Grouping → Inner → Equality → Type 0
Ties s g i e = IsSeenInside s g i e.left × IsSeenInside s g i e.right × (is_tie s i e ≡ true)

-- ---- expressions

abbrev mutual
  pub Fits : Site → Option Grouping → Exp → Type 0
  Fits at g (tree.binary a o b) = Fits at g a × Fits at g b × IsSome (operator_kind o (kind_in at.scope a ∷ kind_in at.scope b ∷ []))
  Fits at g (tree.unary o e) = Fits at g e × IsSome (operator_kind o (kind_in at.scope e ∷ []))
  Fits at g (tree.is_null e negated) = Fits at g e
  Fits at g (tree.in_list e negated ls) = Fits at g e × IsSome (operator_kind op.In (kind_in at.scope e ∷ map literal_kind ls)) × AllByRecursion (HasValue at.settings) ls
  Fits at g (tree.constant c) = IsSome (constant_value at.settings c)
  Fits at g (tree.column c) = IsSeen at.scope g c
  Fits at g (tree.call f es) = AllFit at g es × IsSome (operator_kind f (kinds_in at.scope es)) × (literals_fit at.settings f es ≡ true)
  Fits at g tree.count_all = IsSome g
  Fits at g (tree.aggregate f e) = Fits at None e × IsSome (aggregate_kind f (kind_in at.scope e)) × IsSome g
  Fits at g (tree.case_when bs e) = BranchesFit at g bs × Fits at g e × IsSome (common_kind (value_kinds at.scope bs (kind_in at.scope e ∷ [])))
  Fits at g (tree.exists s es) = (IsSome (columns_of at.tables s.table) × (fits_table at.tables s ≡ true)) × AllByRecursion (Ties at.scope g (inner_of at.tables s)) es

  pub AllFit : Site → Option Grouping → Exps → Type 0
  AllFit at g tree.no_exps = Unit {0}
  AllFit at g (tree.exp e es) = Fits at g e × AllFit at g es

  pub BranchesFit : Site → Option Grouping → Branches → Type 0
  BranchesFit at g tree.no_branches = Unit {0}
  BranchesFit at g (tree.branch c v bs) = Fits at g c × (meets k.Bool (kind_in at.scope c) ≡ true) × Fits at g v × BranchesFit at g bs

-- a condition is boolean; null counts as that
abbrev pub IsCondition : Site → Option Grouping → Exp → Type 0
IsCondition at g e = Fits at g e × (meets k.Bool (kind_in at.scope e) ≡ true)

abbrev pub IsMaybeCondition : Site → Option Grouping → Option Exp → Type 0
IsMaybeCondition at g None = Unit {0}
IsMaybeCondition at g (Some e) = IsCondition at g e

-- ---- windows

abbrev pub IsKeySeen : Scope → Option Grouping → WindowKey → Type 0
IsKeySeen s g key = IsSeen s g key.column

-- its columns are seen, the call takes the kind of its column, and its literals lie in their intervals; it stands in no group,
-- with the frame and the order that its call asks for
pub record IsWindowTyped (p : Settings) (s : Scope) (g : Option Grouping) (w : Window) : Type 0 where
  pub argument : AllByRecursion (IsSeen s g) (argument w.call)
  pub partition : AllByRecursion (IsSeen s g) w.over.partition
  pub order : AllByRecursion (IsKeySeen s g) w.over.order
  pub kind : IsSome (call_kind s w.call)
  pub literals : windows.literals_fit p w ≡ true
  pub alone : is_some g ≡ false
  pub framed : frame_misplaced w.call w.over.frame ≡ false
  pub ordered : order_misplaced w.call w.over.order ≡ false
