-- The value of an expression that fits is null, of its kind, or an integer that stands for a number.
use Rattle.std.proofs.Common.{ℕ, pos, true, false, List, [], ◌∷◌, length, map, Ok, None, refl}
use Rattle.std.specs.Prelude.{Option}
use Rattle.std.specs.List.{AllByRecursion}
use Rattle.vtl_cell.specs.Conversion.{as_kind}
use Rattle.vtl_cell.specs.Groups.{group_value}
use Rattle.vtl_cell.specs.Outcome.{Outcome, fault_in, faults_by}
use Rattle.vtl_cell.specs.Outcomes.{branch, first_chosen}
use Rattle.vtl_decimal.specs.Range.{fit_integer}
use Rattle.vtl_cell.specs.Row.{Row, column_of}
use Rattle.vtl_cell.specs.ScalarKinds.{common_kind}
use Rattle.vtl_cell.specs.declared.cell.Cell.{Cell}
use Rattle.vtl_cell.specs.declared.kind.Kind.{Kind}
use Rattle.vtl_cell.specs.declared.kind.Kind.TheVariants as k
use Rattle.vtl_cell.specs.declared.operator.ScalarOp.TheVariants as op
use Rattle.vtl_cell.specs.AggregateKinds.{aggregate_kind}
use Rattle.vtl_scalar.specs.KindLaws.{HasKind, IsOfKind}
use Rattle.vtl_scalar.proofs.ValueKindLemmas.{whole_is}
use Rattle.sql_tree.specs.Trees as tree
use Rattle.sql_tree.specs.Trees.{Branches, Exp, Exps}
use Rattle.sql_tree.specs.declared.parts.Column.{Column}
use Rattle.sql_check_parts.specs.Expressions.{Site, site}
use Rattle.sql_check_parts.specs.Kinds.{kind_in, kinds_in, operator_kind, value_kinds}
use Rattle.sql_check_parts.specs.Scopes.{Grouping, Scope, column_kind}
use Rattle.sql_check_laws.specs.Fits.{AllFit, BranchesFit, Fits, IsSeen}
use Rattle.sql_meaning.specs.Outcomes.{all_values, cell_or_null, operated}
use Rattle.sql_meaning.specs.Tables.{Base}
use Rattle.sql_meaning.specs.Values.{View, at_rows, chosen, literal_cell, place_in, value, values}
use Rattle.sql_meaning.proofs.Lists.{under}
use Rattle.sql_meaning.proofs.OperatorKinds.{EachHas, after_if, all_ok, as_kind_has, branch_has, common_all, constant_has, group_has, if_more, in_has, is_null_has, not_has, not_in_has, null_has, operator_has, some_of, unless_has}

module _ (b : Base) (scope : Scope) where
  abbrev at : Site
  at = site b.settings b.tables scope

  abbrev by : (Column → ℕ) → View
  by place = record { base = b; scope = scope; place = place }

  -- each column that may be named has a cell of its kind
  abbrev pub Sees : Option Grouping → (Column → ℕ) → Row → Type 0
  Sees g place r = (x : Column) → IsSeen scope g x → IsOfKind (column_kind scope x) (column_of (place x) r)

  mutual
    pub value_has : (place : Column → ℕ) (g : Option Grouping) (e : Exp) (r : Row) (rows : List Row) → Fits at g e → Sees g place r → AllByRecursion (Sees None (place_in scope)) rows → HasKind (kind_in scope e) (value (by place) e r rows)
    value_has place g (tree.binary x o y) r rows h s all =
        operator_has b.settings o (kind_in scope (tree.binary x o y)) (kind_in scope x ∷ kind_in scope y ∷ []) (value (by place) x r rows ∷ value (by place) y r rows ∷ [])
        (some_of (operator_kind o (kind_in scope x ∷ kind_in scope y ∷ [])) h.2) (value_has place g x r rows h.0 s all, (value_has place g y r rows h.1 s all, tt))
    value_has place g (tree.unary o e) r rows h s all =
        operator_has b.settings o (kind_in scope (tree.unary o e)) (kind_in scope e ∷ []) (value (by place) e r rows ∷ []) (some_of (operator_kind o (kind_in scope e ∷ [])) h.1) (value_has place g e r rows h.0 s all, tt)
    value_has place g (tree.is_null e true) r rows h s all = not_has b.settings (operated b.settings k.Bool (value (by place) e r rows ∷ []) op.IsNull ∷ [])
    value_has place g (tree.is_null e false) r rows h s all = is_null_has b.settings (value (by place) e r rows ∷ [])
    value_has place g (tree.in_list e true ls) r rows h s all = not_in_has b.settings (value (by place) e r rows ∷ map (λ l. Ok (literal_cell b.settings l)) ls)
    value_has place g (tree.in_list e false ls) r rows h s all = in_has b.settings (value (by place) e r rows ∷ map (λ l. Ok (literal_cell b.settings l)) ls)
    value_has place g (tree.constant x) r rows h s all = constant_has b.settings x
    value_has place g (tree.column x) r rows h s all = s x h
    value_has place g (tree.call f es) r rows h s all =
        operator_has b.settings f (kind_in scope (tree.call f es)) (kinds_in scope es) (values (by place) es r rows) (some_of (operator_kind f (kinds_in scope es)) h.1) (values_have place g es r rows h.0 s all)
    value_has place g tree.count_all r rows h s all = whole_is (fit_integer b.settings.scale (pos (length rows)))
    value_has place g (tree.aggregate f e) r rows h s all =
        let at_row : Row → Outcome Cell = λ q. value (at_rows b scope) e q [] in
        let each : (qs : List Row) → AllByRecursion (Sees None (place_in scope)) qs → AllByRecursion (λ q. HasKind (kind_in scope e) (at_row q)) qs =
        λ qs seeing. under (λ q see. value_has (place_in scope) None e q [] h.0 see tt) qs seeing in
        after_if (all_values at_row rows) (group_value b.settings f) (AllByRecursion (IsOfKind (kind_in scope e))) (IsOfKind (kind_in scope (tree.aggregate f e)))
        (unless_has (AllByRecursion (IsOfKind (kind_in scope e))) (faults_by (λ q. fault_in (at_row q)) rows) (map (λ q. cell_or_null (at_row q)) rows) (all_ok at_row (IsOfKind (kind_in scope e)) rows (null_has (kind_in scope e)) (each rows all)))
        (λ vs known. group_has b.settings f (kind_in scope e) (kind_in scope (tree.aggregate f e)) vs (some_of (aggregate_kind f (kind_in scope e)) h.1) known)
    value_has place g (tree.case_when bs e) r rows h s all =
        let kinds = value_kinds scope bs (kind_in scope e ∷ []) in
        let kind = kind_in scope (tree.case_when bs e) in
        let ups = common_all kinds kind (some_of (common_kind kinds) h.2) in
        after_if (chosen (by place) bs r rows (value (by place) e r rows)) (as_kind b.settings kind) (IsOfKind kind) (IsOfKind kind)
        (chosen_has place g bs r rows h.0 s all kind (kind_in scope e ∷ []) (value (by place) e r rows) ups (λ last. if_more (value (by place) e r rows) (IsOfKind (kind_in scope e)) (IsOfKind kind) last.0 (value_has place g e r rows h.1 s all)))
        (as_kind_has b.settings kind)
    value_has place g (tree.exists source es) r rows h s all = refl

    values_have : (place : Column → ℕ) (g : Option Grouping) (es : Exps) (r : Row) (rows : List Row) → AllFit at g es → Sees g place r → AllByRecursion (Sees None (place_in scope)) rows → EachHas (kinds_in scope es) (values (by place) es r rows)
    values_have place g tree.no_exps r rows h s all = tt
    values_have place g (tree.exp e es) r rows h s all = (value_has place g e r rows h.0 s all, values_have place g es r rows h.1 s all)

    chosen_has : (place : Column → ℕ) (g : Option Grouping) (bs : Branches) (r : Row) (rows : List Row) → BranchesFit at g bs → Sees g place r → AllByRecursion (Sees None (place_in scope)) rows
        → (kind : Kind) (behind : List Kind) (last : Outcome Cell) → AllByRecursion (λ x. (v : Cell) → IsOfKind x v → IsOfKind kind v) (value_kinds scope bs behind) → (AllByRecursion (λ x. (v : Cell) → IsOfKind x v → IsOfKind kind v) behind → HasKind kind last)
        → HasKind kind (chosen (by place) bs r rows last)
    chosen_has place g tree.no_branches r rows h s all kind behind last ups end = end ups
    chosen_has place g (tree.branch x w bs) r rows h s all kind behind last ups end =
        let first : HasKind kind (value (by place) w r rows) = if_more (value (by place) w r rows) (IsOfKind (kind_in scope w)) (IsOfKind kind) ups.0 (value_has place g w r rows h.2 s all) in
        let others : HasKind kind (chosen (by place) bs r rows last) = chosen_has place g bs r rows h.3 s all kind behind last ups.1 end in
        after_if (value (by place) x r rows) (λ t. branch (first_chosen t) (value (by place) w r rows) (chosen (by place) bs r rows last)) (IsOfKind (kind_in scope x)) (IsOfKind kind) (value_has place g x r rows h.0 s all)
        (λ t i. branch_has (first_chosen t) (value (by place) w r rows) (chosen (by place) bs r rows last) (IsOfKind kind) (null_has kind) first others)
