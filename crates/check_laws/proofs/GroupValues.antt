-- Values over groups: aggregates of a component, and the component that their operand is.
use Rattle.std.proofs.Common.{◌≡◌, ℕ, Bool, true, false, cond, not, ◌||◌, List, [], ◌∷◌, Option, Some, None, is_none, Result, Ok, Err, refl, sym, ap, ◌∙◌, subst, true≢false}
use Rattle.std.proofs.lemmas.Bool.{false≢true, or_parts}
use Rattle.std.specs.Option.{IfSome, is_some, option_map}
use Rattle.vtl_decimal.specs.Settings.{Settings}
use Rattle.vtl_cell.specs.declared.kind.Kind.{Kind}
use Rattle.check_faults.specs.declared.rules.Rule.{Rule}
use Rattle.check_faults.specs.declared.rules.Rule.TheVariants as rule
use Rattle.vtl_syntax.specs.Trees as tree
use Rattle.vtl_syntax.specs.Trees.{Exp, MaybeExp}
use Rattle.vtl_syntax.specs.declared.parts.Comp.TheVariants as comp
use Rattle.vtl_syntax.specs.declared.word_groups.AggregateName.{AggregateName}
use Rattle.vtl_syntax.specs.declared.word_groups.AggregateName.TheVariants as aggregate
use Rattle.vtl_tree.specs.CompExp as exp
use Rattle.vtl_tree.specs.CompExp.{CompExp}
use Rattle.vtl_tree.specs.Structure.{names_of}
use Rattle.vtl_tree.specs.declared.structure.Component.{Component}
use Rattle.vtl_cell.specs.AggregateKinds as kinds
use Rattle.vtl_tree.specs.Kinds.{exp_kind}
use Rattle.vtl_meaning.specs.Made.{Aggregates}
use Rattle.vtl_tree.specs.Names.{is_among, name_of}
use Rattle.check_values.specs.Columns.{column_typed}
use Rattle.check_groups.specs.Aggregates.{agg_kind, aggregate_kind, aggregate_value, column_name, count_call, count_kind, group_call, group_call_by, is_component, operand_name}
use Rattle.check_operators.specs.Places.{Env, Written, alone, component_typed, in_aggregate, name_written, with_alias, written_in, written_typed}
use Rattle.check_operators.specs.Typed.{TypedTree, value, dataset, of_value}
use Rattle.check_expressions.specs.Rulings.{Sight}
use Rattle.check_expressions.specs.Typing.{maybe_typed, over_operand, typed}
use Rattle.check_groups.specs.Windowed.{operand_exp}
use Rattle.check_operators.specs.declared.places.Inside.{Inside}
use Rattle.check_operators.specs.declared.places.Place.{Place}
use Rattle.check_operators.specs.declared.places.Place.TheVariants as place
use Rattle.check_laws.specs.Gives.{Gives}
use Rattle.check_laws.specs.WellTyped.{IsTypedIn, IsWellTyped}
use Rattle.check_laws.proofs.Steps.{after, anything, tested-then, then, weaker}
use Rattle.check_laws.proofs.Values.{IsNamedIn, column-gives}

-- ---- the operand
-- a column is the first one of its name
abbrev pub IsNamed : List Component → TypedTree → Type 0
IsNamed xs (value e) = IfSome (column_name e) (λ name. IsNamedIn xs name e)
IsNamed xs (dataset n) = Unit {0}

-- what is written as a component is the first one of its name
abbrev pub IsOperand : Place → MaybeExp → TypedTree → Type 0
IsOperand place.Outside e x = Unit {0}
IsOperand (place.Inside i) e x = is_component e ≡ true → IsNamed i.components x

alone-gives : (P : TypedTree → Type 0) (grouping : Option (List (List ℕ))) (name : List ℕ) (e : CompExp) → P (value e) → Gives P (alone grouping name e)
alone-gives P None name e h = h
alone-gives P (Some names) name e h = tested-then P ((rule.AggregateMisuse, not (is_among name names)) ∷ []) (λ u. of_value e) (λ passed. h)

component-named : (i : Inside) (name : List ℕ) → Gives (IsNamed i.components) (component_typed i name)
component-named i name =
    then (IsNamedIn i.components name) (IsNamed i.components) (column_typed name i.components) (alone i.grouping name) (column-gives name i.components)
    (λ e h. alone-gives (IsNamed i.components) i.grouping name e (subst (λ e. IsNamed i.components (value e)) (sym h.0) (refl, h.1)))

written-named : (i : Inside) (w : Written) → Gives (IsNamed i.components) (written_typed i w)
unfolding written_typed
written-named i w = after (IsNamed i.components) (name_written i.joined w) (component_typed i) (component-named i)

-- where an expression is a component
abbrev IsWritten : Inside → Exp → TypedTree → Type 0
IsWritten i e x = is_some (written_in e) ≡ true → IsNamed i.components x

another : (i : Inside) (r : Result TypedTree Rule) → Gives (λ x. false ≡ true → IsNamed i.components x) r
another i r = weaker (λ x. Unit {0}) (λ x. false ≡ true → IsNamed i.components x) r (λ x u yes. absurd (false≢true yes)) (anything r)

exp-named : (sight : Sight) (i : Inside) (e : Exp) → Gives (IsWritten i e) (typed sight (place.Inside i) e)
exp-named sight i (tree.component c) = weaker (IsNamed i.components) (IsWritten i (tree.component c)) (component_typed i (name_of c)) (λ x h yes. h) (component-named i (name_of c))
exp-named sight i (tree.member (tree.component (comp.Name alias)) c) = weaker (IsNamed i.components) (IsWritten i (tree.member (tree.component (comp.Name alias)) c)) (written_typed i (with_alias alias c)) (λ x h yes. h) (written-named i (with_alias alias c))
exp-named sight i e = another i (typed sight (place.Inside i) e)

pub operand-named : (sight : Sight) (at : Place) (e : MaybeExp) → Gives (λ x. IfSome x (IsOperand at e)) (maybe_typed sight (in_aggregate at) e)
operand-named sight place.Outside e = weaker (λ x. Unit {0}) (λ x. IfSome x (IsOperand place.Outside e)) (maybe_typed sight place.Outside e) (λ x u. any x) (anything (maybe_typed sight place.Outside e))
  where
    any : (x : Option TypedTree) → IfSome x (IsOperand place.Outside e)
    any None = tt
    any (Some y) = tt
operand-named sight (place.Inside i) tree.no_exp = tt
operand-named sight (place.Inside i) (tree.some_exp e) = then (IsWritten inner e) (λ x. IfSome x (IsOperand (place.Inside i) (tree.some_exp e))) (typed sight (place.Inside inner) e) (λ x. Ok (Some x)) (exp-named sight inner e) (λ x h. h)
  where
    inner : Inside
    inner = record i { grouping = option_map (λ names. names_of i.components) i.grouping }

-- the operand of an analytic call, where it has one
pub call-operand-named : (sight : Sight) (i : Inside) (e : Exp) → Gives (λ x. IfSome x (IsOperand (place.Inside i) (operand_exp e))) (over_operand sight (place.Inside i) e)
call-operand-named sight i (tree.aggregate_over f tree.no_exp o) = tt
call-operand-named sight i (tree.aggregate_over f (tree.some_exp e) o) = then (IsWritten i e) (λ x. IfSome x (IsOperand (place.Inside i) (tree.some_exp e))) (typed sight (place.Inside i) e) (λ x. Ok (Some x)) (exp-named sight i e) (λ x h. h)
call-operand-named sight i (tree.value_window f e o) = then (IsWritten i e) (λ x. IfSome x (IsOperand (place.Inside i) (tree.some_exp e))) (typed sight (place.Inside i) e) (λ x. Ok (Some x)) (exp-named sight i e) (λ x h. h)
call-operand-named sight i (tree.shift f e n l o) = then (IsWritten i e) (λ x. IfSome x (IsOperand (place.Inside i) (tree.some_exp e))) (typed sight (place.Inside i) e) (λ x. Ok (Some x)) (exp-named sight i e) (λ x h. h)
call-operand-named sight i e = tt

-- ---- the aggregate
in-groups : (p : Settings) (grouping : Option (List (List ℕ))) (xs : List Component) (f : AggregateName) (component : Option (List ℕ)) (kind : Kind) → is_none grouping ≡ false → Aggregates xs (agg_kind f) component kind → IsTypedIn p grouping xs (exp.aggregate (record { kind = agg_kind f; component = component }) kind)
in-groups p None xs f component kind e h = absurd (true≢false e)
in-groups p (Some names) xs f component kind e h = h

call-gives : (env : Env) (i : Inside) (f : AggregateName) (component : Option (List ℕ)) (misused : Bool) (given : Option Kind) → (misused ≡ false → is_none i.grouping ≡ false) → (misused ≡ false → (kind : Kind) → given ≡ Some kind → Aggregates i.components (agg_kind f) component kind) → Gives (IsWellTyped env (place.Inside i)) (group_call_by f component misused given)
call-gives env i f component misused None grouped h = tt
call-gives env i f component misused (Some kind) grouped h =
    tested-then (IsWellTyped env (place.Inside i)) ((rule.AggregateMisuse, misused) ∷ []) (λ u. group_call f component kind)
    (λ passed. in-groups env.settings i.grouping i.components f component kind (grouped passed.0) (h passed.0 kind refl))

-- an aggregate of a value: over groups, or nothing
pub value-call-gives : (env : Env) (at : Place) (f : AggregateName) (grouped : Bool) (e : MaybeExp) (v : CompExp) → IsOperand at e (value v) → Gives (IsWellTyped env at) (aggregate_value at f grouped e v)
value-call-gives env place.Outside f grouped e v h = tt
value-call-gives env (place.Inside i) f grouped e v h =
    call-gives env i f (operand_name e v) ((grouped || is_none i.grouping) || is_none (operand_name e v)) (aggregate_kind f (exp_kind v)) (λ used. (or_parts grouped (is_none i.grouping) (parts used).0).1) (λ used kind given. of-named kind given (is_component e) refl (parts used).1)
  where
    parts : ((grouped || is_none i.grouping) || is_none (operand_name e v)) ≡ false → ((grouped || is_none i.grouping) ≡ false) × (is_none (operand_name e v) ≡ false)
    parts used = or_parts (grouped || is_none i.grouping) (is_none (operand_name e v)) used

    by-name : (kind : Kind) → aggregate_kind f (exp_kind v) ≡ Some kind → (o : Option (List ℕ)) → IfSome o (λ name. IsNamedIn i.components name v) → is_none o ≡ false → Aggregates i.components (agg_kind f) o kind
    by-name kind given None named some = absurd (true≢false some)
    by-name kind given (Some name) named some = (named.1, ap (kinds.aggregate_kind (agg_kind f)) (sym (ap exp_kind named.0)) ∙ given)

    of-named : (kind : Kind) → aggregate_kind f (exp_kind v) ≡ Some kind → (b : Bool) → is_component e ≡ b → is_none (cond b (column_name v) None) ≡ false → Aggregates i.components (agg_kind f) (cond b (column_name v) None) kind
    of-named kind given true same some = by-name kind given (column_name v) (h same) some
    of-named kind given false same some = absurd (true≢false some)

-- the number of points
counted : (xs : List Component) (f : AggregateName) (kind : Kind) → count_kind f ≡ Some kind → Aggregates xs (agg_kind f) None kind
counted xs aggregate.Count kind e = (refl, cc)
counted xs f kind e = cc

pub count-call-gives : (env : Env) (at : Place) (f : AggregateName) (grouped : Bool) → Gives (IsWellTyped env at) (count_call at f grouped)
count-call-gives env place.Outside f grouped = tt
count-call-gives env (place.Inside i) f grouped = go (is_some i.grouping) refl
  where
    there : (g : Option (List (List ℕ))) → is_some g ≡ true → is_none g ≡ false
    there None e = cc
    there (Some names) e = refl

    go : (b : Bool) → is_some i.grouping ≡ b → Gives (IsWellTyped env (place.Inside i)) (cond b (group_call_by f None grouped (count_kind f)) (Err rule.WrongKind))
    go true e = call-gives env i f None grouped (count_kind f) (λ used. there i.grouping e) (λ used kind given. counted i.components f kind given)
    go false e = tt
