-- Aggregates: what a form gives fits its operand.
use Rattle.std.proofs.Common.{◌≡◌, ℕ, suc, ◌+◌, Bool, true, false, cond, not, ◌&&◌, ◌||◌, List, [], ◌∷◌, ◌++◌, map, Option, Some, None, Ok, refl, sym, ap, ◌∙◌, subst, arith}
use Rattle.std.specs.List.{AllByRecursion, filter}
use Rattle.std.specs.Option.{IfSome, is_none}
use Rattle.std.specs.Prelude.{IsSome, option_and_then, unwrap_or}
use Rattle.vtl_lists.specs.Apart.{all_apart}
use Rattle.vtl_decimal.specs.Settings.{Settings}
use Rattle.vtl_cell.specs.declared.kind.Kind.{Kind}
use Rattle.vtl_cell.specs.declared.kind.Kind.TheVariants as k
use Rattle.vtl_cell.specs.declared.operator.AggKind.{AggKind}
use Rattle.vtl_lists.proofs.Aparts.{apart_parts}
use Rattle.vtl_lists.proofs.Alls.{all_append}
use Rattle.vtl_tuples.proofs.Lists.{filter_same}
use Rattle.vtl_syntax.specs.Trees.{Exp}
use Rattle.vtl_syntax.specs.declared.parts.Comp.{Comp}
use Rattle.vtl_syntax.specs.declared.parts.GroupPart.{GroupPart}
use Rattle.vtl_syntax.specs.declared.word_groups.AggregateName.{AggregateName}
use Rattle.vtl_syntax.specs.declared.word_groups.AggregateName.TheVariants as name
use Rattle.vtl_syntax.specs.declared.word_groups.GroupKind.{GroupKind}
use Rattle.vtl_syntax.specs.declared.word_groups.GroupKind.TheVariants as group
use Rattle.vtl_syntax.specs.declared.word_groups.WrittenRole.{WrittenRole}
use Rattle.vtl_syntax.specs.declared.word_groups.WrittenRole.TheVariants as written
use Rattle.vtl_tree.specs.CompExp.{CompExp, column, const, call, aggregate}
use Rattle.vtl_tree.specs.Structure.{IsStructure, columns_of, names_of, same_name, same_role}
use Rattle.vtl_tree.specs.Structures.{structure_of}
use Rattle.vtl_tree.specs.declared.expression.AggCall.{AggCall}
use Rattle.vtl_tree.specs.declared.structure.Component.{Component}
use Rattle.vtl_tree.specs.declared.structure.Role.TheVariants as role
use Rattle.vtl_tree.specs.declared.structure.Structure.{Structure}
use Rattle.vtl_cell.specs.AggregateKinds as kinds
use Rattle.vtl_meaning.specs.AggregateShapes as shapes
use Rattle.vtl_meaning.specs.AggregateShapes.{IsTypedAggregate, given_of}
use Rattle.vtl_tree.specs.Choices.{chosen, is_chosen, is_identifier}
use Rattle.vtl_tree.specs.ClauseShapes.{target_component}
use Rattle.check_shapes.specs.Clauses.{aggr_form}
use Rattle.vtl_tree.specs.Columns.{kind_named, place_of}
use Rattle.check_values.specs.Groupings.{choice_of, grouping_choice, grouping_names, grouping_of, grouping_typed}
use Rattle.vtl_meaning.specs.Made.{Aggregates, IsColumnAt, IsGroupCondition, IsGrouped, IsTypedInGroups}
use Rattle.vtl_tree.specs.Measures.{any_unmet, given_measures, measures, namesake, paired}
use Rattle.check_shapes.specs.Measures.{measured_form, measured_tests}
use Rattle.vtl_tree.specs.Names.{component_of, is_among}
use Rattle.check_shapes.specs.Names.{all_known}
use Rattle.check_shapes.specs.Shape.{shaped}
use Rattle.vtl_meaning.specs.Shapes.{IsShaped}
use Rattle.vtl_tree.specs.Trees.{AggTree}
use Rattle.vtl_tree.specs.declared.choices.Choice.TheVariants as choice
use Rattle.vtl_tree.specs.declared.names.Wanted.TheVariants as wanted
use Rattle.vtl_tree.specs.declared.specifications.AggItems.TheVariants as items
use Rattle.vtl_tree.proofs.NotNullLemmas.{same_itself}
use Rattle.vtl_meaning.proofs.AggregateShaped.{fits}
use Rattle.check_groups.specs.Aggregates.{agg_kind, of_measure, outcome_of}
use Rattle.check_clauses.specs.Targets.{call_in, is_aggregate, made_as, made_target, role_of, targets_in, with_made}
use Rattle.check_operators.specs.Typed.{value}
use Rattle.check_clauses.specs.declared.targets.Made.{Made}
use Rattle.check_laws.specs.Gives.{Gives}
use Rattle.vtl_meaning.proofs.FoundColumns.{IsFound, all-found, at-found, name-found, of-columns}
use Rattle.vtl_meaning.proofs.Lists as lists
use Rattle.vtl_meaning.proofs.Places.{same_name-sym}
use Rattle.check_laws.proofs.Measured.{met-measures}
use Rattle.check_laws.proofs.Shapes.{shaped-gives}
use Rattle.check_laws.proofs.Steps.{after, tested-then, then}

-- ---- grouping identifiers by their names

-- a name from which others are apart is not among those of some of them
none-among : (q : Component → Bool) (name : List ℕ) (xs : List Component) → AllByRecursion (λ n. same_name name n ≡ false) (names_of xs) → is_among name (names_of (filter q xs)) ≡ false
none-among q name [] h = refl
none-among q name (x ∷ xs) h = go (q x) (none-among q name xs h.1)
  where
    go : (b : Bool) → is_among name (names_of (filter q xs)) ≡ false → is_among name (names_of (cond b (x ∷ filter q xs) (filter q xs))) ≡ false
    go true ih = ap (λ c. c || is_among name (names_of (filter q xs))) (same_name-sym x.name name ∙ h.0) ∙ ih
    go false ih = ih

-- of components with distinct names those that pass are among the names of those that pass, and no other is
names-again : (q : Component → Bool) (xs : List Component) → all_apart same_name (names_of xs) ≡ true → AllByRecursion (λ x. is_among x.name (names_of (filter q xs)) ≡ q x) xs
names-again q [] h = tt
names-again q (x ∷ xs) h = (
  first (q x) refl,
  lists.joined (λ y. same_name x.name y.name ≡ false) (λ y. is_among y.name (names_of (filter q xs)) ≡ q y) (λ y. is_among y.name (names_of (filter q (x ∷ xs))) ≡ q y) xs (λ y apart ih. other y (q x) apart ∙ ih)
      (lists.unmapped (λ n. same_name x.name n ≡ false) (λ y. y.name) xs parts.0) (names-again q xs parts.1),
)
  where
    parts : AllByRecursion (λ n. same_name x.name n ≡ false) (names_of xs) × (all_apart same_name (names_of xs) ≡ true)
    parts = apart_parts same_name x.name (names_of xs) h

    first : (b : Bool) → q x ≡ b → is_among x.name (names_of (cond (q x) (x ∷ filter q xs) (filter q xs))) ≡ q x
    first true e = ap (λ b. is_among x.name (names_of (cond b (x ∷ filter q xs) (filter q xs)))) e ∙ ap (λ b. b || is_among x.name (names_of (filter q xs))) (same_itself x.name) ∙ sym e
    first false e = ap (λ b. is_among x.name (names_of (cond b (x ∷ filter q xs) (filter q xs)))) e ∙ none-among q x.name xs parts.0 ∙ sym e

    other : (y : Component) (b : Bool) → same_name x.name y.name ≡ false → is_among y.name (names_of (cond b (x ∷ filter q xs) (filter q xs))) ≡ is_among y.name (names_of (filter q xs))
    other y true apart = ap (λ c. c || is_among y.name (names_of (filter q xs))) apart
    other y false apart = refl

-- what a grouping chooses are identifiers
grouping-identifies : (g : Option GroupPart) (x : Component) → (is_identifier x && is_chosen (grouping_choice g) (grouping_names g) x) ≡ is_chosen (grouping_choice g) (grouping_names g) x
grouping-identifies None x = twice (is_identifier x) false
  where
    twice : (a b : Bool) → (a && (a && b)) ≡ (a && b)
    twice true b = refl
    twice false b = refl
grouping-identifies (Some g) x = by g.kind
  where
    twice : (a b : Bool) → (a && (a && b)) ≡ (a && b)
    twice true b = refl
    twice false b = refl

    by : (kind : GroupKind) → (is_identifier x && is_chosen (choice_of kind) (grouping_names (Some g)) x) ≡ is_chosen (choice_of kind) (grouping_names (Some g)) x
    by group.By = twice (is_identifier x) (is_among x.name (grouping_names (Some g)))
    by group.Except = twice (is_identifier x) (not (is_among x.name (grouping_names (Some g))))

-- the identifiers that a grouping chooses are those of their names
grouping-again : (g : Option GroupPart) (xs : List Component) → all_apart same_name (names_of xs) ≡ true → chosen choice.By (grouping_of g xs) xs ≡ chosen (grouping_choice g) (grouping_names g) xs
grouping-again g xs apart =
    filter_same (is_chosen choice.By (grouping_of g xs)) q xs
    (lists.weaker (λ x. is_among x.name (grouping_of g xs) ≡ q x) (λ x. is_chosen choice.By (grouping_of g xs) x ≡ q x) xs (λ x e. ap (λ b. is_identifier x && b) e ∙ grouping-identifies g x) (names-again q xs apart))
  where
    q : Component → Bool
    q = is_chosen (grouping_choice g) (grouping_names g)

pub grouping-is : (xs : List Component) (g : Option GroupPart) → Gives (λ names. names ≡ grouping_of g xs) (grouping_typed xs g)
grouping-is xs g = after (λ names. names ≡ grouping_of g xs) (all_known wanted.Identifier xs (grouping_names g)) (λ u. Ok (grouping_of g xs)) (λ u. refl)

-- ---- aggregates of all measures
same-outcome : (f : AggregateName) → outcome_of f ≡ shapes.outcome_of (agg_kind f)
same-outcome name.Sum = refl
same-outcome name.Avg = refl
same-outcome name.Count = refl
same-outcome name.Min = refl
same-outcome name.Max = refl
same-outcome name.Median = refl

is-some : {A : Type 0} (o : Option A) → is_none o ≡ false → IsSome o
is-some (Some x) e = refl
is-some None e = cc

pub aggregate-fits : (p : Settings) (f : AggregateName) (g : Option GroupPart) (a : Structure) (spec : AggTree) → IsShaped a → spec.items ≡ items.Measures (agg_kind f) → spec.grouping ≡ grouping_of g a.components → IfSome spec.having (IsGroupCondition p spec a)
    → Gives (λ s. IsShaped s × IsGrouped p spec a s) (measured_form (outcome_of f) (of_measure f) true (grouping_choice g) (grouping_names g) a.components)
aggregate-fits p f g a spec is made grouped condition =
    tested-then Q (measured_tests (outcome_of f) (of_measure f) true xs) (λ u. shaped (chosen (grouping_choice g) (grouping_names g) xs ++ given_measures (outcome_of f) (of_measure f) None xs))
    (λ passed. shaped-gives Q (chosen (grouping_choice g) (grouping_names g) xs ++ given_measures (outcome_of f) (of_measure f) None xs) (λ s. (s, record { aggregated = fits spec a _ (typed passed.0 s); condition = condition })))
  where
    xs : List Component
    xs = a.components

    Q : Structure → Type 0
    Q s = IsShaped s × IsGrouped p spec a s

    again : chosen choice.By spec.grouping xs ≡ chosen (grouping_choice g) (grouping_names g) xs
    again = ap (λ names. chosen choice.By names xs) grouped ∙ grouping-again g xs is.well_formed.distinct

    taken : any_unmet (of_measure f) None xs ≡ false → AllByRecursion (λ x. IsSome (kinds.aggregate_kind (agg_kind f) x.kind)) (measures xs)
    taken e = lists.weaker (λ x. is_none (paired (of_measure f) x.kind (namesake None x)) ≡ false) (λ x. IsSome (kinds.aggregate_kind (agg_kind f) x.kind)) (measures xs) (λ x met. is-some (kinds.aggregate_kind (agg_kind f) x.kind) met) (met-measures (of_measure f) None xs e)

    typed : any_unmet (of_measure f) None xs ≡ false → IsShaped (structure_of (chosen (grouping_choice g) (grouping_names g) xs ++ given_measures (outcome_of f) (of_measure f) None xs)) → IsTypedAggregate spec a (structure_of (chosen (grouping_choice g) (grouping_names g) xs ++ given_measures (outcome_of f) (of_measure f) None xs))
    typed e s = record {
      operand = is.well_formed;
      well_formed = s.well_formed;
      taken = subst (λ i. shapes.AreTaken i xs) (sym made) (taken e);
      grouping = grouped ∙ ap names_of (sym again);
      shape = ap (λ l. l ++ given_measures (outcome_of f) (of_measure f) None xs) (sym again)
          ∙ ap (λ o. chosen choice.By spec.grouping xs ++ given_measures o (of_measure f) None xs) (same-outcome f)
          ∙ ap (λ i. chosen choice.By spec.grouping xs ++ shapes.made_components i xs) (sym made);
    }

-- ---- the targets of `aggr`

-- its aggregate is of a component whose values it takes, and it is no identifier
pub record IsTarget (a : Structure) (m : Made) : Type 0 where
  pub taken : Aggregates (columns_of a) m.target.call.kind m.target.call.component m.kind
  pub role : same_role (unwrap_or m.target.role role.Measure) role.Identifier ≡ false

abbrev pub AreMadeTargets : Structure → List Made → Type 0
AreMadeTargets a made = AllByRecursion (IsTarget a) made

written-role : (r : Option WrittenRole) → same_role (unwrap_or (role_of r) role.Measure) role.Identifier ≡ false
written-role None = refl
written-role (Some written.Measure) = refl
written-role (Some written.Attribute) = refl

-- an aggregate of a component whose values it takes, with the kind that it gives
abbrev IsTaken : Structure → AggCall × Kind → Type 0
IsTaken a x = Aggregates (columns_of a) x.0.kind x.0.component x.1

-- one more target, whose value is typed over groups
pub target-more : (p : Settings) (names : List (List ℕ)) (a : Structure) (r : Option WrittenRole) (c : Comp) (e : Exp) (done : List Made) (v : CompExp) → AreMadeTargets a done → IsTypedInGroups p names (columns_of a) v → Gives (AreMadeTargets a) (with_made r c e done (value v))
unfolding with_made
target-more p names a r c e done v before typed =
    then (IsTaken a) (AreMadeTargets a) (call_in (is_aggregate e) v) (λ made. Ok (done ++ made_as r c made ∷ [])) (one (is_aggregate e) v typed)
    (λ made taken. all_append (IsTarget a) done (made_as r c made ∷ []) before (record { taken = taken; role = written-role r }, tt))
  where
    one : (b : Bool) (v : CompExp) → IsTypedInGroups p names (columns_of a) v → Gives (IsTaken a) (call_in b v)
    one true (aggregate x kind) h = h
    one true (column place n kind) h = tt
    one true (const x) h = tt
    one true (call o kind args) h = tt
    one false v h = tt

-- where a column of a name and a kind stands at its place, there is a component of this name, and it has the kind
pub found-at : (n : List ℕ) (kind : Kind) (xs : List Component) → IsColumnAt (place_of n xs) n kind xs → (x : Component) × (component_of n xs ≡ Some x) × (x.kind ≡ kind)
found-at n kind [] h = absurd h
found-at n kind (x ∷ xs) h = go (same_name x.name n) h (found-at n kind xs)
  where
    go : (b : Bool) → IsColumnAt (cond (not b) (1 + place_of n xs) 0) n kind (x ∷ xs) → (IsColumnAt (place_of n xs) n kind xs → (y : Component) × (component_of n xs ≡ Some y) × (y.kind ≡ kind)) → (y : Component) × (cond b (Some x) (component_of n xs) ≡ Some y) × (y.kind ≡ kind)
    go true h ih = (x, refl, h.1)
    go false h ih = let next : 1 + place_of n xs ≡ suc (place_of n xs) = omega arith in ih (subst (λ place. IsColumnAt place n kind (x ∷ xs)) next h)

-- a component that is found among the columns is found among the components
pub found-within : (a : Structure) → IsStructure a → (n : List ℕ) (x : Component) → component_of n (columns_of a) ≡ Some x → component_of n a.components ≡ Some x
found-within a is n x e =
    let found : IsFound a.components x = at-found (IsFound a.components) n (columns_of a) x (of-columns (IsFound a.components) a (all-found a is)) e in
    subst (λ m. component_of m a.components ≡ Some x) (name-found n (columns_of a) x e) found

given-target : (a : Structure) → IsStructure a → (f : AggKind) (component : Option (List ℕ)) (kind : Kind) → Aggregates (columns_of a) f component kind → given_of a.components f component ≡ Some kind
given-target a is f None kind h = subst (λ g. given_of a.components g None ≡ Some kind) (sym h.0) (ap Some (sym h.1))
given-target a is f (Some n) kind h =
    let x = found-at n (kind_named n (columns_of a)) (columns_of a) h.0 in
    ap (option_and_then (λ y. kinds.aggregate_kind f y.kind)) (found-within a is n x.0 x.1) ∙ ap (kinds.aggregate_kind f) x.2 ∙ h.1

-- the component that a target becomes
target-shape : (a : Structure) → IsStructure a → (m : Made) → IsTarget a m → target_component (made_target m) ≡ shapes.target_component a.components m.target
target-shape a is m h = ap (λ o. record { name = m.target.target; role = unwrap_or m.target.role role.Measure; kind = unwrap_or o k.Null; codes = None }) (sym (given-target a is m.target.call.kind m.target.call.component m.kind h.taken))

target-shapes : (a : Structure) → IsStructure a → (made : List Made) → AreMadeTargets a made → map target_component (map made_target made) ≡ map (shapes.target_component a.components) (targets_in made)
target-shapes a is [] h = refl
target-shapes a is (m ∷ made) h = ap (λ x. x ∷ map target_component (map made_target made)) (target-shape a is m h.0) ∙ ap (λ l. shapes.target_component a.components m.target ∷ l) (target-shapes a is made h.1)

targets-taken : (a : Structure) → IsStructure a → (made : List Made) → AreMadeTargets a made → shapes.AreTaken (items.Targets (targets_in made)) a.components
targets-taken a is [] h = tt
targets-taken a is (m ∷ made) h = ((subst IsSome (sym (given-target a is m.target.call.kind m.target.call.component m.kind h.0.taken)) refl, h.0.role), targets-taken a is made h.1)

pub aggr-fits : (p : Settings) (g : Option GroupPart) (a : Structure) (made : List Made) (spec : AggTree) → IsShaped a → AreMadeTargets a made → spec.items ≡ items.Targets (targets_in made) → spec.grouping ≡ grouping_of g a.components → IfSome spec.having (IsGroupCondition p spec a)
    → Gives (λ s. IsShaped s × IsGrouped p spec a s) (aggr_form (grouping_choice g) (grouping_names g) (map made_target made) a.components)
aggr-fits p g a made spec is targets same grouped condition =
    shaped-gives (λ s. IsShaped s × IsGrouped p spec a s) (chosen (grouping_choice g) (grouping_names g) xs ++ map target_component (map made_target made)) (λ s. (s, record { aggregated = fits spec a _ (typed s); condition = condition }))
  where
    xs : List Component
    xs = a.components

    again : chosen choice.By spec.grouping xs ≡ chosen (grouping_choice g) (grouping_names g) xs
    again = ap (λ names. chosen choice.By names xs) grouped ∙ grouping-again g xs is.well_formed.distinct

    typed : IsShaped (structure_of (chosen (grouping_choice g) (grouping_names g) xs ++ map target_component (map made_target made))) → IsTypedAggregate spec a (structure_of (chosen (grouping_choice g) (grouping_names g) xs ++ map target_component (map made_target made)))
    typed s = record {
      operand = is.well_formed;
      well_formed = s.well_formed;
      taken = subst (λ i. shapes.AreTaken i xs) (sym same) (targets-taken a is.well_formed made targets);
      grouping = grouped ∙ ap names_of (sym again);
      shape = ap (λ l. l ++ map target_component (map made_target made)) (sym again)
          ∙ ap (λ l. chosen choice.By spec.grouping xs ++ l) (target-shapes a is.well_formed made targets)
          ∙ ap (λ i. chosen choice.By spec.grouping xs ++ shapes.made_components i xs) (sym same);
    }
