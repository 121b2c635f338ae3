-- Analytic operators: what a form gives fits its operand.
use Rattle.std.proofs.Common.{◌≡◌, ℕ, Bool, true, false, cond, not, List, [], ◌∷◌, ◌++◌, map, Option, Some, None, is_none, is_some, Result, Ok, Err, refl, sym, ap, ◌∙◌, subst}
use Rattle.std.specs.List.{AllByRecursion, filter}
use Rattle.std.specs.Option.{IfSome, option_map_or}
use Rattle.std.specs.Prelude.{option_and_then, unwrap_or}
use Rattle.vtl_lists.specs.Apart.{all_apart}
use Rattle.vtl_lists.specs.Results.{◌>>=◌}
use Rattle.vtl_lists.proofs.Sorts.{AllByRecursion-filter}
use Rattle.vtl_lists.proofs.Alls.{all_with}
use Rattle.vtl_decimal.specs.Settings.{Settings}
use Rattle.vtl_cell.specs.declared.kind.Kind.{Kind}
use Rattle.vtl_cell.specs.declared.kind.Kind.TheVariants as k
use Rattle.check_faults.specs.Rules.{Tests, ruled}
use Rattle.check_faults.specs.declared.rules.Rule.{Rule}
use Rattle.check_faults.specs.declared.rules.Rule.TheVariants as rule
use Rattle.vtl_syntax.specs.Trees.{Exp}
use Rattle.vtl_tree.specs.CompExp.{CompExp}
use Rattle.vtl_tree.specs.Structure.{columns_of, same_name, same_role}
use Rattle.vtl_tree.specs.Structures.{structure_of}
use Rattle.vtl_tree.specs.Structures as structures
use Rattle.vtl_tree.specs.declared.structure.Component.{Component}
use Rattle.vtl_tree.specs.declared.structure.Role.{Role}
use Rattle.vtl_tree.specs.declared.structure.Role.TheVariants as role
use Rattle.vtl_tree.specs.declared.structure.Structure.{Structure}
use Rattle.vtl_meaning.specs.AnalyticShapes as shapes
use Rattle.vtl_meaning.specs.AnalyticShapes.{IsMadeBy, IsTakenItem, IsTypedAnalytic, given_of, taken, takes}
use Rattle.vtl_tree.specs.Choices.{chosen, is_identifier_name}
use Rattle.vtl_tree.specs.ClauseShapes.{calculated, is_new, target_component}
use Rattle.check_shapes.specs.Clauses.{calc_form}
use Rattle.vtl_tree.specs.Columns.{column_named, kind_named, place_of}
use Rattle.vtl_tree.specs.Kinds.{exp_kind, given_kind}
use Rattle.vtl_cell.specs.Literals as literals
use Rattle.vtl_meaning.specs.Made.{IsColumnAt, IsTyped, IsValueOver, IsWindowOver, IsWindowed}
use Rattle.vtl_tree.specs.Measures.{any_unmet, given_measure, given_measures, is_measure, measures, namesake, paired}
use Rattle.check_shapes.specs.Measures.{measured_tests}
use Rattle.vtl_tree.specs.Names.{component_of}
use Rattle.check_shapes.specs.Shape.{shaped}
use Rattle.vtl_meaning.specs.Shapes as meant
use Rattle.vtl_meaning.specs.Shapes.{IsShaped, tree_kind}
use Rattle.vtl_tree.specs.Trees as nodes
use Rattle.vtl_tree.specs.Trees.{ItemTree, ValueTree}
use Rattle.vtl_tree.specs.declared.calls.AnalyticCall.{AnalyticCall}
use Rattle.vtl_tree.specs.declared.calls.AnalyticOp.{AnalyticOp}
use Rattle.vtl_tree.specs.declared.calls.AnalyticOp.TheVariants as op
use Rattle.vtl_tree.specs.declared.calls.Window.{Window}
use Rattle.vtl_tree.specs.declared.choices.Choice.TheVariants as choice
use Rattle.vtl_tree.specs.declared.measures.Outcome.TheVariants as outcome
use Rattle.vtl_tree.specs.declared.targets.Target.{Target}
use Rattle.vtl_meaning.proofs.AnalyticShaped.{fits}
use Rattle.vtl_meaning.proofs.Profiles.{value_gives}
use Rattle.vtl_meaning.proofs.ValueKinds.{value_is_of}
use Rattle.check_clauses.specs.Targets.{component_kind, target_of, value_kind}
use Rattle.check_groups.specs.Windowed as windowed
use Rattle.check_groups.specs.Windowed.{given_structure, is_misplaced, or_count, over_kind, over_structure, suits}
use Rattle.check_groups.specs.declared.calls.Call.{Call}
use Rattle.check_groups.specs.declared.calls.Needed.{Needed}
use Rattle.check_laws.specs.Gives.{Gives}
use Rattle.check_laws.proofs.Aggregated.{found-at, found-within}
use Rattle.vtl_meaning.proofs.FoundColumns.{at-found}
use Rattle.vtl_meaning.proofs.Lists as lists
use Rattle.check_laws.proofs.Measured.{met-measures}
use Rattle.check_laws.proofs.Shapes.{shaped-gives}
use Rattle.check_laws.proofs.Steps.{anything, tested, tested-then, then, weaker}
use Rattle.check_laws.proofs.WindowParts.{HasNames, IsCallFor, IsOperatorFor}

-- ---- kinds of components
null-same : (kind : Kind) → structures.is_null_kind kind ≡ literals.is_null_kind kind
null-same k.Null = refl
null-same k.Bool = refl
null-same k.Int = refl
null-same k.Num = refl
null-same k.Text = refl
null-same k.Day = refl
null-same k.Period = refl

abbrev HasKind : Component → Type 0
HasKind x = literals.is_null_kind x.kind ≡ false

has-kinds : (a : Structure) → IsShaped a → AllByRecursion HasKind a.components
has-kinds a is = lists.weaker (λ x. structures.is_null_kind x.kind ≡ false) HasKind a.components (λ x h. sym (null-same x.kind) ∙ h) is.kinds

some-is : {A : Type 0} (o : Option A) → is_none o ≡ false → (x : A) × (o ≡ Some x)
some-is None e = cc
some-is (Some x) e = (x, refl)

-- what an operator takes it gives a kind of
taken-is : (o : AnalyticOp) (kind : Kind) → takes o kind ≡ true → taken o kind ≡ Some (given_kind o kind)
taken-is o kind e = ap (λ b. cond b (Some (given_kind o kind)) None) e

-- ---- on each measure
module _ (p : Settings) (e : Exp) (a : Structure) (is : IsShaped a) (asked : Needed) (o : AnalyticOp) (w : Window) (for-o : IsOperatorFor p e (map (λ x. x.kind) (measures a.components)) asked o) (named : HasNames (columns_of a) w) where
  abbrev xs : List Component
  xs = a.components

  abbrev IsTakenMeasure : Component → Type 0
  IsTakenMeasure x = (takes o x.kind ≡ true) × (over_kind e x.kind ≡ Some (given_kind o x.kind))

  taken-measures : any_unmet (windowed.of_measure e) None xs ≡ false → AllByRecursion IsTakenMeasure (measures xs)
  taken-measures unmet =
      lists.joined HasKind Taken IsTakenMeasure (measures xs) (λ x some t. one x (t.0) (t.1 some))
      (AllByRecursion-filter HasKind is_measure xs (has-kinds a is))
      (all_with (λ x. is_none (paired (windowed.of_measure e) x.kind (namesake None x)) ≡ false) Fits (measures xs) (met-measures (windowed.of_measure e) None xs unmet) (lists.unmapped (λ kind. literals.is_null_kind kind ≡ false → (given : Kind) → over_kind e kind ≡ Some given → (takes o kind ≡ true) × (given ≡ given_kind o kind)) (λ x. x.kind) (measures xs) for-o.taken))
    where
      Fits : Component → Type 0
      Fits x = literals.is_null_kind x.kind ≡ false → (given : Kind) → over_kind e x.kind ≡ Some given → (takes o x.kind ≡ true) × (given ≡ given_kind o x.kind)

      Taken : Component → Type 0
      Taken x = (is_none (paired (windowed.of_measure e) x.kind (namesake None x)) ≡ false) × Fits x

      one : (x : Component) → is_none (over_kind e x.kind) ≡ false → ((given : Kind) → over_kind e x.kind ≡ Some given → (takes o x.kind ≡ true) × (given ≡ given_kind o x.kind)) → IsTakenMeasure x
      one x met fit =
          let given = some-is (over_kind e x.kind) met in
          let both = fit given.0 given.1 in
          (both.0, given.1 ∙ ap Some both.1)

  same-measures : (ms : List Component) → AllByRecursion IsTakenMeasure ms → map (given_measure (windowed.of_measure e) None) ms ≡ map (given_measure (shapes.of_measure o) None) ms
  same-measures [] h = refl
  same-measures (x ∷ ms) h =
      ap (λ given. record { name = x.name; role = role.Measure; kind = unwrap_or given x.kind; codes = None } ∷ map (given_measure (windowed.of_measure e) None) ms) (h.0.1 ∙ sym (taken-is o x.kind h.0.0))
      ∙ ap (λ l. given_measure (shapes.of_measure o) None x ∷ l) (same-measures ms h.1)

  pub measures-analyzed : suits asked w ≡ true → Gives (λ s. IsShaped s × IsWindowed p (nodes.of_measures o w) a s) (given_structure e xs)
  measures-analyzed fit =
      tested-then Q (measured_tests outcome.All (windowed.of_measure e) true xs) (λ u. shaped (chosen choice.Except [] xs ++ given_measures outcome.All (windowed.of_measure e) None xs))
      (λ passed. shaped-gives Q (chosen choice.Except [] xs ++ given_measures outcome.All (windowed.of_measure e) None xs) (λ s. (
        s,
        record {
          analyzed = fits p (nodes.of_measures o w) a _ (typed (taken-measures passed.0) s);
          values = record { partition = named.0; order = named.1; suited = sym (for-o.suited w) ∙ fit };
        },
      )))
    where
      Q : Structure → Type 0
      Q s = IsShaped s × IsWindowed p (nodes.of_measures o w) a s

      typed : AllByRecursion IsTakenMeasure (measures xs) → IsShaped (structure_of (chosen choice.Except [] xs ++ given_measures outcome.All (windowed.of_measure e) None xs)) → IsTypedAnalytic p (nodes.of_measures o w) a (structure_of (chosen choice.Except [] xs ++ given_measures outcome.All (windowed.of_measure e) None xs))
      typed h s = record {
        operand = is.well_formed;
        well_formed = s.well_formed;
        taken = (lists.weaker IsTakenMeasure (λ x. takes o x.kind ≡ true) (measures xs) (λ x t. t.0) h, for-o.proper);
        shape = ap (λ l. chosen choice.Except [] xs ++ l) (same-measures (measures xs) h);
      }

-- the tests of a call are that its operator may stand on a data set, and that its window suits it
abbrev tests : Call → Window → Tests
tests x w = (rule.AnalyticMisuse, is_misplaced x.op) ∷ (rule.AnalyticMisuse, not (suits x.needed w)) ∷ []

-- a result that stays as it is where a test is passed
kept : {A : Type 0} (P : A → Type 0) (r : Result A Rule) (f : A → Result A Rule) → ((x : A) → Gives (λ y. y ≡ x) (f x)) → (Gives P r) → Gives P (r >>= f)
kept P (Ok x) f same h = weaker (λ y. y ≡ x) P (f x) (λ y e. subst P (sym e) h) (same x)
kept P (Err broken) f same h = tt

pub over-analyzed : (p : Settings) (e : Exp) (a : Structure) (x : Call) (w : Window) → IsShaped a → IsCallFor p e (map (λ y. y.kind) (measures a.components)) x → HasNames (columns_of a) w
    → Gives (λ s. IsShaped s × IsWindowed p (nodes.of_measures (or_count x.op) w) a s) (over_structure e x w a.components)
unfolding over_structure
over-analyzed p e a x w is is-call named = go x.op refl is-call.0 (suits x.needed w) refl
  where
    r : Result Structure Rule
    r = given_structure e a.components

    Q : Option AnalyticOp → Structure → Type 0
    Q o s = IsShaped s × IsWindowed p (nodes.of_measures (or_count o) w) a s

    none : (P : Structure → Type 0) (t : Bool) (q : Tests) → t ≡ true → Gives P (r >>= λ s. ruled ((rule.AnalyticMisuse, t) ∷ q) s)
    none P t q e = then (λ s. Unit {0}) P r (λ s. ruled ((rule.AnalyticMisuse, t) ∷ q) s) (anything r) (λ s u. subst (λ b. Gives P (ruled ((rule.AnalyticMisuse, b) ∷ q) s)) (sym e) tt)

    go : (o : Option AnalyticOp) → x.op ≡ o → IfSome o (IsOperatorFor p e (map (λ y. y.kind) (measures a.components)) x.needed) → (fit : Bool) → suits x.needed w ≡ fit
        → Gives (Q o) (r >>= λ s. ruled ((rule.AnalyticMisuse, is_misplaced o) ∷ (rule.AnalyticMisuse, not fit) ∷ []) s)
    go None same h fit u = none (Q None) true ((rule.AnalyticMisuse, not fit) ∷ []) refl
    go (Some o) same h true u =
        kept (Q (Some o)) r (λ s. ruled ((rule.AnalyticMisuse, is_misplaced (Some o)) ∷ (rule.AnalyticMisuse, false) ∷ []) s)
        (λ s. tested (λ t. t ≡ s) ((rule.AnalyticMisuse, is_misplaced (Some o)) ∷ (rule.AnalyticMisuse, false) ∷ []) s (λ passed. refl))
        (measures-analyzed p e a is x.needed o w h named u)
    go (Some o) same h false u = then (λ s. Unit {0}) (Q (Some o)) r (λ s. ruled ((rule.AnalyticMisuse, is_misplaced (Some o)) ∷ (rule.AnalyticMisuse, true) ∷ []) s) (anything r) (λ s v. unsuited s (is_misplaced (Some o)))
      where
        unsuited : (s : Structure) (b : Bool) → Gives (Q (Some o)) (ruled ((rule.AnalyticMisuse, b) ∷ (rule.AnalyticMisuse, true) ∷ []) s)
        unsuited s true = tt
        unsuited s false = tt

-- ---- targets of `calc`

-- the value of a target: an expression that is typed over the operand's columns, or a call of a component that it takes
abbrev pub IsCallOver : Settings → Structure → AnalyticCall → Type 0
IsCallOver p a x = IsWindowOver (columns_of a) x.op x.window × IsMadeBy p (columns_of a) (tree_kind a.components (nodes.analytic x)) (nodes.analytic x)

-- a call of a component that is the first column of its name
pub component-call : (p : Settings) (e : Exp) (a : Structure) (asked : Needed) (o : AnalyticOp) (w : Window) (name : List ℕ) (v : CompExp) → IsShaped a → IsOperatorFor p e (exp_kind v ∷ []) asked o → HasNames (columns_of a) w
    → v ≡ column_named (columns_of a) name → IsColumnAt (place_of name (columns_of a)) name (kind_named name (columns_of a)) (columns_of a) → is_some (over_kind e (exp_kind v)) ≡ true → suits asked w ≡ true
    → IsCallOver p a (record { op = o; component = Some name; window = w })
component-call p e a asked o w name v is for-o named first there some fit = (record { partition = named.0; order = named.1; suited = sym (for-o.suited w) ∙ fit }, (given, for-o.proper))
  where
    found : (x : Component) × (component_of name (columns_of a) ≡ Some x) × (x.kind ≡ kind_named name (columns_of a))
    found = found-at name (kind_named name (columns_of a)) (columns_of a) there

    inside : component_of name a.components ≡ Some found.0
    inside = found-within a is.well_formed name found.0 found.1

    kind-is : exp_kind v ≡ found.0.kind
    kind-is = ap exp_kind first ∙ sym found.2

    has-kind : literals.is_null_kind (exp_kind v) ≡ false
    has-kind = ap literals.is_null_kind kind-is ∙ at-found HasKind name a.components found.0 (has-kinds a is) inside

    given-some : (o : Option Kind) → is_some o ≡ true → (x : Kind) × (o ≡ Some x)
    given-some None h = cc
    given-some (Some x) h = (x, refl)

    taken-here : takes o found.0.kind ≡ true
    taken-here = let g = given-some (over_kind e (exp_kind v)) some in ap (takes o) (sym kind-is) ∙ (for-o.taken.0 has-kind g.0 g.1).0

    given : given_of (columns_of a) o (Some name) ≡ Some (given_kind o (option_map_or (λ x. x.kind) (component_of name a.components) k.Null))
    given =
        ap (option_and_then (λ x. taken o x.kind)) found.1
        ∙ taken-is o found.0.kind taken-here
        ∙ ap (λ c. Some (given_kind o (option_map_or (λ x. x.kind) c k.Null))) (sym inside)

pub rank-call : (p : Settings) (e : Exp) (a : Structure) (asked : Needed) (w : Window) (ks : List Kind) → IsOperatorFor p e ks asked op.Rank → HasNames (columns_of a) w → suits asked w ≡ true → IsCallOver p a (record { op = op.Rank; component = None; window = w })
rank-call p e a asked w ks for-o named fit = (record { partition = named.0; order = named.1; suited = sym (for-o.suited w) ∙ fit }, (refl, for-o.proper))

-- ---- a list of targets
abbrev pub IsTargetValue : Settings → Structure → ValueTree → Type 0
IsTargetValue p a (nodes.scalar e) = IsTyped p (columns_of a) e
IsTargetValue p a (nodes.analytic x) = IsCallOver p a x

value-over : (p : Settings) (a : Structure) (v : ValueTree) → IsTargetValue p a v → IsValueOver p (columns_of a) v
value-over p a (nodes.scalar e) h = h
value-over p a (nodes.analytic x) h = h.0

value-made : (p : Settings) (a : Structure) (v : ValueTree) → IsTargetValue p a v → IsMadeBy p (columns_of a) (tree_kind a.components v) v
value-made p a (nodes.scalar e) h = record { of_kind = λ r i. value_is_of p (columns_of a) e r h i; of_profile = λ r i. value_gives p (columns_of a) e r h i }
value-made p a (nodes.analytic x) h = h.1

pub record IsTargetItem (p : Settings) (a : Structure) (i : ItemTree) : Type 0 where
  pub value : IsTargetValue p a i.value
  pub free : is_identifier_name a.components i.target ≡ false
  pub role : (r : Role) → unwrap_or i.role r ≡ role.Identifier → r ≡ role.Identifier

same-kind : (xs : List Component) (v : ValueTree) → value_kind xs v ≡ tree_kind xs v
same-kind xs (nodes.scalar e) = refl
same-kind xs (nodes.analytic x) = ap (given_kind x.op) (of x.component)
  where
    of : (c : Option (List ℕ)) → component_kind xs c ≡ option_map_or (λ name. option_map_or (λ y. y.kind) (component_of name xs) k.Null) c k.Null
    of None = refl
    of (Some name) = refl

same-targets : (xs : List Component) (items : List ItemTree) → map (target_of xs) items ≡ map (meant.target_of xs) items
same-targets xs [] = refl
same-targets xs (i ∷ items) = ap (λ kind. record { name = i.target; role = i.role; kind = kind } ∷ map (target_of xs) items) (same-kind xs i.value) ∙ ap (λ l. meant.target_of xs i ∷ l) (same-targets xs items)

taken-item : (p : Settings) (a : Structure) (i : ItemTree) → IsTargetItem p a i → IsTakenItem p a i
taken-item p a i h = record { made = value-made p a i.value h.value; free = h.free; role = go (unwrap_or i.role role.Measure) refl }
  where
    go : (r : Role) → unwrap_or i.role role.Measure ≡ r → same_role r role.Identifier ≡ false
    go role.Identifier e = let f : role.Measure ≡ role.Identifier = h.role role.Measure e in cc
    go role.Measure e = refl
    go role.Attribute e = refl

pub items-analyzed : (p : Settings) (items : List ItemTree) (a : Structure) → IsShaped a → all_apart same_name (map (λ i. i.target) items) ≡ true → AllByRecursion (IsTargetItem p a) items
    → Gives (λ s. IsShaped s × IsWindowed p (nodes.of_items items) a s) (calc_form (map (target_of a.components) items) a.components)
items-analyzed p items a is apart h =
    shaped-gives (λ s. IsShaped s × IsWindowed p (nodes.of_items items) a s) (map (calculated ts) xs ++ map target_component (filter (is_new xs) ts)) (λ s. (
      s,
      record {
        analyzed = fits p (nodes.of_items items) a _ (record {
          operand = is.well_formed;
          well_formed = s.well_formed;
          taken = (lists.weaker (IsTargetItem p a) (IsTakenItem p a) items (taken-item p a) h, apart);
          shape = ap (λ us. map (calculated us) xs ++ map target_component (filter (is_new xs) us)) (same-targets xs items);
        });
        values = lists.weaker (IsTargetItem p a) (λ i. IsValueOver p (columns_of a) i.value) items (λ i t. value-over p a i.value t.value) h;
      },
    ))
  where
    xs : List Component
    xs = a.components

    ts : List Target
    ts = map (target_of xs) items
