-- The columns of a result of flows and stocks: the operand's identifiers, and a measure of the same name and kind for each of its measures.
use Rattle.std.proofs.Common.{◌≡◌, Bool, true, false, ◌&&◌, cond, List, [], ◌∷◌, ◌++◌, map, Some, None, refl, ap, sym, ◌∙◌, subst}
use Rattle.std.specs.List.{AllByRecursion, filter}
use Rattle.std.specs.Option.{option_map_or}
use Rattle.std.proofs.lemmas.List.{append-nil}
use Rattle.std.proofs.lemmas.List.Elements.{filter-append}
use Rattle.vtl_lists.proofs.Perms.{AllByRecursion-Perm}
use Rattle.vtl_lists.proofs.Sorts.{AllByRecursion-filter}
use Rattle.vtl_lists.proofs.Alls.{all_back, all_both, all_more, test_from_all}
use Rattle.vtl_cell.specs.AggregateKinds.{is_number}
use Rattle.vtl_cell.specs.Kinds.{same_kind}
use Rattle.vtl_cell.specs.Literals.{is_null_kind}
use Rattle.vtl_cell.specs.declared.kind.Kind.{Kind}
use Rattle.vtl_cell.specs.declared.kind.Kind.TheVariants as k
use Rattle.vtl_tree.specs.Choices.{chosen}
use Rattle.vtl_tree.specs.Columns.{identifiers_of, kind_named, measures_of, place_of}
use Rattle.vtl_tree.specs.Measures.{given_measure, measures}
use Rattle.vtl_tree.specs.Names.{component_of}
use Rattle.vtl_tree.specs.Operands.{is_alike, is_there}
use Rattle.vtl_tree.specs.Pairs.{contains}
use Rattle.vtl_tree.specs.Structure.{columns_of, of_role, same_role}
use Rattle.vtl_tree.specs.Times.{flow_components, flow_gives}
use Rattle.vtl_tree.specs.declared.choices.Choice.TheVariants as choice
use Rattle.vtl_tree.specs.declared.operands.Compared.TheVariants as compared
use Rattle.vtl_tree.specs.declared.structure.Component.{Component}
use Rattle.vtl_tree.specs.declared.structure.Role.{Role}
use Rattle.vtl_tree.specs.declared.structure.Role.TheVariants as role
use Rattle.vtl_tree.specs.declared.structure.Structure.{Structure}
use Rattle.vtl_meaning.specs.Made.{IsColumnAt}
use Rattle.vtl_meaning.proofs.AnalyticColumns.{by_roles, own_found}
use Rattle.vtl_meaning.proofs.OwnColumns.{columns_apart, own_measures}
use Rattle.vtl_meaning.proofs.AggregateShaped.{no_attribute}
use Rattle.vtl_meaning.proofs.AnalyticShaped.{no_measure}
use Rattle.vtl_timing.specs.TimeShapes.{IsFlowed}
use Rattle.vtl_timing.proofs.FlowsKept.{kind_kept}
use Rattle.selects_to_sql.proofs.Givens.{AreGiven}
use Rattle.selects_to_sql.proofs.OneOperand.{kind_at}

-- ---- kinds

-- a number, and no null
abbrev pub IsKept : Component → Type 0
IsKept x = (is_number x.kind ≡ true) × (is_null_kind x.kind ≡ false)

-- the measure that a measure becomes
abbrev pub kept : Component → Component
kept x = given_measure flow_gives None x

pub same_kind_kept : (x : Component) → (kept x).kind ≡ x.kind
same_kind_kept x = kind_kept (is_number x.kind) x.kind

some_kinds : (ms : List Component) → AllByRecursion (λ y. is_null_kind y.kind ≡ false) (map kept ms) → AllByRecursion (λ x. is_null_kind x.kind ≡ false) ms
some_kinds [] all = tt
some_kinds (m ∷ ms) all = (ap is_null_kind (sym (same_kind_kept m)) ∙ all.0, some_kinds ms all.1)

-- ---- roles

role_of_none : (xs : List Component) (r : Role) → ((t : Role) → same_role t role.Identifier ≡ true → same_role t r ≡ false) → filter (λ x. same_role x.role r) (chosen choice.Except [] xs) ≡ []
role_of_none [] r h = refl
role_of_none (x ∷ xs) r h = go (same_role x.role role.Identifier) refl (role_of_none xs r h)
  where
    rest : List Component
    rest = chosen choice.Except [] xs

    go : (b : Bool) → same_role x.role role.Identifier ≡ b → filter (λ y. same_role y.role r) rest ≡ [] → filter (λ y. same_role y.role r) (cond (b && true) (x ∷ rest) rest) ≡ []
    go true e ih = ap (λ b. cond b (x ∷ filter (λ y. same_role y.role r) rest) (filter (λ y. same_role y.role r) rest)) (h x.role e) ∙ ih
    go false e ih = ih

all_identify : (ys : List Component) → filter (λ x. same_role x.role role.Identifier) (chosen choice.Except [] ys) ≡ filter (λ x. same_role x.role role.Identifier) ys
all_identify [] = refl
all_identify (y ∷ ys) = go (same_role y.role role.Identifier) refl (all_identify ys)
  where
    identify : List Component → List Component
    identify zs = filter (λ x. same_role x.role role.Identifier) zs

    go : (b : Bool) → same_role y.role role.Identifier ≡ b → identify (chosen choice.Except [] ys) ≡ identify ys → identify (cond (b && true) (y ∷ chosen choice.Except [] ys) (chosen choice.Except [] ys)) ≡ cond b (y ∷ identify ys) (identify ys)
    go true e ih = ap (λ b. cond b (y ∷ identify (chosen choice.Except [] ys)) (identify (chosen choice.Except [] ys))) e ∙ ap (λ l. y ∷ l) ih
    go false e ih = ih

made_measures : (ms : List Component) → filter (λ x. same_role x.role role.Measure) (map kept ms) ≡ map kept ms
made_measures [] = refl
made_measures (m ∷ ms) = ap (λ l. kept m ∷ l) (made_measures ms)

made_identifiers : (ms : List Component) → filter (λ x. same_role x.role role.Identifier) (map kept ms) ≡ []
made_identifiers [] = refl
made_identifiers (m ∷ ms) = made_identifiers ms

made_attributes : (ms : List Component) → filter (λ x. same_role x.role role.Attribute) (map kept ms) ≡ []
made_attributes [] = refl
made_attributes (m ∷ ms) = made_attributes ms

-- ---- the result

alike_itself : (z : Component) → is_alike compared.Kinds z z ≡ true
alike_itself z = go z.role z.kind
  where
    kinds : (kind : Kind) → same_kind kind kind ≡ true
    kinds k.Null = refl
    kinds k.Bool = refl
    kinds k.Int = refl
    kinds k.Num = refl
    kinds k.Text = refl
    kinds k.Day = refl
    kinds k.Period = refl

    go : (r : Role) (kind : Kind) → (same_role r r && same_kind kind kind) ≡ true
    go role.Identifier kind = kinds kind
    go role.Measure kind = kinds kind
    go role.Attribute kind = kinds kind

-- a measure among the columns of the operand, and the one that it becomes among those of the result
pub record IsBoth (a s : Structure) (x : Component) : Type 0 where
  pub kind : IsKept x
  pub ours : IsColumnAt (place_of x.name (columns_of a)) x.name x.kind (columns_of a)
  pub our_kind : kind_named x.name (columns_of a) ≡ x.kind
  pub made : IsColumnAt (place_of x.name (columns_of s)) x.name x.kind (columns_of s)
  pub made_kind : kind_named x.name (columns_of s) ≡ x.kind

module _ (a s : Structure) (i : IsFlowed a s) where
  abbrev front : List Component
  front = chosen choice.Except [] a.components

  abbrev back : List Component
  back = map kept (measures a.components)

  of : (r : Role) → of_role r s ≡ filter (λ x. same_role x.role r) front ++ filter (λ x. same_role x.role r) back
  of r = ap (filter (λ x. same_role x.role r)) i.shape ∙ filter-append (λ x. same_role x.role r) front back

  pub identifiers_same : identifiers_of s ≡ identifiers_of a
  identifiers_same =
      of role.Identifier ∙ ap (λ l. filter (λ x. same_role x.role role.Identifier) front ++ l) (made_identifiers (measures a.components))
      ∙ append-nil (filter (λ x. same_role x.role role.Identifier) front) ∙ all_identify a.components

  pub measures_made : measures_of s ≡ map kept (measures_of a)
  measures_made = of role.Measure ∙ ap (λ l. l ++ filter (λ x. same_role x.role role.Measure) back) (role_of_none a.components role.Measure no_measure) ∙ made_measures (measures a.components)

  pub no_attributes : of_role role.Attribute s ≡ []
  no_attributes = of role.Attribute ∙ ap (λ l. l ++ filter (λ x. same_role x.role role.Attribute) back) (role_of_none a.components role.Attribute no_attribute) ∙ made_attributes (measures a.components)

  pub columns_made : columns_of s ≡ identifiers_of s ++ map kept (measures_of a)
  columns_made = ap (λ l. (identifiers_of s ++ measures_of s) ++ l) no_attributes ∙ append-nil (identifiers_of s ++ measures_of s) ∙ ap (λ l. identifiers_of s ++ l) measures_made

  -- the operand's identifiers are all of the result's
  pub contains_all : contains a s ≡ true
  contains_all =
      let P : Component → Type 0 = λ z. is_there compared.Kinds a.components z ≡ true in
      test_from_all (is_there compared.Kinds a.components) (identifiers_of s)
      (subst (AllByRecursion P) (sym identifiers_same)
      (AllByRecursion-filter P (λ x. same_role x.role role.Identifier) a.components
      (all_more (λ z. component_of z.name a.components ≡ Some z) P (λ z e. ap (λ o. option_map_or (is_alike compared.Kinds z) o false) e ∙ alike_itself z) a.components (own_found (λ (x : Component). x.name) a.components i.operand.distinct))))

  module _ (given : AreGiven (columns_of s)) where
    -- no measure has the kind of null
    pub kept_kinds : AllByRecursion IsKept (measures_of a)
    kept_kinds =
        let P : Component → Type 0 = λ y. is_null_kind y.kind ≡ false in
        let all : AllByRecursion P (flow_components a.components) = subst (AllByRecursion P) i.shape (AllByRecursion-Perm P (by_roles s.components) given.kinds) in
        all_both (λ x. is_number x.kind ≡ true) P IsKept (λ x n z. (n, z)) (measures a.components) i.numbers (some_kinds (measures a.components) (all_back P front back all))

    abbrev AreOurs : Component → Type 0
    AreOurs x = IsColumnAt (place_of x.name (columns_of a)) x.name x.kind (columns_of a)

    abbrev IsMadeThere : Component → Type 0
    IsMadeThere x = IsColumnAt (place_of x.name (columns_of s)) x.name (kept x).kind (columns_of s)

    made_there : (ms : List Component) → AllByRecursion (λ y. IsColumnAt (place_of y.name (columns_of s)) y.name y.kind (columns_of s)) (map kept ms) → AllByRecursion IsMadeThere ms
    made_there [] all = tt
    made_there (m ∷ ms) all = (all.0, made_there ms all.1)

    pub measures_both : AllByRecursion (IsBoth a s) (measures_of a)
    measures_both =
        let P : Component → Type 0 = λ y. IsColumnAt (place_of y.name (columns_of s)) y.name y.kind (columns_of s) in
        let made = made_there (measures_of a) (subst (AllByRecursion P) measures_made (own_measures s i.well_formed)) in
        all_both (λ x. IsKept x × AreOurs x) IsMadeThere (IsBoth a s)
        (λ x h m.
        let there = subst (λ kind. IsColumnAt (place_of x.name (columns_of s)) x.name kind (columns_of s)) (same_kind_kept x) m in
        record {
          kind = h.0;
          ours = h.1;
          our_kind = kind_at (place_of x.name (columns_of a)) x.name x.kind (columns_of a) h.1 (columns_apart a i.operand);
          made = there;
          made_kind = kind_at (place_of x.name (columns_of s)) x.name x.kind (columns_of s) there (columns_apart s i.well_formed);
        }) (measures_of a)
        (all_both IsKept AreOurs (λ x. IsKept x × AreOurs x) (λ x h o. (h, o)) (measures_of a) kept_kinds (own_measures a i.operand)) made
