-- Clauses on typed data sets.
use Rattle.std.proofs.Common.{◌≡◌, ℕ, Bool, true, false, cond, not, List, [], ◌∷◌, ◌++◌, map, Option, Some, None, Result, Ok, Err, refl, sym, ap, ◌∙◌, subst, true≢false}
use Rattle.std.specs.List.{AllByRecursion, list_any}
use Rattle.std.specs.Option.{IfSome}
use Rattle.std.specs.Prelude.{unwrap_or}
use Rattle.std.proofs.lemmas.Bool.{not-false}
use Rattle.vtl_decimal.specs.Settings.{Settings}
use Rattle.vtl_lists.specs.Apart.{all_apart}
use Rattle.vtl_cell.specs.Kinds.{is_of}
use Rattle.vtl_cell.specs.ScalarKinds.{meets}
use Rattle.vtl_cell.specs.declared.kind.Kind.{Kind}
use Rattle.vtl_cell.specs.declared.kind.Kind.TheVariants as k
use Rattle.vtl_lists.specs.Results.{◌>>=◌}
use Rattle.vtl_lists.proofs.Aparts.{none_same}
use Rattle.vtl_lists.proofs.Alls.{all_append}
use Rattle.check_faults.specs.declared.rules.Rule.{Rule}
use Rattle.check_faults.specs.declared.rules.Rule.TheVariants as rule
use Rattle.vtl_syntax.specs.declared.parts.Comp.{Comp}
use Rattle.vtl_syntax.specs.declared.parts.GroupPart.{GroupPart}
use Rattle.vtl_syntax.specs.declared.parts.Keeping.{Keeping}
use Rattle.vtl_syntax.specs.declared.parts.Keeping.TheVariants as keeping
use Rattle.vtl_syntax.specs.declared.parts.Literal.{Literal}
use Rattle.vtl_syntax.specs.declared.parts.Reference.{Reference}
use Rattle.vtl_syntax.specs.declared.parts.RenamePart.{RenamePart}
use Rattle.vtl_syntax.specs.declared.parts.SubPart.{SubPart}
use Rattle.vtl_syntax.specs.declared.word_groups.WrittenRole.{WrittenRole}
use Rattle.vtl_syntax.specs.declared.word_groups.WrittenRole.TheVariants as written
use Rattle.vtl_tree.specs.CompExp.{CompExp}
use Rattle.vtl_tree.specs.Structure.{same_name}
use Rattle.vtl_text.proofs.Apart.{apart_push}
use Rattle.vtl_tree.specs.declared.structure.Component.{Component}
use Rattle.vtl_tree.specs.declared.structure.Role.{Role}
use Rattle.vtl_tree.specs.declared.structure.Role.TheVariants as role
use Rattle.vtl_tree.specs.declared.structure.Structure.{Structure}
use Rattle.vtl_tree.specs.Trees as nodes
use Rattle.vtl_tree.specs.Trees.{FormTree, ItemTree, NodeTree, ValueTree, structure_of}
use Rattle.vtl_tree.specs.Choices.{chosen, is_identifier_name}
use Rattle.check_shapes.specs.Clauses.{aggr_form, calc_form, pivot_form, rename_form, target_tests, unpivot_form}
use Rattle.check_shapes.specs.Names.{known, known_name}
use Rattle.check_shapes.specs.Shape.{shaped}
use Rattle.vtl_tree.specs.declared.choices.Choice.TheVariants as choice
use Rattle.vtl_tree.specs.declared.names.Wanted.{Wanted}
use Rattle.vtl_tree.specs.declared.names.Wanted.TheVariants as wanted
use Rattle.vtl_tree.specs.declared.renaming.Renaming.{Renaming}
use Rattle.vtl_tree.specs.Names.{name_of}
use Rattle.check_values.specs.Groupings.{grouping_choice, grouping_names}
use Rattle.vtl_tree.specs.Kinds.{exp_kind}
use Rattle.check_values.specs.Literals.{kind_met, literal_cell, literal_kind, valued}
use Rattle.check_operators.specs.Places.{Env, at_points, columns_in, name_written, written_by}
use Rattle.check_operators.specs.Typed.{TypedTree, value, dataset, components_in, condition_in}
use Rattle.check_operators.specs.declared.places.Joined.{Joined}
use Rattle.check_operators.specs.declared.places.Place.TheVariants as place
use Rattle.check_clauses.specs.Clauses.{cell_as, filter_form, kept_of, keeping_form, made_of, name_known, names_typed, pivot_names, pivot_of, references_in, renamed_of, renaming_form, renamings_typed, sub_form, sub_item, sub_known, sub_names, sub_of, sub_value, subs_typed, unpivot_of}
use Rattle.check_clauses.specs.Targets.{aggr_clause, aggr_tree, calc_clause, calc_name, is_analytic, is_analytic_value, item_names, item_of, made_target, role_of, target_of, value_kind}
use Rattle.check_clauses.specs.declared.targets.Made.{Made}
use Rattle.vtl_meaning.specs.Made.{IsCalculated, IsFiltered, IsGroupCondition, IsGrouped, IsLeft, IsPivoted, IsRenamed, IsSub, IsTyped, IsUnpivoted, IsWindowed}
use Rattle.vtl_scripts.specs.Made.{IsMade}
use Rattle.vtl_meaning.specs.Operators.{value_exp}
use Rattle.vtl_meaning.specs.Reaches.{IsNearValue}
use Rattle.vtl_meaning.specs.Shapes.{IsChosen, IsRenamedBy, IsShaped, tree_kind}
use Rattle.check_laws.specs.Gives.{ArePassed, Gives}
use Rattle.check_laws.specs.WellTyped.{IsWellTyped}
use Rattle.check_laws.proofs.Aggregated.{AreMadeTargets, aggr-fits}
use Rattle.check_laws.proofs.Analyzed as analyzed
use Rattle.check_laws.proofs.Analyzed.{IsTargetItem, items-analyzed}
use Rattle.check_laws.proofs.Calculated.{IsItemFor, calculated-fits}
use Rattle.vtl_meaning.proofs.FoundColumns.{among-any}
use Rattle.check_laws.proofs.Inner.{made-shaped}
use Rattle.check_laws.proofs.Left.{IsItem, IsName, IsNamed, drop-fits, keep-fits, known-gives, sub-fits}
use Rattle.vtl_meaning.proofs.Lists as lists
use Rattle.check_laws.proofs.Literals.{literal-as, valued-gives, kind-met}
use Rattle.check_laws.proofs.Operators.{IsMadeWith}
use Rattle.check_laws.proofs.Renamed.{renamed-fits}
use Rattle.check_laws.proofs.Steps.{after, tested, then, weaker}
use Rattle.check_laws.proofs.Turned.{pivot-fits, unpivot-fits}
use Rattle.check_laws.proofs.Turns.{in-turn}

pub node-gives : (env : Env) (form : FormTree) (r : Result Structure Rule) → Gives (IsMadeWith env form) r → Gives (IsMade env.settings env.known) (r >>= made_of form)
node-gives env form (Ok s) h = h
node-gives env form (Err broken) h = tt

-- ---- `filter`
pub filter-gives : (env : Env) (j : Option Joined) (n : NodeTree) (x : TypedTree) → IsMade env.settings env.known n → IsWellTyped env (place.Inside (at_points j n)) x → Gives (IsMade env.settings env.known) (filter_form n x)
unfolding filter_form
filter-gives env j n (dataset m) is h = tt
filter-gives env j n (value e) is h =
    then (λ c. IsFiltered env.settings c (structure_of n) (structure_of n)) (IsMade env.settings env.known) (condition_in (value e)) (λ c. made_of (nodes.filter n c) (structure_of n))
    (tested (λ c. IsFiltered env.settings c (structure_of n) (structure_of n)) ((rule.WrongKind, not (meets k.Bool (exp_kind e))) ∷ []) e (λ passed. record { same = refl; condition = h; boolean = not-false (meets k.Bool (exp_kind e)) passed.0 }))
    (λ c fits. (made-shaped env.settings env.known n is, (is, fits)))

-- ---- `keep` and `drop`
name-gives : (j : Option Joined) (w : Wanted) (xs : List Component) (before : List (List ℕ)) (r : Reference) → Gives (IsName w xs) (name_known j w xs before r)
unfolding name_known
name-gives j w xs before r =
    after (IsName w xs) (name_written j (written_by r)) (known_name w xs before)
    (λ name. then (IsNamed w xs name) (IsName w xs) (known w xs before name) (λ x. Ok name) (known-gives w xs before name) (λ x h. (x, h)))

pub keeping-gives : (env : Env) (j : Option Joined) (n : NodeTree) (x : Keeping) → IsMade env.settings env.known n → Gives (IsMade env.settings env.known) (keeping_form j n x)
unfolding keeping_form
keeping-gives env j n x is =
    then (AllByRecursion (IsName wanted.Value (components_in n))) (IsMade env.settings env.known) (names_typed j wanted.Value (components_in n) (references_in x)) (kept_of x n) (in-turn (IsName wanted.Value (components_in n)) (name_known j wanted.Value (components_in n)) (name-gives j wanted.Value (components_in n)) (references_in x)) (go x)
  where
    shaped-n : IsShaped (structure_of n)
    shaped-n = made-shaped env.settings env.known n is

    go : (x : Keeping) (names : List (List ℕ)) → AllByRecursion (IsName wanted.Value (components_in n)) names → Gives (IsMade env.settings env.known) (kept_of x n names)
    go (keeping.Keep rs) names h = node-gives env (nodes.keep n names) (shaped (chosen choice.Keep names (components_in n))) (weaker (λ s. IsShaped s × IsLeft (structure_of n) s × IsChosen wanted.Value choice.Keep names (structure_of n) s) (IsMadeWith env (nodes.keep n names)) (shaped (chosen choice.Keep names (components_in n))) (λ s f. (f.0, (is, f.1, f.2))) (keep-fits wanted.Value names (structure_of n) shaped-n h))
    go (keeping.Drop rs) names h = node-gives env (nodes.drop_named n names) (shaped (chosen choice.Drop names (components_in n))) (weaker (λ s. IsShaped s × IsLeft (structure_of n) s × IsChosen wanted.Value choice.Drop names (structure_of n) s) (IsMadeWith env (nodes.drop_named n names)) (shaped (chosen choice.Drop names (components_in n))) (λ s f. (f.0, (is, f.1, f.2))) (drop-fits names (structure_of n) shaped-n h))

-- ---- `rename`
pub renamed-gives : (env : Env) (n : NodeTree) (rs : List Renaming) → IsMade env.settings env.known n → Gives (IsMade env.settings env.known) (renamed_of n rs)
renamed-gives env n rs is = node-gives env (nodes.rename n rs) (rename_form rs (components_in n)) (weaker (λ s. IsShaped s × IsRenamed (structure_of n) s × IsRenamedBy rs (structure_of n) s) (IsMadeWith env (nodes.rename n rs)) (rename_form rs (components_in n)) (λ s f. (f.0, (is, f.1, f.2))) (renamed-fits rs (structure_of n)))

pub renaming-gives : (env : Env) (j : Option Joined) (n : NodeTree) (rs : List RenamePart) → IsMade env.settings env.known n → Gives (IsMade env.settings env.known) (renaming_form j n rs)
unfolding renaming_form
renaming-gives env j n rs is = after (IsMade env.settings env.known) (renamings_typed j (components_in n) rs) (renamed_of n) (λ done. renamed-gives env n done is)

-- ---- `sub`
value-gives : (p : Settings) (kind : Kind) (l : Literal) → Gives (λ v. is_of kind v ≡ true) (sub_value p kind l)
value-gives p kind l =
    then (λ u. meets kind (literal_kind l) ≡ true) (λ v. is_of kind v ≡ true) (kind_met kind (literal_kind l)) (λ u. valued (cell_as p kind (literal_cell p l))) (kind-met kind (literal_kind l))
    (λ u m. valued-gives (λ v. is_of kind v ≡ true) (cell_as p kind (literal_cell p l)) (literal-as p kind l m))

item-gives : (p : Settings) (xs : List Component) (before : List (List ℕ)) (s : SubPart) → Gives (IsItem xs) (sub_known p xs before s)
unfolding sub_known
item-gives p xs before s =
    then (IsNamed wanted.Identifier xs (name_of s.component)) (IsItem xs) (known wanted.Identifier xs before (name_of s.component)) (λ x. sub_value p x.kind s.value >>= λ cell. Ok (sub_item (name_of s.component) cell)) (known-gives wanted.Identifier xs before (name_of s.component))
    (λ x named. then (λ v. is_of x.kind v ≡ true) (IsItem xs) (sub_value p x.kind s.value) (λ cell. Ok (sub_item (name_of s.component) cell)) (value-gives p x.kind s.value) (λ v is. (x, named, is)))

pub sub-gives : (env : Env) (n : NodeTree) (ss : List SubPart) → IsMade env.settings env.known n → Gives (IsMade env.settings env.known) (sub_form env.settings n ss)
unfolding sub_form
sub-gives env n ss is =
    then (AllByRecursion (IsItem (components_in n))) (IsMade env.settings env.known) (subs_typed env.settings (components_in n) ss) (sub_of n) (in-turn (IsItem (components_in n)) (λ done. sub_known env.settings (components_in n) (sub_names done)) (λ done. item-gives env.settings (components_in n) (sub_names done)) ss)
    (λ items h. node-gives env (nodes.sub n items) (shaped (chosen choice.Drop (sub_names items) (components_in n))) (weaker (λ s. IsShaped s × IsSub items (structure_of n) s) (IsMadeWith env (nodes.sub n items)) (shaped (chosen choice.Drop (sub_names items) (components_in n))) (λ s f. (f.0, (is, f.1))) (sub-fits items (structure_of n) (made-shaped env.settings env.known n is) h)))

-- ---- `pivot` and `unpivot`
pub pivot-gives : (env : Env) (id m : Comp) (n : NodeTree) → IsMade env.settings env.known n → Gives (IsMade env.settings env.known) (pivot_of id m n)
unfolding pivot_of
pivot-gives env id m n is =
    after (IsMade env.settings env.known) (pivot_names (name_of id) (name_of m) (components_in n)) (λ u. pivot_form (name_of id) (name_of m) (components_in n) >>= made_of (nodes.pivot n (name_of id) (name_of m)))
    (λ u. node-gives env (nodes.pivot n (name_of id) (name_of m)) (pivot_form (name_of id) (name_of m) (components_in n)) (weaker (λ s. IsShaped s × IsPivoted (name_of id) (name_of m) (structure_of n) s) (IsMadeWith env (nodes.pivot n (name_of id) (name_of m))) (pivot_form (name_of id) (name_of m) (components_in n)) (λ s f. (f.0, (is, f.1)))
    (pivot-fits (name_of id) (name_of m) (structure_of n) (made-shaped env.settings env.known n is))))

pub unpivot-gives : (env : Env) (id m : Comp) (n : NodeTree) → IsMade env.settings env.known n → Gives (IsMade env.settings env.known) (unpivot_of id m n)
unfolding unpivot_of
unpivot-gives env id m n is =
    node-gives env (nodes.unpivot n (name_of id) (name_of m)) (unpivot_form (name_of id) (name_of m) (components_in n)) (weaker (λ s. IsShaped s × IsUnpivoted (name_of id) (name_of m) (structure_of n) s) (IsMadeWith env (nodes.unpivot n (name_of id) (name_of m))) (unpivot_form (name_of id) (name_of m) (components_in n)) (λ s f. (f.0, (is, f.1))) (unpivot-fits (name_of id) (name_of m) (structure_of n)))

-- ---- `calc`
-- a value of a target: an expression that is typed over the operand's columns, or an analytic call of one of them that does not reach
-- too far
abbrev pub IsTargetValue : Settings → NodeTree → ValueTree → Type 0
IsTargetValue p n v = analyzed.IsTargetValue p (structure_of n) v × IsNearValue v

pub record IsTarget (p : Settings) (n : NodeTree) (i : ItemTree) : Type 0 where
  pub value : IsTargetValue p n i.value
  pub free : is_identifier_name (components_in n) i.target ≡ false
  pub role : (r : Role) → unwrap_or i.role r ≡ role.Identifier → r ≡ role.Identifier

pub record AreTargets (p : Settings) (n : NodeTree) (items : List ItemTree) : Type 0 where
  pub each : AllByRecursion (IsTarget p n) items
  pub apart : all_apart same_name (item_names items) ≡ true

pub name-free : (n : NodeTree) (done : List ItemTree) (c : Comp) → Gives (λ u. ArePassed (target_tests (components_in n) (item_names done) (name_of c))) (calc_name n done c)
name-free n done c = tested (λ u. ArePassed (target_tests (components_in n) (item_names done) (name_of c))) (target_tests (components_in n) (item_names done) (name_of c)) tt (λ h. h)

written-role : (r : Option WrittenRole) (q : Role) → unwrap_or (role_of r) q ≡ role.Identifier → q ≡ role.Identifier
written-role None q e = e
written-role (Some written.Measure) q e = cc
written-role (Some written.Attribute) q e = cc

names-more : (items : List ItemTree) (i : ItemTree) → item_names (items ++ i ∷ []) ≡ item_names items ++ i.target ∷ []
names-more [] i = refl
names-more (x ∷ items) i = ap (λ l. x.target ∷ l) (names-more items i)

pub item-more : (p : Settings) (n : NodeTree) (r : Option WrittenRole) (c : Comp) (done : List ItemTree) (v : ValueTree) → AreTargets p n done → ArePassed (target_tests (components_in n) (item_names done) (name_of c)) → IsTargetValue p n v → AreTargets p n (done ++ item_of r c v ∷ [])
item-more p n r c done v are passed is = record {
  each = all_append (IsTarget p n) done (item_of r c v ∷ []) are.each (record { value = is; free = passed.1.0; role = written-role r }, tt);
  apart = ap (all_apart same_name) (names-more done (item_of r c v)) ∙ apart_push (item_names done) (name_of c) are.apart (sym (among-any (name_of c) (item_names done)) ∙ passed.0);
}

item-for : (p : Settings) (n : NodeTree) (i : ItemTree) → IsTarget p n i → is_analytic i ≡ false → IsItemFor p (structure_of n) (target_of (components_in n)) i
item-for p n i is plain = go i.value refl is.value plain
  where
    go : (v : ValueTree) → i.value ≡ v → IsTargetValue p n v → is_analytic_value v ≡ false → IsItemFor p (structure_of n) (target_of (components_in n)) i
    go (nodes.scalar e) s t plain = record {
      same = ap (λ kind. record { name = i.target; role = i.role; kind = kind }) (ap (value_kind (components_in n)) s ∙ sym (ap (tree_kind (components_in n)) s));
      kind = ap (λ v. exp_kind (value_exp v)) s ∙ sym (ap (value_kind (components_in n)) s);
      role = is.role;
      typed = subst (λ v. IsTyped p (columns_in n) (value_exp v)) (sym s) t.0;
      free = is.free;
    }
    go (nodes.analytic call) s t plain = absurd (true≢false plain)

pub calc-gives : (env : Env) (n : NodeTree) (items : List ItemTree) → IsMade env.settings env.known n → AreTargets env.settings n items → Gives (IsMade env.settings env.known) (calc_clause n items)
unfolding calc_clause
calc-gives env n items is are = go (list_any is_analytic items) refl
  where
    r : Result Structure Rule
    r = calc_form (map (target_of (components_in n)) items) (components_in n)

    go : (b : Bool) → list_any is_analytic items ≡ b → Gives (IsMade env.settings env.known) (r >>= made_of (cond b (nodes.analytic_of n (nodes.of_items items)) (nodes.calc n items)))
    go true e =
        node-gives env (nodes.analytic_of n (nodes.of_items items)) r (weaker (λ s. IsShaped s × IsWindowed env.settings (nodes.of_items items) (structure_of n) s) (IsMadeWith env (nodes.analytic_of n (nodes.of_items items))) r
        (λ s f. (f.0, (is, f.1, lists.weaker (IsTarget env.settings n) (λ i. IsNearValue i.value) items (λ i t. t.value.1) are.each)))
        (items-analyzed env.settings items (structure_of n) (made-shaped env.settings env.known n is) are.apart
        (lists.weaker (IsTarget env.settings n) (IsTargetItem env.settings (structure_of n)) items (λ i t. record { value = t.value.0; free = t.free; role = t.role }) are.each)))
    go false e =
        node-gives env (nodes.calc n items) r (weaker (λ s. IsShaped s × IsCalculated env.settings items (structure_of n) s) (IsMadeWith env (nodes.calc n items)) r (λ s f. (f.0, (is, f.1)))
        (calculated-fits env.settings items (target_of (components_in n)) (structure_of n) (made-shaped env.settings env.known n is) are.apart (λ i. refl)
        (lists.joined (IsTarget env.settings n) (λ i. is_analytic i ≡ false) (IsItemFor env.settings (structure_of n) (target_of (components_in n))) items (item-for env.settings n) are.each (none_same is_analytic items e))))

-- ---- `aggr`
pub aggr-gives : (env : Env) (g : Option GroupPart) (n : NodeTree) (made : List Made) (having : Option CompExp) → IsMade env.settings env.known n → AreMadeTargets (structure_of n) made → IfSome having (IsGroupCondition env.settings (aggr_tree g n made having) (structure_of n)) → Gives (IsMade env.settings env.known) (aggr_clause g n made having)
unfolding aggr_clause
aggr-gives env g n made having is targets condition =
    node-gives env (nodes.aggregate n (aggr_tree g n made having)) (aggr_form (grouping_choice g) (grouping_names g) (map made_target made) (components_in n))
    (weaker (λ s. IsShaped s × IsGrouped env.settings (aggr_tree g n made having) (structure_of n) s) (IsMadeWith env (nodes.aggregate n (aggr_tree g n made having))) (aggr_form (grouping_choice g) (grouping_names g) (map made_target made) (components_in n)) (λ s h. (h.0, (is, h.1)))
    (aggr-fits env.settings g (structure_of n) made (aggr_tree g n made having) (made-shaped env.settings env.known n is) targets refl refl condition))
