-- An expression on data sets that is made over data sets with names is translated, where its words are names, its constants are held
-- and it is not too deep.
use Rattle.std.proofs.Common.{inl, inr, ◌≡◌, ◌≤◌, ℕ, zero, suc, Bool, true, false, cond, ◌||◌, not, List, [], ◌∷◌, ◌++◌, map, length, Option, Some, None, refl, sym, ap, ◌∙◌, arith}
use Rattle.std.proofs.lemmas.Bool.{false≢true}
use Rattle.std.proofs.lemmas.List.{length-map}
use Rattle.std.proofs.lemmas.List.Filters.{length-filter_both}
use Rattle.std.specs.List.{AllByRecursion, filter, flat_map, list_any}
use Rattle.std.specs.Option.{IfSome}
use Rattle.std.specs.Prelude.{option_to_list}
use Rattle.vtl_lists.specs.Apart.{all_apart}
use Rattle.vtl_cell.specs.Held.{IsHeld}
use Rattle.vtl_decimal.specs.Settings.{Settings}
use Rattle.vtl_cell.specs.declared.kind.Kind.{Kind}
use Rattle.vtl_lists.proofs.Aparts.{apart_parts}
use Rattle.vtl_lists.proofs.Alls.{all_back, all_front}
use Rattle.vtl_syntax.specs.Depth.{depth_limit}
use Rattle.vtl_syntax.specs.declared.statements.HierRule.{HierRule}
use Rattle.vtl_tree.specs.CompExp.{CompExp}
use Rattle.vtl_tree.specs.RuleItems.{items_of}
use Rattle.vtl_tree.specs.Structure.{most_components, names_of, same_name, same_role}
use Rattle.vtl_tree.specs.Structures.{Named}
use Rattle.vtl_tree.specs.declared.structure.Component.{Component}
use Rattle.vtl_tree.specs.declared.structure.Role.TheVariants as role
use Rattle.vtl_tree.specs.declared.structure.Structure.{Structure}
use Rattle.vtl_meaning.proofs.Places.{same_name-is}
use Rattle.vtl_tree.specs.Columns.{identifiers_of, kind_named, place_of}
use Rattle.vtl_meaning.specs.Made.{IsColumnAt, IsSub}
use Rattle.vtl_scripts.specs.Made.{AreMade, AreMadeOperands, IsMade, IsMadeForm, IsMadeMaybe}
use Rattle.vtl_tree.specs.Nodes.{all_nodes, form_nodes, maybe_nodes, nodes_in, operand_nodes}
use Rattle.vtl_meaning.specs.Operators.{calculated_exps, measured_exps, pair_exps}
use Rattle.vtl_meaning.specs.Shapes.{IsShaped}
use Rattle.vtl_tree.specs.Trees as nodes
use Rattle.vtl_tree.specs.Trees.{AnalyticTree, FormTree, ItemTree, MaybeNode, NodeTree, NodeTrees, OperandTrees, PointRuleTree, ValueTree, structure_of}
use Rattle.vtl_tree.specs.declared.clauses.SubItem.{SubItem}
use Rattle.vtl_tree.proofs.NotNullLemmas.{same_itself}
use Rattle.check_laws.specs.Depths.{analytic_exps, exps_in, held_exps, item_exps, made_exps, rule_exps, value_exps}
use Rattle.check_laws.proofs.DepthBounds.{AreNodesUpTo, AreUpTo, IsUpTo}
use Rattle.check_laws.proofs.Inner.{made-shaped}
use Rattle.vtl_meaning.proofs.Lists as lists
use Rattle.expressions_to_sql.specs.Held.{HoldsValues}
use Rattle.vtl_to_sql.specs.Accepted.{AllHoldValues, AnalyticHoldsValues, FormHoldsParts, HoldsParts, MadeHoldsValues, MaybeHoldsParts, NodesHoldParts, OperandsHoldParts, RuleHoldsValues, RulesHoldTexts, SidesHoldTexts}
use Rattle.selects_to_sql.specs.Writable.{AllCanBeWritten, CanBeWritten, HasValue}
use Rattle.vtl_to_sql.specs.Conditions.{AreNodesTranslated, AreOperandsTranslated, CanSidesBeWritten, IsFormTranslated, IsMaybeTranslated, IsTranslated}
use Rattle.groups_to_sql.specs.Writable.{CallsCanBeWritten, ValueCanBeWritten}
use Rattle.rules_to_sql.specs.Writable.{CanBeCondition, CanRuleBeWritten}
use Rattle.hierarchies_to_sql.specs.Writable.{CanBeSided, most_items}
use Rattle.result_laws.proofs.Components.{AreKnownNamed, codes_are_texts}
use Rattle.result_laws.proofs.Names.{components_named, form_named, marks}
use Rattle.result_laws.proofs.Words.{AreSided, AreValues, FormHasWords, HasWords, HaveWords, IsFilled, MaybeHasWords, OperandsHaveWords}
use Rattle.vtl_to_sql.proofs.AcceptedColumns.{columns_named}
use Rattle.vtl_to_sql.proofs.HeldLevels.{level_held}

-- ---- expressions
written : (e : CompExp) → HoldsValues e → IsUpTo depth_limit e → CanBeWritten e
written e h d = record { constants = h; shallow = omega arith }

all_written : (es : List CompExp) → AllHoldValues es → AreUpTo depth_limit es → AllCanBeWritten es
all_written es h d = lists.joined HoldsValues (IsUpTo depth_limit) CanBeWritten es written h d

maybe_written : (o : Option CompExp) (others : List CompExp) → IfSome o HoldsValues → AreUpTo depth_limit (option_to_list o ++ others) → IfSome o CanBeWritten
maybe_written None others h d = tt
maybe_written (Some e) others h d = written e h d.0

calls_written : (spec : AnalyticTree) (others : List CompExp) → AnalyticHoldsValues spec → AreUpTo depth_limit (analytic_exps spec ++ others) → CallsCanBeWritten spec
calls_written (nodes.of_measures o w) others h d = h
calls_written (nodes.of_items items) others h d = each items h (all_front (IsUpTo depth_limit) (flat_map item_exps items) others d)
  where
    one : (v : ValueTree) → MadeHoldsValues v → AreUpTo depth_limit (value_exps v) → ValueCanBeWritten v
    one (nodes.scalar e) h d = written e h d.0
    one (nodes.analytic x) h d = h

    each : (us : List ItemTree) → AllByRecursion (λ i. MadeHoldsValues i.value) us → AreUpTo depth_limit (flat_map item_exps us) → AllByRecursion (λ i. ValueCanBeWritten i.value) us
    each [] h d = tt
    each (u ∷ us) h d = (one u.value h.0 (all_front (IsUpTo depth_limit) (value_exps u.value) (flat_map item_exps us) d), each us h.1 (all_back (IsUpTo depth_limit) (value_exps u.value) (flat_map item_exps us) d))

-- ---- rules
condition_written : (e : CompExp) → HoldsValues e → IsUpTo depth_limit e → CanBeCondition e
condition_written e h d = record { constants = h; shallow = omega arith }

antecedent_written : (o : Option CompExp) (others : List CompExp) → IfSome o HoldsValues → AreUpTo depth_limit (option_to_list o ++ others) → IfSome o CanBeCondition
antecedent_written None others h d = tt
antecedent_written (Some e) others h d = condition_written e h d.0

rule_written : (r : PointRuleTree) → RuleHoldsValues r → AreUpTo depth_limit (rule_exps r) → CanRuleBeWritten r
rule_written r h d = record {
  name = h.name;
  antecedent = antecedent_written r.antecedent (r.condition ∷ []) h.antecedent d;
  condition = condition_written r.condition h.condition (all_back (IsUpTo depth_limit) (option_to_list r.antecedent) (r.condition ∷ []) d).0;
  errors = h.errors;
}

rules_written : (rules : List PointRuleTree) (others : List CompExp) → AllByRecursion RuleHoldsValues rules → AreUpTo depth_limit (flat_map rule_exps rules ++ others) → AllByRecursion CanRuleBeWritten rules
rules_written rules others h d = go rules h (all_front (IsUpTo depth_limit) (flat_map rule_exps rules) others d)
  where
    go : (rs : List PointRuleTree) → AllByRecursion RuleHoldsValues rs → AreUpTo depth_limit (flat_map rule_exps rs) → AllByRecursion CanRuleBeWritten rs
    go [] h d = tt
    go (r ∷ rs) h d = (rule_written r h.0 (all_front (IsUpTo depth_limit) (rule_exps r) (flat_map rule_exps rs) d), go rs h.1 (all_back (IsUpTo depth_limit) (rule_exps r) (flat_map rule_exps rs) d))

sides_written : (p : Settings) (rules : List HierRule) → RulesHoldTexts rules → AreSided rules → CanSidesBeWritten p rules
sides_written p rules h w = record {
  written = lists.joined SidesHoldTexts (λ r. length (items_of r) ≤ most_items) (CanBeSided p) rules
      (λ r held few. record { name = held.name; items = held.items; errors = record { code = held.code; level = level_held p r.error.level }; few = few }) h.texts w.few;
  some = w.some;
  few = h.few;
}

-- ---- no more texts that are apart than there are texts that they are among
IsAmong : List (List ℕ) → List ℕ → Type 0
IsAmong ys x = list_any (same_name x) ys ≡ true

some_passes : (f : List ℕ → Bool) (ys : List (List ℕ)) → list_any f ys ≡ true → 1 ≤ length (filter f ys)
some_passes f [] h = cc
some_passes f (y ∷ ys) h = go (f y) h (some_passes f ys)
  where
    go : (b : Bool) → (b || list_any f ys) ≡ true → (list_any f ys ≡ true → 1 ≤ length (filter f ys)) → 1 ≤ length (cond b (y ∷ filter f ys) (filter f ys))
    go true k ih = omega arith
    go false k ih = ih k

-- one that is apart from another is still among those that are not the other
still_among : (x z : List ℕ) (ys : List (List ℕ)) → same_name x z ≡ false → IsAmong ys z → IsAmong (filter (λ y. not (same_name x y)) ys) z
unfolding IsAmong
still_among x z [] apart h = h
still_among x z (y ∷ ys) apart h = go (same_name z y) refl (same_name x y) refl h (still_among x z ys apart)
  where
    kept : List (List ℕ)
    kept = filter (λ y. not (same_name x y)) ys

    go : (b : Bool) → same_name z y ≡ b → (q : Bool) → same_name x y ≡ q → (b || list_any (same_name z) ys) ≡ true → (list_any (same_name z) ys ≡ true → list_any (same_name z) kept ≡ true) → list_any (same_name z) (cond (not q) (y ∷ kept) kept) ≡ true
    go true e true d k ih = absurd (false≢true (sym apart ∙ ap (same_name x) (same_name-is z y e) ∙ d))
    go true e false d k ih = ap (λ b. b || list_any (same_name z) kept) e
    go false e true d k ih = ih k
    go false e false d k ih = ap (λ b. b || list_any (same_name z) kept) e ∙ ih k

no_more : (xs ys : List (List ℕ)) → all_apart same_name xs ≡ true → AllByRecursion (IsAmong ys) xs → length xs ≤ length ys
unfolding IsAmong
no_more [] ys apart all = omega arith
no_more (x ∷ xs) ys apart all =
    let parts = apart_parts same_name x xs apart in
    let others = filter (λ y. not (same_name x y)) ys in
    let rest = no_more xs others parts.1 (lists.joined (λ z. same_name x z ≡ false) (IsAmong ys) (IsAmong others) xs (λ z a k. still_among x z ys a k) parts.0 all.1) in
    omega (arith, rest, some_passes (same_name x) ys all.0, length-filter_both (same_name x) (λ y. not (same_name x y)) (λ y. refl) ys)

-- ---- `sub`
column_among : (place : ℕ) (name : List ℕ) (kind : Kind) (xs : List Component) → IsColumnAt place name kind xs → IsAmong (names_of xs) name
unfolding IsAmong
column_among place name kind [] h = absurd h
column_among zero name kind (x ∷ xs) h = ap (λ b. b || list_any (same_name name) (names_of xs)) (ap (same_name name) h.0 ∙ same_itself name)
column_among (suc place) name kind (x ∷ xs) h = ap (λ b. same_name name x.name || b) (column_among place name kind xs h) ∙ or_true (same_name name x.name)
  where
    or_true : (b : Bool) → (b || true) ≡ true
    or_true true = refl
    or_true false = refl

few_items : (p : Settings) (items : List SubItem) (a s : Structure) → IsShaped a → IsSub items a s → AreValues p items → length items ≤ most_components
few_items p items a s shaped is are =
    let among = lists.mapped (IsAmong (names_of (identifiers_of a))) (λ i. i.id) items (lists.weaker (λ i. _) (λ i. IsAmong (names_of (identifiers_of a)) i.id) items (λ i h. column_among (place_of i.id (identifiers_of a)) i.id (kind_named i.id (identifiers_of a)) (identifiers_of a) h.1) is.values) in
    omega
    (arith, no_more (map (λ i. i.id) items) (names_of (identifiers_of a)) are.apart among, length-map items (λ (i : SubItem). i.id), length-map (identifiers_of a) (λ (x : Component). x.name), length-filter_both (λ (x : Component). same_role x.role role.Identifier) (λ x. not (same_role x.role role.Identifier)) (λ x. refl) a.components, shaped.well_formed.few)

all_values : (p : Settings) (items : List SubItem) → AllByRecursion (λ i. IsHeld i.value) items → AreValues p items → AllByRecursion (HasValue p) items
all_values p items h are = lists.joined (λ i. IsHeld i.value) (λ i. IsFilled p i.value) (HasValue p) items (λ i held filled. record { held = held; ranged = filled.0; filled = filled.1 }) h are.filled

-- ---- expressions on data sets
module _ (p : Settings) (known : Named) (all : AreKnownNamed known) where
  -- the depths of operands beside each other
  left : (xs ys : List NodeTree) → AreNodesUpTo depth_limit (xs ++ ys) → AreNodesUpTo depth_limit xs
  left xs ys d = all_front (λ n. AreUpTo depth_limit (exps_in n)) xs ys d

  right : (xs ys : List NodeTree) → AreNodesUpTo depth_limit (xs ++ ys) → AreNodesUpTo depth_limit ys
  right xs ys d = all_back (λ n. AreUpTo depth_limit (exps_in n)) xs ys d

  made_shallow : (s : Structure) (form : FormTree) → AreUpTo depth_limit (exps_in (nodes.node s form)) → AreUpTo depth_limit (made_exps s form)
  made_shallow s form d = all_back (IsUpTo depth_limit) (held_exps form) (made_exps s form) d

  mutual
    pub node_translated : (b : Bool) (n : NodeTree) → IsMade p known n → HasWords p b n → HoldsParts n → AreNodesUpTo depth_limit (nodes_in n) → IsTranslated p n
    node_translated b (nodes.node s form) m w h d = (columns_named (marks b form) s (form_named p known all b s form m.0 m.1 w).0, form_translated b s form m.1 w h d.0 d.1)

    form_translated : (b : Bool) (s : Structure) (form : FormTree) → IsMadeForm p known s form → FormHasWords p b form → FormHoldsParts s form → AreUpTo depth_limit (exps_in (nodes.node s form)) → AreNodesUpTo depth_limit (form_nodes form) → IsFormTranslated p s form
    form_translated b s (nodes.named x) m w h own d = tt
    form_translated b s (nodes.measures o a) m w h own d = (node_translated false a m.0 w h.0 d, all_written (measured_exps o (structure_of a) s) h.1 (made_shallow s (nodes.measures o a) own))
    form_translated b s (nodes.pair o a c) m w h own d =
        (node_translated false a m.0 w.0 h.0 (left (nodes_in a) (nodes_in c) d), node_translated false c m.1 w.1 h.1 (right (nodes_in a) (nodes_in c) d), all_written (pair_exps o (structure_of a) (structure_of c) s) h.2 (made_shallow s (nodes.pair o a c) own))
    form_translated b s (nodes.choose q a c) m w h own d =
        let more = right (nodes_in q) (nodes_in a ++ nodes_in c) d in
        (node_translated false q m.0 w.0 h.0 (left (nodes_in q) (nodes_in a ++ nodes_in c) d), node_translated false a m.1 w.1 h.1 (left (nodes_in a) (nodes_in c) more), node_translated false c m.2 w.2 h.2 (right (nodes_in a) (nodes_in c) more))
    form_translated b s (nodes.member a x) m w h own d = node_translated false a m.0 w h d
    form_translated b s (nodes.filter a e) m w h own d = (node_translated b a m.0 w h.0 d, written e h.1 own.0)
    form_translated b s (nodes.calc a items) m w h own d = (node_translated b a m.0 w.0 h.0 d, all_written (calculated_exps items (structure_of a) s) h.1 (made_shallow s (nodes.calc a items) own))
    form_translated b s (nodes.keep a names) m w h own d = node_translated b a m.0 w h d
    form_translated b s (nodes.drop_named a names) m w h own d = node_translated b a m.0 w h d
    form_translated b s (nodes.rename a pairs) m (inl w) h own d = node_translated b a m.0 w.0 h d
    form_translated b s (nodes.rename a pairs) m (inr w) h own d = node_translated true a m.0 w.0 h d
    form_translated b s (nodes.sub a items) m w h own d = (node_translated false a m.0 w.0 h.0 d, all_values p items h.1 w.1, few_items p items (structure_of a) s (made-shaped p known a m.0) m.1 w.1)
    form_translated b s (nodes.pivot a id x) m w h own d = (node_translated false a m.0 w.0 h d, codes_are_texts id (structure_of a) (components_named p known all false a m.0 w.0).0 w.1)
    form_translated b s (nodes.unpivot a id x) m w h own d = node_translated false a m.0 w.0 h d
    form_translated b s (nodes.aggregate a spec) m w h own d = (node_translated b a m.0 w.0 h.0 d, maybe_written spec.having (made_exps s (nodes.aggregate a spec)) h.1 own)
    form_translated b s (nodes.analytic_of a spec) m w h own d = (node_translated b a m.0 w.0 h.0 d, calls_written spec (made_exps s (nodes.analytic_of a spec)) h.1 own)
    form_translated b s (nodes.time a o) m w h own d = node_translated false a m.0 w h d
    form_translated b s (nodes.union ns) m w h own d = nodes_translated ns m.0 w h d
    form_translated b s (nodes.intersect ns) m w h own d = nodes_translated ns m.0 w h d
    form_translated b s (nodes.set_diff a c) m w h own d =
        (node_translated false a m.0 w.0 h.0 (left (nodes_in a) (nodes_in c) d), node_translated false c m.1 w.1 h.1 (right (nodes_in a) (nodes_in c) d))
    form_translated b s (nodes.sym_diff a c) m w h own d =
        (node_translated false a m.0 w.0 h.0 (left (nodes_in a) (nodes_in c) d), node_translated false c m.1 w.1 h.1 (right (nodes_in a) (nodes_in c) d))
    form_translated b s (nodes.exists_in a c r) m w h own d =
        (node_translated false a m.0 w.0 h.0 (left (nodes_in a) (nodes_in c) d), node_translated false c m.1 w.1 h.1 (right (nodes_in a) (nodes_in c) d))
    form_translated true s (nodes.join os spec) m w h own d = (operands_translated os m.0 w h.0 d, h.1)
    form_translated false s (nodes.join os spec) m w h own d = absurd w
    form_translated b s (nodes.check a i spec) m w h own d =
        (node_translated false a m.0 w.0 h.0 (left (nodes_in a) (maybe_nodes i) d), maybe_translated i m.1 w.1 h.1 (right (nodes_in a) (maybe_nodes i) d), h.2)
    form_translated b s (nodes.check_datapoint a rules out) m w h own d =
        (node_translated false a m.0 w.0 h.0 d, record { written = rules_written rules.rules (made_exps s (nodes.check_datapoint a rules out)) h.1 own; some = w.1; few = h.2 })
    form_translated b s (nodes.check_hierarchy a rules q out) m w h own d = (node_translated false a m.0 w.0 h.0 d, sides_written p rules.rules h.1 w.1)
    form_translated b s (nodes.hierarchy a rules q i out) m w h own d = (node_translated false a m.0 w.0 h.0 d, sides_written p rules.rules h.1 w.1)

    nodes_translated : (ns : NodeTrees) → AreMade p known ns → HaveWords p ns → NodesHoldParts ns → AreNodesUpTo depth_limit (all_nodes ns) → AreNodesTranslated p ns
    nodes_translated nodes.no_nodes m w h d = tt
    nodes_translated (nodes.and_node n ns) m w h d =
        (node_translated false n m.0 w.0 h.0 (left (nodes_in n) (all_nodes ns) d), nodes_translated ns m.1 w.1 h.1 (right (nodes_in n) (all_nodes ns) d))

    maybe_translated : (i : MaybeNode) → IsMadeMaybe p known i → MaybeHasWords p i → MaybeHoldsParts i → AreNodesUpTo depth_limit (maybe_nodes i) → IsMaybeTranslated p i
    maybe_translated nodes.no_node m w h d = tt
    maybe_translated (nodes.some_node n) m w h d = node_translated false n m w h d

    operands_translated : (os : OperandTrees) → AreMadeOperands p known os → OperandsHaveWords p os → OperandsHoldParts os → AreNodesUpTo depth_limit (operand_nodes os) → AreOperandsTranslated p os
    operands_translated nodes.no_operands m w h d = tt
    operands_translated (nodes.operand n alias os) m w h d =
        (node_translated false n m.0 w.0 h.0 (left (nodes_in n) (operand_nodes os) d), operands_translated os m.1 w.2 h.1 (right (nodes_in n) (operand_nodes os) d))
