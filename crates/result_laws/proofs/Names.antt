-- The components of an expression that is made over data sets with names have names, where its words are names.
use Rattle.std.proofs.Common.{◌≡◌, inl, inr, Bool, true, false, cond, List, [], ◌∷◌, map, Some, None, sym, ap, ◌∙◌, subst}
use Rattle.std.specs.List.{AllByRecursion, filter}
use Rattle.std.specs.Option.{option_to_list}
use Rattle.vtl_lists.proofs.Alls.{all_append}
use Rattle.vtl_decimal.specs.Settings.{Settings}
use Rattle.vtl_tree.specs.Structure.{columns_of, of_role, same_name, same_role}
use Rattle.vtl_tree.specs.Structures.{Named}
use Rattle.vtl_tree.specs.declared.structure.Component.{Component}
use Rattle.vtl_tree.specs.declared.structure.Role.TheVariants as role
use Rattle.vtl_tree.specs.declared.structure.Structure.{Structure}
use Rattle.vtl_meaning.specs.AggregateShapes.{made_components}
use Rattle.vtl_tree.specs.Checks.{without_codes}
use Rattle.vtl_tree.specs.Columns.{identifiers_of, kind_named, measures_of}
use Rattle.vtl_meaning.specs.Made.{AreCombined, IsCombined}
use Rattle.vtl_scripts.specs.Made.{AreMade, AreMadeOperands, IsMade, IsMadeForm, maybe_structure, node_structures, operands_in}
use Rattle.vtl_meaning.specs.Shapes.{IsShaped, given_between, given_of_two, outcome_of, target_of}
use Rattle.vtl_tree.specs.Trees as nodes
use Rattle.vtl_tree.specs.Trees.{FormTree, NodeTree, NodeTrees, OperandTrees, structure_of}
use Rattle.vtl_tree.specs.Joins.{held_names}
use Rattle.vtl_tree.specs.Choices.{chosen}
use Rattle.vtl_tree.specs.ClauseShapes.{renamed}
use Rattle.vtl_tree.specs.Measures.{bool_var, given_measures}
use Rattle.vtl_tree.specs.Operands.{agreed_identifiers}
use Rattle.vtl_tree.specs.Pairs.{pair_identifiers}
use Rattle.vtl_tree.specs.Times.{flow_gives}
use Rattle.vtl_tree.specs.declared.calls.TimeOp.{TimeOp}
use Rattle.vtl_tree.specs.declared.calls.TimeOp.TheVariants as time
use Rattle.vtl_tree.specs.declared.choices.Choice.TheVariants as choice
use Rattle.vtl_tree.specs.declared.measures.Outcome.TheVariants as outcome
use Rattle.vtl_timing.specs.Timed.{HasGiven}
use Rattle.vtl_timing.specs.TimeShapes.{IsFlowed}
use Rattle.vtl_tree.specs.declared.renaming.Renaming.{Renaming}
use Rattle.vtl_meaning.proofs.Lists as lists
use Rattle.check_laws.proofs.Inner.{made-shaped}
use Rattle.result_laws.proofs.Components.{AreKnownNamed, ArePlain, Fits, IsPlain, agreed_named, all_weaker, analyzed_named, bool_var_named, calculated_named, check_named, chosen_named, found_named, given_named, made_named, pair_named, pivot_named, renamed_named, role_named, ruled_named, sided_named, uncoded_named, unpivot_named}
use Rattle.result_laws.proofs.Marks.{IsOperandPlain, given_back_named, joined_named, last_named}
use Rattle.result_laws.proofs.Words.{AreRenamings, FormHasWords, HasWords, HaveWords, IsColumnName, OperandsHaveWords, form_renamings, renamings_below}

-- ---- expressions
-- the names that a join gives back, inside its body
abbrev pub marks : Bool → FormTree → List Renaming
marks b form = cond b (form_renamings form) []

nothing : (b : Bool) → AreRenamings (cond b [] [])
nothing true = tt
nothing false = tt

either : (b : Bool) (rs : List Renaming) → AreRenamings rs → AreRenamings (cond b rs [])
either true rs h = h
either false rs h = tt

module _ (p : Settings) (known : Named) (all : AreKnownNamed known) where
  by_shape : (rs : List Renaming) (s : Structure) (xs : List Component) → s.components ≡ xs → ArePlain rs xs → ArePlain rs s.components
  by_shape rs s xs e h = subst (ArePlain rs) (sym e) h

  -- of operands outside of joins
  outside : (b : Bool) (s : Structure) (xs : List Component) → s.components ≡ xs → ArePlain [] xs → Fits (cond b [] []) s.components
  outside b s xs e h = (all_weaker (cond b [] []) s.components (by_shape [] s xs e h), nothing b)

  first_named : (b : Bool) (a : Structure) (bs : List Structure) (s : Structure) → ArePlain [] a.components → IsCombined a bs s → Fits (cond b [] []) s.components
  first_named b a bs s h is = outside b s _ is.shape (all_append (IsPlain []) (agreed_identifiers bs a.components) (measures_of a) (agreed_named [] bs a.components h) (role_named [] role.Measure a h))

  -- of a flow or a stock
  flow_named : (b : Bool) (a s : Structure) → ArePlain [] a.components → IsFlowed a s → Fits (cond b [] []) s.components
  flow_named b a s h is =
      outside b s _ is.shape
      (all_append (IsPlain []) (chosen choice.Except [] a.components) (given_measures outcome.Each flow_gives None a.components) (chosen_named [] choice.Except [] a.components h) (given_named [] outcome.Each flow_gives None a.components h))

  -- of a time operator
  timed_named : (b : Bool) (o : TimeOp) (a s : Structure) → ArePlain [] a.components → HasGiven o a s → Fits (cond b [] []) s.components
  timed_named b (time.Shift n) a s h is = outside b s a.components (ap (λ (z : Structure). z.components) is) h
  timed_named b (time.Fill f) a s h is = outside b s a.components (ap (λ (z : Structure). z.components) is) h
  timed_named b time.FlowToStock a s h is = flow_named b a s h is
  timed_named b time.StockToFlow a s h is = flow_named b a s h is

  mutual
    pub components_named : (b : Bool) (n : NodeTree) → IsMade p known n → HasWords p b n → Fits (cond b (renamings_below n) []) (structure_of n).components
    components_named b (nodes.node s form) m w = form_named b s form m.0 m.1 w

    pub form_named : (b : Bool) (s : Structure) (form : FormTree) → IsShaped s → IsMadeForm p known s form → FormHasWords p b form → Fits (marks b form) s.components
    form_named b s (nodes.named name) shaped m w = (all_weaker (cond b [] []) s.components (found_named (same_name name) known s all m), nothing b)
    form_named b s (nodes.measures o a) shaped m w =
        let xs = (structure_of a).components in
        let h = (components_named false a m.0 w).0 in
        outside b s _ m.1.shape
        (all_append (IsPlain []) (filter (λ x. same_role x.role role.Identifier) xs) (given_measures (outcome_of o.op) (given_between o) None xs) (role_named [] role.Identifier (structure_of a) h) (given_named [] (outcome_of o.op) (given_between o) None xs h))
    form_named b s (nodes.pair o a c) shaped m w =
        let ha = (components_named false a m.0 w.0).0 in
        let hc = (components_named false c m.1 w.1).0 in
        outside b s _ m.2.shape
        (all_append (IsPlain []) (pair_identifiers (structure_of a) (structure_of c)) (given_measures (outcome_of o) (given_of_two o) (Some (structure_of c).components) (structure_of a).components) (pair_named (structure_of a) (structure_of c) ha hc)
        (given_named [] (outcome_of o) (given_of_two o) (Some (structure_of c).components) (structure_of a).components ha))
    form_named b s (nodes.choose q a c) shaped m w =
        outside b s _ m.3.shape
        (all_append (IsPlain []) (agreed_identifiers (structure_of a ∷ structure_of c ∷ []) (structure_of q).components) (of_role role.Measure (structure_of a)) (agreed_named [] (structure_of a ∷ structure_of c ∷ []) (structure_of q).components (components_named false q m.0 w.0).0)
        (role_named [] role.Measure (structure_of a) (components_named false a m.1 w.1).0))
    form_named b s (nodes.member a x) shaped m w = outside b s _ m.2.shape (chosen_named [] choice.Keep (x ∷ []) (structure_of a).components (components_named false a m.0 w).0)
    form_named b s (nodes.filter a e) shaped m w = subst (λ (z : Structure). Fits (marks b (nodes.filter a e)) z.components) (sym m.1.same) (components_named b a m.0 w)
    form_named b s (nodes.calc a items) shaped m w =
        let h = components_named b a m.0 w.0 in
        (by_shape (marks b (nodes.calc a items)) s _ m.1.shape (calculated_named (marks b (nodes.calc a items)) (map (target_of (structure_of a).components) items) (structure_of a).components (lists.mapped (λ t. IsColumnName t.name) (target_of (structure_of a).components) items w.1) h.0), h.1)
    form_named b s (nodes.keep a names) shaped m w =
        let h = components_named b a m.0 w in
        (by_shape (marks b (nodes.keep a names)) s _ m.2.shape (chosen_named (marks b (nodes.keep a names)) choice.Keep names (structure_of a).components h.0), h.1)
    form_named b s (nodes.drop_named a names) shaped m w =
        let h = components_named b a m.0 w in
        (by_shape (marks b (nodes.drop_named a names)) s _ m.2.shape (chosen_named (marks b (nodes.drop_named a names)) choice.Drop names (structure_of a).components h.0), h.1)
    form_named b s (nodes.rename a pairs) shaped m (inl w) =
        let h = components_named b a m.0 w.0 in
        (by_shape (marks b (nodes.rename a pairs)) s _ m.2 (renamed_named (marks b (nodes.rename a pairs)) pairs (structure_of a).components w.1 h.0), h.1)
    form_named b s (nodes.rename a pairs) shaped m (inr w) =
        let h = components_named true a m.0 w.0 in
        (all_weaker (marks b (nodes.rename a pairs)) s.components (by_shape [] s _ (m.2 ∙ ap (λ l. map (renamed l) (structure_of a).components) w.1) (last_named (renamings_below a) (structure_of a).components h.0 h.1)), either b (renamings_below a) h.1)
    form_named b s (nodes.sub a items) shaped m w = outside b s _ m.1.shape (chosen_named [] choice.Drop (map (λ i. i.id) items) (structure_of a).components (components_named false a m.0 w.0).0)
    form_named b s (nodes.pivot a id x) shaped m w = outside b s _ m.1.shape (pivot_named id (kind_named x (columns_of (structure_of a))) (structure_of a) (components_named false a m.0 w.0).0 w.1)
    form_named b s (nodes.unpivot a id x) shaped m w =
        outside b s _ m.1.shape (unpivot_named id x (structure_of a) s (made-shaped p known a m.0).well_formed (components_named false a m.0 w.0).0 w.1 w.2 m.1 shaped)
    form_named b s (nodes.aggregate a spec) shaped m w =
        let rs = marks b (nodes.aggregate a spec) in
        let h = components_named b a m.0 w.0 in
        (by_shape rs s _ m.1.aggregated.shape (all_append (IsPlain rs) (chosen choice.By spec.grouping (structure_of a).components) (made_components spec.items (structure_of a).components) (chosen_named rs choice.By spec.grouping (structure_of a).components h.0) (made_named rs spec.items (structure_of a).components w.1 h.0)), h.1)
    form_named b s (nodes.analytic_of a spec) shaped m w =
        let rs = marks b (nodes.analytic_of a spec) in
        let h = components_named b a m.0 w.0 in
        (by_shape rs s _ m.1.analyzed.shape (analyzed_named rs spec (structure_of a).components w.1 h.0), h.1)
    form_named b s (nodes.time a o) shaped m w = timed_named b o (structure_of a) s (components_named false a m.0 w).0 m.1.given
    form_named true s (nodes.join os spec) shaped m w =
        let h = operands_named os m.0 w in
        (by_shape (form_renamings (nodes.join os spec)) s _ m.2 (joined_named spec.kind (operands_in os) h), given_back_named spec.kind (held_names spec.kind (operands_in os)) (operands_in os) h)
    form_named false s (nodes.join os spec) shaped m w = absurd w
    form_named b s (nodes.union ns) shaped m w = combined_named b ns s m.0 w m.1
    form_named b s (nodes.intersect ns) shaped m w = combined_named b ns s m.0 w m.1
    form_named b s (nodes.set_diff a c) shaped m w = first_named b (structure_of a) (structure_of c ∷ []) s (components_named false a m.0 w.0).0 m.2
    form_named b s (nodes.sym_diff a c) shaped m w = first_named b (structure_of a) (structure_of c ∷ []) s (components_named false a m.0 w.0).0 m.2
    form_named b s (nodes.exists_in a c r) shaped m w =
        outside b s _ m.2.shape
        (all_append (IsPlain []) (agreed_identifiers (structure_of c ∷ []) (structure_of a).components) (bool_var ∷ []) (agreed_named [] (structure_of c ∷ []) (structure_of a).components (components_named false a m.0 w.0).0) (bool_var_named, tt))
    form_named b s (nodes.check a i spec) shaped m w = outside b s _ m.2.shape (check_named (option_to_list (maybe_structure i)) (structure_of a).components (components_named false a m.0 w.0).0)
    form_named b s (nodes.check_datapoint a rules out) shaped m w = outside b s _ m.1.shape (ruled_named out (structure_of a) (components_named false a m.0 w.0).0)
    form_named b s (nodes.check_hierarchy a rules q out) shaped m w = outside b s _ m.1.shape (sided_named out rules.variable (structure_of a) (components_named false a m.0 w.0).0)
    form_named b s (nodes.hierarchy a rules q i out) shaped m w =
        let h = (components_named false a m.0 w.0).0 in
        outside b s _ m.1.shape
        (all_append (IsPlain []) (without_codes rules.variable (identifiers_of (structure_of a))) (measures_of (structure_of a)) (uncoded_named rules.variable (structure_of a) h) (role_named [] role.Measure (structure_of a) h))

    -- the components of the first operand
    combined_named : (b : Bool) (ns : NodeTrees) (s : Structure) → AreMade p known ns → HaveWords p ns → AreCombined (node_structures ns) s → Fits (cond b [] []) s.components
    combined_named b nodes.no_nodes s m w is = absurd is
    combined_named b (nodes.and_node n ns) s m w is = first_named b (structure_of n) (node_structures ns) s (components_named false n m.0 w.0).0 is

    operands_named : (os : OperandTrees) → AreMadeOperands p known os → OperandsHaveWords p os → AllByRecursion IsOperandPlain (operands_in os)
    operands_named nodes.no_operands m w = tt
    operands_named (nodes.operand n alias os) m w =
        (((components_named false n m.0 w.0).0, w.1), operands_named os m.1 w.2)
