-- The depth of clauses and joins: that of their operands and of the expressions that stand in them.
use Rattle.std.proofs.Common.{◌≤◌, ℕ, Bool, true, false, cond, not, List, [], ◌∷◌, ◌++◌, map, Option, Some, None, Result, Ok}
use Rattle.std.specs.List.{AllByRecursion, list_any}
use Rattle.std.specs.Option.{IfSome}
use Rattle.vtl_decimal.specs.Settings.{Settings}
use Rattle.vtl_cell.specs.ScalarKinds.{meets}
use Rattle.vtl_cell.specs.declared.kind.Kind.TheVariants as k
use Rattle.vtl_lists.specs.Results.{◌>>=◌}
use Rattle.vtl_lists.proofs.Alls.{all_append}
use Rattle.check_faults.specs.declared.rules.Rule.{Rule}
use Rattle.check_faults.specs.declared.rules.Rule.TheVariants as rule
use Rattle.vtl_syntax.specs.Trees as tree
use Rattle.vtl_syntax.specs.Trees.{Exp}
use Rattle.vtl_syntax.specs.declared.parts.Comp.{Comp}
use Rattle.vtl_syntax.specs.declared.parts.GroupPart.{GroupPart}
use Rattle.vtl_syntax.specs.declared.parts.Keeping.{Keeping}
use Rattle.vtl_syntax.specs.declared.parts.Keeping.TheVariants as keeping
use Rattle.vtl_syntax.specs.declared.parts.RenamePart.{RenamePart}
use Rattle.vtl_syntax.specs.declared.parts.SubPart.{SubPart}
use Rattle.vtl_syntax.specs.declared.word_groups.JoinKind.{JoinKind}
use Rattle.vtl_tree.specs.CompExp.{CompExp}
use Rattle.vtl_tree.specs.declared.structure.Structure.{Structure}
use Rattle.vtl_tree.specs.Nodes.{nodes_in, operand_nodes}
use Rattle.vtl_tree.specs.Trees as nodes
use Rattle.vtl_tree.specs.Trees.{FormTree, NodeTree, OperandTree, ValueTree, operands_of, structure_of}
use Rattle.check_shapes.specs.Clauses.{calc_form, pivot_form}
use Rattle.vtl_tree.specs.declared.names.Wanted.TheVariants as wanted
use Rattle.vtl_tree.specs.declared.renaming.Renaming.{Renaming}
use Rattle.vtl_tree.specs.Names.{name_of}
use Rattle.vtl_tree.specs.Kinds.{exp_kind}
use Rattle.check_operators.specs.Typed.{TypedTree, value, dataset, components_in, condition_in, dataset_in}
use Rattle.check_operators.specs.declared.places.Joined.{Joined}
use Rattle.check_operators.specs.declared.places.Place.{Place}
use Rattle.check_clauses.specs.Clauses.{filter_form, kept_of, keeping_form, keeping_tree, made_of, names_typed, pivot_names, pivot_of, references_in, renamed_of, renaming_form, sub_form, sub_of, subs_typed, unpivot_of}
use Rattle.check_clauses.specs.JoinOperands.{PartTyped, joined_node, last_naming, left_names, new_alias, operand_in, operands_in, using_names, with_part}
use Rattle.check_clauses.specs.Targets.{aggr_clause, aggr_tree, calc_clause, is_analytic, target_of}
use Rattle.check_expressions.specs.Typing.{as_dataset, body_end, calc_value, keeping_step, last_step, renaming_step, scalar_value}
use Rattle.check_groups.specs.Windowed.{target_typed}
use Rattle.check_clauses.specs.declared.targets.Made.{Made}
use Rattle.check_laws.specs.Gives.{Gives}
use Rattle.check_laws.proofs.DepthBounds.{AreOwnUpTo, IsItemUpTo, IsNodeUpTo, IsTreeUpTo, IsUpTo, IsValueUpTo, beside, calculated-up, clause-up, items-up, node-up, option-up}
use Rattle.check_laws.proofs.Groups.{IsAnalytic, target-analytic}
use Rattle.check_laws.proofs.Steps.{after, tested, then, weaker}

-- where this holds of calls
module _ (P : FormTree → Type 0) where
  pub tree-step : (d : ℕ) (r : Result NodeTree Rule) → Gives (IsNodeUpTo P d) r → Gives (IsTreeUpTo P d) (as_dataset r)
  tree-step d r h = then (IsNodeUpTo P d) (IsTreeUpTo P d) r (λ n. Ok (dataset n)) h (λ n k. k)

  -- ---- `filter`
  pub condition-up : (d : ℕ) (x : TypedTree) → IsTreeUpTo P d x → Gives (IsUpTo d) (condition_in x)
  condition-up d (value e) h = tested (IsUpTo d) ((rule.WrongKind, not (meets k.Bool (exp_kind e))) ∷ []) e (λ passed. h)
  condition-up d (dataset n) h = tt

  pub filter-up : (d : ℕ) (n : NodeTree) (x : TypedTree) → IsNodeUpTo P d n → IsTreeUpTo P d x → Gives (IsNodeUpTo P d) (filter_form n x)
  unfolding filter_form
  filter-up d n x h hx = then (IsUpTo d) (IsNodeUpTo P d) (condition_in x) (λ e. made_of (nodes.filter n e) (structure_of n)) (condition-up d x hx) (λ e k. node-up P d (structure_of n) (nodes.filter n e) h.some tt (k, tt) tt h.each)

  -- ---- clauses without expressions
  pub keeping-up : (d : ℕ) (j : Option Joined) (n : NodeTree) (x : Keeping) → IsNodeUpTo P d n → Gives (IsNodeUpTo P d) (keeping_form j n x)
  unfolding keeping_form
  keeping-up d j n x h = after (IsNodeUpTo P d) (names_typed j wanted.Value (components_in n) (references_in x)) (kept_of x n) (λ names. clause-up P d (keeping_tree x n names) _ (made x names))
    where
      made : (x : Keeping) (names : List (List ℕ)) (s : Structure) → IsNodeUpTo P d (nodes.node s (keeping_tree x n names))
      made (keeping.Keep rs) names s = node-up P d s (nodes.keep n names) h.some tt tt tt h.each
      made (keeping.Drop rs) names s = node-up P d s (nodes.drop_named n names) h.some tt tt tt h.each

  renamed-up : (d : ℕ) (n : NodeTree) (rs : List Renaming) → IsNodeUpTo P d n → Gives (IsNodeUpTo P d) (renamed_of n rs)
  renamed-up d n rs h = clause-up P d (nodes.rename n rs) _ (λ s. node-up P d s _ h.some tt tt tt h.each)

  pub renaming-up : (d : ℕ) (j : Option Joined) (n : NodeTree) (rs : List RenamePart) → IsNodeUpTo P d n → Gives (IsNodeUpTo P d) (renaming_form j n rs)
  unfolding renaming_form
  renaming-up d j n rs h = after (IsNodeUpTo P d) _ _ (λ done. renamed-up d n done h)

  pub sub-up : (d : ℕ) (p : Settings) (n : NodeTree) (ss : List SubPart) → IsNodeUpTo P d n → Gives (IsNodeUpTo P d) (sub_form p n ss)
  unfolding sub_form
  sub-up d p n ss h = after (IsNodeUpTo P d) (subs_typed p (components_in n) ss) (sub_of n) (λ items. clause-up P d (nodes.sub n items) _ (λ s. node-up P d s _ h.some tt tt tt h.each))

  pub pivot-up : (d : ℕ) (id m : Comp) (n : NodeTree) → IsNodeUpTo P d n → Gives (IsNodeUpTo P d) (pivot_of id m n)
  unfolding pivot_of
  pivot-up d id m n h =
      after (IsNodeUpTo P d) (pivot_names (name_of id) (name_of m) (components_in n)) (λ u. pivot_form (name_of id) (name_of m) (components_in n) >>= made_of (nodes.pivot n (name_of id) (name_of m)))
      (λ u. clause-up P d (nodes.pivot n (name_of id) (name_of m)) _ (λ s. node-up P d s _ h.some tt tt tt h.each))

  pub unpivot-up : (d : ℕ) (id m : Comp) (n : NodeTree) → IsNodeUpTo P d n → Gives (IsNodeUpTo P d) (unpivot_of id m n)
  unfolding unpivot_of
  unpivot-up d id m n h = clause-up P d (nodes.unpivot n (name_of id) (name_of m)) _ (λ s. node-up P d s _ h.some tt tt tt h.each)

  -- ---- `calc` and `aggr`
  -- the value of a target: a value, or an analytic call
  pub target-up : (d : ℕ) (p : Settings) (at : Place) (e : Exp) (plain : Result TypedTree Rule) (operand : Result (Option TypedTree) Rule) → Gives (IsTreeUpTo P d) plain → Gives (IsValueUpTo d) (calc_value p at e plain operand)
  target-up d p at e plain operand h = go e
    where
      scalar-up : Gives (IsValueUpTo d) (plain >>= scalar_value)
      scalar-up = then (IsTreeUpTo P d) (IsValueUpTo d) plain scalar_value h one
        where
          one : (x : TypedTree) → IsTreeUpTo P d x → Gives (IsValueUpTo d) (scalar_value x)
          one (value v) k = k
          one (dataset m) k = tt

      analytic-up : (e : Exp) → Gives (IsValueUpTo d) (operand >>= target_typed p at e)
      analytic-up e = after (IsValueUpTo d) operand (target_typed p at e) (λ x. weaker IsAnalytic (IsValueUpTo d) (target_typed p at e x) one (target-analytic p at e x))
        where
          one : (v : ValueTree) → IsAnalytic v → IsValueUpTo d v
          one (nodes.scalar e) k = absurd k
          one (nodes.analytic windowed) k = tt

      go : (e : Exp) → Gives (IsValueUpTo d) (calc_value p at e plain operand)
      go (tree.aggregate_over f x o) = analytic-up (tree.aggregate_over f x o)
      go (tree.value_window f x o) = analytic-up (tree.value_window f x o)
      go (tree.shift f x m l o) = analytic-up (tree.shift f x m l o)
      go (tree.rank o) = analytic-up (tree.rank o)
      go e = scalar-up

  pub calc-up : (d : ℕ) (n : NodeTree) (items : List nodes.ItemTree) → IsNodeUpTo P d n → AllByRecursion (IsItemUpTo d) items → Gives (IsNodeUpTo P d) (calc_clause n items)
  unfolding calc_clause
  calc-up d n items h all = go (list_any is_analytic items)
    where
      r : Result Structure Rule
      r = calc_form (map (target_of (components_in n)) items) (components_in n)

      go : (b : Bool) → Gives (IsNodeUpTo P d) (r >>= made_of (cond b (nodes.analytic_of n (nodes.of_items items)) (nodes.calc n items)))
      go true = clause-up P d (nodes.analytic_of n (nodes.of_items items)) r (λ s. node-up P d s _ h.some tt (items-up d items all) tt h.each)
      go false = clause-up P d (nodes.calc n items) r (λ s. node-up P d s _ h.some tt (items-up d items all) (calculated-up d items (structure_of n) s h.some all) h.each)

  pub aggr-up : (d : ℕ) (g : Option GroupPart) (n : NodeTree) (made : List Made) (having : Option CompExp) → IsNodeUpTo P d n → IfSome having (IsUpTo d) → Gives (IsNodeUpTo P d) (aggr_clause g n made having)
  unfolding aggr_clause
  aggr-up d g n made having h hc = clause-up P d (nodes.aggregate n (aggr_tree g n made having)) _ (λ s. node-up P d s _ h.some tt (option-up d having hc) tt h.each)

  -- ---- joins
  abbrev pub IsPartUpTo : ℕ → PartTyped → Type 0
  IsPartUpTo d x = IsTreeUpTo P d x.operand

  abbrev pub IsOperandUpTo : ℕ → OperandTree → Type 0
  IsOperandUpTo d o = IsNodeUpTo P d o.node

  pub part-up : (d : ℕ) (done : List PartTyped) (e : Exp) (alias : Option (List ℕ)) (x : TypedTree) → AllByRecursion (IsPartUpTo d) done → IsTreeUpTo P d x → Gives (AllByRecursion (IsPartUpTo d)) (with_part done e alias x)
  unfolding with_part
  part-up d done e alias x hd h = after (AllByRecursion (IsPartUpTo d)) (new_alias done e alias) (λ name. Ok (done ++ record { operand = x; alias = name } ∷ [])) (λ name. all_append (IsPartUpTo d) done (record { operand = x; alias = name } ∷ []) hd (h, tt))

  operand-up : (d : ℕ) (x : PartTyped) → IsPartUpTo d x → Gives (IsOperandUpTo d) (operand_in x)
  operand-up d x h = then (IsNodeUpTo P d) (IsOperandUpTo d) (dataset_in x.operand) (λ n. Ok (record { node = n; alias = x.alias })) (one x.operand h) (λ n k. k)
    where
      one : (y : TypedTree) → IsTreeUpTo P d y → Gives (IsNodeUpTo P d) (dataset_in y)
      one (value e) k = tt
      one (dataset n) k = k

  pub operands-up : (d : ℕ) (xs : List PartTyped) → AllByRecursion (IsPartUpTo d) xs → Gives (AllByRecursion (IsOperandUpTo d)) (operands_in xs)
  operands-up d [] h = tt
  operands-up d (x ∷ xs) h =
      then (IsOperandUpTo d) (AllByRecursion (IsOperandUpTo d)) (operand_in x) (λ o. operands_in xs >>= λ os. Ok (o ∷ os)) (operand-up d x h.0)
      (λ o k. then (AllByRecursion (IsOperandUpTo d)) (AllByRecursion (IsOperandUpTo d)) (operands_in xs) (λ os. Ok (o ∷ os)) (operands-up d xs h.1) (λ os all. (k, all)))

  operands-beside : (d : ℕ) (os : List OperandTree) → AllByRecursion (IsOperandUpTo d) os → AreOwnUpTo P d (operand_nodes (operands_of os))
  operands-beside d [] h = tt
  operands-beside d (o ∷ os) h = beside P d (nodes_in o.node) (operand_nodes (operands_of os)) h.0.each (operands-beside d os h.1)

  pub joined-up : (d : ℕ) (kind : JoinKind) (u : Option (List Comp)) (os : List OperandTree) → 1 ≤ d → AllByRecursion (IsOperandUpTo d) os → Gives (IsNodeUpTo P d) (joined_node kind u os)
  unfolding joined_node
  joined-up d kind u os some h =
      clause-up P d (nodes.join (operands_of os) (record { kind = kind; using = using_names u })) _ (λ s. node-up P d s _ some tt tt tt (operands-beside d os h))

  -- the end of a join's body
  last-up : (d : ℕ) (j : Joined) (n : NodeTree) → IsNodeUpTo P d n → Gives (IsNodeUpTo P d) (last_naming j n)
  unfolding last_naming
  last-up d j n h = renamed-up d n (left_names j (components_in n)) h

  pub end-up : (d : ℕ) (j : Option Joined) (x : Option Keeping) (rs : Option (List RenamePart)) (n : NodeTree) → IsNodeUpTo P d n → Gives (IsTreeUpTo P d) (body_end j x rs n)
  end-up d j x rs n h =
      then (IsNodeUpTo P d) (IsTreeUpTo P d) (keeping_step j x n >>= renaming_step j rs) (λ z. as_dataset (last_step j z)) (then (IsNodeUpTo P d) (IsNodeUpTo P d) (keeping_step j x n) (renaming_step j rs) (kept x n h) (renamed rs))
      (λ z hz. tree-step d (last_step j z) (last j z hz))
    where
      kept : (x : Option Keeping) (n : NodeTree) → IsNodeUpTo P d n → Gives (IsNodeUpTo P d) (keeping_step j x n)
      kept None n h = h
      kept (Some x) n h = keeping-up d j n x h

      renamed : (rs : Option (List RenamePart)) (n : NodeTree) → IsNodeUpTo P d n → Gives (IsNodeUpTo P d) (renaming_step j rs n)
      renamed None n h = h
      renamed (Some rs) n h = renaming-up d j n rs h

      last : (j : Option Joined) (n : NodeTree) → IsNodeUpTo P d n → Gives (IsNodeUpTo P d) (last_step j n)
      last None n h = h
      last (Some j) n h = last-up d j n h
