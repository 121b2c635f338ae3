-- The depth of values, and of what operators give of typed operands: at most one more than that of the operands.
use Rattle.std.proofs.Common.{◌≤◌, ℕ, suc, Bool, true, false, cond, List, [], ◌∷◌, ◌++◌, map, Option, Some, None, option_map, is_none, not, Result, Ok, Err, arith}
use Rattle.std.specs.List.{AllByRecursion}
use Rattle.std.specs.Map.{lookup}
use Rattle.vtl_decimal.specs.Settings.{Settings}
use Rattle.vtl_cell.specs.declared.operator.ScalarOp.{ScalarOp}
use Rattle.vtl_lists.specs.Results.{◌>>=◌}
use Rattle.vtl_lists.proofs.Alls.{all_append}
use Rattle.vtl_cell.specs.OperatorKinds.{kind_by_operands}
use Rattle.check_faults.specs.Rules.{ruled}
use Rattle.check_faults.specs.declared.rules.Rule.{Rule}
use Rattle.check_faults.specs.declared.rules.Rule.TheVariants as rule
use Rattle.vtl_syntax.specs.Trees.{Exp}
use Rattle.vtl_syntax.specs.declared.parts.Comp.{Comp}
use Rattle.vtl_syntax.specs.declared.parts.Comp.TheVariants as comp
use Rattle.vtl_syntax.specs.declared.parts.Constant.{Constant}
use Rattle.vtl_syntax.specs.declared.parts.Literal.{Literal}
use Rattle.vtl_tree.specs.CompExp.{CompExp, call, column, const}
use Rattle.vtl_tree.specs.Structure.{same_name}
use Rattle.vtl_tree.specs.View.{comp_exps_of}
use Rattle.vtl_tree.specs.declared.structure.Component.{Component}
use Rattle.vtl_tree.specs.declared.structure.Structure.{Structure}
use Rattle.vtl_tree.specs.Nodes.{nodes_in}
use Rattle.vtl_tree.specs.Trees.{FormTree, NodeTree, choose, measures, named, pair, structure_of}
use Rattle.vtl_tree.specs.Names.{is_among, name_of}
use Rattle.check_values.specs.Calls.{call_form, call_kind, or_null}
use Rattle.check_values.specs.Columns.{column_from, column_typed}
use Rattle.vtl_tree.specs.Kinds.{exp_kind}
use Rattle.check_values.specs.Literals.{constant_cell, constant_typed, valued}
use Rattle.check_operators.specs.Operators.{Operands, if_placed, membership, no_operands, on_choice, on_datasets, on_measures, on_operands, on_pair, operator_form, parted, set_form, with_operand, with_value}
use Rattle.check_operators.specs.Places.{Env, Written, alone, component_typed, constant_form, known_by, member_inside, member_written, name_typed, written_typed}
use Rattle.check_operators.specs.Typed.{TypedTree, value, dataset, of_value}
use Rattle.check_operators.specs.declared.places.Inside.{Inside}
use Rattle.check_operators.specs.declared.places.Place.{Place}
use Rattle.check_operators.specs.declared.places.Place.TheVariants as place
use Rattle.check_expressions.specs.Typing.{behind, or_component}
use Rattle.check_laws.specs.Gives.{Gives}
use Rattle.check_laws.proofs.DepthBounds.{AreOwnUpTo, AreUpTo, IsNodeUpTo, IsTreeUpTo, IsUpTo, beside, call-up, dataset-up, measured-up, node-up, nodes-raised, pair-up, some-tree, tree-raised}
use Rattle.vtl_meaning.proofs.Lists as lists
use Rattle.check_laws.proofs.Steps.{after, tested, then, weaker}

-- where this holds of calls
module _ (P : FormTree → Type 0) where
  -- ---- values and names
  pub value-step : (d : ℕ) (r : Result CompExp Rule) → Gives (IsUpTo d) r → Gives (IsTreeUpTo P d) (r >>= of_value)
  value-step d (Ok e) h = h
  value-step d (Err broken) h = tt

  pub column-up : (d : ℕ) (name : List ℕ) (n : ℕ) (xs : List Component) → 1 ≤ d → Gives (IsUpTo d) (column_from name n xs)
  column-up d name n [] some = tt
  column-up d name n (x ∷ xs) some = go (same_name x.name name) (column-up d name (suc n) xs some)
    where
      go : (b : Bool) → Gives (IsUpTo d) (column_from name (suc n) xs) → Gives (IsUpTo d) (cond b (Ok (column n x.name x.kind)) (column_from name (suc n) xs))
      go true ih = some
      go false ih = ih

  component-up : (d : ℕ) (i : Inside) (name : List ℕ) → 1 ≤ d → Gives (IsTreeUpTo P d) (component_typed i name)
  component-up d i name some = then (IsUpTo d) (IsTreeUpTo P d) (column_typed name i.components) (alone i.grouping name) (column-up d name 0 i.components some) (λ e h. go i.grouping e h)
    where
      go : (g : Option (List (List ℕ))) (e : CompExp) → IsUpTo d e → Gives (IsTreeUpTo P d) (alone g name e)
      go None e h = h
      go (Some names) e h = after (IsTreeUpTo P d) (ruled ((rule.AggregateMisuse, not (is_among name names)) ∷ []) (tt {0})) (λ u. of_value e) (λ u. h)

  pub names-up : (d : ℕ) (env : Env) (at : Place) (c : Comp) → 1 ≤ d → Gives (IsTreeUpTo P d) (name_typed env at c)
  names-up d env place.Outside (comp.Name name) some = go (lookup (same_name name) env.known)
    where
      go : (o : Option Structure) → Gives (IsTreeUpTo P d) (known_by name o)
      go None = tt
      go (Some s) = node-up P d s (named name) some tt tt tt tt
  names-up d env place.Outside (comp.Quoted name) some = tt
  names-up d env (place.Inside i) c some = component-up d i (name_of c) some

  pub constants-up : (d : ℕ) (p : Settings) (c : Constant) → 1 ≤ d → Gives (IsTreeUpTo P d) (constant_form p c)
  constants-up d p c some = value-step d (constant_typed p c) (after (IsUpTo d) (valued (constant_cell p c)) (λ cell. Ok (const cell)) (λ cell. some))

  written-up : (d : ℕ) (i : Inside) (w : Written) → 1 ≤ d → Gives (IsTreeUpTo P d) (written_typed i w)
  unfolding written_typed
  written-up d i w some = after (IsTreeUpTo P d) _ _ (λ name. component-up d i name some)

  -- a component of the place, or else the rest
  pub or-component-up : (d : ℕ) (at : Place) (e : Exp) (c : Comp) (rest : Result TypedTree Rule) → 1 ≤ d → Gives (IsTreeUpTo P d) rest → Gives (IsTreeUpTo P d) (or_component (member_inside at e c) rest)
  or-component-up d place.Outside e c rest some h = h
  or-component-up d (place.Inside i) e c rest some h = go (member_written e c)
    where
      go : (o : Option Written) → Gives (IsTreeUpTo P d) (or_component (option_map (λ w. (i, w)) o) rest)
      go None = h
      go (Some w) = written-up d i w some

  -- ---- an operator on values
  call-form-up : (d : ℕ) (o : ScalarOp) (literals : Bool) (args : List CompExp) → AreUpTo d args → Gives (IsUpTo (suc d)) (call_form o literals args)
  call-form-up d o literals args h =
      tested (IsUpTo (suc d)) ((rule.WrongKind, is_none (kind_by_operands o (map exp_kind args))) ∷ (rule.WrongLiteral, is_none (call_kind o args)) ∷ (rule.WrongLiteral, not literals) ∷ []) (call o (or_null (call_kind o args)) (comp_exps_of args))
      (λ passed. call-up d o (or_null (call_kind o args)) args h)

  -- ---- an operator on data sets
  -- an operand, below an operator
  below : (d : ℕ) (n : NodeTree) → IsNodeUpTo P d n → AreOwnUpTo P (suc d) (nodes_in n)
  below d n h = nodes-raised P d (suc d) (nodes_in n) (omega arith) h.each

  measures-up : (d : ℕ) (o : ScalarOp) (literals : Bool) (before after' : List CompExp) (a : NodeTree) → IsNodeUpTo P d a → AreUpTo d before → AreUpTo d after' → Gives (IsTreeUpTo P (suc d)) (on_measures o literals before a after')
  unfolding on_measures
  measures-up d o literals before after' a ha hb hc =
      dataset-up P (suc d) (measures (record { op = o; before = before; after = after' }) a) _
      (λ s. node-up P (suc d) s _ (omega arith) tt (lists.weaker (IsUpTo d) (IsUpTo (suc d)) (before ++ after') (λ e k. omega arith) (all_append (IsUpTo d) before after' hb hc)) (measured-up d (record { op = o; before = before; after = after' }) (structure_of a) s ha.some hb hc) (below d a ha))

  pairs-up : (d : ℕ) (o : ScalarOp) (a b : NodeTree) → IsNodeUpTo P d a → IsNodeUpTo P d b → Gives (IsTreeUpTo P (suc d)) (on_pair o a b)
  unfolding on_pair
  pairs-up d o a b ha hb =
      dataset-up P (suc d) (pair o a b) _
      (λ s. node-up P (suc d) s _ (omega arith) tt tt (pair-up (suc d) o (structure_of a) (structure_of b) s (omega (arith, ha.some))) (beside P (suc d) (nodes_in a) (nodes_in b) (below d a ha) (below d b hb)))

  choices-up : (d : ℕ) (t a b : NodeTree) → IsNodeUpTo P d t → IsNodeUpTo P d a → IsNodeUpTo P d b → Gives (IsTreeUpTo P (suc d)) (on_choice t a b)
  unfolding on_choice
  choices-up d t a b ht ha hb =
      dataset-up P (suc d) _ _
      (λ s. node-up P (suc d) s (choose t a b) (omega arith) tt tt tt (beside P (suc d) (nodes_in t) (nodes_in a ++ nodes_in b) (below d t ht) (beside P (suc d) (nodes_in a) (nodes_in b) (below d a ha) (below d b hb))))

  placed : (d : ℕ) (fits literals : Bool) (form : Result TypedTree Rule) → Gives (IsTreeUpTo P d) form → Gives (IsTreeUpTo P d) (if_placed fits literals form)
  placed d true literals form h = h
  placed d false literals form h = tt

  datasets-up : (d : ℕ) (o : ScalarOp) (literals : Bool) (before : List CompExp) (ns : List NodeTree) (after' : List CompExp) → AreUpTo d before → AllByRecursion (IsNodeUpTo P d) ns → AreUpTo d after' → Gives (IsTreeUpTo P (suc d)) (on_datasets o literals before ns after')
  datasets-up d o literals before [] after' hb hn ha = tt
  datasets-up d o literals before (a ∷ []) after' hb hn ha = placed (suc d) _ _ _ (measures-up d o literals before after' a hn.0 hb ha)
  datasets-up d o literals [] (a ∷ b ∷ []) [] hb hn ha = placed (suc d) _ _ _ (pairs-up d o a b hn.0 hn.1.0)
  datasets-up d o literals [] (a ∷ b ∷ []) (y ∷ ys) hb hn ha = tt
  datasets-up d o literals (x ∷ xs) (a ∷ b ∷ []) after' hb hn ha = tt
  datasets-up d o literals [] (t ∷ a ∷ b ∷ []) [] hb hn ha = placed (suc d) _ _ _ (choices-up d t a b hn.0 hn.1.0 hn.1.1.0)
  datasets-up d o literals [] (t ∷ a ∷ b ∷ []) (y ∷ ys) hb hn ha = tt
  datasets-up d o literals (x ∷ xs) (t ∷ a ∷ b ∷ []) after' hb hn ha = tt
  datasets-up d o literals [] (t ∷ a ∷ b ∷ n ∷ ns) [] hb hn ha = tt
  datasets-up d o literals [] (t ∷ a ∷ b ∷ n ∷ ns) (y ∷ ys) hb hn ha = tt
  datasets-up d o literals (x ∷ xs) (t ∷ a ∷ b ∷ n ∷ ns) after' hb hn ha = tt

  -- ---- on all operands
  record ArePartedUpTo (d : ℕ) (o : Operands) : Type 0 where
    before : AreUpTo d o.before
    nodes : AllByRecursion (IsNodeUpTo P d) o.datasets
    after : AreUpTo d o.after

  with-value : (d : ℕ) (e : CompExp) (before : List CompExp) (ns : List NodeTree) (after' : List CompExp) → IsUpTo d e → AreUpTo d before → AllByRecursion (IsNodeUpTo P d) ns → AreUpTo d after' → ArePartedUpTo d (with_value e before ns after')
  with-value d e before [] after' h hb hn ha = record { before = all_append (IsUpTo d) before (e ∷ []) hb (h, tt); nodes = tt; after = ha }
  with-value d e before (n ∷ ns) after' h hb hn ha = record { before = hb; nodes = hn; after = all_append (IsUpTo d) after' (e ∷ []) ha (h, tt) }

  with-operand : (d : ℕ) (o : Operands) (x : TypedTree) → ArePartedUpTo d o → IsTreeUpTo P d x → ArePartedUpTo d (with_operand o x)
  with-operand d o (value e) are h = with-value d e o.before o.datasets o.after h are.before are.nodes are.after
  with-operand d o (dataset n) are h = record { before = are.before; nodes = all_append (IsNodeUpTo P d) o.datasets (n ∷ []) are.nodes (h, tt); after = are.after }

  all-parted : (d : ℕ) (o : Operands) (xs : List TypedTree) → ArePartedUpTo d o → AllByRecursion (IsTreeUpTo P d) xs → ArePartedUpTo d (parted o xs)
  all-parted d o [] are h = are
  all-parted d o (x ∷ xs) are h = all-parted d (with_operand o x) xs (with-operand d o x are h.0) h.1

  operands-up : (d : ℕ) (at : Place) (o : ScalarOp) (number literals : Bool) (before : List CompExp) (ns : List NodeTree) (after' : List CompExp) → AreUpTo d before → AllByRecursion (IsNodeUpTo P d) ns → AreUpTo d after' → Gives (IsTreeUpTo P (suc d)) (on_operands at o number literals before ns after')
  operands-up d place.Outside o number literals before [] after' hb hn ha = value-step (suc d) _ (call-form-up d o literals before hb)
  operands-up d (place.Inside i) o number literals before [] after' hb hn ha = value-step (suc d) _ (call-form-up d o literals before hb)
  operands-up d (place.Inside i) o number literals before (n ∷ ns) after' hb hn ha = tt
  operands-up d place.Outside o number literals before (n ∷ ns) after' hb hn ha = after (IsTreeUpTo P (suc d)) _ _ (λ u. datasets-up d o literals before (n ∷ ns) after' hb hn ha)

  operator-up : (d : ℕ) (at : Place) (o : ScalarOp) (number literals : Bool) (xs : List TypedTree) → AllByRecursion (IsTreeUpTo P d) xs → Gives (IsTreeUpTo P (suc d)) (operator_form at o number literals xs)
  unfolding operator_form
  operator-up d at o number literals xs h =
      let are = all-parted d no_operands xs (record { before = tt; nodes = tt; after = tt }) h in
      operands-up d at o _ literals (parted no_operands xs).before (parted no_operands xs).datasets (parted no_operands xs).after are.before are.nodes are.after

  -- ---- behind the operands, which are less deep
  pub operator-step : (c d : ℕ) (at : Place) (o : ScalarOp) (number literals : Bool) (r : Result (List TypedTree) Rule) → suc c ≤ d → Gives (AllByRecursion (IsTreeUpTo P c)) r → Gives (IsTreeUpTo P d) (r >>= operator_form at o number literals)
  operator-step c d at o number literals r le h =
      then (AllByRecursion (IsTreeUpTo P c)) (IsTreeUpTo P d) r (operator_form at o number literals) h
      (λ xs k. weaker (IsTreeUpTo P (suc c)) (IsTreeUpTo P d) (operator_form at o number literals xs) (λ x up. tree-raised P (suc c) d x le up) (operator-up c at o number literals xs k))

  -- one more operand
  pub behind-up : (d : ℕ) (done : List TypedTree) (r : Result TypedTree Rule) → AllByRecursion (IsTreeUpTo P d) done → Gives (IsTreeUpTo P d) r → Gives (AllByRecursion (IsTreeUpTo P d)) (r >>= behind done)
  behind-up d done r hd h = then (IsTreeUpTo P d) (AllByRecursion (IsTreeUpTo P d)) r (behind done) h (λ x k. all_append (IsTreeUpTo P d) done (x ∷ []) hd (k, tt))

  -- two operands, behind those that are done
  pub two-step : (c d : ℕ) (at : Place) (o : ScalarOp) (done : List TypedTree) (r s : Result TypedTree Rule) → suc c ≤ d → AllByRecursion (IsTreeUpTo P c) done → Gives (IsTreeUpTo P c) r → Gives (IsTreeUpTo P c) s → Gives (IsTreeUpTo P d) (r >>= behind done >>= λ xs. s >>= behind xs >>= operator_form at o true true)
  two-step c d at o done r s le hd hr hs =
      then (AllByRecursion (IsTreeUpTo P c)) (IsTreeUpTo P d) (r >>= behind done) (λ xs. s >>= behind xs >>= operator_form at o true true) (behind-up c done r hd hr)
      (λ xs hx. operator-step c d at o true true (s >>= behind xs) le (behind-up c xs s hx hs))

  -- ---- `in`
  pub set-step : (c d : ℕ) (p : Settings) (at : Place) (negated : Bool) (ls : List Literal) (r : Result TypedTree Rule) → suc c ≤ d → Gives (IsTreeUpTo P c) r → Gives (IsTreeUpTo P d) (r >>= set_form p at negated ls)
  unfolding set_form
  set-step c d p at negated ls r le h = then (IsTreeUpTo P c) (IsTreeUpTo P d) r (set_form p at negated ls) h
      (λ x k. after (IsTreeUpTo P d) _ (λ cells. operator_form at (membership negated) true true (x ∷ map (λ v. value (const v)) cells))
      (λ cells. weaker (IsTreeUpTo P (suc c)) (IsTreeUpTo P d) (operator_form at (membership negated) true true (x ∷ map (λ v. value (const v)) cells)) (λ y up. tree-raised P (suc c) d y le up)
      (operator-up c at (membership negated) true true (x ∷ map (λ v. value (const v)) cells) (k, lists.mapped (IsTreeUpTo P c) (λ v. value (const v)) cells (lists.every (λ v. IsUpTo c (const v)) cells (λ v. some-tree P c x k))))))
