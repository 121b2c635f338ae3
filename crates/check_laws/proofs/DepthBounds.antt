-- Expressions and nodes up to a depth.
use Rattle.std.proofs.Common.{◌≤◌, ℕ, suc, Bool, true, false, cond, List, [], ◌∷◌, ◌++◌, length, max, Option, Some, None, Result, Ok, Err, sym, subst, arith}
use Rattle.std.specs.List.{AllByRecursion, flat_map}
use Rattle.std.specs.Option.{IfSome, option_map_or}
use Rattle.std.specs.Prelude.{option_to_list}
use Rattle.vtl_cell.specs.declared.kind.Kind.{Kind}
use Rattle.vtl_cell.specs.declared.operator.ScalarOp.{ScalarOp}
use Rattle.vtl_lists.specs.Results.{◌>>=◌}
use Rattle.vtl_lists.proofs.Alls.{all_append, all_back, all_flat_map, all_front}
use Rattle.vtl_lists.proofs.Filters.{found_has}
use Rattle.check_faults.specs.declared.rules.Rule.{Rule}
use Rattle.vtl_syntax.specs.Depth.{deepest}
use Rattle.vtl_tree.specs.CompExp.{CompExp, column, const, call, aggregate}
use Rattle.vtl_tree.specs.Structure.{columns_of, same_name}
use Rattle.vtl_tree.specs.View.{comp_exps_of}
use Rattle.vtl_tree.specs.declared.structure.Component.{Component}
use Rattle.vtl_tree.specs.declared.structure.Structure.{Structure}
use Rattle.vtl_tree.specs.Nodes.{all_nodes, form_nodes, nodes_in}
use Rattle.vtl_tree.specs.Trees as nodes
use Rattle.vtl_tree.specs.Trees.{FormTree, ItemTree, MeasureTree, NodeTree, ValueTree}
use Rattle.vtl_tree.specs.Pairs.{contains}
use Rattle.check_operators.specs.Typed as typed
use Rattle.check_operators.specs.Typed.{TypedTree, value, dataset}
use Rattle.check_clauses.specs.Clauses as clauses
use Rattle.vtl_tree.specs.Columns.{column_behind, column_named, columns_named, identifiers_of, measures_of}
use Rattle.vtl_meaning.specs.Operators.{calculated_exp, calculated_exps, for_measures, measured_exps, pair_exps, target_named, value_exp, with_measure, with_namesake}
use Rattle.check_laws.specs.Called.{HoldsAt, HoldsOfCall, HoldsOfCalls, IsCallForm, IsCallOver}
use Rattle.check_laws.specs.Depths.{IsHeldUpTo, exps_in, held_exps, item_exps, made_exps, node_depth, value_exps}
use Rattle.vtl_tree.specs.Depths.{comp_depth, comps_depth}
use Rattle.check_laws.specs.Gives.{Gives}
use Rattle.vtl_meaning.proofs.Lists as lists

abbrev pub IsUpTo : ℕ → CompExp → Type 0
IsUpTo d e = comp_depth e ≤ d

abbrev pub AreUpTo : ℕ → List CompExp → Type 0
AreUpTo d es = AllByRecursion (IsUpTo d) es

abbrev pub AreNodesUpTo : ℕ → List NodeTree → Type 0
AreNodesUpTo d ns = AllByRecursion (λ n. AreUpTo d (exps_in n)) ns

-- the expressions that a form holds by itself; the rules of a call are those of a definition
abbrev pub own_exps : FormTree → List CompExp
own_exps (nodes.check_datapoint a rules out) = []
own_exps form = held_exps form

-- a node up to a depth, where this holds of the calls
abbrev pub IsOwnUpTo : (FormTree → Type 0) → ℕ → NodeTree → Type 0
IsOwnUpTo P d (nodes.node s form) = AreUpTo d (own_exps form) × AreUpTo d (made_exps s form) × HoldsOfCall P form

abbrev pub AreOwnUpTo : (FormTree → Type 0) → ℕ → List NodeTree → Type 0
AreOwnUpTo P d ns = AllByRecursion (IsOwnUpTo P d) ns

-- the expressions of a node and of all its operands; it is written by a name at least
pub record IsNodeUpTo (P : FormTree → Type 0) (d : ℕ) (n : NodeTree) : Type 0 where
  pub some : 1 ≤ d
  pub each : AreOwnUpTo P d (nodes_in n)

abbrev pub IsTreeUpTo : (FormTree → Type 0) → ℕ → TypedTree → Type 0
IsTreeUpTo P d (value e) = IsUpTo d e
IsTreeUpTo P d (dataset n) = IsNodeUpTo P d n

-- the value of a target
abbrev pub IsValueUpTo : ℕ → ValueTree → Type 0
IsValueUpTo d (nodes.scalar e) = IsUpTo d e
IsValueUpTo d (nodes.analytic windowed) = Unit {0}

abbrev pub IsItemUpTo : ℕ → ItemTree → Type 0
IsItemUpTo d i = IsValueUpTo d i.value

-- ---- the deepest of a list
pub each-below : {X : Type 0} (depth : X → ℕ) (d : ℕ) (xs : List X) → deepest depth xs ≤ d → AllByRecursion (λ x. depth x ≤ d) xs
each-below depth d [] h = tt
each-below depth d (x ∷ xs) h = (omega arith, each-below depth d xs (omega arith))

pub deepest-below : {X : Type 0} (depth : X → ℕ) (d : ℕ) (xs : List X) → AllByRecursion (λ x. depth x ≤ d) xs → deepest depth xs ≤ d
deepest-below depth d [] h = omega arith
deepest-below depth d (x ∷ xs) h = let here : depth x ≤ d = h.0 in let rest : deepest depth xs ≤ d = deepest-below depth d xs h.1 in omega arith

flat-every : {X Y : Type 0} (P : Y → Type 0) (f : X → List Y) (xs : List X) → AllByRecursion P (flat_map f xs) → AllByRecursion (λ x. AllByRecursion P (f x)) xs
flat-every P f [] h = tt
flat-every P f (x ∷ xs) h = (all_front P (f x) (flat_map f xs) h, flat-every P f xs (all_back P (f x) (flat_map f xs) h))

exps-raised : (c d : ℕ) (es : List CompExp) → c ≤ d → AreUpTo c es → AreUpTo d es
exps-raised c d es le h = lists.weaker (IsUpTo c) (IsUpTo d) es (λ e k. omega arith) h

-- the expressions of a node, where those of rules are up to a depth too
all-exps : (d b : ℕ) (n : NodeTree) → IsOwnUpTo (IsHeldUpTo b) d n → AreUpTo (max d b) (exps_in n)
all-exps d b (nodes.node s (nodes.check_datapoint a rules out)) h = all_append (IsUpTo (max d b)) (held_exps (nodes.check_datapoint a rules out)) [] (exps-raised b (max d b) (held_exps (nodes.check_datapoint a rules out)) (omega arith) h.2) tt
all-exps d b (nodes.node s form) h = exps-raised d (max d b) (held_exps form ++ made_exps s form) (omega arith) (all_append (IsUpTo d) (held_exps form) (made_exps s form) h.0 h.1)

pub node-depth : (d b : ℕ) (n : NodeTree) → IsNodeUpTo (IsHeldUpTo b) d n → node_depth n ≤ max d b
node-depth d b n h =
    deepest-below comp_depth (max d b) (flat_map exps_in (nodes_in n)) (all_flat_map (IsUpTo (max d b)) exps_in (nodes_in n) (lists.weaker (IsOwnUpTo (IsHeldUpTo b) d) (λ n. AreUpTo (max d b) (exps_in n)) (nodes_in n) (all-exps d b) h.each))

-- each expression of a node and of its operands is at most as deep as the node
pub node-below : (d : ℕ) (n : NodeTree) → node_depth n ≤ d → AreNodesUpTo d (nodes_in n)
node-below d n h = flat-every (IsUpTo d) exps_in (nodes_in n) (each-below comp_depth d (flat_map exps_in (nodes_in n)) h)

-- what holds of the calls
pub calls-hold : (P : FormTree → Type 0) (d : ℕ) (n : NodeTree) → IsNodeUpTo P d n → HoldsOfCalls P n
calls-hold P d n h = lists.weaker (IsOwnUpTo P d) (HoldsAt P) (nodes_in n) one h.each
  where
    one : (m : NodeTree) → IsOwnUpTo P d m → HoldsAt P m
    one (nodes.node s form) k = k.2

-- ---- a greater depth
pub nodes-raised : (P : FormTree → Type 0) (c d : ℕ) (ns : List NodeTree) → c ≤ d → AreOwnUpTo P c ns → AreOwnUpTo P d ns
nodes-raised P c d ns le h = lists.weaker (IsOwnUpTo P c) (IsOwnUpTo P d) ns one h
  where
    one : (n : NodeTree) → IsOwnUpTo P c n → IsOwnUpTo P d n
    one (nodes.node s form) k = (exps-raised c d (own_exps form) le k.0, exps-raised c d (made_exps s form) le k.1, k.2)

pub tree-raised : (P : FormTree → Type 0) (c d : ℕ) (x : TypedTree) → c ≤ d → IsTreeUpTo P c x → IsTreeUpTo P d x
tree-raised P c d (value e) le h = omega arith
tree-raised P c d (dataset n) le h = record { some = omega arith; each = nodes-raised P c d (nodes_in n) le h.each }

-- ---- component expressions
some-exp : (e : CompExp) → 1 ≤ comp_depth e
some-exp (column place name kind) = omega arith
some-exp (const v) = omega arith
some-exp (call o kind args) = omega arith
some-exp (aggregate a kind) = omega arith

pub some-tree : (P : FormTree → Type 0) (d : ℕ) (x : TypedTree) → IsTreeUpTo P d x → 1 ≤ d
some-tree P d (value e) h = omega (arith, some-exp e)
some-tree P d (dataset n) h = h.some

operands-up : (d : ℕ) (es : List CompExp) → AreUpTo d es → comps_depth (comp_exps_of es) ≤ d
operands-up d [] h = omega arith
operands-up d (e ∷ es) h = let here : comp_depth e ≤ d = h.0 in let rest : comps_depth (comp_exps_of es) ≤ d = operands-up d es h.1 in omega arith

pub call-up : (d : ℕ) (o : ScalarOp) (kind : Kind) (es : List CompExp) → AreUpTo d es → IsUpTo (suc d) (call o kind (comp_exps_of es))
call-up d o kind es h = omega (arith, operands-up d es h)

-- ---- the expressions that a form makes of columns
columns-up : (d : ℕ) (xs ys : List Component) → 1 ≤ d → AreUpTo d (columns_named xs ys)
columns-up d xs ys some = lists.mapped (IsUpTo d) (λ y. column_named xs y.name) ys (lists.every (λ y. IsUpTo d (column_named xs y.name)) ys (λ y. some))

for-up : (d : ℕ) (f : Component → Component → CompExp) (xs ys : List Component) → ((x y : Component) → IsUpTo d (f x y)) → AreUpTo d (for_measures f xs ys)
for-up d f [] ys h = tt
for-up d f (x ∷ xs) [] h = tt
for-up d f (x ∷ xs) (y ∷ ys) h = (h x y, for-up d f xs ys h)

pub measured-up : (d : ℕ) (m : MeasureTree) (a s : Structure) → 1 ≤ d → AreUpTo d m.before → AreUpTo d m.after → AreUpTo (suc d) (measured_exps m a s)
measured-up d m a s some hb ha =
    all_append (IsUpTo (suc d)) (columns_named (columns_of a) (identifiers_of s)) (for_measures (with_measure m (columns_of a)) (measures_of a) (measures_of s)) (columns-up (suc d) (columns_of a) (identifiers_of s) (omega arith))
    (for-up (suc d) (with_measure m (columns_of a)) (measures_of a) (measures_of s)
    (λ x y. call-up d m.op y.kind (m.before ++ column_named (columns_of a) x.name ∷ m.after) (all_append (IsUpTo d) m.before (column_named (columns_of a) x.name ∷ m.after) hb (some, ha))))

-- either operand may be the one with all identifiers
pub pair-up : (d : ℕ) (o : ScalarOp) (a b s : Structure) → 2 ≤ d → AreUpTo d (pair_exps o a b s)
pair-up d o a b s two = go (contains a b)
  where
    one : 1 ≤ d
    one = omega arith

    each : (whole : Structure) (f g : List ℕ → CompExp) → ((name : List ℕ) → comp_depth (f name) ≤ 1) → ((name : List ℕ) → comp_depth (g name) ≤ 1) → AreUpTo d (columns_named (columns_of whole) (identifiers_of s) ++ for_measures (with_namesake o f g) (measures_of a) (measures_of s))
    each whole f g hf hg =
        all_append (IsUpTo d) (columns_named (columns_of whole) (identifiers_of s)) (for_measures (with_namesake o f g) (measures_of a) (measures_of s)) (columns-up d (columns_of whole) (identifiers_of s) one)
        (for-up d (with_namesake o f g) (measures_of a) (measures_of s) (λ x y. omega (arith, hf x.name, hg x.name)))

    go : (t : Bool) → AreUpTo d (cond t (columns_named (columns_of a) (identifiers_of s) ++ for_measures (with_namesake o (column_named (columns_of a)) (column_behind (length (columns_of a)) (columns_of b))) (measures_of a) (measures_of s)) (columns_named (columns_of b) (identifiers_of s) ++ for_measures (with_namesake o (column_behind (length (columns_of b)) (columns_of a)) (column_named (columns_of b))) (measures_of a) (measures_of s)))
    go true = each a (column_named (columns_of a)) (column_behind (length (columns_of a)) (columns_of b)) (λ name. omega arith) (λ name. omega arith)
    go false = each b (column_behind (length (columns_of b)) (columns_of a)) (column_named (columns_of b)) (λ name. omega arith) (λ name. omega arith)

value-up : (d : ℕ) (v : ValueTree) → 1 ≤ d → IsValueUpTo d v → IsUpTo d (value_exp v)
value-up d (nodes.scalar e) some h = h
value-up d (nodes.analytic windowed) some h = some

pub calculated-up : (d : ℕ) (items : List ItemTree) (a s : Structure) → 1 ≤ d → AllByRecursion (IsItemUpTo d) items → AreUpTo d (calculated_exps items a s)
calculated-up d items a s some h = lists.mapped (IsUpTo d) (calculated_exp items (columns_of a)) (columns_of s) (lists.every (λ y. IsUpTo d (calculated_exp items (columns_of a) y)) (columns_of s) (λ y. go y (target_named items y.name) (found_has (IsItemUpTo d) (λ i. same_name i.target y.name) items h)))
  where
    go : (y : Component) (o : Option ItemTree) → IfSome o (IsItemUpTo d) → IsUpTo d (option_map_or (λ i. value_exp i.value) o (column_named (columns_of a) y.name))
    go y None k = some
    go y (Some i) k = value-up d i.value some k

-- ---- the expressions that a form holds
pub items-up : (d : ℕ) (items : List ItemTree) → AllByRecursion (IsItemUpTo d) items → AreUpTo d (flat_map item_exps items)
items-up d items h = all_flat_map (IsUpTo d) item_exps items (lists.weaker (IsItemUpTo d) (λ i. AreUpTo d (item_exps i)) items (λ i k. held i.value k) h)
  where
    held : (v : ValueTree) → IsValueUpTo d v → AreUpTo d (value_exps v)
    held (nodes.scalar e) k = (k, tt)
    held (nodes.analytic windowed) k = tt

pub option-up : (d : ℕ) (o : Option CompExp) → IfSome o (IsUpTo d) → AreUpTo d (option_to_list o)
option-up d None h = tt
option-up d (Some e) h = (h, tt)

-- ---- a node over operands
module _ (P : FormTree → Type 0) where
  pub node-up : (d : ℕ) (s : Structure) (form : FormTree) → 1 ≤ d → HoldsOfCall P form → AreUpTo d (own_exps form) → AreUpTo d (made_exps s form) → AreOwnUpTo P d (form_nodes form) → IsNodeUpTo P d (nodes.node s form)
  node-up d s form some called held made below = record { some = some; each = ((held, made, called), below) }

  -- the same as typing makes it, whatever its structure is
  pub dataset-up : (d : ℕ) (form : FormTree) (r : Result Structure Rule) → ((s : Structure) → IsNodeUpTo P d (nodes.node s form)) → Gives (IsTreeUpTo P d) (r >>= typed.made_of form)
  dataset-up d form (Ok s) h = h s
  dataset-up d form (Err broken) h = tt

  pub clause-up : (d : ℕ) (form : FormTree) (r : Result Structure Rule) → ((s : Structure) → IsNodeUpTo P d (nodes.node s form)) → Gives (IsNodeUpTo P d) (r >>= clauses.made_of form)
  clause-up d form (Ok s) h = h s
  clause-up d form (Err broken) h = tt

  -- operands beside each other
  pub beside : (d : ℕ) (xs ys : List NodeTree) → AreOwnUpTo P d xs → AreOwnUpTo P d ys → AreOwnUpTo P d (xs ++ ys)
  beside d xs ys h k = all_append (IsOwnUpTo P d) xs ys h k

  pub all-beside : (d : ℕ) (ns : List NodeTree) → AllByRecursion (IsNodeUpTo P d) ns → AreOwnUpTo P d (all_nodes (nodes.nodes_of ns))
  all-beside d [] h = tt
  all-beside d (n ∷ ns) h = beside d (nodes_in n) (all_nodes (nodes.nodes_of ns)) h.0.each (all-beside d ns h.1)

  -- a call over its operand
  pub call-over-up : (d : ℕ) (x y : TypedTree) → IsTreeUpTo P d x → IsCallOver P x y → IsTreeUpTo P d y
  call-over-up d (value e) y h k = absurd k
  call-over-up d (dataset a) (value e) h k = absurd k
  call-over-up d (dataset a) (dataset (nodes.node s form)) h k = record { some = h.some; each = (own form k.0, subst (AreOwnUpTo P d) (sym k.1) h.each) }
    where
      own : (form : FormTree) → IsCallForm P form → IsOwnUpTo P d (nodes.node s form)
      own (nodes.check_datapoint b rules out) c = (tt, tt, c)
      own (nodes.check_hierarchy b rules m out) c = (tt, tt, c)
      own (nodes.hierarchy b rules m i out) c = (tt, tt, c)
      own form c = absurd c
