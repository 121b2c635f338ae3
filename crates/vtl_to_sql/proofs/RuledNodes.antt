-- A form of the program under hierarchical rules, and what is left of it behind the tables of its operand.
use Rattle.std.proofs.Common.{◌≡◌, ◌⊎◌, inl, inr, ◌+◌, ℕ, List, [], ◌∷◌, ◌++◌, map, rules, refl, sym, ap, subst, ◌∙◌, append_assoc, append-nil}
use Rattle.std.specs.Prelude.{Box}
use Rattle.std.specs.declared.alloc.Global.{Global}
use Rattle.std.proofs.lemmas.List.{map-append}
use Rattle.vtl_decimal.specs.Settings.{Settings}
use Rattle.vtl_syntax.specs.declared.statements.HierRule.{HierRule}
use Rattle.vtl_syntax.specs.declared.word_groups.CheckOut.{CheckOut}
use Rattle.vtl_syntax.specs.declared.word_groups.HierInput.{HierInput}
use Rattle.vtl_syntax.specs.declared.word_groups.HierOut.{HierOut}
use Rattle.vtl_syntax.specs.declared.word_groups.HierOut.TheVariants as out
use Rattle.vtl_syntax.specs.declared.word_groups.Mode.{Mode}
use Rattle.vtl_tree.specs.NodeView.{form_tree, node_tree}
use Rattle.vtl_tree.specs.RuleItems.{definitions, left_item}
use Rattle.vtl_tree.specs.Trees as nodes
use Rattle.vtl_tree.specs.Trees.{FormTree, structure_of}
use Rattle.vtl_tree.specs.declared.nodes.Node.{Node}
use Rattle.vtl_tree.specs.declared.nodes.NodeForm as forms
use Rattle.vtl_tree.specs.declared.nodes.NodeForm.{NodeForm}
use Rattle.vtl_tree.specs.declared.nodes.NodeForm.TheVariants as form
use Rattle.vtl_tree.specs.declared.rules.HierRules.{HierRules}
use Rattle.vtl_tree.specs.declared.structure.Structure.{Structure}
use Rattle.vtl_rulings.specs.HierarchyChecks.{Ruled, ruled_by}
use Rattle.vtl_rulings.specs.Ordered.{places_or_none, rules_at}
use Rattle.sql_tree.specs.Trees.{QueryTree, StatementTree, Text}
use Rattle.selects_to_sql.specs.Tables.{Made, Sources, and_then, by_name, create_for, numbered, over, stored, table_of, with_one, with_two}
use Rattle.joins_to_sql.proofs.JoinTables.{GivesRest}
use Rattle.hierarchies_to_sql.specs.CheckTables.{check_hierarchy_made, checked_items, sided, with_behind}
use Rattle.hierarchies_to_sql.specs.ComputedTables.{all_points_query, computed_by, computed_made, given_items, no_points_query, ordered_tables}
use Rattle.hierarchies_to_sql.specs.ItemTables.{tables_by}
use Rattle.hierarchies_to_sql.specs.RuleSelects.{checked_query}
use Rattle.vtl_to_sql.specs.Hierarchies.{computed_table, hierarchy_made, ruled_made}
use Rattle.vtl_to_sql.specs.Sets.{union_query}
use Rattle.vtl_to_sql.specs.Tables.{made_of_form, sources_of}

-- ---- trees of forms

tree_of_check : (f : NodeForm) (a : Box Node Global) (ruled : HierRules) (m : Mode) (o : CheckOut) → f ≡ form.CheckHierarchy a ruled m o → form_tree f ≡ nodes.check_hierarchy (node_tree a.value) ruled m o
tree_of_check f a ruled m o e = ap form_tree e ∙ search (rules, forms.the_lemmas)

tree_of_hierarchy : (f : NodeForm) (a : Box Node Global) (ruled : HierRules) (m : Mode) (i : HierInput) (o : HierOut) → f ≡ form.Hierarchy a ruled m i o → form_tree f ≡ nodes.hierarchy (node_tree a.value) ruled m i o
tree_of_hierarchy f a ruled m i o e = ap form_tree e ∙ search (rules, forms.the_lemmas)

abbrev IsRuled : NodeForm → Box Node Global → Type 0
IsRuled f a =
    ((ruled : HierRules) × (m : Mode) × (o : CheckOut) × f ≡ form.CheckHierarchy a ruled m o)
    ⊎ ((ruled : HierRules) × (m : Mode) × (i : HierInput) × (o : HierOut) × f ≡ form.Hierarchy a ruled m i o)

ruled_at : (p : Settings) (r : Text) (s : Structure) (a : Box Node Global) (n : ℕ) (f t : FormTree) → f ≡ t → made_of_form p r s t n ≡ ruled_made p r t s (sources_of p r (node_tree a.value) n) → made_of_form p r s f n ≡ ruled_made p r f s (sources_of p r (node_tree a.value) n)
ruled_at p r s a n f t is made = subst (λ (u : FormTree). made_of_form p r s u n ≡ ruled_made p r u s (sources_of p r (node_tree a.value) n)) (sym is) made

ruled_is : (p : Settings) (r : Text) (s : Structure) (f : NodeForm) (a : Box Node Global) (n : ℕ) → IsRuled f a → made_of_form p r s (form_tree f) n ≡ ruled_made p r (form_tree f) s (sources_of p r (node_tree a.value) n)
ruled_is p r s f a n (inl (ruled, m, o, e)) = ruled_at p r s a n (form_tree f) (nodes.check_hierarchy (node_tree a.value) ruled m o) (tree_of_check f a ruled m o e) refl
ruled_is p r s f a n (inr (ruled, m, i, o, e)) = ruled_at p r s a n (form_tree f) (nodes.hierarchy (node_tree a.value) ruled m i o) (tree_of_hierarchy f a ruled m i o e) refl

-- ---- behind the tables of an operand

-- a query over the operand alone
pub alone_rest : (Q : List Text → QueryTree) (os : Sources) (x : Text) (m : ℕ) (old done : List StatementTree) → x ∷ [] ≡ os.names → m ≡ os.next → done ≡ old ++ map create_for os.tables → GivesRest (over os Q) old done (over (by_name x m) Q)
alone_rest Q os x m old done names next made = record { query = ap Q names; next = next; tables = append-nil done ∙ made }

-- and over tables that are made of it
pub over_rest : (F : List Text → ℕ → Sources) (Q : List Text → QueryTree) (os : Sources) (x : Text) (m : ℕ) (old done : List StatementTree) → x ∷ [] ≡ os.names → m ≡ os.next → done ≡ old ++ map create_for os.tables
    → GivesRest (over (and_then os (F os.names)) Q) old done (over (and_then (by_name x m) (F (x ∷ []))) Q)
over_rest F Q os x m old done names next made =
    let behind : Sources = F os.names os.next in
    let same : F (x ∷ []) m ≡ behind = ap (λ (l : List Text). F l m) names ∙ ap (F os.names) next in
    record {
      query = ap (λ (l : List Text). Q (l ++ (F l m).names)) names ∙ ap (λ (k : ℕ). Q (os.names ++ (F os.names k).names)) next;
      next = ap (λ (y : Sources). y.next) same;
      tables =
          ap (λ (y : Sources). done ++ map create_for y.tables) same
          ∙ ap (λ l. l ++ map create_for behind.tables) made
          ∙ append_assoc old (map create_for os.tables) (map create_for behind.tables)
          ∙ ap (λ l. old ++ l) (sym (map-append create_for os.tables behind.tables));
    }

module _ (p : Settings) (r : Text) (h : Ruled) (m : Mode) (i : HierInput) (a s : Structure) (os : Sources) (x : Text) (n : ℕ) (old done : List StatementTree) (names : x ∷ [] ≡ os.names) (next : n ≡ os.next) (made : done ≡ old ++ map create_for os.tables) where
  computed_rest : (defined order : List HierRule) → GivesRest (computed_by p r h m i defined order a s os) old done (computed_by p r h m i defined order a s (by_name x n))
  computed_rest [] order = alone_rest (with_one (no_points_query p a s)) os x n old done names next made
  computed_rest (q ∷ qs) order =
      over_rest (ordered_tables p r h m i a (given_items i (q ∷ qs)) order) (with_behind (λ y xs. all_points_query p h a s (tables_by (map left_item order) xs) (q ∷ qs))) os x n old done names next made

  hierarchy_rest : (o : HierOut) (ruled : List HierRule) (order : List ℕ) → GivesRest (hierarchy_made p r h m i o ruled order a s os) old done (hierarchy_made p r h m i o ruled order a s (by_name x n))
  hierarchy_rest out.Computed ruled order = computed_rest (definitions ruled) (rules_at ruled order)
  hierarchy_rest out.All ruled order = over_rest (computed_table p r h m i ruled order a s) (with_two (λ y z. union_query p s a s z y)) os x n old done names next made

ruled_rest : (p : Settings) (r : Text) (t : FormTree) (s : Structure) (os : Sources) (x : Text) (n : ℕ) (old done : List StatementTree) → x ∷ [] ≡ os.names → n ≡ os.next → done ≡ old ++ map create_for os.tables → GivesRest (ruled_made p r t s os) old done (ruled_made p r t s (by_name x n))
unfolding ruled_made
ruled_rest p r (nodes.check_hierarchy b ruled m o) s os x n old done names next made =
    let a = structure_of b in
    let h = ruled_by ruled a in
    let items = checked_items ruled.rules in
    over_rest (sided p r h a items) (with_behind (λ y. with_behind (λ keys xs. checked_query p h a keys (tables_by items xs) o m ruled.rules s))) os x n old done names next made
ruled_rest p r (nodes.hierarchy b ruled m i o) s os x n old done names next made =
    hierarchy_rest p r (ruled_by ruled (structure_of b)) m i (structure_of b) s os x n old done names next made o ruled.rules (places_or_none ruled.order)
ruled_rest p r other s os x n old done names next made = alone_rest (λ l. []) os x n old done names next made

-- of a form of the program
pub ruled_gives : (p : Settings) (r : Text) (s : Structure) (f : NodeForm) (a : Box Node Global) (n : ℕ) (x : Text) (k : ℕ) (old done : List StatementTree) → IsRuled f a
    → x ∷ [] ≡ (sources_of p r (node_tree a.value) n).names → k ≡ (sources_of p r (node_tree a.value) n).next → done ≡ old ++ map create_for (sources_of p r (node_tree a.value) n).tables
    → GivesRest (made_of_form p r s (form_tree f) n) old done (ruled_made p r (form_tree f) s (by_name x k))
ruled_gives p r s f a n x k old done is names next made =
    subst (λ (w : Made). GivesRest w old done (ruled_made p r (form_tree f) s (by_name x k))) (sym (ruled_is p r s f a n is))
    (ruled_rest p r (form_tree f) s (sources_of p r (node_tree a.value) n) x k old done names next made)

-- ---- as the program makes them

pub check_is : (p : Settings) (r : Text) (s b : Structure) (f : NodeForm) (a : Box Node Global) (ruled : HierRules) (m : Mode) (o : CheckOut) (x y : Text) (n : ℕ) → f ≡ form.CheckHierarchy a ruled m o → b ≡ structure_of (node_tree a.value) → x ≡ y
    → check_hierarchy_made p r (ruled_by ruled b) m o ruled.rules b s (by_name x n) ≡ ruled_made p r (form_tree f) s (by_name y n)
unfolding ruled_made
check_is p r s b f a ruled m o x y n is same named =
    ap (λ (z : Structure). check_hierarchy_made p r (ruled_by ruled z) m o ruled.rules z s (by_name x n)) same
    ∙ ap (λ (z : Text). ruled_made p r (nodes.check_hierarchy (node_tree a.value) ruled m o) s (by_name z n)) named
    ∙ sym (ap (λ (t : FormTree). ruled_made p r t s (by_name y n)) (tree_of_check f a ruled m o is))

-- the table of the computed points stands behind those that it is made of
pub stored_behind : (r : Text) (m : Made) (k : ℕ) (q : QueryTree) (old between new : List StatementTree) → between ≡ old ++ map create_for m.tables → k ≡ m.next → q ≡ m.query → new ≡ between ++ create_for (table_of (numbered r k) q) ∷ [] → new ≡ old ++ map create_for (stored r m).tables
stored_behind r m k q old between new b e f g =
    let own : QueryTree → ℕ → List StatementTree = λ z j. create_for (table_of (numbered r j) z) ∷ [] in
    g ∙ ap (λ (z : QueryTree). between ++ own z k) f
    ∙ ap (λ (j : ℕ). between ++ own m.query j) e
    ∙ ap (λ l. l ++ own m.query m.next) b
    ∙ append_assoc old (map create_for m.tables) (own m.query m.next)
    ∙ ap (λ l. old ++ l) (sym (map-append create_for m.tables (table_of (numbered r m.next) m.query ∷ [])))

-- `hierarchy`, whose operand has this structure and this table in the program
module _ (p : Settings) (r : Text) (s b : Structure) (f : NodeForm) (a : Box Node Global) (ruled : HierRules) (m : Mode) (i : HierInput) (o : HierOut) (order : List ℕ) (x y : Text) (n : ℕ) (is : f ≡ form.Hierarchy a ruled m i o) (same : b ≡ structure_of (node_tree a.value)) (named : x ≡ y) (places : order ≡ places_or_none ruled.order) where
  abbrev whole : Made
  whole = ruled_made p r (form_tree f) s (by_name y n)

  abbrev made : Made
  made = computed_made p r (ruled_by ruled b) m i ruled.rules order b s (by_name x n)

  abbrev c : Structure
  c = structure_of (node_tree a.value)

  abbrev own : Made
  own = computed_made p r (ruled_by ruled c) m i ruled.rules (places_or_none ruled.order) c s (by_name y n)

  made_is : made ≡ own
  made_is =
      ap (λ (z : Structure). computed_made p r (ruled_by ruled z) m i ruled.rules order z s (by_name x n)) same
      ∙ ap (λ (l : List ℕ). computed_made p r (ruled_by ruled c) m i ruled.rules l c s (by_name x n)) places
      ∙ ap (λ (z : Text). computed_made p r (ruled_by ruled c) m i ruled.rules (places_or_none ruled.order) c s (by_name z n)) named

  whole_is : (shown : HierOut) → o ≡ shown → whole ≡ hierarchy_made p r (ruled_by ruled c) m i shown ruled.rules (places_or_none ruled.order) c s (by_name y n)
  unfolding ruled_made
  whole_is shown e =
      ap (λ (t : FormTree). ruled_made p r t s (by_name y n)) (tree_of_hierarchy f a ruled m i o is)
      ∙ ap (λ (z : HierOut). hierarchy_made p r (ruled_by ruled c) m i z ruled.rules (places_or_none ruled.order) c s (by_name y n)) e

  pub computed_is : o ≡ out.Computed → made ≡ whole
  computed_is e = made_is ∙ sym (whole_is out.Computed e)

  module _ (e : o ≡ out.All) (k : ℕ) (next : k ≡ made.next) where
    pub all_query : union_query p s b s (numbered r k) y ≡ whole.query
    all_query =
        ap (λ (z : Structure). union_query p s z s (numbered r k) y) same
        ∙ ap (λ (j : ℕ). union_query p s c s (numbered r j) y) (next ∙ ap (λ (z : Made). z.next) made_is)
        ∙ sym (ap (λ (z : Made). z.query) (whole_is out.All e))

    pub all_next : k + 1 ≡ whole.next
    all_next = ap (λ (j : ℕ). j + 1) (next ∙ ap (λ (z : Made). z.next) made_is) ∙ sym (ap (λ (z : Made). z.next) (whole_is out.All e))

    pub all_tables : (q : QueryTree) (old between new : List StatementTree) → q ≡ made.query → between ≡ old ++ map create_for made.tables → new ≡ between ++ create_for (table_of (numbered r k) q) ∷ [] → new ≡ old ++ map create_for whole.tables
    all_tables q old between new query behind last =
        stored_behind r own k q old between new (behind ∙ ap (λ (z : Made). old ++ map create_for z.tables) made_is) (next ∙ ap (λ (z : Made). z.next) made_is) (query ∙ ap (λ (z : Made). z.query) made_is) last
        ∙ sym (ap (λ (z : Made). old ++ map create_for z.tables) (whole_is out.All e))
