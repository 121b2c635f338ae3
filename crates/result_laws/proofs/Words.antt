-- The words of typed nodes: names of data sets, new names of columns, the values of `sub`, and rules.
use Rattle.std.proofs.Common.{◌≡◌, ◌≤◌, ◌⊎◌, ℕ, Bool, true, false, not, ◌&&◌, List, [], ◌∷◌, length, Some, Result, Ok, Err, arith}
use Rattle.std.proofs.lemmas.Bool.{and_from, and_parts, false≢true}
use Rattle.std.proofs.lemmas.Bool.Decides.{nat_tests}
use Rattle.std.specs.List.{AllByRecursion, filter, list_all}
use Rattle.std.specs.Prelude.{◌==◌}
use Rattle.vtl_lists.specs.Apart.{all_apart}
use Rattle.vtl_cell.specs.Kinds.{is_null}
use Rattle.vtl_cell.specs.Profile.{IsOfProfile}
use Rattle.vtl_decimal.specs.Settings.{Settings}
use Rattle.vtl_text.specs.Words.{fits_name, is_component_character, is_component_name, is_name, is_reserved, is_word, is_word_character, starts_with_letter}
use Rattle.vtl_cell.specs.declared.cell.Cell.{Cell}
use Rattle.vtl_tree.specs.Structure.{same_name}
use Rattle.vtl_tree.specs.declared.structure.Component.{Component}
use Rattle.vtl_tree.specs.declared.structure.Structure.{Structure}
use Rattle.vtl_syntax.specs.Written as written
use Rattle.vtl_syntax.specs.declared.parts.Comp.{Comp}
use Rattle.vtl_syntax.specs.declared.parts.Comp.TheVariants as comp
use Rattle.vtl_syntax.specs.declared.statements.HierRule.{HierRule}
use Rattle.vtl_scripts.specs.Made.{operands_in}
use Rattle.vtl_tree.specs.Trees as nodes
use Rattle.vtl_tree.specs.Trees.{AnalyticTree, FormTree, MaybeNode, NodeTree, NodeTrees, OperandTrees, structure_of}
use Rattle.vtl_tree.specs.declared.clauses.SubItem.{SubItem}
use Rattle.vtl_tree.specs.declared.specifications.AggItems.{AggItems}
use Rattle.vtl_tree.specs.declared.specifications.AggItems.TheVariants as items
use Rattle.check_faults.specs.declared.rules.Rule.{Rule}
use Rattle.vtl_tree.specs.Joins.{held_names, last_renamings}
use Rattle.vtl_tree.specs.declared.names.Wanted.TheVariants as wanted
use Rattle.vtl_tree.specs.declared.renaming.Renaming.{Renaming}
use Rattle.vtl_tree.specs.Names.{name_of}
use Rattle.vtl_tree.specs.RuleItems.{items_of}
use Rattle.check_clauses.specs.Clauses.{sub_names}
use Rattle.check_clauses.specs.JoinOperands.{is_left}
use Rattle.check_operators.specs.Typed.{TypedTree, value, dataset, components_in}
use Rattle.check_laws.specs.Gives.{Gives}
use Rattle.check_laws.proofs.Left.{IsNamed}
use Rattle.vtl_tree.proofs.Containing.{all_pass_more}

-- ---- names
-- a name of a component
abbrev pub IsColumnName : List ℕ → Type 0
IsColumnName x = is_component_name x ≡ true

pub name_word : (x : List ℕ) → is_name x ≡ true → is_word x ≡ true
unfolding is_name
name_word x h = (and_parts (is_word x) (not (is_reserved x)) h).0

word_character : (c : ℕ) → is_word_character c ≡ true → is_component_character c ≡ true
word_character c h = grind (arith, nat_tests, h)

filled : (x : List ℕ) → starts_with_letter x ≡ true → not (length x == 0) ≡ true
filled [] h = absurd (false≢true h)
filled (c ∷ x) h = grind (arith, nat_tests)

word_characters : (x : List ℕ) → is_word x ≡ true → (fits_name x ≡ true) × (starts_with_letter x ≡ true) × (list_all is_word_character x ≡ true)
unfolding is_word
word_characters x h =
    let whole = and_parts (fits_name x) (starts_with_letter x && list_all is_word_character x) h in
    let parts = and_parts (starts_with_letter x) (list_all is_word_character x) whole.1 in
    (whole.0, parts.0, parts.1)

-- a word is a name of a component
pub word_column : (x : List ℕ) → is_word x ≡ true → IsColumnName x
unfolding is_component_name
word_column x h =
    let parts = word_characters x h in
    and_from (fits_name x) (not (length x == 0) && list_all is_component_character x) parts.0
    (and_from (not (length x == 0)) (list_all is_component_character x) (filled x parts.1) (all_pass_more is_word_character is_component_character word_character x parts.2))

pub component_named : (x : Comp) → written.IsComponent x → IsColumnName (name_of x)
component_named (comp.Name name) h = word_column name (name_word name h)
component_named (comp.Quoted name) h = h

-- ---- the names that a join gives back at the end of its body
abbrev mutual
  pub renamings_below : NodeTree → List Renaming
  renamings_below (nodes.node s form) = form_renamings form

  pub form_renamings : FormTree → List Renaming
  form_renamings (nodes.join os spec) = last_renamings spec.kind (held_names spec.kind (operands_in os)) (operands_in os)
  form_renamings (nodes.filter a e) = renamings_below a
  form_renamings (nodes.calc a items) = renamings_below a
  form_renamings (nodes.keep a names) = renamings_below a
  form_renamings (nodes.drop_named a names) = renamings_below a
  form_renamings (nodes.rename a pairs) = renamings_below a
  form_renamings (nodes.aggregate a spec) = renamings_below a
  form_renamings (nodes.analytic_of a spec) = renamings_below a
  form_renamings other = []

-- ---- the words of an expression on data sets and of its operands
-- a value of the profile that is not null
abbrev pub IsFilled : Settings → Cell → Type 0
IsFilled p v = IsOfProfile p v × (is_null v ≡ false)

-- identifiers, each once, with such values
pub record AreValues (p : Settings) (items : List SubItem) : Type 0 where
  pub filled : AllByRecursion (λ i. IsFilled p i.value) items
  pub apart : all_apart same_name (sub_names items) ≡ true

-- the identifier of `pivot`, whose codes are names of columns
pub record HasCodes (id : List ℕ) (a : Structure) : Type 0 where
  pub component : Component
  pub named : IsNamed wanted.Identifier a.components id component
  pub codes : List (List ℕ)
  pub there : component.codes ≡ Some codes
  pub names : AllByRecursion IsColumnName codes

abbrev pub AreRenamings : List Renaming → Type 0
AreRenamings pairs = AllByRecursion (λ r. IsColumnName r.to) pairs

-- the targets of an aggregate have names
abbrev pub TargetsHaveNames : AggItems → Type 0
TargetsHaveNames (items.Measures f) = Unit {0}
TargetsHaveNames (items.Targets ts) = AllByRecursion (λ t. IsColumnName t.target) ts

-- the targets of a `calc` in which an analytic call stands
abbrev pub CallsHaveNames : AnalyticTree → Type 0
CallsHaveNames (nodes.of_measures o w) = Unit {0}
CallsHaveNames (nodes.of_items items) = AllByRecursion (λ i. IsColumnName i.target) items

-- the renamings at the end of a join's body, of the names that are left
abbrev pub AreLast : NodeTree → List Renaming → Type 0
AreLast a pairs = pairs ≡ filter (is_left (components_in a)) (renamings_below a)

-- more items than a rule that is written can have: each makes it one deeper
abbrev pub most_items : ℕ
most_items = 150

-- there is a rule, and none has too many items
pub record AreSided (rules : List HierRule) : Type 0 where
  pub some : 1 ≤ length rules
  pub few : AllByRecursion (λ r. length (items_of r) ≤ most_items) rules

-- inside the body of a join, or outside
abbrev mutual
  pub HasWords : Settings → (inside : Bool) → NodeTree → Type 0
  HasWords p b (nodes.node s form) = FormHasWords p b form

  pub FormHasWords : Settings → (inside : Bool) → FormTree → Type 0
  FormHasWords p b (nodes.named name) = is_name name ≡ true
  FormHasWords p b (nodes.measures m a) = HasWords p false a
  FormHasWords p b (nodes.pair o a c) = HasWords p false a × HasWords p false c
  FormHasWords p b (nodes.choose t a c) = HasWords p false t × HasWords p false a × HasWords p false c
  FormHasWords p b (nodes.member a m) = HasWords p false a
  FormHasWords p b (nodes.filter a e) = HasWords p b a
  FormHasWords p b (nodes.calc a items) = HasWords p b a × AllByRecursion (λ i. IsColumnName i.target) items
  FormHasWords p b (nodes.keep a names) = HasWords p b a
  FormHasWords p b (nodes.drop_named a names) = HasWords p b a
  FormHasWords p b (nodes.rename a pairs) = (HasWords p b a × AreRenamings pairs) ⊎ (HasWords p true a × AreLast a pairs)
  FormHasWords p b (nodes.sub a items) = HasWords p false a × AreValues p items
  FormHasWords p b (nodes.pivot a id m) = HasWords p false a × HasCodes id (structure_of a)
  FormHasWords p b (nodes.unpivot a id m) = HasWords p false a × IsColumnName id × IsColumnName m
  FormHasWords p b (nodes.aggregate a spec) = HasWords p b a × TargetsHaveNames spec.items
  FormHasWords p b (nodes.analytic_of a spec) = HasWords p b a × CallsHaveNames spec
  FormHasWords p b (nodes.time a o) = HasWords p false a
  FormHasWords p true (nodes.join os spec) = OperandsHaveWords p os
  FormHasWords p false (nodes.join os spec) = ⊥
  FormHasWords p b (nodes.union ns) = HaveWords p ns
  FormHasWords p b (nodes.intersect ns) = HaveWords p ns
  FormHasWords p b (nodes.set_diff a c) = HasWords p false a × HasWords p false c
  FormHasWords p b (nodes.sym_diff a c) = HasWords p false a × HasWords p false c
  FormHasWords p b (nodes.exists_in a c r) = HasWords p false a × HasWords p false c
  FormHasWords p b (nodes.check a i spec) = HasWords p false a × MaybeHasWords p i
  -- there is a rule
  FormHasWords p b (nodes.check_datapoint a rules out) = HasWords p false a × (1 ≤ length rules.rules)
  FormHasWords p b (nodes.check_hierarchy a rules m out) = HasWords p false a × AreSided rules.rules
  FormHasWords p b (nodes.hierarchy a rules m i out) = HasWords p false a × AreSided rules.rules

  pub HaveWords : Settings → NodeTrees → Type 0
  HaveWords p nodes.no_nodes = Unit {0}
  HaveWords p (nodes.and_node n ns) = HasWords p false n × HaveWords p ns

  pub MaybeHasWords : Settings → MaybeNode → Type 0
  MaybeHasWords p nodes.no_node = Unit {0}
  MaybeHasWords p (nodes.some_node n) = HasWords p false n

  pub OperandsHaveWords : Settings → OperandTrees → Type 0
  OperandsHaveWords p nodes.no_operands = Unit {0}
  OperandsHaveWords p (nodes.operand n alias os) = HasWords p false n × (is_name alias ≡ true) × OperandsHaveWords p os

-- outside of joins
abbrev pub IsWorded : Settings → NodeTree → Type 0
IsWorded p n = HasWords p false n

abbrev pub FormIsWorded : Settings → FormTree → Type 0
FormIsWorded p form = FormHasWords p false form

abbrev pub IsTreeWorded : Settings → TypedTree → Type 0
IsTreeWorded p (value e) = Unit {0}
IsTreeWorded p (dataset n) = IsWorded p n

-- the same inside the body of a join that gives back these names, or outside
abbrev pub IsAt : Settings → (inside : Bool) → List Renaming → NodeTree → Type 0
IsAt p b rs n = HasWords p b n × (b ≡ true → renamings_below n ≡ rs)

pub at_outside : (p : Settings) (n : NodeTree) → IsWorded p n → IsAt p false [] n
at_outside p n h = (h, λ e. absurd (false≢true e))

pub from_outside : (p : Settings) (r : Result NodeTree Rule) → Gives (IsAt p false []) r → Gives (IsWorded p) r
from_outside p (Ok n) h = h.0
from_outside p (Err broken) h = tt
