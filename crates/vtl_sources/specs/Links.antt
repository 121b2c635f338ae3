-- The links of a script: of each output and each of its components the components of data sets that it depends on, each once.
use Rattle.std.specs.Prelude.{ℕ, Bool, ◌&&◌, List, [], ◌∷◌, ◌++◌, filter, map}
use Rattle.std.specs.List.{flat_map, list_any}
use Rattle.vtl_tree.specs.Columns.{identifiers_of, others_of}
use Rattle.vtl_tree.specs.Structure.{columns_of, same_name}
use Rattle.vtl_tree.specs.Structures.{Named}
use Rattle.vtl_tree.specs.declared.structure.Component.{Component}
use Rattle.vtl_tree.specs.declared.structure.Structure.{Structure}
use Rattle.vtl_scripts.specs.Meaning.{Statement}
use Rattle.vtl_sources.specs.Lineage.{Past, outputs_lineage}
use Rattle.vtl_sources.specs.Sources.{Sources, Traced, source_named, sources}

-- a data set that is read, and one of its components
abbrev pub Pair : Type 0
Pair = List ℕ × List ℕ

abbrev pub Pairs : Type 0
Pairs = List Pair

-- ---- sets of pairs: lists in any order, in which a pair may stand more than once
abbrev pub none : Pairs
none = []

abbrev pub either : Pairs → Pairs → Pairs
either ps qs = ps ++ qs

abbrev pub same_pair : Pair → Pair → Bool
same_pair p q = same_name p.0 q.0 && same_name p.1 q.1

abbrev pub is_in : Pairs → Pair → Bool
is_in ps q = list_any (same_pair q) ps

-- ---- the data sets that a script reads
-- the pairs of a data set, in column order
abbrev pub pairs_of_set : List ℕ → Structure → Pairs
pairs_of_set name s = map (λ x. (name, x.name)) (columns_of s)

-- data set by data set, in order of first use
abbrev pub pairs_of : Named → Pairs
pairs_of inputs = flat_map (λ e. pairs_of_set e.0 e.1) inputs

-- a data set depends on itself: its points on its identifiers, and each other component on itself besides
abbrev pub input_sources : List ℕ → Structure → Sources Pairs
input_sources name s = sources (map (λ x. (name, x.name)) (identifiers_of s)) (map (λ x. (name, x.name) ∷ []) (others_of s))

abbrev pub inputs_lineage : Named → Past Pairs
inputs_lineage inputs = map (λ e. (e.0, input_sources e.0 e.1)) inputs

-- ---- links
-- what a component depends on: what the points depend on, and what it depends on besides
abbrev pub source_of : Traced Pairs → List ℕ → Pairs
source_of d x = either d.sources.points (source_named either none d x)

-- one line: a component of an output, and one that it depends on
pub record Linked : Type 0 where
  pub output : List ℕ
  pub component : List ℕ
  pub dataset : List ℕ
  pub source : List ℕ

abbrev pub linked : List ℕ → List ℕ → Pair → Linked
linked output component q = record { output = output; component = component; dataset = q.0; source = q.1 }

-- the links of a component, in the order of these pairs
abbrev pub component_links : Pairs → List ℕ → Traced Pairs → Component → List Linked
component_links pairs output d x = map (linked output x.name) (filter (is_in (source_of d x.name)) pairs)

-- output by output, component by component
abbrev pub links_of : Pairs → List (List ℕ × Traced Pairs) → List Linked
links_of pairs outputs = flat_map (λ o. flat_map (component_links pairs o.0 o.1) (columns_of o.1.structure)) outputs

-- the links of statements over the data sets that they read
abbrev pub links : Named → List Statement → List Linked
links inputs ss = links_of (pairs_of inputs) (outputs_lineage either none (inputs_lineage inputs) ss)
