-- Links as the program holds them, and the links of statements by numbers.
use Rattle.std.specs.Prelude.{ℕ, cond, List, [], ◌∷◌, ◌++◌, map, option_map, slice_get}
use Rattle.std.specs.Borrow.{Bor}
use Rattle.std.specs.List.{filter_map, flat_map}
use Rattle.vtl_tree.specs.Structure.{columns_of}
use Rattle.vtl_tree.specs.declared.structure.Component.{Component}
use Rattle.vtl_scripts.specs.Meaning.{Statement}
use Rattle.vtl_sources.specs.Lineage.{Past, lineage, operand_of, with_sources}
use Rattle.vtl_sources.specs.Links.{Linked, Pair, Pairs, linked}
use Rattle.vtl_sources.specs.Sources.{Traced, source_named}
use Rattle.vtl_lineage.specs.Numbers.{Numbers, merged}
use Rattle.vtl_lineage.specs.declared.link.Link.{Link}

abbrev pub shown_link : Link → Linked
shown_link l = record { output = l.output; component = l.component; dataset = l.dataset; source = l.source }

abbrev pub shown_links : List Link → List Linked
shown_links ls = map shown_link ls

-- pairs whose parts are lent
abbrev pub pair_lent : Bor (List ℕ) × Bor (List ℕ) → Pair
pair_lent p = (p.0.now, p.1.now)

abbrev pub lent_pairs : List (Bor (List ℕ) × Bor (List ℕ)) → Pairs
lent_pairs ps = map pair_lent ps

-- of numbers, each with its pair
abbrev pub numbered_links : Pairs → List ℕ → Numbers → (component : List ℕ) → List Linked
numbered_links pairs output xs component = filter_map (λ i. option_map (linked output component) (slice_get pairs i)) xs

abbrev pub component_numbers : Traced Numbers → Component → Numbers
component_numbers d x = merged d.sources.points (source_named merged [] d x.name)

abbrev pub output_links : Pairs → List ℕ → Traced Numbers → List Linked
output_links pairs output d = flat_map (λ x. numbered_links pairs output (component_numbers d x) x.name) (columns_of d.structure)

abbrev pub statement_links : Pairs → Past Numbers → Statement → List Linked
statement_links pairs past s = cond s.persistent (output_links pairs s.result (operand_of s.node (lineage merged [] past s.node))) []

abbrev pub all_links : Pairs → Past Numbers → List Statement → List Linked
all_links pairs past [] = []
all_links pairs past (s ∷ rest) = statement_links pairs past s ++ all_links pairs (with_sources past s.result (lineage merged [] past s.node)) rest
