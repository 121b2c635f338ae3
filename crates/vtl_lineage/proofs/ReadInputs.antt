-- The data sets that a script reads are those that the program comes to.
use Rattle.std.proofs.Common.{◌≡◌, ℕ, ◌+◌, ◌<◌, ◌≤◌, get_or, take, Bool, true, false, not, cond, ◌&&◌, ◌||◌, List, [], ◌∷◌, ◌++◌, append_assoc, length, length-append, map, Option, None, Some, refl, sym, ap, ◌∙◌, arith}
use Rattle.std.specs.Prelude.{nat_le}
use Rattle.std.proofs.lemmas.Bool.{and_parts, leb-true, not-true, or_parts}
use Rattle.std.specs.Borrow.{Bor}
use Rattle.std.proofs.lemmas.List.{append-nil, length-map, map-append, take_all, take_more}
use Rattle.std.proofs.lemmas.List.Concat.{flat_map-append}
use Rattle.std.specs.List.{AllByRecursion, flat_map, list_all, list_any}
use Rattle.std.specs.Map.{keys_of, lookup, set_value}
use Rattle.std.specs.Option.{option_map_or}
use Rattle.std.specs.Cmp.Lexicographic.{bytes_decides, nat_list_eq_equiv}
use Rattle.vtl_lists.specs.Apart.{all_apart}
use Rattle.vtl_tree.specs.Structure.{IsStructure, most_components, names_of, same_name}
use Rattle.vtl_tree.proofs.StructuresLemmas.{all_found}
use Rattle.vtl_tree.specs.Structures.{AreStructures, Named, has_name, is_declarable, is_declarable_component, is_declarable_entry}
use Rattle.vtl_tree.specs.Trees.{NodeTree}
use Rattle.vtl_tree.specs.declared.structure.Structure.{Structure}
use Rattle.vtl_check.specs.Checked.{TypedScript, known_of, nodes_of, tree_of}
use Rattle.vtl_check.specs.Names.{names_of as names_in}
use Rattle.vtl_check.specs.Transformations.{Transformation, transformations}
use Rattle.vtl_check.specs.Uses.{read_behind, results_behind, with_declared, with_new}
use Rattle.vtl_check.proofs.DataSetsRead.{read_apart, still_found}
use Rattle.vtl_syntax.specs.View.{statement_tree}
use Rattle.vtl_syntax.specs.declared.statements.Statement.{Statement}
use Rattle.vtl_tree.specs.NodeView.{node_tree}
use Rattle.vtl_tree.specs.declared.nodes.Node.{Node}
use Rattle.vtl_backend.specs.Inputs.{inputs_of}
use Rattle.vtl_backend.specs.Statements.{statements_of, with_nodes}
use Rattle.vtl_sources.specs.Lineage.{Past, with_sources}
use Rattle.vtl_sources.specs.Links.{Linked, Pairs, inputs_lineage, links, pairs_of, pairs_of_set}
use Rattle.vtl_sources.specs.Sources.{Sources}
use Rattle.vtl_lineage.specs.Numbers.{Numbers, input_numbers, inputs_numbers}
use Rattle.vtl_lineage.specs.Reads.{entry_named, held_inputs}
use Rattle.vtl_lineage.specs.Shown.{all_links, lent_pairs, pair_lent}
use Rattle.vtl_lineage.proofs.InputNumbers.{all_inputs_same}
use Rattle.vtl_lineage.proofs.Linked.{links_same}

-- ---- each name once
pub inputs_apart : (t : TypedScript) → all_apart same_name (keys_of (inputs_of t)) ≡ true
inputs_apart t = read_apart t.declared [] (names_in (nodes_of t)) refl

-- ---- each has a structure
abbrev HaveStructures : Named → Type 0
HaveStructures es = AllByRecursion (λ e. IsStructure e.1) es

all_behind : (es : Named) (e : List ℕ × Structure) → HaveStructures es → IsStructure e.1 → HaveStructures (es ++ e ∷ [])
all_behind [] e h i = (i, tt)
all_behind (x ∷ es) e h i = (h.0, all_behind es e h.1 i)

pub declared_structure : (s : Structure) → is_declarable s ≡ true → IsStructure s
declared_structure s h =
    let three = and_parts (nat_le 1 (length s.components) && nat_le (length s.components) most_components && all_apart same_name (names_of s.components)) (list_all is_declarable_component s.components) h in
    let two = and_parts (nat_le 1 (length s.components) && nat_le (length s.components) most_components) (all_apart same_name (names_of s.components)) three.0 in
    let one = and_parts (nat_le 1 (length s.components)) (nat_le (length s.components) most_components) two.0 in
    record { some = leb-true 1 (length s.components) one.0; few = leb-true (length s.components) most_components one.1; distinct = two.1 }

new_structure : (known : Named) (name : List ℕ) (s : Structure) → HaveStructures known → IsStructure s → HaveStructures (with_new known name s)
new_structure known name s h i = go (has_name name known)
  where
    go : (b : Bool) → HaveStructures (cond b known (known ++ (name, s) ∷ []))
    go true = h
    go false = all_behind known (name, s) h i

read_structures : (declared known : Named) (names : List (List ℕ)) → list_all is_declarable_entry declared ≡ true → HaveStructures known → HaveStructures (read_behind declared known names)
read_structures declared known [] h i = i
read_structures declared known (name ∷ names) h i = read_structures declared (with_declared known name (lookup (same_name name) declared)) names h (go (lookup (same_name name) declared) refl)
  where
    go : (o : Option Structure) → lookup (same_name name) declared ≡ o → HaveStructures (with_declared known name o)
    go None e = i
    go (Some s) e = new_structure known name s i (declared_structure s (all_found (same_name name) declared s h e))

pub inputs_structures : (t : TypedScript) → AreStructures t.declared → HaveStructures (inputs_of t)
inputs_structures t are = read_structures t.declared [] (names_in (nodes_of t)) are.declarable tt

-- ---- each is found by its name
-- entries that stand apart are found each under its own name, in any list whose look-ups they have
abbrev AreFound : Named → Named → Type 0
AreFound es known = AllByRecursion (λ e. lookup (same_name e.0) known ≡ Some e.1) es

found_later : (name : List ℕ) (s : Structure) (es known : Named) → list_any (same_name name) (keys_of es) ≡ false → AreFound es known → AreFound es ((name, s) ∷ known)
found_later name s [] known h k = tt
found_later name s (e ∷ es) known h k =
    let parts = or_parts (same_name name e.0) (list_any (same_name name) (keys_of es)) h in
    (ap (λ b. cond b (Some s) (lookup (same_name e.0) known)) (nat_list_eq_equiv.symm e.0 name ∙ parts.0) ∙ k.0, found_later name s es known parts.1 k.1)

own_found : (es : Named) → all_apart same_name (keys_of es) ≡ true → AreFound es es
own_found [] h = tt
own_found (e ∷ es) h =
    let parts = and_parts (not (list_any (same_name e.0) (keys_of es))) (all_apart same_name (keys_of es)) h in
    (ap (λ b. cond b (Some e.1) (lookup (same_name e.0) es)) ((bytes_decides e.0 e.0).1 refl), found_later e.0 e.1 es es (not-true (list_any (same_name e.0) (keys_of es)) parts.0) (own_found es parts.1))

found_behind_results : (es known : Named) (ts : List Transformation) (ns : List NodeTree) → AreFound es known → AreFound es (results_behind known ts ns)
found_behind_results [] known ts ns h = tt
found_behind_results (e ∷ es) known ts ns h = (still_found e.0 e.1 known ts ns h.0, found_behind_results es known ts ns h.1)

named_entries : (es known : Named) → AreFound es known → flat_map (entry_named known) (keys_of es) ≡ es
named_entries [] known h = refl
named_entries (e ∷ es) known h = λ i. option_map_or (λ s. (e.0, s) ∷ []) (h.0 i) [] ++ named_entries es known h.1 i

pub all_read : (t : TypedScript) → flat_map (entry_named (known_of t)) (keys_of (inputs_of t)) ≡ inputs_of t
all_read t = named_entries (inputs_of t) (known_of t) (found_behind_results (inputs_of t) (inputs_of t) (transformations (tree_of t)) (nodes_of t) (own_found (inputs_of t) (inputs_apart t)))

-- ---- one after the other
pub held_behind : (first : ℕ) (past : Past Numbers) (es more : Named) → held_inputs first past (es ++ more) ≡ held_inputs (first + length (pairs_of es)) (held_inputs first past es) more
held_behind first past [] more = ap (λ n. held_inputs n past more) (let e : first ≡ first + 0 = omega arith in e)
held_behind first past (e ∷ es) more =
    held_behind (first + length (pairs_of_set e.0 e.1)) (with_sources past e.0 (input_numbers first e.1)) es more
    ∙ ap (λ n. held_inputs n (held_inputs first past (e ∷ es)) more) (let l = length-append (pairs_of_set e.0 e.1) (pairs_of es) in let g : first + length (pairs_of_set e.0 e.1) + length (pairs_of es) ≡ first + length (pairs_of (e ∷ es)) = omega (arith, l) in g)

-- where no name is there yet, each is put behind the others
none_held : (past : Past Numbers) (es : Named) → Type 0
none_held past es = AllByRecursion (λ e. list_any (same_name e.0) (keys_of past) ≡ false) es

any_append : (f : List ℕ → Bool) (xs ys : List (List ℕ)) → list_any f xs ≡ false → list_any f ys ≡ false → list_any f (xs ++ ys) ≡ false
any_append f [] ys h k = k
any_append f (x ∷ xs) ys h k = let parts = or_parts (f x) (list_any f xs) h in λ i. parts.0 i || any_append f xs ys parts.1 k i

still_none : (past : Past Numbers) (name : List ℕ) (from : Sources Numbers) (es : Named) → list_any (same_name name) (keys_of es) ≡ false → none_held past es → none_held (past ++ (name, from) ∷ []) es
unfolding none_held
still_none past name from [] h k = tt
still_none past name from (e ∷ es) h k =
    let parts = or_parts (same_name name e.0) (list_any (same_name name) (keys_of es)) h in (
      ap (list_any (same_name e.0)) (map-append (λ (x : List ℕ × Sources Numbers). x.0) past ((name, from) ∷ []))
          ∙ any_append (same_name e.0) (keys_of past) (name ∷ []) k.0 (λ i. (nat_list_eq_equiv.symm e.0 name ∙ parts.0) i || false),
      still_none past name from es parts.1 k.1,
    )

held_all : (first : ℕ) (past : Past Numbers) (es : Named) → all_apart same_name (keys_of es) ≡ true → none_held past es → held_inputs first past es ≡ past ++ inputs_numbers first es
unfolding none_held
held_all first past [] h k = sym (append-nil past)
held_all first past (e ∷ es) h k =
    let parts = and_parts (not (list_any (same_name e.0) (keys_of es))) (all_apart same_name (keys_of es)) h in
    let from = input_numbers first e.1 in
    let next = first + length (pairs_of_set e.0 e.1) in
    let put : with_sources past e.0 from ≡ past ++ (e.0, from) ∷ [] = ap (λ b. cond b (set_value (same_name e.0) past from) (past ++ (e.0, from) ∷ [])) k.0 in
    ap (λ z. held_inputs next z es) put
    ∙ held_all next (past ++ (e.0, from) ∷ []) es parts.1 (still_none past e.0 from es (not-true (list_any (same_name e.0) (keys_of es)) parts.0) k.1)
    ∙ append_assoc past ((e.0, from) ∷ []) (inputs_numbers next es)

none_yet : (es : Named) → none_held [] es
unfolding none_held
none_yet [] = tt
none_yet (e ∷ es) = (refl, none_yet es)

pub inputs_held : (t : TypedScript) → held_inputs 0 [] (inputs_of t) ≡ inputs_numbers 0 (inputs_of t)
inputs_held t = held_all 0 [] (inputs_of t) (inputs_apart t) (none_yet (inputs_of t))

-- ---- name by name
module _ (known : Named) (names : List (List ℕ)) where
  abbrev pub front : ℕ → Named
  front i = flat_map (entry_named known) (take i names)

  front_next : (i : ℕ) (name : List ℕ) → i < length names → name ≡ get_or names i name → front (i + 1) ≡ front i ++ entry_named known name
  front_next i name h e =
      ap (flat_map (entry_named known)) (take_more names i name h)
      ∙ flat_map-append (entry_named known) (take i names) (get_or names i name ∷ [])
      ∙ ap (λ l. front i ++ l) (append-nil (entry_named known (get_or names i name)) ∙ ap (entry_named known) (sym e))

  pairs_behind : (xs ys : Named) → pairs_of (xs ++ ys) ≡ pairs_of xs ++ pairs_of ys
  pairs_behind xs ys = flat_map-append (λ e. pairs_of_set e.0 e.1) xs ys

  module _ (i : ℕ) (name : List ℕ) (h : i < length names) (e : name ≡ get_or names i name) where
    pub next_pairs : (old new : Pairs) → old ≡ pairs_of (front i) → new ≡ old ++ pairs_of (entry_named known name) → new ≡ pairs_of (front (i + 1))
    next_pairs old new f g = g ∙ ap (λ l. l ++ pairs_of (entry_named known name)) f ∙ sym (pairs_behind (front i) (entry_named known name)) ∙ ap pairs_of (sym (front_next i name h e))

    pub next_known : (ps : List (Bor (List ℕ) × Bor (List ℕ))) (past now : Past Numbers) → lent_pairs ps ≡ pairs_of (front i) → past ≡ held_inputs 0 [] (front i) → now ≡ held_inputs (length ps) past (entry_named known name) → now ≡ held_inputs 0 [] (front (i + 1))
    next_known ps past now f g k =
        let long : length ps ≡ length (pairs_of (front i)) = sym (length-map ps pair_lent) ∙ ap length f in
        let start : length (pairs_of (front i)) ≡ 0 + length (pairs_of (front i)) = omega arith in
        k ∙ (λ j. held_inputs (long j) (g j) (entry_named known name))
        ∙ ap (λ n. held_inputs n (held_inputs 0 [] (front i)) (entry_named known name)) start
        ∙ sym (held_behind 0 [] (front i) (entry_named known name)) ∙ ap (held_inputs 0 []) (sym (front_next i name h e))

-- ---- behind all names
pub pairs_all : (t : TypedScript) (names : List (List ℕ)) (i : ℕ) (ps : Pairs) → names ≡ keys_of (inputs_of t) → length names ≤ i → ps ≡ pairs_of (front (known_of t) names i) → ps ≡ pairs_of (inputs_of t)
pairs_all t names i ps e h f = f ∙ ap (λ l. pairs_of (flat_map (entry_named (known_of t)) l)) (take_all i names h ∙ e) ∙ ap pairs_of (all_read t)

pub known_all : (t : TypedScript) (names : List (List ℕ)) (i : ℕ) (past : Past Numbers) → names ≡ keys_of (inputs_of t) → length names ≤ i → past ≡ held_inputs 0 [] (front (known_of t) names i) → past ≡ held_inputs 0 [] (inputs_of t)
known_all t names i past e h f = f ∙ ap (λ l. held_inputs 0 [] (flat_map (entry_named (known_of t)) l)) (take_all i names h ∙ e) ∙ ap (held_inputs 0 []) (all_read t)

-- ---- the whole
pub links_told : (t : TypedScript) (ss : List Statement) (ns : List Node) (pairs : Pairs) (known : Past Numbers) (before behind : List Linked) → AreStructures t.declared → ss ≡ t.script → ns ≡ t.nodes
    → pairs ≡ pairs_of (inputs_of t) → known ≡ held_inputs 0 [] (inputs_of t) → before ≡ []
    → behind ≡ before ++ all_links pairs known (with_nodes (transformations (map statement_tree ss)) (map node_tree ns)) → behind ≡ links (inputs_of t) (statements_of t)
links_told t ss ns pairs known before behind are s n p k b e =
    let P = pairs_of (inputs_of t) in
    e ∙ ap (λ l. l ++ all_links pairs known (with_nodes (transformations (map statement_tree ss)) (map node_tree ns))) b
    ∙ (λ j. all_links (p j) (k j) (with_nodes (transformations (map statement_tree (s j))) (map node_tree (n j))))
    ∙ ap (λ z. all_links P z (statements_of t)) (inputs_held t ∙ sym (all_inputs_same (inputs_of t) (inputs_apart t) (inputs_structures t are)))
    ∙ links_same P (inputs_lineage (inputs_of t)) (statements_of t)
