-- An accepted script can be translated.
use Rattle.std.proofs.Common.{inl, inr, ◌≡◌, ◌≤◌, ℕ, Bool, true, false, cond, ◌||◌, List, [], ◌∷◌, ◌++◌, Some, sym, ap, subst, true≢false}
use Rattle.std.specs.List.{AllByRecursion}
use Rattle.std.specs.Map.{lookup}
use Rattle.vtl_lists.proofs.Alls.{all_append, all_back, all_front}
use Rattle.vtl_decimal.specs.Settings.{Settings}
use Rattle.vtl_text.specs.Words.{is_name}
use Rattle.vtl_syntax.specs.Depth.{depth_limit}
use Rattle.vtl_syntax.specs.Written.{AreWritten}
use Rattle.vtl_tree.specs.Structure.{same_name}
use Rattle.vtl_tree.specs.Structures.{AreStructures, Named, has_name}
use Rattle.vtl_tree.specs.declared.structure.Structure.{Structure}
use Rattle.vtl_tree.specs.Nodes.{all_nodes, maybe_nodes, nodes_in, operand_nodes}
use Rattle.vtl_tree.specs.Trees as nodes
use Rattle.vtl_tree.specs.Trees.{FormTree, MaybeNode, NodeTree, NodeTrees, OperandTrees, structure_of}
use Rattle.vtl_check.specs.Checked.{IsTyped, TypedScript, nodes_of, tree_of}
use Rattle.vtl_check.specs.Names.{names_at, names_in, names_of}
use Rattle.vtl_check.specs.Transformations.{Transformation, transformations}
use Rattle.vtl_check.specs.Uses.{reads}
use Rattle.vtl_check.proofs.NameLemmas.{names_append}
use Rattle.vtl_backend.specs.Statements.{statements_of, with_nodes}
use Rattle.check_laws.specs.Depths.{node_depth}
use Rattle.check_laws.specs.Scripts.{AreKnownAlike, AreMadeFrom}
use Rattle.check_laws.proofs.DepthBounds.{node-below}
use Rattle.check_laws.proofs.DepthScripts.{written-depth}
use Rattle.vtl_meaning.proofs.Lists as lists
use Rattle.check_laws.proofs.Over.{made_over}
use Rattle.check_laws.proofs.Scripts.{script-made}
use Rattle.vtl_to_sql.specs.Accepted.{AreFew, AreHeld, HoldsParts}
use Rattle.vtl_to_sql.specs.Conditions.{AreTranslated, IsScript}
use Rattle.result_laws.proofs.Components.{AreKnownNamed, declared_named}
use Rattle.result_laws.proofs.Names.{components_named}
use Rattle.vtl_to_sql.proofs.AcceptedNodes.{node_translated}
use Rattle.vtl_to_sql.proofs.AcceptedReads.{IsWord, reads_alike, reads_fewer, reads_readable}
use Rattle.result_laws.proofs.WordedScripts.{results_named, script_worded}
use Rattle.result_laws.proofs.Words.{FormHasWords, HasWords, HaveWords, IsWorded, MaybeHasWords, OperandsHaveWords, name_word}

-- ---- the names that an expression reads are words
module _ (p : Settings) where
  two_words : (xs ys : List NodeTree) → AllByRecursion IsWord (names_at xs) → AllByRecursion IsWord (names_at ys) → AllByRecursion IsWord (names_at (xs ++ ys))
  two_words xs ys h k = subst (AllByRecursion IsWord) (sym (names_append xs ys)) (all_append IsWord (names_at xs) (names_at ys) h k)

  mutual
    names_words : (b : Bool) (n : NodeTree) → HasWords p b n → AllByRecursion IsWord (names_in n)
    names_words b (nodes.node s form) w = form_words b s form w

    form_words : (b : Bool) (s : Structure) (form : FormTree) → FormHasWords p b form → AllByRecursion IsWord (names_in (nodes.node s form))
    form_words b s (nodes.named name) w = (name_word name w, tt)
    form_words b s (nodes.measures m a) w = names_words false a w
    form_words b s (nodes.pair o a c) w = two_words (nodes_in a) (nodes_in c) (names_words false a w.0) (names_words false c w.1)
    form_words b s (nodes.choose q a c) w =
        two_words (nodes_in q) (nodes_in a ++ nodes_in c) (names_words false q w.0) (two_words (nodes_in a) (nodes_in c) (names_words false a w.1) (names_words false c w.2))
    form_words b s (nodes.member a m) w = names_words false a w
    form_words b s (nodes.filter a e) w = names_words b a w
    form_words b s (nodes.calc a items) w = names_words b a w.0
    form_words b s (nodes.keep a names) w = names_words b a w
    form_words b s (nodes.drop_named a names) w = names_words b a w
    form_words b s (nodes.rename a pairs) (inl w) = names_words b a w.0
    form_words b s (nodes.rename a pairs) (inr w) = names_words true a w.0
    form_words true s (nodes.join os spec) w = operand_words os w
    form_words false s (nodes.join os spec) w = absurd w
    form_words b s (nodes.sub a items) w = names_words false a w.0
    form_words b s (nodes.pivot a id m) w = names_words false a w.0
    form_words b s (nodes.unpivot a id m) w = names_words false a w.0
    form_words b s (nodes.aggregate a spec) w = names_words b a w.0
    form_words b s (nodes.analytic_of a spec) w = names_words b a w.0
    form_words b s (nodes.time a o) w = names_words false a w
    form_words b s (nodes.union ns) w = all_words ns w
    form_words b s (nodes.intersect ns) w = all_words ns w
    form_words b s (nodes.set_diff a c) w = two_words (nodes_in a) (nodes_in c) (names_words false a w.0) (names_words false c w.1)
    form_words b s (nodes.sym_diff a c) w = two_words (nodes_in a) (nodes_in c) (names_words false a w.0) (names_words false c w.1)
    form_words b s (nodes.exists_in a c r) w = two_words (nodes_in a) (nodes_in c) (names_words false a w.0) (names_words false c w.1)
    form_words b s (nodes.check a i spec) w = two_words (nodes_in a) (maybe_nodes i) (names_words false a w.0) (maybe_words i w.1)
    form_words b s (nodes.check_datapoint a rules out) w = names_words false a w.0
    form_words b s (nodes.check_hierarchy a rules m out) w = names_words false a w.0
    form_words b s (nodes.hierarchy a rules m i out) w = names_words false a w.0

    all_words : (ns : NodeTrees) → HaveWords p ns → AllByRecursion IsWord (names_at (all_nodes ns))
    all_words nodes.no_nodes w = tt
    all_words (nodes.and_node n ns) w = two_words (nodes_in n) (all_nodes ns) (names_words false n w.0) (all_words ns w.1)

    maybe_words : (i : MaybeNode) → MaybeHasWords p i → AllByRecursion IsWord (names_at (maybe_nodes i))
    maybe_words nodes.no_node w = tt
    maybe_words (nodes.some_node n) w = names_words false n w

    operand_words : (os : OperandTrees) → OperandsHaveWords p os → AllByRecursion IsWord (names_at (operand_nodes os))
    operand_words nodes.no_operands w = tt
    operand_words (nodes.operand n alias os) w = two_words (nodes_in n) (operand_nodes os) (names_words false n w.0) (operand_words os w.2)

-- ---- statements
-- what holds of a node of an accepted script
record IsReady (p : Settings) (n : NodeTree) : Type 0 where
  words : IsWorded p n
  shallow : node_depth n ≤ depth_limit
  held : HoldsParts n

abbrev AreReady : Settings → List NodeTree → Type 0
AreReady p ns = AllByRecursion (IsReady p) ns

words_of : (p : Settings) (ns : List NodeTree) → AreReady p ns → AllByRecursion IsWord (names_of ns)
words_of p [] h = tt
words_of p (n ∷ ns) h = all_append IsWord (names_in n) (names_of ns) (names_words p false n h.0.words) (words_of p ns h.1)

abbrev AreFewer : Named → Named → Type 0
AreFewer known other = (name : List ℕ) → has_name name known ≡ false → has_name name other ≡ false

fewer_still : (known other : Named) (e : List ℕ × Structure) → AreFewer known other → AreFewer (e ∷ known) (e ∷ other)
fewer_still known other e fewer name h = go (same_name name e.0) h
  where
    go : (b : Bool) → (b || has_name name known) ≡ false → (b || has_name name other) ≡ false
    go true k = absurd (true≢false k)
    go false k = fewer name k

statements_translated : (p : Settings) (known other : Named) (ts : List Transformation) (ns : List NodeTree) → AreKnownAlike known other (names_of ns) → AreFewer known other → AreKnownNamed known → AllByRecursion (λ r. is_name r.name ≡ true) ts → AreReady p ns → AreMadeFrom p known ts ns → AreFew p (with_nodes ts ns) → AreTranslated p other (with_nodes ts ns)
statements_translated p known other [] ns alike fewer named words ready made few = tt
statements_translated p known other (t ∷ ts) [] alike fewer named words ready made few = tt
statements_translated p known other (t ∷ ts) (n ∷ ns) alike fewer named words ready made few =
    let here = ready.0 in
    let rest = all_back (λ name. lookup (same_name name) known ≡ lookup (same_name name) other) (names_in n) (names_of ns) alike in (
      record {
        word = name_word t.name words.0;
        new = fewer t.name made.0;
        made = made_over p known other n (all_front (λ name. lookup (same_name name) known ≡ lookup (same_name name) other) (names_in n) (names_of ns) alike) made.1;
        translated = node_translated p known named false n made.1 here.words here.held (node-below depth_limit n here.shallow);
        few = few.0;
      },
      statements_translated p ((t.name, structure_of n) ∷ known) ((t.name, structure_of n) ∷ other) ts ns
          (lists.weaker (λ name. lookup (same_name name) known ≡ lookup (same_name name) other) (λ name. lookup (same_name name) ((t.name, structure_of n) ∷ known) ≡ lookup (same_name name) ((t.name, structure_of n) ∷ other)) (names_of ns) (λ name e. ap (cond (same_name name t.name) (Some (structure_of n))) e) rest)
          (fewer_still known other (t.name, structure_of n) fewer)
          ((components_named p known named false n made.1 here.words).0, named)
          words.1 ready.1 made.2 few.1,
    )

-- ---- scripts
all_ready : (p : Settings) (ns : List NodeTree) → AllByRecursion (IsWorded p) ns → AllByRecursion (λ n. node_depth n ≤ depth_limit) ns → AreHeld ns → AreReady p ns
all_ready p [] words shallow held = tt
all_ready p (n ∷ ns) words shallow held = (record { words = words.0; shallow = shallow.0; held = held.0 }, all_ready p ns words.1 shallow.1 held.1)

pub script_accepted : (t : TypedScript) → t.settings.scale ≤ 9 → AreStructures t.declared → IsTyped t → AreWritten (tree_of t) → AreHeld (nodes_of t) → AreFew t.settings (statements_of t) → IsScript t.settings (reads t.declared (nodes_of t)) (statements_of t)
script_accepted t low are typed written held few =
    let ns = nodes_of t in
    let ready = all_ready t.settings ns (script_worded t typed written) (written-depth t typed written) held in
    let words = words_of t.settings ns ready in
    record {
      low = low;
      readable = reads_readable t.declared ns words are;
      translated = statements_translated t.settings t.declared (reads t.declared ns) (transformations (tree_of t)) ns (reads_alike t.declared ns words) (reads_fewer t.declared ns words) (declared_named t.declared are) (results_named t written) ready (script-made t are typed) few;
    }
