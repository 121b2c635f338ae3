-- A part of a script, by the place of its transformation among all.
use Rattle.std.proofs.Common.{◌≡◌, ℕ, zero, suc, pred, ◌+◌, ◌≤◌, ◌==◌, Bool, true, false, cond, List, [], ◌∷◌, ◌++◌, take, Option, Some, None, is_some, slice_get, refl, sym, ap, subst, ◌∙◌, arith}
use Rattle.std.proofs.lemmas.Bool.{eq-eqb, le-ltb, lt-ltb, ne_eqb}
use Rattle.std.proofs.lemmas.Option.{same_Some}
use Rattle.std.specs.Map.{lookup}
use Rattle.std.specs.Cmp.Lexicographic.{bytes_decides}
use Rattle.vtl_lists.proofs.Alls.{all_back, all_front, all_more}
use Rattle.vtl_decimal.specs.Settings.{Settings}
use Rattle.vtl_syntax.specs.Trees as tree
use Rattle.vtl_syntax.specs.Trees.{ScriptTree, StatementTree}
use Rattle.vtl_syntax.specs.declared.word_groups.AssignKind.TheVariants as assigned
use Rattle.vtl_rows.specs.Named.{NamedTables}
use Rattle.vtl_tree.specs.Environment.{known_in}
use Rattle.vtl_tree.specs.Structure.{same_name}
use Rattle.vtl_tree.specs.Structures.{AreStructures, Named, has_name}
use Rattle.vtl_tree.specs.declared.structure.Structure.{Structure}
use Rattle.vtl_tree.specs.Trees.{NodeTree, structure_of}
use Rattle.vtl_check.proofs.KnownLemmas.{has_name-lookup}
use Rattle.vtl_check.specs.Checked.{IsTyped, TypedScript, nodes_of, tree_of}
use Rattle.vtl_check.specs.Names.{names_in, names_of}
use Rattle.vtl_check.specs.Transformations.{Transformation, transformations, transformations_from}
use Rattle.vtl_scripts.specs.Made.{AreMadeStatements}
use Rattle.vtl_scripts.specs.Meaning.{Statement}
use Rattle.check_laws.specs.Scripts.{AreKnownAlike, AreMadeFrom}
use Rattle.vtl_backend.specs.Inputs.{environment_of, inputs_of}
use Rattle.vtl_backend.specs.Statements.{statements_of, with_nodes}
use Rattle.rerun_laws.specs.Parts.{IsPart, definitions_in, known_before, nodes_at, part_tree, persistent}
use Rattle.rerun_laws.specs.Values.{alone, behind, known_behind}
use Rattle.rerun_laws.proofs.DataSets.{known_there}
use Rattle.rerun_laws.proofs.InputsRead.{known_inputs, reads_same}
use Rattle.check_laws.proofs.Over.{made_over}
use Rattle.check_laws.proofs.Scripts.{script-made}

-- ---- numbers
-- a transformation is the statement of its number, and the numbers begin with the first
pub record IsAt (first : ℕ) (script : ScriptTree) (t : Transformation) : Type 0 where
  pub place : ℕ
  pub number : t.number ≡ first + place
  pub statement : slice_get script place ≡ Some (tree.assignment t.name t.kind t.value)

one_further : (first : ℕ) (s : StatementTree) (script : ScriptTree) (t : Transformation) → IsAt (suc first) script t → IsAt first (s ∷ script) t
one_further first s script t at = record { place = suc at.place; number = (let e = at.number in omega arith); statement = at.statement }

pub is_at : (first : ℕ) (script : ScriptTree) (i : ℕ) (t : Transformation) → slice_get (transformations_from first script) i ≡ Some t → IsAt first script t
is_at first [] i t e = cc
is_at first (tree.assignment name kind x ∷ ss) zero t e = subst (IsAt first (tree.assignment name kind x ∷ ss)) (same_Some _ _ e) (record { place = 0; number = omega arith; statement = refl })
is_at first (tree.assignment name kind x ∷ ss) (suc i) t e = one_further first (tree.assignment name kind x) ss t (is_at (suc first) ss i t e)
is_at first (tree.datapoint name variables rules last ∷ ss) i t e = one_further first (tree.datapoint name variables rules last) ss t (is_at (suc first) ss i t e)
is_at first (tree.hierarchical name item rules last ∷ ss) i t e = one_further first (tree.hierarchical name item rules last) ss t (is_at (suc first) ss i t e)

-- the numbers of transformations rise
abbrev Rise : ℕ → List Transformation → Type 0
Rise first [] = Unit {0}
Rise first (t ∷ ts) = (first ≤ t.number) × Rise (suc t.number) ts

rise_more : (first : ℕ) (ts : List Transformation) → Rise (suc first) ts → Rise first ts
rise_more first [] h = tt
rise_more first (t ∷ ts) h = ((let e = h.0 in omega arith), h.1)

numbers_rise : (first : ℕ) (script : ScriptTree) → Rise first (transformations_from first script)
numbers_rise first [] = tt
numbers_rise first (tree.assignment name kind x ∷ ss) = (omega arith, numbers_rise (suc first) ss)
numbers_rise first (tree.datapoint name variables rules last ∷ ss) = rise_more first (transformations_from (suc first) ss) (numbers_rise (suc first) ss)
numbers_rise first (tree.hierarchical name item rules last ∷ ss) = rise_more first (transformations_from (suc first) ss) (numbers_rise (suc first) ss)

number_from : (first : ℕ) (ts : List Transformation) (i : ℕ) (t : Transformation) → Rise first ts → slice_get ts i ≡ Some t → first ≤ t.number
number_from first [] i t h e = cc
number_from first (x ∷ ts) zero t h e = subst (λ y. first ≤ y.number) (same_Some _ _ e) h.0
number_from first (x ∷ ts) (suc i) t h e = let later = number_from (suc x.number) ts i t h.1 e in let here = h.0 in omega arith

-- ---- the node
node_at : (first : ℕ) (ts : List Transformation) (ns : List NodeTree) (i : ℕ) (t : Transformation) (s : Statement) → Rise first ts → slice_get ts i ≡ Some t → slice_get (with_nodes ts ns) i ≡ Some s → nodes_at t.number ts ns ≡ s.node ∷ []
node_at first [] ns i t s h e q = cc
node_at first (x ∷ ts) [] i t s h e q = cc
node_at first (x ∷ ts) (n ∷ ns) zero t s h e q =
    ap (λ y. nodes_at y.number (x ∷ ts) (n ∷ ns)) (sym (same_Some _ _ e)) ∙ ap (λ b. cond b (n ∷ []) (nodes_at x.number ts ns)) (eq-eqb x.number x.number refl) ∙ ap (λ (y : Statement). y.node ∷ []) (same_Some _ _ q)
node_at first (x ∷ ts) (n ∷ ns) (suc i) t s h e q =
    let later : suc x.number ≤ t.number = number_from (suc x.number) ts i t h.1 e in
    ap (λ b. cond b (n ∷ []) (nodes_at t.number ts ns)) (apart x.number t.number later) ∙ node_at (suc x.number) ts ns i t s h.1 e q
  where
    apart : (a b : ℕ) → suc a ≤ b → (a == b) ≡ false
    apart a b h = ne_eqb a b (λ e. omega arith)

-- ---- the statement of a part
-- definitions are no transformations, and the transformation is written with `<-`
part_statement : (j : ℕ) (before : ScriptTree) (t : Transformation) (n : NodeTree)
    → with_nodes (transformations_from j (definitions_in before ++ tree.assignment t.name assigned.Persistent t.value ∷ [])) (n ∷ []) ≡ record { result = t.name; persistent = true; node = n } ∷ []
part_statement j [] t n = refl
part_statement j (tree.assignment name kind x ∷ ss) t n = part_statement j ss t n
part_statement j (tree.datapoint name variables rules last ∷ ss) t n = part_statement (suc j) ss t n
part_statement j (tree.hierarchical name item rules last ∷ ss) t n = part_statement (suc j) ss t n

statement_at : (ts : List Transformation) (ns : List NodeTree) (i : ℕ) (t : Transformation) (s : Statement) → slice_get ts i ≡ Some t → slice_get (with_nodes ts ns) i ≡ Some s → record { result = t.name; persistent = true; node = s.node } ≡ alone s
statement_at [] ns i t s e q = cc
statement_at (x ∷ ts) [] i t s e q = cc
statement_at (x ∷ ts) (n ∷ ns) zero t s e q =
    ap (λ (y : Transformation). record { result = y.name; persistent = true; node = s.node }) (sym (same_Some _ _ e)) ∙ ap (λ (y : Statement). record { result = y.result; persistent = true; node = s.node }) (same_Some _ _ q)
statement_at (x ∷ ts) (n ∷ ns) (suc i) t s e q = statement_at ts ns i t s e q

pub part_statements : (t : TypedScript) (part : TypedScript) (i : ℕ) (tr : Transformation) (s : Statement) → slice_get (transformations (tree_of t)) i ≡ Some tr → slice_get (statements_of t) i ≡ Some s → IsPart t tr.number part → statements_of part ≡ alone s ∷ []
part_statements t part i tr s e q is =
    ap (λ tree. with_nodes (transformations tree) (nodes_of part)) (is.tree ∙ tree_is)
    ∙ ap (with_nodes (transformations (definitions_in (take at.place (tree_of t)) ++ tree.assignment tr.name assigned.Persistent tr.value ∷ []))) (is.nodes ∙ node_at 1 (transformations (tree_of t)) (nodes_of t) i tr s (numbers_rise 1 (tree_of t)) e q)
    ∙ part_statement 1 (take at.place (tree_of t)) tr s.node
    ∙ ap (λ x. x ∷ []) (statement_at (transformations (tree_of t)) (nodes_of t) i tr s e q)
  where
    at : IsAt 1 (tree_of t) tr
    at = is_at 1 (tree_of t) i tr e

    next : 1 + at.place ≡ suc at.place
    next = omega arith

    before : pred tr.number ≡ at.place
    before = ap pred (at.number ∙ next)

    tree_is : part_tree tr.number (tree_of t) ≡ definitions_in (take at.place (tree_of t)) ++ tree.assignment tr.name assigned.Persistent tr.value ∷ []
    tree_is =
        ap (λ k. definitions_in (take k (tree_of t)) ++ persistent (slice_get (tree_of t) k)) before
        ∙ ap (λ o. definitions_in (take at.place (tree_of t)) ++ persistent o) at.statement

-- ---- what is known
-- two lists know the same of all names
abbrev AreAlike : Named → Named → Type 0
AreAlike known other = (name : List ℕ) → lookup (same_name name) known ≡ lookup (same_name name) other

-- one more at the end of the one and in front of the other, under a new name
alike_more : (known other : Named) (new : List ℕ) (s : Structure) → AreAlike known other → has_name new other ≡ false → AreAlike (known ++ (new, s) ∷ []) ((new, s) ∷ other)
alike_more known other new s alike free name = go (lookup (same_name name) known) refl
  where
    go : (o : Option Structure) → lookup (same_name name) known ≡ o → lookup (same_name name) (known ++ (new, s) ∷ []) ≡ cond (same_name name new) (Some s) (lookup (same_name name) other)
    go None e = behind_none known e ∙ ap (λ o. cond (same_name name new) (Some s) o) (sym e ∙ alike name)
      where
        behind_none : (known : Named) → lookup (same_name name) known ≡ None → lookup (same_name name) (known ++ (new, s) ∷ []) ≡ cond (same_name name new) (Some s) None
        behind_none [] e = refl
        behind_none (y ∷ ys) e = at (same_name name y.0) (behind_none ys) e
          where
            at : (b : Bool) → (lookup (same_name name) ys ≡ None → lookup (same_name name) (ys ++ (new, s) ∷ []) ≡ cond (same_name name new) (Some s) None)
                → cond b (Some y.1) (lookup (same_name name) ys) ≡ None → cond b (Some y.1) (lookup (same_name name) (ys ++ (new, s) ∷ [])) ≡ cond (same_name name new) (Some s) None
            at true ih e = cc
            at false ih e = ih e
    go (Some x) e = in_front known e ∙ other_name (same_name name new) refl
      where
        in_front : (known : Named) → lookup (same_name name) known ≡ Some x → lookup (same_name name) (known ++ (new, s) ∷ []) ≡ Some x
        in_front [] e = cc
        in_front (y ∷ ys) e = at (same_name name y.0) (in_front ys) e
          where
            at : (b : Bool) → (lookup (same_name name) ys ≡ Some x → lookup (same_name name) (ys ++ (new, s) ∷ []) ≡ Some x)
                → cond b (Some y.1) (lookup (same_name name) ys) ≡ Some x → cond b (Some y.1) (lookup (same_name name) (ys ++ (new, s) ∷ [])) ≡ Some x
            at true ih e = e
            at false ih e = ih e

        other_name : (b : Bool) → same_name name new ≡ b → Some x ≡ cond b (Some s) (lookup (same_name name) other)
        other_name false is = sym e ∙ alike name
        other_name true is =
            let there : lookup (same_name new) other ≡ Some x = ap (λ q. lookup (same_name q) other) (sym ((bytes_decides name new).0 is)) ∙ sym (alike name) ∙ e in
            let wrong : false ≡ true = sym free ∙ has_name-lookup new other ∙ ap is_some there in
            cc

-- the same front of both
front_more : (known other : Named) (new : List ℕ) (s : Structure) (names : List (List ℕ)) → AreKnownAlike known other names → AreKnownAlike ((new, s) ∷ known) ((new, s) ∷ other) names
front_more known other new s names h =
    all_more (λ name. lookup (same_name name) known ≡ lookup (same_name name) other) (λ name. lookup (same_name name) ((new, s) ∷ known) ≡ lookup (same_name name) ((new, s) ∷ other)) (λ name same. ap (cond (same_name name new) (Some s)) same) names h

-- what is known before a transformation is what is known behind the statements before it: `among` has the results in front, over what is
-- declared, and `read` over what is read alone
known_alike : (p : Settings) (first : ℕ) (ts : List Transformation) (ns : List NodeTree) (i : ℕ) (t : Transformation) (s : Statement) (known among read : Named)
    → Rise first ts → AreMadeFrom p among ts ns → AreAlike known among → AreKnownAlike among read (names_of ns) → slice_get ts i ≡ Some t → slice_get (with_nodes ts ns) i ≡ Some s
    → AreKnownAlike (known_before t.number known ts ns) (known_behind read (take i (with_nodes ts ns))) (names_in s.node)
known_alike p first [] ns i t s known among read rise made alike same e q = cc
known_alike p first (x ∷ ts) [] i t s known among read rise made alike same e q = cc
known_alike p first (x ∷ ts) (n ∷ ns) zero t s known among read rise made alike same e q =
    subst (λ (y : Statement). AreKnownAlike (known_before t.number known (x ∷ ts) (n ∷ ns)) read (names_in y.node)) (same_Some _ _ q)
    (subst (λ y. AreKnownAlike (known_before y.number known (x ∷ ts) (n ∷ ns)) read (names_in n)) (same_Some _ _ e)
    (subst (λ b. AreKnownAlike (cond b (known_before x.number (known ++ (x.name, structure_of n) ∷ []) ts ns) known) read (names_in n)) (sym (le-ltb x.number x.number (omega arith)))
    (all_more (λ name. lookup (same_name name) among ≡ lookup (same_name name) read) (λ name. lookup (same_name name) known ≡ lookup (same_name name) read) (λ name k. alike name ∙ k) (names_in n)
    (all_front (λ name. lookup (same_name name) among ≡ lookup (same_name name) read) (names_in n) (names_of ns) same))))
known_alike p first (x ∷ ts) (n ∷ ns) (suc i) t s known among read rise made alike same e q =
    let later : suc x.number ≤ t.number = number_from (suc x.number) ts i t rise.1 e in
    subst (λ b. AreKnownAlike (cond b (known_before t.number (known ++ (x.name, structure_of n) ∷ []) ts ns) known) (known_behind ((x.name, structure_of n) ∷ read) (take i (with_nodes ts ns))) (names_in s.node)) (sym (lt-ltb x.number t.number later))
    (known_alike p (suc x.number) ts ns i t s (known ++ (x.name, structure_of n) ∷ []) ((x.name, structure_of n) ∷ among) ((x.name, structure_of n) ∷ read)
    rise.1 made.2 (alike_more known among x.name (structure_of n) alike made.0)
    (front_more among read x.name (structure_of n) (names_of ns) (all_back (λ name. lookup (same_name name) among ≡ lookup (same_name name) read) (names_in n) (names_of ns) same)) e q)

pub part_known : (t : TypedScript) (part : TypedScript) (tables : NamedTables) (i : ℕ) (tr : Transformation) (s : Statement) → AreStructures t.declared → IsTyped t → slice_get (transformations (tree_of t)) i ≡ Some tr → slice_get (statements_of t) i ≡ Some s → IsPart t tr.number part
    → AreKnownAlike part.declared (known_in (behind t.settings (take i (statements_of t)) (environment_of t tables))) (names_in s.node)
part_known t part tables i tr s are typed e q is =
    subst (λ known. AreKnownAlike known (known_in (behind t.settings (take i (statements_of t)) (environment_of t tables))) (names_in s.node)) (sym is.declared)
    (subst (λ known. AreKnownAlike (known_before tr.number t.declared (transformations (tree_of t)) (nodes_of t)) known (names_in s.node)) (sym known)
    (known_alike t.settings 1 (transformations (tree_of t)) (nodes_of t) i tr s t.declared t.declared (inputs_of t) (numbers_rise 1 (tree_of t)) (script-made t are typed) (λ name. refl) (reads_same t.declared (nodes_of t)) e q))
  where
    known : known_in (behind t.settings (take i (statements_of t)) (environment_of t tables)) ≡ known_behind (inputs_of t) (take i (statements_of t))
    known = known_there t.settings (take i (statements_of t)) (environment_of t tables) ∙ ap (λ k. known_behind k (take i (statements_of t))) (known_inputs tables (inputs_of t))

-- ---- the statements of a script are made over what is read
made_from : (p : Settings) (among read : Named) (ts : List Transformation) (ns : List NodeTree) → AreMadeFrom p among ts ns → AreKnownAlike among read (names_of ns) → AreMadeStatements p read (with_nodes ts ns)
made_from p among read [] ns made same = tt
made_from p among read (x ∷ ts) [] made same = tt
made_from p among read (x ∷ ts) (n ∷ ns) made same = (
  made_over p among read n (all_front (λ name. lookup (same_name name) among ≡ lookup (same_name name) read) (names_in n) (names_of ns) same) made.1,
  made_from p ((x.name, structure_of n) ∷ among) ((x.name, structure_of n) ∷ read) ts ns made.2
      (front_more among read x.name (structure_of n) (names_of ns) (all_back (λ name. lookup (same_name name) among ≡ lookup (same_name name) read) (names_in n) (names_of ns) same)),
)

pub statements_made : (t : TypedScript) (tables : NamedTables) → AreStructures t.declared → IsTyped t → AreMadeStatements t.settings (known_in (environment_of t tables)) (statements_of t)
statements_made t tables are typed =
    subst (λ known. AreMadeStatements t.settings known (statements_of t)) (sym (known_inputs tables (inputs_of t)))
    (made_from t.settings t.declared (inputs_of t) (transformations (tree_of t)) (nodes_of t) (script-made t are typed) (reads_same t.declared (nodes_of t)))
