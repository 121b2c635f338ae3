-- The parts of a script, made one after the other.
use Rattle.std.proofs.Common.{◌≡◌, ℕ, zero, suc, ◌+◌, ◌-◌, ◌<◌, ◌≤◌, false, List, [], ◌∷◌, ◌++◌, map, length, drop, take, slice_range, refl, sym, ap, ◌∙◌, subst, arith, append_assoc, append-nil, length-append}
use Rattle.std.specs.List.{list_any}
use Rattle.std.specs.Map.{keys_of}
use Rattle.std.proofs.lemmas.List.{drop_all, map-append}
use Rattle.vtl_syntax.specs.declared.expressions.Expr.{Expr}
use Rattle.vtl_syntax.specs.declared.word_groups.AssignKind.{AssignKind}
use Rattle.vtl_syntax.specs.View.{statement_tree}
use Rattle.vtl_tree.specs.NodeView.{node_tree}
use Rattle.vtl_tree.specs.declared.nodes.Node.{Node}
use Rattle.vtl_tree.specs.Structure.{same_name}
use Rattle.vtl_tree.specs.Structures.{AreStructures}
use Rattle.vtl_check.specs.Checked.{IsTyped, TypedScript, tree_of}
use Rattle.vtl_check.specs.Names.{names_in, names_of}
use Rattle.vtl_check.specs.Transformations.{transformations, transformations_from}
use Rattle.vtl_check.proofs.LeftLemmas.{assigned_at, left}
use Rattle.vtl_scripts.specs.Meaning.{Statement}
use Rattle.vtl_backend.specs.Statements.{is_written, statements_of, with_nodes}
use Rattle.rerun_laws.specs.Refreshes.{numbers_of}
use Rattle.vtl_rerun.specs.Operands.{operand_of, places_from}
use Rattle.vtl_rerun.specs.Sessions.{AreEach, AreParts, IsPartOf}
use Rattle.vtl_rerun.specs.declared.part.Part.{Part}
use Rattle.vtl_rerun.proofs.Names.{script_new}
use Rattle.vtl_rerun.proofs.Places.{AreNew, apart_from, covers_push}
use Rattle.vtl_rerun.proofs.Results.{Covers}

-- the statements that have no part yet
abbrev pub statements_left : TypedScript → (i j : ℕ) → List Statement
statements_left t i j = with_nodes (left t.script i) (map node_tree (drop j t.nodes))

-- The first parts, with the places of their results by name, behind so many statements.
pub record AreMade (t : TypedScript) (i j : ℕ) (places : List (List ℕ × ℕ)) (parts : List Part) : Type 0 where
  pub many : j + length (left t.script i) ≡ length t.nodes
  pub long : length (keys_of places) ≡ j
  pub placed : places ≡ places_from 0 (keys_of places)
  pub known : List (List ℕ)
  pub covers : Covers (keys_of places) known
  pub new : AreNew known (statements_left t i j)
  pub rest : (xs : List Part) → AreEach (keys_of places) (numbers_of (left t.script i)) (statements_left t i j) xs → AreEach [] (numbers_of (transformations (tree_of t))) (statements_of t) (parts ++ xs)

pub none_made : (t : TypedScript) → AreStructures t.declared → IsTyped t → length t.nodes ≡ length (transformations (tree_of t)) → AreMade t 0 0 [] []
none_made t are typed many = record { many = omega (arith, many); long = refl; placed = refl; known = keys_of t.declared; covers = λ q h. cc; new = script_new t are typed; rest = λ xs h. h }

places_push : (b k : ℕ) (names : List (List ℕ)) (m : List ℕ) → b + length names ≡ k → places_from b (names ++ m ∷ []) ≡ places_from b names ++ (m, k) ∷ []
places_push b k [] m e = let f : b ≡ k = omega (arith, e) in ap (λ i. (m, i) ∷ []) f
places_push b k (n ∷ ns) m e = ap (λ l. (n, b) ∷ l) (places_push (suc b) k ns m (omega (arith, e)))

node_at : (j : ℕ) (ns : List Node) → j < length ns → (n : Node) × (drop j ns ≡ n ∷ drop (suc j) ns)
node_at j [] h = absurd (omega (arith, h))
node_at zero (n ∷ ns) h = (n, refl)
node_at (suc j) (n ∷ ns) h = node_at j ns (omega (arith, h))

module _ (t : TypedScript) (i j : ℕ) (places : List (List ℕ × ℕ)) (parts : List Part) (made : AreMade t i j places parts) where
  -- a definition has no part
  pub passed : left t.script i ≡ left t.script (i + 1) → AreMade t (i + 1) j places parts
  passed same = record {
    many = subst (λ l. j + length l ≡ length t.nodes) same made.many;
    long = made.long;
    placed = made.placed;
    known = made.known;
    covers = made.covers;
    new = subst (λ l. AreNew made.known (with_nodes l (map node_tree (drop j t.nodes)))) same made.new;
    rest = subst (λ l. (xs : List Part) → AreEach (keys_of places) (numbers_of l) (with_nodes l (map node_tree (drop j t.nodes))) xs → AreEach [] (numbers_of (transformations (tree_of t))) (statements_of t) (parts ++ xs)) same made.rest;
  }

  -- a transformation has one
  module _ (name : List ℕ) (kind : AssignKind) (value : Expr) (here : left t.script i ≡ assigned_at i name kind value ∷ left t.script (i + 1)) where
    pub within : j < length t.nodes
    within = omega (arith, made.many, ap length here)

    node : (n : Node) × (drop j t.nodes ≡ n ∷ drop (suc j) t.nodes)
    node = node_at j t.nodes within

    one : Statement
    one = record { result = name; persistent = is_written kind; node = node_tree node.0 }

    left_here : statements_left t i j ≡ record { result = name; persistent = is_written kind; node = node_tree node.0 } ∷ statements_left t (i + 1) (suc j)
    left_here = ap (λ l. with_nodes l (map node_tree (drop j t.nodes))) here ∙ ap (λ l. with_nodes (assigned_at i name kind value ∷ left t.script (i + 1)) (map node_tree l)) node.1

    now_new : AreNew made.known (record { result = name; persistent = is_written kind; node = node_tree node.0 } ∷ statements_left t (i + 1) (suc j))
    now_new = subst (AreNew made.known) left_here made.new

    pub is_new : list_any (same_name name) (keys_of places) ≡ false
    is_new = apart_from made.known (keys_of places) name made.covers now_new.0

    keys_push : keys_of (places ++ (name, j) ∷ []) ≡ keys_of places ++ name ∷ []
    keys_push = map-append (λ (e : List ℕ × ℕ). e.0) places ((name, j) ∷ [])

    names_here : names_of (map node_tree (slice_range t.nodes j (j + 1))) ≡ names_in (node_tree node.0)
    names_here =
        let one_more : j + 1 - j ≡ 1 = omega arith in
        ap (λ k. names_of (map node_tree (take k (drop j t.nodes)))) one_more ∙ ap (λ l. names_of (map node_tree (take 1 l))) node.1 ∙ append-nil (names_in (node_tree node.0))

    module _ (x : Part) (number : x.number ≡ i + 1) (named : x.name ≡ name) (written : x.is_written ≡ is_written kind) (operands : x.operands.items ≡ map (operand_of places) (names_of (map node_tree (slice_range t.nodes j (j + 1))))) where
      part : IsPartOf (keys_of places) (i + 1) (record { result = name; persistent = is_written kind; node = node_tree node.0 }) x
      part = record { number = number; name = named; written = written; operands = operands ∙ ap (map (operand_of places)) names_here ∙ ap (λ p. map (operand_of p) (names_in (node_tree node.0))) made.placed }

      pub more_made : AreMade t (i + 1) (suc j) (places ++ (name, j) ∷ []) (parts ++ x ∷ [])
      more_made = record {
        many = omega (arith, made.many, ap length here);
        long = ap length keys_push ∙ length-append (keys_of places) (name ∷ []) ∙ omega (arith, made.long);
        placed = ap (λ p. p ++ (name, j) ∷ []) made.placed ∙ sym (places_push 0 j (keys_of places) name (omega (arith, made.long))) ∙ sym (ap (places_from 0) keys_push);
        known = name ∷ made.known;
        covers = subst (λ l. Covers l (name ∷ made.known)) (sym keys_push) (covers_push (keys_of places) made.known name made.covers);
        new = now_new.1;
        rest = rest_more;
      }
        where
          rest_more : (xs : List Part) → AreEach (keys_of (places ++ (name, j) ∷ [])) (numbers_of (left t.script (i + 1))) (statements_left t (i + 1) (suc j)) xs → AreEach [] (numbers_of (transformations (tree_of t))) (statements_of t) ((parts ++ x ∷ []) ++ xs)
          rest_more xs h =
              subst (λ l. AreEach [] (numbers_of (transformations (tree_of t))) (statements_of t) l) (sym (append_assoc parts (x ∷ []) xs))
              (made.rest (x ∷ xs)
              (subst (λ l. AreEach (keys_of places) (numbers_of l) (statements_left t i j) (x ∷ xs)) (sym here)
              (subst (λ l. AreEach (keys_of places) (numbers_of (assigned_at i name kind value ∷ left t.script (i + 1))) l (x ∷ xs)) (sym left_here)
              (part, subst (λ l. AreEach l (numbers_of (left t.script (i + 1))) (statements_left t (i + 1) (suc j)) xs) keys_push h))))

  pub all_made : length t.script ≤ i → AreStructures t.declared → IsTyped t → AreParts t parts
  all_made past are typed = record { typed = typed; structures = are; each = subst (AreEach [] (numbers_of (transformations (tree_of t))) (statements_of t)) (append-nil parts) (made.rest [] none) }
    where
      none : AreEach (keys_of places) (numbers_of (left t.script i)) (statements_left t i j) []
      none = subst (λ l. AreEach (keys_of places) (numbers_of (transformations_from (i + 1) (map statement_tree l))) (with_nodes (transformations_from (i + 1) (map statement_tree l)) (map node_tree (drop j t.nodes))) []) (sym (drop_all i t.script past)) tt

-- as the program goes on: one part more, whose fields are these
pub grown : (t : TypedScript) (i j k : ℕ) (places now : List (List ℕ × ℕ)) (parts new : List Part) (ns : List Node) (x : Part) (name key : List ℕ) (kind : AssignKind) (value : Expr) → AreMade t i j places parts → left t.script i ≡ assigned_at i name kind value ∷ left t.script (i + 1)
    → j ≡ length parts → k ≡ j → ns ≡ t.nodes → now ≡ places ++ (key, k) ∷ [] → key ≡ name → new ≡ parts ++ x ∷ []
    → x.number ≡ i + 1 → x.name ≡ name → x.is_written ≡ is_written kind → x.operands.items ≡ map (operand_of places) (names_of (map node_tree (slice_range ns k (k + 1)))) → AreMade t (i + 1) (length new) now new
grown t i j k places now parts new ns x name key kind value made here long same nodes put named pushed number given written operands =
    let many : suc j ≡ length new = ap suc long ∙ sym (ap length pushed ∙ length-append parts (x ∷ []) ∙ omega arith) in
    let puts : now ≡ places ++ (name, j) ∷ [] = put ∙ ap (λ m. places ++ (key, m) ∷ []) same ∙ ap (λ n. places ++ (n, j) ∷ []) named in
    let reads : x.operands.items ≡ map (operand_of places) (names_of (map node_tree (slice_range t.nodes j (j + 1)))) =
    operands ∙ ap (λ l. map (operand_of places) (names_of (map node_tree (slice_range l k (k + 1))))) nodes ∙ ap (λ m. map (operand_of places) (names_of (map node_tree (slice_range t.nodes m (m + 1))))) same in
    subst (λ m. AreMade t (i + 1) m now new) many (subst (λ l. AreMade t (i + 1) (suc j) l new) (sym puts) (subst (AreMade t (i + 1) (suc j) (places ++ (name, j) ∷ [])) (sym pushed) (more_made t i j places parts made name kind value here x number given written reads)))

pub begins : (t : TypedScript) (places : List (List ℕ × ℕ)) (parts : List Part) → AreStructures t.declared → IsTyped t → length t.nodes ≡ length (transformations (tree_of t)) → places ≡ [] → parts ≡ [] → AreMade t 0 (length parts) places parts
begins t places parts are typed many e f = subst (λ xs. AreMade t 0 (length xs) places xs) (sym f) (subst (λ p. AreMade t 0 0 p []) (sym e) (none_made t are typed many))
