-- The names and numbers of transformations.
use Rattle.std.proofs.Common.{◌≡◌, ℕ, zero, suc, Bool, true, false, not, ◌||◌, ◌&&◌, List, [], ◌∷◌, map, length, take, slice_get, cond, Some, refl, sym, ap, ◌∙◌, arith}
use Rattle.std.specs.List.{list_any}
use Rattle.std.specs.Map.{keys_of}
use Rattle.std.specs.Cmp.Lexicographic.{bytes_decides, nat_list_eq_equiv}
use Rattle.vtl_decimal.specs.Settings.{Settings}
use Rattle.vtl_lists.specs.Apart.{all_apart}
use Rattle.vtl_lists.proofs.Tests.{or_true}
use Rattle.vtl_syntax.specs.Trees as tree
use Rattle.vtl_syntax.specs.Trees.{ScriptTree}
use Rattle.vtl_tree.specs.Structure.{same_name}
use Rattle.vtl_tree.specs.Structures.{AreStructures, Named}
use Rattle.vtl_tree.specs.Trees.{NodeTree, structure_of}
use Rattle.vtl_check.specs.Checked.{IsTyped, TypedScript, nodes_of, tree_of}
use Rattle.vtl_check.specs.Transformations.{Transformation, transformations, transformations_from}
use Rattle.check_laws.specs.Scripts.{AreMadeFrom}
use Rattle.vtl_backend.specs.Statements.{is_written, statements_of, with_nodes}
use Rattle.vtl_scripts.specs.Meaning.{Statement}
use Rattle.rerun_laws.specs.Refreshes.{numbers_before, numbers_of}
use Rattle.check_laws.proofs.Scripts.{script-made}
use Rattle.vtl_rerun.proofs.Numbers.{Rise, rise_from}
use Rattle.vtl_rerun.proofs.Places.{AreNew}

-- ---- numbers
pub numbers_rise : (i : ℕ) (script : ScriptTree) → Rise i (numbers_of (transformations_from i script))
numbers_rise i [] = tt
numbers_rise i (tree.assignment name kind e ∷ ss) = (omega arith, numbers_rise (suc i) ss)
numbers_rise i (tree.datapoint name variables rules last ∷ ss) = rise_from i (suc i) (numbers_of (transformations_from (suc i) ss)) (omega arith) (numbers_rise (suc i) ss)
numbers_rise i (tree.hierarchical name item rules last ∷ ss) = rise_from i (suc i) (numbers_of (transformations_from (suc i) ss)) (omega arith) (numbers_rise (suc i) ss)

-- ---- names
made_new : (p : Settings) (known : Named) (ts : List Transformation) (ns : List NodeTree) → AreMadeFrom p known ts ns → AreNew (keys_of known) (with_nodes ts ns)
made_new p known [] [] m = tt
made_new p known [] (n ∷ ns) m = absurd m
made_new p known (t ∷ ts) [] m = absurd m
made_new p known (t ∷ ts) (n ∷ ns) m = (m.0, made_new p ((t.name, structure_of n) ∷ known) ts ns m.2)

pub script_new : (t : TypedScript) → AreStructures t.declared → IsTyped t → AreNew (keys_of t.declared) (statements_of t)
script_new t are typed = made_new t.settings t.declared (transformations (tree_of t)) (nodes_of t) (script-made t are typed)

made_long : (p : Settings) (known : Named) (ts : List Transformation) (ns : List NodeTree) → AreMadeFrom p known ts ns → length ts ≡ length ns
made_long p known [] [] m = refl
made_long p known [] (n ∷ ns) m = absurd m
made_long p known (t ∷ ts) [] m = absurd m
made_long p known (t ∷ ts) (n ∷ ns) m = ap suc (made_long p ((t.name, structure_of n) ∷ known) ts ns m.2)

pub script_long : (t : TypedScript) → AreStructures t.declared → IsTyped t → length (transformations (tree_of t)) ≡ length (nodes_of t)
script_long t are typed = made_long t.settings t.declared (transformations (tree_of t)) (nodes_of t) (script-made t are typed)

pub statements_long : (ts : List Transformation) (ns : List NodeTree) → length ts ≡ length ns → length (with_nodes ts ns) ≡ length ts
statements_long [] ns e = refl
statements_long (t ∷ ts) [] e = sym e
statements_long (t ∷ ts) (n ∷ ns) e = ap suc (statements_long ts ns (omega (arith, e)))

pub numbers_long : (ts : List Transformation) → length (numbers_of ts) ≡ length ts
numbers_long [] = refl
numbers_long (t ∷ ts) = ap suc (numbers_long ts)

-- no statement of these has a name that is known
none_known : (q : List ℕ) (known : List (List ℕ)) (ss : List Statement) → AreNew known ss → list_any (same_name q) known ≡ true → list_any (same_name q) (map (λ s. s.result) ss) ≡ false
none_known q known [] new there = refl
none_known q known (s ∷ ss) new there = go (none_known q (s.result ∷ known) ss new.1 (more (same_name q s.result))) (same_name q s.result) refl
  where
    more : (b : Bool) → (b || list_any (same_name q) known) ≡ true
    more true = refl
    more false = there

    go : list_any (same_name q) (map (λ s. s.result) ss) ≡ false → (b : Bool) → same_name q s.result ≡ b → (b || list_any (same_name q) (map (λ s. s.result) ss)) ≡ false
    go ih true d = let h : true ≡ false = sym there ∙ ap (λ x. list_any (same_name x) known) ((bytes_decides q s.result).0 d) ∙ new.0 in cc
    go ih false d = ih

pub results_apart : (known : List (List ℕ)) (ss : List Statement) → AreNew known ss → all_apart same_name (map (λ s. s.result) ss) ≡ true
results_apart known [] new = refl
results_apart known (s ∷ ss) new =
    ap (λ b. not b && all_apart same_name (map (λ s. s.result) ss)) (none_known s.result (s.result ∷ known) ss new.1 (ap (λ b. b || list_any (same_name s.result) known) ((bytes_decides s.result s.result).1 refl)))
    ∙ results_apart (s.result ∷ known) ss new.1

one_of : (n : ℕ) (q : List ℕ) (s : Statement) (ss : List Statement) → slice_get ss n ≡ Some s → same_name q s.result ≡ true → list_any (same_name q) (map (λ s. s.result) ss) ≡ true
one_of n q s [] e d = cc
one_of zero q s (x ∷ ss) e d = let g : x.result ≡ s.result = cc in ap (λ y. same_name q y || list_any (same_name q) (map (λ s. s.result) ss)) g ∙ ap (λ b. b || list_any (same_name q) (map (λ s. s.result) ss)) d
one_of (suc n) q s (x ∷ ss) e d = ap (λ b. same_name q x.result || b) (one_of n q s ss e d) ∙ or_true (same_name q x.result)

other_name : (n : ℕ) (q : List ℕ) (s : Statement) (ss : List Statement) → slice_get ss n ≡ Some s → list_any (same_name q) (map (λ s. s.result) ss) ≡ false → same_name s.result q ≡ false
other_name n q s ss e none = go (same_name s.result q) refl
  where
    go : (b : Bool) → same_name s.result q ≡ b → same_name s.result q ≡ false
    go true d = let h : true ≡ false = sym (one_of n q s ss e (nat_list_eq_equiv.symm q s.result ∙ d)) ∙ none in cc
    go false d = d

-- the numbers before the transformation that gives the result of a statement
pub before_at : (n : ℕ) (known : List (List ℕ)) (ts : List Transformation) (ns : List NodeTree) (s : Statement) → AreNew known (with_nodes ts ns) → slice_get (with_nodes ts ns) n ≡ Some s → numbers_before s.result ts ≡ take n (numbers_of ts)
before_at n known [] ns s new e = cc
before_at n known (t ∷ ts) [] s new e = cc
before_at zero known (t ∷ ts) (m ∷ ns) s new e = ap (λ b. cond b [] (t.number ∷ numbers_before s.result ts)) ((bytes_decides s.result t.name).1 (named e))
  where
    named : Some (record { result = t.name; persistent = is_written t.kind; node = m }) ≡ Some s → s.result ≡ t.name
    named e = cc
before_at (suc n) known (t ∷ ts) (m ∷ ns) s new e =
    ap (λ b. cond b [] (t.number ∷ numbers_before s.result ts)) (other_name n t.name s (with_nodes ts ns) e (none_known t.name (t.name ∷ known) (with_nodes ts ns) new.1 (ap (λ b. b || list_any (same_name t.name) known) ((bytes_decides t.name t.name).1 refl))))
    ∙ ap (λ l. t.number ∷ l) (before_at n (t.name ∷ known) ts ns s new.1 e)
