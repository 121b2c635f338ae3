-- Operands one after the other: what is left of them gives, behind the tables so far, what all of them give.
use Rattle.std.proofs.Common.{◌≡◌, ℕ, ◌+◌, ◌-◌, ◌<◌, ◌≤◌, length, take, drop, get_or, arith, true, false, Option, None, Some, subst, List, [], ◌∷◌, ◌++◌, map, append_assoc, append-nil, refl, rules, sym, ap, ◌∙◌}
use Rattle.std.specs.Prelude.{Vec}
use Rattle.std.specs.declared.alloc.Global.{Global}
use Rattle.std.proofs.lemmas.List.{drop_all, drop_more, length-drop, map-append, take_all, take_more}
use Rattle.vtl_decimal.specs.Settings.{Settings}
use Rattle.vtl_tree.specs.declared.structure.Structure.{Structure}
use Rattle.vtl_tree.specs.Columns.{identifiers_of}
use Rattle.vtl_tree.specs.Trees as nodes
use Rattle.vtl_tree.specs.Trees.{FormTree, NodeTree, nodes_of, structure_of}
use Rattle.vtl_tree.specs.NodeView.{form_tree, node_tree}
use Rattle.vtl_tree.specs.declared.nodes.Node.{Node}
use Rattle.vtl_tree.specs.declared.nodes.NodeForm as forms
use Rattle.vtl_tree.specs.declared.nodes.NodeForm.{NodeForm}
use Rattle.vtl_tree.specs.declared.nodes.NodeForm.TheVariants as form
use Rattle.sql_tree.specs.Trees.{Exp, QueryTree, SelectTree, StatementTree, Text}
use Rattle.vtl_to_sql.specs.Combined.{combined_made, combined_query, rest_made}
use Rattle.vtl_to_sql.specs.Sets.{is_matched, matched_select, shown_query, shown_select}
use Rattle.selects_to_sql.specs.Queries.{left_query}
use Rattle.selects_to_sql.specs.Tables.{create_for, Made, Sources, Table, and_then, by_name, numbered, over, stored, table_of, with_one, with_two}
use Rattle.vtl_to_sql.specs.Tables.{made_of_form, sources_of}
use Rattle.vtl_to_sql.specs.declared.set_operators.SetOperator.{SetOperator}
use Rattle.vtl_to_sql.specs.declared.set_operators.SetOperator.TheVariants as operator
use Rattle.vtl_to_sql.proofs.SetForms.{shown_written}
use Rattle.selects_to_sql.proofs.Behind.{IsBehind, given}

-- ---- tables before others stay before them

behind : (o : SetOperator) (p : Settings) (r : Text) (s : Structure) (ns : List NodeTree) (a : Structure) (names : List Text) (T : List Table) (n : ℕ)
    → IsBehind T (rest_made o p r s ns a (given names T n)) (rest_made o p r s ns a (given names [] n))
behind o p r s [] a names T n = record { query = refl; next = refl; tables = sym (append-nil T) }
behind o p r s (b ∷ []) a names T n = record { query = refl; next = refl; tables = refl }
behind o p r s (b ∷ c ∷ ns) a names T n =
    let B = sources_of p r b n in
    let stored = table_of (numbered r B.next) (with_two (combined_query o p a (structure_of b) s) (names ++ B.names)) ∷ [] in
    let more = behind o p r s (c ∷ ns) s (numbered r B.next ∷ []) ((T ++ B.tables) ++ stored) (B.next + 1) in
    let less = behind o p r s (c ∷ ns) s (numbered r B.next ∷ []) (B.tables ++ stored) (B.next + 1) in
    let last = (rest_made o p r s (c ∷ ns) s (given (numbered r B.next ∷ []) [] (B.next + 1))).tables in
    record {
      query = more.query ∙ sym less.query;
      next = more.next ∙ sym less.next;
      tables = more.tables ∙ ap (λ l. l ++ last) (append_assoc T B.tables stored) ∙ append_assoc T (B.tables ++ stored) last ∙ ap (λ l. T ++ l) (sym less.tables);
    }

-- ---- what is left gives what all give

pub record GivesAll (whole : Made) (old done : List StatementTree) (m : Made) : Type 0 where
  pub query : m.query ≡ whole.query
  pub next : m.next ≡ whole.next
  pub tables : done ++ map create_for m.tables ≡ old ++ map create_for whole.tables

-- some tables are made
made_some : (whole : Made) (old done new : List StatementTree) (T : List Table) (m less rest : Made) → GivesAll whole old done m → IsBehind T m less → rest ≡ less → new ≡ done ++ map create_for T → GivesAll whole old new rest
made_some whole old done new T m less rest gives is same made = record {
  query = ap (λ (x : Made). x.query) same ∙ sym is.query ∙ gives.query;
  next = ap (λ (x : Made). x.next) same ∙ sym is.next ∙ gives.next;
  tables =
      ap (λ (x : Made). new ++ map create_for x.tables) same
      ∙ ap (λ l. l ++ map create_for less.tables) made
      ∙ append_assoc done (map create_for T) (map create_for less.tables)
      ∙ ap (λ l. done ++ l) (sym (map-append create_for T less.tables) ∙ sym (ap (map create_for) is.tables))
      ∙ gives.tables;
}

-- the first operand is made
first_made : (o : SetOperator) (p : Settings) (r : Text) (s : Structure) (a : NodeTree) (ns : List NodeTree) (x : Text) (n m : ℕ) (old new : List StatementTree)
    → x ∷ [] ≡ (sources_of p r a n).names → new ≡ old ++ map create_for (sources_of p r a n).tables → m ≡ (sources_of p r a n).next
    → GivesAll (combined_made o p r s (a ∷ ns) n) old new (rest_made o p r s ns (structure_of a) (by_name x m))
first_made o p r s a ns x n m old new names made next =
    let S = sources_of p r a n in
    let u = structure_of a in
    let all = combined_made o p r s (a ∷ ns) n in
    made_some all old old new S.tables all (rest_made o p r s ns u (given S.names [] S.next)) (rest_made o p r s ns u (by_name x m)) (record { query = refl; next = refl; tables = refl })
    (behind o p r s ns u S.names S.tables S.next)
    (ap (λ (l : List Text). rest_made o p r s ns u (given l [] m)) names ∙ ap (λ (k : ℕ). rest_made o p r s ns u (given S.names [] k)) next) made

-- one more operand is made, and stored with what there is
next_made : (o : SetOperator) (p : Settings) (r : Text) (s : Structure) (whole : Made) (old done between new : List StatementTree) (b c : NodeTree) (ns : List NodeTree) (a : Structure) (x y z : Text) (n m k : ℕ) (q : QueryTree)
    → GivesAll whole old done (rest_made o p r s (b ∷ c ∷ ns) a (by_name x n))
    → y ∷ [] ≡ (sources_of p r b n).names → between ≡ done ++ map create_for (sources_of p r b n).tables → m ≡ (sources_of p r b n).next
    → q ≡ combined_query o p a (structure_of b) s x y
    → z ≡ numbered r m → new ≡ between ++ create_for (table_of (numbered r m) q) ∷ [] → k ≡ m + 1
    → GivesAll whole old new (rest_made o p r s (c ∷ ns) s (by_name z k))
next_made o p r s whole old done between new b c ns a x y z n m k q gives names made next is named stored counted =
    let B = sources_of p r b n in
    let two = with_two (combined_query o p a (structure_of b) s) in
    let t = table_of (numbered r B.next) (two (x ∷ B.names)) ∷ [] in
    let T = B.tables ++ t in
    let kept = create_for (table_of (numbered r m) q) ∷ [] in
    let table : kept ≡ map create_for t =
    ap (λ (j : ℕ). create_for (table_of (numbered r j) q) ∷ []) next
    ∙ ap (λ (w : QueryTree). create_for (table_of (numbered r B.next) w) ∷ []) (is ∙ ap (λ (l : List Text). two (x ∷ l)) names)
    in
    made_some whole old done new T (rest_made o p r s (b ∷ c ∷ ns) a (by_name x n)) (rest_made o p r s (c ∷ ns) s (given (numbered r B.next ∷ []) [] (B.next + 1))) (rest_made o p r s (c ∷ ns) s (by_name z k)) gives
    (behind o p r s (c ∷ ns) s (numbered r B.next ∷ []) T (B.next + 1))
    (ap (λ (w : Text). rest_made o p r s (c ∷ ns) s (by_name w k)) (named ∙ ap (numbered r) next)
    ∙ ap (λ (j : ℕ). rest_made o p r s (c ∷ ns) s (by_name (numbered r B.next) j)) (counted ∙ ap (λ (j : ℕ). j + 1) next))
    (stored ∙ ap (λ l. l ++ kept) made ∙ append_assoc done (map create_for B.tables) kept
    ∙ ap (λ l. done ++ (map create_for B.tables ++ l)) table ∙ ap (λ l. done ++ l) (sym (map-append create_for B.tables t)))

-- what there is has the columns of the result, so that its structure is not looked at
same_select : (p : Settings) (a u s : Structure) (x : Text) (condition : Option Exp) → shown_select p a s x condition ≡ shown_select p u s x condition
same_select p a u s x condition = shown_written p a s x condition ∙ sym (shown_written p u s x condition)

same_query : (o : SetOperator) (p : Settings) (a u b s : Structure) (x y : Text) → combined_query o p a b s x y ≡ combined_query o p u b s x y
same_query operator.Union p a u b s x y = ap (λ (z : SelectTree). z ∷ matched_select p false b s y x ∷ []) (same_select p a u s x None)
same_query operator.Intersection p a u b s x y = ap (λ (z : SelectTree). z ∷ []) (same_select p a u s x (Some (is_matched true (identifiers_of s) y)))
same_query operator.Difference p a u b s x y = ap (λ (z : SelectTree). z ∷ []) (same_select p a u s x (Some (is_matched false (identifiers_of s) y)))
same_query operator.SymmetricDifference p a u b s x y = ap (λ (z : SelectTree). z ∷ matched_select p false b s y x ∷ []) (same_select p a u s x (Some (is_matched false (identifiers_of s) y)))

same_one : (p : Settings) (a u s : Structure) (names : List Text) → with_one (shown_query p a s) names ≡ with_one (shown_query p u s) names
same_one p a u s [] = refl
same_one p a u s (x ∷ []) = ap (λ (z : SelectTree). z ∷ []) (same_select p a u s x None)
same_one p a u s (x ∷ y ∷ names) = refl

same_two : (o : SetOperator) (p : Settings) (a u b s : Structure) (names : List Text) → with_two (combined_query o p a b s) names ≡ with_two (combined_query o p u b s) names
same_two o p a u b s [] = refl
same_two o p a u b s (x ∷ []) = refl
same_two o p a u b s (x ∷ y ∷ []) = same_query o p a u b s x y
same_two o p a u b s (x ∷ y ∷ z ∷ names) = refl

same_rest : (o : SetOperator) (p : Settings) (r : Text) (s : Structure) (ns : List NodeTree) (a u : Structure) (os : Sources) → rest_made o p r s ns a os ≡ rest_made o p r s ns u os
same_rest o p r s [] a u os = ap (λ (z : QueryTree). over os (λ l. z)) (same_one p a u s os.names)
same_rest o p r s (b ∷ []) a u os =
    let both = and_then os (sources_of p r b) in
    ap (λ (z : QueryTree). over both (λ l. z)) (same_two o p a u (structure_of b) s both.names)
same_rest o p r s (b ∷ c ∷ ns) a u os =
    let both = and_then os (sources_of p r b) in
    ap (λ (z : QueryTree). rest_made o p r s (c ∷ ns) s (stored r (over both (λ l. z)))) (same_two o p a u (structure_of b) s both.names)

of_result : (o : SetOperator) (p : Settings) (r : Text) (s : Structure) (ns : List NodeTree) (a : Structure) (os : Sources) (whole : Made) (old done : List StatementTree)
    → GivesAll whole old done (rest_made o p r s ns a os) → GivesAll whole old done (rest_made o p r s ns s os)
of_result o p r s ns a os whole old done gives = subst (λ (m : Made). GivesAll whole old done m) (same_rest o p r s ns a s os) gives

-- ---- `union` and `intersect`

union_made : (p : Settings) (r : Text) (s : Structure) (ns : List NodeTree) (n : ℕ) → made_of_form p r s (nodes.union (nodes_of ns)) n ≡ combined_made operator.Union p r s ns n
union_made p r s [] n = refl
union_made p r s (a ∷ ns) n = refl

intersection_made : (p : Settings) (r : Text) (s : Structure) (ns : List NodeTree) (n : ℕ) → made_of_form p r s (nodes.intersect (nodes_of ns)) n ≡ combined_made operator.Intersection p r s ns n
intersection_made p r s [] n = refl
intersection_made p r s (a ∷ ns) n = refl

tree_of_union : (f : NodeForm) (ns : Vec Node Global) → f ≡ form.Union ns → form_tree f ≡ nodes.union (nodes_of (map node_tree ns.items))
tree_of_union f ns e = ap form_tree e ∙ search (rules, forms.the_lemmas)

tree_of_intersection : (f : NodeForm) (ns : Vec Node Global) → f ≡ form.Intersect ns → form_tree f ≡ nodes.intersect (nodes_of (map node_tree ns.items))
tree_of_intersection f ns e = ap form_tree e ∙ search (rules, forms.the_lemmas)

pub union_of_form : (p : Settings) (r : Text) (s : Structure) (f : NodeForm) (ns : Vec Node Global) (all : List Node) (n : ℕ) → f ≡ form.Union ns → all ≡ ns.items
    → combined_made operator.Union p r s (map node_tree all) n ≡ made_of_form p r s (form_tree f) n
union_of_form p r s f ns all n is same =
    ap (λ (l : List Node). combined_made operator.Union p r s (map node_tree l) n) same ∙ sym (union_made p r s (map node_tree ns.items) n)
    ∙ sym (ap (λ (g : FormTree). made_of_form p r s g n) (tree_of_union f ns is))

pub intersection_of_form : (p : Settings) (r : Text) (s : Structure) (f : NodeForm) (ns : Vec Node Global) (all : List Node) (n : ℕ) → f ≡ form.Intersect ns → all ≡ ns.items
    → combined_made operator.Intersection p r s (map node_tree all) n ≡ made_of_form p r s (form_tree f) n
intersection_of_form p r s f ns all n is same =
    ap (λ (l : List Node). combined_made operator.Intersection p r s (map node_tree l) n) same ∙ sym (intersection_made p r s (map node_tree ns.items) n)
    ∙ sym (ap (λ (g : FormTree). made_of_form p r s g n) (tree_of_intersection f ns is))

-- ---- the first node, those between and the last one

with_first : (l : List Node) (x : Node) → 1 ≤ length l → x ≡ get_or l 0 x → l ≡ x ∷ take (length l - 1) (drop 1 l)
with_first l x h e =
    let lower : 0 < length l = omega arith in
    let many = length-drop 1 l in
    let less : length (drop 1 l) ≤ length l - 1 = omega arith in
    drop_more l 0 x lower ∙ ap (λ (y : Node). y ∷ drop 1 l) (sym e) ∙ ap (λ (k : List Node). x ∷ k) (sym (take_all (length l - 1) (drop 1 l) less))

with_end : (l : List Node) (x : Node) → 1 ≤ length l → x ≡ get_or l (length l - 1) x → l ≡ take (length l - 1) l ++ x ∷ []
with_end l x h e =
    let n = length l - 1 in
    let lower : n < length l = omega arith in
    let all : length l ≤ n + 1 = omega arith in
    sym (take_all (n + 1) l all) ∙ take_more l n x lower ∙ ap (λ (y : Node). take n l ++ y ∷ []) (sym e)

no_others : (l : List Node) → length l < 1 → l ≡ []
no_others [] h = refl
no_others (x ∷ l) h = absurd (omega arith)

pub alone : (o : SetOperator) (p : Settings) (r : Text) (s : Structure) (l : List Node) (a : Node) (x : Text) (n : ℕ) → 1 ≤ length l → a ≡ get_or l 0 a → length (take (length l - 1) (drop 1 l)) < 1
    → x ∷ [] ≡ (sources_of p r (node_tree a) n).names → left_query p (structure_of (node_tree a)) s x ≡ (combined_made o p r s (map node_tree l) n).query
alone o p r s l a x n many is none names =
    let one : l ≡ a ∷ [] = with_first l a many is ∙ ap (λ (k : List Node). a ∷ k) (no_others (take (length l - 1) (drop 1 l)) none) in
    ap (with_one (shown_query p (structure_of (node_tree a)) s)) names ∙ ap (λ (k : List Node). (combined_made o p r s (map node_tree k) n).query) (sym one)

pub ends : (l m : List Node) (a z : Node) → 1 ≤ length l → a ≡ get_or l 0 a → m ≡ take (length l - 1) (drop 1 l) → 1 ≤ length m → z ≡ get_or m (length m - 1) z
    → map node_tree l ≡ node_tree a ∷ (map node_tree (take (length m - 1) m) ++ node_tree z ∷ [])
ends l m a z many first same more last =
    ap (map node_tree) (with_first l a many first ∙ ap (λ (k : List Node). a ∷ k) (sym same ∙ with_end m z more last))
    ∙ ap (λ k. node_tree a ∷ k) (map-append node_tree (take (length m - 1) m) (z ∷ []))

pub begun : (o : SetOperator) (p : Settings) (r : Text) (s : Structure) (all left : List NodeTree) (a : NodeTree) (x : Text) (n m : ℕ) (old new : List StatementTree) → all ≡ a ∷ left
    → x ∷ [] ≡ (sources_of p r a n).names → new ≡ old ++ map create_for (sources_of p r a n).tables → m ≡ (sources_of p r a n).next
    → GivesAll (combined_made o p r s all n) old new (rest_made o p r s left s (by_name x m))
begun o p r s all left a x n m old new parts names made next =
    let whole = combined_made o p r s (a ∷ left) n in
    subst (λ (k : List NodeTree). GivesAll (combined_made o p r s k n) old new (rest_made o p r s left s (by_name x m))) (sym parts)
    (of_result o p r s left (structure_of a) (by_name x m) whole old new (first_made o p r s a left x n m old new names made next))

pub one_more : (l : List Node) (i : ℕ) (b : Node) (z : NodeTree) → i < length l → b ≡ get_or l i b → map node_tree (drop i l) ++ z ∷ [] ≡ node_tree b ∷ (map node_tree (drop (i + 1) l) ++ z ∷ [])
one_more l i b z h is = ap (λ (k : List Node). map node_tree k ++ z ∷ []) (drop_more l i b h ∙ ap (λ (y : Node). y ∷ drop (i + 1) l) (sym is))

step_made : (o : SetOperator) (p : Settings) (r : Text) (s : Structure) (whole : Made) (old done between new : List StatementTree) (b : NodeTree) (ms : List NodeTree) (last : NodeTree) (x y z : Text) (n m k : ℕ) (q : QueryTree)
    → GivesAll whole old done (rest_made o p r s (b ∷ (ms ++ last ∷ [])) s (by_name x n))
    → y ∷ [] ≡ (sources_of p r b n).names → between ≡ done ++ map create_for (sources_of p r b n).tables → m ≡ (sources_of p r b n).next
    → q ≡ combined_query o p s (structure_of b) s x y
    → z ≡ numbered r m → new ≡ between ++ create_for (table_of (numbered r m) q) ∷ [] → k ≡ m + 1
    → GivesAll whole old new (rest_made o p r s (ms ++ last ∷ []) s (by_name z k))
step_made o p r s whole old done between new b [] last x y z n m k q = next_made o p r s whole old done between new b last [] s x y z n m k q
step_made o p r s whole old done between new b (c ∷ ms) last x y z n m k q = next_made o p r s whole old done between new b c (ms ++ last ∷ []) s x y z n m k q

pub turn_made : (o : SetOperator) (p : Settings) (r : Text) (s : Structure) (whole : Made) (old done between new : List StatementTree) (left : List NodeTree) (b : NodeTree) (ms : List NodeTree) (last : NodeTree) (x y z : Text) (n m k : ℕ) (q : QueryTree)
    → left ≡ b ∷ (ms ++ last ∷ [])
    → GivesAll whole old done (rest_made o p r s left s (by_name x n))
    → y ∷ [] ≡ (sources_of p r b n).names → between ≡ done ++ map create_for (sources_of p r b n).tables → m ≡ (sources_of p r b n).next
    → q ≡ combined_query o p s (structure_of b) s x y
    → z ≡ numbered r m → new ≡ between ++ create_for (table_of (numbered r m) q) ∷ [] → k ≡ m + 1
    → GivesAll whole old new (rest_made o p r s (ms ++ last ∷ []) s (by_name z k))
turn_made o p r s whole old done between new left b ms last x y z n m k q parts gives =
    step_made o p r s whole old done between new b ms last x y z n m k q (subst (λ (l : List NodeTree). GivesAll whole old done (rest_made o p r s l s (by_name x n))) parts gives)

pub ended : (o : SetOperator) (p : Settings) (r : Text) (s : Structure) (whole : Made) (old done : List StatementTree) (l : List Node) (i : ℕ) (z : NodeTree) (x y : Text) (n : ℕ) → length l ≤ i
    → GivesAll whole old done (rest_made o p r s (map node_tree (drop i l) ++ z ∷ []) s (by_name x n))
    → y ∷ [] ≡ (sources_of p r z n).names → combined_query o p s (structure_of z) s x y ≡ whole.query
ended o p r s whole old done l i z x y n h gives names =
    ap (λ (k : List Text). with_two (combined_query o p s (structure_of z) s) (x ∷ k)) names
    ∙ sym (ap (λ (k : List Node). (rest_made o p r s (map node_tree k ++ z ∷ []) s (by_name x n)).query) (drop_all i l h)) ∙ gives.query
