-- A transformation alone, behind the definitions before it, is typed as it is in the whole.
use Rattle.std.proofs.Common.{◌≡◌, ℕ, zero, suc, ◌+◌, ◌≤◌, ◌<◌, Bool, true, false, cond, ◌||◌, ◌==◌, nat_lt, List, [], ◌∷◌, ◌++◌, length, take, slice_get, Result, Ok, Err, refl, sym, ap, ◌∙◌, subst, arith, append_assoc}
use Rattle.std.proofs.lemmas.Bool.{eq-eqb, eqb-true, le-ltb, lt-ltb, ltb-false, or_parts}
use Rattle.std.proofs.lemmas.List.{append-nil}
use Rattle.std.proofs.lemmas.List.Folds.{list_any-append}
use Rattle.std.specs.Cmp.Lexicographic.{bytes_decides, nat_list_eq_equiv}
use Rattle.std.specs.List.{AllByRecursion, list_any}
use Rattle.std.specs.Map.{keys_of}
use Rattle.vtl_decimal.specs.Settings.{Settings}
use Rattle.vtl_lists.specs.Results.{◌>>=◌}
use Rattle.vtl_lists.proofs.Tests.{or_true}
use Rattle.vtl_syntax.specs.Trees as tree
use Rattle.vtl_syntax.specs.Trees.{Exp, ScriptTree, StatementTree}
use Rattle.vtl_syntax.specs.declared.word_groups.AssignKind.TheVariants as assigned_by
use Rattle.vtl_tree.specs.Structure.{same_name}
use Rattle.vtl_tree.specs.Structures.{Named, has_name, is_declarable}
use Rattle.vtl_tree.specs.Trees.{NodeTree, structure_of}
use Rattle.vtl_tree.specs.declared.structure.Structure.{Structure}
use Rattle.vtl_tree.proofs.StructuresLemmas.{keys_push}
use Rattle.check_faults.specs.Rules.{number_of, ruled}
use Rattle.check_faults.specs.declared.rules.Rule.{Rule}
use Rattle.check_faults.specs.declared.rules.Rule.TheVariants as rule
use Rattle.check_rules.specs.Definitions.{datapoint_defined, hierarchical_defined}
use Rattle.check_expressions.specs.Rulesets.{Definitions, is_defined}
use Rattle.vtl_check.specs.Checked.{IsTyped, TypedScript, env_over, nodes_of, tree_of}
use Rattle.vtl_check.specs.Count.{count}
use Rattle.vtl_check.specs.Script.{Standing, assigned, at, defined, is_taken, is_too_much, most_nodes, script_typed, statements_typed, value_typed, with_result, with_ruleset}
use Rattle.vtl_check.specs.Transformations.{Transformation, transformations, transformations_from}
use Rattle.rerun_laws.specs.Parts.{definitions_in, is_transformation, known_before, nodes_at, part_tree, persistent}
use Rattle.script_parts.specs.Results.{AreResults}

-- ---- one statement
abbrev tested : {A : Type 0} → Bool → Result A Rule → (A → Bool) → Result A Rule
tested taken r much = ruled ((rule.NameTaken, taken) ∷ []) (tt {0}) >>= λ u. r >>= λ x. ruled ((rule.TooManyNodes, much x) ∷ []) x

abbrev HasPassed : {A : Type 0} → Bool → Result A Rule → (A → Bool) → A → Type 0
HasPassed taken r much x = (taken ≡ false) × (r ≡ Ok x) × (much x ≡ false)

-- what is typed breaks no rule
passed : {A : Type 0} (taken : Bool) (r : Result A Rule) (much : A → Bool) (y : A) → tested taken r much ≡ Ok y → HasPassed taken r much y
passed true r much y e = absurd (let wrong : Err rule.NameTaken ≡ Ok y = e in cc)
passed false (Err broken) much y e = absurd (let wrong : Err broken ≡ Ok y = e in cc)
passed false (Ok x) much y e = go (much x) refl e
  where
    go : (b : Bool) → much x ≡ b → cond b (Err rule.TooManyNodes) (Ok x) ≡ Ok y → HasPassed false (Ok x) much y
    go true h e = absurd cc
    go false h e = (refl, e, (let same : x ≡ y = cc in ap much (sym same) ∙ h))

-- and what breaks none is typed
passes : {A : Type 0} (taken : Bool) (r : Result A Rule) (much : A → Bool) (y : A) → HasPassed taken r much y → tested taken r much ≡ Ok y
passes taken r much y p =
    ap (λ b. tested b r much) p.0
    ∙ ap (λ r. r >>= λ x. ruled ((rule.TooManyNodes, much x) ∷ []) x) p.1
    ∙ ap (λ b. cond b (Err rule.TooManyNodes) (Ok y)) p.2

-- behind fewer nodes and rules there is room too
fewer-fit : (before fewer these : ℕ) → fewer ≤ before → is_too_much before these ≡ false → is_too_much fewer these ≡ false
fewer-fit before fewer these few e = le-ltb most_nodes (fewer + these) (omega (arith, ltb-false most_nodes (before + these) e))

assigned-passed : (s : Standing) (before : ℕ) (name : List ℕ) (e : Exp) (n : NodeTree) → assigned s before name e ≡ Ok n → HasPassed (is_taken s name) (value_typed s e) (λ n. is_too_much before (count n)) n
unfolding assigned
assigned-passed s before name e n h = passed (is_taken s name) (value_typed s e) (λ n. is_too_much before (count n)) n h

assigned-passes : (s : Standing) (before : ℕ) (name : List ℕ) (e : Exp) (n : NodeTree) → HasPassed (is_taken s name) (value_typed s e) (λ n. is_too_much before (count n)) n → assigned s before name e ≡ Ok n
unfolding assigned
assigned-passes s before name e n h = passes (is_taken s name) (value_typed s e) (λ n. is_too_much before (count n)) n h

defined-passed : (s : Standing) (before : ℕ) (name : List ℕ) (rules : ℕ) (fits : Result (Unit {0}) Rule) → defined s before name rules fits ≡ Ok tt → HasPassed (is_taken s name) fits (λ u. is_too_much before rules) tt
unfolding defined
defined-passed s before name rules fits h = passed (is_taken s name) fits (λ u. is_too_much before rules) tt h

defined-passes : (s : Standing) (before : ℕ) (name : List ℕ) (rules : ℕ) (fits : Result (Unit {0}) Rule) → HasPassed (is_taken s name) fits (λ u. is_too_much before rules) tt → defined s before name rules fits ≡ Ok tt
unfolding defined
defined-passes s before name rules fits h = passes (is_taken s name) fits (λ u. is_too_much before rules) tt h

-- an assignment behind fewer nodes and rules
assigned-sooner : (s : Standing) (before fewer : ℕ) (name : List ℕ) (e : Exp) (n : NodeTree) → fewer ≤ before → assigned s before name e ≡ Ok n → assigned s fewer name e ≡ Ok n
assigned-sooner s before fewer name e n few h =
    let p = assigned-passed s before name e n h in
    assigned-passes s fewer name e n (p.0, p.1, fewer-fit before fewer (count n) few p.2)

-- a definition behind fewer nodes and rules, where other names are taken
defined-sooner : (s other : Standing) (before fewer : ℕ) (name : List ℕ) (rules : ℕ) (fits : Result (Unit {0}) Rule)
    → fewer ≤ before → is_taken other name ≡ false → defined s before name rules fits ≡ Ok tt → defined other fewer name rules fits ≡ Ok tt
defined-sooner s other before fewer name rules fits few new h =
    let p = defined-passed s before name rules fits h in
    defined-passes other fewer name rules fits (new, p.1, fewer-fit before fewer rules few p.2)

-- ---- statements in order
-- each statement is typed behind those before it, and these are the nodes
abbrev AreTyped : Standing → (before : ℕ) → ScriptTree → List NodeTree → Type 0
AreTyped s before [] [] = Unit {0}
AreTyped s before [] (n ∷ ns) = ⊥
AreTyped s before (tree.assignment name kind e ∷ ss) [] = ⊥
AreTyped s before (tree.assignment name kind e ∷ ss) (n ∷ ns) = (assigned s before name e ≡ Ok n) × AreTyped (with_result s name n) (before + count n) ss ns
AreTyped s before (tree.datapoint name variables rules last ∷ ss) ns =
    (defined s before name (length rules) (datapoint_defined s.settings variables rules) ≡ Ok tt)
    × AreTyped (with_ruleset s name (tree.datapoint name variables rules last)) (before + length rules) ss ns
AreTyped s before (tree.hierarchical name item rules last ∷ ss) ns =
    (defined s before name (length rules) (hierarchical_defined s.settings rules) ≡ Ok tt)
    × AreTyped (with_ruleset s name (tree.hierarchical name item rules last)) (before + length rules) ss ns

at-passed : {A B : Type 0} (i : ℕ) (r : Result A Rule) (f : A → Result B (ℕ × ℕ)) (y : B) → at i r f ≡ Ok y → (x : A) × (r ≡ Ok x) × (f x ≡ Ok y)
at-passed i (Ok x) f y e = (x, refl, e)
at-passed i (Err broken) f y e = absurd (let wrong : Err (i, number_of broken) ≡ Ok y = e in cc)

abbrev AreBehind : Standing → ℕ → List NodeTree → ScriptTree → List NodeTree → Type 0
AreBehind s before done ss all = (ns : List NodeTree) × (all ≡ done ++ ns) × AreTyped s before ss ns

pub same-ok : {T E : Type 0} (x y : T) (r : Result T E) → r ≡ Ok x → r ≡ Ok y → x ≡ y
same-ok x y r e d = cc

typed-behind : (s : Standing) (i before : ℕ) (done : List NodeTree) (ss : ScriptTree) (all : List NodeTree) → statements_typed s i before done ss ≡ Ok all → AreBehind s before done ss all
typed-behind s i before done [] all h = ([], sym (same-ok done all (Ok done) refl h) ∙ sym (append-nil done), tt)
typed-behind s i before done (tree.assignment name kind e ∷ ss) all h =
    let first = at-passed i (assigned s before name e) (λ n. statements_typed (with_result s name n) (suc i) (before + count n) (done ++ n ∷ []) ss) all h in
    let rest = typed-behind (with_result s name first.0) (suc i) (before + count first.0) (done ++ first.0 ∷ []) ss all first.2 in
    (first.0 ∷ rest.0, rest.1 ∙ append_assoc done (first.0 ∷ []) rest.0, (first.1, rest.2))
typed-behind s i before done (tree.datapoint name variables rules last ∷ ss) all h =
    let d : StatementTree = tree.datapoint name variables rules last in
    let first = at-passed i (defined s before name (length rules) (datapoint_defined s.settings variables rules)) (λ u. statements_typed (with_ruleset s name d) (suc i) (before + length rules) done ss) all h in
    let rest = typed-behind (with_ruleset s name d) (suc i) (before + length rules) done ss all first.2 in
    (rest.0, rest.1, (first.1, rest.2))
typed-behind s i before done (tree.hierarchical name item rules last ∷ ss) all h =
    let d : StatementTree = tree.hierarchical name item rules last in
    let first = at-passed i (defined s before name (length rules) (hierarchical_defined s.settings rules)) (λ u. statements_typed (with_ruleset s name d) (suc i) (before + length rules) done ss) all h in
    let rest = typed-behind (with_ruleset s name d) (suc i) (before + length rules) done ss all first.2 in
    (rest.0, rest.1, (first.1, rest.2))

typed-of : (s : Standing) (i before : ℕ) (done : List NodeTree) (ss : ScriptTree) (ns : List NodeTree) → AreTyped s before ss ns → statements_typed s i before done ss ≡ Ok (done ++ ns)
typed-of s i before done [] [] h = ap Ok (sym (append-nil done))
typed-of s i before done [] (n ∷ ns) h = absurd h
typed-of s i before done (tree.assignment name kind e ∷ ss) [] h = absurd h
typed-of s i before done (tree.assignment name kind e ∷ ss) (n ∷ ns) h =
    ap (λ r. at i r (λ n. statements_typed (with_result s name n) (suc i) (before + count n) (done ++ n ∷ []) ss)) h.0
    ∙ typed-of (with_result s name n) (suc i) (before + count n) (done ++ n ∷ []) ss ns h.1
    ∙ ap Ok (append_assoc done (n ∷ []) ns)
typed-of s i before done (tree.datapoint name variables rules last ∷ ss) ns h =
    let d : StatementTree = tree.datapoint name variables rules last in
    ap (λ r. at i r (λ u. statements_typed (with_ruleset s name d) (suc i) (before + length rules) done ss)) h.0
    ∙ typed-of (with_ruleset s name d) (suc i) (before + length rules) done ss ns h.1
typed-of s i before done (tree.hierarchical name item rules last ∷ ss) ns h =
    let d : StatementTree = tree.hierarchical name item rules last in
    ap (λ r. at i r (λ u. statements_typed (with_ruleset s name d) (suc i) (before + length rules) done ss)) h.0
    ∙ typed-of (with_ruleset s name d) (suc i) (before + length rules) done ss ns h.1

-- ---- names
key-more : {T : Type 0} (name other : List ℕ) (x : T) (xs : List (List ℕ × T))
    → list_any (same_name name) (keys_of (xs ++ (other, x) ∷ [])) ≡ (list_any (same_name name) (keys_of xs) || (same_name name other || false))
key-more name other x xs = ap (list_any (same_name name)) (keys_push xs other x) ∙ list_any-append (same_name name) (keys_of xs) (other ∷ [])

still-new : (name other : List ℕ) (x : Structure) (known : Named) → has_name name known ≡ false → same_name name other ≡ false → has_name name (known ++ (other, x) ∷ []) ≡ false
still-new name other x known new unlike = key-more name other x known ∙ ap (λ b. b || (same_name name other || false)) new ∙ ap (λ b. b || false) unlike

still-defined : (name other : List ℕ) (d : StatementTree) (ds : Definitions) → is_defined name ds ≡ true → is_defined name (ds ++ (other, d) ∷ []) ≡ true
still-defined name other d ds is = key-more name other d ds ∙ ap (λ b. b || (same_name name other || false)) is

now-defined : (name : List ℕ) (d : StatementTree) (ds : Definitions) → is_defined name (ds ++ (name, d) ∷ []) ≡ true
now-defined name d ds = key-more name name d ds ∙ ap (λ b. is_defined name ds || (b || false)) (nat_list_eq_equiv.refl name) ∙ or_true (is_defined name ds)

-- a name that is defined is unlike one that is not
unlike : (name other : List ℕ) (ds : Definitions) → is_defined name ds ≡ true → is_defined other ds ≡ false → same_name name other ≡ false
unlike name other ds is not = go (same_name name other) refl
  where
    go : (b : Bool) → same_name name other ≡ b → b ≡ false
    go true e = sym is ∙ ap (λ q. is_defined q ds) ((bytes_decides name other).0 e) ∙ not
    go false e = refl

new-result : (s : Standing) (before : ℕ) (name : List ℕ) (e : Exp) (n : NodeTree) → assigned s before name e ≡ Ok n → (has_name name s.known ≡ false) × (is_defined name s.definitions ≡ false)
new-result s before name e n h = or_parts (has_name name s.known) (is_defined name s.definitions) (assigned-passed s before name e n h).0

-- results after a definition have other names
stays-new : (name : List ℕ) (number i : ℕ) (s : Standing) (before : ℕ) (ss : ScriptTree) (ns : List NodeTree)
    → has_name name s.known ≡ false → is_defined name s.definitions ≡ true → AreTyped s before ss ns → has_name name (known_before number s.known (transformations_from i ss) ns) ≡ false
stays-new name number i s before [] [] new is h = new
stays-new name number i s before [] (n ∷ ns) new is h = absurd h
stays-new name number i s before (tree.assignment other kind e ∷ ss) [] new is h = absurd h
stays-new name number i s before (tree.assignment other kind e ∷ ss) (n ∷ ns) new is h =
    let new-there = still-new name other (structure_of n) s.known new (unlike name other s.definitions is (new-result s before other e n h.0).1) in
    go (nat_lt i number) (stays-new name number (suc i) (with_result s other n) (before + count n) ss ns new-there is h.1)
  where
    later : Named
    later = known_before number (s.known ++ (other, structure_of n) ∷ []) (transformations_from (suc i) ss) ns

    go : (b : Bool) → has_name name later ≡ false → has_name name (cond b later s.known) ≡ false
    go true k = k
    go false k = new
stays-new name number i s before (tree.datapoint other variables rules last ∷ ss) ns new is h =
    let d : StatementTree = tree.datapoint other variables rules last in
    stays-new name number (suc i) (with_ruleset s other d) (before + length rules) ss ns new (still-defined name other d s.definitions is) h.1
stays-new name number i s before (tree.hierarchical other item rules last ∷ ss) ns new is h =
    let d : StatementTree = tree.hierarchical other item rules last in
    stays-new name number (suc i) (with_ruleset s other d) (before + length rules) ss ns new (still-defined name other d s.definitions is) h.1

-- ---- results
results-from : (s : Standing) (i before : ℕ) (ss : ScriptTree) (ns : List NodeTree)
    → AllByRecursion (λ n. is_declarable (structure_of n) ≡ true) ns → AreTyped s before ss ns → AreResults s.known (transformations_from i ss) ns
results-from s i before [] [] all h = tt
results-from s i before [] (n ∷ ns) all h = absurd h
results-from s i before (tree.assignment name kind e ∷ ss) [] all h = absurd h
results-from s i before (tree.assignment name kind e ∷ ss) (n ∷ ns) all h =
    ((new-result s before name e n h.0).0, all.0, results-from (with_result s name n) (suc i) (before + count n) ss ns all.1 h.1)
results-from s i before (tree.datapoint name variables rules last ∷ ss) ns all h =
    results-from (with_ruleset s name (tree.datapoint name variables rules last)) (suc i) (before + length rules) ss ns all h.1
results-from s i before (tree.hierarchical name item rules last ∷ ss) ns all h =
    results-from (with_ruleset s name (tree.hierarchical name item rules last)) (suc i) (before + length rules) ss ns all h.1

-- ---- the part
unequal : (a b : ℕ) → a < b → (a == b) ≡ false
unequal a b less = go (a == b) refl
  where
    go : (c : Bool) → (a == b) ≡ c → c ≡ false
    go true e = absurd (let same : a ≡ b = eqb-true a b e in omega (arith, same, less))
    go false e = refl

abbrev is_there : ℕ → List Transformation → Bool
is_there number ts = list_any (λ t. t.number == number) ts

-- numbers rise
above : (number i : ℕ) (ss : ScriptTree) → number < i → is_there number (transformations_from i ss) ≡ false
above number i [] less = refl
above number i (tree.assignment name kind e ∷ ss) less =
    ap (λ b. b || is_there number (transformations_from (suc i) ss)) (go (i == number) refl) ∙ above number (suc i) ss (omega (arith, less))
  where
    go : (c : Bool) → (i == number) ≡ c → c ≡ false
    go true e = absurd (let same : i ≡ number = eqb-true i number e in omega (arith, same, less))
    go false e = refl
above number i (tree.datapoint name variables rules last ∷ ss) less = above number (suc i) ss (omega (arith, less))
above number i (tree.hierarchical name item rules last ∷ ss) less = above number (suc i) ss (omega (arith, less))

abbrev standing_over : Standing → Named → Standing
standing_over s known = record s { known = known }

-- what is left of the part at a place of the whole, which is so far from the transformation
abbrev part_left : ℕ → ScriptTree → ScriptTree
part_left k ss = definitions_in (take k ss) ++ persistent (slice_get ss k)

-- a definition before the transformation is one of the part too
defined-there : (s : Standing) (number i before fewer : ℕ) (name : List ℕ) (rules : ℕ) (fits : Result (Unit {0}) Rule) (d : StatementTree) (ss : ScriptTree) (ns : List NodeTree)
    → fewer ≤ before → defined s before name rules fits ≡ Ok tt → AreTyped (with_ruleset s name d) (before + rules) ss ns
    → defined (standing_over s (known_before number s.known (transformations_from (suc i) ss) ns)) fewer name rules fits ≡ Ok tt
defined-there s number i before fewer name rules fits d ss ns few h rest =
    let known = known_before number s.known (transformations_from (suc i) ss) ns in
    let new = or_parts (has_name name s.known) (is_defined name s.definitions) (defined-passed s before name rules fits h).0 in
    let still = stays-new name number (suc i) (with_ruleset s name d) (before + rules) ss ns new.0 (now-defined name d s.definitions) rest in
    defined-sooner s (standing_over s known) before fewer name rules fits few (ap (λ b. b || is_defined name s.definitions) still ∙ new.1) h

part-typed : (s : Standing) (number i k before fewer : ℕ) (ss : ScriptTree) (ns : List NodeTree) → number ≡ i + k → fewer ≤ before → AreTyped s before ss ns
    → is_there number (transformations_from i ss) ≡ true
    → AreTyped (standing_over s (known_before number s.known (transformations_from i ss) ns)) fewer (part_left k ss) (nodes_at number (transformations_from i ss) ns)
part-typed s number i k before fewer [] ns away few h is = absurd cc
part-typed s number i k before fewer (tree.assignment name kind e ∷ ss) [] away few h is = absurd h
part-typed s number i zero before fewer (tree.assignment name kind e ∷ ss) (n ∷ ns) away few h is =
    let P : Bool → Bool → Type 0 = λ less same.
    AreTyped (standing_over s (cond less (known_before number (s.known ++ (name, structure_of n) ∷ []) (transformations_from (suc i) ss) ns) s.known)) fewer
    (tree.assignment name assigned_by.Persistent e ∷ []) (cond same (n ∷ []) (nodes_at number (transformations_from (suc i) ss) ns)) in
    let here : P false true = (assigned-sooner s before fewer name e n few h.0, tt) in
    subst (λ b. P b (i == number)) (sym (le-ltb i number (omega (arith, away)))) (subst (P false) (sym (eq-eqb i number (omega (arith, away)))) here)
part-typed s number i (suc k) before fewer (tree.assignment name kind e ∷ ss) (n ∷ ns) away few h is =
    let P : Bool → Bool → Type 0 = λ less same.
    AreTyped (standing_over s (cond less (known_before number (s.known ++ (name, structure_of n) ∷ []) (transformations_from (suc i) ss) ns) s.known)) fewer
    (part_left k ss) (cond same (n ∷ []) (nodes_at number (transformations_from (suc i) ss) ns)) in
    let other = unequal i number (omega (arith, away)) in
    let here : P true false =
    part-typed (with_result s name n) number (suc i) k (before + count n) fewer ss ns (omega (arith, away)) (omega (arith, few)) h.1
    (ap (λ b. b || is_there number (transformations_from (suc i) ss)) (sym other) ∙ is) in
    subst (λ b. P b (i == number)) (sym (lt-ltb i number (omega (arith, away)))) (subst (P true) (sym other) here)
part-typed s number i zero before fewer (tree.datapoint name variables rules last ∷ ss) ns away few h is =
    absurd (let wrong = sym (above number (suc i) ss (omega (arith, away))) ∙ is in cc)
part-typed s number i (suc k) before fewer (tree.datapoint name variables rules last ∷ ss) ns away few h is =
    let d : StatementTree = tree.datapoint name variables rules last in (
      defined-there s number i before fewer name (length rules) (datapoint_defined s.settings variables rules) d ss ns few h.0 h.1,
      part-typed (with_ruleset s name d) number (suc i) k (before + length rules) (fewer + length rules) ss ns (omega (arith, away)) (omega (arith, few)) h.1 is,
    )
part-typed s number i zero before fewer (tree.hierarchical name item rules last ∷ ss) ns away few h is =
    absurd (let wrong = sym (above number (suc i) ss (omega (arith, away))) ∙ is in cc)
part-typed s number i (suc k) before fewer (tree.hierarchical name item rules last ∷ ss) ns away few h is =
    let d : StatementTree = tree.hierarchical name item rules last in (
      defined-there s number i before fewer name (length rules) (hierarchical_defined s.settings rules) d ss ns few h.0 h.1,
      part-typed (with_ruleset s name d) number (suc i) k (before + length rules) (fewer + length rules) ss ns (omega (arith, away)) (omega (arith, few)) h.1 is,
    )

-- ---- whole scripts
all-typed : (settings : Settings) (declared : Named) (script : ScriptTree) (ns : List NodeTree) → script_typed (env_over settings declared) script ≡ Ok ns → AreTyped (env_over settings declared) 0 script ns
all-typed settings declared script ns e =
    let b = typed-behind (env_over settings declared) 1 0 [] script ns e in
    subst (AreTyped (env_over settings declared) 0 script) (sym b.1) b.2

part-is-typed : (settings : Settings) (declared : Named) (script : ScriptTree) (ns : List NodeTree) (number : ℕ)
    → script_typed (env_over settings declared) script ≡ Ok ns → is_transformation number script ≡ true
    → script_typed (env_over settings (known_before number declared (transformations script) ns)) (part_tree number script) ≡ Ok (nodes_at number (transformations script) ns)
part-is-typed settings declared script ns zero e is = absurd (let wrong = sym (above 0 1 script (omega arith)) ∙ is in cc)
part-is-typed settings declared script ns (suc k) e is =
    typed-of (env_over settings (known_before (suc k) declared (transformations script) ns)) 1 0 [] (part_tree (suc k) script) (nodes_at (suc k) (transformations script) ns)
    (part-typed (env_over settings declared) (suc k) 1 k 0 0 script ns (omega arith) (omega arith) (all-typed settings declared script ns e) is)

pub results-are : (settings : Settings) (declared : Named) (script : ScriptTree) (ns : List NodeTree)
    → script_typed (env_over settings declared) script ≡ Ok ns → AllByRecursion (λ n. is_declarable (structure_of n) ≡ true) ns → AreResults declared (transformations script) ns
results-are settings declared script ns e all = results-from (env_over settings declared) 1 0 script ns all (all-typed settings declared script ns e)

-- what has an answer has no fault
pub not-both : {T E : Type 0} (x : T) (e : E) (r : Result T E) → r ≡ Ok x → r ≡ Err e → ⊥
not-both x e r ok err = cc

-- the typing of what is known before a transformation and its part
pub part-typing : (t : TypedScript) (number : ℕ) (settings : Settings) (sets : Named) (part : ScriptTree) → IsTyped t → is_transformation number (tree_of t) ≡ true
    → settings ≡ t.settings → sets ≡ known_before number t.declared (transformations (tree_of t)) (nodes_of t) → part ≡ part_tree number (tree_of t)
    → script_typed (env_over settings sets) part ≡ Ok (nodes_at number (transformations (tree_of t)) (nodes_of t))
part-typing t number settings sets part typed is same_settings same_sets same_part =
    ap (λ settings. script_typed (env_over settings sets) part) same_settings
    ∙ ap (λ sets. script_typed (env_over t.settings sets) part) same_sets
    ∙ ap (script_typed (env_over t.settings (known_before number t.declared (transformations (tree_of t)) (nodes_of t)))) same_part
    ∙ part-is-typed t.settings t.declared (tree_of t) (nodes_of t) number typed is
