-- What does not depend on a data set does not change with it.
use Rattle.std.proofs.Common.{◌≡◌, ℕ, Bool, true, false, cond, MatchBool, ◌||◌, List, [], ◌∷◌, Some, Ok, Err, refl, sym, ap, subst, ◌∙◌, zero, suc, ◌==◌, slice_get}
use Rattle.std.proofs.lemmas.Bool.{eq-eqb}
use Rattle.std.proofs.lemmas.Option.{same_Some}
use Rattle.std.specs.List.{AllByRecursion, list_any}
use Rattle.std.specs.Cmp.Lexicographic.{nat_list_eq_equiv}
use Rattle.vtl_lists.proofs.Alls.{all_more}
use Rattle.vtl_decimal.specs.Settings.{Settings}
use Rattle.vtl_cell.specs.Outcome.{Outcome}
use Rattle.vtl_tree.specs.Environment.{DataSet, Environment, data_of}
use Rattle.vtl_tree.specs.Structure.{same_name}
use Rattle.vtl_tree.specs.Trees.{NodeTree}
use Rattle.vtl_check.specs.Checked.{TypedScript, nodes_of, tree_of}
use Rattle.vtl_check.specs.Names.{names_in}
use Rattle.vtl_check.specs.Transformations.{Transformation, transformations}
use Rattle.vtl_scripts.specs.Meaning.{Statement, data_set_of}
use Rattle.vtl_backend.specs.Statements.{statements_of, with_nodes}
use Rattle.rerun_laws.specs.Depends.{dependents, dependents_of, is_one, reads_one}
use Rattle.rerun_laws.specs.Values.{AreSameBut, values, with_value}
use Rattle.check_laws.proofs.NamesRead.{data_set_same}

-- the data sets are the same but for those of some names
abbrev IsSameBut : List (List ℕ) → Environment → Environment → Type 0
IsSameBut names env other = (name : List ℕ) → list_any (same_name name) names ≡ false → data_of name env ≡ data_of name other

-- none of the names that are read is one of these
none_read : (names reads : List (List ℕ)) → list_any (λ q. list_any (same_name q) names) reads ≡ false → AllByRecursion (λ q. list_any (same_name q) names ≡ false) reads
none_read names [] h = tt
none_read names (q ∷ qs) h = go (list_any (same_name q) names) refl (none_read names qs) h
  where
    go : (b : Bool) → list_any (same_name q) names ≡ b → (list_any (λ q. list_any (same_name q) names) qs ≡ false → AllByRecursion (λ q. list_any (same_name q) names ≡ false) qs)
        → (b || list_any (λ q. list_any (same_name q) names) qs) ≡ false → (list_any (same_name q) names ≡ false) × AllByRecursion (λ q. list_any (same_name q) names ≡ false) qs
    go false e ih h = (e, ih h)
    go true e ih h = cc

-- with a data set more on each side the others stay the same
one_more : (names : List (List ℕ)) (new : List ℕ) (d e : DataSet) (env other : Environment) → IsSameBut names env other → IsSameBut (new ∷ names) ((new, d) ∷ env) ((new, e) ∷ other)
one_more names new d e env other same name h = go (same_name name new) refl h
  where
    go : (b : Bool) → same_name name new ≡ b → (b || list_any (same_name name) names) ≡ false → data_of name ((new, d) ∷ env) ≡ data_of name ((new, e) ∷ other)
    go true q h = cc
    go false q h =
        let other_name : same_name new name ≡ false = nat_list_eq_equiv.symm new name ∙ q in
        ap (λ b. cond b (Some d) (data_of name env)) other_name ∙ same name h ∙ sym (ap (λ b. cond b (Some e) (data_of name other)) other_name)

-- where the values are any
value_more : (names : List (List ℕ)) (s : Statement) (v w : Outcome DataSet) (env other : Environment) → IsSameBut names env other → IsSameBut (s.result ∷ names) (with_value s v env) (with_value s w other)
value_more names s (Ok d) (Ok e) env other same = one_more names s.result d e env other same
value_more names s (Ok d) (Err fault) env other same = one_more names s.result d _ env other same
value_more names s (Err fault) (Ok e) env other same = one_more names s.result _ e env other same
value_more names s (Err fault) (Err other_fault) env other same = one_more names s.result _ _ env other same

-- with the same data set more on both sides
same_more : (names : List (List ℕ)) (s : Statement) (v : Outcome DataSet) (env other : Environment) → IsSameBut names env other → IsSameBut names (with_value s v env) (with_value s v other)
same_more names s (Ok d) env other same name h = ap (cond (same_name s.result name) (Some d)) (same name h)
same_more names s (Err fault) env other same name h = ap (cond (same_name s.result name) (Some _)) (same name h)

-- one statement, which gives v on the one side and w on the other
one_changed : (p : Settings) (s : Statement) (rest : List Statement) (names : List (List ℕ)) (env other : Environment) → IsSameBut names env other → (v w : Outcome DataSet) (reads : Bool) → (reads ≡ false → v ≡ w)
    → (IsSameBut (s.result ∷ names) (with_value s v env) (with_value s w other) → AreSameBut (s.result ∷ names) rest (values p rest (with_value s v env)) (values p rest (with_value s w other)))
    → (IsSameBut names (with_value s v env) (with_value s w other) → AreSameBut names rest (values p rest (with_value s v env)) (values p rest (with_value s w other)))
    → MatchBool reads (AreSameBut (s.result ∷ names) rest (values p rest (with_value s v env)) (values p rest (with_value s w other))) ((v ≡ w) × AreSameBut names rest (values p rest (with_value s v env)) (values p rest (with_value s w other)))
one_changed p s rest names env other same v w true equal changed kept = changed (value_more names s v w env other same)
one_changed p s rest names env other same v w false equal changed kept =
    (equal refl, kept (subst (λ x. IsSameBut names (with_value s v env) (with_value s x other)) (equal refl) (same_more names s v env other same)))

pub changed_only : (p : Settings) (ss : List Statement) (names : List (List ℕ)) (env other : Environment) → IsSameBut names env other → AreSameBut names ss (values p ss env) (values p ss other)
changed_only p [] names env other same = tt
changed_only p (s ∷ rest) names env other same =
    one_changed p s rest names env other same (data_set_of p env s.node) (data_set_of p other s.node) (reads_one names s.node)
    (λ e. data_set_same p env other s.node (all_more (λ q. list_any (same_name q) names ≡ false) (λ q. data_of q env ≡ data_of q other) same (names_in s.node) (none_read names (names_in s.node) e)))
    (λ more. changed_only p rest (s.result ∷ names) (with_value s (data_set_of p env s.node) env) (with_value s (data_set_of p other s.node) other) more)
    (λ more. changed_only p rest names (with_value s (data_set_of p env s.node) env) (with_value s (data_set_of p other s.node) other) more)

-- ---- by place
-- at the place of a transformation whose number is none of the dependent ones the values are the same
kept_at : (names : List (List ℕ)) (ts : List Transformation) (ns : List NodeTree) (vs ws : List (Outcome DataSet)) (i : ℕ) (t : Transformation)
    → AreSameBut names (with_nodes ts ns) vs ws → slice_get ts i ≡ Some t → is_one t.number (dependents names ts ns) ≡ false → slice_get vs i ≡ slice_get ws i
kept_at names [] ns vs ws i t same e free = cc
kept_at names (x ∷ ts) [] [] [] i t same e free = refl
kept_at names (x ∷ ts) [] [] (w ∷ ws) i t same e free = absurd same
kept_at names (x ∷ ts) [] (v ∷ vs) ws i t same e free = absurd same
kept_at names (x ∷ ts) (n ∷ ns) [] ws i t same e free = absurd same
kept_at names (x ∷ ts) (n ∷ ns) (v ∷ vs) [] i t same e free = absurd same
kept_at names (x ∷ ts) (n ∷ ns) (v ∷ vs) (w ∷ ws) i t same e free =
    go i (reads_one names n) e (λ j. kept_at (x.name ∷ names) ts ns vs ws j t) (λ j. kept_at names ts ns vs ws j t) same free
  where
    go : (i : ℕ) (b : Bool) → slice_get (x ∷ ts) i ≡ Some t
        → ((j : ℕ) → AreSameBut (x.name ∷ names) (with_nodes ts ns) vs ws → slice_get ts j ≡ Some t → is_one t.number (dependents (x.name ∷ names) ts ns) ≡ false → slice_get vs j ≡ slice_get ws j)
        → ((j : ℕ) → AreSameBut names (with_nodes ts ns) vs ws → slice_get ts j ≡ Some t → is_one t.number (dependents names ts ns) ≡ false → slice_get vs j ≡ slice_get ws j)
        → MatchBool b (AreSameBut (x.name ∷ names) (with_nodes ts ns) vs ws) ((v ≡ w) × AreSameBut names (with_nodes ts ns) vs ws)
        → is_one t.number (cond b (x.number ∷ dependents (x.name ∷ names) ts ns) (dependents names ts ns)) ≡ false → slice_get (v ∷ vs) i ≡ slice_get (w ∷ ws) i
    go zero false e one other same free = ap Some same.0
    go zero true e one other same free =
        let own : t.number == x.number ≡ true = eq-eqb t.number x.number (ap (λ (y : Transformation). y.number) (sym (same_Some _ _ e))) in
        let wrong : true ≡ false = sym (ap (λ b. b || is_one t.number (dependents (x.name ∷ names) ts ns)) own) ∙ free in
        cc
    go (suc j) false e one other same free = other j same.1 e free
    go (suc j) true e one other same free = one j same e (later (t.number == x.number) (is_one t.number (dependents (x.name ∷ names) ts ns)) free)
      where
        later : (a b : Bool) → (a || b) ≡ false → b ≡ false
        later false b h = h
        later true b h = cc

pub others_kept : (t : TypedScript) (name : List ℕ) (env other : Environment) → ((q : List ℕ) → same_name q name ≡ false → data_of q env ≡ data_of q other) → (i : ℕ) (tr : Transformation)
    → slice_get (transformations (tree_of t)) i ≡ Some tr → is_one tr.number (dependents_of name t) ≡ false → slice_get (values t.settings (statements_of t) env) i ≡ slice_get (values t.settings (statements_of t) other) i
others_kept t name env other same i tr e free =
    kept_at (name ∷ []) (transformations (tree_of t)) (nodes_of t) (values t.settings (statements_of t) env) (values t.settings (statements_of t) other) i tr
    (changed_only t.settings (statements_of t) (name ∷ []) env other (λ q h. same q (none (same_name q name) h))) e free
  where
    none : (b : Bool) → (b || false) ≡ false → b ≡ false
    none false h = h
    none true h = cc
