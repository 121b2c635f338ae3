-- The tables that a part is given show the data sets that it reads.
use Rattle.std.proofs.Common.{◌≡◌, ℕ, zero, suc, Bool, true, false, cond, ◌||◌, List, [], ◌∷◌, ◌++◌, map, take, drop, Option, None, Some, is_some, Ok, Err, refl, sym, ap, ◌∙◌, subst}
use Rattle.std.specs.List.{AllByRecursion, list_any}
use Rattle.std.specs.Map.{keys_of, lookup}
use Rattle.std.specs.Option.{option_map_or}
use Rattle.std.specs.Cmp.Lexicographic.{bytes_decides, nat_list_eq_equiv}
use Rattle.vtl_cell.specs.Outcome.{Outcome}
use Rattle.vtl_decimal.specs.Settings.{Settings}
use Rattle.vtl_lists.proofs.Perms.{Perm-refl}
use Rattle.vtl_rows.specs.Named.{NamedTables, table_of}
use Rattle.vtl_rows.specs.Tables.{Listed}
use Rattle.vtl_tree.specs.Environment.{DataSet, Environment, data_of, known_in, no_data}
use Rattle.vtl_tree.specs.Structure.{same_name}
use Rattle.vtl_tree.specs.Structures.{Named}
use Rattle.vtl_tree.specs.Trees.{structure_of}
use Rattle.vtl_tree.specs.declared.structure.Structure.{Structure}
use Rattle.vtl_scripts.specs.Meaning.{Statement, data_set_of}
use Rattle.vtl_backend.specs.Inputs.{Holds, input_of}
use Rattle.rerun_laws.specs.Given.{IsShown}
use Rattle.rerun_laws.specs.Values.{behind, values, with_value}
use Rattle.vtl_rerun.specs.Operands.{given_all, given_behind, operand_of, places_from, source_of, table_from, with_table}
use Rattle.vtl_rerun.specs.Sessions.{AreHeld, AreKept, IsKept}
use Rattle.vtl_rerun.proofs.Places.{AreNew, get_left, left_tail}

-- ---- inputs
input_shown : (inputs : NamedTables) (e : List ℕ × Structure) → Holds e.1 (table_of e.0 inputs) → IsShown (Some (input_of inputs e).1) (table_of e.0 inputs)
input_shown inputs e h = go (table_of e.0 inputs) refl h
  where
    go : (o : Option Listed) → table_of e.0 inputs ≡ o → Holds e.1 o → IsShown (Some (record { structure = e.1; points = option_map_or (λ t. t.rows) o [] })) o
    go None q h = absurd h
    go (Some t) q h = record { table = h; same = Perm-refl t.rows }

pub inputs_shown : (inputs : NamedTables) (es : Named) (q : List ℕ) → AllByRecursion (λ e. Holds e.1 (table_of e.0 inputs)) es → is_some (lookup (same_name q) es) ≡ true → IsShown (data_of q (map (input_of inputs) es)) (table_of q inputs)
inputs_shown inputs [] q h some = cc
inputs_shown inputs (e ∷ es) q h some = go (inputs_shown inputs es q h.1) (same_name q e.0) refl some
  where
    go : (is_some (lookup (same_name q) es) ≡ true → IsShown (data_of q (map (input_of inputs) es)) (table_of q inputs)) → (b : Bool) → same_name q e.0 ≡ b → is_some (cond b (Some e.1) (lookup (same_name q) es)) ≡ true → IsShown (cond (same_name e.0 q) (Some (input_of inputs e).1) (data_of q (map (input_of inputs) es))) (table_of q inputs)
    go ih true d some =
        subst (λ b. IsShown (cond b (Some (input_of inputs e).1) (data_of q (map (input_of inputs) es))) (table_of q inputs)) (sym (nat_list_eq_equiv.symm e.0 q ∙ d))
        (subst (λ x. IsShown (Some (input_of inputs e).1) (table_of x inputs)) (sym ((bytes_decides q e.0).0 d)) (input_shown inputs e h.0))
    go ih false d some =
        subst (λ b. IsShown (cond b (Some (input_of inputs e).1) (data_of q (map (input_of inputs) es))) (table_of q inputs)) (sym (nat_list_eq_equiv.symm e.0 q ∙ d)) (ih some)

-- ---- results
data_with : (q : List ℕ) (s : Statement) (v : Outcome DataSet) (env : Environment) → same_name s.result q ≡ false → data_of q (with_value s v env) ≡ data_of q env
data_with q s (Ok d) env e = ap (λ b. cond b (Some d) (data_of q env)) e
data_with q s (Err f) env e = ap (λ b. cond b (Some (no_data (structure_of s.node))) (data_of q env)) e

-- a name that is known is that of no later result
data_behind : (q : List ℕ) (p : Settings) (n : ℕ) (ss : List Statement) (env : Environment) (known : List (List ℕ)) → AreNew known ss → list_any (same_name q) known ≡ true → data_of q (behind p (take n ss) env) ≡ data_of q env
data_behind q p zero ss env known new there = refl
data_behind q p (suc n) [] env known new there = refl
data_behind q p (suc n) (s ∷ ss) env known new there =
    data_behind q p n ss (with_value s (data_set_of p env s.node) env) (s.result ∷ known) new.1 (more (same_name q s.result)) ∙ data_with q s (data_set_of p env s.node) env (apart (same_name s.result q) refl)
  where
    more : (b : Bool) → (b || list_any (same_name q) known) ≡ true
    more true = refl
    more false = there

    apart : (b : Bool) → same_name s.result q ≡ b → same_name s.result q ≡ false
    apart true d = let h : true ≡ false = sym there ∙ sym (ap (λ x. list_any (same_name x) known) ((bytes_decides s.result q).0 d)) ∙ new.0 in cc
    apart false d = d

known_with : (q : List ℕ) (s : Statement) (v : Outcome DataSet) (env : Environment) → same_name q s.result ≡ false → lookup (same_name q) (known_in (with_value s v env)) ≡ lookup (same_name q) (known_in env)
known_with q s (Ok d) env e = ap (λ b. cond b (Some d.structure) (lookup (same_name q) (known_in env))) e
known_with q s (Err f) env e = ap (λ b. cond b (Some (structure_of s.node)) (lookup (same_name q) (known_in env))) e

-- the results from a place on are the tables at these places
shown_from : (q : List ℕ) (p : Settings) (inputs : NamedTables) (all : List (Option Listed)) (n b : ℕ) (ss : List Statement) (rs : List (Option Listed)) (env : Environment) (known : List (List ℕ))
    → drop b all ≡ rs → AreHeld (take n rs) → AreKept (values p ss env) rs → AreNew known ss → (is_some (lookup (same_name q) (known_in env)) ≡ true → IsShown (data_of q env) (table_of q inputs)) → is_some (lookup (same_name q) (known_in (behind p (take n ss) env))) ≡ true
    → IsShown (data_of q (behind p (take n ss) env)) (table_from inputs all q (source_of (lookup (same_name q) (places_from b (map (λ s. s.result) (take n ss))))))
shown_from q p inputs all zero b ss rs env known left held kept new input some = input some
shown_from q p inputs all (suc n) b [] rs env known left held kept new input some = input some
shown_from q p inputs all (suc n) b (s ∷ ss) [] env known left held kept new input some = absurd kept
shown_from q p inputs all (suc n) b (s ∷ ss) (None ∷ rs) env known left held kept new input some = cc (held.0)
shown_from q p inputs all (suc n) b (s ∷ ss) (Some t ∷ rs) env known left held kept new input some =
    go (λ i. shown_from q p inputs all n (suc b) ss rs (with_value s (data_set_of p env s.node) env) (s.result ∷ known) (left_tail b all (Some t) rs left) held.1 kept.1 new.1 i some) (same_name q s.result) refl
  where
    here : same_name q s.result ≡ true → (v : Outcome DataSet) → IsKept v (Some t) → IsShown (data_of q (with_value s v env)) (Some t)
    here d (Err f) k = absurd k
    here d (Ok x) k = subst (λ c. IsShown (cond c (Some x) (data_of q env)) (Some t)) (sym (nat_list_eq_equiv.symm s.result q ∙ d)) k

    go : ((is_some (lookup (same_name q) (known_in (with_value s (data_set_of p env s.node) env))) ≡ true → IsShown (data_of q (with_value s (data_set_of p env s.node) env)) (table_of q inputs))
        → IsShown (data_of q (behind p (take n ss) (with_value s (data_set_of p env s.node) env))) (table_from inputs all q (source_of (lookup (same_name q) (places_from (suc b) (map (λ s. s.result) (take n ss)))))))
        → (c : Bool) → same_name q s.result ≡ c → IsShown (data_of q (behind p (take n ss) (with_value s (data_set_of p env s.node) env))) (table_from inputs all q (source_of (cond c (Some b) (lookup (same_name q) (places_from (suc b) (map (λ s. s.result) (take n ss)))))))
    go ih false d =
        ih (λ there. subst (λ o. IsShown o (table_of q inputs)) (sym (data_with q s (data_set_of p env s.node) env (nat_list_eq_equiv.symm s.result q ∙ d)))
        (input (sym (ap is_some (known_with q s (data_set_of p env s.node) env d)) ∙ there)))
    go ih true d =
        subst (λ o. IsShown (data_of q (behind p (take n ss) (with_value s (data_set_of p env s.node) env))) o) (sym (get_left b all (Some t) rs left))
        (subst (λ o. IsShown o (Some t)) (sym (data_behind q p n ss (with_value s (data_set_of p env s.node) env) (s.result ∷ known) new.1 (ap (λ c. c || list_any (same_name q) known) d)))
        (here d (data_set_of p env s.node) kept.0))

-- the data set of a name that is known behind the first statements is shown by the table that its operand takes
pub shown_at : (q : List ℕ) (p : Settings) (inputs : NamedTables) (es : Named) (n : ℕ) (ss : List Statement) (rs : List (Option Listed)) (known : List (List ℕ))
    → AreHeld (take n rs) → AreKept (values p ss (map (input_of inputs) es)) rs → AreNew known ss → AllByRecursion (λ e. Holds e.1 (table_of e.0 inputs)) es → known_in (map (input_of inputs) es) ≡ es
    → is_some (lookup (same_name q) (known_in (behind p (take n ss) (map (input_of inputs) es)))) ≡ true
    → IsShown (data_of q (behind p (take n ss) (map (input_of inputs) es))) (table_from inputs rs q (source_of (lookup (same_name q) (places_from 0 (map (λ s. s.result) (take n ss))))))
shown_at q p inputs es n ss rs known held kept new tables same some =
    shown_from q p inputs rs n 0 ss rs (map (input_of inputs) es) known refl held kept new (λ there. inputs_shown inputs es q tables (sym (ap (λ k. is_some (lookup (same_name q) k)) same) ∙ there)) some

-- ---- the tables that are given
table_push : (q m : List ℕ) (t : Listed) (tables : NamedTables) → table_of q tables ≡ None → table_of q (tables ++ (m, t) ∷ []) ≡ cond (same_name q m) (Some t) None
table_push q m t [] e = refl
table_push q m t (x ∷ tables) e = go (table_push q m t tables) (same_name q x.0) e
  where
    go : (table_of q tables ≡ None → table_of q (tables ++ (m, t) ∷ []) ≡ cond (same_name q m) (Some t) None) → (b : Bool) → cond b (Some x.1) (table_of q tables) ≡ None → cond b (Some x.1) (table_of q (tables ++ (m, t) ∷ [])) ≡ cond (same_name q m) (Some t) None
    go ih true e = cc
    go ih false e = ih e

table_stays : (q m : List ℕ) (t u : Listed) (tables : NamedTables) → table_of q tables ≡ Some u → table_of q (tables ++ (m, t) ∷ []) ≡ Some u
table_stays q m t u [] e = cc
table_stays q m t u (x ∷ tables) e = go (table_stays q m t u tables) (same_name q x.0) e
  where
    go : (table_of q tables ≡ Some u → table_of q (tables ++ (m, t) ∷ []) ≡ Some u) → (b : Bool) → cond b (Some x.1) (table_of q tables) ≡ Some u → cond b (Some x.1) (table_of q (tables ++ (m, t) ∷ [])) ≡ Some u
    go ih true e = e
    go ih false e = ih e

pub named : (q : List ℕ) (tables : NamedTables) → is_some (table_of q tables) ≡ list_any (same_name q) (keys_of tables)
named q [] = refl
named q (x ∷ tables) = go (named q tables) (same_name q x.0)
  where
    go : is_some (table_of q tables) ≡ list_any (same_name q) (keys_of tables) → (b : Bool) → is_some (cond b (Some x.1) (table_of q tables)) ≡ (b || list_any (same_name q) (keys_of tables))
    go ih true = refl
    go ih false = ih

-- one table more changes no other name
given_other : (q m : List ℕ) (o : Option Listed) (tables : NamedTables) → same_name q m ≡ false → table_of q (with_table tables m o) ≡ table_of q tables
given_other q m None tables e = refl
given_other q m (Some t) tables e = go (list_any (same_name m) (keys_of tables)) (table_of q tables) refl
  where
    go : (b : Bool) (o : Option Listed) → table_of q tables ≡ o → table_of q (cond b tables (tables ++ (m, t) ∷ [])) ≡ table_of q tables
    go true o f = refl
    go false None f = table_push q m t tables f ∙ ap (λ b. cond b (Some t) None) e ∙ sym f
    go false (Some u) f = table_stays q m t u tables f ∙ sym f

-- a name that had none gets it, and one that had it keeps it
given_here : (q : List ℕ) (t : Listed) (tables : NamedTables) (o : Option Listed) → table_of q tables ≡ o → (is_some o ≡ true → o ≡ Some t) → table_of q (with_table tables q (Some t)) ≡ Some t
given_here q t tables o f right = go (list_any (same_name q) (keys_of tables)) refl o f right
  where
    go : (b : Bool) → list_any (same_name q) (keys_of tables) ≡ b → (o : Option Listed) → table_of q tables ≡ o → (is_some o ≡ true → o ≡ Some t) → table_of q (cond b tables (tables ++ (q, t) ∷ [])) ≡ Some t
    go true e None f right = let h : false ≡ true = sym (ap is_some f) ∙ named q tables ∙ e in cc
    go true e (Some u) f right = f ∙ right refl
    go false e None f right = table_push q q t tables f ∙ ap (λ b. cond b (Some t) None) ((bytes_decides q q).1 refl)
    go false e (Some u) f right = let h : true ≡ false = sym (ap is_some f) ∙ named q tables ∙ e in cc

module _ (inputs : NamedTables) (results : List (Option Listed)) (places : List (List ℕ × ℕ)) (q : List ℕ) (t : Listed) (there : table_from inputs results q (source_of (lookup (same_name q) places)) ≡ Some t) where
  -- what stands for the name, if anything, is its table
  abbrev IsRight : NamedTables → Type 0
  IsRight tables = is_some (table_of q tables) ≡ true → table_of q tables ≡ Some t

  step : (m : List ℕ) (tables : NamedTables) (b : Bool) → same_name q m ≡ b → IsRight tables → IsRight (with_table tables m (table_from inputs results m (source_of (lookup (same_name m) places)))) × ((b ≡ true) → table_of q (with_table tables m (table_from inputs results m (source_of (lookup (same_name m) places)))) ≡ Some t)
  step m tables true d right = (λ h. here, λ h. here)
    where
      here : table_of q (with_table tables m (table_from inputs results m (source_of (lookup (same_name m) places)))) ≡ Some t
      here = ap (λ x. table_of q (with_table tables x (table_from inputs results x (source_of (lookup (same_name x) places))))) (sym ((bytes_decides q m).0 d)) ∙ ap (λ o. table_of q (with_table tables q o)) there ∙ given_here q t tables (table_of q tables) refl right
  step m tables false d right = (λ h. other ∙ right (sym (ap is_some other) ∙ h), λ h. cc)
    where
      other : table_of q (with_table tables m (table_from inputs results m (source_of (lookup (same_name m) places)))) ≡ table_of q tables
      other = given_other q m (table_from inputs results m (source_of (lookup (same_name m) places))) tables d

  kept_there : (names : List (List ℕ)) (tables : NamedTables) → table_of q tables ≡ Some t → table_of q (given_behind inputs results tables (map (operand_of places) names)) ≡ Some t
  kept_there [] tables e = e
  kept_there (m ∷ names) tables e = kept_there names (with_table tables m (table_from inputs results m (source_of (lookup (same_name m) places)))) (go (same_name q m) refl)
    where
      go : (b : Bool) → same_name q m ≡ b → table_of q (with_table tables m (table_from inputs results m (source_of (lookup (same_name m) places)))) ≡ Some t
      go true d = (step m tables true d (λ h. e)).1 refl
      go false d = given_other q m (table_from inputs results m (source_of (lookup (same_name m) places))) tables d ∙ e

  given_there : (names : List (List ℕ)) (tables : NamedTables) → IsRight tables → list_any (same_name q) names ≡ true → table_of q (given_behind inputs results tables (map (operand_of places) names)) ≡ Some t
  given_there [] tables right h = cc
  given_there (m ∷ names) tables right h = go (λ k. given_there names (with_table tables m (table_from inputs results m (source_of (lookup (same_name m) places)))) k) (same_name q m) refl h
    where
      go : (IsRight (with_table tables m (table_from inputs results m (source_of (lookup (same_name m) places)))) → list_any (same_name q) names ≡ true → table_of q (given_behind inputs results (with_table tables m (table_from inputs results m (source_of (lookup (same_name m) places)))) (map (operand_of places) names)) ≡ Some t)
          → (b : Bool) → same_name q m ≡ b → (b || list_any (same_name q) names) ≡ true → table_of q (given_behind inputs results (with_table tables m (table_from inputs results m (source_of (lookup (same_name m) places)))) (map (operand_of places) names)) ≡ Some t
      go ih true d h = kept_there names (with_table tables m (table_from inputs results m (source_of (lookup (same_name m) places)))) ((step m tables true d right).1 refl)
      go ih false d h = ih (step m tables false d right).0 h

  pub given_named : (names : List (List ℕ)) → list_any (same_name q) names ≡ true → table_of q (given_all inputs results (map (operand_of places) names)) ≡ Some t
  given_named names h = given_there names [] (λ h. cc) h

-- a data set that its operand shows is shown by what is given
pub shown_given : (inputs : NamedTables) (results : List (Option Listed)) (places : List (List ℕ × ℕ)) (names : List (List ℕ)) (q : List ℕ) (d : Option DataSet) → list_any (same_name q) names ≡ true
    → IsShown d (table_from inputs results q (source_of (lookup (same_name q) places))) → IsShown d (table_of q (given_all inputs results (map (operand_of places) names)))
shown_given inputs results places names q d h shown = go d (table_from inputs results q (source_of (lookup (same_name q) places))) refl shown
  where
    go : (d : Option DataSet) (o : Option Listed) → table_from inputs results q (source_of (lookup (same_name q) places)) ≡ o → IsShown d o → IsShown d (table_of q (given_all inputs results (map (operand_of places) names)))
    go (Some x) (Some t) e shown = subst (λ o. IsShown (Some x) o) (sym (given_named inputs results places q t e names h)) shown
    go (Some x) None e shown = absurd shown
    go None (Some t) e shown = absurd shown
    go None None e shown = absurd shown
