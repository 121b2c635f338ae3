-- The declared data sets that expressions read.
use Rattle.std.proofs.Common.{◌≡◌, ℕ, Bool, true, false, cond, ◌||◌, List, [], ◌∷◌, ◌++◌, map, Option, Some, None, refl, sym, ap, subst, ◌∙◌}
use Rattle.std.specs.List.{AllByRecursion, list_any}
use Rattle.std.specs.Map.{keys_of, lookup}
use Rattle.std.specs.Option.{option_map}
use Rattle.std.specs.Cmp.Lexicographic.{bytes_decides, nat_list_eq_equiv}
use Rattle.std.proofs.lemmas.List.Folds.{list_any-append}
use Rattle.std.proofs.lemmas.Option.{same_Some}
use Rattle.std.proofs.lemmas.Bool.{or_right}
use Rattle.vtl_lists.proofs.Alls.{all_append, all_more}
use Rattle.vtl_rows.specs.Named.{NamedTables}
use Rattle.vtl_tree.specs.Environment.{DataSet, Environment, data_of, known_in}
use Rattle.vtl_tree.specs.Structure.{same_name}
use Rattle.vtl_tree.specs.Structures.{Named, has_name}
use Rattle.vtl_tree.specs.declared.structure.Structure.{Structure}
use Rattle.vtl_tree.proofs.StructuresLemmas.{keys_push, not_found}
use Rattle.vtl_tree.specs.Trees.{NodeTree}
use Rattle.vtl_check.specs.Names.{names_of}
use Rattle.vtl_check.specs.Uses.{read_behind, reads, with_declared, with_new}
use Rattle.vtl_backend.specs.Inputs.{input_of}
use Rattle.check_laws.specs.Scripts.{AreKnownAlike}

-- ---- environments
-- what is known of a data set is its structure
pub known_of_data : (name : List ℕ) (env : Environment) → lookup (same_name name) (known_in env) ≡ option_map (λ d. d.structure) (data_of name env)
known_of_data name [] = refl
known_of_data name (e ∷ es) = go (same_name name e.0) (same_name e.0 name) (nat_list_eq_equiv.symm name e.0) (known_of_data name es)
  where
    go : (b c : Bool) → b ≡ c → lookup (same_name name) (known_in es) ≡ option_map (λ d. d.structure) (data_of name es)
        → cond b (Some e.1.structure) (lookup (same_name name) (known_in es)) ≡ option_map (λ d. d.structure) (cond c (Some e.1) (data_of name es))
    go true true same ih = refl
    go false false same ih = ih
    go true false same ih = cc
    go false true same ih = cc

-- a data set that is found is one of the environment
pub found_among : (P : DataSet → Type 0) (name : List ℕ) (env : Environment) (d : DataSet) → AllByRecursion (λ e. P e.1) env → data_of name env ≡ Some d → P d
found_among P name [] d h e = cc
found_among P name (x ∷ env) d h e = go (same_name x.0 name) (found_among P name env d h.1) e
  where
    go : (b : Bool) → (data_of name env ≡ Some d → P d) → cond b (Some x.1) (data_of name env) ≡ Some d → P d
    go true ih q = subst P (same_Some _ _ q) h.0
    go false ih q = ih q

-- ---- what is read
-- each data set that is read has a name that is read, and its declared structure
pub read_all : (P : List ℕ × Structure → Type 0) (declared known : Named) (names : List (List ℕ))
    → AllByRecursion P known → AllByRecursion (λ name. (s : Structure) → lookup (same_name name) declared ≡ Some s → P (name, s)) names → AllByRecursion P (read_behind declared known names)
read_all P declared known [] k h = k
read_all P declared known (name ∷ names) k h = read_all P declared (with_declared known name (lookup (same_name name) declared)) names (go (lookup (same_name name) declared) refl) h.1
  where
    go : (o : Option Structure) → lookup (same_name name) declared ≡ o → AllByRecursion P (with_declared known name o)
    go None e = k
    go (Some s) e = new (has_name name known)
      where
        new : (b : Bool) → AllByRecursion P (cond b known (known ++ (name, s) ∷ []))
        new true = k
        new false = all_append P known ((name, s) ∷ []) k (h.0 s e, tt)

-- a name of one more entry
has_more : (name new : List ℕ) (s : Structure) (known : Named) → has_name name (known ++ (new, s) ∷ []) ≡ (has_name name known || same_name name new)
has_more name new s known =
    ap (list_any (same_name name)) (keys_push known new s) ∙ list_any-append (same_name name) (keys_of known) (new ∷ []) ∙ ap (λ b. has_name name known || b) (last (same_name name new))
  where
    last : (b : Bool) → (b || false) ≡ b
    last true = refl
    last false = refl

-- a name that is known stays known
stays : (name new : List ℕ) (known : Named) (o : Option Structure) → has_name name known ≡ true → has_name name (with_declared known new o) ≡ true
stays name new known None h = h
stays name new known (Some s) h = go (has_name new known)
  where
    go : (b : Bool) → has_name name (cond b known (known ++ (new, s) ∷ [])) ≡ true
    go true = h
    go false = has_more name new s known ∙ ap (λ b. b || same_name name new) h

stays_behind : (declared known : Named) (names : List (List ℕ)) (name : List ℕ) → has_name name known ≡ true → has_name name (read_behind declared known names) ≡ true
stays_behind declared known [] name h = h
stays_behind declared known (x ∷ xs) name h = stays_behind declared (with_declared known x (lookup (same_name x) declared)) xs name (stays name x known (lookup (same_name x) declared) h)

-- a declared name that is read is there
there_now : (known : Named) (name : List ℕ) (s : Structure) → has_name name (with_new known name s) ≡ true
there_now known name s = go (has_name name known) refl
  where
    go : (b : Bool) → has_name name known ≡ b → has_name name (cond b known (known ++ (name, s) ∷ [])) ≡ true
    go true e = e
    go false e = has_more name name s known ∙ or_right (has_name name known) (same_name name name) ((bytes_decides name name).1 refl)

pub read_there : (declared known : Named) (names : List (List ℕ)) → AllByRecursion (λ name. (s : Structure) → lookup (same_name name) declared ≡ Some s → has_name name (read_behind declared known names) ≡ true) names
read_there declared known [] = tt
read_there declared known (name ∷ names) = (here, read_there declared (with_declared known name (lookup (same_name name) declared)) names)
  where
    here : (s : Structure) → lookup (same_name name) declared ≡ Some s → has_name name (read_behind declared (with_declared known name (lookup (same_name name) declared)) names) ≡ true
    here s e = stays_behind declared (with_declared known name (lookup (same_name name) declared)) names name (ap (λ o. has_name name (with_declared known name o)) e ∙ there_now known name s)

-- ---- with the structures that are declared
found_declared : (declared es : Named) (name : List ℕ) → AllByRecursion (λ e. lookup (same_name e.0) declared ≡ Some e.1) es → has_name name es ≡ true → lookup (same_name name) es ≡ lookup (same_name name) declared
found_declared declared [] name h has = cc
found_declared declared (e ∷ es) name h has = go (same_name name e.0) refl (found_declared declared es name h.1) has
  where
    go : (b : Bool) → same_name name e.0 ≡ b → (has_name name es ≡ true → lookup (same_name name) es ≡ lookup (same_name name) declared)
        → (b || has_name name es) ≡ true → cond b (Some e.1) (lookup (same_name name) es) ≡ lookup (same_name name) declared
    go true is ih has = sym (ap (λ q. lookup (same_name q) declared) ((bytes_decides name e.0).0 is) ∙ h.0)
    go false is ih has = ih has

pub all_declared : (declared : Named) (names : List (List ℕ)) → AllByRecursion (λ name. (s : Structure) → lookup (same_name name) declared ≡ Some s → lookup (same_name name) declared ≡ Some s) names
all_declared declared [] = tt
all_declared declared (name ∷ names) = (λ s e. e, all_declared declared names)

-- the names that expressions read have the same structures among all that are declared and among those that are read
pub reads_same : (declared : Named) (ns : List NodeTree) → AreKnownAlike declared (reads declared ns) (names_of ns)
reads_same declared ns =
    all_more (λ name. (s : Structure) → lookup (same_name name) declared ≡ Some s → has_name name (reads declared ns) ≡ true) (λ name. lookup (same_name name) declared ≡ lookup (same_name name) (reads declared ns))
    (λ name there. at name there (has_name name (reads declared ns)) refl) (names_of ns) (read_there declared [] (names_of ns))
  where
    entries : AllByRecursion (λ e. lookup (same_name e.0) declared ≡ Some e.1) (reads declared ns)
    entries = read_all (λ e. lookup (same_name e.0) declared ≡ Some e.1) declared [] (names_of ns) tt (all_declared declared (names_of ns))

    at : (name : List ℕ) → ((s : Structure) → lookup (same_name name) declared ≡ Some s → has_name name (reads declared ns) ≡ true)
        → (b : Bool) → has_name name (reads declared ns) ≡ b → lookup (same_name name) declared ≡ lookup (same_name name) (reads declared ns)
    at name there true e = sym (found_declared declared (reads declared ns) name entries e)
    at name there false e = none (lookup (same_name name) declared) refl
      where
        none : (o : Option Structure) → lookup (same_name name) declared ≡ o → lookup (same_name name) declared ≡ lookup (same_name name) (reads declared ns)
        none None q = q ∙ sym (not_found (reads declared ns) name e)
        none (Some s) q = let wrong : false ≡ true = sym e ∙ there s q in cc

-- the data sets of inputs have the structures that are read
pub known_inputs : (tables : NamedTables) (es : Named) → known_in (map (input_of tables) es) ≡ es
known_inputs tables [] = refl
known_inputs tables (e ∷ es) = ap (λ l. e ∷ l) (known_inputs tables es)
