-- The declared data sets that a script reads.
use Rattle.std.proofs.Common.{◌≡◌, ℕ, Bool, true, false, cond, ◌||◌, List, [], ◌∷◌, ◌++◌, map, Option, Some, None, refl, sym, ap, ◌∙◌}
use Rattle.std.specs.Map.{lookup}
use Rattle.std.specs.Cmp.Lexicographic.{bytes_decides}
use Rattle.vtl_rows.specs.Named.{NamedTables}
use Rattle.vtl_tree.specs.Structure.{same_name}
use Rattle.vtl_tree.specs.Structures.{Named, has_name}
use Rattle.vtl_tree.specs.declared.structure.Structure.{Structure}
use Rattle.vtl_tree.proofs.StructuresLemmas.{not_found, not_there}
use Rattle.vtl_tree.specs.Trees.{NodeTree}
use Rattle.vtl_check.specs.Names.{names_of}
use Rattle.vtl_check.specs.Uses.{read_behind, reads, with_declared}
use Rattle.vtl_check.proofs.DataSetsRead.{found_behind, found_in_front}
use Rattle.vtl_tree.specs.Environment.{known_in}
use Rattle.vtl_backend.specs.Inputs.{input_of}
use Rattle.check_laws.specs.Scripts.{AreKnownAlike}

-- the data sets of inputs have the structures that are read
pub known_inputs : (tables : NamedTables) (es : Named) → known_in (map (input_of tables) es) ≡ es
known_inputs tables [] = refl
known_inputs tables (e ∷ es) = ap (λ l. e ∷ l) (known_inputs tables es)

-- ---- each name once
-- ---- each with its declared structure
IsPart : Named → Named → Type 0
IsPart known declared = (name : List ℕ) (s : Structure) → lookup (same_name name) known ≡ Some s → lookup (same_name name) declared ≡ Some s

abbrev IsSettled : Named → Named → List ℕ → Type 0
IsSettled known declared name = lookup (same_name name) known ≡ lookup (same_name name) declared

-- what is looked up behind one more entry
looked_more : (known : Named) (new name : List ℕ) (s : Structure) → lookup (same_name name) known ≡ None → lookup (same_name name) (known ++ (new, s) ∷ []) ≡ cond (same_name name new) (Some s) None
looked_more known new name s e = found_behind name known ((new, s) ∷ []) e

part_step : (declared known : Named) (new : List ℕ) → IsPart known declared → IsPart (with_declared known new (lookup (same_name new) declared)) declared
unfolding IsPart
part_step declared known new part = go (lookup (same_name new) declared) refl (has_name new known)
  where
    go : (o : Option Structure) → lookup (same_name new) declared ≡ o → Bool → (name : List ℕ) (s : Structure) → lookup (same_name name) (with_declared known new o) ≡ Some s → lookup (same_name name) declared ≡ Some s
    go None e b name s h = part name s h
    go (Some t) e b name s h = new_one (has_name new known) h
      where
        behind : (o : Option Structure) → lookup (same_name name) known ≡ o → lookup (same_name name) (known ++ (new, t) ∷ []) ≡ Some s → lookup (same_name name) declared ≡ Some s
        behind (Some u) l q = part name s (l ∙ sym (found_in_front name known ((new, t) ∷ []) u l) ∙ q)
        behind None l q = same (same_name name new) refl (sym (looked_more known new name t l) ∙ q)
          where
            same : (c : Bool) → same_name name new ≡ c → cond c (Some t) None ≡ Some s → lookup (same_name name) declared ≡ Some s
            same true c r = ap (λ n. lookup (same_name n) declared) ((bytes_decides name new).0 c) ∙ e ∙ r
            same false c r = cc

        new_one : (b : Bool) → lookup (same_name name) (cond b known (known ++ (new, t) ∷ [])) ≡ Some s → lookup (same_name name) declared ≡ Some s
        new_one true q = part name s q
        new_one false q = behind (lookup (same_name name) known) refl q

-- what is settled stays so
settled_step : (declared known : Named) (new name : List ℕ) → IsSettled known declared name → IsSettled (with_declared known new (lookup (same_name new) declared)) declared name
settled_step declared known new name h = go (lookup (same_name new) declared) refl
  where
    go : (o : Option Structure) → lookup (same_name new) declared ≡ o → lookup (same_name name) (with_declared known new o) ≡ lookup (same_name name) declared
    go None e = h
    go (Some t) e = new_one (has_name new known)
      where
        behind : (o : Option Structure) → lookup (same_name name) known ≡ o → lookup (same_name name) (known ++ (new, t) ∷ []) ≡ lookup (same_name name) declared
        behind (Some u) l = found_in_front name known ((new, t) ∷ []) u l ∙ sym l ∙ h
        behind None l = looked_more known new name t l ∙ same (same_name name new) refl
          where
            same : (c : Bool) → same_name name new ≡ c → cond c (Some t) None ≡ lookup (same_name name) declared
            same true c =
                let there : lookup (same_name name) declared ≡ Some t = ap (λ n. lookup (same_name n) declared) ((bytes_decides name new).0 c) ∙ e in
                sym there
            same false c = sym l ∙ h

        new_one : (b : Bool) → lookup (same_name name) (cond b known (known ++ (new, t) ∷ [])) ≡ lookup (same_name name) declared
        new_one true = h
        new_one false = behind (lookup (same_name name) known) refl

settled_now : (declared known : Named) (name : List ℕ) → IsPart known declared → IsSettled (with_declared known name (lookup (same_name name) declared)) declared name
unfolding IsPart
settled_now declared known name part = go (lookup (same_name name) declared) refl (lookup (same_name name) known) refl
  where
    go : (o : Option Structure) → lookup (same_name name) declared ≡ o → (k : Option Structure) → lookup (same_name name) known ≡ k → lookup (same_name name) (with_declared known name o) ≡ lookup (same_name name) declared
    go None e None l = l ∙ sym e
    go None e (Some u) l = l ∙ sym (part name u l)
    go (Some t) e k l = new_one (has_name name known) refl
      where
        new_one : (b : Bool) → has_name name known ≡ b → lookup (same_name name) (cond b known (known ++ (name, t) ∷ [])) ≡ lookup (same_name name) declared
        new_one true q = found k l
          where
            found : (k : Option Structure) → lookup (same_name name) known ≡ k → lookup (same_name name) known ≡ lookup (same_name name) declared
            found (Some u) l = l ∙ sym (part name u l)
            found None l = absurd (there known l q)
              where
                there : (es : Named) → lookup (same_name name) es ≡ None → has_name name es ≡ true → ⊥
                there [] l q = cc
                there (x ∷ xs) l q = at (same_name name x.0) (there xs) l q
                  where
                    at : (b : Bool) → (lookup (same_name name) xs ≡ None → has_name name xs ≡ true → ⊥) → cond b (Some x.1) (lookup (same_name name) xs) ≡ None → (b || has_name name xs) ≡ true → ⊥
                    at true ih l q = cc
                    at false ih l q = ih l q
        new_one false q =
            looked_more known name name t (not_found known name q)
            ∙ ap (λ b. cond b (Some t) None) ((bytes_decides name name).1 refl) ∙ sym e

settled_behind : (declared known : Named) (names : List (List ℕ)) (name : List ℕ) → IsSettled known declared name → IsSettled (read_behind declared known names) declared name
settled_behind declared known [] name h = h
settled_behind declared known (x ∷ xs) name h = settled_behind declared (with_declared known x (lookup (same_name x) declared)) xs name (settled_step declared known x name h)

read_same : (declared known : Named) (names : List (List ℕ)) → IsPart known declared → AreKnownAlike (read_behind declared known names) declared names
read_same declared known [] part = tt
read_same declared known (x ∷ xs) part =
    let more = with_declared known x (lookup (same_name x) declared) in
    (settled_behind declared more xs x (settled_now declared known x part), read_same declared more xs (part_step declared known x part))

nothing_part : (declared : Named) → IsPart [] declared
unfolding IsPart
nothing_part declared name s e = cc

-- the names that expressions read have the same structures among all that are declared and among those that are read
pub reads_same : (declared : Named) (ns : List NodeTree) → AreKnownAlike (reads declared ns) declared (names_of ns)
reads_same declared ns = read_same declared [] (names_of ns) (nothing_part declared)

-- ---- a name that is not declared is not read
part_behind : (declared known : Named) (names : List (List ℕ)) → IsPart known declared → IsPart (read_behind declared known names) declared
part_behind declared known [] part = part
part_behind declared known (x ∷ xs) part = part_behind declared (with_declared known x (lookup (same_name x) declared)) xs (part_step declared known x part)

pub reads_fewer : (declared : Named) (ns : List NodeTree) (name : List ℕ) → has_name name declared ≡ false → has_name name (reads declared ns) ≡ false
unfolding IsPart
reads_fewer declared ns name h = not_there (reads declared ns) name (go (lookup (same_name name) (reads declared ns)) refl)
  where
    part : IsPart (reads declared ns) declared
    part = part_behind declared [] (names_of ns) (nothing_part declared)

    go : (o : Option Structure) → lookup (same_name name) (reads declared ns) ≡ o → lookup (same_name name) (reads declared ns) ≡ None
    go None e = e
    go (Some s) e = let d : None ≡ Some s = sym (not_found declared name h) ∙ part name s e in cc
