-- The data sets that a script reads are declared so, each once, and have the names that its expressions read.
use Rattle.std.proofs.Common.{◌≡◌, ℕ, Bool, true, false, cond, ◌||◌, List, [], ◌∷◌, ◌++◌, Option, Some, None, is_some, refl, sym, ap, ◌∙◌, true≢false}
use Rattle.std.proofs.lemmas.Bool.{and_from, false≢true}
use Rattle.std.proofs.lemmas.List.{map-append}
use Rattle.std.proofs.lemmas.List.Folds.{list_any-append}
use Rattle.std.specs.List.{AllByRecursion, list_all, list_any}
use Rattle.std.specs.Map.{keys_of, lookup}
use Rattle.vtl_lists.specs.Apart.{all_apart}
use Rattle.vtl_lists.proofs.Alls.{all_append, all_from_test}
use Rattle.vtl_text.specs.Words.{is_word}
use Rattle.vtl_text.proofs.Apart.{apart_push}
use Rattle.vtl_tree.specs.Structure.{same_name}
use Rattle.vtl_tree.specs.Structures.{AreStructures, Named, has_name, is_declarable, is_declarable_entry}
use Rattle.vtl_tree.specs.declared.structure.Structure.{Structure}
use Rattle.vtl_meaning.proofs.Places.{same_name-is}
use Rattle.vtl_tree.specs.Trees.{NodeTree}
use Rattle.vtl_tree.proofs.NotNullLemmas.{same_itself}
use Rattle.vtl_check.specs.Names.{names_of}
use Rattle.vtl_check.specs.Uses.{read_behind, reads, with_declared, with_new}
use Rattle.vtl_check.proofs.KnownLemmas.{has_name-lookup}
use Rattle.check_laws.specs.Scripts.{AreKnownAlike}
use Rattle.vtl_meaning.proofs.Lists as lists
use Rattle.vtl_to_sql.specs.Conditions.{AreReadable}

abbrev pub IsWord : List ℕ → Type 0
IsWord x = is_word x ≡ true

module _ (declared : Named) where
  -- ---- what is read so far
  abbrev IsDeclared : List ℕ × Structure → Type 0
  IsDeclared e = lookup (same_name e.0) declared ≡ Some e.1

  record AreReadSoFar (known : Named) : Type 0 where
    declared_so : AllByRecursion IsDeclared known
    apart : all_apart same_name (keys_of known) ≡ true
    words : AllByRecursion (λ e. IsWord e.0) known

  one_more : (known : Named) (name : List ℕ) (s : Structure) → IsWord name → lookup (same_name name) declared ≡ Some s → AreReadSoFar known → AreReadSoFar (with_new known name s)
  one_more known name s word there are = go (has_name name known) refl
    where
      go : (b : Bool) → has_name name known ≡ b → AreReadSoFar (cond b known (known ++ (name, s) ∷ []))
      go true e = are
      go false e = record {
        declared_so = all_append IsDeclared known ((name, s) ∷ []) are.declared_so (there, tt);
        apart = ap (all_apart same_name) (map-append (λ (x : List ℕ × Structure). x.0) known ((name, s) ∷ [])) ∙ apart_push (keys_of known) name are.apart e;
        words = all_append (λ e. IsWord e.0) known ((name, s) ∷ []) are.words (word, tt);
      }

  one_read : (known : Named) (name : List ℕ) → IsWord name → AreReadSoFar known → AreReadSoFar (with_declared known name (lookup (same_name name) declared))
  one_read known name word are = go (lookup (same_name name) declared) refl
    where
      go : (o : Option Structure) → lookup (same_name name) declared ≡ o → AreReadSoFar (with_declared known name o)
      go None e = are
      go (Some s) e = one_more known name s word e are

  read_so : (known : Named) (names : List (List ℕ)) → AllByRecursion IsWord names → AreReadSoFar known → AreReadSoFar (read_behind declared known names)
  read_so known [] words are = are
  read_so known (name ∷ names) words are = read_so (with_declared known name (lookup (same_name name) declared)) names words.1 (one_read known name words.0 are)

  -- ---- a name that is found is declared so
  found_so : (known : Named) (name : List ℕ) (s : Structure) → AllByRecursion IsDeclared known → lookup (same_name name) known ≡ Some s → lookup (same_name name) declared ≡ Some s
  found_so [] name s h e = cc
  found_so (x ∷ xs) name s h e = go (same_name name x.0) refl e (found_so xs name s h.1)
    where
      go : (b : Bool) → same_name name x.0 ≡ b → cond b (Some x.1) (lookup (same_name name) xs) ≡ Some s → (lookup (same_name name) xs ≡ Some s → lookup (same_name name) declared ≡ Some s) → lookup (same_name name) declared ≡ Some s
      go true t k ih = ap (λ n. lookup (same_name n) declared) (same_name-is name x.0 t) ∙ h.0 ∙ k
      go false t k ih = ih k

  pub fewer : (known : Named) (name : List ℕ) → AllByRecursion IsDeclared known → has_name name declared ≡ false → has_name name known ≡ false
  fewer known name h e = go (lookup (same_name name) known) refl
    where
      go : (o : Option Structure) → lookup (same_name name) known ≡ o → has_name name known ≡ false
      go None k = has_name-lookup name known ∙ ap is_some k
      go (Some s) k = absurd (true≢false (sym (has_name-lookup name declared ∙ ap is_some (found_so known name s h k)) ∙ e))

  -- ---- each name that is declared is read
  abbrev IsThere : Named → List ℕ → Type 0
  IsThere known name = is_some (lookup (same_name name) declared) ≡ true → has_name name known ≡ true

  or_true : (b : Bool) → (b || true) ≡ true
  or_true true = refl
  or_true false = refl

  still_there : (known : Named) (new name : List ℕ) (o : Option Structure) → has_name name known ≡ true → has_name name (with_declared known new o) ≡ true
  still_there known new name None h = h
  still_there known new name (Some s) h = go (has_name new known)
    where
      go : (b : Bool) → has_name name (cond b known (known ++ (new, s) ∷ [])) ≡ true
      go true = h
      go false =
          ap (list_any (same_name name)) (map-append (λ (x : List ℕ × Structure). x.0) known ((new, s) ∷ []))
          ∙ list_any-append (same_name name) (keys_of known) (new ∷ [])
          ∙ ap (λ b. b || list_any (same_name name) (new ∷ [])) h

  there_now : (known : Named) (name : List ℕ) → IsThere (with_declared known name (lookup (same_name name) declared)) name
  there_now known name = go (lookup (same_name name) declared)
    where
      go : (o : Option Structure) → is_some o ≡ true → has_name name (with_declared known name o) ≡ true
      go None t = absurd (false≢true t)
      go (Some s) t = new (has_name name known) refl
        where
          new : (b : Bool) → has_name name known ≡ b → has_name name (cond b known (known ++ (name, s) ∷ [])) ≡ true
          new true e = e
          new false e =
              ap (list_any (same_name name)) (map-append (λ (x : List ℕ × Structure). x.0) known ((name, s) ∷ []))
              ∙ list_any-append (same_name name) (keys_of known) (name ∷ [])
              ∙ ap (λ b. list_any (same_name name) (keys_of known) || (b || false)) (same_itself name)
              ∙ or_true (list_any (same_name name) (keys_of known))

  there_behind : (known : Named) (names : List (List ℕ)) (name : List ℕ) → IsThere known name → IsThere (read_behind declared known names) name
  there_behind known [] name h = h
  there_behind known (x ∷ xs) name h = there_behind (with_declared known x (lookup (same_name x) declared)) xs name (λ t. still_there known x name (lookup (same_name x) declared) (h t))

  all_there : (known : Named) (names : List (List ℕ)) → AllByRecursion (IsThere (read_behind declared known names)) names
  all_there known [] = tt
  all_there known (x ∷ xs) =
      let more = with_declared known x (lookup (same_name x) declared) in
      (there_behind more xs x (there_now known x), all_there more xs)

  alike : (known : Named) (name : List ℕ) → AllByRecursion IsDeclared known → IsThere known name → lookup (same_name name) declared ≡ lookup (same_name name) known
  alike known name h there = go (lookup (same_name name) known) refl
    where
      nothing : (o : Option Structure) → lookup (same_name name) declared ≡ o → lookup (same_name name) known ≡ None → o ≡ None
      nothing None e k = refl
      nothing (Some s) e k = absurd (true≢false (sym (there (ap is_some e)) ∙ has_name-lookup name known ∙ ap is_some k))

      go : (o : Option Structure) → lookup (same_name name) known ≡ o → lookup (same_name name) declared ≡ lookup (same_name name) known
      go None k = nothing (lookup (same_name name) declared) refl k ∙ sym k
      go (Some s) k = found_so known name s h k ∙ sym k

  -- ---- the data sets that expressions read
  all_of : (ns : List NodeTree) → AllByRecursion IsWord (names_of ns) → AreReadSoFar (reads declared ns)
  all_of ns words = read_so [] (names_of ns) words (record { declared_so = tt; apart = refl; words = tt })

  pub reads_alike : (ns : List NodeTree) → AllByRecursion IsWord (names_of ns) → AreKnownAlike declared (reads declared ns) (names_of ns)
  reads_alike ns words =
      lists.weaker (IsThere (reads declared ns)) (λ name. lookup (same_name name) declared ≡ lookup (same_name name) (reads declared ns)) (names_of ns)
      (λ name there. alike (reads declared ns) name (all_of ns words).declared_so there) (all_there [] (names_of ns))

  pub reads_fewer : (ns : List NodeTree) → AllByRecursion IsWord (names_of ns) → (name : List ℕ) → has_name name declared ≡ false → has_name name (reads declared ns) ≡ false
  reads_fewer ns words name e = fewer (reads declared ns) name (all_of ns words).declared_so e

  found_declarable : (test : List ℕ → Bool) (known : Named) (s : Structure) → AllByRecursion (λ e. is_declarable_entry e ≡ true) known → lookup test known ≡ Some s → is_declarable s ≡ true
  found_declarable test [] s h e = cc
  found_declarable test (x ∷ xs) s h e = go (test x.0) e (found_declarable test xs s h.1)
    where
      go : (b : Bool) → cond b (Some x.1) (lookup test xs) ≡ Some s → (lookup test xs ≡ Some s → is_declarable s ≡ true) → is_declarable s ≡ true
      go true k ih = let same : x.1 ≡ s = cc in ap is_declarable (sym same) ∙ h.0
      go false k ih = ih k

  every_declarable : AreStructures declared → (known : Named) → AllByRecursion IsDeclared known → list_all is_declarable_entry known ≡ true
  every_declarable are [] h = refl
  every_declarable are (x ∷ xs) h =
      and_from (is_declarable x.1) (list_all is_declarable_entry xs) (found_declarable (same_name x.0) declared x.1 (all_from_test is_declarable_entry declared are.declarable) h.0) (every_declarable are xs h.1)

  pub reads_readable : (ns : List NodeTree) → AllByRecursion IsWord (names_of ns) → AreStructures declared → AreReadable (reads declared ns)
  reads_readable ns words are =
      let so = all_of ns words in
      record { structures = record { declarable = every_declarable are (reads declared ns) so.declared_so; distinct = so.apart }; words = so.words }
