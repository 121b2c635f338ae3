-- Pieces that are added one after another.
use Rattle.std.proofs.Common.{◌≡◌, ℕ, List, [], ◌∷◌, ◌++◌, take, drop, Option, Some, None, refl, sym, ap, ◌∙◌, append_assoc}
use Rattle.std.specs.Option.{option_map}
use Rattle.std.proofs.lemmas.List.{append-nil, take-append-drop}
use Rattle.vtl_files.specs.Outside.{append_last}
use Rattle.vtl_files.specs.Whole.{AddsUpTo}

-- a way of adding bytes, where pieces one after another are one piece
pub record IsAdding {X : Type 0} (add : List ℕ → X → X) : Type 0 where
  pub add-nil : (x : X) → add [] x ≡ x
  pub add-append : (x : X) (front rest : List ℕ) → add rest (add front x) ≡ add (front ++ rest) x

append_last-nil : (files : List (List ℕ × List ℕ)) → append_last [] files ≡ files
append_last-nil [] = refl
append_last-nil (file ∷ []) = ap (λ bytes. (file.0, bytes) ∷ []) (append-nil file.1)
append_last-nil (file ∷ next ∷ files) = ap (λ more. file ∷ more) (append_last-nil (next ∷ files))

past_first : (file next : List ℕ × List ℕ) (files : List (List ℕ × List ℕ)) (front rest : List ℕ) →
    append_last rest (file ∷ append_last front (next ∷ files)) ≡ file ∷ append_last rest (append_last front (next ∷ files))
past_first file next [] front rest = refl
past_first file next (other ∷ files) front rest = refl

append_last-append : (files : List (List ℕ × List ℕ)) (front rest : List ℕ) → append_last rest (append_last front files) ≡ append_last (front ++ rest) files
append_last-append [] front rest = refl
append_last-append (file ∷ []) front rest = ap (λ bytes. (file.0, bytes) ∷ []) (append_assoc file.1 front rest)
append_last-append (file ∷ next ∷ files) front rest = past_first file next files front rest ∙ ap (λ more. file ∷ more) (append_last-append (next ∷ files) front rest)

-- what is appended after a file was created is in that file
pub append_last-created : (files : List (List ℕ × List ℕ)) (name bytes : List ℕ) → append_last bytes (files ++ (name, []) ∷ []) ≡ files ++ (name, bytes) ∷ []
append_last-created [] name bytes = refl
append_last-created (file ∷ []) name bytes = refl
append_last-created (file ∷ next ∷ files) name bytes = ap (λ more. file ∷ more) (append_last-created (next ∷ files) name bytes)

pub append_last_adds : IsAdding append_last
append_last_adds = record { add-nil = append_last-nil; add-append = append_last-append }

pub append_adds : IsAdding (λ (front taken : List ℕ). taken ++ front)
append_adds = record { add-nil = λ taken. append-nil taken; add-append = λ taken front rest. append_assoc taken front rest }

map_same : {X : Type 0} (add : List ℕ → X → X) → IsAdding add → (o : Option X) → o ≡ option_map (add []) o
map_same add adds None = refl
map_same add adds (Some x) = ap Some (sym (adds.add-nil x))

map_twice : {X : Type 0} (add : List ℕ → X → X) → IsAdding add → (o : Option X) (front rest : List ℕ) → option_map (add rest) (option_map (add front) o) ≡ option_map (add (front ++ rest)) o
map_twice add adds None front rest = refl
map_twice add adds (Some x) front rest = ap Some (adds.add-append x front rest)

-- before the first piece
pub nothing_yet : {X : Type 0} (add : List ℕ → X → X) → IsAdding add → (o : Option X) (bytes : List ℕ) → AddsUpTo add o o bytes bytes
nothing_yet add adds o bytes = record { front = []; whole = refl; told = map_same add adds o }

-- one more piece
pub one_more : {X : Type 0} (add : List ℕ → X → X) → IsAdding add → (before so_far now : Option X) (bytes rest : List ℕ) (count : ℕ) →
    AddsUpTo add before so_far bytes rest → now ≡ option_map (add (take count rest)) so_far → AddsUpTo add before now bytes (drop count rest)
one_more add adds before so_far now bytes rest count so_far_is more =
    record {
      front = so_far_is.front ++ take count rest;
      whole = so_far_is.whole ∙ ap (λ l. so_far_is.front ++ l) (sym (take-append-drop count rest)) ∙ sym (append_assoc so_far_is.front (take count rest) (drop count rest));
      told = more ∙ ap (option_map (add (take count rest))) so_far_is.told ∙ map_twice add adds before so_far_is.front (take count rest);
    }

-- after the last piece
pub all_added : {X : Type 0} (add : List ℕ → X → X) (before now : Option X) (bytes : List ℕ) → AddsUpTo add before now bytes [] → now ≡ option_map (add bytes) before
all_added add before now bytes done = done.told ∙ ap (λ l. option_map (add l) before) (sym (append-nil done.front) ∙ sym done.whole)
