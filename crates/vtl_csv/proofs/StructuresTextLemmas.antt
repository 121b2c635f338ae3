-- The records of one more data set are written.
use Rattle.std.proofs.Common.{◌≡◌, ℕ, zero, suc, ◌+◌, List, [], ◌∷◌, ◌++◌, take, map, flat_map, slice_get, Some, arith, refl, sym, ap, ◌∙◌, append_assoc}
use Rattle.std.proofs.lemmas.Grind.{flat_map-append}
use Rattle.std.proofs.lemmas.List.{append-nil}
use Rattle.csv.specs.Writing.{default_writer, row_text}
use Rattle.vtl_lists.specs.Aliases.{Bytes, Name, Record}
use Rattle.vtl_tree.specs.declared.structure.Component.{Component}
use Rattle.vtl_tree.specs.declared.structure.Structure.{Structure}
use Rattle.vtl_tree.specs.NotNull.{NotNull, not_null_of}
use Rattle.vtl_tree.specs.Structures.{Named}
use Rattle.vtl_csv.specs.StructuresText.{component_record, set_records}

abbrev Texts : List Record → Bytes
Texts rows = flat_map (row_text default_writer) rows

one_more : {X : Type 0} (f : Name × Structure → List X) (sets : Named) (i : ℕ) (name : Name) (s : Structure) → slice_get sets i ≡ Some (name, s) → flat_map f (take (suc i) sets) ≡ flat_map f (take i sets) ++ f (name, s)
one_more f [] i name s e = cc
one_more f (x ∷ xs) zero name s e = let same : x ≡ (name, s) = cc in append-nil (f x) ∙ ap f same
one_more f (x ∷ xs) (suc i) name s e = ap (λ l. f x ++ l) (one_more f xs i name s e) ∙ sym (append_assoc (f x) (flat_map f (take i xs)) (f (name, s)))

next : (i : ℕ) → i + 1 ≡ suc i
next i = omega arith

pub set_written : (lists : NotNull) (sets : Named) (i : ℕ) (name : Name) (s : Structure) (list : List Name) (components : List Component) (init before after : Bytes) → slice_get sets i ≡ Some (name, s)
    → list ≡ not_null_of name lists → components ≡ s.components → before ≡ init ++ Texts (flat_map (set_records lists) (take i sets))
    → after ≡ before ++ Texts (map (component_record name list) components) → after ≡ init ++ Texts (flat_map (set_records lists) (take (i + 1) sets))
set_written lists sets i name s list components init before after e l k b a =
    let front = flat_map (set_records lists) (take i sets) in
    a ∙ ap (λ t. t ++ Texts (map (component_record name list) components)) b ∙ append_assoc init (Texts front) (Texts (map (component_record name list) components))
    ∙ ap (λ t. init ++ t)
    (ap (λ q. Texts front ++ Texts (map (component_record name q) components)) l ∙ ap (λ q. Texts front ++ Texts (map (component_record name (not_null_of name lists)) q)) k
    ∙ sym (ap (λ n. Texts (flat_map (set_records lists) (take n sets))) (next i) ∙ ap Texts (one_more (set_records lists) sets i name s e) ∙ flat_map-append (row_text default_writer) front (set_records lists (name, s))))
