-- What is held for each name: a structure with its not-null list.
use Rattle.std.specs.Prelude.{ℕ, ◌≡◌, Bool, true, ◌&&◌, List, [], map}
use Rattle.std.specs.List.{flat_map, list_all}
use Rattle.std.specs.Map.{keys_of}
use Rattle.vtl_lists.specs.Apart.{all_apart}
use Rattle.vtl_tree.specs.declared.structures.Declaration.{Declaration}
use Rattle.vtl_tree.specs.NotNull.{Declared, NotNull, are_not_null, with_list}
use Rattle.vtl_tree.specs.Structure.{same_name}
use Rattle.vtl_tree.specs.Structures.{Named, is_declarable}

abbrev pub Held : Type 0
Held = List (List ℕ × Declaration)

abbrev pub sets_of : Held → Named
sets_of xs = map (λ x. (x.0, x.1.structure)) xs

abbrev pub lists_of : Held → NotNull
lists_of xs = flat_map (λ x. with_list x.0 x.1.not_null) xs

abbrev pub declared : Held → Declared
declared xs = record { sets = sets_of xs; not_null = lists_of xs }

abbrev pub is_declaration : List ℕ × Declaration → Bool
is_declaration x = is_declarable x.1.structure && are_not_null x.1.structure x.1.not_null

-- each is as it may be declared, and the names are distinct
pub record AreDeclarations (xs : Held) : Type 0 where
  pub all : list_all is_declaration xs ≡ true
  pub distinct : all_apart same_name (keys_of xs) ≡ true
