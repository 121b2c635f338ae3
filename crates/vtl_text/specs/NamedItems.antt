-- Where items are found by name.
use Rattle.std.specs.Prelude.{◌≡◌, ℕ, suc, true, List, [], ◌∷◌, Option, None, Some, if◌then◌else◌}
use Rattle.std.specs.BTreeMap.{BTreeMap, get_by}
use Rattle.std.specs.Cmp.Lexicographic.{slice_cmp}
use Rattle.std.specs.Map.{keys_of}
use Rattle.std.specs.Option.{option_map}
use Rattle.std.specs.Ordering.{nat_cmp}
use Rattle.vtl_lists.specs.Apart.{all_apart}
use Rattle.vtl_text.specs.Texts.{same_text}

-- the place of the first entry of a name
abbrev pub place_of : {T : Type 0} → List ℕ → List (List ℕ × T) → Option ℕ
place_of name [] = None
place_of name (e ∷ es) = if same_text name e.0 then Some 0 else option_map suc (place_of name es)

-- the map has the place of each name
abbrev pub FindsPlaces : {T : Type 0} → List (List ℕ × T) → BTreeMap (List ℕ) ℕ → Type 0
FindsPlaces entries places = (name : List ℕ) → get_by (slice_cmp nat_cmp name) places ≡ place_of name entries

-- no two entries have one name, and the map finds each
pub record AreNamed {T : Type 0} (entries : List (List ℕ × T)) (places : BTreeMap (List ℕ) ℕ) : Type 0 where
  pub apart : all_apart same_text (keys_of entries) ≡ true
  pub finds : FindsPlaces entries places
