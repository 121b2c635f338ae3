-- Conditions that cannot have a fault.
use Rattle.std.proofs.Common.{◌≡◌, ℕ, true, List, [], ◌∷◌, None}
use Rattle.std.specs.List.{AllByRecursion, list_all}
use Rattle.std.proofs.lemmas.Bool.{and_parts}
use Rattle.vtl_cell.specs.Outcome.{fault_in}
use Rattle.vtl_decimal.specs.Settings.{Settings}
use Rattle.vtl_rows.specs.Places.{row_at}
use Rattle.vtl_rows.specs.Tables.{Listed, cells_at}
use Rattle.sql_tree.specs.Trees.{Exp}
use Rattle.sql_meaning.specs.Early.{is_safe}
use Rattle.sql_meaning.specs.Profiles.{AreOfProfile, IsLawful, IsRowOfProfile}
use Rattle.sql_meaning.proofs.Lists.{under}
use Rattle.sql_meaning.proofs.Profiled.{append_is, cell_is}
use Rattle.sql_meaning.proofs.SafeValues.{no_fault}
use Rattle.sql_from.specs.Held.{IsHeld, base_held}
use Rattle.sql_from.specs.Rows.{combined, part, places_of}
use Rattle.sql_from.specs.Sources.{Sourced, parts_of, scope_held}
use Rattle.sql_from.specs.Standing.{condition_at}
use Rattle.sql_from.proofs.Found.{ranged, ranged_row}

-- ---- rows of the profile

part_ranged : (p : Settings) (t : Listed) → AreOfProfile p t.rows → (i : ℕ) → IsRowOfProfile p (part t i)
part_ranged p t all i = go (places_of t)
  where
    go : (places : List ℕ) → IsRowOfProfile p (cells_at places (row_at t.rows i))
    go [] = tt
    go (k ∷ places) = (cell_is p k (row_at t.rows i) (ranged_row p t.rows all i), go places)

combined_ranged : (p : Settings) (ts : List Listed) → AllByRecursion (λ t. AreOfProfile p t.rows) ts → (x : List ℕ) → IsRowOfProfile p (combined ts x)
combined_ranged p [] all x = tt
combined_ranged p (t ∷ ts) all [] = tt
combined_ranged p (t ∷ ts) all (i ∷ is) = append_is p (part t i) (combined ts is) (part_ranged p t all.0 i) (combined_ranged p ts all.1 is)

module _ (p : Settings) (s : Sourced) (lawful : IsLawful (base_held p s.held)) (among : AllByRecursion (IsHeld s.held) (parts_of s.sources)) where
  sound_at : (e : Exp) → is_safe e ≡ true → (x : List ℕ) → fault_in (condition_at p s e x) ≡ None
  sound_at e safe x = no_fault (base_held p s.held) lawful.scale (scope_held s.sources) (combined (parts_of s.sources) x) (combined_ranged p (parts_of s.sources) (under (λ t h. ranged p s.held lawful t h) (parts_of s.sources) among) x) e safe

  pub all_sound : (es : List Exp) → list_all is_safe es ≡ true → (x : List ℕ) → AllByRecursion (λ e. fault_in (condition_at p s e x) ≡ None) es
  all_sound [] safe x = tt
  all_sound (e ∷ es) safe x = let both = and_parts (is_safe e) (list_all is_safe es) safe in (sound_at e both.0 x, all_sound es both.1 x)
