-- Lines of a CSV text, and the fields of a record.
use Rattle.std.specs.Prelude.{◌≡◌, ◌==◌, ◌||◌, Bool, true, false, ⊤, ℕ, List, [], ◌∷◌, map}
use Rattle.std.specs.Borrow.{Bor}
use Rattle.csv.specs.Records.{Row, fields_of}
use Rattle.vtl_lists.specs.Aliases.{Bytes, Field}

-- whether a byte ends a line
abbrev pub ends_line : ℕ → Bool
ends_line b = (b == 13) || (b == 10)

-- a text that has no end of a line at its start
abbrev pub StartsNoBlank : Bytes → Type 0
StartsNoBlank [] = ⊤
StartsNoBlank (b ∷ bs) = ends_line b ≡ false

-- a text that has a line, which is not blank, at its start
abbrev pub StartsLine : Bytes → Type 0
StartsLine [] = ⊥
StartsLine (b ∷ bs) = ends_line b ≡ false

-- what slices of a text hold
abbrev pub slices_shown : List (Bor Bytes) → List Field
slices_shown slices = map (λ s. s.now) slices

-- the fields of a record, which stand in the text as they are or, for the sake of quote marks, apart from it
abbrev pub fields_shown : Bool → List (Bor Bytes) → Row → List Field
fields_shown true plain quoted = fields_of quoted
fields_shown false plain quoted = slices_shown plain
