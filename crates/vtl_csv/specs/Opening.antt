-- How a structures file begins: its version, and the profile that version 2 declares.
use Rattle.std.specs.Prelude.{ℕ, ◌-◌, Bool, false, ◌&&◌, List, [], ◌∷◌, nat_le, Option, Some, None, option_map, Result, Ok, Err, codes, if◌then◌else◌}
use Rattle.std.specs.Option.{option_and_then, option_map_or}
use Rattle.vtl_lists.specs.Aliases.{Field, Record}
use Rattle.vtl_decimal.specs.Settings.{Settings}
use Rattle.vtl_decimal.specs.declared.settings.Rounding.{Rounding}
use Rattle.vtl_decimal.specs.declared.settings.Rounding.TheVariants as r
use Rattle.vtl_tree.specs.Structure.{same_name}
use Rattle.vtl_csv.specs.declared.version.Opening.{Opening}
use Rattle.vtl_csv.specs.declared.version.Version.{Version}
use Rattle.vtl_csv.specs.declared.version.Version.TheVariants as v
use Rattle.vtl_csv.specs.Declarations.{declaration_of, is_heading}

-- a line and a rule
abbrev pub Fault : Type 0
Fault = ℕ × ℕ

abbrev pub is_digit : ℕ → Bool
is_digit b = nat_le 48 b && nat_le b 57

-- a scale is one digit
abbrev pub scale_in : Field → Option ℕ
scale_in (b ∷ []) = if is_digit b then Some (b - 48) else None
scale_in _ = None

abbrev pub rounding_in : Field → Option Rounding
rounding_in f =
    if same_name f (codes "half_up") then Some r.HalfUp
    else (if same_name f (codes "half_even") then Some r.HalfEven
    else (if same_name f (codes "down") then Some r.Down else None))

abbrev pub settings_in : Field → Field → Option Settings
settings_in scale rounding = option_and_then (λ s. option_map (λ m. record { scale = s; rounding = m }) (rounding_in rounding)) (scale_in scale)

-- the profile that the first record of version 2 declares, where a record is one
abbrev pub profile_in : Record → Option Settings
profile_in (a ∷ b ∷ scale ∷ rounding ∷ e ∷ f ∷ []) = if same_name a (codes "structures") && same_name b (codes "2") && same_name e [] && same_name f [] then settings_in scale rounding else None
profile_in _ = None

-- whether a record names the fields of its version
abbrev pub is_header : Version → Record → Bool
is_header version fields = option_map_or is_heading (declaration_of version fields) false

-- how many records stand before those that declare components
abbrev pub headers_of : Version → ℕ
headers_of v.First = 1
headers_of v.Second = 2

-- the line of the first record that declares a component
abbrev pub first_line : Version → ℕ
first_line v.First = 2
first_line v.Second = 3

-- version 2 of this profile, whose first record stands before these
abbrev pub second_of : Settings → List Record → Result Opening Fault
second_of p [] = Err (2, 1)
second_of p (header ∷ rest) = if is_header v.Second header then Ok (record { version = v.Second; profile = Some p }) else Err (2, 1)

-- how a file with these records begins, or what is wrong with its first ones
abbrev pub opening_of : List Record → Result Opening Fault
opening_of [] = Err (1, 1)
opening_of (first ∷ rest) = if is_header v.First first then Ok (record { version = v.First; profile = None }) else option_map_or (λ p. second_of p rest) (profile_in first) (Err (1, 1))
