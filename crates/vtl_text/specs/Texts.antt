-- What the operators on texts give. A text is the list of its characters, and a character is its code.
use Rattle.std.specs.Prelude.{ℕ, zero, suc, ◌-◌, Bool, List, [], ◌∷◌, ◌++◌, length, take, drop, reverse, Option, None, Some, nat_eq, ◌==◌, if◌then◌else◌}
use Rattle.std.specs.Cmp.Lexicographic.{pointwise}
use Rattle.std.specs.List.{starts_with}
use Rattle.std.specs.Option.{option_map, option_map_or}

-- whether two texts have the same characters
abbrev pub same_text : List ℕ → List ℕ → Bool
same_text = pointwise nat_eq

-- the text without the spaces at its start
abbrev pub ltrim_of : List ℕ → List ℕ
ltrim_of [] = []
ltrim_of (c ∷ cs) = if c == 32 then ltrim_of cs else c ∷ cs

-- the text without the spaces at its end
unfoldable pub rtrim_of : List ℕ → List ℕ
rtrim_of cs = reverse (ltrim_of (reverse cs))

-- the text without the spaces at both ends
unfoldable pub trim_of : List ℕ → List ℕ
trim_of cs = ltrim_of (rtrim_of cs)

-- the characters from the start-th on, counted from 1, and at most as many as the length says
unfoldable pub substr_of : List ℕ → ℕ → Option ℕ → List ℕ
substr_of cs start None = drop (start - 1) cs
substr_of cs start (Some n) = take n (drop (start - 1) cs)

-- whether the pattern stands at the head of the text
abbrev pub begins : List ℕ → List ℕ → Bool
begins pattern cs = starts_with nat_eq cs pattern

-- how many characters stand before the first occurrence of the pattern, where there is one
abbrev pub first_occurrence : List ℕ → List ℕ → Option ℕ
first_occurrence pattern [] = if begins pattern [] then Some 0 else None
first_occurrence pattern (c ∷ cs) = if begins pattern (c ∷ cs) then Some 0 else option_map suc (first_occurrence pattern cs)

-- the place of the first occurrence of the pattern, counted from 1, or 0 where there is none
unfoldable pub instr_of : List ℕ → List ℕ → ℕ
instr_of cs pattern = option_map_or suc (first_occurrence pattern cs) 0

-- after as many characters of the last occurrence as are still to pass: the text with `by` for each occurrence of the pattern
abbrev pub replaced_from : List ℕ → List ℕ → ℕ → List ℕ → List ℕ
replaced_from pattern by skip [] = []
replaced_from pattern by zero (c ∷ cs) =
    if begins pattern (c ∷ cs) then by ++ replaced_from pattern by (length pattern - 1) cs
    else c ∷ replaced_from pattern by 0 cs
replaced_from pattern by (suc skip) (c ∷ cs) = replaced_from pattern by skip cs

-- the text with `by` for each occurrence of the pattern, from the left and without overlap; the text itself for an empty pattern
unfoldable pub replace_of : List ℕ → List ℕ → List ℕ → List ℕ
replace_of cs [] by = cs
replace_of cs (p ∷ ps) by = replaced_from (p ∷ ps) by 0 cs
