-- Words, reserved words and names. A text is the list of its characters, and a character is its code.
use Rattle.std.specs.Prelude.{ℕ, ◌-◌, Bool, false, not, ◌&&◌, ◌||◌, ◌==◌, nat_le, nat_eq, List, [], ◌∷◌, ◌++◌, length, codes, encode_utf8_all, slice_get, take, drop, Option}
use Rattle.std.specs.Char.{is_ascii_alphabetic, is_ascii_alphanumeric, is_control}
use Rattle.std.specs.Cmp.Lexicographic.{pointwise}
use Rattle.std.specs.List.{list_all, list_any, position}
use Rattle.std.specs.Option.{option_map_or}

-- at most 64 bytes in UTF-8
abbrev pub fits_name : List ℕ → Bool
fits_name cs = nat_le (length (encode_utf8_all cs)) 64

-- a letter A-Z or a-z stands first
abbrev pub starts_with_letter : List ℕ → Bool
starts_with_letter cs = option_map_or is_ascii_alphabetic (slice_get cs 0) false

-- a letter, a digit, `_` or `.`
abbrev pub is_word_character : ℕ → Bool
is_word_character c = is_ascii_alphanumeric c || (c == 95 || c == 46)

-- a letter, then letters, digits, `_` and `.`; at most 64 bytes
unfoldable pub is_word : List ℕ → Bool
is_word cs = fits_name cs && (starts_with_letter cs && list_all is_word_character cs)

-- the words that the grammar gives a meaning, with letters as written here
unfoldable pub reserved_words : List (List ℕ)
reserved_words =
    codes "abs" ∷ codes "aggr" ∷ codes "all" ∷ codes "all_measures" ∷ codes "always_null" ∷
    codes "always_zero" ∷ codes "and" ∷ codes "as" ∷ codes "asc" ∷ codes "attribute" ∷ codes "avg" ∷
    codes "between" ∷ codes "by" ∷ codes "calc" ∷ codes "cast" ∷ codes "ceil" ∷ codes "check" ∷
    codes "check_datapoint" ∷ codes "check_hierarchy" ∷ codes "computed" ∷ codes "count" ∷
    codes "cross_join" ∷ codes "current" ∷ codes "data" ∷ codes "datapoint" ∷ codes "dataset" ∷
    codes "date" ∷ codes "define" ∷ codes "desc" ∷ codes "drop" ∷ codes "else" ∷ codes "end" ∷
    codes "errorcode" ∷ codes "errorlevel" ∷ codes "except" ∷ codes "exists_in" ∷ codes "false" ∷
    codes "fill_time_series" ∷ codes "filter" ∷ codes "first_value" ∷ codes "floor" ∷ codes "flow_to_stock" ∷
    codes "following" ∷ codes "full_join" ∷ codes "group" ∷ codes "having" ∷ codes "hierarchical" ∷
    codes "hierarchy" ∷ codes "if" ∷ codes "imbalance" ∷ codes "in" ∷ codes "inner_join" ∷ codes "instr" ∷
    codes "intersect" ∷ codes "invalid" ∷ codes "is" ∷ codes "isnull" ∷ codes "keep" ∷ codes "lag" ∷
    codes "last_value" ∷ codes "lead" ∷ codes "left_join" ∷ codes "length" ∷ codes "ltrim" ∷ codes "max" ∷
    codes "measure" ∷ codes "median" ∷ codes "min" ∷ codes "mod" ∷ codes "non_null" ∷ codes "non_zero" ∷
    codes "not" ∷ codes "not_in" ∷ codes "null" ∷ codes "nvl" ∷ codes "or" ∷ codes "order" ∷ codes "over" ∷
    codes "partial_null" ∷ codes "partial_zero" ∷ codes "partition" ∷ codes "pivot" ∷ codes "point" ∷
    codes "points" ∷ codes "preceding" ∷ codes "rank" ∷ codes "ratio_to_report" ∷ codes "rename" ∷
    codes "replace" ∷ codes "round" ∷ codes "rtrim" ∷ codes "rule" ∷ codes "rule_priority" ∷
    codes "ruleset" ∷ codes "setdiff" ∷ codes "single" ∷ codes "stock_to_flow" ∷ codes "sub" ∷ codes "substr" ∷ codes "sum" ∷
    codes "symdiff" ∷ codes "then" ∷ codes "time_period" ∷ codes "timeshift" ∷ codes "to" ∷ codes "trim" ∷
    codes "true" ∷ codes "trunc" ∷ codes "unbounded" ∷ codes "union" ∷ codes "unpivot" ∷ codes "using" ∷
    codes "variable" ∷ codes "when" ∷ codes "xor" ∷ []

unfoldable pub is_reserved : List ℕ → Bool
is_reserved cs = list_any (λ w. pointwise nat_eq w cs) reserved_words

-- the place of a reserved word among them
unfoldable pub reserved_place : List ℕ → Option ℕ
reserved_place cs = position (λ w. pointwise nat_eq w cs) reserved_words

-- a word that is not reserved
unfoldable pub is_name : List ℕ → Bool
is_name cs = is_word cs && not (is_reserved cs)

-- any character but `'` and the control characters
abbrev pub is_component_character : ℕ → Bool
is_component_character c = not (c == 39) && not (is_control c)

-- 1 to 64 bytes without `'` and without control characters
unfoldable pub is_component_name : List ℕ → Bool
is_component_name cs = fits_name cs && (not (length cs == 0) && list_all is_component_character cs)

-- the name between two `'`
abbrev pub quoted : List ℕ → List ℕ
quoted name = 39 ∷ (name ++ 39 ∷ [])

-- what stands between the first character and the last
abbrev pub unquoted : List ℕ → List ℕ
unquoted cs = take (length cs - 2) (drop 1 cs)

-- a component name between two `'`
unfoldable pub is_quoted_name : List ℕ → Bool
is_quoted_name cs = pointwise nat_eq cs (quoted (unquoted cs)) && is_component_name (unquoted cs)
