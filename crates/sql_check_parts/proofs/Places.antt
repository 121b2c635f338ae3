-- Looking a column up in mapped sources, and its place in the row of FROM.
use Rattle.std.proofs.Common.{◌≡◌, ◌∙◌, ◌+◌, suc, Bool, true, false, cond, length, map, get_or, List, [], ◌∷◌, ◌++◌, Some, None, Option, refl, ap, sym, append_assoc, arith}
use Rattle.std.specs.Option.{option_map}
use Rattle.std.specs.Prelude.{option_and_then}
use Rattle.std.proofs.lemmas.List.{length-map}
use Rattle.std.proofs.lemmas.Map.Made.{lookup-map_values}
use Rattle.sql_tree.specs.declared.parts.Column.{Column}
use Rattle.vtl_text.specs.Texts.{same_text}
use Rattle.sql_tree.specs.Trees.{Text}
use Rattle.sql_check_parts.specs.Scopes.{Named, Sources, each_value, found, numbered, placed, placed_from, row_of, value_among}

-- what is found of mapped values is the mapped value that is found
pub found_mapped : {V W : Type 0} (f : V → W) (sources : Sources V) (c : Column) → found (each_value (each_value f) sources) c ≡ option_map f (found sources c)
found_mapped {V = V} f sources c = ap (option_and_then (λ named. value_among named c.name)) (lookup-map_values (each_value f) (same_text c.source) sources) ∙ go (value_among sources c.source)
  where
    go : (o : Option (Named V)) → option_and_then (λ named. value_among named c.name) (option_map (each_value f) o) ≡ option_map f (option_and_then (λ named. value_among named c.name) o)
    go None = refl
    go (Some named) = lookup-map_values f (same_text c.name) named

-- ---- places

-- the values of a source in their order
abbrev values : {V : Type 0} → Named V → List V
values named = map (λ e. e.1) named

get_behind : {V : Type 0} (d : V) (before : List V) (v : V) (rest : List V) → get_or (before ++ v ∷ rest) (length before) d ≡ v
get_behind d [] v rest = refl
get_behind d (b ∷ before) v rest = get_behind d before v rest

longer : {V : Type 0} (before : List V) (v : V) → length (before ++ v ∷ []) ≡ suc (length before)
longer [] v = refl
longer (b ∷ before) v = ap suc (longer before v)

-- the value of a name is that at its number, in a row that has these values behind others
value_numbered : {V : Type 0} (d : V) (before : List V) (named : Named V) (rest : List V) (name : Text) → value_among named name ≡ option_map (λ i. get_or (before ++ (values named ++ rest)) i d) (value_among (numbered (length before) named) name)
value_numbered d before [] rest name = refl
value_numbered {V = V} d before (e ∷ es) rest name =
    go (same_text name e.0)
    (value_numbered d (before ++ e.1 ∷ []) es rest name
    ∙ ap (λ r. option_map (λ i. get_or r i d) (value_among (numbered (length (before ++ e.1 ∷ [])) es) name)) (append_assoc before (e.1 ∷ []) (values es ++ rest))
    ∙ ap (λ n. option_map (λ i. get_or (before ++ e.1 ∷ (values es ++ rest)) i d) (value_among (numbered n es) name)) (longer before e.1))
  where
    row : List V
    row = before ++ e.1 ∷ (values es ++ rest)

    go : (b : Bool) → value_among es name ≡ option_map (λ i. get_or row i d) (value_among (numbered (suc (length before)) es) name)
        → cond b (Some e.1) (value_among es name) ≡ option_map (λ i. get_or row i d) (cond b (Some (length before)) (value_among (numbered (suc (length before)) es) name))
    go true moved = ap Some (sym (get_behind d before e.1 (values es ++ rest)))
    go false moved = moved

longer_by : {V : Type 0} (xs ys : List V) → length (xs ++ ys) ≡ length xs + length ys
longer_by [] ys = omega arith
longer_by (x ∷ xs) ys = ap suc (longer_by xs ys) ∙ omega arith

found_from : {V : Type 0} (d : V) (before : List V) (sources : Sources V) (c : Column) → found sources c ≡ option_map (λ i. get_or (before ++ row_of sources) i d) (found (placed_from (length before) sources) c)
found_from d before [] c = refl
found_from {V = V} d before (s ∷ ss) c =
    go (same_text c.source s.0)
    (found_from d (before ++ values s.1) ss c
    ∙ ap (λ r. option_map (λ i. get_or r i d) (found (placed_from (length (before ++ values s.1)) ss) c)) (append_assoc before (values s.1) (row_of ss))
    ∙ ap (λ n. option_map (λ i. get_or (before ++ (values s.1 ++ row_of ss)) i d) (found (placed_from n ss) c)) (longer_by before (values s.1) ∙ ap (λ n. length before + n) (length-map s.1 (λ e. e.1))))
  where
    row : List V
    row = before ++ (values s.1 ++ row_of ss)

    go : (b : Bool) → found ss c ≡ option_map (λ i. get_or row i d) (found (placed_from (length before + length s.1) ss) c)
        → option_and_then (λ named. value_among named c.name) (cond b (Some s.1) (value_among ss c.source))
        ≡ option_map (λ i. get_or row i d) (option_and_then (λ named. value_among named c.name) (cond b (Some (numbered (length before) s.1)) (value_among (placed_from (length before + length s.1) ss) c.source)))
    go true moved = value_numbered d before s.1 (row_of ss) c.name
    go false moved = moved

-- the value of a column is that at its place in the row of FROM
pub found_placed : {V : Type 0} (d : V) (sources : Sources V) (c : Column) → found sources c ≡ option_map (λ i. get_or (row_of sources) i d) (found (placed sources) c)
found_placed d sources c = found_from d [] sources c
