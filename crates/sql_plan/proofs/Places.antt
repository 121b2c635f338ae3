-- Names and the first places where they stand.
use Rattle.std.proofs.Common.{◌≡◌, ◌<◌, ℕ, zero, suc, ◌+◌, Bool, true, false, cond, ◌||◌, List, [], ◌∷◌, ◌++◌, map, take, get_or, length, Option, Some, None, refl, sym, ap, ◌∙◌, subst, true≢false, arith}
use Rattle.std.specs.Prelude.{nat_le, option_map}
use Rattle.std.specs.Map.{keys_of}
use Rattle.std.specs.Option.{is_some, option_or}
use Rattle.std.specs.Cmp.Lexicographic as texts
use Rattle.std.proofs.lemmas.Bool.Decides.{nat_tests}
use Rattle.std.proofs.lemmas.List.{length-map, length-take, map-append, take_more}
use Rattle.std.proofs.lemmas.Map.Made.{is_some-lookup}
use Rattle.vtl_text.specs.Texts.{same_text}
use Rattle.sql_tree.specs.Trees.{Text}
use Rattle.sql_tree.specs.declared.statements.Join.{Join}
use Rattle.sql_tree.specs.View.{join_tree}
use Rattle.sql_check_parts.specs.Scopes.{Named, is_among, value_among}
use Rattle.sql_meaning.specs.Early.{join_alias}
use Rattle.sql_plan.specs.Reach.{ArePlaces, place_among, with_place}

-- a number is there, and it is at most n
abbrev pub within : ℕ → Option ℕ → Bool
within n None = false
within n (Some p) = nat_le p n

within-zero : (o : Option ℕ) → within 0 (option_map suc o) ≡ false
within-zero None = refl
within-zero (Some p) = grind (arith, nat_tests)

within-suc : (n : ℕ) (o : Option ℕ) → within (suc n) (option_map suc o) ≡ within n o
within-suc n None = refl
within-suc n (Some p) = grind (arith, nat_tests)

-- a name stands among the first ones where its first place is one of theirs
pub among_first : (name : Text) (n : ℕ) (xs : List Text) → is_among name (take (suc n) xs) ≡ within n (place_among xs name)
among_first name n [] = refl
among_first name zero (x ∷ xs) = go (same_text name x)
  where
    go : (b : Bool) → (b || false) ≡ within 0 (cond b (Some 0) (option_map suc (place_among xs name)))
    go true = refl
    go false = sym (within-zero (place_among xs name))
among_first name (suc n) (x ∷ xs) = go (same_text name x) (among_first name n xs)
  where
    go : (b : Bool) → is_among name (take (suc n) xs) ≡ within n (place_among xs name) → (b || is_among name (take (suc n) xs)) ≡ within (suc n) (cond b (Some 0) (option_map suc (place_among xs name)))
    go true ih = grind (arith, nat_tests)
    go false ih = ih ∙ sym (within-suc n (place_among xs name))

-- one name more
place_last : (xs : List Text) (name q : Text) → place_among (xs ++ name ∷ []) q ≡ option_or (place_among xs q) (cond (same_text q name) (Some (length xs)) None)
place_last [] name q = refl
place_last (x ∷ xs) name q = go (same_text q x) (place_last xs name q)
  where
    moved : (o : Option ℕ) (b : Bool) → option_map suc (option_or o (cond b (Some (length xs)) None)) ≡ option_or (option_map suc o) (cond b (Some (suc (length xs))) None)
    moved None true = refl
    moved None false = refl
    moved (Some p) b = refl

    go : (b : Bool) → place_among (xs ++ name ∷ []) q ≡ option_or (place_among xs q) (cond (same_text q name) (Some (length xs)) None)
        → cond b (Some 0) (option_map suc (place_among (xs ++ name ∷ []) q)) ≡ option_or (cond b (Some 0) (option_map suc (place_among xs q))) (cond (same_text q name) (Some (suc (length xs))) None)
    go true ih = refl
    go false ih = ap (option_map suc) ih ∙ moved (place_among xs q) (same_text q name)

looked_last : (es : Named ℕ) (name : Text) (n : ℕ) (q : Text) → value_among (es ++ (name, n) ∷ []) q ≡ option_or (value_among es q) (cond (same_text q name) (Some n) None)
looked_last [] name n q = refl
looked_last (e ∷ es) name n q = go (same_text q e.0) (looked_last es name n q)
  where
    go : (b : Bool) → value_among (es ++ (name, n) ∷ []) q ≡ option_or (value_among es q) (cond (same_text q name) (Some n) None)
        → cond b (Some e.1) (value_among (es ++ (name, n) ∷ []) q) ≡ option_or (cond b (Some e.1) (value_among es q)) (cond (same_text q name) (Some n) None)
    go true ih = refl
    go false ih = ih

-- what is among the names has a value already
known : (places : Named ℕ) (name q : Text) (n : ℕ) → is_among name (keys_of places) ≡ true → value_among places q ≡ option_or (value_among places q) (cond (same_text q name) (Some n) None)
known places name q n there = go (value_among places q) refl (same_text q name) refl
  where
    some : is_some (value_among places name) ≡ true
    some = is_some-lookup (same_text name) places ∙ there

    go : (o : Option ℕ) → value_among places q ≡ o → (b : Bool) → same_text q name ≡ b → o ≡ option_or o (cond b (Some n) None)
    go (Some p) e b same = refl
    go None e false same = refl
    go None e true same = absurd (true≢false (sym some ∙ ap (λ x. is_some (value_among places x)) (sym (texts.same_text q name (sym same))) ∙ ap is_some e))

pub placed_next : (names : List Text) (places : Named ℕ) (name : Text) (n : ℕ) (then : Named ℕ) → ArePlaces names places → n ≡ length names → then ≡ with_place places name n → ArePlaces (names ++ name ∷ []) then
placed_next names places name n then before at is q =
    ap (λ l. value_among l q) is ∙ put (is_among name (keys_of places)) refl
    ∙ ap (λ o. option_or o (cond (same_text q name) (Some n) None)) (before q) ∙ ap (λ m. option_or (place_among names q) (cond (same_text q name) (Some m) None)) at ∙ sym (place_last names name q)
  where
    put : (b : Bool) → is_among name (keys_of places) ≡ b → value_among (cond b places (places ++ (name, n) ∷ [])) q ≡ option_or (value_among places q) (cond (same_text q name) (Some n) None)
    put true e = known places name q n e
    put false e = looked_last places name n q

-- the first source and some joins
abbrev sources_to : Text → List Join → ℕ → List Text
sources_to first joins i = first ∷ map join_alias (map join_tree (take i joins))

-- one join more
pub joined_next : (first : Text) (joins : List Join) (i : ℕ) (x : Join) (alias : Text) (places then : Named ℕ) → i < length joins → x ≡ get_or joins i x → alias ≡ join_alias (join_tree x)
    → ArePlaces (first ∷ map join_alias (map join_tree (take i joins))) places → then ≡ with_place places alias (i + 1) → ArePlaces (first ∷ map join_alias (map join_tree (take (i + 1) joins))) then
joined_next first joins i x alias places then h at named before is =
    let taken : take (i + 1) joins ≡ take i joins ++ x ∷ [] = take_more joins i x h ∙ ap (λ (y : Join). take i joins ++ y ∷ []) (sym at) in
    let trees : map join_tree (take (i + 1) joins) ≡ map join_tree (take i joins) ++ join_tree x ∷ [] = ap (map join_tree) taken ∙ map-append join_tree (take i joins) (x ∷ []) in
    let aliases : map join_alias (map join_tree (take (i + 1) joins)) ≡ map join_alias (map join_tree (take i joins)) ++ join_alias (join_tree x) ∷ [] =
    ap (map join_alias) trees ∙ map-append join_alias (map join_tree (take i joins)) (join_tree x ∷ []) in
    let more : sources_to first joins (i + 1) ≡ sources_to first joins i ++ alias ∷ [] =
    ap (λ (l : List Text). first ∷ l) (aliases ∙ ap (λ (a : Text). map join_alias (map join_tree (take i joins)) ++ a ∷ []) (sym named)) in
    let long : length (map join_alias (map join_tree (take i joins))) ≡ length (take i joins) = length-map (map join_tree (take i joins)) join_alias ∙ length-map (take i joins) join_tree in
    let count : length (take i joins) ≡ i = grind (arith, length-take {A = Join}) in
    let last : i + 1 ≡ length (sources_to first joins i) = omega arith in
    subst (λ (l : List Text). ArePlaces l then) (sym more) (placed_next (sources_to first joins i) places alias (i + 1) then before last is)
