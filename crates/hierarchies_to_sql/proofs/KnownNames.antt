-- Names that are known, and the items that the operand gives.
use Rattle.std.proofs.Common.{◌≡◌, ◌<◌, ◌≤◌, ◌+◌, ℕ, Bool, true, false, cond, not, ◌||◌, List, [], ◌∷◌, ◌++◌, get_or, length, map, refl, sym, ap, take, ◌∙◌, append-nil}
use Rattle.std.specs.List.{filter, flat_map, list_any}
use Rattle.std.specs.Map.{keys_of}
use Rattle.std.proofs.lemmas.List.{map-append, take_more}
use Rattle.std.proofs.lemmas.List.Elements.{filter-append}
use Rattle.vtl_text.specs.Texts.{same_text}
use Rattle.vtl_syntax.specs.declared.statements.HierRule.{HierRule}
use Rattle.vtl_syntax.specs.declared.word_groups.HierInput.{HierInput}
use Rattle.vtl_syntax.specs.declared.word_groups.HierInput.TheVariants as input
use Rattle.vtl_tree.specs.Names.{is_among}
use Rattle.vtl_tree.specs.RuleItems.{left_item}
use Rattle.vtl_tree.specs.Structure.{same_name}
use Rattle.vtl_meaning.proofs.Places.{same_name-is, same_name-sym}
use Rattle.vtl_rulings.specs.Hierarchies.{defines}
use Rattle.sql_tree.specs.Trees.{Text}
use Rattle.hierarchies_to_sql.specs.ComputedTables.{is_defined, is_given}

-- ---- names

any_append : (f : Text → Bool) (xs ys : List Text) → list_any f (xs ++ ys) ≡ (list_any f xs || list_any f ys)
any_append f [] ys = refl
any_append f (x ∷ xs) ys = go (f x) (any_append f xs ys)
  where
    go : (b : Bool) → list_any f (xs ++ ys) ≡ (list_any f xs || list_any f ys) → b || list_any f (xs ++ ys) ≡ ((b || list_any f xs) || list_any f ys)
    go true ih = refl
    go false ih = ih

abbrev pub knows : List (Text × Unit {0}) → Text → Bool
knows named q = list_any (same_text q) (keys_of named)

among_more : (q x : Text) (xs : List Text) → is_among q (xs ++ x ∷ []) ≡ (is_among q xs || (same_name x q || false))
among_more q x xs = any_append (λ other. same_name other q) xs (x ∷ [])

-- a name that is known says nothing new
absorbed : (q x : Text) (xs : List Text) → is_among x xs ≡ true → (is_among q xs || (same_name x q || false)) ≡ is_among q xs
absorbed q x xs t = go (same_name x q) refl (is_among q xs) refl
  where
    go : (b : Bool) → same_name x q ≡ b → (d : Bool) → is_among q xs ≡ d → (d || (b || false)) ≡ d
    go b e true f = refl
    go false e false f = refl
    go true e false f = let no : true ≡ false = sym t ∙ ap (λ z. is_among z xs) (same_name-is x q e) ∙ f in cc

known_more : (q x : Text) (keys : List Text) → list_any (same_text q) (keys ++ x ∷ []) ≡ (list_any (same_text q) keys || (same_name x q || false))
known_more q x keys = any_append (same_text q) keys (x ∷ []) ∙ ap (λ b. list_any (same_text q) keys || (b || false)) (same_name-sym q x)

module _ (xs : List Text) (i : ℕ) (x : Text) (within : i < length xs) (at : x ≡ get_or xs i x) (keys : List Text) (so : (q : Text) → list_any (same_text q) keys ≡ is_among q (take i xs)) where
  one : take (i + 1) xs ≡ take i xs ++ x ∷ []
  one = take_more xs i x within ∙ ap (λ (z : Text). take i xs ++ z ∷ []) (sym at)

  -- a further name
  pub names_new : (q : Text) → list_any (same_text q) (keys ++ x ∷ []) ≡ is_among q (take (i + 1) xs)
  names_new q = known_more q x keys ∙ ap (λ b. b || (same_name x q || false)) (so q) ∙ sym (among_more q x (take i xs)) ∙ ap (is_among q) (sym one)

  -- one that came
  pub names_old : list_any (same_text x) keys ≡ true → (q : Text) → list_any (same_text q) keys ≡ is_among q (take (i + 1) xs)
  names_old t q = so q ∙ sym (absorbed q x (take i xs) (sym (so x) ∙ t)) ∙ sym (among_more q x (take i xs)) ∙ ap (is_among q) (sym one)

-- ---- items

pub all_given : (rules : List HierRule) (items : List Text) → filter (is_given input.Dataset rules) items ≡ items
all_given rules [] = refl
all_given rules (item ∷ items) = ap (λ l. item ∷ l) (all_given rules items)

pub each_given : (rules : List HierRule) (items : List Text) → filter (is_given input.RulePriority rules) items ≡ items
each_given rules [] = refl
each_given rules (item ∷ items) = ap (λ l. item ∷ l) (each_given rules items)

pub defined_among : (rules : List HierRule) (q : Text) → is_among q (map left_item rules) ≡ is_defined rules q
defined_among [] q = refl
defined_among (r ∷ rules) q = ap (λ b. same_name (left_item r) q || b) (defined_among rules q)

module _ (rules : List HierRule) where
  more_given : (items : List Text) (item : Text) → filter (is_given input.Rule rules) (items ++ item ∷ []) ≡ filter (is_given input.Rule rules) items ++ cond (not (is_defined rules item)) (item ∷ []) []
  more_given items item = filter-append (is_given input.Rule rules) items (item ∷ [])

  module _ (items left : List Text) (i : ℕ) (item : Text) (within : i < length items) (at : item ≡ get_or items i item) (so : left ≡ filter (is_given input.Rule rules) (take i items)) where
    one_item : take (i + 1) items ≡ take i items ++ item ∷ []
    one_item = take_more items i item within ∙ ap (λ (z : Text). take i items ++ z ∷ []) (sym at)

    behind : (b : Bool) → is_defined rules item ≡ b → filter (is_given input.Rule rules) (take (i + 1) items) ≡ left ++ cond (not b) (item ∷ []) []
    behind b e = ap (filter (is_given input.Rule rules)) one_item ∙ more_given (take i items) item ∙ ap (λ d. filter (is_given input.Rule rules) (take i items) ++ cond (not d) (item ∷ []) []) e ∙ ap (λ l. l ++ cond (not b) (item ∷ []) []) (sym so)

    pub given_more : is_defined rules item ≡ false → left ++ item ∷ [] ≡ filter (is_given input.Rule rules) (take (i + 1) items)
    given_more e = sym (behind false e)

    pub given_less : is_defined rules item ≡ true → left ≡ filter (is_given input.Rule rules) (take (i + 1) items)
    given_less e = sym (append-nil left) ∙ sym (behind true e)

-- names of what rules compute
pub known_defined : (rules : List HierRule) (lefts keys : List Text) → ((q : Text) → list_any (same_text q) keys ≡ is_among q lefts) → lefts ≡ map left_item rules → (q : Text) → list_any (same_text q) keys ≡ is_defined rules q
known_defined rules lefts keys so same q = so q ∙ ap (is_among q) same ∙ defined_among rules q
