-- Which structures contain which. What contains a structure contains all that this one contains, so the first of a list that contains
-- all is the one that is left where each gives way to the next that it does not contain.
use Rattle.std.proofs.Common.{◌≡◌, ℕ, ◌+◌, ◌<◌, Bool, true, false, ◌&&◌, cond, List, [], ◌∷◌, inl, inr, Some, length, get_or, refl, sym, ap, subst, ◌∙◌, arith}
use Rattle.std.specs.List.{filter, find, list_all, position_or_len}
use Rattle.std.specs.Option.{option_map_or}
use Rattle.std.proofs.lemmas.Bool.{and_parts, cases_lt, false≢true}
use Rattle.std.proofs.lemmas.List.Folds.{list_all_at}
use Rattle.std.proofs.lemmas.List.Sums.{fails_before_first, passes_at_first}
use Rattle.std.proofs.lemmas.Option.{none-some, same_Some}
use Rattle.std.proofs.lemmas.Slice.Eq.{bytes_eq-Decides}
use Rattle.vtl_lists.proofs.Filters.{found_passes}
use Rattle.vtl_cell.specs.Kinds.{same_kind}
use Rattle.vtl_tree.specs.Structure.{same_name, same_role}
use Rattle.vtl_tree.specs.declared.structure.Component.{Component}
use Rattle.vtl_tree.specs.declared.structure.Role.TheVariants as role
use Rattle.vtl_tree.specs.declared.structure.Structure.{Structure}
use Rattle.vtl_tree.specs.Choices.{is_identifier}
use Rattle.vtl_tree.specs.Names.{component_of}
use Rattle.vtl_tree.specs.Operands.{is_alike, is_there}
use Rattle.vtl_tree.specs.Pairs.{contains}
use Rattle.vtl_tree.specs.declared.operands.Compared.TheVariants as compared
use Rattle.vtl_tree.proofs.Twins.{there-twin}

-- ---- tests of all items, of those that are kept, and of one that a search finds
module _ {X : Type 0} (p q : X → Bool) where
  pub all_pass_more : ((x : X) → p x ≡ true → q x ≡ true) → (xs : List X) → list_all p xs ≡ true → list_all q xs ≡ true
  all_pass_more f [] h = refl
  all_pass_more f (x ∷ xs) h = let parts = and_parts (p x) (list_all p xs) h in ap (λ b. b && list_all q xs) (f x parts.0) ∙ all_pass_more f xs parts.1

  module _ (kept : X → Bool) where
    kept_pass_more : ((x : X) → kept x ≡ true → p x ≡ true → q x ≡ true) → (xs : List X) → list_all p (filter kept xs) ≡ true → list_all q (filter kept xs) ≡ true
    kept_pass_more f [] h = refl
    kept_pass_more f (x ∷ xs) h = go (kept x) refl h (kept_pass_more f xs)
      where
        go : (b : Bool) → kept x ≡ b → list_all p (cond b (x ∷ filter kept xs) (filter kept xs)) ≡ true → (list_all p (filter kept xs) ≡ true → list_all q (filter kept xs) ≡ true)
            → list_all q (cond b (x ∷ filter kept xs) (filter kept xs)) ≡ true
        go true i h ih = let parts = and_parts (p x) (list_all p (filter kept xs)) h in ap (λ b. b && list_all q (filter kept xs)) (f x i parts.0) ∙ ih parts.1
        go false i h ih = ih h

found_kept_passes : {X : Type 0} (p kept f : X → Bool) (xs : List X) (y : X) → list_all p (filter kept xs) ≡ true → find f xs ≡ Some y → kept y ≡ true → p y ≡ true
found_kept_passes p kept f [] y h e k = absurd (none-some y e)
found_kept_passes p kept f (x ∷ xs) y h e k = go (f x) (kept x) refl h e (found_kept_passes p kept f xs y)
  where
    go : (found b : Bool) → kept x ≡ b → list_all p (cond b (x ∷ filter kept xs) (filter kept xs)) ≡ true → cond found (Some x) (find f xs) ≡ Some y
        → (list_all p (filter kept xs) ≡ true → find f xs ≡ Some y → kept y ≡ true → p y ≡ true) → p y ≡ true
    go true true i h e ih = subst (λ z. p z ≡ true) (same_Some x y e) (and_parts (p x) (list_all p (filter kept xs)) h).0
    go true false i h e ih = absurd (false≢true (sym i ∙ ap kept (same_Some x y e) ∙ k))
    go false true i h e ih = ih (and_parts (p x) (list_all p (filter kept xs)) h).1 e k
    go false false i h e ih = ih h e k

-- ---- what contains a structure contains all that it contains
there_alike : (ys : List Component) (x y : Component) → x.name ≡ y.name → x.role ≡ y.role → x.kind ≡ y.kind → is_there compared.Kinds ys y ≡ is_there compared.Kinds ys x
there_alike ys x y n r k =
    ap (λ o. option_map_or (is_alike compared.Kinds y) o false) (ap (λ z. component_of z ys) (sym n))
    ∙ ap (λ z. option_map_or (λ w. same_role z w.role && same_kind y.kind w.kind) (component_of x.name ys) false) (sym r)
    ∙ ap (λ z. option_map_or (λ w. same_role x.role w.role && same_kind z w.kind) (component_of x.name ys) false) (sym k)

pub contains_onward : (a b c : Structure) → contains a b ≡ true → contains b c ≡ true → contains a c ≡ true
contains_onward a b c ab bc = kept_pass_more (is_there compared.Kinds b.components) (is_there compared.Kinds a.components) is_identifier one c.components bc
  where
    one : (x : Component) → is_identifier x ≡ true → is_there compared.Kinds b.components x ≡ true → is_there compared.Kinds a.components x ≡ true
    one x i e =
        let t = there-twin compared.Kinds b.components x e in
        let named = (bytes_eq-Decides t.twin.name x.name).0 (found_passes (λ z. same_name z.name x.name) b.components t.twin t.found) in
        sym (there_alike a.components x t.twin (sym named) t.role t.kind)
        ∙ found_kept_passes (is_there compared.Kinds a.components) is_identifier (λ z. same_name z.name x.name) b.components t.twin ab t.found (ap (λ r. same_role r role.Identifier) (sym t.role) ∙ i)

-- ---- the first that contains all, by a test that leads onward
module _ {X : Type 0} (test : X → X → Bool) (onward : (a b c : X) → test a b ≡ true → test b c ≡ true → test a c ≡ true) (xs : List X) where
  abbrev all : X → Bool
  all a = list_all (test a) xs

  abbrev place : ℕ
  place = position_or_len all xs

  -- the one that is left, and the next one
  module _ (left i : ℕ) (a b : X) (before : left < i) (within : i < length xs) (is : a ≡ get_or xs left a) (next : b ≡ get_or xs i b) (sofar : place < i → left ≡ place) where
    -- gives way to it
    pub gives_way : test a b ≡ false → place < i + 1 → i ≡ place
    gives_way e h = elim (cases_lt place i) [
      | inl early ↦
          let same : get_or xs place a ≡ a = ap (λ n. get_or xs n a) (sym (sofar early)) ∙ sym is in
          let passes : all a ≡ true = ap all (sym same) ∙ passes_at_first all xs a (omega (arith, early, within)) in
          absurd (false≢true (sym (list_all_at (test a) xs i b within (ap (test a) (sym next) ∙ e)) ∙ passes))
      | inr late ↦ omega (arith, late, h)
    ]

    -- or stays
    pub stays : test a b ≡ true → place < i + 1 → left ≡ place
    stays e h = elim (cases_lt place i) [
      | inl early ↦ sofar early
      | inr late ↦
          let here : i ≡ place = omega (arith, late, h) in
          let first : all b ≡ true = ap all (next ∙ ap (λ n. get_or xs n b) here) ∙ passes_at_first all xs b (omega (arith, here, within)) in
          let fails : all a ≡ false = ap all is ∙ fails_before_first all xs left a (omega (arith, before, here)) in
          absurd (false≢true (sym fails ∙ all_pass_more (test b) (test a) (λ x. onward a b x e) xs first))
    ]
