-- The identifiers of what clauses and joins give, with their codes.
use Rattle.std.specs.List.{AllByRecursion, filter}
use Rattle.std.proofs.Common.{◌≡◌, ℕ, suc, ◌≤◌, Bool, true, false, not, cond, List, [], ◌∷◌, ◌++◌, length, map, Some, None, refl, sym, ap, ◌∙◌, arith, true≢false}
use Rattle.std.proofs.lemmas.List.Elements.{filter-append}
use Rattle.vtl_lists.proofs.Alls.{all_append, all_filtered, all_more}
use Rattle.vtl_lists.proofs.Sorts.{AllByRecursion-map}
use Rattle.vtl_lists.proofs.Filters.{filter_no_more, filter_swap}
use Rattle.vtl_decimal.specs.Settings.{Settings}
use Rattle.vtl_syntax.specs.declared.word_groups.JoinKind.{JoinKind}
use Rattle.vtl_syntax.specs.declared.word_groups.JoinKind.TheVariants as join
use Rattle.vtl_tree.specs.Choices.{chosen, is_chosen, is_identifier}
use Rattle.vtl_tree.specs.ClauseShapes.{calculated, is_new, renamed, retargeted, target_component}
use Rattle.vtl_tree.specs.ClauseShapes as clauses
use Rattle.vtl_tree.specs.Columns.{identifiers_of}
use Rattle.vtl_tree.specs.CompExp.{CompExp}
use Rattle.vtl_tree.specs.Joins.{all_own, held_names, is_cross, is_part, joined, joined_identifiers, own, reference, structures_of}
use Rattle.vtl_tree.specs.Operands.{agreed_identifiers}
use Rattle.vtl_tree.specs.Structure.{same_name}
use Rattle.vtl_tree.specs.Trees.{ItemTree}
use Rattle.vtl_tree.specs.declared.choices.Choice.{Choice}
use Rattle.vtl_tree.specs.declared.choices.Choice.TheVariants as choice
use Rattle.vtl_tree.specs.declared.clauses.SubItem.{SubItem}
use Rattle.vtl_tree.specs.declared.joins.Operand.{Operand}
use Rattle.vtl_tree.specs.declared.names.Wanted.{Wanted}
use Rattle.vtl_tree.specs.declared.renaming.Renaming.{Renaming}
use Rattle.vtl_tree.specs.declared.structure.Component.{Component}
use Rattle.vtl_tree.specs.declared.structure.Structure.{Structure}
use Rattle.vtl_tree.specs.declared.targets.Target.{Target}
use Rattle.vtl_tuples.proofs.Lists.{filter-map}
use Rattle.vtl_meaning.specs.Made.{IsCalculated, IsFiltered, IsLeft, IsSub}
use Rattle.vtl_meaning.specs.Operators.{target_named}
use Rattle.vtl_meaning.specs.Shapes.{IsChosen, IsJoinedFrom, IsRenamedBy, target_of}
use Rattle.vtl_meaning.proofs.Places.{length-names}
use Rattle.vtl_meaning_laws.proofs.KeptCodes.{AreIdentifiers, AreOthers, agreed_ones, front}

-- ---- items that pass
-- where as many pass as there are, all do
all_pass : {X : Type 0} (p : X → Bool) (xs : List X) → length (filter p xs) ≡ length xs → filter p xs ≡ xs
all_pass p [] e = refl
all_pass p (x ∷ xs) e = go (p x) e (filter_no_more p xs) (all_pass p xs)
  where
    go : (b : Bool) → length (cond b (x ∷ filter p xs) (filter p xs)) ≡ suc (length xs) → length (filter p xs) ≤ length xs → (length (filter p xs) ≡ length xs → filter p xs ≡ xs) → cond b (x ∷ filter p xs) (filter p xs) ≡ x ∷ xs
    go true k h ih = ap (λ l. x ∷ l) (ih (omega (arith, k)))
    go false k h ih = let none : ⊥ = omega (arith, k, h) in absurd none

-- ---- clauses
pub filtered_identifiers : (p : Settings) (e : CompExp) (a s : Structure) → IsFiltered p e a s → identifiers_of s ≡ identifiers_of a
filtered_identifiers p e a s i = ap identifiers_of i.same

-- some of the components, with as many identifiers
pub left_identifiers : (w : Wanted) (c : Choice) (names : List (List ℕ)) (a s : Structure) → IsLeft a s → IsChosen w c names a s → identifiers_of s ≡ identifiers_of a
left_identifiers w c names a s i h =
    let some : identifiers_of s ≡ filter (is_chosen c names) (identifiers_of a) = ap (filter is_identifier) h.shape ∙ filter_swap is_identifier (is_chosen c names) a.components in
    some ∙ all_pass (is_chosen c names) (identifiers_of a) (sym (ap length some) ∙ length-names (identifiers_of s) (identifiers_of a) i.identifiers.0)

pub renamed_identifiers : (pairs : List Renaming) (a s : Structure) → IsRenamedBy pairs a s → identifiers_of s ≡ map (renamed pairs) (identifiers_of a)
renamed_identifiers pairs a s i = ap (filter is_identifier) i ∙ filter-map is_identifier (renamed pairs) a.components

pub sub_identifiers : (items : List SubItem) (a s : Structure) → IsSub items a s → identifiers_of s ≡ chosen choice.Drop (map (λ i. i.id) items) (identifiers_of a)
sub_identifiers items a s i = ap (filter is_identifier) i.shape ∙ filter_swap is_identifier (is_chosen choice.Drop (map (λ i. i.id) items)) a.components

-- ---- `calc`
no_target : (xs : List Component) (items : List ItemTree) (name : List ℕ) → target_named items name ≡ None → clauses.target_of name (map (target_of xs) items) ≡ None
no_target xs [] name e = refl
no_target xs (i ∷ items) name e = go (same_name i.target name) e (no_target xs items name)
  where
    go : (b : Bool) → cond b (Some i) (target_named items name) ≡ None → (target_named items name ≡ None → clauses.target_of name (map (target_of xs) items) ≡ None) → cond b (Some (target_of xs i)) (clauses.target_of name (map (target_of xs) items)) ≡ None
    go true k ih = cc
    go false k ih = ih k

module _ (f : Component → Component) (more : List Component) where
  abbrev IsFixed : Component → Type 0
  IsFixed x = f x ≡ x

  abbrev changed : List Component → List Component
  changed xs = filter is_identifier (map f xs) ++ more

  -- identifiers that stay are not fewer behind a change
  no_fewer : (xs : List Component) → AllByRecursion IsFixed (filter is_identifier xs) → length (filter is_identifier xs) ≤ length (changed xs)
  no_fewer [] h = omega arith
  no_fewer (x ∷ xs) h = go (is_identifier x) refl (is_identifier (f x)) refl h (no_fewer xs)
    where
      go : (b : Bool) → is_identifier x ≡ b → (c : Bool) → is_identifier (f x) ≡ c → AllByRecursion IsFixed (cond b (x ∷ filter is_identifier xs) (filter is_identifier xs)) → (AllByRecursion IsFixed (filter is_identifier xs) → length (filter is_identifier xs) ≤ length (changed xs)) → length (cond b (x ∷ filter is_identifier xs) (filter is_identifier xs)) ≤ length (cond c (f x ∷ filter is_identifier (map f xs)) (filter is_identifier (map f xs)) ++ more)
      go true e true d k ih = let low = ih k.1 in omega (arith, low)
      go true e false d k ih = absurd (true≢false (sym e ∙ sym (ap is_identifier k.0) ∙ d))
      go false e true d k ih = let low = ih k in omega (arith, low)
      go false e false d k ih = ih k

  -- and where they are as many, they are the same
  same_ones : (xs : List Component) → AllByRecursion IsFixed (filter is_identifier xs) → length (changed xs) ≡ length (filter is_identifier xs) → changed xs ≡ filter is_identifier xs
  same_ones [] h n = none more n
    where
      none : (ys : List Component) → length ys ≡ 0 → ys ≡ []
      none [] e = refl
      none (y ∷ ys) e = let no : ⊥ = omega (arith, e) in absurd no
  same_ones (x ∷ xs) h n = go (is_identifier x) refl (is_identifier (f x)) refl h n (no_fewer xs) (same_ones xs)
    where
      go : (b : Bool) → is_identifier x ≡ b → (c : Bool) → is_identifier (f x) ≡ c → AllByRecursion IsFixed (cond b (x ∷ filter is_identifier xs) (filter is_identifier xs)) → length (cond c (f x ∷ filter is_identifier (map f xs)) (filter is_identifier (map f xs)) ++ more) ≡ length (cond b (x ∷ filter is_identifier xs) (filter is_identifier xs)) → (AllByRecursion IsFixed (filter is_identifier xs) → length (filter is_identifier xs) ≤ length (changed xs)) → (AllByRecursion IsFixed (filter is_identifier xs) → length (changed xs) ≡ length (filter is_identifier xs) → changed xs ≡ filter is_identifier xs) → cond c (f x ∷ filter is_identifier (map f xs)) (filter is_identifier (map f xs)) ++ more ≡ cond b (x ∷ filter is_identifier xs) (filter is_identifier xs)
      go true e true d k n low ih = ap (λ y. y ∷ changed xs) k.0 ∙ ap (λ l. x ∷ l) (ih k.1 (omega (arith, n)))
      go true e false d k n low ih = absurd (true≢false (sym e ∙ sym (ap is_identifier k.0) ∙ d))
      go false e true d k n low ih = let fewer = low k in let none : ⊥ = omega (arith, n, fewer) in absurd none
      go false e false d k n low ih = ih k n

pub calculated_identifiers : (p : Settings) (items : List ItemTree) (a s : Structure) → IsCalculated p items a s → identifiers_of s ≡ identifiers_of a
calculated_identifiers p items a s i = parts ∙ same_ones (calculated ts) new a.components fixed (sym (ap length parts) ∙ length-names (identifiers_of s) (identifiers_of a) i.identifiers.0)
  where
    ts : List Target
    ts = map (target_of a.components) items

    new : List Component
    new = filter is_identifier (map target_component (filter (is_new a.components) ts))

    parts : identifiers_of s ≡ filter is_identifier (map (calculated ts) a.components) ++ new
    parts = ap (filter is_identifier) i.shape ∙ filter-append is_identifier (map (calculated ts) a.components) (map target_component (filter (is_new a.components) ts))

    fixed : AllByRecursion (λ x. calculated ts x ≡ x) (identifiers_of a)
    fixed = all_more (λ x. target_named items x.name ≡ None) (λ x. calculated ts x ≡ x) (λ x e. ap (retargeted x) (no_target a.components items x.name e)) (identifiers_of a) i.free

-- ---- joins
module _ (held : List (List ℕ)) where
  own_ones : (os : List Operand) → AreIdentifiers (all_own held true os)
  own_ones [] = tt
  own_ones (o ∷ os) = all_append (λ x. is_identifier x ≡ true) (own held true o.alias o.structure.components) (all_own held true os) (AllByRecursion-map (joined held o.alias) (λ x. is_identifier x ≡ true) (filter (is_part true) o.structure.components) (all_filtered is_identifier o.structure.components)) (own_ones os)

  own_others : (os : List Operand) → AreOthers (all_own held false os)
  own_others [] = tt
  own_others (o ∷ os) =
      all_append (λ x. is_identifier x ≡ false) (own held false o.alias o.structure.components) (all_own held false os)
      (AllByRecursion-map (joined held o.alias) (λ x. is_identifier x ≡ false) (filter (is_part false) o.structure.components) (all_more (λ x. not (is_identifier x) ≡ true) (λ x. is_identifier x ≡ false) (λ x e. other (is_identifier x) e) (filter (is_part false) o.structure.components) (all_filtered (is_part false) o.structure.components)))
      (own_others os)
    where
      other : (b : Bool) → not b ≡ true → b ≡ false
      other true e = sym e
      other false e = refl

pub joined_shared : (kind : JoinKind) (os : List Operand) (r : Operand) (s : Structure) → is_cross kind ≡ false → reference kind os ≡ Some r → IsJoinedFrom kind os s → identifiers_of s ≡ agreed_identifiers (structures_of os) r.structure.components
joined_shared kind os r s shares there i =
    let held = held_names kind os in
    front s (agreed_identifiers (structures_of os) r.structure.components) (all_own held false os) (i ∙ ap (λ l. l ++ all_own held false os) (ap (λ b. joined_identifiers b held os (reference kind os)) shares ∙ ap (joined_identifiers false held os) there)) (agreed_ones (structures_of os) r.structure.components) (own_others held os)

pub joined_crossed : (os : List Operand) (s : Structure) → IsJoinedFrom join.Cross os s → identifiers_of s ≡ all_own (held_names join.Cross os) true os
joined_crossed os s i = let held = held_names join.Cross os in front s (all_own held true os) (all_own held false os) i (own_ones held os) (own_others held os)
