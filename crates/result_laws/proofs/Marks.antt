-- The names of joined operands, and how a join gives back the names of its operands at its end.
use Rattle.std.proofs.Common.{◌≡◌, ℕ, ◌⊎◌, inl, inr, Bool, true, false, cond, ◌||◌, not, List, [], ◌∷◌, ◌++◌, map, Option, Some, None, is_some, refl, sym, ap, ◌∙◌, subst}
use Rattle.std.proofs.lemmas.Bool.{and_from, false≢true}
use Rattle.std.proofs.lemmas.List.Folds.{list_any-append}
use Rattle.std.specs.List.{AllByRecursion, filter, list_any}
use Rattle.std.specs.Prelude.{find, slice_get}
use Rattle.vtl_lists.proofs.Tests.{or_true}
use Rattle.vtl_lists.proofs.Sorts.{AllByRecursion-filter}
use Rattle.vtl_lists.proofs.Alls.{all_append, all_kept}
use Rattle.vtl_text.specs.Words.{is_name}
use Rattle.vtl_syntax.specs.declared.word_groups.JoinKind.{JoinKind}
use Rattle.vtl_syntax.specs.declared.word_groups.JoinKind.TheVariants as join
use Rattle.vtl_tree.specs.Structure.{same_name}
use Rattle.vtl_tree.specs.declared.structure.Component.{Component}
use Rattle.vtl_meaning.proofs.Places.{same_name-is}
use Rattle.vtl_tree.specs.Joins.{all_own, contains_all, held_names, is_cross, is_held, is_marked, is_part, is_shared, joined, joined_components, joined_identifiers, joined_name, last_renamings, marked, own, own_renamings, reference, structures_of}
use Rattle.vtl_tree.specs.Joins as joins
use Rattle.vtl_tree.specs.declared.joins.Operand.{Operand}
use Rattle.vtl_tree.specs.Choices.{is_identifier}
use Rattle.vtl_tree.specs.ClauseShapes.{new_name, renamed}
use Rattle.vtl_tree.specs.Names.{component_of}
use Rattle.vtl_tree.specs.declared.renaming.Renaming.{Renaming}
use Rattle.vtl_tree.proofs.NotNullLemmas.{same_itself}
use Rattle.check_clauses.specs.JoinOperands.{is_left}
use Rattle.vtl_meaning.proofs.Lists as lists
use Rattle.result_laws.proofs.Components.{ArePlain, IsFrom, IsMarked, IsGivenName, IsPlain, agreed_named, all_weaker, column_name, plain}
use Rattle.result_laws.proofs.Words.{AreRenamings, IsColumnName, name_word, word_column}

-- ---- what a join gives back
-- operands outside of joins, with names as aliases
abbrev pub IsOperandPlain : Operand → Type 0
IsOperandPlain o = ArePlain [] o.structure.components × (is_name o.alias ≡ true)

module _ (kind : JoinKind) (held : List (List ℕ)) where
  abbrev IsGivenBack : List ℕ → List Renaming → Component → Type 0
  IsGivenBack alias rs x = is_marked kind held x ≡ true → IsFrom rs (joined_name held alias x.name)

  -- each name that is behind an alias
  own_from : (alias : List ℕ) (xs : List Component) → AllByRecursion (IsGivenBack alias (own_renamings kind held alias xs)) xs
  own_from alias [] = tt
  own_from alias (x ∷ xs) = (first (is_marked kind held x), lists.weaker (IsGivenBack alias rs) (IsGivenBack alias (own_renamings kind held alias (x ∷ xs))) xs (λ z h m. later (is_marked kind held x) (joined_name held alias z.name) (h m)) (own_from alias xs))
    where
      rs : List Renaming
      rs = own_renamings kind held alias xs

      first : (b : Bool) → b ≡ true → IsFrom (map (joins.plain held alias) (cond b (x ∷ filter (is_marked kind held) xs) (filter (is_marked kind held) xs))) (joined_name held alias x.name)
      first true m = ap (λ b. b || list_any (λ r. same_name r.from (joined_name held alias x.name)) rs) (same_itself (joined_name held alias x.name))
      first false m = absurd (false≢true m)

      later : (b : Bool) (name : List ℕ) → IsFrom rs name → IsFrom (map (joins.plain held alias) (cond b (x ∷ filter (is_marked kind held) xs) (filter (is_marked kind held) xs))) name
      later true name h = ap (λ b. same_name (joined_name held alias x.name) name || b) h ∙ or_true (same_name (joined_name held alias x.name) name)
      later false name h = h

  abbrev OperandGivenBack : List Renaming → Operand → Type 0
  OperandGivenBack rs o = AllByRecursion (IsGivenBack o.alias rs) o.structure.components

  all_from : (os : List Operand) → AllByRecursion (OperandGivenBack (last_renamings kind held os)) os
  all_from [] = tt
  all_from (o ∷ os) =
      let mine = own_renamings kind held o.alias o.structure.components in
      let others = last_renamings kind held os in (
        lists.weaker (IsGivenBack o.alias mine) (IsGivenBack o.alias (mine ++ others)) o.structure.components
            (λ x h m. list_any-append (λ r. same_name r.from (joined_name held o.alias x.name)) mine others ∙ ap (λ b. b || list_any (λ r. same_name r.from (joined_name held o.alias x.name)) others) (h m)) (own_from o.alias o.structure.components),
        lists.weaker (OperandGivenBack others) (OperandGivenBack (mine ++ others)) os
            (λ q h. lists.weaker (IsGivenBack q.alias others) (IsGivenBack q.alias (mine ++ others)) q.structure.components
            (λ x g m. list_any-append (λ r. same_name r.from (joined_name held q.alias x.name)) mine others ∙ ap (λ b. list_any (λ r. same_name r.from (joined_name held q.alias x.name)) mine || b) (g m) ∙ or_true (list_any (λ r. same_name r.from (joined_name held q.alias x.name)) mine)) h) (all_from os),
      )

  -- what is given back are names of components
  own_back : (alias : List ℕ) (xs : List Component) → ArePlain [] xs → AreRenamings (own_renamings kind held alias xs)
  own_back alias xs h = lists.mapped (λ r. IsColumnName r.to) (joins.plain held alias) (filter (is_marked kind held) xs) (lists.weaker (IsPlain []) (λ x. IsColumnName x.name) (filter (is_marked kind held) xs) column_name (AllByRecursion-filter (IsPlain []) (is_marked kind held) xs h))

  pub given_back_named : (os : List Operand) → AllByRecursion IsOperandPlain os → AreRenamings (last_renamings kind held os)
  given_back_named [] h = tt
  given_back_named (o ∷ os) h = all_append (λ r. IsColumnName r.to) (own_renamings kind held o.alias o.structure.components) (last_renamings kind held os) (own_back o.alias o.structure.components h.0.0) (given_back_named os h.1)

  -- ---- the components of the joined set
  joined_plain : (rs : List Renaming) (alias : List ℕ) (x : Component) → is_name alias ≡ true → is_held kind x ≡ true → IsPlain [] x → IsGivenBack alias rs x → IsPlain rs (joined held alias x)
  unfolding joined_name
  joined_plain rs alias x named there h back = go (is_shared held x.name) refl
    where
      go : (b : Bool) → is_shared held x.name ≡ b → IsPlain rs (record x { name = joined_name held alias x.name })
      go true e =
          let same : joined_name held alias x.name ≡ marked alias x.name = ap (λ b. cond b (marked alias x.name) x.name) e in
          let behind : IsMarked (joined_name held alias x.name) = record { alias = alias; own = x.name; alias_named = word_column alias (name_word alias named); own_named = column_name x h; is = same } in
          (inr (behind, back (and_from (is_held kind x) (is_shared held x.name) there e)), h.1)
      go false e =
          let same : joined_name held alias x.name ≡ x.name = ap (λ b. cond b (marked alias x.name) x.name) e in
          (inl (subst IsColumnName (sym same) (column_name x h)), h.1)

  -- the identifiers, or the other components, of all operands
  own_plain : (rs : List Renaming) (part : Bool) (alias : List ℕ) (xs : List Component) → is_name alias ≡ true → ((x : Component) → is_part part x ≡ true → is_held kind x ≡ true) → ArePlain [] xs → AllByRecursion (IsGivenBack alias rs) xs → ArePlain rs (own held part alias xs)
  own_plain rs part alias xs named there h back =
      lists.mapped (IsPlain rs) (joined held alias) (filter (is_part part) xs)
      (lists.weaker (λ x. (IsPlain [] x × IsGivenBack alias rs x) × (is_part part x ≡ true)) (λ x. IsPlain rs (joined held alias x)) (filter (is_part part) xs) (λ x k. joined_plain rs alias x named (there x k.1) k.0.0 k.0.1)
      (all_kept (λ x. IsPlain [] x × IsGivenBack alias rs x) (is_part part) xs (lists.joined (IsPlain []) (IsGivenBack alias rs) (λ x. IsPlain [] x × IsGivenBack alias rs x) xs (λ x a b. (a, b)) h back)))

  all_plain : (rs : List Renaming) (part : Bool) (os : List Operand) → ((x : Component) → is_part part x ≡ true → is_held kind x ≡ true) → AllByRecursion IsOperandPlain os → AllByRecursion (OperandGivenBack rs) os → ArePlain rs (all_own held part os)
  all_plain rs part [] there h back = tt
  all_plain rs part (o ∷ os) there h back = all_append (IsPlain rs) (own held part o.alias o.structure.components) (all_own held part os) (own_plain rs part o.alias o.structure.components h.0.1 there h.0.0 back.0) (all_plain rs part os there h.1 back.1)

-- the reference is one of the operands
found_plain : (q : Operand → Bool) (os : List Operand) (o : Operand) → AllByRecursion IsOperandPlain os → find q os ≡ Some o → IsOperandPlain o
found_plain q [] o h e = cc
found_plain q (x ∷ xs) o h e = go (q x) e (found_plain q xs o h.1)
  where
    go : (b : Bool) → cond b (Some x) (find q xs) ≡ Some o → (find q xs ≡ Some o → IsOperandPlain o) → IsOperandPlain o
    go true k ih = let same : x ≡ o = cc in subst IsOperandPlain same h.0
    go false k ih = ih k

first_plain : (os : List Operand) (o : Operand) → AllByRecursion IsOperandPlain os → slice_get os 0 ≡ Some o → IsOperandPlain o
first_plain [] o h e = cc
first_plain (x ∷ xs) o h e = let same : x ≡ o = cc in subst IsOperandPlain same h.0

reference_plain : (kind : JoinKind) (os : List Operand) (o : Operand) → AllByRecursion IsOperandPlain os → reference kind os ≡ Some o → IsOperandPlain o
reference_plain join.Inner os o h e = found_plain (contains_all os) os o h e
reference_plain join.Left os o h e = first_plain os o h e
reference_plain join.Full os o h e = first_plain os o h e
reference_plain join.Cross os o h e = first_plain os o h e

pub joined_named : (kind : JoinKind) (os : List Operand) → AllByRecursion IsOperandPlain os → ArePlain (last_renamings kind (held_names kind os) os) (joined_components kind (held_names kind os) os)
joined_named kind os h =
    all_append (IsPlain rs) (joined_identifiers (is_cross kind) held os (reference kind os)) (all_own held false os) (go (is_cross kind) refl (reference kind os) refl) (all_plain kind held rs false os (λ x e. ap (λ b. is_cross kind || b) e ∙ or_true (is_cross kind)) h (all_from kind held os))
  where
    held : List (List ℕ)
    held = held_names kind os

    rs : List Renaming
    rs = last_renamings kind held os

    go : (b : Bool) → is_cross kind ≡ b → (r : Option Operand) → reference kind os ≡ r → ArePlain rs (joined_identifiers b held os r)
    go true e r k = all_plain kind held rs true os (λ x i. ap (λ b. b || not (is_identifier x)) e) h (all_from kind held os)
    go false e None k = tt
    go false e (Some r) k = agreed_named rs (structures_of os) r.structure.components (all_weaker rs r.structure.components (reference_plain kind os r h k).0)

-- ---- the end of a body
find_left : (rs : List Renaming) (xs : List Component) (name : List ℕ) → is_some (component_of name xs) ≡ true → IsFrom rs name → IsFrom (filter (is_left xs) rs) name
find_left [] xs name there h = h
find_left (r ∷ rs) xs name there h = go (same_name r.from name) refl (is_left xs r) refl h (find_left rs xs name there)
  where
    kept : List Renaming
    kept = filter (is_left xs) rs

    go : (b : Bool) → same_name r.from name ≡ b → (q : Bool) → is_left xs r ≡ q → (b || list_any (λ r. same_name r.from name) rs) ≡ true → (IsFrom rs name → IsFrom kept name) → IsFrom (cond q (r ∷ kept) kept) name
    go true e true d k ih = ap (λ b. b || list_any (λ r. same_name r.from name) kept) e
    go true e false d k ih = absurd (false≢true (sym d ∙ ap (λ n. is_some (component_of n xs)) (same_name-is r.from name e) ∙ there))
    go false e true d k ih = ap (λ b. b || list_any (λ r. same_name r.from name) kept) e ∙ ih k
    go false e false d k ih = ih k

new_column : (pairs : List Renaming) (name : List ℕ) → AreRenamings pairs → IsColumnName name ⊎ IsFrom pairs name → IsColumnName (new_name pairs name)
new_column [] name named (inl h) = h
new_column [] name named (inr h) = absurd (false≢true h)
new_column (r ∷ pairs) name named h = go (same_name r.from name) refl h (new_column pairs name named.1)
  where
    go : (b : Bool) → same_name r.from name ≡ b → IsColumnName name ⊎ ((b || list_any (λ r. same_name r.from name) pairs) ≡ true) → (IsColumnName name ⊎ IsFrom pairs name → IsColumnName (new_name pairs name)) → IsColumnName (cond b r.to (new_name pairs name))
    go true e k ih = named.0
    go false e k ih = ih k

-- each component is found by its name
all_there : (xs : List Component) → AllByRecursion (λ x. is_some (component_of x.name xs) ≡ true) xs
all_there [] = tt
all_there (x ∷ xs) = (ap (λ b. is_some (cond b (Some x) (component_of x.name xs))) (same_itself x.name), lists.weaker (λ z. is_some (component_of z.name xs) ≡ true) (λ z. is_some (component_of z.name (x ∷ xs)) ≡ true) xs (λ z h. go (same_name x.name z.name) z h) (all_there xs))
  where
    go : (b : Bool) (z : Component) → is_some (component_of z.name xs) ≡ true → is_some (cond b (Some x) (component_of z.name xs)) ≡ true
    go true z h = refl
    go false z h = h

pub last_named : (rs : List Renaming) (xs : List Component) → ArePlain rs xs → AreRenamings rs → ArePlain [] (map (renamed (filter (is_left xs) rs)) xs)
last_named rs xs h back = lists.mapped (IsPlain []) (renamed pairs) xs (lists.joined (IsPlain rs) (λ x. is_some (component_of x.name xs) ≡ true) (λ x. IsPlain [] (renamed pairs x)) xs one h (all_there xs))
  where
    pairs : List Renaming
    pairs = filter (is_left xs) rs

    named : AreRenamings pairs
    named = AllByRecursion-filter (λ r. IsColumnName r.to) (is_left xs) rs back

    either : (x : Component) → is_some (component_of x.name xs) ≡ true → IsGivenName rs x.name → IsColumnName x.name ⊎ IsFrom pairs x.name
    either x there (inl k) = inl k
    either x there (inr k) = inr (find_left rs xs x.name there k.1)

    one : (x : Component) → IsPlain rs x → is_some (component_of x.name xs) ≡ true → IsPlain [] (renamed pairs x)
    one x k there = plain [] (renamed pairs x) (new_column pairs x.name named (either x there k.0)) k.1
