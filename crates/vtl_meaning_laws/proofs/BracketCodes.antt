-- However a union of three is bracketed, its identifiers have the same codes.
use Rattle.std.specs.Cmp.Lexicographic.{pointwise}
use Rattle.std.specs.List.{AllByRecursion, list_all}
use Rattle.std.specs.Option.{option_map_or}
use Rattle.std.proofs.Common.{◌≡◌, ℕ, Bool, true, false, not, cond, ◌&&◌, ◌||◌, List, [], ◌∷◌, ◌++◌, map, Option, Some, None, refl, sym, ap, ◌∙◌, subst, true≢false}
use Rattle.std.proofs.lemmas.Bool.{and_parts}
use Rattle.vtl_cell.specs.declared.kind.Kind.{Kind}
use Rattle.vtl_lists.proofs.Sorts.{AllByRecursion-filter}
use Rattle.vtl_lists.proofs.Alls.{all_filtered, all_more}
use Rattle.vtl_tree.specs.Choices.{is_identifier}
use Rattle.vtl_tree.specs.Columns.{identifiers_of, measures_of, place_of}
use Rattle.vtl_tree.specs.Names.{component_of}
use Rattle.vtl_tree.specs.Operands.{agreed, agreed_identifiers, is_coded_alike, same_codes}
use Rattle.vtl_tree.specs.Structure.{IsStructure, same_name}
use Rattle.vtl_tree.specs.declared.structure.Component.{Component}
use Rattle.vtl_tree.specs.declared.structure.Structure.{Structure}
use Rattle.vtl_tuples.proofs.Lists.{map-map, map_same}
use Rattle.vtl_meaning.specs.Made.{AreAmong, IsColumnAt, IsCombined}
use Rattle.vtl_meaning.proofs.Determined.{same_shape}
use Rattle.vtl_meaning.proofs.FoundColumns.{all-found, at-found, name-found}
use Rattle.vtl_meaning.proofs.Places.{all_of_map, place_later, same_name-is}
use Rattle.vtl_meaning_laws.proofs.Combined.{combined_identifiers, combined_measures}

-- ---- lists of codes
abbrev Codes : Type 0
Codes = Option (List (List ℕ))

names_are : (cs ds : List (List ℕ)) → pointwise same_name cs ds ≡ true → cs ≡ ds
names_are [] [] e = refl
names_are [] (d ∷ ds) e = absurd (true≢false (sym e))
names_are (c ∷ cs) [] e = absurd (true≢false (sym e))
names_are (c ∷ cs) (d ∷ ds) e =
    let parts = and_parts (same_name c d) (pointwise same_name cs ds) e in
    ap (λ x. x ∷ cs) (same_name-is c d parts.0) ∙ ap (λ l. d ∷ l) (names_are cs ds parts.1)

codes_are : (x y : Codes) → same_codes x y ≡ true → x ≡ y
codes_are None None e = refl
codes_are None (Some ds) e = absurd (true≢false (sym e))
codes_are (Some cs) None e = absurd (true≢false (sym e))
codes_are (Some cs) (Some ds) e = ap Some (names_are cs ds e)

-- a component keeps its codes where those that it is compared with are the same
abbrev beside : Component → Codes → Component
beside x y = cond (same_codes x.codes y) x (record x { codes = None })

none_is : (x : Component) → x.codes ≡ None → x ≡ record x { codes = None }
none_is x e = λ j. record x { codes = e j }

-- compared with one and then with another, or with what these two agree on
agreed_alike : (x y : Component) (z : Codes) → beside (beside x y.codes) z ≡ beside x (beside y z).codes
agreed_alike x y z = go (same_codes x.codes y.codes) refl (same_codes y.codes z) refl
  where
    bare : Component
    bare = record x { codes = None }

    -- nothing left, or the same
    either : (b : Bool) → cond b bare bare ≡ bare
    either true = refl
    either false = refl

    lost : (b : Bool) → same_codes x.codes None ≡ b → cond b x bare ≡ bare
    lost true e = none_is x (codes_are x.codes None e)
    lost false e = refl

    go : (p : Bool) → same_codes x.codes y.codes ≡ p → (q : Bool) → same_codes y.codes z ≡ q → beside (cond p x bare) z ≡ cond (same_codes x.codes (cond q y (record y { codes = None })).codes) x bare
    go true e true f =
        let same : same_codes x.codes z ≡ true = ap (λ c. same_codes c z) (codes_are x.codes y.codes e) ∙ f in
        ap (λ b. cond b x bare) same ∙ sym (ap (λ b. cond b x bare) e)
    go true e false f =
        let other : same_codes x.codes z ≡ false = ap (λ c. same_codes c z) (codes_are x.codes y.codes e) ∙ f in
        ap (λ b. cond b x bare) other ∙ sym (lost (same_codes x.codes None) refl)
    go false e true f = either (same_codes None z) ∙ sym (ap (λ b. cond b x bare) e)
    go false e false f = either (same_codes None z) ∙ sym (lost (same_codes x.codes None) refl)

-- ---- identifiers that are found
agreed_name : (bs : List Structure) (x : Component) → (agreed bs x).name ≡ x.name
agreed_name bs x = go (list_all (λ b. is_coded_alike x b.components) bs)
  where
    go : (b : Bool) → (cond b x (record x { codes = None })).name ≡ x.name
    go true = refl
    go false = refl

-- a name of a column is that of the first component of this name
placed : (name : List ℕ) (kind : Kind) (xs : List Component) → IsColumnAt (place_of name xs) name kind xs → (y : Component) × (component_of name xs ≡ Some y)
placed name kind [] i = absurd i
placed name kind (x ∷ xs) i = go (same_name x.name name) refl (placed name kind xs)
  where
    go : (b : Bool) → same_name x.name name ≡ b → (IsColumnAt (place_of name xs) name kind xs → (y : Component) × (component_of name xs ≡ Some y)) → (y : Component) × (cond b (Some x) (component_of name xs) ≡ Some y)
    go true e ih = (x, refl)
    go false e ih = ih (subst (λ n. IsColumnAt n name kind (x ∷ xs)) (place_later name x xs e) i)

-- an identifier of a structure is found there
pub record IsIdentifierOf (s : Structure) (name : List ℕ) : Type 0 where
  pub component : Component
  pub found : component_of name s.components ≡ Some component
  pub identifier : is_identifier component ≡ true
  pub first : component_of name (identifiers_of s) ≡ Some component

found_identifier : (s : Structure) (name : List ℕ) (kind : Kind) → IsStructure s → IsColumnAt (place_of name (identifiers_of s)) name kind (identifiers_of s) → IsIdentifierOf s name
found_identifier s name kind w i =
    let y = placed name kind (identifiers_of s) i in
    let own = at-found (λ x. component_of x.name s.components ≡ Some x) name (identifiers_of s) y.0 (AllByRecursion-filter (λ x. component_of x.name s.components ≡ Some x) is_identifier s.components (all-found s w)) y.1 in
    record {
      component = y.0;
      found = ap (λ n. component_of n s.components) (sym (name-found name (identifiers_of s) y.0 y.1)) ∙ own;
      identifier = at-found (λ x. is_identifier x ≡ true) name (identifiers_of s) y.0 (all_filtered is_identifier s.components) y.1;
      first = y.1;
    }

-- agreed with a structure that has such an identifier
agreed_with : (s : Structure) (x y : Component) → component_of x.name s.components ≡ Some y → is_identifier y ≡ true → agreed (s ∷ []) x ≡ beside x y.codes
agreed_with s x y e i =
    ap (λ o. cond (option_map_or (λ z. not (is_identifier z) || same_codes x.codes z.codes) o true && true) x (record x { codes = None })) e
    ∙ ap (λ b. cond ((not b || same_codes x.codes y.codes) && true) x (record x { codes = None })) i ∙ ap (λ b. cond b x (record x { codes = None })) (plain (same_codes x.codes y.codes))
  where
    plain : (b : Bool) → (b && true) ≡ b
    plain true = refl
    plain false = refl

-- the component of a name among those that are agreed
found_agreed : (bs : List Structure) (name : List ℕ) (xs ms : List Component) (y : Component) → component_of name xs ≡ Some y → component_of name (map (agreed bs) xs ++ ms) ≡ Some (agreed bs y)
found_agreed bs name [] ms y e = cc
found_agreed bs name (x ∷ xs) ms y e = ap (λ n. cond (same_name n name) (Some (agreed bs x)) (component_of name (map (agreed bs) xs ++ ms))) (agreed_name bs x) ∙ go (same_name x.name name) e (found_agreed bs name xs ms y)
  where
    go : (b : Bool) → cond b (Some x) (component_of name xs) ≡ Some y → (component_of name xs ≡ Some y → component_of name (map (agreed bs) xs ++ ms) ≡ Some (agreed bs y)) → cond b (Some (agreed bs x)) (component_of name (map (agreed bs) xs ++ ms)) ≡ Some (agreed bs y)
    go true f ih =
        let same : x ≡ y = cc in
        ap (λ z. Some (agreed bs z)) same
    go false f ih = ih f

agreed_identifier : (bs : List Structure) (x : Component) → is_identifier (agreed bs x) ≡ is_identifier x
agreed_identifier bs x = go (list_all (λ b. is_coded_alike x b.components) bs)
  where
    go : (b : Bool) → is_identifier (cond b x (record x { codes = None })) ≡ is_identifier x
    go true = refl
    go false = refl

module _ (a b c t u s r : Structure) (i : IsCombined a (b ∷ []) t) (j : IsCombined b (c ∷ []) u) (k : IsCombined t (c ∷ []) s) (l : IsCombined a (u ∷ []) r) (w : IsStructure b) (v : IsStructure c) where
  -- both other operands have each identifier of the first
  abbrev IsShared : Component → Type 0
  IsShared x = IsIdentifierOf b x.name × IsIdentifierOf c x.name

  shared : AllByRecursion IsShared (identifiers_of a)
  shared = both (identifiers_of a) in_second in_third
    where
      named : (d : Structure) (bs : List Structure) (x : Component) → IsStructure d → IsColumnAt (place_of (agreed bs x).name (identifiers_of d)) (agreed bs x).name (agreed bs x).kind (identifiers_of d) → IsIdentifierOf d x.name
      named d bs x z h = subst (IsIdentifierOf d) (agreed_name bs x) (found_identifier d (agreed bs x).name (agreed bs x).kind z h)

      in_second : AllByRecursion (λ x. IsIdentifierOf b x.name) (identifiers_of a)
      in_second =
          all_more (λ x. IsColumnAt (place_of (agreed (b ∷ []) x).name (identifiers_of b)) (agreed (b ∷ []) x).name (agreed (b ∷ []) x).kind (identifiers_of b)) (λ x. IsIdentifierOf b x.name) (λ x h. named b (b ∷ []) x w h) (identifiers_of a)
          (all_of_map (agreed (b ∷ [])) (λ y. IsColumnAt (place_of y.name (identifiers_of b)) y.name y.kind (identifiers_of b)) (identifiers_of a) (subst (λ ys. AreAmong ys (identifiers_of b)) (combined_identifiers a (b ∷ []) t i) i.operands.1.0.back))

      in_third_of_t : AllByRecursion (λ y. IsIdentifierOf c y.name) (identifiers_of t)
      in_third_of_t =
          all_more (λ x. IsColumnAt (place_of (agreed (c ∷ []) x).name (identifiers_of c)) (agreed (c ∷ []) x).name (agreed (c ∷ []) x).kind (identifiers_of c)) (λ x. IsIdentifierOf c x.name) (λ x h. named c (c ∷ []) x v h) (identifiers_of t)
          (all_of_map (agreed (c ∷ [])) (λ y. IsColumnAt (place_of y.name (identifiers_of c)) y.name y.kind (identifiers_of c)) (identifiers_of t) (subst (λ ys. AreAmong ys (identifiers_of c)) (combined_identifiers t (c ∷ []) s k) k.operands.1.0.back))

      in_third : AllByRecursion (λ x. IsIdentifierOf c x.name) (identifiers_of a)
      in_third =
          all_more (λ x. IsIdentifierOf c (agreed (b ∷ []) x).name) (λ x. IsIdentifierOf c x.name) (λ x h. subst (IsIdentifierOf c) (agreed_name (b ∷ []) x) h) (identifiers_of a)
          (all_of_map (agreed (b ∷ [])) (λ y. IsIdentifierOf c y.name) (identifiers_of a) (subst (AllByRecursion (λ y. IsIdentifierOf c y.name)) (combined_identifiers a (b ∷ []) t i) in_third_of_t))

      both : (xs : List Component) → AllByRecursion (λ x. IsIdentifierOf b x.name) xs → AllByRecursion (λ x. IsIdentifierOf c x.name) xs → AllByRecursion IsShared xs
      both [] g h = tt
      both (x ∷ xs) g h = ((g.0, h.0), both xs g.1 h.1)

  same_agreed : (x : Component) → IsShared x → agreed (c ∷ []) (agreed (b ∷ []) x) ≡ agreed (u ∷ []) x
  same_agreed x h =
      let y = h.0.component in
      let z = h.1.component in
      let in_u : component_of x.name u.components ≡ Some (agreed (c ∷ []) y) = ap (component_of x.name) j.shape ∙ found_agreed (c ∷ []) x.name (identifiers_of b) (measures_of b) y h.0.first in
      let second : agreed (c ∷ []) y ≡ beside y z.codes = agreed_with c y z (ap (λ n. component_of n c.components) (name-found x.name b.components y h.0.found) ∙ h.1.found) h.1.identifier in
      agreed_with c (agreed (b ∷ []) x) z (ap (λ n. component_of n c.components) (agreed_name (b ∷ []) x) ∙ h.1.found) h.1.identifier
      ∙ ap (λ q. beside q z.codes) (agreed_with b x y h.0.found h.0.identifier)
      ∙ agreed_alike x y z.codes
      ∙ sym (ap (λ q. beside x q.codes) second) ∙ sym (agreed_with u x (agreed (c ∷ []) y) in_u (agreed_identifier (c ∷ []) y ∙ h.0.identifier))

  pub same_structures : s ≡ r
  same_structures =
      same_shape s r (agreed_identifiers (u ∷ []) a.components ++ measures_of a)
      (k.shape
      ∙ ap (λ l. l ++ measures_of t)
      (ap (map (agreed (c ∷ []))) (combined_identifiers a (b ∷ []) t i) ∙ map-map (agreed (c ∷ [])) (agreed (b ∷ [])) (identifiers_of a)
      ∙ map_same (λ x. agreed (c ∷ []) (agreed (b ∷ []) x)) (agreed (u ∷ [])) (identifiers_of a) (all_more IsShared (λ x. agreed (c ∷ []) (agreed (b ∷ []) x) ≡ agreed (u ∷ []) x) same_agreed (identifiers_of a) shared))
      ∙ ap (λ ms. agreed_identifiers (u ∷ []) a.components ++ ms) (combined_measures a (b ∷ []) t i))
      l.shape
