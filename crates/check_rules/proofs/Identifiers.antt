-- The identifiers of rules, one behind the other.
use Rattle.std.proofs.Common.{◌≡◌, ℕ, ◌+◌, ◌<◌, List, [], ◌∷◌, ◌++◌, map, length, drop, get_or, Option, refl, sym, ap, ◌∙◌, append_assoc}
use Rattle.std.proofs.lemmas.List.{drop_more, length_push}
use Rattle.vtl_syntax.specs.View.{point_rule_tree}
use Rattle.vtl_syntax.specs.declared.statements.PointRule.{PointRule}
use Rattle.check_rules.specs.Definitions.{identifiers, identifiers_from, point_rule_name}
use Rattle.vtl_tree.specs.Checks.{rule_id}

module _ {X : Type 0} (name : X → Option (List ℕ)) (xs : List X) where
  pub one_more : (i : ℕ) (x : X) (before now : List (List ℕ)) → i < length xs → x ≡ get_or xs i x → now ≡ before ++ rule_id (length before + 1) (name x) ∷ []
      → before ++ identifiers_from (length before + 1) (map name (drop i xs)) ≡ identifiers (map name xs)
      → now ++ identifiers_from (length now + 1) (map name (drop (i + 1) xs)) ≡ identifiers (map name xs)
  one_more i x before now within is e h =
      let id : List ℕ = rule_id (length before + 1) (name x) in
      ap (λ l. l ++ identifiers_from (length l + 1) (map name (drop (i + 1) xs))) e
      ∙ ap (λ n. (before ++ id ∷ []) ++ identifiers_from (n + 1) (map name (drop (i + 1) xs))) (length_push before id)
      ∙ append_assoc before (id ∷ []) (identifiers_from (length before + 1 + 1) (map name (drop (i + 1) xs)))
      ∙ sym (ap (λ l. before ++ identifiers_from (length before + 1) (map name l)) (drop_more xs i x within ∙ ap (λ y. y ∷ drop (i + 1) xs) (sym is)))
      ∙ h

-- the names of rules, as their trees have them
pub point_names : (rules : List PointRule) → map point_rule_name (map point_rule_tree rules) ≡ map (λ r. r.name) rules
point_names [] = refl
point_names (r ∷ rs) = ap (λ l. r.name ∷ l) (point_names rs)
