-- Components that two operands share.
use Rattle.std.proofs.Common.{◌≡◌, Bool, true, false, cond, List, [], ◌∷◌, map, None, refl, ap, ◌∙◌}
use Rattle.std.specs.List.{AllByRecursion, filter, list_all}
use Rattle.vtl_lists.proofs.Alls.{all_from_test}
use Rattle.vtl_tree.specs.Structure.{names_of, same_role}
use Rattle.vtl_tree.specs.declared.structure.Component.{Component}
use Rattle.vtl_tree.specs.declared.structure.Role.{Role}
use Rattle.vtl_tree.specs.declared.structure.Role.TheVariants as role
use Rattle.vtl_tree.specs.declared.structure.Structure.{Structure}
use Rattle.vtl_tree.specs.Choices.{is_identifier}
use Rattle.vtl_tree.specs.Operands.{agreed, agreed_identifiers, is_coded_alike, is_there, is_within}
use Rattle.vtl_tree.specs.declared.operands.Compared.{Compared}
use Rattle.vtl_tree.proofs.Twins.{HasTwin, there-twin}
use Rattle.vtl_meaning.proofs.Lists as lists
use Rattle.vtl_meaning.proofs.SetsFolds.{agreed_role}
use Rattle.check_laws.proofs.Shapes.{identifier-roles}

pub within-twins : (c : Compared) (r : Role) (xs ys : List Component) → is_within c r xs ys ≡ true → AllByRecursion (HasTwin c ys) (filter (λ x. same_role x.role r) xs)
within-twins c r xs ys e = lists.weaker (λ x. is_there c ys x ≡ true) (HasTwin c ys) (filter (λ x. same_role x.role r) xs) (there-twin c ys) (all_from_test (is_there c ys) (filter (λ x. same_role x.role r) xs) e)

-- ---- identifiers that agree keep their names, roles and kinds
pub agreed-name : (others : List Structure) (x : Component) → (agreed others x).name ≡ x.name
agreed-name others x = go (list_all (λ s. is_coded_alike x s.components) others)
  where
    go : (b : Bool) → (cond b x (record x { codes = None })).name ≡ x.name
    go true = refl
    go false = refl

pub agreed-kind : (others : List Structure) (x : Component) → (agreed others x).kind ≡ x.kind
agreed-kind others x = go (list_all (λ s. is_coded_alike x s.components) others)
  where
    go : (b : Bool) → (cond b x (record x { codes = None })).kind ≡ x.kind
    go true = refl
    go false = refl

pub maps-same : {X Y : Type 0} (f : X → X) (g : X → Y) (xs : List X) → ((x : X) → g (f x) ≡ g x) → map g (map f xs) ≡ map g xs
maps-same f g [] e = refl
maps-same f g (x ∷ xs) e = ap (λ y. y ∷ map g (map f xs)) (e x) ∙ ap (λ l. g x ∷ l) (maps-same f g xs e)

pub agreed-names : (others : List Structure) (xs : List Component) → names_of (agreed_identifiers others xs) ≡ names_of (filter is_identifier xs)
agreed-names others xs = maps-same (agreed others) (λ x. x.name) (filter is_identifier xs) (agreed-name others)

pub agreed-kinds : (others : List Structure) (xs : List Component) → map (λ x. x.kind) (agreed_identifiers others xs) ≡ map (λ x. x.kind) (filter is_identifier xs)
agreed-kinds others xs = maps-same (agreed others) (λ x. x.kind) (filter is_identifier xs) (agreed-kind others)

pub agreed-roles : (others : List Structure) (xs : List Component) → AllByRecursion (λ x. x.role ≡ role.Identifier) (agreed_identifiers others xs)
agreed-roles others xs = lists.mapped (λ x. x.role ≡ role.Identifier) (agreed others) (filter is_identifier xs) (lists.weaker (λ x. x.role ≡ role.Identifier) (λ x. (agreed others x).role ≡ role.Identifier) (filter is_identifier xs) (λ x e. agreed_role others x ∙ e) (identifier-roles xs))
