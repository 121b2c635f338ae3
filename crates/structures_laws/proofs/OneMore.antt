-- The record of a component declares it, and its place on the list of its data set.
use Rattle.std.proofs.Common.{◌≡◌, ℕ, ◌<◌, Bool, true, false, cond, not, ◌&&◌, List, length, Option, Some, Result, Ok, Err, ap, ◌∙◌}
use Rattle.std.specs.List.{list_any}
use Rattle.std.specs.Prelude.{encode_utf8_all, ok_or}
use Rattle.std.proofs.lemmas.Bool.{and_parts, lt-leb, not-true}
use Rattle.vtl_lists.specs.Aliases.{Name, Text}
use Rattle.vtl_lists.specs.Results.{◌>>=◌}
use Rattle.vtl_text.specs.Words.{is_component_name}
use Rattle.vtl_cell.specs.declared.kind.Kind.{Kind}
use Rattle.vtl_tree.specs.declared.structure.Component.{Component}
use Rattle.vtl_tree.specs.declared.structure.Role.{Role}
use Rattle.vtl_tree.specs.Structure.{most_components, names_of, same_name}
use Rattle.vtl_tree.specs.Structures.{Named, codes_fit, components_of, is_declarable_component, is_null_kind}
use Rattle.vtl_csv.specs.declared.declarations.NewComponent.{NewComponent}
use Rattle.vtl_csv.specs.declared.version.Version.TheVariants as v
use Rattle.vtl_csv.specs.Declarations.{codes_of, component_in, dataset_in, has_component, is_full, kind_in, listed_by, record_of, role_in}
use Rattle.vtl_csv.specs.StructuresText.{codes_field, component_record, kind_word, nullable_word, role_word}
use Rattle.structures_laws.specs.Writable.{IsWritableComponent, is_listed}
use Rattle.structures_laws.proofs.Codes.{codes_again, kind_again, listed_again, role_again}

module _ (so_far : Named) (name : Name) (list : List Name) (x : Component) (named : dataset_in (encode_utf8_all name) ≡ Some name) (writable : IsWritableComponent x) (declarable : is_declarable_component x ≡ true)
    (new : list_any (same_name x.name) (names_of (components_of name so_far)) ≡ false) (few : length (components_of name so_far) < most_components) where
  abbrev made : Name → Name → Role → Kind → Option (List Text) → Bool → Result NewComponent ℕ
  made dataset n role kind texts listed = Ok (record { dataset = dataset; component = record { name = n; role = role; kind = kind; codes = texts }; is_listed = listed })

  abbrev by_texts : Name → Name → Role → Kind → Option (List Text) → Result NewComponent ℕ
  by_texts dataset n role kind texts = cond (is_full v.Second so_far dataset) (Err 9) (ok_or (listed_by role (Some (nullable_word list x))) 11 >>= made dataset n role kind texts)

  abbrev by_kind : Name → Name → Role → Kind → Result NewComponent ℕ
  by_kind dataset n role kind = cond (has_component so_far dataset n) (Err 7) (ok_or (codes_of role kind (codes_field x.codes)) 8 >>= by_texts dataset n role kind)

  abbrev by_role : Name → Name → Role → Result NewComponent ℕ
  by_role dataset n role = ok_or (kind_in (kind_word x.kind)) 6 >>= by_kind dataset n role

  abbrev by_name : Name → Name → Result NewComponent ℕ
  by_name dataset n = ok_or (role_in (role_word x.role)) 5 >>= by_role dataset n

  abbrev by_dataset : Name → Result NewComponent ℕ
  by_dataset dataset = ok_or (component_in (encode_utf8_all x.name)) 4 >>= by_name dataset

  filled : is_null_kind x.kind ≡ false
  filled = not-true (is_null_kind x.kind) (and_parts (is_component_name x.name) (not (is_null_kind x.kind)) (and_parts (is_component_name x.name && not (is_null_kind x.kind)) (codes_fit x) declarable).0).1

  fits : codes_fit x ≡ true
  fits = (and_parts (is_component_name x.name && not (is_null_kind x.kind)) (codes_fit x) declarable).1

  pub record_again : record_of v.Second so_far (component_record name list x) ≡ Ok (record { dataset = name; component = x; is_listed = is_listed list x })
  record_again =
      ap (λ o. ok_or o 3 >>= by_dataset) named
      ∙ ap (λ o. ok_or o 4 >>= by_name name) writable.named
      ∙ ap (λ o. ok_or o 5 >>= by_role name x.name) (role_again x.role)
      ∙ ap (λ o. ok_or o 6 >>= by_kind name x.name x.role) (kind_again x.kind filled)
      ∙ ap (λ b. cond b (Err 7) (ok_or (codes_of x.role x.kind (codes_field x.codes)) 8 >>= by_texts name x.name x.role x.kind)) new
      ∙ ap (λ o. ok_or o 8 >>= by_texts name x.name x.role x.kind) (codes_again x fits writable.coded)
      ∙ ap (λ b. cond b (Err 9) (ok_or (listed_by x.role (Some (nullable_word list x))) 11 >>= made name x.name x.role x.kind x.codes)) (lt-leb most_components (length (components_of name so_far)) few)
      ∙ ap (λ o. ok_or o 11 >>= made name x.name x.role x.kind x.codes) (listed_again list x)
