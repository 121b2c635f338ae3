-- What a record of a structures file says, and the rules that it keeps.
use Rattle.std.specs.Prelude.{ℕ, Bool, true, false, not, ◌&&◌, ◌==◌, List, [], ◌∷◌, length, nat_le, Option, Some, None, ok_or, Result, Ok, Err, option_map, chars, codes, if◌then◌else◌}
use Rattle.std.specs.List.{list_any}
use Rattle.std.specs.Option.{option_and_then, option_map_or}
use Rattle.std.specs.Str.{is_utf8}
use Rattle.vtl_lists.specs.Aliases.{Field, Name, Record, Text}
use Rattle.vtl_lists.specs.Results.{◌>>=◌}
use Rattle.vtl_lists.specs.Apart.{all_apart}
use Rattle.vtl_lists.specs.Each.{each_some}
use Rattle.vtl_text.specs.Words.{is_component_name, is_name}
use Rattle.vtl_cell.specs.declared.kind.Kind.{Kind}
use Rattle.vtl_cell.specs.declared.kind.Kind.TheVariants as k
use Rattle.vtl_tree.specs.declared.structure.Role.{Role}
use Rattle.vtl_tree.specs.declared.structure.Role.TheVariants as r
use Rattle.vtl_tree.specs.Structure.{most_components, names_of, same_name, same_role}
use Rattle.vtl_tree.specs.Structures.{Named, components_of, is_filled, is_string_identifier, with_component}
use Rattle.vtl_tree.specs.NotNull.{Declared, with_name}
use Rattle.vtl_csv.specs.declared.declarations.TheConstants.{MOST_IN_FIRST}
use Rattle.vtl_csv.specs.declared.declarations.NewComponent.{NewComponent}
use Rattle.vtl_csv.specs.declared.version.Version.{Version}
use Rattle.vtl_csv.specs.declared.version.Version.TheVariants as v

-- the fields of a record; the last is there in version 2
pub record Declaration : Type 0 where
  pub dataset : Field
  pub component : Field
  pub role : Field
  pub kind : Field
  pub code_list : Field
  pub nullable : Option Field

abbrev pub of_five : Record → Option Declaration
of_five (a ∷ b ∷ c ∷ d ∷ e ∷ []) = Some (record { dataset = a; component = b; role = c; kind = d; code_list = e; nullable = None })
of_five _ = None

abbrev pub of_six : Record → Option Declaration
of_six (a ∷ b ∷ c ∷ d ∷ e ∷ f ∷ []) = Some (record { dataset = a; component = b; role = c; kind = d; code_list = e; nullable = Some f })
of_six _ = None

-- the fields of a record that has as many as its version asks for
abbrev pub declaration_of : Version → Record → Option Declaration
declaration_of v.First fields = of_five fields
declaration_of v.Second fields = of_six fields

abbrev pub is_heading : Declaration → Bool
is_heading d =
    same_name d.dataset (codes "dataset") && same_name d.component (codes "component") && same_name d.role (codes "role")
    && same_name d.kind (codes "type") && same_name d.code_list (codes "codes") && option_map_or (λ f. same_name f (codes "nullable")) d.nullable true

-- the characters of a field that is a text
abbrev pub text_in : Field → Option Text
text_in f = if is_utf8 f then Some (chars f) else None

abbrev pub text_that : (Text → Bool) → Field → Option Text
text_that test f = option_and_then (λ t. if test t then Some t else None) (text_in f)

-- the name of a data set, of a component, and a code
abbrev pub dataset_in : Field → Option Name
dataset_in = text_that is_name

abbrev pub component_in : Field → Option Name
component_in = text_that is_component_name

abbrev pub code_in : Field → Option Text
code_in = text_that is_filled

abbrev pub role_in : Field → Option Role
role_in f =
    if same_name f (codes "identifier") then Some r.Identifier
    else (if same_name f (codes "measure") then Some r.Measure
    else (if same_name f (codes "attribute") then Some r.Attribute else None))

abbrev pub kind_in : Field → Option Kind
kind_in f =
    if same_name f (codes "integer") then Some k.Int
    else (if same_name f (codes "number") then Some k.Num
    else (if same_name f (codes "string") then Some k.Text
    else (if same_name f (codes "boolean") then Some k.Bool
    else (if same_name f (codes "date") then Some k.Day
    else (if same_name f (codes "time_period") then Some k.Period else None)))))

abbrev pub onto_first : ℕ → List Field → List Field
onto_first b [] = (b ∷ []) ∷ []
onto_first b (p ∷ ps) = (b ∷ p) ∷ ps

abbrev pub is_bar : ℕ → Bool
is_bar b = b == 124

-- the parts of a field between its `|`
abbrev pub parts : Field → List Field
parts [] = [] ∷ []
parts (b ∷ bs) = if is_bar b then [] ∷ parts bs else onto_first b (parts bs)

-- texts, no two of which are the same
abbrev pub distinct : List Text → Option (List Text)
distinct texts = if all_apart same_name texts then Some texts else None

-- the codes of a list, none of them empty or repeated
abbrev pub codes_in : Field → Option (List Text)
codes_in list = option_and_then distinct (each_some code_in (parts list))

-- the codes of a component with this role and kind: an empty field is no list, and a list stands on a string identifier alone
abbrev pub codes_of : Role → Kind → Field → Option (Option (List Text))
codes_of role kind [] = Some None
codes_of role kind (b ∷ bs) = if is_string_identifier role kind then option_map Some (codes_in (b ∷ bs)) else None

-- the data set has a component of this name already
abbrev pub has_component : Named → Name → Name → Bool
has_component so_far dataset name = list_any (same_name name) (names_of (components_of dataset so_far))

-- the most components that a data set may have
abbrev pub most_in : Version → ℕ
most_in v.First = MOST_IN_FIRST
most_in v.Second = most_components

-- the data set has as many components as it may have
abbrev pub is_full : Version → Named → Name → Bool
is_full version so_far dataset = nat_le (most_in version) (length (components_of dataset so_far))

abbrev pub is_identifier_role : Role → Bool
is_identifier_role role = same_role role r.Identifier

-- whether the field says that the value may not be null
abbrev pub says_not_null : Field → Bool
says_not_null f = same_name f (codes "false")

-- whether the field says that the value may be null
abbrev pub says_null : Field → Bool
says_null f = same_name f (codes "true")

-- Whether a component of this role stands on the not-null list, by the field `nullable` where there is one. No identifier
-- is null, so it is never said to be nullable, and never listed.
abbrev pub listed_by : Role → Option Field → Option Bool
listed_by role None = Some false
listed_by role (Some f) =
    if says_not_null f then Some (not (is_identifier_role role))
    else (if says_null f && not (is_identifier_role role) then Some false else None)

-- the component that a record declares, or the first rule that the record breaks; `so_far` is what the records before it
-- declare
abbrev pub declared_by : Version → Named → Declaration → Result NewComponent ℕ
declared_by version so_far d =
    ok_or (dataset_in d.dataset) 3 >>= λ dataset.
    ok_or (component_in d.component) 4 >>= λ name.
    ok_or (role_in d.role) 5 >>= λ role.
    ok_or (kind_in d.kind) 6 >>= λ kind.
    if has_component so_far dataset name then Err 7
    else (ok_or (codes_of role kind d.code_list) 8 >>= λ texts.
    if is_full version so_far dataset then Err 9
    else (ok_or (listed_by role d.nullable) 11 >>= λ listed.
    Ok (record { dataset = dataset; component = record { name = name; role = role; kind = kind; codes = texts }; is_listed = listed })))

abbrev pub record_of : Version → Named → Record → Result NewComponent ℕ
record_of version so_far fields = ok_or (declaration_of version fields) 2 >>= declared_by version so_far

-- with one more component, whose name is on the list of its data set or not
abbrev pub with_new : NewComponent → Declared → Declared
with_new n d =
    let sets = with_component n.dataset n.component d.sets in
    record { sets = sets; not_null = if n.is_listed then with_name n.dataset n.component.name sets d.not_null else d.not_null }
