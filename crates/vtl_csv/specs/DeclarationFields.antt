-- The fields of a record as a declaration.
use Rattle.std.specs.Prelude.{option_map}
use Rattle.vtl_csv.specs.declared.declarations.Declaration.{Declaration as Fields}
use Rattle.vtl_csv.specs.Declarations.{Declaration}

-- the declaration that has these fields
abbrev pub declaration_fields : Fields → Declaration
declaration_fields d = record { dataset = d.dataset.now; component = d.component.now; role = d.role.now; kind = d.kind.now; code_list = d.code_list.now; nullable = option_map (λ f. f.now) d.nullable }
