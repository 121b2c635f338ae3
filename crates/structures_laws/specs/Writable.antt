-- Structures that a text of version 2 can declare.
use Rattle.std.specs.Prelude.{◌≡◌, Bool, true, false, not, ◌&&◌, List, Option, Some, None, filter, flat_map, encode_utf8_all}
use Rattle.std.specs.List.{AllByRecursion, list_any}
use Rattle.vtl_lists.specs.Aliases.{Name, Text}
use Rattle.vtl_tree.specs.declared.structure.Component.{Component}
use Rattle.vtl_tree.specs.declared.structure.Structure.{Structure}
use Rattle.vtl_tree.specs.Names.{is_among}
use Rattle.vtl_tree.specs.NotNull.{Declared, NotNull, not_null_of, with_list}
use Rattle.vtl_tree.specs.Structure.{names_of}
use Rattle.vtl_tree.specs.Structures.{AreStructures, Named}
use Rattle.vtl_csv.specs.Declarations.{code_in, component_in, dataset_in, is_bar}
use Rattle.vtl_csv.specs.StructuresFile.{is_identifier}

-- a code without `|`, whose bytes are read as it
pub record IsCode (code : Text) : Type 0 where
  pub read : code_in (encode_utf8_all code) ≡ Some code
  pub barless : list_any is_bar (encode_utf8_all code) ≡ false

abbrev pub AreCodes : Option (List Text) → Type 0
AreCodes None = Unit {0}
AreCodes (Some codes) = AllByRecursion IsCode codes

-- a component whose name's bytes are read as it
pub record IsWritableComponent (x : Component) : Type 0 where
  pub named : component_in (encode_utf8_all x.name) ≡ Some x.name
  pub coded : AreCodes x.codes

-- a data set whose name's bytes are read as it, with an identifier
pub record IsWritableSet (e : Name × Structure) : Type 0 where
  pub named : dataset_in (encode_utf8_all e.0) ≡ Some e.0
  pub components : AllByRecursion IsWritableComponent e.1.components
  pub identified : list_any is_identifier e.1.components ≡ true

-- whether a component stands on a list, which holds no identifiers
abbrev pub is_listed : List Name → Component → Bool
is_listed list x = is_among x.name list && not (is_identifier x)

-- the names on a list that are those of components, in the order of these
abbrev pub in_order_of : List Component → List Name → List Name
in_order_of xs list = names_of (filter (is_listed list) xs)

-- the lists of data sets, each in the order of its components
abbrev pub lists_in_order : NotNull → Named → NotNull
lists_in_order ls sets = flat_map (λ e. with_list e.0 (in_order_of e.1.components (not_null_of e.0 ls))) sets

-- structures whose lists stand in the order of their components
pub record IsWritable (d : Declared) : Type 0 where
  pub structures : AreStructures d.sets
  pub sets : AllByRecursion IsWritableSet d.sets
  pub lists : d.not_null ≡ lists_in_order d.not_null d.sets
