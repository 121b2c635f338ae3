use Rattle.std.proofs.Common.{◌≡◌, take}
use Rattle.std.specs.List.{list_any}
use Rattle.std.specs.Map.{keys_of}
use Rattle.vtl_text.specs.Texts.{same_text}
use Rattle.vtl_tree.specs.Names.{is_among}
use Rattle.sql_tree.specs.Trees.{Text}
use Rattle.hierarchies_to_sql.proofs.computed.names_of.Given as goal

abbrev pub invariant-loop-item : goal.invariant-loop-item
invariant-loop-item l = (q : Text) → list_any (same_text q) (keys_of l.names) ≡ is_among q (take l.item-index l.items)
