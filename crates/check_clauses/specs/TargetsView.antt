-- Targets that are kept in vectors.
use Rattle.std.specs.Prelude.{◌≡◌, List, Result, Ok, Err, Vec, map}
use Rattle.std.specs.declared.alloc.Global.{Global}
use Rattle.vtl_tree.specs.Trees.{ItemTree}
use Rattle.vtl_tree.specs.NodeView.{item_tree}
use Rattle.vtl_tree.specs.declared.clauses.CalcItem.{CalcItem}
use Rattle.check_faults.specs.declared.error.TypeErr.{TypeErr}
use Rattle.check_faults.specs.declared.error.TypeErr.TheVariants as err
use Rattle.check_faults.specs.declared.rules.Rule.{Rule}

abbrev pub items_view : Vec CalcItem Global → List ItemTree
items_view v = map item_tree v.items

-- the same as an answer, where what is typed is left behind a reference
abbrev pub AnswersLeft : {A B C : Type 0} → (A → B) → Result C TypeErr → A → Result B Rule → Type 0
AnswersLeft view (Ok done) x typing = typing ≡ Ok (view x)
AnswersLeft view (Err (err.Broken rule)) x typing = typing ≡ Err rule
AnswersLeft view (Err err.OutOfMemory) x typing = Unit {0}
