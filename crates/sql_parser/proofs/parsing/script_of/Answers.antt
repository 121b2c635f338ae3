use Rattle.std.proofs.Common.{◌∙◌, length, ap, sym, arith, refl}
use Rattle.std.specs.Prelude.{unwrap_or}
use Rattle.std.proofs.lemmas.List.{length-map}
use Rattle.sql_tree.specs.View.{script_tree, statement_tree}
use Rattle.sql_parser.proofs.Told.{rest-fits, told-fault-of, told-no-set, told-script-of}
use Rattle.sql_parser.proofs.parsing.script_of.Goals as goal

pub overflow_sub-place : goal.overflow_sub-place
overflow_sub-place c = rest-fits c.args.tokens.now c.in-Ok.read.rest.now (script_tree c.in-Ok.read.part) c.in-Ok.ensures

pub returns-in-Some : goal.returns-in-Some
returns-in-Some c =
    told-fault-of c.args.tokens.now c.in-Ok.read.rest.now _ c.args.bad c.args.end c.in-Some.byte _ (script_tree c.in-Ok.read.part) c.in-Ok.ensures refl
    (let s = c.as_slice.ensures in omega (arith, length-map c.in-Ok.read.part.statements statement_tree, ap length s)) (sym c.next_byte.ensures ∙ c.in-Some.is)

pub returns-in-None : goal.returns-in-None
returns-in-None c =
    told-script-of c.args.tokens.now c.in-Ok.read.rest.now _ c.args.bad (script_tree c.in-Ok.read.part) c.in-Ok.ensures refl (omega arith) (sym c.next_byte.ensures ∙ c.in-None.is)

pub returns-in-Err-Absent : goal.returns-in-Err-Absent
returns-in-Err-Absent c = told-no-set c.args.tokens.now c.args.bad c.args.end _ (rw c.in-Err-Absent.field-0-is at c.in-Err-Absent.ensures) (ap (λ o. unwrap_or o c.args.end) (sym c.next_byte-in-Err-Absent.ensures) ∙ sym c.unwrap_or.ensures)
