use Rattle.std.proofs.Common.{◌∙◌, length, map, ap, subst, sym}
use Rattle.std.proofs.lemmas.List.{length-map}
use Rattle.vtl_grammar.specs.Faults.{SyntaxFault}
use Rattle.vtl_syntax.specs.View.{statement_tree}
use Rattle.vtl_parser.proofs.ParsedLemmas.{answered_whole}
use Rattle.vtl_parser.proofs.Texts.{slice_fits, told_fault, told_script}
use Rattle.vtl_parser.proofs.parsing.script_of.Goals as goal

pub overflow_sub-place : goal.overflow_sub-place
overflow_sub-place c = slice_fits c.args.tokens.now c.in-Ok.read.rest.now (map statement_tree c.in-Ok.read.part) c.in-Ok.ensures

pub returns-in-Some : goal.returns-in-Some
returns-in-Some c =
    subst (λ done. SyntaxFault c.args.tokens.now c.args.bad done c.in-Some.byte) (length-map c.in-Ok.read.part statement_tree ∙ ap length (sym c.as_slice.ensures))
    (told_fault c.args.tokens.now c.in-Ok.read.rest.now c.args.bad (map statement_tree c.in-Ok.read.part) c.in-Some.byte c.in-Ok.ensures (sym c.next_byte.ensures ∙ c.in-Some.is))

pub returns-in-None : goal.returns-in-None
returns-in-None c =
    answered_whole c.args.tokens.now c.args.bad c.in-Ok.read.part c.script.result c.script.ensures
    (told_script c.args.tokens.now c.in-Ok.read.rest.now c.args.bad (map statement_tree c.in-Ok.read.part) c.in-Ok.ensures (sym c.next_byte.ensures ∙ c.in-None.is))
