use Rattle.std.specs.Prelude.{string_bytes}
use Rattle.vtl_syntax.specs.View.{script_tree}
use Rattle.vtl_parser.specs.Parsed.{IsMemory, IsSyntaxError}
use Rattle.vtl_format.specs.Form.{IsFormOf}
use Rattle.vtl_format.proofs.Scripts.{form-of_script, handed_on}
use Rattle.vtl_format.proofs.formatting.format.Goals as goal

pub returns-clause-answer : goal.returns-clause-answer
returns-clause-answer c =
    let script = script_tree c.in_ok-parse.field-0 in
    let is = c.in_ok-parse.ensures.answer in
    ((script, is), form-of_script c.args.text.now (string_bytes c.in_ok-form.field-0) script is c.in_ok-form.ensures)

pub returns-clause-scripts : goal.returns-clause-scripts
returns-clause-scripts c = λ script is. form-of_script c.args.text.now (string_bytes c.in_ok-form.field-0) script is c.in_ok-form.ensures

pub returns-clause-faults : goal.returns-clause-faults
returns-clause-faults c = λ done byte fault. c.in_ok-parse.ensures.faults done byte fault

pub returns-in_err-parse-clause-scripts : goal.returns-in_err-parse-clause-scripts
returns-in_err-parse-clause-scripts c = λ script is.
    handed_on c.from_residual.result c.in_err-parse.field-0.0 (λ out. IsFormOf c.args.text.now (string_bytes out)) IsMemory c.from_residual.ensures.1 (c.in_err-parse.ensures.scripts script is)

pub returns-in_err-parse-clause-faults : goal.returns-in_err-parse-clause-faults
returns-in_err-parse-clause-faults c = λ done byte fault.
    handed_on c.from_residual.result c.in_err-parse.field-0.0 (λ out. ⊥) (IsSyntaxError done byte) c.from_residual.ensures.1 (c.in_err-parse.ensures.faults done byte fault)
