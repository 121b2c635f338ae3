use Rattle.std.proofs.Common.{subst}
use Rattle.vtl_parser.proofs.ParsedLemmas.{Answered, TokensAnswered, answered, answers_faults, answers_scripts, answers_written}
use Rattle.vtl_parser.proofs.parsing.parse.Goals as goal

answer : (c : goal.After-drop-lexed) → Answered c.args.text.now c.script_of.result
answer c = answered c.args.text.now c.in_ok-lexed.lexed.tokens c.in_ok-lexed.lexed.bad c.script_of.result c.in_ok-lexed.ensures
    (subst (λ tokens. TokensAnswered tokens c.in_ok-lexed.lexed.bad c.script_of.result) c.as_slice.ensures c.script_of.ensures)

pub returns-clause-scripts : goal.returns-clause-scripts
returns-clause-scripts c = answers_scripts c.args.text.now c.script_of.result (answer c)

pub returns-clause-faults : goal.returns-clause-faults
returns-clause-faults c = answers_faults c.args.text.now c.script_of.result (answer c)

pub returns-clause-written : goal.returns-clause-written
returns-clause-written c = answers_written c.args.text.now c.script_of.result (answer c)
