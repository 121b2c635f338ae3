use Rattle.std.proofs.Common.{subst, length}
use Rattle.sql_parser.proofs.FormedScripts.{formed_answer}
use Rattle.sql_parser.proofs.Texts.{Answered, TokensAnswered, answered, answers_faults, answers_scripts}
use Rattle.sql_parser.proofs.parsing.parse.Goals as goal

answer : (c : goal.After-drop-lexed) → Answered c.args.text.now c.script_of.result
answer c = answered c.args.text.now c.in_ok-lexed.lexed.tokens c.in_ok-lexed.lexed.fault c.script_of.result c.in_ok-lexed.ensures
    (subst (λ tokens. TokensAnswered tokens c.in_ok-lexed.lexed.fault (length c.args.text.now) c.script_of.result) c.as_slice.ensures c.script_of.ensures)

pub returns-clause-scripts : goal.returns-clause-scripts
returns-clause-scripts c = answers_scripts c.args.text.now c.script_of.result (answer c)

pub returns-clause-formed : goal.returns-clause-formed
returns-clause-formed c = formed_answer c.args.text.now c.script_of.result (answer c)

pub returns-clause-faults : goal.returns-clause-faults
returns-clause-faults c = answers_faults c.args.text.now c.script_of.result (answer c)
