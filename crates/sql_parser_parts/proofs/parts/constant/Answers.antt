use Rattle.std.proofs.Common.{rules}
use Rattle.sql_tree.specs.Grammar.{const}
use Rattle.sql_parser_parts.proofs.parts.constant.Goals as goal

pub returns-in-Some : goal.returns-in-Some
unfolding const
returns-in-Some c = search rules

pub returns-in-Some-2 : goal.returns-in-Some-2
unfolding const
returns-in-Some-2 c = search rules

pub returns-in-Some-3 : goal.returns-in-Some-3
unfolding const
returns-in-Some-3 c = search rules

pub returns-in-Some-4 : goal.returns-in-Some-4
unfolding const
returns-in-Some-4 c = search rules

pub returns-in_err-period : goal.returns-in_err-period
unfolding const
returns-in_err-period c = search rules

pub returns : goal.returns
unfolding const
returns c = search rules
