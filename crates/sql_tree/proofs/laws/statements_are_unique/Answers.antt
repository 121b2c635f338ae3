use Rattle.std.proofs.Common.{sym, subst}
use Rattle.grammar_forms.proofs.Laws.{Stops, unique, exact, stops-nil}
use Rattle.sql_tree.specs.Classes.{class}
use Rattle.sql_tree.specs.Grammar.{statement_at}
use Rattle.sql_tree.proofs.ScriptLaws.{statement-closed}
use Rattle.sql_tree.proofs.laws.statements_are_unique.Goals as goal

pub returns-clause-one : goal.returns-clause-one
returns-clause-one c i = unique class (statement_at i) (statement-closed i).law

pub returns-clause-exact : goal.returns-clause-exact
returns-clause-exact c i front rest other left a b e ha hb = exact class (statement_at i) (statement-closed i).law (statement-closed i).ends front rest other left a b e ha hb

pub returns-clause-read : goal.returns-clause-read
returns-clause-read c i ts a rest h = let r = (statement-closed i).law.sound ts a rest h in (r.front, r.is, r.spelled)

pub returns-clause-all : goal.returns-clause-all
returns-clause-all c i ts rest a h = (statement-closed i).law.complete ts a rest h (subst (λ m. Stops class m rest) (sym (statement-closed i).ends) (stops-nil class rest))
