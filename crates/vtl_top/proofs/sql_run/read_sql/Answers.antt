use Rattle.std.proofs.Common.{subst}
use Rattle.sql_tree.specs.View.{script_tree}
use Rattle.vtl_top.specs.Refusal.{IsSqlOf}
use Rattle.vtl_top.specs.SqlRun.{read_whole, sql_of}
use Rattle.vtl_top.proofs.SqlLemmas.{sql_given}
use Rattle.vtl_top.proofs.StepLemmas.{takes_onward, takes_stopped}
use Rattle.vtl_top.proofs.sql_run.read_sql.Goals as goal

pub returns-in-Ok-clause-takes : goal.returns-in-Ok-clause-takes
returns-in-Ok-clause-takes g c =
    takes_onward g.F.Files (read_whole c.args.path.now) (sql_of c.args.path.now) c.args.files.now c.read_whole_file.new.files c.read_whole_file.new.files (λ v. v.items) script_tree c.in-Ok.bytes c.sql_of.result c.in-Ok.ensures
    (sql_given g.F.Files c.read_whole_file.new.files c.args.path.now c.in-Ok.bytes.items c.sql_of.result
    (subst (λ bytes. IsSqlOf c.args.path.now bytes c.sql_of.result) c.deref.ensures.value c.sql_of.ensures.script))

pub returns-in-Err-clause-takes : goal.returns-in-Err-clause-takes
returns-in-Err-clause-takes g c = takes_stopped g.F.Files (read_whole c.args.path.now) (sql_of c.args.path.now) c.args.files.now c.read_whole_file.new.files (λ v. v.items) script_tree c.in-Err.status c.in-Err.ensures
