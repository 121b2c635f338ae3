use Rattle.std.proofs.Common.{◌≡◌, ◌∙◌, ◌++◌, ◌∷◌, [], Some, Ok, ap, sym}
use Rattle.std.specs.Option.{option_copied}
use Rattle.vtl_rows.specs.Named.{table_of}
use Rattle.sql_tree.specs.Trees.{Text}
use Rattle.sql_check_parts.specs.Statements.{input_columns}
use Rattle.sql_meaning.specs.Tables.{rows_of}
use Rattle.sql_engine.specs.Statements.{IsPut}
use Rattle.sql_engine.proofs.Noting.{on_ok}
use Rattle.sql_engine.proofs.Putting.{input_put}
use Rattle.sql_engine.proofs.statements.run_input.Goals as goal

pub returns : goal.returns
returns c =
    let s = c.args.input.now in
    let before = c.args.tables.now in
    let now = c.put.new.self in
    let t = c.in_ok-held-in-Some.held in
    let there : table_of s.name c.args.inputs.now ≡ Some t = sym c.shared.ensures ∙ ap option_copied c.in-Some.is ∙ ap Some (sym (c.in_ok-held-in-Some.ensures ∙ c.in_ok-share-in-Some.ensures)) in
    on_ok c.put.result (now ≡ before ++ (c.in_ok-share-in-Some-2.field-0, t) ∷ []) (IsPut s.name (input_columns s) (Ok (rows_of (table_of s.name c.args.inputs.now))) before now)
    (λ put. input_put s.name (input_columns s) c.args.inputs.now before now t there c.requires.there (put ∙ ap (λ (n : Text). before ++ (n, t) ∷ []) c.in_ok-share-in-Some-2.ensures))
    c.put.ensures.put
