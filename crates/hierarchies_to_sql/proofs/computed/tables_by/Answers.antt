use Rattle.std.proofs.Common.{[], List, ap, subst, take, ◌∙◌, ◌≤◌, arith, length}
use Rattle.std.proofs.lemmas.List.{take_all}
use Rattle.std.specs.Map.{lookup}
use Rattle.std.proofs.Common.{unwrap_or, sym, Option}
use Rattle.vtl_text.specs.Texts.{same_text}
use Rattle.sql_tree.specs.Trees.{Text}
use Rattle.hierarchies_to_sql.specs.RuleItems.{found_by, found_else}
use Rattle.hierarchies_to_sql.proofs.ItemTableForms.{tables_found}
use Rattle.hierarchies_to_sql.proofs.RunForms.{named_one}
use Rattle.hierarchies_to_sql.proofs.computed.tables_by.Goals as goal

pub loop-i-init : goal.loop-i-init
loop-i-init c = λ q. ap (lookup (same_text q)) c.new-named.ensures

pub loop-i-preserved : goal.loop-i-preserved
loop-i-preserved c =
    named_one c.args.items.now c.args.names.now c.loop-i.i c.index-items-i.result c.index-names-i.result c.loop-i.named c.put_first.new.tables c.loop-i-test.true c.requires c.index-items-i.is c.index-names-i.is c.loop-i.invariant
    (λ q. c.in_ok-put_first.ensures q ∙ ap (λ (x : Text). found_else (lookup (same_text q) c.loop-i.named) c.index-items-i.result x q) c.in_ok-share.ensures)

pub returns : goal.returns
returns c = λ q.
    let items = c.args.items.now in
    let names = c.args.names.now in
    let i = c.loop-i.i in
    let past : length items ≤ i = c.loop-i-test.false in
    ap (λ (o : Option Text). unwrap_or o []) (c.loop-i.invariant q ∙ ap (λ (l : List Text). found_by l (take i names) q) (take_all i items past) ∙ ap (λ (l : List Text). found_by items l q) (take_all i names (omega (arith, past, c.requires))))
    ∙ sym (tables_found items names q)
