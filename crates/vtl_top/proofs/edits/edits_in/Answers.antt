use Rattle.std.proofs.Common.{rules, inr, ◌≡◌, ◌+◌, ◌∙◌, true, List, length, map, cond, Ok, Err, arith, ap, sym, subst}
use Rattle.std.specs.List.{list_any, slice_split}
use Rattle.std.specs.Map.{keys_of}
use Rattle.std.specs.Option.{IfSome}
use Rattle.std.proofs.lemmas.List.{length-map}
use Rattle.sql_lexer.proofs.Texts.{split-at}
use Rattle.vtl_tree.specs.Structure.{same_name}
use Rattle.vtl_top.specs.Edits.{edit_in, edits_behind, edits_or_fault, ends_line, is_edit}
use Rattle.vtl_top.specs.EditsView.{edit_view}
use Rattle.vtl_top.specs.Words.{is_path}
use Rattle.vtl_status.specs.declared.status.Status.TheVariants as st
use Rattle.vtl_top.proofs.EditLemmas.{first_fails, first_goes, no_line, none_found, one_found, one_put, put_view}
use Rattle.vtl_top.proofs.edits.edits_in.Goals as goal

pub returns-in-None-clause-edits : goal.returns-in-None-clause-edits
returns-in-None-clause-edits c =
    let names = keys_of c.args.inputs.now in
    let edits = c.loop-line.edits.items in
    let line = c.in-Some.line.now in
    let cut = c.in-Some.ensures.byte (omega arith) (λ w o h. h) in
    let none = none_found (is_edit names (edit_in line)) (edit_in line) c.in_ok-edit.field-0 c.in-None.is c.in_ok-edit.ensures.edit in
    let fails = sym c.loop-line.invariant.same ∙ first_fails names (map edit_view edits) c.loop-line.rest.now line c.in-Some.behind.now cut.2 cut.0 cut.1 none in
    inr (ap edits_or_fault fails ∙ ap (λ n. Err (st.Edits (n + 1))) (length-map edits edit_view ∙ sym (ap length c.deref.ensures.value)) ∙ ap Err (sym c.line_behind.ensures))

pub loop-line-preserved : goal.loop-line-preserved
loop-line-preserved c =
    let names = keys_of c.args.inputs.now in
    let edits = c.loop-line.edits.items in
    let line = c.in-Some.line.now in
    let rest = c.loop-line.rest.now in
    let behind = c.in-Some.behind.now in
    let cut = c.in-Some.ensures.byte (omega arith) (λ w o h. h) in
    let found = one_found (is_edit names (edit_in line)) (edit_in line) c.in_ok-edit.field-0 c.in-Some-2.edit c.in-Some-2.is c.in_ok-edit.ensures.edit in
    let parts = split-at 10 rest line behind (omega arith) c.loop-line.invariant.utf8 c.in-Some.ensures.cases in
    record {
      utf8 = parts.rest_utf8;
      same = ap (λ es. edits_behind names es (slice_split ends_line behind)) (put_view edits c.put.new.edits.items c.in-Some-2.edit (edit_in line) c.in_ok-put-in-Some-2.ensures found.same)
          ∙ sym (first_goes names (map edit_view edits) rest line behind cut.2 cut.0 cut.1 found.is) ∙ c.loop-line.invariant.same;
      inputs = one_put (λ e. list_any (same_name e.input) names ≡ true) edits c.put.new.edits.items c.in-Some-2.edit c.loop-line.invariant.inputs
          (subst (λ o. IfSome o (λ e. list_any (same_name e.input) names ≡ true)) c.in-Some-2.is c.in_ok-edit.ensures.input) c.in_ok-put-in-Some-2.ensures;
    }

pub returns-then-not-is_empty-clause-edits : goal.returns-then-not-is_empty-clause-edits
returns-then-not-is_empty-clause-edits c =
    let names = keys_of c.args.inputs.now in
    let edits = c.loop-line.edits.items in
    let rest = c.loop-line.rest.now in
    let none = c.in_default.ensures.byte (omega arith) (λ w o h. h) in
    let some : is_path rest ≡ true = search rules in
    let fails = sym c.loop-line.invariant.same ∙ no_line names (map edit_view edits) rest none ∙ ap (λ b. cond b (Err (length (map edit_view edits) + 1)) (Ok (map edit_view edits))) some in
    inr (ap edits_or_fault fails ∙ ap (λ n. Err (st.Edits (n + 1))) (length-map edits edit_view ∙ sym (ap length c.deref-then-not-is_empty.ensures.value)) ∙ ap Err (sym c.line_behind-then-not-is_empty.ensures))
