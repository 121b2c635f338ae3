use Rattle.std.proofs.Common.{◌∙◌, ◌+◌, ◌&&◌, ap, sym, map, drop}
use Rattle.std.specs.List.{flat_map, fold}
use Rattle.std.proofs.lemmas.List.{drop_all}
use Rattle.sql_tree.specs.View.{select_tree}
use Rattle.sql_check_parts.specs.Queries.{beside, kinds_of, names_of, same_names, select_breaks}
use Rattle.sql_check_parts.specs.Rules.{least, lesser}
use Rattle.sql_check_queries.proofs.Parts.{drop_read, part_left, parts_end, passes_left, passes_end}
use Rattle.sql_check_queries.proofs.queries.add_selects.Goals as goal

pub loop-other-preserved : goal.loop-other-preserved
loop-other-preserved c =
    let t = c.args.tables.now in
    let selects = c.args.selects.now in
    let i = c.loop-other.other-index in
    let other = c.other-item.result in
    let before = c.loop-other.union in
    let f = select_breaks c.args.profile.now t in
    let typed = c.in_ok-select.ensures in
    let names = c.args.union.now.names in
    record {
      names = c.add.ensures.names ∙ c.loop-other.invariant.names;
      shared =
          ap (λ cs. fold (λ shared s. beside shared (kinds_of t s)) cs (map select_tree (drop (i + 1) selects))) (c.add.ensures.shared ∙ ap (beside before.shared.items) typed.kinds_are)
          ∙ sym (ap (λ ss. fold (λ shared s. beside shared (kinds_of t s)) before.shared.items (map select_tree ss)) (drop_read selects i other c.loop-other-test.true c.other-item.is))
          ∙ c.loop-other.invariant.shared;
      same =
          passes_left (λ s. same_names names (names_of s)) select_tree selects i other before.same_names c.add.new.self.same_names c.loop-other-test.true c.other-item.is
          (c.add.ensures.same ∙ ap (λ xs. before.same_names && same_names xs c.in_ok-select.field-0.names) c.loop-other.invariant.names ∙ ap (λ xs. before.same_names && same_names names xs) typed.names_are)
          ∙ c.loop-other.invariant.same;
      fault =
          ap (λ x. lesser x (least (flat_map f (map select_tree (drop (i + 1) selects))))) c.add.ensures.fault
          ∙ part_left f select_tree selects i other before.fault c.in_ok-select.field-0.fault c.loop-other-test.true c.other-item.is typed.fault_is
          ∙ c.loop-other.invariant.fault;
    }

pub returns : goal.returns
returns c =
    let t = c.args.tables.now in
    let selects = c.args.selects.now in
    let i = c.loop-other.other-index in
    let u = c.loop-other.union in
    record {
      names_are = c.loop-other.invariant.names;
      shared_are =
          sym (ap (λ ss. fold (λ shared s. beside shared (kinds_of t s)) u.shared.items (map select_tree ss)) (drop_all i selects c.loop-other-test.false))
          ∙ c.loop-other.invariant.shared;
      same = sym (passes_end (λ s. same_names c.args.union.now.names (names_of s)) select_tree selects i u.same_names c.loop-other-test.false) ∙ c.loop-other.invariant.same;
      fault_is = sym (parts_end (select_breaks c.args.profile.now t) select_tree selects i u.fault c.loop-other-test.false) ∙ c.loop-other.invariant.fault;
    }
