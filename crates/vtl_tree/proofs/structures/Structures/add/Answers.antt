use Rattle.std.proofs.Common.{◌≡◌, None, subst, sym, ap, ◌∙◌}
use Rattle.std.specs.Map.{lookup}
use Rattle.vtl_lists.proofs.Tests.{on_err}
use Rattle.vtl_text.proofs.NamedItems.{set_nowhere}
use Rattle.vtl_tree.proofs.DeclarationLemmas.{nothing_seen, pushed_added, pushed_are, pushed_kept, pushed_lists}
use Rattle.vtl_tree.proofs.StructuresLemmas.{began, kept_same, not_there, one_is_declarable, stays_same}
use Rattle.vtl_tree.specs.Declarations.{AreDeclarations, declared}
use Rattle.vtl_tree.specs.Structure.{same_name}
use Rattle.vtl_tree.specs.Structures.{has_name, is_declarable}
use Rattle.vtl_tree.proofs.structures.Structures.add.Goals as goal

-- a data set of this name is there
pub invariant_of-self : goal.invariant_of-self
invariant_of-self c =
    let xs = c.self.inside.by_name in
    let fits = rw (← c.self.view_is) at c.requires in
    pushed_are xs c.replace.new.self c.replace-in-Some.new.self c.args.name c.args.component c.in-Some.declaration c.push_component-pushed.new.declaration c.no_components.result c.self.invariant fits
    (sym c.in-Some.ensures.before) c.replace.ensures.replaced c.replace-in-Some.ensures.replaced c.push_component-pushed.ensures.list c.push_component-pushed.result c.push_component-pushed.ensures.added
    c.push_component-pushed.ensures.failed

pub returns-in-Some-clause-added : goal.returns-in-Some-clause-added
returns-in-Some-clause-added c =
    let xs = c.self.inside.by_name in
    let fits = rw (← c.self.view_is) at c.requires in
    rw (← c.self.view_is) (pushed_added xs c.replace.new.self c.replace-in-Some.new.self c.args.name c.args.component c.in-Some.declaration c.push_component-pushed.new.declaration c.no_components.result
    c.self.invariant fits (sym c.in-Some.ensures.before) c.replace.ensures.replaced c.replace-in-Some.ensures.replaced c.push_component-pushed.result c.push_component-pushed.ensures.added)

pub returns-in-Some-clause-lists : goal.returns-in-Some-clause-lists
returns-in-Some-clause-lists c =
    let xs = c.self.inside.by_name in
    let fits = rw (← c.self.view_is) at c.requires in
    rw (← c.self.view_is) (pushed_lists xs c.replace.new.self c.replace-in-Some.new.self c.args.name c.args.component c.in-Some.declaration c.push_component-pushed.new.declaration c.no_components.result
    c.self.invariant fits (sym c.in-Some.ensures.before) c.replace.ensures.replaced c.replace-in-Some.ensures.replaced c.push_component-pushed.ensures.list c.push_component-pushed.result)

pub returns-in-Some-clause-failed : goal.returns-in-Some-clause-failed
returns-in-Some-clause-failed c =
    let xs = c.self.inside.by_name in
    let fits = rw (← c.self.view_is) at c.requires in
    rw (← c.self.view_is) (pushed_kept xs c.replace.new.self c.replace-in-Some.new.self c.args.name c.args.component c.in-Some.declaration c.push_component-pushed.new.declaration c.no_components.result
    c.self.invariant fits (sym c.in-Some.ensures.before) c.replace.ensures.replaced c.replace-in-Some.ensures.replaced c.push_component-pushed.ensures.list c.push_component-pushed.result
    c.push_component-pushed.ensures.failed)

-- none is there, so nothing was put in its place
pub invariant_of-self-in_err-structure-in-None : goal.invariant_of-self-in_err-structure-in-None
invariant_of-self-in_err-structure-in-None c =
    subst AreDeclarations (sym (c.replace.ensures.replaced ∙ set_nowhere (same_name c.args.name) c.self.inside.by_name c.no_components.result (sym c.in-None.ensures.before))) c.self.invariant

pub returns-in_err-structure-in-None-clause-failed : goal.returns-in_err-structure-in-None-clause-failed
returns-in_err-structure-in-None-clause-failed c =
    on_err c.from_residual.result
    (ap declared (c.replace.ensures.replaced ∙ set_nowhere (same_name c.args.name) c.self.inside.by_name c.no_components.result (sym c.in-None.ensures.before)) ∙ c.self.view_is)

pub invariant_of-self-in-None : goal.invariant_of-self-in-None
invariant_of-self-in-None c =
    subst AreDeclarations (sym (c.replace.ensures.replaced ∙ set_nowhere (same_name c.args.name) c.self.inside.by_name c.no_components.result (sym c.in-None.ensures.before))) c.self.invariant

pub put-requires-clause-new_name : goal.put-requires-clause-new_name
put-requires-clause-new_name c =
    let xs = c.self.inside.by_name in
    ap (λ l. has_name c.args.name (declared l).sets) (c.replace.ensures.replaced ∙ set_nowhere (same_name c.args.name) xs c.no_components.result (sym c.in-None.ensures.before))
    ∙ not_there (declared xs).sets c.args.name (nothing_seen (same_name c.args.name) xs (sym c.in-None.ensures.before))

pub put-requires-clause-declarable : goal.put-requires-clause-declarable
put-requires-clause-declarable c = ap is_declarable c.in_ok-structure-in-None.ensures ∙ one_is_declarable c.args.component c.requires.0

pub returns-in_ok-structure-in-None-clause-added : goal.returns-in_ok-structure-in-None-clause-added
returns-in_ok-structure-in-None-clause-added c =
    let xs = c.self.inside.by_name in
    let same = ap (λ l. (declared l).sets) (c.replace.ensures.replaced ∙ set_nowhere (same_name c.args.name) xs c.no_components.result (sym c.in-None.ensures.before)) in
    rw (← c.self.view_is)
    (began (declared xs).sets (declared c.replace.new.self).sets c.put.new.self.sets c.args.name c.args.component c.in_ok-structure-in-None.structure c.put.result same
    (nothing_seen (same_name c.args.name) xs (sym c.in-None.ensures.before)) c.in_ok-structure-in-None.ensures c.put.ensures.put)

pub returns-in_ok-structure-in-None-clause-lists : goal.returns-in_ok-structure-in-None-clause-lists
returns-in_ok-structure-in-None-clause-lists c =
    let xs = c.self.inside.by_name in
    let same = ap (λ l. (declared l).not_null) (c.replace.ensures.replaced ∙ set_nowhere (same_name c.args.name) xs c.no_components.result (sym c.in-None.ensures.before)) in
    rw (← c.self.view_is) (stays_same (declared xs).not_null (declared c.replace.new.self).not_null c.put.new.self.not_null c.put.result same c.put.ensures.lists)

pub returns-in_ok-structure-in-None-clause-failed : goal.returns-in_ok-structure-in-None-clause-failed
returns-in_ok-structure-in-None-clause-failed c =
    let xs = c.self.inside.by_name in
    let same = ap declared (c.replace.ensures.replaced ∙ set_nowhere (same_name c.args.name) xs c.no_components.result (sym c.in-None.ensures.before)) in
    rw (← c.self.view_is) (kept_same (declared xs) (declared c.replace.new.self) c.put.new.self c.put.result same c.put.ensures.failed)
