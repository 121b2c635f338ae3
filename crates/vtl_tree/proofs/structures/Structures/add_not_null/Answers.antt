use Rattle.std.proofs.Common.{◌≡◌, ◌++◌, ◌∷◌, [], None, subst, sym, ap, ◌∙◌}
use Rattle.std.specs.Prelude.{OnOk}
use Rattle.std.specs.Map.{lookup}
use Rattle.vtl_lists.proofs.Tests.{on_err}
use Rattle.vtl_text.proofs.NamedItems.{set_nowhere}
use Rattle.vtl_tree.proofs.DeclarationLemmas.{nothing_seen, pushed_added}
use Rattle.vtl_tree.proofs.NotNullLemmas.{began_lists, listed_are, listed_kept, listed_lists, one_fits}
use Rattle.vtl_tree.proofs.StructuresLemmas.{began, kept_same, not_there, one_is_declarable}
use Rattle.vtl_tree.specs.Declarations.{AreDeclarations, Held, declared}
use Rattle.vtl_tree.specs.NotNull.{are_not_null}
use Rattle.vtl_tree.specs.Structure.{same_name}
use Rattle.vtl_tree.specs.Structures.{has_name, is_declarable, structure_of}
use Rattle.vtl_tree.proofs.structures.Structures.add_not_null.Goals as goal

-- a data set of this name is there
pub invariant_of-self : goal.invariant_of-self
invariant_of-self c =
    let xs = c.self.inside.by_name in
    let fits = rw (← c.self.view_is) at c.requires.fits in
    listed_are xs c.replace.new.self c.replace-in-Some.new.self c.args.name c.args.component c.in-Some.declaration c.push_not_null-pushed.new.declaration c.no_components.result c.self.invariant fits
    (sym c.in-Some.ensures.before) c.replace.ensures.replaced c.replace-in-Some.ensures.replaced c.push_not_null-pushed.result c.requires.value c.push_not_null-pushed.ensures.added
    (subst (λ m. OnOk c.push_not_null-pushed.result (c.push_not_null-pushed.new.declaration.not_null ≡ c.in-Some.declaration.not_null ++ m ∷ [])) c.in_ok-listed.ensures c.push_not_null-pushed.ensures.list)
    c.push_not_null-pushed.ensures.failed_structure c.push_not_null-pushed.ensures.failed_list

pub returns-in-Some-clause-added : goal.returns-in-Some-clause-added
returns-in-Some-clause-added c =
    let xs = c.self.inside.by_name in
    let fits = rw (← c.self.view_is) at c.requires.fits in
    rw (← c.self.view_is) (pushed_added xs c.replace.new.self c.replace-in-Some.new.self c.args.name c.args.component c.in-Some.declaration c.push_not_null-pushed.new.declaration c.no_components.result
    c.self.invariant fits (sym c.in-Some.ensures.before) c.replace.ensures.replaced c.replace-in-Some.ensures.replaced c.push_not_null-pushed.result c.push_not_null-pushed.ensures.added)

pub returns-in-Some-clause-failed : goal.returns-in-Some-clause-failed
returns-in-Some-clause-failed c =
    let xs = c.self.inside.by_name in
    let fits = rw (← c.self.view_is) at c.requires.fits in
    rw (← c.self.view_is) (listed_kept xs c.replace.new.self c.replace-in-Some.new.self c.args.name c.args.component c.in-Some.declaration c.push_not_null-pushed.new.declaration c.no_components.result
    c.self.invariant fits (sym c.in-Some.ensures.before) c.replace.ensures.replaced c.replace-in-Some.ensures.replaced c.push_not_null-pushed.result c.push_not_null-pushed.ensures.failed_structure
    c.push_not_null-pushed.ensures.failed_list)

pub returns-in-Some-clause-lists : goal.returns-in-Some-clause-lists
returns-in-Some-clause-lists c =
    let xs = c.self.inside.by_name in
    let fits = rw (← c.self.view_is) at c.requires.fits in
    rw (← c.self.view_is) (listed_lists xs c.replace.new.self c.replace-in-Some.new.self c.args.name c.args.component c.in-Some.declaration c.push_not_null-pushed.new.declaration c.no_components.result
    c.self.invariant fits (sym c.in-Some.ensures.before) c.replace.ensures.replaced c.replace-in-Some.ensures.replaced c.push_not_null-pushed.result
    (subst (λ m. OnOk c.push_not_null-pushed.result (c.push_not_null-pushed.new.declaration.not_null ≡ c.in-Some.declaration.not_null ++ m ∷ [])) c.in_ok-listed.ensures c.push_not_null-pushed.ensures.list))

-- none is there, so nothing was put in its place
pub invariant_of-self-in_err-structure-in-None : goal.invariant_of-self-in_err-structure-in-None
invariant_of-self-in_err-structure-in-None c =
    subst AreDeclarations (sym (c.replace.ensures.replaced ∙ set_nowhere (same_name c.args.name) c.self.inside.by_name c.no_components.result (sym c.in-None.ensures.before))) c.self.invariant

pub returns-in_err-structure-in-None-clause-failed : goal.returns-in_err-structure-in-None-clause-failed
returns-in_err-structure-in-None-clause-failed c =
    on_err c.from_residual-in_err-structure-in-None.result
    (ap declared (c.replace.ensures.replaced ∙ set_nowhere (same_name c.args.name) c.self.inside.by_name c.no_components.result (sym c.in-None.ensures.before)) ∙ c.self.view_is)

pub invariant_of-self-in_err-list-in-None : goal.invariant_of-self-in_err-list-in-None
invariant_of-self-in_err-list-in-None c =
    subst AreDeclarations (sym (c.replace.ensures.replaced ∙ set_nowhere (same_name c.args.name) c.self.inside.by_name c.no_components.result (sym c.in-None.ensures.before))) c.self.invariant

pub returns-in_err-list-in-None-clause-failed : goal.returns-in_err-list-in-None-clause-failed
returns-in_err-list-in-None-clause-failed c =
    on_err c.from_residual-in_err-list-in-None.result
    (ap declared (c.replace.ensures.replaced ∙ set_nowhere (same_name c.args.name) c.self.inside.by_name c.no_components.result (sym c.in-None.ensures.before)) ∙ c.self.view_is)

pub invariant_of-self-in-None : goal.invariant_of-self-in-None
invariant_of-self-in-None c =
    subst AreDeclarations (sym (c.replace.ensures.replaced ∙ set_nowhere (same_name c.args.name) c.self.inside.by_name c.no_components.result (sym c.in-None.ensures.before))) c.self.invariant

pub put_with-requires-clause-new_name : goal.put_with-requires-clause-new_name
put_with-requires-clause-new_name c =
    let xs = c.self.inside.by_name in
    ap (λ l. has_name c.args.name (declared l).sets) (c.replace.ensures.replaced ∙ set_nowhere (same_name c.args.name) xs c.no_components.result (sym c.in-None.ensures.before))
    ∙ not_there (declared xs).sets c.args.name (nothing_seen (same_name c.args.name) xs (sym c.in-None.ensures.before))

pub put_with-requires-clause-declarable : goal.put_with-requires-clause-declarable
put_with-requires-clause-declarable c = ap is_declarable c.in_ok-structure-in-None.ensures ∙ one_is_declarable c.args.component c.requires.fits.0

pub put_with-requires-clause-not_null : goal.put_with-requires-clause-not_null
put_with-requires-clause-not_null c =
    ap (λ s. are_not_null s c.in_ok-list-in-None.list.items) c.in_ok-structure-in-None.ensures
    ∙ ap (are_not_null (structure_of (c.args.component ∷ []))) (c.in_ok-list-in-None.ensures ∙ ap (λ n. n ∷ []) c.in_ok-listed.ensures) ∙ one_fits c.args.component c.requires.value

pub returns-in_ok-list-in-None-clause-added : goal.returns-in_ok-list-in-None-clause-added
returns-in_ok-list-in-None-clause-added c =
    let xs = c.self.inside.by_name in
    let same = ap (λ l. (declared l).sets) (c.replace.ensures.replaced ∙ set_nowhere (same_name c.args.name) xs c.no_components.result (sym c.in-None.ensures.before)) in
    rw (← c.self.view_is)
    (began (declared xs).sets (declared c.replace.new.self).sets c.put_with.new.self.sets c.args.name c.args.component c.in_ok-structure-in-None.structure c.put_with.result same
    (nothing_seen (same_name c.args.name) xs (sym c.in-None.ensures.before)) c.in_ok-structure-in-None.ensures c.put_with.ensures.put)

pub returns-in_ok-list-in-None-clause-lists : goal.returns-in_ok-list-in-None-clause-lists
returns-in_ok-list-in-None-clause-lists c =
    let xs = c.self.inside.by_name in
    let same = c.replace.ensures.replaced ∙ set_nowhere (same_name c.args.name) xs c.no_components.result (sym c.in-None.ensures.before) in
    rw (← c.self.view_is)
    (began_lists xs (declared c.replace.new.self).not_null c.put_with.new.self.not_null (declared c.replace.new.self).sets c.put_with.new.self.sets c.args.name c.args.component.name c.in_ok-structure-in-None.structure
    c.in_ok-list-in-None.list.items c.put_with.result c.self.invariant (not_there (declared xs).sets c.args.name (nothing_seen (same_name c.args.name) xs (sym c.in-None.ensures.before)))
    (ap (λ l. (declared l).not_null) same) (ap (λ l. (declared l).sets) same) (c.in_ok-list-in-None.ensures ∙ ap (λ n. n ∷ []) c.in_ok-listed.ensures) c.put_with.ensures.put c.put_with.ensures.lists)

pub returns-in_ok-list-in-None-clause-failed : goal.returns-in_ok-list-in-None-clause-failed
returns-in_ok-list-in-None-clause-failed c =
    let xs = c.self.inside.by_name in
    let same = ap declared (c.replace.ensures.replaced ∙ set_nowhere (same_name c.args.name) xs c.no_components.result (sym c.in-None.ensures.before)) in
    rw (← c.self.view_is) (kept_same (declared xs) (declared c.replace.new.self) c.put_with.new.self c.put_with.result same c.put_with.ensures.failed)
