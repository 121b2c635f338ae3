use Rattle.std.proofs.Common.{◌≡◌, ℕ, ◌+◌, ◌<◌, List, ◌∷◌, ◌++◌, length, map, sym, ap, subst, All, ◌∙◌}
use Rattle.std.specs.Prelude.{IfOk}
use Rattle.vtl_rows.specs.Gathered.{picked_kind}
use Rattle.vtl_rows.specs.declared.gather.Pick.{Pick}
use Rattle.vtl_tree.specs.declared.structure.Role.TheVariants as role
use Rattle.vtl_meaning.specs.Joined.{structures_of}
use Rattle.vtl_rows.specs.Tables.{listed}
use Rattle.vtl_join.specs.Gatherings.{gathers}
use Rattle.vtl_join.specs.Joining.{sets_of}
use Rattle.vtl_join.specs.Picks.{picks_from, table_of}
use Rattle.vtl_join.proofs.Closed.{roles_below}
use Rattle.vtl_join.proofs.PickKinds.{kinds_behind}
use Rattle.vtl_join.proofs.closing.cross_gathering.Goals as goal

pub of-requires-clause-within : goal.of-requires-clause-within
of-requires-clause-within c =
    let os = c.args.operands.now in
    let ids = c.in_ok-push_role.ensures ∙ ap (λ l. l ++ picks_from role.Identifier 1 (structures_of (sets_of os))) c.new-identifiers.ensures.items in
    subst (λ (ps : List Pick). All (λ p. p.part < length os + 1) ps) (sym ids) (roles_below os)

pub of-requires-clause-identifiers : goal.of-requires-clause-identifiers
of-requires-clause-identifiers c =
    let ds = sets_of c.args.operands.now in
    let ids = c.in_ok-push_role.ensures ∙ ap (λ l. l ++ picks_from role.Identifier 1 (structures_of ds)) c.new-identifiers.ensures.items in
    ap (λ (ps : List Pick). map (picked_kind (listed c.args.lead.now ∷ map table_of ds)) ps) ids ∙ kinds_behind role.Identifier (listed c.args.lead.now) ds c.operands_are_sets.ensures ∙ sym c.requires.made.identifiers

pub returns : goal.returns
returns c =
    let os = c.args.operands.now in
    let ids = c.in_ok-push_role.ensures ∙ ap (λ l. l ++ picks_from role.Identifier 1 (structures_of (sets_of os))) c.new-identifiers.ensures.items in
    subst (λ (ps : List Pick). IfOk c.of.result (λ g. g ≡ gathers (listed c.args.lead.now) (sets_of os) ps c.args.made.now)) ids c.of.ensures
