-- The structure that a form gives is one.
use Rattle.std.proofs.Common.{◌≡◌, List, [], ◌∷◌, Some, sym, ◌∙◌}
use Rattle.vtl_decimal.specs.Settings.{Settings}
use Rattle.vtl_tree.specs.Structures.{Named}
use Rattle.vtl_tree.specs.declared.structure.Structure.{Structure}
use Rattle.vtl_tree.specs.Trees as nodes
use Rattle.vtl_tree.specs.Trees.{FormTree}
use Rattle.vtl_meaning.specs.Made.{AreCombined}
use Rattle.vtl_meaning.proofs.Determined.{same_shape}
use Rattle.vtl_timing.proofs.Timed.{timed_shape}
use Rattle.vtl_scripts.specs.Made.{IsMadeForm, node_structures}

pub combined_shape : (ss : List Structure) (s t : Structure) → AreCombined ss s → AreCombined ss t → s ≡ t
combined_shape [] s t h k = absurd h
combined_shape (a ∷ bs) s t h k = same_shape s t _ h.shape k.shape

pub form_shape : (p : Settings) (known : Named) (s t : Structure) (form : FormTree) → IsMadeForm p known s form → IsMadeForm p known t form → s ≡ t
form_shape p known s t (nodes.named name) h k = let e : Some s ≡ Some t = sym h ∙ k in cc
form_shape p known s t (nodes.measures m a) h k = same_shape s t _ h.1.shape k.1.shape
form_shape p known s t (nodes.pair o a c) h k = same_shape s t _ h.2.shape k.2.shape
form_shape p known s t (nodes.choose c a d) h k = same_shape s t _ h.3.shape k.3.shape
form_shape p known s t (nodes.member a m) h k = same_shape s t _ h.2.shape k.2.shape
form_shape p known s t (nodes.filter a e) h k = h.1.same ∙ sym k.1.same
form_shape p known s t (nodes.calc a items) h k = same_shape s t _ h.1.shape k.1.shape
form_shape p known s t (nodes.keep a names) h k = same_shape s t _ h.2.shape k.2.shape
form_shape p known s t (nodes.drop_named a names) h k = same_shape s t _ h.2.shape k.2.shape
form_shape p known s t (nodes.rename a pairs) h k = same_shape s t _ h.2 k.2
form_shape p known s t (nodes.sub a items) h k = same_shape s t _ h.1.shape k.1.shape
form_shape p known s t (nodes.pivot a id m) h k = same_shape s t _ h.1.shape k.1.shape
form_shape p known s t (nodes.unpivot a id m) h k = same_shape s t _ h.1.shape k.1.shape
form_shape p known s t (nodes.join os spec) h k = same_shape s t _ h.2 k.2
form_shape p known s t (nodes.union ns) h k = combined_shape (node_structures ns) s t h.1 k.1
form_shape p known s t (nodes.intersect ns) h k = combined_shape (node_structures ns) s t h.1 k.1
form_shape p known s t (nodes.set_diff a c) h k = same_shape s t _ h.2.shape k.2.shape
form_shape p known s t (nodes.sym_diff a c) h k = same_shape s t _ h.2.shape k.2.shape
form_shape p known s t (nodes.exists_in a c r) h k = same_shape s t _ h.2.shape k.2.shape
form_shape p known s t (nodes.aggregate a spec) h k = same_shape s t _ h.1.aggregated.shape k.1.aggregated.shape
form_shape p known s t (nodes.analytic_of a spec) h k = same_shape s t _ h.1.analyzed.shape k.1.analyzed.shape
form_shape p known s t (nodes.time a o) h k = timed_shape o _ s t h.1.given k.1.given
form_shape p known s t (nodes.check a m spec) h k = same_shape s t _ h.2.shape k.2.shape
form_shape p known s t (nodes.check_datapoint a rules o) h k = same_shape s t _ h.1.shape k.1.shape
form_shape p known s t (nodes.check_hierarchy a rules m o) h k = same_shape s t _ h.1.shape k.1.shape
form_shape p known s t (nodes.hierarchy a rules m i o) h k = same_shape s t _ h.1.shape k.1.shape
