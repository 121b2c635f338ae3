use Rattle.vtl_rulings.proofs.HierarchyProfiles.{check_hierarchy_profile, hierarchy_profile}
use Rattle.vtl_rulings.proofs.Profiles.{check_profile, datapoint_profile}
use Rattle.vtl_rulings.proofs.laws.checks_are_of_the_profile.Goals as goal

pub returns-clause-datapoint : goal.returns-clause-datapoint
returns-clause-datapoint c = λ p o rules a s d i h. datapoint_profile p o rules a d i.typed h

pub returns-clause-check : goal.returns-clause-check
returns-clause-check c = λ p spec imbalance a s d i h. check_profile p spec a imbalance d i.level h

pub returns-clause-hierarchy : goal.returns-clause-hierarchy
returns-clause-hierarchy c = λ p o h m rules a d t. check_hierarchy_profile p a d t o h m rules

pub returns-clause-computed : goal.returns-clause-computed
returns-clause-computed c = λ p h m i rules a s o d t. hierarchy_profile p a d t h m i rules o s
