use Rattle.vtl_index.proofs.KeyGroups.{are_leads, keys_once, rows_of_key}
use Rattle.vtl_index.proofs.laws.groups_are_keys.Goals as goal

pub returns-clause-leads : goal.returns-clause-leads
returns-clause-leads c = are_leads

pub returns-clause-keys : goal.returns-clause-keys
returns-clause-keys c = keys_once

pub returns-clause-rows : goal.returns-clause-rows
returns-clause-rows c = rows_of_key
