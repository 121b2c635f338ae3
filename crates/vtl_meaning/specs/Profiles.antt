-- Environments whose integers are all of the profile.
use Rattle.std.specs.List.{AllByRecursion}
use Rattle.vtl_decimal.specs.Settings.{Settings}
use Rattle.vtl_tree.specs.DataSet.{AreOfProfile}
use Rattle.vtl_tree.specs.Environment.{Environment}

-- each data set holds integers of the profile alone
abbrev pub AllAreOfProfile : Settings → Environment → Type 0
AllAreOfProfile p env = AllByRecursion (λ d. AreOfProfile p d.1.points) env
