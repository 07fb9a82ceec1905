use Rattle.kt_split.specs.RunNeeds.{each_loads, each_within}
use Rattle.kt_split.proofs.run_laws.tools_of_a_run_need_no_more.Goals as goal

pub returns-clause-within : goal.returns-clause-within
returns-clause-within c = each_within

pub returns-clause-loads : goal.returns-clause-loads
returns-clause-loads c = each_loads
