use Rattle.strict_law.proofs.RoleRuns.{runs_keep_roles_law}
use Rattle.strict_law.proofs.runs_keep_roles.Goals as goal

pub returns : goal.returns
returns c = runs_keep_roles_law
