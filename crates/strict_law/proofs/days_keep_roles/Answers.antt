use Rattle.strict_law.proofs.RoleRuns.{days_keep_roles_law}
use Rattle.strict_law.proofs.days_keep_roles.Goals as goal

pub returns : goal.returns
returns c = days_keep_roles_law
