-- the ledger of the shader's steps
use Rattle.shader_check.proofs.check.check_code.Given as goal

abbrev pub ghosts-counted : goal.ghosts-counted
ghosts-counted a = record { name = a.blank.name; parts = a.blank.parts }
