-- What S finds has the shape that the check asks.
use Rattle.job_format.specs.Parts.{parts_view}
use Rattle.shader_records.specs.Inputs.{shaders_view, AreShaped}
use Rattle.shader_records.proofs.Shaders.{all_shaped}
use Rattle.job_check.specs.{Shaders.table_of, Shaders.AreShadersIn, Faults.shaders_stage}
use Rattle.job_check.proofs.Order.{ok_of}
use Rattle.job_check.proofs.region.reported_shaders.Goals as goal

pub returns-in-None-clause-shaped : goal.returns-in-None-clause-shaped
returns-in-None-clause-shaped c =
    let f = parts_view c.args.file.now in
    ok_of (shaders_stage f) (λ shaders. AreShadersIn f (shaders_view shaders.items)) (λ shaders. AreShaped (table_of f) (shaders_view shaders.items))
    c.shaders_stage.result c.shaders_stage.ensures.answers (λ shaders are. all_shaped (table_of f) (shaders_view shaders.items) are.sound)
