use Rattle.std.proofs.Common.{length}
use Rattle.tile_convert.proofs.Levels.{found_there}
use Rattle.tile_convert.proofs.level.extract.Goals as goal

pub level_picture-requires-clause-listed : goal.level_picture-requires-clause-listed
level_picture-requires-clause-listed c =
    (found_there c.of-texture.result _ _ _ _ (length c.args.bytes.now) c.args.face c.args.level c.level_fault.result c.of-texture.ensures.decoded c.level_fault.ensures c.in-None.is).listed

pub level_picture-requires-clause-inside : goal.level_picture-requires-clause-inside
level_picture-requires-clause-inside c =
    (found_there c.of-texture.result _ _ _ _ (length c.args.bytes.now) c.args.face c.args.level c.level_fault.result c.of-texture.ensures.decoded c.level_fault.ensures c.in-None.is).inside

pub level_picture-requires-clause-face : goal.level_picture-requires-clause-face
level_picture-requires-clause-face c =
    (found_there c.of-texture.result _ _ _ _ (length c.args.bytes.now) c.args.face c.args.level c.level_fault.result c.of-texture.ensures.decoded c.level_fault.ensures c.in-None.is).has_face

pub level_picture-requires-clause-level : goal.level_picture-requires-clause-level
level_picture-requires-clause-level c =
    (found_there c.of-texture.result _ _ _ _ (length c.args.bytes.now) c.args.face c.args.level c.level_fault.result c.of-texture.ensures.decoded c.level_fault.ensures c.in-None.is).has_level
