-- The types of the code in which list units keep what they keep, and in which a step is reported.
pub use Rattle.field_words.specs.declared.access.{Access.Access, Way.TheVariants.Read, Way.TheVariants.Write, Way.TheVariants.Wild}
pub use Rattle.machine_plan.specs.declared.{launch.Free.Free, launch.Launch.Launch, who.Who.Who}
pub use Rattle.packets.specs.declared.config.Config.{Config}
pub use Rattle.list_machine.specs.declared.state.{Binner.Binner, Found.Found, Frame.Frame, Item.Item, Kept.Kept, Load.Load, Spot.Spot}
pub use Rattle.list_machine.specs.declared.state.{Primitive.Primitive, Program.Program, Renderer.Renderer, SubList.SubList, Work.Work}
pub use Rattle.list_machine.specs.declared.state.Load.TheVariants.{Full, General}
pub use Rattle.list_machine.specs.declared.state.Program.TheVariants.{Fragment, Vertex, Coordinate}
pub use Rattle.list_machine.specs.declared.surface.Cover.{Cover}
