-- The types of the code in which processors keep what they keep, and in which a step is reported.
pub use Rattle.field_words.specs.declared.access.{Access.Access, Way.TheVariants.Read, Way.TheVariants.Write, Way.TheVariants.Wild}
pub use Rattle.machine_plan.specs.declared.{launch.Free.Free, launch.Launch.Launch, launch.Slot.Slot, who.Who.Who}
pub use Rattle.qpu_machine.specs.declared.state.{Ask.Ask, Asked.Asked, Fate.Fate, Leaves.Leaves, Mark.Mark, Qpu.Qpu, Request.Request, Thread.Thread}
pub use Rattle.qpu_machine.specs.declared.state.Ask.TheVariants.{Direct, Texture}
pub use Rattle.qpu_machine.specs.declared.state.Fate.TheVariants.{GoesOn, Switches, Ends}
