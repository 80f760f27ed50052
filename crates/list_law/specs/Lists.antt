-- What stands of all that a job's list units keep.
use Rattle.std.specs.Prelude.{◌≡◌, ◌⊎◌, ℕ, Bool, true, List, Some, IfSome}
use Rattle.machine_plan.specs.{declared.launch.Launch.Launch, Regions.Rights}
use Rattle.packets.specs.declared.config.Config.{Config}
use Rattle.list_machine.specs.{declared.state.Frame.Frame, Lists.Lists, Lists.Turned}
use Rattle.list_law.specs.{Binning.OnWay, Binning.WorkFine, Binning.LogFine, Binning.IsOnly, Rendering.RenderWay}

-- `waited` says whether the renderer waited for the binner, which no unit keeps. The semaphore isn't zero only where the
-- tile lists are closed, the renderer has waited only there, and they are closed only under the job's configuration.
pub record ListsFine (r : Rights) (K : List ℕ → Type 0) (O : Launch → Type 0) (c : Config) (f : Frame) (s : Lists) : Type 0 where
  pub waited : Bool
  pub binner : OnWay r K O c s.binner.place s.binner.end s.binner.kept
  pub work : IfSome s.binner.work (WorkFine r K O)
  pub configs : IsOnly c s.binner.kept.config
  pub log : LogFine r K O c s.items
  pub renderer : RenderWay r K c f s.renderer waited
  pub counted : (s.semaphore ≡ 0) ⊎ (s.closed ≡ true)
  pub passed : waited ≡ true → s.closed ≡ true
  pub closed : s.closed ≡ true → s.binner.kept.config ≡ Some c

-- a step came to that again, and the program that it starts, where it starts one, may be started
pub record TurnedFine (r : Rights) (K : List ℕ → Type 0) (O : Launch → Type 0) (c : Config) (f : Frame) (turned : Turned) : Type 0 where
  pub lists : ListsFine r K O c f turned.lists
  pub launch : IfSome turned.launch O
