-- The text of all accesses of a run.
use Rattle.std.specs.{Prelude.ℕ, Prelude.false, Prelude.List, Prelude.◌++◌, Prelude.codes, Fmt.decimal, Fmt.digits, List.flat_map}
use Rattle.field_words.specs.declared.access.Way.TheVariants.{Read, Write, Wild}
use Rattle.field_words.specs.declared.access.Way.{Way}
use Rattle.job_format.specs.Model.{FileModel}
use Rattle.relocation.specs.declared.layout.Layout.{Layout}
use Rattle.replay.specs.{declared.logged.Log.Log as TheLog, declared.logged.Logged.Logged}
use Rattle.dumper.specs.{Text.place_text, Trace.unit_text, Trace.ending_text}
use Rattle.run_text.specs.declared.spot.Spot.TheVariants.{Slot, BinList, Records, Uniforms, RenderList, Spare, InBuffer, Nowhere}
use Rattle.run_text.specs.{declared.spot.Spot.Spot as TheSpot, Spot.spot_of}

-- so many bytes into a thing: "buffer 3 + 0x40"
unfoldable pub offset_text : (name : List ℕ) → (number offset : ℕ) → List ℕ
offset_text name number offset = name ++ (decimal number ++ (codes " + 0x" ++ digits 16 false offset))

unfoldable pub spot_text : TheSpot → List ℕ
spot_text (Slot slot offset) = offset_text (codes "slot ") slot offset
spot_text (BinList job offset) = offset_text (codes "binner list of job ") job offset
spot_text (Records job offset) = offset_text (codes "records of job ") job offset
spot_text (Uniforms job offset) = offset_text (codes "uniforms of job ") job offset
spot_text (RenderList job offset) = offset_text (codes "renderer list of job ") job offset
spot_text Spare = codes "no list"
spot_text (InBuffer number offset) = offset_text (codes "buffer ") number offset
spot_text Nowhere = codes "nothing"

abbrev pub way_text : Way → List ℕ
way_text Read = codes " read "
way_text Write = codes " write "
way_text Wild = codes " wild "

-- the step's number, from 0 on, and who accesses, for which job
unfoldable pub actor_text : Logged → List ℕ
actor_text logged = decimal logged.step ++ (codes " " ++ (unit_text logged.access.unit ++ (codes " job " ++ decimal logged.access.job)))

-- what is done, from which place on and with how many bytes
unfoldable pub reach_text : Logged → List ℕ
reach_text logged = way_text logged.access.way ++ (place_text logged.access.place ++ (codes " " ++ decimal logged.access.len))

-- the line of an access: "17 qpu3 job 0 read 0010a040 16 buffer 3 + 0x40"
unfoldable pub access_text : FileModel → List Layout → Logged → List ℕ
access_text file layouts logged =
    actor_text logged ++ (reach_text logged ++ (codes " " ++ (spot_text (spot_of file layouts logged.access.place) ++ codes "\n")))

-- a line for each access, in order, and how the run ended, after how many steps
unfoldable pub log_text : FileModel → List Layout → TheLog → List ℕ
log_text file layouts log = flat_map (access_text file layouts) log.accesses.items ++ ending_text log.ending log.steps
