-- The day, by computing.
use Rattle.std.proofs.Common.{[], ◌∷◌, refl}
use Rattle.field_words.specs.Words.{u32_at, rounded_up}
use Rattle.packets.specs.Length.{bin_length, bin_taken}
use Rattle.packets.specs.Config.{config_in}
use Rattle.packets.specs.StateWord.{attribute_count, is_extended}
use Rattle.machine_plan.specs.Memory.{bytes_at, bytes_stored as put}
use Rattle.list_machine.specs.Blocks.{tiles_of, further_offset, has_room}
use Rattle.list_machine.specs.Binner.{clear_plan, read_plan}
use Rattle.list_machine.specs.Fetch.{data_place, extended_plan, attribute_plan, attributes_plan, fetch_plan}
use Rattle.list_machine.specs.Start.{launch_plan, start_as, start_plan}
use Rattle.machine.specs.Step.{is_enabled, ready, turn}
use Rattle.day_law.proofs.Again.{all_none, none_there, none_written}
use Rattle.example_day.specs.Shown.{ADayHappens}
use Rattle.example_day.proofs.Begins.{begins_1, begins_2}
use Rattle.qpu_machine.proofs.Opened.{turns}
use Rattle.list_machine.proofs.Opened.{binner, fetch}

pub day_happens : ADayHappens
unfolding u32_at rounded_up bytes_at is_enabled turn bin_length bin_taken config_in attribute_count is_extended put tiles_of further_offset has_room clear_plan read_plan data_place extended_plan attribute_plan attributes_plan fetch_plan launch_plan start_as start_plan ready turns binner fetch
day_happens = record {
  may = (
    record { begins = begins_1; plain = λ place size named. absurd named; spares = λ j p only. absurd only.reaches; spared = λ j p only written. written },
    (
      refl,
      (
        refl,
        (
          refl,
          (
            refl,
            (
              refl,
              (
                refl,
                (
                  record { started = record { launch = _; is = refl }; a = refl; b = refl },
                  (
                    refl,
                    (
                      refl,
                      (
                        refl,
                        (
                          refl,
                          (
                            refl,
                            (
                              record { binner = refl; renderer = refl; qpus = all_none 0 12 },
                              (
                                record { long = refl; same = λ p lies out. absurd lies },
                                (
                                  record { begins = begins_2; plain = λ place size named. absurd named; spares = λ j p only. absurd (none_there [] j p only); spared = λ j p only written. none_written j p written },
                                  (refl, tt),
                                ),
                              ),
                            ),
                          ),
                        ),
                      ),
                    ),
                  ),
                ),
              ),
            ),
          ),
        ),
      ),
    ),
  );
  starts = refl;
  finds = refl;
  moves = refl;
  ends = refl;
  steps = refl;
  serves = refl;
}
