-- What the functions of a module open.
use Rattle.std.specs.Prelude.{⊤}
use Rattle.list_machine.specs.Binner.{primitive_of, is_unknown, is_due, one_done, not_due, chosen_tile, config_set, with_word, after_start, draw_plan, work_of, packet_plan, after_halt, tile_plan, work_plan, work_may, binner_ready, binner_plan}
use Rattle.field_words.specs.Words.{u32_at, u16_at}
use Rattle.list_machine.specs.Fetch.{index_size, index_in, index_plan, draws_nothing, record_place, attribute_place, extension_place, stride_of, data_plan, data_size, indexed_plan}
use Rattle.packets.specs.StateWord.{attribute_count, is_extended}
use Rattle.list_machine.specs.Store.{chosen_byte}
use Rattle.list_machine.specs.Surfaces.{cover_written, cover_read, aligned_address, names_none, general_written, general_read, frame_written, whole_read}

unfoldable pub binner : ⊤
unfolding primitive_of u32_at is_unknown is_due one_done not_due chosen_tile config_set with_word after_start draw_plan work_of packet_plan after_halt tile_plan work_plan work_may binner_ready binner_plan
binner = tt

unfoldable pub fetch : ⊤
unfolding index_size index_in u16_at index_plan draws_nothing record_place attribute_count is_extended attribute_place extension_place stride_of data_plan data_size indexed_plan
fetch = tt

unfoldable pub parts : ⊤
unfolding chosen_byte cover_written cover_read aligned_address names_none general_written general_read frame_written whole_read
parts = tt
