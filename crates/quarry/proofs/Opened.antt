-- One name that opens every definition, for where a case is computed. Assumes nothing.
use Rattle.rules.specs.Lists.{same, member, without, all, any, pairwise, first_failing, first_clash, keep, first}
use Rattle.rules.specs.Bytes.{little_endian, bytes_of, field, block, up_to_zero, multiple}
use Rattle.rules.specs.Answers.{unless, ◌>>=◌}
use Rattle.rules.specs.Numbers.{length_right, granule_right, address_right, addresses_right}
use Rattle.rules.specs.Table.{entry, entries_from, entry_count, entries, name, boot_info, factory_image, spt0_name, spt1_name, cpb0_name, cpb1_name, six_names, has_name, is_fixed_name, no_entry, named, cpb0_of, cpb1_of, magic_right, header_right, count_right, name_right, names_differ, range_aligned, range_inside, ranges_apart, six_named, boot_info_at_0, tables_as_told, on_granules, blocks_on_granules, entries_stand, table_stands, if_named, starts_at, boot_info_right, table_as_told, block_on_granules, broken_unless, entries_fault, fault, is_slot, slots, slot_starts, starts}
use Rattle.rules.specs.Pointers.{place_offset, place_count, offset_right, fits_room, pointers_stand, values, places, all_ones, all_zeros, top_byte_erased, one_more, slot_at, live_or, judged, is_erased, slot_given, gives, add_last, order}
use Rattle.rules.specs.Copies.{copy_read, both_faults, no_table, table_read, pointers_read, view_through, view, order_by, boot_order, pair_agrees, tables_agree, pointers_agree, agree_by, agreed, pairs_agree, dump_stands, standing_dump}
use Rattle.rules.specs.Readers.{order_in, order_list, row_after, table_of, table_part, slot_count, slot_row, slot_entry, info, slot_there, slot_info, name_in, slot_name}
use Rattle.rules.specs.Steps.{programmed, wiped, step, steps, programs, rewrite, rewrite_pair}
use Rattle.rules.specs.Commands.{pointer_bytes, filled, pointers_of, reorder_steps, below, free_place, is_first, into_place, append_steps, slot_empty, enough_places, enable_steps, giving, into_places, clear_steps, half_cleared_names, disable_steps, padded_name, put_name, name_allowed, name_free, has_already, rename_steps, with_rows, row_bytes, new_range, may_start, upward, candidates, has_start, lowest_start, new_row, with_new_row, created_start, size_right, create_steps, without_row, delete_steps, repair_pair, repair_steps, job, start}
use Rattle.rules.specs.Cuts.{run, inside, may_run, runs, wiped_where, half_done, dropped}
use Rattle.rules.specs.Book.{read_by, reading, how_ended, progress, left_by, flash_after, ended_by, outcome, renamed, start_by, start_for, lowered, changed, booked}
use Rattle.rules.specs.Final.{put_at, put_block, put_pair, put_places, put_places_pair, enabled, disabled, with_new_name, repaired, final}
use Rattle.quarry.specs.Quarry.{quarry_setting, padded, entry_bytes, quarry_table, shaped_pointers, quarry_pointers, image, quarry_with, quarry, sent_slot, sent_slots, quarry_sent, quarry_p3, quarry_used_to, quarry_shaped, quarry_0x28, quarry_one_place, quarry_four_places, quarry_two_shapes, quarry_moved, shorter_table, quarry_held, more_entries, longer_table}
use Rattle.quarry.specs.Rows.{place_address, first_programs, takes_place, as_expected, is_order, has_entries, ended, left_after, command_holds, holds_from, holds}

unfoldable pub rules : Unit {0}
unfolding same member without all any pairwise first_failing first_clash keep first little_endian bytes_of field block up_to_zero multiple unless length_right granule_right address_right addresses_right entry entries_from entry_count entries name boot_info factory_image spt0_name spt1_name cpb0_name cpb1_name six_names has_name is_fixed_name no_entry named cpb0_of cpb1_of magic_right header_right count_right name_right names_differ range_aligned range_inside ranges_apart six_named boot_info_at_0 tables_as_told on_granules blocks_on_granules entries_stand table_stands if_named starts_at boot_info_right table_as_told block_on_granules broken_unless entries_fault fault is_slot slots slot_starts starts place_offset place_count offset_right fits_room pointers_stand values places all_ones all_zeros top_byte_erased one_more slot_at live_or judged is_erased slot_given gives add_last order copy_read both_faults no_table table_read pointers_read view_through view order_by boot_order pair_agrees tables_agree pointers_agree agree_by agreed pairs_agree dump_stands standing_dump order_in order_list row_after table_of table_part slot_count slot_row slot_entry info slot_there slot_info name_in slot_name programmed wiped step steps programs rewrite rewrite_pair pointer_bytes filled pointers_of reorder_steps below free_place is_first into_place append_steps slot_empty enough_places enable_steps giving into_places clear_steps half_cleared_names disable_steps padded_name put_name name_allowed name_free has_already rename_steps with_rows row_bytes new_range may_start upward candidates has_start lowest_start new_row with_new_row created_start size_right create_steps without_row delete_steps repair_pair repair_steps job start run inside may_run runs wiped_where half_done dropped read_by reading how_ended progress left_by flash_after ended_by outcome renamed start_by start_for lowered changed booked put_at put_block put_pair put_places put_places_pair enabled disabled with_new_name repaired final quarry_setting padded entry_bytes quarry_table shaped_pointers quarry_pointers image quarry_with quarry sent_slot sent_slots quarry_sent quarry_p3 quarry_used_to quarry_shaped quarry_0x28 quarry_one_place quarry_four_places quarry_two_shapes quarry_moved shorter_table quarry_held more_entries longer_table place_address first_programs takes_place as_expected is_order has_entries ended left_after command_holds holds_from holds
rules = tt
