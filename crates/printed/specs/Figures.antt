-- Lines as text: those of 01's example, and coordinates at the ends of their range; and an input with two replies.
use Rattle.std.specs.Prelude.{◌≡◌, refl, List, [], ◌∷◌, ◌++◌, ℕ, pos, neg_ℤ}
use Prim.Native.String.{String}
use Rattle.hpgl.specs.Trace.{bytes_from, bytes}
use Rattle.textlines.specs.Text.{line_end, stroke_text, refusal_text}
use Rattle.decimals.specs.Decimal.{digits_within, decimal, natural, whole}
use Rattle.exact.specs.Whole.{◌<?◌, ◌≤?◌, ◌≡?◌}
use Rattle.exact.specs.Divide.{nearest_div}
use Rattle.numerals.specs.Bytes.{low_class_of, class_of}
use Rattle.numerals.specs.Number.{start_of, point_of, counted_of, digit_of, unit_of, ten_thousandths, signed_of, largest_of, carry_of, nearest_of, finish_of}
use Rattle.mnemonics.specs.Table.{cell_of, named_of, find_from, find_of, is_label, count_fits, has_room, takes_pairs, known_in_polygon, changes_settings}
use Rattle.reader.specs.Reader.{event_number, none_of, stored_of, pair_of, fresh_reader, go_on_of, quiet_of, refuse_of, begin_of, open_of, with_numbers}
use Rattle.reader.specs.Step.{found_of, name_of, kept_of, judged_of, closed_of, end_of, complete_of, ending_of, after_number_of, close_with, close_of, idle_of, first_of, parameters_of, in_number_of, pass_over_of, by_mode, step_of, passed_mode, passed_over}
use Rattle.reader.specs.Inside.{inside}
use Rattle.clip.specs.Clip.{extent, steps, axis_entry, larger, entry, toward, axis_place, place, clip}
use Rattle.turns.specs.Turn.{turns, turn_of, turned_of}
use Rattle.plane.specs.Position.{axis_of, absolute_of, location_of, in_range_of}
use Rattle.turns.specs.Limits.{intersection_of, limits_of}
use Rattle.hpgl.specs.Place.{axis_x, axis_y, exact_position, location, in_range, absolute_position, rest_at, page_point, limits}
use Rattle.hpgl.specs.Rules.{done, refuse, fresh_settings, no_polygon, fresh_carriage, fresh_core, letters, name_rule, int16, set_pen, sp_rule, inked, move_to, aimed, go_to, pair_rule, oa_rule, oe_rule, noting, noted, end_rule, act_on}
use Rattle.hpgl.specs.Replies.{place_told, refusal_told, numbers_told, text_of, reply_text, remembered, remembering}
use Rattle.hpgl.specs.Machine.{rect, good_limits, hard_limits, fresh_state, waiting, replied, replying, occupied, stored, queued, reader_after, applied, acted, take_state, take_number, stroke_of, shown, work_after, draw_work, draw_state, draw_answer, fetch_state, fetched_of, fetch_text}
use Rattle.printed.specs.Printed.{drawn_line, byte_line, drawn_lines, printed}

abbrev line : String → List ℕ
line s = bytes s ++ (line_end ∷ [])

pub example : stroke_text (pos 1) (pos 0) (pos 0) (pos 100) (pos 50) ++ stroke_text (pos 1) (pos 100) (pos 50) (pos 10000) (pos 50) ++ refusal_text 1 35
    ≡ line "1 0 0 100 50" ++ line "1 100 50 10000 50" ++ line "E 1 35"
unfolding bytes_from bytes digits_within decimal natural whole stroke_text refusal_text
example = refl

pub ends : stroke_text (pos 8) (neg_ℤ (pos 32768)) (pos 32767) (neg_ℤ (pos 1)) (pos 10) ≡ line "8 -32768 32767 -1 10"
unfolding bytes_from bytes digits_within decimal natural whole stroke_text refusal_text
ends = refl

-- "fetches and prints each reply as soon as it is made": in its place among the lines, with 13 and 10 after it, and the last one before any other byte comes
pub replies : printed (fresh_state (rect (pos 0) (pos 0) (pos 9) (pos 9))) (bytes "SP1;PD5,0;OA;XX;PD;OE;") 0
    ≡ line "1 0 0 5 0" ++ bytes "5,0,1" ++ (13 ∷ 10 ∷ []) ++ line "E 1 15" ++ bytes "1" ++ (13 ∷ 10 ∷ [])
unfolding ◌<?◌ ◌≤?◌ ◌≡?◌ nearest_div low_class_of class_of start_of point_of counted_of digit_of unit_of ten_thousandths signed_of largest_of carry_of nearest_of finish_of cell_of named_of find_from find_of is_label count_fits has_room takes_pairs known_in_polygon changes_settings event_number none_of stored_of pair_of fresh_reader go_on_of quiet_of refuse_of begin_of open_of with_numbers found_of name_of kept_of judged_of closed_of end_of complete_of ending_of after_number_of close_with close_of idle_of first_of parameters_of in_number_of pass_over_of by_mode step_of passed_mode passed_over inside extent steps axis_entry larger entry toward axis_place place clip turns turn_of turned_of axis_of absolute_of location_of in_range_of intersection_of limits_of axis_x axis_y exact_position location in_range absolute_position rest_at page_point limits done refuse fresh_settings no_polygon fresh_carriage fresh_core letters name_rule int16 set_pen sp_rule inked move_to aimed go_to pair_rule oa_rule oe_rule noting noted end_rule act_on place_told refusal_told numbers_told text_of reply_text remembered remembering good_limits hard_limits fresh_state waiting replied replying occupied stored queued reader_after applied acted take_state take_number stroke_of shown work_after draw_work draw_state draw_answer fetch_state fetched_of fetch_text digits_within decimal natural whole stroke_text refusal_text bytes_from bytes drawn_line byte_line drawn_lines printed
replies = refl
