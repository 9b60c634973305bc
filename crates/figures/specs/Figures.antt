-- The definitions compute every row of the table: one theorem, and one list of what is computed.
use Rattle.std.specs.Prelude.{◌≡◌, refl}
use Rattle.std.specs.Float.Ieee.{round}
use Rattle.exact.specs.Whole.{◌<?◌, ◌≤?◌, ◌≡?◌}
use Rattle.exact.specs.Divide.{nearest_div}
use Rattle.numerals.specs.Bytes.{low_class_of, class_of}
use Rattle.numerals.specs.Number.{start_of, point_of, counted_of, past_of, digit_of, unit_of, ten_thousandths, signed_of, largest_of, carry_of, nearest_of, finish_of}
use Rattle.mnemonics.specs.Table.{cell_of, named_of, find_from, find_of, is_label, count_fits, has_room, takes_pairs, known_in_polygon, changes_settings}
use Rattle.reader.specs.Reader.{event_number, none_of, stored_of, pair_of, fresh_reader, go_on_of, quiet_of, refuse_of, begin_of, open_of, with_numbers}
use Rattle.reader.specs.Step.{found_of, name_of, kept_of, judged_of, closed_of, end_of, complete_of, ending_of, after_number_of, close_with, close_of, idle_of, first_of, parameters_of, in_number_of, pass_over_of, label_of, by_mode, step_of, passed_mode, passed_over}
use Rattle.reader.specs.Inside.{inside}
use Rattle.sines.specs.Table.{sines, sine_at}
use Rattle.sines.specs.Angle.{rest_of, sine_of, cosine_of, sine_in, cosine_in}
use Rattle.clip.specs.Clip.{extent, steps, axis_entry, larger, entry, toward, axis_place, place, clip}
use Rattle.turns.specs.Turn.{turns, degrees_of, turn_from, find_turn, turn_of, turned_of, turned_back_of, rebased_of, lesser_of, greater_of, ordered_of, turned_box_of, turned_back_box_of, turned_exact}
use Rattle.plane.specs.Position.{axis_of, absolute_of, relative_of, location_of, in_range_of}
use Rattle.plane.specs.Circle.{chords_of, angle_of, rotated_of, vertex_of, vertex_point_of, split_of, centre_of, from_centre, point_from_centre}
use Rattle.plane.specs.Arc.{way_of, way_fits, parts_of, towards, bend_of, arc_point, both_in_range, fits_from, arc_fits}
use Rattle.turns.specs.Limits.{intersection_of, limits_of}
use Rattle.hpgl.specs.Place.{axis_x, axis_y, exact_position, location, in_range, absolute_position, relative_position, rest_at, page_point, limits}
use Rattle.hpgl.specs.Rules.{done, refuse, fresh_settings, no_polygon, fresh_carriage, fresh_core, letters, name_rule, rebased, in_rule, df_rule, int16, good_corners, set_corners, carried, ip_rule, sc_rule, set_turn, turn_to, ro_rule, set_window, iw_rule, set_pen, sp_rule, inked, move_to, point_cost, longer, edge_to, store_point, aimed, go_to, pair_rule, begun, pm0, differ, closes, ended_with, ended, pm1_in, pm1, leave, pm2_in, pm2, pm_rule, ep_rule, rectangular, rectangle_to, ea_rule, er_rule, circle_fits, circle, circle_with, chord_angle, ci_rule, swept_angle, good_sweep, arc_angle, way_from, arc, last_vertex, follow, arc_by, arc_about, aa_rule, ar_rule, oa_rule, op_rule, ow_rule, oh_rule, oe_rule, noting, noted, end_rule, act_on}
use Rattle.decimals.specs.Decimal.{digits_within, decimal, natural, whole}
use Rattle.hpgl.specs.Replies.{place_told, corners_told, box_told, window_shown, window_told, limits_told, refusal_told, reply_of, numbers_told, text_of, reply_text, remembered, remembering}
use Rattle.hpgl.specs.Machine.{good_limits, hard_limits, fresh_state, fresh_number, waiting, replied, replying, occupied, rectangle_edges, stored, queued, reader_after, applied, acted, take_state, take_number, stroke_of, shown, vertex_in, vertex, chord_shown, edge_shown, work_after, draw_work, draw_state, draw_answer, look_at, fetch_number, fetch_state, fetched_of, fetch_text, fetch_out}
use Rattle.hpgl.specs.Trace.{bytes_from, bytes, drawn_values, look_values, draws, drawn_off, refusal, fetched, trace_from, trace}
use Rattle.feeding.specs.DrawOff.{untaken}
use Rattle.feeding.specs.Feed.{drew, draw_off, counted, feed_from}
use Rattle.drive.specs.Drive.{pitch_of, spot_of, ends_inside_of, ends_equal_of, answer_of, f32_of, place_of}
use Rattle.clip.specs.Types.{type_of}
use Rattle.hpgl.specs.ExactModel as X
use Rattle.plane.specs.Arc as A
use Rattle.figures.specs.Rows.{points, after, refusals, drawn_then, feed_by, fed_by, fed_all, fetched_by, called_all, moves_of, types_in, types_from, answered, said}
use Rattle.figures.specs.Rows.{all_answered, all_said}
use Rattle.figures.specs.Table.{table}

-- "To be established of the definitions as one theorem over a table"
pub figures : all_answered table ≡ all_said table
unfolding ◌<?◌ ◌≤?◌ ◌≡?◌ nearest_div low_class_of class_of start_of point_of counted_of past_of digit_of unit_of ten_thousandths signed_of largest_of carry_of nearest_of finish_of cell_of named_of find_from find_of is_label count_fits has_room takes_pairs known_in_polygon changes_settings event_number none_of stored_of pair_of fresh_reader go_on_of quiet_of refuse_of begin_of open_of with_numbers found_of name_of kept_of judged_of closed_of end_of complete_of ending_of after_number_of close_with close_of idle_of first_of parameters_of in_number_of pass_over_of label_of by_mode step_of inside passed_mode passed_over sines sine_at rest_of sine_of cosine_of sine_in cosine_in extent steps axis_entry larger entry toward axis_place place clip turns degrees_of turn_from find_turn turn_of turned_of turned_back_of rebased_of lesser_of greater_of ordered_of turned_box_of turned_back_box_of turned_exact axis_of absolute_of relative_of location_of in_range_of chords_of angle_of rotated_of vertex_of vertex_point_of split_of centre_of from_centre point_from_centre way_of way_fits parts_of towards bend_of arc_point both_in_range fits_from arc_fits vertex_in intersection_of limits_of axis_x axis_y exact_position location in_range absolute_position relative_position rest_at page_point limits done refuse fresh_settings no_polygon fresh_carriage fresh_core letters name_rule rebased in_rule df_rule int16 good_corners set_corners carried ip_rule sc_rule set_turn turn_to ro_rule set_window iw_rule set_pen sp_rule inked move_to point_cost longer edge_to store_point aimed go_to pair_rule begun pm0 differ closes ended_with ended pm1_in pm1 leave pm2_in pm2 pm_rule ep_rule rectangular rectangle_to ea_rule er_rule circle_fits circle circle_with chord_angle ci_rule swept_angle good_sweep arc_angle way_from arc last_vertex follow arc_by arc_about aa_rule ar_rule oa_rule op_rule ow_rule oh_rule oe_rule noting noted end_rule act_on digits_within decimal natural whole place_told corners_told box_told window_shown window_told limits_told refusal_told reply_of numbers_told text_of reply_text remembered remembering good_limits hard_limits fresh_state waiting replied replying occupied rectangle_edges stored queued reader_after applied acted take_state take_number stroke_of shown vertex chord_shown edge_shown work_after draw_work draw_state draw_answer look_at fetch_number fetch_state fetched_of fetch_text fetch_out bytes_from bytes drawn_values look_values draws drawn_off refusal fetched trace_from trace fresh_number untaken drew draw_off counted feed_from pitch_of spot_of ends_inside_of ends_equal_of answer_of f32_of place_of round type_of Rattle.clip.specs.Clip.inside X.exact_segment X.sides_from X.sides X.all_sides X.outline X.vertex_at X.arc_vertex X.path X.last_of X.closed X.end_current X.rectangle X.polygon_mode X.after_end X.polygon_after X.inked_only X.move X.arc_moves X.instructed X.added X.answered X.fresh_model X.core_after X.number_of X.taken X.take_when X.take_model A.exact_arc points after refusals drawn_then feed_by fed_by fed_all fetched_by called_all moves_of types_in types_from answered all_answered said all_said
figures = refl
