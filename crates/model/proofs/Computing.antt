-- What computes, by subject: a table of examples that names a subject on its `unfolding` line computes with all that the subject's own line names.
-- So that a table above the model need not know the image's layout to be computed.
-- Assumes nothing.
use Rattle.loops.specs.Loop.{each, again, tally, every, first}
use Rattle.kinds.specs.Names.{word_of}
use Rattle.model.specs.Image.{addr, get, put, length_of, size, blank, place_of, part_of, abroad, lose, gain, recount, refer, release}
use Rattle.model.specs.Spread.{follow, pass, spread}
use Rattle.model.specs.Acts.{mark, mark_word, store, born, perform, perform_all, unmarked, not_clean, unclean, mark_anchors, allow, open_up, inside, outside, finish, trace_one}
use Rattle.model.specs.Acts.{clear, settle, shut, close_up, local_start, local_bits, free_but, local_up, local_freed, apply}
use Rattle.model.specs.Judge.{check, and_then, in_limits, judge_format, judge_op, judge_ops, rooted, led, lowest, judge_name, judge, judge_outlist}
use Rattle.model.specs.Questions.{has_bit, add_bit, collect, anchor_bits, reached_bits, ask}
use Rattle.model.specs.Outlist.{goes_out, goes_to, out_bits, name_at, list_names, outlist}
use Rattle.model.specs.Sound.{in_range, ref_ok, free_ok, slot_ok, points, in_count, count_ok, anchor_ok, flag_ok, flag_down, unmarked_at, open_ok, shut_ok, sound_at, is_sound}

unfoldable pub imaging : Unit {0}
unfolding addr get put length_of size blank place_of part_of word_of abroad lose gain recount refer release
imaging = tt

unfoldable pub looping : Unit {0}
unfolding each again tally every first follow pass spread has_bit add_bit collect
looping = tt

unfoldable pub acting : Unit {0}
unfolding mark mark_word store born perform perform_all unmarked not_clean unclean mark_anchors allow open_up inside outside finish trace_one clear settle shut close_up
    local_start local_bits free_but local_up local_freed apply
acting = tt

unfoldable pub judging : Unit {0}
unfolding check and_then in_limits judge_format judge_op judge_ops rooted led lowest judge_name judge judge_outlist
judging = tt

unfoldable pub sounding : Unit {0}
unfolding in_range ref_ok free_ok slot_ok points in_count count_ok anchor_ok flag_ok flag_down unmarked_at open_ok shut_ok sound_at is_sound
sounding = tt

unfoldable pub listing : Unit {0}
unfolding goes_out goes_to out_bits name_at list_names outlist
listing = tt

unfoldable pub asking : Unit {0}
unfolding anchor_bits reached_bits ask
asking = tt
