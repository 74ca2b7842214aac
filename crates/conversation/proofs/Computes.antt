-- What a run of two ends computes with: where `computing` unfolds, so does each name of its line.
-- Assumes nothing.
use Rattle.octets.specs.Octets.{le, signed32, same_octets, same_id}
use Rattle.vector.specs.Vector.{keeps_rule, shown}
use Rattle.message.specs.Layout.{shape_of, head_of, elements_at, content_of, vectors_of}
use Rattle.message.specs.Check.{common_rows, all_keep_rule, none_critical, content_rows, body_rows, front_rows}
use Rattle.message.specs.Show.{ids_at, schemes_in}
use Rattle.token.specs.Token.{order_rows, next_rows, chain_of}
use Rattle.put.specs.Put.{put}
use Rattle.elements.specs.Elements.{offset_of, item_octets, items_fit, items_of, sum_from, small_from, elements_fit, ordinary_from}
use Rattle.encode.specs.Encode.{encoded}
use Rattle.schemes.specs.Lists.{mem, place, distinct}
use Rattle.schemes.specs.Sets.{set_of, left, has, mentions, ones, open_places, kept_below}
use Rattle.conversation.specs.Writing.{offering, replying, writing_metadata, scheme_now, speaking}
use Rattle.conversation.specs.Admitting.{messages_at, scheme_fits, confirmed_for, passed, admit}
use Rattle.conversation.specs.Reading.{conversation_of, judge, judged, common_after, kept_after, finish, reading_token}
use Rattle.conversation.specs.Choosing.{choosing}
use Rattle.conversation.specs.Runs.{act}
use Rattle.conversation.specs.Worked.{plain, opened}
use Rattle.conversation.specs.Turns as turns

unfoldable pub computing : Unit {0}
unfolding opened plain offset_of item_octets items_fit items_of sum_from small_from elements_fit ordinary_from le signed32 same_octets same_id keeps_rule shown
    shape_of head_of elements_at content_of vectors_of common_rows all_keep_rule none_critical content_rows body_rows front_rows ids_at schemes_in order_rows
    next_rows chain_of put encoded mem place distinct set_of left has mentions ones open_places kept_below turns.writing turns.reading turns.class_of
    turns.type_of turns.after_opening turns.after_further turns.after offering replying writing_metadata speaking scheme_now messages_at scheme_fits
    confirmed_for passed admit conversation_of judge judged common_after kept_after finish reading_token choosing act
computing = tt
