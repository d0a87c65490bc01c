-- For a link: the table of this crate's functions, what it asks of the crates below it, and that each function that another crate calls is found with its own code and all that it calls.
-- `possible` puts the tables together and runs the entry points.
use mathlib.Core.Bool.{true}
use prog.Linked.{Tree, World, Holds, in_world}
use prog.LinkedThreads.{HasT}
use prog.Wired.{Code}
use Rattle.board.proofs.TheLink as link
use Rattle.board.proofs.TheLinks.board-parts-asked_of
use Rattle.board.proofs.TheLinks.board-parts-back_of
use Rattle.board.proofs.TheLinks.board-parts-configured_of
use Rattle.board.proofs.TheLinks.board-parts-graces_of
use Rattle.board.proofs.TheLinks.board-parts-groups_of
use Rattle.board.proofs.TheLinks.board-parts-keys_of
use Rattle.board.proofs.TheLinks.board-parts-order_of
use Rattle.board.proofs.TheLinks.board-parts-queue_of
use Rattle.board.proofs.TheLinks.board-parts-recorded_of
use Rattle.board.proofs.TheLinks.board-parts-table_of
use Rattle.board.proofs.TheLinks.board-recording-note
use Rattle.board.proofs.TheLinks.board-starts-configured_start
use Rattle.board.proofs.TheLinks.board-starts-is_board_size
use Rattle.board.proofs.TheLinks.board-starts-keys_start
use Rattle.board.proofs.TheLinks.board-starts-order_start
use Rattle.board.proofs.TheLinks.board-starts-queue_start
use Rattle.board.proofs.TheLinks.board-starts-size_for
use Rattle.board.proofs.TheLinks.board-starts-table_start
use Rattle.board.proofs.TheLinks.board-starts-tags_in
use Rattle.board.proofs.TheLinks.board-starts-words_start
use Rattle.board.proofs.TheLinks.board-tag-added_of
use Rattle.board.proofs.TheLinks.board-tag-cached_of
use Rattle.board.proofs.TheLinks.board-tag-description_of
use Rattle.board.proofs.TheLinks.board-tag-forget
use Rattle.board.proofs.TheLinks.board-tag-forget_last
use Rattle.board.proofs.TheLinks.board-tag-grace_of
use Rattle.board.proofs.TheLinks.board-tag-is_bit
use Rattle.board.proofs.TheLinks.board-tag-put_after
use Rattle.board.proofs.TheLinks.board-tag-put_description
use Rattle.board.proofs.TheLinks.board-tag-put_standing
use Rattle.board.proofs.TheLinks.board-tag-put_tag
use Rattle.board.proofs.TheLinks.board-tag-settings_of
use Rattle.board.proofs.TheLinks.board-tag-tag_of
use Rattle.board.proofs.TheLinks.board-tag-tier_of
use Rattle.board.proofs.TheLinks.board-tag-timing_of
use Rattle.board.proofs.TheLinks.board-tag-wants_of
use Rattle.board.proofs.TheLinks.board-tag-word_of
use Rattle.board.proofs.TheLinks.board-tag_lists-asked_at
use Rattle.board.proofs.TheLinks.board-tag_lists-asked_count
use Rattle.board.proofs.TheLinks.board-tag_lists-clear_asked
use Rattle.board.proofs.TheLinks.board-tag_lists-order_at
use Rattle.board.proofs.TheLinks.board-tag_lists-order_count
use Rattle.board.proofs.TheLinks.board-tag_lists-push_asked
use Rattle.board.proofs.TheLinks.board-tag_lists-push_grace
use Rattle.board.proofs.TheLinks.board-tag_lists-push_order
use Rattle.board.proofs.TheLinks.board-tag_lists-remove_grace
use Rattle.board.proofs.TheLinks.board-tag_lists-remove_order
use Rattle.board.proofs.TheLinks.board-tag_lists-shorten_asked
use Rattle.board.proofs.TheLinks.board-waiting-clear_queue
use Rattle.board.proofs.TheLinks.board-waiting-pop_write
use Rattle.board.proofs.TheLinks.board-waiting-push_write
use Rattle.board.proofs.TheLinks.board-waiting-put_back
use Rattle.board.proofs.TheLinks.board-waiting-queued

abbrev pub table : Tree
table = link.table

abbrev pub Below : World → Type 0
Below W = link.Below W

abbrev pub Linked : Code → Type 0
Linked c = (W : World) → Holds W "board" table → Below W → HasT (in_world W) true c

pub parts_asked_of : Linked board-parts-asked_of.code
parts_asked_of = link.linked-board::parts::asked_of

pub parts_back_of : Linked board-parts-back_of.code
parts_back_of = link.linked-board::parts::back_of

pub parts_configured_of : Linked board-parts-configured_of.code
parts_configured_of = link.linked-board::parts::configured_of

pub parts_graces_of : Linked board-parts-graces_of.code
parts_graces_of = link.linked-board::parts::graces_of

pub parts_groups_of : Linked board-parts-groups_of.code
parts_groups_of = link.linked-board::parts::groups_of

pub parts_keys_of : Linked board-parts-keys_of.code
parts_keys_of = link.linked-board::parts::keys_of

pub parts_order_of : Linked board-parts-order_of.code
parts_order_of = link.linked-board::parts::order_of

pub parts_queue_of : Linked board-parts-queue_of.code
parts_queue_of = link.linked-board::parts::queue_of

pub parts_recorded_of : Linked board-parts-recorded_of.code
parts_recorded_of = link.linked-board::parts::recorded_of

pub parts_table_of : Linked board-parts-table_of.code
parts_table_of = link.linked-board::parts::table_of

pub recording_note : Linked board-recording-note.code
recording_note = link.linked-board::recording::note

pub starts_configured_start : Linked board-starts-configured_start.code
starts_configured_start = link.linked-board::starts::configured_start

pub starts_is_board_size : Linked board-starts-is_board_size.code
starts_is_board_size = link.linked-board::starts::is_board_size

pub starts_keys_start : Linked board-starts-keys_start.code
starts_keys_start = link.linked-board::starts::keys_start

pub starts_order_start : Linked board-starts-order_start.code
starts_order_start = link.linked-board::starts::order_start

pub starts_queue_start : Linked board-starts-queue_start.code
starts_queue_start = link.linked-board::starts::queue_start

pub starts_size_for : Linked board-starts-size_for.code
starts_size_for = link.linked-board::starts::size_for

pub starts_table_start : Linked board-starts-table_start.code
starts_table_start = link.linked-board::starts::table_start

pub starts_tags_in : Linked board-starts-tags_in.code
starts_tags_in = link.linked-board::starts::tags_in

pub starts_words_start : Linked board-starts-words_start.code
starts_words_start = link.linked-board::starts::words_start

pub tag_added_of : Linked board-tag-added_of.code
tag_added_of = link.linked-board::tag::added_of

pub tag_cached_of : Linked board-tag-cached_of.code
tag_cached_of = link.linked-board::tag::cached_of

pub tag_description_of : Linked board-tag-description_of.code
tag_description_of = link.linked-board::tag::description_of

pub tag_forget : Linked board-tag-forget.code
tag_forget = link.linked-board::tag::forget

pub tag_forget_last : Linked board-tag-forget_last.code
tag_forget_last = link.linked-board::tag::forget_last

pub tag_grace_of : Linked board-tag-grace_of.code
tag_grace_of = link.linked-board::tag::grace_of

pub tag_is_bit : Linked board-tag-is_bit.code
tag_is_bit = link.linked-board::tag::is_bit

pub tag_put_after : Linked board-tag-put_after.code
tag_put_after = link.linked-board::tag::put_after

pub tag_put_description : Linked board-tag-put_description.code
tag_put_description = link.linked-board::tag::put_description

pub tag_put_standing : Linked board-tag-put_standing.code
tag_put_standing = link.linked-board::tag::put_standing

pub tag_put_tag : Linked board-tag-put_tag.code
tag_put_tag = link.linked-board::tag::put_tag

pub tag_settings_of : Linked board-tag-settings_of.code
tag_settings_of = link.linked-board::tag::settings_of

pub tag_tag_of : Linked board-tag-tag_of.code
tag_tag_of = link.linked-board::tag::tag_of

pub tag_tier_of : Linked board-tag-tier_of.code
tag_tier_of = link.linked-board::tag::tier_of

pub tag_timing_of : Linked board-tag-timing_of.code
tag_timing_of = link.linked-board::tag::timing_of

pub tag_wants_of : Linked board-tag-wants_of.code
tag_wants_of = link.linked-board::tag::wants_of

pub tag_word_of : Linked board-tag-word_of.code
tag_word_of = link.linked-board::tag::word_of

pub tag_lists_asked_at : Linked board-tag_lists-asked_at.code
tag_lists_asked_at = link.linked-board::tag_lists::asked_at

pub tag_lists_asked_count : Linked board-tag_lists-asked_count.code
tag_lists_asked_count = link.linked-board::tag_lists::asked_count

pub tag_lists_clear_asked : Linked board-tag_lists-clear_asked.code
tag_lists_clear_asked = link.linked-board::tag_lists::clear_asked

pub tag_lists_order_at : Linked board-tag_lists-order_at.code
tag_lists_order_at = link.linked-board::tag_lists::order_at

pub tag_lists_order_count : Linked board-tag_lists-order_count.code
tag_lists_order_count = link.linked-board::tag_lists::order_count

pub tag_lists_push_asked : Linked board-tag_lists-push_asked.code
tag_lists_push_asked = link.linked-board::tag_lists::push_asked

pub tag_lists_push_grace : Linked board-tag_lists-push_grace.code
tag_lists_push_grace = link.linked-board::tag_lists::push_grace

pub tag_lists_push_order : Linked board-tag_lists-push_order.code
tag_lists_push_order = link.linked-board::tag_lists::push_order

pub tag_lists_remove_grace : Linked board-tag_lists-remove_grace.code
tag_lists_remove_grace = link.linked-board::tag_lists::remove_grace

pub tag_lists_remove_order : Linked board-tag_lists-remove_order.code
tag_lists_remove_order = link.linked-board::tag_lists::remove_order

pub tag_lists_shorten_asked : Linked board-tag_lists-shorten_asked.code
tag_lists_shorten_asked = link.linked-board::tag_lists::shorten_asked

pub waiting_clear_queue : Linked board-waiting-clear_queue.code
waiting_clear_queue = link.linked-board::waiting::clear_queue

pub waiting_pop_write : Linked board-waiting-pop_write.code
waiting_pop_write = link.linked-board::waiting::pop_write

pub waiting_push_write : Linked board-waiting-push_write.code
waiting_push_write = link.linked-board::waiting::push_write

pub waiting_put_back : Linked board-waiting-put_back.code
waiting_put_back = link.linked-board::waiting::put_back

pub waiting_queued : Linked board-waiting-queued.code
waiting_queued = link.linked-board::waiting::queued
