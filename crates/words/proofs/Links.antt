-- For a link: the table of this crate's functions, what it asks of the crates below it, and that each function that another crate calls is found with its own code and all that it calls.
-- `possible` puts the tables together and runs the entry points.
use mathlib.Core.Bool.{true}
use prog.Linked.{Tree, World, Holds, in_world}
use prog.LinkedThreads.{HasT}
use prog.Wired.{Code}
use Rattle.words.proofs.TheLink as link
use Rattle.words.proofs.TheLinks.words-entry-EntryWordsFromEntry-from
use Rattle.words.proofs.TheLinks.words-entry-EntryWordsFromOptionEntry-from
use Rattle.words.proofs.TheLinks.words-entry-held_from
use Rattle.words.proofs.TheLinks.words-error-error_from
use Rattle.words.proofs.TheLinks.words-scalar-float_of_word
use Rattle.words.proofs.TheLinks.words-scalar-int_of_word
use Rattle.words.proofs.TheLinks.words-scalar-word_of_flag
use Rattle.words.proofs.TheLinks.words-scalar-word_of_float
use Rattle.words.proofs.TheLinks.words-scalar-word_of_int
use Rattle.words.proofs.TheLinks.words-time-TimeWordsFromOptionF64-from
use Rattle.words.proofs.TheLinks.words-time-time_from
use Rattle.words.proofs.TheLinks.words-value-ValueWordsFromValue-from
use Rattle.words.proofs.TheLinks.words-value-value_from

abbrev pub table : Tree
table = link.table

abbrev pub Below : World → Type 0
Below W = link.Below W

abbrev pub Linked : Code → Type 0
Linked c = (W : World) → Holds W "words" table → Below W → HasT (in_world W) true c

pub entry_EntryWordsFromEntry_from : Linked words-entry-EntryWordsFromEntry-from.code
entry_EntryWordsFromEntry_from = link.linked-words::entry::EntryWordsFromEntry::from

pub entry_EntryWordsFromOptionEntry_from : Linked words-entry-EntryWordsFromOptionEntry-from.code
entry_EntryWordsFromOptionEntry_from = link.linked-words::entry::EntryWordsFromOptionEntry::from

pub entry_held_from : Linked words-entry-held_from.code
entry_held_from = link.linked-words::entry::held_from

pub error_error_from : Linked words-error-error_from.code
error_error_from = link.linked-words::error::error_from

pub scalar_float_of_word : Linked words-scalar-float_of_word.code
scalar_float_of_word = link.linked-words::scalar::float_of_word

pub scalar_int_of_word : Linked words-scalar-int_of_word.code
scalar_int_of_word = link.linked-words::scalar::int_of_word

pub scalar_word_of_flag : Linked words-scalar-word_of_flag.code
scalar_word_of_flag = link.linked-words::scalar::word_of_flag

pub scalar_word_of_float : Linked words-scalar-word_of_float.code
scalar_word_of_float = link.linked-words::scalar::word_of_float

pub scalar_word_of_int : Linked words-scalar-word_of_int.code
scalar_word_of_int = link.linked-words::scalar::word_of_int

pub time_TimeWordsFromOptionF64_from : Linked words-time-TimeWordsFromOptionF64-from.code
time_TimeWordsFromOptionF64_from = link.linked-words::time::TimeWordsFromOptionF64::from

pub time_time_from : Linked words-time-time_from.code
time_time_from = link.linked-words::time::time_from

pub value_ValueWordsFromValue_from : Linked words-value-ValueWordsFromValue-from.code
value_ValueWordsFromValue_from = link.linked-words::value::ValueWordsFromValue::from

pub value_value_from : Linked words-value-value_from.code
value_value_from = link.linked-words::value::value_from
