-- A reading from an entry's words.
use Rattle.values.specs.Entry.{TagResult, result_of}
use Rattle.words.specs.Value.{value_from}
use Rattle.words.specs.Error.{error_from}
use Rattle.words.specs.declared.entry.EntryWords.{EntryWords}

abbrev pub result_from : EntryWords → TagResult
result_from w = result_of (value_from w.kind w.word) (error_from w.error w.message)
