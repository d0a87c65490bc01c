-- What a step gives back: one request or one event. Document 01's requests and events have these numbers.
use Rattle.std.specs.Prelude.{ℕ, Float}
use Rattle.std.specs.Float.{binary64}
use Rattle.std.specs.Float.Ieee.{of_bits}
use Rattle.values.specs.declared.value.Value.{Value}
use Rattle.words.specs.Value.{value_words_of}
use Rattle.heads.specs.Link.{state_number}
use Rattle.heads.specs.declared.link.State.{State}
use Rattle.replies.specs.declared.reply.Reply.{Reply}
use Rattle.replies.specs.declared.response.Outcome.{Outcome}
use Rattle.replies.specs.declared.response.Outcome.TheVariants.{WentThrough, Refused, Lost}
use Rattle.replies.specs.declared.response.Response.{Response}
use Rattle.replies.specs.declared.response.Response.TheVariants.{GoOn, Connect, Version, Read, Write, ReadBack, Describe, Wait, Values, Status, Meta, Info, Outcome as OutcomeOf, Failed, Stopped}

-- a request or an event that carries no more than how many records the lent list has
abbrev pub listed : ℕ → ℕ → Reply
listed kind n = record { code = 0; kind = kind; count = n; tag = 0; what = 0; value = 0; word = 0; error = 0; message = 0; seconds = of_bits binary64 0 }

-- nothing is told yet: a round is to be worked out first
abbrev pub go_on : Reply
go_on = listed 0 0

abbrev pub connect : Reply
connect = listed 1 0

abbrev pub version : Reply
version = listed 2 0

abbrev pub read : ℕ → Reply
read n = listed 3 n

abbrev pub read_back : ℕ → Reply
read_back n = listed 5 n

abbrev pub describe : ℕ → Reply
describe n = listed 6 n

abbrev pub values : ℕ → Reply
values n = listed 8 n

abbrev pub meta : Reply
meta = listed 10 0

abbrev pub info : ℕ → Reply
info n = listed 11 n

-- the writes that a lost connection takes with it
abbrev pub failed : ℕ → Reply
failed n = listed 13 n

-- the end, with the writes that were left
abbrev pub stopped : ℕ → Reply
stopped n = listed 14 n

-- a tag with a value: a write, and one that went through
abbrev pub valued : ℕ → ℕ → Value → Reply
valued kind tag v = record {
  code = 0;
  kind = kind;
  count = 0;
  tag = tag;
  what = 0;
  value = (value_words_of v).kind;
  word = (value_words_of v).word;
  error = 0;
  message = 0;
  seconds = of_bits binary64 0;
}

abbrev pub write : ℕ → Value → Reply
write tag v = valued 4 tag v

abbrev pub wait : Float → Reply
wait s = record { code = 0; kind = 7; count = 0; tag = 0; what = 0; value = 0; word = 0; error = 0; message = 0; seconds = s }

abbrev pub status : State → Reply
status s = record {
  code = 0;
  kind = 9;
  count = 0;
  tag = 0;
  what = state_number s;
  value = 0;
  word = 0;
  error = 0;
  message = 0;
  seconds = of_bits binary64 0;
}

-- Rule 8: an outcome: the write went through (0), was refused by the driver (1), or was lost (2)
abbrev pub went_through : ℕ → Value → Reply
went_through tag v = valued 12 tag v

abbrev pub was_refused : ℕ → ℕ → ℕ → Reply
was_refused tag error message = record {
  code = 0;
  kind = 12;
  count = 0;
  tag = tag;
  what = 1;
  value = 0;
  word = 0;
  error = error;
  message = message;
  seconds = of_bits binary64 0;
}

abbrev pub was_lost : ℕ → Reply
was_lost tag = record {
  code = 0;
  kind = 12;
  count = 0;
  tag = tag;
  what = 2;
  value = 0;
  word = 0;
  error = 0;
  message = 0;
  seconds = of_bits binary64 0;
}

-- a refusal: its number alone
abbrev pub refused : ℕ → Reply
refused n = record {
  code = n;
  kind = 0;
  count = 0;
  tag = 0;
  what = 0;
  value = 0;
  word = 0;
  error = 0;
  message = 0;
  seconds = of_bits binary64 0;
}

-- ---- what a step gives back, as a reply

abbrev pub outcome_of : ℕ → Outcome → Reply
outcome_of tag (WentThrough v) = went_through tag v
outcome_of tag (Refused error message) = was_refused tag error message
outcome_of tag Lost = was_lost tag

abbrev pub reply_of : Response → Reply
reply_of GoOn = go_on
reply_of Connect = connect
reply_of Version = version
reply_of (Read n) = read n
reply_of (Write tag v) = write tag v
reply_of (ReadBack n) = read_back n
reply_of (Describe n) = describe n
reply_of (Wait s) = wait s
reply_of (Values n) = values n
reply_of (Status s) = status s
reply_of Meta = meta
reply_of (Info n) = info n
reply_of (OutcomeOf tag o) = outcome_of tag o
reply_of (Failed n) = failed n
reply_of (Stopped n) = stopped n
