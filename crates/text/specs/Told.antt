-- What the readers of the code answer, in the words of the definitions beside this file. Definitions only.
use Rattle.std.specs.Prelude.{◌≡◌, [], Ok, Err, vec_items, Result}
use Rattle.meaning.specs.Calls.{Call, garbled}
use Rattle.protocol.specs.Forms.{call_of}
use Rattle.scan.specs.Words.{Read, got, bad}
use Rattle.scan.specs.declared.Unread.{Unread}
use Rattle.scan.specs.declared.Unread.TheVariants as unread
use Rattle.text.specs.declared.CallLine.{CallLine}
use Rattle.text.specs.declared.NoCall.{NoCall}
use Rattle.text.specs.declared.NoCall.TheVariants as no_call

-- the meaning's call of a line that was read
abbrev pub line_means : CallLine → Call
line_means l = call_of l.call (vec_items l.list)

-- a call up to the end of the line, or how many bytes are left; want of memory says nothing
abbrev pub RestTold : Result CallLine Unread → Read Call → Type 0
RestTold (Ok l) r = r ≡ got (line_means l) []
RestTold (Err (unread.Unfit unfit)) r = r ≡ bad unfit.left
RestTold (Err unread.NoMemory) r = Unit {0}

-- the call that a line is, or the place from which on it is none; want of memory says nothing
abbrev pub LineTold : Result CallLine NoCall → Call → Type 0
LineTold (Ok l) c = c ≡ line_means l
LineTold (Err (no_call.Unreadable place)) c = c ≡ garbled place
LineTold (Err no_call.NoMemory) c = Unit {0}
