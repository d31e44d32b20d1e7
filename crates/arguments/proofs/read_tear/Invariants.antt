use Rattle.std.proofs.Common.{◌≡◌, map, string_bytes, take, drop, None}
use Rattle.std.specs.List.{find}
use Rattle.arguments.specs.Words.{no_number, tear_of}
use Rattle.arguments.proofs.read_tear.Given as goal

abbrev pub invariant-loop-number : goal.invariant-loop-number
invariant-loop-number l = record {
  right : find no_number (take l.number-index (map string_bytes l.words)) ≡ None;
  tear : l.number-items ≡ tear_of (take l.number-index (map string_bytes l.words));
  left : l.rest ≡ drop l.number-index l.words;
}
