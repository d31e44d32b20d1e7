-- A call that is read is written whole, and its bytes are that call.
use Rattle.std.proofs.Common.{◌≡◌, length, rules, sym, ap, ◌∙◌}
use Rattle.protocol.specs.Forms.{call_of}
use Rattle.call_files.proofs.Rows.{some_bytes, reads_as}
use Rattle.call_files.proofs.read_row.Goals as goal

pub unreachable-requires : goal.unreachable-requires
unreachable-requires c =
    let means = c.in_ok-read.ensures ∙ ap (call_of c.in_ok-read.read.call) (sym c.as_slice.ensures.value) in
    let room : length c.args.row.now ≡ 1038 = search rules in
    some_bytes c.args.line.now c.as_slice.result.now _ _ c.in_ok-read.read.call means room c.in_default.ensures

pub returns : goal.returns
returns c =
    let means = c.in_ok-read.ensures ∙ ap (call_of c.in_ok-read.read.call) (sym c.as_slice.ensures.value) in
    reads_as c.args.line.now c.as_slice.result.now _ _ c.in-Some.length c.in_ok-read.read.call means c.in-Some.ensures
