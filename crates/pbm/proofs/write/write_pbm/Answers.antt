-- `pbm::write::write_pbm` meets its contract: by its cases, and the head and then the lines are the file.
-- Assumes nothing.
use Rattle.std.proofs.Common.{◌≤◌, length, Ok, sym, ◌∙◌, arith, rules}
use Rattle.pbm.specs.Calls.{file_of, written_out, told, Leaves}
use Rattle.pbm.proofs.Written.{leaves_misfit, leaves_short, head_room, body_lines, body_room, leaves_file}
use Rattle.pbm.proofs.write.write_pbm.Goals as goal

pub returns-then-pic-bytes_of : goal.returns-then-pic-bytes_of
returns-then-pic-bytes_of c = leaves_misfit _ _ _ (λ e. c.if-pic-bytes_of.true (e ∙ sym c.bytes_of.ensures))

pub returns-then-out-n : goal.returns-then-out-n
returns-then-out-n c =
    leaves_short _ _ _ (c.if-pic-bytes_of.false ∙ c.bytes_of.ensures)
    (omega (arith, c.file_bytes-n.ensures c.args.pic.now))

pub put_head-requires : goal.put_head-requires
put_head-requires c =
    head_room c.args.format c.args.pic.now c.args.out.now (c.if-pic-bytes_of.false ∙ c.bytes_of.ensures)
    (omega (arith, c.file_bytes-n.ensures c.args.pic.now))

pub put_body-requires : goal.put_body-requires
put_body-requires c =
    let args = c.args in
    let size = c.if-pic-bytes_of.false ∙ c.bytes_of.ensures in
    let fits : length (file_of args.format args.pic.now) ≤ length args.out.now = omega (arith, c.file_bytes-n.ensures args.pic.now) in
    let across = rw c.width_of-width.ensures at c.from.ensures in
    let high = c.height_of-height.ensures in
    let head = c.put_head.ensures.wrote in
    record {
      lines = body_lines args.format args.pic.now args.out.now size fits c.width_of-width.ensures high across head;
      room = body_room args.format args.pic.now args.out.now size fits c.width_of-width.ensures high across head;
    }

pub returns : goal.returns
returns c =
    let args = c.args in
    let it : Leaves (written_out args.format args.pic.now args.out.now) (told (Ok c.file_bytes-n.result)) c.put_body.new.w.out.now =
    leaves_file args.format args.pic.now args.out.now (c.if-pic-bytes_of.false ∙ c.bytes_of.ensures)
    (omega (arith, c.file_bytes-n.ensures c.args.pic.now)) c.width_of-width.ensures c.height_of-height.ensures
    (rw c.width_of-width.ensures at c.from.ensures) c.put_head.ensures.wrote c.put_body.ensures.wrote (c.file_bytes-n.ensures args.pic.now)
    in
    search rules
