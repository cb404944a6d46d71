-- `pbm::head::read_head` meets its contract: by the numbers that the file has.
-- Assumes nothing.
use Rattle.std.proofs.Common.{◌≡◌, ◌<◌, false, sym, ◌∙◌, rules}
use Rattle.parts.specs.Refusal.{refusal_number}
use Rattle.pbm.specs.Contents.{opens}
use Rattle.pbm.specs.Working.Heads.{Opened}
use Rattle.pbm.proofs.Headings.{head_unopened, head_wide, head_high, head_good}
use Rattle.pbm.proofs.head.read_head.Goals as goal
use Rattle.pbm.proofs.head.read_head.Goals.{then-read_width-from-via-then-read_width-from, then-read_width-from-via-else-read_width-from+then-read_height-from}

pub returns-in_err-read_width : goal.returns-in_err-read_width
unfolding refusal_number
returns-in_err-read_width c =
    let none : opens c.args.file.now ≡ false = search rules in
    let why = head_unopened c.args.width c.args.height _ none in
    search rules

pub returns-then-read_width-from : goal.returns-then-read_width-from
unfolding refusal_number
returns-then-read_width-from c =
    let head = c.in_ok-read_width in
    let opened : Opened c.args.file.now head.read_width head.read_height head.dots.now = search rules in
    let fits : (c.args.width < 65536) × (c.args.height < 65536) = (c.ranges.width.fits, c.ranges.height.fits) in
    elim c.then-read_width-from.branch [
      | then-read_width-from-via-then-read_width-from w ↦
          head_wide _ _ _ opened fits (λ e. w.if-read_width-from.true (e ∙ sym c.from.ensures))
      | then-read_width-from-via-else-read_width-from+then-read_height-from w ↦
          head_high _ _ _ opened fits (λ e. w.if-read_height-from.true (e ∙ sym w.from-else-read_width-from.ensures))
    ]

pub returns : goal.returns
returns c =
    let head = c.in_ok-read_width in
    let opened : Opened c.args.file.now head.read_width head.read_height head.dots.now = search rules in (
      head_good _ _ _ opened (c.ranges.width.fits, c.ranges.height.fits) (c.if-read_width-from.false ∙ c.from.ensures)
          (c.if-read_height-from.false ∙ c.from-else-read_width-from.ensures),
      opened.left,
    )
