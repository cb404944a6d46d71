-- `motion::character::Letter::next_cell` meets its contract: each counter goes up by one or starts again, and the place with them.
-- Assumes nothing.
use mathlib.Core.Path.{refl}
use Rattle.motion.proofs.Counting.{split_none, split_within, split_over}
use Rattle.motion.proofs.Cells.{counted, split_i, split_v, split_u, on_risen, on_carried}
use Rattle.motion.proofs.character.Letter.next_cell.Goals as goal

pub returns-then-rowdot-b : goal.returns-then-rowdot-b
returns-then-rowdot-b c =
    let l = c.args.self in
    let g = c.requires.0 in
    let up = c.if-v-b.true in (
      refl,
      counted (split_within (split_i g) up) (split_within (split_v g) c.if-rowdot-b.true) (split_u g),
      on_risen l.lie l.sized g refl up c.risen-at.ensures,
    )

pub returns-then-v-b : goal.returns-then-v-b
returns-then-v-b c =
    let l = c.args.self in
    let g = c.requires.0 in
    let up = c.if-v-b.true in (
      refl,
      counted (split_within (split_i g) up) (split_over (split_v g) l.sized.q0 c.if-rowdot-b.false) (split_u g),
      on_risen l.lie l.sized g refl up c.risen-at.ensures,
    )

pub returns-then-columndot-b : goal.returns-then-columndot-b
returns-then-columndot-b c =
    let l = c.args.self in
    let g = c.requires.0 in
    let over = c.if-v-b.false in (
      refl,
      counted (split_over (split_i g) l.sized.rows0 over) (split_none _) (split_within (split_u g) c.if-columndot-b.true),
      on_carried l.lie l.sized g refl over c.carried-at.ensures,
    )

pub returns : goal.returns
returns c =
    let l = c.args.self in
    let g = c.requires.0 in
    let over = c.if-v-b.false in (
      refl,
      counted (split_over (split_i g) l.sized.rows0 over) (split_none _) (split_over (split_u g) l.sized.p0 c.if-columndot-b.false),
      on_carried l.lie l.sized g refl over c.carried-at.ensures,
    )
