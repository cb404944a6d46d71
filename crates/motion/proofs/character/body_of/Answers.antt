-- `motion::character::body_of` meets its contract.
-- Assumes nothing.
use mathlib.Core.Path.{refl}
use borrow.Author.Rules.{rules}
use Rattle.motion.specs.Character.{scale_p, scale_q}
use Rattle.motion.proofs.Characters.{body_sized}
use Rattle.motion.proofs.character.body_of.Goals as goal

pub returns : goal.returns
unfolding scale_p scale_q
returns c =
    let a = c.args in
    rw (c.scaled-p.ensures.0, c.scaled-q.ensures.0) (refl, body_sized a.csize (search rules) a.wide a.high c.requires.1 c.requires.2)
