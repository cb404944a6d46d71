-- `gdp::state::Gdp::body` meets its contract: 0B is the block, every other code of a letter a character.
-- Assumes nothing.
use Prim.Native.Nat.{◌<◌}
use native.Mathlib.Omega.{arith}
use borrow.Author.Tests.{ne_eqb}
use Rattle.motion.proofs.Laws.{character_most, block_most}
use Rattle.rules.specs.Figure.{figure_by, figure}
use Rattle.gdp.proofs.Counts.{block_kind, letter_kind}
use Rattle.gdp.proofs.state.Gdp.body.Goals as goal

pub returns-then-self-eq11 : goal.returns-then-self-eq11
unfolding figure_by figure
returns-then-self-eq11 c =
    let b = c.block_of.ensures in
    let byte : c.args.self.csize < 256 = omega arith in
    (rw (block_kind c.if-self-eq11.true, b.0), b.1, rw b.0 (omega (arith, block_most _ byte)))

pub returns-else-self-eq11 : goal.returns-else-self-eq11
unfolding figure_by figure
returns-else-self-eq11 c =
    let b = c.character_of.ensures in
    let byte : c.args.self.csize < 256 = omega arith in
    let code : c.args.self.code < 256 = omega arith in
    (rw (letter_kind code c.requires (ne_eqb _ _ c.if-self-eq11.false), b.0), b.1, rw b.0 (character_most _ byte))
