use mathlib.Core.Path.{◌∙◌}
use native.Mathlib.Omega.{arith}
use borrow.Author.Tests.{eq-eqb, ne_eqb}
use Rattle.motion.proofs.Laws.{character_most, block_most}
use Rattle.gdp.specs.Flat.{regs_of}
use Rattle.gdp.proofs.Counts.{character_by, block_by, character_counted, block_counted}
use Rattle.gdp.proofs.state.Gdp.letter_cycles.Goals as goal

pub overflow_mul-result-then-self-eq11 : goal.overflow_mul-result-then-self-eq11
overflow_mul-result-then-self-eq11 c = omega (arith, block_by _ c.args.self.csize c.character_of-b.ensures.0, block_most c.args.self.csize (omega arith))

pub overflow_mul-result-3 : goal.overflow_mul-result-3
overflow_mul-result-3 c = omega (arith, character_by _ c.args.self.csize c.character_of-b.ensures.0, character_most c.args.self.csize (omega arith))

pub returns-then-self-eq11 : goal.returns-then-self-eq11
returns-then-self-eq11 c t =
    block_by _ c.args.self.csize c.character_of-b.ensures.0
    ∙ block_counted (regs_of c.args.self) c.args.self.code (omega arith) (eq-eqb _ _ c.if-self-eq11.true)

pub returns : goal.returns
returns c t =
    character_by _ c.args.self.csize c.character_of-b.ensures.0
    ∙ character_counted (regs_of c.args.self) c.args.self.code (omega arith) (ne_eqb _ _ c.if-self-eq11.false) t
