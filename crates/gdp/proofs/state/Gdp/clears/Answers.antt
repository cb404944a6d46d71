use mathlib.Core.Path.{refl}
use mathlib.Core.Bool.{true, false}
use Rattle.rules.specs.Sequence.{Clear, no_frames}
use Rattle.gdp.specs.Flat.{flat}
use Rattle.gdp.proofs.Bytes.{work_put}
use Rattle.gdp.proofs.state.Gdp.clears.Goals as goal

pub returns-then-fill : goal.returns-then-fill
unfolding flat
returns-then-fill c s e = simp (c.with_work.ensures, c.if-fill.true, e, work_put 6 s.format s.work (Clear true no_frames) refl)

pub returns : goal.returns
unfolding flat
returns c s e = simp (c.with_work-2.ensures, c.if-fill.false, e, work_put 2 s.format s.work (Clear false no_frames) refl)
