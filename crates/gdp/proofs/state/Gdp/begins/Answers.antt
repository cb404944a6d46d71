use mathlib.Core.Path.{refl}
use Rattle.rules.specs.Sequence.{Steps}
use Rattle.gdp.specs.Flat.{flat}
use Rattle.gdp.proofs.Bytes.{work_put}
use Rattle.gdp.proofs.state.Gdp.begins.Goals as goal

pub returns : goal.returns
unfolding flat
returns c s e = simp (c.with_work.ensures, e, work_put 1 s.format s.work (Steps c.args.code 0) refl)
