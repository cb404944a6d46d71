-- A clear that runs has a frame to come: fewer are over than its format takes. No call looks at it, and none breaks it.
-- Assumes nothing.
use Rattle.std.specs.Prelude.{◌<◌}
use Rattle.parts.specs.Format.{frames}
use Rattle.rules.specs.Sequence.{frames_over}
use Rattle.rules.specs.State.{State}

abbrev pub FrameToCome : State → Type 0
FrameToCome s = frames_over s.work < frames s.format
