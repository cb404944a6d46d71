-- The frames of a clear, counted in a row of calls by VB's levels alone, and what has come of the clear by then.
-- Assumes nothing.
use Rattle.std.specs.Prelude.{◌≡◌, ℕ, ◌+◌, ◌-◌, Bool, true, cond, ◌&&◌, ◌||◌, not, List, [], ◌∷◌, eqb, leb}
use Rattle.picture.specs.Bit.{digit, bit_at}
use Rattle.picture.specs.Dot.{whole}
use Rattle.parts.specs.Format.{frames}
use Rattle.rules.specs.Sequence.{ready as isReady, clear_lights}
use Rattle.rules.specs.State.{State}
use Rattle.rules.specs.Cycles.{lights}
use Rattle.rules.specs.Card.{Card, Event, W, R, T, VB, LP}

-- the levels that VB is set to
unfoldable pub levels_in : List Event → List Bool
levels_in [] = []
levels_in (W a v ∷ es) = levels_in es
levels_in (R a ∷ es) = levels_in es
levels_in (T n ∷ es) = levels_in es
levels_in (VB level ∷ es) = level ∷ levels_in es
levels_in (LP h v ∷ es) = levels_in es

-- how often VB rises in a row of levels, from the level that it has
unfoldable pub rises_in : Bool → List Bool → ℕ
rises_in vb [] = 0
rises_in vb (level ∷ levels) = digit (not vb && level) + rises_in level levels

-- the frames that begin at a fall and end: each rise ends one, but where VB is low at first, its first rise ends a frame that had
-- begun before
unfoldable pub frames_after : Bool → List Bool → ℕ
frames_after vb levels = rises_in vb levels - digit (not vb)

-- the rises of VB up to the one that ends a clear accepted in this state
abbrev pub rises_of : State → ℕ
rises_of s = frames s.format + digit (not s.vb)

-- no register is written once VB, from the level that it has, has risen n times
unfoldable pub unwritten : ℕ → Bool → List Event → Bool
unwritten n vb [] = true
unwritten n vb (W a v ∷ es) = not (eqb n 0) && unwritten n vb es
unwritten n vb (R a ∷ es) = unwritten n vb es
unwritten n vb (T k ∷ es) = unwritten n vb es
unwritten n vb (VB level ∷ es) = unwritten (n - digit (not vb && level)) level es
unwritten n vb (LP h v ∷ es) = unwritten n vb es

-- card c, on which a clear runs, has come to card d, and n frames of the clear are over: with the last frame of the format, and not
-- before, ready is high and every dot as the clear leaves it, and ready's flag may have risen, where its mask lets it
pub record Come (c d : Card) (n : ℕ) : Type 0 where
  pub ready : isReady d.state.work ≡ leb (frames c.state.format) n
  pub picture : d.memory.picture
      ≡ cond (leb (frames c.state.format) n) (whole (clear_lights c.state.work (lights c.state.regs)) c.memory.picture)
      c.memory.picture
  pub flag : d.state.flags.ready ≡ true
      → (c.state.flags.ready || (leb (frames c.state.format) n && bit_at 6 c.state.regs.ctrl1)) ≡ true
