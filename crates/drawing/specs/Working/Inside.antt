-- A vector that lies inside the window is drawn by the numbers of its dots: they step by additions, as X and Y do.
-- Assumes nothing.
use Rattle.std.specs.Prelude.{◌≡◌, ℕ, ◌+◌, ◌-◌, ◌*◌, ◌%◌, ◌≤◌, ◌<◌, min, Bool, true, false, cond}
use Rattle.picture.specs.declared.screen.Window.{Window}
use Rattle.picture.specs.Screen.{dot_number}
use Rattle.motion.specs.declared.position.Spot.{Spot}
use Rattle.motion.specs.declared.vector.Line.{Line}
use Rattle.motion.specs.Position.{ahead, signed}
use Rattle.motion.specs.Vector.{vector_x, vector_y}
use Rattle.motion.specs.Working.Strokes.{error_of}
use Rattle.drawing.specs.declared.inside.Strides.{Strides}
use Rattle.drawing.specs.declared.inside.Trace.{Trace}

-- along one axis, every place up to n from p lies in a window of that size, which ends short of where X and Y step around
pub record Along (back : Bool) (p n size : ℕ) : Type 0 where
  pub short : size < 4096
  pub inside : (m : ℕ) → m ≤ n → ahead p (signed back m) < size

-- and so along both, for the whole length of a vector
pub record Within (w : Window) (l : Line) (at : Spot) : Type 0 where
  pub x : Along l.left at.x (cond l.steep l.short l.long) w.width
  pub y : Along l.down at.y (cond l.steep l.long l.short) w.height

-- what is added to a dot's number for n dots on or back, modulo 2^20, of which there are more than dots
abbrev pub stride : Bool → ℕ → ℕ
stride true n = 1048576 - n
stride false n = n

abbrev pub onward : ℕ → ℕ → ℕ
onward d n = (d + n) % 1048576

-- one dot along the longer axis; one along both
pub record Strode (width : ℕ) (l : Line) (by : Strides) : Type 0 where
  pub straight : by.straight ≡ cond l.steep (stride l.down width) (stride l.left 1)
  pub diagonal : by.diagonal ≡ onward (stride l.left 1) (stride l.down width)

-- from dot i on, the dots of a vector that starts at (x₀, y₀) are in a window so wide and high
pub record Shown (width height : ℕ) (l : Line) (x₀ y₀ i : ℕ) : Type 0 where
  pub wide : width < 4096
  pub high : height < 4096
  pub few : width * height ≤ 524288
  pub inside : (j : ℕ) → i ≤ j → j ≤ l.long → (ahead x₀ (vector_x l j) < width) × (ahead y₀ (vector_y l j) < height)

-- a trace has the number of its dot; past the last dot it stays on the last
pub record OnTrace (width : ℕ) (l : Line) (x₀ y₀ : ℕ) (s : Trace) : Type 0 where
  pub dot : s.dot ≡ dot_number width (ahead x₀ (vector_x l (min s.i l.long))) (ahead y₀ (vector_y l (min s.i l.long)))
  pub error : s.error ≡ error_of l.long l.short (min s.i l.long)
