-- Every dot that granted cycles write lies in the picture's memory, on every format: its window is one of the picture
-- memory's screens, for which that is proved once over width and height.
-- Assumes nothing.
use mathlib.Core.Path.{◌≡◌, sym, ◌∙◌}
use mathlib.Core.Logic.{⊎_elim}
use mathlib.Core.Bool.{Bool, true, false, cond, ◌&&◌, false≢true}
use mathlib.Core.List.{List, [], ◌++◌}
use Prim.Native.Nat.{ℕ, zero, suc, ◌-◌, ◌*◌, ◌<◌, min}
use Rattle.basis.proofs.Cases.{or_cases}
use Rattle.picture.specs.Dot.{gathered, has}
use Rattle.picture.specs.Screen.{place}
use Rattle.picture.proofs.Laws.{has_append, place_fits}
use Rattle.motion.specs.declared.position.Spot.{Spot}
use Rattle.parts.specs.declared.format.Format.{Format}
use Rattle.parts.specs.Format.{window, bytes}
use Rattle.parts.proofs.Laws.{screen}
use Rattle.drawing.specs.Figure.{Figure, writes}
use Rattle.drawing.specs.Run.{place_of, mark, dot_of, dots_from}
use Rattle.rules.specs.Sequence.{Work, Idle, Steps, Clear}
use Rattle.rules.specs.State.{Regs, State}
use Rattle.rules.specs.Figure.{Tables, figure, cycles, glyph}
use Rattle.rules.specs.Cycles.{pen_down, cyclic, tip, start, dots_of, dots}

-- all dots of a list are below n
abbrev pub Below : ℕ → List ℕ → Type 0
Below n ds = (d : ℕ) → has d ds ≡ true → d < n

none_below : (n : ℕ) → Below n []
none_below n d h = absurd (false≢true h)

both_below : (n : ℕ) (ds es : List ℕ) → Below n ds → Below n es → Below n (ds ++ es)
both_below n ds es h k d e = ⊎_elim (h d) (k d) (or_cases (has d ds) (has d es) (sym (has_append d ds es) ∙ e))

where_below : (n : ℕ) (b : Bool) (ds : List ℕ) → Below n ds → Below n (cond b ds [])
where_below n true ds h = h
where_below n false ds h = none_below n

module _ (f : Format) (r : Regs) (a : Figure) (g : List ℕ) (at : Spot) where
  dot_below : (i : ℕ) → Below (8 * bytes f) (dot_of (tip f r) a g at i)
  unfolding dot_of mark tip
  dot_below i =
      let here = place_of a at i in
      where_below (8 * bytes f) (pen_down r && writes a g i) (place (window f (cyclic r)) here.x here.y)
      (λ d h. place_fits (window f (cyclic r)) here.x here.y (bytes f) d (screen f (cyclic r)) h)

  from_below : (i k : ℕ) → Below (8 * bytes f) (dots_from (tip f r) a g at i k)
  unfolding dots_from
  from_below i zero = none_below (8 * bytes f)
  from_below i (suc k) =
      both_below (8 * bytes f) (dot_of (tip f r) a g at i) (gathered (dot_of (tip f r) a g at) (suc i) k) (dot_below i) (from_below (suc i) k)

work_below : (f : Format) (r : Regs) (t : Tables) (n : ℕ) (w : Work) → Below (8 * bytes f) (dots_of f r t n w)
unfolding dots_of
work_below f r t n Idle = none_below (8 * bytes f)
work_below f r t n (Steps c p) = from_below f r (figure r c) (glyph t c) (start r c p) p (min n (cycles r c - p))
work_below f r t n (Clear g o) = none_below (8 * bytes f)

-- any number of cycles, from any state
pub dots_below : (s : State) (t : Tables) (n : ℕ) → Below (8 * bytes s.format) (dots s t n)
unfolding dots
dots_below s t n = work_below s.format s.regs t n s.work
