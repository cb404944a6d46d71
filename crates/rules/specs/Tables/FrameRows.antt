-- VB and LPCK on states of every kind, and STATUS of each; the whole row after it.
-- Assumes nothing.
use Rattle.std.specs.Prelude.{ℕ, ◌+◌, ◌*◌, ◌/◌, ◌%◌, ◌^◌, max, cond, List, [], ◌∷◌, ◌++◌, get_or, replicate}
use Rattle.basis.specs.Reading.{Reading, each, joined, told}
use Rattle.rules.specs.Sequence.{clear_lights}
use Rattle.rules.specs.Blanking.{after_vb, picture_vb}
use Rattle.rules.specs.Registers.{register_at}
use Rattle.rules.specs.Refusals.{bad}
use Rattle.rules.specs.Tables.Rows.{nth, but, high, stated, shown, strikes, gives, refuses, rich}

-- what may go on: 0 nothing, 1 a vector, 2 and 3 a clear that waits and one in its first frame, 4 and 5 the same of 0C
unfoldable pub doing : ℕ → List ℕ → List ℕ
doing w r =
    get_or (
    r
    ∷ but 10 1 (but 11 0x11 (but 12 3 r))
    ∷ but 10 2 r
    ∷ but 10 2 (but 14 1 r)
    ∷ but 10 2 (but 13 1 r)
    ∷ but 10 2 (but 13 1 (but 14 1 r))
    ∷ [])
    w []

-- a row by what goes on, the pen's sequence, VB, the masks in CTRL1 bits 4 to 6 and the flags
unfoldable pub scene : ℕ → ℕ → ℕ → ℕ → ℕ → ℕ → ℕ → List ℕ
scene w pen vb masks p v r = doing w (but 1 (16 * masks + 5) (but 15 pen (but 16 vb (but 17 p (but 18 v (but 19 r rich))))))

-- the masks one by one, all, none
unfoldable pub mask : ℕ → ℕ
mask m = get_or (0 ∷ 1 ∷ 2 ∷ 4 ∷ 7 ∷ []) m 0

-- at a fall what waits opens
unfoldable pub falls : ℕ → ℕ → ℕ → ℕ → ℕ → ℕ → List ℕ
falls w pen m p v r =
    scene (get_or (0 ∷ 1 ∷ 3 ∷ 3 ∷ 5 ∷ 5 ∷ []) w 0) (get_or (0 ∷ 2 ∷ 2 ∷ []) pen 0) 0 (mask m) p v r

-- at a rise what is open ends; each end sets its flag while its mask is high, and VB's own flag is set while mask 5 is
unfoldable pub rises : ℕ → ℕ → ℕ → ℕ → ℕ → ℕ → List ℕ
rises w pen m p v r =
    scene (get_or (0 ∷ 1 ∷ 2 ∷ 0 ∷ 4 ∷ 0 ∷ []) w 0) (get_or (0 ∷ 1 ∷ 0 ∷ []) pen 0) 1 (mask m)
    (max p (get_or (0 ∷ 0 ∷ mask m % 2 ∷ []) pen 0))
    (max v (mask m / 2 % 2))
    (max r (get_or (0 ∷ 0 ∷ 0 ∷ mask m / 4 ∷ 0 ∷ mask m / 4 ∷ []) w 0))

-- both levels from every scene: those with the level that VB has stay as they are
unfoldable pub blankings : ℕ → ℕ → ℕ → List Reading
blankings p v r = (
  joined (λ w. joined (λ pen. joined (λ m. joined (λ vb. joined (λ level.
      shown (after_vb (stated (scene w pen vb (mask m) p v r)) (high level))) 0 2) 0 2) 0 5) 0 3) 0 6,
  joined (λ w. joined (λ pen. joined (λ m.
      scene w pen 0 (mask m) p v r ++ (rises w pen m p v r
      ++ (falls w pen m p v r ++ scene w pen 1 (mask m) p v r))) 0 5) 0 3) 0 6,
)
    ∷ []

unfoldable pub levels : List Reading
levels = blankings 0 0 0

unfoldable pub levels_flagged : List Reading
levels_flagged = blankings 1 0 0 ++ (blankings 0 1 0 ++ blankings 0 0 1)

-- the picture 01 02 FF of three bytes: it changes at the rise that ends a clear, all lit where 0C fills and CTRL1 bit 1 is high
unfoldable pub pictured : ℕ → ℕ → ℕ → ℕ → List ℕ
pictured w c1 vb level = picture_vb (stated (doing w (but 1 c1 (but 16 vb rich)))) (high level) (0x01 ∷ 0x02 ∷ 0xFF ∷ [])

unfoldable pub as_is : List ℕ
as_is = 0x01 ∷ 0x02 ∷ 0xFF ∷ []

unfoldable pub pictures : List Reading
pictures = (
  joined (λ w. pictured w 0x7D 0 1 ++ pictured w 0x02 0 1) 0 6,
  as_is ++ as_is ++ (as_is ++ as_is) ++ (as_is ++ as_is) ++ (replicate 3 0 ++ replicate 3 0)
      ++ (as_is ++ as_is) ++ (replicate 3 0 ++ replicate 3 255),
)
    -- at a fall, and with the present level, it stays
    ∷ (
      joined (λ w. pictured w 0x7F 0 0 ++ (pictured w 0x7F 1 0 ++ pictured w 0x7F 1 1)) 0 6,
      joined (λ i. as_is) 0 18,
    )
    -- what a clear leaves, by what goes on and CTRL1 bit 1: lit only where 0C fills with the bit high
    ∷ (
      joined (λ w. each (λ bit1. told (clear_lights (stated (doing w rich)).work (high bit1))) 0 2) 0 6,
      replicate 8 0 ++ (0 ∷ 1 ∷ 0 ∷ 1 ∷ []),
    )
    ∷ []

-- VB high inside an open frame, of a clear or of the pen, is refused with 1; no other scene is
unfoldable pub open_frames : List Reading
open_frames = (
  joined (λ vb. joined (λ w. each (λ pen. cond (bad (stated (scene w pen vb 0 0 0 0))) 1 0) 0 3) 0 6) 0 2,
  replicate 18 0
      ++ (0 ∷ 0 ∷ 1 ∷ 0 ∷ 0 ∷ 1 ∷ 0 ∷ 0 ∷ 1 ∷ 1 ∷ 1 ∷ 1 ∷ 0 ∷ 0 ∷ 1 ∷ 1 ∷ 1 ∷ 1 ∷ []),
)
    ∷ []

-- an edge: only in the open frame does it load XLP and YLP and end the sequence; the flag while mask 4 is high
unfoldable pub struck_to : ℕ → ℕ → ℕ → ℕ → ℕ → List ℕ
struck_to w pen m p v =
    get_or (
    scene w 0 0 (mask m) p v 1
    ∷ scene w 1 0 (mask m) p v 1
    ∷ but 8 41 (but 9 20 (scene w 0 0 (mask m) (max p (mask m % 2)) v 1))
    ∷ [])
    pen []

unfoldable pub lpck_edges : List Reading
lpck_edges = (
  joined (λ w. joined (λ pen. joined (λ m. joined (λ p.
      strikes (scene w pen 0 (mask m) p 0 1) 10 20 ++ strikes (scene w pen 0 (mask m) p 1 1) 10 20) 0 2) 0 5) 0 3) 0 6,
  joined (λ w. joined (λ pen. joined (λ m. joined (λ p.
      gives 0 (struck_to w pen m p 0) ++ gives 0 (struck_to w pen m p 1)) 0 2) 0 5) 0 3) 0 6,
)
    -- every segment and every line
    ∷ (each (λ h. nth 10 (strikes (scene 0 2 0 0 0 0 0) h 0)) 0 64, each (λ h. 1 + 4 * h) 0 64)
    ∷ (each (λ v. nth 11 (strikes (scene 0 2 0 0 0 0 0) 0 v)) 0 256, each (λ v. v) 0 256)
    -- past them 8, open or not; 1 goes first
    ∷ (
      strikes (scene 0 2 0 7 0 0 0) 64 0 ++ (strikes (scene 0 2 0 7 0 0 0) 0 256 ++ strikes (scene 0 0 0 7 0 0 0) 255 65535),
      refuses 8 (scene 0 2 0 7 0 0 0) ++ (refuses 8 (scene 0 2 0 7 0 0 0) ++ refuses 8 (scene 0 0 0 7 0 0 0)),
    )
    ∷ (strikes (scene 0 2 1 7 0 0 0) 64 0, refuses 1 (scene 0 2 1 7 0 0 0))
    ∷ []

-- STATUS: bit 0 no pen sequence, 1 VB, 2 nothing runs, 3 outside, 4 to 6 the flags, 7 any of them; CTRL1 plays no part in it
unfoldable pub positions : List (ℕ × ℕ)
positions = (0, 0) ∷ (511, 255) ∷ (512, 0) ∷ (0, 256) ∷ (4095, 4095) ∷ []

unfoldable pub placed : ℕ → List ℕ → List ℕ
placed k r = but 6 (get_or positions k (0, 0)).0 (but 7 (get_or positions k (0, 0)).1 r)

unfoldable pub status_of : ℕ → ℕ → ℕ → ℕ → ℕ → ℕ → ℕ
status_of w pen vb k flags c1 =
    register_at (stated (placed k (but 1 c1 (scene w pen vb 0 (flags % 2) (flags / 2 % 2) (flags / 4))))) 0x0

unfoldable pub status_bits : ℕ → ℕ → ℕ → ℕ → ℕ → ℕ
status_bits w pen vb k flags =
    get_or (1 ∷ 0 ∷ 0 ∷ []) pen 9
    + 2 * vb
    + get_or (4 ∷ 0 ∷ 0 ∷ 0 ∷ 0 ∷ 0 ∷ []) w 9
    + get_or (0 ∷ 0 ∷ 8 ∷ 8 ∷ 8 ∷ []) k 9
    + 16 * flags
    + get_or (0 ∷ 128 ∷ 128 ∷ 128 ∷ 128 ∷ 128 ∷ 128 ∷ 128 ∷ []) flags 9

unfoldable pub statuses : ℕ → List Reading
statuses c1 = (
  joined (λ w. joined (λ pen. joined (λ vb. joined (λ k. each (λ flags. status_of w pen vb k flags c1) 0 8) 0 5) 0 2) 0 3) 0 3,
  joined (λ w. joined (λ pen. joined (λ vb. joined (λ k. each (λ flags. status_bits w pen vb k flags) 0 8) 0 5) 0 2) 0 3) 0 3,
)
    ∷ []

unfoldable pub status_rows : List Reading
status_rows = statuses 0x00 ++ statuses 0x7F

-- bit 3 as one bit after the other of X is high, and of Y, in each format
unfoldable pub outside_bits : ℕ → ℕ → List ℕ
outside_bits format i = each (λ k. register_at (stated (but i (2 ^ k) (but 0 format (but 6 0 (but 7 0 rich))))) 0x0 / 8 % 2) 0 12

unfoldable pub upper : ℕ → List ℕ
upper n = replicate n 0 ++ replicate (get_or (0 ∷ 0 ∷ 0 ∷ 0 ∷ 0 ∷ 0 ∷ 0 ∷ 0 ∷ 4 ∷ 3 ∷ []) n 0) 1

unfoldable pub outsides : List Reading
outsides =
    (outside_bits 0 6, upper 9)
    ∷ (outside_bits 0 7, upper 8)
    ∷ (outside_bits 1 6, upper 9)
    ∷ (outside_bits 1 7, upper 9)
    ∷ (outside_bits 2 6, upper 8)
    ∷ (outside_bits 2 7, upper 8)
    ∷ []
