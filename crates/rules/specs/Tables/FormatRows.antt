-- What the format has no part in: registers, commands, VB, edges and refusals are the same in all three, row by row, but for the
-- first frame of a clear with FMAT high.
-- Assumes nothing.
use Rattle.std.specs.Prelude.{ℕ, ◌+◌, ◌*◌, cond, List, [], ◌∷◌, ◌++◌, eqb}
use Rattle.basis.specs.Reading.{Reading, joined}
use Rattle.rules.specs.Blanking.{after_vb}
use Rattle.rules.specs.Tables.Rows.{nth, but, high, stated, shown, writes, reads, strikes, rich}
use Rattle.rules.specs.Tables.FrameRows.{scene}
use Rattle.rules.specs.Tables.RefusalRows.{flaw}

-- a row in another format; an answer, before whose row stand number and value
unfoldable pub of : ℕ → List ℕ → List ℕ
of f r = but 0 f r

unfoldable pub answer_of : ℕ → List ℕ → List ℕ
answer_of f r = but 2 f r

-- both of the other formats beside the EF9366
unfoldable pub alike : (ℕ → List ℕ) → (ℕ → List ℕ) → List Reading
alike there here = (there 1, here 1) ∷ (there 2, here 2) ∷ []

unfoldable pub format_writes : List Reading
format_writes =
    alike (λ f. joined (λ a. writes (of f rich) a 0xF6) 1 16) (λ f. joined (λ a. answer_of f (writes rich a 0xF6)) 1 16)
    ++ (alike (λ f. joined (λ a. writes (of f rich) a 0x39) 1 16) (λ f. joined (λ a. answer_of f (writes rich a 0x39)) 1 16)
    ++ alike (λ f. joined (λ c. writes (of f rich) 0x0 c) 0 256) (λ f. joined (λ c. answer_of f (writes rich 0x0 c)) 0 256))

unfoldable pub format_reads : List Reading
format_reads = alike (λ f. joined (λ a. reads (of f rich) a) 0 17) (λ f. joined (λ a. answer_of f (reads rich a)) 0 17)

-- a row whose clear, if one runs, has n frames more behind it
unfoldable pub behind : ℕ → List ℕ → List ℕ
behind n r = cond (eqb (nth 10 r) 2) (but 14 (nth 14 r + 2 * n) r) r

-- a scene of format f with n frames behind it, all masks high, after a level; and the row that it has on the EF9366, where one
-- frame is the last
unfoldable pub levelled : ℕ → ℕ → ℕ → ℕ → ℕ → ℕ → List ℕ
levelled f n w pen vb level = shown (after_vb (stated (behind n (of f (scene w pen vb 7 0 0 0)))) (high level))

unfoldable pub last_frame : ℕ → ℕ → ℕ → ℕ → ℕ → ℕ → List ℕ
last_frame f n w pen vb level = behind n (of f (shown (after_vb (stated (scene w pen vb 7 0 0 0)) (high level))))

-- every scene and level
unfoldable pub levels : (ℕ → ℕ → ℕ → ℕ → List ℕ) → List ℕ
levels row = joined (λ w. joined (λ pen. joined (λ vb. joined (row w pen vb) 0 2) 0 2) 0 3) 0 6

-- FMAT low, and FMAT high once a frame is over, are as the EF9366
unfoldable pub format_frames : List Reading
format_frames =
    (levels (levelled 2 0), levels (last_frame 2 0))
    ∷ (levels (levelled 1 1), levels (last_frame 1 1))
    -- FMAT high in its first frame: the rise ends that frame and not the clear, and all else goes as where a clear waits
    ∷ (joined (λ pen. levelled 1 0 3 pen 0 1 ++ levelled 1 0 5 pen 0 1) 0 3, joined (λ pen. last_frame 1 1 2 pen 0 1 ++ last_frame 1 1 4 pen 0 1) 0 3)
    -- nothing of a clear ends at a fall, with the present level, or where none is inside a frame
    ∷ (
      joined (λ w. joined (λ pen. levelled 1 0 w pen 0 0 ++ (levelled 1 0 w pen 1 0 ++ levelled 1 0 w pen 1 1)) 0 3) 0 6,
      joined (λ w. joined (λ pen. last_frame 1 0 w pen 0 0 ++ (last_frame 1 0 w pen 1 0 ++ last_frame 1 0 w pen 1 1)) 0 3) 0 6,
    )
    ∷ (
      joined (λ pen. joined (λ w. levelled 1 0 w pen 0 1) 0 3 ++ levelled 1 0 4 pen 0 1) 0 3,
      joined (λ pen. joined (λ w. last_frame 1 0 w pen 0 1) 0 3 ++ last_frame 1 0 4 pen 0 1) 0 3,
    )
    -- edges
    ∷ alike (λ f. joined (λ pen. strikes (of f (scene 0 pen 0 7 0 0 0)) 63 255) 0 3)
    (λ f. joined (λ pen. answer_of f (strikes (scene 0 pen 0 7 0 0 0) 63 255)) 0 3)

-- each register at its edge, idle, while a vector runs and while a clear waits, in every format: 4,095 and 4,096, 127 and 128, ..
unfoldable pub edge_rows : List ℕ → List ℕ
edge_rows r =
    flaw (but 6 4095 r) ∷ flaw (but 6 4096 r) ∷ flaw (but 7 4095 r) ∷ flaw (but 7 4096 r) ∷ flaw (but 1 127 r) ∷ flaw (but 1 128 r)
    ∷ flaw (but 2 11 r) ∷ flaw (but 2 16 r) ∷ flaw (but 8 0xFD r) ∷ flaw (but 8 0x02 r) ∷ []

unfoldable pub flaw_rows : List Reading
flaw_rows = (
  joined (λ f. joined (λ w. joined (λ pen. edge_rows (of f (scene w pen 0 0 0 0 0))) 0 3) 0 6) 0 3,
  joined (λ i. 0 ∷ 1 ∷ 0 ∷ 1 ∷ 0 ∷ 1 ∷ 0 ∷ 1 ∷ 0 ∷ 1 ∷ []) 0 54,
)
    ∷ []
