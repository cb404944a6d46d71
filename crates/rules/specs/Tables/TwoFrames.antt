-- The frames of a clear, call by call: 04, 06, 07 and 0C with FMAT high take two, the other formats one, the pen's sequence one.
-- The picture is two bytes, for neither `after_vb` nor `picture_vb` asks for its length; the last row takes the calls themselves.
-- Assumes nothing.
use Rattle.std.specs.Prelude.{ℕ, ◌+◌, ◌*◌, true, false, cond, List, [], ◌∷◌, ◌++◌, map, eqb, length, get_or, replicate}
use Rattle.basis.specs.Reading.{Reading, each, joined, told}
use Rattle.parts.specs.declared.format.Format.{Format}
use Rattle.parts.specs.declared.format.Format.TheVariants.{Ef9366, FmatHigh, FmatLow}
use Rattle.rules.specs.Sequence.{frames_over, in_last}
use Rattle.rules.specs.State.{State, fresh}
use Rattle.rules.specs.Status.{status}
use Rattle.rules.specs.Registers.{after_read}
use Rattle.rules.specs.Figure.{tables}
use Rattle.rules.specs.Cycles.{used, dots, after}
use Rattle.rules.specs.Blanking.{ends_clear, after_vb, picture_vb, after_edge}
use Rattle.rules.specs.Refusals.{bad}
use Rattle.rules.specs.Calls.{written}
use Rattle.rules.specs.Card.{W, R, T, VB, LP}
use Rattle.rules.specs.Frames.{levels_in, rises_in, frames_after, rises_of, unwritten}
use Rattle.rules.specs.Tables.Play.{said, new}
use Rattle.rules.specs.Tables.Rows.{but, stated, shown, rich}

-- a fresh processor of a format after some accepted writes, the first of them last in the list
unfoldable pub told_to : Format → List (ℕ × ℕ) → State
told_to f [] = fresh f
told_to f (w ∷ ws) = (written (told_to f ws) w.0 w.1).state

-- a call: 0 and 1 VB's level, 2 a read of STATUS, 3 an edge, 4 a grant of 9 cycles
unfoldable pub called : State → ℕ → State
called s k = get_or (after_vb s false ∷ after_vb s true ∷ after_read s 0x0 ∷ after_edge s 10 20 ∷ after s 9 ∷ []) k s

unfoldable pub repainted : State → ℕ → List ℕ → List ℕ
repainted s k p = cond (eqb k 0) (picture_vb s false p) (cond (eqb k 1) (picture_vb s true p) p)

-- STATUS and the picture after each
unfoldable pub traced : State → List ℕ → List ℕ → List ℕ
traced s p [] = []
traced s p (k ∷ ks) = status (called s k) ∷ (repainted s k p ++ traced (called s k) (repainted s k p) ks)

unfoldable pub trace : State → List ℕ → List ℕ
trace s ks = traced s (0x5A ∷ 0x81 ∷ []) ks

-- such a row: the picture as it was, dark, lit
unfoldable pub kept : List ℕ → List ℕ
kept ss = joined (λ i. get_or ss i 0 ∷ 0x5A ∷ 0x81 ∷ []) 0 (length ss)

unfoldable pub darkened : ℕ → List ℕ
darkened s = s ∷ 0 ∷ 0 ∷ []

unfoldable pub lit : ℕ → List ℕ
lit s = s ∷ 255 ∷ 255 ∷ []

-- 04 with ready's mask high, VB low; with VB high
unfoldable pub low : Format → State
low f = told_to f ((0x0, 0x04) ∷ (0x1, 0x40) ∷ [])

unfoldable pub high : Format → State
high f = (written (after_vb (told_to f ((0x1, 0x40) ∷ [])) true) 0x0 0x04).state

-- a code with CTRL1 03, through two frames
unfoldable pub twice : ℕ → List ℕ
twice c = trace (told_to FmatHigh ((0x0, c) ∷ (0x1, 0x03) ∷ [])) (1 ∷ 0 ∷ 1 ∷ 0 ∷ 1 ∷ [])

-- a clear on format f inside a frame or waiting, frames over by its row, VB at a level
unfoldable pub clearing : ℕ → ℕ → ℕ → List ℕ
clearing f at vb = but 0 f (but 10 2 (but 14 at (but 16 vb rich)))

unfoldable pub two_frames : List Reading
two_frames =
    -- VB low at acceptance: the first rise ends a frame that had begun before; ready and its flag at the third rise
    (trace (low FmatHigh) (1 ∷ 0 ∷ 1 ∷ 0 ∷ 1 ∷ []), kept (0x03 ∷ 0x01 ∷ 0x03 ∷ 0x01 ∷ []) ++ darkened 0xC7)
    -- VB high: at the second
    ∷ (trace (high FmatHigh) (0 ∷ 1 ∷ 0 ∷ 1 ∷ []), kept (0x01 ∷ 0x03 ∷ 0x01 ∷ []) ++ darkened 0xC7)
    -- the present level again counts nothing
    ∷ (
      trace (low FmatHigh) (0 ∷ 1 ∷ 1 ∷ 0 ∷ 0 ∷ 1 ∷ 1 ∷ 0 ∷ 0 ∷ 1 ∷ []),
      kept (0x01 ∷ 0x03 ∷ 0x03 ∷ 0x01 ∷ 0x01 ∷ 0x03 ∷ 0x03 ∷ 0x01 ∷ 0x01 ∷ []) ++ darkened 0xC7,
    )
    -- nor do reads, edges and grants, before a frame, inside one, between the two; ready's flag of 05 goes by the read, and comes anew
    ∷ (
      trace (told_to FmatHigh ((0x0, 0x04) ∷ (0x0, 0x05) ∷ (0x1, 0x40) ∷ [])) (2 ∷ 4 ∷ 1 ∷ 3 ∷ 2 ∷ 0 ∷ 4 ∷ 3 ∷ 1 ∷ 2 ∷ 4 ∷ 3 ∷ 0 ∷ 2 ∷ 4 ∷ 1 ∷ []),
      kept (0x01 ∷ 0x01 ∷ 0x03 ∷ 0x03 ∷ 0x03 ∷ 0x01 ∷ 0x01 ∷ 0x01 ∷ 0x03 ∷ 0x03 ∷ 0x03 ∷ 0x03 ∷ 0x01 ∷ 0x01 ∷ 0x01 ∷ []) ++ darkened 0xC7,
    )
    -- once: the rises after it leave the picture, whatever it is by then
    ∷ (
      traced (called (called (called (called (high FmatHigh) 0) 1) 0) 1) (7 ∷ 9 ∷ []) (0 ∷ 1 ∷ 0 ∷ 1 ∷ []),
      0xC5 ∷ 7 ∷ 9 ∷ 0xC7 ∷ 7 ∷ 9 ∷ 0xC5 ∷ 7 ∷ 9 ∷ 0xC7 ∷ 7 ∷ 9 ∷ [],
    )
    -- FMAT low and the EF9366 take one frame
    ∷ (
      joined (λ f. trace (low (get_or (Ef9366 ∷ FmatLow ∷ []) f FmatHigh)) (1 ∷ 0 ∷ 1 ∷ []) ++ trace (high (get_or (Ef9366 ∷ FmatLow ∷ []) f FmatHigh)) (0 ∷ 1 ∷ [])) 0 2,
      joined (λ f. kept (0x03 ∷ 0x01 ∷ []) ++ darkened 0xC7 ++ (kept (0x01 ∷ []) ++ darkened 0xC7)) 0 2,
    )
    -- all four commands: 04, 06 and 07 darken, 0C lights with the pen
    ∷ (
      twice 0x04 ++ (twice 0x06 ++ (twice 0x07 ++ twice 0x0C)),
      joined (λ c. kept (0x03 ∷ 0x01 ∷ 0x03 ∷ 0x01 ∷ []) ++ cond (eqb c 3) (lit 0x07) (darkened 0x07)) 0 4,
    )
    -- 0C with the eraser
    ∷ (trace (told_to FmatHigh ((0x0, 0x0C) ∷ (0x1, 0x01) ∷ [])) (1 ∷ 0 ∷ 1 ∷ 0 ∷ 1 ∷ []), kept (0x03 ∷ 0x01 ∷ 0x03 ∷ 0x01 ∷ []) ++ darkened 0x07)
    -- 07 with a pen sequence under way: the sequence keeps its one frame, the clear has two
    ∷ (
      trace (told_to FmatHigh ((0x0, 0x07) ∷ (0x0, 0x08) ∷ [])) (1 ∷ 0 ∷ 1 ∷ 0 ∷ 1 ∷ []),
      kept (0x02 ∷ 0x00 ∷ 0x03 ∷ 0x01 ∷ []) ++ darkened 0x07,
    )
    -- and an edge in the first frame ends it there
    ∷ (
      trace (told_to FmatHigh ((0x0, 0x04) ∷ (0x0, 0x09) ∷ (0x1, 0x10) ∷ [])) (1 ∷ 0 ∷ 3 ∷ 1 ∷ 0 ∷ 3 ∷ 1 ∷ []),
      kept (0x02 ∷ 0x00 ∷ 0x91 ∷ 0x93 ∷ 0x91 ∷ 0x91 ∷ []) ++ darkened 0x97,
    )
    -- no cycle is used and no dot written between the frames
    ∷ (
      used (stated (clearing 1 2 1)) 9 ∷ length (dots (stated (clearing 1 2 1)) (tables (replicate 480 255)) 9) ∷ shown (after (stated (clearing 1 2 1)) 9),
      0 ∷ 0 ∷ clearing 1 2 1,
    )
    -- 1: VB high inside a frame, whatever is said to be over, and nothing else; by format, frames over and VB
    ∷ (
      joined (λ f. joined (λ at. each (λ vb. told (bad (stated (clearing f at vb)))) 0 2) 0 8) 0 3,
      joined (λ i. 0 ∷ 0 ∷ 0 ∷ 1 ∷ []) 0 12,
    )
    -- which rise ends a clear: FMAT high's with a frame over, and with more than there are; the others' whatever is said of it
    ∷ (
      joined (λ f. each (λ at. told (ends_clear (stated (clearing f at 0)))) 0 8) 0 3,
      (0 ∷ 1 ∷ 0 ∷ 1 ∷ 0 ∷ 1 ∷ 0 ∷ 1 ∷ []) ++ ((0 ∷ 0 ∷ 0 ∷ 1 ∷ 0 ∷ 1 ∷ 0 ∷ 1 ∷ []) ++ (0 ∷ 1 ∷ 0 ∷ 1 ∷ 0 ∷ 1 ∷ 0 ∷ 1 ∷ [])),
    )
    -- what is over: nothing where no clear runs
    ∷ (
      frames_over (stated rich).work ∷ frames_over (stated (but 10 1 (but 11 0x41 rich))).work ∷ each (λ at. frames_over (stated (clearing 1 at 0)).work) 0 4,
      0 ∷ 0 ∷ 0 ∷ 0 ∷ 1 ∷ 1 ∷ [],
    )
    -- of any number of frames the last: after 0 to 3 of 1 to 4
    ∷ (
      joined (λ k. each (λ n. told (in_last (k + 1) (stated (clearing 0 (2 * n + 1) 0)).work)) 0 4) 0 4,
      (1 ∷ 1 ∷ 1 ∷ 1 ∷ []) ++ ((0 ∷ 1 ∷ 1 ∷ 1 ∷ []) ++ ((0 ∷ 0 ∷ 1 ∷ 1 ∷ []) ++ (0 ∷ 0 ∷ 0 ∷ 1 ∷ []))),
    )
    -- the frames that rows of levels show: rises, less the first where VB is low
    ∷ (
      frames_after false (true ∷ false ∷ true ∷ false ∷ true ∷ []) ∷ frames_after true (false ∷ true ∷ false ∷ true ∷ [])
          ∷ frames_after false [] ∷ frames_after true (true ∷ true ∷ false ∷ false ∷ []) ∷ frames_after false (false ∷ true ∷ true ∷ false ∷ true ∷ true ∷ [])
          ∷ rises_in false (true ∷ false ∷ true ∷ []) ∷ rises_in true (true ∷ false ∷ true ∷ []) ∷ rises_in true (false ∷ false ∷ []) ∷ [],
      2 ∷ 2 ∷ 0 ∷ 0 ∷ 1 ∷ 2 ∷ 1 ∷ 0 ∷ [],
    )
    ∷ (map told (levels_in (W 1 2 ∷ VB true ∷ R 0 ∷ VB true ∷ T 9 ∷ VB false ∷ LP 1 2 ∷ VB true ∷ [])), 1 ∷ 1 ∷ 0 ∷ 1 ∷ [])
    -- the rises up to a clear's end, by format and VB
    ∷ (joined (λ f. each (λ vb. rises_of (stated (clearing f 0 vb))) 0 2) 0 3, 2 ∷ 1 ∷ 3 ∷ 2 ∷ 2 ∷ 1 ∷ [])
    -- what is written after so many rises
    ∷ (
      each (λ n. told (unwritten n true (R 0 ∷ T 9 ∷ VB false ∷ LP 1 2 ∷ VB true ∷ []))) 0 3 ++ each (λ n. told (unwritten n true (W 0 0 ∷ R 0 ∷ []))) 0 3,
      1 ∷ 1 ∷ 1 ∷ 0 ∷ 1 ∷ 1 ∷ [],
    )
    ∷ (
      each (λ n. told (unwritten n false (W 1 2 ∷ VB true ∷ LP 1 2 ∷ W 1 2 ∷ VB false ∷ T 9 ∷ VB true ∷ R 0 ∷ W 1 2 ∷ []))) 0 5
          ++ each (λ n. told (unwritten n true (VB true ∷ VB false ∷ VB false ∷ VB true ∷ W 1 2 ∷ []))) 0 3,
      0 ∷ 0 ∷ 0 ∷ 1 ∷ 1 ∷ 0 ∷ 0 ∷ 1 ∷ [],
    )
    -- the calls themselves: a write is refused until the second frame is over, a grant uses nothing
    ∷ (
      said (new FmatHigh) (W 1 0x40 ∷ W 0 0x04 ∷ VB true ∷ VB false ∷ VB true ∷ R 0 ∷ T 9 ∷ W 0 0 ∷ LP 0 0 ∷ VB false ∷ R 0 ∷ VB true ∷ R 0 ∷ W 0 0 ∷ []),
      0x03 ∷ 0 ∷ 1006 ∷ 0x01 ∷ 0xC7 ∷ [],
    )
    ∷ []
