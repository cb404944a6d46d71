-- The sixteen bytes of a state and the state of sixteen bytes, held against include/gdp.h.
-- Assumes nothing.
use Rattle.std.specs.Prelude.{ℕ, ◌+◌, ◌*◌, ◌^◌, Bool, true, false, List, [], ◌∷◌, ◌++◌, get_or, replicate}
use Rattle.basis.specs.Reading.{Reading, each, joined, told}
use Rattle.parts.specs.declared.format.Format.{Format}
use Rattle.parts.specs.declared.format.Format.TheVariants.{Ef9366, FmatHigh, FmatLow}
use Rattle.rules.specs.Sequence.{Work, Idle, Steps, Clear, LightPen, Off, Waiting, Open}
use Rattle.rules.specs.State.{State, regs, flags, state}
use Rattle.rules.specs.Tables.Rows.{frames_named, frames_told}
use Rattle.gdp.specs.declared.state.Gdp.{Gdp}
use Rattle.parts.specs.Format.{format_number, format_at}
use Rattle.gdp.specs.Flat.{light_pen_number, light_pen_at, work_number, code_of, done_of, fills, work_at, modes_of, flat, named, format_of, frames_in, regs_of, put_regs, state_of}
use Rattle.gdp.specs.Tables.Rows.{over, times, bytes, byte_row, regs_row, format_row, work_row, pen_row, state_row}

-- a state whose registers have each their own value, and such bytes
unfoldable pub own : Format → Work → LightPen → Bool → Bool → Bool → Bool → State
own f w p v fp fv fr = state f (regs 0x71 0x0B 0x23 0x45 0x67 0xABC 0x9DE 0xF1 0x8F) w p v (flags fp fv fr)

unfoldable pub own_bytes : ℕ → ℕ → Gdp
own_bytes m g = bytes 0xABC 0x9DE 300 0x71 0x0B 0x23 0x45 0x67 0xF1 0x8F 0x41 m g

-- The bytes of a state ------------------------------------------------------------------------------------------------

-- every format, kind of work, pen sequence, level and flag, alone and together, the flags slowest and VB fastest
unfoldable pub formats : List Format
formats = Ef9366 ∷ FmatHigh ∷ FmatLow ∷ []

unfoldable pub works : List Work
works =
    Idle ∷ Steps 0x41 300 ∷ Clear false (frames_named 0) ∷ Clear true (frames_named 0) ∷ Clear false (frames_named 1) ∷ Clear true (frames_named 1) ∷ []

unfoldable pub pens : List LightPen
pens = Off ∷ Waiting ∷ Open ∷ []

unfoldable pub levels : List Bool
levels = false ∷ true ∷ []

unfoldable pub all_flat : List ℕ
all_flat =
    over formats (λ (f : Format). over works (λ (w : Work).
    over levels (λ (fr : Bool). over levels (λ (fv : Bool). over levels (λ (fp : Bool).
    over pens (λ (p : LightPen). over levels (λ (v : Bool). byte_row (flat (own f w p v fp fv fr)))))))))

-- `modes` with code and done, format 0: bits 3 and 4 what runs, 5 the clear is 0C, 6 a frame of it is open
unfoldable pub modes_rows : List (ℕ × (ℕ × ℕ))
modes_rows = (0, (0, 0)) ∷ (8, (0x41, 300)) ∷ (16, (0, 0)) ∷ (48, (0, 0)) ∷ (80, (0, 0)) ∷ (112, (0, 0)) ∷ []

-- `signals`: bit 1 VB, 2 and 3 the pen sequence; 4, 5 and 6 pen end, VB and ready
unfoldable pub signals_rows : List ℕ
signals_rows =
    0 ∷ 2 ∷ 4 ∷ 6 ∷ 8 ∷ 10
    ∷ 16 ∷ 18 ∷ 20 ∷ 22 ∷ 24 ∷ 26
    ∷ 32 ∷ 34 ∷ 36 ∷ 38 ∷ 40 ∷ 42
    ∷ 48 ∷ 50 ∷ 52 ∷ 54 ∷ 56 ∷ 58
    ∷ 64 ∷ 66 ∷ 68 ∷ 70 ∷ 72 ∷ 74
    ∷ 80 ∷ 82 ∷ 84 ∷ 86 ∷ 88 ∷ 90
    ∷ 96 ∷ 98 ∷ 100 ∷ 102 ∷ 104 ∷ 106
    ∷ 112 ∷ 114 ∷ 116 ∷ 118 ∷ 120 ∷ 122
    ∷ []

unfoldable pub all_bytes : List ℕ
all_bytes =
    over (0 ∷ 1 ∷ 2 ∷ []) (λ (f : ℕ). over modes_rows (λ (w : ℕ × (ℕ × ℕ)). over signals_rows (λ (g : ℕ).
    0xABC ∷ 0x9DE ∷ w.1.1 ∷ 0x71 ∷ 0x0B ∷ 0x23 ∷ 0x45 ∷ 0x67 ∷ 0xF1 ∷ 0x8F ∷ w.1.0 ∷ (f + w.0) ∷ g ∷ [])))

-- v in every register, in the code and in the progress; each bit of them
unfoldable pub flat_all : ℕ → List ℕ
flat_all v = byte_row (flat (state Ef9366 (regs v v v v v v v v v) (Steps v v) Off false (flags false false false)))

unfoldable pub flat_bit : ℕ → List ℕ
flat_bit i = flat_all (2 ^ i)

-- The state of sixteen bytes ------------------------------------------------------------------------------------------

unfoldable pub own_regs : List ℕ
own_regs = 0x71 ∷ 0x0B ∷ 0x23 ∷ 0x45 ∷ 0x67 ∷ 0xABC ∷ 0x9DE ∷ 0xF1 ∷ 0x8F ∷ []

-- all `modes` beside `signals` g: bits 0 to 2 the format, 3 to 7 read as 2; 3 and 4 what runs, 3 read as 2; without a command
-- that steps code and done are not read, without a clear 5 to 7 are not; nor is 7 but for format 1, FMAT high
unfoldable pub of_modes : ℕ → List ℕ
of_modes g = joined (λ (m : ℕ). state_row (state_of (own_bytes m g))) 0 256

unfoldable pub modes_read : List ℕ → List ℕ
modes_read rest =
    let eight : (ℕ → List ℕ) → List ℕ =
    λ (w : ℕ → List ℕ). over (0 ∷ 1 ∷ 2 ∷ 2 ∷ 2 ∷ 2 ∷ 2 ∷ 2 ∷ []) (λ (f : ℕ). own_regs ++ (f ∷ (w f ++ rest))) in
    let block : ℕ → ℕ → ℕ → List ℕ =
    λ (l o v : ℕ). eight (λ f. 0 ∷ 0 ∷ 0 ∷ []) ++ (eight (λ f. 1 ∷ 0x41 ∷ 300 ∷ [])
    ++ times 2 (eight (λ f. 2 ∷ l ∷ (o + get_or (0 ∷ 2 * v ∷ 0 ∷ []) f 9) ∷ []))) in
    joined (λ (v : ℕ). block 0 0 v ++ (block 1 0 v ++ (block 0 1 v ++ block 1 1 v))) 0 2

-- the frames in all 256 `modes`: 1 for bit 6, and with FMAT high 2 for bit 7
unfoldable pub frames_read : List ℕ
frames_read =
    times 8 (replicate 8 0) ++ (times 8 (replicate 8 1)
    ++ (times 8 (0 ∷ 2 ∷ replicate 6 0) ++ times 8 (1 ∷ 3 ∷ replicate 6 1)))

-- all `signals` beside `modes` m: bit 1 VB; 2 and 3 the pen sequence, 3 read as 2; 4, 5, 6 the flags; 0 and 7 are not read
unfoldable pub of_signals : ℕ → List ℕ
of_signals m = joined (λ (g : ℕ). state_row (state_of (own_bytes m g))) 0 256

unfoldable pub signals_read : List ℕ → List ℕ
signals_read first =
    times 2 (joined (λ (fr : ℕ). joined (λ (fv : ℕ). joined (λ (fp : ℕ). over (0 ∷ 1 ∷ 2 ∷ 2 ∷ []) (λ (p : ℕ). joined (λ (v : ℕ).
    times 2 (own_regs ++ (first ++ (p ∷ v ∷ fp ∷ fv ∷ fr ∷ [])))) 0 2)) 0 2) 0 2) 0 2)

-- v in every register, in the code and in the progress; each bit of them
unfoldable pub state_all : ℕ → List ℕ
state_all v = state_row (state_of (bytes v v v v v v v v v v v 8 0))

unfoldable pub state_bit : ℕ → List ℕ
state_bit i = state_all (2 ^ i)

-- the largest X and Y, the last cycle of the largest character, all bits
unfoldable pub largest : List ℕ
largest = 4095 ∷ 12287 ∷ 65535 ∷ []

-- What is named -------------------------------------------------------------------------------------------------------

-- formats 0 to 2 and works 0 to 2, whatever bits 5 to 7 are; pen sequences 0 to 2, whatever the other bits are
unfoldable pub named_by_modes : List ℕ
named_by_modes = times 8 (times 3 (1 ∷ 1 ∷ 1 ∷ replicate 5 0) ++ replicate 8 0)

unfoldable pub named_by_signals : List ℕ
named_by_signals = times 16 (replicate 12 1 ++ replicate 4 0)

unfoldable pub is_named : ℕ → ℕ → ℕ
is_named m g = told (named (own_bytes m g))

-- The table -----------------------------------------------------------------------------------------------------------

unfoldable pub layout : List Reading
layout =
    (all_flat, all_bytes)
    ∷ (joined flat_bit 0 16, joined (λ (i : ℕ). replicate 11 (2 ^ i) ++ (8 ∷ 0 ∷ [])) 0 16)
    -- every byte, and the largest numbers
    ∷ (joined flat_all 0 256 ++ over largest flat_all, joined (λ (v : ℕ). replicate 11 v ++ (8 ∷ 0 ∷ [])) 0 256 ++ over largest (λ (v : ℕ). replicate 11 v ++ (8 ∷ 0 ∷ [])))
    ∷ (
      joined state_all 0 256 ++ over largest state_all,
      joined (λ (v : ℕ). replicate 9 v ++ (0 ∷ 1 ∷ v ∷ v ∷ replicate 5 0)) 0 256 ++ over largest (λ (v : ℕ). replicate 9 v ++ (0 ∷ 1 ∷ v ∷ v ∷ replicate 5 0)),
    )
    ∷ (of_modes 0x00, modes_read (0 ∷ 0 ∷ 0 ∷ 0 ∷ 0 ∷ []))
    ∷ (of_modes 0x56, modes_read (1 ∷ 1 ∷ 1 ∷ 0 ∷ 1 ∷ []))
    ∷ (of_modes 0x28, modes_read (2 ∷ 0 ∷ 0 ∷ 1 ∷ 0 ∷ []))
    ∷ (of_modes 0xFF, modes_read (2 ∷ 1 ∷ 1 ∷ 1 ∷ 1 ∷ []))
    ∷ (of_signals 0x00, signals_read (0 ∷ 0 ∷ 0 ∷ 0 ∷ []))
    ∷ (of_signals 0x09, signals_read (1 ∷ 1 ∷ 0x41 ∷ 300 ∷ []))
    ∷ (of_signals 0x32, signals_read (2 ∷ 2 ∷ 1 ∷ 0 ∷ []))
    ∷ (of_signals 0x50, signals_read (0 ∷ 2 ∷ 0 ∷ 1 ∷ []))
    ∷ (of_signals 0xFF, signals_read (2 ∷ 2 ∷ 1 ∷ 1 ∷ []))
    ∷ (joined state_bit 0 16, joined (λ (i : ℕ). replicate 9 (2 ^ i) ++ (0 ∷ 1 ∷ (2 ^ i) ∷ (2 ^ i) ∷ replicate 5 0)) 0 16)
    ∷ (each (λ (m : ℕ). is_named m 0) 0 256 ++ each (λ (m : ℕ). is_named m 0xFB) 0 256, named_by_modes ++ named_by_modes)
    ∷ (each (λ (m : ℕ). is_named m 0x0C) 0 256 ++ each (λ (m : ℕ). is_named m 0xFF) 0 256, replicate 512 0)
    ∷ (each (λ (g : ℕ). is_named 0 g) 0 256 ++ each (λ (g : ℕ). is_named 0xF2 g) 0 256, named_by_signals ++ named_by_signals)
    ∷ (each (λ (g : ℕ). is_named 0x03 g) 0 256 ++ each (λ (g : ℕ). is_named 0x18 g) 0 256, replicate 512 0)
    -- the parts: numbers of formats, kinds of work and pen sequences, and back; what is not in use is 0 or is not read
    ∷ (over formats (λ (f : Format). format_number f ∷ []) ++ each (λ (n : ℕ). format_row (format_at n)) 0 256, 0 ∷ 1 ∷ 2 ∷ 0 ∷ 1 ∷ replicate 254 2)
    ∷ (over pens (λ (p : LightPen). light_pen_number p ∷ []) ++ each (λ (n : ℕ). pen_row (light_pen_at n)) 0 256, 0 ∷ 1 ∷ 2 ∷ 0 ∷ 1 ∷ replicate 254 2)
    ∷ (
      over works (λ (w : Work). work_number w ∷ code_of w ∷ done_of w ∷ told (fills w) ∷ []),
      0 ∷ 0 ∷ 0 ∷ 0 ∷ 1 ∷ 0x41 ∷ 300 ∷ 0 ∷ 2 ∷ 0 ∷ 0 ∷ 0 ∷ 2 ∷ 0 ∷ 0 ∷ 1 ∷ 2 ∷ 0 ∷ 0 ∷ 0 ∷ 2 ∷ 0 ∷ 0 ∷ 1 ∷ [],
    )
    ∷ (
      joined (λ (n : ℕ). work_row (work_at n 0x41 300 true (frames_named 0)) ++ work_row (work_at n 5 6 false (frames_named 3))) 0 256,
      0 ∷ 0 ∷ 0 ∷ 0 ∷ 0 ∷ 0 ∷ 1 ∷ 0x41 ∷ 300 ∷ 1 ∷ 5 ∷ 6 ∷ times 254 (2 ∷ 1 ∷ 0 ∷ 2 ∷ 0 ∷ 3 ∷ []),
    )
    ∷ (each (λ (m : ℕ). format_row (format_of (own_bytes m 0))) 0 256, times 32 (0 ∷ 1 ∷ replicate 6 2))
    -- the frames of a clear: with FMAT high its bit 7 once the first is over
    ∷ (each (λ (m : ℕ). frames_told (frames_in m)) 0 256, frames_read)
    ∷ (
      each (λ (n : ℕ). modes_of FmatHigh (Clear false (frames_named n))) 0 4 ++ each (λ (n : ℕ). modes_of FmatHigh (Clear true (frames_named n))) 0 4,
      0x11 ∷ 0x51 ∷ 0x91 ∷ 0xD1 ∷ 0x31 ∷ 0x71 ∷ 0xB1 ∷ 0xF1 ∷ [],
    )
    -- the registers of bytes, and others in their place
    ∷ (regs_row (regs_of (bytes 1 2 3 4 5 6 7 8 9 10 11 12 13)), 4 ∷ 5 ∷ 6 ∷ 7 ∷ 8 ∷ 1 ∷ 2 ∷ 9 ∷ 10 ∷ [])
    ∷ (
      byte_row (put_regs (regs 21 22 23 24 25 26 27 28 29) (bytes 1 2 3 4 5 6 7 8 9 10 11 12 13)),
      26 ∷ 27 ∷ 3 ∷ 21 ∷ 22 ∷ 23 ∷ 24 ∷ 25 ∷ 28 ∷ 29 ∷ 11 ∷ 12 ∷ 13 ∷ [],
    )
    ∷ []
