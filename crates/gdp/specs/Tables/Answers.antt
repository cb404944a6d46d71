-- What the calls answer over sixteen bytes: bytes that name nothing, refusals, the fresh state, VB's level.
-- Assumes nothing.
use Rattle.std.specs.Prelude.{ℕ, ◌+◌, ◌-◌, ◌*◌, ◌^◌, true, false, List, [], ◌∷◌, ◌++◌, Ok, Err, replicate}
use Rattle.basis.specs.Reading.{Reading, each, joined, told}
use Rattle.parts.specs.declared.format.Format.TheVariants.{FmatLow}
use Rattle.parts.specs.declared.refusal.Refusal.TheVariants.{BadState, Busy}
use Rattle.rules.specs.Sequence.{Clear, Waiting}
use Rattle.rules.specs.Calls.{Answer as Verdict, Located, read_out}
use Rattle.rules.specs.Tables.Rows.{frames_named}
use Rattle.gdp.specs.Flat.{state_of}
use Rattle.gdp.specs.Calls.{level_of, flawed, refusal, as_answer, as_outputs, answer_of, outputs_of, all_ones, fresh_answer}
use Rattle.gdp.specs.Tables.Rows.{over, times, bytes, byte_row, answer_row, outputs_row}
use Rattle.gdp.specs.Tables.Layout.{own, own_bytes, named_by_modes, named_by_signals}

-- 1 ---------------------------------------------------------------------------------------------------------------------

-- good registers, CSIZE 11, and the bytes of a character whose progress is 47 of its 48 cycles
unfoldable pub is_flawed : ℕ → ℕ → ℕ
is_flawed m g = told (flawed (bytes 4095 4095 47 0x7F 0x0B 0x11 255 255 0xFD 255 0x41 m g))

-- each cause in an idle state, and what is none
unfoldable pub flawed_by : ℕ → ℕ → ℕ → ℕ → ℕ → ℕ
flawed_by x y c1 c2 xl = told (flawed (bytes x y 65535 c1 c2 0 0 0 xl 255 0 0 0))

-- in a command that steps
unfoldable pub flawed_step : ℕ → ℕ → ℕ → ℕ
flawed_step c n c2 = told (flawed (bytes 0 0 n 0 c2 0x11 5 2 0 0 c 8 0))

unfoldable pub flaws : List Reading
flaws =
    -- no such format or work; with VB high also an open frame of a clear, and of nothing else
    (each (λ (m : ℕ). is_flawed m 0) 0 256, times 8 (times 3 (0 ∷ 0 ∷ 0 ∷ replicate 5 1) ++ replicate 8 1))
    ∷ (
      each (λ (m : ℕ). is_flawed m 2) 0 256,
      times 2 (times 2 (times 3 (0 ∷ 0 ∷ 0 ∷ replicate 5 1) ++ replicate 8 1)
          ++ times 2 (times 2 (0 ∷ 0 ∷ 0 ∷ replicate 5 1) ++ replicate 16 1)),
    )
    -- no such pen sequence; with VB high also its open frame
    ∷ (each (λ (g : ℕ). is_flawed 0 g) 0 256, times 16 (replicate 10 0 ++ replicate 6 1))
    ∷ (each (λ (g : ℕ). is_flawed 0x31 g) 0 256, times 16 (replicate 10 0 ++ replicate 6 1))
    ∷ (each (λ (g : ℕ). is_flawed 0x0A g) 0 256, times 16 (replicate 10 0 ++ replicate 6 1))
    ∷ (each (λ (g : ℕ). is_flawed 0x50 g) 0 256, times 16 (0 ∷ 0 ∷ 1 ∷ 1 ∷ 0 ∷ 0 ∷ 1 ∷ 1 ∷ 0 ∷ 0 ∷ replicate 6 1))
    -- X or Y above 4,095, CTRL1 above 127, CTRL2 above 15, bit 1 of XLP
    ∷ (
      flawed_by 4095 4095 127 15 0xFD ∷ flawed_by 4096 0 0 0 0 ∷ flawed_by 0 4096 0 0 0 ∷ flawed_by 0 0 128 0 0
          ∷ flawed_by 0 0 0 16 0 ∷ flawed_by 0 0 0 0 2 ∷ [],
      0 ∷ 1 ∷ 1 ∷ 1 ∷ 1 ∷ 1 ∷ [],
    )
    -- a command that takes no time; a progress below its cycles and not; a character and a vector with tilt high
    ∷ (
      flawed_step 0 0 0 ∷ flawed_step 0x04 0 0 ∷ flawed_step 0x41 47 0 ∷ flawed_step 0x41 48 0 ∷ flawed_step 0x11 5 0 ∷ flawed_step 0x11 6 0
          ∷ flawed_step 0x0F 0 0 ∷ flawed_step 0x0F 1 0 ∷ flawed_step 0x41 0 4 ∷ flawed_step 0x0B 0 4 ∷ flawed_step 0x11 0 4 ∷ [],
      1 ∷ 1 ∷ 0 ∷ 1 ∷ 0 ∷ 1 ∷ 0 ∷ 1 ∷ 0 ∷ 0 ∷ 0 ∷ [],
    )
    -- what is left over of a code and a progress is no matter, idle or while a clear runs
    ∷ (over (0 ∷ 1 ∷ 0x10 ∷ 0x32 ∷ 0x50 ∷ 0x70 ∷ []) (λ (m : ℕ). told (flawed (bytes 0 0 65535 0 0 0x11 0 0 0 0 255 m 0)) ∷ []), replicate 6 0)
    ∷ []

-- Answers ---------------------------------------------------------------------------------------------------------------

-- a verdict of some number: value 513 and a state of its own, FMAT low, a clear 0C inside its frame, the pen's sequence waiting
unfoldable pub verdict : ℕ → Verdict
verdict k = record { number = k; value = 513; state = own FmatLow (Clear true (frames_named 1)) Waiting false true false true }

-- an accepted one of some value
unfoldable pub valued : ℕ → Verdict
valued v = record { number = 0; value = v; state = (verdict 0).state }

-- the row of bytes m, g with left-overs, as they came; that of an answer which is accepted
unfoldable pub came : ℕ → ℕ → List ℕ
came m g = 0xABC ∷ 0x9DE ∷ 300 ∷ 0x71 ∷ 0x0B ∷ 0x23 ∷ 0x45 ∷ 0x67 ∷ 0xF1 ∷ 0x8F ∷ 0x41 ∷ m ∷ g ∷ []

unfoldable pub goes : List ℕ
goes = 0xABC ∷ 0x9DE ∷ 0 ∷ 0x71 ∷ 0x0B ∷ 0x23 ∷ 0x45 ∷ 0x67 ∷ 0xF1 ∷ 0x8F ∷ 0 ∷ 114 ∷ 84 ∷ []

unfoldable pub place : ℕ → Located
place k = record { number = k; address = record { low = 41; high = 38; msl = 12 } }

-- `modes` in what a read of CTRL1 hands back
unfoldable pub modes_after : ℕ → ℕ
modes_after m = (answer_of (own_bytes m 0) (read_out (state_of (own_bytes m 0)) 0x1)).state.modes

unfoldable pub answer_readings : List Reading
answer_readings =
    -- accepted: the bytes of the state; refused: the bytes as they came, left-overs too
    (
      joined (λ (k : ℕ). answer_row (answer_of (own_bytes 0x80 0x81) (verdict k))) 0 256,
      (0 ∷ 513 ∷ goes) ++ joined (λ (k : ℕ). k ∷ 513 ∷ came 0x80 0x81) 1 255,
    )
    -- bit 7 of `modes` by an accepted read, where nothing runs, while a clear waits and while it is in a frame: it is handed back
    -- of a clear with FMAT high alone
    ∷ (
      over (0x80 ∷ 0x90 ∷ 0xD0 ∷ []) (λ (m : ℕ). each (λ (f : ℕ). modes_after (m + f)) 0 3),
      (0x00 ∷ 0x01 ∷ 0x02 ∷ []) ++ ((0x10 ∷ 0x91 ∷ 0x12 ∷ []) ++ (0x50 ∷ 0xD1 ∷ 0x52 ∷ [])),
    )
    -- each bit of a value, and the cycles of the largest character
    ∷ (
      each (λ (i : ℕ). (answer_of (own_bytes 0 0) (valued (2 ^ i))).value) 0 16 ++ ((answer_of (own_bytes 0 0) (valued 12288)).value ∷ []),
      each (λ (i : ℕ). 2 ^ i) 0 16 ++ (12288 ∷ []),
    )
    -- bytes that name nothing: 1, value 0, as they came, whatever the verdict
    ∷ (
      joined (λ (m : ℕ). answer_row (answer_of (own_bytes (8 + m) 0x0C) (verdict 0)) ++ answer_row (answer_of (own_bytes (8 + m) 0x0F) (verdict 6))) 0 8,
      joined (λ (m : ℕ). (1 ∷ 0 ∷ came (8 + m) 0x0C) ++ (1 ∷ 0 ∷ came (8 + m) 0x0F)) 0 8,
    )
    -- all `modes` and all `signals`, accepted and refused with 4: the number
    ∷ (each (λ (m : ℕ). (answer_of (own_bytes m 0) (verdict 0)).number) 0 256, over named_by_modes (λ (n : ℕ). (1 - n) ∷ []))
    ∷ (each (λ (g : ℕ). (answer_of (own_bytes 0 g) (verdict 0)).number) 0 256, over named_by_signals (λ (n : ℕ). (1 - n) ∷ []))
    ∷ (each (λ (m : ℕ). (answer_of (own_bytes m 0) (verdict 4)).number) 0 256, over named_by_modes (λ (n : ℕ). (1 + 3 * n) ∷ []))
    -- a refusal
    ∷ (joined (λ (k : ℕ). answer_row (refusal k (own_bytes 7 9))) 0 22, joined (λ (k : ℕ). k ∷ 0 ∷ came 7 9) 0 22)
    -- what a call gives, as C has it: accepted, 0, the value and the next state; refused, its number, 0 and the bytes as they came
    ∷ (answer_row (as_answer (own_bytes 0x80 0x81) (Ok (record { value = 513; state = own_bytes 7 9 }))), 0 ∷ 513 ∷ came 7 9)
    ∷ (answer_row (as_answer (own_bytes 7 9) (Err Busy)), 6 ∷ 0 ∷ came 7 9)
    -- the address outputs likewise
    ∷ (
      outputs_row (as_outputs (Ok (record { low = 41; high = 38; msl = 12 }))) ++ outputs_row (as_outputs (Err BadState)),
      0 ∷ 41 ∷ 38 ∷ 12 ∷ 1 ∷ 0 ∷ 0 ∷ 0 ∷ [],
    )
    -- the address outputs as they are given; bytes that name nothing: 1 and 0
    ∷ (
      joined (λ (k : ℕ). outputs_row (outputs_of (own_bytes 0 0) (place k))) 0 9,
      joined (λ (k : ℕ). k ∷ 41 ∷ 38 ∷ 12 ∷ []) 0 9,
    )
    ∷ (
      joined (λ (m : ℕ). outputs_row (outputs_of (own_bytes m 0) (place 0))) 0 256,
      over named_by_modes (λ (n : ℕ). (1 - n) ∷ (41 * n) ∷ (38 * n) ∷ (12 * n) ∷ []),
    )
    ∷ (
      joined (λ (g : ℕ). outputs_row (outputs_of (own_bytes 0 g) (place 0))) 0 256,
      over named_by_signals (λ (n : ℕ). (1 - n) ∷ (41 * n) ∷ (38 * n) ∷ (12 * n) ∷ []),
    )
    ∷ (
      outputs_row (outputs_of (own_bytes 0 0) (record { number = 0; address = record { low = 127; high = 126; msl = 15 } })),
      0 ∷ 127 ∷ 126 ∷ 15 ∷ [],
    )
    -- a fresh state: CSIZE 11, all else 0 but the format; no such format: 1, and every byte 255
    ∷ (byte_row all_ones, 65535 ∷ 65535 ∷ 65535 ∷ replicate 10 255)
    ∷ (
      joined (λ (n : ℕ). answer_row (fresh_answer n)) 0 256,
      joined (λ (n : ℕ). 0 ∷ 0 ∷ 0 ∷ 0 ∷ 0 ∷ 0 ∷ 0 ∷ 0x11 ∷ 0 ∷ 0 ∷ 0 ∷ 0 ∷ 0 ∷ n ∷ 0 ∷ []) 0 3
          ++ times 253 (1 ∷ 0 ∷ 65535 ∷ 65535 ∷ 65535 ∷ replicate 10 255),
    )
    -- VB: 0 is low, any other byte is high
    ∷ (each (λ (b : ℕ). told (level_of b)) 0 256, 0 ∷ replicate 255 1)
    ∷ []
