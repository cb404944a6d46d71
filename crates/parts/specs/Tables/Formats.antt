-- Readings of the formats and their numbers, the commands' kinds, and the refusals' order and numbers.
-- Assumes nothing.
use Rattle.std.specs.Prelude.{ℕ, true, false, List, [], ◌∷◌, ◌++◌, map, replicate, ◌+◌, Result, Ok, Err}
use Rattle.basis.specs.Reading.{Reading, each, told}
use Rattle.picture.specs.Bit.{bit_at}
use Rattle.picture.specs.declared.screen.Window.{Window}
use Rattle.parts.specs.declared.format.Format.{Format}
use Rattle.parts.specs.declared.format.Format.TheVariants.{Ef9366, FmatHigh, FmatLow}
use Rattle.parts.specs.declared.command.Kind.{Kind}
use Rattle.parts.specs.declared.command.Kind.TheVariants.{NoCycle, OneCycle, Vector, Character, Block}
use Rattle.parts.specs.declared.refusal.Refusal.{Refusal}
use Rattle.parts.specs.declared.refusal.Refusal.TheVariants.{BadState, BadPicture, BadTable, BadAddress, ReadOnly, Busy, OffScreen, ShortBuffer, NoPbm, OtherSize, BadDots, NoRecord, LongLog}
use Rattle.parts.specs.Format.{format_number, format_at, format_named, width, height, window, bytes, frames, width_bits, height_bits}
use Rattle.parts.specs.Command.{kind, lettering, lining, prompting}
use Rattle.parts.specs.Refusal.{lowest, refusal_number}

-- width, height, bytes, frames of a clear, bits of X, bits of Y
unfoldable pub formatted : Format → List ℕ
formatted f = width f ∷ height f ∷ bytes f ∷ frames f ∷ width_bits f ∷ height_bits f ∷ []

unfoldable pub seen : Window → List ℕ
seen w = w.width ∷ w.height ∷ told w.cyclic ∷ []

-- EF9366 512 × 256, 16,384 bytes; FMAT high 512 × 512, 32,768, where a clear takes two frames; FMAT low 256 × 256, 8,192
unfoldable pub formats : List Reading
formats =
    (formatted Ef9366, 512 ∷ 256 ∷ 16384 ∷ 1 ∷ 9 ∷ 8 ∷ [])
    ∷ (formatted FmatHigh, 512 ∷ 512 ∷ 32768 ∷ 2 ∷ 9 ∷ 9 ∷ [])
    ∷ (formatted FmatLow, 256 ∷ 256 ∷ 8192 ∷ 1 ∷ 8 ∷ 8 ∷ [])
    ∷ (seen (window Ef9366 false), 512 ∷ 256 ∷ 0 ∷ [])
    ∷ (seen (window Ef9366 true), 512 ∷ 256 ∷ 1 ∷ [])
    ∷ (seen (window FmatHigh false), 512 ∷ 512 ∷ 0 ∷ [])
    ∷ (seen (window FmatHigh true), 512 ∷ 512 ∷ 1 ∷ [])
    ∷ (seen (window FmatLow false), 256 ∷ 256 ∷ 0 ∷ [])
    ∷ (seen (window FmatLow true), 256 ∷ 256 ∷ 1 ∷ [])
    ∷ []

-- a format by its number, and what is refused by 100 and the refusal's
unfoldable pub numbered : Result Format Refusal → ℕ
numbered (Ok f) = format_number f
numbered (Err why) = 100 + refusal_number why

-- 0 EF9366, 1 FMAT high, 2 FMAT low, each back from its number; any other of the 256 bytes is refused with 1
unfoldable pub format_numbers : List Reading
format_numbers =
    (map format_number (Ef9366 ∷ FmatHigh ∷ FmatLow ∷ []), 0 ∷ 1 ∷ 2 ∷ [])
    ∷ (each (λ n. numbered (format_named n)) 0 256, 0 ∷ 1 ∷ 2 ∷ replicate 253 101)
    -- where a number of none has to stand for one, that is FMAT low
    ∷ (each (λ n. format_number (format_at n)) 0 256, 0 ∷ 1 ∷ replicate 254 2)
    ∷ []

-- the kinds by a number of their own
unfoldable pub named : Kind → ℕ
named NoCycle = 0
named OneCycle = 1
named Vector = 2
named Character = 3
named Block = 4

-- all kinds, in that order
unfoldable pub kinds : List Kind
kinds = NoCycle ∷ OneCycle ∷ Vector ∷ Character ∷ Block ∷ []

-- 0A and 20 to 7F characters, 0B block, 0F one cycle, 10 to 1F and 80 to FF vectors: all 256 codes
unfoldable pub commands : List Reading
commands = (
  each (λ c. named (kind c)) 0 256,
  replicate 10 0 ++ ((3 ∷ 4 ∷ 0 ∷ 0 ∷ 0 ∷ 1 ∷ []) ++ (replicate 16 2 ++ (replicate 96 3 ++ replicate 128 2))),
)
    -- 20 to 7F, 0A and 0B are character commands
    ∷ (map (λ k. told (lettering k)) kinds, 0 ∷ 0 ∷ 0 ∷ 1 ∷ 1 ∷ [])
    ∷ (map (λ k. told (lining k)) kinds, 0 ∷ 0 ∷ 1 ∷ 0 ∷ 0 ∷ [])
    ∷ (map (λ k. told (prompting k)) kinds, 1 ∷ 0 ∷ 0 ∷ 0 ∷ 0 ∷ [])
    ∷ (each (λ c. told (lettering (kind c))) 0 256, replicate 10 0 ++ ((1 ∷ 1 ∷ []) ++ (replicate 20 0 ++ (replicate 96 1 ++ replicate 128 0))))
    ∷ []

-- four cases, which apply by the bits of k
unfoldable pub four : ℕ → ℕ
four k = lowest ((1, bit_at 3 k) ∷ (4, bit_at 2 k) ∷ (5, bit_at 1 k) ∷ (6, bit_at 0 k) ∷ [])

-- 0 accepted; the lowest number that applies is given: the first of a call's cases
unfoldable pub refusals : List Reading
refusals =
    (lowest [] ∷ lowest ((3, false) ∷ []) ∷ lowest ((3, true) ∷ []) ∷ lowest ((8, true) ∷ []) ∷ [], 0 ∷ 0 ∷ 3 ∷ 8 ∷ [])
    ∷ (each four 0 16, 0 ∷ 6 ∷ 5 ∷ 5 ∷ 4 ∷ 4 ∷ 4 ∷ 4 ∷ replicate 8 1)
    ∷ (each (λ k. lowest ((2, bit_at 0 k) ∷ (3, bit_at 1 k) ∷ [])) 0 4, 0 ∷ 2 ∷ 3 ∷ 2 ∷ [])
    ∷ (lowest ((7, true) ∷ (6, true) ∷ []) ∷ lowest ((7, false) ∷ (6, true) ∷ []) ∷ [], 7 ∷ 6 ∷ [])
    -- the last of eight
    ∷ (
      lowest ((1, false) ∷ (2, false) ∷ (3, false) ∷ (4, false) ∷ (5, false) ∷ (6, false) ∷ (7, false) ∷ (8, true) ∷ []) ∷ [],
      8 ∷ [],
    )
    ∷ []

-- the refusals of the card, of a PBM and of the panel program, in the order of their numbers; none has 7
unfoldable pub refusal_numbers : List Reading
refusal_numbers =
    (map refusal_number (BadState ∷ BadPicture ∷ BadTable ∷ BadAddress ∷ ReadOnly ∷ Busy ∷ OffScreen ∷ []), 1 ∷ 2 ∷ 3 ∷ 4 ∷ 5 ∷ 6 ∷ 8 ∷ [])
    ∷ (map refusal_number (ShortBuffer ∷ NoPbm ∷ OtherSize ∷ BadDots ∷ NoRecord ∷ LongLog ∷ []), 9 ∷ 10 ∷ 11 ∷ 12 ∷ 20 ∷ 21 ∷ [])
    ∷ []
