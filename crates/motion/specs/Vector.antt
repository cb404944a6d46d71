-- How a vector steps. c is its code, dx and dy are DELTAX and DELTAY, i counts its dots from 0.
-- Assumes nothing.
use Rattle.std.specs.Prelude.{ℕ, ◌+◌, ◌-◌, ◌*◌, ◌/◌, ◌%◌, max, min, Bool, cond, ◌||◌, eqb, ltb}
use Rattle.picture.specs.Bit.{bit_at}
use Rattle.motion.specs.declared.vector.Line.{Line}
use Rattle.motion.specs.Position.{signed}

-- 10 to 17 go by DELTAX and DELTAY; in 18 to 1F both are first taken as the larger;
-- 80 to FF have the X length in bits 6 and 5, the Y length in bits 4 and 3
unfoldable pub given_x : ℕ → ℕ → ℕ → ℕ
given_x c dx dy = cond (ltb c 0x80) (cond (bit_at 3 c) (max dx dy) dx) (c / 32 % 4)

unfoldable pub given_y : ℕ → ℕ → ℕ → ℕ
given_y c dx dy = cond (ltb c 0x80) (cond (bit_at 3 c) (max dx dy) dy) (c / 8 % 4)

-- low three bits 2 and 4 go along Y only, 0 and 6 along X only: the other length is counted as 0
unfoldable pub length_x : ℕ → ℕ → ℕ → ℕ
length_x c dx dy = cond (eqb (c % 8) 2 || eqb (c % 8) 4) 0 (given_x c dx dy)

unfoldable pub length_y : ℕ → ℕ → ℕ → ℕ
length_y c dx dy = cond (eqb (c % 8) 0 || eqb (c % 8) 6) 0 (given_y c dx dy)

-- 3, 6 and 7 go to −X; 4, 5 and 7 to −Y
unfoldable pub minus_x : ℕ → Bool
minus_x c = eqb (c % 8) 3 || eqb (c % 8) 6 || eqb (c % 8) 7

unfoldable pub minus_y : ℕ → Bool
minus_y c = eqb (c % 8) 4 || eqb (c % 8) 5 || eqb (c % 8) 7

-- M is the larger length and m the smaller; Y is the longer axis where its length is the larger
unfoldable pub line_of : ℕ → ℕ → ℕ → Line
line_of c dx dy =
    record {
      long = max (length_x c dx dy) (length_y c dx dy);
      short = min (length_x c dx dy) (length_y c dx dy);
      steep = ltb (length_x c dx dy) (length_y c dx dy);
      left = minus_x c;
      down = minus_y c;
    }

-- there are M + 1 dots, one per cycle
unfoldable pub vector_cycles : Line → ℕ
vector_cycles l = l.long + 1

-- dot i lies so far along the shorter axis: floor((2 × i × m + M) / (2 × M)); with M = 0 there is only dot 0
unfoldable pub offset : ℕ → ℕ → ℕ → ℕ
offset M m i = (2 * i * m + M) / (2 * M)

-- and i along the longer axis
unfoldable pub along_x : Line → ℕ → ℕ
along_x l i = cond l.steep (offset l.long l.short i) i

unfoldable pub along_y : Line → ℕ → ℕ
along_y l i = cond l.steep i (offset l.long l.short i)

-- from the vector's start to dot i, as what is added modulo 4,096
unfoldable pub vector_x : Line → ℕ → ℕ
vector_x l i = signed l.left (along_x l i)

unfoldable pub vector_y : Line → ℕ → ℕ
vector_y l i = signed l.down (along_y l i)

-- how far two numbers are apart: with it, that offset × M keeps within M / 2 of the true line's i × m is one sentence
unfoldable pub dist : ℕ → ℕ → ℕ
dist a b = (a - b) + (b - a)
