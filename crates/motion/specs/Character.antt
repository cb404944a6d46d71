-- How a character steps. i counts its cycles from 0: column u of dots, and within it row v.
-- Assumes nothing.
use Rattle.std.specs.Prelude.{ℕ, ◌+◌, ◌*◌, ◌/◌, ◌%◌, Bool, true, cond, eqb}
use Rattle.motion.specs.declared.position.Spot.{Spot}
use Rattle.motion.specs.declared.character.Body.{Body}
use Rattle.motion.specs.declared.character.Lie.{Lie}
use Rattle.motion.specs.Position.{signed, spot}

-- CSIZE gives P (upper) and Q (lower), 0 meaning 16
unfoldable pub scale : ℕ → ℕ
scale n = cond (eqb n 0) 16 n

unfoldable pub scale_p : ℕ → ℕ
scale_p csize = scale (csize / 16)

unfoldable pub scale_q : ℕ → ℕ
scale_q csize = scale (csize % 16)

-- a character is 6P by 8Q dots, a block 4P by 4Q
unfoldable pub character_of : ℕ → Body
character_of csize =
    record { p = scale_p csize; q = scale_q csize; columns = 6 * scale_p csize; rows = 8 * scale_q csize }

unfoldable pub block_of : ℕ → Body
block_of csize =
    record { p = scale_p csize; q = scale_q csize; columns = 4 * scale_p csize; rows = 4 * scale_q csize }

-- one cycle for each u below the columns and, within it, each v below the rows
unfoldable pub body_cycles : Body → ℕ
body_cycles b = b.columns * b.rows

unfoldable pub u_of : Body → ℕ → ℕ
u_of b i = i / b.rows

unfoldable pub v_of : Body → ℕ → ℕ
v_of b i = i % b.rows

-- the glyph's column u / P and row v / Q
unfoldable pub column_of : Body → ℕ → ℕ
column_of b i = u_of b i / b.p

unfoldable pub row_of : Body → ℕ → ℕ
row_of b i = v_of b i / b.q

-- how the letters lie: turned, so that they run upwards, and tilted
abbrev pub lying : Bool → Bool → Lie
lying turned tilted = record { turned = turned; tilted = tilted }

-- how far dot (u, v) lies in the direction of writing: u; tilted, each dot up is one further
unfoldable pub along : Lie → ℕ → ℕ → ℕ
along lie u v = u + cond lie.tilted v 0

-- from the start to dot (u, v), as what is added modulo 4,096: (u, v) or, tilted, (u + v, v);
-- turned, (−v, u) or, tilted, (−v, u + v)
unfoldable pub laid : Lie → ℕ → ℕ → Spot
laid lie u v = cond lie.turned (spot (signed true v) (along lie u v)) (spot (along lie u v) v)

-- from the start to the place of cycle i
unfoldable pub body_way : Lie → Body → ℕ → Spot
body_way lie b i = laid lie (u_of b i) (v_of b i)

-- at the end X has grown by 6P (4P) and Y is restored; turned, Y grows and X is restored; tilted or not
unfoldable pub body_end : Lie → Body → Spot
body_end lie b = cond lie.turned (spot 0 b.columns) (spot b.columns 0)
