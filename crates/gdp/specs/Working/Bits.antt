-- Bits of `modes` and `signals`, read and put.
-- Assumes nothing.
use Rattle.std.specs.Prelude.{ℕ, ◌+◌, ◌*◌, ◌/◌, ◌%◌, Bool, true, false, cond, not, ◌&&◌, ◌||◌, eqb, ltb}
use Rattle.picture.specs.Bit.{digit, bit_at, with_bit}
use Rattle.rules.specs.Sequence.{light_pen_open}
use Rattle.gdp.specs.declared.bits.Work.{Work}
use Rattle.gdp.specs.declared.bits.Work.TheVariants.{Idle, Steps, Clear, Fill}
use Rattle.gdp.specs.declared.bits.LightPen.{LightPen}
use Rattle.gdp.specs.declared.bits.LightPen.TheVariants.{Off, Waits, Open}
use Rattle.gdp.specs.declared.bits.Flag.{Flag}
use Rattle.gdp.specs.declared.bits.Flag.TheVariants.{LightPen as PenFlag, Vb, Ready}
use Rattle.gdp.specs.Flat.{work_in, light_pen_at, light_pen_in, named_signals}

-- a clear inside a frame
abbrev pub clear_open_in : ℕ → Bool
clear_open_in m = bit_at 4 m && bit_at 6 m

-- no pen sequence, or VB high inside its frame
abbrev pub stray_light_pen : ℕ → Bool
stray_light_pen g = not (named_signals g) || (bit_at 1 g && light_pen_open (light_pen_at (light_pen_in g)))

-- no kind of work, or VB high inside a clear's frame
abbrev pub stray_work : Bool → ℕ → Bool
stray_work vb m = not (ltb (work_in m) 3) || (vb && clear_open_in m)

-- what runs, with bit 5
abbrev pub work_bits : Work → ℕ
work_bits Idle = 0
work_bits Steps = 1
work_bits Clear = 2
work_bits Fill = 6

-- what runs, with bits 5 to 7
abbrev pub put_work : ℕ → ℕ → ℕ
put_work n m = m % 8 + 8 * n

-- the pen's sequence
abbrev pub light_pen_bits : LightPen → ℕ
light_pen_bits Off = 0
light_pen_bits Waits = 1
light_pen_bits Open = 2

abbrev pub put_light_pen : ℕ → ℕ → ℕ
put_light_pen n g = g % 4 + 4 * n + g / 16 * 16

-- a flag's bit of STATUS, and its mask's of CTRL1
abbrev pub flag_bit : Flag → ℕ
flag_bit PenFlag = 4
flag_bit Vb = 5
flag_bit Ready = 6

-- a flag raised where it is let
abbrev pub raise_flag : ℕ → Bool → ℕ → ℕ
raise_flag k b g = cond b (with_bit true k g) g

-- the bits in use
abbrev pub in_use : ℕ → ℕ
in_use g = g / 2 % 64 * 2

-- a fall of VB
abbrev pub modes_fall : ℕ → ℕ
modes_fall m = cond (eqb (work_in m) 2) (with_bit true 6 m) m

-- a rise that ends a clear's frame and not the clear
abbrev pub modes_rise : ℕ → ℕ
modes_rise m = cond (clear_open_in m) (m % 64 + 128) m

abbrev pub signals_fall : ℕ → ℕ
signals_fall g = cond (eqb (light_pen_in g) 1) (put_light_pen 2 (with_bit false 1 g)) (with_bit false 1 g)

-- the bits of STATUS that `signals` gives
abbrev pub signal_bits : ℕ → ℕ
signal_bits g =
    2 * digit (bit_at 1 g)
    + 16 * digit (bit_at 4 g)
    + 32 * digit (bit_at 5 g)
    + 64 * digit (bit_at 6 g)
    + 128 * digit (bit_at 4 g || bit_at 5 g || bit_at 6 g)

-- the same as the code adds them up
abbrev pub signal_sum : ℕ → ℕ
signal_sum g = g / 2 % 2 * 2 + g / 16 % 8 * 16 + 128 * digit (not (eqb (g / 16 % 8) 0))
