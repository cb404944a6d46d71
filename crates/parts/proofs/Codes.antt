-- The decoder's tests, computed over the 256 codes.
-- Assumes nothing.
use mathlib.Core.Path.{◌≡◌, refl}
use mathlib.Core.Bool.{Bool, ◌&&◌, ◌||◌, beq, true, false≢true}
use Prim.Native.Nat.{ℕ, ◌<◌}
use lib.Dec.{T, eqb, ltb, leb}
use Rattle.basis.proofs.Table.{beq_eq, below, passes}
use Rattle.parts.specs.declared.command.Kind.{Kind}
use Rattle.parts.specs.declared.command.Kind.TheVariants.{NoCycle, OneCycle, Vector, Character, Block}
use Rattle.parts.specs.Command.{kind, lettering, lining}

-- a test of a code agrees with a test of its kind at every byte
abbrev agrees : (ℕ → Bool) → (Kind → Bool) → ℕ → Bool
agrees test of c = beq (test c) (of (kind c))

by_codes : (test : ℕ → Bool) (of : Kind → Bool) → T (below (agrees test of) 256) → (c : ℕ) → c < 256 → test c ≡ of (kind c)
by_codes test of t c h = beq_eq _ _ (passes (agrees test of) 256 t c h)

-- the characters
abbrev letter_test : ℕ → Bool
letter_test c = (leb 0x20 c && ltb c 0x80) || eqb c 0x0A || eqb c 0x0B

letters : T (below (agrees letter_test lettering) 256)
unfolding kind
letters = tt

pub letter_codes : (c : ℕ) → c < 256 → letter_test c ≡ lettering (kind c)
letter_codes = by_codes letter_test lettering letters

-- the kind that is a vector's is Vector
pub line_kind : (k : Kind) → lining k ≡ true → k ≡ Vector
line_kind NoCycle t = absurd (false≢true t)
line_kind OneCycle t = absurd (false≢true t)
line_kind Vector t = refl
line_kind Character t = absurd (false≢true t)
line_kind Block t = absurd (false≢true t)
