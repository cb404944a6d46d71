-- The cycles of a command, by its kind, as the code counts them.
-- Assumes nothing.
use mathlib.Core.Path.{◌≡◌, refl, sym, ◌∙◌}
use Prim.Native.Nat.{ℕ, ◌*◌, ◌<◌}
use mathlib.Core.Bool.{Bool, true, false, not, ◌||◌, beq, true≢false, false≢true}
use native.Mathlib.Numerals.{add-one}
use lib.Dec.{T, eqb, ltb, leb, leb-zero}
use Rattle.basis.proofs.Table.{beq_eq, below, passes}
use Rattle.motion.specs.declared.character.Body.{Body}
use Rattle.motion.specs.declared.vector.Line.{Line}
use Rattle.motion.specs.Vector.{vector_cycles, line_of}
use Rattle.motion.specs.Character.{character_of, block_of, body_cycles}
use Rattle.motion.proofs.Laws.{character_cycles, block_cycles}
use Rattle.parts.specs.declared.command.Kind.{Kind}
use Rattle.parts.specs.declared.command.Kind.TheVariants.{NoCycle, OneCycle, Vector, Character, Block}
use Rattle.parts.specs.Command.{kind, lettering, lining}
use Rattle.parts.proofs.Laws.{line_kind}
use Rattle.drawing.specs.Figure.{Pause, cycles_of}
use Rattle.rules.specs.State.{Regs}
use Rattle.rules.specs.Figure.{figure_by, figure, cycles}
use Rattle.gdp.specs.Working.Check.{bad_step}

-- the kinds of 0B and 0F
abbrev blocking : Kind → Bool
blocking Block = true
blocking Character = false
blocking Vector = false
blocking OneCycle = false
blocking NoCycle = false

abbrev pausing : Kind → Bool
pausing OneCycle = true
pausing Block = false
pausing Character = false
pausing Vector = false
pausing NoCycle = false

abbrev agrees : ℕ → (Kind → Bool) → ℕ → Bool
agrees n of c = beq (eqb c n) (of (kind c))

blocks : T (below (agrees 0x0B blocking) 256)
unfolding kind
blocks = tt

pauses : T (below (agrees 0x0F pausing) 256)
unfolding kind
pauses = tt

block_code : (c : ℕ) → c < 256 → eqb c 0x0B ≡ blocking (kind c)
block_code c h = beq_eq _ _ (passes (agrees 0x0B blocking) 256 blocks c h)

pause_code : (c : ℕ) → c < 256 → eqb c 0x0F ≡ pausing (kind c)
pause_code c h = beq_eq _ _ (passes (agrees 0x0F pausing) 256 pauses c h)

-- of the letters, 0B is the block and every other code a character
pub block_kind : {c : ℕ} → c ≡ 0x0B → kind c ≡ Block
unfolding kind
block_kind e = rw e refl

other_letter : (k : Kind) → lettering k ≡ true → blocking k ≡ false → k ≡ Character
other_letter NoCycle l b = absurd (false≢true l)
other_letter OneCycle l b = absurd (false≢true l)
other_letter Vector l b = absurd (false≢true l)
other_letter Character l b = refl
other_letter Block l b = absurd (true≢false b)

pub letter_kind : {c : ℕ} → c < 256 → lettering (kind c) ≡ true → eqb c 0x0B ≡ false → kind c ≡ Character
letter_kind {c} h l e = other_letter (kind c) l (sym (block_code c h) ∙ e)

-- P and Q of a character's body give the cycles of a character and of a block
pub character_by : (b : Body) (csize : ℕ) → b ≡ character_of csize → 48 * b.p * b.q ≡ body_cycles (character_of csize)
unfolding character_of
character_by b csize e = rw e (sym (character_cycles csize))

pub block_by : (b : Body) (csize : ℕ) → b ≡ character_of csize → 16 * b.p * b.q ≡ body_cycles (block_of csize)
unfolding character_of
block_by b csize e = rw e (sym (block_cycles csize))

-- a character command is the block 0B or a character
module _ (r : Regs) (c : ℕ) (h : c < 256) where
  pub block_counted : eqb c 0x0B ≡ true → body_cycles (block_of r.csize) ≡ cycles r c
  unfolding cycles figure figure_by cycles_of
  block_counted e = from (kind c) (sym (block_code c h) ∙ e)
    where
      from : (k : Kind) → blocking k ≡ true → body_cycles (block_of r.csize) ≡ cycles_of (figure_by r c k)
      from Block t = refl
      from Character t = absurd (false≢true t)
      from Vector t = absurd (false≢true t)
      from OneCycle t = absurd (false≢true t)
      from NoCycle t = absurd (false≢true t)

  pub character_counted : eqb c 0x0B ≡ false → lettering (kind c) ≡ true → body_cycles (character_of r.csize) ≡ cycles r c
  unfolding cycles figure figure_by cycles_of
  character_counted e = from (kind c) (sym (block_code c h) ∙ e)
    where
      from : (k : Kind) → blocking k ≡ false → lettering k ≡ true → body_cycles (character_of r.csize) ≡ cycles_of (figure_by r c k)
      from Block f t = absurd (true≢false f)
      from Character f t = refl
      from Vector f t = absurd (false≢true t)
      from OneCycle f t = absurd (false≢true t)
      from NoCycle f t = absurd (false≢true t)

  -- a stepping command that cannot have come so far: a character command
  pub bad_letter : (n p : ℕ) → n ≡ cycles r c → leb n p ≡ bad_step r c p
  unfolding bad_step
  bad_letter n p e = rw e

  -- a vector
  pub bad_line : (l : Line) (p : ℕ) → lining (kind c) ≡ true → l ≡ line_of c r.deltax r.deltay → ltb l.long p ≡ bad_step r c p
  unfolding bad_step cycles figure figure_by cycles_of vector_cycles
  bad_line l p t e = rw (line_kind (kind c) t, e, add-one) refl

  -- 0F, and the codes that take no write cycle
  pub bad_other : (p : ℕ) → lettering (kind c) ≡ false → lining (kind c) ≡ false → (not (eqb c 0x0F) || leb (cycles_of Pause) p) ≡ bad_step r c p
  unfolding bad_step cycles figure figure_by cycles_of
  bad_other p f g = rw (pause_code c h) (from (kind c) p f g)
    where
      from : (k : Kind) (p : ℕ) → lettering k ≡ false → lining k ≡ false
          → (not (pausing k) || leb (cycles_of Pause) p) ≡ leb (cycles_of (figure_by r c k)) p
      from NoCycle p f g = rw (leb-zero p) refl
      from OneCycle p f g = refl
      from Vector p f g = absurd (true≢false g)
      from Character p f g = absurd (true≢false f)
      from Block p f g = absurd (true≢false f)
