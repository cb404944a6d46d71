-- Text written by a writer.
-- Assumes nothing.
use Rattle.std.specs.Prelude.{◌≡◌, ℕ, ◌+◌, ◌≤◌, List, length}
use Rattle.text.specs.Wrote.{Wrote}
use Rattle.text.specs.declared.write.Writer.{Writer}

-- room for n bytes more
abbrev pub Room : ℕ → Writer → Type 0
Room n w = w.at + n ≤ length w.out.now

-- writer a writes a text behind its place, which makes it writer b: the buffer is still the one that was lent
pub record Writes (a : Writer) (text : List ℕ) (b : Writer) : Type 0 where
  pub same : b.out.ghost_name ≡ a.out.ghost_name
  pub wrote : Wrote a.out.now a.at text b.out.now b.at
