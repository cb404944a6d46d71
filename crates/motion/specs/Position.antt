-- X and Y are 12-bit and step around modulo 4,096.
-- Assumes nothing.
use Rattle.std.specs.Prelude.{ℕ, ◌+◌, ◌-◌, ◌%◌, Bool, true, false}
use Rattle.motion.specs.declared.position.Spot.{Spot}

-- p moved on by n; p moved back by n
abbrev pub ahead : ℕ → ℕ → ℕ
ahead p n = (p + n) % 4096

abbrev pub behind : ℕ → ℕ → ℕ
behind p n = (p + (4096 - n % 4096)) % 4096

-- a distance as what is added, modulo 4,096: d back is 4,096 less d
abbrev pub signed : Bool → ℕ → ℕ
signed true d = 4096 - d
signed false d = d

-- a place, or a way from one place to another
abbrev pub spot : ℕ → ℕ → Spot
spot x y = record { x = x; y = y }

-- a place moved on by a way; a place moved back by it
unfoldable pub moved : Spot → Spot → Spot
moved at way = spot (ahead at.x way.x) (ahead at.y way.y)

unfoldable pub moved_back : Spot → Spot → Spot
moved_back at way = spot (behind at.x way.x) (behind at.y way.y)
