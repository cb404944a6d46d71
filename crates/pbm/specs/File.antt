-- The file of a picture: plain PBM, Netpbm's P1.
-- Assumes nothing.
use Rattle.std.specs.Prelude.{ℕ, zero, suc, ◌+◌, ◌/◌, Bool, cond, List, [], ◌∷◌, ◌++◌}
use Rattle.text.specs.Pieces.{line_feed}
use Rattle.text.specs.Numbers.{decimal}
use Rattle.picture.specs.Dot.{dot_at}
use Rattle.picture.specs.Screen.{dot_number}

abbrev pub blank : ℕ
blank = 32

-- P1, then width and height parted by one space, each line ended by a line feed
unfoldable pub head : ℕ → ℕ → List ℕ
head w h = 80 ∷ 49 ∷ line_feed ∷ (decimal w ++ (blank ∷ (decimal h ++ (line_feed ∷ []))))

-- a dot as a sign: lit as 1, dark as 0
unfoldable pub sign : Bool → ℕ
sign lit = cond lit 49 48

-- the signs of the n dots from dot d on
unfoldable pub signs : List ℕ → ℕ → ℕ → List ℕ
signs pic d zero = []
signs pic d (suc n) = sign (dot_at pic d) ∷ signs pic (suc d) n

-- k lines of the file from dot d on: sixty-four dots to a line without spaces, each line ended by a line feed
unfoldable pub file_lines : List ℕ → ℕ → ℕ → List ℕ
file_lines pic d zero = []
file_lines pic d (suc k) = signs pic d 64 ++ (line_feed ∷ file_lines pic (d + 64) k)

-- the lowest h lines of the picture, the top one first
unfoldable pub body : ℕ → ℕ → List ℕ → List ℕ
body w zero pic = []
body w (suc y) pic = file_lines pic (dot_number w 0 y) (w / 64) ++ body w y pic

-- the whole file of a picture of so many dots a line and so many lines
unfoldable pub file : ℕ → ℕ → List ℕ → List ℕ
file w h pic = head w h ++ body w h pic
