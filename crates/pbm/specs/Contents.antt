-- What a file says: two whole numbers, and dots. White space parts them, and a comment counts as white space.
-- Assumes nothing.
use Rattle.std.specs.Prelude.{ℕ, zero, suc, ◌+◌, ◌*◌, ◌/◌, Bool, true, false, cond, not, ◌&&◌, ◌||◌, List, [], ◌∷◌, ◌++◌, eqb, ltb, get_or, drop}
use Rattle.text.specs.Pieces.{tab, line_feed}
use Rattle.text.specs.Numbers.{digit_value, number_from}
use Rattle.picture.specs.Bit.{digit}
use Rattle.pbm.specs.File.{blank}

-- blank, tab, CR, LF
unfoldable pub is_white : ℕ → Bool
is_white b = eqb b blank || (eqb b tab || (eqb b 13 || eqb b line_feed))

-- a comment begins with #
abbrev pub hash : ℕ
hash = 35

-- what is left where white space is passed over. A comment counts as white space, and it goes to the line's end: its line feed,
-- or the end of the file. The flag says whether one has begun
unfoldable pub passed : Bool → List ℕ → List ℕ
passed c [] = []
passed true (b ∷ bs) = passed (not (eqb b line_feed)) bs
passed false (b ∷ bs) = cond (is_white b) (passed false bs) (cond (eqb b hash) (passed true bs) (b ∷ bs))

-- Numbers -------------------------------------------------------------------------------------------------------------

unfoldable pub is_digit : ℕ → Bool
is_digit b = ltb (digit_value b) 10

-- a whole number is digits as far as they go, and any number of them; what is left behind it
unfoldable pub digits : List ℕ → List ℕ
digits [] = []
digits (b ∷ bs) = cond (is_digit b) (b ∷ digits bs) []

unfoldable pub behind_digits : List ℕ → List ℕ
behind_digits [] = []
behind_digits (b ∷ bs) = cond (is_digit b) (behind_digits bs) (b ∷ bs)

-- the file from its first number on, which stands behind P1; from its second; and from the dots
unfoldable pub from_width : List ℕ → List ℕ
from_width f = passed false (drop 2 f)

unfoldable pub from_height : List ℕ → List ℕ
from_height f = passed false (behind_digits (from_width f))

unfoldable pub from_dots : List ℕ → List ℕ
from_dots f = behind_digits (from_height f)

-- P1, then some white space; a byte past the end is 0, which is neither
unfoldable pub marked : List ℕ → Bool
marked f = eqb (get_or f 0 0) 80 && (eqb (get_or f 1 0) 49 && (is_white (get_or f 2 0) || eqb (get_or f 2 0) hash))

-- then two whole numbers
unfoldable pub opens : List ℕ → Bool
opens f = marked f && (is_digit (get_or (from_width f) 0 0) && is_digit (get_or (from_height f) 0 0))

-- they are the width and the height, whatever zeros stand before them
unfoldable pub sized_as : ℕ → ℕ → List ℕ → Bool
sized_as w h f = eqb (number_from 10 0 (digits (from_width f))) w && eqb (number_from 10 0 (digits (from_height f))) h

-- Dots ----------------------------------------------------------------------------------------------------------------

-- the next n signs, white space passed over; 0 where the file has none
unfoldable pub taken : ℕ → List ℕ → List ℕ
taken zero s = []
taken (suc n) s = get_or (passed false s) 0 0 ∷ taken n (drop 1 (passed false s))

-- a dot: 0 or 1
unfoldable pub is_dot : ℕ → Bool
is_dot b = eqb b 48 || eqb b 49

unfoldable pub are_dots : List ℕ → Bool
are_dots [] = true
are_dots (b ∷ bs) = is_dot b && are_dots bs

-- the byte of a picture that eight signs show, the first its lowest bit: k of them
unfoldable pub weighed : ℕ → List ℕ → ℕ
weighed zero s = 0
weighed (suc k) s = digit (eqb (get_or s 0 0) 49) + 2 * weighed k (drop 1 s)

-- n bytes, from eight signs each
unfoldable pub packed : ℕ → List ℕ → List ℕ
packed zero s = []
packed (suc n) s = weighed 8 s ∷ packed n (drop 8 s)

-- the picture of h lines that signs show: the top line is the first of the file and the last of the picture
unfoldable pub shown : ℕ → ℕ → List ℕ → List ℕ
shown w zero s = []
shown w (suc y) s = shown w y (drop w s) ++ packed (w / 8) s
