-- What a line of the log means: a record, or malformed.
-- Assumes nothing.
use Rattle.std.specs.Prelude.{ℕ, Bool, cond, ◌&&◌, List, [], eqb, leb, length, get_or}
use Rattle.text.specs.Pieces.{fields_of}
use Rattle.text.specs.Numbers.{is_number, number_from}

-- what a line may mean
pub data Record : Type 0 where
  Write : (address value : ℕ) → Record
  Read : (address : ℕ) → Record
  Cycles : (n : ℕ) → Record
  Blanking : (level : Bool) → Record
  Edge : (h v : ℕ) → Record
  Malformed : Record

-- the letter of a record: its first field, of one byte (0 is no letter)
unfoldable pub letter_of : List ℕ → ℕ
letter_of f = cond (eqb (length f) 1) (get_or f 0 0) 0

-- W, address (one hex digit), value (one or two); R, address; T, cycles (one to five decimal digits, at most 65,535);
-- V, 0 or 1; L, h, v (one to three decimal digits, at most 255); l is the letter, n the count of fields, f and g the next two
unfoldable pub record_by : ℕ → ℕ → List ℕ → List ℕ → Record
record_by l n f g =
    cond (eqb l 87 && eqb n 3 && is_number 16 1 f && is_number 16 2 g) (Write (number_from 16 0 f) (number_from 16 0 g))
    (cond (eqb l 82 && eqb n 2 && is_number 16 1 f) (Read (number_from 16 0 f))
    (cond (eqb l 84 && eqb n 2 && is_number 10 5 f && leb (number_from 10 0 f) 65535) (Cycles (number_from 10 0 f))
    (cond (eqb l 86 && eqb n 2 && is_number 10 1 f && leb (number_from 10 0 f) 1) (Blanking (eqb (number_from 10 0 f) 1))
    (cond
    (eqb l 76 && eqb n 3 && is_number 10 3 f && is_number 10 3 g && leb (number_from 10 0 f) 255 && leb (number_from 10 0 g) 255)
    (Edge (number_from 10 0 f) (number_from 10 0 g))
    Malformed))))

unfoldable pub record_of : List ℕ → Record
record_of line =
    record_by (letter_of (get_or (fields_of line) 0 [])) (length (fields_of line)) (get_or (fields_of line) 1 []) (get_or (fields_of line) 2 [])
