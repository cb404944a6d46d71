-- Every address, written and read, on states whose registers all differ; the whole row after it.
-- Assumes nothing.
use Rattle.std.specs.Prelude.{ℕ, zero, suc, ◌+◌, ◌*◌, List, [], ◌∷◌, ◌++◌, replicate}
use Rattle.basis.specs.Reading.{Reading, each, joined}
use Rattle.parts.specs.declared.format.Format.TheVariants.{Ef9366, FmatHigh, FmatLow}
use Rattle.rules.specs.State.{fresh}
use Rattle.rules.specs.Registers.{register_at}
use Rattle.rules.specs.Tables.Rows.{nth, but, stated, shown, writes, reads, gives, refuses, rich}

-- 0 to n − 1, k times
unfoldable pub ramps : ℕ → ℕ → List ℕ
ramps n zero = []
ramps n (suc k) = each (λ v. v) 0 n ++ ramps n k

-- k times n + j, with j from 0 on: the numbers in steps of k
unfoldable pub steps : ℕ → ℕ → ℕ → List ℕ
steps from by k = each (λ i. from + by * i) 0 k

-- 16 lists alike
unfoldable pub sixteen : List ℕ → List ℕ
sixteen r = joined (λ i. r) 0 16

-- number i of the row after each of the 256 bytes is written at address a (two numbers stand before the row)
unfoldable pub bytes_at : ℕ → ℕ → List ℕ
bytes_at a i = each (λ v. nth (i + 2) (writes rich a v)) 0 256

-- CTRL1 keeps seven bits, CTRL2 four, X and Y twelve, in an upper half of four and a lower of eight; CSIZE and the deltas all eight
unfoldable pub bytes_through : List Reading
bytes_through =
    (bytes_at 0x1 1, ramps 128 2)
    ∷ (bytes_at 0x2 2, ramps 16 16)
    ∷ (bytes_at 0x3 3, ramps 256 1)
    ∷ (bytes_at 0x5 4, ramps 256 1)
    ∷ (bytes_at 0x7 5, ramps 256 1)
    ∷ (bytes_at 0x8 6, sixteen (steps 0x0AB 256 16))
    ∷ (bytes_at 0x9 6, steps 0x900 1 256)
    ∷ (bytes_at 0xA 7, sixteen (steps 0x0DE 256 16))
    ∷ (bytes_at 0xB 7, steps 0xC00 1 256)
    ∷ []

-- the other registers, the flags and all else stay; the order of the writes is of no matter
unfoldable pub one_changes : List Reading
one_changes =
    (writes rich 0x1 0xDA, gives 0 (but 1 0x5A rich))
    ∷ (writes rich 0x2 0xF5, gives 0 (but 2 0x05 rich))
    ∷ (writes rich 0x3 0xDA, gives 0 (but 3 0xDA rich))
    ∷ (writes rich 0x5 0xDA, gives 0 (but 4 0xDA rich))
    ∷ (writes rich 0x7 0xDA, gives 0 (but 5 0xDA rich))
    ∷ (writes rich 0x8 0xF6, gives 0 (but 6 0x6AB rich))
    ∷ (writes rich 0x9 0xDA, gives 0 (but 6 0x9DA rich))
    ∷ (writes rich 0xA 0xF6, gives 0 (but 7 0x6DE rich))
    ∷ (writes rich 0xB 0xDA, gives 0 (but 7 0xCDA rich))
    ∷ []

-- X or Y, number i of the row, on the first and the last place of its k-th 256
unfoldable pub ends_of : ℕ → (List ℕ → ℕ) → ℕ → List ℕ
ends_of i look k = look (but i (256 * k) rich) ∷ look (but i (256 * k + 255) rich) ∷ []

-- its halves there, at the addresses a and a + 1: both read, and the lower one written
unfoldable pub halves_of : ℕ → ℕ → List Reading
halves_of i a =
    (joined (ends_of i (λ r. nth 1 (reads r a))) 0 16, joined (λ k. k ∷ k ∷ []) 0 16)
    ∷ (joined (ends_of i (λ r. nth 1 (reads r (a + 1)))) 0 16, joined (λ k. 0 ∷ 255 ∷ []) 0 16)
    ∷ (joined (ends_of i (λ r. nth (i + 2) (writes r (a + 1) 0x5A))) 0 16, joined (λ k. steps (256 * k + 0x5A) 0 2) 0 16)
    ∷ []

unfoldable pub halves : List Reading
halves = halves_of 6 0x8 ++ halves_of 7 0xA

-- the numbers of all 256 addresses, written with 0 and read: 4 at 4, 6, E, F and above, 5 at C and D on writing
unfoldable pub numbers_of : (ℕ → List ℕ) → List ℕ
numbers_of call = each (λ a. nth 0 (call a)) 0 256

unfoldable pub none : List ℕ
none = replicate 240 4

-- while a command runs, the accepted ones are refused with 6
unfoldable pub running : List ℕ
running = but 10 1 (but 11 0x11 (but 12 3 rich))

unfoldable pub clearing : List ℕ
clearing = but 10 2 (but 13 1 (but 14 1 rich))

unfoldable pub address_numbers : List Reading
address_numbers =
    (numbers_of (λ a. writes rich a 0), 0 ∷ 0 ∷ 0 ∷ 0 ∷ 4 ∷ 0 ∷ 4 ∷ 0 ∷ 0 ∷ 0 ∷ 0 ∷ 0 ∷ 5 ∷ 5 ∷ 4 ∷ 4 ∷ none)
    ∷ (numbers_of (reads rich), 0 ∷ 0 ∷ 0 ∷ 0 ∷ 4 ∷ 0 ∷ 4 ∷ 0 ∷ 0 ∷ 0 ∷ 0 ∷ 0 ∷ 0 ∷ 0 ∷ 4 ∷ 4 ∷ none)
    ∷ (numbers_of (λ a. writes running a 0), 6 ∷ 6 ∷ 6 ∷ 6 ∷ 4 ∷ 6 ∷ 4 ∷ 6 ∷ 6 ∷ 6 ∷ 6 ∷ 6 ∷ 5 ∷ 5 ∷ 4 ∷ 4 ∷ none)
    ∷ (numbers_of (λ a. writes clearing a 0), 6 ∷ 6 ∷ 6 ∷ 6 ∷ 4 ∷ 6 ∷ 4 ∷ 6 ∷ 6 ∷ 6 ∷ 6 ∷ 6 ∷ 5 ∷ 5 ∷ 4 ∷ 4 ∷ none)
    ∷ (numbers_of (reads running), 0 ∷ 0 ∷ 0 ∷ 0 ∷ 4 ∷ 0 ∷ 4 ∷ 0 ∷ 0 ∷ 0 ∷ 0 ∷ 0 ∷ 0 ∷ 0 ∷ 4 ∷ 4 ∷ none)
    ∷ (numbers_of (reads clearing), 0 ∷ 0 ∷ 0 ∷ 0 ∷ 4 ∷ 0 ∷ 4 ∷ 0 ∷ 0 ∷ 0 ∷ 0 ∷ 0 ∷ 0 ∷ 0 ∷ 4 ∷ 4 ∷ none)
    -- a refused write or read leaves the row, whatever the byte
    ∷ (joined (λ a. writes rich (a + 0xC) 0xFF) 0 6, joined (λ n. refuses n rich) 5 1 ++ (refuses 5 rich ++ joined (λ i. refuses 4 rich) 0 4))
    ∷ (joined (λ a. writes running a 0x0C) 0 4, joined (λ i. refuses 6 running) 0 4)
    ∷ (joined (λ a. writes clearing a 0x0C) 0 4, joined (λ i. refuses 6 clearing) 0 4)
    ∷ (reads rich 4 ++ (reads rich 6 ++ (reads rich 0xE ++ reads rich 0xF)), joined (λ i. refuses 4 rich) 0 4)
    ∷ []

-- with all three flags set: what each address reads, and what is left. STATUS clears the flags; C and D clear the lowest bit of XLP
unfoldable pub flagged : List ℕ
flagged = but 17 1 (but 18 1 (but 19 1 rich))

unfoldable pub read_at : List ℕ → List Reading
read_at r =
    (reads r 0x1, gives 0x75 r)
    ∷ (reads r 0x2, gives 0x0A r)
    ∷ (reads r 0x3, gives 0x23 r)
    ∷ (reads r 0x5, gives 0x85 r)
    ∷ (reads r 0x7, gives 0xC7 r)
    ∷ (reads r 0x8, gives 0x09 r)
    ∷ (reads r 0x9, gives 0xAB r)
    ∷ (reads r 0xA, gives 0x0C r)
    ∷ (reads r 0xB, gives 0xDE r)
    ∷ (reads r 0xC, gives 0xF5 (but 8 0xF4 r))
    ∷ (reads r 0xD, gives 0xD9 (but 8 0xF4 r))
    ∷ []

unfoldable pub each_read : List Reading
each_read =
    read_at rich ++ (read_at flagged ++ (read_at running ++ read_at clearing))
    ++ (
    (reads flagged 0x0, gives 0xFD rich)
    ∷ (reads (but 17 1 rich) 0x0, gives 0x9D rich)
    ∷ (reads (but 18 1 rich) 0x0, gives 0xAD rich)
    ∷ (reads (but 19 1 rich) 0x0, gives 0xCD rich)
    -- while a command runs, a clear is in its frame, the pen waits
    ∷ (reads (but 19 1 running) 0x0, gives 0xC9 running)
    ∷ (reads (but 18 1 (but 15 1 clearing)) 0x0, gives 0xA8 (but 15 1 clearing))
    -- every value of XLP whose bit 1 is low, and what is left of it; the others are refused with 1
    ∷ (each (λ v. nth 10 (reads (but 8 v rich) 0xD)) 0 256, joined (λ i. steps (4 * i) 0 2 ++ steps (4 * i + 2) 1 2) 0 64)
    ∷ (each (λ v. nth 0 (reads (but 8 v rich) 0x1)) 0 256, joined (λ i. 0 ∷ 0 ∷ 1 ∷ 1 ∷ []) 0 64)
    -- at an address without a register there is 0, which no read shows
    ∷ (each (register_at (stated rich)) 0xE 242, replicate 242 0)
    ∷ (register_at (stated rich) 0x4 ∷ register_at (stated rich) 0x6 ∷ [], 0 ∷ 0 ∷ [])
    -- fresh
    ∷ (shown (fresh Ef9366), 0 ∷ 0 ∷ 0 ∷ 0x11 ∷ replicate 16 0)
    ∷ (shown (fresh FmatHigh), 1 ∷ 0 ∷ 0 ∷ 0x11 ∷ replicate 16 0)
    ∷ (shown (fresh FmatLow), 2 ∷ 0 ∷ 0 ∷ 0x11 ∷ replicate 16 0)
    ∷ []
    )
