-- What a person is told of a refusal, as bytes.
-- Assumes nothing.
use Rattle.std.specs.Prelude.{ℕ, List, codes}
use Rattle.parts.specs.declared.refusal.Refusal.{Refusal}
use Rattle.parts.specs.declared.refusal.Refusal.TheVariants.{BadState, BadPicture, BadTable, BadAddress, ReadOnly, Busy, OffScreen, ShortBuffer, NoPbm, OtherSize, BadDots, NoRecord, LongLog}

unfoldable pub refusal_sentence : Refusal → List ℕ
refusal_sentence BadState = codes "there is no such format or state"
refusal_sentence BadPicture = codes "the picture is not of the format's length"
refusal_sentence BadTable = codes "the character table is not 480 bytes long"
refusal_sentence BadAddress = codes "there is no register at the address"
refusal_sentence ReadOnly = codes "the register can only be read"
refusal_sentence Busy = codes "a command runs"
refusal_sentence OffScreen = codes "the light pen's place is off the screen"
refusal_sentence ShortBuffer = codes "the buffer is shorter than the file"
refusal_sentence NoPbm = codes "the file is no plain PBM"
refusal_sentence OtherSize = codes "the file's picture is of another size"
refusal_sentence BadDots = codes "dots are missing, or a byte among them is none"
refusal_sentence NoRecord = codes "the line is no record"
refusal_sentence LongLog = codes "the log is longer than 65,536 bytes"
