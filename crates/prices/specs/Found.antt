-- What the code says of the lines of a text, beside the buffer that it put their bytes into.
-- Assumes nothing.
use Rattle.std.specs.Prelude.{◌≡◌, List, ℕ, ◌≤◌, take, Result, Ok, Err}
use Rattle.prices.specs.Lines.{Lines}
use Rattle.prices.specs.Lines.Lines.{file, bad_line, too_long}
use Rattle.prices.specs.declared.lines.Unread.{Unread}
use Rattle.prices.specs.declared.lines.Unread.TheVariants.{BadLine, TooLong}

unfoldable pub comes_to : List ℕ → Result ℕ Unread → Lines
comes_to buffer (Ok n) = file (take n buffer)
comes_to buffer (Err (BadLine n)) = bad_line n
comes_to buffer (Err TooLong) = too_long

-- the bytes of the buffer that count
abbrev pub bytes_found : Result ℕ Unread → ℕ
bytes_found (Ok n) = n
bytes_found (Err why) = 0

-- the answer says what the lines come to, and no more bytes than 16,384 words have
pub record Finds (buffer : List ℕ) (found : Result ℕ Unread) (lines : Lines) : Type 0 where
  pub is : comes_to buffer found ≡ lines
  pub most : bytes_found found ≤ 65536
