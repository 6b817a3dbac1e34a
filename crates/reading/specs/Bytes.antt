-- How bytes hold numbers and bits.
use Rattle.std.specs.Prelude.{ℕ, ◌+◌, ◌-◌, ◌*◌, ◌/◌, ◌%◌, ◌^◌, Bool, ◌&&◌, List, ◌++◌, length, replicate, ◌==◌, nat_le, slice_index}

-- the byte at a place, 0 past the end
abbrev pub byte : List ℕ → ℕ → ℕ
byte xs i = slice_index xs i

-- the two-byte number at a place, the low byte first
abbrev pub pair : List ℕ → ℕ → ℕ
pair xs i = byte xs i + 256 * byte xs (i + 1)

-- bit i of a byte
abbrev pub bit : ℕ → ℕ → Bool
bit x i = x / 2 ^ i % 2 == 1

-- from low to high, both included
abbrev pub within : ℕ → ℕ → ℕ → Bool
within low high x = nat_le low x && nat_le x high

-- a list made n long by zeros behind it
abbrev pub padded : ℕ → List ℕ → List ℕ
padded n xs = xs ++ replicate (n - length xs) 0
