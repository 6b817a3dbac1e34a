-- What the words after a program's name say.
use Rattle.std.specs.Prelude.{◌≡◌, ℕ, ◌^◌, ◌<◌, List}
use Rattle.std.specs.Str.Parse.{IsNumeral, digits_value, without_leading_plus}
use Rattle.games.specs.declared.deal.Terms.{Terms}

-- the number that a word writes in decimal digits, with a plus before them or without
abbrev pub number : List ℕ → ℕ
number word = digits_value 10 (without_leading_plus word)

-- a word writes a number of 32 bits
abbrev pub IsNumber : List ℕ → Type 0
IsNumber word = IsNumeral 10 (without_leading_plus word) × (number word < 2 ^ 32)

-- two words write what a side promises and what it relies on
pub record Says (promise reliance : List ℕ) (t : Terms) : Type 0 where
  pub promises : IsNumber promise
  pub relies : IsNumber reliance
  pub promise_is : t.promise ≡ number promise
  pub reliance_is : t.reliance ≡ number reliance

-- one of the two writes no such number
abbrev pub SaysNothing : List ℕ → List ℕ → Type 0
SaysNothing promise reliance = IsNumber promise → IsNumber reliance → ⊥
