-- What the words after the program's name ask for.
use Rattle.std.specs.Prelude.{◌≡◌, ℕ, ◌≤◌, List, [], ◌∷◌, Option, Some, None, MatchOption, codes}
use Rattle.std.specs.Str.Parse.{IsNumeral, digits_value, without_leading_plus}
use Rattle.inspection.specs.declared.kinds.Kind.{Kind}
use Rattle.inspection.specs.declared.kinds.Kind.TheVariants.{Machine, Marks, Rule, Phases, Record}
use Rattle.inspection.specs.declared.kinds.Request.{Request}
use Rattle.inspection.specs.declared.kinds.Request.TheVariants.{Help, Sheet}

-- the word for a kind
abbrev pub word : Kind → List ℕ
word Machine = codes "machine"
word (Marks n) = codes "marks"
word (Rule n) = codes "rule"
word Phases = codes "phases"
word Record = codes "record"

-- the number of states that follows it
abbrev pub number : Kind → Option ℕ
number Machine = None
number (Marks n) = Some n
number (Rule n) = Some n
number Phases = None
number Record = None

-- a word writes a number of states that a machine can have, in decimal digits with a plus before them or without
pub record Counts (digits : List ℕ) (n : ℕ) : Type 0 where
  pub numeral : IsNumeral 10 (without_leading_plus digits)
  pub value : n ≡ digits_value 10 (without_leading_plus digits)
  pub least : 1 ≤ n
  pub most : n ≤ 256

-- the words ask for the usage, or for a sheet of a kind: its name, and its number of states where it takes one
abbrev pub Asks : List (List ℕ) → Request → Type 0
Asks [] request = ⊥
Asks (name ∷ []) Help = name ≡ codes "--help"
Asks (name ∷ []) (Sheet kind) = (name ≡ word kind) × (number kind ≡ None)
Asks (name ∷ count ∷ []) Help = ⊥
Asks (name ∷ count ∷ []) (Sheet kind) = (name ≡ word kind) × MatchOption (number kind) ⊥ (Counts count)
Asks (name ∷ count ∷ more ∷ rest) request = ⊥
