-- The first fault of a sheet of any kind, and the text that tells it or else what the sheet means.
use Rattle.std.specs.Prelude.{◌≡◌, ℕ, List, [], ◌∷◌, ◌++◌, length, codes, Some, None, Option, nat_le}
use Rattle.reading.specs.Firsts.{first_some, unless}
use Rattle.reading.specs.Faults.{Fault, fault, length_place, printed}
use Rattle.reading.specs.MachineSheets.{sheet_in, machine_fault}
use Rattle.reading.specs.MarkSheets.{mark_fault}
use Rattle.reading.specs.RuleSheets.{rule_fault}
use Rattle.reading.specs.PhaseTables.{phase_fault}
use Rattle.reading.specs.Records.{record_fault}
use Rattle.inspection.specs.declared.kinds.Kind.{Kind}
use Rattle.inspection.specs.declared.kinds.Kind.TheVariants.{Machine, Marks, Rule, Phases, Record}

-- the first fault of a sheet of a kind
abbrev pub kind_fault : Kind → List ℕ → Option Fault
kind_fault Machine xs = machine_fault xs
kind_fault (Marks n) xs = mark_fault n xs
kind_fault (Rule n) xs = rule_fault n xs
kind_fault Phases xs = phase_fault xs
kind_fault Record xs = record_fault xs

-- a length above 40,000 is refused whatever the bytes are
abbrev pub sheet_fault : Kind → List ℕ → Option Fault
sheet_fault kind xs = first_some (unless (nat_le (length xs) 40000) (fault 3 (length_place xs))) (kind_fault kind xs)

-- of a machine sheet and a rule sheet for its states: the machine's fault, else the rule's
abbrev pub product_fault : List ℕ → List ℕ → Option Fault
product_fault machine rule = first_some (machine_fault machine) (rule_fault (sheet_in machine).states rule)

-- a text in two lines: the number and the place of a fault, then what is wrong
abbrev pub Refuses : Fault → List ℕ → Type 0
Refuses f text =
    (why : List ℕ) × (text ≡ printed f ++ (10 ∷ (why ++ 10 ∷ [])))

-- what the text of a lawful sheet begins with
abbrev pub title : Kind → List ℕ
title Machine = codes "machine sheet"
title (Marks n) = codes "mark sheet"
title (Rule n) = codes "rule sheet"
title Phases = codes "phase table"
title Record = codes "controller record"

-- a text has a title, in a line by itself
abbrev pub Titled : List ℕ → List ℕ → Type 0
Titled title text = (rest : List ℕ) × (text ≡ title ++ (10 ∷ rest))

-- a text tells the fault, if there is one, and else has the title; none of the titles begins as a refusal does
abbrev pub Tells : List ℕ → Option Fault → List ℕ → Type 0
Tells title None text = Titled title text
Tells title (Some f) text = Refuses f text
