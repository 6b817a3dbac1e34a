-- The one line that tells a negotiation's outcome, in print.
use Rattle.std.specs.Prelude.{ℕ, List, ◌++◌, codes, decimal, Ok, Err, Result}
use Rattle.negotiation.specs.declared.negotiator.Settlement.{Settlement}
use Rattle.negotiation.specs.declared.refusals.Refusal.{Refusal}
use Rattle.negotiation.specs.Refusals.{number}

-- the two promises, the tries, and both bounds: "deal A B tries T bounds X Y"
abbrev pub settled : Settlement → List ℕ
settled s =
    codes "deal " ++ (decimal s.promises.first ++ (codes " " ++ (decimal s.promises.second
    ++ (codes " tries " ++ (decimal s.tries
    ++ (codes " bounds " ++ (decimal s.bounds.first ++ (codes " " ++ decimal s.bounds.second))))))))

-- the refusal's number: "refused N"
abbrev pub refused : Refusal → List ℕ
refused f = codes "refused " ++ decimal (number f)

-- one line, ended by a newline
abbrev pub line : Result Settlement Refusal → List ℕ
line (Ok s) = settled s ++ codes "\n"
line (Err f) = refused f ++ codes "\n"
