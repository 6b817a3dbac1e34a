-- The text that tells a verdict.
use Rattle.std.specs.Prelude.{◌≡◌, ℕ, List, [], ◌∷◌, ◌++◌, codes, decimal, Ok, Err, Result}
use Rattle.review.specs.declared.cases.Case.{Case}
use Rattle.review.specs.Verdicts.{early_line, Judged}

-- one line with the bound, or a refusal in print and a line that says what is wrong
abbrev pub Says : Result ℕ (List ℕ) → List ℕ → Type 0
Says (Ok bound) text = text ≡ codes "bound " ++ (decimal bound ++ (10 ∷ []))
Says (Err l) text = (why : List ℕ) × (text ≡ l ++ (10 ∷ (why ++ 10 ∷ [])))

-- a text tells the verdict on a case
pub record Reviews (c : Case) (text : List ℕ) : Type 0 where
  pub verdict : Result ℕ (List ℕ)
  pub judged : Judged (early_line c) c verdict
  pub says : Says verdict text
