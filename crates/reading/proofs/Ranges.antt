-- What a field without a fault says.
use Rattle.std.proofs.Common.{◌≡◌, ℕ, ◌≤◌, true, leb}
use Rattle.std.proofs.lemmas.Bool.{and_parts, and_from, leb-true, le-leb}
use Rattle.reading.specs.Bytes.{within}

pub from_within : (low high x : ℕ) → within low high x ≡ true → (low ≤ x) × (x ≤ high)
from_within low high x e =
    let h = and_parts (leb low x) (leb x high) e in
    (leb-true low x h.0, leb-true x high h.1)

pub to_within : (low high x : ℕ) → low ≤ x → x ≤ high → within low high x ≡ true
to_within low high x l h = and_from (leb low x) (leb x high) (le-leb low x l) (le-leb x high h)
