-- Entries have no fault exactly if each is below the limit.
use Rattle.std.proofs.Common.{◌≡◌, ℕ, ◌<◌, List, length, get_or, None}
use Rattle.std.proofs.lemmas.Bool.{ltb-true, lt-ltb}
use Rattle.reading.specs.Firsts.{first_below}
use Rattle.reading.specs.Faults.{entry_fault}
use Rattle.reading.proofs.FirstLaws.{none_unless, unless_none, none_below, below_none}

module _ (entries : List ℕ) (limit offset : ℕ) where
  pub entries_below : first_below (length entries) (entry_fault entries limit offset) ≡ None → (i : ℕ) → i < length entries → get_or entries i 0 < limit
  entries_below e i l = ltb-true _ _ (none_unless _ _ (none_below _ _ e i l))

  pub below_entries : ((i : ℕ) → i < length entries → get_or entries i 0 < limit) → first_below (length entries) (entry_fault entries limit offset) ≡ None
  below_entries h = below_none _ _ (λ i l. unless_none _ _ (lt-ltb _ _ (h i l)))
