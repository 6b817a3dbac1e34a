-- Two toggles can meet: there is a table of one phase, and a deal on it by which each side promises signal 1, or both signals.
use Rattle.std.proofs.Common.{◌≡◌, ℕ, ◌<◌, true, ltb, List, [], ◌∷◌, get_or, refl, arith}
use Rattle.std.proofs.lemmas.Bool.{ltb-true}
use Rattle.reading.specs.declared.sizes.Sizes.{Sizes}
use Rattle.reading.specs.declared.phase_table.PhaseTable.{PhaseTable}
use Rattle.reading.specs.PhaseTables.{table_in}
use Rattle.reading.specs.Sides.{both}
use Rattle.reading.proofs.Padding.{appended_below}
use Rattle.games.specs.Sets.{width, has}
use Rattle.games.specs.Terms.{are_terms}
use Rattle.games.specs.declared.deal.Deal.{Deal}
use Rattle.games.specs.declared.deal.Terms.{Terms}
use Rattle.games.proofs.SetLaws.{all_at}
use Rattle.checking.specs.Searching.{terms_of}
use Rattle.trials.specs.Toggles.{Met}
use Rattle.trials.proofs.WitnessBay.{same}

abbrev sizes : Sizes
sizes = record {
  phases = 1;
  signals = both 2 2;
  some_phases = omega arith;
  few_phases = omega arith;
  some0 = omega arith;
  few0 = omega arith;
  some1 = omega arith;
  few1 = omega arith;
}

abbrev entries : List ℕ
entries = 0 ∷ 0 ∷ 0 ∷ 0 ∷ []

entry_low : (i : ℕ) → i < 4 → get_or entries i 0 < 1
entry_low i h = ltb-true _ _ (all_at 4 (λ j. ltb (get_or entries j 0) 1) refl i h)

abbrev some_table : PhaseTable
some_table = record { sizes = sizes; entries = (table_in (1 ∷ 2 ∷ 2 ∷ entries)).entries; closed = λ i. appended_below entries 124 1 (omega arith) entry_low i }

-- each side promises a set of signals and relies on the same
abbrev terms : ℕ → Terms
terms set = record { promise = set; reliance = set }

pub met : (set : ℕ) → are_terms 1 2 2 (terms set) ≡ true → Met set
met set e =
    let some_deal : Deal = record {
      sizes = sizes;
      terms = terms_of (both set set);
      described0 = e;
      described1 = e;
      kept0 = λ p j h. same (has width set p j);
      kept1 = λ p j h. same (has width set p j);
    } in (some_table, some_deal, record { one_phase = record { phases = refl; first = refl; second = refl }; dealt = record { sizes = refl; terms = refl } })
