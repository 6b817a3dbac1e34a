-- Sizes are equal where their three numbers are: each of their facts has one proof.
use Rattle.std.proofs.Common.{◌≡◌, ◌≤◌}
use Rattle.std.proofs.Math.Bridge.{le_prop}
use mathlib.Core.HLevel.{is_prop→PathP}
use Rattle.reading.specs.declared.sizes.Sizes.{Sizes}

pub same_sizes : (a b : Sizes) → a.phases ≡ b.phases → a.signals.first ≡ b.signals.first → a.signals.second ≡ b.signals.second → a ≡ b
same_sizes a b p q r = λ i. record {
  phases = p i;
  signals = record { first = q i; second = r i };
  some_phases = is_prop→PathP (λ j. 1 ≤ p j) (λ j. le_prop) a.some_phases b.some_phases i;
  few_phases = is_prop→PathP (λ j. p j ≤ 8) (λ j. le_prop) a.few_phases b.few_phases i;
  some0 = is_prop→PathP (λ j. 1 ≤ q j) (λ j. le_prop) a.some0 b.some0 i;
  few0 = is_prop→PathP (λ j. q j ≤ 4) (λ j. le_prop) a.few0 b.few0 i;
  some1 = is_prop→PathP (λ j. 1 ≤ r j) (λ j. le_prop) a.some1 b.some1 i;
  few1 = is_prop→PathP (λ j. r j ≤ 4) (λ j. le_prop) a.few1 b.few1 i;
}
