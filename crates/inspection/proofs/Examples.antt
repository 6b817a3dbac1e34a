-- Examples that the definitions compute.
use Rattle.std.proofs.Common.{◌≡◌, ◌==◌, ◌≤◌, ℕ, List, [], ◌∷◌, Some, None, codes, refl, sym, ap, subst, ◌∙◌, slice_index, arith}
use Rattle.std.proofs.lemmas.Option.{none-some}
use Rattle.reading.specs.Faults.{Fault, fault}
use Rattle.inspection.specs.declared.kinds.Kind.{Kind}
use Rattle.inspection.specs.declared.kinds.Kind.TheVariants.{Machine, Marks, Rule, Phases, Record}
use Rattle.inspection.specs.declared.kinds.Request.TheVariants.{Help, Sheet}
use Rattle.inspection.specs.Names.{Asks, Counts}
use Rattle.inspection.specs.Sources.{state_of}
use Rattle.inspection.specs.Tallies.{tally}
use Rattle.inspection.specs.Refusals.{sheet_fault, product_fault, title, Refuses, Titled}

-- two signals each way: key 7 is of state 1
read_back : (state_of 2 2 3 ≡ 0) × (state_of 2 2 7 ≡ 1)
read_back = (refl, refl)

-- one of four states passes
counted : tally 4 (λ s. s == 2) ≡ 1
counted = refl

-- a table of one phase; no bytes for marks; a machine sheet is told before a rule sheet
faults : (sheet_fault Phases (1 ∷ 1 ∷ 1 ∷ 0 ∷ []) ≡ None)
    × (sheet_fault (Marks 4) [] ≡ Some (fault 3 0))
    × (product_fault (1 ∷ []) [] ≡ Some (fault 1 1))
faults = (refl, refl, refl)

-- a number of states, with a plus before it or without; 257 are too many
counts : Counts (codes "4") 4 × Counts (codes "+018") 18 × ((n : ℕ) → Counts (codes "257") n → ⊥)
counts = (
  record { numeral = (omega arith, (omega arith, tt)); value = refl; least = omega arith; most = omega arith },
  record { numeral = (omega arith, (omega arith, (omega arith, (omega arith, tt)))); value = refl; least = omega arith; most = omega arith },
  λ n c. let most : 257 ≤ 256 = subst (λ (k : ℕ). k ≤ 256) c.value c.most in absurd (omega arith),
)

-- the usage; a kind alone; one that takes a number, with it and without
asks : Asks (codes "--help" ∷ []) Help
    × Asks (codes "phases" ∷ []) (Sheet Phases)
    × Asks (codes "marks" ∷ codes "4" ∷ []) (Sheet (Marks 4))
    × (Asks (codes "marks" ∷ []) (Sheet (Marks 4)) → ⊥)
asks = (refl, (refl, refl), (refl, counts.0), λ a. none-some 4 (sym a.1))

both_begin : (text xs ys : List ℕ) → text ≡ xs → text ≡ ys → slice_index xs 1 ≡ slice_index ys 1
both_begin text xs ys e h = ap (λ (z : List ℕ). slice_index z 1) (sym e ∙ h)

-- no text tells both a fault and a lawful sheet: they differ in the second letter
told_apart : (kind : Kind) (f : Fault) (text : List ℕ) → Refuses f text → Titled (title kind) text → ⊥
told_apart Machine f text r t = let k : ◌≡◌ {A = ℕ} 101 97 = both_begin text _ _ r.1 t.1 in absurd (omega (arith, k))
told_apart (Marks n) f text r t = let k : ◌≡◌ {A = ℕ} 101 97 = both_begin text _ _ r.1 t.1 in absurd (omega (arith, k))
told_apart (Rule n) f text r t = let k : ◌≡◌ {A = ℕ} 101 117 = both_begin text _ _ r.1 t.1 in absurd (omega (arith, k))
told_apart Phases f text r t = let k : ◌≡◌ {A = ℕ} 101 104 = both_begin text _ _ r.1 t.1 in absurd (omega (arith, k))
told_apart Record f text r t = let k : ◌≡◌ {A = ℕ} 101 111 = both_begin text _ _ r.1 t.1 in absurd (omega (arith, k))
