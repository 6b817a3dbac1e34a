-- Examples that the definitions compute.
use Rattle.std.proofs.Common.{◌≡◌, ℕ, true, false, Some, None, refl}
use Rattle.games.specs.Sets.{width, has, row}
use Rattle.games.specs.Terms.{are_terms}
use Rattle.games.specs.Deals.{numbers, terms_fault, first_gap}
use Rattle.games.specs.declared.deal.Terms.{Terms}
use Rattle.games.specs.declared.deal.talk.TalkFault.TheVariants.{NotTerms, TooFar}

abbrev terms : ℕ → ℕ → Terms
terms x y = record { promise = x; reliance = y }

-- one phase, two signals each way: each side promises signal 1 and relies on it
agreed : (are_terms 1 2 2 (terms 2 2) ≡ true) × (first_gap 1 (terms 2 2) (terms 2 2) ≡ None)
agreed = (refl, refl)

-- side 0 promises to show 0 or 1, and side 1 relies on 1
too_far : (are_terms 1 2 2 (terms 3 2) ≡ true) × (first_gap 1 (terms 3 2) (terms 2 2) ≡ Some (record { number = 21; phase = 0; side = 0 }))
too_far = (refl, refl)

-- both promises go too far: side 0 comes first
side_first : first_gap 1 (terms 3 2) (terms 3 2) ≡ Some (numbers (TooFar 0 0))
side_first = refl

-- two phases: side 1 goes too far in phase 0, before side 0 in phase 1
phase_first : first_gap 2 (terms 49 17) (terms 19 17) ≡ Some (record { number = 21; phase = 0; side = 1 })
phase_first = refl

-- two phases: side 0 goes too far in the second
second_phase : first_gap 2 (terms 49 17) (terms 17 17) ≡ Some (record { number = 21; phase = 1; side = 0 })
second_phase = refl

-- an empty set, a signal from 2 up, and a bit of a later phase
refused : (terms_fault 1 2 2 (terms 0 2) ≡ Some (record { number = 20; phase = 65535; side = 2 }))
    × (terms_fault 1 2 2 (terms 4 2) ≡ Some (numbers NotTerms))
    × (terms_fault 1 2 2 (terms 2 18) ≡ Some (numbers NotTerms))
refused = (refl, refl, refl)

-- a bit of phase 1 is no signal of phase 0
apart : (has width 16 1 0 ≡ true) × (has width 16 0 4 ≡ false) × (row width 18 1 ≡ 1)
apart = (refl, refl, refl)

-- all eight phases
whole : are_terms 8 4 4 (terms 4294967295 4294967295) ≡ true
whole = refl
