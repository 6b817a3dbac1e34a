-- What the definitions say of promises and candidates of small bays.
use Rattle.std.proofs.Common.{◌≡◌, ℕ, [], ◌∷◌, refl}
use Rattle.reading.specs.Sides.{both}
use Rattle.checking.specs.Searching.{promises, pairs}

-- one phase, one signal: there is one promise
one_signal : promises 1 1 ≡ 1 ∷ []
unfolding promises
one_signal = refl

-- one phase, two signals: signal 0, signal 1, both
two_signals : promises 1 2 ≡ 1 ∷ 2 ∷ 3 ∷ []
unfolding promises
two_signals = refl

-- two phases: the later one weighs more, and neither set is empty
two_phases : promises 2 2 ≡ 17 ∷ 18 ∷ 19 ∷ 33 ∷ 34 ∷ 35 ∷ 49 ∷ 50 ∷ 51 ∷ []
unfolding promises
two_phases = refl

-- three signals leave out those from the fourth on
three_signals : promises 1 3 ≡ 1 ∷ 2 ∷ 3 ∷ 4 ∷ 5 ∷ 6 ∷ 7 ∷ []
unfolding promises
three_signals = refl

-- pairs ascend by the first, then by the second
in_order : pairs {A = ℕ} (1 ∷ 2 ∷ []) (1 ∷ 2 ∷ 3 ∷ []) ≡ both 1 1 ∷ both 1 2 ∷ both 1 3 ∷ both 2 1 ∷ both 2 2 ∷ both 2 3 ∷ []
in_order = refl
