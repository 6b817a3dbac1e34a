-- The two sides of a bay.
use Rattle.std.specs.Prelude.{ℕ, zero, suc}
use Rattle.reading.specs.declared.sides.Sides.{Sides}

-- a value for each side
abbrev pub both : {A : Type 0} → A → A → Sides A
both x y = record { first = x; second = y }

-- side 0 takes the first, any other side the second
abbrev pub pick : {A : Type 0} → ℕ → A → A → A
pick zero x y = x
pick (suc n) x y = y
