-- A side's terms, and when they are as described.
use Rattle.std.specs.Prelude.{ℕ, Bool, ◌&&◌}
use Rattle.games.specs.Sets.{width, described, Described}
use Rattle.games.specs.declared.deal.Terms.{Terms}

-- whether terms are as described for a side's own signals and its partner's
abbrev pub are_terms : ℕ → ℕ → ℕ → Terms → Bool
are_terms phases own partner t = described width phases own t.promise && described width phases partner t.reliance

-- the same in words of signals
pub record AreTerms (phases own partner : ℕ) (t : Terms) : Type 0 where
  pub promised : Described width phases own t.promise
  pub relied : Described width phases partner t.reliance
