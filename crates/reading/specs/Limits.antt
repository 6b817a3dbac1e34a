-- What the types say of lists of entries.
use Rattle.std.specs.Prelude.{ℕ, ◌<◌, List, slice_index}

-- every entry is below the limit; past the end there are zeros
abbrev pub AllBelow : ℕ → List ℕ → Type 0
AllBelow limit entries = (i : ℕ) → slice_index entries i < limit
