-- Where the parts of a machine sheet stand: 8 bytes of fields, a byte for each label, two for each key and each target.
use Rattle.std.specs.Prelude.{◌≡◌, ℕ, ◌+◌, ◌*◌, ◌<◌, ◌≤◌}
use Rattle.inspection.specs.declared.places.Part.{Part}
use Rattle.inspection.specs.declared.places.Part.TheVariants.{Label, Key, Target}

-- a two-byte number that begins at a place has a byte there
abbrev pub Pair : ℕ → ℕ → Type 0
Pair from place = (from ≤ place) × (place < from + 2)

-- a part has a byte at a place
abbrev pub Stands : ℕ → ℕ → Part → ℕ → Type 0
Stands states moves (Label s) place = (s < states) × (place ≡ 8 + s)
Stands states moves (Key i) place = (i < moves) × Pair (8 + states + 2 * i) place
Stands states moves (Target i) place = Pair (8 + states + 2 * moves + 2 * i) place
