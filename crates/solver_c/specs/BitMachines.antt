-- A machine whose moves stand as bits: 32 bytes for each state and four signals each way.
use Rattle.std.specs.Prelude.{ℕ, ◌+◌, ◌*◌, ◌/◌, ◌%◌, Bool, ◌&&◌, List}
use Rattle.reading.specs.Bytes.{byte, bit}
use Rattle.reading.specs.declared.machine_sheet.Frame.{Frame}
use Rattle.games.specs.Machines.{Model, in_range}

-- bit t of the row of a state and two signals
abbrev pub bit_move : List ℕ → ℕ → ℕ → ℕ → ℕ → Bool
bit_move xs s a b t = bit (byte xs (32 * (16 * s + 4 * a + b) + t / 8)) (t % 8)

-- the machine of a frame and such bytes; it has no labels
abbrev pub bit_model : Frame → List ℕ → Model
bit_model f xs = record {
  states = f.states;
  own = f.own;
  partner = f.partner;
  start = f.start;
  label = λ _. 0;
  move = λ s a b t. in_range f.states f.own f.partner s a b t && bit_move xs s a b t;
}
