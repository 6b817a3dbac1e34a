-- What a sheet machine holds and means.
use Rattle.std.specs.Prelude.{vec_items}
use Rattle.games.specs.declared.sheet_machine.SheetMachine.{SheetMachine}
use Rattle.games.specs.Machines.{Model}
use Rattle.games.specs.Listings.{Listing, listed_model}

-- the list that a sheet machine holds
abbrev pub held : SheetMachine → Listing
held x = record {
  states = x.frame.states;
  own = x.frame.own;
  partner = x.frame.partner;
  start = x.frame.start;
  labels = vec_items x.labels;
  moves = vec_items x.moves;
}

-- the machine that it means
abbrev pub machine_of : SheetMachine → Model
machine_of x = listed_model (held x)
