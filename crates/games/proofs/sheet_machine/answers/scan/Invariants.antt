use Rattle.std.proofs.Common.{◌≡◌, drop}
use Rattle.games.specs.Listings.{listed}
use Rattle.games.proofs.sheet_machine.answers.scan.Given as goal

abbrev pub invariant-loop-m : goal.invariant-loop-m
invariant-loop-m l = listed (drop l.m-index l.moves) l.key l.target ≡ listed l.moves l.key l.target
