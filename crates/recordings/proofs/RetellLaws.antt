-- From a recording that was read and replayed to what an input tells.
use Rattle.std.proofs.Common.{◌≡◌, List, ℕ, None, Ok, Err, Result, IfOk, String, Global, string_bytes, subst, sym, ◌∙◌}
use Rattle.std.specs.declared.alloc.AllocError.{AllocError}
use Rattle.reading.specs.RuleSheets.{Automaton}
use Rattle.reading.specs.Sides.{both}
use Rattle.reading.specs.declared.sides.Sides.{Sides}
use Rattle.games.specs.Machines.{Model}
use Rattle.games.specs.Layers.{watched, watch_marks}
use Rattle.cell.specs.Logs.{Games}
use Rattle.cell.specs.Cells.{Replayed}
use Rattle.recordings.specs.declared.recording.Recording.{Recording}
use Rattle.recordings.proofs.CountLaws.{all_put, each_answered}
use Rattle.recordings.specs.Marks.{events}
use Rattle.recordings.specs.Recordings.{games_of, games_in, bay_in, GamesRead, Holds, Shows, Retold, Tells, head_fault}
use Rattle.bays.specs.Inputs.{parts_in}
use Rattle.games.specs.declared.sheet_machine.SheetMachine.{SheetMachine}
use Rattle.games.specs.declared.watched.Watched.{Watched}

-- equal machines under equal rules make equal games
games_of_equal : (m0 m1 n0 n1 : Model) (a0 a1 b0 b1 : Automaton) → m0 ≡ n0 → m1 ≡ n1 → a0 ≡ b0 → a1 ≡ b1 →
    ◌≡◌ {A = Games}
    (record { machines = both (watched m0 a0) (watched m1 a1); marks = both (watch_marks m0 a0) (watch_marks m1 a1) })
    (record { machines = both (watched n0 b0) (watched n1 b1); marks = both (watch_marks n0 b0) (watch_marks n1 b1) })
games_of_equal m0 m1 n0 n1 a0 a1 b0 b1 e f g h = cc

-- what was read are the games of the bay
pub same_games : (bay : List ℕ) (g : Sides (Watched SheetMachine)) → GamesRead bay g → games_of g ≡ games_in (parts_in bay)
same_games bay g h = games_of_equal _ _ _ _ _ _ _ _ h.first.machine h.second.machine h.first.rule h.second.rule

retold : (xs text : List ℕ) (r : Recording) → Holds xs r → Shows r text → Retold xs text
retold xs text r h s = record {
  marks = r.calls.marks.items;
  put = events r.calls;
  damage = r.calls.damage;
  given = s.given;
  recorded = h.calls;
  replayed = subst (λ (g : Games). Replayed g (events r.calls) s.given) (same_games (bay_in xs) r.games h.games) s.replayed;
  each = each_answered _ (events r.calls) s.given s.replayed ∙ sym (all_put xs _ _ _ _ h.calls.before);
  told = s.told;
}

-- a recording's replay tells what its input does
pub tells : (xs : List ℕ) (r : Recording) (t : Result (String Global) AllocError) → head_fault xs ≡ None → Holds xs r →
    IfOk t (λ text. Shows r (string_bytes text)) → IfOk t (λ text. Tells xs (string_bytes text))
tells xs r (Ok text) e h s = rw e (retold xs (string_bytes text) r h s)
tells xs r (Err f) e h s = tt
