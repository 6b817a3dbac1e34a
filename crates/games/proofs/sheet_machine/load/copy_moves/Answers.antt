use Rattle.std.proofs.Common.{List, [], ◌∷◌, ◌++◌, map, sym, ap, ◌∙◌, arith}
use Rattle.std.specs.List.{range_with_len}
use Rattle.std.proofs.lemmas.List.FromFn.{map-range_with_len_more}
use Rattle.reading.specs.declared.machine_sheet.Move.{Move}
use Rattle.reading.specs.MachineSheets.{sheet_of}
use Rattle.games.specs.Listings.{move_at}
use Rattle.games.proofs.ListLaws.{move_is}
use Rattle.games.proofs.sheet_machine.load.copy_moves.Goals as goal

pub loop-i-preserved : goal.loop-i-preserved
loop-i-preserved c =
    let s = sheet_of c.args.sheet.now in
    let i = c.loop-i.i in
    let e = move_is c.entry.result _ _ c.entry.ensures.key c.entry.ensures.target in (
      c.push_reserved.ensures.items
          ∙ ap (λ (ms : List Move). ms ++ c.entry.result ∷ []) c.loop-i.invariant.0
          ∙ ap (λ (m : Move). map (move_at s) (range_with_len 0 i) ++ m ∷ []) e
          ∙ sym (map-range_with_len_more (move_at s) 0 i i (omega arith)),
      omega (arith, c.push_reserved.ensures.len, c.loop-i.invariant.1),
      c.push_reserved.ensures.capacity ∙ c.loop-i.invariant.2,
    )
