-- A replay into a buffer with room for just the answers.
use Rattle.std.proofs.Common.{◌≡◌, ℕ, List, ◌++◌, length, map, take, sym, ◌∙◌, subst, arith}
use Rattle.std.proofs.lemmas.List.{take_all, take_at}
use Rattle.cell.specs.declared.calls.Answer.{Answer}
use Rattle.cell.specs.Logs.{Games, Event}
use Rattle.cell.specs.Cells.{told, Replayed, Fills}

-- the buffer holds the answers to all calls; it is handed back whole
pub all_filled : (g : Games) (es : List Event) (old new rest : List Answer) (count len : ℕ) → Fills g es old new count →
    length old ≡ length es → len ≡ length es → Replayed g es (map told (take len (new ++ rest)))
all_filled g es old new rest count len f e h =
    let size : length new ≡ length es = f.size ∙ e in
    let all : count ≡ length es = omega (arith, f.many, e) in
    let calls : take count es ≡ es = take_all count es (omega arith) in
    let answers : take count new ≡ new = take_all count new (omega arith) in
    let back : take len (new ++ rest) ≡ new = take_at new rest len (size ∙ sym h) in
    rw back
    (subst (λ (x : List Event). Replayed g x (map told new)) calls
    (subst (λ (y : List Answer). Replayed g (take count es) (map told y)) answers f.replayed))
