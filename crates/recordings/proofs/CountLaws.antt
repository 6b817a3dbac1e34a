-- As many calls are put to the cell as there are answers.
use Rattle.std.proofs.Common.{◌≡◌, ℕ, suc, ◌+◌, List, [], ◌∷◌, ◌++◌, length, refl, ap, ◌∙◌, length-append, arith}
use Rattle.cell.specs.Logs.{Games, Log, Event, offered, reported, asked, Told, first, after, all_answers}
use Rattle.cell.specs.Cells.{Replayed}
use Rattle.recordings.specs.declared.recording.Mark.{Mark}
use Rattle.recordings.specs.declared.recording.Mark.TheVariants.{Put, Unread, Unsigned}
use Rattle.recordings.specs.Calls.{Said, offer, report, ask}
use Rattle.recordings.specs.Marks.{Before, none_yet, one_more, Becomes, puts}

-- an answer for each call
many_answers : (g : Games) (es : List Event) (l : Log) → length (all_answers g es l) ≡ length es
unfolding all_answers
many_answers g [] l = refl
many_answers g (e ∷ es) l = ap suc (many_answers g es (after g l e))

pub each_answered : (g : Games) (es : List Event) (given : List Told) → Replayed g es given → length given ≡ length es
each_answered g es given r = ap length r.answered ∙ many_answers g es (first g)

puts-append : (ms : List Mark) (m : Mark) → puts (ms ++ m ∷ []) ≡ puts ms + puts (m ∷ [])
puts-append [] m = omega arith
puts-append (Put ∷ ms) m = omega (arith, puts-append ms m)
puts-append (Unread f ∷ ms) m = puts-append ms m
puts-append (Unsigned f ∷ ms) m = puts-append ms m

-- a call is put once or not at all
one_put : (s : Said) (m : Mark) (new : List Event) → Becomes s m new → puts (m ∷ []) ≡ length new
one_put s Put (e ∷ []) h = refl
one_put (offer b) Put [] h = absurd h
one_put (report r) Put [] h = absurd h
one_put (ask q) Put [] h = absurd h
one_put (offer b) Put (offered o ∷ f ∷ es) h = absurd h
one_put (offer b) Put (reported r ∷ f ∷ es) h = absurd h
one_put (offer b) Put (asked q ∷ f ∷ es) h = absurd h
one_put (report r) Put (e ∷ f ∷ es) h = absurd h
one_put (ask q) Put (e ∷ f ∷ es) h = absurd h
one_put s (Unread f) [] h = refl
one_put (offer b) (Unread f) (e ∷ es) h = absurd h
one_put (report r) (Unread f) (e ∷ es) h = absurd h
one_put (ask q) (Unread f) (e ∷ es) h = absurd h
one_put s (Unsigned f) [] h = refl
one_put (offer b) (Unsigned f) (e ∷ es) h = absurd h
one_put (report r) (Unsigned f) (e ∷ es) h = absurd h
one_put (ask q) (Unsigned f) (e ∷ es) h = absurd h

pub all_put : (xs : List ℕ) (start : ℕ) (ms : List Mark) (es : List Event) (i : ℕ) → Before xs start ms es i → puts ms ≡ length es
all_put xs start ms es i none_yet = refl
all_put xs start ms es i (one_more ms₀ es₀ i₀ s m new before inside none says becomes) =
    omega (arith, puts-append ms₀ m, one_put s m new becomes, all_put xs start ms₀ es₀ i₀ before, length-append es₀ new)
