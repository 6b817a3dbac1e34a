-- What a log answers, step by step.
use Rattle.std.proofs.Common.{◌≡◌, ℕ, zero, suc, ◌<◌, List, [], ◌∷◌, length, map, take, drop, Some, None, Ok, Err, sym, refl, ap, ◌∙◌, subst, arith}
use Rattle.std.proofs.lemmas.List.{take_all}
use Rattle.reading.specs.declared.sides.Sides.{Sides}
use Rattle.reading.proofs.FirstLaws.{of_right, none_unless}
use Rattle.cell.specs.declared.copies.Standing.{Standing}
use Rattle.cell.specs.declared.calls.Answer.{Answer}
use Rattle.cell.specs.Faults.{Refusal}
use Rattle.cell.specs.Logs.{Games, Log, Event, Told, Offering, offered, reported, first, signals, unless_err, changes_fault, choice_fault, offer_fault, bounds_of, in_force, moved, answers_offer, answers_report, answers, after, run, all_answers, record_fault as offered_fault}
use Rattle.cell.specs.Law.{BothMove}
use Rattle.cell.specs.Cells.{told, Fills}
use Rattle.cell.proofs.AnswerLaws.{answer_moved, no_fault}
use Rattle.cell.proofs.AnswerLaws.{accepts as answered, refuses as refused}

-- an offer whose records pass is refused only for a change
pub only_changes : (g : Games) (l : Log) (o : Offering) → offered_fault g o 0 ≡ None → offered_fault g o 1 ≡ None → offer_fault g l o ≡ changes_fault l.force l.at o
only_changes g l o e h = of_right _ _ e ∙ of_right _ _ h

pub accepts : (g : Games) (l : Log) (o : Offering) → offer_fault g l o ≡ None → answers_offer g l o ≡ Ok (bounds_of o)
unfolding answers_offer
accepts g l o = answered (offer_fault g l o) (bounds_of o)

pub refuses : (g : Games) (l : Log) (o : Offering) (f : Refusal) → offer_fault g l o ≡ Some f → answers_offer g l o ≡ Err f
unfolding answers_offer
refuses g l o = refused (offer_fault g l o) (bounds_of o)

-- so it comes into force, or changes nothing
pub comes : (g : Games) (l : Log) (o : Offering) (b : Sides ℕ) → answers_offer g l o ≡ Ok b → after g l (offered o) ≡ in_force o l
comes g l o b e = ap (λ a. unless_err a (in_force o l) l) e

pub stays : (g : Games) (l : Log) (o : Offering) (f : Refusal) → answers_offer g l o ≡ Err f → after g l (offered o) ≡ l
stays g l o f e = ap (λ a. unless_err a (in_force o l) l) e

-- and so does a report
pub moves_on : (g : Games) (l : Log) (to s : Sides ℕ) → answers_report g l to ≡ Ok s → after g l (reported to) ≡ moved g to l
moves_on g l to s e = ap (λ a. unless_err a (moved g to l) l) e

pub stands : (g : Games) (l : Log) (to : Sides ℕ) (f : Refusal) → answers_report g l to ≡ Err f → after g l (reported to) ≡ l
stands g l to f e = ap (λ a. unless_err a (moved g to l) l) e

module _ (g : Games) (a : Standing) (o : Offering) where
  abbrev pub here : Log
  here = record { at = a; force = Some o }

  -- where both sides have a choice, a report of moves that both machines can make is accepted
  pub all_moves : (to : Sides ℕ) → choice_fault here 0 ≡ None → choice_fault here 1 ≡ None → BothMove g here to → answers_report g here to ≡ Ok (signals (moved g to here))
  all_moves to c0 c1 h = answer_moved g here to (no_fault g here to (none_unless _ _ c0) (none_unless _ _ c1) h)

-- calls in turn, what they are answered, and what holds after each
pub data Goes (g : Games) (P : Log → Type 0) : List Event → Log → List Told → Type 0 where
  ends : {l : Log} → Goes g P [] l []
  goes : {e : Event} {es : List Event} {l next : Log} {a : Told} {rest : List Told} → answers g l e ≡ a → after g l e ≡ next → P next → Goes g P es next rest → Goes g P (e ∷ es) l (a ∷ rest)

module _ (g : Games) (P : Log → Type 0) where
  pub answers_by : {es : List Event} {l : Log} {given : List Told} → Goes g P es l given → all_answers g es l ≡ given
  unfolding all_answers
  answers_by ends = refl
  answers_by (goes now then kept later) = rw (now, then, answers_by later) refl

  -- and the rest of them, from where the first n lead
  pub rest_by : {es : List Event} {l : Log} {given : List Told} → Goes g P es l given → (n : ℕ) → all_answers g (drop n es) (run g (take n es) l) ≡ drop n given
  unfolding run
  rest_by h zero = answers_by h
  rest_by ends (suc n) = answers_by ends
  rest_by (goes {es = es} {rest = rest} now then next later) (suc n) = subst (λ (l : Log). all_answers g (drop n es) (run g (take n es) l) ≡ drop n rest) (sym then) (rest_by later n)

  pub holds_by : {es : List Event} {l : Log} {given : List Told} → Goes g P es l given → P l → (n : ℕ) → P (run g (take n es) l)
  unfolding run
  holds_by ends kept zero = kept
  holds_by ends kept (suc n) = kept
  holds_by (goes now then next later) kept zero = kept
  holds_by (goes {es = es} now then next later) kept (suc n) = subst (λ (l : Log). P (run g (take n es) l)) (sym then) (holds_by later next n)

  -- after the first call on, whatever held before it
  pub holds_after : {e : Event} {es : List Event} {l : Log} {given : List Told} → Goes g P (e ∷ es) l given → (n : ℕ) → 0 < n → P (run g (take n (e ∷ es)) l)
  unfolding run
  holds_after h zero k = absurd (omega arith)
  holds_after (goes {es = es} now then next later) (suc n) k = subst (λ (l : Log). P (run g (take n es) l)) (sym then) (holds_by later next n)

-- with room for all answers, what is filled in is what the log answers
pub filled : (g : Games) (events : List Event) (given : List Told) (old new : List Answer) (count : ℕ) → length old ≡ length events → all_answers g events (first g) ≡ given →
    Fills g events old new count → map told new ≡ given
filled g events given old new count size by_log f =
    let all : count ≡ length events = omega (arith, f.many, size) in
    let whole : take count new ≡ new = take_all count new (omega (arith, f.size, size, all)) in
    let every : take count events ≡ events = take_all count events (omega (arith, all)) in
    ap (map told) (sym whole) ∙ f.replayed.answered ∙ ap (λ (es : List Event). all_answers g es (first g)) every ∙ by_log
