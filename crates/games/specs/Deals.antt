-- Talks and deals: when terms are as described, when a reply can be signed, and what is refused.
use Rattle.std.specs.Prelude.{◌≡◌, ℕ, Some, None, Ok, Err, Option, Result}
use Rattle.reading.specs.Firsts.{first_some, first_below, unless}
use Rattle.games.specs.Sets.{width, inside, Inside}
use Rattle.games.specs.Terms.{are_terms}
use Rattle.games.specs.declared.deal.Terms.{Terms}
use Rattle.games.specs.declared.deal.Deal.{Deal}
use Rattle.games.specs.declared.deal.talk.Talk.{Talk}
use Rattle.games.specs.declared.deal.talk.Bid.{Bid}
use Rattle.games.specs.declared.deal.talk.Reply.{Reply}
use Rattle.games.specs.declared.deal.talk.TalkFault.{TalkFault}
use Rattle.games.specs.declared.deal.talk.TalkFault.TheVariants.{NotTerms, TooFar}

-- a refusal's number, and the phase and the side that it is about: 65,535 and 2 where none applies
pub record Refusal : Type 0 where
  pub number : ℕ
  pub phase : ℕ
  pub side : ℕ

-- number, phase and side of each case; every promise about refusals reads this definition
abbrev pub numbers : TalkFault → Refusal
numbers NotTerms = record { number = 20; phase = 65535; side = 2 }
numbers (TooFar p s) = record { number = 21; phase = p; side = s }

-- the refusal that an answer tells, none where it has a value
abbrev pub told : {A B : Type 0} → Result A (B × TalkFault) → Option Refusal
told (Ok x) = None
told (Err e) = Some (numbers e.1)

-- the refusal that a test of two sides' terms tells
abbrev pub told_gap : {A : Type 0} → Result A TalkFault → Option Refusal
told_gap (Ok x) = None
told_gap (Err f) = Some (numbers f)

-- terms that are not as described
abbrev pub terms_fault : ℕ → ℕ → ℕ → Terms → Option Refusal
terms_fault phases own partner t = unless (are_terms phases own partner t) (numbers NotTerms)

-- at one phase: side 0 promises more than side 1 relies on, then side 1 more than side 0 relies on
abbrev pub gap_at : Terms → Terms → ℕ → Option Refusal
gap_at t0 t1 p =
    first_some (unless (inside width t0.promise t1.reliance p) (numbers (TooFar p 0)))
    (unless (inside width t1.promise t0.reliance p) (numbers (TooFar p 1)))

-- the first promise beyond the other side's reliance: lowest phase, then side 0 before side 1
abbrev pub first_gap : ℕ → Terms → Terms → Option Refusal
first_gap phases t0 t1 = first_below phases (gap_at t0 t1)

-- two sides agree if in every phase each promise lies within the other's reliance
pub record Agree (phases : ℕ) (t0 t1 : Terms) : Type 0 where
  pub first : Inside width phases t0.promise t1.reliance
  pub second : Inside width phases t1.promise t0.reliance

-- a bid on a talk: the talk and side 0's terms
pub record Bidden (t : Talk) (terms : Terms) (b : Bid) : Type 0 where
  pub talk : b.talk ≡ t
  pub bid : b.terms ≡ terms

-- a reply to a bid: the bid and side 1's terms
pub record Replied (b : Bid) (terms : Terms) (r : Reply) : Type 0 where
  pub bid : r.bid ≡ b
  pub reply : r.terms ≡ terms

-- a deal signed on a reply: the talk's sizes and both sides' terms
pub record Signed (r : Reply) (d : Deal) : Type 0 where
  pub sizes : d.sizes ≡ r.bid.talk.sizes
  pub first : d.terms.first ≡ r.bid.terms
  pub second : d.terms.second ≡ r.terms
