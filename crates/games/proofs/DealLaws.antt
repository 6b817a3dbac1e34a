-- Laws of terms and deals.
use Rattle.std.proofs.Common.{◌≡◌, ℕ, zero, suc, true, ◌<◌, Some, None, Decides, ◌∙◌, arith}
use Rattle.std.proofs.lemmas.Bool.{and_parts, and_from}
use Rattle.reading.proofs.FirstLaws.{not_some, of_none, none_left, none_right, unless_none, none_unless, below_none, none_below}
use Rattle.reading.specs.Sides.{pick}
use Rattle.games.specs.Sets.{width, has, Described}
use Rattle.games.specs.declared.deal.Deal.{Deal}
use Rattle.games.specs.Terms.{are_terms, AreTerms}
use Rattle.games.specs.Deals.{Refusal, numbers, gap_at, first_gap, Agree}
use Rattle.games.specs.declared.deal.Terms.{Terms}
use Rattle.games.specs.declared.deal.talk.TalkFault.TheVariants.{TooFar}
use Rattle.games.proofs.SetLaws.{in_words, from_words, inside_signal, inside_from}

-- terms are as described exactly if they are in words of signals
pub terms_decided : (phases own partner : ℕ) (t : Terms) → Decides (are_terms phases own partner t) (AreTerms phases own partner t)
terms_decided phases own partner t = (
  λ e. (let h = and_parts _ _ e in record { promised = in_words width phases own _ h.0; relied = in_words width phases partner _ h.1 }),
  λ d. and_from _ _ (from_words width phases own _ (omega arith) d.promised) (from_words width phases partner _ (omega arith) d.relied),
)

-- a signal that a deal has is one of its phases and of the side that shows it
in_range : (phases k set : ℕ) → Described width phases k set → (p j : ℕ) → has width set p j ≡ true → (p < phases) × (j < k)
in_range phases k set w p j e = (w.ends p j e, w.low p j e)

pub promised_in_range : (d : Deal) (side p j : ℕ) → has width (pick side d.terms.first.promise d.terms.second.promise) p j ≡ true
    → (p < d.sizes.phases) × (j < pick side d.sizes.signals.first d.sizes.signals.second)
promised_in_range d zero = in_range _ _ _ ((terms_decided _ _ _ _).0 d.described0).promised
promised_in_range d (suc n) = in_range _ _ _ ((terms_decided _ _ _ _).0 d.described1).promised

pub relied_in_range : (d : Deal) (side p j : ℕ) → has width (pick side d.terms.first.reliance d.terms.second.reliance) p j ≡ true
    → (p < d.sizes.phases) × (j < pick side d.sizes.signals.second d.sizes.signals.first)
relied_in_range d zero = in_range _ _ _ ((terms_decided _ _ _ _).0 d.described0).relied
relied_in_range d (suc n) = in_range _ _ _ ((terms_decided _ _ _ _).0 d.described1).relied

-- there is no gap exactly if the two sides agree
pub agree_from : (phases : ℕ) (t0 t1 : Terms) → first_gap phases t0 t1 ≡ None → Agree phases t0 t1
agree_from phases t0 t1 e = record {
  first = λ p j l. inside_signal width t0.promise t1.reliance p j (none_unless _ (numbers (TooFar p 0)) (none_left _ _ (at p l)));
  second = λ p j l. inside_signal width t1.promise t0.reliance p j (none_unless _ (numbers (TooFar p 1)) (none_right _ _ (at p l)));
}
  where
    at : (p : ℕ) → p < phases → gap_at t0 t1 p ≡ None
    at p l = none_below phases (gap_at t0 t1) e p l

pub no_gap : (phases : ℕ) (t0 t1 : Terms) → Agree phases t0 t1 → first_gap phases t0 t1 ≡ None
no_gap phases t0 t1 a = below_none phases (gap_at t0 t1) (λ p l.
    of_none _ _
    (unless_none _ (numbers (TooFar p 0)) (inside_from width t0.promise t1.reliance p (λ j. a.first p j l)))
    (unless_none _ (numbers (TooFar p 1)) (inside_from width t1.promise t0.reliance p (λ j. a.second p j l))))

-- with a gap they do not agree
pub gapped : (phases : ℕ) (t0 t1 : Terms) (x : Refusal) → Some x ≡ first_gap phases t0 t1 → Agree phases t0 t1 → ⊥
gapped phases t0 t1 x e a = not_some (e ∙ no_gap phases t0 t1 a)
