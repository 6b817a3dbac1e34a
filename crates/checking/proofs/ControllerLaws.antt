-- A plan has no fault exactly if it is a ranked controller.
use Rattle.std.proofs.Common.{◌≡◌, ℕ, ◌<◌, ◌≤◌, true, None, inl, inr, arith}
use Rattle.std.proofs.lemmas.Bool.{cases_Bool}
use Rattle.std.proofs.lemmas.Bool.Decides.{nat_tests}
use Rattle.reading.specs.Firsts.{first_below}
use Rattle.reading.proofs.FirstLaws.{where_none, below_none, none_below, some_test, test_some}
use Rattle.checking.specs.Arenas.{Arena}
use Rattle.checking.specs.Controllers.{Plan, Kept, Serves, Rival, Controller}
use Rattle.checking.specs.Checks.{keeps, next_fault, partner_fault, position_fault, positions_fault, plan_fault}

-- what holds of an arena and a plan of the same sizes
pub record Fitted (a : Arena) (c : Plan) : Type 0 where
  pub inside : (s p : ℕ) → Kept c s p → (s < a.states) × (p < a.phases)
  pub relies : (p b : ℕ) → a.relied p b ≡ true → b < a.partner
  pub moves : (s x b t : ℕ) → a.move s x b t ≡ true → t < a.states

pub kept_from : (c : Plan) (s p : ℕ) → keeps c s p ≡ true → Kept c s p
kept_from c s p e h = grind (arith, nat_tests)

pub keeps_from : (c : Plan) (s p : ℕ) → Kept c s p → keeps c s p ≡ true
keeps_from c s p k = grind (arith, nat_tests)

module _ (a : Arena) (c : Plan) where
  partners_of : (s p : ℕ) → position_fault a c s p ≡ None → Kept c s p → first_below a.partner (partner_fault a c s p) ≡ None
  partners_of s p e k = grind (arith, nat_tests)

  nexts_of : (s p b : ℕ) → partner_fault a c s p b ≡ None → a.relied p b ≡ true → first_below a.states (next_fault a c s p b) ≡ None
  nexts_of s p b e r = grind (arith, nat_tests)

  module _ (z : Fitted a c) where
    rival_of : ((s p : ℕ) → Kept c s p → c.rank s p ≤ 65535) → positions_fault a c ≡ None → Rival a c
    rival_of top e = record {
      inside = z.inside;
      safe = λ s p k. let f = at s p k in grind (arith, nat_tests);
      ranked = λ s p k. let f = at s p k in let t = top s p k in grind (arith, nat_tests);
      zero_at_goals = λ s p k g. let f = at s p k in grind (arith, nat_tests);
      goals_at_zero = λ s p k h. let f = at s p k in grind (arith, nat_tests);
      serves = serves;
    }
      where
        at : (s p : ℕ) → Kept c s p → position_fault a c s p ≡ None
        at s p k =
            let w = z.inside s p k in
            none_below a.phases (position_fault a c s) (none_below a.states (λ s. first_below a.phases (position_fault a c s)) e s w.0) p w.1

        relied : (s p b : ℕ) → Kept c s p → a.relied p b ≡ true → partner_fault a c s p b ≡ None
        relied s p b k r = none_below a.partner (partner_fault a c s p) (partners_of s p (at s p k) k) b (z.relies p b r)

        moved : (s p b t : ℕ) → Kept c s p → a.relied p b ≡ true → a.move s (c.choice s p) b t ≡ true → next_fault a c s p b t ≡ None
        moved s p b t k r m = none_below a.states (next_fault a c s p b) (nexts_of s p b (relied s p b k r) r) t (z.moves s _ b t m)

        serves : (s p : ℕ) → Kept c s p → Serves a c s p (c.choice s p)
        serves s p k = record {
          promised = let f = at s p k in grind (arith, nat_tests);
          goes = λ b r.
              let f = relied s p b k r in
              let g = test_some a.states (a.move s (c.choice s p) b) (grind (arith, nat_tests)) in
              (g.0, g.2);
          stays = λ b t r m h. let f = moved s p b t k r m in grind (arith, nat_tests);
          falls = λ b t r m g. let f = moved s p b t k r m in grind (arith, nat_tests);
        }

    of_rival : ((p x : ℕ) → a.promised p x ≡ true → x < 255) → Rival a c → positions_fault a c ≡ None
    of_rival low v = below_none a.states _ (λ s l. below_none a.phases (position_fault a c s) (λ p h. position s p))
      where
        next : (s p b t : ℕ) → Kept c s p → a.relied p b ≡ true → next_fault a c s p b t ≡ None
        next s p b t k r = where_none _ _ (λ m.
            let x = v.serves s p k in
            let y = keeps_from c t _ (x.stays b t r m) in
            let l = x.falls b t r m in
            grind (arith, nat_tests))

        partner : (s p b : ℕ) → Kept c s p → partner_fault a c s p b ≡ None
        partner s p b k = where_none _ _ (λ r.
            let w = (v.serves s p k).goes b r in
            let g = some_test a.states (a.move s (c.choice s p) b) w.0 (z.moves s (c.choice s p) b w.0 w.1) w.1 in
            let n = below_none a.states (next_fault a c s p b) (λ t l. next s p b t k r) in
            grind (arith, nat_tests))

        kept : (s p : ℕ) → Kept c s p → position_fault a c s p ≡ None
        kept s p k =
            let x = (v.serves s p k).promised in
            let l = low p _ x in
            let f = v.safe s p k in
            let r = v.ranked s p k in
            let i = v.zero_at_goals s p k in
            let j = v.goals_at_zero s p k in
            let n = below_none a.partner (partner_fault a c s p) (λ b l. partner s p b k) in
            grind (arith, nat_tests)

        position : (s p : ℕ) → position_fault a c s p ≡ None
        position s p = elim (cases_Bool (keeps c s p)) [
          | inl t ↦ kept s p (kept_from c s p t)
          | inr f ↦ grind (arith, nat_tests)
        ]

    pub controller_of : ((s p : ℕ) → Kept c s p → c.rank s p ≤ 65535) → plan_fault a c ≡ None → Controller a c
    controller_of top e = record { rival = rival_of top (grind (arith, nat_tests)); starts = kept_from c a.start 0 (grind (arith, nat_tests)) }

    pub of_controller : ((p x : ℕ) → a.promised p x ≡ true → x < 255) → Controller a c → plan_fault a c ≡ None
    of_controller low k = let s = keeps_from c a.start 0 k.starts in let r = of_rival low k.rival in grind (arith, nat_tests)
