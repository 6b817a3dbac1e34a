-- Layers of an attractor better every rival, and stay so under one write.
use Rattle.std.proofs.Common.{◌≡◌, ℕ, zero, suc, ◌+◌, ◌<◌, ◌≤◌, true, false, List, sym, refl, ◌∙◌, inl, inr, arith}
use Rattle.std.proofs.lemmas.Bool.{cases_lt, cases_Bool, both_ways, ltb-true, lt-ltb}
use Rattle.checking.specs.declared.state_set.StateSet.{StateSet}
use Rattle.checking.specs.declared.ranking.Ranking.{Ranking}
use Rattle.checking.specs.Arenas.{Arena}
use Rattle.checking.specs.Controllers.{Plan, Kept, Rival}
use Rattle.checking.specs.Solving.{Leads, Lowest, Leading, First, Tracks, Shape, Least, Stable, Open, Full, Layered, Bounded, Written, ranks_in, choices_in, Fresh}

-- a signal leads wherever the ranks below d are ranks below e
pub leads_on : (a : Arena) (rank new : ℕ → ℕ → ℕ) (s p x d e : ℕ) → ((t q : ℕ) → rank t q < d → new t q < e) → Leads a rank s p x d → Leads a new s p x e
leads_on a rank new s p x d e on l = record { promised = l.promised; goes = l.goes; below = λ b t h m. on _ _ (l.below b t h m) }

module _ (a : Arena) (sets : List StateSet) (rank : ℕ → ℕ → ℕ) (d : ℕ) (b : Bounded a) (tr : Tracks a sets rank d) (s p : ℕ) where
  -- leading into the sets is leading below what they track
  pub into_leads : (x : ℕ) → Leading a sets s p x → Leads a rank s p x d
  into_leads x l = record {
    promised = l.promised;
    goes = l.goes;
    below = λ v t h m. ltb-true _ _ (sym (tr t (a.follow p x v) (b.follows p x v)) ∙ l.into v t h m);
  }

  pub leads_into : (x : ℕ) → Leads a rank s p x d → Leading a sets s p x
  leads_into x l = record {
    promised = l.promised;
    goes = l.goes;
    into = λ v t h m. tr t (a.follow p x v) (b.follows p x v) ∙ lt-ltb _ _ (l.below v t h m);
  }

  pub first_lowest : (x : ℕ) → First a sets s p x → Lowest a rank s p d x
  first_lowest x f = record { leads = into_leads x f.leads; least = λ y l. f.least y (leads_into y l) }

module _ (a : Arena) (rank choice : ℕ → ℕ → ℕ) where
  -- a rival's choice leads to ranked positions, where no rival betters a rank
  pub rival_leads : Least a rank → (r : Plan) → Rival a r → (s p : ℕ) → Kept r s p → Leads a rank s p (r.choice s p) 65535
  rival_leads least r v s p k = let w = v.serves s p k in record {
    promised = w.promised;
    goes = w.goes;
    below = λ b t h m. let n = w.stays b t h m in omega (arith, least r v _ _ n, v.ranked _ _ n);
  }

  -- by induction on the rival's rank
  least_below : Layered a rank choice 65535 65535 → (r : Plan) → Rival a r → (n s p : ℕ) → r.rank s p < n → Kept r s p → rank s p ≤ r.rank s p
  least_below l r v zero s p h k = omega arith
  least_below l r v (suc n) s p h k = elim (cases_Bool (a.goal s)) [
    | inl g ↦ omega (arith, l.grown.targets r v s p k g)
    | inr g ↦ let w = v.serves s p k in let i = v.inside s p k in
        let pos : 0 < r.rank s p = elim (cases_lt 0 (r.rank s p)) [ inl y ↦ y | inr z ↦ absurd (both_ways (a.goal s) g (v.goals_at_zero s p k (omega arith))) ] in
        l.full (r.rank s p) s p pos (omega (arith, v.ranked s p k)) (r.choice s p)
        (record { state = i.0; phase = i.1; no_goal = g; safe = v.safe s p k })
        (record {
          promised = w.promised;
          goes = w.goes;
          below = λ b t hb m. let f = w.falls b t hb m g in
              omega (arith, least_below l r v n t (a.follow p (r.choice s p) b) (omega arith) (w.stays b t hb m));
        })
  ]

  -- an attractor of every goal that a rival keeps betters every rival
  pub layered_least : Layered a rank choice 65535 65535 → Least a rank
  layered_least l r v s p k = least_below l r v (suc (r.rank s p)) s p (omega arith) k

  -- a position that does not join is full
  pub full_else : (d s p : ℕ) → Layered a rank choice (d + 1) d → (rank s p ≡ 65535 → Open a s p → (x : ℕ) → Leads a rank s p x d → ⊥) → Full a rank d s p
  full_else d s p l never x o y = elim (cases_lt (rank s p) 65535) [
    | inl h ↦ omega (arith, l.low s p h)
    | inr h ↦ absurd (never (omega (arith, (l.grown.shaped s p).capped)) o x y)
  ]

  pub layer_done : (top d : ℕ) → Layered a rank choice top d → ((s p : ℕ) → s < a.states → p < a.phases → Full a rank d s p) → Layered a rank choice top (d + 1)
  layer_done top d l f = record {
    grown = l.grown;
    low = l.low;
    full = λ e s p z h x o. elim (cases_lt e d) [
      | inl lt ↦ l.full e s p z lt x o
      | inr ge ↦ let eq : d ≡ e = omega arith in rw eq at (f s p o.state o.phase x o)
    ];
  }

  -- where a layer adds nothing, no later one would
  pub layer_stops : (d : ℕ) → 0 < d → d < 65535 → Layered a rank choice d (d + 1) → Layered a rank choice 65535 65535
  layer_stops d z few l = record {
    grown = l.grown;
    low = λ s p h. h;
    full = λ e s p ze h x o y. elim (cases_lt e d) [
      | inl lt ↦ l.full e s p ze (omega arith) x o y
      | inr ge ↦ omega (arith, l.full d s p z (omega arith) x o (leads_on a rank rank s p x e d (λ t q i. l.low t q (omega arith)) y))
    ];
  }

  -- once each of its goals leads on too, the ranks are stable
  pub layered_stable : Layered a rank choice 65535 65535 → (chosen : ℕ → ℕ → ℕ) → ((s p : ℕ) → (rank s p ≡ 0 → ⊥) → chosen s p ≡ choice s p) → ((s p : ℕ) → rank s p ≡ 0 → Lowest a rank s p 65535 (chosen s p)) → Stable a rank chosen
  layered_stable l chosen same on = record {
    shaped = λ s p. let y = l.grown.shaped s p in record {
      capped = y.capped;
      inside = y.inside;
      safe = y.safe;
      zero_at_goals = y.zero_at_goals;
      goals_at_zero = y.goals_at_zero;
      absent = λ e. same s p (λ z. omega arith) ∙ y.absent e;
    };
    led = λ s p h. elim (cases_Bool (a.goal s)) [
      | inl g ↦ rw g (on s p ((l.grown.shaped s p).zero_at_goals h g))
      | inr g ↦ rw g (rw (same s p (λ z. both_ways _ g ((l.grown.shaped s p).goals_at_zero z))) (l.grown.led s p h g))
    ];
    least = layered_least l;
  }

-- what holds of each old rank and choice, and of the new ones, holds of each after a write
pub written_all : (a : Arena) (old new : Ranking) (s p n x : ℕ) → Written a old new s p n x → (F : ℕ → ℕ → ℕ → ℕ → Type 0) → F s p n x
    → ((t q : ℕ) → F t q (ranks_in a old t q) (choices_in a old t q)) → (t q : ℕ) → F t q (ranks_in a new t q) (choices_in a new t q)
written_all a old new s p n x w F here there t q = elim (w.there t q) [
  | inl e ↦ rw (e.0, e.1) (there t q)
  | inr e ↦ rw (e.0, e.1, w.rank, w.choice) here
]

module _ (a : Arena) (old new : Ranking) (d s p x : ℕ) (free : Open a s p) (fresh : ranks_in a old s p ≡ 65535) (by : Lowest a (ranks_in a old) s p d x)
    (w : Written a old new s p d x) (pos : 0 < d) (few : d < 65535) where
  falls : (e t q : ℕ) → ranks_in a old t q < e → ranks_in a new t q < e
  falls e = written_all a old new s p d x w (λ t q n y. ranks_in a old t q < e → n < e) (λ h. omega (arith, fresh)) (λ t q h. h)

  back : (e : ℕ) → e ≤ d → (t q : ℕ) → ranks_in a new t q < e → ranks_in a old t q < e
  back e le = written_all a old new s p d x w (λ t q n y. n < e → ranks_in a old t q < e) (λ h. omega arith) (λ t q h. h)

  lowest_join : (e t q y : ℕ) → e ≤ d → Lowest a (ranks_in a old) t q e y → Lowest a (ranks_in a new) t q e y
  lowest_join e t q y le l = record {
    leads = leads_on a (ranks_in a old) (ranks_in a new) t q y e e (falls e) l.leads;
    least = λ z m. l.least z (leads_on a (ranks_in a new) (ranks_in a old) t q z e e (back e le) m);
  }

  pub full_join : (e t q : ℕ) → e ≤ d → Full a (ranks_in a old) e t q → Full a (ranks_in a new) e t q
  full_join e t q le f y o l = omega (arith, falls (suc e) t q (omega (arith, f y o (leads_on a (ranks_in a new) (ranks_in a old) t q y e e (back e le) l))))

  pub join : Layered a (ranks_in a old) (choices_in a old) (d + 1) d → Layered a (ranks_in a new) (choices_in a new) (d + 1) d
  join l = record {
    grown = record {
      shaped = written_all a old new s p d x w (Shape a) (record {
        capped = omega arith;
        inside = λ _. (free.state, free.phase);
        safe = λ _. free.safe;
        zero_at_goals = λ _ g. absurd (both_ways _ free.no_goal g);
        goals_at_zero = λ z. absurd (omega arith);
        absent = λ e. absurd (omega arith);
      }) l.grown.shaped;
      led = written_all a old new s p d x w (λ t q n y. n < 65535 → a.goal t ≡ false → Lowest a (ranks_in a new) t q n y)
          (λ _ _. lowest_join d s p x (omega arith) by)
          (λ t q h g. lowest_join (ranks_in a old t q) t q (choices_in a old t q) (omega (arith, l.low t q h)) (l.grown.led t q h g));
      targets = λ r v. written_all a old new s p d x w (λ t q n y. Kept r t q → a.goal t ≡ true → n ≡ 0)
          (λ k g. absurd (both_ways _ free.no_goal g)) (l.grown.targets r v);
    };
    low = written_all a old new s p d x w (λ t q n y. n < 65535 → n < d + 1) (λ _. omega arith) l.low;
    full = λ e t q z h. full_join e t q (omega arith) (l.full e t q z h);
  }

-- no rank and no choice are in shape anywhere
pub shape_none : (a : Arena) (s p : ℕ) → Shape a s p 65535 255
shape_none a s p = record {
  capped = omega arith;
  inside = λ h. absurd (omega arith);
  safe = λ h. absurd (omega arith);
  zero_at_goals = λ h. absurd (omega arith);
  goals_at_zero = λ z. absurd (omega arith);
  absent = λ _. refl;
}

-- a position with no rank, at which no rival keeps a goal
pub fresh_none : (a : Arena) (s p : ℕ) → ((r : Plan) → Rival a r → Kept r s p → a.goal s ≡ true → ⊥) → Fresh a s p 65535 255
fresh_none a s p never = record { shape = shape_none a s p; zero = λ h. absurd (omega arith); target = λ r v k g. absurd (never r v k g) }

pub fresh_zero : (a : Arena) (s p n x : ℕ) → n ≡ 0 → s < a.states → p < a.phases → a.goal s ≡ true → a.forbidden s ≡ false → Fresh a s p n x
fresh_zero a s p n x e hs hp g f = record {
  shape = record { capped = omega arith; inside = λ _. (hs, hp); safe = λ _. f; zero_at_goals = λ _ _. e; goals_at_zero = λ _. g; absent = λ h. absurd (omega arith) };
  zero = λ _. e;
  target = λ r v k y. e;
}

pub fresh_layers : (a : Arena) (rank choice : ℕ → ℕ → ℕ) → ((s p : ℕ) → Fresh a s p (rank s p) (choice s p)) → Layered a rank choice 1 1
fresh_layers a rank choice f = record {
  grown = record {
    shaped = λ s p. (f s p).shape;
    led = λ s p h g. absurd (both_ways _ g ((f s p).shape.goals_at_zero ((f s p).zero h)));
    targets = λ r v s p. (f s p).target r v;
  };
  low = λ s p h. omega (arith, (f s p).zero h);
  full = λ e s p z h. absurd (omega arith);
}
