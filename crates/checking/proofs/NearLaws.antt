-- Only positions near the layer before join a layer: what has no move into that layer is led nowhere that it was not led before.
use Rattle.std.proofs.Common.{◌≡◌, ℕ, ◌+◌, ◌-◌, ◌<◌, ◌≤◌, true, false, not, ◌&&◌, ◌||◌, ◌⊎◌, eqb, List, length, get_or, set, replicate, refl, sym, ap, ◌∙◌, inl, inr, arith, get_or-set_other, get_or-set_same}
use Rattle.std.proofs.lemmas.List.{get_or-replicate}
use Rattle.std.proofs.lemmas.Bool.{cases_lt, cases_eq, cases_Bool, both_ways, ltb-true, lt-ltb, le-ltb, and_from, not_from_false, or_left, or_right, eq-eqb}
use Rattle.checking.specs.declared.state_set.StateSet.{StateSet}
use Rattle.checking.specs.declared.ranking.Ranking.{Ranking}
use Rattle.checking.specs.StateSets.{member, nothing}
use Rattle.checking.specs.Arenas.{Arena}
use Rattle.checking.specs.Solving.{Leads, Tracks, Attracted, Bounded, ranks_in, Layering, Barred, After, Near, Entered, Quiet}
use Rattle.checking.proofs.SourceLaws.{no_member}
use Rattle.checking.proofs.PlaceLaws.{before_turn}
use Rattle.checking.proofs.AttractorLaws.{leads_into, full_else}

module _ (a : Arena) (b : Bounded a) (z : Ranking) (earlier sources : List StateSet) (d p : ℕ) (near : StateSet) (pos : 0 < d) (few : d < 65535)
    (now : Attracted a z d) (old : Tracks a earlier (ranks_in a z) (d - 1)) (entered : Entered a earlier z.ranked sources) (n : Near a sources p near) where
  pub quiet : Quiet a z.ranked p near
  quiet s far out o x l = elim (cases_lt 0 (d - 1)) [
    | inl q ↦ absurd (omega (arith, now.layers.full (d - 1) s p q (omega arith) x o lead, unranked))
    | inr q ↦ both_ways _ far (n.idle (λ v h. (let g = l.goes v h in absurd (omega (arith, lead.below v g.0 h g.1, q)))) s o.state)
  ]
    where
      unranked : 65535 ≤ ranks_in a z s p
      unranked = elim (cases_lt (ranks_in a z s p) 65535) [
        | inl h ↦ absurd (both_ways _ out (now.tracks s p o.phase ∙ lt-ltb _ d (now.layers.low s p h)))
        | inr h ↦ h
      ]

      lead : Leads a (ranks_in a z) s p x (d - 1)
      lead = record {
        promised = l.promised;
        goes = l.goes;
        below = λ v t h m. elim (cases_Bool (member (get_or earlier (a.follow p x v) nothing) t)) [
          | inl e ↦ ltb-true _ (d - 1) (sym (old t (a.follow p x v) (b.follows p x v)) ∙ e)
          | inr e ↦ absurd (both_ways _ far (n.sourced s x v l.promised h (entered s x v t (a.follow p x v) (b.follows p x v) m (l.into v t h m) e)))
        ];
      }

module _ (a : Arena) (b : Bounded a) (z : Ranking) (next : List StateSet) (d p s : ℕ) (i : Layering a z next d p s) (near : StateSet) (few : d < 65535) (q : Quiet a z.ranked p near) where
  barred : (t : ℕ) → member near t ≡ false → Barred a z t p
  barred t far fresh o x l = q t far (i.present t p o.phase ∙ le-ltb _ d (omega (arith, fresh))) o x l

  -- past states that are not near
  pub layering_jump : (u : ℕ) → ((t : ℕ) → s ≤ t → t < u → member near t ≡ false) → Layering a z next d p u
  layering_jump u far = record {
    layered = i.layered;
    done = λ t r ht h. elim h [
      | inl l ↦ i.done t r ht (inl l)
      | inr e ↦ elim (cases_lt t s) [
        | inl l ↦ i.done t r ht (inr (e.0, l))
        | inr l ↦ rw e.0 (full_else a _ _ d t p i.layered (λ fresh o x k. barred t (far t l e.1) fresh o x (leads_into a z.ranked (ranks_in a z) d b i.present t p x k)))
      ]
    ];
    present = i.present;
    coming = i.coming;
    eight = i.eight;
  }

pub layering_turn : (a : Arena) (z : Ranking) (next : List StateSet) (d p s : ℕ) → a.states ≤ s → Layering a z next d p s → Layering a z next d (p + 1) 0
layering_turn a z next d p s end i = record {
  layered = i.layered;
  done = before_turn a _ p s end i.done;
  present = i.present;
  coming = i.coming;
  eight = i.eight;
}

-- no rank is below 0
pub tracks_none : (a : Arena) → Bounded a → (z : StateSet) → z ≡ nothing → (rank : ℕ → ℕ → ℕ) → Tracks a (replicate 8 z) rank 0
tracks_none a b z e rank t q hq = ap (λ x. member x t) (get_or-replicate 8 q z nothing (omega (arith, hq, b.few_phases)) ∙ e) ∙ no_member t ∙ sym (le-ltb (rank t q) 0 (omega arith))

-- the sources of the phases below k
abbrev pub EnteredBelow : Arena → List StateSet → List StateSet → List StateSet → ℕ → Type 0
EnteredBelow a earlier sets sources k = (s x b t q : ℕ) → q < k → a.move s x b t ≡ true → member (get_or sets q nothing) t ≡ true
    → member (get_or earlier q nothing) t ≡ false → member (get_or sources q nothing) s ≡ true

module _ (a : Arena) (earlier sets sources : List StateSet) (k : ℕ) (w : EnteredBelow a earlier sets sources k) (long : k < length sources) where
  pub entered_next : (fresh all : StateSet) → ((t : ℕ) → member fresh t ≡ (member (get_or sets k nothing) t && not (member (get_or earlier k nothing) t)))
      → ((s x b t : ℕ) → a.move s x b t ≡ true → member fresh t ≡ true → member all s ≡ true) → EnteredBelow a earlier sets (set sources k all) (k + 1)
  entered_next fresh all new from s x b t q l m e f = elim (cases_eq q k) [
    | inl h ↦ ap (λ i. member (get_or (set sources k all) i nothing) s) h ∙ ap (λ y. member y s) (rw get_or-set_same refl)
        ∙ from s x b t m (new t ∙ and_from _ _ (ap (λ i. member (get_or sets i nothing) t) (sym h) ∙ e) (not_from_false _ (ap (λ i. member (get_or earlier i nothing) t) (sym h) ∙ f)))
    | inr n ↦ ap (λ y. member y s) (rw get_or-set_other refl) ∙ w s x b t q (omega (arith, n)) m e f
  ]

-- the phases after those pairs of signals that come before own signal x and partner signal b
abbrev pub AfterBefore : Arena → ℕ → StateSet → ℕ → ℕ → Type 0
AfterBefore a p after x b = (y v : ℕ) → v < 4 → (y < x) ⊎ ((y ≡ x) × (v < b)) → a.promised p y ≡ true → a.relied p v ≡ true → member after (a.follow p y v) ≡ true

module _ (a : Arena) (p : ℕ) (after : StateSet) (x b : ℕ) (w : AfterBefore a p after x b) where
  pub after_skip : (a.promised p x ≡ true → a.relied p b ≡ true → ⊥) → AfterBefore a p after x (b + 1)
  after_skip never y v l h hy hv = elim h [
    | inl k ↦ w y v l (inl k) hy hv
    | inr k ↦ elim (cases_lt v b) [
      | inl m ↦ w y v l (inr (k.0, m)) hy hv
      | inr m ↦ (let q : v ≡ b = omega (arith, k.1) in absurd (never (rw k.0 at hy) (rw q at hv)))
    ]
  ]

  pub after_add : (new : StateSet) (q : ℕ) → q ≡ a.follow p x b → ((t : ℕ) → member new t ≡ (eqb t q || member after t)) → AfterBefore a p new x (b + 1)
  after_add new q f put y v l h hy hv = put (a.follow p y v) ∙ (elim h [
    | inl k ↦ or_right _ _ (w y v l (inl k) hy hv)
    | inr k ↦ elim (cases_lt v b) [
      | inl m ↦ or_right _ _ (w y v l (inr (k.0, m)) hy hv)
      | inr m ↦ (let i : v ≡ b = omega (arith, k.1) in or_left _ (member after (a.follow p y v)) (eq-eqb _ _ (ap (a.follow p y) i ∙ ap (λ j. a.follow p j b) k.0 ∙ sym f)))
    ]
  ])

  pub after_turn : 4 ≤ b → AfterBefore a p after (x + 1) 0
  after_turn end y v l h = elim h [
    | inl k ↦ elim (cases_lt y x) [ inl m ↦ w y v l (inl m) | inr m ↦ w y v l (inr (omega arith, omega arith)) ]
    | inr k ↦ absurd (omega (arith, k.1))
  ]

pub after_done : (a : Arena) → Bounded a → (p : ℕ) (after : StateSet) (x : ℕ) → 4 ≤ x → AfterBefore a p after x 0 → After a p after
after_done a b p after x end w y v hy hv = w y v (b.relies p v hv) (inl (omega (arith, b.promises p y hy))) hy hv

-- the same for each phase below k
abbrev pub TurnsBelow : Arena → List StateSet → ℕ → Type 0
TurnsBelow a turns k = (p : ℕ) → p < k → After a p (get_or turns p nothing)

pub turns_next : (a : Arena) (turns : List StateSet) (k : ℕ) → TurnsBelow a turns k → k < length turns → (after : StateSet) → After a k after → TurnsBelow a (set turns k after) (k + 1)
turns_next a turns k w long after here p l x b hx hb = elim (cases_eq p k) [
  | inl q ↦ ap (λ i. member (get_or (set turns k after) i nothing) (a.follow p x b)) q ∙ ap (λ y. member y (a.follow p x b)) (rw get_or-set_same refl)
      ∙ ap (λ i. member after (a.follow i x b)) q ∙ here x b (rw q at hx) (rw q at hb)
  | inr n ↦ ap (λ y. member y (a.follow p x b)) (rw get_or-set_other refl) ∙ w p (omega (arith, n)) x b hx hb
]

pub near_some : (a : Arena) (sources : List StateSet) (p : ℕ) (after near : StateSet) → After a p after → (b : ℕ) × (a.relied p b ≡ true)
    → ((t s : ℕ) → member after t ≡ true → member (get_or sources t nothing) s ≡ true → member near s ≡ true) → Near a sources p near
near_some a sources p after near w some all = record {
  idle = λ never. absurd (never some.0 some.1);
  sourced = λ s y v hy hv e. all (a.follow p y v) s (w y v hy hv) e;
}

pub near_all : (a : Arena) (sources : List StateSet) (p : ℕ) (near : StateSet) → ((b : ℕ) → a.relied p b ≡ true → ⊥) → ((s : ℕ) → s < a.states → member near s ≡ true) → Near a sources p near
near_all a sources p near never all = record { idle = λ _ s. all s; sourced = λ s y v hy hv e. absurd (never v hv) }
