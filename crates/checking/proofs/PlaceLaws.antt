-- What a list holds of each position, and what a write changes.
use Rattle.std.proofs.Common.{◌≡◌, ℕ, ◌+◌, ◌*◌, ◌<◌, ◌≤◌, cond, eqb, ◌⊎◌, List, length, get_or, set, vec_items, count_by, sym, ap, ◌∙◌, inl, inr, arith, get_or-set_other, get_or-set_same}
use Rattle.std.proofs.lemmas.List.Sums.{sum_by-set}
use Rattle.std.proofs.lemmas.Bool.{cases_lt, cases_eq, lt-ltb, le-ltb, eq-eqb, ne_eqb}
use Rattle.checking.specs.declared.ranking.Entry.{Entry}
use Rattle.checking.specs.declared.ranking.Ranking.{Ranking}
use Rattle.checking.specs.Arenas.{Arena}
use Rattle.checking.specs.Solving.{absent, held, Bounded, Before, Written, ranks_in, zeros}

pub held_in : (a : Arena) (l : List Entry) (s p : ℕ) → s < a.states → p < a.phases → held a l s p ≡ get_or l (s * 8 + p) absent
unfolding held
held_in a l s p hs hp = rw (lt-ltb s a.states hs, lt-ltb p a.phases hp)

pub held_or : (a : Arena) (s p : ℕ) → (((s < a.states) × (p < a.phases) → ⊥) × ((l : List Entry) → held a l s p ≡ absent)) ⊎ ((s < a.states) × (p < a.phases))
unfolding held
held_or a s p = elim (cases_lt s a.states) [
  | inr h ↦ inl (λ i. omega (arith, i.0), λ l. rw (le-ltb s a.states h))
  | inl hs ↦ elim (cases_lt p a.phases) [
    | inl hp ↦ inr (hs, hp)
    | inr h ↦ inl (λ i. omega (arith, i.1), λ l. rw (lt-ltb s a.states hs, le-ltb p a.phases h))
  ]
]

module _ (a : Arena) (F : ℕ → ℕ → Type 0) where
  pub before_none : Before a 0 0 F
  before_none t q ht h = elim h [ inl l ↦ absurd (omega arith) | inr e ↦ absurd (omega (arith, e.1)) ]

  pub before_next : (p s : ℕ) → Before a p s F → F s p → Before a p (s + 1) F
  before_next p s all here t q ht h = elim h [
    | inl l ↦ all t q ht (inl l)
    | inr e ↦ elim (cases_lt t s) [
      | inl l ↦ all t q ht (inr (e.0, l))
      | inr l ↦ let y : t ≡ s = omega (arith, e.1) in rw (y, e.0) here
    ]
  ]

  pub before_turn : (p s : ℕ) → a.states ≤ s → Before a p s F → Before a (p + 1) 0 F
  before_turn p s end all t q ht h = elim h [
    | inl l ↦ elim (cases_lt q p) [ inl m ↦ all t q ht (inl m) | inr m ↦ all t q ht (inr (omega arith, omega arith)) ]
    | inr e ↦ absurd (omega (arith, e.1))
  ]

  pub before_all : (p : ℕ) → a.phases ≤ p → Before a p 0 F → (t q : ℕ) → t < a.states → q < a.phases → F t q
  before_all p end all t q ht hq = all t q ht (inl (omega arith))

module _ (a : Arena) (b : Bounded a) (s p : ℕ) (hs : s < a.states) (hp : p < a.phases) where
  -- one position stands at a place
  same : (t q : ℕ) → q < a.phases → t * 8 + q ≡ s * 8 + p → (t ≡ s) × (q ≡ p)
  same t q hq e = let f = b.few_phases in (omega arith, omega arith)

  inside : (z : Ranking) → s * 8 + p < length (vec_items z.entries)
  inside z = omega (arith, b.few_phases, b.few_states, z.entries.ok.0, z.many)

  pub rank_here : (z : Ranking) → ranks_in a z s p ≡ (get_or (vec_items z.entries) (s * 8 + p) absent).rank
  rank_here z = ap (λ e. e.rank) (held_in a (vec_items z.entries) s p hs hp)

  -- an entry that was read
  pub rank_read : (z : Ranking) (e : Entry) → e ≡ get_or (vec_items z.entries) (s * 8 + p) absent → ranks_in a z s p ≡ e.rank
  rank_read z e r = rank_here z ∙ ap (λ y. y.rank) (sym r)

  module _ (old new : Ranking) (v : Entry) (e : vec_items new.entries ≡ set (vec_items old.entries) (s * 8 + p) v) where
    set_here : held a (vec_items new.entries) s p ≡ v
    set_here = let lt = inside old in held_in a (vec_items new.entries) s p hs hp ∙ ap (λ l. get_or l (s * 8 + p) absent) e ∙ rw get_or-set_same

    set_there : (t q : ℕ) → (held a (vec_items new.entries) t q ≡ held a (vec_items old.entries) t q) ⊎ ((t ≡ s) × (q ≡ p))
    set_there t q = elim (held_or a t q) [
      | inl o ↦ inl (o.1 (vec_items new.entries) ∙ sym (o.1 (vec_items old.entries)))
      | inr i ↦ elim (cases_eq (t * 8 + q) (s * 8 + p)) [
        | inl n ↦ inr (same t q i.1 n)
        | inr n ↦ inl (held_in a (vec_items new.entries) t q i.0 i.1 ∙ ap (λ l. get_or l (t * 8 + q) absent) e ∙ (rw get_or-set_other (sym (held_in a (vec_items old.entries) t q i.0 i.1))))
      ]
    ]

    pub written : Written a old new s p v.rank v.choice
    written = record {
      rank = ap (λ y. y.rank) set_here;
      choice = ap (λ y. y.choice) set_here;
      there = λ t q. elim (set_there t q) [
        | inl h ↦ inl (ap (λ y. y.rank) h, ap (λ y. y.choice) h)
        | inr h ↦ inr h
      ];
    }

    -- zeros before and after a write
    counted : zeros new + cond (eqb (ranks_in a old s p) 0) 1 0 ≡ zeros old + cond (eqb v.rank 0) 1 0
    counted =
        let w = sum_by-set (λ (x : Entry). cond (eqb x.rank 0) 1 0) (vec_items old.entries) (s * 8 + p) v absent (inside old) in
        ap (λ k. count_by (λ (x : Entry). eqb x.rank 0) k + cond (eqb (ranks_in a old s p) 0) 1 0) e
        ∙ ap (λ k. count_by (λ (x : Entry). eqb x.rank 0) (set (vec_items old.entries) (s * 8 + p) v) + cond (eqb k 0) 1 0) (rank_here old) ∙ (omega (arith, w))

    one : (x : ℕ) → x ≡ 0 → ◌≡◌ {A = ℕ} (cond (eqb x 0) 1 0) 1
    one x h = rw (eq-eqb x 0 h)

    none : (x : ℕ) → 0 < x → ◌≡◌ {A = ℕ} (cond (eqb x 0) 1 0) 0
    none x h = rw (ne_eqb x 0 (λ q. omega arith))

    pub zeros_same : 0 < v.rank → 0 < ranks_in a old s p → zeros new ≡ zeros old
    zeros_same h k = omega (arith, counted, none v.rank h, none (ranks_in a old s p) k)

    pub zeros_kept : v.rank ≡ 0 → ranks_in a old s p ≡ 0 → zeros new ≡ zeros old
    zeros_kept h k = omega (arith, counted, one v.rank h, one (ranks_in a old s p) k)

    pub zeros_fall : 0 < v.rank → ranks_in a old s p ≡ 0 → zeros new < zeros old
    zeros_fall h k = omega (arith, counted, none v.rank h, one (ranks_in a old s p) k)

    pub zeros_few : 0 < v.rank → zeros new ≤ zeros old
    zeros_few h = omega (arith, counted, none v.rank h)
